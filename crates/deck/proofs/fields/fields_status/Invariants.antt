-- `deck::fields::fields_status` meets its contract. The invariant: no condition of the fields passed holds, and their values are kept.
-- Assumes nothing.
use mathlib.Core.Path.{◌≡◌}
use lib.ListN.{length, take}
use Rattle.cases.specs.Conditions.{passed, first, up_to}
use Rattle.lists.specs.Lists.{tabulate}
use Rattle.deck.specs.Inner.{value_in}
use Rattle.deck.proofs.FieldLaws.{field_by}
use Rattle.deck.proofs.fields.fields_status.Given as goal

abbrev pub invariant-loop-f : goal.invariant-loop-f
invariant-loop-f l =
    record {
      none_holds : first (up_to (field_by l.rule-items l.line.bytes.now l.line.number) l.f) ≡ passed;
      as_long : length l.values ≡ length l.initial.values;
      kept : take l.f l.values ≡ tabulate l.f (value_in l.line.bytes.now);
    }
