-- `deck::records::Fields::records_at` meets its contract. The invariant: the records so far, then empty ones.
-- Assumes nothing.
use Rattle.sizes.specs.Sizes.{record_lines}
use mathlib.Core.Path.{◌≡◌}
use Prim.Native.Nat.{◌-◌, ◌+◌, ◌*◌}
use mathlib.Core.List.{◌++◌}
use lib.ListN.{replicate}
use Rattle.lists.specs.Lists.{tabulate}
use Rattle.deck.specs.DeckCase.{record_of}
use Rattle.cases.specs.Cases.{no_record}
use Rattle.deck.proofs.records.Fields.records_at.Given as goal

abbrev pub invariant-loop-i : goal.invariant-loop-i
invariant-loop-i g l =
    l.records ≡ tabulate l.i (λ j. record_of l.self.deck.now (l.n + record_lines * j) record_lines) ++ replicate (g.row.N - l.i) no_record
