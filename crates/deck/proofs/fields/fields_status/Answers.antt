-- `deck::fields::fields_status` meets its contract. The invariant: no condition of the fields passed holds, and their values are kept.
-- Assumes nothing.
use Prim.Native.Nat.{ℕ, ◌+◌}
use native.Mathlib.Omega.{arith}
use mathlib.Core.Path.{◌≡◌, refl, sym, ap, ◌∙◌, subst}
use lib.ListN.{length-set}
use Rattle.std.specs.Prelude.{Err}
use Rattle.std.proofs.lemmas.Result.{err_from_is_err_and}
use Rattle.sizes.specs.Sizes.{fields_per_line}
use Rattle.spelling.specs.Spelling.{word_of}
use Rattle.cases.specs.Conditions.{passed, first, up_to}
use Rattle.lists.specs.Lists.{tabulate, chained}
use Rattle.cases.proofs.FirstMet.{goes_on, stops, never}
use Rattle.deck.specs.DeckCase.{value_of}
use Rattle.deck.specs.Inner.{value_in}
use Rattle.deck.proofs.FieldLaws.{field_by, field_turn, fields_by}
use Rattle.deck.proofs.Kept.{fields_more, fields_all}
use Rattle.deck.proofs.fields.fields_status.Goals as goal

pub loop-f-init : goal.loop-f-init
unfolding first chained tabulate
loop-f-init c = record { none_holds = refl; as_long = refl; kept = refl }

pub returns-in_err-field_status : goal.returns-in_err-field_status
returns-in_err-field_status c =
    let a = c.args in
    let l = c.loop-f in
    let rules = c.rules-rules in
    let w = c.number-w.ensures.value ∙ ap word_of c.field_part.ensures in
    let turn = field_turn a.line.now.number l.f a.line.now.bytes.now _ rules.result _ _ (omega arith) w c.field_status.ensures in
    let p = err_from_is_err_and c.from_residual.result c.from_residual.ensures.1 in record {
      value = rw (p.1, p.2) (sym c.in_err-field_status.was ∙ stops (λ k. field_by rules.result a.line.now.bytes.now a.line.now.number (k + 1)) l.f l.invariant.none_holds _ turn fields_per_line c.loop-f-test.true _ c.in_err-field_status.was
          ∙ fields_by a.sort a.line.now.kind a.line.now.number a.line.now.bytes.now _ rules.ensures fields_per_line);
      values_after = λ q. absurd (never _ _ (p.1 ∙ ap Err p.2) q);
    }

pub loop-f-preserved : goal.loop-f-preserved
unfolding value_in
loop-f-preserved c =
    let a = c.args in
    let l = c.loop-f in
    let rules = c.rules-rules in
    let w = c.number-w.ensures.value ∙ ap word_of c.field_part.ensures in
    let turn = field_turn a.line.now.number l.f a.line.now.bytes.now _ rules.result _ _ (omega arith) w c.field_status.ensures in record {
      none_holds = goes_on (λ k. field_by rules.result a.line.now.bytes.now a.line.now.number (k + 1)) l.f l.invariant.none_holds _ turn c.in_ok-field_status.was;
      as_long = length-set l.values l.f _ ∙ l.invariant.as_long;
      kept = fields_more a.line.now.bytes.now l.values l.f _ (omega (arith, c.requires, l.invariant.as_long, c.loop-f-test.true)) (c.value_of.ensures ∙ ap value_of w) l.invariant.kept;
    }

pub returns : goal.returns
returns c =
    let a = c.args in
    let l = c.loop-f in
    let rules = c.rules-rules in
    let all : l.f ≡ fields_per_line = omega (arith, c.loop-f-test.false, l.auto.f-end) in record {
      value = sym (subst (λ (k : ℕ). first (up_to (field_by rules.result a.line.now.bytes.now a.line.now.number) k) ≡ passed) all l.invariant.none_holds)
          ∙ fields_by a.sort a.line.now.kind a.line.now.number a.line.now.bytes.now _ rules.ensures fields_per_line;
      values_after = λ q. fields_all a.line.now.bytes.now l.values l.f (l.invariant.as_long ∙ c.requires) all l.invariant.kept;
    }
