-- No chemical so far stops. Assumes nothing.
use mathlib.Core.List.{List}
use mathlib.Core.Path.{◌≡◌, refl, sym, ap, ◌∙◌}
use Prim.Native.Nat.{ℕ}
use native.Mathlib.Omega.{arith}
use lib.ListN.{length, get_or}
use Rattle.std.proofs.lemmas.Result.{err_from_is_err_and}
use Rattle.lists.specs.Lists.{chained}
use Rattle.lists.proofs.ListLaws.{read_any}
use Rattle.slots.specs.declared.Owner.TheVariants.{Chemical}
use Rattle.slots.specs.declared.Sort.TheVariants.{Ordinary}
use Rattle.cases.specs.Cases.{no_record}
use Rattle.cases.specs.Conditions.{Condition, first, verdict_of}
use Rattle.cases.specs.CaseConditions.{record_conditions}
use Rattle.cases.specs.declared.Record.{Record}
use Rattle.cases.proofs.FirstMet.{accepts_on, refuses}
use Rattle.cases.proofs.memory.chemicals_verdict.Goals as goal

pub loop-chemical-init : goal.loop-chemical-init
unfolding chained first
loop-chemical-init c = refl

pub returns-in_err-record_verdict : goal.returns-in_err-record_verdict
returns-in_err-record_verdict c =
    let f : ℕ → List Condition = λ n. record_conditions Ordinary Chemical (get_or c.args.chemicals.now n no_record) in
    let turn = c.record_verdict.ensures ∙ ap (λ (r : Record). verdict_of (first (record_conditions Ordinary Chemical r))) (read_any c.args.chemicals.now c.loop-chemical.chemical-index (omega arith) _ no_record) in
    let p = err_from_is_err_and c.from_residual.result c.from_residual.ensures.1 in
    rw (p.1, p.2) (refuses f c.loop-chemical.chemical-index c.loop-chemical.invariant _ turn _ c.loop-chemical-test.true _ c.in_err-record_verdict.was)

pub loop-chemical-preserved : goal.loop-chemical-preserved
loop-chemical-preserved c =
    let f : ℕ → List Condition = λ n. record_conditions Ordinary Chemical (get_or c.args.chemicals.now n no_record) in
    let turn = c.record_verdict.ensures ∙ ap (λ (r : Record). verdict_of (first (record_conditions Ordinary Chemical r))) (read_any c.args.chemicals.now c.loop-chemical.chemical-index (omega arith) _ no_record) in
    accepts_on f c.loop-chemical.chemical-index c.loop-chemical.invariant _ turn c.in_ok-record_verdict.was

pub returns : goal.returns
unfolding verdict_of
returns c =
    let all : c.loop-chemical.chemical-index ≡ length c.args.chemicals.now = omega arith in
    sym (ap verdict_of (rw all at c.loop-chemical.invariant))
