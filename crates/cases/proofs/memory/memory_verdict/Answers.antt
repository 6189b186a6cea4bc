-- Each part of the list in turn. Assumes nothing.
use native.Mathlib.Omega.{arith}
use mathlib.Core.Path.{ap, sym, ◌∙◌}
use Prim.Native.Nat.{◌≤◌}
use lib.ListN.{length}
use Rattle.std.proofs.lemmas.Result.{err_from_is_err_and}
use Rattle.cases.specs.Conditions.{first, verdict_of}
use Rattle.cases.specs.CaseConditions.{some_id_wrong}
use Rattle.cases.proofs.CaseConditionLaws.{counts_inside, counts_stop, ids_stop, taken_conditions, site_refuses, site_accepts}
use Rattle.cases.proofs.memory.memory_verdict.Goals as goal

pub returns-then-counts_outside : goal.returns-then-counts_outside
unfolding verdict_of
returns-then-counts_outside c = ap verdict_of (counts_stop _ _ _ _ (sym c.counts_outside.ensures ∙ c.if-counts_outside.true))

pub some_id_wrong-requires : goal.some_id_wrong-requires
some_id_wrong-requires c =
    let t = counts_inside _ _ _ (sym c.counts_outside.ensures ∙ c.if-counts_outside.false) in
    (t.1, t.4)

pub returns-then-some_id_wrong : goal.returns-then-some_id_wrong
unfolding some_id_wrong verdict_of
returns-then-some_id_wrong c = ap verdict_of (ids_stop _ _ _ _ (sym c.counts_outside.ensures ∙ c.if-counts_outside.false) (sym c.some_id_wrong.ensures ∙ c.if-some_id_wrong.true))

pub returns-in_err-record_verdict : goal.returns-in_err-record_verdict
unfolding some_id_wrong
returns-in_err-record_verdict c =
    let p = err_from_is_err_and c.from_residual.result c.from_residual.ensures.1 in
    rw (p.1, p.2)
    (site_refuses _ _ _ _ (sym c.counts_outside.ensures ∙ c.if-counts_outside.false) (sym c.some_id_wrong.ensures ∙ c.if-some_id_wrong.false) _ c.record_verdict.ensures _ c.in_err-record_verdict.was)

pub shared_ref_as_front-chemicals_verdict : goal.shared_ref_as_front-chemicals_verdict
shared_ref_as_front-chemicals_verdict c = (counts_inside _ _ _ (sym c.counts_outside.ensures ∙ c.if-counts_outside.false)).1

pub returns : goal.returns
unfolding some_id_wrong
returns c =
    let few = (counts_inside _ _ _ (sym c.counts_outside.ensures ∙ c.if-counts_outside.false)).1 in
    let fits : c.args.chemicals.now.count ≤ length c.args.chemicals.now.records = omega (arith, few) in
    site_accepts _ _ _ _ (sym c.counts_outside.ensures ∙ c.if-counts_outside.false) (sym c.some_id_wrong.ensures ∙ c.if-some_id_wrong.false) _ c.record_verdict.ensures c.in_ok-record_verdict.was _
    (c.chemicals_verdict.ensures ∙ ap (λ cs. verdict_of (first cs)) (taken_conditions c.args.chemicals.now fits))
