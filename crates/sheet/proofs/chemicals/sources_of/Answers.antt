-- The sources of the chemicals one after another. Assumes nothing.
use borrow.Author.Rules.{rules}
use mathlib.Core.Path.{◌≡◌, refl, ◌∙◌}
use Prim.Native.Nat.{◌+◌, ◌<◌}
use native.Mathlib.Omega.{arith}
use lib.ListN.{length, get_or}
use Rattle.std.specs.Prelude.{Some, None, Err}
use Rattle.sizes.specs.Sizes.{max_chemicals}
use Rattle.cases.specs.Conditions.{first}
use Rattle.lists.specs.Lists.{chained}
use Rattle.cases.specs.Cases.{no_record}
use Rattle.lists.proofs.Tabulated.{filled_start, filled_more}
use Rattle.sheet.specs.Inner.{no_source, source_of, sources_of, SourcesTold}
use Rattle.sheet.proofs.ChemicalLaws.{source_is, goes_on, stops}
use Rattle.sheet.proofs.chemicals.sources_of.Goals as goal

pub loop-i-init : goal.loop-i-init
unfolding chained first
loop-i-init c =
    let a = c.args in
    (c.requires.2 ∙ filled_start (λ k. source_of a.site a.receptors.now (get_or a.chemicals.now.records k no_record)) no_source max_chemicals, refl)

pub returns-in_err-list : goal.returns-in_err-list
unfolding SourcesTold
returns-in_err-list c =
    let a = c.args in
    let l = c.loop-i in
    let long : length a.chemicals.now.records ≡ max_chemicals = omega arith in
    let here : l.i < length a.chemicals.now.records = omega (arith, long) in
    let none : c.source_of.result ≡ None = search rules in
    let e : c.from_residual.result ≡ Err (l.i + 1) = search rules in
    rw e (stops a.site a.receptors.now a.chemicals.now.records _ l.i here _ c.source_of.ensures l.invariant.1 none a.chemicals.now.count c.loop-i-test.true)

pub loop-i-preserved : goal.loop-i-preserved
loop-i-preserved c =
    let a = c.args in
    let l = c.loop-i in
    let long : length a.chemicals.now.records ≡ max_chemicals = omega arith in
    let here : l.i < length a.chemicals.now.records = omega (arith, long) in
    let some : c.source_of.result ≡ Some c.in_ok-list.field-0 = search rules in (
      filled_more (λ k. source_of a.site a.receptors.now (get_or a.chemicals.now.records k no_record)) no_source max_chemicals l.i (omega (arith, long)) l.list l.invariant.0 _
          (source_is a.site a.receptors.now a.chemicals.now.records _ l.i here _ c.source_of.ensures _ some),
      goes_on a.site a.receptors.now a.chemicals.now.records _ l.i here _ c.source_of.ensures l.invariant.1 _ some,
    )

pub returns : goal.returns
unfolding sources_of SourcesTold
returns c =
    let l = c.loop-i in
    let all : l.i ≡ c.args.chemicals.now.count = omega arith in
    (rw all at l.invariant.1, rw all at l.invariant.0)
