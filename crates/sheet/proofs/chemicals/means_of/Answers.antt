-- The means of the receptors one after another. Assumes nothing.
use mathlib.Core.Path.{◌≡◌, refl, ap, ◌∙◌}
use mathlib.Core.Bool.{true}
use Prim.Native.Nat.{◌<◌}
use native.Mathlib.Omega.{arith}
use lib.ListN.{length, get_or, replicate}
use Rattle.std.specs.Prelude.{Some}
use Rattle.sizes.specs.Sizes.{most_receptors}
use Rattle.lists.specs.Lists.{any_of}
use Rattle.lists.proofs.Tabulated.{filled_start, filled_more}
use Rattle.pair.specs.Calls.{answer}
use Rattle.media.specs.Media.{no_media}
use Rattle.scenario.specs.Scenario.{is_refused, no_receptor}
use Rattle.sheet.specs.Counts.{mean_with}
use Rattle.sheet.specs.Inner.{media_from, means_of}
use Rattle.sheet.proofs.ChemicalLaws.{mean_at_lem, mean_on, mean_stops}
use Rattle.sheet.proofs.chemicals.means_of.Goals as goal

pub loop-j-init : goal.loop-j-init
unfolding any_of
loop-j-init c =
    let a = c.args in
    (ap (replicate most_receptors) c.none-list.ensures ∙ filled_start (λ k. media_from (mean_with a.site a.chemical (get_or a.receptors.now.list k no_receptor) a.the_ground)) no_media most_receptors, refl)

pub returns-in_default : goal.returns-in_default
unfolding answer is_refused
returns-in_default c =
    let a = c.args in
    let l = c.loop-j in
    let long : length a.receptors.now.list ≡ most_receptors = omega arith in
    let here : l.j < length a.receptors.now.list = omega (arith, long) in
    let mean = c.mean_with in
    let none : is_refused (answer mean.result) ≡ true = rw c.in_default.is refl in
    rw (mean_stops a.site a.chemical a.receptors.now.list a.the_ground _ l.j here mean.result mean.ensures none a.receptors.now.count c.loop-j-test.true) refl

pub loop-j-preserved : goal.loop-j-preserved
loop-j-preserved c =
    let a = c.args in
    let l = c.loop-j in
    let long : length a.receptors.now.list ≡ most_receptors = omega arith in
    let here : l.j < length a.receptors.now.list = omega (arith, long) in
    let mean = c.mean_with in
    let is = c.in-Ok.is in (
      filled_more (λ k. media_from (mean_with a.site a.chemical (get_or a.receptors.now.list k no_receptor) a.the_ground)) no_media most_receptors l.j (omega (arith, long)) l.list l.invariant.0 _
          (mean_at_lem a.site a.chemical a.receptors.now.list a.the_ground _ l.j here mean.result mean.ensures _ is),
      mean_on a.site a.chemical a.receptors.now.list a.the_ground _ l.j here mean.result mean.ensures _ is l.invariant.1,
    )

pub returns : goal.returns
unfolding means_of
returns c =
    let l = c.loop-j in
    let all : l.j ≡ c.args.receptors.now.count = omega arith in
    rw (rw all at l.invariant.1) (ap Some (rw all at l.invariant.0))
