-- The ground decides whether there is a source, and then each receptor's media. Assumes nothing.
use borrow.Author.Rules.{rules}
use mathlib.Core.Path.{◌≡◌, refl, sym, ap, ◌∙◌}
use mathlib.Core.Bool.{true}
use Rattle.std.specs.Prelude.{Some}
use Rattle.pair.specs.Calls.{answer}
use Rattle.scenario.specs.Scenario.{is_refused}
use Rattle.sheet.proofs.ChemicalLaws.{lacks_stops, refused_stops, means_stop, source_made}
use Rattle.sheet.proofs.Chosen.{is_missing, is_there}
use Rattle.sheet.proofs.chemicals.source_of.Goals as goal

pub returns-then-lacks : goal.returns-then-lacks
returns-then-lacks c =
    let a = c.args in
    rw (lacks_stops a.site a.receptors.now a.chemical _ refl (sym c.lacks.ensures ∙ c.if-lacks.true)) refl

pub returns-in_default : goal.returns-in_default
unfolding answer is_refused
returns-in_default c =
    let a = c.args in
    let none : is_refused (answer c.ground_of.result) ≡ true = rw c.in_default.is refl in
    rw (refused_stops a.site a.receptors.now a.chemical _ c.values_of-values.ensures (sym c.lacks.ensures ∙ c.if-lacks.false) _ c.particles_of.ensures _ c.ground_of.ensures none) refl

pub returns-in_err-means : goal.returns-in_err-means
returns-in_err-means c =
    let a = c.args in
    let stop = means_stop a.site a.receptors.now a.chemical _ c.values_of-values.ensures (sym c.lacks.ensures ∙ c.if-lacks.false) _ c.particles_of.ensures _ c.ground_of.ensures _ c.in-Ok.is in
    rw (stop ∙ is_missing _ _ _ c.means_of.ensures c.in_err-means.was) (search rules)

pub returns : goal.returns
returns c =
    let a = c.args in
    let whole = sym c.lacks.ensures ∙ c.if-lacks.false in
    let stop = means_stop a.site a.receptors.now a.chemical _ c.values_of-values.ensures whole _ c.particles_of.ensures _ c.ground_of.ensures _ c.in-Ok.is in
    let made = is_there _ _ _ c.means_of.ensures _ c.in_ok-means.was in
    rw (stop ∙ made.0)
    (ap Some (source_made a.site a.receptors.now a.chemical _ c.values_of-values.ensures whole _ c.particles_of.ensures _ c.ground_of.ensures _ c.in-Ok.is _ made.1 _ c.absorbed_of.ensures _ c.references_of.ensures))
