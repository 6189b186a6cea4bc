-- Each figure by its own way. Assumes nothing.
use mathlib.Core.Path.{◌≡◌, refl}
use borrow.Author.Rules.{rules}
use Rattle.pathway.specs.Lines.{figured, shares_of_time, air_figures_with, as_rfc, as_unit_risk}
use Rattle.pathway.proofs.air.air_figures_with.Goals as goal

pub returns : goal.returns
unfolding figured air_figures_with shares_of_time as_rfc as_unit_risk
returns c =
    let rfc : c.map.result ≡ as_rfc c.args.references.rfd_i = search rules in
    let risk : c.map-2.result ≡ as_unit_risk c.args.references.csf_i = search rules in
    rw (c.cancer_in_air.ensures, risk, c.hazard_in_air.ensures, rfc) refl
