-- As the air is taken: pathway 1 from its shares of time, or each figure by its own way, from one exposure. Assumes nothing.
use mathlib.Core.Path.{refl, sym, ◌∙◌}
use Rattle.pathway.specs.Lines.{figured, shared, base_in, exposure_with, dose_figures_with, figures_with}
use Rattle.pathway.proofs.FigureLaws.{in_air_lem, as_dose}
use Rattle.pathway.proofs.figures_with.Goals as goal

pub returns-then-is_timed : goal.returns-then-is_timed
unfolding figures_with shared
returns-then-is_timed c =
    c.timed_figures.ensures
    ∙ in_air_lem _ _ _ _ _ (sym c.is_timed.ensures ∙ c.if-is_timed.true)

pub returns : goal.returns
unfolding figured figures_with dose_figures_with exposure_with base_in shared
returns c =
    (rw (c.cancer_from.ensures, c.csf_of.ensures, c.hazard_from.ensures, c.rfd_of.ensures, c.exposure-exposure.ensures, c.share_of.ensures, c.begun_in.ensures)
    refl)
    ∙ as_dose _ _ _ _ _ (sym c.is_timed.ensures ∙ c.if-is_timed.false)
