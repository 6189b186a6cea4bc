-- A line's figures are those of an intake, but pathway 1's where the air is taken over a share of time. Assumes nothing.
use mathlib.Core.Path.{◌≡◌, refl, sym, ◌∙◌, ap}
use mathlib.Core.Bool.{Bool, true, false, cond, false≢true}
use Rattle.equations.specs.declared.Pathway.{Pathway}
use Rattle.media.specs.declared.AirConc.{AirConc}
use Rattle.pathway.specs.declared.References.{References}
use Rattle.pathway.specs.Inner.{is_timed, timed_figures}
use Rattle.pathway.specs.Lines.{Figured, Breathed, by_dose, by_time, air_figures_with, figures_by}
use Rattle.equations.proofs.Guided.{route_tested}

module _ (p : Pathway) (air : AirConc) (refs : References) (dosed : Figured) where
  pub in_air_lem : (b : Breathed) → is_timed b p ≡ true → timed_figures b air refs ≡ figures_by b p air refs dosed
  unfolding is_timed timed_figures figures_by
  in_air_lem by_dose h = absurd (false≢true h)
  in_air_lem (by_time t) h = sym (route_tested p _ _ ∙ ap (λ (u : Bool). cond u (air_figures_with t air refs) dosed) h)

  pub as_dose : (b : Breathed) → is_timed b p ≡ false → dosed ≡ figures_by b p air refs dosed
  unfolding is_timed figures_by
  as_dose by_dose h = refl
  as_dose (by_time t) h = sym (route_tested p _ _ ∙ ap (λ (u : Bool). cond u (air_figures_with t air refs) dosed) h)
