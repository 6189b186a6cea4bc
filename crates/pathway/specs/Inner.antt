-- For the contracts of this crate's inner functions only.
use Rattle.pair.specs.declared.Pair.{Pair}
use Rattle.std.specs.Prelude.{◌≡◌, Bool, true, false, None}
use Rattle.pair.specs.Calls.{Outcome, is, mapped, after, quotient}
use Rattle.equations.specs.declared.Pathway.{Pathway}
use Rattle.equations.specs.declared.Values.{Values}
use Rattle.equations.specs.Page.{by_route}
use Rattle.media.specs.declared.AirConc.{AirConc}
use Rattle.pathway.specs.declared.Absorbed.{Absorbed}
use Rattle.pathway.specs.declared.References.{References}
use Rattle.pathway.specs.declared.TimeShare.{TimeShare}
use Rattle.pathway.specs.Lines.{Figured, exposure_from, air_figures_with, Breathed, by_dose, by_time}

-- one share for each letter of a chemical
unfoldable pub each : Pair → Absorbed
each share = record { inhaled = share; oral = share; dermal = share }

-- of these shares, the one that a pathway's exposure takes
abbrev pub Takes : Pathway → Absorbed → Pair → Type 0
Takes p a share = (begun : Outcome Pair) (s r : Values) → exposure_from begun p s (each share) r ≡ exposure_from begun p s a r

-- the time spent in the air / AT
unfoldable pub share_with : Outcome Pair → Outcome Pair → Outcome TimeShare
share_with spent averaging = mapped (λ (q : Pair). record { 0 = q }) (after quotient spent averaging)

-- a pathway that is taken over a share of time, and its figures; none where the air is taken as a dose
unfoldable pub is_timed : Breathed → Pathway → Bool
is_timed by_dose p = false
is_timed (by_time t) p = by_route p true false

unfoldable pub timed_figures : Breathed → AirConc → References → Figured
timed_figures by_dose air refs = record { hazard = is None; cancer = is None }
timed_figures (by_time t) air refs = air_figures_with t air refs
