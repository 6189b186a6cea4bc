-- Pathway 1 by the guidance of 2009: a receptor's shares of time, and the figures of an exposure concentration, are the page's. Assumes nothing.
use mathlib.Core.Path.{◌≡◌, refl, ◌∙◌, ap}
use Rattle.std.specs.Prelude.{Some}
use Rattle.pair.specs.declared.Pair.{Pair}
use Rattle.pair.specs.Calls.{Outcome, is, mapped, after, product}
use Rattle.equations.specs.declared.Effect.{Effect}
use Rattle.equations.specs.declared.Effect.TheVariants.{Hazard, Cancer}
use Rattle.equations.specs.declared.Values.{Values}
use Rattle.equations.specs.Formula.{read, pairs}
use Rattle.equations.specs.Page.{AT, time_in_air, time_share, air_figure_by}
use Rattle.equations.specs.Readings.{plain, plain_with, letters, inputs, by_owner, value_in}
use Rattle.equations.specs.Ahead.{of_two}
use Rattle.slots.specs.Slots.{table, same, is_in, place_in, owner_of, place_of}
use Rattle.pathway.specs.declared.TimeShare.{TimeShare}
use Rattle.pathway.specs.declared.AirExposure.{AirExposure}
use Rattle.pathway.specs.Inner.{share_with}
use Rattle.pathway.specs.Lines.{worked_for, worked_of, time_share_of, air_exposure_of, air_figure_of}
use Rattle.pathway.proofs.Carried.{pair_back}

-- a receptor's letters are read alike with any site and chemical
pub time_share_alike : (s c r : Values) (e : Effect) → worked_of r (time_share e) ≡ worked_for s c r (time_share e)
unfolding worked_of worked_for plain plain_with read letters inputs by_owner value_in owner_of place_of table same is_in place_in pairs time_share time_in_air AT
time_share_alike s c r Hazard = refl
time_share_alike s c r Cancer = refl

-- the time spent in the air, worked once, by AT of each effect
pub own_share : (e : Effect) (r : Values) → share_with (worked_of r time_in_air) (worked_of r (AT e)) ≡ time_share_of e r
unfolding share_with time_share_of worked_of worked_for plain plain_with read pairs time_share
own_share e r = refl

-- a figure is the page's, of the share of time × the air's concentration
pub air_figure_page : (e : Effect) (t : Outcome Pair) (air v : Pair) →
    air_figure_of e (air_exposure_of (mapped (λ (q : Pair). record { 0 = q }) t) (record { 0 = air })) (Some v) ≡ mapped (λ (q : Pair). Some q) (of_two (air_figure_by e) (after product t (is air)) (is v))
unfolding air_figure_of air_exposure_of
air_figure_page e t air v =
    let share : Outcome Pair = mapped (λ (g : TimeShare). g.0) (mapped (λ (q : Pair). record { 0 = q }) t) in
    ap (λ (o : Outcome Pair). mapped (λ (q : Pair). Some q) (of_two (air_figure_by e) o (is v)))
    (pair_back (λ (g : AirExposure). g.0) (λ (q : Pair). record { 0 = q }) (λ q. refl) (after product share (is air))
    ∙ ap (λ (o : Outcome Pair). after product o (is air)) (pair_back (λ (g : TimeShare). g.0) (λ (q : Pair). record { 0 = q }) (λ q. refl) t))
