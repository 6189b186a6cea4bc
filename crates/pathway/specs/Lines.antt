-- The six pathways of document 01 by the working rule. A concentration, an intake factor, a dose and a reference value are quantities of
-- their own: factor × concentration is a dose, a dose by an RfD is a quotient, and a dose times a CSF is a risk. By the guidance of 2009 (document
-- 02, P6) the air is no dose: a share of time × the air's concentration is an exposure concentration, which goes by a reference concentration and a
-- unit risk.
use Rattle.pair.specs.declared.Pair.{Pair}
use Rattle.std.specs.Prelude.{ℕ, cond, eqb, Option, Some, None}
use Rattle.std.specs.Option.{option_map}
use Rattle.pair.specs.Calls.{Outcome, is, answer, mapped, after, product, quotient}
use Rattle.equations.specs.declared.Pathway.{Pathway}
use Rattle.equations.specs.declared.Pathway.TheVariants.{Air, SoilSummer, SoilWinter, Skin, AboveGround, BelowGround}
use Rattle.equations.specs.declared.Effect.{Effect}
use Rattle.equations.specs.declared.Effect.TheVariants.{Hazard, Cancer}
use Rattle.equations.specs.declared.Values.{Values}
use Rattle.equations.specs.Formula.{Formula, pairs}
use Rattle.equations.specs.Page.{B, exposure, factor, by_medium, by_route, figure_by, time_share, air_figure_by}
use Rattle.equations.specs.Readings.{plain, by_owner, inputs, value_in, no_values}
use Rattle.equations.specs.Ahead.{of_two, ahead, plain_from}
use Rattle.slots.specs.declared.Guidance.{Guidance}
use Rattle.slots.specs.declared.Guidance.TheVariants.{Of2005, Of2009}
use Rattle.slots.specs.Slots.{Slot, owner_of, place_of}
use Rattle.media.specs.declared.AirConc.{AirConc}
use Rattle.media.specs.declared.Conc.{Conc}
use Rattle.media.specs.declared.Media.{Media}
use Rattle.pathway.specs.declared.Factor.{Factor}
use Rattle.pathway.specs.declared.Dose.{Dose}
use Rattle.pathway.specs.declared.Medium.{Medium}
use Rattle.pathway.specs.declared.Rfd.{Rfd}
use Rattle.pathway.specs.declared.Csf.{Csf}
use Rattle.pathway.specs.declared.Rfc.{Rfc}
use Rattle.pathway.specs.declared.UnitRisk.{UnitRisk}
use Rattle.pathway.specs.declared.References.{References}
use Rattle.pathway.specs.declared.Line.{Line}
use Rattle.pathway.specs.declared.Absorbed.{Absorbed}
use Rattle.pathway.specs.declared.Habits.{Habits}
use Rattle.pathway.specs.declared.TimeShare.{TimeShare}
use Rattle.pathway.specs.declared.AirExposure.{AirExposure}
use Rattle.pathway.specs.declared.InAir.{InAir}
use Rattle.pathway.specs.declared.Breathing.{Breathing}
use Rattle.pathway.specs.declared.Breathing.TheVariants as Breathings

-- a formula read from the values of a site, a chemical and a receptor; no factor has a series or a difference in it
unfoldable pub worked_for : Values → Values → Values → Formula → Outcome Pair
worked_for s c r f = plain pairs (λ n. is (inputs s c r n)) f

-- a formula with a receptor's letters alone
unfoldable pub worked_of : Values → Formula → Outcome Pair
worked_of r f = worked_for no_values no_values r f

-- the intake factor, as the page writes it
unfoldable pub factor_of : Effect → Pathway → Values → Values → Values → Outcome Factor
factor_of e p s c r = mapped (λ (q : Pair). record { 0 = q }) (worked_for s c r (factor e p))

-- what a factor takes: air, or soil and produce; A for 1, the soil for 2 to 4, the produce for 5 and 6
unfoldable pub breathed_in : AirConc → Medium
breathed_in a = record { 0 = a.0 }

unfoldable pub eaten : Conc → Medium
eaten c = record { 0 = c.0 }

unfoldable pub medium_for : Pathway → Media → Medium
medium_for p m = by_medium p (breathed_in m.air) (eaten m.soil) (eaten m.above_ground) (eaten m.below_ground)

-- the dose: factor × concentration
unfoldable pub dose_for : Pathway → Outcome Factor → Media → Outcome Dose
dose_for p f m = mapped (λ (q : Pair). record { 0 = q }) (after product (mapped (λ (g : Factor). g.0) f) (is (medium_for p m).0))

-- the figure of a dose with its reference value, dose / RfD or dose × CSF; none without one, whatever the dose
unfoldable pub figure_of : Effect → Outcome Dose → Option Pair → Outcome (Option Pair)
figure_of e d (Some v) = mapped (λ (q : Pair). Some q) (of_two (figure_by e) (mapped (λ (g : Dose). g.0) d) (is v))
figure_of e d None = is None

unfoldable pub rfd_value : Option Rfd → Option Pair
rfd_value = option_map (λ (r : Rfd). r.0)

unfoldable pub csf_value : Option Csf → Option Pair
csf_value = option_map (λ (f : Csf). f.0)

-- what a chemical's slots hold, as reference values: the oral slots at once, the inhaled ones as the air is taken
unfoldable pub as_rfd : Option Pair → Option Rfd
as_rfd = option_map (λ (p : Pair). record { 0 = p })

unfoldable pub as_csf : Option Pair → Option Csf
as_csf = option_map (λ (p : Pair). record { 0 = p })

unfoldable pub references_from : Option Pair → Option Pair → Option Pair → Option Pair → References
references_from RfDo RfDi CSFo CSFi = record { rfd_o = as_rfd RfDo; rfd_i = RfDi; csf_o = as_csf CSFo; csf_i = CSFi }

-- a line's two figures, each by itself
pub record Figured : Type 0 where
  pub hazard : Outcome (Option Pair)
  pub cancer : Outcome (Option Pair)

unfoldable pub figured : Line → Figured
figured l = record { hazard = answer l.hazard; cancer = answer l.cancer }

-- ---- pathway 1 by the guidance of 2009
unfoldable pub rfc_value : Option Rfc → Option Pair
rfc_value = option_map (λ (r : Rfc). r.0)

unfoldable pub unit_risk_value : Option UnitRisk → Option Pair
unit_risk_value = option_map (λ (r : UnitRisk). r.0)

-- the slots RfDi and CSFi hold a reference concentration and a unit risk then
unfoldable pub as_rfc : Option Pair → Option Rfc
as_rfc = option_map (λ (p : Pair). record { 0 = p })

unfoldable pub as_unit_risk : Option Pair → Option UnitRisk
as_unit_risk = option_map (λ (p : Pair). record { 0 = p })

-- the share of the averaging time that a receptor spends in the air, as the page writes it
unfoldable pub time_share_of : Effect → Values → Outcome TimeShare
time_share_of e r = mapped (λ (q : Pair). record { 0 = q }) (worked_of r (time_share e))

-- the exposure concentration: share of time × the air's concentration
unfoldable pub air_exposure_of : Outcome TimeShare → AirConc → Outcome AirExposure
air_exposure_of t a = mapped (λ (q : Pair). record { 0 = q }) (after product (mapped (λ (g : TimeShare). g.0) t) (is a.0))

-- its figure with a reference value, exposure concentration / reference concentration or exposure concentration × 1000 × unit risk; none without one, whatever the share of time
unfoldable pub air_figure_of : Effect → Outcome AirExposure → Option Pair → Outcome (Option Pair)
air_figure_of e x (Some v) = mapped (λ (q : Pair). Some q) (of_two (air_figure_by e) (mapped (λ (g : AirExposure). g.0) x) (is v))
air_figure_of e x None = is None

-- the shares of time of a receptor's lines, hazard's and cancer's
pub record SharesOfTime : Type 0 where
  pub hazard : Outcome TimeShare
  pub cancer : Outcome TimeShare

unfoldable pub shares_of_time : InAir → SharesOfTime
shares_of_time t = record { hazard = answer t.hazard; cancer = answer t.cancer }

unfoldable pub in_air_of : Values → SharesOfTime
in_air_of r = record { hazard = time_share_of Hazard r; cancer = time_share_of Cancer r }

-- the two figures of the line, from the receptor's shares of time
unfoldable pub air_figures_with : SharesOfTime → AirConc → References → Figured
air_figures_with t air refs =
    record {
      hazard = air_figure_of Hazard (air_exposure_of t.hazard air) (rfc_value (as_rfc refs.rfd_i));
      cancer = air_figure_of Cancer (air_exposure_of t.cancer air) (unit_risk_value (as_unit_risk refs.csf_i));
    }

-- how the air is taken: as a dose, by the guidance of 2005, or by that of 2009 over a share of time
pub data Breathed : Type 0 where
  by_dose : Breathed
  by_time : SharesOfTime → Breathed

unfoldable pub breathed : Breathing → Breathed
breathed Breathings.Dose = by_dose
breathed (Breathings.Time t) = by_time (shares_of_time t)

unfoldable pub breathed_by : Guidance → Values → Breathed
breathed_by Of2005 r = by_dose
breathed_by Of2009 r = by_time (in_air_of r)

-- ---- what a receptor's lines share
-- the shares of a chemical that are absorbed, and each by its place; no exposure has another letter of a chemical
unfoldable pub absorbed_of : Values → Absorbed
absorbed_of c = record { inhaled = value_in c (place_of "AFinh"); oral = value_in c (place_of "AForal"); dermal = value_in c (place_of "AFderm") }

unfoldable pub share_at : Absorbed → ℕ → Pair
share_at a k = cond (eqb k (place_of "AFinh")) a.inhaled (cond (eqb k (place_of "AForal")) a.oral a.dermal)

-- what an exposure is read from
unfoldable pub taken_in : Values → Absorbed → Values → Slot → Pair
taken_in s a r n = by_owner (owner_of n) (value_in s (place_of n)) (share_at a (place_of n)) (value_in r (place_of n))

-- an exposure as the page has it, from the value of what is worked ahead
unfoldable pub exposure_from : Outcome Pair → Pathway → Values → Absorbed → Values → Outcome Pair
exposure_from begun p s a r = plain_from begun pairs (λ n. is (taken_in s a r n)) (exposure p)

-- how the air is taken, B of each effect, the soil held on the skin and the produce eaten
pub record Shared : Type 0 where
  pub air : Breathed
  pub hazard : Outcome Pair
  pub cancer : Outcome Pair
  pub skin : Outcome Pair
  pub above_ground : Outcome Pair
  pub below_ground : Outcome Pair

unfoldable pub shared : Habits → Shared
shared h =
    record {
      air = breathed h.air;
      hazard = answer h.hazard;
      cancer = answer h.cancer;
      skin = answer h.skin;
      above_ground = answer h.above_ground;
      below_ground = answer h.below_ground;
    }

unfoldable pub habits_of : Guidance → Values → Shared
habits_of guidance r =
    record {
      air = breathed_by guidance r;
      hazard = worked_of r (B Hazard);
      cancer = worked_of r (B Cancer);
      skin = worked_of r (ahead (exposure Skin));
      above_ground = worked_of r (ahead (exposure AboveGround));
      below_ground = worked_of r (ahead (exposure BelowGround));
    }

unfoldable pub base_in : Shared → Effect → Outcome Pair
base_in h Hazard = h.hazard
base_in h Cancer = h.cancer

unfoldable pub begun_in : Shared → Values → Pathway → Outcome Pair
begun_in h r Air = worked_of r (ahead (exposure Air))
begun_in h r SoilSummer = worked_of r (ahead (exposure SoilSummer))
begun_in h r SoilWinter = worked_of r (ahead (exposure SoilWinter))
begun_in h r Skin = h.skin
begun_in h r AboveGround = h.above_ground
begun_in h r BelowGround = h.below_ground

unfoldable pub exposure_with : Shared → Pathway → Values → Absorbed → Values → Outcome Pair
exposure_with h p s a r = exposure_from (begun_in h r p) p s a r

-- exposure / B
unfoldable pub factor_with : Outcome Pair → Outcome Pair → Outcome Factor
factor_with exposure base = mapped (λ (q : Pair). record { 0 = q }) (after quotient exposure base)

-- the two figures of a line of an intake, from what its receptor's lines share: pathway 1 takes RfDi and CSFi, the rest RfDo and CSFo; hazard takes the media of the
-- highest year, cancer those of the mean
unfoldable pub dose_figures_with : Shared → Pathway → Values → Absorbed → Values → Media → Media → References → Figured
dose_figures_with h p s a r highest mean refs =
    let exposure : Outcome Pair = exposure_with h p s a r in
    record {
      hazard = figure_of Hazard (dose_for p (factor_with exposure (base_in h Hazard)) highest) (rfd_value (by_route p (as_rfd refs.rfd_i) refs.rfd_o));
      cancer = figure_of Cancer (dose_for p (factor_with exposure (base_in h Cancer)) mean) (csf_value (by_route p (as_csf refs.csf_i) refs.csf_o));
    }

-- a line's two figures: of an intake, or where the air is taken over a share of time, pathway 1's from that
unfoldable pub figures_by : Breathed → Pathway → AirConc → References → Figured → Figured
figures_by by_dose p air refs dosed = dosed
figures_by (by_time t) p air refs dosed = by_route p (air_figures_with t air refs) dosed

unfoldable pub figures_with : Shared → Pathway → Values → Absorbed → Values → Media → Media → References → Figured
figures_with h p s a r highest mean refs = figures_by h.air p highest.air refs (dose_figures_with h p s a r highest mean refs)
