-- What the crates below work for a chemical and for its lines is the page read from the scenario's slots: for every scenario that the chemical does
-- not stop, each line's columns and its cap are those of the definitions. Assumes nothing.
use mathlib.Core.Path.{◌≡◌, refl, sym, ◌∙◌, ap, ap₂, subst}
use mathlib.Core.Bool.{true, false, cond, ◌&&◌, true≢false}
use Prim.Native.Nat.{ℕ, ◌-◌, ◌<◌}
use lib.ListN.{get_or, replicate}
use Rattle.sizes.specs.Sizes.{most_receptors}
use Rattle.std.specs.Prelude.{Option, Some, None}
use Rattle.pair.specs.declared.Pair.{Pair}
use Rattle.pair.specs.Calls.{Outcome, is, refused, mapped, after, product}
use Rattle.slots.specs.declared.Guidance.{Guidance}
use Rattle.slots.specs.declared.Guidance.TheVariants.{Of2005, Of2009}
use Rattle.slots.specs.Slots.{Slot, table, same, is_in, place_in, owner_of, place_of}
use Rattle.equations.specs.declared.Pathway.{Pathway}
use Rattle.equations.specs.declared.Pathway.TheVariants.{Air}
use Rattle.equations.specs.declared.Effect.{Effect}
use Rattle.equations.specs.declared.Effect.TheVariants.{Hazard, Cancer}
use Rattle.equations.specs.declared.Values.{Values}
use Rattle.equations.specs.declared.Stay.{Stay}
use Rattle.equations.specs.Formula.{Formula, read, pairs}
use Rattle.equations.specs.Page as page
use Rattle.equations.specs.Page.{by_route, by_medium, figure_by, air_figure_by, reference_slot}
use Rattle.equations.specs.Ahead.{of_two, only, a_slot}
use Rattle.equations.proofs.Guided.{by_medium_lem, by_route_lem, on_route, routed}
use Rattle.equations.proofs.Pathways.{pathways, passes, on_each, on_line}
use Rattle.equations.proofs.AheadLaws.{plain_worked}
use Rattle.equations.specs.Readings.{Inputs, letters, no_growth, plain_with, plain, as_answers, worked, by_owner, inputs}
use Rattle.media.specs.declared.AirConc.{AirConc}
use Rattle.media.specs.declared.Media.{Media}
use Rattle.media.specs.declared.Ground.{Ground}
use Rattle.media.specs.Media.{media_inputs, media_in, ground_of, mean_media, no_media}
use Rattle.media.proofs.Means.{Told, four_told, ground_highest, mean_media_lem}
use Rattle.pathway.specs.declared.Factor.{Factor}
use Rattle.pathway.specs.declared.Dose.{Dose}
use Rattle.pathway.specs.declared.References.{References}
use Rattle.pathway.specs.Lines.{Figured, worked_for, worked_of, factor_of, dose_for, figure_of, rfd_value, csf_value, as_rfd, as_csf, references_from, rfc_value, unit_risk_value, as_rfc, as_unit_risk, time_share_of, air_exposure_of, in_air_of, air_figure_of, air_figures_with, breathed_by, absorbed_of, habits_of, dose_figures_with, figures_by, figures_with}
use Rattle.pathway.proofs.Carried.{pair_back}
use Rattle.pathway.proofs.HabitLaws.{own_factor, medium_in, dose_pair}
use Rattle.pathway.proofs.AirLaws.{time_share_alike, air_figure_page}
use Rattle.cases.specs.declared.Record.{Record}
use Rattle.cases.specs.declared.Value.{Value}
use Rattle.cases.specs.declared.Value.TheVariants.{Absent, Given}
use Rattle.cases.specs.Cases.{value_at}
use Rattle.std.specs.Prelude.{None}
use Rattle.sheet.specs.declared.Source.{Source}
use Rattle.scenario.specs.declared.Scenario.{Scenario}
use Rattle.scenario.specs.Scenario.{is_refused, pair_of, rest_of, values_of, particles_of, no_receptor, chemical_in, receptor_in, stay_in, guidance_in, given_in, pairs_at, site_of}
use Rattle.sheet.specs.Sheet.{is_given, has_reference, figure_at, unit_of, cap_of, counted_in, columns_at, high_above, unworked, over_cap}
use Rattle.sheet.specs.Counts.{ground_for, mean_with, mean_for, stops_at}
use Rattle.sheet.specs.Inner.{columns_of, above_cap, media_from, ground_with, means_of, printed_as, references_of, source_with, source_from, source_of, mean_at, figures_from, figure_for}
use Rattle.lists.proofs.Tabulated.{filled_at}
use Rattle.lists.proofs.AnyOf.{none_of}
use Rattle.scenario.proofs.InputLaws.{OfSource, pair_printed}

-- ---- the media: a chemical's ground and the means from it, where it does not stop the scenario
not_refused : {A : Type 0} (o : Outcome A) → is_refused o ≡ false → (y : A) × (o ≡ is y)
unfolding is_refused
not_refused (is y) h = (y, refl)
not_refused (refused n) h = absurd (true≢false h)

-- what a chemical that does not stop has
pub record Laid (o : Outcome Ground) (means : ℕ → Ground → Outcome Media) (n : ℕ) : Type 0 where
  pub the_ground : Ground
  pub laid : o ≡ is the_ground
  pub worked : (j : ℕ) → j < n → means j the_ground ≡ is (media_from (means j the_ground))

told_from : (o : Outcome Media) → is_refused o ≡ false → o ≡ is (media_from o)
unfolding is_refused media_from
told_from (is m) h = refl
told_from (refused n) h = absurd (true≢false h)

pub not_stopped : (o : Outcome Ground) (means : ℕ → Ground → Outcome Media) (n : ℕ) → stops_at o means n ≡ false → Laid o means n
unfolding stops_at
not_stopped (is the_ground) means n h = record { the_ground = the_ground; laid = refl; worked = λ j l. told_from (means j the_ground) (none_of (λ k. is_refused (means k the_ground)) n h j l) }
not_stopped (refused k) means n h = absurd (true≢false h)

-- hazard takes the highest year's media, cancer the receptor's means
media_by : Effect → Media → Media → Media
media_by Hazard highest mean = highest
media_by Cancer highest mean = mean

module _ (scenario : Scenario) (j i : ℕ) (the_ground : Ground) (laid : ground_for scenario i ≡ is the_ground) (mean : Media) (mean_is : mean_for scenario i j the_ground ≡ is mean) where
  S : Values
  S = values_of scenario.site

  C : Values
  C = values_of (chemical_in scenario i)

  R : Values
  R = (receptor_in scenario j).values

  rests : Slot → Pair
  rests = λ s. rest_of (given_in scenario i s)

  ground_is : ground_of (media_inputs S C (rests "Fv")) ≡ is the_ground
  unfolding ground_for S C rests particles_of given_in by_owner owner_of place_of table same is_in place_in
  ground_is = laid

  mean_page : mean_media the_ground S C (stay_in scenario j) (inputs S C R "T2") (receptor_in scenario j).later ≡ is mean
  unfolding mean_for mean_with stay_in S C R inputs by_owner owner_of place_of table same is_in place_in
  mean_page = mean_is

  -- they are the page's, read from the scenario's slots
  media_page : (e : Effect) → media_in (pairs_at scenario j i) (page.soil e (stay_in scenario j)) ≡ is (media_by e the_ground.highest mean)
  unfolding pairs_at page.soil media_by S C R rests
  media_page Hazard = ground_highest S C R rests (receptor_in scenario j).later the_ground ground_is
  media_page Cancer =
      sym (mean_media_lem S C R rests (receptor_in scenario j).later the_ground ground_is (stay_in scenario j)) ∙ mean_page

  media_told : (e : Effect) → Told (worked (pairs_at scenario j i) page.A) (worked (pairs_at scenario j i) (page.soil e (stay_in scenario j)))
      (worked (pairs_at scenario j i) (page.above_ground (page.soil e (stay_in scenario j)))) (worked (pairs_at scenario j i) (page.below_ground (page.soil e (stay_in scenario j)))) (media_by e the_ground.highest mean)
  unfolding media_in
  media_told e = four_told _ _ _ _ (media_by e the_ground.highest mean) (media_page e)

  medium_told : (e : Effect) (p : Pathway) → worked (pairs_at scenario j i) (page.medium e (stay_in scenario j) p) ≡ is (medium_in p (media_by e the_ground.highest mean))
  unfolding page.medium medium_in
  medium_told e p =
      by_medium_lem (λ q (f : Formula) (c : Pair). worked (pairs_at scenario j i) f ≡ is c) (media_told e).air p (media_told e).soil (media_told e).above (media_told e).below

-- ---- the factors, in which neither a series nor a difference stands
factor_slots : (e : Effect) (stay : Stay) (p : Pathway) → only (a_slot (λ n. true)) (page.factor e p) ≡ true
unfolding passes pathways on_each only a_slot page.factor page.exposure page.B page.AT
factor_slots = on_line (λ e stay p. only (a_slot (λ n. true)) (page.factor e p)) refl

factor_read : (e : Effect) (p : Pathway) (scenario : Scenario) (j i : ℕ) →
    worked_for (values_of scenario.site) (values_of (chemical_in scenario i)) (receptor_in scenario j).values (page.factor e p) ≡ worked (pairs_at scenario j i) (page.factor e p)
unfolding worked_for pairs_at
factor_read e p scenario j i = plain_worked (pairs_at scenario j i) (page.factor e p) (factor_slots e (stay_in scenario j) p)

-- ---- a dose
-- the dose as a pair is the page's intake
module _ (scenario : Scenario) (j i : ℕ) (e : Effect) (p : Pathway) (m : Media) (medium_is : worked (pairs_at scenario j i) (page.medium e (stay_in scenario j) p) ≡ is (medium_in p m)) where
  factor : Outcome Factor
  factor = factor_of e p (values_of scenario.site) (values_of (chemical_in scenario i)) (receptor_in scenario j).values

  dose_is : mapped (λ (g : Dose). g.0) (dose_for p factor m) ≡ worked (pairs_at scenario j i) (page.intake e (stay_in scenario j) p)
  unfolding factor factor_of page.intake worked read pairs
  dose_is =
      dose_pair p factor m
      ∙ ap (λ (o : Outcome Pair). after product o (is (medium_in p m)))
      (pair_back (λ (g : Factor). g.0) (λ (q : Pair). record { 0 = q }) (λ q. refl) (worked_for (values_of scenario.site) (values_of (chemical_in scenario i)) (receptor_in scenario j).values (page.factor e p)) ∙ factor_read e p scenario j i)
      ∙ ap (λ (o : Outcome Pair). after product (worked (pairs_at scenario j i) (page.factor e p)) o) (sym medium_is)

-- ---- a figure
line_by : (e : Effect) (stay : Stay) (p : Pathway) (v : Inputs Pair) → worked v (page.intake_line e stay p) ≡ of_two (figure_by e) (worked v (page.intake e stay p)) (is (v.value (reference_slot e p)))
unfolding worked as_answers of_two plain plain_with same read pairs letters page.intake_line figure_by page.reference
line_by Hazard stay p v = refl
line_by Cancer stay p v = refl

optional : Value → Option Pair
optional Absent = None
optional (Given power digits) = Some (pair_of (Given power digits))

rfd_optional : (v : Value) → rfd_value (as_rfd (printed_as v)) ≡ optional v
unfolding rfd_value as_rfd printed_as optional
rfd_optional Absent = refl
rfd_optional (Given power digits) = refl

csf_optional : (v : Value) → csf_value (as_csf (printed_as v)) ≡ optional v
unfolding csf_value as_csf printed_as optional
csf_optional Absent = refl
csf_optional (Given power digits) = refl

-- the slot of a line's reference value, as the chemical's record has it
reference_at : Effect → Pathway → Record → Value
reference_at Hazard p r = by_route p (value_at r (place_of "RfDi")) (value_at r (place_of "RfDo"))
reference_at Cancer p r = by_route p (value_at r (place_of "CSFi")) (value_at r (place_of "CSFo"))

reference_printed : (scenario : Scenario) (i : ℕ) (e : Effect) (p : Pathway) → given_in scenario i (reference_slot e p) ≡ reference_at e p (chemical_in scenario i)
unfolding reference_at reference_slot given_in by_owner owner_of place_of table same is_in place_in
reference_printed scenario i Hazard p = routed (given_in scenario i) p "RfDi" "RfDo"
reference_printed scenario i Cancer p = routed (given_in scenario i) p "CSFi" "CSFo"

-- it is a chemical's
reference_source : (e : Effect) (p : Pathway) → OfSource (owner_of (reference_slot e p))
unfolding reference_slot OfSource owner_of table same is_in
reference_source Hazard p = on_route (λ (s : Slot). OfSource (owner_of s)) p "RfDi" "RfDo" tt tt
reference_source Cancer p = on_route (λ (s : Slot). OfSource (owner_of s)) p "CSFi" "CSFo" tt tt

-- the figure of an intake's line from its dose and what is printed for its reference value
figure_for_lem : (y : Guidance) (e : Effect) (p : Pathway) (s c r : Values) (m n : Media) (chemical : Record) →
    figure_for e (dose_figures_with (habits_of y r) p s (absorbed_of c) r m n (references_of chemical)) ≡ figure_of e (dose_for p (factor_of e p s c r) (media_by e m n)) (optional (reference_at e p chemical))
unfolding figure_for dose_figures_with references_of references_from reference_at media_by
figure_for_lem y Hazard p s c r m n chemical =
    ap₂ (λ (f : Outcome Factor) (v : Option Pair). figure_of Hazard (dose_for p f m) v) (own_factor y Hazard p s c r)
    (ap rfd_value (sym (routed (λ v. as_rfd (printed_as v)) p (value_at chemical (place_of "RfDi")) (value_at chemical (place_of "RfDo")))) ∙ rfd_optional (reference_at Hazard p chemical))
figure_for_lem y Cancer p s c r m n chemical =
    ap₂ (λ (f : Outcome Factor) (v : Option Pair). figure_of Cancer (dose_for p f n) v) (own_factor y Cancer p s c r)
    (ap csf_value (sym (routed (λ v. as_csf (printed_as v)) p (value_at chemical (place_of "CSFi")) (value_at chemical (place_of "CSFo")))) ∙ csf_optional (reference_at Cancer p chemical))

-- its columns and its cap
columns_some : (e : Effect) (o : Outcome Pair) → columns_of e (mapped (λ (q : Pair). Some q) o) ≡ counted_in (unit_of e) o
unfolding columns_of mapped counted_in
columns_some e (is p) = refl
columns_some e (refused n) = refl

cap_some : (e : Effect) (o : Outcome Pair) → above_cap e (mapped (λ (q : Pair). Some q) o) ≡ high_above (cap_of e) o
unfolding above_cap mapped high_above
cap_some e (is p) = refl
cap_some e (refused n) = refl

broken_some : (o : Outcome Pair) → is_refused (mapped (λ (q : Pair). Some q) o) ≡ is_refused o
unfolding is_refused mapped
broken_some (is p) = refl
broken_some (refused n) = refl

-- a figure that is worked from its reference value, where there is one
module _ (e : Effect) (f : Option Pair → Outcome (Option Pair)) (o : Pair → Outcome Pair) (without : f None ≡ is None) (with_one : (v : Pair) → f (Some v) ≡ mapped (λ (q : Pair). Some q) (o v)) where
  figure_columns : (v : Value) →
      (columns_of e (f (optional v)) ≡ cond (is_given v) (counted_in (unit_of e) (o (pair_of v))) None)
      × (above_cap e (f (optional v)) ≡ (is_given v && high_above (cap_of e) (o (pair_of v))))
      × (is_refused (f (optional v)) ≡ (is_given v && is_refused (o (pair_of v))))
  unfolding optional is_given columns_of above_cap is_refused
  figure_columns Absent = (rw without refl, rw without refl, rw without refl)
  figure_columns (Given power digits) =
      let v : Pair = pair_of (Given power digits) in
      (ap (columns_of e) (with_one v) ∙ columns_some e (o v), ap (above_cap e) (with_one v) ∙ cap_some e (o v), ap is_refused (with_one v) ∙ broken_some (o v))

-- ---- pathway 1 by the guidance of 2009
time_read : (e : Effect) (scenario : Scenario) (j i : ℕ) → worked_of (receptor_in scenario j).values (page.time_share e) ≡ worked (pairs_at scenario j i) (page.time_share e)
unfolding worked_for worked plain plain_with no_growth read letters pairs as_answers pairs_at page.time_share page.time_in_air page.AT
time_read Hazard scenario j i = time_share_alike (values_of scenario.site) (values_of (chemical_in scenario i)) (receptor_in scenario j).values Hazard
time_read Cancer scenario j i = time_share_alike (values_of scenario.site) (values_of (chemical_in scenario i)) (receptor_in scenario j).values Cancer

air_line_by : (e : Effect) (v : Inputs Pair) →
    worked v (page.air_line e) ≡ of_two (air_figure_by e) (after product (worked v (page.time_share e)) (worked v page.A)) (is (v.value (reference_slot e Air)))
unfolding worked as_answers of_two plain plain_with same read pairs letters page.air_line air_figure_by page.reference
air_line_by Hazard v = refl
air_line_by Cancer v = refl

rfc_optional : (v : Value) → rfc_value (as_rfc (printed_as v)) ≡ optional v
unfolding rfc_value as_rfc printed_as optional
rfc_optional Absent = refl
rfc_optional (Given power digits) = refl

unit_risk_optional : (v : Value) → unit_risk_value (as_unit_risk (printed_as v)) ≡ optional v
unfolding unit_risk_value as_unit_risk printed_as optional
unit_risk_optional Absent = refl
unit_risk_optional (Given power digits) = refl

air_figure_for : (e : Effect) (r : Values) (air : AirConc) (chemical : Record) →
    figure_for e (air_figures_with (in_air_of r) air (references_of chemical)) ≡ air_figure_of e (air_exposure_of (time_share_of e r) air) (optional (reference_at e Air chemical))
unfolding figure_for air_figures_with in_air_of references_of references_from reference_at by_route by_medium
air_figure_for Hazard r air chemical = ap (air_figure_of Hazard (air_exposure_of (time_share_of Hazard r) air)) (rfc_optional (value_at chemical (place_of "RfDi")))
air_figure_for Cancer r air chemical = ap (air_figure_of Cancer (air_exposure_of (time_share_of Cancer r) air)) (unit_risk_optional (value_at chemical (place_of "CSFi")))

-- ---- a line of a scenario whose chemical does not stop it
-- figures are a formula's, for one effect: their columns and their cap
abbrev Agrees : Scenario → ℕ → ℕ → Effect → Pathway → Figured → Formula → Type 0
Agrees scenario j i e p f g =
    (columns_of e (figure_for e f) ≡ cond (has_reference e scenario i p) (counted_in (unit_of e) (worked (pairs_at scenario j i) g)) None)
    × (above_cap e (figure_for e f) ≡ (has_reference e scenario i p && high_above (cap_of e) (worked (pairs_at scenario j i) g)))
    × (is_refused (figure_for e f) ≡ (has_reference e scenario i p && is_refused (worked (pairs_at scenario j i) g)))

module _ (scenario : Scenario) (j i : ℕ) (e : Effect) (the_ground : Ground) (laid : ground_for scenario i ≡ is the_ground) (mean : Media) (mean_is : mean_for scenario i j the_ground ≡ is mean) where
  site' : Values
  site' = values_of scenario.site

  chemical' : Values
  chemical' = values_of (chemical_in scenario i)

  receptor' : Values
  receptor' = (receptor_in scenario j).values

  references' : References
  references' = references_of (chemical_in scenario i)

  -- of an intake
  module _ (y : Guidance) (p : Pathway) where
    dosed : Figured
    dosed = dose_figures_with (habits_of y receptor') p site' (absorbed_of chemical') receptor' the_ground.highest mean references'

    dose : Outcome Dose
    dose = dose_for p (factor_of e p site' chemical' receptor') (media_by e the_ground.highest mean)

    value : Value
    value = given_in scenario i (reference_slot e p)

    intake_is : mapped (λ (g : Dose). g.0) dose ≡ worked (pairs_at scenario j i) (page.intake e (stay_in scenario j) p)
    unfolding dose factor site' chemical' receptor'
    intake_is = dose_is scenario j i e p (media_by e the_ground.highest mean) (medium_told scenario j i the_ground laid mean mean_is e p)

    figure_is : of_two (figure_by e) (mapped (λ (g : Dose). g.0) dose) (is (pair_of value)) ≡ worked (pairs_at scenario j i) (page.intake_line e (stay_in scenario j) p)
    unfolding value
    figure_is =
        ap (λ (o : Outcome Pair). of_two (figure_by e) o (is (pair_of value))) intake_is
        ∙ ap (λ (q : Pair). of_two (figure_by e) (worked (pairs_at scenario j i) (page.intake e (stay_in scenario j) p)) (is q)) (sym (pair_printed scenario j i (reference_slot e p) (reference_source e p)))
        ∙ sym (line_by e (stay_in scenario j) p (pairs_at scenario j i))

    figured : figure_for e dosed ≡ figure_of e dose (optional value)
    unfolding dosed dose value site' chemical' receptor' references'
    figured =
        figure_for_lem y e p site' chemical' receptor' the_ground.highest mean (chemical_in scenario i)
        ∙ ap (λ (v : Value). figure_of e dose (optional v)) (sym (reference_printed scenario i e p))

    intake_agrees : Agrees scenario j i e p dosed (page.intake_line e (stay_in scenario j) p)
    unfolding has_reference value figure_of
    intake_agrees =
        let c = figure_columns e (figure_of e dose) (λ v. of_two (figure_by e) (mapped (λ (g : Dose). g.0) dose) (is v)) refl (λ v. refl) value in (
          ap (columns_of e) figured ∙ c.0 ∙ ap (λ (o : Outcome Pair). cond (is_given value) (counted_in (unit_of e) o) None) figure_is,
          ap (above_cap e) figured ∙ c.1 ∙ ap (λ (o : Outcome Pair). is_given value && high_above (cap_of e) o) figure_is,
          ap is_refused figured ∙ c.2 ∙ ap (λ (o : Outcome Pair). is_given value && is_refused o) figure_is,
        )

  -- of a concentration in air
  air : AirConc
  air = the_ground.highest.air

  in_air : Figured
  in_air = air_figures_with (in_air_of receptor') air references'

  inhaled : Value
  inhaled = given_in scenario i (reference_slot e Air)

  air_is : of_two (air_figure_by e) (after product (worked_of receptor' (page.time_share e)) (is air.0)) (is (pair_of inhaled)) ≡ worked (pairs_at scenario j i) (page.air_line e)
  unfolding inhaled air receptor' media_by
  air_is =
      let figure : Outcome Pair → Outcome Pair → Pair → Outcome Pair = λ t a v. of_two (air_figure_by e) (after product t a) (is v) in
      ap (λ (t : Outcome Pair). figure t (is air.0) (pair_of inhaled)) (time_read e scenario j i)
      ∙ ap (λ (a : Outcome Pair). figure (worked (pairs_at scenario j i) (page.time_share e)) a (pair_of inhaled)) (sym (media_told scenario j i the_ground laid mean mean_is Hazard).air)
      ∙ ap (λ (v : Pair). figure (worked (pairs_at scenario j i) (page.time_share e)) (worked (pairs_at scenario j i) page.A) v) (sym (pair_printed scenario j i (reference_slot e Air) (reference_source e Air)))
      ∙ sym (air_line_by e (pairs_at scenario j i))

  air_figured : figure_for e in_air ≡ air_figure_of e (air_exposure_of (time_share_of e receptor') air) (optional inhaled)
  unfolding in_air inhaled references'
  air_figured =
      air_figure_for e receptor' air (chemical_in scenario i)
      ∙ ap (λ (v : Value). air_figure_of e (air_exposure_of (time_share_of e receptor') air) (optional v)) (sym (reference_printed scenario i e Air))

  air_agrees : Agrees scenario j i e Air in_air (page.air_line e)
  unfolding has_reference inhaled air_figure_of time_share_of
  air_agrees =
      let c = figure_columns e (air_figure_of e (air_exposure_of (time_share_of e receptor') air)) (λ v. of_two (air_figure_by e) (after product (worked_of receptor' (page.time_share e)) (is air.0)) (is v))
      refl (λ v. air_figure_page e (worked_of receptor' (page.time_share e)) air.0 v) inhaled in (
        ap (columns_of e) air_figured ∙ c.0 ∙ ap (λ (o : Outcome Pair). cond (is_given inhaled) (counted_in (unit_of e) o) None) air_is,
        ap (above_cap e) air_figured ∙ c.1 ∙ ap (λ (o : Outcome Pair). is_given inhaled && high_above (cap_of e) o) air_is,
        ap is_refused air_figured ∙ c.2 ∙ ap (λ (o : Outcome Pair). is_given inhaled && is_refused o) air_is,
      )

  -- by the year's guidance
  year_agrees : (y : Guidance) (p : Pathway) → Agrees scenario j i e p
      (figures_with (habits_of y receptor') p site' (absorbed_of chemical') receptor' the_ground.highest mean references') (page.line y e (stay_in scenario j) p)
  unfolding figures_with figures_by habits_of breathed_by page.line page.by_guidance dosed in_air air
  year_agrees Of2005 p = intake_agrees Of2005 p
  year_agrees Of2009 p = by_route_lem (Agrees scenario j i e) air_agrees p (intake_agrees Of2009 p)

module _ (scenario : Scenario) (j i : ℕ) (p : Pathway) (here : j < scenario.receptors.count) (told : stops_at (ground_for scenario i) (mean_for scenario i) scenario.receptors.count ≡ false) (e : Effect) where
  has : Laid (ground_for scenario i) (mean_for scenario i) scenario.receptors.count
  has = not_stopped (ground_for scenario i) (mean_for scenario i) scenario.receptors.count told

  mean : Media
  mean = media_from (mean_for scenario i j has.the_ground)

  source : Source
  source = source_of (values_of scenario.site) scenario.receptors (chemical_in scenario i)

  source_is : source ≡ source_with (chemical_in scenario i) has.the_ground.highest (means_of (values_of scenario.site) (values_of (chemical_in scenario i)) scenario.receptors has.the_ground)
  unfolding source source_of source_from ground_with ground_for
  source_is = ap (source_from (values_of scenario.site) (chemical_in scenario i) scenario.receptors) has.laid

  mean_at_lem : mean_at (source_with (chemical_in scenario i) has.the_ground.highest (means_of (values_of scenario.site) (values_of (chemical_in scenario i)) scenario.receptors has.the_ground)) j ≡ mean
  unfolding mean_at source_with means_of mean mean_for receptor_in
  mean_at_lem =
      filled_at (λ k. media_from (mean_with (values_of scenario.site) (values_of (chemical_in scenario i)) (get_or scenario.receptors.list k no_receptor) has.the_ground)) no_media
      scenario.receptors.count (replicate (most_receptors - scenario.receptors.count) no_media) j here

  figures_are : figures_from (site_of scenario.site) j (receptor_in scenario j).values source p
      ≡ figures_with (habits_of (guidance_in scenario) (receptor_in scenario j).values) p (values_of scenario.site) (absorbed_of (values_of (chemical_in scenario i))) (receptor_in scenario j).values has.the_ground.highest mean (references_of (chemical_in scenario i))
  unfolding figures_from site_of guidance_in source_with
  figures_are =
      ap (λ (s : Source). figures_from (site_of scenario.site) j (receptor_in scenario j).values s p) source_is
      ∙ ap (λ (m : Media). figures_with (habits_of (guidance_in scenario) (receptor_in scenario j).values) p (values_of scenario.site) (absorbed_of (values_of (chemical_in scenario i))) (receptor_in scenario j).values has.the_ground.highest m (references_of (chemical_in scenario i))) mean_at_lem

  line_agrees : Agrees scenario j i e p (figures_from (site_of scenario.site) j (receptor_in scenario j).values source p) (page.line (guidance_in scenario) e (stay_in scenario j) p)
  unfolding site' chemical' receptor' references' mean
  line_agrees =
      subst (λ (f : Figured). Agrees scenario j i e p f (page.line (guidance_in scenario) e (stay_in scenario j) p)) (sym figures_are)
      (year_agrees scenario j i e has.the_ground has.laid mean (has.worked j here) (guidance_in scenario) p)

pub line_figures : (scenario : Scenario) (j i : ℕ) (p : Pathway) → j < scenario.receptors.count → stops_at (ground_for scenario i) (mean_for scenario i) scenario.receptors.count ≡ false → (e : Effect) →
    (columns_of e (figure_for e (figures_from (site_of scenario.site) j (receptor_in scenario j).values (source_of (values_of scenario.site) scenario.receptors (chemical_in scenario i)) p)) ≡ columns_at e scenario j i p)
    × (above_cap e (figure_for e (figures_from (site_of scenario.site) j (receptor_in scenario j).values (source_of (values_of scenario.site) scenario.receptors (chemical_in scenario i)) p)) ≡ over_cap e scenario j i p)
    × (is_refused (figure_for e (figures_from (site_of scenario.site) j (receptor_in scenario j).values (source_of (values_of scenario.site) scenario.receptors (chemical_in scenario i)) p)) ≡ unworked e scenario j i p)
unfolding source columns_at over_cap unworked figure_at
line_figures scenario j i p here told e = line_agrees scenario j i p here told e
