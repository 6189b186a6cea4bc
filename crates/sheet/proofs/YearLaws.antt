-- The slot of the year (document 02, P6) decides the guidance and nothing else: a scenario whose guidance is of 2005 has the lines, totals and
-- 42 that it has with that slot blank. Assumes nothing.
use mathlib.Core.Path.{◌≡◌, refl, sym, ◌∙◌, ap, ap₂, subst}
use mathlib.Core.Bool.{Bool, true, false, cond, false≢true}
use mathlib.Core.List.{map}
use Prim.Native.Nat.{ℕ}
use lib.ListN.{get_or}
use lib.Seq.{get_or-set_other}
use Rattle.pair.specs.declared.Pair.{Pair}
use Rattle.pair.specs.Calls.{Outcome}
use Rattle.slots.specs.declared.Guidance.{Guidance}
use Rattle.slots.specs.declared.Guidance.TheVariants.{Of2005, Of2009}
use Rattle.slots.specs.declared.Owner.{Owner}
use Rattle.slots.specs.declared.Owner.TheVariants.{Site, Chemical, Receptor}
use Rattle.slots.specs.Slots.{Slot, table, same, is_in, place_in, owner_of, place_of}
use Rattle.slots.proofs.SlotLaws.{name_of, spelled}
use Rattle.equations.specs.declared.Pathway.{Pathway}
use Rattle.equations.specs.declared.Effect.{Effect}
use Rattle.equations.specs.declared.Effect.TheVariants.{Hazard, Cancer}
use Rattle.equations.specs.declared.Values.{Values}
use Rattle.equations.specs.Page.{line, by_guidance, reference_slot}
use Rattle.equations.specs.Readings.{worked, value_in, by_owner, inputs}
use Rattle.equations.proofs.Guided.{guided}
use Rattle.equations.proofs.Rising.{Alike, worked_same, the_year, year_free, year_steady}
use Rattle.cases.specs.declared.Value.{Value}
use Rattle.cases.specs.declared.Value.TheVariants.{Absent}
use Rattle.cases.specs.declared.Record.{Record}
use Rattle.cases.specs.declared.Case.{Case}
use Rattle.cases.specs.Cases.{value_at, receptor_at, guidance_of, clear_year, case_without_year}
use Rattle.std.specs.Prelude.{None}
use Rattle.scenario.specs.declared.Scenario.{Scenario}
use Rattle.scenario.specs.Scenario.{scenario_from, pair_of, rest_of, values_of, chemical_in, receptor_in, stay_in, guidance_in, given_in, pairs_at, time_given, deposition_of, entered_from}
use Rattle.sheet.specs.Sheet.{is_given, has_reference, figure_at, unit_of, counted_in, columns_at, total_at, lines_per_receptor, over_cap, report_line, line_too_large, over_lines, large_lines}
use Rattle.lists.specs.Lists.{chained}
use Rattle.scenario.proofs.InputLaws.{value_at_lem}
use Rattle.lists.proofs.ListLaws.{blank_at}

-- the scenario with the year's slot blank
abbrev pub year_blank : Scenario → Scenario
year_blank s = scenario_from (clear_year s.site) s.chemicals s.receptors

-- ---- the year's slot is the only one at its place of the site
of_site : (a b : Bool) → cond a Site (cond b Chemical Receptor) ≡ Site → a ≡ true
of_site true b h = refl
of_site false true h = cc
of_site false false h = cc

elsewhere : (s : Slot) → the_year s ≡ false → owner_of s ≡ Site → place_of s ≡ place_of "year" → ⊥
unfolding the_year owner_of place_of place_in is_in same table name_of
elsewhere s h o e =
    let found : is_in (table Site) s ≡ true = of_site (is_in (table Site) s) (is_in (table Chemical) s) o in
    let place : place_in (table Site) s ≡ place_of "year" = ap (λ (w : Owner). place_in (table w) s) (sym o) ∙ e in
    false≢true (sym h ∙ subst (λ (k : ℕ). same (get_or (map name_of (table Site)) k "") s ≡ true) place (spelled (table Site) s found))

-- so that blanking it leaves every other slot as printed, and the guidance is of 2005
module _ (r : Record) where
  other_kept : (s : Slot) → the_year s ≡ false → owner_of s ≡ Site → value_at (clear_year r) (place_of s) ≡ value_at r (place_of s)
  unfolding value_at clear_year
  other_kept s h o = get_or-set_other r.slots (place_of "year") (place_of s) Absent Absent (elsewhere s h o)

  year_absent : value_at (clear_year r) (place_of "year") ≡ Absent
  unfolding value_at clear_year
  year_absent = blank_at r.slots (place_of "year") Absent

-- ---- the lines
by_site : {A B : Type 0} (f : A → B) (o : Owner) (a a' b c : A) → (o ≡ Site → f a ≡ f a') → f (by_owner o a b c) ≡ f (by_owner o a' b c)
unfolding by_owner
by_site f Site a a' b c h = h refl
by_site f Chemical a a' b c h = refl
by_site f Receptor a a' b c h = refl

-- no reference value stands there
reference_other : (e : Effect) (p : Pathway) → the_year (reference_slot e p) ≡ false
unfolding reference_slot by_guidance the_year same
reference_other Hazard p = guided (λ (s : Slot). the_year s ≡ false) Of2009 p "RfDi" "RfDo" refl refl
reference_other Cancer p = guided (λ (s : Slot). the_year s ≡ false) Of2009 p "CSFi" "CSFo" refl refl

module _ (s : Scenario) where
  printed_same : (i : ℕ) (n : Slot) → the_year n ≡ false → given_in (year_blank s) i n ≡ given_in s i n
  unfolding given_in chemical_in
  printed_same i n h =
      by_site (λ (v : Value). v) (owner_of n) (value_at (clear_year s.site) (place_of n)) (value_at s.site (place_of n)) (value_at (chemical_in s i) (place_of n)) Absent
      (other_kept s.site n h)

  reference_same : (e : Effect) (i : ℕ) (p : Pathway) → has_reference e (year_blank s) i p ≡ has_reference e s i p
  unfolding has_reference
  reference_same e i p = ap is_given (printed_same i (reference_slot e p) (reference_other e p))

  pairs_alike : (j i : ℕ) → Alike the_year (pairs_at (year_blank s) j i) (pairs_at s j i)
  unfolding pairs_at inputs chemical_in receptor_in
  pairs_alike j i =
      record {
        value = λ n h.
            by_site (λ (v : Values). value_in v (place_of n)) (owner_of n) (values_of (clear_year s.site)) (values_of s.site) (values_of (chemical_in s i)) (receptor_in s j).values
            (λ o. value_at_lem (clear_year s.site) (place_of n) ∙ ap pair_of (other_kept s.site n h o) ∙ sym (value_at_lem s.site (place_of n)));
        rest = λ n h. ap rest_of (printed_same i n h);
        later = refl;
      }

  pub blank_guidance : guidance_in (year_blank s) ≡ Of2005
  unfolding guidance_in guidance_of
  blank_guidance = rw (year_absent s.site) refl

  module _ (of2005 : guidance_in s ≡ Of2005) where
    pub figure_same : (e : Effect) (j i : ℕ) (p : Pathway) → figure_at e (year_blank s) j i p ≡ figure_at e s j i p
    unfolding figure_at stay_in receptor_in
    figure_same e j i p =
        ap (λ (y : Guidance). worked (pairs_at (year_blank s) j i) (line y e (stay_in s j) p)) (blank_guidance ∙ sym of2005)
        ∙ worked_same the_year year_free (pairs_at (year_blank s) j i) (pairs_at s j i) (pairs_alike j i) (line (guidance_in s) e (stay_in s j) p) (year_steady (guidance_in s) e (stay_in s j) p)

    pub columns_same : (e : Effect) (j i : ℕ) (p : Pathway) → columns_at e (year_blank s) j i p ≡ columns_at e s j i p
    unfolding columns_at
    columns_same e j i p =
        ap₂ (λ (t : Bool) (o : Outcome Pair). cond t (counted_in (unit_of e) o) None) (reference_same e i p) (figure_same e j i p)

    pub total_same : (e : Effect) (j : ℕ) → total_at e (year_blank s) j ≡ total_at e s j
    unfolding total_at
    total_same e j = simp columns_same

    too_large_same : (j i p : ℕ) → line_too_large (year_blank s) j i p ≡ line_too_large s j i p
    unfolding line_too_large report_line over_cap lines_per_receptor
    too_large_same j i p = simp (reference_same, figure_same)

    pub large_same : large_lines (year_blank s) ≡ large_lines s
    unfolding large_lines over_lines chained
    large_same = simp too_large_same

-- ---- the receptors of a case do not hang on it
pub deposition_blank : (r : Record) → deposition_of (clear_year r) ≡ deposition_of r
unfolding deposition_of
deposition_blank r = ap time_given (other_kept r "tD" (unfold the_year same in refl) (unfold owner_of is_in same table in refl))

pub entered_blank : (case : Case) → entered_from (case_without_year case) ≡ entered_from case
unfolding case_without_year entered_from receptor_at
entered_blank case = rw (deposition_blank case.site) refl
