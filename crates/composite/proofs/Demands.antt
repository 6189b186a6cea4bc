-- Demands 1 to 3 of the composite call: its receptor is sound for every deck that it reads, and so they are those of any call. Assumes nothing.
use Rattle.std.specs.Prelude.{Ok}
use mathlib.Core.Path.{◌≡◌, refl, sym, ap, ◌∙◌, subst}
use mathlib.Core.Bool.{Bool, true}
use mathlib.Core.List.{List}
use Prim.Native.Nat.{ℕ, zero, suc, ◌-◌, ◌^◌, ◌≤◌, ◌<◌}
use native.Mathlib.Omega.{arith}
use lib.Dec.{leb, lit≤}
use lib.IntN.{ℤ}
use lib.ListN.{get_or}
use Rattle.spelling.specs.Columns.{id_width}
use Rattle.pair.specs.declared.Pair.{Pair}
use Rattle.pair.specs.Fraction.{Fraction, minus, times, over}
use Rattle.pair.specs.Calls.{Outcome, is, entry, one_pair}
use Rattle.pair.proofs.Promises.{◌=ᶠ◌}
use Rattle.pair.proofs.Profiles.{Profile, Good, answered_as}
use Rattle.times.specs.declared.Years.{Years}
use Rattle.times.specs.Times as years
use Rattle.times.specs.Times.{amount}
use Rattle.sizes.specs.Sizes.{most_stages, slots_per_record}
use Rattle.slots.specs.declared.Owner.{Owner}
use Rattle.slots.specs.declared.Owner.TheVariants.{Receptor}
use Rattle.slots.specs.declared.Sort.TheVariants.{Composite}
use Rattle.slots.specs.Slots.{Slot, positive, table, same, is_in, place_in, entry_rule, rule_in, rule_at, owner_of, place_of, rule_of, rule_for, never_zero}
use Rattle.slots.proofs.SlotLaws.{places, inside}
use Rattle.equations.specs.Formula.{pairs, fractions}
use Rattle.equations.specs.Readings.{value_in, by_owner, inputs}
use Rattle.equations.proofs.LineLaws.{of_printed, of_slot, of_later}
use Rattle.cases.specs.declared.Case.{Case}
use Rattle.cases.specs.declared.Value.{Value}
use Rattle.cases.specs.declared.Value.TheVariants as Values
use Rattle.cases.specs.Conditions.{passed}
use Rattle.deck.specs.DeckCase.{Reading, read_of, case_of}
use Rattle.cases.specs.Cases.{value_at, chemical_at, receptor_at, owners_record, given}
use Rattle.cases.specs.Ranged.{Fits, Ranged}
use Rattle.deck.proofs.Accepted.{accepted}
use Rattle.lists.proofs.Tabulated.{tabulated}
use Rattle.scenario.specs.Scenario.{or_no_pair, or_no_time, pair_of, fraction_of, no_receptor, chemical_in, receptor_in, stay_in, pairs_at, scenario_with, exact_with, time_given, deposition_of, receptor_with, stay_by}
use Rattle.scenario.proofs.Sound.{Sound}
use Rattle.scenario.proofs.InputLaws.{value_good, value_entered, receptor_fits, made_sound}
use Rattle.scenario.proofs.DepositionLaws.{time_told, deposition_told, later_good, stay_exact}
use Rattle.report.specs.Forms.{scenario_of, exact_of}
use Rattle.report.specs.DemandTwo.{Demand2, Timed, Exposed}
use Rattle.report.specs.DemandThree.{Demand3}
use Rattle.report.proofs.CallLaws.{deck_read, case_is}
use Rattle.deck.proofs.DeckIds.{small_ids}
use Rattle.report.proofs.Exposures.{exposed}
use Rattle.report.proofs.DemandTwo.{Sounds, demand_2_of}
use Rattle.report.proofs.DemandThree.{demand_3_of}
use Rattle.composite.specs.Composite.{mean, summed, sum_of_years, composed, years_together, pair_stage, exact_stage, last_stage, stage_years, time_exposed, pair_composite, composite_receptor, composite_from, exact_composite, composite, composite_scenario, Composed}
use Rattle.composite.proofs.Weighing.{composed_good}
use Rattle.composite.proofs.StageTimes.{Lasting, printed_lasts, together_lasts, together_is, pair_good}

-- an answer is what is taken of it
answer_taken : (P : Profile) (o : Outcome Pair) (x : Fraction) → Good P o x → o ≡ is (or_no_pair o)
unfolding or_no_pair
answer_taken P o x g = g.told ∙ ap (λ (q : Outcome Pair). is (or_no_pair q)) (sym g.told)

years_owner : owner_of "years" ≡ Receptor
unfolding owner_of is_in same table
years_owner = refl

years_rule : rule_for Composite "years" ≡ positive
unfolding rule_for rule_at rule_in owner_of place_of place_in is_in same table
years_rule = refl

tD_rule : rule_for Composite "tD" ≡ positive
unfolding rule_for rule_at rule_in owner_of place_of place_in is_in same table
tD_rule = refl

years_above : never_zero "years" ≡ true
unfolding never_zero rule_of entry_rule place_of owner_of place_in is_in same table
years_above = refl

module _ (case : Case) (ranged : Ranged Composite case) where
  few : last_stage case < most_stages
  unfolding last_stage
  few = omega (arith, ranged.few_receptors, ranged.some_receptors)

  here : (j : ℕ) → j ≤ last_stage case → j < case.receptors.count
  unfolding last_stage
  here j h = omega (arith, ranged.some_receptors)

  -- a stage's values
  stage_good : (s : Slot) → owner_of s ≡ Receptor → (j : ℕ) → j ≤ last_stage case → Good (answered_as 20 1 (never_zero s)) (pair_stage case j (place_of s)) (exact_stage case j (place_of s))
  unfolding pair_stage exact_stage of_printed
  stage_good s e j h = value_good Composite s (value_at (receptor_at case j) (place_of s)) (receptor_fits Composite case ranged j (here j h) s e)

  years_good : (j : ℕ) → j ≤ last_stage case → Good (answered_as 20 1 true) (pair_stage case j (place_of "years")) (exact_stage case j (place_of "years"))
  years_good j h = subst (λ (b : Bool). Good (answered_as 20 1 b) (pair_stage case j (place_of "years")) (exact_stage case j (place_of "years"))) years_above (stage_good "years" years_owner j h)

  -- the exposure: the sum of the years, exact
  exact_sum : Fraction
  exact_sum = sum_of_years fractions (exact_stage case) (last_stage case)

  stage_lasts : (j : ℕ) → j ≤ last_stage case → Lasting 1 (stage_years case j) (exact_stage case j (place_of "years"))
  unfolding stage_years exact_stage
  stage_lasts j h = printed_lasts Composite "years" (value_at (receptor_at case j) (place_of "years")) years_rule (receptor_fits Composite case ranged j (here j h) "years" years_owner)

  exposure_lasts : Lasting (suc (last_stage case)) (time_exposed case) exact_sum
  unfolding time_exposed exact_sum sum_of_years
  exposure_lasts = together_lasts (stage_years case) (λ j. exact_stage case j (place_of "years")) (last_stage case) few stage_lasts (last_stage case) (omega arith)

  deposition_lasts : Lasting 1 (deposition_of case.site) (fraction_of (value_at case.site (place_of "tD")))
  unfolding deposition_of given owners_record owner_of is_in same table
  deposition_lasts = printed_lasts Composite "tD" (value_at case.site (place_of "tD")) tD_rule (ranged.fits 0 0 ranged.some_receptors ranged.some_chemicals "tD")

  -- the composite's
  slot_good : (s : Slot) → owner_of s ≡ Receptor → Good (of_slot s) (pair_composite case (place_of s)) (composed fractions (exact_stage case) exact_sum (last_stage case) (place_of s))
  unfolding pair_composite
  slot_good s e =
      composed_good (pair_stage case) (exact_stage case) (years.as_pair (time_exposed case)) exact_sum (last_stage case) few s e
      (pair_good (suc (last_stage case)) (time_exposed case) exact_sum exposure_lasts) years_good (stage_good s e)

  slot_taken : (s : Slot) → owner_of s ≡ Receptor → pair_composite case (place_of s) ≡ is (value_in (composite_receptor case).values (place_of s))
  unfolding composite_receptor receptor_with value_in places
  slot_taken s e =
      let k : place_of s < slots_per_record = subst (λ (o : Owner). place_of s < places o) e (inside s) in
      answer_taken (of_slot s) (pair_composite case (place_of s)) (composed fractions (exact_stage case) exact_sum (last_stage case) (place_of s)) (slot_good s e)
      ∙ ap (λ (p : Pair). is p) (sym (tabulated (λ i. or_no_pair (pair_composite case i)) one_pair slots_per_record (place_of s) k))

  receptor_good : (j : ℕ) → j < 1 → (s : Slot) → owner_of s ≡ Receptor
      → Good (of_slot s) (is (value_in (get_or (composite_from case).list j no_receptor).values (place_of s))) (exact_composite case j s)
  unfolding composite_from exact_composite exact_sum
  receptor_good zero h s e = subst (λ (o : Outcome Pair). Good (of_slot s) o (composed fractions (exact_stage case) exact_sum (last_stage case) (place_of s))) (slot_taken s e) (slot_good s e)
  receptor_good (suc j) h s e = absurd (omega arith)

  -- T2 − tD
  abbrev tD : Fraction
  tD = fraction_of (value_at case.site (place_of "tD"))

  receptor_later : (j : ℕ) → j < 1 → (of_later (get_or (composite_from case).list j no_receptor).stay).answered ≡ true
      → Good (of_later (get_or (composite_from case).list j no_receptor).stay) (is (get_or (composite_from case).list j no_receptor).later) (minus (exact_composite case j "T2") tD)
  unfolding composite_from composite_receptor receptor_with exact_composite composed exact_sum place_of owner_of place_in is_in same table
  receptor_later zero h = later_good (time_exposed case) (deposition_of case.site) exact_sum tD exposure_lasts.exact deposition_lasts.exact
  receptor_later (suc j) h = absurd (omega arith)

  receptor_chosen : (j : ℕ) → j < 1 → (get_or (composite_from case).list j no_receptor).stay ≡ stay_by (exact_composite case j "T2") tD
  unfolding composite_from composite_receptor receptor_with exact_composite composed exact_sum place_of owner_of place_in is_in same table
  receptor_chosen zero h = stay_exact (time_exposed case) (deposition_of case.site) exact_sum tD exposure_lasts.exact deposition_lasts.exact
  receptor_chosen (suc j) h = absurd (omega arith)

  composite_sound : Sound (scenario_with case (composite_from case)) (exact_with case (exact_composite case))
  unfolding composite_from
  composite_sound = made_sound Composite case ranged (composite_from case) (exact_composite case) (lit≤ tt) (lit≤ tt) receptor_good receptor_later receptor_chosen

  stage_entered : (j : ℕ) → j < case.receptors.count → (s : Slot) (digits : ℕ) (power : ℤ) → owner_of s ≡ Receptor
      → value_at (receptor_at case j) (place_of s) ≡ Values.Given power digits → entry digits power ≡ pair_stage case j (place_of s)
  unfolding pair_stage
  stage_entered j h s digits power e there =
      value_entered Composite s digits power (subst (Fits (rule_for Composite s)) there (receptor_fits Composite case ranged j h s e))
      ∙ ap (λ (v : Value). is (pair_of v)) (sym there)

  made_rule : (i : ℕ) (s : Slot) → owner_of s ≡ Receptor → pair_composite case (place_of s) ≡ is ((pairs_at (composite_scenario case) 0 i).value s)
  unfolding pairs_at inputs composite_scenario scenario_with receptor_in composite_from by_owner
  made_rule i s e = rw e (slot_taken s e)

  -- T2 and T2 − tD are taken of times that are told
  stage_timed : (j : ℕ) → j < case.receptors.count → Timed (value_at (receptor_at case j) (place_of "years"))
  stage_timed j h = record { taken = (time_told Composite "years" years_rule (value_at (receptor_at case j) (place_of "years")) (receptor_fits Composite case ranged j h "years" years_owner)).told }

  stages_added : (j : ℕ) → suc j < case.receptors.count → years.together (years_together (stage_years case) j) (stage_years case (suc j)) ≡ is (years_together (stage_years case) (suc j))
  unfolding last_stage
  stages_added j h = together_is (stage_years case) (λ i. exact_stage case i (place_of "years")) (last_stage case) few stage_lasts j (omega arith)

  exposure_taken : (i : ℕ) → years.as_pair (time_exposed case) ≡ is ((pairs_at (composite_scenario case) 0 i).value "T2")
  unfolding pair_composite composed place_of owner_of place_in is_in same table
  exposure_taken i = made_rule i "T2" refl

  set_against : (i : ℕ) → Exposed (time_exposed case) (deposition_of case.site) (stay_in (composite_scenario case) 0) (pairs_at (composite_scenario case) 0 i).later
  unfolding stay_in pairs_at composite_scenario scenario_with receptor_in composite_from composite_receptor receptor_with
  set_against i = exposed (time_exposed case) (deposition_of case.site) exposure_lasts.exact.time deposition_lasts.exact.time

  composite_made : Composed case
  unfolding composite_scenario scenario_with receptor_in composite_from composite_receptor receptor_with
  composite_made =
      record {
        alone = refl;
        named = refl;
        entered = stage_entered;
        rule = made_rule;
        staged = stage_timed;
        added = stages_added;
        deposition = record { taken = (deposition_told Composite case ranged).told };
        taken = exposure_taken;
        exposed = set_against;
      }

ids : (deck : List ℕ) → Ranged Composite (case_of deck) → (j : ℕ) → j < 1 → (receptor_in (scenario_of composite deck) j).id < 10 ^ id_width
unfolding receptor_in scenario_of composite scenario_with composite_from composite_receptor receptor_with
ids deck ranged zero h = (small_ids deck).0 0 ranged.some_receptors
ids deck ranged (suc j) h = absurd (omega arith)

pub composite_sounds : Sounds composite Composed
unfolding composite scenario_of exact_of scenario_with composite_from chemical_in chemical_at
composite_sounds =
    record {
      sound = λ deck e. composite_sound (case_of deck) (accepted Composite deck e);
      ids = λ deck e. record { receptor = ids deck (accepted Composite deck e); chemical = (small_ids deck).1 };
      made = λ deck e. composite_made (case_of deck) (accepted Composite deck e);
      form = refl;
    }

-- a deck that is read has one to eight stages
pub stages_few : (deck buffer : List ℕ) (case : Case) → ◌≡◌ {A = Reading} (Ok case) (read_of composite.sort deck) → (1 ≤ case.receptors.count) × (case.receptors.count ≤ most_stages)
unfolding composite
stages_few deck buffer case e =
    let ranged = accepted Composite deck (deck_read composite deck buffer case e) in
    rw (case_is composite deck buffer case e) (ranged.some_receptors, ranged.few_receptors)

pub demand_2 : Demand2 composite Composed
demand_2 = demand_2_of composite Composed composite_sounds

pub demand_3 : Demand3 composite
demand_3 = demand_3_of composite Composed composite_sounds

-- One stage alone: the exact composite has that receptor's own values. By the working rule years × value is rounded before it is divided, so
-- that this holds of the pairs only where no figure is lost.
pub one_stage : (stage : ℕ → ℕ → Fraction) (k : ℕ) → mean fractions stage 0 k =ᶠ stage 0 k
unfolding mean summed sum_of_years fractions times over
one_stage stage k = record { across = omega arith }
