-- An ordinary deck's receptors: their slots' pairs are the entries of what is printed, in range of it. Assumes nothing.
use mathlib.Core.Path.{◌≡◌, refl, sym, ap, ◌∙◌, subst}
use mathlib.Core.Bool.{true}
use mathlib.Core.List.{[], ◌∷◌}
use Prim.Native.Nat.{ℕ, ◌≤◌, ◌<◌}
use native.Mathlib.Omega.{arith}
use lib.Dec.{lit<}
use lib.IntN.{ℤ}
use lib.ListN.{length, get_or}
use Rattle.sizes.specs.Sizes.{most_receptors}
use Rattle.pair.specs.declared.Pair.{Pair}
use Rattle.pair.specs.Fraction.{minus}
use Rattle.pair.specs.Calls.{is, entry}
use Rattle.pair.proofs.Profiles.{Good}
use Rattle.slots.specs.declared.Sort.TheVariants.{Ordinary}
use Rattle.slots.specs.Slots.{Slot, positive, table, same, is_in, place_in, rule_in, rule_at, rule_for, owner_of, place_of}
use Rattle.slots.specs.declared.Owner.TheVariants.{Receptor}
use Rattle.equations.specs.Readings.{value_in, by_owner, inputs}
use Rattle.equations.proofs.LineLaws.{of_slot, of_later, printed_good}
use Rattle.lists.proofs.ListLaws.{read_any}
use Rattle.cases.specs.declared.Case.{Case}
use Rattle.cases.specs.declared.Record.{Record}
use Rattle.cases.specs.declared.Value.TheVariants.{Given}
use Rattle.lists.specs.Lists.{tabulate}
use Rattle.cases.specs.Cases.{no_record, value_at, receptor_at, owners_record}
use Rattle.cases.specs.CaseConditions.{lacks}
use Rattle.cases.specs.Ranged.{Fits, Ranged}
use Rattle.cases.proofs.Complete.{lacks_none}
use Rattle.equations.specs.declared.Values.{Values}
use mathlib.Core.Bool.{Bool, cond}
use Rattle.scenario.specs.declared.Receptor as receptors
use Rattle.scenario.specs.declared.Receptors as many
use Rattle.scenario.specs.Scenario.{pair_of, values_of, no_pairs, values_if, no_receptor, receptor_in, pairs_at, time_given, deposition_of, receptor_with, entered, scenario_with, entered_from, ordinary_of, fraction_of, exact_from, exact_at, stay_by}
use Rattle.scenario.proofs.Sound.{Sound}
use Rattle.lists.proofs.Tabulated.{tabulated}
use Rattle.scenario.proofs.InputLaws.{value_good, value_entered, value_at_lem, receptor_fits, made_sound}
use Rattle.scenario.proofs.DepositionLaws.{Told, time_told, deposition_told, later_good, stay_exact}

T2_rule : rule_for Ordinary "T2" ≡ positive
unfolding rule_for rule_at rule_in owner_of place_of place_in is_in same table
T2_rule = refl

T2_owner : owner_of "T2" ≡ Receptor
unfolding owner_of is_in same table
T2_owner = refl

module _ (case : Case) (ranged : Ranged Ordinary case) where
  pub entered_at : (j : ℕ) → j < case.receptors.count → get_or (entered_from case).list j no_receptor ≡ entered (deposition_of case.site) (receptor_at case j)
  unfolding entered_from
  entered_at j h = tabulated (λ k. entered (deposition_of case.site) (receptor_at case k)) no_receptor most_receptors j (omega (arith, ranged.few_receptors))

  -- no receptor lacks a value
  own_values : (j : ℕ) → j < case.receptors.count → values_if (lacks Ordinary Receptor (receptor_at case j)) (receptor_at case j) ≡ values_of (receptor_at case j)
  unfolding values_if owners_record
  own_values j h = ap (λ (b : Bool). cond b no_pairs (values_of (receptor_at case j))) (lacks_none Ordinary case ranged j 0 h ranged.some_chemicals Receptor)

  entered_good : (j : ℕ) → j < case.receptors.count → (s : Slot) → owner_of s ≡ Receptor
      → Good (of_slot s) (is (value_in (get_or (entered_from case).list j no_receptor).values (place_of s))) (exact_from case j s)
  unfolding exact_from entered receptor_with
  entered_good j h s e =
      let at : value_in (get_or (entered_from case).list j no_receptor).values (place_of s) ≡ pair_of (value_at (receptor_at case j) (place_of s)) =
      ap (λ (r : receptors.Receptor). value_in r.values (place_of s)) (entered_at j h)
      ∙ ap (λ (v : Values). value_in v (place_of s)) (own_values j h)
      ∙ value_at_lem (receptor_at case j) (place_of s)
      in
      subst (λ (p : Pair). Good (of_slot s) (is p) (fraction_of (value_at (receptor_at case j) (place_of s)))) (sym at)
      (printed_good s (value_good Ordinary s (value_at (receptor_at case j) (place_of s)) (receptor_fits Ordinary case ranged j h s e)))

  receptor_at_lem : (j i : ℕ) → j < case.receptors.count → (s : Slot) → owner_of s ≡ Receptor
      → (pairs_at (ordinary_of case) j i).value s ≡ pair_of (value_at (receptor_at case j) (place_of s))
  unfolding pairs_at inputs ordinary_of scenario_with receptor_in by_owner entered receptor_with
  receptor_at_lem j i h s e =
      rw e
      (ap (λ (r : receptors.Receptor). value_in r.values (place_of s)) (entered_at j h) ∙ ap (λ (v : Values). value_in v (place_of s)) (own_values j h) ∙ value_at_lem (receptor_at case j) (place_of s))

  -- each slot's pair is the entry of what is printed there
  pub receptor_entered : (j i : ℕ) → j < case.receptors.count → (s : Slot) (digits : ℕ) (power : ℤ) → owner_of s ≡ Receptor
      → value_at (receptor_at case j) (place_of s) ≡ Given power digits → entry digits power ≡ is ((pairs_at (ordinary_of case) j i).value s)
  receptor_entered j i h s digits power e there =
      value_entered Ordinary s digits power (subst (Fits (rule_for Ordinary s)) there (receptor_fits Ordinary case ranged j h s e))
      ∙ ap (λ (q : Pair). is q) (sym (receptor_at_lem j i h s e ∙ ap pair_of there))

  -- T2 and tD, exact
  pub exposure_told : (j : ℕ) → j < case.receptors.count → Told (value_at (receptor_at case j) (place_of "T2"))
  exposure_told j h = time_told Ordinary "T2" T2_rule (value_at (receptor_at case j) (place_of "T2")) (receptor_fits Ordinary case ranged j h "T2" T2_owner)

  later_entered : (j : ℕ) → j < case.receptors.count → (of_later (get_or (entered_from case).list j no_receptor).stay).answered ≡ true
      → Good (of_later (get_or (entered_from case).list j no_receptor).stay) (is (get_or (entered_from case).list j no_receptor).later) (minus (exact_from case j "T2") (fraction_of (value_at case.site (place_of "tD"))))
  unfolding entered receptor_with deposition_of exact_from
  later_entered j h =
      rw (entered_at j h)
      (later_good (time_given (value_at (receptor_at case j) (place_of "T2"))) (deposition_of case.site) (exact_from case j "T2") (fraction_of (value_at case.site (place_of "tD")))
      (exposure_told j h).exact (deposition_told Ordinary case ranged).exact)

  chosen_entered : (j : ℕ) → j < case.receptors.count → (get_or (entered_from case).list j no_receptor).stay ≡ stay_by (exact_from case j "T2") (fraction_of (value_at case.site (place_of "tD")))
  unfolding entered receptor_with deposition_of exact_from
  chosen_entered j h =
      rw (entered_at j h)
      (stay_exact (time_given (value_at (receptor_at case j) (place_of "T2"))) (deposition_of case.site) (exact_from case j "T2") (fraction_of (value_at case.site (place_of "tD")))
      (exposure_told j h).exact (deposition_told Ordinary case ranged).exact)

  -- each has its own id, and none is left out
  pub own_id : (j : ℕ) → j < case.receptors.count → (receptor_in (ordinary_of case) j).id ≡ (receptor_at case j).id
  unfolding receptor_in ordinary_of scenario_with entered receptor_with
  own_id j h = ap (λ (r : receptors.Receptor). r.id) (entered_at j h)

  pub ordinary_sound : Sound (ordinary_of case) (exact_at case)
  unfolding ordinary_of exact_at entered_from
  ordinary_sound = made_sound Ordinary case ranged (entered_from case) (exact_from case) ranged.some_receptors ranged.few_receptors entered_good later_entered chosen_entered

-- the receptors as they are made: the first four records entered
pub entered_all : (case : Case) (blank : Record) → most_receptors ≤ length case.receptors.records → (a b c d : receptors.Receptor)
    → a ≡ entered (deposition_of case.site) (get_or case.receptors.records 0 blank) → b ≡ entered (deposition_of case.site) (get_or case.receptors.records 1 blank)
    → c ≡ entered (deposition_of case.site) (get_or case.receptors.records 2 blank) → d ≡ entered (deposition_of case.site) (get_or case.receptors.records 3 blank)
    → ◌≡◌ {A = many.Receptors} (record { count = case.receptors.count; list = a ∷ b ∷ c ∷ d ∷ [] }) (entered_from case)
unfolding entered_from tabulate receptor_at
entered_all case blank long a b c d p q r s =
    let at : (k : ℕ) → k < most_receptors → get_or case.receptors.records k blank ≡ get_or case.receptors.records k no_record = λ k h. read_any case.receptors.records k (omega arith) blank no_record in
    rw (p, q, r, s, at 0 (lit< tt), at 1 (lit< tt), at 2 (lit< tt), at 3 (lit< tt)) refl
