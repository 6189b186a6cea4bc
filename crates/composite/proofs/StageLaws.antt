-- The stages as they stand in a case's records, and sums over them. Assumes nothing.
use mathlib.Core.Path.{◌≡◌, refl, sym, ap, ap₂, ◌∙◌}
use mathlib.Core.List.{List, [], ◌∷◌}
use Prim.Native.Nat.{ℕ, zero, suc, ◌+◌, ◌-◌, ◌≤◌, ◌<◌}
use native.Mathlib.Omega.{arith}
use native.Mathlib.Numerals.{add-one}
use lib.IntN.{pos}
use lib.ListN.{length, get_or}
use borrow.Author.Tests.{ne_eqb}
use Rattle.std.specs.Prelude.{Result}
use Rattle.pair.specs.declared.Pair.{Pair}
use Rattle.pair.specs.declared.Refused.{Refused}
use Rattle.pair.specs.Calls.{Outcome, is, one_pair, answer, after, entry, sum, product, quotient}
use Rattle.times.specs.declared.Years.{Years}
use Rattle.times.specs.Times.{together, as_pair}
use Rattle.slots.specs.Slots.{table, same, is_in, place_in, owner_of, place_of}
use Rattle.equations.specs.Formula.{pairs}
use Rattle.lists.proofs.ListLaws.{read_any}
use Rattle.equations.specs.declared.Values.{Values}
use Rattle.cases.specs.declared.Case.{Case}
use Rattle.cases.specs.declared.Record.{Record}
use Rattle.sizes.specs.Sizes.{slots_per_record, most_stages}
use Rattle.lists.specs.Lists.{tabulate}
use Rattle.cases.specs.Cases.{no_record, value_at, receptor_at}
use Rattle.scenario.specs.declared.Receptor.{Receptor}
use Rattle.scenario.specs.declared.Receptors.{Receptors}
use Rattle.scenario.specs.Scenario.{or_no_pair, pair_of, no_receptor, or_no_time, time_given, deposition_of, receptor_with}
use Rattle.lists.proofs.Tabulated.{tabulated}
use Rattle.composite.specs.Composite.{summed, sum_of_years, mean, composed, years_together, pair_stage, last_stage, stage_years, time_exposed, pair_composite, composite_receptor, composite_from}
use Rattle.composite.specs.Inner.{pair_in, stage_in, years_in, year_at, weight_at, time_in, composed_in}

-- terms that agree have one sum
summed_same : (f g : ℕ → Outcome Pair) (n : ℕ) → ((j : ℕ) → j ≤ n → f j ≡ g j) → summed pairs f n ≡ summed pairs g n
unfolding summed
summed_same f g zero h = h 0 (omega arith)
summed_same f g (suc n) h = ap₂ pairs.plus (summed_same f g n (λ j l. h j (omega arith))) (h (suc n) (omega arith))

-- a stage's pair and its years, whatever stands for a missing one
pub value_is : (records : List Record) (blank : Record) (j k : ℕ) → j < length records → pair_of (value_at (get_or records j blank) k) ≡ pair_in records j k
unfolding pair_in
value_is records blank j k h = ap (λ (r : Record). pair_of (value_at r k)) (read_any records j h blank no_record)

pub year_is : (years : List Pair) (blank : Pair) (j : ℕ) → j < length years → is (get_or years j blank) ≡ year_at years j
unfolding year_at
year_is years blank j h = ap (λ (p : Pair). is p) (read_any years j h blank one_pair)

pub weight_is : (records : List Record) (years : List Pair) (blank : Record) (none : Pair) (j k : ℕ) → j < length records → j < length years → (value : Pair)
    → value ≡ pair_of (value_at (get_or records j blank) k) → after product (is (get_or years j none)) (is value) ≡ weight_at records years k j
unfolding weight_at stage_in
weight_is records years blank none j k h l value e = ap₂ (after product) (year_is years none j l) (ap (λ (p : Pair). is p) (e ∙ value_is records blank j k h))

-- of the years that were entered, the sums are those of the stages
module _ (records : List Record) (years : List Pair) (entered : years ≡ years_in records) where
  year_entered : (j : ℕ) → j < most_stages → year_at years j ≡ stage_in records j (place_of "years")
  unfolding year_at stage_in years_in
  year_entered j h = ap (λ (p : Pair). is p) (ap (λ (l : List Pair). get_or l j one_pair) entered ∙ tabulated (λ i. pair_in records i (place_of "years")) one_pair most_stages j h)

  pub years_summed : (last : ℕ) → last < most_stages → summed pairs (year_at years) last ≡ sum_of_years pairs (stage_in records) last
  unfolding sum_of_years
  years_summed last h = summed_same (year_at years) (λ j. stage_in records j (place_of "years")) last (λ j l. year_entered j (omega arith))

  pub weights_summed : (last k : ℕ) → last < most_stages
      → summed pairs (weight_at records years k) last ≡ summed pairs (λ j. after product (stage_in records j (place_of "years")) (stage_in records j k)) last
  unfolding weight_at
  weights_summed last k h =
      summed_same (weight_at records years k) (λ j. after product (stage_in records j (place_of "years")) (stage_in records j k)) last
      (λ j l. ap (λ (o : Outcome Pair). after product o (stage_in records j k)) (year_entered j (omega arith)))

-- one stage more
pub next_sum : (f : ℕ → Outcome Pair) (so_far new : Result Pair Refused) (term : Outcome Pair) (n : ℕ) → answer so_far ≡ summed pairs f n → term ≡ f (n + 1) → answer new ≡ after sum (answer so_far) term
    → answer new ≡ summed pairs f (n + 1)
unfolding summed pairs
next_sum f so_far new term n a b e = e ∙ ap₂ (after sum) a (b ∙ ap f (add-one n)) ∙ sym (ap (summed pairs f) (add-one n))

-- ---- the years of the stages as printed, added
pub printed_is : (records : List Record) (blank : Record) (j : ℕ) → j < length records → time_given (value_at (get_or records j blank) (place_of "years")) ≡ time_in records j
unfolding time_in
printed_is records blank j h = ap (λ (r : Record). time_given (value_at r (place_of "years"))) (read_any records j h blank no_record)

pub next_years : (f : ℕ → Years) (so_far new term : Years) (n : ℕ) → so_far ≡ years_together f n → term ≡ f (n + 1) → new ≡ or_no_time (together so_far term) → new ≡ years_together f (n + 1)
unfolding years_together
next_years f so_far new term n a b e = e ∙ ap or_no_time (ap₂ together a (b ∙ ap f (add-one n))) ∙ sym (ap (years_together f) (add-one n))

-- ---- the composite's value at a place
module _ (stage : ℕ → ℕ → Outcome Pair) (exposure : Outcome Pair) (last k : ℕ) (total : Result Pair Refused) (total_is : answer total ≡ sum_of_years pairs stage last) where
  -- ED
  pub total_years : k ≡ 1 → answer total ≡ composed pairs stage exposure last k
  unfolding composed place_of owner_of place_in is_in same table
  total_years e = total_is ∙ rw e refl

  -- ATc
  pub total_days : k ≡ 2 → (days r : Result Pair Refused) → answer days ≡ entry 365 (pos 0) → answer r ≡ after product (answer days) (answer total) → answer r ≡ composed pairs stage exposure last k
  unfolding composed pairs place_of owner_of place_in is_in same table
  total_days e days r d t = t ∙ ap₂ (after product) d total_is ∙ rw e refl

  -- T2
  pub total_exposure : k ≡ 21 → exposure ≡ composed pairs stage exposure last k
  unfolding composed place_of owner_of place_in is_in same table
  total_exposure e = rw e refl

  -- any other slot
  pub weighted_mean : (k ≡ 1 → ⊥) → (k ≡ 2 → ⊥) → (k ≡ 21 → ⊥) → (w r : Result Pair Refused) → answer w ≡ summed pairs (λ j. after product (stage j (place_of "years")) (stage j k)) last
      → answer r ≡ after quotient (answer w) (answer total) → answer r ≡ composed pairs stage exposure last k
  unfolding composed mean pairs place_of owner_of place_in is_in same table
  weighted_mean a b c w r s q = q ∙ ap₂ (after quotient) s total_is ∙ rw (ne_eqb k 1 a, ne_eqb k 2 b, ne_eqb k 21 c) refl

-- ---- the receptor as it is made
module _ (case : Case) (blank : Record) (h : 0 < length case.receptors.records) (values' : Values) (exposure : Years) (rounded : Outcome Pair)
    (exposure_is : exposure ≡ years_together (time_in case.receptors.records) (case.receptors.count - 1)) (rounded_is : rounded ≡ as_pair exposure)
    (values_are : values'.list ≡ composed_in case.receptors.records rounded (case.receptors.count - 1)) where
  exposure_made : exposure ≡ time_exposed case
  unfolding time_exposed stage_years time_in last_stage receptor_at
  exposure_made = exposure_is

  values_made : ◌≡◌ {A = Values} values' (record { list = tabulate slots_per_record (λ k. or_no_pair (pair_composite case k)) })
  unfolding pair_composite composed_in stage_in pair_in pair_stage last_stage receptor_at
  values_made =
      let e = values_are ∙ ap (λ (o : Outcome Pair). composed_in case.receptors.records o (case.receptors.count - 1)) (rounded_is ∙ ap as_pair exposure_made) in
      λ i. record { list = e i }

  pub composite_made : (deposition : Years) (receptor none : Receptor) → deposition ≡ deposition_of case.site
      → receptor ≡ receptor_with (get_or case.receptors.records 0 blank).id values' exposure deposition → none ≡ no_receptor
      → ◌≡◌ {A = Receptors} (record { count = 1; list = receptor ∷ none ∷ none ∷ none ∷ [] }) (composite_from case)
  unfolding composite_from composite_receptor receptor_at
  composite_made deposition receptor none d r n =
      let first : (get_or case.receptors.records 0 blank).id ≡ (get_or case.receptors.records 0 no_record).id = ap (λ (r : Record). r.id) (read_any case.receptors.records 0 h blank no_record) in
      let made : receptor ≡ composite_receptor case = r ∙ (λ i. receptor_with (first i) (values_made i) (exposure_made i) (d i)) in
      λ i. record { count = 1; list = made i ∷ n i ∷ n i ∷ n i ∷ [] }
