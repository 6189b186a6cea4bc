-- The weighting keeps what the equations ask of an input: of eight stages at most, whose values are printed, every slot of the composite is
-- answered, holds the exact composite's value and is as wide as a receptor's slot may be. The weighting is read a third time, on profiles.
-- Assumes nothing.
use mathlib.Core.Path.{◌≡◌, refl, sym, subst}
use mathlib.Core.Bool.{Bool, true, false, cond, not, ◌&&◌, ◌||◌}
use Prim.Native.Nat.{ℕ, zero, suc, ◌≤◌, ◌<◌}
use native.Mathlib.Omega.{arith}
use borrow.Author.Tests.{leb-true}
use lib.Dec.{leb, eqb}
use lib.IntN.{pos}
use Rattle.sizes.specs.Sizes.{most_stages}
use Rattle.pair.specs.declared.Pair.{Pair}
use Rattle.pair.specs.Fraction.{Fraction}
use Rattle.pair.specs.Calls.{Outcome}
use Rattle.pair.specs.Promises.{sums, products, quotients, call, exact_result, spread}
use Rattle.pair.proofs.Promises.{joint}
use Rattle.pair.proofs.Profiles.{Profile, of_number, positives, usable, joined, Good, answered_as, parts, good_op, good_more, good_number}
use Rattle.lists.proofs.Booleans.{both}
use Rattle.slots.specs.declared.Owner.TheVariants.{Receptor}
use Rattle.slots.specs.Slots.{Slot, owner_of, place_of, never_zero}
use Rattle.equations.specs.Formula.{pairs, fractions}
use Rattle.equations.specs.Readings.{by_owner}
use Rattle.equations.proofs.Profile.{profiles}
use Rattle.equations.proofs.LineLaws.{of_slot}
use Rattle.composite.specs.Composite.{summed, sum_of_years, mean, composed}

-- a sum of answered terms
summed_good : (f : ℕ → Profile) (o : ℕ → Outcome Pair) (x : ℕ → Fraction) (n : ℕ) → ((j : ℕ) → j ≤ n → Good (f j) (o j) (x j)) → (summed profiles f n).answered ≡ true
    → Good (summed profiles f n) (summed pairs o n) (summed fractions x n)
unfolding summed profiles pairs fractions call exact_result
summed_good f o x zero each h = each 0 (omega arith)
summed_good f o x (suc n) each h =
    let t = parts sums (summed profiles f n) (f (suc n)) h in
    good_op sums (summed profiles f n) (f (suc n)) (summed_good f o x n (λ j l. each j (omega arith)) t.first) (each (suc n) (omega arith)) h

-- ---- profiles: of the sum of the years, of 365 times it, and of a mean of values that are above 0 or may be 0
abbrev years : Profile
years = answered_as 20 1 true

total : ℕ → Profile
total n = summed profiles (λ j. years) n

days : ℕ → Profile
days n = joined products (of_number 365 (pos 0)) (total n)

weights : Bool → ℕ → Profile
weights b n = summed profiles (λ j. joined products years (answered_as 20 1 b)) n

average : Bool → ℕ → Profile
average b n = joined quotients (weights b n) (total n)

-- a receptor's slot takes it, one above 0 where b
taken : Bool → Profile → Bool
taken b P = P.answered && (leb P.size 74 && (leb P.width 35 && (not b || P.positive)))

all_taken : (b : Bool) (n : ℕ) → n < most_stages → (taken true (total n) && (taken true (days n) && (taken b (average b n) && ((weights b n).answered && (total n).answered)))) ≡ true
unfolding taken total days average weights summed profiles of_number joined joint spread positives usable
all_taken true zero h = refl
all_taken true (suc zero) h = refl
all_taken true (suc (suc zero)) h = refl
all_taken true (suc (suc (suc zero))) h = refl
all_taken true (suc (suc (suc (suc zero)))) h = refl
all_taken true (suc (suc (suc (suc (suc zero))))) h = refl
all_taken true (suc (suc (suc (suc (suc (suc zero)))))) h = refl
all_taken true (suc (suc (suc (suc (suc (suc (suc zero))))))) h = refl
all_taken true (suc (suc (suc (suc (suc (suc (suc (suc n)))))))) h = absurd (omega arith)
all_taken false zero h = refl
all_taken false (suc zero) h = refl
all_taken false (suc (suc zero)) h = refl
all_taken false (suc (suc (suc zero))) h = refl
all_taken false (suc (suc (suc (suc zero)))) h = refl
all_taken false (suc (suc (suc (suc (suc zero))))) h = refl
all_taken false (suc (suc (suc (suc (suc (suc zero)))))) h = refl
all_taken false (suc (suc (suc (suc (suc (suc (suc zero))))))) h = refl
all_taken false (suc (suc (suc (suc (suc (suc (suc (suc n)))))))) h = absurd (omega arith)

-- what is taken fits a receptor's slot
positive_if : (b t : Bool) → (not b || t) ≡ true → b ≡ true → t ≡ true
positive_if true t h e = h
positive_if false t h e = absurd (let z : ◌≡◌ {A = ℕ} 0 1 = cc in omega arith)

receptor_slot : (s : Slot) → owner_of s ≡ Receptor → of_slot s ≡ answered_as 74 35 (never_zero s)
unfolding of_slot by_owner
receptor_slot s e = rw e refl

fits_slot : (s : Slot) → owner_of s ≡ Receptor → (b : Bool) (P : Profile) → taken b P ≡ true → (never_zero s ≡ true → b ≡ true) → {o : Outcome Pair} {x : Fraction} → Good P o x → Good (of_slot s) o x
unfolding taken
fits_slot s e b P t above {o} {x} g =
    let p = both P.answered (leb P.size 74 && (leb P.width 35 && (not b || P.positive))) t in
    let q = both (leb P.size 74) (leb P.width 35 && (not b || P.positive)) p.1 in
    let r = both (leb P.width 35) (not b || P.positive) q.1 in
    subst (λ (Q : Profile). Good Q o x) (sym (receptor_slot s e))
    (good_more P (answered_as 74 35 (never_zero s)) (leb-true P.size 74 q.0) (leb-true P.width 35 r.0) (λ z. positive_if b P.positive r.1 (above z)) g)

choose : (t : Bool) (P : Profile) (a b : Outcome Pair) (x y : Fraction) → Good P a x → Good P b y → Good P (cond t a b) (cond t x y)
choose true P a b x y g h = g
choose false P a b x y g h = h

weighted_answered : (b : Bool) → (joined products years (answered_as 20 1 b)).answered ≡ true
unfolding joined joint usable
weighted_answered true = refl
weighted_answered false = refl

-- ---- the composite of stages 0 to last, whose exposure, years and values are good
module _ (stage : ℕ → ℕ → Outcome Pair) (exact : ℕ → ℕ → Fraction) (exposure : Outcome Pair) (exact_exposure : Fraction) (last : ℕ) (few : last < most_stages) (s : Slot) (e : owner_of s ≡ Receptor)
    (of_exposure : Good (answered_as 27 1 true) exposure exact_exposure)
    (of_years : (j : ℕ) → j ≤ last → Good years (stage j (place_of "years")) (exact j (place_of "years")))
    (of_values : (j : ℕ) → j ≤ last → Good (answered_as 20 1 (never_zero s)) (stage j (place_of s)) (exact j (place_of s))) where
  abbrev b : Bool
  b = never_zero s

  checks : (taken true (total last) ≡ true) × ((taken true (days last) ≡ true) × ((taken b (average b last) ≡ true) × (((weights b last).answered ≡ true) × ((total last).answered ≡ true))))
  checks =
      let p = both (taken true (total last)) (taken true (days last) && (taken b (average b last) && ((weights b last).answered && (total last).answered))) (all_taken b last few) in
      let q = both (taken true (days last)) (taken b (average b last) && ((weights b last).answered && (total last).answered)) p.1 in
      let r = both (taken b (average b last)) ((weights b last).answered && (total last).answered) q.1 in
      let t = both (weights b last).answered (total last).answered r.1 in
      (p.0, (q.0, (r.0, (t.0, t.1))))

  answered_of : (c : Bool) (P : Profile) → taken c P ≡ true → P.answered ≡ true
  unfolding taken
  answered_of c P t = (both P.answered (leb P.size 74 && (leb P.width 35 && (not c || P.positive))) t).0

  total_good : Good (total last) (sum_of_years pairs stage last) (sum_of_years fractions exact last)
  unfolding total sum_of_years
  total_good = summed_good (λ j. years) (λ j. stage j (place_of "years")) (λ j. exact j (place_of "years")) last of_years checks.1.1.1.1

  days_good : Good (days last) (pairs.times (pairs.number 365 (pos 0)) (sum_of_years pairs stage last)) (fractions.times (fractions.number 365 (pos 0)) (sum_of_years fractions exact last))
  unfolding days of_number pairs fractions call exact_result
  days_good = good_op products (of_number 365 (pos 0)) (total last) (good_number 365 (pos 0) refl) total_good (answered_of true (days last) checks.1.0)

  weights_good : Good (weights b last) (summed pairs (λ j. pairs.times (stage j (place_of "years")) (stage j (place_of s))) last)
      (summed fractions (λ j. fractions.times (exact j (place_of "years")) (exact j (place_of s))) last)
  unfolding weights pairs fractions call exact_result
  weights_good =
      summed_good (λ j. joined products years (answered_as 20 1 b)) (λ j. pairs.times (stage j (place_of "years")) (stage j (place_of s))) (λ j. fractions.times (exact j (place_of "years")) (exact j (place_of s))) last
      (λ j l. good_op products years (answered_as 20 1 b) (of_years j l) (of_values j l) (weighted_answered b)) checks.1.1.1.0

  mean_good : Good (average b last) (mean pairs stage last (place_of s)) (mean fractions exact last (place_of s))
  unfolding average mean pairs fractions call exact_result
  mean_good = good_op quotients (weights b last) (total last) weights_good total_good (answered_of b (average b last) checks.1.1.0)

  -- every slot of the composite is in range of the exact composite's value
  pub composed_good : Good (of_slot s) (composed pairs stage exposure last (place_of s)) (composed fractions exact exact_exposure last (place_of s))
  unfolding composed taken
  composed_good =
      choose (eqb (place_of s) (place_of "ED")) (of_slot s) _ _ _ _ (fits_slot s e true (total last) checks.0 (λ z. refl) total_good)
      (choose (eqb (place_of s) (place_of "ATc")) (of_slot s) _ _ _ _ (fits_slot s e true (days last) checks.1.0 (λ z. refl) days_good)
      (choose (eqb (place_of s) (place_of "T2")) (of_slot s) _ _ _ _ (fits_slot s e true (answered_as 27 1 true) refl (λ z. refl) of_exposure)
      (fits_slot s e b (average b last) checks.1.1.0 (λ z. z) mean_good)))
