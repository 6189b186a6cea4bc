-- The terms of a series on pairs: each term and each sum fits its profile and holds the exact one, a step lowers the low end at least as an exact
-- step does, and so for x at most 64 the sum is as narrow as `Sharper` has it. Assumes nothing.
use mathlib.Core.Path.{◌≡◌, refl, sym, ◌∙◌, ap}
use mathlib.Core.Bool.{true}
use Prim.Native.Nat.{ℕ, zero, suc, ◌+◌, ◌*◌, ◌^◌, ◌≤◌, ◌<◌}
use native.Mathlib.Nat.{mul-le-mul_right, le_of_mul-le-mul_right, mul-pos, one-le-pow, le_dest, add-zero, add-suc}
use native.Mathlib.Omega.{arith}
use lib.Dec.{lit<}
use lib.IntN.{pos, negsuc}
use Rattle.pair.specs.declared.Pair.{Pair}
use Rattle.pair.specs.Fraction.{Fraction, ◌≤ᶠ◌, plus}
use Rattle.pair.specs.Number.{value, depth}
use Rattle.pair.specs.Calls.{Outcome, is, refused, after, entry}
use Rattle.pair.specs.Promises.{Operation, sums, products, quotients, call, exact_result, low_end, high_end, with_low, with_high, Beside, scaled, Near, spread}
use Rattle.pair.proofs.Promises.{Along, value_proper, through, ordered, below_itself, rounds, ends_proper, exactly_rises, entry_exact}
use Rattle.pair.proofs.Widths.{near_down, near_up}
use Rattle.pair.proofs.Profiles.{Profile, of_number, joined, Good, parts, good_op, good_number}
use Rattle.equations.specs.Formula.{pairs, fractions}
use Rattle.equations.specs.Series.{Series, phi, psi, first, step, terms}
use Rattle.equations.proofs.Profile.{profiles}
use Rattle.equations.proofs.Tail.{term, total, step_most, step_proper}
use Rattle.equations.proofs.Sharper.{Summed, sum_narrow}

first_good : (s : Series) → Good (first profiles s) (first pairs s) (first fractions s)
unfolding first profiles pairs fractions of_number
first_good phi = good_number 1 (pos 0) refl
first_good psi = good_number 5 (negsuc 0) refl

step_good : (s : Series) (P Q : Profile) (n : ℕ) {o u : Outcome Pair} {x t : Fraction} → Good P o x → Good Q u t → (step profiles s P n Q).answered ≡ true →
    Good (step profiles s P n Q) (step pairs s o n u) (step fractions s x n t)
unfolding step profiles pairs fractions call exact_result
step_good phi P Q n g t h =
    let risen : Profile = joined products Q P in
    let a = parts quotients risen (of_number (n + 2) (pos 0)) h in
    good_op quotients risen (of_number (n + 2) (pos 0)) (good_op products Q P t g a.first) (good_number (n + 2) (pos 0) a.second) h
step_good psi P Q n g t h =
    let risen : Profile = joined products Q P in
    let led : Profile = joined products risen (of_number (n + 2) (pos 0)) in
    let divided : Profile = joined quotients led (of_number (n + 1) (pos 0)) in
    let a = parts quotients divided (of_number (n + 3) (pos 0)) h in
    let b = parts quotients led (of_number (n + 1) (pos 0)) a.first in
    let c = parts products risen (of_number (n + 2) (pos 0)) b.first in
    good_op quotients divided (of_number (n + 3) (pos 0))
    (good_op quotients led (of_number (n + 1) (pos 0))
    (good_op products risen (of_number (n + 2) (pos 0)) (good_op products Q P t g c.first) (good_number (n + 2) (pos 0) c.second) b.first)
    (good_number (n + 1) (pos 0) b.second) a.first)
    (good_number (n + 3) (pos 0) a.second) h

-- The n-th term and the n-th sum.
pub terms_good : (s : Series) (P : Profile) {o : Outcome Pair} {x : Fraction} → Good P o x → (n : ℕ) → (terms profiles s P n).total.answered ≡ true →
    Good (terms profiles s P n).term (terms pairs s o n).term (term s x n) × Good (terms profiles s P n).total (terms pairs s o n).total (total s x n)
unfolding terms profiles pairs fractions call exact_result
terms_good s P g zero h = (first_good s, first_good s)
terms_good s P g (suc n) h =
    let before : Profile = (terms profiles s P n).term in
    let so_far : Profile = (terms profiles s P n).total in
    let next : Profile = step profiles s P n before in
    let a = parts sums so_far next h in
    let c = terms_good s P g n a.first in
    let t = step_good s P before n g c.0 a.second in
    (t, good_op sums so_far next c.1 t h)

answered_before : (s : Series) (P : Profile) (n k : ℕ) → (terms profiles s P (n + k)).total.answered ≡ true → (terms profiles s P n).total.answered ≡ true
unfolding terms profiles
answered_before s P n zero h = ap (λ (i : ℕ). (terms profiles s P i).total.answered) (sym (add-zero n)) ∙ h
answered_before s P n (suc k) h =
    answered_before s P n k
    (parts sums (terms profiles s P (n + k)).total (terms profiles s P (suc (n + k))).term
    (ap (λ (i : ℕ). (terms profiles s P i).total.answered) (sym (add-suc n k)) ∙ h)).first

-- A step adds the parts of x and two for each rounding.
unfoldable pub cost : Series → ℕ
cost phi = 4
cost psi = 8

pub term_width : (s : Series) (P : Profile) (n : ℕ) → (terms profiles s P n).term.width ≡ (P.width + cost s) * n
unfolding terms first step profiles joined spread of_number cost
term_width phi P zero = omega arith
term_width psi P zero = omega arith
term_width phi P (suc n) = omega (arith, term_width phi P n)
term_width psi P (suc n) = omega (arith, term_width psi P n)

-- What an answered operation was worked from.
refused_not : {A : Type 0} (r : Pair) (n : ℕ) → refused n ≡ is r → A
refused_not r n h = absurd (never h)
  where
    tell : Outcome Pair → ℕ
    tell (is p) = 0
    tell (refused m) = 1

    never : refused n ≡ is r → ⊥
    never e = let z : ◌≡◌ {A = ℕ} 1 0 = ap tell e in omega arith

pub record From (f : Pair → Pair → Outcome Pair) (u v : Outcome Pair) (r : Pair) : Type 0 where
  pub one : Pair
  pub other : Pair
  pub one_told : u ≡ is one
  pub other_told : v ≡ is other
  pub told : f one other ≡ is r

pub from : (f : Pair → Pair → Outcome Pair) (u v : Outcome Pair) (r : Pair) → after f u v ≡ is r → From f u v r
unfolding after
from f (is p) (is q) r h = record { one = p; other = q; one_told = refl; other_told = refl; told = h }
from f (is p) (refused n) r h = refused_not r n h
from f (refused n) v r h = refused_not r n h

-- a result has its low end at most at x
pub record LowAt (o : Outcome Pair) (x : Fraction) : Type 0 where
  pub low : (p : Pair) → o ≡ is p → value p.low ≤ᶠ x

pub low_itself : {o : Outcome Pair} {p : Pair} → o ≡ is p → LowAt o (value p.low)
low_itself {o} {p} e = record { low = λ q d. let f : is q ≡ is p = sym d ∙ e in let i : q ≡ p = cc in rw i (below_itself (value p.low)) }

-- A step makes of low ends at most what an exact step does.
low_op : (o : Operation) (u v : Outcome Pair) (x y : Fraction) → LowAt u x → ((q : Pair) → v ≡ is q → Along o (value (with_low o q)) y) → LowAt (after (call o) u v) (exact_result o x y)
unfolding low_end Beside
low_op o u v x y a b =
    record {
      low =
          λ r h.
          let i : From (call o) u v r = from (call o) u v r h in
          through (ends_proper o i.one i.other r i.told).0 (rounds o i.one i.other r i.told).0.side
          (exactly_rises o (value (with_low o i.other)) y (a.low i.one i.one_told) (b i.other i.other_told));
    }

low_times : {u o : Outcome Pair} {t x : Fraction} → LowAt u t → LowAt o x → LowAt (after (call products) u o) (exact_result products t x)
unfolding Along with_low
low_times {u} {o} {t} {x} a b = low_op products u o t x a b.low

low_number : (m : ℕ) → m ≤ 999999999 → LowAt (entry m (pos 0)) (scaled m (pos 0))
low_number m l = record { low = λ q e. (entry_exact m (pos 0) q l e).1.low }

low_over : {u : Outcome Pair} {t : Fraction} (m : ℕ) → m ≤ 999999999 → LowAt u t → LowAt (after (call quotients) u (entry m (pos 0))) (exact_result quotients t (scaled m (pos 0)))
unfolding Along with_low
low_over {u} {t} m l a = low_op quotients u (entry m (pos 0)) t (scaled m (pos 0)) a (λ q e. (entry_exact m (pos 0) q l e).1.high)

pub low_step : (s : Series) (n : ℕ) {o u : Outcome Pair} {x t : Fraction} → n ≤ 1000 → LowAt o x → LowAt u t → LowAt (step pairs s o n u) (step fractions s x n t)
unfolding step pairs fractions call exact_result
low_step phi n l b a = low_over (n + 2) (omega arith) (low_times a b)
low_step psi n l b a = low_over (n + 3) (omega arith) (low_over (n + 1) (omega arith) (low_times (low_times a b) (low_number (n + 2) (omega arith))))

-- the ends of a result, in units of one over 10^depth
low_of : Outcome Pair → ℕ
low_of (is p) = (value p.low).num
low_of (refused n) = 0

high_of : Outcome Pair → ℕ
high_of (is p) = (value p.high).num
high_of (refused n) = 0

low_is : {o : Outcome Pair} {p : Pair} → o ≡ is p → low_of o ≡ (value p.low).num
unfolding low_of
low_is e = ap low_of e

high_is : {o : Outcome Pair} {p : Pair} → o ≡ is p → high_of o ≡ (value p.high).num
unfolding high_of
high_is e = ap high_of e

unit_above : 0 < 10 ^ depth
unit_above = one-le-pow depth 10 (lit< tt)

near_at : (w : ℕ) (p : Pair) → Near w (value p.high) (value p.low) → (value p.high).num * 100000000 ^ w ≤ (value p.low).num * 100000001 ^ w
unfolding value
near_at w p h = le_of_mul-le-mul_right {k = 10 ^ depth} (omega (arith, h.across)) unit_above

near_from_at : (w : ℕ) (p : Pair) → (value p.high).num * 100000000 ^ w ≤ (value p.low).num * 100000001 ^ w → Near w (value p.high) (value p.low)
unfolding value
near_from_at w p h = record { across = omega (arith, mul-le-mul_right (10 ^ depth) h) }

-- a sum, rounded once at each end
sum_low : (p q r : Pair) → call sums p q ≡ is r → ((value p.low).num + (value q.low).num) * 100000000 ≤ (value r.low).num * 100000001
unfolding value low_end with_low exact_result plus
sum_low p q r h =
    le_of_mul-le-mul_right {k = 10 ^ depth * 10 ^ depth} (omega (arith, (near_down (rounds sums p q r h).0).across)) (mul-pos unit_above unit_above)

sum_high : (p q r : Pair) → call sums p q ≡ is r → (value r.high).num * 100000000 ≤ ((value p.high).num + (value q.high).num) * 100000001
unfolding value high_end with_high exact_result plus
sum_high p q r h =
    le_of_mul-le-mul_right {k = 10 ^ depth * 10 ^ depth} (omega (arith, (near_up (rounds sums p q r h).1).across)) (mul-pos unit_above unit_above)

module _ (s : Series) (P : Profile) {o : Outcome Pair} {x : Fraction} (g : Good P o x) (most : value g.answer.high ≤ᶠ record { num = 64; den = 1 })
    (last : ℕ) (few_terms : last ≤ 1000) (h : (terms profiles s P last).total.answered ≡ true) (few : (P.width + cost s) * last ≤ 99000) where
  at : (n : ℕ) → n ≤ last →
      Good (terms profiles s P n).term (terms pairs s o n).term (term s x n) × Good (terms profiles s P n).total (terms pairs s o n).total (total s x n)
  at n i =
      let k = le_dest i in
      terms_good s P g n (answered_before s P n k.0 (ap (λ (j : ℕ). (terms profiles s P j).total.answered) k.1 ∙ h))

  low_most : (value g.answer.low).num ≤ 64 * (value g.answer.low).den
  low_most =
      let i = through (value_proper g.answer.high) (ordered g.answer g.fits.pair).rising most in
      omega (arith, i.across)

  low_falls : (n : ℕ) → n < last → suc n * low_of (terms pairs s o (suc n)).term ≤ 64 * low_of (terms pairs s o n).term
  unfolding terms value
  low_falls n i =
      let t = (at n (omega arith)).0 in
      let t' = (at (suc n) i).0 in
      let z : Fraction = value g.answer.low in
      let y : Fraction = value t.answer.low in
      let b : value t'.answer.low ≤ᶠ step fractions s z n y =
      (low_step s n (omega arith) (low_itself g.told) (low_itself t.told)).low t'.answer t'.told in
      rw (low_is t'.told, low_is t.told)
      (fallen (value t'.answer.low).num y.num (step fractions s z n y).num (step fractions s z n y).den (10 ^ depth) (suc n)
      (step_proper s n (value_proper g.answer.low) (value_proper t.answer.low)).above_zero b.across (step_most s z n y (value_proper g.answer.low) low_most))
    where
      fallen : (a b c d e m : ℕ) → 0 < d → a * d ≤ c * e → m * c * e ≤ 64 * b * d → m * a ≤ 64 * b
      fallen a b c d e m z i k = le_of_mul-le-mul_right {k = d} (omega (arith, k, mul-le-mul_right m i)) z

  total_from : (n : ℕ) (i : n < last) → From (call sums) (terms pairs s o n).total (terms pairs s o (suc n)).term (at (suc n) i).1.answer
  unfolding terms pairs call
  total_from n i = from (call sums) (terms pairs s o n).total (terms pairs s o (suc n)).term (at (suc n) i).1.answer (at (suc n) i).1.told

  summed : Summed (P.width + cost s) last (λ n. low_of (terms pairs s o n).term) (λ n. high_of (terms pairs s o n).term) (λ n. low_of (terms pairs s o n).total) (λ n. high_of (terms pairs s o n).total)
  summed =
      record {
        narrow =
            λ n i. let t = (at n i).0 in
            rw (low_is t.told, high_is t.told, ← (term_width s P n)) (near_at (terms profiles s P n).term.width t.answer t.fits.wide);
        falls = low_falls;
        low_first = unfold terms in omega arith;
        high_first = unfold terms in omega arith;
        low_next =
            λ n i. let f = total_from n i in
            rw (low_is f.one_told, low_is f.other_told, low_is (at (suc n) i).1.told) (sum_low f.one f.other (at (suc n) i).1.answer f.told);
        high_next =
            λ n i. let f = total_from n i in
            rw (high_is f.one_told, high_is f.other_told, high_is (at (suc n) i).1.told) (sum_high f.one f.other (at (suc n) i).1.answer f.told);
      }

  -- The sum of the terms is 65 parts wide for each part of a step, and two for each term.
  pub total_wide : (T : Pair) → (terms pairs s o last).total ≡ is T → Near (last + (65 * (P.width + cost s) + last)) (value T.high) (value T.low)
  total_wide T e =
      near_from_at (last + (65 * (P.width + cost s) + last)) T
      (rw (high_is e, low_is e) at
      (sum_narrow (P.width + cost s) last (λ n. low_of (terms pairs s o n).term) (λ n. high_of (terms pairs s o n).term) (λ n. low_of (terms pairs s o n).total) (λ n. high_of (terms pairs s o n).total) summed few))
