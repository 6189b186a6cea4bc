-- A series on pairs, stopped early: where the sum so far absorbs a term and x is so small that a step shrinks what it is given, every later term
-- leaves the low end and raises the high end by one unit, and so does the last term once more. Assumes nothing.
use mathlib.Core.Path.{◌≡◌, refl, sym, ◌∙◌, ap, ap₂, subst}
use mathlib.Core.Bool.{true}
use Prim.Native.Nat.{ℕ, zero, suc, ◌+◌, ◌-◌, ◌*◌, ◌^◌, ◌≤◌, ◌<◌}
use native.Mathlib.Nat.{add-zero, add-suc, mul-le-mul, mul-le-mul_right, le_of_mul-le-mul_right, lt_of_mul-lt-mul_right, mul-pos, one-le-pow, max-eq_left, le_refl, le_dest}
use native.Mathlib.Omega.{arith}
use lib.Dec.{lit<, lit≤}
use lib.IntN.{ℤ, pos, negsuc}
use lib.Signed.{mag}
use borrow.Author.Tests.{le-leb}
use Rattle.pair.specs.declared.Number.{Number}
use Rattle.pair.specs.declared.Pair.{Pair}
use Rattle.pair.specs.Fraction.{Fraction, Proper, ◌≤ᶠ◌, times, over}
use Rattle.pair.specs.Number as numbers
use Rattle.pair.specs.Number.{is_pair, value, place, depth}
use Rattle.pair.specs.Calls.{Outcome, is, refused, after, after_one, absorbs, raised, entry, sum, product, quotient}
use Rattle.pair.specs.Promises.{Operation, sums, products, quotients, call, exact_result, high_end, with_high, Beside, scaled}
use Rattle.pair.proofs.Promises.{Within, Usable, joint, sized_on, value_proper, through, scaled_proper, ordered, answered_within, pair_again, rounds, entry_exact, entry_above}
use Rattle.pair.proofs.Partials.{Plain, plain_entry, plain_after}
use Rattle.pair.proofs.Settling.{Under, Absorbed, absorbed, settled_sum, settled_total, under_from_zero, times_under, over_under, below_through}
use Rattle.pair.proofs.Profiles.{Good, of_number, good_number}
use Rattle.equations.specs.Formula.{pairs, fractions}
use Rattle.equations.specs.Series.{Series, phi, psi, first, step, terms, from_zero, pair_series}
use Rattle.equations.proofs.Tail.{place_zero, up, down, down_above, step_is, step_proper}
use Rattle.equations.proofs.SeriesTerms.{From, from, low_itself, low_step}

-- a result that is a pair of this size
record Told (k : ℕ) (o : Outcome Pair) : Type 0 where
  answer : Pair
  told : o ≡ is answer
  pair : is_pair answer ≡ true
  within : Within k answer

-- a number of at most nine figures
number_told : (m : ℕ) (e : ℤ) → m ≤ 999999999 → mag e ≤ 99000 → Told (10 + mag e) (entry m e)
unfolding of_number
number_told m e h l =
    let g : Good (of_number m e) (entry m e) (scaled m e) = good_number m e (rw (le-leb m 999999999 h, le-leb (mag e) 99000 l) refl) in
    record { answer = g.answer; told = g.told; pair = g.fits.pair; within = g.fits.within }

whole : (m : ℕ) → m ≤ 999999999 → Told 10 (entry m (pos 0))
whole m h = number_told m (pos 0) h (lit≤ tt)

grow : {j k : ℕ} {o : Outcome Pair} → j ≤ k → Told j o → Told k o
grow h t =
    record {
      answer = t.answer;
      told = t.told;
      pair = t.pair;
      within = record { low = sized_on h t.within.low; high = sized_on h t.within.high };
    }

same : {o : Outcome Pair} {p q : Pair} → o ≡ is p → o ≡ is q → p ≡ q
same {o} {p} {q} a b = let c : is p ≡ is q = sym a ∙ b in cc

-- a result from two
worked : (o : Operation) (j k : ℕ) {u v : Outcome Pair} (s : Told j u) (t : Told k v) → Usable o (value t.answer.low) → joint o j k ≤ 99991 → Told (joint o j k) (after (call o) u v)
unfolding after
worked o j k s t z h =
    let a = answered_within o j k s.answer t.answer s.pair t.pair z s.within t.within h in
    record { answer = a.0; told = rw (s.told, t.told) a.1; pair = pair_again o s.answer t.answer a.0 a.1; within = a.2 }

added : (k : ℕ) {u v : Outcome Pair} → k < 99991 → Told k u → Told k v → Told (1 + k) (after (call sums) u v)
unfolding joint Usable
added k {u} {v} h s t =
    subst (λ (i : ℕ). Told (1 + i) (after (call sums) u v)) (max-eq_left (le_refl k)) (worked sums k k s t tt (rw (max-eq_left (le_refl k)) (omega arith)))

multiplied : (j k : ℕ) {u v : Outcome Pair} → j + k ≤ 99991 → Told j u → Told k v → Told (j + k) (after (call products) u v)
unfolding joint Usable
multiplied j k h s t = worked products j k s t tt h

divided : (j m : ℕ) {u : Outcome Pair} → j + 10 ≤ 99991 → 0 < m → m ≤ 999999999 → Told j u → Told (j + 10) (after (call quotients) u (entry m (pos 0)))
unfolding joint Usable
divided j m h z l s = let t = whole m l in worked quotients j 10 s t (entry_above m (pos 0) t.answer t.told z) h

first_told : (s : Series) → Told 10 (first pairs s)
unfolding first pairs
first_told phi = whole 1 (lit≤ tt)
first_told psi = number_told 5 (negsuc 0) (lit≤ tt) (lit≤ tt)

step_told : (s : Series) (j n : ℕ) {o u : Outcome Pair} → j + 330 ≤ 99991 → n ≤ 255 → Told 300 o → Told j u → Told (j + 330) (step pairs s o n u)
unfolding step pairs call
step_told phi j n h l x t = grow (omega arith) (divided (j + 300) (n + 2) (omega arith) (omega arith) (omega arith) (multiplied j 300 (omega arith) t x))
step_told psi j n h l x t =
    grow (omega arith)
    (divided (j + 300 + 10 + 10) (n + 3) (omega arith) (omega arith) (omega arith)
    (divided (j + 300 + 10) (n + 1) (omega arith) (omega arith) (omega arith)
    (multiplied (j + 300) 10 (omega arith) (multiplied j 300 (omega arith) t x) (whole (n + 2) (omega arith)))))

-- A step tells a result, or 53.
pub step_plain : (s : Series) (n : ℕ) {o u : Outcome Pair} → Plain o → Plain u → Plain (step pairs s o n u)
unfolding step pairs call
step_plain phi n {o} {u} x t = plain_after quotients (after product u o) (entry (n + 2) (pos 0)) (plain_after products u o t x) (plain_entry (n + 2) (pos 0))
step_plain psi n {o} {u} x t =
    let risen : Outcome Pair = after product u o in
    let led : Outcome Pair = after product risen (entry (n + 2) (pos 0)) in
    let by_one : Outcome Pair = after quotient led (entry (n + 1) (pos 0)) in
    plain_after quotients by_one (entry (n + 3) (pos 0))
    (plain_after quotients led (entry (n + 1) (pos 0))
    (plain_after products risen (entry (n + 2) (pos 0)) (plain_after products u o t x) (plain_entry (n + 2) (pos 0))) (plain_entry (n + 1) (pos 0)))
    (plain_entry (n + 3) (pos 0))

-- what x may be for step n to shrink a term: the number by which x is then divided
unfoldable pub reach : Series → ℕ → ℕ
reach phi n = n + 2
reach psi n = n + 1

reach_on : (s : Series) (n k c : ℕ) → c ≤ reach s n → c ≤ reach s (n + k)
unfolding reach
reach_on phi n k c h = omega arith
reach_on psi n k c h = omega arith

reach_few : (s : Series) (n c : ℕ) → n ≤ 255 → c ≤ reach s n → c ≤ 999999999
unfolding reach
reach_few phi n c l h = omega arith
reach_few psi n c l h = omega arith

reach_shrinks : (s : Series) (n : ℕ) → reach s n * up s n ≤ down s n
unfolding reach up down
reach_shrinks phi n = omega arith
reach_shrinks psi n = omega arith

-- The exact step does not raise a term.
step_shrinks : (s : Series) (n : ℕ) (x t : Fraction) → Proper x → x.num ≤ reach s n * x.den → step fractions s x n t ≤ᶠ t
step_shrinks s n x t p h =
    record {
      across =
          not_more t.num t.den (step fractions s x n t).num (step fractions s x n t).den x.num x.den (reach s n) (up s n) (down s n)
          p.above_zero (down_above s n) h (reach_shrinks s n) (step_is s x n t);
    }
  where
    not_more : (a b a' b' xn xd m u d : ℕ) → 0 < xd → 0 < d → xn ≤ m * xd → m * u ≤ d → a' * (b * xd * d) ≡ a * xn * u * b' → a' * b ≤ a * b'
    not_more a b a' b' xn xd m u d z w h k e =
        let i : a' * b * d ≤ m * a * u * b' = le_of_mul-le-mul_right {k = xd} (omega (arith, e, mul-le-mul_right (a * u * b') h)) z in
        le_of_mul-le-mul_right {k = d} (omega (arith, i, mul-le-mul_right (a * b') k)) w

-- a result that is above 0 at its high end and at most m × 10^e
record HighAt (o : Outcome Pair) (m : ℕ) (e : ℤ) : Type 0 where
  high : (p : Pair) → o ≡ is p → (value p.high ≤ᶠ scaled m e) × (0 < (value p.high).num)

above_on : {x y : Fraction} → Proper y → x ≤ᶠ y → 0 < x.num → 0 < y.num
above_on {x} {y} p h z = lt_of_mul-lt-mul_right x.den {m = 0} {n = y.num} (omega (arith, h.across, mul-pos z p.above_zero))

scaled_on : {m n : ℕ} (e : ℤ) → m ≤ n → scaled m e ≤ᶠ scaled n e
unfolding scaled
scaled_on e h = record { across = mul-le-mul_right (10 ^ depth) (mul-le-mul_right (10 ^ place e) h) }

high_on : {o : Outcome Pair} {m n : ℕ} {e : ℤ} → m ≤ n → HighAt o m e → HighAt o n e
high_on {m} {e} l h = record { high = λ p d. (through (scaled_proper m e) (h.high p d).0 (scaled_on e l), (h.high p d).1) }

high_number : (m : ℕ) → 0 < m → m ≤ 999999999 → HighAt (entry m (pos 0)) m (pos 0)
high_number m z l = record { high = λ p d. let x = entry_exact m (pos 0) p l d in (subst (λ (w : Number). value w ≤ᶠ scaled m (pos 0)) x.0 x.1.low, subst (λ (w : Number). 0 < (value w).num) x.0 (entry_above m (pos 0) p d z)) }

module _ (e : ℤ) (size : mag e ≤ 99000) where
  high_times : {u v : Outcome Pair} (m c : ℕ) → m * c ≤ 999999999 → HighAt u m e → HighAt v c (pos 0) → HighAt (after (call products) u v) (m * c) e
  unfolding high_end with_high Beside exact_result times
  high_times {u} {v} m c l a b =
      record {
        high =
            λ r h.
            let i : From (call products) u v r = from (call products) u v r h in
            let f = a.high i.one i.one_told in
            let g = b.high i.other i.other_told in (
              times_under e m c i.one i.other r size l i.told f.0 g.0,
              above_on (value_proper r.high) (rounds products i.one i.other r i.told).1.side (mul-pos f.1 g.1),
            );
      }

  high_over : {u : Outcome Pair} (m c : ℕ) → 0 < c → m ≤ 999999999 → c ≤ 999999999 → HighAt u (m * c) e → HighAt (after (call quotients) u (entry c (pos 0))) m e
  unfolding high_end with_high Beside exact_result over
  high_over {u} m c z few less a =
      record {
        high =
            λ r h.
            let i : From (call quotients) u (entry c (pos 0)) r = from (call quotients) u (entry c (pos 0)) r h in
            let f = a.high i.one i.one_told in (
              over_under e m c i.one i.other r size z few less i.other_told i.told f.0,
              above_on (value_proper r.high) (rounds quotients i.one i.other r i.told).1.side (mul-pos f.1 (value_proper i.other.low).above_zero),
            );
      }

  -- A step leaves a term under 10^e.
  high_step : (s : Series) (n : ℕ) {o u : Outcome Pair} → n ≤ 1000 → HighAt o (reach s n) (pos 0) → HighAt u 1 e → HighAt (step pairs s o n u) 1 e
  unfolding step pairs call reach
  high_step phi n {o} {u} l x t = high_over 1 (n + 2) (omega arith) (lit≤ tt) (omega arith) (high_times {u = u} {v = o} 1 (n + 2) (omega arith) t x)
  high_step psi n {o} {u} l x t =
      high_over 1 (n + 3) (omega arith) (lit≤ tt) (omega arith)
      (high_on {m = n + 2} (omega arith)
      (high_over (n + 2) (n + 1) (omega arith) (omega arith) (omega arith)
      (high_on {m = 1 * (n + 1) * (n + 2)} (omega arith)
      (high_times (1 * (n + 1)) (n + 2) (few n l) (high_times {u = u} {v = o} 1 (n + 1) (omega arith) t x) (high_number (n + 2) (omega arith) (omega arith))))))
    where
      at_most : (k n : ℕ) → n ≤ 1000 → n + k ≤ 1000 + k
      at_most k n l = omega arith

      few : (n : ℕ) → n ≤ 1000 → 1 * (n + 1) * (n + 2) ≤ 999999999
      few n l = omega (arith, mul-le-mul (at_most 1 n l) (at_most 2 n l))

module _ (s : Series) (x : Pair) (pair : is_pair x ≡ true) (within : Within 300 x) where
  abbrev term : ℕ → Outcome Pair
  term n = (terms pairs s (is x) n).term

  abbrev total : ℕ → Outcome Pair
  total n = (terms pairs s (is x) n).total

  x_told : Told 300 (is x)
  x_told = record { answer = x; told = refl; pair = pair; within = within }

  -- Every term is answered, and so is every sum.
  term_told : (n : ℕ) → n ≤ 255 → Told (10 + 330 * n) (term n)
  unfolding terms
  term_told zero l = first_told s
  term_told (suc n) l = grow (omega arith) (step_told s (10 + 330 * n) n (omega arith) (omega arith) x_told (term_told n (omega arith)))

  total_told : (n : ℕ) → n ≤ 255 → Told (10 + 331 * n) (total n)
  unfolding terms pairs call
  total_told zero l = first_told s
  total_told (suc n) l =
      grow (omega arith) (added (340 + 331 * n) (omega arith) (grow (omega arith) (total_told n (omega arith))) (grow (omega arith) (term_told (suc n) l)))

  -- From a term under 10^e on, where x is at most c: every later term is under it, if a step shrinks what is at most c.
  module _ (n c : ℕ) (e : ℤ) (size : mag e ≤ 99000) (most : value x.high ≤ᶠ scaled c (pos 0)) (above : 0 < (value x.high).num) (least : c ≤ reach s n) where
    x_least : (i : ℕ) → c ≤ reach s i → (value x.low).num ≤ reach s i * (value x.low).den
    unfolding value scaled
    x_least i k =
        let a : value x.low ≤ᶠ scaled c (pos 0) = through (value_proper x.high) (ordered x pair).rising most in
        let b : (value x.low).num ≤ c * 10 ^ place (pos 0) = le_of_mul-le-mul_right {k = 10 ^ depth} a.across (one-le-pow depth 10 (lit< tt)) in
        omega (arith, rw place_zero at b, mul-le-mul_right (10 ^ depth) k)

    step_under : (i : ℕ) → i ≤ 1000 → c ≤ reach s i → (t u : Pair) → term i ≡ is t → term (suc i) ≡ is u → is_pair u ≡ true → Under e t → Under e u
    unfolding terms
    step_under i l k t u h h' p b =
        let low : value u.low ≤ᶠ step fractions s (value x.low) i (value t.low) = (low_step s i l (low_itself refl) (low_itself h)).low u h' in
        let shrunk : value u.low ≤ᶠ value t.low =
        through (step_proper s i (value_proper x.low) (value_proper t.low)) low (step_shrinks s i (value x.low) (value t.low) (value_proper x.low) (x_least i k)) in
        let high = (high_step e size s i l (record { high = λ p d. (subst (λ (q : Pair). value q.high ≤ᶠ scaled (reach s i) (pos 0)) (same refl d) (through (scaled_proper c (pos 0)) most (scaled_on (pos 0) k)), subst (λ (q : Pair). 0 < (value q.high).num) (same refl d) above) })
        (record { high = λ p d. subst (λ (q : Pair). (value q.high ≤ᶠ scaled 1 e) × (0 < (value q.high).num)) (same h d) (b.high, b.above) })).high u h' in
        record { pair = p; low = below_through u.low t.low shrunk b.low; high = high.0; above = high.1 }

    term_under : (k : ℕ) → n + k ≤ 255 → (t : Pair) → term n ≡ is t → Under e t → (u : Pair) × (term (n + k) ≡ is u) × Under e u
    term_under zero l t h u = (t, ap term (add-zero n) ∙ h, u)
    term_under (suc k) l t h u =
        let i = term_under k (omega arith) t h u in
        let w = term_told (suc (n + k)) (omega arith) in
        (w.answer, ap term (add-suc n k) ∙ w.told, step_under (n + k) (omega arith) (reach_on s n k c least) i.0 w.answer i.1 w.told w.pair i.2)

  -- The series is the sum so far, raised by one unit for each term left and for the last once more.
  pub series_stopped : (n c : ℕ) (T t d : Pair) → n ≤ 255 → c ≤ reach s n → 0 < (value x.high).num → term n ≡ is t → total n ≡ is T → absorbs T t ≡ true →
      entry c (pos 0) ≡ is d → value x.high ≤ᶠ value d.low → pair_series s (is x) ≡ raised (256 - n) T
  unfolding pair_series after after_one from_zero call
  series_stopped n c T t d l less above h k a i most =
      let m : ℕ = (le_dest l).0 in
      let e : n + m ≡ 255 = (le_dest l).1 in
      let w : Told (10 + 330 * n) (term n) = term_told n l in
      let v : Told (10 + 331 * n) (total n) = total_told n l in
      let size_t : Within (10 + 330 * n) t = subst (Within (10 + 330 * n)) (same w.told h) w.within in
      let size_T : Within (10 + 331 * n) T = subst (Within (10 + 331 * n)) (same v.told k) v.within in
      let b : Absorbed T t = absorbed (10 + 331 * n) (10 + 330 * n) T t a size_T size_t (omega arith) (omega arith) in
      let x_most : value x.high ≤ᶠ scaled c (pos 0) = through (value_proper d.low) most (entry_exact c (pos 0) d (reach_few s n c l less) i).1.low in
      let under : (j : ℕ) → n + j ≤ 255 → (u : Pair) × (term (n + j) ≡ is u) × Under b.bound u =
      λ j g. term_under n c b.bound b.size x_most above less j g t h b.under in
      let r : total (n + m) ≡ raised m T =
      settled_total b.bound T b.settled term total n k (λ j. adds (n + j)) m (omega arith) (λ j g. let u = under (suc j) (omega arith) in (u.0, ap term (sym (add-suc n j)) ∙ u.1, u.2)) in
      let last = under m (omega arith) in
      ap₂ (λ (o u : Outcome Pair). after sum o (after_one from_zero u)) (ap total (sym e) ∙ r) (ap term (sym e) ∙ last.1)
      ∙ settled_sum b.bound T b.settled m (record { low = numbers.zero; high = last.0.high }) (omega arith) (under_from_zero last.2)
      ∙ ap (λ (j : ℕ). raised j T) (omega arith)
    where
      adds : (j : ℕ) → total (suc j) ≡ after sum (total j) (term (suc j))
      adds j = unfold terms pairs in refl

-- A refused sum is the series refused.
module _ (s : Series) (x : Outcome Pair) where
  total_refused : (n k : ℕ) → (terms pairs s x n).total ≡ refused 53 → (terms pairs s x (n + k)).total ≡ refused 53
  unfolding terms pairs after
  total_refused n zero h = ap (λ (i : ℕ). (terms pairs s x i).total) (add-zero n) ∙ h
  total_refused n (suc k) h = ap (λ (i : ℕ). (terms pairs s x i).total) (add-suc n k) ∙ ap (λ (o : Outcome Pair). after sum o (terms pairs s x (suc (n + k))).term) (total_refused n k h)

  pub series_refused : (n : ℕ) → n ≤ 255 → (terms pairs s x n).total ≡ refused 53 → pair_series s x ≡ refused 53
  unfolding pair_series after
  series_refused n l h =
      ap (λ (o : Outcome Pair). after sum o (after_one from_zero (terms pairs s x 255).term))
      (ap (λ (i : ℕ). (terms pairs s x i).total) (sym (le_dest l).1) ∙ total_refused n (le_dest l).0 h)
