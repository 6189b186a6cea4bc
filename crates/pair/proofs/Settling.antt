-- A series whose terms have become small: once each term is at most one unit of the last figure of the sum, it leaves the sum's low end and
-- raises its high end by one unit, so that what is left of the series is known without working it. Assumes nothing.
use mathlib.Core.Path.{◌≡◌, sym, ◌∙◌, ap, ap₂, subst}
use mathlib.Core.Bool.{true}
use Prim.Native.Nat.{ℕ, zero, suc, ◌+◌, ◌*◌, ◌≤◌, ◌<◌}
use native.Mathlib.Nat.{lt_of_mul-lt-mul_right, mul-le-mul_right, mul-lt-mul_of_pos_right, add-zero, add-suc, mul-pos}
use native.Mathlib.Numerals.{add-one}
use native.Mathlib.Omega.{arith}
use lib.IntN.{ℤ, pos, ◌+ℤ◌}
use lib.Signed.{mag}
use Rattle.pair.specs.declared.Number.{Number}
use Rattle.pair.specs.declared.Pair.{Pair}
use Rattle.pair.specs.Number as N
use Rattle.pair.specs.Number.{value, place}
use Rattle.pair.specs.Fraction.{Fraction, ◌≤ᶠ◌, times, over}
use Rattle.pair.specs.Calls.{Outcome, is, after, sum, entry, written, absorbs, raised}
use Rattle.pair.specs.Promises.{products, quotients, call, exact_result, high_end, with_high, scaled}
use Rattle.pair.proofs.Powers.{ten_above}
use Rattle.pair.proofs.Fractions.{◌<ᶠ◌, Along, exactly_rises, exactly_proper}
use Rattle.pair.proofs.Ordered.{zero_number}
use Rattle.pair.proofs.ExactEnds.{place_whole}
use Rattle.pair.proofs.Promises.{Within, rounds, ends_proper, Usable, through, value_proper, stays_below, scaled_proper, entry_exact, written_number, written_value, equal_below, equal_turned}
use Rattle.pair.proofs.Answers.{ordered, pair_from_lem}
use Rattle.pair.proofs.Raising.{Far, high_above_lem, far_sum, absorbing, sized_exponent, number_above}
pub use Rattle.pair.proofs.Raising.{Under}
use Rattle.pair.proofs.ChainPromises.{raised_low, raised_pair, raised_on, raised_none_more, raised_answered}

-- a sum of which 10^e is at most one unit of the last figure, with room for every carry
pub record Settled (e : ℤ) (s : Pair) : Type 0 where
  below : Far e s
  raises : (n : ℕ) → n ≤ 256 → (r : Pair) × (raised n s ≡ is r)

-- what it absorbs is under a bound that settles it
pub record Absorbed (s t : Pair) : Type 0 where
  pub bound : ℤ
  pub size : mag bound ≤ 99000
  pub settled : Settled bound s
  pub under : Under bound t

pub absorbed : (j k : ℕ) (s t : Pair) → absorbs s t ≡ true → Within j s → Within k t → j ≤ 90000 → k ≤ 90000 → Absorbed s t
absorbed j k s t h v w l m =
    let a = absorbing s t h in
    let e : ℤ = t.high.exponent +ℤ pos 9 in
    record {
      bound = e;
      size = (sized_exponent t.high k (ordered t a.1.pair).high a.1.above w.high m).0;
      settled =
          record { below = a.0; raises = λ n g. raised_answered n j s g a.0.pair (number_above s.high (high_above_lem e s a.0)) v.high l };
      under = a.1;
    }

module _ (e : ℤ) (s : Pair) (h : Settled e s) where
  -- One term more raises the high end by one unit more.
  pub settled_sum : (n : ℕ) (t : Pair) → n < 256 → Under e t → after sum (raised n s) (is t) ≡ raised (suc n) s
  unfolding after
  settled_sum n t l u =
      let r = h.raises n (omega arith) in
      let low : r.0.low ≡ s.low = raised_low n s r.0 (omega arith) r.1 in
      let below : Far e r.0 =
      record {
        pair = raised_pair n s r.0 (omega arith) r.1;
        above = subst (λ (w : Number). 0 < w.significand) (sym low) h.below.above;
        far = subst (λ (w : Number). place e ≤ place w.exponent) (sym low) h.below.far;
      } in
      rw r.1 (far_sum e r.0 below t u ∙ raised_on n 1 s r.0 (omega arith) r.1 ∙ ap (λ (k : ℕ). raised k s) (add-one n))

  -- Any series: from a settled sum on, with terms under that bound, the sum after n more terms.
  module _ (term total : ℕ → Outcome Pair) (start : ℕ) (begins : total start ≡ is s)
      (adds : (k : ℕ) → total (suc (start + k)) ≡ after sum (total (start + k)) (term (suc (start + k)))) where
    pub settled_total : (n : ℕ) → n ≤ 256 → ((k : ℕ) → k < n → (t : Pair) × (term (suc (start + k)) ≡ is t) × Under e t) → total (start + n) ≡ raised n s
    settled_total zero l small =
        let r = h.raises 0 (omega arith) in
        ap total (add-zero start) ∙ begins ∙ sym (raised_none_more s r.0 r.1)
    settled_total (suc n) l small =
        let t = small n (omega arith) in
        ap total (add-suc start n) ∙ adds n ∙ ap₂ (after sum) (settled_total n (omega arith) (λ k g. small k (omega arith))) t.1 ∙ settled_sum n t.0 (omega arith) t.2

-- A term under a bound is so from 0 on too.
pub under_from_zero : {e : ℤ} {t : Pair} → Under e t → Under e (record { low = N.zero; high = t.high })
unfolding value scaled N.zero
under_from_zero {e} {t} u =
    record {
      pair = pair_from_lem (record { low = N.zero; high = t.high }) (record { low = zero_number; high = (ordered t u.pair).high; rising = record { across = omega arith } });
      low = record { across = omega (arith, mul-pos (ten_above (place e)) (ten_above N.depth)) };
      high = u.high;
      above = u.above;
    }

times_scaled : (m c : ℕ) (e : ℤ) → exact_result products (scaled m e) (scaled c (pos 0)) ≤ᶠ scaled (m * c) e
unfolding exact_result times scaled
times_scaled m c e = record { across = rw place_whole (omega arith) }

over_scaled : (m c : ℕ) (e : ℤ) → exact_result quotients (scaled (m * c) e) (scaled c (pos 0)) ≤ᶠ scaled m e
unfolding exact_result over scaled
over_scaled m c e = record { across = rw place_whole (omega arith) }

divisor : (c : ℕ) → 0 < c → Usable quotients (scaled c (pos 0))
unfolding Usable scaled
divisor c z = mul-pos z (ten_above (place (pos 0)))

-- How the high end of a term shrinks: what is at most m × 10^e, times a number of at most c, is at most m × c × 10^e, and that by c is at
-- most m × 10^e again, each rounded up.
module _ (e : ℤ) (m c : ℕ) (p q r : Pair) (size : mag e ≤ 99000) where
  pub times_under : m * c ≤ 999999999 → call products p q ≡ is r → value p.high ≤ᶠ scaled m e → value q.high ≤ᶠ scaled c (pos 0) → value r.high ≤ᶠ scaled (m * c) e
  unfolding high_end with_high Along Usable
  times_under few h a b =
      through (value_proper (written (m * c) e))
      (stays_below true (rounds products p q r h).1 (ends_proper products p q r h).1 (written (m * c) e) (written_number (m * c) e few size)
      (through (exactly_proper products (scaled_proper m e) (scaled_proper c (pos 0)) tt)
      (exactly_rises products (value q.high) (scaled c (pos 0)) a b)
      (through (scaled_proper (m * c) e) (times_scaled m c e) (equal_below (equal_turned (written_value (m * c) e few size))))))
      (equal_below (written_value (m * c) e few size))

  pub over_under : 0 < c → m ≤ 999999999 → c ≤ 999999999 → entry c (pos 0) ≡ is q → call quotients p q ≡ is r → value p.high ≤ᶠ scaled (m * c) e → value r.high ≤ᶠ scaled m e
  unfolding high_end with_high Along
  over_under z few less d h a =
      let x = entry_exact c (pos 0) q less d in
      let y : scaled c (pos 0) ≤ᶠ value q.low = subst (λ (w : Number). scaled c (pos 0) ≤ᶠ value w) (sym x.0) x.1.high in
      through (value_proper (written m e))
      (stays_below true (rounds quotients p q r h).1 (ends_proper quotients p q r h).1 (written m e) (written_number m e few size)
      (through (exactly_proper quotients (scaled_proper (m * c) e) (scaled_proper c (pos 0)) (divisor c z))
      (exactly_rises quotients (value q.low) (scaled c (pos 0)) a y)
      (through (scaled_proper m e) (over_scaled m c e) (equal_below (equal_turned (written_value m e few size))))))
      (equal_below (written_value m e few size))

pub below_through : (v w : Number) {y : Fraction} → value v ≤ᶠ value w → value w <ᶠ y → value v <ᶠ y
below_through v w {y} h k =
    record {
      across =
          lt_of_mul-lt-mul_right (value w).den {m = (value v).num * y.den} {n = y.num * (value v).den}
          (omega (arith, mul-le-mul_right y.den h.across, mul-lt-mul_of_pos_right k.across (value_proper v).above_zero));
    }
