-- The law by which each function's rounding meets the definition: where n / d × 10^9 is the ratio m / c times 10^k, and m / c has nine
-- figures before the point, rounding is one division of m by c. Assumes nothing.
use mathlib.Core.Path.{◌≡◌, refl, sym, ◌∙◌, ap, subst}
use mathlib.Core.Bool.{Bool, true}
use Prim.Native.Nat.{ℕ, zero, suc, ◌+◌, ◌*◌, ◌^◌, ◌≤◌, ◌<◌}
use native.Mathlib.Nat.{mul-le-mul_right, le_of_mul-le-mul_right, lt_of_mul-lt-mul_right, mul-pos, mul-lt-mul_of_pos_right, lt_of_lt_of_le, le_dest, le_antisymm}
use lib.Dec.{lit<, ltb}
use borrow.Author.Tests.{lt-ltb, le-ltb, ltb-true, ltb-false}
use native.Mathlib.Omega.{arith}
use lib.IntN.{ℤ, pos, ◌+ℤ◌, +ℤ_assoc, sub_ℕ}
use Rattle.pair.specs.Rounding.{divided, excess, carried, rounded}
use Rattle.pair.proofs.Exponents.{by_cases}
use Rattle.pair.proofs.Powers.{ten_above, ten_add, ten_reflects}
use Rattle.pair.proofs.Excess.{Beyond, excess_beyond, excess_is}
use Rattle.pair.proofs.Dividing.{divided_same, divided_one, divided_more, divided_twice, divided_least, divided_most}

rounded_above : (up : Bool) (n d : ℕ) (e : ℤ) → 0 < n →
    rounded up n d e ≡ carried (divided up (n * 1000000000) (d * 10 ^ excess (n * 1000000000) d)) (e +ℤ sub_ℕ (excess (n * 1000000000) d) 9)
unfolding rounded
rounded_above up zero d e p = absurd (omega arith)
rounded_above up (suc n) d e p = refl

module _ (n d m c k : ℕ) (d-above : 0 < d) (c-above : 0 < c) (ratio : m * (d * 10 ^ k) ≡ n * 1000000000 * c) (least : 100000000 * c ≤ m) (most : m < 1000000000 * c) where
  figures : Beyond (n * 1000000000) d k
  figures =
      record {
        least = le_of_mul-le-mul_right (rw (ten_add 8 k) (omega (arith, mul-le-mul_right (d * 10 ^ k) least, ratio))) c-above;
        most = lt_of_mul-lt-mul_right c (rw (ten_add 9 k) (omega (arith, mul-lt-mul_of_pos_right most (mul-pos d-above (ten_above k)), ratio)));
      }

  above : 0 < n
  above = lt_of_mul-lt-mul_right 1000000000 (lt_of_mul-lt-mul_right c (omega (arith, mul-pos (lt_of_lt_of_le (mul-pos {m = 100000000} (lit< tt) c-above) least) (mul-pos d-above (ten_above k)), ratio)))

  pub rounded_as : (up : Bool) (e : ℤ) → rounded up n d e ≡ carried (divided up m c) (e +ℤ sub_ℕ k 9)
  rounded_as up e =
      rounded_above up n d e above
      ∙ ap (λ (j : ℕ). carried (divided up (n * 1000000000) (d * 10 ^ j)) (e +ℤ sub_ℕ j 9)) (excess_is (n * 1000000000) d k d-above figures)
      ∙ ap (λ (q : ℕ). carried q (e +ℤ sub_ℕ k 9)) (divided_same up (n * 1000000000) (d * 10 ^ k) m c (mul-pos d-above (ten_above k)) c-above (sym ratio))

-- nine figures and j more, which are rounded off
pub rounded_off : (up : Bool) (t j : ℕ) (e f : ℤ) → 100000000 * 10 ^ j ≤ t → t < 1000000000 * 10 ^ j → f ≡ e +ℤ sub_ℕ (j + 9) 9 →
    carried (divided up t (10 ^ j)) f ≡ rounded up t 1 e
rounded_off up t j e f least most h =
    sym
    (rounded_as t 1 t (10 ^ j) (j + 9) (lit< tt) (ten_above j) (rw (ten_add j 9) (omega arith)) least most up e
    ∙ ap (carried (divided up t (10 ^ j))) (sym h))

pub beyond_nine : (k : ℕ) → pos k ≡ sub_ℕ (k + 9) 9
beyond_nine k = rw (le-ltb (k + 9) 9 (omega arith)) (ap pos (omega arith))

-- a carry to ten figures, with j more
carry_beyond : (up : Bool) (j : ℕ) (e : ℤ) → carried (divided up (1000000000 * 10 ^ j) (10 ^ j)) (e +ℤ pos j) ≡ rounded up (1000000000 * 10 ^ j) 1 e
unfolding carried
carry_beyond up j e =
    ap (λ (q : ℕ). carried q (e +ℤ pos j)) (divided_same up (1000000000 * 10 ^ j) (10 ^ j) 1000000000 1 (ten_above j) (lit< tt) (omega arith) ∙ divided_one up 1000000000)
    ∙ ap (λ (f : ℤ). record { significand = 100000000; exponent = f }) (+ℤ_assoc e (pos j) (pos 1))
    ∙ ap (λ (q : ℕ). carried q (e +ℤ pos (j + 1)))
    (sym (divided_same up (1000000000 * 10 ^ j) (10 ^ (j + 1)) 100000000 1 (ten_above (j + 1)) (lit< tt) (rw (ten_add j 1) (omega arith)) ∙ divided_one up 100000000))
    ∙ rounded_off up (1000000000 * 10 ^ j) (j + 1) e (e +ℤ pos (j + 1)) (rw (ten_add j 1) (omega arith)) (rw (ten_add j 1) (omega (arith, ten_above j))) (ap (λ (z : ℤ). e +ℤ z) (beyond_nine (j + 1)))

-- to round at a place and then to nine figures, in one direction, is to round once
pub rounded_again : (up : Bool) (t g : ℕ) (e : ℤ) → 100000000 * 10 ^ g ≤ t → rounded up (divided up t (10 ^ g)) 1 (e +ℤ pos g) ≡ rounded up t 1 e
rounded_again up t g e least = go (le_dest above_place)
  where
    k : ℕ
    k = excess t 1

    beyond : Beyond t 1 k
    beyond = excess_beyond t 1 (lit< tt) (omega (arith, mul-le-mul_right {m = 1} {n = 10 ^ g} 100000000 (ten_above g)))

    above_place : g ≤ k
    above_place = omega (arith, ten_reflects {i = 8 + g} {j = 9 + k} (omega (arith, beyond.most, ten_add 8 g)))

    go : (j : ℕ) × (g + j ≡ k) → rounded up (divided up t (10 ^ g)) 1 (e +ℤ pos g) ≡ rounded up t 1 e
    go (j, i) =
        let s : ℕ = divided up t (10 ^ g) in
        let low : 100000000 * 10 ^ (g + j) ≤ t = rw (i) (omega (arith, ten_add 8 k, beyond.least)) in
        let high : t < 1000000000 * 10 ^ (g + j) = rw (i) (omega (arith, ten_add 9 k, beyond.most)) in
        let low_s : 100000000 * 10 ^ j ≤ s = divided_least up t (10 ^ g) (100000000 * 10 ^ j) (ten_above g) (omega (arith, low, ten_add g j)) in
        let high_s : s ≤ 1000000000 * 10 ^ j = divided_most up t (10 ^ g) (1000000000 * 10 ^ j) (ten_above g) (omega (arith, high, ten_add g j)) in
        by_cases (ltb s (1000000000 * 10 ^ j))
        (λ h. sym (rounded_off up s j (e +ℤ pos g) (e +ℤ pos g +ℤ pos j) low_s (ltb-true s (1000000000 * 10 ^ j) h) (ap (λ (z : ℤ). e +ℤ pos g +ℤ z) (beyond_nine j))))
        (λ h. subst (λ (n : ℕ). rounded up n 1 (e +ℤ pos g) ≡ carried (divided up n (10 ^ j)) (e +ℤ pos g +ℤ pos j)) (le_antisymm (ltb-false s (1000000000 * 10 ^ j) h) high_s) (sym (carry_beyond up j (e +ℤ pos g))))
        ∙ ap (λ (q : ℕ). carried q (e +ℤ pos g +ℤ pos j)) (divided_twice up t (10 ^ g) (10 ^ j) (ten_above g) (ten_above j) ∙ ap (divided up t) (sym (ten_add g j)))
        ∙ rounded_off up t (g + j) e (e +ℤ pos g +ℤ pos j) low high (+ℤ_assoc e (pos g) (pos j) ∙ ap (λ (z : ℤ). e +ℤ z) (beyond_nine (g + j)))

-- m places of 10^g and n below them: n is rounded at that place first
pub rounded_words : (up : Bool) (m n g : ℕ) (e : ℤ) → 100000000 ≤ m → rounded up (m + divided up n (10 ^ g)) 1 (e +ℤ pos g) ≡ rounded up (m * 10 ^ g + n) 1 e
rounded_words up m n g e h =
    ap (λ (s : ℕ). rounded up s 1 (e +ℤ pos g)) (sym (divided_more up m n (10 ^ g) (ten_above g)))
    ∙ rounded_again up (m * 10 ^ g + n) g e (omega (arith, mul-le-mul_right (10 ^ g) h))

-- where nothing is left to round, both directions give the number itself
pub rounded_exact : (up : Bool) (n m k : ℕ) (e f : ℤ) → m * 10 ^ k ≡ n * 1000000000 → 100000000 ≤ m → m ≤ 999999999 → f ≡ e +ℤ sub_ℕ k 9 →
    record { significand = m; exponent = f } ≡ rounded up n 1 e
unfolding carried
rounded_exact up n m k e f ratio least most h =
    let t : ltb m 1000000000 ≡ true = lt-ltb m 1000000000 (omega arith) in
    sym
    (rounded_as n 1 m 1 k (lit< tt) (lit< tt) (omega (arith, ratio)) (omega arith) (omega arith) up e
    ∙ ap (λ (q : ℕ). carried q (e +ℤ sub_ℕ k 9)) (divided_one up m)
    ∙ rw (t, h) refl)
