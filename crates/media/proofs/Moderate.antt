-- An x that is not too small and at most a small whole number leaves no term out of the exponents' reach. Assumes nothing.
use mathlib.Core.Path.{◌≡◌, refl, sym, ◌∙◌, ap, subst}
use mathlib.Core.Bool.{true}
use mathlib.Core.Logic.{◌⊎◌, inl, inr}
use Prim.Native.Nat.{ℕ, ◌+◌, ◌*◌, ◌^◌, ◌≤◌, ◌<◌}
use native.Mathlib.Nat.{one-le-pow, mul-le-mul_left, le_of_mul-le-mul_right, lt_of_mul-lt-mul_right, add-zero, mul_comm, le_trans, le_antisymm}
use native.Mathlib.Omega.{arith}
use lib.Pow.{pow-add}
use lib.Dec.{lit<, lit≤}
use lib.IntN.{pos, negsuc}
use Rattle.pair.specs.declared.Number.{Number}
use Rattle.pair.specs.declared.Pair.{Pair}
use Rattle.pair.specs.Fraction.{◌≤ᶠ◌}
use Rattle.pair.specs.Number.{value, place, depth, zero}
use Rattle.pair.specs.Calls.{is, compared, zero_pair}
use Rattle.pair.specs.Promises.{Sized, scaled}
use Rattle.pair.proofs.Promises.{Within, through, value_proper, ordered, compared_right, equal_below, equal_turned, written_value, zero_pair_lem}
use Rattle.media.specs.Inner.{least, Moderate}

ten_above : (k : ℕ) → 0 < 10 ^ k
ten_above k = one-le-pow k 10 (lit< tt)

least_place : place (negsuc 291) + 292 ≡ depth
unfolding depth place
least_place = refl

least_power : 10 ^ depth ≡ 10 ^ place (negsuc 291) * 10 ^ 292
least_power = ap (λ (n : ℕ). 10 ^ n) (sym least_place) ∙ pow-add 10 (place (negsuc 291)) 292

whole_place : place (pos 0) ≡ depth
unfolding place
whole_place = add-zero depth

-- least as 1E-292
least_below : (w : Number) → value least ≤ᶠ value w → scaled 1 (negsuc 291) ≤ᶠ value w
unfolding least
least_below w h = through (value_proper least) (equal_below (equal_turned (written_value 1 (negsuc 291) (lit≤ tt) (lit≤ tt)))) h

above_part : (P D t n d : ℕ) → D ≡ P * t → 0 < P → 1 * P * d ≤ n * D → d ≤ n * t
above_part P D t n d e z h = le_of_mul-le-mul_right {k = P} (omega (arith, h, ap (λ (k : ℕ). n * k) e)) z

below_part : (D c n d : ℕ) → 0 < D → n * D ≤ c * D * d → n ≤ c * d
below_part D c n d z h = le_of_mul-le-mul_right {k = D} (omega (arith, h)) z

between : (c : ℕ) (w : Number) → c ≤ 999 → value least ≤ᶠ value w → value w ≤ᶠ scaled c (pos 0) → Sized 300 (value w)
unfolding scaled
between c w l h k =
    let n : ℕ = (value w).num in
    let d : ℕ = (value w).den in
    let a : d ≤ n * 10 ^ 292 = above_part (10 ^ place (negsuc 291)) (10 ^ depth) (10 ^ 292) n d least_power (ten_above (place (negsuc 291))) (least_below w h).across in
    let b : n ≤ c * d = below_part (10 ^ depth) c n d (ten_above depth) (subst (λ (p : ℕ). n * 10 ^ depth ≤ c * 10 ^ p * d) whole_place k.across) in
    let more : 10 ^ 292 ≤ 10 ^ 300 = lit≤ tt in
    let few : 999 ≤ 10 ^ 300 = lit≤ tt in
    record {
      sized = inr (
        le_trans a (mul-le-mul_left n more),
        le_trans b (subst (λ (p : ℕ). p ≤ d * 10 ^ 300) (mul_comm d c) (mul-le-mul_left d (le_trans l few))),
      );
    }

zero_none : (value zero).num ≡ 0
unfolding zero_pair
zero_none = le_antisymm (omega (arith, zero_pair_lem.1.low.across)) (omega arith)

-- compared as at most, and not above
pub at_most_by : (a b : Number) → compared a b ≡ is true → value a ≤ᶠ value b
at_most_by a b h = (compared_right a b true h).0 refl

pub high_above_lem : (x : Pair) → Moderate x → 0 < (value x.high).num
unfolding scaled
high_above_lem x m =
    let a = above_part (10 ^ place (negsuc 291)) (10 ^ depth) (10 ^ 292) (value x.high).num (value x.high).den least_power (ten_above (place (negsuc 291)))
    (least_below x.high (at_most_by least x.high m.high)).across in
    some (10 ^ 292) (value x.high).num (value x.high).den a (value_proper x.high).above_zero
  where
    some : (t n d : ℕ) → d ≤ n * t → 0 < d → 0 < n
    some t n d l z = lt_of_mul-lt-mul_right t {m = 0} (omega (arith, l, z))

pub moderate_within : (x : Pair) (c : ℕ) → c ≤ 999 → Moderate x → value x.high ≤ᶠ scaled c (pos 0) → Within 300 x
moderate_within x c l m h =
    record { low = low m.low; high = between c x.high l (at_most_by least x.high m.high) h }
  where
    low : (x.low ≡ zero) ⊎ (compared least x.low ≡ is true) → Sized 300 (value x.low)
    low (inl z) = subst (λ (w : Number). Sized 300 (value w)) (sym z) (record { sized = inl zero_none })
    low (inr g) = between c x.low l (at_most_by least x.low g) (through (value_proper x.high) (ordered x m.pair).rising h)
