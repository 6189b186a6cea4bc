-- The law of rounding, once for both directions: the number that `rounded` gives for n / d × 10^e is the nearest working number on its
-- side of that fraction, within one part in 10^8, and 0 exactly where the fraction is. Assumes nothing.
use mathlib.Core.Path.{◌≡◌, refl, sym, ◌∙◌, ap, ap₂}
use mathlib.Core.Bool.{Bool, true, false}
use mathlib.Core.Logic.{◌⊎◌, inl, inr}
use Prim.Native.Nat.{ℕ, zero, suc, ◌+◌, ◌-◌, ◌*◌, ◌^◌, ◌≤◌, ◌<◌}
use native.Mathlib.Nat.{mul-le-mul_right, mul-lt-mul_of_pos_right, le_of_mul-le-mul_right, lt_of_mul-lt-mul_right, mul-pos, le_trans, le_dest, le_antisymm, add-mul}
use native.Mathlib.Omega.{arith}
use lib.Dec.{ltb, lit<, lit≤}
use lib.IntN.{ℤ, pos, negsuc, ◌+ℤ◌, sub_ℕ}
use lib.Signed.{mag}
use borrow.Author.Tests.{ltb-true, ltb-false, lt-ltb}
use Rattle.pair.specs.declared.Number.{Number}
use Rattle.pair.specs.Fraction.{Fraction, ◌≤ᶠ◌}
use Rattle.pair.specs.Number as N
use Rattle.pair.specs.Number.{is_number, in_reach, depth, place, value}
use Rattle.pair.specs.Rounding.{divided, excess, carried, rounded}
use Rattle.pair.specs.Promises.{Beside, Close, Rounded, Sized, grown}
use Rattle.pair.proofs.Exponents.{by_cases, place_sub, place_raise}
use Rattle.pair.proofs.Powers.{ten_above, ten_add, ten_rises, ten_reflects, ten_falls}
use Rattle.pair.proofs.Excess.{Beyond, excess_beyond}
use Rattle.pair.proofs.Fractions.{◌=ᶠ◌}
use Rattle.pair.proofs.Numbers.{number_zero}
use Rattle.pair.proofs.Dividing.{divided_same, down_least, down_most, up_least, up_most, divided_least, divided_most, divided_one}
use Rattle.pair.proofs.Ordered.{number, depth_is, reach_from, Working, working, number_from, zero_number}

le_of_lt_suc : {a b : ℕ} → a < b + 1 → a ≤ b
le_of_lt_suc h = omega arith

-- q is b / a as a whole number, down or up
abbrev Whole : Bool → ℕ → ℕ → ℕ → Type 0
Whole false b a q = (q * a ≤ b) × (b < q * a + a)
Whole true b a q = (b ≤ q * a) × (q * a < b + a)

whole : (up : Bool) (b a : ℕ) → 0 < a → Whole up b a (divided up b a)
whole false b a p = (down_least b a, down_most b a p)
whole true b a p = (up_least b a p, up_most b a p)

-- at most nine figures times a power of ten: a whole number of units 10^u, or less than 10^8 of them
in_units_lem : (m p u : ℕ) → m ≤ 999999999 → ((k : ℕ) × (m * 10 ^ p ≡ k * 10 ^ u)) ⊎ (m * 10 ^ p < 100000000 * 10 ^ u)
in_units_lem m p u h = by_cases (ltb p u) (λ t. inr (less (ltb-true p u t))) (λ t. inl (more (le_dest (ltb-false p u t))))
  where
    less : p < u → m * 10 ^ p < 100000000 * 10 ^ u
    less l =
        let a : 10 ^ (1 + p) ≤ 10 ^ u = ten_rises (omega arith) in
        omega (arith, mul-lt-mul_of_pos_right {m = m} {n = 1000000000} (omega arith) (ten_above p), ten_add 1 p)

    more : (k : ℕ) × (u + k ≡ p) → (k : ℕ) × (m * 10 ^ p ≡ k * 10 ^ u)
    more (k, e) = (m * 10 ^ k, ap (λ (j : ℕ). m * 10 ^ j) (sym e) ∙ ap (λ (n : ℕ). m * n) (ten_add u k) ∙ omega arith)

-- w is q units of 10^u, and q is how many such units x has, down or up: w is x rounded
module _ (x : Fraction) (proper : 0 < x.den) (q u : ℕ) (w : Number) (number : is_number w ≡ true) (same : w.significand * 10 ^ place w.exponent ≡ q * 10 ^ u) (figures : 100000000 ≤ q) (least : 100000000 * (10 ^ u * x.den) ≤ x.num * 10 ^ depth) where
  unit : 0 < 10 ^ u * x.den
  unit = mul-pos (ten_above u) proper

  beside : (up : Bool) → Whole up (x.num * 10 ^ depth) (10 ^ u * x.den) q → Beside up (value w) x
  unfolding Beside value
  beside false h = record { across = omega (arith, ap (λ (n : ℕ). n * x.den) same, h.0) }
  beside true h = record { across = omega (arith, ap (λ (n : ℕ). n * x.den) same, h.0) }

  close : (up : Bool) → Whole up (x.num * 10 ^ depth) (10 ^ u * x.den) q → Close up (value w) x
  unfolding Close value grown
  close false h = record { across = omega (arith, ap (λ (n : ℕ). n * x.den) same, h.1, mul-le-mul_right (10 ^ u * x.den) figures) }
  close true h = record { across = omega (arith, ap (λ (n : ℕ). n * x.den) same, h.1, least) }

  nearest : (up : Bool) → Whole up (x.num * 10 ^ depth) (10 ^ u * x.den) q →
      (v : Number) → is_number v ≡ true → Beside up (value v) x → Beside up (value v) (value w)
  unfolding Beside value
  nearest false h v n s =
      record { across = mul-le-mul_right (10 ^ depth) (rw same (go (in_units_lem v.significand (place v.exponent) u (working v n).most))) }
    where
      go : ((k : ℕ) × (v.significand * 10 ^ place v.exponent ≡ k * 10 ^ u)) ⊎ (v.significand * 10 ^ place v.exponent < 100000000 * 10 ^ u) →
          v.significand * 10 ^ place v.exponent ≤ q * 10 ^ u
      go (inl (k, e)) =
          rw e (mul-le-mul_right (10 ^ u) (le_of_lt_suc (lt_of_mul-lt-mul_right (10 ^ u * x.den) {m = k} {n = q + 1}
          (omega (arith, ap (λ (n : ℕ). n * x.den) e, s.across, h.1)))))
      go (inr l) = omega (arith, mul-le-mul_right (10 ^ u) figures)
  nearest true h v n s =
      record { across = mul-le-mul_right (10 ^ depth) (rw same (go (in_units_lem v.significand (place v.exponent) u (working v n).most))) }
    where
      go : ((k : ℕ) × (v.significand * 10 ^ place v.exponent ≡ k * 10 ^ u)) ⊎ (v.significand * 10 ^ place v.exponent < 100000000 * 10 ^ u) →
          q * 10 ^ u ≤ v.significand * 10 ^ place v.exponent
      go (inl (k, e)) =
          rw e (mul-le-mul_right (10 ^ u) (le_of_lt_suc (lt_of_mul-lt-mul_right (10 ^ u * x.den) {m = q} {n = k + 1}
          (omega (arith, ap (λ (n : ℕ). n * x.den) e, s.across, h.1)))))
      go (inr l) = absurd (omega (arith, mul-lt-mul_of_pos_right l proper, s.across, least))

  rounds : (up : Bool) → Whole up (x.num * 10 ^ depth) (10 ^ u * x.den) q → Rounded up x w
  unfolding N.zero
  rounds up h =
      record {
        working = number;
        side = beside up h;
        nearest = nearest up h;
        close = close up h;
        zero_from = λ z. absurd (some z);
        zero_only = λ z. absurd (none z);
      }
    where
      some : x.num ≡ 0 → ⊥
      some z = omega (arith, ap (λ (n : ℕ). n * 10 ^ depth) z, least, unit)

      none : w ≡ N.zero → ⊥
      none z = omega (arith, same, ap (λ (v : Number). v.significand * 10 ^ place w.exponent) z, mul-le-mul_right (10 ^ u) figures, ten_above u)

pub zero_significand : (N.zero).significand ≡ 0
unfolding N.zero
zero_significand = refl

-- x is n / d × 10^e, with enough figures for the search
pub record Ratio (x : Fraction) (n d : ℕ) (e : ℤ) : Type 0 where
  pub proper : 0 < x.den
  pub divisor : 0 < d
  pub size : mag e < 200100
  pub link : x.num * (d * 10 ^ depth) ≡ n * (x.den * 10 ^ place e)
  pub figures : (n ≡ 0) ⊎ (d * 100000000 ≤ n * 1000000000)

-- exponents that rounding makes
place_above : (e : ℤ) → mag e < 200100 → 9 < place e
unfolding depth place
place_above (pos n) h = omega arith
place_above (negsuc n) h = omega arith

place_on : (e : ℤ) (b : ℕ) → 0 < place e → place (e +ℤ pos b) ≡ place e + b
unfolding depth place
place_on (pos a) b h = omega arith
place_on (negsuc a) b h = omega (arith, place_sub b (suc a) (omega arith))

-- the place tells the exponent
place_only : (e f : ℤ) → mag f < 100000 → place e ≡ place f → e ≡ f
unfolding depth place
place_only (pos a) (pos b) h p = ap pos (omega arith)
place_only (pos a) (negsuc b) h p = absurd (omega arith)
place_only (negsuc a) (pos b) h p = absurd (omega arith)
place_only (negsuc a) (negsuc b) h p = ap negsuc (omega arith)

place_raised : (e : ℤ) (k : ℕ) → mag e < 200100 → place (e +ℤ sub_ℕ k 9) + 9 ≡ place e + k
place_raised e k h =
    by_cases (ltb k 9)
    (λ t. place_raise e k 9 (omega (arith, depth_is, ltb-true k 9 t)))
    (λ t. rw t (omega (arith, place_on e (k - 9) (omega (arith, place_above e h)), ltb-false k 9 t)))

-- b / a has nine figures where b / a × 10^k has 9 + k
nine : (n d k a b : ℕ) → 0 < d → 0 < a → Beyond n d k → b * (d * 10 ^ k) ≡ n * a → (100000000 * a ≤ b) × (b < 1000000000 * a)
nine n d k a b p q f e = (
  le_of_mul-le-mul_right (omega (arith, mul-le-mul_right a (rw (ten_add 8 k) at f.least), e)) (mul-pos p (ten_above k)),
  lt_of_mul-lt-mul_right (d * 10 ^ k) (omega (arith, mul-lt-mul_of_pos_right (rw (ten_add 9 k) at f.most) q, e)),
)

carried_below : (q : ℕ) (e : ℤ) → ltb q 1000000000 ≡ true → carried q e ≡ number q e
unfolding carried
carried_below q e t = rw t

carried_above : (q : ℕ) (e : ℤ) → ltb q 1000000000 ≡ false → carried q e ≡ number 100000000 (e +ℤ pos 1)
unfolding carried
carried_above q e t = rw t

-- what both cases of the carry have in common
record Carried (q : ℕ) (e : ℤ) (w : Number) : Type 0 where
  same : w.significand * 10 ^ place w.exponent ≡ q * 10 ^ place e
  least : 100000000 ≤ w.significand
  most : w.significand ≤ 999999999
  from : place e ≤ place w.exponent
  to : place w.exponent ≤ place e + 1

carry : (q : ℕ) (e : ℤ) → 0 < place e → 100000000 ≤ q → q ≤ 1000000000 → Carried q e (carried q e)
carry q e p l h =
    by_cases (ltb q 1000000000)
    (λ t.
    rw (carried_below q e t)
    (record { same = refl; least = l; most = omega (arith, ltb-true q 1000000000 t); from = omega arith; to = omega arith }))
    (λ t.
    rw (carried_above q e t)
    (record {
      same = ten q (omega (arith, ltb-false q 1000000000 t));
      least = lit≤ tt;
      most = lit≤ tt;
      from = omega (arith, place_on e 1 p);
      to = omega (arith, place_on e 1 p);
    }))
  where
    ten : (k : ℕ) → k ≡ 1000000000 → 100000000 * 10 ^ place (e +ℤ pos 1) ≡ k * 10 ^ place e
    ten k i = rw (place_on e 1 p, ten_add (place e) 1, i) (omega arith)

enough : {x : Fraction} {n d : ℕ} {e : ℤ} → Ratio x (suc n) d e → d * 100000000 ≤ suc n * 1000000000
enough {n} {d} r = go r.figures
  where
    go : (suc n ≡ 0) ⊎ (d * 100000000 ≤ suc n * 1000000000) → d * 100000000 ≤ suc n * 1000000000
    go (inl z) = absurd (omega arith)
    go (inr l) = l

module _ {x : Fraction} {n d : ℕ} {e : ℤ} (r : Ratio x (suc n) d e) (some : d * 100000000 ≤ suc n * 1000000000) where
  beyond : ℕ
  beyond = excess (suc n * 1000000000) d

  raised : ℤ
  raised = e +ℤ sub_ℕ beyond 9

  unit_above : 0 < 10 ^ place raised * x.den
  unit_above = mul-pos (ten_above (place raised)) r.proper

  ratio : x.num * 10 ^ depth * (d * 10 ^ beyond) ≡ suc n * 1000000000 * (10 ^ place raised * x.den)
  unfolding raised
  ratio =
      let s : 10 ^ place raised * 10 ^ 9 ≡ 10 ^ place e * 10 ^ beyond =
      sym (ten_add (place raised) 9) ∙ ap (λ (i : ℕ). 10 ^ i) (place_raised e beyond r.size) ∙ ten_add (place e) beyond in
      omega (arith, ap (λ (i : ℕ). i * 10 ^ beyond) r.link, ap (λ (i : ℕ). i * (suc n * x.den)) s)

  figures : (100000000 * (10 ^ place raised * x.den) ≤ x.num * 10 ^ depth) × (x.num * 10 ^ depth < 1000000000 * (10 ^ place raised * x.den))
  unfolding beyond
  figures =
      nine (suc n * 1000000000) d beyond (10 ^ place raised * x.den) (x.num * 10 ^ depth) r.divisor unit_above
      (excess_beyond (suc n * 1000000000) d r.divisor some) ratio

  units : Bool → ℕ
  units up = divided up (x.num * 10 ^ depth) (10 ^ place raised * x.den)

  rounded_is : (up : Bool) → rounded up (suc n) d e ≡ carried (units up) raised
  unfolding rounded beyond raised units
  rounded_is up =
      ap (λ (q : ℕ). carried q (e +ℤ sub_ℕ (excess (suc n * 1000000000) d) 9))
      (divided_same up (suc n * 1000000000) (d * 10 ^ beyond) (x.num * 10 ^ depth) (10 ^ place raised * x.den)
      (mul-pos r.divisor (ten_above beyond)) unit_above (sym ratio))

  raised_above : 0 < place raised
  unfolding raised
  raised_above = omega (arith, place_raised e beyond r.size, place_above e r.size)

  least_units : (up : Bool) → 100000000 ≤ units up
  unfolding units
  least_units up = divided_least up (x.num * 10 ^ depth) (10 ^ place raised * x.den) 100000000 unit_above figures.0

  carries : (up : Bool) → Carried (units up) raised (rounded up (suc n) d e)
  unfolding units
  carries up =
      rw (rounded_is up)
      (carry (units up) raised raised_above (least_units up)
      (divided_most up (x.num * 10 ^ depth) (10 ^ place raised * x.den) 1000000000 unit_above figures.1))

  rounded_some : (up : Bool) → in_reach (rounded up (suc n) d e).exponent ≡ true → Rounded up x (rounded up (suc n) d e)
  unfolding units
  rounded_some up h =
      rounds x r.proper (units up) (place raised) (rounded up (suc n) d e)
      (number_from (rounded up (suc n) d e) (carries up).least (carries up).most h)
      (carries up).same (least_units up) figures.0
      up (whole up (x.num * 10 ^ depth) (10 ^ place raised * x.den) unit_above)

  -- both directions of one fraction differ by one unit at most
  narrow_some : value (rounded true (suc n) d e) ≤ᶠ grown (value (rounded false (suc n) d e))
  unfolding value grown units
  narrow_some =
      let b : ℕ = x.num * 10 ^ depth in
      let a : ℕ = 10 ^ place raised * x.den in
      let next : units true ≤ units false + 1 = divided_most true b a (units false + 1) unit_above (rw (add-mul (units false) 1 a) (omega (arith, down_most b a unit_above))) in
      let parts : units true * 100000000 ≤ units false * 100000001 = omega (arith, next, least_units false) in
      record {
        across =
            omega
            (arith, ap (λ (i : ℕ). i * (10 ^ depth * 100000000)) (carries true).same, ap (λ (i : ℕ). i * (100000001 * 10 ^ depth)) (carries false).same, mul-le-mul_right (10 ^ place raised * 10 ^ depth) parts);
      }

  -- a working number is rounded to itself
  module _ (v : Number) (number-v : is_number v ≡ true) (same : x =ᶠ value v) where
    in_least : ℕ
    in_least = v.significand * 10 ^ place v.exponent

    least_of : 10 ^ (8 + place raised) ≤ in_least
    unfolding in_least value
    least_of =
        rw (ten_add 8 (place raised))
        (le_of_mul-le-mul_right {k = x.den} (omega (arith, figures.0, same.across)) r.proper)

    most_of : in_least < 10 ^ (9 + place raised)
    unfolding in_least value
    most_of =
        rw (ten_add 9 (place raised))
        (lt_of_mul-lt-mul_right x.den (omega (arith, figures.1, same.across)))

    nine_of : 100000000 ≤ v.significand
    unfolding in_least
    nine_of = go (working v number-v).least
      where
        go : (v ≡ N.zero) ⊎ (100000000 ≤ v.significand) → 100000000 ≤ v.significand
        go (inl z) = absurd (omega (arith, least_of, ten_above (8 + place raised), ap (λ (i : ℕ). i * 10 ^ place v.exponent) (ap (λ (w : Number). w.significand) z ∙ zero_significand)))
        go (inr l) = l

    place_of : place raised ≡ place v.exponent
    unfolding in_least
    place_of =
        let w : Working v = working v number-v in
        let a : 8 + place raised < 9 + place v.exponent =
        ten_reflects (rw (ten_add 9 (place v.exponent)) (omega (arith, least_of, mul-lt-mul_of_pos_right {n = 1000000000} (below w.most) (ten_above (place v.exponent))))) in
        let b : 8 + place v.exponent < 9 + place raised =
        ten_reflects (rw (ten_add 8 (place v.exponent)) (omega (arith, most_of, mul-le-mul_right (10 ^ place v.exponent) nine_of))) in
        omega arith
      where
        below : v.significand ≤ 999999999 → v.significand < 1000000000
        below h = omega arith

    rounded_same : (up : Bool) → rounded up (suc n) d e ≡ v
    unfolding units value
    rounded_same up =
        let f : raised ≡ v.exponent = place_only raised v.exponent (working v number-v).reach place_of in
        let q : units up ≡ v.significand =
        divided_same up (x.num * 10 ^ depth) (10 ^ place raised * x.den) v.significand 1 unit_above (lit< tt)
        (omega (arith, same.across, ap (λ (i : ℕ). v.significand * 10 ^ i * x.den) place_of))
        ∙ divided_one up v.significand in
        rounded_is up ∙ ap₂ carried q f ∙ carried_below v.significand v.exponent (lt-ltb v.significand 1000000000 (omega (arith, (working v number-v).most)))

  -- a fraction from 10^−99991 to 10^99991 stays in reach
  reach_some : (up : Bool) (k : ℕ) → Sized k x → k ≤ 99991 → in_reach (rounded up (suc n) d e).exponent ≡ true
  reach_some up k s h = go s.sized
    where
      low : x.den ≤ x.num * 10 ^ k → depth < 9 + (place raised + k)
      low l =
          ten_reflects
          (lt_of_mul-lt-mul_right x.den
          (rw (ten_add 9 (place raised + k), ten_add (place raised) k)
          (omega (arith, mul-le-mul_right (10 ^ depth) l, mul-lt-mul_of_pos_right figures.1 (ten_above k)))))

      high : x.num ≤ x.den * 10 ^ k → 8 + place raised ≤ k + depth
      high l =
          ten_falls
          (le_of_mul-le-mul_right
          (rw (ten_add 8 (place raised), ten_add k depth)
          (omega (arith, mul-le-mul_right (10 ^ depth) l, figures.0)))
          r.proper)

      go : (x.num ≡ 0) ⊎ ((x.den ≤ x.num * 10 ^ k) × (x.num ≤ x.den * 10 ^ k)) → in_reach (rounded up (suc n) d e).exponent ≡ true
      go (inl z) = absurd (omega (arith, ap (λ (i : ℕ). i * 10 ^ depth) z, figures.0, unit_above))
      go (inr l) =
          reach_from (rounded up (suc n) d e).exponent
          (omega (arith, low l.0, (carries up).from)) (omega (arith, high l.1, (carries up).to))

ratio_zero : {x : Fraction} {d : ℕ} {e : ℤ} → Ratio x 0 d e → x.num ≡ 0
ratio_zero {x} {d} r = le_antisymm (le_of_mul-le-mul_right {n = 0} (omega (arith, r.link)) (mul-pos r.divisor (ten_above depth))) (omega arith)

beside_zero : (up : Bool) (x : Fraction) → x.num ≡ 0 → Beside up (value N.zero) x
unfolding Beside value N.zero
beside_zero false x z = record { across = omega arith }
beside_zero true x z = record { across = omega (arith, ap (λ (i : ℕ). i * 10 ^ depth) z) }

nearest_zero : (up : Bool) (x : Fraction) → 0 < x.den → x.num ≡ 0 → (v : Number) → Beside up (value v) x → Beside up (value v) (value N.zero)
unfolding Beside value N.zero
nearest_zero false x p z v s =
    record {
      across =
          mul-le-mul_right (10 ^ depth)
          (le_trans {m = 0}
          (le_of_mul-le-mul_right {n = 0} (omega (arith, s.across, ap (λ (i : ℕ). i * 10 ^ depth) z)) p) (omega arith));
    }
nearest_zero true x p z v s = record { across = omega arith }

close_zero : (up : Bool) (x : Fraction) → x.num ≡ 0 → Close up (value N.zero) x
unfolding Close grown value N.zero
close_zero false x z = record { across = omega (arith, ap (λ (i : ℕ). i * 10 ^ depth) z) }
close_zero true x z = record { across = omega arith }

rounded_none : (up : Bool) {x : Fraction} {d : ℕ} {e : ℤ} → Ratio x 0 d e → Rounded up x (rounded up 0 d e)
unfolding rounded
rounded_none up {x} r =
    record {
      working = zero_number;
      side = beside_zero up x (ratio_zero r);
      nearest = λ v n. nearest_zero up x r.proper (ratio_zero r) v;
      close = close_zero up x (ratio_zero r);
      zero_from = λ z. refl;
      zero_only = λ z. ratio_zero r;
    }

-- the law, and where it applies
pub rounded_nearest : (up : Bool) {x : Fraction} {n d : ℕ} {e : ℤ} → Ratio x n d e → in_reach (rounded up n d e).exponent ≡ true → Rounded up x (rounded up n d e)
rounded_nearest up {n = zero} r h = rounded_none up r
rounded_nearest up {n = suc n} r h = rounded_some r (enough r) up h

pub rounded_reach : (up : Bool) {x : Fraction} {n d : ℕ} {e : ℤ} → Ratio x n d e → (k : ℕ) → Sized k x → k ≤ 99991 → in_reach (rounded up n d e).exponent ≡ true
unfolding rounded N.zero in_reach
rounded_reach up {n = zero} r k s h = refl
rounded_reach up {n = suc n} r k s h = reach_some r (enough r) up k s h

narrow_none : (d : ℕ) (e : ℤ) → value (rounded true 0 d e) ≤ᶠ grown (value (rounded false 0 d e))
unfolding rounded value grown N.zero
narrow_none d e = record { across = omega arith }

pub rounded_narrow : {x : Fraction} {n d : ℕ} {e : ℤ} → Ratio x n d e → value (rounded true n d e) ≤ᶠ grown (value (rounded false n d e))
rounded_narrow {n = zero} {d} {e} r = narrow_none d e
rounded_narrow {n = suc n} r = narrow_some r (enough r)

-- A working number is rounded to itself.
pub rounded_itself : (up : Bool) {x : Fraction} {n d : ℕ} {e : ℤ} → Ratio x n d e → (v : Number) → is_number v ≡ true → x =ᶠ value v → rounded up n d e ≡ v
unfolding rounded value
rounded_itself up {x} {n = zero} r v h s =
    sym
    (number_zero v h
    (none v.significand (10 ^ place v.exponent * x.den) (mul-pos (ten_above (place v.exponent)) r.proper)
    (omega (arith, s.across, ap (λ (i : ℕ). i * 10 ^ depth) (ratio_zero r)))))
  where
    none : (a b : ℕ) → 0 < b → a * b ≡ 0 → a ≡ 0
    none a b p i = le_antisymm (le_of_mul-le-mul_right {n = 0} (omega arith) p) (omega arith)
rounded_itself up {n = suc n} r v h s = rounded_same r (enough r) v h s up
