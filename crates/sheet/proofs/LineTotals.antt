-- A line with a reference value: where it is at most its cap, its counts enclose its exact fraction and are close. Assumes nothing.
use mathlib.Core.Path.{◌≡◌, sym, ◌∙◌, ap, subst}
use mathlib.Core.Bool.{Bool, true, false, cond, ◌&&◌}
use Prim.Native.Nat.{ℕ, suc, ◌+◌, ◌*◌, ◌^◌, ◌≤◌, ◌<◌}
use native.Mathlib.Nat.{add-zero, le_refl, le_trans, mul-le-mul_right, le_of_mul-le-mul_right, lt_of_mul-lt-mul_right}
use native.Mathlib.Omega.{arith}
use lib.Dec.{lit<, lit≤}
use lib.IntN.{pos, negsuc}
use borrow.Author.Tests.{not-false}
use Rattle.pair.specs.declared.Number.{Number}
use Rattle.pair.specs.declared.Pair.{Pair}
use Rattle.pair.specs.declared.Units as pair_units
use Rattle.pair.specs.Fraction.{Fraction, ◌≤ᶠ◌, plus}
use Rattle.pair.specs.Number.{in_reach, is_number, is_pair, at_most, value, place, depth}
use Rattle.pair.specs.Calls.{Outcome, is, one_pair, in_units}
use Rattle.pair.specs.Promises as promises
use Rattle.pair.specs.Promises.{scaled}
use Rattle.pair.proofs.Promises.{through, ordered, one_pair_lem, written_number, written_value, equal_below, scaled_proper, size_reach, at_most_lem, value_proper, compared_answered, Counted, units_right, units_hold, units_answered}
use Rattle.equations.specs.declared.Pathway.{Pathway}
use Rattle.equations.specs.declared.Stay.{Stay}
use Rattle.equations.specs.declared.Effect.{Effect}
use Rattle.equations.specs.declared.Effect.TheVariants.{Hazard, Cancer}
use Rattle.equations.specs.Page.{line}
use Rattle.equations.specs.Readings.{paces_of, exactly}
use Rattle.equations.proofs.LineLaws.{Works, line_works, line_narrow}
use Rattle.powers.specs.Powers.{above, below}
use Rattle.std.specs.Prelude.{None}
use Rattle.scenario.specs.declared.Scenario.{Scenario}
use Rattle.scenario.specs.Scenario.{stay_in, guidance_in, pairs_at, Exact}
use Rattle.sheet.specs.Sheet.{has_reference, figure_at, unit_of, cap_of, counted, counted_in, columns_at, is_above, high_above, over_cap}
use Rattle.sheet.specs.DemandThree.{Enclosed, units_per_one, in_units_of, nothing, exact_line, line_counts}
use Rattle.scenario.proofs.Sound.{Sound}
use Rattle.scenario.proofs.InputLaws.{ten_above, place_power}
use Rattle.sheet.proofs.TotalLaws.{Totals, totals_none}

-- ---- bounds
high_number : (p : Pair) → is_pair p ≡ true → is_number p.high ≡ true
high_number p h = (ordered p h).high

not_above : (b : Number) (p : Pair) → is_number b ≡ true → is_pair p ≡ true → high_above b (is p) ≡ false → value p.high ≤ᶠ value b
unfolding high_above is_above
not_above b p n h t =
    (at_most_lem p.high b (high_number p h) n).0
    (not-false (at_most p.high b) (rw (compared_answered p.high b (high_number p h) n) at t))

-- 10^−(n + 1), and the unit of each effect, by powers of ten
power : (n : ℕ) → suc n ≤ 200 → 10 ^ place (negsuc n) * 10 ^ suc n ≡ 10 ^ depth
unfolding above below
power n h = place_power (negsuc n) h ∙ omega arith

unit_power : (e : Effect) → 10 ^ place (unit_of e) * units_per_one e ≡ 10 ^ depth
unfolding unit_of units_per_one
unit_power Hazard = power 11 (lit≤ tt)
unit_power Cancer = power 14 (lit≤ tt)

whole_place : place (pos 0) ≡ depth
unfolding place
whole_place = add-zero depth

cap_number : (e : Effect) → is_number (cap_of e) ≡ true
unfolding cap_of one_pair
cap_number Hazard = written_number 10000 (pos 0) (lit≤ tt) (lit≤ tt)
cap_number Cancer = (ordered one_pair one_pair_lem.0).high

-- 10,000 and 1 are no more than 10^16 units
pub cap_units : (e : Effect) (m : ℕ) → 10 ^ 16 ≤ m → value (cap_of e) ≤ᶠ scaled m (unit_of e)
unfolding scaled cap_of unit_of one_pair
cap_units Hazard m h =
    through (scaled_proper 10000 (pos 0)) (equal_below (written_value 10000 (pos 0) (lit≤ tt) (lit≤ tt)))
    (record {
      across =
          mul-le-mul_right (10 ^ depth)
          (subst (λ (p : ℕ). 10000 * 10 ^ p ≤ m * 10 ^ place (negsuc 11)) (sym whole_place) (omega (arith, power 11 (lit≤ tt), mul-le-mul_right (10 ^ place (negsuc 11)) h)));
    })
cap_units Cancer m h =
    through (record { above_zero = lit< tt }) one_pair_lem.1.low (record { across = omega (arith, power 14 (lit≤ tt), mul-le-mul_right (10 ^ place (negsuc 14)) h) })

unit_reach : (e : Effect) → in_reach (unit_of e) ≡ true
unfolding unit_of
unit_reach Hazard = size_reach (negsuc 11) (lit< tt)
unit_reach Cancer = size_reach (negsuc 14) (lit< tt)

-- ---- counts
-- where k units u make d, what is said of n units over d is said of n over 1
least_units : (n u k d a b : ℕ) → u * k ≡ d → 0 < u → n * u * b ≤ a * d → n * b ≤ a * k
least_units n u k d a b e z h = le_of_mul-le-mul_right {k = u} (omega (arith, h, ap (λ (t : ℕ). a * t) e)) z

most_units : (n u k d a b : ℕ) → u * k ≡ d → 0 < u → a * d ≤ n * u * b → a * k ≤ n * b
most_units n u k d a b e z h = le_of_mul-le-mul_right {k = u} (omega (arith, h, ap (λ (t : ℕ). a * t) e)) z

close_units : (l h u d v w : ℕ) → 0 < d → v * d < (l + 1) * u * d → h * u * (d * d) < (w * d + 1 * u * d) * d → 5000 * w ≤ 5001 * v → 5000 * h ≤ 5001 * l + 15000 * 1
close_units l h u d v w z a b c =
    let p : v < (l + 1) * u = lt_of_mul-lt-mul_right d (omega (arith, a)) in
    let q : h * u < w + u = lt_of_mul-lt-mul_right (d * d) (omega (arith, b)) in
    let r : 5000 * h < 5001 * l + 10001 = lt_of_mul-lt-mul_right u (omega arith) in
    omega arith

line_enclosed : (e : Effect) (r : Pair) (n : pair_units.Units) (y : Fraction) → in_units r (unit_of e) ≡ is n → promises.Holds r y → 5000 * (value r.high).num ≤ 5001 * (value r.low).num →
    Enclosed n.low n.high 1 (in_units_of e y)
unfolding in_units_of value scaled plus
line_enclosed e r n y t h c =
    let b = units_hold r (unit_of e) n y t h in
    let s : Counted r (unit_of e) n = units_right r (unit_of e) n t in
    let u : ℕ = 10 ^ place (unit_of e) in
    record {
      some = lit< tt;
      proper = h.proper.above_zero;
      least = least_units n.low u (units_per_one e) (10 ^ depth) y.num y.den (unit_power e) (ten_above (place (unit_of e))) b.0.across;
      most = most_units n.high u (units_per_one e) (10 ^ depth) y.num y.den (unit_power e) (ten_above (place (unit_of e))) b.1.across;
      close = close_units n.low n.high u (10 ^ depth) (value r.low).num (value r.high).num (ten_above depth) s.low_most.across s.high_most.across c;
    }

-- ---- a line at most its cap is counted by small numbers
low_small : (l h u d : ℕ) → 0 < u → 0 < d → l * u * d ≤ h * u * d → l ≤ h
low_small l h u d y z c = le_of_mul-le-mul_right {k = u} (le_of_mul-le-mul_right {k = d} c z) y

high_small : (h u d v m : ℕ) → 0 < d → h * u * (d * d) < (v * d + 1 * u * d) * d → v * d ≤ m * u * d → h ≤ m
high_small h u d v m z a b =
    let p : h * u < v + u = lt_of_mul-lt-mul_right (d * d) (omega (arith, a)) in
    let q : v ≤ m * u = le_of_mul-le-mul_right {k = d} b z in
    let r : h < m + 1 = lt_of_mul-lt-mul_right u (omega arith) in
    omega arith

pub count_small : (e : Effect) (r : Pair) (n : pair_units.Units) (y : Fraction) → in_units r (unit_of e) ≡ is n → promises.Holds r y → value r.high ≤ᶠ value (cap_of e)
    → (n.low ≤ 10 ^ 16) × (n.high ≤ 10 ^ 16)
unfolding value scaled plus
count_small e r n y t h c =
    let u : ℕ = 10 ^ place (unit_of e) in
    let d : ℕ = 10 ^ depth in
    let held = units_hold r (unit_of e) n y t h in
    let counted : Counted r (unit_of e) n = units_right r (unit_of e) n t in
    let most : value r.high ≤ᶠ scaled (10 ^ 16) (unit_of e) = through (value_proper (cap_of e)) c (cap_units e (10 ^ 16) (lit≤ tt)) in
    let rising : scaled n.low (unit_of e) ≤ᶠ scaled n.high (unit_of e) = through h.proper held.0 held.1 in
    let high : n.high ≤ 10 ^ 16 = high_small n.high u d (value r.high).num (10 ^ 16) (ten_above depth) counted.high_most.across most.across in
    let low : n.low ≤ n.high = low_small n.low n.high u d (ten_above (place (unit_of e))) (ten_above depth) rising.across in
    (le_trans low high, high)

-- a pair holds its own low end
holds_low : (r : Pair) → is_pair r ≡ true → promises.Holds r (value r.low)
holds_low r h = record { proper = value_proper r.low; low = record { across = le_refl _ }; high = (ordered r h).rising }

-- a pair at most its cap is counted, by small numbers
pub record CountedPair (e : Effect) (r : Pair) : Type 0 where
  pub capped : value r.high ≤ᶠ value (cap_of e)
  pub units : pair_units.Units
  pub told : in_units r (unit_of e) ≡ is units
  pub small : (units.low ≤ 10 ^ 16) × (units.high ≤ 10 ^ 16)

pub pair_counted : (e : Effect) (r : Pair) → is_pair r ≡ true → high_above (cap_of e) (is r) ≡ false → CountedPair e r
pair_counted e r h c =
    let b : value r.high ≤ᶠ value (cap_of e) = not_above (cap_of e) r (cap_number e) h c in
    let a = units_answered r (unit_of e) h (unit_reach e) (through (value_proper (cap_of e)) b (cap_units e 9999999999999999999 (lit≤ tt))) in
    record { capped = b; units = a.0; told = a.1; small = count_small e r a.0 (value r.low) a.1 (holds_low r h) b }

-- Ends outside a line's counts enclose what these enclose, if they are close.
enclosed_from : (l h : ℕ) (n : pair_units.Units) (x : Fraction) → Enclosed n.low n.high 1 x → l ≤ n.low → n.high ≤ h → 5000 * h ≤ 5001 * l + 15000 * 1 → Enclosed l h 1 x
enclosed_from l h n x q a b c =
    record {
      some = q.some;
      proper = q.proper;
      least = le_trans (mul-le-mul_right x.den a) q.least;
      most = le_trans q.most (mul-le-mul_right x.den b);
      close = c;
    }

-- ---- a line of a scenario
-- the line's pair, at most the cap, and its counts
pub record Figure (scenario : Scenario) (exact : Exact) (j i : ℕ) (e : Effect) (w : Pathway) : Type 0 where
  pub pair : Pair
  pub works : Works (stay_in scenario j) (pairs_at scenario j i) (exact j i) (line (guidance_in scenario) e (stay_in scenario j) w) pair
  pub capped : value pair.high ≤ᶠ value (cap_of e)
  pub units : pair_units.Units
  pub told : in_units pair (unit_of e) ≡ is units

module _ (scenario : Scenario) {exact : Exact} (sound : Sound scenario exact) (j i : ℕ) (j-small : j < scenario.receptors.count) (i-small : i < scenario.chemicals.count) where
  pub figure_works : (e : Effect) (w : Pathway) → (r : Pair) × Works (stay_in scenario j) (pairs_at scenario j i) (exact j i) (line (guidance_in scenario) e (stay_in scenario j) w) r
  figure_works e w = line_works (stay_in scenario j) (pairs_at scenario j i) (exact j i) (sound.inputs j i j-small i-small) (sound.later j i j-small i-small) (guidance_in scenario) e w

  pub figure_counted : (e : Effect) (w : Pathway) → high_above (cap_of e) (figure_at e scenario j i w) ≡ false → Figure scenario exact j i e w
  unfolding figure_at
  figure_counted e w c =
      let r : Pair = (figure_works e w).0 in
      let k : Works (stay_in scenario j) (pairs_at scenario j i) (exact j i) (line (guidance_in scenario) e (stay_in scenario j) w) r = (figure_works e w).1 in
      let n = pair_counted e r k.pair (subst (λ (o : Outcome Pair). high_above (cap_of e) o ≡ false) k.told c) in
      record { pair = r; works = k; capped = n.capped; units = n.units; told = n.told }

  figure_totals : (e : Effect) (w : Pathway) → high_above (cap_of e) (figure_at e scenario j i w) ≡ false → (N : ℕ) → 256 ≤ N →
      Totals (counted_in (unit_of e) (figure_at e scenario j i w)) 1 (in_units_of e (exactly N (paces_of (pairs_at scenario j i)) (exact j i) (line (guidance_in scenario) e (stay_in scenario j) w)))
  unfolding figure_at counted_in counted Totals
  figure_totals e w c N n =
      let f : Figure scenario exact j i e w = figure_counted e w c in
      let x : Fraction = exactly N (paces_of (pairs_at scenario j i)) (exact j i) (line (guidance_in scenario) e (stay_in scenario j) w) in
      let q : Enclosed f.units.low f.units.high 1 (in_units_of e x) =
      line_enclosed e f.pair f.units x f.told (f.works.held N n) (line_narrow (stay_in scenario j) (pairs_at scenario j i) (exact j i) (guidance_in scenario) e w f.pair f.works)
      in
      let s = count_small e f.pair f.units x f.told (f.works.held N n) f.capped in
      rw (f.works.told, f.told) (enclosed_from _ _ f.units (in_units_of e x) q (omega arith) (omega (arith, s)) (omega (arith, q.close)))

  by_reference : (t : Bool) (e : Effect) (w : Pathway) → (t && high_above (cap_of e) (figure_at e scenario j i w)) ≡ false → (N : ℕ) → 256 ≤ N →
      Totals (cond t (counted_in (unit_of e) (figure_at e scenario j i w)) None) (cond t 1 0) (cond t (in_units_of e (exactly N (paces_of (pairs_at scenario j i)) (exact j i) (line (guidance_in scenario) e (stay_in scenario j) w))) nothing)
  by_reference true e w c N n = figure_totals e w c N n
  by_reference false e w c N n = totals_none

  -- A line's columns and its exact fraction; without the reference value it counts nothing.
  pub line_totals : (e : Effect) (w : Pathway) → over_cap e scenario j i w ≡ false → (N : ℕ) → 256 ≤ N →
      Totals (columns_at e scenario j i w) (line_counts e scenario i w) (exact_line e scenario exact N j i w)
  unfolding over_cap columns_at line_counts exact_line
  line_totals e w c N n =
      subst (λ (stay : Stay). Totals (columns_at e scenario j i w) (line_counts e scenario i w) (cond (has_reference e scenario i w) (in_units_of e (exactly N (paces_of (pairs_at scenario j i)) (exact j i) (line (guidance_in scenario) e stay w))) nothing))
      (sound.stays j i j-small i-small) (by_reference (has_reference e scenario i w) e w c N n)
