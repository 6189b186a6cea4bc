-- Every formula of the page. For inputs in range, every formula whose profile says so is answered, with one pair that holds the exact value for
-- every N from 256 up and is as narrow as its profile says, however fast the chemical is lost. So are the media, the factors, the intakes and the
-- lines, and a line's high end is at most its low end and one part in 5,000 more. Assumes nothing.
use mathlib.Core.Path.{◌≡◌, refl, sym, ◌∙◌, ap, subst}
use mathlib.Core.Bool.{Bool, true, false, ◌&&◌, false≢true}
use Prim.Native.Nat.{ℕ, ◌*◌, ◌^◌, ◌≤◌, ◌<◌}
use native.Mathlib.Nat.{mul-le-mul_right, le_of_mul-le-mul_right, one-le-pow}
use native.Mathlib.Omega.{arith}
use lib.Dec.{leb, lit<, lit≤}
use lib.IntN.{pos}
use borrow.Author.Tests.{leb-true}
use Rattle.pair.specs.declared.Number.{Number}
use Rattle.pair.specs.declared.Pair.{Pair}
use Rattle.pair.specs.Fraction as exact
use Rattle.pair.specs.Fraction.{Fraction}
use Rattle.pair.specs.Number.{is_pair, value, depth}
use Rattle.pair.specs.Calls.{Outcome, is}
use Rattle.pair.specs.Promises.{Holds, products, quotients, Near, spread}
use Rattle.pair.proofs.Promises.{joint}
use Rattle.pair.proofs.Widths.{near_more}
use Rattle.pair.proofs.Profiles.{Profile, of_number, positives, usable, joined, Fits, Good, answered_as, parts, good_more, good_number}
use Rattle.lists.proofs.Booleans.{both}
use Rattle.equations.specs.declared.Pathway.{Pathway}
use Rattle.equations.specs.declared.Effect.{Effect}
use Rattle.equations.specs.declared.Effect.TheVariants.{Hazard, Cancer}
use Rattle.equations.specs.declared.Stay.{Stay}
use Rattle.equations.specs.declared.Stay.TheVariants.{Within, Beyond}
use Rattle.slots.specs.declared.Guidance.{Guidance}
use Rattle.slots.specs.declared.Guidance.TheVariants.{Of2005}
use Rattle.slots.specs.declared.Owner.{Owner}
use Rattle.slots.specs.declared.Owner.TheVariants.{Site, Chemical, Receptor}
use Rattle.slots.specs.Slots.{Slot, table, same, is_in, place_in, entry_rule, owner_of, place_of, rule_of, never_zero, at_most_one}
use Rattle.equations.specs.Formula.{Letter, slot, rest, later, g_at_x, h_at_x, g_at_x', Formula, read, pairs, fractions}
use Rattle.equations.specs.Page as page
use Rattle.equations.specs.Page.{Growth, growth, x, x'}
use Rattle.equations.specs.Readings.{Inputs, AtBoth, letters, no_growth, plain_with, plain, exponents, growth_at_both, as_answers, paces_of, pair_growing, worked, exact_inputs, exact_growing, exactly, by_owner}
use Rattle.equations.proofs.Profile.{profiles}
use Rattle.equations.proofs.FormulaLaws.{profile, reads_good}
use Rattle.equations.proofs.Pathways.{pathways, passes, on_each, by_either, on_guided}
use Rattle.equations.proofs.Plain.{x_plain, x'_plain}
use Rattle.equations.proofs.FastLaws.{of_exponent}
use Rattle.equations.proofs.GrowthLaws.{of_g, of_h, grown}

-- The profile of a printed value of a slot: 0 or from 10^−20 to 10^20, and entered one part wide.
unfoldable pub of_printed : Slot → Profile
of_printed s = record { size = 20; width = 1; positive = never_zero s; answered = true }

-- The profile of a slot. A site's or a chemical's value is printed; a receptor's may be a mean over life stages: what eight printed values
-- and their years give by the rule.
unfoldable pub of_slot : Slot → Profile
of_slot s = record { size = by_owner (owner_of s) 20 20 74; width = by_owner (owner_of s) 1 1 35; positive = never_zero s; answered = true }

-- 1 less it is taken from what is printed, where the slot is at most 1 and no receptor's, which twelve digits leave 0 or at least 10^−12
unfoldable pub of_rest : Slot → Profile
of_rest s = record { size = 12; width = 1; positive = false; answered = by_owner (owner_of s) (at_most_one s) (at_most_one s) false }

-- T2 − tD is taken from what is printed, where T2 is above tD: from 10^−27, the last digit of a printed time, to 10^10
unfoldable pub of_later : Stay → Profile
of_later Within = record { size = 27; width = 1; positive = true; answered = false }
of_later Beyond = record { size = 27; width = 1; positive = true; answered = true }

unfoldable pub of_slots : Stay → Inputs Profile
of_slots stay = record { value = of_slot; rest = of_rest; later = of_later stay }

-- A printed value fits every slot.
printed_size : (o : Owner) → 20 ≤ by_owner o 20 20 74
unfolding by_owner
printed_size Site = lit≤ tt
printed_size Chemical = lit≤ tt
printed_size Receptor = lit≤ tt

printed_width : (o : Owner) → 1 ≤ by_owner o 1 1 35
unfolding by_owner
printed_width Site = lit≤ tt
printed_width Chemical = lit≤ tt
printed_width Receptor = lit≤ tt

pub printed_good : (s : Slot) {o : Outcome Pair} {x : Fraction} → Good (of_printed s) o x → Good (of_slot s) o x
unfolding of_printed of_slot
printed_good s g = good_more (of_printed s) (of_slot s) (printed_size (owner_of s)) (printed_width (owner_of s)) (λ t. t) g

-- An input in range: its pair is as its slot's profile says and holds the exact value; so is 1 less it, where it is taken.
pub record InRange (s : Slot) (env : Inputs Pair) (v : Fraction) : Type 0 where
  pub value : Good (of_slot s) (is (env.value s)) v
  pub rest : (of_rest s).answered ≡ true → Good (of_rest s) (is (env.rest s)) (exact.rest v)

-- the profiles of x, read from the slots alone, and of x'
unfoldable pub of_x : Profile
of_x = plain profiles of_slot x

unfoldable pub of_x' : Stay → Profile
of_x' stay = plain_with profiles of_slot (of_later stay) x'

pub x_profile : of_x ≡ answered_as 215 40 false
unfolding of_x plain plain_with no_growth read profiles letters x page.k page.u page.kse page.ksr page.ksl of_number joined joint spread positives usable of_slot by_owner table same is_in place_in entry_rule owner_of place_of rule_of never_zero at_most_one
x_profile = refl

x'_profile : of_x' Beyond ≡ answered_as 222 40 false
unfolding of_x' of_later plain_with no_growth read profiles letters x' page.k page.u page.kse page.ksr page.ksl of_number joined joint spread positives usable of_slot by_owner table same is_in place_in entry_rule owner_of place_of rule_of never_zero at_most_one
x'_profile = refl

-- the profiles of g and h at x, of g at x', and of a formula
unfoldable pub of_later_growth : Stay → Profile
of_later_growth Within = record { size = of_g.size; width = of_g.width; positive = true; answered = false }
of_later_growth Beyond = of_g

unfoldable pub of_grown : Stay → AtBoth (Growth Profile)
of_grown stay = record { at_x = record { g = of_g; h = of_h }; at_x' = record { g = of_later_growth stay; h = of_h } }

unfoldable pub of_formula : Stay → Formula → Profile
of_formula stay f = profile (letters (of_slots stay) (of_grown stay)) f

-- whether a profile says that a figure is answered and narrow
narrow : Profile → Bool
narrow f = f.answered && leb f.width 11600

-- The profiles of the lines, and with them of all that stands in a line.
line_computed : (y : Guidance) (e : Effect) (stay : Stay) (p : Pathway) → narrow (of_formula stay (page.line y e stay p)) ≡ true
unfolding passes pathways on_each by_either narrow of_formula of_grown of_later_growth profile read profiles letters page.line page.by_guidance page.air_line page.air_figure_by page.time_share page.time_in_air page.intake_line page.figure_by page.intake page.factor page.medium page.by_medium page.soil page.mean page.gathered page.exposure page.B page.AT page.reference page.reference_slot page.by_route page.A page.C page.D page.above_ground page.below_ground x x' page.k page.u page.kse page.ksr page.ksl of_number joined joint spread positives usable of_slots of_slot of_rest of_later by_owner table same is_in place_in entry_rule owner_of place_of rule_of never_zero at_most_one
line_computed = on_guided (λ y e stay p. narrow (of_formula stay (page.line y e stay p))) refl

checked : (f : Profile) → narrow f ≡ true → (f.answered ≡ true) × (f.width ≤ 11600)
unfolding narrow
checked f h =
    let t = both f.answered (leb f.width 11600) h in
    (t.0, leb-true f.width 11600 t.1)

line_checked : (y : Guidance) (e : Effect) (stay : Stay) (p : Pathway) → ((of_formula stay (page.line y e stay p)).answered ≡ true) × ((of_formula stay (page.line y e stay p)).width ≤ 11600)
line_checked y e stay p = checked (of_formula stay (page.line y e stay p)) (line_computed y e stay p)

intake_checked : (e : Effect) (stay : Stay) (p : Pathway) → (of_formula stay (page.intake e stay p)).answered ≡ true
unfolding page.line page.by_guidance page.intake_line page.figure_by of_formula profile read profiles
intake_checked Hazard stay p = (parts quotients (of_formula stay (page.intake Hazard stay p)) (of_formula stay (page.reference Hazard p)) (checked _ (line_computed Of2005 Hazard stay p)).0).first
intake_checked Cancer stay p = (parts products (of_formula stay (page.intake Cancer stay p)) (of_formula stay (page.reference Cancer p)) (checked _ (line_computed Of2005 Cancer stay p)).0).first

medium_checked : (e : Effect) (stay : Stay) (p : Pathway) → (of_formula stay (page.medium e stay p)).answered ≡ true
unfolding page.intake of_formula profile read profiles
medium_checked e stay p = (parts products (of_formula stay (page.factor e p)) (of_formula stay (page.medium e stay p)) (intake_checked e stay p)).second

-- The pair reading of f is r, which fits f's profile and holds the exact reading for every N from 256 up.
pub record Works (stay : Stay) (env : Inputs Pair) (vals : Slot → Fraction) (f : Formula) (r : Pair) : Type 0 where
  pub told : worked env f ≡ is r
  pub pair : is_pair r ≡ true
  pub fits : Fits (of_formula stay f) r
  pub held : (N : ℕ) → 256 ≤ N → Holds r (exactly N (paces_of env) vals f)

-- k, what the mean beyond the deposition begins with, and x' where the exposure goes beyond it.
ground_checked : (stay : Stay) → ((of_formula stay page.k).answered ≡ true) × ((of_formula stay page.gathered).answered ≡ true)
unfolding of_formula of_grown of_later_growth profile read profiles letters page.gathered page.D x page.k page.u page.kse page.ksr page.ksl of_number joined joint spread positives usable of_slots of_slot of_rest of_later by_owner table same is_in place_in entry_rule owner_of place_of rule_of never_zero at_most_one
ground_checked Within = (refl, refl)
ground_checked Beyond = (refl, refl)

-- What is known of g and h, where their profiles say so.
record GrownGood (P : AtBoth (Growth Profile)) (o : AtBoth (Growth (Outcome Pair))) (v : AtBoth (Growth Fraction)) : Type 0 where
  g : P.at_x.g.answered ≡ true → Good P.at_x.g o.at_x.g v.at_x.g
  h : P.at_x.h.answered ≡ true → Good P.at_x.h o.at_x.h v.at_x.h
  g' : P.at_x'.g.answered ≡ true → Good P.at_x'.g o.at_x'.g v.at_x'.g

-- Inputs in range: each slot's value, and T2 − tD where the exposure goes beyond the deposition.
module _ (stay : Stay) (env : Inputs Pair) (vals : Slot → Fraction) (inputs : (s : Slot) → InRange s env (vals s)) (rest_of_time : (of_later stay).answered ≡ true → Good (of_later stay) (is env.later) (exact.minus (vals "T2") (vals "tD"))) where
  letter_good : (P : AtBoth (Growth Profile)) (o : AtBoth (Growth (Outcome Pair))) (v : AtBoth (Growth Fraction)) → GrownGood P o v → (l : Letter) →
      (letters (of_slots stay) P l).answered ≡ true → Good (letters (of_slots stay) P l) (letters (as_answers env) o l) (letters (exact_inputs vals) v l)
  unfolding letters as_answers exact_inputs of_slots
  letter_good P o v good (slot s) h = (inputs s).value
  letter_good P o v good (rest s) h = (inputs s).rest h
  letter_good P o v good later h = rest_of_time h
  letter_good P o v good g_at_x h = good.g h
  letter_good P o v good h_at_x h = good.h h
  letter_good P o v good g_at_x' h = good.g' h

  -- a formula with neither g nor h is read alike, whatever stands for them
  plain_good : (f : Formula) → (read profiles (letters (of_slots stay) (no_growth profiles)) f).answered ≡ true →
      Good (read profiles (letters (of_slots stay) (no_growth profiles)) f) (read pairs (letters (as_answers env) (no_growth pairs)) f) (read fractions (letters (exact_inputs vals) (no_growth fractions)) f)
  unfolding no_growth pairs fractions profiles profile
  plain_good f h =
      let one = good_number 1 (pos 0) in
      reads_good (letters (of_slots stay) (no_growth profiles)) (letters (as_answers env) (no_growth pairs)) (letters (exact_inputs vals) (no_growth fractions))
      (letter_good (no_growth profiles) (no_growth pairs) (no_growth fractions) (record { g = one; h = one; g' = one })) f h

  -- x, and x' where the exposure goes beyond the deposition, hold the exact ones.
  x_good : Good of_exponent (plain pairs (as_answers env).value x) (plain fractions vals x)
  unfolding of_x exact_inputs of_slots
  x_good =
      good_more of_x of_exponent (rw x_profile (lit≤ tt)) (rw x_profile (lit≤ tt)) (λ t. absurd (false≢true t))
      (rw (← (x_plain profiles (of_slots stay) (no_growth profiles)), ← (x_plain pairs (as_answers env) (no_growth pairs)), ← (x_plain fractions (exact_inputs vals) (no_growth fractions)))
      (plain_good x (ap (λ (P : Profile). P.answered) (x_plain profiles (of_slots stay) (no_growth profiles) ∙ x_profile))))

  x'_good : stay ≡ Beyond → Good of_exponent (plain_with pairs (as_answers env).value (as_answers env).later x') (plain_with fractions vals (exact_inputs vals).later x')
  unfolding of_x' exact_inputs of_slots
  x'_good e =
      let told : of_x' stay ≡ of_exponent = ap of_x' e ∙ x'_profile in
      subst (λ (P : Profile). Good P (plain_with pairs (as_answers env).value (as_answers env).later x') (plain_with fractions vals (exact_inputs vals).later x')) told
      (rw (← (x'_plain profiles (of_slots stay) (no_growth profiles)), ← (x'_plain pairs (as_answers env) (no_growth pairs)), ← (x'_plain fractions (exact_inputs vals) (no_growth fractions)))
      (plain_good x' (ap (λ (P : Profile). P.answered) (x'_plain profiles (of_slots stay) (no_growth profiles) ∙ told))))

  growth_good : (N : ℕ) → 256 ≤ N →
      GrownGood (of_grown stay) (growth_at_both pair_growing (paces_of env) (exponents pairs (as_answers env))) (growth_at_both (exact_growing N) (paces_of env) (exponents fractions (exact_inputs vals)))
  unfolding of_grown growth_at_both paces_of exponents exact_inputs
  growth_good N n =
      let at_x = grown x_good N n in
      record { g = λ t. at_x.g; h = λ t. at_x.h; g' = later_growth stay refl }
    where
      later_growth : (t : Stay) → stay ≡ t → (of_later_growth t).answered ≡ true →
          Good (of_later_growth t) (growth pair_growing (paces_of env).at_x' (plain_with pairs (as_answers env).value (as_answers env).later x')).g
          (growth (exact_growing N) (paces_of env).at_x' (plain_with fractions vals (exact_inputs vals).later x')).g
      later_growth Within e t = absurd (false≢true (unfold of_later_growth in t))
      later_growth Beyond e t = unfold of_later_growth paces_of exponents in (grown (x'_good e) N n).g

  worked_good : (f : Formula) → (of_formula stay f).answered ≡ true → (N : ℕ) → 256 ≤ N → Good (of_formula stay f) (worked env f) (exactly N (paces_of env) vals f)
  unfolding of_formula worked exactly
  worked_good f h N n =
      let o = growth_at_both pair_growing (paces_of env) (exponents pairs (as_answers env)) in
      let v = growth_at_both (exact_growing N) (paces_of env) (exponents fractions (exact_inputs vals)) in
      reads_good (letters (of_slots stay) (of_grown stay)) (letters (as_answers env) o) (letters (exact_inputs vals) v) (letter_good (of_grown stay) o v (growth_good N n)) f h

  -- Every formula whose profile says so is answered with one pair, which holds the exact value for every N from 256 up.
  pub formula_works : (f : Formula) → (of_formula stay f).answered ≡ true → (r : Pair) × Works stay env vals f r
  formula_works f h =
      let g = worked_good f h 256 (lit≤ tt) in (
        g.answer,
        record {
          told = g.told;
          pair = g.fits.pair;
          fits = g.fits;
          held =
              λ N n.
              let i : is (worked_good f h N n).answer ≡ is g.answer = sym (worked_good f h N n).told ∙ g.told in
              let e : (worked_good f h N n).answer ≡ g.answer = cc in
              subst (λ (q : Pair). Holds q (exactly N (paces_of env) vals f)) e (worked_good f h N n).held;
        },
      )

  pub line_works : (y : Guidance) (e : Effect) (w : Pathway) → (r : Pair) × Works stay env vals (page.line y e stay w) r
  line_works y e w = formula_works (page.line y e stay w) (line_checked y e stay w).0

  pub medium_works : (e : Effect) (w : Pathway) → (r : Pair) × Works stay env vals (page.medium e stay w) r
  medium_works e w = formula_works (page.medium e stay w) (medium_checked e stay w)

  pub ground_works : ((r : Pair) × Works stay env vals page.k r) × ((r : Pair) × Works stay env vals page.gathered r)
  ground_works = (formula_works page.k (ground_checked stay).0, formula_works page.gathered (ground_checked stay).1)

-- A line's high end is at most its low end and one part in 5,000 more.
few_parts : (u v : Number) (w : ℕ) → w ≤ 11600 → Near w (value u) (value v) → 5000 * (value u).num ≤ 5001 * (value v).num
unfolding value
few_parts u v w l h =
    cancel (value u).num (value v).num (10 ^ depth) (100000000 ^ 11600) (100000001 ^ 11600) (near_more l h).across (lit≤ tt) (one-le-pow depth 10 (lit< tt)) (one-le-pow 11600 100000000 (lit< tt))
  where
    cancel : (a b d m n : ℕ) → a * d * m ≤ b * d * n → n * 5000 ≤ m * 5001 → 0 < d → 0 < m → 5000 * a ≤ 5001 * b
    cancel a b d m n p q s t =
        let c : a * m ≤ b * n = le_of_mul-le-mul_right {k = d} (omega arith) s in
        le_of_mul-le-mul_right {k = m} (omega (arith, mul-le-mul_right b q)) t

pub line_narrow : (stay : Stay) (env : Inputs Pair) (vals : Slot → Fraction) (y : Guidance) (e : Effect) (p : Pathway) (r : Pair) → Works stay env vals (page.line y e stay p) r → 5000 * (value r.high).num ≤ 5001 * (value r.low).num
line_narrow stay env vals y e p r h = few_parts r.high r.low (of_formula stay (page.line y e stay p)).width (line_checked y e stay p).1 h.fits.wide
