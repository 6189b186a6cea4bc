-- Where a formula rises with some letters: the marked letters stand neither in a divisor nor in a difference. Then each end of its pair
-- reading rises with them. Where they do not stand in it at all, it reads the same, as every line does whatever the year's slot holds.
-- Assumes nothing.
use mathlib.Core.Path.{◌≡◌, refl, sym, ◌∙◌, ap, ap₂}
use mathlib.Core.Bool.{Bool, true, false, ◌&&◌, not}
use Prim.Native.Nat.{ℕ}
use native.Mathlib.Omega.{arith}
use lib.IntN.{ℤ}
use borrow.Author.Tests.{not-true}
use Rattle.pair.specs.declared.Pair.{Pair}
use Rattle.pair.specs.Fraction.{◌≤ᶠ◌}
use Rattle.pair.specs.Calls.{Outcome, is, refused, after, entry, sum, product, quotient}
use Rattle.pair.specs.Promises.{sums, products, quotients, call, ◌≤ₑ◌, scaled}
use Rattle.pair.proofs.Promises.{Toward, rises, ends_itself, entry_rises}
use Rattle.lists.proofs.Booleans.{both}
use Rattle.equations.specs.declared.Pathway.{Pathway}
use Rattle.equations.specs.declared.Effect.{Effect}
use Rattle.equations.specs.declared.Stay.{Stay}
use Rattle.slots.specs.declared.Guidance.{Guidance}
use Rattle.slots.specs.Slots.{Slot, same}
use Rattle.equations.specs.Formula.{Letter, slot, rest, later, g_at_x, h_at_x, g_at_x', Formula, letter, constant, ◌⊕◌, ◌⊗◌, ◌⊘◌, read, pairs}
use Rattle.equations.specs.Ahead.{only}
use Rattle.equations.specs.Page as page
use Rattle.equations.specs.Page.{Growth, x, x'}
use Rattle.equations.specs.Readings.{Inputs, AtBoth, letters, no_growth, plain_with, plain, exponents, growth_at_both, as_answers, pace_of, paces_of, pair_growing, worked}
use Rattle.equations.proofs.Pathways.{pathways, passes, on_each, by_either, on_guided}
use Rattle.equations.proofs.AheadLaws.{only_same}
use Rattle.equations.proofs.Plain.{x_plain, x'_plain}

-- no marked letter stands in the formula
unfoldable pub steady : (Letter → Bool) → Formula → Bool
steady mark f = only (λ l. not (mark l)) f

-- none stands in a divisor, in a difference, in g or in h
unfoldable pub rising_letter : (Letter → Bool) → Letter → Bool
rising_letter mark (slot s) = true
rising_letter mark (rest s) = not (mark (rest s))
rising_letter mark later = not (mark later)
rising_letter mark g_at_x = not (mark g_at_x)
rising_letter mark h_at_x = not (mark h_at_x)
rising_letter mark g_at_x' = not (mark g_at_x')

unfoldable pub rising : (Letter → Bool) → Formula → Bool
rising mark (letter l) = rising_letter mark l
rising mark (constant m e) = true
rising mark (f ⊕ g) = rising mark f && rising mark g
rising mark (f ⊗ g) = rising mark f && rising mark g
rising mark (f ⊘ g) = rising mark f && steady mark g

-- the operands of an answered operation
record Operands (f : Pair → Pair → Outcome Pair) (a b : Outcome Pair) (r : Pair) : Type 0 where
  first : Pair
  second : Pair
  first_is : a ≡ is first
  second_is : b ≡ is second
  told : f first second ≡ is r

operands : (f : Pair → Pair → Outcome Pair) (a b : Outcome Pair) (r : Pair) → after f a b ≡ is r → Operands f a b r
unfolding after
operands f (is p) (is q) r h = record { first = p; second = q; first_is = refl; second_is = refl; told = h }
operands f (is p) (refused n) r h = absurd (never h)
  where
    never : refused n ≡ is r → ⊥
    never e = let z : ◌≡◌ {A = ℕ} 0 1 = cc in omega arith
operands f (refused n) y r h = absurd (never h)
  where
    never : refused n ≡ is r → ⊥
    never e = let z : ◌≡◌ {A = ℕ} 0 1 = cc in omega arith

same_pair_lem : {o : Outcome Pair} (p q : Pair) → o ≡ is p → o ≡ is q → p ≡ q
same_pair_lem p q h k = cc

module _ (mark : Letter → Bool) (env env' : Letter → Outcome Pair) (alike : (l : Letter) → mark l ≡ false → env l ≡ env' l) where
  pub steady_same : (f : Formula) → steady mark f ≡ true → read pairs env f ≡ read pairs env' f
  unfolding steady
  steady_same = only_same pairs (λ l. not (mark l)) env env' (λ l h. alike l (not-true (mark l) h))

  module _ (risen : (l : Letter) → rising_letter mark l ≡ true → (p p' : Pair) → env l ≡ is p → env' l ≡ is p' → ◌≤ₑ◌ p p') where
    pub formula_rises : (f : Formula) → rising mark f ≡ true → (r r' : Pair) → read pairs env f ≡ is r → read pairs env' f ≡ is r' → ◌≤ₑ◌ r r'
    unfolding rising read pairs call Toward
    formula_rises (letter l) h r r' a b = risen l h r r' a b
    formula_rises (constant m e) h r r' a b = rw (same_pair_lem r r' a b) (ends_itself r')
    formula_rises (f ⊕ g) h r r' a b =
        let t = both (rising mark f) (rising mark g) h in
        let c = operands sum (read pairs env f) (read pairs env g) r a in
        let d = operands sum (read pairs env' f) (read pairs env' g) r' b in
        rises sums c.first d.first c.second d.second r r' c.told d.told
        (formula_rises f t.0 c.first d.first c.first_is d.first_is)
        (formula_rises g t.1 c.second d.second c.second_is d.second_is)
    formula_rises (f ⊗ g) h r r' a b =
        let t = both (rising mark f) (rising mark g) h in
        let c = operands product (read pairs env f) (read pairs env g) r a in
        let d = operands product (read pairs env' f) (read pairs env' g) r' b in
        rises products c.first d.first c.second d.second r r' c.told d.told
        (formula_rises f t.0 c.first d.first c.first_is d.first_is)
        (formula_rises g t.1 c.second d.second c.second_is d.second_is)
    formula_rises (f ⊘ g) h r r' a b =
        let t = both (rising mark f) (steady mark g) h in
        let c = operands quotient (read pairs env f) (read pairs env g) r a in
        let d = operands quotient (read pairs env' f) (read pairs env' g) r' b in
        let e : d.second ≡ c.second = same_pair_lem d.second c.second d.second_is (sym (steady_same g t.1) ∙ c.second_is) in
        rises quotients c.first d.first c.second d.second r r' c.told d.told
        (formula_rises f t.0 c.first d.first c.first_is d.first_is)
        (rw e (ends_itself c.second))

-- marked slots, and with them 1 less their values; neither T2 − tD nor g or h
unfoldable pub marked : (Slot → Bool) → Letter → Bool
marked mark =
    letters (record { value = mark; rest = mark; later = false }) (record { at_x = record { g = false; h = false }; at_x' = record { g = false; h = false } })

-- the inputs are alike but for the marked slots
pub record Alike (mark : Slot → Bool) (env env' : Inputs Pair) : Type 0 where
  pub value : (s : Slot) → mark s ≡ false → env.value s ≡ env'.value s
  pub rest : (s : Slot) → mark s ≡ false → env.rest s ≡ env'.rest s
  pub later : env.later ≡ env'.later

-- g and h at these exponents
grown_from : AtBoth (Outcome Pair) → AtBoth (Growth (Outcome Pair))
grown_from e = growth_at_both pair_growing (record { at_x = pace_of e.at_x; at_x' = pace_of e.at_x' }) e

-- Where the marked slots stand neither in x nor in x', a formula that they do not stand in is worked the same, and one may rise with them.
module _ (mark : Slot → Bool) (free : (steady (marked mark) x ≡ true) × (steady (marked mark) x' ≡ true)) (env env' : Inputs Pair) (alike : Alike mark env env') where
  letter_same : (o o' : AtBoth (Growth (Outcome Pair))) → o ≡ o' → (l : Letter) → marked mark l ≡ false → letters (as_answers env) o l ≡ letters (as_answers env') o' l
  unfolding letters marked as_answers
  letter_same o o' e (slot s) h = ap (λ (p : Pair). is p) (alike.value s h)
  letter_same o o' e (rest s) h = ap (λ (p : Pair). is p) (alike.rest s h)
  letter_same o o' e later h = ap (λ (p : Pair). is p) alike.later
  letter_same o o' e g_at_x h = ap (λ (v : AtBoth (Growth (Outcome Pair))). v.at_x.g) e
  letter_same o o' e h_at_x h = ap (λ (v : AtBoth (Growth (Outcome Pair))). v.at_x.h) e
  letter_same o o' e g_at_x' h = ap (λ (v : AtBoth (Growth (Outcome Pair))). v.at_x'.g) e

  same_plain : (f : Formula) → steady (marked mark) f ≡ true → read pairs (letters (as_answers env) (no_growth pairs)) f ≡ read pairs (letters (as_answers env') (no_growth pairs)) f
  same_plain f h =
      steady_same (marked mark) (letters (as_answers env) (no_growth pairs)) (letters (as_answers env') (no_growth pairs)) (letter_same (no_growth pairs) (no_growth pairs) refl) f h

  x_same : plain pairs (as_answers env).value x ≡ plain pairs (as_answers env').value x
  x_same = sym (x_plain pairs (as_answers env) (no_growth pairs)) ∙ same_plain x free.0 ∙ x_plain pairs (as_answers env') (no_growth pairs)

  x'_same : plain_with pairs (as_answers env).value (as_answers env).later x' ≡ plain_with pairs (as_answers env').value (as_answers env').later x'
  x'_same = sym (x'_plain pairs (as_answers env) (no_growth pairs)) ∙ same_plain x' free.1 ∙ x'_plain pairs (as_answers env') (no_growth pairs)

  exponents_same : exponents pairs (as_answers env) ≡ exponents pairs (as_answers env')
  unfolding exponents
  exponents_same = ap₂ (λ (a b : Outcome Pair). record { at_x = a; at_x' = b }) x_same x'_same

  grown_same : grown_from (exponents pairs (as_answers env)) ≡ grown_from (exponents pairs (as_answers env'))
  grown_same = ap grown_from exponents_same

  pub worked_same : (f : Formula) → steady (marked mark) f ≡ true → worked env f ≡ worked env' f
  unfolding worked paces_of grown_from
  worked_same f h =
      let o : AtBoth (Growth (Outcome Pair)) = grown_from (exponents pairs (as_answers env)) in
      let o' : AtBoth (Growth (Outcome Pair)) = grown_from (exponents pairs (as_answers env')) in
      steady_same (marked mark) (letters (as_answers env) o) (letters (as_answers env') o') (letter_same o o' grown_same) f h

  module _ (risen : (s : Slot) → ◌≤ₑ◌ (env.value s) (env'.value s)) where
    letter_risen : (o o' : AtBoth (Growth (Outcome Pair))) → o ≡ o' → (l : Letter) → rising_letter (marked mark) l ≡ true → (p p' : Pair) → letters (as_answers env) o l ≡ is p → letters (as_answers env') o' l ≡ is p' → ◌≤ₑ◌ p p'
    unfolding letters marked as_answers rising_letter
    letter_risen o o' e (slot s) t p p' h h' =
        let i : env.value s ≡ p = cc in
        let j : env'.value s ≡ p' = cc in
        rw (← i, ← j) (risen s)
    letter_risen o o' e (rest s) t p p' h h' =
        rw (same_pair_lem p p' (sym (ap (λ (q : Pair). is q) (alike.rest s (not-true (mark s) t))) ∙ h) h') (ends_itself p')
    letter_risen o o' e later t p p' h h' = rw (same_pair_lem p p' (sym (ap (λ (q : Pair). is q) alike.later) ∙ h) h') (ends_itself p')
    letter_risen o o' e g_at_x t p p' h h' = rw (same_pair_lem p p' (sym (ap (λ (v : AtBoth (Growth (Outcome Pair))). v.at_x.g) e) ∙ h) h') (ends_itself p')
    letter_risen o o' e h_at_x t p p' h h' = rw (same_pair_lem p p' (sym (ap (λ (v : AtBoth (Growth (Outcome Pair))). v.at_x.h) e) ∙ h) h') (ends_itself p')
    letter_risen o o' e g_at_x' t p p' h h' = rw (same_pair_lem p p' (sym (ap (λ (v : AtBoth (Growth (Outcome Pair))). v.at_x'.g) e) ∙ h) h') (ends_itself p')

    pub worked_rises : (f : Formula) → rising (marked mark) f ≡ true → (r r' : Pair) → worked env f ≡ is r → worked env' f ≡ is r' → ◌≤ₑ◌ r r'
    unfolding worked paces_of grown_from
    worked_rises f h r r' a b =
        let o : AtBoth (Growth (Outcome Pair)) = grown_from (exponents pairs (as_answers env)) in
        let o' : AtBoth (Growth (Outcome Pair)) = grown_from (exponents pairs (as_answers env')) in
        formula_rises (marked mark) (letters (as_answers env) o) (letters (as_answers env') o') (letter_same o o' grown_same) (letter_risen o o' grown_same) f h r r' a b

-- The emission rate Q
unfoldable pub emission : Slot → Bool
emission s = same "Q" s

x_steady : (steady (marked emission) x ≡ true) × (steady (marked emission) x' ≡ true)
unfolding steady only marked letters emission same x x' page.k page.u page.kse page.ksr page.ksl
x_steady = (refl, refl)

line_rising : (y : Guidance) (e : Effect) (stay : Stay) (p : Pathway) → rising (marked emission) (page.line y e stay p) ≡ true
unfolding passes pathways on_each by_either rising rising_letter steady only marked letters emission same page.line page.by_guidance page.air_line page.air_figure_by page.time_share page.time_in_air page.intake_line page.figure_by page.intake page.factor page.medium page.by_medium page.soil page.mean page.gathered page.exposure page.B page.AT page.reference page.reference_slot page.by_route page.A page.C page.D page.above_ground page.below_ground x x' page.k page.u page.kse page.ksr page.ksl
line_rising = on_guided (λ y e stay p. rising (marked emission) (page.line y e stay p)) refl

-- Each end of every line rises with the printed Q, where all else is alike.
pub line_rises : (env env' : Inputs Pair) → Alike emission env env' → (m m' : ℕ) (power power' : ℤ) → scaled m power ≤ᶠ scaled m' power' →
    ((s : Slot) → emission s ≡ true → (entry m power ≡ is (env.value s)) × (entry m' power' ≡ is (env'.value s))) →
    (y : Guidance) (e : Effect) (stay : Stay) (p : Pathway) (r r' : Pair) → worked env (page.line y e stay p) ≡ is r → worked env' (page.line y e stay p) ≡ is r' → ◌≤ₑ◌ r r'
line_rises env env' alike m m' power power' more entered y e stay p =
    worked_rises emission x_steady env env' alike risen (page.line y e stay p) (line_rising y e stay p)
  where
    at : (s : Slot) (t : Bool) → emission s ≡ t → ◌≤ₑ◌ (env.value s) (env'.value s)
    at s true h = entry_rises m m' power power' (env.value s) (env'.value s) (entered s h).0 (entered s h).1 more
    at s false h = rw (alike.value s h) (ends_itself (env'.value s))

    risen : (s : Slot) → ◌≤ₑ◌ (env.value s) (env'.value s)
    risen s = at s (emission s) refl

-- The year's slot stands in no formula, by either guidance.
unfoldable pub the_year : Slot → Bool
the_year s = same "year" s

pub year_free : (steady (marked the_year) x ≡ true) × (steady (marked the_year) x' ≡ true)
unfolding steady only marked letters the_year same x x' page.k page.u page.kse page.ksr page.ksl
year_free = (refl, refl)

pub year_steady : (y : Guidance) (e : Effect) (stay : Stay) (p : Pathway) → steady (marked the_year) (page.line y e stay p) ≡ true
unfolding passes pathways on_each by_either steady only marked letters the_year same page.line page.by_guidance page.air_line page.air_figure_by page.time_share page.time_in_air page.intake_line page.figure_by page.intake page.factor page.medium page.by_medium page.soil page.mean page.gathered page.exposure page.B page.AT page.reference page.reference_slot page.by_route page.A page.C page.D page.above_ground page.below_ground x x' page.k page.u page.kse page.ksr page.ksl
year_steady = on_guided (λ y e stay p. steady (marked the_year) (page.line y e stay p)) refl
