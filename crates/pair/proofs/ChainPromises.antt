-- What the calls made of several operations promise: `through`, `times_over` and `plus_product`, by the laws of one operation on what
-- earlier calls told; `next_term`; and `raised` and `absorbs`, by units of the last figure. Assumes nothing.
use mathlib.Core.Path.{◌≡◌, refl, sym, ◌∙◌, ap, subst}
use mathlib.Core.Bool.{true}
use Prim.Native.Nat.{ℕ, ◌+◌, ◌*◌, ◌^◌, ◌≤◌, ◌<◌}
use native.Mathlib.Nat.{mul-le-mul_right, le_of_mul-le-mul_right, mul-lt-mul_of_pos_right}
use native.Mathlib.Omega.{arith}
use Rattle.pair.specs.declared.Pair.{Pair}
use Rattle.pair.specs.declared.Partial.{Partial}
use Rattle.pair.specs.declared.Step.{Step}
use Rattle.pair.specs.declared.Step.TheVariants.{Times, Over}
use Rattle.pair.specs.Fraction.{Fraction, ◌≤ᶠ◌, plus, times, over}
use Rattle.pair.specs.Number.{is_number, is_pair, value, depth}
use Rattle.pair.specs.Rounding.{lifted}
use Rattle.pair.specs.Calls as calls
use Rattle.pair.specs.Calls.{Outcome, is, refused, after, stepped, sum, times_over, plus_product, next_term, absorbs, raised, partial}
use Rattle.pair.specs.Promises.{Operation, sums, products, quotients, call, operation_of, exact_result, exact_step, Holds, Held, scaled, units_of, Sized, ◌≤ₑ◌, ◌≤ₒ◌}
use Rattle.pair.proofs.Powers.{ten_above}
use Rattle.pair.proofs.Fractions.{◌<ᶠ◌}
use Rattle.pair.proofs.Numbers.{Nine, number_nine, number_reach}
use Rattle.pair.proofs.Providing.{never}
use Rattle.pair.proofs.Answers.{pair, Ordered, ordered, pair_from_lem, ends_from}
use Rattle.pair.proofs.Promises.{Toward, pair_again, holds, rises, through, value_proper}
use Rattle.pair.proofs.Partials.{partial_worked}
use Rattle.pair.proofs.Raising.{Lifted, lifted_none, lifted_on, lifted_working, lifted_rises, lifted_reach, RaisedTold, raised_told, raised_worked, number_above, significand_above, sized_exponent, far_sum, below_next, below_unit, absorbing}

-- ---- one operation on what earlier calls told
-- the second operand's outcome rises, or falls where it divides
abbrev pub TowardTold : Operation → Outcome Pair → Outcome Pair → Type 0
TowardTold o v v' = (q q' : Pair) → v ≡ is q → v' ≡ is q' → Toward o q q'

-- The answer is a pair, holds the exact result of whatever its operands hold, and rises with them.
pub after_pair : (o : Operation) (u v : Outcome Pair) (r : Pair) → after (call o) u v ≡ is r → is_pair r ≡ true
unfolding after
after_pair o (is p) (is q) r h = pair_again o p q r h
after_pair o (is p) (refused n) r h = never h
after_pair o (refused n) v r h = never h

pub after_holds : (o : Operation) (u v : Outcome Pair) (x y : Fraction) → Held u x → Held v y → Held (after (call o) u v) (exact_result o x y)
unfolding after
after_holds o (is p) (is q) x y a b r h = holds o p q r x y h (a p refl) (b q refl)
after_holds o (is p) (refused n) x y a b r h = never h
after_holds o (refused n) v x y a b r h = never h

pub after_rises : (o : Operation) (u u' v v' : Outcome Pair) → u ≤ₒ u' → TowardTold o v v' → after (call o) u v ≤ₒ after (call o) u' v'
unfolding after
after_rises o (is p) (is p') (is q) (is q') a b r r' h h' = rises o p p' q q' r r' h h' (a p p' refl refl) (b q q' refl refl)
after_rises o (is p) (is p') (is q) (refused n) a b r r' h h' = never h'
after_rises o (is p) (refused n) (is q) v' a b r r' h h' = never h'
after_rises o (is p) u' (refused n) v' a b r r' h h' = never h
after_rises o (refused n) u' v v' a b r r' h h' = never h

-- A pair as what a call told.
pub is_held_lem : {p : Pair} {x : Fraction} → Holds p x → Held (is p) x
is_held_lem {p} {x} h q e = let s : p ≡ q = cc in subst (λ (r : Pair). Holds r x) s h

pub is_rising : {p p' : Pair} → p ≤ₑ p' → is p ≤ₒ is p'
is_rising {p} {p'} h q q' e e' = let s : p ≡ q = cc in let s' : p' ≡ q' = cc in rw (sym s, sym s') h

pub is_toward : (o : Operation) {q q' : Pair} → Toward o q q' → TowardTold o (is q) (is q')
is_toward o {q} {q'} h r r' e e' = let s : q ≡ r = cc in let s' : q' ≡ r' = cc in rw (sym s, sym s') h

-- ---- `through`
-- A step is its operation.
pub stepped_call : (s : Step) (p q : Pair) → stepped s p q ≡ call (operation_of s) p q
unfolding stepped operation_of call
stepped_call Times p q = refl
stepped_call Over p q = refl

module _ (u : Outcome Pair) (f g h : Step) (a b c : Pair) where
  abbrev steps : Outcome Pair
  steps = after (call (operation_of h)) (after (call (operation_of g)) (after (call (operation_of f)) u (is a)) (is b)) (is c)

  pub through_is : calls.through u f a g b h c ≡ steps
  through_is = λ i. after (λ p q. stepped_call h p q i) (after (λ p q. stepped_call g p q i) (after (λ p q. stepped_call f p q i) u (is a)) (is b)) (is c)

  pub through_pair : (r : Pair) → calls.through u f a g b h c ≡ is r → is_pair r ≡ true
  through_pair r e = after_pair (operation_of h) (after (call (operation_of g)) (after (call (operation_of f)) u (is a)) (is b)) (is c) r (sym through_is ∙ e)

  pub through_holds : (x k l m : Fraction) → Held u x → Holds a k → Holds b l → Holds c m →
      Held (calls.through u f a g b h c) (exact_step h (exact_step g (exact_step f x k) l) m)
  unfolding exact_step
  through_holds x k l m i j n o r e =
      after_holds (operation_of h) _ (is c) _ m
      (after_holds (operation_of g) _ (is b) _ l (after_holds (operation_of f) u (is a) x k i (is_held_lem j)) (is_held_lem n))
      (is_held_lem o) r (sym through_is ∙ e)

pub through_rises : (u u' : Outcome Pair) (f g h : Step) (a a' b b' c c' : Pair) → u ≤ₒ u' →
    Toward (operation_of f) a a' → Toward (operation_of g) b b' → Toward (operation_of h) c c' → calls.through u f a g b h c ≤ₒ calls.through u' f a' g b' h c'
through_rises u u' f g h a a' b b' c c' i j k l r r' e e' =
    after_rises (operation_of h) _ _ (is c) (is c')
    (after_rises (operation_of g) _ _ (is b) (is b') (after_rises (operation_of f) u u' (is a) (is a') i (is_toward (operation_of f) j)) (is_toward (operation_of g) k))
    (is_toward (operation_of h) l) r r' (sym (through_is u f g h a b c) ∙ e) (sym (through_is u' f g h a' b' c') ∙ e')

-- ---- `times_over`
module _ (u v : Outcome Pair) (q : Pair) where
  pub times_over_pair : (r : Pair) → times_over u q v ≡ is r → is_pair r ≡ true
  unfolding call
  times_over_pair r e = after_pair quotients (after (call products) u (is q)) v r e

  pub times_over_holds : (x y z : Fraction) → Held u x → Holds q y → Held v z → Held (times_over u q v) (over (times x y) z)
  unfolding call exact_result
  times_over_holds x y z a b c = after_holds quotients (after (call products) u (is q)) v (times x y) z (after_holds products u (is q) x y a (is_held_lem b)) c

pub times_over_rises : (u u' v v' : Outcome Pair) (q q' : Pair) → u ≤ₒ u' → q ≤ₑ q' → v' ≤ₒ v → times_over u q v ≤ₒ times_over u' q' v'
unfolding call Toward
times_over_rises u u' v v' q q' a b c =
    after_rises quotients (after (call products) u (is q)) (after (call products) u' (is q')) v v' (after_rises products u u' (is q) (is q') a (is_toward products b)) (λ p p' e e'. c p' p e' e)

-- ---- `plus_product`
module _ (u : Outcome Pair) (p q : Pair) where
  pub plus_product_pair : (r : Pair) → plus_product u p q ≡ is r → is_pair r ≡ true
  unfolding call
  plus_product_pair r e = after_pair sums u (after (call products) (is p) (is q)) r e

  pub plus_product_holds : (x y z : Fraction) → Held u x → Holds p y → Holds q z → Held (plus_product u p q) (plus x (times y z))
  unfolding call exact_result
  plus_product_holds x y z a b c = after_holds sums u (after (call products) (is p) (is q)) x (times y z) a (after_holds products (is p) (is q) y z (is_held_lem b) (is_held_lem c))

pub plus_product_rises : (u u' : Outcome Pair) (p p' q q' : Pair) → u ≤ₒ u' → p ≤ₑ p' → q ≤ₑ q' → plus_product u p q ≤ₒ plus_product u' p' q'
unfolding call Toward
plus_product_rises u u' p p' q q' a b c =
    after_rises sums u u' (after (call products) (is p) (is q)) (after (call products) (is p') (is q')) a
    (after_rises products (is p) (is p') (is q) (is q') (is_rising b) (is_toward products c))

-- ---- `next_term`
-- A step tells the term t × x / d and the total with it, or nothing where one of them is refused.
pub next_term_told : (t s x d : Pair) → next_term t s x d ≡ partial (times_over (is t) x (is d)) (after sum (is s) (times_over (is t) x (is d)))
unfolding next_term after
next_term_told t s x d = refl

-- A step that is worked tells the term t × x / d and the total with it.
module _ (t s x d : Pair) (r : Partial) (w : next_term t s x d ≡ is r) where
  pub next_term_is : (times_over (is t) x (is d) ≡ is r.term) × (sum s r.term ≡ is r.total)
  unfolding next_term after
  next_term_is =
      let o : Outcome Pair = times_over (is t) x (is d) in
      let i = partial_worked o (after sum (is s) o) r w in
      (i.0, ap (after sum (is s)) (sym i.0) ∙ i.1)

  pub next_term_pairs : (is_pair r.term ≡ true) × (is_pair r.total ≡ true)
  unfolding call
  next_term_pairs = (times_over_pair (is t) (is d) x r.term next_term_is.0, pair_again sums s r.term r.total next_term_is.1)

  pub next_term_holds : (k l m n : Fraction) → Holds t k → Holds s l → Holds x m → Holds d n → Holds r.term (over (times k m) n) × Holds r.total (plus l (over (times k m) n))
  unfolding call exact_result
  next_term_holds k l m n a b c e =
      let i : Holds r.term (over (times k m) n) = times_over_holds (is t) (is d) x k m n (is_held_lem a) c (is_held_lem e) r.term next_term_is.0 in
      (i, holds sums s r.term r.total l (over (times k m) n) next_term_is.1 b i)

-- Both rise with the term, the total and the factor, and fall with the divisor.
pub next_term_rises : (t t' s s' x x' d d' : Pair) (n n' : Partial) → next_term t s x d ≡ is n → next_term t' s' x' d' ≡ is n' →
    t ≤ₑ t' → s ≤ₑ s' → x ≤ₑ x' → d' ≤ₑ d → (n.term ≤ₑ n'.term) × (n.total ≤ₑ n'.total)
unfolding call Toward
next_term_rises t t' s s' x x' d d' n n' w w' a b c e =
    let k = next_term_is t s x d n w in
    let k' = next_term_is t' s' x' d' n' w' in
    let i : n.term ≤ₑ n'.term =
    times_over_rises (is t) (is t') (is d) (is d') x x' (is_rising a) c (is_rising e) n.term n'.term k.0 k'.0 in
    (i, rises sums s s' n.term n'.term n.total n'.total k.1 k'.1 b i)

-- ---- `raised`: n units more at the high end, and the low end as it is
module _ (n : ℕ) (p r : Pair) (few : n ≤ 256) (h : raised n p ≡ is r) where
  told : RaisedTold n p r
  told = raised_told n p r h

  lifts : Lifted n p.high r.high
  lifts =
      let o : Ordered p = ordered p told.operand in
      rw told.ends_is (lifted_working n p.high (number_nine p.high o.high told.above) few told.reach)

  pub raised_operand : (is_pair p ≡ true) × (0 < (value p.high).num)
  raised_operand = (told.operand, number_above p.high told.above)

  pub raised_low : r.low ≡ p.low
  raised_low = ap (λ (q : Pair). q.low) told.ends_is

  -- n units of the last figure, and from the carry on units ten times as large
  pub raised_units : (plus (value p.high) (units_of n p.high) ≤ᶠ value r.high) × (value r.high ≤ᶠ plus (value p.high) (units_of (10 * n) p.high))
  unfolding value plus units_of scaled
  raised_units = (
    record { across = omega (arith, mul-le-mul_right (10 ^ depth * 10 ^ depth) lifts.least) },
    record { across = omega (arith, mul-le-mul_right (10 ^ depth * 10 ^ depth) lifts.most) },
  )

  above_old : value p.high ≤ᶠ value r.high
  unfolding value
  above_old = record { across = mul-le-mul_right (10 ^ depth) (omega (arith, lifts.least)) }

  pub raised_pair : is_pair r ≡ true
  raised_pair =
      let o : Ordered p = ordered p told.operand in
      pair_from_lem r (record { low = rw raised_low o.low; high = lifts.working; rising = rw raised_low (through (value_proper p.high) o.rising above_old) })

  -- so that it holds whatever the pair held
  pub raised_holds : (x : Fraction) → Holds p x → Holds r x
  raised_holds x a = record { proper = a.proper; low = rw raised_low a.low; high = through (value_proper p.high) a.high above_old }

pub raised_rises : (n : ℕ) (p p' r r' : Pair) → n ≤ 256 → raised n p ≡ is r → raised n p' ≡ is r' → p ≤ₑ p' → r ≤ₑ r'
unfolding value
raised_rises n p p' r r' few h h' a =
    let t : RaisedTold n p r = raised_told n p r h in
    let t' : RaisedTold n p' r' = raised_told n p' r' h' in
    let nine : Nine p.high = number_nine p.high (ordered p t.operand).high t.above in
    let nine' : Nine p'.high = number_nine p'.high (ordered p' t'.operand).high t'.above in
    let up : Lifted n p'.high (lifted n p'.high) = lifted_working n p'.high nine' few t'.reach in
    rw (t.ends_is, t'.ends_is)
    (record {
      low = a.low;
      high = record { across = mul-le-mul_right (10 ^ depth) (lifted_rises n p.high p'.high nine nine' (le_of_mul-le-mul_right {k = 10 ^ depth} a.high.across (ten_above depth)) up) };
    })

-- None more is the pair itself, and m more after n more are n + m more.
pub raised_none_more : (p r : Pair) → raised 0 p ≡ is r → raised 0 p ≡ is p
raised_none_more p r h =
    let t : RaisedTold 0 p r = raised_told 0 p r h in
    let o : Ordered p = ordered p t.operand in
    h ∙ ap is (t.ends_is ∙ ap (pair p.low) (lifted_none p.high (number_nine p.high o.high t.above).most))

pub raised_on : (n m : ℕ) (p r : Pair) → n + m ≤ 256 → raised n p ≡ is r → raised m r ≡ raised (n + m) p
raised_on n m p r l h =
    let t : RaisedTold n p r = raised_told n p r h in
    let nine : Nine p.high = number_nine p.high (ordered p t.operand).high t.above in
    sym (raised_worked m r (raised_pair n p r (omega arith) h) (lifts n p r (omega arith) h).above)
    ∙ rw t.ends_is (ap (calls.ends p.low) (lifted_on n m p.high nine.most l))
    ∙ raised_worked (n + m) p t.operand t.above

-- A pair above 0 and not too large is raised.
pub raised_answered : (n k : ℕ) (p : Pair) → n ≤ 256 → is_pair p ≡ true → 0 < (value p.high).num → Sized k (value p.high) → k ≤ 90000 → (r : Pair) × (raised n p ≡ is r)
raised_answered n k p few h z s l =
    let o : Ordered p = ordered p h in
    let a : 0 < p.high.significand = significand_above p.high z in
    let reach = lifted_reach n p.high o.high a (sized_exponent p.high k o.high z s l).1 in
    (pair p.low (lifted n p.high), sym (raised_worked n p h a) ∙ ends_from p.low (lifted n p.high) (number_reach p.low o.low) reach)

-- ---- `absorbs`
-- What is absorbed is above 0, and below one unit of the last figure of the sum's low end.
pub absorbs_below : (p q : Pair) → absorbs p q ≡ true → (0 < (value q.high).num) × (value q.high <ᶠ units_of 1 p.low)
unfolding value units_of scaled
absorbs_below p q h =
    let a = absorbing p q h in
    let n : is_number q.high ≡ true = (ordered q a.1.pair).high in
    let less = below_next q.high (number_nine q.high n (significand_above q.high a.1.above)) in
    let b = below_unit _ p.low q.high (ordered p a.0.pair).low a.0.above a.0.far n less in
    (a.1.above, record { across = mul-lt-mul_of_pos_right (omega (arith, b)) (ten_above depth) })

-- The sum with it is the pair raised by one unit.
pub absorbs_sum : (p q : Pair) → absorbs p q ≡ true → sum p q ≡ raised 1 p
absorbs_sum p q h = let a = absorbing p q h in far_sum _ p a.0 q a.1
