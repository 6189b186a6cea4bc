-- A total with one term more and a step of a series, test by test, and what a step tells. Assumes nothing.
use mathlib.Core.Path.{◌≡◌, refl, sym, ◌∙◌, ap, ap₂}
use mathlib.Core.Bool.{Bool, true, false, ◌&&◌, not}
use mathlib.Core.Logic.{◌⊎◌, inl, inr}
use Prim.Native.Nat.{ℕ}
use lib.Dec.{leb}
use lib.IntN.{ℤ}
use Rattle.pair.specs.declared.Number.{Number}
use Rattle.pair.specs.declared.Pair.{Pair}
use Rattle.pair.specs.declared.Partial.{Partial}
use Rattle.pair.specs.Number.{is_pair, is_zero, in_reach}
use Rattle.pair.specs.Rounding.{rounded, sum_end, product_end, quotient_end}
use Rattle.pair.specs.Calls.{Outcome, is, refused, provided, ends, most_printed, entry, sum, product, quotient, after, mapped, partial, next_term}
use Rattle.pair.specs.Promises.{Operation, sums, products, quotients, call}
use Rattle.pair.proofs.Answers.{pair}
use Rattle.pair.specs.Inner.{both_in_reach}
use Rattle.pair.proofs.Providing.{first_fails, first_holds, refused_as, told_as, never}

-- ---- the total with a term u
module _ (total u : Pair) where
  abbrev added : Outcome Pair
  added = ends (sum_end false total.low u.low) (sum_end true total.high u.high)

  pub sum_refused : is_pair total ≡ false → refused 53 ≡ sum total u
  unfolding sum
  sum_refused f = refused_as (is_pair total && is_pair u) added (first_fails (is_pair total) (is_pair u) f)

  not_told : refused 53 ≡ sum total u → refused 53 ≡ partial (is u) (sum total u)
  unfolding partial
  not_told e = ap (partial (is u)) e

  pub no_total : is_pair total ≡ false → refused 53 ≡ partial (is u) (sum total u)
  no_total f = not_told (sum_refused f)

  module _ (h : is_pair total ≡ true) (k : is_pair u ≡ true) (low high : Number) (low_is : low ≡ sum_end false total.low u.low) (high_is : high ≡ sum_end true total.high u.high) where
    pub ends_added : ends low high ≡ sum total u
    unfolding sum
    ends_added = ap₂ ends low_is high_is ∙ told_as (is_pair total && is_pair u) added (first_holds (is_pair total) (is_pair u) true h (sym k))

    pub total_out : both_in_reach low high ≡ false → refused 53 ≡ partial (is u) (sum total u)
    unfolding ends both_in_reach
    total_out f = not_told (refused_as (both_in_reach low high) (is (pair low high)) (sym f) ∙ ends_added)

    pub total_in_lem : both_in_reach low high ≡ true → is (record { term = u; total = pair low high }) ≡ partial (is u) (sum total u)
    unfolding ends both_in_reach partial
    total_in_lem f = ap (partial (is u)) (told_as (both_in_reach low high) (is (pair low high)) (sym f) ∙ ends_added)

-- ---- the total with what a call told: a refusal is carried along
module _ (total : Pair) (o : Outcome Pair) where
  pub none_added : refused 53 ≡ o → refused 53 ≡ after sum (is total) o
  unfolding after
  none_added e = ap (after sum (is total)) e

  pub one_added : (u : Pair) (x : Outcome Pair) → is u ≡ o → x ≡ sum total u → x ≡ after sum (is total) o
  unfolding after
  one_added u x e h = h ∙ ap (after sum (is total)) e

-- ---- the next term
module _ (term total factor divisor : Pair) where
  -- from what the product and the quotient tell
  from_product : Outcome Pair → Outcome Partial
  from_product o = partial (after quotient o (is divisor)) (after sum (is total) (after quotient o (is divisor)))

  pub product_refused : refused 53 ≡ product term factor → refused 53 ≡ next_term term total factor divisor
  unfolding next_term from_product after partial
  product_refused e = ap from_product e

  module _ (r : Pair) (e : is r ≡ product term factor) where
    pub quotient_refused : refused 53 ≡ quotient r divisor → refused 53 ≡ next_term term total factor divisor
    unfolding next_term from_product after partial
    quotient_refused h = ap (λ (o : Outcome Pair). partial o (after sum (is total) o)) h ∙ ap from_product e

    pub quotient_told : (u : Pair) → is u ≡ quotient r divisor → partial (is u) (sum total u) ≡ next_term term total factor divisor
    unfolding next_term from_product after
    quotient_told u h = ap (λ (o : Outcome Pair). partial o (after sum (is total) o)) h ∙ ap from_product e

-- ---- what a step tells, for those who make it

-- a result, or 53
abbrev pub Plain : Outcome Pair → Type 0
Plain o = ((p : Pair) × (o ≡ is p)) ⊎ (o ≡ refused 53)

plain_provided : (t : Bool) (o : Outcome Pair) → Plain o → Plain (provided t o)
unfolding provided
plain_provided true o h = h
plain_provided false o h = inr refl

plain_ends : (low high : Number) → Plain (ends low high)
unfolding ends
plain_ends low high = plain_provided (in_reach low.exponent && in_reach high.exponent) (is (pair low high)) (inl (pair low high, refl))

plain_call : (o : Operation) (p q : Pair) → Plain (call o p q)
unfolding call sum product quotient
plain_call sums p q =
    plain_provided (is_pair p && is_pair q) (ends (sum_end false p.low q.low) (sum_end true p.high q.high))
    (plain_ends (sum_end false p.low q.low) (sum_end true p.high q.high))
plain_call products p q =
    plain_provided (is_pair p && is_pair q) (ends (product_end false p.low q.low) (product_end true p.high q.high))
    (plain_ends (product_end false p.low q.low) (product_end true p.high q.high))
plain_call quotients p q =
    plain_provided (is_pair p && (is_pair q && not (is_zero q.low))) (ends (quotient_end false p.low q.high) (quotient_end true p.high q.low))
    (plain_ends (quotient_end false p.low q.high) (quotient_end true p.high q.low))

pub plain_entry : (m : ℕ) (e : ℤ) → Plain (entry m e)
unfolding entry
plain_entry m e =
    plain_provided (leb m most_printed && in_reach e) (ends (rounded false m 1 e) (rounded true m 1 e)) (plain_ends (rounded false m 1 e) (rounded true m 1 e))

pub plain_after : (o : Operation) (u v : Outcome Pair) → Plain u → Plain v → Plain (after (call o) u v)
unfolding after
plain_after o u v (inl (p, e)) (inl (q, d)) = rw (e, d) (plain_call o p q)
plain_after o u v (inl (p, e)) (inr d) = inr (rw (e, d) refl)
plain_after o u v (inr e) h = inr (rw e refl)

-- A step that is worked tells the term and the total; one that is not tells of a total refused.
pub partial_worked : (o s : Outcome Pair) (r : Partial) → partial o s ≡ is r → (o ≡ is r.term) × (s ≡ is r.total)
unfolding partial mapped
partial_worked (is t) (is s) r h = (ap (mapped (λ (p : Partial). p.term)) h, ap (mapped (λ (p : Partial). p.total)) h)
partial_worked (is t) (refused n) r h = never h
partial_worked (refused n) s r h = never h

same_refusal : (m n : ℕ) → ◌≡◌ {A = Outcome Partial} (refused m) (refused n) → ◌≡◌ {A = Outcome Pair} (refused m) (refused n)
same_refusal m n h = let e : m ≡ n = cc in cc

total_refused : (t : Pair) (s : Outcome Pair) (n : ℕ) → partial (is t) s ≡ refused n → s ≡ refused n
unfolding partial
total_refused t (is s) n h = never (sym h)
total_refused t (refused m) n h = same_refusal m n h

refused_total : (total : Pair) (o : Outcome Pair) (n : ℕ) → partial o (after sum (is total) o) ≡ refused n → after sum (is total) o ≡ refused n
unfolding after
refused_total total (is t) n h = total_refused t (sum total t) n h
refused_total total (refused m) n h = unfold partial in same_refusal m n h

plainly : (o : Outcome Pair) (n : ℕ) → Plain o → o ≡ refused n → o ≡ refused 53
plainly o n (inl (p, e)) h = never (sym h ∙ e)
plainly o n (inr e) h = e

-- the refusal of the total, and it is 53 where the term is a result or 53
pub partial_refused : (total : Pair) (o : Outcome Pair) (n : ℕ) → partial o (after sum (is total) o) ≡ refused n
    → (after sum (is total) o ≡ refused n) × (Plain o → after sum (is total) o ≡ refused 53)
partial_refused total o n h =
    let told = refused_total total o n h in
    (told, λ plain. plainly (after sum (is total) o) n (unfold call in plain_after sums (is total) o (inl (total, refl)) plain) told)
