-- A step of a chain, × or /, test by test as the code makes it. Assumes nothing.
use mathlib.Core.Path.{◌≡◌, sym, ◌∙◌, ap}
use mathlib.Core.Bool.{true, false, ◌&&◌, not, and-true, true≢false}
use mathlib.Core.Logic.{⊎_elim}
use Prim.Native.Nat.{◌<◌}
use native.Mathlib.Nat.{eq-zero-or-pos, ne_of_gt}
use lib.Dec.{eqb}
use borrow.Author.Tests.{eq-eqb, ne_eqb}
use Rattle.pair.specs.declared.Number.{Number}
use Rattle.pair.specs.declared.Pair.{Pair}
use Rattle.pair.specs.declared.Step.{Step}
use Rattle.pair.specs.declared.Step.TheVariants.{Times, Over}
use Rattle.pair.specs.Number.{is_zero, is_number, is_pair}
use Rattle.pair.specs.Rounding.{product_end, quotient_end}
use Rattle.pair.specs.Calls.{is, refused, ends, product, quotient, stepped}
use Rattle.pair.specs.Inner.{divides, is_operand}
use Rattle.pair.specs.Promises.{products, quotients, call}
use Rattle.pair.proofs.Numbers.{both, pair_low, none_is_zero, some_is_not_zero}
use Rattle.pair.proofs.Promises.{pair_again}
use Rattle.pair.proofs.Providing.{second_fails, refused_as}
use Rattle.pair.proofs.Worked.{product_first, quotient_first}

-- 0 told by the significand
pub zero_test : (w : Number) → is_number w ≡ true → eqb w.significand 0 ≡ is_zero w
zero_test w h =
    ⊎_elim (λ z. eq-eqb w.significand 0 z ∙ sym (none_is_zero w h z)) (λ l. ne_eqb w.significand 0 (ne_of_gt l) ∙ sym (some_is_not_zero w l)) (eq-zero-or-pos w.significand)

-- ---- an operand
pub operand_pair : (s : Step) (q : Pair) → is_operand s q ≡ true → is_pair q ≡ true
unfolding is_operand
operand_pair s q k = (both (is_pair q) (divides s q) k).0

pub divisor_above : (s : Step) (q : Pair) → s ≡ Over → is_operand s q ≡ true → 0 < q.low.significand
unfolding is_operand divides
divisor_above s q over k =
    let b = both (is_pair q) (not (is_zero q.low)) (rw over at k) in
    ⊎_elim (λ z. absurd (true≢false (sym b.1 ∙ ap not (none_is_zero q.low (pair_low q b.0) z)))) (λ l. l) (eq-zero-or-pos q.low.significand)

-- ---- a step
pub not_pair : (s : Step) (p q : Pair) → is_pair p ≡ false → refused 53 ≡ stepped s p q
unfolding stepped
not_pair Times p q f = product_first p q f
not_pair Over p q f = quotient_first p q f

pub not_operand : (s : Step) (p q : Pair) → is_operand s q ≡ false → refused 53 ≡ stepped s p q
unfolding stepped product quotient is_operand divides
not_operand Times p q f =
    refused_as (is_pair p && is_pair q) (ends (product_end false p.low q.low) (product_end true p.high q.high)) (second_fails (is_pair p) (is_pair q) (sym (and-true (is_pair q)) ∙ f))
not_operand Over p q f =
    refused_as (is_pair p && (is_pair q && not (is_zero q.low))) (ends (quotient_end false p.low q.high) (quotient_end true p.high q.low))
    (second_fails (is_pair p) (is_pair q && not (is_zero q.low)) f)

-- what a step tells is a pair again
pub product_again : (p q r : Pair) → is r ≡ product p q → is_pair r ≡ true
unfolding call
product_again p q r h = pair_again products p q r (sym h)

pub quotient_again : (p q r : Pair) → is r ≡ quotient p q → is_pair r ≡ true
unfolding call
quotient_again p q r h = pair_again quotients p q r (sym h)

pub step_again : (s : Step) (p q r : Pair) → is r ≡ stepped s p q → is_pair r ≡ true
unfolding stepped
step_again Times = product_again
step_again Over = quotient_again
