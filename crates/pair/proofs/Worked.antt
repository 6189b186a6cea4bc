-- What a sum, a product and a quotient of two pairs come to, test by test as the code makes them. Assumes nothing.
use mathlib.Core.Path.{◌≡◌, sym, ◌∙◌, ap}
use mathlib.Core.Bool.{true, false, ◌&&◌, not, true≢false}
use mathlib.Core.Logic.{⊎_elim}
use Prim.Native.Nat.{◌<◌}
use native.Mathlib.Nat.{eq-zero-or-pos}
use Rattle.pair.specs.declared.Pair.{Pair}
use Rattle.pair.specs.Number.{is_zero, is_pair}
use Rattle.pair.specs.Rounding.{product_end, quotient_end}
use Rattle.pair.specs.Calls.{refused, ends, product, quotient}
use Rattle.pair.proofs.Alignment.{order_zero_right}
use Rattle.pair.proofs.Numbers.{pair_order, some_is_not_zero}
use Rattle.pair.proofs.Providing.{first_fails, first_holds, refused_as, told_as}

module _ (p q : Pair) where
  pub product_first : is_pair p ≡ false → refused 53 ≡ product p q
  unfolding product
  product_first h = refused_as (is_pair p && is_pair q) (ends (product_end false p.low q.low) (product_end true p.high q.high)) (first_fails (is_pair p) (is_pair q) h)

  pub product_worked : is_pair p ≡ true → is_pair q ≡ true → ends (product_end false p.low q.low) (product_end true p.high q.high) ≡ product p q
  unfolding product
  product_worked h k = told_as (is_pair p && is_pair q) (ends (product_end false p.low q.low) (product_end true p.high q.high)) (first_holds (is_pair p) (is_pair q) true h (sym k))

  pub quotient_first : is_pair p ≡ false → refused 53 ≡ quotient p q
  unfolding quotient
  quotient_first h = refused_as (is_pair p && (is_pair q && not (is_zero q.low))) (ends (quotient_end false p.low q.high) (quotient_end true p.high q.low)) (first_fails (is_pair p) (is_pair q && not (is_zero q.low)) h)

  pub quotient_worked : is_pair p ≡ true → is_pair q ≡ true → 0 < q.low.significand →
      ends (quotient_end false p.low q.high) (quotient_end true p.high q.low) ≡ quotient p q
  unfolding quotient
  quotient_worked h k l =
      told_as (is_pair p && (is_pair q && not (is_zero q.low))) (ends (quotient_end false p.low q.high) (quotient_end true p.high q.low))
      (first_holds (is_pair p) (is_pair q && not (is_zero q.low)) true h
      (first_holds (is_pair q) (not (is_zero q.low)) true k (sym (ap not (some_is_not_zero q.low l)))))

-- a low end above 0 has a high end above 0
pub high_above_lem : (q : Pair) → is_pair q ≡ true → 0 < q.low.significand → 0 < q.high.significand
high_above_lem q h p =
    ⊎_elim
    (λ z. absurd (true≢false (sym (pair_order q h) ∙ order_zero_right q.low q.high p z)))
    (λ l. l)
    (eq-zero-or-pos q.high.significand)
