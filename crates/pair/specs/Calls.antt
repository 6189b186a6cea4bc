-- The calls on pairs and what each answers. A call that cannot be answered is refused with document 01's number 53: a pair that is
-- none, an entry with too many digits, in both words or in one, a divisor with low end 0, 1 − f with f or its high end above 1, an
-- exponent out of reach; and so is a count of more than nineteen figures, which 64 bits may not hold.
use Rattle.std.specs.Prelude.{ℕ, ◌+◌, ◌*◌, ◌^◌, Bool, true, false, ◌&&◌, not, leb, ltb, ℤ, pos, ◌+ℤ◌, Result, Ok, Err}
use Rattle.std.specs.Int.Signed.{le_z}
use Rattle.pair.specs.declared.Number.{Number}
use Rattle.pair.specs.declared.Pair.{Pair}
use Rattle.pair.specs.declared.Units.{Units}
use Rattle.pair.specs.declared.Refused.{Refused}
use Rattle.pair.specs.declared.Partial.{Partial}
use Rattle.pair.specs.declared.Step.{Step}
use Rattle.pair.specs.declared.Step.TheVariants as Steps
use Rattle.pair.specs.Number.{in_reach, is_zero, is_number, is_pair, at_most, as_printed, zero, one}
use Rattle.pair.specs.Rounding.{rounded, sum_end, product_end, quotient_end, rest_end, units_end, lifted}

-- what a call tells: a result, or the number of a refusal
pub data Outcome (A : Type 0) : Type 0 where
  is : A → Outcome A
  refused : ℕ → Outcome A

-- each case of what the code answers in these terms
unfoldable pub answer : {A : Type 0} → Result A Refused → Outcome A
answer (Ok x) = is x
answer (Err e) = refused 53

-- a result where the condition holds, else 53
unfoldable pub provided : {A : Type 0} → Bool → Outcome A → Outcome A
provided true x = x
provided false x = refused 53

-- the pair of two ends, if the exponents are in reach
unfoldable pub ends : Number → Number → Outcome Pair
ends low high = provided (in_reach low.exponent && in_reach high.exponent) (is (record { low = low; high = high }))

unfoldable pub zero_pair : Pair
zero_pair = record { low = zero; high = zero }

unfoldable pub one_pair : Pair
one_pair = record { low = one; high = one }

-- p itself, if it is a pair
unfoldable pub checked : Pair → Outcome Pair
checked p = provided (is_pair p) (is p)

-- a printed number has at most twelve digits, as many as a field has columns
abbrev pub most_printed : ℕ
most_printed = 999999999999

-- m × 10^e as printed: the working numbers next to it, which are one where it is one
unfoldable pub entry : ℕ → ℤ → Outcome Pair
entry m e = provided (leb m most_printed && in_reach e) (ends (rounded false m 1 e) (rounded true m 1 e))

-- m × 10^e, of at most nine digits, as a working number: a constant is named by it, and not by its nine figures
unfoldable pub written : ℕ → ℤ → Number
written m e = rounded false m 1 e

-- (high × 10^18 + low) × 10^e, two words of nineteen and eighteen digits: the working numbers next to it
unfoldable pub long_entry : ℕ → ℕ → ℤ → Outcome Pair
long_entry high low e =
    provided (ltb high (10 ^ 19) && (ltb low (10 ^ 18) && in_reach e))
    (ends (rounded false (high * 10 ^ 18 + low) 1 e) (rounded true (high * 10 ^ 18 + low) 1 e))

-- 1 − m × 10^e, from the printed digits, so that it is rounded once
unfoldable pub one_minus_entry : ℕ → ℤ → Outcome Pair
one_minus_entry m e =
    provided (leb m most_printed && (in_reach e && at_most (as_printed m e) one))
    (ends (rest_end false (as_printed m e)) (rest_end true (as_printed m e)))

-- p + q
unfoldable pub sum : Pair → Pair → Outcome Pair
sum p q =
    provided (is_pair p && is_pair q)
    (ends (sum_end false p.low q.low) (sum_end true p.high q.high))

-- p × q
unfoldable pub product : Pair → Pair → Outcome Pair
product p q =
    provided (is_pair p && is_pair q)
    (ends (product_end false p.low q.low) (product_end true p.high q.high))

-- p / q: low by high, high by low
unfoldable pub quotient : Pair → Pair → Outcome Pair
quotient p q =
    provided (is_pair p && (is_pair q && not (is_zero q.low)))
    (ends (quotient_end false p.low q.high) (quotient_end true p.high q.low))

-- a step of a chain: × or /
unfoldable pub stepped : Step → Pair → Pair → Outcome Pair
stepped Steps.Times p q = product p q
stepped Steps.Over p q = quotient p q

-- 1 − f: the low end from f's high end, the high end from f's low end
unfoldable pub one_minus : Pair → Outcome Pair
one_minus f =
    provided (is_pair f && at_most f.high one)
    (ends (rest_end false f.high) (rest_end true f.low))

-- whether a ≤ b
unfoldable pub compared : Number → Number → Outcome Bool
compared a b = provided (is_number a && is_number b) (is (at_most a b))

-- a term of a series and the sum of the terms up to it, where both are told: a refusal is carried along
unfoldable pub partial : Outcome Pair → Outcome Pair → Outcome Partial
partial (is t) (is s) = is (record { term = t; total = s })
partial (is t) (refused n) = refused n
partial (refused n) s = refused n

-- whether q is above 0 and below one unit of the last figure of p's low end: then p + q has p's low end and, at the high end, one unit more
unfoldable pub absorbs : Pair → Pair → Bool
absorbs p q =
    is_pair p && (is_pair q && (ltb 0 p.low.significand && (ltb 0 q.high.significand && le_z (q.high.exponent +ℤ pos 9) p.low.exponent)))

-- p, above 0 at its high end, with n units more in that end's last figure
unfoldable pub raised : ℕ → Pair → Outcome Pair
raised n p = provided (is_pair p && ltb 0 p.high.significand) (ends p.low (lifted n p.high))

-- an operation on what earlier calls told: a refusal is carried along
unfoldable pub after : (Pair → Pair → Outcome Pair) → Outcome Pair → Outcome Pair → Outcome Pair
after f (is p) (is q) = f p q
after f (is p) (refused n) = refused n
after f (refused n) y = refused n

unfoldable pub after_one : (Pair → Outcome Pair) → Outcome Pair → Outcome Pair
after_one f (is p) = f p
after_one f (refused n) = refused n

-- u × q / v, u + p × q, and three steps one after the other
abbrev pub times_over : Outcome Pair → Pair → Outcome Pair → Outcome Pair
times_over u q v = after quotient (after product u (is q)) v

abbrev pub plus_product : Outcome Pair → Pair → Pair → Outcome Pair
plus_product u p q = after sum u (after product (is p) (is q))

abbrev pub through : Outcome Pair → Step → Pair → Step → Pair → Step → Pair → Outcome Pair
through u first a second b third c = after (stepped third) (after (stepped second) (after (stepped first) u (is a)) (is b)) (is c)

-- a quantity made of a result: a refusal is carried along
unfoldable pub mapped : {A B : Type 0} → (A → B) → Outcome A → Outcome B
mapped f (is x) = is (f x)
mapped f (refused n) = refused n

-- how many units of 10^u a pair is: the low end down, the high end up; counts of up to nineteen figures
unfoldable pub in_units : Pair → ℤ → Outcome Units
in_units p u =
    let low : ℕ = units_end false p.low u in
    let high : ℕ = units_end true p.high u in
    provided (is_pair p && (in_reach u && (ltb low (10 ^ 19) && ltb high (10 ^ 19))))
    (is (record { low = low; high = high }))

-- a step of a series: the next term, term × factor / divisor, and the total with it
unfoldable pub next_term : Pair → Pair → Pair → Pair → Outcome Partial
next_term term total factor divisor =
    let t : Outcome Pair = after quotient (product term factor) (is divisor) in
    partial t (after sum (is total) t)
