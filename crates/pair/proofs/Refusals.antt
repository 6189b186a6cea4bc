-- Every call on pairs is refused by 53 alone; for the crates above too, whose calls are made of these. Assumes nothing.
use mathlib.Core.Path.{◌≡◌, sym}
use mathlib.Core.Bool.{Bool, true, false}
use Prim.Native.Nat.{ℕ}
use lib.IntN.{ℤ}
use Rattle.pair.specs.declared.Number.{Number}
use Rattle.pair.specs.declared.Pair.{Pair}
use Rattle.pair.specs.declared.Partial.{Partial}
use Rattle.pair.specs.Calls.{Outcome, is, refused, provided, ends, checked, entry, long_entry, one_minus_entry, sum, product, quotient, one_minus, compared, raised, after, after_one, partial, next_term, in_units}
use Rattle.pair.proofs.Providing.{never}

-- refused by this number alone, if at all
abbrev pub OnlyBy : {A : Type 0} → ℕ → Outcome A → Type 0
OnlyBy m o = (n : ℕ) → o ≡ refused n → n ≡ m

pub is_by : {A : Type 0} {m : ℕ} (x : A) → OnlyBy m (is x)
is_by x n e = never (sym e)

pub refused_by_lem : {A : Type 0} (m : ℕ) → OnlyBy {A = A} m (refused m)
refused_by_lem m n e = cc

-- a refusal of another kind of answer has the same number
turned : {A B : Type 0} (n k : ℕ) → ◌≡◌ {A = Outcome A} (refused n) (refused k) → ◌≡◌ {A = Outcome B} (refused n) (refused k)
turned n k h = let e : n ≡ k = cc in cc

-- ---- calls made of calls
pub provided_by : {A : Type 0} (t : Bool) (x : Outcome A) → OnlyBy 53 x → OnlyBy 53 (provided t x)
unfolding provided
provided_by true x h = h
provided_by false x h = refused_by_lem 53

pub after_by : {m : ℕ} (f : Pair → Pair → Outcome Pair) → ((p q : Pair) → OnlyBy m (f p q)) → (x y : Outcome Pair) → OnlyBy m x → OnlyBy m y → OnlyBy m (after f x y)
unfolding after
after_by f h (is p) (is q) a b = h p q
after_by f h (is p) (refused n) a b = b
after_by f h (refused n) y a b = a

pub after_one_by : {m : ℕ} (f : Pair → Outcome Pair) → ((p : Pair) → OnlyBy m (f p)) → (x : Outcome Pair) → OnlyBy m x → OnlyBy m (after_one f x)
unfolding after_one
after_one_by f h (is p) a = h p
after_one_by f h (refused n) a = a

pub partial_by : {m : ℕ} (x y : Outcome Pair) → OnlyBy m x → OnlyBy m y → OnlyBy m (partial x y)
unfolding partial
partial_by (is p) (is q) a b k e = is_by _ k e
partial_by (is p) (refused n) a b k e = b k (turned n k e)
partial_by (refused n) y a b k e = a k (turned n k e)

-- ---- the calls
pub ends_by : (low high : Number) → OnlyBy 53 (ends low high)
unfolding ends
ends_by low high = provided_by _ _ (is_by _)

pub checked_by : (p : Pair) → OnlyBy 53 (checked p)
unfolding checked
checked_by p = provided_by _ _ (is_by p)

pub entry_by : (m : ℕ) (e : ℤ) → OnlyBy 53 (entry m e)
unfolding entry
entry_by m e = provided_by _ _ (ends_by _ _)

pub long_entry_by : (high low : ℕ) (e : ℤ) → OnlyBy 53 (long_entry high low e)
unfolding long_entry
long_entry_by high low e = provided_by _ _ (ends_by _ _)

pub one_minus_entry_by : (m : ℕ) (e : ℤ) → OnlyBy 53 (one_minus_entry m e)
unfolding one_minus_entry
one_minus_entry_by m e = provided_by _ _ (ends_by _ _)

pub sum_by : (p q : Pair) → OnlyBy 53 (sum p q)
unfolding sum
sum_by p q = provided_by _ _ (ends_by _ _)

pub product_by : (p q : Pair) → OnlyBy 53 (product p q)
unfolding product
product_by p q = provided_by _ _ (ends_by _ _)

pub quotient_by : (p q : Pair) → OnlyBy 53 (quotient p q)
unfolding quotient
quotient_by p q = provided_by _ _ (ends_by _ _)

pub one_minus_by : (f : Pair) → OnlyBy 53 (one_minus f)
unfolding one_minus
one_minus_by f = provided_by _ _ (ends_by _ _)

pub compared_by : (a b : Number) → OnlyBy 53 (compared a b)
unfolding compared
compared_by a b = provided_by _ _ (is_by _)

pub raised_by : (n : ℕ) (p : Pair) → OnlyBy 53 (raised n p)
unfolding raised
raised_by n p = provided_by _ _ (ends_by _ _)

pub in_units_by : (p : Pair) (u : ℤ) → OnlyBy 53 (in_units p u)
unfolding in_units
in_units_by p u = provided_by _ _ (is_by _)

pub next_term_by : (term total factor divisor : Pair) → OnlyBy 53 (next_term term total factor divisor)
unfolding next_term
next_term_by term total factor divisor =
    let t : OnlyBy 53 (after quotient (product term factor) (is divisor)) = after_by quotient quotient_by _ _ (product_by term factor) (is_by divisor) in
    partial_by _ _ t (after_by sum sum_by _ _ (is_by total) t)
