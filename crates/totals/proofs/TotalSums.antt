-- The totals call over plain lists: a sum and a test from an index on, and the three ways out.
-- Assumes nothing.
use mathlib.Core.Path.{◌≡◌, sym, ap, ◌∙◌}
use mathlib.Core.Bool.{Bool, true, false, ◌&&◌}
use mathlib.Core.List.{List, []}
use Prim.Native.Nat.{ℕ, ◌+◌, ◌≤◌, ◌<◌}
use native.Mathlib.Numerals.{add-one}
use native.Mathlib.Omega.{arith}
use borrow.Author.Tests.{le-leb, lt-leb}
use lib.Dec.{leb}
use lib.ListN.{length, get_or, drop, drop_of_length-le}
use lib.Seq.{drop-cons}
use Rattle.sizes.specs.Sizes.{most_lines}
use Rattle.totals.specs.Totals.{largest_number, totalled, total_of, list_sum, all_at_most}
use Rattle.std.specs.Prelude.{Ok, Err}
use Rattle.std.proofs.Math.Bool.{and-false}
use Rattle.totals.specs.declared.NoTotal.{NoTotal}

pub sum_from : (list : List ℕ) (i : ℕ) → i < length list → list_sum (drop i list) ≡ get_or list i 0 + list_sum (drop (i + 1) list)
unfolding list_sum
sum_from list i h = rw add-one (ap list_sum (drop-cons list i 0 h))

pub all_from : (most : ℕ) (list : List ℕ) (i : ℕ) → i < length list
    → all_at_most most (drop i list) ≡ leb (get_or list i 0) most && all_at_most most (drop (i + 1) list)
unfolding all_at_most
all_from most list i h = rw add-one (ap (all_at_most most) (drop-cons list i 0 h))

-- a number that is not too large is passed
pub all_past : (most : ℕ) (list : List ℕ) (i : ℕ) → i < length list → get_or list i 0 ≤ most
    → all_at_most most (drop i list) ≡ all_at_most most list → all_at_most most (drop (i + 1) list) ≡ all_at_most most list
all_past most list i h le e =
    ap (λ (b : Bool). b && all_at_most most (drop (i + 1) list)) (sym (le-leb (get_or list i 0) most le))
    ∙ sym (all_from most list i h)
    ∙ e

pub too_many : {e : NoTotal} (list : List ℕ) → most_lines < length list → totalled (Err e) ≡ total_of list
unfolding totalled total_of
too_many list h = simp (lt-leb _ _ h)

pub too_large : {why : NoTotal} (list : List ℕ) (i : ℕ) → i < length list → largest_number < get_or list i 0
    → all_at_most largest_number (drop i list) ≡ all_at_most largest_number list → totalled (Err why) ≡ total_of list
unfolding totalled total_of
too_large list i h large e =
    let none : all_at_most largest_number list ≡ false =
    sym e ∙ all_from largest_number list i h
    ∙ ap (λ (b : Bool). b && all_at_most largest_number (drop (i + 1) list)) (lt-leb (get_or list i 0) largest_number large)
    in
    simp (none, and-false)

pub summed : (list : List ℕ) (i s : ℕ) → length list ≤ most_lines → length list ≤ i → s + list_sum (drop i list) ≡ list_sum list
    → all_at_most largest_number (drop i list) ≡ all_at_most largest_number list → totalled (Ok s) ≡ total_of list
unfolding totalled total_of list_sum all_at_most
summed list i s few past e a =
    let gone : drop i list ≡ [] = drop_of_length-le list past in
    let all : all_at_most largest_number list ≡ true = sym a ∙ ap (all_at_most largest_number) gone in
    let same : list_sum list ≡ s = sym e ∙ (simp gone (omega arith)) in
    simp (le-leb _ _ few, all, same)
