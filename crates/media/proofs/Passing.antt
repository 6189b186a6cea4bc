-- What was told is not refused, what an entry of few digits is, and a sum with what was checked. Assumes nothing.
use mathlib.Core.Path.{◌≡◌, refl, sym, ◌∙◌, ap}
use mathlib.Core.Bool.{Bool, true, false, true≢false}
use mathlib.Core.Logic.{inl, inr}
use native.Mathlib.Omega.{arith}
use Prim.Native.Nat.{ℕ, ◌≤◌}
use lib.IntN.{ℤ}
use lib.Signed.{mag}
use Rattle.std.specs.Prelude.{Result, Ok, Err}
use Rattle.std.specs.Result.{is_ok}
use Rattle.pair.specs.declared.Pair.{Pair}
use Rattle.pair.specs.declared.Refused.{Refused}
use Rattle.pair.specs.Number.{is_pair}
use Rattle.pair.specs.Calls.{Outcome, is, refused, answer, checked, entry, written, sum, after}
use Rattle.pair.specs.Promises.{sums, call}
use Rattle.pair.proofs.Promises.{operands, written_entry, checked_is, checked_pair, checked_refused}
use Rattle.pair.proofs.Partials.{Plain, plain_after}

pub is_not_refused : {A : Type 0} {B : Type 0} (p : A) (n : ℕ) → refused n ≡ is p → B
is_not_refused {A} p n h = absurd (never h)
  where
    tell : Outcome A → ℕ
    tell (is q) = 0
    tell (refused m) = 1

    never : refused n ≡ is p → ⊥
    never e = let z : ◌≡◌ {A = ℕ} 1 0 = ap tell e in omega arith

-- An entry of at most nine digits is answered, and both its ends are the number that it writes.
module _ (m : ℕ) (e : ℤ) (few : m ≤ 999999999) (size : mag e ≤ 99000) where
  pub never_refused : {A : Type 0} → refused 53 ≡ entry m e → A
  never_refused h = is_not_refused (record { low = written m e; high = written m e }) 53 (h ∙ written_entry m e few size)

  pub as_written : (p : Pair) → is p ≡ entry m e → p ≡ record { low = written m e; high = written m e }
  as_written p h = let i : is p ≡ is (record { low = written m e; high = written m e }) = h ∙ written_entry m e few size in (cc)

-- A sum with what was checked is the sum itself, which checks it, too.
pub sum_checked : (p q : Pair) → after sum (is p) (checked q) ≡ sum p q
unfolding after call
sum_checked p q = by_test (is_pair q) refl
  where
    by_test : (t : Bool) → is_pair q ≡ t → after sum (is p) (checked q) ≡ sum p q
    by_test true h = ap (after sum (is p)) (checked_is q h)
    by_test false h = ap (after sum (is p)) ((checked_refused q).0 h) ∙ sym (none (plain_after sums (is p) (is q) (inl (p, refl)) (inl (q, refl))))
      where
        none : Plain (after (call sums) (is p) (is q)) → sum p q ≡ refused 53
        none (inl (r, e)) = absurd (true≢false (sym (operands sums p q r e).1 ∙ h))
        none (inr e) = e

-- What is answered by the test of a pair is one.
pub ok_pair : (x : Pair) (r : Result Pair Refused) → answer r ≡ checked x → is_ok r ≡ true → is_pair x ≡ true
unfolding answer
ok_pair x (Ok p) e h = (checked_pair x p (sym e)).0
ok_pair x (Err n) e h = absurd (true≢false (sym h))
