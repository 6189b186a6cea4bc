-- Laws of `leading`, the number of bytes at the front that lie in a range: one for each turn and each end of the loop that counts them.
-- Assumes nothing.
use Prim.Native.Nat.{ℕ, zero, suc, ◌+◌, ◌≤◌, ◌<◌}
use native.Mathlib.Numerals.{add-one}
use native.Mathlib.Omega.{arith}
use mathlib.Core.Path.{◌≡◌, refl, ap, ◌∙◌}
use mathlib.Core.Bool.{Bool, true, false, cond, not, ◌&&◌, ◌||◌}
use mathlib.Core.List.{List, [], ◌∷◌}
use borrow.Author.Tests.{le-leb, lt-leb, ltb-true, ltb-false}
use lib.Dec.{leb, ltb}
use Rattle.std.specs.Prelude.{Some, None}
use Rattle.std.specs.Option.{unwrap_or}
use Rattle.std.specs.List.{position, prefix_len}
use Rattle.std.proofs.lemmas.List.Sums.{prefix_len-le-length}
use lib.ListN.{length, take, drop, get_or, drop_of_length-le}
use lib.Seq.{drop-cons}
use Rattle.spelling.specs.Columns.{within, leading}
use Rattle.lists.proofs.Booleans.{and-false}

pub within_yes : (lo hi b : ℕ) → lo ≤ b → b ≤ hi → within lo hi b ≡ true
unfolding within
within_yes lo hi b p q = simp (le-leb lo b p, le-leb b hi q)

pub within_low : (lo hi b : ℕ) → b < lo → within lo hi b ≡ false
unfolding within
within_low lo hi b p = simp (lt-leb lo b p)

pub within_high : (lo hi b : ℕ) → hi < b → within lo hi b ≡ false
unfolding within
within_high lo hi b p = simp (lt-leb b hi p, and-false)

-- the first byte that does not lie from lo to hi, as a search finds it
outside_is : (lo hi b : ℕ) → not (ltb b lo || ltb hi b) ≡ within lo hi b
unfolding within
outside_is lo hi b = go (ltb b lo) refl (ltb hi b) refl
  where
    go : (t : Bool) → ltb b lo ≡ t → (u : Bool) → ltb hi b ≡ u → not (t || u) ≡ (leb lo b && leb b hi)
    go true e u f = simp (lt-leb lo b (ltb-true b lo e))
    go false e true f = simp (lt-leb b hi (ltb-true hi b f), and-false)
    go false e false f = simp (le-leb lo b (ltb-false b lo e), le-leb b hi (ltb-false hi b f))

prefix_is : (lo hi : ℕ) (s : List ℕ) → prefix_len (λ b. not (ltb b lo || ltb hi b)) s ≡ leading lo hi s
unfolding leading
prefix_is lo hi [] = refl
prefix_is lo hi (b ∷ bs) = rw (outside_is lo hi b, prefix_is lo hi bs) (ap (λ n. cond (within lo hi b) n 0) (omega arith))

pub found_is : (lo hi : ℕ) (s : List ℕ) → unwrap_or (position (λ b. ltb b lo || ltb hi b) s) (length s) ≡ leading lo hi s
found_is lo hi s = go (ltb n (length s)) refl
  where
    n : ℕ
    n = prefix_len (λ b. not (ltb b lo || ltb hi b)) s

    go : (t : Bool) → ltb n (length s) ≡ t → unwrap_or (cond t (Some n) None) (length s) ≡ leading lo hi s
    go true e = prefix_is lo hi s
    go false e = omega (arith, ltb-false n (length s) e, prefix_len-le-length (λ b. not (ltb b lo || ltb hi b)) s, prefix_is lo hi s)

module _ (lo hi : ℕ) (s : List ℕ) where
  leading_at : (i : ℕ) → i < length s → leading lo hi (drop i s) ≡ cond (within lo hi (get_or s i 0)) (suc (leading lo hi (drop (suc i) s))) 0
  unfolding leading
  leading_at i h = rw (drop-cons s i 0 h)

  pub turn : (i : ℕ) → i < length s → within lo hi (get_or s i 0) ≡ true → i + leading lo hi (drop i s) ≡ leading lo hi s
      → (i + 1) + leading lo hi (drop (i + 1) s) ≡ leading lo hi s
  turn i h w e =
      let step : leading lo hi (drop i s) ≡ suc (leading lo hi (drop (suc i) s)) = leading_at i h ∙ simp w in
      rw add-one (omega (arith, step))

  pub stop : (i : ℕ) → i < length s → within lo hi (get_or s i 0) ≡ false → i + leading lo hi (drop i s) ≡ leading lo hi s → i ≡ leading lo hi s
  stop i h w e =
      let none : leading lo hi (drop i s) ≡ 0 = leading_at i h ∙ simp w in
      omega (arith, none)

  pub whole : (i : ℕ) → length s ≤ i → i + leading lo hi (drop i s) ≡ leading lo hi s → i ≡ leading lo hi s
  unfolding leading
  whole i h e =
      let none : leading lo hi (drop i s) ≡ 0 = ap (leading lo hi) (drop_of_length-le s h) in
      omega (arith, none)

-- ---- among the first bytes only
module _ (lo hi : ℕ) where
  front_cons : (t : Bool) (a b m : ℕ) → (a ≤ b) × (a < m → a ≡ b) → (cond t (suc a) 0 ≤ cond t (suc b) 0) × (cond t (suc a) 0 < suc m → cond t (suc a) 0 ≡ cond t (suc b) 0)
  front_cons true a b m h = (omega arith, λ l. ap suc (h.1 (omega arith)))
  front_cons false a b m h = (omega arith, λ l. refl)

  front_facts : (m : ℕ) (s : List ℕ) → (leading lo hi (take m s) ≤ leading lo hi s) × (leading lo hi (take m s) < m → leading lo hi (take m s) ≡ leading lo hi s)
  unfolding leading
  front_facts zero s = (omega arith, λ l. absurd (omega arith))
  front_facts (suc m) [] = (omega arith, λ l. refl)
  front_facts (suc m) (b ∷ bs) = front_cons (within lo hi b) (leading lo hi (take m bs)) (leading lo hi bs) m (front_facts m bs)

  pub front_le : (m : ℕ) (s : List ℕ) → leading lo hi (take m s) ≤ leading lo hi s
  front_le m s = (front_facts m s).0

  -- where fewer than all of them count, the rest adds nothing
  pub front_all : (m : ℕ) (s : List ℕ) → leading lo hi (take m s) < m → leading lo hi (take m s) ≡ leading lo hi s
  front_all m s = (front_facts m s).1

-- ---- one byte more, where those before it count
module _ (lo hi : ℕ) where
  on_cons : (t : Bool) (n i : ℕ) → suc i ≤ cond t (suc n) 0 → (i ≤ n → i + 1 ≤ n) → suc i + 1 ≤ cond t (suc n) 0
  on_cons true n i h next = omega (arith, next (omega arith))
  on_cons false n i h next = absurd (omega arith)

  pub leads_on : (s : List ℕ) (i : ℕ) → i < length s → i ≤ leading lo hi s → within lo hi (get_or s i 0) ≡ true → i + 1 ≤ leading lo hi s
  unfolding leading
  leads_on [] i l h e = absurd (omega arith)
  leads_on (b ∷ bs) zero l h e = simp e (omega arith)
  leads_on (b ∷ bs) (suc i) l h e = on_cons (within lo hi b) (leading lo hi bs) i h (λ g. leads_on bs i (omega arith) g e)

  off_cons : (t : Bool) (n i : ℕ) → suc i ≤ cond t (suc n) 0 → (i ≤ n → n ≤ i) → cond t (suc n) 0 ≤ suc i
  off_cons true n i h next = omega (arith, next (omega arith))
  off_cons false n i h next = omega arith

  pub leads_off : (s : List ℕ) (i : ℕ) → i < length s → i ≤ leading lo hi s → within lo hi (get_or s i 0) ≡ false → leading lo hi s ≤ i
  unfolding leading
  leads_off [] i l h e = absurd (omega arith)
  leads_off (b ∷ bs) zero l h e = simp e (omega arith)
  leads_off (b ∷ bs) (suc i) l h e = off_cons (within lo hi b) (leading lo hi bs) i h (λ g. leads_off bs i (omega arith) g e)
