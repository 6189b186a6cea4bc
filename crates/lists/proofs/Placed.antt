-- Texts written into a list one after the other.
-- Assumes nothing.
use mathlib.Core.Path.{◌≡◌, refl, sym, ap, ◌∙◌}
use mathlib.Core.List.{List, ◌++◌, append_assoc}
use Prim.Native.Nat.{ℕ, ◌+◌, ◌-◌, ◌≤◌}
use native.Mathlib.Nat.{le-add_right}
use native.Mathlib.Omega.{arith}
use borrow.Rule.Slice.PartMut.{Post-is}
use lib.ListN.{length, take, drop, length-append}
use lib.Seq.{take_at, drop-append-add, drop-drop, length-take-le}
use Rattle.lists.specs.Lists.{placed}

-- Where a list is a text and the rest of entry, a text of n elements written after it leaves both texts and the rest of entry.
pub grown : (entry text list next : List ℕ) (at n : ℕ) → list ≡ text ++ drop at entry → length text ≡ at → length next ≡ n
    → take at list ++ next ++ drop (at + n) list ≡ (text ++ next) ++ drop (at + n) entry
grown entry text list next at n e lt ln =
    let front : take at list ≡ text = ap (take at) e ∙ take_at text (drop at entry) at lt in
    let rest : drop (at + n) list ≡ drop (at + n) entry =
    ap (drop (at + n)) e
    ∙ ap (λ (m : ℕ). drop (m + n) (text ++ drop at entry)) (sym lt)
    ∙ drop-append-add text (drop at entry) n
    ∙ drop-drop n at entry
    in
    ap (λ (l : List ℕ). l ++ next ++ drop (at + n) list) front
    ∙ ap (λ (l : List ℕ). text ++ next ++ l) rest

-- a part of n elements that was lent and came back as a text
pub lent : (list part text : List ℕ) (at n : ℕ) → part ≡ text
    → take at list ++ (part ++ drop (at + n - at) (drop at list)) ≡ take at list ++ text ++ drop (at + n) list
lent list part text at n e =
    ap (λ (x : List ℕ). take at list ++ (x ++ drop (at + n - at) (drop at list))) e
    ∙ ap (λ (x : List ℕ). take at list ++ (text ++ x)) (Post-is at (at + n) list (le-add_right at n))
    ∙ sym (append_assoc (take at list) text (drop (at + n) list))

pub placed_part : (list part text : List ℕ) (at n : ℕ) → part ≡ text → length text ≡ n
    → take at list ++ (part ++ drop (at + n - at) (drop at list)) ≡ placed list at text
unfolding placed
placed_part list part text at n e l =
    lent list part text at n e ∙ ap (λ (m : ℕ). take at list ++ text ++ drop (at + m) list) (sym l)

-- two texts, one after the other
pub placed_two : (list a b : List ℕ) (at next : ℕ) → at ≤ length list → at + length a ≡ next → placed (placed list at a) next b ≡ placed list at (a ++ b)
unfolding placed
placed_two list a b at next h e =
    let l : length (take at list ++ a) ≡ next = simp (length-append, length-take-le at list h) e in
    let here : take at list ++ a ++ drop (at + length a) list ≡ (take at list ++ a) ++ drop next list =
    ap (λ (m : ℕ). take at list ++ a ++ drop m list) e
    in
    let past : next + length b ≡ at + length (a ++ b) = simp length-append (omega arith) in
    grown list (take at list ++ a) (take at list ++ a ++ drop (at + length a) list) b next (length b) here l refl
    ∙ simp (append_assoc, past)
