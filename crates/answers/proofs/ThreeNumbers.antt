-- The numbers of a refusal, written one after the other into nineteen line feeds, of which the last stays. Assumes nothing.
use mathlib.Core.Path.{◌≡◌, refl, sym, ap, ◌∙◌}
use mathlib.Core.List.{List, [], ◌∷◌, ◌++◌, append_assoc}
use Prim.Native.Nat.{ℕ, ◌+◌, ◌≤◌}
use native.Mathlib.Omega.{arith}
use borrow.Rule.Slice.PartMut.{mid_of, put_mid}
use lib.Dec.{lit<, lit≤}
use lib.ListN.{length, take, drop, replicate, length-append, length-drop}
use lib.Seq.{drop-drop, length-take-le}
use Rattle.spelling.specs.Columns.{number, number_in}
use Rattle.spelling.proofs.Filling.{number_in_lem, length_number}
use Rattle.lists.proofs.Placed.{grown}
use Rattle.answers.specs.Answers.{told_width}

abbrev fresh : List ℕ
fresh = replicate 19 10

module _ (text list part : List ℕ) (at n : ℕ) (e : list ≡ text ++ drop at fresh) (lt : length text ≡ at) (h : at + told_width ≤ 19) (put : part ≡ number_in (mid_of at told_width list) n) where
  long : length list ≡ 19
  long = ap length e ∙ simp (length-append, length-drop) (omega arith)

  spelled : part ≡ number told_width n
  spelled = number_in_lem (mid_of at told_width list) part told_width (length-take-le told_width (drop at list) (rw length-drop (omega (arith, long)))) (lit< tt) n put

  -- a number more
  step : put_mid at told_width list part ≡ (text ++ number told_width n) ++ drop (at + told_width) fresh
  step =
      ap (λ (x : List ℕ). take at list ++ (x ++ drop told_width (drop at list))) spelled
      ∙ ap (λ (x : List ℕ). take at list ++ (number told_width n ++ x)) (drop-drop told_width at list)
      ∙ sym (append_assoc (take at list) (number told_width n) (drop (at + told_width) list))
      ∙ grown fresh text list (number told_width n) at told_width e lt (length_number told_width n (lit< tt))

module _ (m n : ℕ) (p₁ p₂ : List ℕ) (e₁ : p₁ ≡ number_in (take told_width fresh) m) (e₂ : p₂ ≡ number_in (mid_of 6 told_width (p₁ ++ drop 6 fresh)) n) where
  first : p₁ ++ drop 6 fresh ≡ number told_width m ++ drop 6 fresh
  first = ap (λ (x : List ℕ). x ++ drop 6 fresh) (number_in_lem (take told_width fresh) p₁ told_width refl (lit< tt) m e₁)

  second : put_mid 6 told_width (p₁ ++ drop 6 fresh) p₂ ≡ (number told_width m ++ number told_width n) ++ drop 12 fresh
  second = step (number told_width m) (p₁ ++ drop 6 fresh) p₂ 6 n first (length_number told_width m (lit< tt)) (lit≤ tt) e₂

  two_long : length (number told_width m ++ number told_width n) ≡ 12
  two_long = simp (length-append, length_number told_width m (lit< tt), length_number told_width n (lit< tt))

  pub second_long : length (put_mid 6 told_width (p₁ ++ drop 6 fresh) p₂) ≡ 19
  second_long = ap length second ∙ length-append (number told_width m ++ number told_width n) (drop 12 fresh) ∙ omega (arith, two_long)

  pub third : (p₃ : List ℕ) (o : ℕ) → p₃ ≡ number_in (mid_of 12 told_width (put_mid 6 told_width (p₁ ++ drop 6 fresh) p₂)) o
      → put_mid 12 told_width (put_mid 6 told_width (p₁ ++ drop 6 fresh) p₂) p₃ ≡ number told_width m ++ number told_width n ++ number told_width o ++ (10 ∷ [])
  third p₃ o e₃ = step (number told_width m ++ number told_width n) (put_mid 6 told_width (p₁ ++ drop 6 fresh) p₂) p₃ 12 o second two_long (lit≤ tt) e₃
