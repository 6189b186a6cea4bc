-- A formula is read alike where its letters are; and a product read from what was worked ahead is the product read whole. Assumes nothing.
use mathlib.Core.Path.{◌≡◌, refl, ap, ap₂}
use mathlib.Core.Bool.{Bool, true, false, false≢true, cond}
use Rattle.pair.specs.declared.Pair.{Pair}
use Rattle.pair.specs.Calls.{is}
use Rattle.lists.proofs.Booleans.{both}
use Rattle.slots.specs.Slots.{Slot}
use Rattle.equations.specs.Formula.{Letter, slot, rest, later, g_at_x, h_at_x, g_at_x', Formula, letter, constant, ◌⊕◌, ◌⊗◌, ◌⊘◌, Algebra, read, pairs}
use Rattle.equations.specs.Readings.{Inputs, letters, plain_with, plain, as_answers, worked}
use Rattle.equations.specs.Ahead.{only, a_slot, is_receptors, ahead, read_from, plain_from}

module _ {A : Type 0} (alg : Algebra A) (ours : Letter → Bool) (env env' : Letter → A) (alike : (l : Letter) → ours l ≡ true → env l ≡ env' l) where
  pub only_same : (f : Formula) → only ours f ≡ true → read alg env f ≡ read alg env' f
  unfolding only read
  only_same (letter l) h = alike l h
  only_same (constant m e) h = refl
  only_same (f ⊕ g) h = let t = both (only ours f) (only ours g) h in ap₂ alg.plus (only_same f t.0) (only_same g t.1)
  only_same (f ⊗ g) h = let t = both (only ours f) (only ours g) h in ap₂ alg.times (only_same f t.0) (only_same g t.1)
  only_same (f ⊘ g) h = let t = both (only ours f) (only ours g) h in ap₂ alg.over (only_same f t.0) (only_same g t.1)

-- from the slots alone
slot_alike : {A : Type 0} (ours : Slot → Bool) (env env' : Letter → A) → ((s : Slot) → ours s ≡ true → env (slot s) ≡ env' (slot s)) → (l : Letter) → a_slot ours l ≡ true → env l ≡ env' l
unfolding a_slot
slot_alike ours env env' h (slot s) t = h s t
slot_alike ours env env' h (rest s) t = absurd (false≢true t)
slot_alike ours env env' h later t = absurd (false≢true t)
slot_alike ours env env' h g_at_x t = absurd (false≢true t)
slot_alike ours env env' h h_at_x t = absurd (false≢true t)
slot_alike ours env env' h g_at_x' t = absurd (false≢true t)

pub plain_same : {A : Type 0} (alg : Algebra A) (ours : Slot → Bool) (env env' : Slot → A) → ((s : Slot) → ours s ≡ true → env s ≡ env' s) → (f : Formula) → only (a_slot ours) f ≡ true → plain alg env f ≡ plain alg env' f
unfolding plain plain_with letters
plain_same alg ours env env' h f t = only_same alg (a_slot ours) _ _ (slot_alike ours _ _ h) f t

-- and with g, h and the differences about
pub plain_worked : (env : Inputs Pair) (f : Formula) → only (a_slot (λ s. true)) f ≡ true → plain pairs (λ s. is (env.value s)) f ≡ worked env f
unfolding plain plain_with worked letters as_answers
plain_worked env f t = only_same pairs (a_slot (λ s. true)) _ _ (slot_alike (λ s. true) _ _ (λ s h. refl)) f t

-- what was worked ahead, and the rest
module _ {A : Type 0} (alg : Algebra A) (env : Letter → A) where
  -- f is taken whole, or is an operation on its parts
  whole_or_parts : (op : A → A → A) (f g h : Formula) → read alg env f ≡ op (read alg env g) (read alg env h) → read_from (read alg env (ahead g)) alg env g ≡ read alg env g → (t : Bool) →
      cond t (read alg env (cond t f (ahead g))) (op (read_from (read alg env (cond t f (ahead g))) alg env g) (read alg env h)) ≡ op (read alg env g) (read alg env h)
  whole_or_parts op f g h whole part true = whole
  whole_or_parts op f g h whole part false = ap (λ (a : A). op a (read alg env h)) part

  read_ahead : (f : Formula) → read_from (read alg env (ahead f)) alg env f ≡ read alg env f
  unfolding read_from ahead read
  read_ahead (letter l) = refl
  read_ahead (constant m e) = refl
  read_ahead (f ⊕ g) = refl
  read_ahead (f ⊗ g) = whole_or_parts alg.times (f ⊗ g) f g refl (read_ahead f) (is_receptors (f ⊗ g))
  read_ahead (f ⊘ g) = whole_or_parts alg.over (f ⊘ g) f g refl (read_ahead f) (is_receptors (f ⊘ g))

pub plain_ahead : {A : Type 0} (alg : Algebra A) (env : Slot → A) (f : Formula) → plain_from (plain alg env (ahead f)) alg env f ≡ plain alg env f
unfolding plain_from plain plain_with
plain_ahead alg env f = read_ahead alg _ f
