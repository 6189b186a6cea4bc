-- Formulas of which a part is worked already: its value is given, and the rest is read off the page.
use Rattle.std.specs.Prelude.{Bool, true, false, cond, ◌&&◌, pos}
use Rattle.pair.specs.declared.Pair.{Pair}
use Rattle.pair.specs.Calls.{Outcome}
use Rattle.slots.specs.Slots.{Slot, owner_of, same}
use Rattle.equations.specs.Formula.{Letter, slot, rest, later, g_at_x, h_at_x, g_at_x', Formula, letter, constant, ◌⊕◌, ◌⊗◌, ◌⊘◌, Algebra, read, pairs}
use Rattle.equations.specs.Readings.{letters, no_growth, plain, by_owner}

-- a letter of no slot, for what is given
abbrev pub given : Slot → Formula
given name = letter (slot name)

-- a formula of two given values
unfoldable pub of_two : (Formula → Formula → Formula) → Outcome Pair → Outcome Pair → Outcome Pair
of_two f a b = plain pairs (λ n. cond (same n "first") a b) (f (given "first") (given "second"))

-- whether each letter of a formula is one of ours
unfoldable pub only : (Letter → Bool) → Formula → Bool
only ours (letter l) = ours l
only ours (constant m e) = true
only ours (f ⊕ g) = only ours f && only ours g
only ours (f ⊗ g) = only ours f && only ours g
only ours (f ⊘ g) = only ours f && only ours g

-- a letter that is one of these slots
unfoldable pub a_slot : (Slot → Bool) → Letter → Bool
a_slot ours (slot s) = ours s
a_slot ours (rest s) = false
a_slot ours later = false
a_slot ours g_at_x = false
a_slot ours h_at_x = false
a_slot ours g_at_x' = false

-- whether each is a receptor's slot
unfoldable pub is_receptors : Formula → Bool
is_receptors f = only (a_slot (λ s. by_owner (owner_of s) false false true)) f

-- what of a product is worked ahead for a receptor, whatever the site and the chemical: its left part that has a receptor's letters alone
unfoldable pub ahead : Formula → Formula
ahead (letter l) = letter l
ahead (constant m e) = constant m e
ahead (f ⊕ g) = f ⊕ g
ahead (f ⊗ g) = cond (is_receptors (f ⊗ g)) (f ⊗ g) (ahead f)
ahead (f ⊘ g) = cond (is_receptors (f ⊘ g)) (f ⊘ g) (ahead f)

-- the product read from that part's value
unfoldable pub read_from : {A : Type 0} → A → Algebra A → (Letter → A) → Formula → A
read_from begun alg env (letter l) = begun
read_from begun alg env (constant m e) = begun
read_from begun alg env (f ⊕ g) = begun
read_from begun alg env (f ⊗ g) = cond (is_receptors (f ⊗ g)) begun (alg.times (read_from begun alg env f) (read alg env g))
read_from begun alg env (f ⊘ g) = cond (is_receptors (f ⊘ g)) begun (alg.over (read_from begun alg env f) (read alg env g))

-- from the slots alone, as `plain` reads
unfoldable pub plain_from : {A : Type 0} → A → Algebra A → (Slot → A) → Formula → A
plain_from {A} begun alg env f =
    let one : A = alg.number 1 (pos 0) in
    read_from begun alg (letters (record { value = env; rest = λ s. one; later = one }) (no_growth alg)) f
