-- The conditions of a line's fields: one law for each way out of the functions that test them.
-- Assumes nothing.
use Prim.Native.Nat.{ℕ, ◌+◌, ◌-◌, ◌<◌}
use native.Mathlib.Nat.{add-sub_cancel}
use mathlib.Core.Path.{◌≡◌, refl, ap, ◌∙◌}
use mathlib.Core.Bool.{Bool, true, false, cond, not}
use mathlib.Core.List.{List}
use lib.IntN.{ℤ}
use lib.ListN.{length, get_or}
use lib.Seq.{drop-cons}
use Rattle.deck.specs.Parts.{field_in}
use Rattle.spelling.specs.Spelling.{word_of}
use Rattle.kinds.specs.declared.Kind.{Kind}
use Rattle.kinds.specs.Kinds.{rules_of}
use Rattle.cases.specs.Ranges.{within_bounds, in_range}
use Rattle.slots.specs.Slots.{unused}
use Rattle.cases.specs.Conditions.{Status, passed, stopped, Condition, first, up_to}
use Rattle.deck.specs.DeckConditions.{field_conditions, misspelled, misplaced, out_of_range, field_at}
use Rattle.slots.specs.declared.Rule.{Rule}
use Rattle.slots.specs.declared.Sort.{Sort}
use Rattle.spelling.specs.declared.Word.{Word}
use Rattle.spelling.specs.declared.Word.TheVariants.{Blank, Dash, Number, Other}

-- ---- a field
module _ (rule : Rule) (w : Word) (n f : ℕ) where
  pub field_other : w ≡ Other → stopped 31 n f ≡ first (field_conditions rule w n f)
  unfolding first field_conditions misspelled misplaced out_of_range
  field_other e = rw e

  pub field_missing : w ≡ Blank → rule.blank ≡ false → stopped 32 n f ≡ first (field_conditions rule w n f)
  unfolding first field_conditions misspelled misplaced out_of_range
  field_missing e u = rw (e, u)

  pub field_blank : w ≡ Blank → rule.blank ≡ true → passed ≡ first (field_conditions rule w n f)
  unfolding first field_conditions misspelled misplaced out_of_range
  field_blank e u = rw (e, u)

  pub field_dash : w ≡ Dash → rule.dash ≡ true → passed ≡ first (field_conditions rule w n f)
  unfolding first field_conditions misspelled misplaced out_of_range
  field_dash e u = rw (e, u)

  pub field_no_dash : w ≡ Dash → rule.dash ≡ false → stopped 32 n f ≡ first (field_conditions rule w n f)
  unfolding first field_conditions misspelled misplaced out_of_range
  field_no_dash e u = rw (e, u)

  ranged : (b : Bool) → cond b passed (stopped 33 n f) ≡ cond (not b) (stopped 33 n f) passed
  ranged true = refl
  ranged false = refl

  pub field_number : (d : ℕ) (p q : ℤ) → w ≡ Number d p → rule.used ≡ true → q ≡ p → (s : Status)
      → s ≡ cond (in_range rule d q) passed (stopped 33 n f) → s ≡ first (field_conditions rule w n f)
  unfolding first field_conditions misspelled misplaced out_of_range in_range within_bounds
  field_number d p q e u g s h =
      rw (e, u) (h ∙ ap (λ (z : ℤ). cond (in_range rule d z) passed (stopped 33 n f)) g ∙ ranged (in_range rule d p))

  pub field_later : (d : ℕ) (p : ℤ) → w ≡ Number d p → rule.used ≡ false → stopped 32 n f ≡ first (field_conditions rule w n f)
  unfolding first field_conditions misspelled misplaced out_of_range
  field_later d p e u = rw (e, u)

-- field f of line n by the rules of its line
unfoldable pub field_by : List Rule → List ℕ → ℕ → ℕ → List Condition
field_by rules line n f = field_conditions (get_or rules (f - 1) unused) (word_of (field_in line f)) n f

-- the word that the code reads is the one that the list has, and so is the rule, whichever stands for a place past the rules' end
pub field_turn : (n f : ℕ) (line : List ℕ) (w : Word) (rules : List Rule) (past : Rule) (s : Status) → f < length rules → w ≡ word_of (field_in line (f + 1))
    → s ≡ first (field_conditions (get_or rules f past) w n (f + 1)) → s ≡ first (field_by rules line n (f + 1))
unfolding field_by
field_turn n f line w rules past s h p e =
    let a = drop-cons rules f unused h in
    let b = drop-cons rules f past h in
    let same : get_or rules f unused ≡ get_or rules f past = cc in
    rw (← p, add-sub_cancel f 1, same) e

pub fields_by : (sort : Sort) (kind : Kind) (n : ℕ) (line : List ℕ) (rules : List Rule) → rules ≡ rules_of sort kind
    → (k : ℕ) → first (up_to (field_by rules line n) k) ≡ first (up_to (field_at sort kind line n) k)
unfolding field_at field_by
fields_by sort kind n line rules e k = ap (λ (rs : List Rule). first (up_to (field_by rs line n) k)) e
