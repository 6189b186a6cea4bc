-- No condition of a deck has a number above 33.
-- Assumes nothing.
use Prim.Native.Nat.{ℕ, ◌+◌, ◌<◌}
use native.Mathlib.Omega.{arith}
use mathlib.Core.List.{List}
use Rattle.deck.specs.Parts.{lines_of}
use Rattle.cases.specs.Conditions.{Without, up_to}
use Rattle.kinds.specs.declared.Kind.{Kind}
use Rattle.deck.specs.DeckConditions.{field_conditions, field_at, line_conditions_after, line_conditions, conditions}
use Rattle.sizes.specs.Sizes.{fields_per_line}
use Rattle.slots.specs.declared.Sort.{Sort}
use Rattle.cases.proofs.FirstMet.{without_append, without_chained}

module _ (number : ℕ) (above : 33 < number) where
  field_without : (sort : Sort) (kind : Kind) (line : List ℕ) (n f : ℕ) → Without number (field_at sort kind line n f)
  unfolding field_at field_conditions
  field_without sort kind line n f = (λ e. omega arith, (λ e. omega arith, (λ e. omega arith, tt)))

  line_without : (sort : Sort) (deck : List ℕ) (n : ℕ) → Without number (line_conditions sort deck n)
  unfolding line_conditions line_conditions_after
  line_without sort deck n = (λ e. omega arith, (λ e. omega arith, (λ e. omega arith, without_chained number _ (λ k. field_without sort _ _ n (k + 1)) fields_per_line)))

  pub deck_without : (sort : Sort) (deck : List ℕ) → Without number (conditions sort deck)
  unfolding conditions
  deck_without sort deck =
      (λ e. omega arith, without_append number (up_to (line_conditions sort deck) (lines_of deck)) _ (without_chained number _ (λ k. line_without sort deck (k + 1)) (lines_of deck)) (λ e. omega arith, tt))
