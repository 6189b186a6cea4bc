-- A deck is read exactly where no condition of the list holds.
-- Assumes nothing.
use mathlib.Core.Path.{◌≡◌, sym, ◌∙◌}
use mathlib.Core.List.{List}
use Prim.Native.Nat.{ℕ}
use Rattle.cases.specs.Conditions.{passed, first, status_of, NoneHolds}
use Rattle.deck.specs.DeckConditions.{conditions}
use Rattle.deck.specs.DeckCase.{read_of}
use Rattle.slots.specs.declared.Sort.{Sort}
use Rattle.cases.proofs.FirstMet.{read_none, none_read}
use Rattle.deck.proofs.ReadLaws.{reading_status}

pub read_exactly : (sort : Sort) (deck : List ℕ)
    → (status_of (read_of sort deck) ≡ passed → NoneHolds (conditions sort deck)) × (NoneHolds (conditions sort deck) → status_of (read_of sort deck) ≡ passed)
unfolding read_of
read_exactly sort deck =
    let same = reading_status (first (conditions sort deck)) deck in
    (λ e. read_none (conditions sort deck) (sym same ∙ e), λ n. same ∙ none_read (conditions sort deck) n)
