-- Laws of the whole reading: one for each way out of `read`.
-- Assumes nothing.
use Prim.Native.Nat.{ℕ, ◌+◌}
use mathlib.Core.Path.{◌≡◌, refl, sym, ap, ◌∙◌}
use mathlib.Core.Bool.{Bool, true, false}
use mathlib.Core.List.{List, [], ◌∷◌, ◌++◌}
use Rattle.std.specs.Prelude.{Ok, Err}
use Rattle.deck.specs.Parts.{lines_of}
use Rattle.cases.specs.Conditions.{Status, passed, status_of, at, first, up_to, told_of}
use Rattle.deck.specs.DeckConditions.{seen_in, line_conditions, bad_length, no_end, conditions}
use Rattle.deck.specs.DeckCase.{Reading, case_with, case_of, reading_for, read_of}
use Rattle.slots.specs.declared.Sort.{Sort}
use Rattle.cases.specs.declared.Case.{Case}
use Rattle.cases.specs.declared.Stop.{Stop}

-- a reading stops where its conditions do
pub reading_status : (s : Status) (deck : List ℕ) → status_of (reading_for s deck) ≡ s
unfolding status_of reading_for
reading_status (Ok done) deck = refl
reading_status (Err stop) deck = refl

module _ (sort : Sort) (deck : List ℕ) where
  module _ (b : Bool) (e : b ≡ bad_length sort deck) where
    pub read_length : b ≡ true → Err (record { number = 11; line = 0; field = 0 }) ≡ read_of sort deck
    unfolding read_of reading_for first conditions
    read_length h = simp (sym e ∙ h)

    module _ (h : b ≡ false) (s : Status)
        (f : s ≡ first (up_to (line_conditions sort deck) (lines_of deck) ++ (at 21 (lines_of deck + 1) 0 (no_end deck) ∷ []))) where
      status_is : s ≡ first (conditions sort deck)
      unfolding first conditions
      status_is = simp (sym e ∙ h) f

      pub read_stopped : (stop : Stop) → s ≡ Err stop → Err stop ≡ read_of sort deck
      unfolding read_of reading_for
      read_stopped stop q = ap (λ (u : Status). reading_for u deck) (sym q ∙ status_is)

      pub read_case : s ≡ passed → (c d : ℕ) → (c ≡ (seen_in deck (lines_of deck)).chemicals) × (d ≡ (seen_in deck (lines_of deck)).receptors) → (k : Case) → k ≡ case_with deck c d
          → Ok k ≡ read_of sort deck
      unfolding read_of reading_for case_of
      read_case q c d n k g =
          ap (λ (x : Case). Ok x)
          (g
          ∙ ap (λ (m : ℕ). case_with deck m d) n.0
          ∙ ap (case_with deck (seen_in deck (lines_of deck)).chemicals) n.1)
          ∙ ap (λ (u : Status). reading_for u deck) (sym q ∙ status_is)

  -- and what is told of it
  pub with_told : (r : Reading) → r ≡ read_of sort deck → (r ≡ read_of sort deck) × (told_of (status_of r) ≡ told_of (first (conditions sort deck)))
  unfolding read_of
  with_told r e = (e, ap told_of (ap status_of e ∙ reading_status (first (conditions sort deck)) deck))

-- ---- what a reading tells of the conditions
case_read : (s : Status) (deck : List ℕ) (case : Case) → ◌≡◌ {A = Reading} (Ok case) (reading_for s deck) → (s ≡ passed) × (case ≡ case_of deck)
unfolding reading_for
case_read (Ok done) deck case e = (refl, cc)
case_read (Err stop) deck case e = absurd (cc)

stop_read : (s : Status) (deck : List ℕ) (stop : Stop) → ◌≡◌ {A = Reading} (Err stop) (reading_for s deck) → s ≡ Err stop
unfolding reading_for
stop_read (Ok done) deck stop e = absurd (cc)
stop_read (Err other) deck stop e = let same : stop ≡ other = cc in ap Err (sym same)

module _ (sort : Sort) (deck : List ℕ) where
  -- a case: no condition holds, and it is the deck's
  pub read_ok : (case : Case) → ◌≡◌ {A = Reading} (Ok case) (read_of sort deck) → (first (conditions sort deck) ≡ passed) × (case ≡ case_of deck)
  unfolding read_of
  read_ok case e = case_read (first (conditions sort deck)) deck case e

  -- a stop: that of the first condition that holds
  pub read_err : (stop : Stop) → ◌≡◌ {A = Reading} (Err stop) (read_of sort deck) → first (conditions sort deck) ≡ Err stop
  unfolding read_of
  read_err stop e = stop_read (first (conditions sort deck)) deck stop e
