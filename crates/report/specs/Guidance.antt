-- Document 02, P6: "a deck of 2005 prints what it printed", and what a deck of 2009 prints. The first is said of every deck that has a slot 12 and in it
-- nothing, or 2005 in any spelling. Before P6 each line was that of an intake, and slot 12 a later slot, which is blank. The second is said of every deck that
-- has 2009 there, in any spelling.
use Rattle.std.specs.Prelude.{◌≡◌, true, cond, List, ℕ, ◌*◌, ◌≤◌, length}
use Rattle.slots.specs.Slots.{guidance_year, unused}
use Rattle.equations.specs.declared.Effect.{Effect}
use Rattle.equations.specs.declared.Effect.TheVariants.{Hazard, Cancer}
use Rattle.equations.specs.declared.Pathway.{Pathway}
use Rattle.equations.specs.declared.Pathway.TheVariants.{Air}
use Rattle.equations.specs.Formula.{Formula, letter, slot, ◌⊗◌, ◌⊘◌}
use Rattle.equations.specs.Letters.{ETinh, EFinh, ED, ATc}
use Rattle.equations.specs.Page.{days_per_year, thousand, A, intake_line}
use Rattle.equations.specs.Readings.{worked, paces_of, exactly}
use Rattle.cases.specs.Conditions.{passed}
use Rattle.cases.specs.Conditions.{first}
use Rattle.spelling.specs.declared.Word.TheVariants.{Blank}
use Rattle.deck.specs.Parts.{deck_line_width}
use Rattle.sizes.specs.Sizes.{site_lines}
use Rattle.deck.specs.DeckConditions.{field_conditions}
use Rattle.deck.specs.Guidance.{year_word, is2005, is2009, without_year}
use Rattle.equations.specs.declared.Stay.{Stay}
use Rattle.scenario.specs.Scenario.{stay_in, pairs_at, exact_stay}
use Rattle.sheet.specs.Sheet.{has_reference, figure_at}
use Rattle.sheet.specs.DemandThree.{in_units_of, nothing, exact_line}
use Rattle.report.specs.Forms.{Call, scenario_of, exact_of, outcome_of, buffer_of}

-- the line of receptor j, chemical i and pathway p is worked by this formula of the exposure against the deposition, on pairs and exactly
pub record LineIs (call : Call) (deck : List ℕ) (e : Effect) (j i : ℕ) (p : Pathway) (formula : Stay → Formula) : Type 0 where
  pub figure : figure_at e (scenario_of call deck) j i p ≡ worked (pairs_at (scenario_of call deck) j i) (formula (stay_in (scenario_of call deck) j))
  pub exact : (N : ℕ) → exact_line e (scenario_of call deck) (exact_of call deck) N j i p
      ≡ cond (has_reference e (scenario_of call deck) i p) (in_units_of e (exactly N (paces_of (pairs_at (scenario_of call deck) j i)) (exact_of call deck j i) (formula (exact_stay (exact_of call deck j i))))) nothing

pub record As2005 (call : Call) (deck : List ℕ) : Type 0 where
  -- the line of every receptor, chemical and pathway is that of an intake
  pub line : (e : Effect) (j i : ℕ) (p : Pathway) → LineIs call deck e j i p (λ stay. intake_line e stay p)
  -- the call tells and writes what it does of the deck with slot 12 blank
  pub told : (room : ℕ) → outcome_of call deck room ≡ outcome_of call (without_year deck) room
  pub written : (buffer : List ℕ) → buffer_of call deck buffer ≡ buffer_of call (without_year deck) buffer
  -- whose conditions are those of the later slot that it was
  pub blank : (n f : ℕ) → field_conditions guidance_year Blank n f ≡ field_conditions unused Blank n f

unfoldable pub Law2005 : Call → Type 0
Law2005 call = (deck : List ℕ) → deck_line_width * site_lines ≤ length deck → is2005 (year_word deck) ≡ true → As2005 call deck

-- Pathway 1 by 2009: the factor ETinh × EFinh × ED / AT, times A; for the quotient / a reference concentration in mg/m³, for the risk × 1000 × a unit risk
-- per µg/m³, which the slots RfDi and CSFi then hold. AT is 365 × ED, for cancer ATc.
unfoldable pub air2009 : Effect → Formula
air2009 Hazard = ETinh ⊗ EFinh ⊗ ED ⊘ (days_per_year ⊗ ED) ⊗ A ⊘ letter (slot "RfDi")
air2009 Cancer = ETinh ⊗ EFinh ⊗ ED ⊘ ATc ⊗ A ⊗ thousand ⊗ letter (slot "CSFi")

pub record As2009 (call : Call) (deck : List ℕ) : Type 0 where
  pub air : (e : Effect) (j i : ℕ) → LineIs call deck e j i Air (λ stay. air2009 e)
  -- the line of every other pathway is that of an intake, as by 2005
  pub other : (e : Effect) (j i : ℕ) (p : Pathway) → (p ≡ Air → ⊥) → LineIs call deck e j i p (λ stay. intake_line e stay p)
  -- and no condition of slot 12 holds
  pub year : (n f : ℕ) → first (field_conditions guidance_year (year_word deck) n f) ≡ passed

unfoldable pub Law2009 : Call → Type 0
Law2009 call = (deck : List ℕ) → is2009 (year_word deck) ≡ true → As2009 call deck
