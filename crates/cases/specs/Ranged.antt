-- A case in range (document 01, "Deck"): one to sixteen chemicals, one to four receptors (a composite's deck: to eight), and each slot, by its name,
-- as its rule in a deck of this sort asks.
-- Assumes nothing.
use Rattle.std.specs.Prelude.{◌≡◌, ℕ, ◌≤◌, ◌<◌, ◌⊎◌, true, ◌||◌, ℤ}
use Rattle.slots.specs.Slots.{Slot, rule_for}
use Rattle.slots.specs.declared.Rule.{Rule}
use Rattle.slots.specs.declared.Sort.{Sort}
use Rattle.sizes.specs.Sizes.{max_chemicals}
use Rattle.cases.specs.Cases.{max_receptors, given}
use Rattle.powers.specs.Powers.{above, below}
use Rattle.cases.specs.Ranges.{in_range}
use Rattle.cases.specs.declared.Case.{Case}
use Rattle.cases.specs.declared.Value.{Value}
use Rattle.cases.specs.declared.Value.TheVariants.{Absent, Given}

-- what a field may spell: twelve digits, and a power of ten from -111 to 99; below -11 only by an exponent, which leaves columns for eight digits
pub record Spelled (digits : ℕ) (power : ℤ) : Type 0 where
  pub twelve : digits < 1000000000000
  pub high : above power ≤ 99
  pub low : below power ≤ 111
  pub fine : (below power ≤ 11) ⊎ (digits < 100000000)

-- what a slot's rule asks of its value; no value is right where - or blank is allowed
abbrev pub Fits : Rule → Value → Type 0
Fits rule Absent = (rule.dash || rule.blank) ≡ true
Fits rule (Given power digits) = (rule.used ≡ true) × (in_range rule digits power ≡ true) × Spelled digits power

-- for each receptor j and chemical i, from 0
pub record Ranged (sort : Sort) (case : Case) : Type 0 where
  pub some_chemicals : 1 ≤ case.chemicals.count
  pub few_chemicals : case.chemicals.count ≤ max_chemicals
  pub some_receptors : 1 ≤ case.receptors.count
  pub few_receptors : case.receptors.count ≤ max_receptors sort
  pub fits : (j i : ℕ) → j < case.receptors.count → i < case.chemicals.count → (s : Slot) → Fits (rule_for sort s) (given case j i s)
