-- What the laws ask of a scenario: no more records than a sheet has room for, the year of a guidance, no needed value missing, every slot's pair in range of its exact value, whether it was
-- printed or made, and T2 − tD of the exact difference, where the exposure goes beyond the deposition. Assumes nothing.
use mathlib.Core.Path.{◌≡◌}
use mathlib.Core.Bool.{true, false}
use Prim.Native.Nat.{ℕ, ◌≤◌, ◌<◌}
use Rattle.pair.specs.Fraction.{minus}
use Rattle.pair.specs.Calls.{is}
use Rattle.pair.proofs.Profiles.{Good}
use Rattle.slots.specs.Slots.{Slot}
use Rattle.slots.specs.declared.Owner.TheVariants.{Site, Chemical}
use Rattle.slots.specs.declared.Sort.TheVariants.{Ordinary}
use Rattle.cases.specs.CaseConditions.{lacks}
use Rattle.equations.proofs.LineLaws.{of_later, InRange}
use Rattle.sizes.specs.Sizes.{max_chemicals, most_receptors}
use Rattle.scenario.specs.declared.Scenario.{Scenario}
use Rattle.scenario.specs.Scenario.{chemical_in, stay_in, pairs_at, no_guidance, Exact, exact_stay}

pub record Sound (scenario : Scenario) (exact : Exact) : Type 0 where
  pub some_chemicals : 1 ≤ scenario.chemicals.count
  pub few_chemicals : scenario.chemicals.count ≤ max_chemicals
  pub some_receptors : 1 ≤ scenario.receptors.count
  pub few_receptors : scenario.receptors.count ≤ most_receptors
  pub guided : no_guidance scenario ≡ false
  -- no needed value is missing
  pub whole : lacks Ordinary Site scenario.site ≡ false
  pub wholes : (i : ℕ) → i < scenario.chemicals.count → lacks Ordinary Chemical (chemical_in scenario i) ≡ false
  pub inputs : (j i : ℕ) → j < scenario.receptors.count → i < scenario.chemicals.count → (s : Slot) → InRange s (pairs_at scenario j i) (exact j i s)
  -- the choice of the mean is that of the exact times
  pub stays : (j i : ℕ) → j < scenario.receptors.count → i < scenario.chemicals.count → stay_in scenario j ≡ exact_stay (exact j i)
  pub later : (j i : ℕ) → j < scenario.receptors.count → i < scenario.chemicals.count → (of_later (stay_in scenario j)).answered ≡ true
      → Good (of_later (stay_in scenario j)) (is (pairs_at scenario j i).later) (minus (exact j i "T2") (exact j i "tD"))
