-- Each slot is tested in turn. Assumes nothing.
use borrow.Author.Rules.{rules}
use mathlib.Core.Path.{◌≡◌, ◌∙◌}
use native.Mathlib.Omega.{arith}
use lib.ListN.{length}
use Rattle.sizes.specs.Sizes.{slots_per_record}
use Rattle.cases.specs.declared.Value.TheVariants.{Absent}
use Rattle.cases.specs.Cases.{value_at}
use Rattle.std.proofs.lemmas.Iterator.{YieldsList-from_slice}
use Rattle.std.proofs.lemmas.Iterator.Search.{any_from_yields_List}
use Rattle.scenario.proofs.Arrays.{any_each}
use Rattle.scenario.specs.Scenario.{is_unpaired, unpaired}
use Rattle.scenario.proofs.memory.unpaired.Goals as goal

pub returns : goal.returns
unfolding unpaired value_at
returns c =
    let slots = c.args.r.now.slots in
    let long : length slots ≡ slots_per_record = omega arith in
    any_from_yields_List is_unpaired _ _ _ c.any.ensures.ran (YieldsList-from_slice slots cc) (λ x b q k. search rules)
    ∙ any_each is_unpaired slots Absent slots_per_record long
