-- Each chemical is tested in turn. Assumes nothing.
use borrow.Author.Rules.{rules}
use borrow.Author.Tests.{le-ltb}
use mathlib.Core.Path.{◌≡◌, refl, ap, ◌∙◌}
use native.Mathlib.Omega.{arith}
use Prim.Native.Nat.{◌≤◌}
use lib.ListN.{length, take}
use Rattle.sizes.specs.Sizes.{max_chemicals}
use Rattle.cases.specs.Cases.{no_record}
use Rattle.std.specs.List.{list_any}
use Rattle.std.proofs.lemmas.Iterator.{YieldsList-from_slice}
use Rattle.std.proofs.lemmas.Iterator.Search.{any_from_yields_List}
use Rattle.scenario.proofs.Arrays.{any_first}
use Rattle.scenario.specs.Scenario.{unpaired}
use Rattle.scenario.proofs.memory.chemicals_unpaired.Goals as goal

pub returns : goal.returns
returns c =
    let chemicals = c.args.chemicals.now in
    let long : length chemicals.records ≡ max_chemicals = omega arith in
    let few : chemicals.count ≤ length chemicals.records = search rules in
    let part : c.in-Some.records.now ≡ take chemicals.count chemicals.records = search rules in
    any_from_yields_List unpaired _ _ _ c.any.ensures.ran (YieldsList-from_slice c.in-Some.records.now cc) (λ x b q k. search rules)
    ∙ ap (list_any unpaired) part
    ∙ any_first unpaired chemicals.records no_record chemicals.count few
    ∙ rw (le-ltb max_chemicals chemicals.count (omega (arith, few))) refl
