-- Each slot's pair. Assumes nothing.
use borrow.Author.Rules.{rules}
use mathlib.Core.Path.{◌≡◌, sym, ap, ◌∙◌}
use native.Mathlib.Omega.{arith}
use lib.ListN.{length}
use Rattle.sizes.specs.Sizes.{slots_per_record}
use Rattle.cases.specs.declared.Value.TheVariants.{Absent}
use Rattle.scenario.proofs.Arrays.{mapped}
use Rattle.scenario.specs.Scenario.{pair_of, values_of}
use Rattle.scenario.proofs.values.values_of.Goals as goal

pub returns : goal.returns
unfolding values_of
returns c =
    let slots = c.args.r.slots in
    let long : length slots ≡ slots_per_record = c.well_formed.0.1.1.1.0.1.0.1 in
    ap (λ x. record { list = x }) (mapped pair_of slots c.map.result Absent (c.map.ensures.items.long ∙ sym long) (λ i h. let w = c.map.ensures.items.at i Absent (pair_of Absent) (omega (arith, long)) in search rules))
