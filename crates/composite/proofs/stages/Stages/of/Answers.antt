-- Each stage's years are entered. Assumes nothing.
use borrow.Author.Rules.{rules}
use native.Mathlib.Omega.{arith}
use Rattle.sizes.specs.Sizes.{most_stages}
use Rattle.slots.specs.Slots.{table, same, is_in, place_in, owner_of, place_of}
use Rattle.cases.specs.Cases.{no_record}
use Rattle.scenario.proofs.Arrays.{made}
use Rattle.composite.specs.Inner.{pair_in, years_in}
use Rattle.composite.proofs.stages.Stages.of.Goals as goal

pub invariant_of-result : goal.invariant_of-result
unfolding years_in pair_in place_of owner_of place_in is_in same table
invariant_of-result c =
    record {
      in_range = omega arith;
      entered = made (λ j. pair_in c.args.stages.records j (place_of "years")) most_stages c.map-years.result c.map-years.ensures.items.long (λ i e h. let w = c.map-years.ensures.items.at i no_record e h in search rules);
    }
