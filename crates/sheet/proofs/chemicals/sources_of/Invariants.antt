-- The sources so far, then empty ones; none of them stopped. Assumes nothing.
use mathlib.Core.Path.{◌≡◌}
use mathlib.Core.List.{◌++◌}
use Prim.Native.Nat.{◌-◌}
use lib.ListN.{get_or, replicate}
use Rattle.sizes.specs.Sizes.{max_chemicals}
use Rattle.cases.specs.Conditions.{passed}
use Rattle.cases.specs.Conditions.{first}
use Rattle.lists.specs.Lists.{tabulate, chained}
use Rattle.cases.specs.Cases.{no_record}
use Rattle.sheet.specs.Inner.{no_source, source_of, refused_source}
use Rattle.sheet.proofs.chemicals.sources_of.Given as goal

abbrev pub invariant-loop-i : goal.invariant-loop-i
invariant-loop-i l =
    (l.list ≡ tabulate l.i (λ k. source_of l.site l.receptors (get_or l.chemicals.records k no_record)) ++ replicate (max_chemicals - l.i) no_source)
    × (first (chained (refused_source l.site l.receptors l.chemicals.records) l.i) ≡ passed)
