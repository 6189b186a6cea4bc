-- The means so far, then none; none of them was refused. Assumes nothing.
use mathlib.Core.Path.{◌≡◌}
use mathlib.Core.List.{◌++◌}
use mathlib.Core.Bool.{false}
use Prim.Native.Nat.{◌-◌}
use lib.ListN.{get_or, replicate}
use Rattle.sizes.specs.Sizes.{most_receptors}
use Rattle.lists.specs.Lists.{tabulate, any_of}
use Rattle.media.specs.Media.{no_media}
use Rattle.scenario.specs.Scenario.{is_refused, no_receptor}
use Rattle.sheet.specs.Counts.{mean_with}
use Rattle.sheet.specs.Inner.{media_from}
use Rattle.sheet.proofs.chemicals.means_of.Given as goal

abbrev pub invariant-loop-j : goal.invariant-loop-j
invariant-loop-j l =
    (l.list ≡ tabulate l.j (λ k. media_from (mean_with l.site l.chemical (get_or l.receptors.list k no_receptor) l.the_ground)) ++ replicate (most_receptors - l.j) no_media)
    × (any_of (λ k. is_refused (mean_with l.site l.chemical (get_or l.receptors.list k no_receptor) l.the_ground)) l.j ≡ false)
