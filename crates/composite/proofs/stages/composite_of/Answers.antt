-- One receptor of the stages. Assumes nothing.
use mathlib.Core.Path.{◌≡◌}
use native.Mathlib.Omega.{arith}
use lib.ListN.{length}
use Rattle.sizes.specs.Sizes.{most_stages}
use Rattle.pair.specs.Calls.{answer}
use Rattle.composite.proofs.StageLaws.{composite_made}
use Rattle.composite.proofs.stages.composite_of.Goals as goal

pub returns : goal.returns
returns c =
    let case = c.args.case.now in
    let long : length case.receptors.records ≡ most_stages = omega arith in
    let stages = c.of-stages.ensures in
    composite_made case _ (omega (arith, long)) c.composed_values-values.result c.time_exposed-exposure.result (answer c.pair.result)
    (rw (stages.0, stages.1) at c.time_exposed-exposure.ensures) c.pair.ensures (rw (stages.0, stages.1) at c.composed_values-values.ensures)
    c.deposition_of-deposition.result c.receptor_with-receptor.result c.no_receptor-none.result c.deposition_of-deposition.ensures c.receptor_with-receptor.ensures c.no_receptor-none.ensures
