-- The first four places are the receptors'. Assumes nothing.
use mathlib.Core.Path.{◌≡◌}
use native.Mathlib.Omega.{arith}
use lib.ListN.{length}
use Rattle.sizes.specs.Sizes.{most_receptors}
use Rattle.scenario.proofs.InputLaws.{ids_all}
use Rattle.scenario.proofs.Receptors.ids.Goals as goal

pub returns : goal.returns
returns c =
    let long : length c.args.self.now.list ≡ most_receptors = omega arith in
    ids_all c.args.self.now _ long
