-- `composite::stages::added` meets its contract. Assumes nothing.
use mathlib.Core.Path.{ap, ◌∙◌}
use borrow.Author.Rules.{rules}
use Rattle.scenario.specs.Scenario.{or_no_time}
use Rattle.composite.proofs.stages.added.Goals as goal

pub returns : goal.returns
returns c = c.or_no_time.ensures ∙ ap or_no_time c.together.ensures
