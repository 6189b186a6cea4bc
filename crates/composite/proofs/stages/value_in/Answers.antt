-- `composite::stages::value_in` meets its contract. Assumes nothing.
use borrow.Author.Rules.{rules}
use Rattle.cases.specs.Cases.{value_at}
use Rattle.composite.proofs.stages.value_in.Goals as goal

pub returns : goal.returns
unfolding value_at
returns c = c.pair_of.ensures
