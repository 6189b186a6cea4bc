-- From the shares of time, if there are any. Assumes nothing.
use mathlib.Core.Path.{refl}
use Rattle.pair.specs.Calls.{answer}
use Rattle.pathway.specs.Inner.{timed_figures}
use Rattle.pathway.specs.Lines.{figured, breathed}
use Rattle.pathway.proofs.air.timed_figures.Goals as goal

pub returns-in_default : goal.returns-in_default
unfolding timed_figures breathed figured answer
returns-in_default c = rw c.in_default.is refl

pub returns : goal.returns
unfolding timed_figures breathed
returns c = rw c.in-Time.is c.air_figures_with.ensures
