-- `scenario::memory::untimed` meets its contract: by cases of the time. Assumes nothing.
use mathlib.Core.Path.{sym, ap, ◌∙◌}
use Rattle.slots.specs.Slots.{table, same, is_in, place_in, owner_of, place_of}
use Rattle.pair.specs.Calls.{answer}
use Rattle.cases.specs.Cases.{value_at}
use Rattle.scenario.proofs.ValueLaws.{refused_is, told_not}
use Rattle.scenario.proofs.memory.untimed.Goals as goal

pub returns-in_default : goal.returns-in_default
unfolding answer value_at place_of owner_of place_in is_in same table
returns-in_default c = refused_is _ 53 (sym c.timed.ensures ∙ ap answer c.in_default.is)

pub returns : goal.returns
unfolding answer value_at place_of owner_of place_in is_in same table
returns c = told_not _ _ (sym c.timed.ensures ∙ ap answer c.in-Ok.is)
