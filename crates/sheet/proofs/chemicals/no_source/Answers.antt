-- Every value is 1, every medium 0 and every reference value absent. Assumes nothing.
use mathlib.Core.Path.{refl}
use Rattle.pair.specs.Number.{one}
use Rattle.pair.specs.Calls.{one_pair}
use Rattle.slots.specs.Slots.{table, same, is_in, place_in, owner_of, place_of}
use Rattle.equations.specs.Readings.{value_in}
use Rattle.pathway.specs.Lines.{absorbed_of}
use Rattle.cases.specs.Cases.{value_at}
use Rattle.scenario.specs.Scenario.{pair_of, values_of}
use Rattle.sheet.specs.Inner.{no_means, printed_as, references_of, source_with, no_source}
use Rattle.sheet.proofs.chemicals.no_source.Goals as goal

pub returns : goal.returns
unfolding one one_pair table same is_in place_in owner_of place_of value_at pair_of values_of printed_as references_of absorbed_of value_in no_means source_with no_source
returns c = rw (c.none-2.ensures, c.none.ensures, c.references_from-references.ensures) refl
