-- No chemical so far stops. Assumes nothing.
use mathlib.Core.Path.{◌≡◌}
use lib.ListN.{get_or}
use Rattle.lists.specs.Lists.{chained}
use Rattle.slots.specs.declared.Owner.TheVariants.{Chemical}
use Rattle.slots.specs.declared.Sort.TheVariants.{Ordinary}
use Rattle.cases.specs.Cases.{no_record}
use Rattle.cases.specs.Conditions.{passed, first}
use Rattle.cases.specs.CaseConditions.{record_conditions}
use Rattle.cases.proofs.memory.chemicals_verdict.Given as goal

abbrev pub invariant-loop-chemical : goal.invariant-loop-chemical
invariant-loop-chemical l = first (chained (λ n. record_conditions Ordinary Chemical (get_or l.chemicals n no_record)) l.chemical-index) ≡ passed
