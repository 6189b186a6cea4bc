-- Past the table's end are later slots. Assumes nothing.
use mathlib.Core.Path.{sym}
use native.Mathlib.Omega.{arith}
use Rattle.slots.specs.declared.Owner.TheVariants.{Receptor}
use Rattle.slots.specs.Slots.{table}
use Rattle.slots.proofs.SlotLaws.{later_line}
use Rattle.slots.proofs.receptor_rules.Goals as goal

pub returns-in_default : goal.returns-in_default
unfolding table
returns-in_default c = sym (later_line c.args.sort Receptor c.args.line (omega (arith, c.in_default.in_default-own.rest)))
