-- `spelling::reading::ended` meets its contract: one law for each way out.
-- Assumes nothing.
use Rattle.spelling.proofs.WordLaws.{ended_tail, ended_spelled, ended_number}
use mathlib.Core.Path.{◌∙◌}
use mir.Facts.{to_z-of_z}
use mir.Syntax.{w32}
use Rattle.spelling.proofs.reading.ended.Goals as goal

pub returns-then-not-exponent_spelled : goal.returns-then-not-exponent_spelled
returns-then-not-exponent_spelled c = ended_tail c.args.text.now c.args.digits c.args.places c.args.end _ c.exponent_spelled.ensures c.if-not-exponent_spelled.true-raw

pub power_of-requires : goal.power_of-requires
power_of-requires c = (ended_spelled c.args.text.now c.args.digits c.args.places c.args.end _ c.exponent_spelled.ensures c.if-not-exponent_spelled.false-raw, c.requires.0)

pub returns : goal.returns
returns c = ended_number c.args.text.now c.args.digits c.args.places c.args.end _ c.exponent_spelled.ensures c.if-not-exponent_spelled.false-raw _ (to_z-of_z {w = w32} (record { sfits = c.power_of.type_inv }) ∙ c.power_of.ensures)
