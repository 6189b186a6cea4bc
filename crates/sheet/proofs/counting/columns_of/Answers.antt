-- A figure that is present is counted in its effect's units. Assumes nothing.
use mathlib.Core.Path.{◌≡◌, refl}
use borrow.Author.Rules.{rules}
use mir.Facts.{to_z-of_z}
use mir.Syntax.{w32}
use mir.Val.{SFits}
use Rattle.std.specs.Prelude.{Option, Some}
use Rattle.pair.specs.declared.Pair.{Pair}
use Rattle.pair.specs.Calls.{Outcome, is, answer}
use Rattle.sheet.specs.Inner.{columns_of}
use Rattle.sheet.proofs.counting.columns_of.Goals as goal

pub returns-in-Ok-Some : goal.returns-in-Ok-Some
unfolding answer columns_of
returns-in-Ok-Some c =
    let f : SFits w32 c.unit_of.result = record { sfits = c.unit_of.type_inv } in
    let e : ◌≡◌ {A = Outcome (Option Pair)} (answer c.args.figure) (is (Some c.in-Ok-Some.p)) = search rules in
    rw (e, c.counted.ensures, to_z-of_z f, c.unit_of.ensures) refl
