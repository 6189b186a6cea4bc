-- The pair's four numbers are written, or nothing. Assumes nothing.
use mathlib.Core.Path.{refl}
use native.Mathlib.Omega.{arith}
use borrow.Author.Rules.{rules}
use mir.Facts.{to_z_pos}
use mir.Syntax.{w32, w64}
use mir.Val.{SFits}
use Rattle.pair.specs.Calls.{answer}
use Rattle.zilmorga.specs.Numbers.{numbers_of}
use Rattle.zilmorga.specs.Calls.{leaves}
use Rattle.zilmorga.proofs.Fields.{widens, widened}
use Rattle.zilmorga.proofs.numbers.put.Goals as goal

pub returns-in_default : goal.returns-in_default
unfolding answer leaves
returns-in_default c = rw c.in_default.is refl

pub overflow_cast-low : goal.overflow_cast-low
overflow_cast-low c = let f : SFits w32 c.in-Ok.p.low.exponent = search rules in widens f

pub overflow_cast-high : goal.overflow_cast-high
overflow_cast-high c = let f : SFits w32 c.in-Ok.p.high.exponent = search rules in widens f

pub returns : goal.returns
unfolding answer leaves numbers_of
returns c =
    let p = c.in-Ok.p in
    let l : SFits w32 p.low.exponent = search rules in
    let h : SFits w32 p.high.exponent = search rules in
    rw (c.in-Ok.is, widened l, widened h, to_z_pos w64 {n = p.low.significand} (omega arith), to_z_pos w64 {n = p.high.significand} (omega arith)) refl
