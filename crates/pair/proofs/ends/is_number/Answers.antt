-- 0 first, then the figures, then the exponent. Assumes nothing.
use mathlib.Core.Path.{sym, ◌∙◌, ap}
use mathlib.Core.Bool.{Bool, ◌&&◌}
use native.Mathlib.Omega.{arith}
use mir.Facts.{to_z-of_z}
use mir.Syntax.{w32}
use mir.Val.{SFits}
use borrow.Author.Rules.{rules}
use Rattle.pair.specs.Number.{in_reach}
use Rattle.pair.proofs.Numbers.{is_nine_number, nine_figures_lem, too_few, too_many}
use Rattle.pair.proofs.ends.is_number.Goals as goal

pub returns-then-w-lt100000000 : goal.returns-then-w-lt100000000
returns-then-w-lt100000000 c = let w = c.args.w in ap (λ (t : Bool). t && in_reach w.exponent) (sym (too_few w.significand (omega arith))) ∙ is_nine_number w (omega arith)

pub returns-then-w-gt999999999 : goal.returns-then-w-gt999999999
returns-then-w-gt999999999 c = let w = c.args.w in ap (λ (t : Bool). t && in_reach w.exponent) (sym (too_many w.significand (omega arith))) ∙ is_nine_number w (omega arith)

pub returns : goal.returns
returns c =
    let w = c.args.w in
    let f : SFits w32 w.exponent = search rules in
    rw (c.in_reach.ensures, to_z-of_z f)
    (ap (λ (t : Bool). t && in_reach w.exponent) (sym (nine_figures_lem w.significand (omega arith) (omega arith))) ∙ is_nine_number w (omega arith))
