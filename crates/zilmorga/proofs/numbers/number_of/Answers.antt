-- Both parts fit their fields, or there is none. Assumes nothing.
use mathlib.Core.Path.{◌≡◌, refl, sym, ◌∙◌}
use mathlib.Core.Bool.{true, false}
use borrow.Author.Rules.{rules}
use borrow.Author.Tests.{not-true, not-false}
use lib.IntN.{pos, negsuc}
use mir.Facts.{to_z-of_z}
use Rattle.pair.specs.Calls.{answer, provided}
use Rattle.zilmorga.specs.Numbers.{number_of, is_between}
use Rattle.zilmorga.proofs.Fields.{significand_fits, exponent_fits}
use Rattle.zilmorga.proofs.numbers.number_of.Goals as goal

pub returns-then-not-within : goal.returns-then-not-within
unfolding answer number_of provided
returns-then-not-within c =
    let a = c in
    let h : is_between (pos 0) a.args.significand (pos 4294967295) ≡ false = rw (to_z-of_z a.ranges.significand) at (sym c.within.ensures ∙ not-true _ c.if-not-within.true-raw) in
    rw h refl

pub returns-then-not-within-2 : goal.returns-then-not-within-2
unfolding answer number_of provided
returns-then-not-within-2 c =
    let a = c in
    let m : is_between (pos 0) a.args.significand (pos 4294967295) ≡ true = rw (to_z-of_z a.ranges.significand) at (sym c.within.ensures ∙ not-false _ c.if-not-within.false-raw) in
    let e : is_between (negsuc 2147483647) a.args.exponent (pos 2147483647) ≡ false = rw (to_z-of_z a.ranges.exponent) at (sym c.within-2.ensures ∙ not-true _ c.if-not-within-2.true-raw) in
    rw (m, e) refl

pub overflow_cast-result : goal.overflow_cast-result
overflow_cast-result c =
    let a = c in
    let m : is_between (pos 0) a.args.significand (pos 4294967295) ≡ true = rw (to_z-of_z a.ranges.significand) at (sym c.within.ensures ∙ not-false _ c.if-not-within.false-raw) in
    rw (to_z-of_z a.ranges.significand) (significand_fits a.args.significand m)

pub overflow_cast-result-2 : goal.overflow_cast-result-2
overflow_cast-result-2 c =
    let a = c in
    let e : is_between (negsuc 2147483647) a.args.exponent (pos 2147483647) ≡ true = rw (to_z-of_z a.ranges.exponent) at (sym c.within-2.ensures ∙ not-false _ c.if-not-within-2.false-raw) in
    rw (to_z-of_z a.ranges.exponent) (exponent_fits a.args.exponent e)

pub returns : goal.returns
unfolding answer number_of provided
returns c =
    let a = c in
    let m : is_between (pos 0) a.args.significand (pos 4294967295) ≡ true = rw (to_z-of_z a.ranges.significand) at (sym c.within.ensures ∙ not-false _ c.if-not-within.false-raw) in
    let e : is_between (negsuc 2147483647) a.args.exponent (pos 2147483647) ≡ true = rw (to_z-of_z a.ranges.exponent) at (sym c.within-2.ensures ∙ not-false _ c.if-not-within-2.false-raw) in
    rw (to_z-of_z a.ranges.significand, to_z-of_z a.ranges.exponent, to_z-of_z (exponent_fits a.args.exponent e), m, e) refl
