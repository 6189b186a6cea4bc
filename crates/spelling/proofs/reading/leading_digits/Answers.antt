-- `spelling::reading::leading_digits` meets its contract. The invariant: what was passed, and what leads in the rest, make up the whole; the value is that of what was passed, and there is room for the rest.
-- Assumes nothing.
use Prim.Native.Nat.{ℕ, ◌+◌, ◌*◌}
use native.Mathlib.Nat.{zero-add}
use native.Mathlib.Omega.{arith}
use mathlib.Core.Path.{◌≡◌, refl, sym, ap, ◌∙◌}
use mathlib.Core.Bool.{true, false}
use borrow.Author.Rules.{rules}
use lib.ListN.{get_or}
use Rattle.spelling.specs.Columns.{within, leading, digits_value}
use Rattle.spelling.proofs.Leading.{turn, stop, whole}
use Rattle.spelling.proofs.DigitLaws.{digits_value_turn, digits_value_stop, room_digit, room_now, room_start}
use Rattle.spelling.proofs.reading.leading_digits.Goals as goal

pub loop-count-init : goal.loop-count-init
unfolding digits_value
loop-count-init c = record { led = zero-add _; read = refl; room = room_start _ c.args.s.now _ c.requires }

pub returns-then-not-is_ascii_digit : goal.returns-then-not-is_ascii_digit
unfolding within
returns-then-not-is_ascii_digit c =
    let s = c.args.s.now in
    let l = c.loop-count in
    let none : within 48 57 (get_or s l.count 0) ≡ false = search rules in
    let end : l.count ≡ leading 48 57 s = stop 48 57 s l.count c.loop-count-test.true none l.invariant.led in
    record { count_value = end; value_value = digits_value_stop s _ _ l.count _ end l.invariant.read }

pub overflow_mul-value : goal.overflow_mul-value
unfolding within
overflow_mul-value c =
    let s = c.args.s.now in
    let l = c.loop-count in
    let digit : within 48 57 (get_or s l.count 0) ≡ true = search rules in
    omega (arith, room_now _ _ _ (room_digit s l.value l.count 10000000000000 digit c.loop-count-test.true l.invariant.room))

pub overflow_add-value : goal.overflow_add-value
unfolding within
overflow_add-value c =
    let s = c.args.s.now in
    let l = c.loop-count in
    let digit : within 48 57 (get_or s l.count 0) ≡ true = search rules in
    omega (arith, c.from.ensures, room_now _ _ _ (room_digit s l.value l.count 10000000000000 digit c.loop-count-test.true l.invariant.room))

pub loop-count-preserved : goal.loop-count-preserved
unfolding within
loop-count-preserved c =
    let s = c.args.s.now in
    let l = c.loop-count in
    let digit : within 48 57 (get_or s l.count 0) ≡ true = search rules in
    record {
      led = turn 48 57 s l.count c.loop-count-test.true digit l.invariant.led;
      read = digits_value_turn s _ _ l.count c.loop-count-test.true l.invariant.read ∙ ap (λ (b : ℕ). l.value * 10 + b) (sym c.from.ensures);
      room = rw c.from.ensures (room_digit s l.value l.count 10000000000000 digit c.loop-count-test.true l.invariant.room);
    }

pub returns : goal.returns
returns c =
    let s = c.args.s.now in
    let l = c.loop-count in
    let end = whole 48 57 s l.count c.loop-count-test.false l.invariant.led in
    record { count_value = omega arith; value_value = digits_value_stop s _ _ l.count _ end l.invariant.read }
