-- `composite::report_with_room` meets its contract: its arrays are as long as the rooms. Assumes nothing.
use mathlib.Core.Path.{◌≡◌, ap, ◌∙◌}
use mathlib.Core.List.{List}
use Prim.Native.Nat.{ℕ}
use native.Mathlib.Omega.{arith}
use borrow.Author.Rules.{rules}
use lib.ListN.{length, take}
use Rattle.report.specs.Forms.{outcome_of, buffer_of}
use Rattle.composite.specs.Composite.{composite}
use Rattle.report.specs.Rooms.{longest_for}
use Rattle.composite.proofs.report_with_room.Goals as goal

pub returns : goal.returns
returns c =
    let a = c.args in
    let read = c.front.ensures in
    let room : length a.out.now ≡ longest_for 1 = search rules in record { input_len = search rules; longest_for_value = omega (arith, c.report.auto.out); value = c.report.ensures.value ∙ ap (λ (deck : List ℕ). outcome_of composite deck (length a.out.now)) read ∙ ap (outcome_of composite (take a.n a.input.now)) room; out_after = c.report.ensures.out_after ∙ ap (λ (deck : List ℕ). buffer_of composite deck a.out.now) read }
