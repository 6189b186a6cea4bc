-- `report::report_with_room` meets its contract: its arrays are as long as the rooms. Assumes nothing.
use mathlib.Core.Path.{◌≡◌, ap, ◌∙◌}
use mathlib.Core.List.{List}
use Prim.Native.Nat.{ℕ}
use native.Mathlib.Omega.{arith}
use borrow.Author.Rules.{rules}
use lib.ListN.{length, take}
use Rattle.report.specs.Forms.{outcome_of, buffer_of}
use Rattle.report.specs.Report.{ordinary}
use Rattle.report.specs.Rooms.{longest_report}
use Rattle.report.proofs.report_with_room.Goals as goal

pub returns : goal.returns
returns c =
    let a = c.args in
    let read = c.front.ensures in
    let room : length a.out.now ≡ longest_report = search rules in record { input_len = search rules; longest_report_value = omega (arith, c.report.auto.out); value = c.report.ensures.value ∙ ap (λ (deck : List ℕ). outcome_of ordinary deck (length a.out.now)) read ∙ ap (outcome_of ordinary (take a.n a.input.now)) room; out_after = c.report.ensures.out_after ∙ ap (λ (deck : List ℕ). buffer_of ordinary deck a.out.now) read }
