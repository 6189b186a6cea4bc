-- The part's sum, where the totals call has one. Assumes nothing.
use mathlib.Core.Path.{◌≡◌, refl, ap, ◌∙◌}
use Prim.Native.Nat.{ℕ, ◌+◌, ◌-◌}
use native.Mathlib.Omega.{arith}
use lib.ListN.{take, drop}
use Rattle.std.specs.Prelude.{Ok, Err, Result}
use Rattle.std.specs.Result.{result_ok}
use Rattle.totals.specs.declared.NoTotal.{NoTotal}
use Rattle.totals.specs.Totals.{totalled, total_of}
use Rattle.sheet.specs.Inner.{if_told}
use Rattle.sheet.proofs.reading.part_total.Goals as goal

told : (r : Result ℕ NoTotal) → result_ok r ≡ if_told (totalled r)
unfolding if_told totalled
told (Ok n) = refl
told (Err e) = refl

pub returns : goal.returns
returns c =
    let a = c.args in
    let e : a.at + a.count - a.at ≡ a.count = omega arith in
    c.ok.ensures.value ∙ told c.total.result ∙ ap if_told (c.total.ensures ∙ ap (λ (m : ℕ). total_of (take m (drop a.at a.cells.now))) e)
