-- An exposure that is set against a deposition on the printed digits. Assumes nothing.
use mathlib.Core.Path.{◌≡◌, refl, sym, ◌∙◌, ap}
use mathlib.Core.Bool.{Bool, true, false}
use Prim.Native.Nat.{ℕ, ◌<◌}
use native.Mathlib.Omega.{arith}
use lib.Dec.{leb}
use borrow.Author.Tests.{leb-false}
use Rattle.pair.specs.declared.Pair.{Pair}
use Rattle.pair.specs.Calls.{Outcome, is}
use Rattle.times.specs.declared.Years.{Years}
use Rattle.times.specs.Times as years
use Rattle.times.specs.Times.{amount, is_years}
use Rattle.times.proofs.TimePromises.{at_most_told, beyond_answered}
use Rattle.scenario.specs.Scenario.{or_no_pair, stay_if, later_if}
use Rattle.report.specs.DemandTwo.{is_beyond, Exposed}

taken : (o : Outcome Pair) (p : Pair) → o ≡ is p → o ≡ is (or_no_pair o)
unfolding or_no_pair
taken o p e = e ∙ ap (λ (a : Outcome Pair). is (or_no_pair a)) (sym e)

module _ (exposure deposition : Years) (T2 : is_years exposure ≡ true) (tD : is_years deposition ≡ true) where
  by_order : (t : Bool) → leb (amount exposure) (amount deposition) ≡ t → years.at_most exposure deposition ≡ is t → Exposed exposure deposition (stay_if (is t)) (later_if (stay_if (is t)) exposure deposition)
  unfolding stay_if later_if is_beyond
  by_order true e o = record { order = o; difference = λ b. absurd (let z : ◌≡◌ {A = ℕ} 0 1 = cc in omega arith) }
  by_order false e o =
      let l : amount deposition < amount exposure = leb-false (amount exposure) (amount deposition) e in
      let b = beyond_answered exposure deposition T2 tD (omega arith) in
      record { order = o; difference = λ s. taken (years.beyond exposure deposition) b.0 b.1 }

  pub exposed : Exposed exposure deposition (stay_if (years.at_most exposure deposition)) (later_if (stay_if (years.at_most exposure deposition)) exposure deposition)
  exposed = let a = at_most_told exposure deposition T2 tD in rw a (by_order (leb (amount exposure) (amount deposition)) refl a)
