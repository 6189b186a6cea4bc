-- A refused dose or exposure concentration is refused as a figure where there is a reference value; and a quantity made of a pair has that pair.
-- Assumes nothing.
use Prim.Native.Nat.{ℕ}
use mathlib.Core.Path.{◌≡◌, refl, ap}
use Rattle.std.specs.Prelude.{Some}
use Rattle.pair.specs.declared.Pair.{Pair}
use Rattle.pair.specs.Calls.{Outcome, is, refused, mapped, after}
use Rattle.equations.specs.declared.Effect.{Effect}
use Rattle.equations.specs.declared.Effect.TheVariants.{Hazard, Cancer}
use Rattle.slots.specs.Slots.{same}
use Rattle.equations.specs.Formula.{read, pairs}
use Rattle.equations.specs.Readings.{letters, plain_with, plain}
use Rattle.equations.specs.Ahead.{of_two}
use Rattle.equations.specs.Page.{figure_by, air_figure_by}
use Rattle.pathway.specs.Lines.{figure_of, air_figure_of}

pub refused_carried : (e : Effect) (n : ℕ) (v : Pair) → figure_of e (refused n) (Some v) ≡ refused n
unfolding figure_of figure_by of_two plain plain_with read letters pairs same mapped after
refused_carried Hazard n v = refl
refused_carried Cancer n v = refl

pub refused_in_air : (e : Effect) (n : ℕ) (v : Pair) → air_figure_of e (refused n) (Some v) ≡ refused n
unfolding air_figure_of air_figure_by of_two plain plain_with read letters pairs same mapped after
refused_in_air Hazard n v = refl
refused_in_air Cancer n v = refl

pub pair_back : {A : Type 0} (pair : A → Pair) (quantity : Pair → A) → ((q : Pair) → pair (quantity q) ≡ q) → (o : Outcome Pair) → mapped pair (mapped quantity o) ≡ o
unfolding mapped
pair_back pair quantity same (is p) = ap (λ (q : Pair). is q) (same p)
pair_back pair quantity same (refused n) = refl
