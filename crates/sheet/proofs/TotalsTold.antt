-- What the totals call told of a part of cells; where a receptor's column of an effect begins, and what that call told of its three parts. Assumes
-- nothing.
use mathlib.Core.Path.{◌≡◌, refl, sym, ap, ◌∙◌}
use mathlib.Core.Bool.{Bool, true, false, cond}
use mathlib.Core.List.{List}
use Prim.Native.Nat.{ℕ, ◌+◌, ◌-◌, ◌≤◌, ◌<◌}
use native.Mathlib.Omega.{arith}
use borrow.Author.Tests.{eqb-true, ltb-true}
use lib.Dec.{eqb, ltb}
use lib.ListN.{length, take, drop}
use Rattle.std.specs.Prelude.{Option, Some, None, Result}
use Rattle.pair.specs.Calls.{Outcome, is, refused}
use Rattle.equations.specs.declared.Effect.{Effect}
use Rattle.equations.specs.declared.Effect.TheVariants.{Hazard, Cancer}
use Rattle.sizes.specs.Sizes.{most_receptors}
use Rattle.totals.specs.declared.NoTotal.{NoTotal}
use Rattle.totals.specs.Totals.{Columns, totalled, total_of}
use Rattle.lists.proofs.Booleans.{both}
use Rattle.sheet.specs.Counts.{side_of, effect_cells, all_cells, column_start, is_held, columns_from, totalled_from}
use Rattle.sheet.specs.Inner.{if_told}

-- ---- a part of the cells
pub total_told : (cells : List ℕ) (at n : ℕ) (r s : Result ℕ NoTotal) → totalled r ≡ total_of (take (at + n - at) (drop at cells)) → r ≡ s
    → total_of (take n (drop at cells)) ≡ totalled s
total_told cells at n r s a k =
    let e : n ≡ at + n - at = omega arith in
    ap (λ (m : ℕ). total_of (take m (drop at cells))) e ∙ sym a ∙ ap totalled k

pub side_small : (e : Effect) → side_of e < 2
unfolding side_of
side_small Hazard = omega arith
side_small Cancer = omega arith

-- ---- where a column begins
pub record Start (cells : List ℕ) (j : ℕ) (e : Effect) (start : ℕ) : Type 0 where
  pub held : is_held cells j ≡ true
  pub place : start ≡ column_start j e
  pub long : length cells ≡ all_cells
  pub room : start + effect_cells ≤ all_cells

module _ (cells : List ℕ) (j : ℕ) (e : Effect) where
  go : (h : Bool) → is_held cells j ≡ h → (start : ℕ) → Some start ≡ cond h (Some (column_start j e)) None → Start cells j e start
  unfolding is_held
  go true h start p =
      let t = both (eqb (length cells) all_cells) (ltb j most_receptors) h in
      let place : start ≡ column_start j e = cc in
      let small : j < most_receptors = ltb-true _ _ t.1 in
      record { held = h; place = place; long = eqb-true _ _ t.0; room = omega (arith, side_small e) }
  go false h start p = let z : ◌≡◌ {A = ℕ} 0 1 = cc in absurd (omega arith)

  pub started : (start : ℕ) → Some start ≡ cond (is_held cells j) (Some (column_start j e)) None → Start cells j e start
  started start p = go (is_held cells j) refl start p

  none : (h : Bool) → is_held cells j ≡ h → None ≡ cond h (Some (column_start j e)) None → is_held cells j ≡ false
  none true h p = let z : ◌≡◌ {A = ℕ} 0 1 = cc in absurd (omega arith)
  none false h p = h

  pub not_started : None ≡ cond (is_held cells j) (Some (column_start j e)) None → is_held cells j ≡ false
  not_started p = none (is_held cells j) refl p

-- ---- three totals, as far as the totals call has them
unfoldable pub by_parts : Option ℕ → Option ℕ → Option ℕ → Columns
by_parts None y z = None
by_parts (Some lines) None z = None
by_parts (Some lines) (Some low) None = None
by_parts (Some lines) (Some low) (Some high) = columns_from lines low high

pub parts_told : (a b c : Outcome ℕ) → totalled_from a b c ≡ by_parts (if_told a) (if_told b) (if_told c)
unfolding totalled_from by_parts if_told
parts_told (refused n) b c = refl
parts_told (is l) (refused n) c = refl
parts_told (is l) (is m) (refused n) = refl
parts_told (is l) (is m) (is h) = refl
