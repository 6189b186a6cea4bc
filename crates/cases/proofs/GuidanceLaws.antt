-- A number that is the year of a guidance, in any spelling, names that guidance and no other (document 02, P6). Assumes nothing.
use Prim.Native.Nat.{ℕ, ◌*◌, ◌^◌}
use native.Mathlib.Nat.{one-le-pow}
use native.Mathlib.Omega.{arith}
use mathlib.Core.Path.{◌≡◌, refl}
use mathlib.Core.Bool.{true, false}
use borrow.Author.Tests.{ne_eqb, eqb-true}
use lib.Dec.{lit≤}
use lib.IntN.{ℤ}
use Rattle.slots.specs.declared.Guidance.{Guidance}
use Rattle.slots.specs.declared.Guidance.TheVariants.{Of2005, Of2009}
use Rattle.slots.specs.Slots.{year_of}
use Rattle.powers.specs.Powers.{above, below}
use Rattle.cases.specs.declared.Value.TheVariants.{Given}
use Rattle.cases.specs.Ranges.{is_year_of}
use Rattle.cases.specs.Cases.{guidance_of}

one_year : (digits : ℕ) (z : ℤ) → is_year_of Of2005 digits z ≡ true → is_year_of Of2009 digits z ≡ false
unfolding is_year_of year_of
one_year digits z h =
    ne_eqb (digits * 10 ^ above z) (2009 * 10 ^ below z)
    (λ e. let p = eqb-true (digits * 10 ^ above z) (2005 * 10 ^ below z) h in let t = one-le-pow (below z) 10 (lit≤ tt) in omega arith)

pub named : (y : Guidance) (digits : ℕ) (power : ℤ) → is_year_of y digits power ≡ true → guidance_of (Given power digits) ≡ y
unfolding guidance_of
named Of2005 digits power h = rw (one_year digits power h) refl
named Of2009 digits power h = rw h refl
