-- A value that is there unless a test holds. Assumes nothing.
use mathlib.Core.Path.{◌≡◌, refl, sym, ◌∙◌}
use mathlib.Core.Bool.{Bool, true, false, cond}
use Rattle.std.specs.Prelude.{Option, Some, None}

module _ {A : Type 0} (b : Bool) (x : A) (o : Option A) (told : o ≡ cond b None (Some x)) where
  missing : (t : Bool) → b ≡ t → None ≡ cond t None (Some x) → b ≡ true
  missing true e h = e
  missing false e h = absurd cc

  pub is_missing : o ≡ None → b ≡ true
  is_missing none = missing b refl (sym none ∙ told)

  there : (t : Bool) (y : A) → b ≡ t → Some y ≡ cond t None (Some x) → (b ≡ false) × (y ≡ x)
  there true y e h = absurd cc
  there false y e h = (e, cc)

  pub is_there : (y : A) → o ≡ Some y → (b ≡ false) × (y ≡ x)
  is_there y some = there b y refl (sym some ∙ told)
