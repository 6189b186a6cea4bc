-- Each number has its pathway. Assumes nothing.
use mathlib.Core.Path.{◌≡◌, refl}
use Prim.Native.Nat.{ℕ, zero, suc, ◌<◌}
use native.Mathlib.Omega.{arith}
use Rattle.equations.specs.declared.Pathway.TheVariants.{BelowGround}
use Rattle.sheet.specs.Sheet.{pathway_at}
use Rattle.sheet.proofs.lines.pathway_at.Goals as goal

last : (n : ℕ) → 4 < n → BelowGround ≡ pathway_at n
unfolding pathway_at
last zero h = absurd (omega arith)
last (suc zero) h = absurd (omega arith)
last (suc (suc zero)) h = absurd (omega arith)
last (suc (suc (suc zero))) h = absurd (omega arith)
last (suc (suc (suc (suc zero)))) h = absurd (omega arith)
last (suc (suc (suc (suc (suc n))))) h = refl

pub returns-in-0 : goal.returns-in-0
unfolding pathway_at
returns-in-0 c = rw c.in-0.is refl

pub returns-in-1 : goal.returns-in-1
unfolding pathway_at
returns-in-1 c = rw c.in-1.is refl

pub returns-in-2 : goal.returns-in-2
unfolding pathway_at
returns-in-2 c = rw c.in-2.is refl

pub returns-in-3 : goal.returns-in-3
unfolding pathway_at
returns-in-3 c = rw c.in-3.is refl

pub returns-in-4 : goal.returns-in-4
unfolding pathway_at
returns-in-4 c = rw c.in-4.is refl

pub returns-in_default : goal.returns-in_default
returns-in_default c = last c.args.p (omega arith)
