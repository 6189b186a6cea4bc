-- The ids so far are right. Assumes nothing.
use mathlib.Core.Path.{◌≡◌}
use mathlib.Core.Bool.{false}
use Prim.Native.Nat.{ℕ, ◌<◌}
use Rattle.lists.specs.Lists.{any_of}
use Rattle.cases.specs.CaseConditions.{id_before, id_wrong}
use Rattle.cases.proofs.memory.ids_wrong.Given as goal

abbrev pub invariant-loop-i : goal.invariant-loop-i
invariant-loop-i g l = (ids : ℕ → ℕ) → ((i id : ℕ) → i < l.count → goal.F-post g l.id_at i id → id ≡ ids i) → (l.before ≡ id_before ids l.i) × (any_of (id_wrong ids) l.i ≡ false)
