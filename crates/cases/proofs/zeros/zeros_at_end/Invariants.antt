-- So many zeros were dropped, and the rest has the others. Assumes nothing.
use mathlib.Core.Path.{◌≡◌}
use Prim.Native.Nat.{◌+◌, ◌-◌}
use Rattle.cases.specs.Cases.{zeros_at_end}
use Rattle.cases.proofs.zeros.zeros_at_end.Given as goal

abbrev pub invariant-loop-n : goal.invariant-loop-n
invariant-loop-n l = zeros_at_end l.most l.digits ≡ l.n + zeros_at_end (l.most - l.n) l.left
