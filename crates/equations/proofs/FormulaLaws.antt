-- One induction over the formulas: where every letter fits its profile and holds its value, and the profile says that all calls are
-- answered, the reading on pairs is answered, fits the profile and holds the reading on exact fractions. Assumes nothing.
use mathlib.Core.Path.{◌≡◌}
use mathlib.Core.Bool.{true}
use Rattle.pair.specs.declared.Pair.{Pair}
use Rattle.pair.specs.Fraction.{Fraction}
use Rattle.pair.specs.Calls.{Outcome}
use Rattle.pair.specs.Promises.{sums, products, quotients, call, exact_result}
use Rattle.pair.proofs.Profiles.{Profile, Good, parts, good_op, good_number}
use Rattle.equations.specs.Formula.{Letter, Formula, letter, constant, ◌⊕◌, ◌⊗◌, ◌⊘◌, read, pairs, fractions}
use Rattle.equations.proofs.Profile.{profiles}

-- the profile of a formula, from its letters'
unfoldable pub profile : (Letter → Profile) → Formula → Profile
profile prof f = read profiles prof f

module _ (prof : Letter → Profile) (env : Letter → Outcome Pair) (vals : Letter → Fraction) (letters : (l : Letter) → (prof l).answered ≡ true → Good (prof l) (env l) (vals l)) where
  pub reads_good : (f : Formula) → (profile prof f).answered ≡ true → Good (profile prof f) (read pairs env f) (read fractions vals f)
  unfolding profile read profiles pairs fractions call exact_result
  reads_good (letter l) h = letters l h
  reads_good (constant m e) h = good_number m e h
  reads_good (f ⊕ g) h =
      let t = parts sums (profile prof f) (profile prof g) h in
      good_op sums (profile prof f) (profile prof g) (reads_good f t.first) (reads_good g t.second) h
  reads_good (f ⊗ g) h =
      let t = parts products (profile prof f) (profile prof g) h in
      good_op products (profile prof f) (profile prof g) (reads_good f t.first) (reads_good g t.second) h
  reads_good (f ⊘ g) h =
      let t = parts quotients (profile prof f) (profile prof g) h in
      good_op quotients (profile prof f) (profile prof g) (reads_good f t.first) (reads_good g t.second) h
