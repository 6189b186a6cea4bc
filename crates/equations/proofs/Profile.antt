-- A third reading of the formulas, on profiles: what is known of a pair before it is worked. Assumes nothing.
use Rattle.pair.specs.Promises.{sums, products, quotients}
use Rattle.pair.proofs.Profiles.{Profile, of_number, joined}
use Rattle.equations.specs.Formula.{Algebra}

unfoldable pub profiles : Algebra Profile
profiles = record { number = of_number; plus = joined sums; times = joined products; over = joined quotients }
