-- The sum is not negative, so the cast keeps it. Assumes nothing.
use mir.Facts.{to_z-of_z, Fits-nat_abs}
use Rattle.times.specs.Times.{least, places}
use Rattle.times.proofs.TimeDigits.{Placed, placed, sum_small}
use mathlib.Core.Path.{refl}
use Rattle.times.proofs.places.Goals as goal

pub overflow_add-result : goal.overflow_add-result
overflow_add-result c = rw (to_z-of_z c.ranges.power) (sum_small c.args.power (placed c.args.power c.requires))

pub overflow_cast-result : goal.overflow_cast-result
overflow_cast-result c =
    let e = c.args.power in
    let p : Placed e = placed e c.requires in
    simp (to_z-of_z c.ranges.power, to_z-of_z (sum_small e p)) (p.counted, Fits-nat_abs tt (sum_small e p))

pub returns : goal.returns
unfolding places least
returns c =
    let e = c.args.power in
    let p : Placed e = placed e c.requires in
    rw (to_z-of_z c.ranges.power, to_z-of_z (sum_small e p)) (refl, p.most)
