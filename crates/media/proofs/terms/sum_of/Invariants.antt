-- The loop keeps the series' term and the total up to it, and ends early where every later term is absorbed. Assumes nothing.
use Rattle.media.proofs.Sofar.{Sofar}
use Rattle.media.proofs.terms.sum_of.Given as goal

abbrev pub invariant-loop-n : goal.invariant-loop-n
invariant-loop-n g l = Sofar g.S.Series.series l.x l.term l.total l.n
