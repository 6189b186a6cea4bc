-- Each by itself, from one time in the air. Assumes nothing.
use mathlib.Core.Path.{refl}
use Rattle.equations.specs.declared.Effect.TheVariants.{Hazard, Cancer}
use Rattle.pathway.specs.Lines.{shares_of_time, in_air_of}
use Rattle.pathway.proofs.AirLaws.{own_share}
use Rattle.pathway.proofs.air.in_air_of.Goals as goal

pub returns : goal.returns
unfolding shares_of_time in_air_of
returns c = rw (c.share_of_time-2.ensures, c.share_of_time.ensures, c.time_in_air-spent.ensures, own_share Hazard c.args.receptor, own_share Cancer c.args.receptor) refl
