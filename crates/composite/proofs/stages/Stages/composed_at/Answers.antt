-- By the slot. Assumes nothing.
use mathlib.Core.Path.{◌∙◌}
use native.Mathlib.Omega.{arith}
use Rattle.pair.specs.Calls.{answer}
use Rattle.composite.specs.Inner.{stage_in}
use Rattle.composite.proofs.StageLaws.{weights_summed, total_years, total_days, total_exposure, weighted_mean}
use Rattle.composite.proofs.stages.Stages.composed_at.Goals as goal

pub returns-in-1 : goal.returns-in-1
returns-in-1 c =
    let a = c.args in
    total_years (stage_in a.self.now.records) (answer a.exposure) a.self.now.last a.k a.total c.requires.total_value c.in-1.is

pub returns-in-2 : goal.returns-in-2
returns-in-2 c =
    let a = c.args in
    total_days (stage_in a.self.now.records) (answer a.exposure) a.self.now.last a.k a.total c.requires.total_value c.in-2.is c.entry.result c.times.result c.entry.ensures c.times.ensures

pub returns-in-21 : goal.returns-in-21
returns-in-21 c =
    let a = c.args in
    total_exposure (stage_in a.self.now.records) (answer a.exposure) a.self.now.last a.k a.total c.requires.total_value c.in-21.is

pub returns-in_default : goal.returns-in_default
returns-in_default c =
    let a = c.args in
    let stages = a.self.now in
    weighted_mean (stage_in stages.records) (answer a.exposure) stages.last a.k a.total c.requires.total_value (λ z. omega (arith, c.in_default.in_default-own.rest)) (λ z. omega (arith, c.in_default.in_default-own.rest)) (λ z. omega (arith, c.in_default.in_default-own.rest)) c.weighted_sum.result c.over.result
    (c.weighted_sum.ensures ∙ weights_summed stages.records stages.years stages.entered stages.last a.k stages.in_range) c.over.ensures
