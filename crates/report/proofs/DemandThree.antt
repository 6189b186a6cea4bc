-- Demand 3 of document 01, for every accepted deck of any call whose scenarios are sound. Assumes nothing.
use Rattle.cases.specs.declared.Case.{Case}
use Rattle.sheet.proofs.SheetDemandThree.{scenario_demand_3}
use Rattle.report.specs.Forms.{Call, scenario_of}
use Rattle.report.specs.Report.{ordinary}
use Rattle.report.specs.DemandTwo.{Entered}
use Rattle.report.specs.DemandThree.{Demand3}
use Rattle.report.proofs.DemandTwo.{Sounds, clear, ordinary_sounds}

pub demand_3_of : (call : Call) (Made : Case → Type 0) → Sounds call Made → Demand3 call
unfolding Demand3
demand_3_of call Made sounds deck a =
    let none = clear call deck a.room a.none in
    scenario_demand_3 (scenario_of call deck) (sounds.sound deck none.0) none.1

pub demand_3 : Demand3 ordinary
demand_3 = demand_3_of ordinary Entered ordinary_sounds
