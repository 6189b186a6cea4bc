-- `deck::records::Fields::records_at` meets its contract. The invariant: the records so far, then empty ones.
-- Assumes nothing.
use native.Mathlib.Omega.{arith}
use mathlib.Core.Path.{ap, ◌∙◌}
use Prim.Native.Nat.{◌+◌, ◌*◌, ◌<◌}
use lib.ListN.{replicate}
use Rattle.sizes.specs.Sizes.{record_lines}
use Rattle.lists.proofs.Tabulated.{filled_start, filled_more}
use Rattle.cases.specs.Cases.{no_record}
use Rattle.deck.specs.DeckCase.{record_of}
use Rattle.deck.proofs.DeckCaseLaws.{records_are}
use Rattle.deck.proofs.records.Fields.records_at.Goals as goal

pub loop-i-init : goal.loop-i-init
loop-i-init g c =
    ap (replicate g.row.N) c.no_record-records.ensures ∙ filled_start (λ j. record_of c.args.self.now.deck.now (c.args.n + record_lines * j) record_lines) no_record g.row.N

pub loop-i-preserved : goal.loop-i-preserved
loop-i-preserved g c =
    let a = c.args in
    let few : c.loop-i.i < g.row.N = omega (arith, c.loop-i-test.true, c.requires) in
    filled_more (λ j. record_of a.self.now.deck.now (a.n + record_lines * j) record_lines) no_record g.row.N c.loop-i.i few _ c.loop-i.invariant _ c.record_at.ensures

pub returns : goal.returns
returns g c = records_are c.args.self.now.deck.now c.args.n c.args.count g.row.N c.loop-i.i _ (omega (arith, c.loop-i.auto.i-end)) c.loop-i-test.false c.loop-i.invariant
