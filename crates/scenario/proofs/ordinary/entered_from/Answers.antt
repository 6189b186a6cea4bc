-- Each place is entered from its record. Assumes nothing.
use borrow.Author.Rules.{rules}
use mathlib.Core.Path.{◌≡◌, ap}
use native.Mathlib.Omega.{arith}
use Prim.Native.Nat.{◌<◌}
use lib.ListN.{length, get_or}
use Rattle.cases.specs.declared.Record.{Record}
use Rattle.lists.proofs.ListLaws.{read_any}
use Rattle.sizes.specs.Sizes.{most_receptors}
use Rattle.cases.specs.Cases.{no_record, receptor_at}
use Rattle.scenario.specs.Scenario.{deposition_of, entered, entered_from}
use Rattle.scenario.proofs.Arrays.{made}
use Rattle.scenario.proofs.ordinary.entered_from.Goals as goal

pub returns : goal.returns
unfolding entered_from receptor_at
returns c =
    let case = c.args.case.now in
    ap (λ x. record { count = case.receptors.count; list = x }) (made (λ j. entered (deposition_of case.site) (receptor_at case j)) most_receptors c.from_fn.result c.from_fn.ensures.items.long (λ i e h. let w = c.from_fn.ensures.items.at i e h in let l : i < length case.receptors.records = omega (arith, h) in let any : (b : Record) → get_or case.receptors.records i b ≡ get_or case.receptors.records i no_record = λ b. read_any case.receptors.records i l b no_record in search (rules, any)))
