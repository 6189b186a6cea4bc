-- The closures read the ids by place. Assumes nothing.
use native.Mathlib.Omega.{arith}
use mathlib.Core.Path.{sym, ◌∙◌}
use borrow.Author.Tests.{le-ltb, ne_eqb}
use Rattle.std.proofs.lemmas.Grind.{common_steps}
use Rattle.cases.specs.CaseConditions.{most_id, outside, chemical_ids, receptor_ids}
use Rattle.cases.proofs.memory.some_id_wrong.Goals as goal

pub returns-then-ids_wrong : goal.returns-then-ids_wrong
unfolding outside chemical_ids
returns-then-ids_wrong c =
    let told = c.ids_wrong.ensures (chemical_ids c.args.chemicals.now) (λ i id h p. grind (arith, common_steps)) in
    rw (ne_eqb _ 0 c.if-site-eq0.false, le-ltb most_id _ c.if-site-gt-MOST_ID.false, sym told ∙ c.if-ids_wrong.true) c.if-ids_wrong.true

pub returns-else-ids_wrong : goal.returns-else-ids_wrong
unfolding outside chemical_ids receptor_ids
returns-else-ids_wrong c =
    let told = c.ids_wrong.ensures (chemical_ids c.args.chemicals.now) (λ i id h p. grind (arith, common_steps)) in
    let told' = c.ids_wrong-else-ids_wrong.ensures (receptor_ids c.args.receptors.now) (λ i id h p. grind (arith, common_steps)) in
    rw (ne_eqb _ 0 c.if-site-eq0.false, le-ltb most_id _ c.if-site-gt-MOST_ID.false, sym told ∙ c.if-ids_wrong.false) told'
