-- The slots are asked one by one, each with its place. Assumes nothing.
use mathlib.Core.Path.{◌≡◌, ◌∙◌}
use Prim.Native.Nat.{ℕ}
use native.Mathlib.Omega.{arith}
use lib.ListN.{length}
use Rattle.std.proofs.Common.{rules, tests}
use Rattle.std.proofs.lemmas.Iterator.{YieldsList-from_slice}
use Rattle.std.proofs.lemmas.Iterator.Consumers.{YieldsList-from_enumerate}
use Rattle.std.proofs.lemmas.Iterator.Search.{any_from_yields_List}
use Rattle.lists.proofs.AnyList.{any_enumerated}
use Rattle.sizes.specs.Sizes.{slots_per_record}
use Rattle.slots.specs.Slots.{rule_at}
use Rattle.cases.specs.Cases.{value_at}
use Rattle.cases.specs.CaseConditions.{is_missing, lacks}
use Rattle.cases.specs.declared.Value.{Value}
use Rattle.cases.specs.declared.Value.TheVariants.{Absent}
use Rattle.cases.proofs.memory.lacks.Goals as goal

pub returns : goal.returns
unfolding lacks value_at
returns c =
    let long : length c.args.r.now.slots ≡ slots_per_record = omega arith in
    any_from_yields_List (λ (p : ℕ × Value). is_missing (rule_at c.args.sort c.args.owner p.0) p.1) _ _ _ c.any.ensures.ran
    (YieldsList-from_enumerate (YieldsList-from_slice c.args.r.now.slots cc) (cc)) (λ x b q k. search (rules, tests))
    ∙ rw long at (any_enumerated Absent (λ n v. is_missing (rule_at c.args.sort c.args.owner n) v) c.args.r.now.slots)
