-- Where 42 does not hold no line with a reference value is above its cap, and where 53 does not none is refused. Assumes nothing.
use mathlib.Core.Path.{◌≡◌}
use mathlib.Core.Bool.{Bool, false, ◌||◌}
use mathlib.Core.List.{[]}
use Prim.Native.Nat.{ℕ, suc, ◌+◌, ◌*◌, ◌<◌}
use Rattle.equations.specs.declared.Effect.{Effect}
use Rattle.equations.specs.declared.Effect.TheVariants.{Hazard, Cancer}
use Rattle.cases.specs.Conditions.{passed}
use Rattle.cases.specs.Conditions.{at, first}
use Rattle.cases.proofs.FirstMet.{first_read, chained_each}
use Rattle.lists.proofs.Booleans.{neither}
use Rattle.scenario.specs.declared.Scenario.{Scenario}
use Rattle.sheet.specs.Sheet.{pathway_at, lines_per_receptor, unworked, over_cap, report_line, line_refused, line_too_large, over_lines, refused_lines, large_lines}
use Rattle.sizes.specs.Sizes.{pathways_per_chemical}
use Rattle.lists.specs.Lists.{chained}

either : (e : Effect) (f : Effect → Bool) → (f Hazard || f Cancer) ≡ false → f e ≡ false
either Hazard f h = (neither (f Hazard) (f Cancer) h).0
either Cancer f h = (neither (f Hazard) (f Cancer) h).1

-- 42 does not hold
pub not_large : (scenario : Scenario) → first (large_lines scenario) ≡ passed → (e : Effect) (j i p : ℕ) → j < scenario.receptors.count → i < scenario.chemicals.count → p < pathways_per_chemical → over_cap e scenario j i (pathway_at p) ≡ false
unfolding large_lines over_lines line_too_large report_line
not_large scenario none e j i p a b c =
    let r = chained_each (λ j. chained (λ i. chained (line_too_large scenario j i) pathways_per_chemical) scenario.chemicals.count) scenario.receptors.count none j a in
    let s = chained_each (λ i. chained (line_too_large scenario j i) pathways_per_chemical) scenario.chemicals.count r i b in
    let t = chained_each (line_too_large scenario j i) pathways_per_chemical s p c in
    either e (λ d. over_cap d scenario j i (pathway_at p)) (first_read (at 42 (j * lines_per_receptor scenario + i * pathways_per_chemical + suc p) 0 (over_cap Hazard scenario j i (pathway_at p) || over_cap Cancer scenario j i (pathway_at p))) [] t).0

-- 53 does not hold of a line
pub lines_unworked : (scenario : Scenario) → first (refused_lines scenario) ≡ passed → (e : Effect) (j i p : ℕ) → j < scenario.receptors.count → i < scenario.chemicals.count → p < pathways_per_chemical → unworked e scenario j i (pathway_at p) ≡ false
unfolding refused_lines over_lines line_refused
lines_unworked scenario none e j i p a b c =
    let r = chained_each (λ j. chained (λ i. chained (line_refused scenario j i) pathways_per_chemical) scenario.chemicals.count) scenario.receptors.count none j a in
    let s = chained_each (λ i. chained (line_refused scenario j i) pathways_per_chemical) scenario.chemicals.count r i b in
    let t = chained_each (line_refused scenario j i) pathways_per_chemical s p c in
    either e (λ d. unworked d scenario j i (pathway_at p)) (first_read (at 53 (report_line scenario j i p) 0 (unworked Hazard scenario j i (pathway_at p) || unworked Cancer scenario j i (pathway_at p))) [] t).0
