-- A scenario in range: no chemical's media are refused, however fast it is lost, so that the sheet's call stops where documents 01 and 02 say; and
-- where 42 does not hold, every line with a reference value has its pair and its counts, and all counts and totals are small. Assumes nothing.
use mathlib.Core.Path.{◌≡◌, refl, ◌∙◌, ap, subst}
use mathlib.Core.Bool.{Bool, true, false, cond, ◌&&◌, false≢true, true≢false}
use mathlib.Core.List.{List, ◌++◌, append_assoc}
use Prim.Native.Nat.{ℕ, zero, suc, ◌+◌, ◌*◌, ◌/◌, ◌%◌, ◌^◌, ◌≤◌, ◌<◌}
use native.Mathlib.Nat.{mul-le-mul_right}
use native.Mathlib.Omega.{arith}
use lib.Dec.{lit≤}
use Rattle.pair.specs.declared.Pair.{Pair}
use Rattle.pair.specs.declared.Units.{Units}
use Rattle.pair.specs.Number.{is_pair}
use Rattle.pair.specs.Fraction.{minus}
use Rattle.pair.specs.Calls.{Outcome, is, refused, after, in_units}
use Rattle.pair.specs.Promises.{Operation, quotients, products, call}
use Rattle.pair.proofs.Promises.{pair_again}
use Rattle.pair.proofs.Profiles.{Good}
use Rattle.equations.specs.Formula.{Formula, read, pairs}
use Rattle.equations.proofs.Guided.{on_route}
use Rattle.slots.specs.declared.Guidance.{Guidance}
use Rattle.slots.specs.declared.Guidance.TheVariants.{Of2005, Of2009}
use Rattle.equations.specs.declared.Pathway.{Pathway}
use Rattle.equations.specs.declared.Pathway.TheVariants.{Air, SoilSummer, AboveGround, BelowGround}
use Rattle.equations.specs.declared.Effect.{Effect}
use Rattle.equations.specs.declared.Effect.TheVariants.{Hazard, Cancer}
use Rattle.equations.specs.declared.Stay.{Stay}
use Rattle.equations.specs.declared.Stay.TheVariants.{Within}
use Rattle.equations.specs.Page as page
use Rattle.equations.specs.Page.{by_medium}
use Rattle.equations.specs.Readings.{Inputs, worked, inputs, by_owner}
use Rattle.equations.proofs.LineLaws.{of_later, Works, medium_works, ground_works}
use Rattle.slots.specs.Slots.{table, same, is_in, place_in, owner_of, place_of}
use Rattle.media.specs.declared.Media.{Media}
use Rattle.media.specs.declared.Ground.{Ground}
use Rattle.media.specs.Media.{four, media_in, ground_from}
use Rattle.media.proofs.Means.{ground_page, mean_media_lem}
use Rattle.cases.specs.Conditions.{passed}
use Rattle.cases.proofs.CaseConditionLaws.{counts_right}
use Rattle.slots.specs.declared.Sort.TheVariants.{Ordinary}
use Rattle.cases.specs.Conditions.{Condition, first}
use Rattle.std.specs.Prelude.{Some, None}
use Rattle.totals.specs.Totals.{Columns, ◌added◌}
use Rattle.scenario.specs.declared.Scenario.{Scenario}
use Rattle.scenario.specs.Scenario.{is_refused, rest_of, values_of, particles_of, chemical_in, receptor_in, stay_in, guidance_in, given_in, pairs_at, Exact}
use Rattle.sizes.specs.Sizes.{max_chemicals, most_receptors, pathways_per_chemical, most_lines}
use Rattle.sheet.specs.Sheet.{pathway_at, has_reference, figure_at, unit_of, ByRule, counted, counted_in, columns_at, added_over, total_at, high_above, unworked, over_cap, cap_of, line_refused, line_too_large, refused_lines, large_lines, faulty_lines}
use Rattle.lists.specs.Lists.{chained}
use Rattle.sheet.specs.Counts.{miscounted, ground_for, mean_with, mean_for, stops_at, no_media_at, unmade, entered_conditions, Part, Mark, Low, High, cell_of, cells_of, total_in, CountsMost}
use Rattle.scenario.proofs.Sound.{Sound}
use Rattle.lists.proofs.AnyOf.{none_any}
use Rattle.lists.proofs.Booleans.{and-false}
use Rattle.sheet.proofs.FaultLaws.{lines_same}
use Rattle.sheet.proofs.Held.{columns_total}
use Rattle.sheet.proofs.Clear.{not_large, lines_unworked}
use Rattle.sheet.proofs.LineTotals.{Figure, figure_works, figure_counted, pair_counted}

-- ---- the media are told
four_all : (a c f r : Outcome Pair) (p q s t : Pair) → a ≡ is p → c ≡ is q → f ≡ is s → r ≡ is t → (m : Media) × (four a c f r ≡ is m)
unfolding four
four_all a c f r p q s t e₁ e₂ e₃ e₄ =
    (record { air = record { 0 = p }; soil = record { 0 = q }; above_ground = record { 0 = s }; below_ground = record { 0 = t } }, rw (e₁, e₂, e₃, e₄) refl)

ground_all : (l b : Outcome Pair) (m n : Outcome Media) (p q : Pair) (s t : Media) → l ≡ is p → b ≡ is q → m ≡ is s → n ≡ is t → is_refused (ground_from l b m n) ≡ false
unfolding ground_from is_refused
ground_all l b m n p q s t e₁ e₂ e₃ e₄ = rw (e₁, e₂, e₃, e₄) refl

told_not : {A : Type 0} (o : Outcome A) (y : A) → o ≡ is y → is_refused o ≡ false
unfolding is_refused
told_not o y e = rw e refl

module _ (scenario : Scenario) {exact : Exact} (sound : Sound scenario exact) (j i : ℕ) (j-small : j < scenario.receptors.count) (i-small : i < scenario.chemicals.count) where
  env : Inputs Pair
  env = pairs_at scenario j i

  -- the page's media are told, whatever the exposure is against the deposition
  media_told : (stay : Stay) → ((of_later stay).answered ≡ true → Good (of_later stay) (is env.later) (minus (exact j i "T2") (exact j i "tD"))) → (e : Effect) → (m : Media) × (media_in env (page.soil e stay) ≡ is m)
  unfolding env media_in page.medium by_medium
  media_told stay later e =
      let w : (p : Pathway) → (r : Pair) × Works stay env (exact j i) (page.medium e stay p) r = medium_works stay env (exact j i) (sound.inputs j i j-small i-small) later e in
      four_all _ _ _ _ (w Air).0 (w SoilSummer).0 (w AboveGround).0 (w BelowGround).0 (w Air).1.told (w SoilSummer).1.told (w AboveGround).1.told (w BelowGround).1.told

  never_later : (of_later Within).answered ≡ true → Good (of_later Within) (is env.later) (minus (exact j i "T2") (exact j i "tD"))
  unfolding of_later
  never_later h = absurd (false≢true h)

  ground_told : is_refused (ground_for scenario i) ≡ false
  unfolding env pairs_at ground_for particles_of given_in by_owner owner_of place_of table same is_in place_in page.C page.soil page.mean
  ground_told =
      let g = ground_works Within env (exact j i) (sound.inputs j i j-small i-small) never_later in
      let m : (e : Effect) → (m : Media) × (media_in env (page.soil e Within) ≡ is m) = media_told Within never_later in
      ap is_refused (ground_page (values_of scenario.site) (values_of (chemical_in scenario i)) (receptor_in scenario j).values (λ s. rest_of (given_in scenario i s)) (receptor_in scenario j).later)
      ∙ ground_all _ _ _ _ g.0.0 g.1.0 (m Hazard).0 (m Cancer).0 g.0.1.told g.1.1.told (m Hazard).1 (m Cancer).1

  mean_told : (the_ground : Ground) → ground_for scenario i ≡ is the_ground → is_refused (mean_for scenario i j the_ground) ≡ false
  unfolding env pairs_at mean_for mean_with stay_in ground_for particles_of given_in inputs by_owner owner_of place_of table same is_in place_in page.soil
  mean_told the_ground laid =
      ap is_refused (mean_media_lem (values_of scenario.site) (values_of (chemical_in scenario i)) (receptor_in scenario j).values (λ s. rest_of (given_in scenario i s)) (receptor_in scenario j).later the_ground laid (receptor_in scenario j).stay)
      ∙ told_not _ _ (media_told (receptor_in scenario j).stay (sound.later j i j-small i-small) Cancer).1

never_stops : (o : Outcome Ground) (means : ℕ → Ground → Outcome Media) (n : ℕ) → is_refused o ≡ false → ((the_ground : Ground) → o ≡ is the_ground → (j : ℕ) → j < n → is_refused (means j the_ground) ≡ false)
    → stops_at o means n ≡ false
unfolding stops_at is_refused
never_stops (is the_ground) means n h g = none_any (λ j. is_refused (means j the_ground)) n (g the_ground refl)
never_stops (refused k) means n h g = h

-- no chemical's media are refused, those of a receptor's cancer among them
pub none_refused : (scenario : Scenario) {exact : Exact} → Sound scenario exact → (i : ℕ) → i < scenario.chemicals.count
    → stops_at (ground_for scenario i) (mean_for scenario i) scenario.receptors.count ≡ false
none_refused scenario sound i h =
    never_stops (ground_for scenario i) (mean_for scenario i) scenario.receptors.count (ground_told scenario sound 0 i sound.some_receptors h)
    (λ the_ground laid j l. mean_told scenario sound j i l h the_ground laid)

pub few_records : (scenario : Scenario) {exact : Exact} → Sound scenario exact → miscounted scenario ≡ false
unfolding miscounted
few_records scenario sound = counts_right Ordinary _ _ sound.some_chemicals sound.few_chemicals sound.some_receptors sound.few_receptors

-- the sheet's call stops where document 01 says
none_first : (f : ℕ → List Condition) (n : ℕ) (rest : List Condition) → ((i : ℕ) → i < n → (r : List Condition) → first (f i ++ r) ≡ first r) → first (chained f n ++ rest) ≡ first rest
unfolding chained
none_first f zero rest h = refl
none_first f (suc n) rest h = ap first (append_assoc (chained f n) (f n) rest) ∙ none_first f n (f n ++ rest) (λ i l. h i (omega arith)) ∙ h n (omega arith) rest

-- no line's figure is refused
pub never_broken : (scenario : Scenario) {exact : Exact} → Sound scenario exact → (e : Effect) (j i : ℕ) (w : Pathway) → j < scenario.receptors.count → i < scenario.chemicals.count → unworked e scenario j i w ≡ false
unfolding unworked figure_at is_refused
never_broken scenario sound e j i w a b = rw (figure_works scenario sound j i a b e w).1.told (and-false (has_reference e scenario i w))

lines_unbroken : (scenario : Scenario) {exact : Exact} → Sound scenario exact → first (faulty_lines scenario) ≡ first (large_lines scenario)
unfolding faulty_lines large_lines line_refused first
lines_unbroken scenario sound =
    lines_same scenario _ (line_too_large scenario)
    (λ j i p a b c. rw (never_broken scenario sound Hazard j i (pathway_at p) a b, never_broken scenario sound Cancer j i (pathway_at p) a b) refl)

pub conditions_agree : (scenario : Scenario) {exact : Exact} → Sound scenario exact → first (entered_conditions scenario) ≡ first (large_lines scenario)
unfolding entered_conditions unmade no_media_at first
conditions_agree scenario sound =
    rw (few_records scenario sound, sound.guided, sound.whole)
    (none_first (no_media_at scenario) scenario.chemicals.count (faulty_lines scenario) (λ i h r. rw (sound.wholes i h, none_refused scenario sound i h) refl) ∙ lines_unbroken scenario sound)

-- ---- a line with its reference value
columns_counted : (t : Bool) (e : Effect) (o : Outcome Pair) (p : Pair) (u : Units) → t ≡ true → o ≡ is p → in_units p (unit_of e) ≡ is u →
    cond t (counted_in (unit_of e) o) None ≡ Some u
unfolding counted_in counted
columns_counted t e o p u h r k = rw (h, r, k) refl

capped : (t : Bool) (b : Bool) → t ≡ true → (t && b) ≡ false → b ≡ false
capped t b h e = rw h at e

most_if : (t : Bool) (e : Effect) (o : Outcome Pair) → (t ≡ true → CountsMost (10 ^ 16) (counted_in (unit_of e) o)) → CountsMost (10 ^ 16) (cond t (counted_in (unit_of e) o) None)
unfolding CountsMost
most_if true e o h = h refl
most_if false e o h = tt

-- columns added
most_added : (m n : ℕ) (u v : Columns) → CountsMost m u → CountsMost n v → CountsMost (m + n) (u added v)
unfolding CountsMost ◌added◌
most_added m n None None h k = tt
most_added m n None (Some x) h k = (omega arith, omega arith)
most_added m n (Some x) None h k = (omega arith, omega arith)
most_added m n (Some x) (Some y) h k = (omega arith, omega arith)

most_over : (m : ℕ) (f : ℕ → Columns) (n : ℕ) → ((k : ℕ) → k < n → CountsMost m (f k)) → CountsMost (n * m) (added_over f n)
unfolding added_over CountsMost
most_over m f zero h = tt
most_over m f (suc n) h =
    let e : n * m + m ≡ suc n * m = omega arith in
    subst (λ (k : ℕ). CountsMost k (added_over f n added f n)) e (most_added (n * m) m (added_over f n) (f n) (most_over m f n (λ k l. h k (omega arith))) (h n (omega arith)))

cell_most : (u : Columns) (w : Part) → CountsMost (10 ^ 16) u → cell_of w u ≤ 10 ^ 16
unfolding CountsMost cell_of
cell_most None w h = lit≤ tt
cell_most (Some x) Mark h = lit≤ tt
cell_most (Some x) Low h = h.0
cell_most (Some x) High h = h.1

most_more : (m n : ℕ) (u : Columns) → m ≤ n → CountsMost m u → CountsMost n u
unfolding CountsMost
most_more m n None l h = tt
most_more m n (Some x) l h = (omega arith, omega arith)

module _ (scenario : Scenario) {exact : Exact} (sound : Sound scenario exact) (small : first (large_lines scenario) ≡ passed) where
  module _ (e : Effect) (j i p : ℕ) (j-small : j < scenario.receptors.count) (i-small : i < scenario.chemicals.count) (p_small : p < pathways_per_chemical) where
    figure : has_reference e scenario i (pathway_at p) ≡ true → Figure scenario exact j i e (pathway_at p)
    unfolding over_cap
    figure h =
        figure_counted scenario sound j i j-small i-small e (pathway_at p)
        (capped (has_reference e scenario i (pathway_at p)) (high_above (cap_of e) (figure_at e scenario j i (pathway_at p))) h (not_large scenario small e j i p j-small i-small p_small))

    pub line_by_rule : has_reference e scenario i (pathway_at p) ≡ true → ByRule e scenario j i (pathway_at p)
    unfolding figure_at columns_at
    line_by_rule h =
        let f = figure h in
        record {
          pair = f.pair;
          rule = f.works.told;
          proper = f.works.pair;
          units = f.units;
          counted = f.told;
          columns = columns_counted (has_reference e scenario i (pathway_at p)) e (figure_at e scenario j i (pathway_at p)) f.pair f.units h f.works.told f.told;
        }

-- ---- a scenario of which no line with a reference value is refused
pub record Figured (scenario : Scenario) : Type 0 where
  pub few_chemicals : scenario.chemicals.count ≤ max_chemicals
  pub few_receptors : scenario.receptors.count ≤ most_receptors
  pub told : (e : Effect) (j i p : ℕ) → j < scenario.receptors.count → i < scenario.chemicals.count → p < pathways_per_chemical → has_reference e scenario i (pathway_at p) ≡ true
      → (r : Pair) × (figure_at e scenario j i (pathway_at p) ≡ is r) × (is_pair r ≡ true)

-- a sound one, and one of which 53 holds of no line
pub sound_figured : (scenario : Scenario) {exact : Exact} → Sound scenario exact → Figured scenario
unfolding figure_at
sound_figured scenario sound =
    record {
      few_chemicals = sound.few_chemicals;
      few_receptors = sound.few_receptors;
      told = λ e j i p a b c h. let f = figure_works scenario sound j i a b e (pathway_at p) in (f.0, f.1.told, f.1.pair);
    }

-- what a line's last operation tells is a pair
after_pair : (o : Operation) (x y : Outcome Pair) (r : Pair) → after (call o) x y ≡ is r → is_pair r ≡ true
unfolding after
after_pair o (is p) (is q) r e = pair_again o p q r e
after_pair o (is p) (refused n) r e = absurd (let z : ◌≡◌ {A = ℕ} 0 1 = cc in omega arith)
after_pair o (refused n) y r e = absurd (let z : ◌≡◌ {A = ℕ} 0 1 = cc in omega arith)

ends_pair : Formula → Type 0
ends_pair f = (env : Inputs Pair) (r : Pair) → worked env f ≡ is r → is_pair r ≡ true

intake_pair : (e : Effect) (stay : Stay) (p : Pathway) → ends_pair (page.intake_line e stay p)
unfolding ends_pair worked read pairs call page.intake_line page.figure_by
intake_pair Hazard stay p env r e = after_pair quotients _ _ r e
intake_pair Cancer stay p env r e = after_pair products _ _ r e

air_pair : (e : Effect) → ends_pair (page.air_line e)
unfolding ends_pair worked read pairs call page.air_line page.air_figure_by
air_pair Hazard env r e = after_pair quotients _ _ r e
air_pair Cancer env r e = after_pair products _ _ r e

line_pair : (y : Guidance) (e : Effect) (stay : Stay) (p : Pathway) → ends_pair (page.line y e stay p)
unfolding page.line page.by_guidance
line_pair Of2005 e stay p = intake_pair e stay p
line_pair Of2009 e stay p = on_route (λ (f : Formula). ends_pair f) p (page.air_line e) (page.intake_line e stay p) (air_pair e) (intake_pair e stay p)

not_broken : (t : Bool) (o : Outcome Pair) → t ≡ true → (t && is_refused o) ≡ false → (r : Pair) × (o ≡ is r)
unfolding is_refused
not_broken true (is r) h e = (r, refl)
not_broken true (refused n) h e = absurd (true≢false e)
not_broken false o h e = absurd (false≢true h)

figure_told : (scenario : Scenario) (e : Effect) (j i p : ℕ) → has_reference e scenario i (pathway_at p) ≡ true → unworked e scenario j i (pathway_at p) ≡ false → (r : Pair) × (figure_at e scenario j i (pathway_at p) ≡ is r)
unfolding unworked
figure_told scenario e j i p h u = not_broken (has_reference e scenario i (pathway_at p)) (figure_at e scenario j i (pathway_at p)) h u

figure_pair : (scenario : Scenario) (e : Effect) (j i p : ℕ) (r : Pair) → figure_at e scenario j i (pathway_at p) ≡ is r → is_pair r ≡ true
unfolding figure_at ends_pair
figure_pair scenario e j i p r h = line_pair (guidance_in scenario) e (stay_in scenario j) (pathway_at p) (pairs_at scenario j i) r h

pub lines_figured : (scenario : Scenario) → scenario.chemicals.count ≤ max_chemicals → scenario.receptors.count ≤ most_receptors → first (refused_lines scenario) ≡ passed → Figured scenario
lines_figured scenario few_chemicals few_receptors none =
    record { few_chemicals = few_chemicals; few_receptors = few_receptors; told = λ e j i p a b c h. told e j i p a b c h }
  where
    unbroken : (e : Effect) (j i p : ℕ) → j < scenario.receptors.count → i < scenario.chemicals.count → p < pathways_per_chemical → unworked e scenario j i (pathway_at p) ≡ false
    unbroken e j i p a b c = lines_unworked scenario none e j i p a b c

    told : (e : Effect) (j i p : ℕ) → j < scenario.receptors.count → i < scenario.chemicals.count → p < pathways_per_chemical → has_reference e scenario i (pathway_at p) ≡ true
        → (r : Pair) × (figure_at e scenario j i (pathway_at p) ≡ is r) × (is_pair r ≡ true)
    told e j i p a b c h =
        let f = figure_told scenario e j i p h (unbroken e j i p a b c) in
        (f.0, f.1, figure_pair scenario e j i p f.0 f.1)

-- ---- where no line is refused and none too large, all counts and totals are small
module _ (scenario : Scenario) (figured : Figured scenario) (small : first (large_lines scenario) ≡ passed) where
  module _ (e : Effect) (j i p : ℕ) (j-small : j < scenario.receptors.count) (i-small : i < scenario.chemicals.count) (p_small : p < pathways_per_chemical) where
    pub columns_small : CountsMost (10 ^ 16) (columns_at e scenario j i (pathway_at p))
    unfolding columns_at counted_in counted CountsMost over_cap
    columns_small =
        most_if (has_reference e scenario i (pathway_at p)) e (figure_at e scenario j i (pathway_at p))
        (λ h.
        let f = figured.told e j i p j-small i-small p_small h in
        let c = capped (has_reference e scenario i (pathway_at p)) (high_above (cap_of e) (figure_at e scenario j i (pathway_at p))) h (not_large scenario small e j i p j-small i-small p_small) in
        let n = pair_counted e f.0 f.2 (subst (λ (o : Outcome Pair). high_above (cap_of e) o ≡ false) f.1 c) in
        rw (f.1, n.told) n.small)

    -- and a line with its reference value has counts, never -
    pub never_dash : has_reference e scenario i (pathway_at p) ≡ true → (u : Units) × (columns_at e scenario j i (pathway_at p) ≡ Some u)
    unfolding columns_at over_cap
    never_dash h =
        let f = figured.told e j i p j-small i-small p_small h in
        let c = capped (has_reference e scenario i (pathway_at p)) (high_above (cap_of e) (figure_at e scenario j i (pathway_at p))) h (not_large scenario small e j i p j-small i-small p_small) in
        let n = pair_counted e f.0 f.2 (subst (λ (o : Outcome Pair). high_above (cap_of e) o ≡ false) f.1 c) in
        (n.units, columns_counted (has_reference e scenario i (pathway_at p)) e (figure_at e scenario j i (pathway_at p)) f.0 n.units h f.1 n.told)

  pub total_small : (e : Effect) (j : ℕ) → j < scenario.receptors.count → CountsMost (most_lines * 10 ^ 16) (total_at e scenario j)
  unfolding total_at
  total_small e j h =
      most_more (scenario.chemicals.count * (pathways_per_chemical * 10 ^ 16)) (most_lines * 10 ^ 16) (total_at e scenario j) (omega (arith, mul-le-mul_right (pathways_per_chemical * 10 ^ 16) figured.few_chemicals))
      (most_over (pathways_per_chemical * 10 ^ 16) (λ i. added_over (λ p. columns_at e scenario j i (pathway_at p)) pathways_per_chemical) scenario.chemicals.count
      (λ i l. most_over (10 ^ 16) (λ p. columns_at e scenario j i (pathway_at p)) pathways_per_chemical (λ p k. columns_small e j i p h l k)))

  -- a total read from the cells is the receptor's total
  pub total_held : (j : ℕ) → j < scenario.receptors.count → (e : Effect) → total_in (cells_of scenario) j e (scenario.chemicals.count * pathways_per_chemical) ≡ total_at e scenario j
  total_held j h e =
      columns_total scenario figured.few_chemicals figured.few_receptors j h e
      (λ q l w. cell_most (columns_at e scenario j (q / pathways_per_chemical) (pathway_at (q % pathways_per_chemical))) w (columns_small e j (q / pathways_per_chemical) (q % pathways_per_chemical) h (omega arith) (omega arith)))
