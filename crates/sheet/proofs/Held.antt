-- What the cells of a scenario hold, read back: a line's columns are those of the line, and a total of lines that the totals call does not
-- refuse is the receptor's total. Assumes nothing.
use Rattle.std.specs.Prelude.{Ok, Err}
use mathlib.Core.Path.{◌≡◌, refl, sym, ap, ◌∙◌}
use mathlib.Core.Bool.{Bool, true}
use mathlib.Core.List.{List, [], ◌∷◌, ◌++◌, map, map-append}
use Prim.Native.Nat.{ℕ, zero, suc, ◌+◌, ◌*◌, ◌/◌, ◌%◌, ◌^◌, ◌≤◌, ◌<◌}
use native.Mathlib.Nat.{zero-add, add_assoc}
use native.Mathlib.Omega.{arith}
use borrow.Author.Tests.{lt-ltb, le-leb, eq-eqb, ne_eqb}
use lib.Dec.{eqb, leb, lit<}
use lib.ListN.{length, get_or, take, drop, length-map, length-drop}
use lib.Seq.{get_or-drop, take-suc}
use Rattle.sizes.specs.Sizes.{max_chemicals, most_lines, most_receptors, pathways_per_chemical}
use Rattle.pair.specs.Calls.{is}
use Rattle.equations.specs.declared.Effect.{Effect}
use Rattle.equations.specs.declared.Effect.TheVariants.{Hazard, Cancer}
use Rattle.cases.specs.Conditions.{Status}
use Rattle.cases.specs.Conditions.{passed, stopped}
use Rattle.lists.proofs.Booleans.{both}
use Rattle.lists.proofs.Tabulated.{tabulated, length_tabulate}
use Rattle.std.specs.Prelude.{Some, None}
use Rattle.totals.specs.Totals.{Columns, ◌added◌, total_of, list_sum, all_at_most}
use Rattle.scenario.specs.declared.Scenario.{Scenario}
use Rattle.lists.specs.Lists.{chained}
use Rattle.sheet.specs.Sheet.{pathway_at, columns_at, added_over, total_at}
use Rattle.sheet.specs.Counts.{Part, Mark, Low, High, cell_of, effect_at, part_at, line_columns, cell_at, cells_of, no_cells, cells_for, status_by, cells_by, columns_from, side_of, is_held, columns_found, columns_in, totalled_from, total_found, total_in, all_cells, effect_cells, receptor_cells}
use Rattle.sheet.specs.Inner.{part_of, CellsHold}
use Rattle.lists.proofs.Chained.{chained_length, flat}
use Rattle.sheet.proofs.CellLaws.{side_small, part_small}

-- ---- columns added up
added_absent : (u : Columns) → u added None ≡ u
unfolding ◌added◌
added_absent None = refl
added_absent (Some n) = refl

added_assoc : (u v w : Columns) → u added v added w ≡ u added (v added w)
unfolding ◌added◌
added_assoc None v w = refl
added_assoc (Some x) None w = refl
added_assoc (Some x) (Some y) None = refl
added_assoc (Some x) (Some y) (Some z) = rw (add_assoc x.low y.low z.low, add_assoc x.high y.high z.high) refl

summed : List Columns → Columns
summed [] = None
summed (u ∷ list) = u added summed list

summed_append : (a b : List Columns) → summed (a ++ b) ≡ summed a added summed b
unfolding summed ◌added◌
summed_append [] b = refl
summed_append (u ∷ a) b = ap (λ (v : Columns). u added v) (summed_append a b) ∙ sym (added_assoc u (summed a) (summed b))

-- one after another
summed_chained : (f : ℕ → List Columns) (g : ℕ → Columns) → ((k : ℕ) → summed (f k) ≡ g k) → (n : ℕ) → summed (chained f n) ≡ added_over g n
unfolding chained added_over summed
summed_chained f g h zero = refl
summed_chained f g h (suc n) = rw (summed_append (chained f n) (f n), summed_chained f g h n, h n) refl

-- by chemical and pathway, or in one loop
summed_flat : (f : ℕ → ℕ → Columns) (n : ℕ) → summed (chained (λ q. f (q / pathways_per_chemical) (q % pathways_per_chemical) ∷ []) (n * pathways_per_chemical)) ≡ added_over (λ i. added_over (f i) pathways_per_chemical) n
unfolding summed
summed_flat f n =
    ap summed (sym (flat pathways_per_chemical (lit< tt) (λ i p. f i p ∷ []) n))
    ∙ summed_chained (λ i. chained (λ p. f i p ∷ []) pathways_per_chemical) (λ i. added_over (f i) pathways_per_chemical) (λ i. summed_chained (λ p. f i p ∷ []) (f i) (λ p. added_absent (f i p)) pathways_per_chemical) n

-- its counts are the sums of the columns
counts_added : (u v : Columns) → (cell_of Low (u added v) ≡ cell_of Low u + cell_of Low v) × (cell_of High (u added v) ≡ cell_of High u + cell_of High v)
unfolding cell_of ◌added◌
counts_added None v = (omega arith, omega arith)
counts_added (Some x) None = (omega arith, omega arith)
counts_added (Some x) (Some y) = (refl, refl)

cells_summed : (w : Part) → ((u v : Columns) → cell_of w (u added v) ≡ cell_of w u + cell_of w v) → (list : List Columns) → list_sum (map (cell_of w) list) ≡ cell_of w (summed list)
unfolding summed list_sum cell_of
cells_summed w more [] = refl
cells_summed w more (u ∷ list) = rw (cells_summed w more list, more u (summed list)) refl

-- it is - where no line has counts
marked : (u v : Columns) (lines : ℕ) → eqb lines 0 ≡ eqb (cell_of Mark v) 0 → eqb (cell_of Mark u + lines) 0 ≡ eqb (cell_of Mark (u added v)) 0
unfolding ◌added◌ cell_of
marked None v lines h = rw (zero-add lines) h
marked (Some x) None lines h = ne_eqb (1 + lines) 0 (λ z. omega arith)
marked (Some x) (Some y) lines h = ne_eqb (1 + lines) 0 (λ z. omega arith)

marks_summed : (list : List Columns) → eqb (list_sum (map (cell_of Mark) list)) 0 ≡ eqb (cell_of Mark (summed list)) 0
unfolding summed list_sum cell_of
marks_summed [] = refl
marks_summed (u ∷ list) = marked u (summed list) (list_sum (map (cell_of Mark) list)) (marks_summed list)

-- two columns read back
again : (u : Columns) → columns_from (cell_of Mark u) (cell_of Low u) (cell_of High u) ≡ u
unfolding columns_from cell_of
again None = refl
again (Some x) = refl

-- ---- lists that the totals call does not refuse
all_append : (most : ℕ) (a b : List ℕ) → all_at_most most a ≡ true → all_at_most most b ≡ true → all_at_most most (a ++ b) ≡ true
unfolding all_at_most
all_append most [] b h k = k
all_append most (n ∷ a) b h k = let l = both (leb n most) (all_at_most most a) h in rw l.0 (all_append most a b l.1 k)

total_is : (list : List ℕ) → length list ≤ most_lines → all_at_most (10 ^ 16) list ≡ true → total_of list ≡ is (list_sum list)
unfolding total_of
total_is list short small = rw (le-leb (length list) most_lines short, small) refl

-- n lines' columns, each count at most 1E+16
module _ (columns : ℕ → Columns) (n : ℕ) (short : n ≤ most_lines) (small : (q : ℕ) → q < n → (w : Part) → cell_of w (columns q) ≤ 10 ^ 16) where
  listed : ℕ → List Columns
  listed = chained (λ q. columns q ∷ [])

  parts_small : (w : Part) (m : ℕ) → m ≤ n → all_at_most (10 ^ 16) (map (cell_of w) (listed m)) ≡ true
  unfolding listed chained all_at_most
  parts_small w zero h = refl
  parts_small w (suc m) h =
      rw (map-append (cell_of w) (listed m) (columns m ∷ []))
      (all_append (10 ^ 16) (map (cell_of w) (listed m)) (cell_of w (columns m) ∷ []) (parts_small w m (omega arith)) (rw (le-leb (cell_of w (columns m)) (10 ^ 16) (small m (omega arith) w)) refl))

  part_total : (w : Part) → total_of (map (cell_of w) (listed n)) ≡ is (list_sum (map (cell_of w) (listed n)))
  unfolding listed
  part_total w =
      total_is (map (cell_of w) (listed n))
      (omega (arith, length-map (listed n) (cell_of w), chained_length (λ q. columns q ∷ []) n 1 (λ q. refl)))
      (parts_small w n (omega arith))

  total_summed : totalled_from (total_of (map (cell_of Mark) (listed n))) (total_of (map (cell_of Low) (listed n))) (total_of (map (cell_of High) (listed n))) ≡ summed (listed n)
  unfolding totalled_from columns_from
  total_summed =
      rw (
        part_total Mark,
        part_total Low,
        part_total High,
        marks_summed (listed n),
        cells_summed Low (λ u v. (counts_added u v).0) (listed n),
        cells_summed High (λ u v. (counts_added u v).1) (listed n),
      )
      (again (summed (listed n)))

-- ---- a column of cells
column_held : (columns : ℕ → Columns) (w : Part) (cells : List ℕ) (at n : ℕ) → at + n ≤ length cells → ((q : ℕ) → q < n → get_or cells (at + q) 0 ≡ cell_of w (columns q))
    → take n (drop at cells) ≡ map (cell_of w) (chained (λ q. columns q ∷ []) n)
unfolding chained
column_held columns w cells at zero fits h = refl
column_held columns w cells at (suc n) fits h =
    let room : n < length (drop at cells) = simp length-drop (omega arith) in
    take-suc (drop at cells) n 0 room
    ∙ ap (λ (x : ℕ). take n (drop at cells) ++ (x ∷ [])) (get_or-drop at cells n 0 ∙ h n (omega arith))
    ∙ ap (λ (l : List ℕ). l ++ (cell_of w (columns n) ∷ [])) (column_held columns w cells at n (omega arith) (λ q l. h q (omega arith)))
    ∙ sym (map-append (cell_of w) (chained (λ q. columns q ∷ []) n) (columns n ∷ []))

-- ---- the cells of a line
column_at_lem : (e : Effect) (w : Part) → (effect_at (3 * side_of e + part_of w) ≡ e) × (part_at (3 * side_of e + part_of w) ≡ w)
unfolding side_of part_of effect_at part_at
column_at_lem Hazard Mark = (refl, refl)
column_at_lem Hazard Low = (refl, refl)
column_at_lem Hazard High = (refl, refl)
column_at_lem Cancer Mark = (refl, refl)
column_at_lem Cancer Low = (refl, refl)
column_at_lem Cancer High = (refl, refl)

module _ (scenario : Scenario) (few_chemicals : scenario.chemicals.count ≤ max_chemicals) (few_receptors : scenario.receptors.count ≤ most_receptors) (j : ℕ) (here : j < scenario.receptors.count) where
  cells_held : CellsHold (λ q e. columns_at e scenario j (q / pathways_per_chemical) (pathway_at (q % pathways_per_chemical))) (scenario.chemicals.count * pathways_per_chemical) (cells_of scenario) (receptor_cells * j)
  unfolding cells_of cell_at line_columns
  cells_held e w q h =
      let k : ℕ = receptor_cells * j + effect_cells * side_of e + most_lines * part_of w + q in
      let s : side_of e < 2 = side_small e in
      let p : part_of w < 3 = part_small w in
      let a : k / receptor_cells ≡ j = omega arith in
      let b : k % most_lines ≡ q = omega arith in
      let c : k % receptor_cells / most_lines ≡ 3 * side_of e + part_of w = omega arith in
      tabulated (cell_at scenario) 0 all_cells k (omega arith)
      ∙ rw (a, b, c, (column_at_lem e w).0, (column_at_lem e w).1, lt-ltb j scenario.receptors.count here, lt-ltb q (scenario.chemicals.count * pathways_per_chemical) h) refl

  cells_long : length (cells_of scenario) ≡ all_cells
  unfolding cells_of
  cells_long = length_tabulate (cell_at scenario) 0 0 all_cells

  held_at : (e : Effect) (w : Part) (q k : ℕ) → q < scenario.chemicals.count * pathways_per_chemical → k ≡ receptor_cells * j + effect_cells * side_of e + most_lines * part_of w + q
      → get_or (cells_of scenario) k 0 ≡ cell_of w (columns_at e scenario j (q / pathways_per_chemical) (pathway_at (q % pathways_per_chemical)))
  held_at e w q k h place = rw place (cells_held e w q h)

  is_held_lem : is_held (cells_of scenario) j ≡ true
  unfolding is_held
  is_held_lem = rw (eq-eqb (length (cells_of scenario)) all_cells cells_long, lt-ltb j most_receptors (omega arith)) refl

  line_held : (q : ℕ) → q < scenario.chemicals.count * pathways_per_chemical → (e : Effect) → columns_in (cells_of scenario) j e q ≡ columns_at e scenario j (q / pathways_per_chemical) (pathway_at (q % pathways_per_chemical))
  unfolding columns_in columns_found part_of
  line_held q h e =
      let at : ℕ = receptor_cells * j + effect_cells * side_of e + q in
      rw (is_held_lem, lt-ltb q most_lines (omega arith), held_at e Mark q at h (omega arith), held_at e Low q (at + most_lines) h (omega arith), held_at e High q (at + 2 * most_lines) h (omega arith))
      (again (columns_at e scenario j (q / pathways_per_chemical) (pathway_at (q % pathways_per_chemical))))

  module _ (e : Effect) (small : (q : ℕ) → q < scenario.chemicals.count * pathways_per_chemical → (w : Part) → cell_of w (columns_at e scenario j (q / pathways_per_chemical) (pathway_at (q % pathways_per_chemical))) ≤ 10 ^ 16) where
    column_is : (w : Part) (at : ℕ) → at ≡ receptor_cells * j + effect_cells * side_of e + most_lines * part_of w
        → take (scenario.chemicals.count * pathways_per_chemical) (drop at (cells_of scenario)) ≡ map (cell_of w) (chained (λ q. columns_at e scenario j (q / pathways_per_chemical) (pathway_at (q % pathways_per_chemical)) ∷ []) (scenario.chemicals.count * pathways_per_chemical))
    column_is w at place =
        let s : side_of e < 2 = side_small e in
        let p : part_of w < 3 = part_small w in
        column_held (λ q. columns_at e scenario j (q / pathways_per_chemical) (pathway_at (q % pathways_per_chemical))) w (cells_of scenario) at (scenario.chemicals.count * pathways_per_chemical) (omega (arith, cells_long))
        (λ q l. held_at e w q (at + q) l (omega arith))

    -- the receptor's total
    pub columns_total : total_in (cells_of scenario) j e (scenario.chemicals.count * pathways_per_chemical) ≡ total_at e scenario j
    unfolding total_in total_found total_at part_of listed
    columns_total =
        let at : ℕ = receptor_cells * j + effect_cells * side_of e in
        rw (is_held_lem, lt-ltb (scenario.chemicals.count * pathways_per_chemical) (suc most_lines) (omega arith), column_is Mark at (omega arith), column_is Low (at + most_lines) (omega arith), column_is High (at + 2 * most_lines) (omega arith))
        (total_summed (λ q. columns_at e scenario j (q / pathways_per_chemical) (pathway_at (q % pathways_per_chemical))) (scenario.chemicals.count * pathways_per_chemical) (omega arith) small
        ∙ summed_flat (λ i p. columns_at e scenario j i (pathway_at p)) scenario.chemicals.count)

-- a line's columns
pub columns_held : (scenario : Scenario) → scenario.chemicals.count ≤ max_chemicals → scenario.receptors.count ≤ most_receptors → (j q : ℕ) → j < scenario.receptors.count → q < scenario.chemicals.count * pathways_per_chemical → (e : Effect)
    → columns_in (cells_of scenario) j e q ≡ columns_at e scenario j (q / pathways_per_chemical) (pathway_at (q % pathways_per_chemical))
columns_held scenario few_chemicals few_receptors j q here h e = line_held scenario few_chemicals few_receptors j here q h e

-- how many cells the call leaves
many_for : (s : Status) (scenario : Scenario) → length (cells_for s scenario) ≡ all_cells
unfolding cells_for cells_of no_cells
many_for (Ok done) scenario = length_tabulate (cell_at scenario) 0 0 all_cells
many_for (Err stop) scenario = length_tabulate (λ k. 0) 0 0 all_cells

pub cells_many : (tested : Bool) (scenario : Scenario) → length (cells_by tested scenario) ≡ all_cells
unfolding cells_by
cells_many tested scenario = many_for (status_by tested scenario) scenario
