-- Cells: what a store of a line's counts changes, and what the cells hold after the lines of a receptor, and of every receptor, are stored.
-- Assumes nothing.
use mathlib.Core.Path.{◌≡◌, refl, sym, ap, ◌∙◌}
use mathlib.Core.Bool.{Bool, true, false}
use mathlib.Core.List.{List}
use mathlib.Core.Logic.{⊎_elim, ◌≢◌}
use Prim.Native.Nat.{ℕ, zero, suc, ◌+◌, ◌*◌, ◌-◌, ◌≤◌, ◌<◌}
use native.Mathlib.Nat.{eq-or-lt_of_le}
use native.Mathlib.Omega.{arith}
use borrow.Author.Tests.{ltb-true, ltb-false}
use lib.Dec.{ltb, lit<}
use lib.ListN.{length, get_or, set, replicate, length-set}
use lib.Seq.{ext_get_or, get_or-set_same, get_or-set_other}
use Rattle.sizes.specs.Sizes.{max_chemicals, most_lines, pathways_per_chemical}
use Rattle.equations.specs.declared.Effect.{Effect}
use Rattle.equations.specs.declared.Effect.TheVariants.{Hazard, Cancer}
use Rattle.equations.specs.declared.Values.{Values}
use Rattle.lists.proofs.Tabulated.{tabulated, length_tabulate}
use Rattle.totals.specs.Totals.{Columns}
use Rattle.scenario.specs.declared.Receptor.{Receptor}
use Rattle.scenario.specs.declared.Site.{Site}
use Rattle.sheet.specs.declared.Sources.{Sources}
use Rattle.scenario.specs.Scenario.{no_receptor}
use Rattle.sheet.specs.Counts.{Part, Mark, Low, High, cell_of, side_of, no_cells, all_cells, effect_cells, receptor_cells}
use Rattle.sheet.specs.Inner.{with_counts, columns_worked, part_of, CellsHold, CellsEmpty, CellsFilled, SameBelow, SameBut, ZeroFrom}

pub side_small : (e : Effect) → side_of e < 2
unfolding side_of
side_small Hazard = lit< tt
side_small Cancer = lit< tt

pub part_small : (w : Part) → part_of w < 3
unfolding part_of
part_small Mark = lit< tt
part_small Low = lit< tt
part_small High = lit< tt

pub zeros : (n : ℕ) → ZeroFrom 0 (replicate n 0)
zeros zero k h = refl
zeros (suc n) zero h = refl
zeros (suc n) (suc k) h = zeros n k (omega arith)

-- cells set to 0 one after another
pub cleared_more : (cells : List ℕ) (k : ℕ) → k < length cells → ((i : ℕ) → i < k → get_or cells i 0 ≡ 0) → (i : ℕ) → i < k + 1 → get_or (set cells k 0) i 0 ≡ 0
cleared_more cells k h zero' i l =
    let most : i ≤ k = omega arith in
    ⊎_elim (λ z. rw z (get_or-set_same cells k 0 0 h)) (λ m. get_or-set_other cells k i 0 0 (λ z. omega arith) ∙ zero' i m) (eq-or-lt_of_le most)

pub all_cleared : (cells : List ℕ) → length cells ≡ all_cells → ((i : ℕ) → i < all_cells → get_or cells i 0 ≡ 0) → cells ≡ no_cells
unfolding no_cells
all_cleared cells long zero' =
    ext_get_or 0 cells no_cells (long ∙ sym (length_tabulate (λ k. 0) 0 0 all_cells)) (λ i h. zero' i (omega arith) ∙ sym (tabulated (λ k. 0) 0 all_cells i (omega arith)))

-- ---- the counts of a line stored
module _ (cells : List ℕ) (at : ℕ) (columns : Columns) where
  abbrev marked : List ℕ
  marked = set cells at (cell_of Mark columns)

  abbrev marked_low : List ℕ
  marked_low = set marked (at + most_lines) (cell_of Low columns)

  counts_length : length (with_counts cells at columns) ≡ length cells
  unfolding with_counts
  counts_length = simp length-set

  counts_other : (k : ℕ) → k ≢ at → k ≢ at + most_lines → k ≢ at + 2 * most_lines → get_or (with_counts cells at columns) k 0 ≡ get_or cells k 0
  unfolding with_counts
  counts_other k a b c =
      get_or-set_other marked_low (at + 2 * most_lines) k (cell_of High columns) 0 c
      ∙ get_or-set_other marked (at + most_lines) k (cell_of Low columns) 0 b
      ∙ get_or-set_other cells at k (cell_of Mark columns) 0 a

  counts_at : at + 2 * most_lines < length cells → (w : Part) (k : ℕ) → k ≡ at + most_lines * part_of w → get_or (with_counts cells at columns) k 0 ≡ cell_of w columns
  unfolding with_counts part_of
  counts_at room Mark k e =
      let p : k ≡ at = omega arith in
      rw p
      (get_or-set_other marked_low (at + 2 * most_lines) at (cell_of High columns) 0 (λ z. omega arith)
      ∙ get_or-set_other marked (at + most_lines) at (cell_of Low columns) 0 (λ z. omega arith)
      ∙ get_or-set_same cells at (cell_of Mark columns) 0 (omega arith))
  counts_at room Low k e =
      let p : k ≡ at + most_lines = omega arith in
      rw p
      (get_or-set_other marked_low (at + 2 * most_lines) (at + most_lines) (cell_of High columns) 0 (λ z. omega arith)
      ∙ get_or-set_same marked (at + most_lines) (cell_of Low columns) 0 (simp length-set (omega arith)))
  counts_at room High k e =
      let p : k ≡ at + 2 * most_lines = omega arith in
      rw p (get_or-set_same marked_low (at + 2 * most_lines) (cell_of High columns) 0 (simp length-set (omega arith)))

-- ---- line q's counts stored, hazard's and cancer's, after those of the lines before it
module _ (cells : List ℕ) (base q : ℕ) (u v : Columns) where
  abbrev line_stored : List ℕ
  line_stored = with_counts (with_counts cells (base + q) u) (base + q + effect_cells) v

  pub line_length : length line_stored ≡ length cells
  line_length = counts_length (with_counts cells (base + q) u) (base + q + effect_cells) v ∙ counts_length cells (base + q) u

  -- no cell of line q
  line_other : (k : ℕ) → k ≢ base + q → k ≢ base + q + most_lines → k ≢ base + q + 2 * most_lines → k ≢ base + q + effect_cells → k ≢ base + q + (effect_cells + most_lines) → k ≢ base + q + (effect_cells + 2 * most_lines)
      → get_or line_stored k 0 ≡ get_or cells k 0
  line_other k a b c d e f =
      counts_other (with_counts cells (base + q) u) (base + q + effect_cells) v k d (λ z. e (omega arith)) (λ z. f (omega arith)) ∙ counts_other cells (base + q) u k a b c

  -- the cells of other lines stay
  pub line_others : (n : ℕ) (entry : List ℕ) → q < n → SameBut n base entry cells → SameBut n base entry line_stored
  unfolding side_of part_of
  line_others n entry l same k other =
      line_other k
      (λ z. other Hazard Mark q l (omega arith)) (λ z. other Hazard Low q l (omega arith)) (λ z. other Hazard High q l (omega arith))
      (λ z. other Cancer Mark q l (omega arith)) (λ z. other Cancer Low q l (omega arith)) (λ z. other Cancer High q l (omega arith))
      ∙ same k other

  module _ (small : q < most_lines) where
    -- another line's cell
    line_apart : (e : Effect) (w : Part) (k : ℕ) → k ≢ q → k < most_lines → get_or line_stored (base + effect_cells * side_of e + most_lines * part_of w + k) 0 ≡ get_or cells (base + effect_cells * side_of e + most_lines * part_of w + k) 0
    line_apart e w k n l =
        let s : side_of e < 2 = side_small e in
        let p : part_of w < 3 = part_small w in
        line_other (base + effect_cells * side_of e + most_lines * part_of w + k)
        (λ z. n (omega arith)) (λ z. n (omega arith)) (λ z. n (omega arith)) (λ z. n (omega arith)) (λ z. n (omega arith)) (λ z. n (omega arith))

    module _ (columns : ℕ → Effect → Columns) (fits : base + q + (effect_cells + 2 * most_lines) < length cells) (hazard' : u ≡ columns q Hazard) (cancer' : v ≡ columns q Cancer) where
      line_here : (e : Effect) (w : Part) → get_or line_stored (base + effect_cells * side_of e + most_lines * part_of w + q) 0 ≡ cell_of w (columns q e)
      unfolding side_of
      line_here Hazard w =
          let p : part_of w < 3 = part_small w in
          counts_other (with_counts cells (base + q) u) (base + q + effect_cells) v (base + effect_cells * 0 + most_lines * part_of w + q) (λ z. omega arith) (λ z. omega arith) (λ z. omega arith)
          ∙ counts_at cells (base + q) u (omega arith) w _ (omega arith)
          ∙ ap (cell_of w) hazard'
      line_here Cancer w =
          counts_at (with_counts cells (base + q) u) (base + q + effect_cells) v (omega (arith, counts_length cells (base + q) u)) w _ (omega arith) ∙ ap (cell_of w) cancer'

      pub line_held : CellsHold columns q cells base → CellsHold columns (q + 1) line_stored base
      line_held held e w k h =
          let most : k ≤ q = omega arith in
          ⊎_elim (λ z. rw z (line_here e w)) (λ l. line_apart e w k (λ z. omega arith) (omega arith) ∙ held e w k l) (eq-or-lt_of_le most)

-- ---- the cells of chemical i's lines filled after those of the chemicals before it
module _ (base i : ℕ) (before after : List ℕ) (few : i < max_chemicals) (same : SameBut pathways_per_chemical (base + i * pathways_per_chemical) before after) where
  -- a cell of another chemical's line
  chemical_apart : (e : Effect) (w : Part) (q : ℕ) → q < most_lines → ((p : ℕ) → p < pathways_per_chemical → q ≢ i * pathways_per_chemical + p)
      → get_or after (base + effect_cells * side_of e + most_lines * part_of w + q) 0 ≡ get_or before (base + effect_cells * side_of e + most_lines * part_of w + q) 0
  chemical_apart e w q l n =
      let s : side_of e < 2 = side_small e in
      let t : part_of w < 3 = part_small w in
      same (base + effect_cells * side_of e + most_lines * part_of w + q)
      (λ e' w' p h z.
      let s' : side_of e' < 2 = side_small e' in
      let t' : part_of w' < 3 = part_small w' in
      n p h (omega arith))

  pub chemical_below : (entry : List ℕ) → SameBelow base entry before → SameBelow base entry after
  chemical_below entry below k h = same k (λ e w p l z. omega arith) ∙ below k h

  pub chemical_empty : (n : ℕ) → (i + 1) * pathways_per_chemical ≤ n → CellsEmpty (i * pathways_per_chemical) before base → CellsEmpty n after base
  chemical_empty n l empty e w q h m = chemical_apart e w q m (λ p t z. omega arith) ∙ empty e w q (omega arith) m

  pub chemical_zero : ZeroFrom (base + receptor_cells) before → ZeroFrom (base + receptor_cells) after
  chemical_zero empty k h =
      same k
      (λ e w p l z.
      let s : side_of e < 2 = side_small e in
      let t : part_of w < 3 = part_small w in
      omega arith)
      ∙ empty k h

  module _ (columns : ℕ → Effect → Columns) (held : CellsHold columns (i * pathways_per_chemical) before base) (here : CellsHold (λ p. columns (i * pathways_per_chemical + p)) pathways_per_chemical after (base + i * pathways_per_chemical)) where
    chemical_cell : (e : Effect) (w : Part) (q : ℕ) → q < (i + 1) * pathways_per_chemical → (t : Bool) → ltb q (i * pathways_per_chemical) ≡ t → get_or after (base + effect_cells * side_of e + most_lines * part_of w + q) 0 ≡ cell_of w (columns q e)
    chemical_cell e w q h true t =
        let m : q < i * pathways_per_chemical = ltb-true q (i * pathways_per_chemical) t in
        chemical_apart e w q (omega arith) (λ p l z. omega arith) ∙ held e w q m
    chemical_cell e w q h false t =
        let m : i * pathways_per_chemical ≤ q = ltb-false q (i * pathways_per_chemical) t in
        let place : base + effect_cells * side_of e + most_lines * part_of w + q ≡ base + i * pathways_per_chemical + effect_cells * side_of e + most_lines * part_of w + (q - i * pathways_per_chemical) = omega arith in
        let line : i * pathways_per_chemical + (q - i * pathways_per_chemical) ≡ q = omega arith in
        ap (λ (k : ℕ). get_or after k 0) place ∙ here e w (q - i * pathways_per_chemical) (omega arith) ∙ ap (λ (k : ℕ). cell_of w (columns k e)) line

    pub chemical_held : CellsHold columns ((i + 1) * pathways_per_chemical) after base
    chemical_held e w q h = chemical_cell e w q h (ltb q (i * pathways_per_chemical)) refl

-- ---- a receptor's cells filled after those of the receptors before it
module _ (site' : Site) (sources : Sources) (list : List Receptor) (j : ℕ) (before after : List ℕ) (few : sources.count ≤ max_chemicals) where
  -- a cell of an earlier receptor
  earlier : SameBelow (receptor_cells * j) before after → (i : ℕ) → i < j → (e : Effect) (w : Part) (q : ℕ) → q < most_lines
      → get_or after (receptor_cells * i + effect_cells * side_of e + most_lines * part_of w + q) 0 ≡ get_or before (receptor_cells * i + effect_cells * side_of e + most_lines * part_of w + q) 0
  earlier same i h e w q l =
      let s : side_of e < 2 = side_small e in
      let p : part_of w < 3 = part_small w in
      same (receptor_cells * i + effect_cells * side_of e + most_lines * part_of w + q) (omega arith)

  pub receptor_held : (r : Values) → r ≡ (get_or list j no_receptor).values → CellsFilled site' sources list j before → SameBelow (receptor_cells * j) before after
      → CellsHold (columns_worked site' sources j r) (sources.count * pathways_per_chemical) after (receptor_cells * j) → CellsEmpty (sources.count * pathways_per_chemical) after (receptor_cells * j)
      → CellsFilled site' sources list (j + 1) after
  receptor_held r is_receptor filled same held empty i h =
      let most : i ≤ j = omega arith in
      ⊎_elim
      (λ z. (
        λ e w q l. rw z (held e w q l ∙ ap (λ (x : Values). cell_of w (columns_worked site' sources j x q e)) is_receptor),
        λ e w q l m. rw z (empty e w q l m),
      ))
      (λ m. (
        λ e w q l. earlier same i m e w q (omega arith) ∙ (filled i m).0 e w q l,
        λ e w q l n. earlier same i m e w q n ∙ (filled i m).1 e w q l n,
      ))
      (eq-or-lt_of_le most)
