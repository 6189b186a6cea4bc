-- The ids of a deck's records are those of their first lines, and have at most six digits.
-- Assumes nothing.
use mathlib.Core.Path.{◌≡◌, sym, ap, subst}
use mathlib.Core.List.{List}
use Prim.Native.Nat.{ℕ, ◌+◌, ◌*◌, ◌-◌, ◌^◌, ◌<◌}
use lib.Dec.{lit<}
use lib.ListN.{get_or, take, drop, replicate}
use Rattle.sizes.specs.Sizes.{record_lines, max_chemicals, most_stages}
use Rattle.cases.specs.declared.Record.{Record}
use Rattle.cases.specs.Cases.{no_record, chemical_at, receptor_at}
use Rattle.spelling.specs.Columns.{id_width}
use Rattle.spelling.proofs.NumberRead.{id_small}
use Rattle.lists.proofs.Tabulated.{filled_at}
use Rattle.deck.specs.Parts.{kind_width, line_of}
use Rattle.std.specs.Prelude.{Option, Some, None, IfSome}
use Rattle.std.specs.Option.{unwrap_or}
use Rattle.deck.specs.DeckConditions.{id_of}
use Rattle.deck.specs.DeckCase.{record_of, records_of, chemicals_start, case_with, case_of}

-- a record's id is that of its first line
record_named : (deck : List ℕ) (n count room i : ℕ) → i < count → (get_or (records_of deck n count room) i no_record).id ≡ unwrap_or (id_of (line_of deck (n + record_lines * i))) 0
unfolding records_of record_of
record_named deck n count room i h =
    ap (λ (r : Record). r.id) (filled_at (λ k. record_of deck (n + record_lines * k) record_lines) no_record count (replicate (room - count) no_record) i h)

pub chemical_named : (deck : List ℕ) (i : ℕ) → i < (case_of deck).chemicals.count → (chemical_at (case_of deck) i).id ≡ unwrap_or (id_of (line_of deck (chemicals_start + record_lines * i))) 0
unfolding case_of case_with chemical_at
chemical_named deck i h = record_named deck chemicals_start _ max_chemicals i h

pub receptor_named : (deck : List ℕ) (j : ℕ) → j < (case_of deck).receptors.count
    → (receptor_at (case_of deck) j).id ≡ unwrap_or (id_of (line_of deck (chemicals_start + record_lines * (case_of deck).chemicals.count + record_lines * j))) 0
unfolding case_of case_with receptor_at
receptor_named deck j h = record_named deck _ _ most_stages j h

small_or_none : (id : Option ℕ) (m : ℕ) → IfSome id (λ i. i < m) → 0 < m → unwrap_or id 0 < m
small_or_none None m h p = p
small_or_none (Some id) m h p = h

record_id : (deck : List ℕ) (n count room i : ℕ) → i < count → (get_or (records_of deck n count room) i no_record).id < 10 ^ id_width
unfolding records_of record_of id_of
record_id deck n count room i h =
    subst (λ (r : Record). r.id < 10 ^ id_width)
    (sym (filled_at (λ k. record_of deck (n + record_lines * k) record_lines) no_record count (replicate (room - count) no_record) i h))
    (small_or_none _ (10 ^ id_width) (id_small (take id_width (drop kind_width (line_of deck (n + record_lines * i))))) (lit< tt))

pub small_ids : (deck : List ℕ) → ((j : ℕ) → j < (case_of deck).receptors.count → (receptor_at (case_of deck) j).id < 10 ^ id_width)
    × ((i : ℕ) → i < (case_of deck).chemicals.count → (chemical_at (case_of deck) i).id < 10 ^ id_width)
unfolding case_of case_with chemical_at receptor_at
small_ids deck = (λ j h. record_id deck _ _ _ j h, λ i h. record_id deck _ _ _ i h)
