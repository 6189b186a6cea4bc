-- Laws of the case that is read off a deck by position: lines and fields that the deck lacks, and arrays that a loop fills.
-- Assumes nothing.
use Prim.Native.Nat.{ℕ, ◌+◌, ◌*◌, ◌-◌, ◌/◌, ◌≤◌}
use native.Mathlib.Nat.{le_antisymm}
use native.Mathlib.Omega.{arith}
use mathlib.Core.Path.{◌≡◌, refl, sym, ap, ◌∙◌}
use mathlib.Core.Bool.{Bool, true, false, cond}
use mathlib.Core.List.{List, [], ◌++◌}
use borrow.Author.Tests.{eqb-true, eqb-false}
use lib.Dec.{eqb}
use lib.ListN.{length, take, drop, replicate, length-take, length-drop, drop_of_length-le}
use Rattle.spelling.specs.Columns.{within, leading, field_width}
use Rattle.deck.specs.Parts.{deck_line_width, fields_start, lines_of, line_of, field_in, field_of}
use Rattle.spelling.specs.Spelling.{id_in, id_spelled, word_of}
use Rattle.std.specs.Prelude.{◌≢◌, Option, Some, None, MatchOption}
use Rattle.std.specs.Option.{unwrap_or}
use Rattle.std.specs.Array.{IsWholeChunk}
use Rattle.deck.specs.DeckConditions.{id_of}
use Rattle.sizes.specs.Sizes.{fields_per_line, site_lines, record_lines, slots_per_record, max_chemicals, most_stages}
use Rattle.lists.specs.Lists.{tabulate}
use Rattle.deck.specs.DeckCase.{chemicals_start, value_of, slot_spelled, record_of, records_of, case_with}
use Rattle.cases.specs.Cases.{no_record, no_case}
use Rattle.cases.specs.declared.Value.{Value}
use Rattle.cases.specs.declared.Value.TheVariants.{Absent}
use Rattle.cases.specs.declared.Record.{Record}
use Rattle.cases.specs.declared.Case.{Case}
use Rattle.spelling.proofs.DigitLaws.{within_bounds_lem}
use Rattle.lists.proofs.ListLaws.{none}

module _ (deck : List ℕ) (n : ℕ) where
  full : (t : Bool) → within 1 (lines_of deck) n ≡ t → (length (cond t (take deck_line_width (drop (deck_line_width * (n - 1)) deck)) []) ≡ 0 → ⊥)
      → length (cond t (take deck_line_width (drop (deck_line_width * (n - 1)) deck)) []) ≡ deck_line_width
  unfolding lines_of
  full true e h =
      let b = within_bounds_lem 1 (length deck / deck_line_width) n e in
      length-take deck_line_width (drop (deck_line_width * (n - 1)) deck) ∙ omega (arith, b, length-drop (deck_line_width * (n - 1)) deck)
  full false e h = absurd (h refl)

  pub line_full : (l : List ℕ) → l ≡ line_of deck n → (length l ≡ 0 → ⊥) → length l ≡ deck_line_width
  unfolding line_of
  line_full l e h = ap length e ∙ full (within 1 (lines_of deck) n) refl (λ q. h (ap length e ∙ q))

  field_nil : (f : ℕ) (l : List ℕ) → length l ≡ 0 → (t : Bool) → cond t (take field_width (drop (fields_start + field_width * (f - 1)) l)) [] ≡ []
  field_nil f l h true = ap (take field_width) (drop_of_length-le l {i = fields_start + field_width * (f - 1)} (omega arith))
  field_nil f l h false = refl

  pub field_none : (f : ℕ) (l : List ℕ) → l ≡ line_of deck n → length l ≡ 0 → l ≡ field_of deck n f
  unfolding field_of field_in
  field_none f l e h = none l h ∙ sym (field_nil f l h (within 1 fields_per_line f)) ∙ ap (λ (m : List ℕ). field_in m f) e

  pub field_some : (f : ℕ) (l r : List ℕ) → l ≡ line_of deck n → r ≡ field_in l f → r ≡ field_of deck n f
  unfolding field_of
  field_some f l r e g = g ∙ ap (λ (m : List ℕ). field_in m f) e

  lacks : (length (line_of deck n) ≡ deck_line_width → ⊥) → line_of deck n ≡ []
  lacks h = go (eqb (length (line_of deck n)) 0) refl
    where
      go : (t : Bool) → eqb (length (line_of deck n)) 0 ≡ t → line_of deck n ≡ []
      go true e = none (line_of deck n) (eqb-true (length (line_of deck n)) 0 e)
      go false e = absurd (h (line_full (line_of deck n) refl (eqb-false (length (line_of deck n)) 0 e)))

  pub field_lacking : (f : ℕ) → (length (line_of deck n) ≡ deck_line_width → ⊥) → [] ≡ field_of deck n f
  field_lacking f h = sym (lacks h) ∙ field_none f (line_of deck n) refl (ap length (lacks h))

  pub no_id : (length (line_of deck n) ≡ deck_line_width → ⊥) → None ≡ id_of (line_of deck n)
  unfolding id_of id_in id_spelled leading
  no_id h = ap id_of (sym (lacks h))

  pub id_lacking : (length (line_of deck n) ≡ deck_line_width → ⊥) → 0 ≡ unwrap_or (id_of (line_of deck n)) 0
  id_lacking h = ap (λ (i : Option ℕ). unwrap_or i 0) (no_id h)

-- a line as a whole, if it is there
pub whole_line : {X : Type 0} (view : X → List ℕ) (s t : List ℕ) (n : ℕ) → s ≡ t → (r : Option X) → MatchOption r (length s ≢ n) (λ y. IsWholeChunk s (view y) n)
    → MatchOption r (length t ≢ n) (λ y. view y ≡ t)
whole_line view s t n e None h = λ q. h (ap length e ∙ q)
whole_line view s t n e (Some y) h = h.same ∙ e

-- ---- records and cases
pub record_is : (deck : List ℕ) (n lines id : ℕ) (slots rest : List Value) → id ≡ unwrap_or (id_of (line_of deck n)) 0 → slots ≡ tabulate (lines * fields_per_line) (slot_spelled deck n)
    → rest ≡ replicate (slots_per_record - lines * fields_per_line) Absent → ◌≡◌ {A = Record} (record { id = id; slots = slots ++ rest }) (record_of deck n lines)
unfolding record_of
record_is deck n lines id slots rest e p q = λ i. record { id = e i; slots = p i ++ q i }

pub records_are : (deck : List ℕ) (n count room i : ℕ) (xs : List Record) → i ≤ count → count ≤ i
    → xs ≡ tabulate i (λ j. record_of deck (n + record_lines * j) record_lines) ++ replicate (room - i) no_record → xs ≡ records_of deck n count room
unfolding records_of
records_are deck n count room i xs p q f =
    f ∙ ap (λ (m : ℕ). tabulate m (λ j. record_of deck (n + record_lines * j) record_lines) ++ replicate (room - m) no_record) (le_antisymm p q)

pub case_is : (deck : List ℕ) (m n : ℕ) (site : Record) (cs rs : List Record) → site ≡ record_of deck 1 site_lines → cs ≡ records_of deck chemicals_start m max_chemicals
    → rs ≡ records_of deck (chemicals_start + record_lines * m) n most_stages
    → ◌≡◌ {A = Case}
    (record { site = site; chemicals = record { count = m; records = cs }; receptors = record { count = n; records = rs } })
    (case_with deck m n)
unfolding case_with
case_is deck m n site cs rs a b c =
    λ i. record { site = a i; chemicals = record { count = m; records = b i }; receptors = record { count = n; records = c i } }

-- an empty deck has no site, chemical or receptor
pub empty_case : case_with [] 0 0 ≡ no_case
unfolding case_with no_case record_of records_of tabulate slot_spelled field_of field_in line_of lines_of within word_of leading value_of id_of id_in id_spelled
empty_case = refl
