-- Where a call on a case in memory stops, whether it was read or made: 21 for how many records it has, 22 for their ids, then slot by slot, in a
-- deck's order, 32 and 33. Each call's list is made of these; none of them tells a line or a field, as there is no deck.
-- Assumes nothing.
use Rattle.std.specs.Prelude.{ℕ, zero, suc, Bool, false, not, ◌||◌, List, [], ◌∷◌, ◌++◌, leb, ltb, eqb, get_or}
use Rattle.lists.specs.Lists.{chained, any_of}
use Rattle.sizes.specs.Sizes.{max_chemicals, slots_per_record}
use Rattle.slots.specs.Slots.{rule_at}
use Rattle.slots.specs.declared.Owner.{Owner}
use Rattle.slots.specs.declared.Owner.TheVariants.{Site, Chemical}
use Rattle.slots.specs.declared.Rule.{Rule}
use Rattle.slots.specs.declared.Sort.{Sort}
use Rattle.slots.specs.declared.Sort.TheVariants.{Ordinary}
use Rattle.cases.specs.Cases.{no_record, value_at, max_receptors}
use Rattle.cases.specs.Conditions.{Condition, at}
use Rattle.cases.specs.Ranges.{in_range}
use Rattle.cases.specs.declared.Chemicals.{Chemicals}
use Rattle.cases.specs.declared.Ids.{Ids}
use Rattle.cases.specs.declared.Record.{Record}
use Rattle.cases.specs.declared.Value.{Value}
use Rattle.cases.specs.declared.Value.TheVariants.{Absent, Given}

-- ---- 21: one to sixteen chemicals, one to four receptors (a composite's deck: to eight)
unfoldable pub outside : ℕ → ℕ → Bool
outside most n = eqb n 0 || ltb most n

unfoldable pub counts_outside : Sort → ℕ → ℕ → Bool
counts_outside sort chemicals receptors = outside max_chemicals chemicals || outside (max_receptors sort) receptors

-- ---- 22: an id is from 1 to 999999, and above the one before
abbrev pub most_id : ℕ
most_id = 999999

-- the id before record i, and 0 before the first
unfoldable pub id_before : (ℕ → ℕ) → ℕ → ℕ
id_before ids zero = 0
id_before ids (suc i) = ids i

unfoldable pub id_wrong : (ℕ → ℕ) → ℕ → Bool
id_wrong ids i = leb (ids i) (id_before ids i) || ltb most_id (ids i)

-- of records 0 to n − 1
unfoldable pub ids_wrong : (ℕ → ℕ) → ℕ → Bool
ids_wrong ids n = any_of (id_wrong ids) n

-- those of chemicals, and of receptors by the list that they are given in
unfoldable pub chemical_ids : Chemicals → ℕ → ℕ
chemical_ids chemicals i = (get_or chemicals.records i no_record).id

unfoldable pub receptor_ids : Ids → ℕ → ℕ
receptor_ids ids j = get_or ids.list j 0

unfoldable pub some_id_wrong : Record → Chemicals → Ids → Bool
some_id_wrong site chemicals receptors =
    outside most_id site.id || ids_wrong (chemical_ids chemicals) chemicals.count || ids_wrong (receptor_ids receptors) receptors.count

-- ---- 32 and 33, of a slot under its rule
-- a needed slot has no value
unfoldable pub is_missing : Rule → Value → Bool
is_missing rule Absent = not (rule.dash || rule.blank)
is_missing rule (Given power digits) = false

-- a later slot has one
unfoldable pub is_stray : Rule → Value → Bool
is_stray rule Absent = false
is_stray rule (Given power digits) = not rule.used

unfoldable pub is_out_of_range : Rule → Value → Bool
is_out_of_range rule Absent = false
is_out_of_range rule (Given power digits) = not (in_range rule digits power)

unfoldable pub slot_conditions : Rule → Value → List Condition
slot_conditions rule v = at 32 0 0 (is_missing rule v || is_stray rule v) ∷ at 33 0 0 (is_out_of_range rule v) ∷ []

unfoldable pub record_conditions : Sort → Owner → Record → List Condition
record_conditions sort o r = chained (λ k. slot_conditions (rule_at sort o k) (value_at r k)) slots_per_record

-- the site's, then each chemical's; their rules are the same in every sort of deck
unfoldable pub chemical_conditions : Chemicals → List Condition
chemical_conditions chemicals = chained (λ i. record_conditions Ordinary Chemical (get_or chemicals.records i no_record)) chemicals.count

unfoldable pub source_conditions : Record → Chemicals → List Condition
source_conditions site chemicals = record_conditions Ordinary Site site ++ chemical_conditions chemicals

-- ---- the list of a site, chemicals and receptors of which so many are given, with these ids
unfoldable pub memory_conditions : Sort → Record → Chemicals → Ids → List Condition
memory_conditions sort site chemicals receptors =
    at 21 0 0 (counts_outside sort chemicals.count receptors.count)
    ∷ at 22 0 0 (some_id_wrong site chemicals receptors)
    ∷ source_conditions site chemicals

-- ---- some needed slot of a record has no value
unfoldable pub lacks : Sort → Owner → Record → Bool
lacks sort o r = any_of (λ k. is_missing (rule_at sort o k) (value_at r k)) slots_per_record
