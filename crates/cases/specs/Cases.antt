-- A case in memory: the site, chemicals and receptors of a deck, read or made; and its values by the names of their slots.
-- Assumes nothing.
use Rattle.std.specs.Prelude.{ℕ, zero, suc, ◌-◌, ◌/◌, ◌%◌, ◌^◌, min, Bool, false, cond, not, ◌||◌, eqb, ltb, ℤ, pos, get_or, replicate, set}
use Rattle.std.proofs.Math.IntN.{sub_ℕ}
use Rattle.powers.specs.Powers.{below}
use Rattle.slots.specs.Slots.{Slot, owner_of, place_of}
use Rattle.slots.specs.declared.Owner.{Owner}
use Rattle.slots.specs.declared.Owner.TheVariants.{Site, Chemical, Receptor}
use Rattle.slots.specs.declared.Sort.{Sort}
use Rattle.slots.specs.declared.Sort.TheVariants.{Ordinary, Composite}
use Rattle.sizes.specs.Sizes.{max_chemicals, most_receptors, most_stages, slots_per_record}
use Rattle.cases.specs.Ranges.{is_year_of, is_year}
use Rattle.slots.specs.declared.Guidance.{Guidance}
use Rattle.slots.specs.declared.Guidance.TheVariants.{Of2005, Of2009}
use Rattle.cases.specs.declared.Value.{Value}
use Rattle.cases.specs.declared.Value.TheVariants.{Absent, Given}
use Rattle.cases.specs.declared.Record.{Record}
use Rattle.cases.specs.declared.Case.{Case}

-- how many receptors a deck of each sort may have
abbrev pub max_receptors : Sort → ℕ
max_receptors Ordinary = most_receptors
max_receptors Composite = most_stages

-- every slot is without a value, as those past the site's two lines are, and those of a place that has no record
abbrev pub no_record : Record
no_record = record { id = 0; slots = replicate slots_per_record Absent }

-- no site, chemical or receptor
unfoldable pub no_case : Case
no_case =
    record {
      site = no_record;
      chemicals = record { count = 0; records = replicate max_chemicals no_record };
      receptors = record { count = 0; records = replicate most_stages no_record };
    }

-- ---- its values, by name
-- slot k of a record, from 0
unfoldable pub value_at : Record → ℕ → Value
value_at r k = get_or r.slots k Absent

-- chemical i and receptor j, from 0
unfoldable pub chemical_at : Case → ℕ → Record
chemical_at case i = get_or case.chemicals.records i no_record

unfoldable pub receptor_at : Case → ℕ → Record
receptor_at case j = get_or case.receptors.records j no_record

-- the record that a slot of this owner stands in, for receptor j and chemical i
unfoldable pub owners_record : Owner → Case → ℕ → ℕ → Record
owners_record Site case j i = case.site
owners_record Chemical case j i = chemical_at case i
owners_record Receptor case j i = receptor_at case j

unfoldable pub given : Case → ℕ → ℕ → Slot → Value
given case j i s = value_at (owners_record (owner_of s) case j i) (place_of s)

-- ---- the guidance that a site names by its year (document 02, P6); blank means 2005
unfoldable pub guidance_of : Value → Guidance
guidance_of Absent = Of2005
guidance_of (Given power digits) = cond (is_year_of Of2009 digits power) Of2009 Of2005

-- a number that is the year of neither, which no deck that is read has
unfoldable pub is_other_year : Value → Bool
is_other_year Absent = false
is_other_year (Given power digits) = not (is_year digits power)

-- a site's record and a case with no value in the year's slot
unfoldable pub clear_year : Record → Record
clear_year r = record { id = r.id; slots = set r.slots (place_of "year") Absent }

unfoldable pub case_without_year : Case → Case
case_without_year case = record { site = clear_year case.site; chemicals = case.chemicals; receptors = case.receptors }

-- ---- a value counts as its number, however it is given: 5000000000000 × 10 ^ -12 is 5
-- zeros at the end of the digits, at most so many
unfoldable pub zeros_at_end : ℕ → ℕ → ℕ
zeros_at_end zero digits = 0
zeros_at_end (suc n) digits = cond (eqb (digits % 10) 0) (suc (zeros_at_end n (digits / 10))) 0

-- with n zeros less behind the point
unfoldable pub without_zeros : ℤ → ℕ → ℕ → Value
without_zeros power digits n = Given (sub_ℕ 0 (below power - n)) (digits / 10 ^ n)

-- the same number without zeros at the end of what stands behind the point, of which 64 bits hold nineteen at most; a power that no number in
-- range has is left
unfoldable pub plain : Value → Value
plain Absent = Absent
plain (Given power digits) =
    cond (eqb digits 0) (Given (pos 0) 0)
    (cond (eqb (below power) 0 || ltb 999 (below power)) (Given power digits) (without_zeros power digits (zeros_at_end (min (below power) 19) digits)))
