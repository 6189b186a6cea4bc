-- What calls on memory tell of a case that no deck could hold, and of values given in another way than a deck spells them: document 01's example in
-- memory, with one thing changed each time.
-- Assumes nothing.
use Rattle.std.specs.Prelude.{◌≡◌, true, List, [], ◌∷◌, ◌++◌, ℕ, ◌-◌, ℤ, pos, negsuc, length, replicate, set}
use Rattle.pair.specs.Calls.{is, entry, one_minus_entry}
use Rattle.times.specs.Times as years
use Rattle.sizes.specs.Sizes.{slots_per_record, max_chemicals, most_stages}
use Rattle.slots.specs.Slots.{Slot, place_of}
use Rattle.equations.specs.declared.Effect.TheVariants.{Hazard}
use Rattle.equations.specs.declared.Pathway.TheVariants.{Air}
use Rattle.cases.specs.declared.Case.{Case}
use Rattle.cases.specs.declared.Record.{Record}
use Rattle.cases.specs.Conditions.{passed, stopped}
use Rattle.cases.specs.declared.Value.{Value}
use Rattle.cases.specs.declared.Value.TheVariants.{Absent, Given}
use Rattle.cases.specs.Cases.{no_record, no_case}
use Rattle.cases.specs.Conditions.{first}
use Rattle.scenario.specs.Scenario.{pair_of, rest_of, time_given, no_time, ordinary_of, scenario_conditions, is_unpaired}
use Rattle.sheet.specs.Sheet.{unworked}
use Rattle.figures.specs.Figures.{All}

-- whole numbers, and n × 10 ^ -k
unfoldable pub given : ℕ → Value
given n = Given (pos 0) n

unfoldable pub record_with : ℕ → List Value → Record
record_with id' values = record { id = id'; slots = values ++ replicate (slots_per_record - length values) Absent }

-- the example: its site, chemical and receptor
unfoldable pub site : Record
site =
    record_with 1
    (given 10 ∷ given 2 ∷ given 30 ∷ Given (negsuc 0) 2 ∷ given 0 ∷ given 0 ∷ given 0 ∷ given 0 ∷ given 0 ∷ Given (negsuc 1) 1 ∷ Given (negsuc 0) 5 ∷ [])

unfoldable pub chemical : Record
chemical =
    record_with 1
    (given 1 ∷ given 1 ∷ given 1 ∷ given 0 ∷ given 0 ∷ given 1 ∷ given 0 ∷ given 0 ∷ Given (negsuc 2) 1 ∷ given 0 ∷ given 100 ∷ given 0
    ∷ given 0 ∷ Given (negsuc 0) 1 ∷ given 10 ∷ given 1 ∷ given 1 ∷ Given (negsuc 0) 1 ∷ Given (negsuc 2) 1 ∷ Given (negsuc 2) 1 ∷ given 1 ∷ [])

unfoldable pub receptor : Record
receptor =
    record_with 1
    (given 20 ∷ given 5 ∷ given 27375 ∷ given 10 ∷ given 1 ∷ given 365 ∷ given 80 ∷ given 1 ∷ given 73 ∷ given 146 ∷ given 1000 ∷ Given (negsuc 1) 2
    ∷ given 400 ∷ Given (negsuc 0) 1 ∷ given 1 ∷ Given (negsuc 0) 1 ∷ Given (negsuc 0) 5 ∷ Given (negsuc 0) 2 ∷ Given (negsuc 0) 5 ∷ given 1 ∷ given 365 ∷ given 1 ∷ [])

unfoldable pub case_of_three : Record → Record → Record → Case
case_of_three s c r =
    record {
      site = s;
      chemicals = record { count = 1; records = c ∷ replicate (max_chemicals - 1) no_record };
      receptors = record { count = 1; records = r ∷ replicate (most_stages - 1) no_record };
    }

-- with another value in a slot, or another id
unfoldable pub with : Record → Slot → Value → Record
with r s v = record { id = r.id; slots = set r.slots (place_of s) v }

unfoldable pub under : ℕ → Record → Record
under id' r = record { id = id'; slots = r.slots }

unfoldable pub memories : List (Type 0)
memories =
    -- the example passes
    (first (scenario_conditions (ordinary_of (case_of_three site chemical receptor))) ≡ passed)
    -- a case with nothing in it
    ∷ (first (scenario_conditions (ordinary_of no_case)) ≡ stopped 21 0 0)
    -- a receptor's id 2000001
    ∷ (first (scenario_conditions (ordinary_of (case_of_three site chemical (under 2000001 receptor)))) ≡ stopped 22 0 0)
    -- a missing value in a needed slot, and Zs of 1E+13
    ∷ (first (scenario_conditions (ordinary_of (case_of_three (with site "Zs" Absent) chemical receptor))) ≡ stopped 32 0 0)
    ∷ (first (scenario_conditions (ordinary_of (case_of_three (with site "Zs" (Given (pos 0) 10000000000000)) chemical receptor))) ≡ stopped 33 0 0)
    -- a BW of 0: its first line's quotient is refused
    ∷ (unworked Hazard (ordinary_of (case_of_three site chemical (with receptor "BW" (Given (pos 0) 0)))) 0 0 Air ≡ true)
    -- a receptor that lacks BW likewise
    ∷ (unworked Hazard (ordinary_of (case_of_three site chemical (with receptor "BW" Absent))) 0 0 Air ≡ true)
    -- 5000000000000E-12 is 5, and 5000000000000E-13 leaves a half; 1234567890123E-12 has no pair
    ∷ (entry 5 (pos 0) ≡ is (pair_of (Given (negsuc 11) 5000000000000)))
    ∷ (one_minus_entry 5 (negsuc 0) ≡ is (rest_of (Given (negsuc 12) 5000000000000)))
    ∷ (is_unpaired (Given (negsuc 11) 1234567890123) ≡ true)
    -- a time of 10E-28 is 1E-27 years, and one of 1E-28 is none
    ∷ (years.printed 1 (negsuc 26) ≡ is (time_given (Given (negsuc 27) 10)))
    ∷ (time_given (Given (negsuc 27) 1) ≡ no_time)
    ∷ []

unfoldable pub CheckedMemories : Type 0
CheckedMemories = All memories
