-- What a sheet is worked from: the values of a scenario's slots as pairs, and as exact fractions.
use Rattle.std.specs.Prelude.{ℕ, ◌-◌, ◌*◌, ◌^◌, Bool, true, false, cond, ◌||◌, List, map, ◌++◌, leb, ltb, ℤ, pos, get_or, replicate}
use Rattle.pair.specs.declared.Pair.{Pair}
use Rattle.pair.specs.Fraction.{Fraction}
use Rattle.pair.specs.Number.{zero, one}
use Rattle.pair.specs.Calls.{Outcome, is, refused, entry, one_minus_entry, zero_pair, one_pair}
use Rattle.pair.specs.Promises.{scaled}
use Rattle.times.specs.declared.Years.{Years}
use Rattle.times.specs.Times as years
use Rattle.slots.specs.declared.Guidance.{Guidance}
use Rattle.slots.specs.declared.Owner.TheVariants as owners
use Rattle.slots.specs.declared.Sort.TheVariants.{Ordinary}
use Rattle.slots.specs.Slots.{Slot, owner_of, place_of}
use Rattle.equations.specs.declared.Values.{Values}
use Rattle.equations.specs.declared.Stay.{Stay}
use Rattle.equations.specs.declared.Stay.TheVariants.{Within, Beyond}
use Rattle.equations.specs.Readings.{Inputs, by_owner, inputs}
use Rattle.cases.specs.declared.Case.{Case}
use Rattle.cases.specs.declared.Chemicals.{Chemicals}
use Rattle.cases.specs.declared.Ids.{Ids}
use Rattle.cases.specs.declared.Record.{Record}
use Rattle.cases.specs.declared.Value.{Value}
use Rattle.cases.specs.declared.Value.TheVariants.{Absent, Given}
use Rattle.cases.specs.Cases.{no_record, value_at, chemical_at, receptor_at, guidance_of, is_other_year, plain}
use Rattle.cases.specs.CaseConditions.{memory_conditions, lacks}
use Rattle.cases.specs.Conditions.{Condition}
use Rattle.lists.specs.Lists.{tabulate, any_of}
use Rattle.scenario.specs.declared.Receptor.{Receptor}
use Rattle.scenario.specs.declared.Receptors.{Receptors}
use Rattle.sizes.specs.Sizes.{max_chemicals, most_receptors, most_stages, slots_per_record}
use Rattle.scenario.specs.declared.Scenario.{Scenario}
use Rattle.scenario.specs.declared.Site.{Site}

-- what is no pair, from 1 down to 0: every call refuses it, so that no figure is worked from it
unfoldable pub no_pair : Pair
no_pair = record { low = one; high = zero }

unfoldable pub or_no_pair : Outcome Pair → Pair
or_no_pair (is p) = p
or_no_pair (refused n) = no_pair

-- what a call tells of a value as it is given or, where it refuses that, of the same value without zeros at its end
unfoldable pub of_value : {A : Type 0} → (ℕ → ℤ → Outcome A) → Value → Outcome A
of_value f Absent = refused 53
of_value f (Given power digits) = f digits power

unfoldable pub otherwise : {A : Type 0} → Outcome A → Outcome A → Outcome A
otherwise (is x) y = is x
otherwise (refused n) y = y

unfoldable pub told : {A : Type 0} → (ℕ → ℤ → Outcome A) → Value → Outcome A
told f v = otherwise (of_value f v) (of_value f (plain v))

-- as a pair: the entry of what is given, which an accepted deck always has (DemandTwo.antt of `report`). No line reads a missing value: without
-- its reference value it has -, and a record that lacks another one is refused (`lacks`); 1 stands in its place.
unfoldable pub pair_of : Value → Pair
pair_of (Given power digits) = or_no_pair (told entry (Given power digits))
pair_of Absent = one_pair

-- 1 less it, from what is printed
unfoldable pub rest_of : Value → Pair
rest_of (Given power digits) = or_no_pair (told one_minus_entry (Given power digits))
rest_of Absent = zero_pair

-- a record's, place by place
unfoldable pub values_of : Record → Values
values_of r = record { list = map pair_of r.slots }

-- the particle share of a chemical, 1 − Fv
unfoldable pub particles_of : Record → Pair
particles_of r = rest_of (value_at r (place_of "Fv"))

-- ---- a scenario: a site and chemicals as given, and receptors made of pairs. Whether a receptor's values were printed or made of life stages,
-- nothing after this asks.
abbrev pub scenario_from : Record → Chemicals → Receptors → Scenario
scenario_from site' chemicals' receptors' = record { site = site'; chemicals = chemicals'; receptors = receptors' }

-- no receptor: nothing is worked from it
unfoldable pub no_pairs : Values
no_pairs = record { list = replicate slots_per_record no_pair }

unfoldable pub no_receptor : Receptor
no_receptor = record { id = 0; values = no_pairs; stay = Within; later = no_pair }

-- chemical i and receptor j, from 0
unfoldable pub chemical_in : Scenario → ℕ → Record
chemical_in scenario i = get_or scenario.chemicals.records i no_record

unfoldable pub receptor_in : Scenario → ℕ → Receptor
receptor_in scenario j = get_or scenario.receptors.list j no_receptor

unfoldable pub stay_in : Scenario → ℕ → Stay
stay_in scenario j = (receptor_in scenario j).stay

-- the guidance that its site names by the year (document 02, P6)
unfoldable pub guidance_in : Scenario → Guidance
guidance_in scenario = guidance_of (value_at scenario.site (place_of "year"))

-- what is printed in a slot of the site or of chemical i; nothing is printed of a receptor made of pairs
unfoldable pub given_in : Scenario → ℕ → Slot → Value
given_in scenario i s = by_owner (owner_of s) (value_at scenario.site (place_of s)) (value_at (chemical_in scenario i) (place_of s)) Absent

-- every slot's value, 1 less it, and T2 − tD, for receptor j and chemical i, both counted from 0
unfoldable pub pairs_at : Scenario → ℕ → ℕ → Inputs Pair
pairs_at scenario j i =
    record {
      value = inputs (values_of scenario.site) (values_of (chemical_in scenario i)) (receptor_in scenario j).values;
      rest = λ s. rest_of (given_in scenario i s);
      later = (receptor_in scenario j).later;
    }

-- the site and the chemicals of a case, with these receptors
unfoldable pub scenario_with : Case → Receptors → Scenario
scenario_with case receptors' = scenario_from case.site case.chemicals receptors'

-- the exact values: what is printed of the site and of chemical i, and these of receptor j
unfoldable pub fraction_of : Value → Fraction
fraction_of (Given power digits) = scaled digits power
fraction_of Absent = scaled 1 (pos 0)

unfoldable pub exact_with : Case → (ℕ → Slot → Fraction) → ℕ → ℕ → Slot → Fraction
exact_with case receptor j i s =
    by_owner (owner_of s) (fraction_of (value_at case.site (place_of s))) (fraction_of (value_at (chemical_at case i) (place_of s))) (receptor j s)

-- ---- the exposure against the deposition (document 02, P4): T2 ≤ tD is decided, and T2 − tD taken, on the printed digits
-- what is no time: every call refuses it
unfoldable pub no_time : Years
no_time = record { high = 10 ^ 19; low = 0 }

unfoldable pub or_no_time : Outcome Years → Years
or_no_time (is y) = y
or_no_time (refused n) = no_time

-- a given time, exact
unfoldable pub time_given : Value → Years
time_given v = or_no_time (told years.printed v)

-- what cannot be compared goes beyond, where T2 − tD is no pair
unfoldable pub stay_if : Outcome Bool → Stay
stay_if (is true) = Within
stay_if (is false) = Beyond
stay_if (refused n) = Beyond

unfoldable pub later_if : Stay → Years → Years → Pair
later_if Within exposure deposition = one_pair
later_if Beyond exposure deposition = or_no_pair (years.beyond exposure deposition)

-- a receptor of these values, exposed for a time that is set against the deposition's
unfoldable pub receptor_with : ℕ → Values → Years → Years → Receptor
receptor_with id' values' exposure deposition =
    record {
      id = id';
      values = values';
      stay = stay_if (years.at_most exposure deposition);
      later = later_if (stay_if (years.at_most exposure deposition)) exposure deposition;
    }

unfoldable pub deposition_of : Record → Years
deposition_of site' = time_given (value_at site' (place_of "tD"))

-- ---- an ordinary deck's receptors: each slot's pair is the entry of what is printed, its exact value what is printed; where a needed value is
-- missing, nothing is worked
unfoldable pub values_if : Bool → Record → Values
values_if lacking r = cond lacking no_pairs (values_of r)

unfoldable pub entered : Years → Record → Receptor
entered deposition r = receptor_with r.id (values_if (lacks Ordinary owners.Receptor r) r) (time_given (value_at r (place_of "T2"))) deposition

unfoldable pub entered_from : Case → Receptors
entered_from case = record { count = case.receptors.count; list = tabulate most_receptors (λ j. entered (deposition_of case.site) (receptor_at case j)) }

unfoldable pub ordinary_of : Case → Scenario
ordinary_of case = scenario_with case (entered_from case)

unfoldable pub exact_from : Case → ℕ → Slot → Fraction
exact_from case j s = fraction_of (value_at (receptor_at case j) (place_of s))

unfoldable pub exact_at : Case → ℕ → ℕ → Slot → Fraction
exact_at case = exact_with case (exact_from case)

unfoldable pub no_guidance : Scenario → Bool
no_guidance scenario = is_other_year (value_at scenario.site (place_of "year"))

-- the exact value of each slot, for receptor j and chemical i, both counted from 0
abbrev pub Exact : Type 0
Exact = ℕ → ℕ → Slot → Fraction

-- whether the exact exposure goes beyond the exact deposition: T2 ≤ tD by multiplying across
unfoldable pub stay_by : Fraction → Fraction → Stay
stay_by T2 tD = cond (leb (T2.num * tD.den) (tD.num * T2.den)) Within Beyond

unfoldable pub exact_stay : (Slot → Fraction) → Stay
exact_stay env = stay_by (env "T2") (env "tD")

-- ---- a site as the lines take it: its year's guidance and its values
unfoldable pub site_of : Record → Site
site_of r = record { guidance = guidance_of (value_at r (place_of "year")); values = values_of r }

-- ---- a scenario in memory, whatever its values are
-- the ids of its receptors
unfoldable pub ids_of : Receptors → Ids
ids_of receptors' = record { count = receptors'.count; list = tabulate most_receptors (λ j. (get_or receptors'.list j no_receptor).id) ++ replicate (most_stages - most_receptors) 0 }

-- 21, 22, then 32 and 33 by slot of the site and the chemicals; the slots of receptors are pairs
unfoldable pub scenario_conditions : Scenario → List Condition
scenario_conditions scenario = memory_conditions Ordinary scenario.site scenario.chemicals (ids_of scenario.receptors)

-- some value of a record has no pair, since it has more than twelve digits; of a site also where tD is no time, since it has a digit below 1E-27
unfoldable pub is_refused : {A : Type 0} → Outcome A → Bool
is_refused (is x) = false
is_refused (refused n) = true

unfoldable pub is_unpaired : Value → Bool
is_unpaired Absent = false
is_unpaired (Given power digits) = is_refused (told entry (Given power digits))

unfoldable pub unpaired : Record → Bool
unpaired r = any_of (λ k. is_unpaired (value_at r k)) slots_per_record

unfoldable pub unpaired_in : Record → Chemicals → Bool
unpaired_in site' chemicals' =
    is_refused (told years.printed (value_at site' (place_of "tD")))
    || unpaired site'
    || ltb max_chemicals chemicals'.count
    || any_of (λ i. unpaired (get_or chemicals'.records i no_record)) chemicals'.count
