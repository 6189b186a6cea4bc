-- For the contracts of this crate's inner functions only: the stages as they stand in the records of a case.
use Rattle.std.specs.Prelude.{List, ℕ, get_or}
use Rattle.pair.specs.declared.Pair.{Pair}
use Rattle.pair.specs.Calls.{Outcome, is, one_pair, after, product}
use Rattle.times.specs.declared.Years.{Years}
use Rattle.slots.specs.Slots.{place_of}
use Rattle.equations.specs.Formula.{pairs}
use Rattle.cases.specs.declared.Record.{Record}
use Rattle.sizes.specs.Sizes.{most_stages, slots_per_record}
use Rattle.lists.specs.Lists.{tabulate}
use Rattle.cases.specs.Cases.{no_record, value_at}
use Rattle.scenario.specs.Scenario.{or_no_pair, pair_of, time_given}
use Rattle.composite.specs.Composite.{composed}

-- the pair at place k of record j
unfoldable pub pair_in : List Record → ℕ → ℕ → Pair
pair_in records j k = pair_of (value_at (get_or records j no_record) k)

unfoldable pub stage_in : List Record → ℕ → ℕ → Outcome Pair
stage_in records j k = is (pair_in records j k)

unfoldable pub years_in : List Record → List Pair
years_in records = tabulate most_stages (λ j. pair_in records j (place_of "years"))

-- the years of stage j, and years × value at place k, from the years as they were entered
unfoldable pub year_at : List Pair → ℕ → Outcome Pair
year_at years j = is (get_or years j one_pair)

unfoldable pub weight_at : List Record → List Pair → ℕ → ℕ → Outcome Pair
weight_at records years k j = after product (year_at years j) (stage_in records j k)

-- the years of stage j as printed
unfoldable pub time_in : List Record → ℕ → Years
time_in records j = time_given (value_at (get_or records j no_record) (place_of "years"))

-- the composite's values, place by place
unfoldable pub composed_in : List Record → Outcome Pair → ℕ → List Pair
composed_in records exposure last = tabulate slots_per_record (λ k. or_no_pair (composed pairs (stage_in records) exposure last k))
