-- No function of the library returns this number, whatever it is called with. One field for each function, over the definition that its
-- promise in src/lib.rt names.
use Rattle.std.specs.Prelude.{List, ◌≢◌, ℕ, ℤ}
use Rattle.pair.specs.declared.Units.{Units}
use Rattle.pair.specs.Calls as calls
use Rattle.equations.specs.Series.{phi, psi, pair_series}
use Rattle.slots.specs.declared.Sort.TheVariants.{Ordinary, Composite}
use Rattle.totals.specs.Totals.{total_of}
use Rattle.report.specs.Forms.{outcome_of}
use Rattle.report.specs.Report.{ordinary}
use Rattle.composite.specs.Composite.{composite}
use Rattle.zilmorga.specs.Numbers.{numbers_of}
use Rattle.zilmorga.specs.Calls.{leaves, read_told, on_one_pair, on_two_pairs, comparison, units_left}

pub record Never (n : ℕ) : Type 0 where
  pub report : (deck : List ℕ) (room : ℕ) → (outcome_of ordinary deck room).number ≢ n
  pub composite_report : (deck : List ℕ) (room : ℕ) → (outcome_of composite deck room).number ≢ n
  pub read : (deck : List ℕ) → (read_told Ordinary deck).number ≢ n
  pub composite_read : (deck : List ℕ) → (read_told Composite deck).number ≢ n
  pub total : (list : List ℕ) (before : ℕ) → (leaves (λ k. k) (total_of list) before).number ≢ n
  pub entry : (digits : ℕ) (power : ℤ) (before : List ℤ) → (leaves numbers_of (calls.entry digits power) before).number ≢ n
  pub one_minus_entry : (digits : ℕ) (power : ℤ) (before : List ℤ) → (leaves numbers_of (calls.one_minus_entry digits power) before).number ≢ n
  pub sum : (a b before : List ℤ) → (on_two_pairs calls.sum a b before).number ≢ n
  pub product : (a b before : List ℤ) → (on_two_pairs calls.product a b before).number ≢ n
  pub quotient : (a b before : List ℤ) → (on_two_pairs calls.quotient a b before).number ≢ n
  pub one_minus : (f before : List ℤ) → (on_one_pair calls.one_minus f before).number ≢ n
  pub series : (x before : List ℤ) → (on_one_pair (λ p. pair_series phi (calls.is p)) x before).number ≢ n
  pub mean_series : (x before : List ℤ) → (on_one_pair (λ p. pair_series psi (calls.is p)) x before).number ≢ n
  pub compare : (a b : List ℤ) (before : ℕ) → (comparison a b before).number ≢ n
  pub in_units : (p : List ℤ) (unit : ℤ) (before : Units) → (units_left p unit before).number ≢ n
