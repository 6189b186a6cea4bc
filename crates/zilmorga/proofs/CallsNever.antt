-- No function of the library returns 41: the calls on pairs are refused by 53 alone, the totals call by 52, and no condition of a deck or of a
-- report has this number. Assumes nothing.
use mathlib.Core.Path.{refl, sym, ◌∙◌}
use mathlib.Core.Bool.{Bool, true, false, cond, ◌&&◌}
use mathlib.Core.List.{List}
use mathlib.Core.Logic.{◌≢◌}
use Prim.Native.Nat.{ℕ}
use native.Mathlib.Omega.{arith}
use lib.Dec.{leb, lit<}
use lib.IntN.{ℤ}
use lib.ListN.{length}
use Rattle.pair.specs.declared.Number.{Number}
use Rattle.pair.specs.declared.Pair.{Pair}
use Rattle.pair.specs.declared.Units.{Units}
use Rattle.pair.specs.Calls as calls
use Rattle.pair.specs.Calls.{Outcome, is, refused}
use Rattle.pair.proofs.Refusals.{OnlyBy, is_by, refused_by_lem, provided_by, after_by, after_one_by, entry_by, one_minus_entry_by, sum_by, product_by, quotient_by, one_minus_by, compared_by, in_units_by}
use Rattle.equations.specs.Series.{phi, psi, pair_series}
use Rattle.equations.proofs.PageRefusals.{series_by}
use Rattle.slots.specs.declared.Sort.{Sort}
use Rattle.slots.specs.declared.Sort.TheVariants.{Ordinary, Composite}
use Rattle.cases.specs.Conditions.{first}
use Rattle.deck.specs.DeckConditions.{conditions}
use Rattle.deck.specs.DeckCase.{read_of}
use Rattle.deck.proofs.ReadLaws.{reading_status}
use Rattle.cases.proofs.FirstMet.{told_without}
use Rattle.deck.proofs.DeckWithout.{deck_without}
use Rattle.sizes.specs.Sizes.{most_lines}
use Rattle.totals.specs.Totals.{largest_number, list_sum, all_at_most, total_of}
use Rattle.report.specs.Report.{ordinary}
use Rattle.report.proofs.ReportNever.{report_never}
use Rattle.composite.specs.Composite.{composite}
use Rattle.zilmorga.specs.Numbers.{number_of, and_then, pair_from, compared_if, numbers_of}
use Rattle.zilmorga.specs.Calls.{leaves, read_told, on_one_pair, on_two_pairs, as_number, comparison, units_left}
use Rattle.zilmorga.specs.Never.{Never}

-- ---- what is refused by another number alone
left_never : {A B : Type 0} (m : ℕ) → m ≢ 41 → (spelled : A → B) (o : Outcome A) (before : B) → OnlyBy m o → (leaves spelled o before).number ≢ 41
unfolding leaves
left_never m z spelled (is x) before h e = omega arith
left_never m z spelled (refused n) before h e = z (sym (h n refl) ∙ e)

by_53 : {A B : Type 0} (spelled : A → B) (o : Outcome A) (before : B) → OnlyBy 53 o → (leaves spelled o before).number ≢ 41
by_53 = left_never 53 (λ e. omega arith)

and_then_by : {A B : Type 0} (x : Outcome A) (f : A → Outcome B) → OnlyBy 53 x → ((a : A) → OnlyBy 53 (f a)) → OnlyBy 53 (and_then x f)
unfolding and_then
and_then_by (is a) f h k = k a
and_then_by (refused n) f h k = λ m e. h m (cc)

-- ---- what a caller wrote
number_by : (m e : ℤ) → OnlyBy 53 (number_of m e)
unfolding number_of
number_by m e = provided_by _ _ (is_by _)

pair_by : (list : List ℤ) → OnlyBy 53 (pair_from list)
unfolding pair_from
pair_by list = and_then_by _ _ (number_by _ _) (λ low. and_then_by _ _ (number_by _ _) (λ high. is_by _))

one_never : (f : Pair → Outcome Pair) → ((p : Pair) → OnlyBy 53 (f p)) → (a before : List ℤ) → (on_one_pair f a before).number ≢ 41
unfolding on_one_pair
one_never f h a before = by_53 numbers_of _ before (after_one_by f h (pair_from a) (pair_by a))

two_never : (f : Pair → Pair → Outcome Pair) → ((p q : Pair) → OnlyBy 53 (f p q)) → (a b before : List ℤ) → (on_two_pairs f a b before).number ≢ 41
unfolding on_two_pairs
two_never f h a b before = by_53 numbers_of _ before (after_by f h (pair_from a) (pair_from b) (pair_by a) (pair_by b))

compared_if_lem : (x y : Outcome Number) → OnlyBy 53 x → OnlyBy 53 y → OnlyBy 53 (compared_if x y)
unfolding compared_if
compared_if_lem x y h k = and_then_by _ _ h (λ a. and_then_by _ _ k (λ b. compared_by a b))

compare_never : (a b : List ℤ) (before : ℕ) → (comparison a b before).number ≢ 41
unfolding comparison
compare_never a b before = by_53 as_number _ before (compared_if_lem _ _ (number_by _ _) (number_by _ _))

units_never : (p : List ℤ) (unit : ℤ) (before : Units) → (units_left p unit before).number ≢ 41
unfolding units_left
units_never p unit before = by_53 (λ n. n) _ before (and_then_by _ _ (pair_by p) (λ q. in_units_by q unit))

-- ---- totals, by 52
cond_by : {A : Type 0} (b : Bool) (x : A) → OnlyBy 52 (cond b (is x) (refused 52))
cond_by true x = is_by x
cond_by false x = refused_by_lem 52

total_by : (list : List ℕ) → OnlyBy 52 (total_of list)
unfolding total_of
total_by list = cond_by (leb (length list) most_lines && all_at_most largest_number list) (list_sum list)

-- ---- a deck read alone
read_never : (sort : Sort) (deck : List ℕ) → (read_told sort deck).number ≢ 41
unfolding read_told read_of
read_never sort deck =
    rw (reading_status (first (conditions sort deck)) deck) (told_without 41 (λ e. omega arith) (conditions sort deck) (deck_without 41 (lit< tt) sort deck))

pub never_41 : Never 41
never_41 =
    record {
      report = report_never ordinary;
      composite_report = report_never composite;
      read = read_never Ordinary;
      composite_read = read_never Composite;
      total = λ list before. left_never 52 (λ e. omega arith) (λ k. k) (total_of list) before (total_by list);
      entry = λ digits power before. by_53 numbers_of _ before (entry_by digits power);
      one_minus_entry = λ digits power before. by_53 numbers_of _ before (one_minus_entry_by digits power);
      sum = two_never calls.sum sum_by;
      product = two_never calls.product product_by;
      quotient = two_never calls.quotient quotient_by;
      one_minus = one_never calls.one_minus one_minus_by;
      series = one_never (λ p. pair_series phi (is p)) (series_by phi);
      mean_series = one_never (λ p. pair_series psi (is p)) (series_by psi);
      compare = compare_never;
      in_units = units_never;
    }
