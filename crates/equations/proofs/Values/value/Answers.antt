-- A place of the record, or 1. Assumes nothing.
use mathlib.Core.Path.{◌≡◌, sym}
use native.Mathlib.Omega.{arith}
use lib.ListN.{length, get_or-eq_default}
use Rattle.sizes.specs.Sizes.{slots_per_record}
use Rattle.pair.specs.Number.{one}
use Rattle.pair.specs.Calls.{one_pair}
use Rattle.equations.specs.Readings.{value_in}
use Rattle.lists.proofs.ListLaws.{read_any}
use Rattle.equations.proofs.Values.value.Goals as goal

pub returns-then-place-ge-SLOTS : goal.returns-then-place-ge-SLOTS
unfolding value_in one_pair one
returns-then-place-ge-SLOTS c =
    let s = c in
    let long : length s.args.self.list ≡ slots_per_record = s.well_formed.0.1.1.0.1.0.1 in
    sym (get_or-eq_default s.args.self.list one_pair (omega arith))

pub returns : goal.returns
unfolding value_in
returns c =
    let s = c in
    let long : length s.args.self.list ≡ slots_per_record = s.well_formed.0.1.1.0.1.0.1 in
    read_any s.args.self.list s.args.place (omega arith) _ one_pair
