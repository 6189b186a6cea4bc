-- The length first, then the lines in turn; the case only where no condition holds. Assumes nothing.
use mathlib.Core.Path.{refl, ap, ◌∙◌}
use Rattle.std.specs.Prelude.{Err}
use Rattle.std.proofs.lemmas.Result.{err_from_is_err_and}
use Rattle.cases.specs.Conditions.{status_of}
use Rattle.deck.proofs.ReadLaws.{read_length, read_stopped, read_case, with_told}
use Rattle.deck.proofs.Scan.{length_held}
use Rattle.deck.proofs.read.Goals as goal

pub returns-then-bad_length : goal.returns-then-bad_length
returns-then-bad_length c =
    let r = with_told c.args.sort c.args.deck.now _ (ap Err c.at.ensures ∙ read_length c.args.sort c.args.deck.now _ c.bad_length.ensures c.if-bad_length.true) in
    record { value = r.0; status_value = r.1 }

pub scan_lines-requires : goal.scan_lines-requires
scan_lines-requires c = (length_held c.args.sort c.args.deck.now _ c.bad_length.ensures c.if-bad_length.false, refl)

pub returns-in_err-scan : goal.returns-in_err-scan
unfolding status_of
returns-in_err-scan c =
    let a = c.args in
    let p = err_from_is_err_and c.from_residual.result c.from_residual.ensures.1 in
    let stop = read_stopped a.sort a.deck.now _ c.bad_length.ensures c.if-bad_length.false _ c.scan_lines.ensures.status_value _ (ap status_of c.in_err-scan.was) in
    let r = with_told a.sort a.deck.now _ (p.1 ∙ ap Err p.2 ∙ stop) in
    record { value = r.0; status_value = r.1 }

pub invariant_of-fields : goal.invariant_of-fields
invariant_of-fields c = record { kept = c.in_ok-scan.ensures.values_after }

pub returns : goal.returns
unfolding status_of
returns c =
    let a = c.args in
    let r = with_told a.sort a.deck.now _ (read_case a.sort a.deck.now _ c.bad_length.ensures c.if-bad_length.false _ c.scan_lines.ensures.status_value (ap status_of c.in_ok-scan.was) _ _ c.in_ok-scan.ensures.counts_value _ c.case_with.ensures) in
    record { value = r.0; status_value = r.1 }
