-- `deck::scanning::scan_lines` meets its contract. The invariant: what is carried is what the lines before say, and none of their conditions holds.
-- Assumes nothing.
use Prim.Native.Nat.{ℕ, ◌+◌, ◌/◌, ◌<◌}
use mathlib.Core.Bool.{cond}
use Rattle.std.proofs.lemmas.Result.{err_from_is_err_and, IfOk-weaker}
use Rattle.cases.specs.Conditions.{passed, stopped, status_of}
use Rattle.kinds.specs.Kinds.{is_end}
use native.Mathlib.Omega.{arith}
use mathlib.Core.Path.{ap, ◌∙◌}
use lib.ListN.{length}
use Rattle.deck.proofs.Kept.{kept_none, kept_more, kept_all}
use Rattle.deck.proofs.Scan.{all, in_room, scanned_start, scan_out, scan_on, scan_end, scan_counts, line_chunk}
use Rattle.deck.specs.Parts.{deck_line_width}
use Rattle.deck.proofs.scanning.scan_lines.Goals as goal

pub loop-n-init : goal.loop-n-init
loop-n-init c = record { scanned = scanned_start c.args.sort c.args.deck.now; kept = kept_none c.args.deck.now _ c.requires.1 }

pub returns-in_err-line_status-clause-status_value : goal.returns-in_err-line_status-clause-status_value
unfolding status_of
returns-in_err-line_status-clause-status_value c =
    let a = c.args in
    let l = c.loop-n in
    let more : l.n < length a.deck.now / deck_line_width = omega (arith, c.loop-n-test.true, c.as_chunks.ensures.front_len) in
    let line = line_chunk a.deck.now l.n _ _ c.as_chunks.ensures.front more in
    let p = err_from_is_err_and c.from_residual.result c.from_residual.ensures.1 in
    rw (p.1, p.2) (scan_out a.sort a.deck.now _ l.n _ l.invariant.scanned line _ c.line_status.ensures.value more _ c.in_err-line_status.was _)

pub loop-n-preserved : goal.loop-n-preserved
loop-n-preserved c =
    let a = c.args in
    let l = c.loop-n in
    let more : l.n < length a.deck.now / deck_line_width = omega (arith, c.loop-n-test.true, c.as_chunks.ensures.front_len) in
    let line = line_chunk a.deck.now l.n _ _ c.as_chunks.ensures.front more in
    record {
      scanned = scan_on a.sort a.deck.now _ l.n _ l.invariant.scanned line _ c.line_status.ensures.value more c.in_ok-line_status.was _ _ _ c.kind_of.ensures c.id_of.ensures c.after-seen.ensures;
      kept = kept_more a.deck.now l.n _ l.values _ (omega (arith, more, c.requires.0)) line (c.line_status.ensures.values_after c.in_ok-line_status.was) l.invariant.kept;
    }

pub returns-clause-status_value : goal.returns-clause-status_value
returns-clause-status_value c =
    let a = c.args in
    let l = c.loop-n in
    let lines = c.as_chunks.ensures.front_len in
    scan_end a.sort a.deck.now _ _ l.invariant.scanned (omega (arith, c.loop-n-test.false, lines)) _ (c.ended.ensures.status_value ∙ ap (λ (n : ℕ). cond (is_end l.seen.kind) passed (stopped 21 (n + 1) 0)) lines)

pub returns-clause-counts_value : goal.returns-clause-counts_value
returns-clause-counts_value c =
    let a = c.args in
    let l = c.loop-n in
    IfOk-weaker c.ended.result _ _ (λ scan counts. scan_counts a.sort a.deck.now _ _ l.invariant.scanned (omega (arith, c.loop-n-test.false, c.as_chunks.ensures.front_len)) _ _ counts) c.ended.ensures.counts_value

pub returns-clause-counts_few : goal.returns-clause-counts_few
returns-clause-counts_few c =
    let s = c.loop-n.invariant.scanned in
    IfOk-weaker c.ended.result _ _ (λ scan counts. (omega (arith, s.few_c, counts.0), omega (arith, s.few_r, in_room c.args.sort, counts.1))) c.ended.ensures.counts_value

pub returns-clause-values_after : goal.returns-clause-values_after
returns-clause-values_after c =
    let a = c.args in
    let l = c.loop-n in
    let whole = all a.sort a.deck.now _ _ l.invariant.scanned (omega (arith, c.loop-n-test.false, c.as_chunks.ensures.front_len)) in
    IfOk-weaker c.ended.result _ _ (λ scan counts. kept_all a.deck.now l.n _ (omega (arith, l.invariant.scanned.bound, c.requires.0)) whole l.invariant.kept) c.ended.ensures.counts_value
