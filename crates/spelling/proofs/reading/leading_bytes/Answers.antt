-- `spelling::reading::leading_bytes` meets its contract: what lies before the first byte outside, or all.
-- Assumes nothing.
use mathlib.Core.Path.{ap, ◌∙◌}
use lib.ListN.{length}
use Rattle.std.specs.Option.{unwrap_or}
use Rattle.spelling.proofs.Leading.{found_is}
use Rattle.spelling.proofs.reading.leading_bytes.Goals as goal

pub returns : goal.returns
returns c = let s = c.args.s.now in
    c.unwrap_or.ensures ∙ ap (λ o. unwrap_or o (length s)) c.first_outside.ensures ∙ found_is c.args.lo c.args.hi s
