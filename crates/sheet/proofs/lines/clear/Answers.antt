-- Every cell is 0. Assumes nothing.
use borrow.Author.Rules.{rules}
use mathlib.Core.Path.{ap, ◌∙◌}
use lib.ListN.{replicate}
use Rattle.lists.proofs.Tabulated.{all_alike}
use Rattle.sheet.specs.Counts.{no_cells, all_cells}
use Rattle.sheet.proofs.lines.clear.Goals as goal

pub returns : goal.returns
unfolding no_cells
returns c = c.fill.ensures.after (λ y e. search rules) ∙ ap (λ n. replicate n 0) c.requires ∙ all_alike 0 all_cells
