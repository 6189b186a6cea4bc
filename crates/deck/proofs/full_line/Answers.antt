-- `deck::full_line` meets its contract: a line of the full width is a line as a whole.
-- Assumes nothing.
use Rattle.deck.proofs.DeckCaseLaws.{whole_line}
use Rattle.deck.proofs.full_line.Goals as goal

pub returns : goal.returns
returns c = whole_line (λ y. y.now) _ _ 81 c.line.ensures c.as_array.result c.as_array.ensures.cases
