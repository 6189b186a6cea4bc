-- `deck::field` meets its contract: a deck that lacks the line lacks the field.
-- Assumes nothing.
use Rattle.deck.proofs.DeckCaseLaws.{field_lacking}
use Rattle.deck.proofs.field.Goals as goal

pub returns-in-None : goal.returns-in-None
returns-in-None c = field_lacking c.args.deck.now c.args.n c.args.f c.in-None.ensures
