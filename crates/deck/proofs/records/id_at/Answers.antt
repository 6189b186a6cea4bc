-- `deck::records::id_at` meets its contract: a line that the deck lacks has no id.
-- Assumes nothing.
use Rattle.deck.proofs.DeckCaseLaws.{id_lacking}
use Rattle.deck.proofs.records.id_at.Goals as goal

pub returns-in-None : goal.returns-in-None
returns-in-None c = id_lacking c.args.deck.now c.args.n c.in-None.ensures
