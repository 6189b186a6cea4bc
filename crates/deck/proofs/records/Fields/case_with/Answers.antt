-- `deck::records::Fields::case_with` meets its contract: the site, the chemicals and the receptors, each by its own contract.
-- Assumes nothing.
use Rattle.deck.proofs.DeckCaseLaws.{case_is}
use Rattle.deck.proofs.records.Fields.case_with.Goals as goal

pub returns : goal.returns
returns c = case_is c.args.self.now.deck.now _ _ _ _ _ c.record_at.ensures c.records_at.ensures c.records_at-2.ensures
