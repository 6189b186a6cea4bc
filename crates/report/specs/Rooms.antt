-- The rooms that a program lends to a call: for the deck a byte more than the longest has, and for the report as many bytes as the longest has.
-- With these no answer is lost: 51 is never told, and input past the deck's room changes nothing.
-- Assumes nothing.
use Rattle.std.specs.Prelude.{◌≡◌, List, ◌≢◌, ℕ, ◌+◌, ◌*◌, ◌<◌, length, take}
use Rattle.slots.specs.declared.Sort.{Sort}
use Rattle.sizes.specs.Sizes.{most_receptors, most_lines}
use Rattle.deck.specs.DeckConditions.{max_length}
use Rattle.text.specs.Text.{report_line_width}
use Rattle.report.specs.Forms.{Call, outcome_of, buffer_of}

abbrev pub deck_room : Sort → ℕ
deck_room sort = max_length sort + 1

-- the report of so many receptors, each with all lines that a deck can have, and a total line
abbrev pub longest_for : ℕ → ℕ
longest_for receptors = report_line_width * (receptors * (most_lines + 1))

-- 36,860 bytes
abbrev pub longest_report : ℕ
longest_report = longest_for most_receptors

pub record Rooms (call : Call) (longest : ℕ) : Type 0 where
  -- with room for the longest report no deck is told 51
  pub never_51 : (deck : List ℕ) → (outcome_of call deck longest).number ≢ 51
  -- a byte more than the longest deck, or any number more, is 11, whatever is in it
  pub too_long : (deck : List ℕ) (room : ℕ) → max_length call.sort < length deck → outcome_of call deck room ≡ record { number = 11; line = 0; field = 0 }
  -- input of any length is told, and written, as that part of it is for which the deck has room
  pub told : (input : List ℕ) (room : ℕ) → outcome_of call (take (deck_room call.sort) input) room ≡ outcome_of call input room
  pub written : (input buffer : List ℕ) → buffer_of call (take (deck_room call.sort) input) buffer ≡ buffer_of call input buffer
