-- Nothing is read as 1 in silence: every letter of the page is a slot of the table, and but for a line's own reference value one that a deck needs. So
-- what a line reads is never a missing value: without its reference value it is not worked, and a record that lacks another one is refused.
-- Assumes nothing.
use mathlib.Core.Path.{◌≡◌, refl}
use mathlib.Core.Bool.{Bool, true, not, ◌&&◌, ◌||◌}
use Rattle.slots.specs.declared.Guidance.{Guidance}
use Rattle.slots.specs.Slots.{Slot, table, same, is_in, place_in, entry_rule, owner_of, place_of, rule_of}
use Rattle.equations.specs.declared.Pathway.{Pathway}
use Rattle.equations.specs.declared.Effect.{Effect}
use Rattle.equations.specs.declared.Stay.{Stay}
use Rattle.equations.specs.Formula.{Letter, slot, rest, later, g_at_x, h_at_x, g_at_x'}
use Rattle.equations.specs.Page as page
use Rattle.equations.specs.Page.{x, x', reference_slot}
use Rattle.equations.specs.Ahead.{only}
use Rattle.equations.proofs.Pathways.{pathways, passes, on_each, by_either, on_guided}

-- a slot of the table that a deck needs
unfoldable pub is_needed : Slot → Bool
is_needed s = is_in (table (owner_of s)) s && not ((rule_of s).dash || (rule_of s).blank)

-- a letter that is one, or the slot that is named; T2 − tD, g and h are made of such
unfoldable pub is_read : Slot → Letter → Bool
is_read own (slot s) = is_needed s || same s own && is_in (table (owner_of s)) s
is_read own (rest s) = is_needed s
is_read own later = is_needed "T2" && is_needed "tD"
is_read own g_at_x = true
is_read own h_at_x = true
is_read own g_at_x' = true

-- x and x', from which g and h are worked
pub loss_read : (only (is_read "") x ≡ true) × (only (is_read "") x' ≡ true)
unfolding only is_read is_needed rule_of entry_rule table same is_in place_in owner_of place_of x x' page.k page.u page.kse page.ksr page.ksl
loss_read = (refl, refl)

-- every line
pub line_read : (y : Guidance) (e : Effect) (stay : Stay) (p : Pathway) → only (is_read (reference_slot e p)) (page.line y e stay p) ≡ true
unfolding passes pathways on_each by_either only is_read is_needed rule_of entry_rule table same is_in place_in owner_of place_of page.line page.by_guidance page.air_line page.air_figure_by page.time_share page.time_in_air page.intake_line page.figure_by page.intake page.factor page.medium page.by_medium page.soil page.mean page.gathered page.exposure page.B page.AT page.reference page.reference_slot page.by_route page.A page.C page.D page.above_ground page.below_ground x x' page.k page.u page.kse page.ksr page.ksl
line_read = on_guided (λ y e stay p. only (is_read (reference_slot e p)) (page.line y e stay p)) refl
