-- `deck::fields::field_part` meets its contract: the tests that led to each way out say which field it is.
-- Assumes nothing.
use native.Mathlib.Omega.{arith}
use Prim.Native.Nat.{ℕ, ◌+◌, ◌*◌, ◌-◌}
use mathlib.Core.Path.{ap, sym, ◌∙◌}
use native.Mathlib.Nat.{add-sub_cancel_left}
use lib.ListN.{take, drop}
use Rattle.spelling.specs.Columns.{field_width}
use Rattle.deck.specs.Parts.{fields_start}
use Rattle.deck.proofs.PartLaws.{field_zero, field_past, field_is}
use Rattle.deck.proofs.fields.field_part.Goals as goal

pub returns-then-f-eq0 : goal.returns-then-f-eq0
returns-then-f-eq0 c = field_zero _ _ c.if-f-eq0.true

pub returns-then-f-gt-FIELDS : goal.returns-then-f-gt-FIELDS
returns-then-f-gt-FIELDS c = field_past _ _ c.if-f-gt-FIELDS.true

pub returns : goal.returns
returns c =
    let a = c.args in
    let at = fields_start + field_width * (a.f - 1) in
    ap (λ (k : ℕ). take k (drop at a.line.now)) (add-sub_cancel_left at field_width)
    ∙ sym (field_is a.line.now a.f (omega (arith, c.if-f-eq0.false)) c.if-f-gt-FIELDS.false)
