-- The slots are the record's part of the values, then empty. Assumes nothing.
use Prim.Native.Nat.{ℕ, ◌+◌, ◌*◌, ◌-◌}
use mathlib.Core.Path.{◌≡◌, ap, ◌∙◌}
use native.Mathlib.Omega.{arith}
use lib.ListN.{drop, replicate}
use Rattle.sizes.specs.Sizes.{slots_per_record, fields_per_line}
use Rattle.cases.specs.declared.Value.TheVariants.{Absent}
use Rattle.deck.proofs.DeckCaseLaws.{record_is}
use Rattle.deck.proofs.Kept.{kept_length, part_kept, drop_replicate}
use Rattle.deck.proofs.records.Fields.record_at.Goals as goal

pub slice_bounds-copy_from_slice-end-2 : goal.slice_bounds-copy_from_slice-end-2
slice_bounds-copy_from_slice-end-2 c = omega (arith, kept_length _ _ c.args.self.now.kept, c.requires)

pub returns : goal.returns
returns c =
    let a = c.args in
    let p = c.requires in
    let s = a.self.now in
    let count : ℕ = a.lines * fields_per_line in
    let at : ℕ = fields_per_line * (a.n - 1) in
    let cut : at + count - at ≡ count = omega arith in
    let room : slots_per_record ≡ count + (slots_per_record - count) = omega (arith, p) in
    record_is s.deck.now a.n a.lines _ _ _ c.id_at.ensures (rw cut at c.copy_from_slice.ensures.after ∙ part_kept s.deck.now s.values.now a.n a.lines s.kept p.0.0 p.0.1)
    (ap (λ (m : ℕ). drop count (replicate m Absent)) room ∙ drop_replicate count (slots_per_record - count) Absent)
