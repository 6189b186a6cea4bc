-- The conditions of a case in memory, part by part. Assumes nothing.
use mathlib.Core.Path.{◌≡◌, refl, sym, ◌∙◌, ap, ap₂}
use mathlib.Core.Bool.{Bool, true, false, cond, not, ◌||◌}
use Prim.Native.Nat.{ℕ, ◌+◌, ◌≤◌, ◌<◌}
use native.Mathlib.Nat.{eq-zero-or-pos}
use native.Mathlib.Numerals.{add-one}
use native.Mathlib.Omega.{arith}
use mathlib.Core.Logic.{⊎_elim}
use borrow.Author.Tests.{eqb-false, ltb-false, ne_eqb, le-ltb}
use lib.Dec.{leb, ltb, eqb}
use lib.IntN.{ℤ}
use lib.ListN.{length, get_or, take}
use Rattle.std.proofs.lemmas.List.{get_or-take, length-take-le}
use Rattle.std.specs.Prelude.{Err}
use Rattle.lists.specs.Lists.{any_of, chained}
use Rattle.lists.proofs.AnyOf.{any_of_lem, none_more}
use Rattle.lists.proofs.Chained.{chained_same}
use Rattle.lists.proofs.Booleans.{neither}
use Rattle.sizes.specs.Sizes.{max_chemicals, most_stages, slots_per_record}
use Rattle.slots.specs.declared.Owner.{Owner}
use Rattle.slots.specs.declared.Owner.TheVariants.{Site, Chemical}
use Rattle.slots.specs.declared.Sort.{Sort}
use Rattle.slots.specs.declared.Sort.TheVariants.{Ordinary, Composite}
use Rattle.cases.specs.Cases.{no_record, max_receptors}
use Rattle.slots.specs.declared.Rule.{Rule}
use Rattle.cases.specs.CaseConditions.{outside, counts_outside, most_id, id_before, id_wrong, ids_wrong, is_missing, is_stray, some_id_wrong, is_out_of_range, slot_conditions, record_conditions, chemical_conditions, source_conditions, memory_conditions}
use Rattle.cases.specs.Conditions.{Nowhere, Status, passed, stopped, Verdict, accepted, first, verdict_of}
use Rattle.cases.proofs.FirstMet.{or_else, first_append, each_append, each_chained, refused_stops, verdict_passed}
use Rattle.cases.specs.Ranges.{in_range}
use Rattle.cases.specs.declared.Refusal.{Refusal}
use Rattle.cases.specs.declared.Chemicals.{Chemicals}
use Rattle.cases.specs.declared.Ids.{Ids}
use Rattle.cases.specs.declared.Record.{Record}
use Rattle.cases.specs.declared.Value.{Value}
use Rattle.cases.specs.declared.Value.TheVariants.{Absent, Given}

-- ---- ids, record after record: id is that of record i, and before the one before it
module _ (ids : ℕ → ℕ) (i id' before : ℕ) (is-id : id' ≡ ids i) (is_before : before ≡ id_before ids i) (wrong : Bool) (told : wrong ≡ (leb id' before || ltb most_id id')) where
  wrong_is : wrong ≡ id_wrong ids i
  unfolding id_wrong
  wrong_is = told ∙ ap₂ (λ (a b : ℕ). leb a b || ltb most_id a) is-id is_before

  pub id_stops : wrong ≡ true → (n : ℕ) → i < n → true ≡ ids_wrong ids n
  unfolding ids_wrong
  id_stops h n l = sym (any_of_lem (id_wrong ids) i n (sym wrong_is ∙ h) l)

  pub id_on : wrong ≡ false → any_of (id_wrong ids) i ≡ false → (id' ≡ id_before ids (i + 1)) × (any_of (id_wrong ids) (i + 1) ≡ false)
  unfolding id_before
  id_on h none = (rw (add-one i) is-id, none_more (id_wrong ids) i none (sym wrong_is ∙ h))

-- ---- a slot, by its value
module _ (rule : Rule) (v : Value) where
  pub slot_missing : is_missing rule v ≡ true → stopped 32 0 0 ≡ first (slot_conditions rule v)
  unfolding slot_conditions first
  slot_missing h = rw h refl

  pub slot_absent : v ≡ Absent → is_missing rule v ≡ false → passed ≡ first (slot_conditions rule v)
  unfolding slot_conditions first is_stray is_out_of_range
  slot_absent e h = rw (h, e) refl

  module _ (power : ℤ) (digits : ℕ) (e : v ≡ Given power digits) where
    pub slot_stray : rule.used ≡ false → stopped 32 0 0 ≡ first (slot_conditions rule v)
    unfolding slot_conditions first is_missing is_stray
    slot_stray u = rw (e, u) refl

    -- a slot of the record: in its range or not
    ranged : (t : Bool) → in_range rule digits power ≡ t → rule.used ≡ true → cond t passed (stopped 33 0 0) ≡ first (slot_conditions rule v)
    unfolding slot_conditions first is_missing is_stray is_out_of_range
    ranged true r u = rw e (sym (ap₂ (λ (a b : Bool). cond (not a) (stopped 32 0 0) (cond (not b) (stopped 33 0 0) passed)) u r))
    ranged false r u = rw e (sym (ap₂ (λ (a b : Bool). cond (not a) (stopped 32 0 0) (cond (not b) (stopped 33 0 0) passed)) u r))

    pub slot_far : rule.used ≡ true → in_range rule digits power ≡ false → stopped 33 0 0 ≡ first (slot_conditions rule v)
    slot_far u r = ranged false r u

    pub slot_near : rule.used ≡ true → in_range rule digits power ≡ true → passed ≡ first (slot_conditions rule v)
    slot_near u r = ranged true r u

-- ---- lists of slots and records, one after another
module _ (f : ℕ → Bool) (k : ℕ) (b : Bool) (told : b ≡ f k) where
  pub any_stops : b ≡ true → (n : ℕ) → k < n → true ≡ any_of f n
  any_stops h n l = sym (any_of_lem f k n (sym told ∙ h) l)

  pub any_on : b ≡ false → any_of f k ≡ false → any_of f (k + 1) ≡ false
  any_on h none = none_more f k none (sym told ∙ h)

-- a slot with a value is not missing
pub given_there : (rule : Rule) (v : Value) (power : ℤ) (digits : ℕ) → v ≡ Given power digits → false ≡ is_missing rule v
unfolding is_missing
given_there rule v power digits e = rw e refl

-- under a rule that is the same
pub missing_under : (r s : Rule) (v : Value) (b : Bool) → b ≡ is_missing r v → r ≡ s → b ≡ is_missing s v
missing_under r s v b h e = h ∙ ap (λ (x : Rule). is_missing x v) e

pub slot_under : (r t : Rule) (v : Value) (s : Status) → s ≡ first (slot_conditions r v) → r ≡ t → s ≡ first (slot_conditions t v)
slot_under r t v s h e = h ∙ ap (λ (x : Rule). first (slot_conditions x v)) e

-- the same of the number alone
pub verdict_under : (r t : Rule) (v : Value) (s : Verdict) → s ≡ verdict_of (first (slot_conditions r v)) → r ≡ t → s ≡ verdict_of (first (slot_conditions t v))
verdict_under r t v s h e = h ∙ ap verdict_of (slot_under r t v (first (slot_conditions r v)) refl e)

-- ---- counts that are not outside
not_outside : (most n : ℕ) → outside most n ≡ false → (1 ≤ n) × (n ≤ most)
unfolding outside
not_outside most n h =
    let t = neither (eqb n 0) (ltb most n) h in
    (⊎_elim (λ z. absurd (eqb-false n 0 t.0 z)) (λ p. p) (eq-zero-or-pos n), ltb-false most n t.1)

inside_not : (most n : ℕ) → 1 ≤ n → n ≤ most → outside most n ≡ false
unfolding outside
inside_not most n a b = rw (ne_eqb n 0 (λ e. omega arith), le-ltb most n b) refl

pub counts_right : (sort : Sort) (c r : ℕ) → 1 ≤ c → c ≤ max_chemicals → 1 ≤ r → r ≤ max_receptors sort → counts_outside sort c r ≡ false
unfolding counts_outside
counts_right sort c r a b d e = rw (inside_not max_chemicals c a b, inside_not (max_receptors sort) r d e) refl

fewer : (sort : Sort) (n : ℕ) → n ≤ max_receptors sort → n ≤ most_stages
fewer Ordinary n h = omega arith
fewer Composite n h = h

pub counts_inside : (sort : Sort) (c r : ℕ) → counts_outside sort c r ≡ false → (1 ≤ c) × (c ≤ max_chemicals) × (1 ≤ r) × (r ≤ max_receptors sort) × (r ≤ most_stages)
unfolding counts_outside
counts_inside sort c r h =
    let t = neither (outside max_chemicals c) (outside (max_receptors sort) r) h in
    let a = not_outside max_chemicals c t.0 in
    let b = not_outside (max_receptors sort) r t.1 in
    (a.0, a.1, b.0, b.1, fewer sort r b.1)

-- ---- none of them names a line or a field
record_nowhere : (o : Owner) (r : Record) → Nowhere (record_conditions Ordinary o r)
unfolding record_conditions slot_conditions
record_nowhere o r = each_chained _ _ (λ k. ((refl, refl), ((refl, refl), tt))) slots_per_record

pub memory_nowhere : (sort : Sort) (site : Record) (chemicals : Chemicals) (receptors : Ids) → Nowhere (memory_conditions sort site chemicals receptors)
unfolding memory_conditions source_conditions chemical_conditions
memory_nowhere sort site chemicals receptors =
    ((refl, refl), ((refl, refl), each_append _ (record_conditions Ordinary Site site) _ (record_nowhere Site site) (each_chained _ _ (λ i. record_nowhere Chemical (get_or chemicals.records i no_record)) chemicals.count)))

-- the chemicals' conditions, of the part of the records that has them
pub taken_conditions : (c : Chemicals) → c.count ≤ length c.records → chained (λ i. record_conditions Ordinary Chemical (get_or (take c.count c.records) i no_record)) (length (take c.count c.records)) ≡ chemical_conditions c
unfolding chemical_conditions
taken_conditions c h =
    rw (length-take-le c.count c.records h)
    (chained_same _ _ c.count (λ i l. ap (record_conditions Ordinary Chemical) (get_or-take c.count c.records i no_record l)))

-- ---- the whole list
module _ (sort : Sort) (site : Record) (chemicals : Chemicals) (receptors : Ids) where
  pub counts_stop : counts_outside sort chemicals.count receptors.count ≡ true → stopped 21 0 0 ≡ first (memory_conditions sort site chemicals receptors)
  unfolding memory_conditions first
  counts_stop h = rw h refl

  module _ (counts : counts_outside sort chemicals.count receptors.count ≡ false) where
    pub ids_stop : some_id_wrong site chemicals receptors ≡ true → stopped 22 0 0 ≡ first (memory_conditions sort site chemicals receptors)
    unfolding memory_conditions first
    ids_stop h = rw (counts, h) refl

    module _ (ids : some_id_wrong site chemicals receptors ≡ false) where
      slots_are : first (memory_conditions sort site chemicals receptors) ≡ or_else (first (record_conditions Ordinary Site site)) (first (chemical_conditions chemicals))
      unfolding memory_conditions source_conditions first
      slots_are = rw (counts, ids) (first_append (record_conditions Ordinary Site site) (chemical_conditions chemicals))

      module _ (s : Status) (is-site : s ≡ first (record_conditions Ordinary Site site)) where
        pub site_stops : (number line field : ℕ) → s ≡ stopped number line field → s ≡ first (memory_conditions sort site chemicals receptors)
        unfolding or_else
        site_stops number line field e = e ∙ sym (slots_are ∙ ap (λ (t : Status). or_else t (first (chemical_conditions chemicals))) (sym is-site ∙ e))

        pub site_passes : s ≡ passed → (t : Status) → t ≡ first (chemical_conditions chemicals) → t ≡ first (memory_conditions sort site chemicals receptors)
        unfolding or_else
        site_passes e t h = h ∙ sym (slots_are ∙ ap (λ (u : Status). or_else u (first (chemical_conditions chemicals))) (sym is-site ∙ e))

      -- the same of the number alone
      module _ (v : Verdict) (is-site : v ≡ verdict_of (first (record_conditions Ordinary Site site))) where
        pub site_refuses : (r : Refusal) → v ≡ Err r → Err r ≡ verdict_of (first (memory_conditions sort site chemicals receptors))
        unfolding or_else
        site_refuses r e =
            let t = refused_stops (first (record_conditions Ordinary Site site)) r (sym is-site ∙ e) in
            sym e ∙ is-site ∙ ap verdict_of (t.1 ∙ sym (slots_are ∙ ap (λ (u : Status). or_else u (first (chemical_conditions chemicals))) t.1))

        pub site_accepts : v ≡ accepted → (w : Verdict) → w ≡ verdict_of (first (chemical_conditions chemicals)) → w ≡ verdict_of (first (memory_conditions sort site chemicals receptors))
        unfolding or_else
        site_accepts e w h = h ∙ ap verdict_of (sym (slots_are ∙ ap (λ (u : Status). or_else u (first (chemical_conditions chemicals))) (verdict_passed (first (record_conditions Ordinary Site site)) (sym is-site ∙ e))))
