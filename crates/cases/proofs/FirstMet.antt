-- The first condition that holds, in lists that are put together; and a number that no condition of a list has.
-- Assumes nothing.
use Prim.Native.Nat.{ℕ, zero, suc, ◌+◌, ◌-◌, ◌<◌}
use mathlib.Core.Path.{◌≡◌, refl, sym, ap, ◌∙◌}
use mathlib.Core.Bool.{Bool, true, false, cond}
use mathlib.Core.List.{List, [], ◌∷◌, ◌++◌}
use Rattle.std.specs.Prelude.{Ok, Err}
use Rattle.cases.specs.Conditions.{Condition, Status, passed, stopped, Verdict, accepted, refused, first, Each, NoneHolds, Without, Nowhere, told_of, verdict_of}
use Rattle.cases.specs.declared.Refusal.{Refusal}
use Rattle.cases.specs.declared.Stop.{Stop}
use mathlib.Core.Logic.{◌≢◌}
use Rattle.lists.specs.Lists.{chained}
use Rattle.lists.proofs.Chained.{chained_more, chained_split}

-- a status, and what comes after it where it goes on
unfoldable pub or_else : Status → Status → Status
or_else (Ok done) s = s
or_else (Err stop) s = Err stop

or_else_cond : (b : Bool) (s t u : Status) → or_else s u ≡ s → cond b s (or_else t u) ≡ or_else (cond b s t) u
or_else_cond true s t u e = sym e
or_else_cond false s t u e = refl

pub first_append : (xs ys : List Condition) → first (xs ++ ys) ≡ or_else (first xs) (first ys)
unfolding first or_else
first_append [] ys = refl
first_append (c ∷ cs) ys =
    ap (λ (t : Status). cond c.holds (stopped c.number c.line c.field) t) (first_append cs ys)
    ∙ or_else_cond c.holds (stopped c.number c.line c.field) (first cs) (first ys) refl

-- ---- where a list stops, and where none holds
pub never : (s : Status) (stop : Stop) → s ≡ Err stop → s ≡ passed → ⊥
never s stop p q = cc

first_cond : (b : Bool) (stop : Stop) (s : Status) → cond b (Err stop) s ≡ passed → (b ≡ false) × (s ≡ passed)
first_cond true stop s e = absurd (never (Err stop) stop refl e)
first_cond false stop s e = (refl, e)

pub first_read : (c : Condition) (cs : List Condition) → first (c ∷ cs) ≡ passed → (c.holds ≡ false) × (first cs ≡ passed)
unfolding first
first_read c cs e = first_cond c.holds _ (first cs) e

or_else_read : (s t : Status) → or_else s t ≡ passed → (s ≡ passed) × (t ≡ passed)
unfolding or_else
or_else_read (Ok done) t e = (refl, e)
or_else_read (Err stop) t e = absurd (never (Err stop) stop refl e)

pub append_read : (xs ys : List Condition) → first (xs ++ ys) ≡ passed → (first xs ≡ passed) × (first ys ≡ passed)
append_read xs ys e = or_else_read (first xs) (first ys) (sym (first_append xs ys) ∙ e)

pub read_none : (cs : List Condition) → first cs ≡ passed → NoneHolds cs
read_none [] e = tt
read_none (c ∷ cs) e = let p = first_read c cs e in (p.0, read_none cs p.1)

pub none_read : (cs : List Condition) → NoneHolds cs → first cs ≡ passed
unfolding first
none_read [] n = refl
none_read (c ∷ cs) n =
    ap (λ (b : Bool). cond b (stopped c.number c.line c.field) (first cs)) n.0 ∙ none_read cs n.1

-- where none of the parts stops
pub chained_each : (f : ℕ → List Condition) (n : ℕ) → first (chained f n) ≡ passed → (k : ℕ) → k < n → first (f k) ≡ passed
chained_each f n none k h =
    let rest : List Condition = chained (λ j. f (k + 1 + j)) (n - (k + 1)) in
    (append_read (f k) rest (append_read (chained f k) (f k ++ rest) (sym (ap first (chained_split f n k h)) ∙ none)).1).0

-- the next part goes on, or stops the whole
module _ (f : ℕ → List Condition) (k : ℕ) (none : first (chained f k) ≡ passed) (s : Status) (is-first : s ≡ first (f k)) where
  pub goes_on : s ≡ passed → first (chained f (k + 1)) ≡ passed
  unfolding or_else
  goes_on read =
      ap first (chained_more f k) ∙ first_append (chained f k) (f k) ∙ ap (λ (t : Status). or_else t (first (f k))) none ∙ sym is-first ∙ read

  pub stops : (m : ℕ) → k < m → (stop : Stop) → s ≡ Err stop → s ≡ first (chained f m)
  unfolding or_else
  stops m h stop e =
      let rest : List Condition = chained (λ j. f (k + 1 + j)) (m - (k + 1)) in
      e
      ∙ sym
      (ap first (chained_split f m k h)
      ∙ first_append (chained f k) (f k ++ rest)
      ∙ ap (λ (t : Status). or_else t (first (f k ++ rest))) none
      ∙ first_append (f k) rest
      ∙ ap (λ (t : Status). or_else t (first rest)) (sym is-first ∙ e))

-- ---- each condition of lists that are put together
module _ (Such : Condition → Type 0) where
  pub each_append : (xs ys : List Condition) → Each Such xs → Each Such ys → Each Such (xs ++ ys)
  each_append [] ys h k = k
  each_append (c ∷ cs) ys h k = (h.0, each_append cs ys h.1 k)

  pub each_chained : (f : ℕ → List Condition) → ((k : ℕ) → Each Such (f k)) → (m : ℕ) → Each Such (chained f m)
  unfolding chained
  each_chained f h zero = tt
  each_chained f h (suc m) = each_append (chained f m) (f m) (each_chained f h m) (h m)

module _ (n : ℕ) where
  pub without_append : (xs ys : List Condition) → Without n xs → Without n ys → Without n (xs ++ ys)
  without_append = each_append (λ c. c.number ≢ n)

  pub without_chained : (f : ℕ → List Condition) → ((k : ℕ) → Without n (f k)) → (m : ℕ) → Without n (chained f m)
  without_chained = each_chained (λ c. c.number ≢ n)

  told_either : (b : Bool) (s t : Status) → (told_of s).number ≢ n → (told_of t).number ≢ n → (told_of (cond b s t)).number ≢ n
  told_either true s t h k = h
  told_either false s t h k = k

  -- 0 is told where none holds
  pub told_without : 0 ≢ n → (cs : List Condition) → Without n cs → (told_of (first cs)).number ≢ n
  unfolding first told_of
  told_without z [] h = z
  told_without z (c ∷ cs) h = told_either c.holds (stopped c.number c.line c.field) (first cs) h.0 (told_without z cs h.1)

-- ---- the number alone
pub verdict_passed : (s : Status) → verdict_of s ≡ accepted → s ≡ passed
unfolding verdict_of
verdict_passed (Ok done) e = refl
verdict_passed (Err stop) e = absurd (cc)

pub refused_stops : (s : Status) (r : Refusal) → verdict_of s ≡ Err r → (stop : Stop) × (s ≡ Err stop)
unfolding verdict_of
refused_stops (Ok done) r e = absurd (cc)
refused_stops (Err stop) r e = (stop, refl)

-- the next part goes on, or refuses the whole
module _ (f : ℕ → List Condition) (k : ℕ) (none : first (chained f k) ≡ passed) (v : Verdict) (is-first : v ≡ verdict_of (first (f k))) where
  pub accepts_on : v ≡ accepted → first (chained f (k + 1)) ≡ passed
  accepts_on e = goes_on f k none (first (f k)) refl (verdict_passed (first (f k)) (sym is-first ∙ e))

  pub refuses : (m : ℕ) → k < m → (r : Refusal) → v ≡ Err r → Err r ≡ verdict_of (first (chained f m))
  refuses m h r e =
      let t = refused_stops (first (f k)) r (sym is-first ∙ e) in
      sym e ∙ is-first ∙ ap verdict_of (stops f k none (first (f k)) refl m h t.0 t.1)

alone_either : (b : Bool) (n line field : ℕ) (s : Status) (number : ℕ) → (line ≡ 0) × (field ≡ 0) → (verdict_of s ≡ refused number → s ≡ stopped number 0 0)
    → verdict_of (cond b (stopped n line field) s) ≡ refused number → cond b (stopped n line field) s ≡ stopped number 0 0
unfolding verdict_of
alone_either true n line field s number nowhere rest e =
    let same : ◌≡◌ {A = Refusal} (record { 0 = n }) (record { 0 = number }) = cc in
    rw (ap (λ (r : Refusal). r.0) same, nowhere.0, nowhere.1) refl
alone_either false n line field s number nowhere rest e = rest e

-- of a list that names no line and no field nothing else is told
pub told_alone : (cs : List Condition) → Nowhere cs → (number : ℕ) → verdict_of (first cs) ≡ refused number → first cs ≡ stopped number 0 0
unfolding first verdict_of
told_alone [] h number e = absurd (cc)
told_alone (c ∷ cs) h number e = alone_either c.holds c.number c.line c.field (first cs) number h.0 (told_alone cs h.1 number) e
