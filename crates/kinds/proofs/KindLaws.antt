-- Laws of the kinds of lines: what two bytes spell, what a test of a kind tells of it, and that a kind is a line that its record has.
-- Assumes nothing.
use Prim.Native.Nat.{ℕ, zero, suc, ◌-◌, ◌≤◌, ◌<◌}
use native.Mathlib.Omega.{arith}
use mathlib.Core.Path.{◌≡◌, refl, sym, ap, ◌∙◌}
use mathlib.Core.Bool.{Bool, true, false, cond, ◌&&◌, false≢true}
use borrow.Author.Tests.{eq-eqb, ne_eqb, eqb-true, eqb-false, le-leb, lt-leb, lt-ltb, le-ltb, ltb-true}
use lib.Dec.{leb, ltb, eqb}
use Rattle.slots.specs.declared.Owner.{Owner}
use Rattle.slots.specs.declared.Owner.TheVariants.{Site, Chemical, Receptor}
use Rattle.kinds.specs.declared.Kind.{Kind}
use Rattle.kinds.specs.declared.Kind.TheVariants.{Start, Line, End, Other}
use Rattle.kinds.specs.Kinds.{letter, owner_lines, first_digit, line_digit, numbered, spells_end, kind_in, is_line, is_start, is_end, begins, may_begin, may_follow}
use Rattle.lists.proofs.Booleans.{both, and-false}

-- ---- the bytes of a kind
module _ (o : Owner) (digit : ℕ) where
  pub digit_low : digit < first_digit → Other ≡ numbered o digit
  unfolding numbered
  digit_low h = simp (lt-leb first_digit digit h)

  module _ (low : first_digit ≤ digit) (line lines : ℕ) (l : line ≡ digit - first_digit) (e : lines ≡ owner_lines o) where
    pub digit_in : line < lines → Line o line ≡ numbered o digit
    unfolding numbered
    digit_in h = simp (le-leb first_digit digit low, lt-ltb (digit - first_digit) (owner_lines o) (omega arith)) (ap (Line o) l)

    pub digit_high : lines ≤ line → Other ≡ numbered o digit
    unfolding numbered
    digit_high h = simp (le-leb first_digit digit low, le-ltb (digit - first_digit) (owner_lines o) (omega arith))

module _ (a b : ℕ) where
  pub of_owner : (o : Owner) → a ≡ letter o → numbered o b ≡ kind_in a b
  unfolding kind_in
  of_owner Site e = simp (eq-eqb a (letter Site) e)
  of_owner Chemical e = simp (ne_eqb a (letter Site) (λ q. omega arith), eq-eqb a (letter Chemical) e)
  of_owner Receptor e = simp (ne_eqb a (letter Site) (λ q. omega arith), ne_eqb a (letter Chemical) (λ q. omega arith), eq-eqb a (letter Receptor) e)

  pub of_none : (a ≡ letter Site → ⊥) → (a ≡ letter Chemical → ⊥) → (a ≡ letter Receptor → ⊥) → cond (spells_end a b) End Other ≡ kind_in a b
  unfolding kind_in
  of_none s c r = simp (ne_eqb a (letter Site) s, ne_eqb a (letter Chemical) c, ne_eqb a (letter Receptor) r)

-- each line of a record has its owner's letter and its own digit
pub line_spelled : (o : Owner) (n : ℕ) → n < owner_lines o → kind_in (letter o) (line_digit n) ≡ Line o n
line_spelled o n h = sym (digit_in o (line_digit n) (omega arith) n (owner_lines o) (omega arith) refl h ∙ of_owner (letter o) (line_digit n) o refl)

pub some_lines : (o : Owner) → 1 ≤ owner_lines o
some_lines Site = omega arith
some_lines Chemical = omega arith
some_lines Receptor = omega arith

-- ---- tests of a kind
module _ (o p : Owner) (n m : ℕ) (k : Kind) (e : k ≡ Line p m) where
  pub other_letter : (letter o ≡ letter p → ⊥) → false ≡ is_line o n k
  unfolding is_line
  other_letter h = rw e (simp (ne_eqb (letter o) (letter p) h))

  pub same_letter_lem : letter o ≡ letter p → eqb n m ≡ is_line o n k
  unfolding is_line
  same_letter_lem h = rw e (simp (eq-eqb (letter o) (letter p) h))

owner_by : ℕ → Owner
owner_by a = cond (eqb a (letter Site)) Site (cond (eqb a (letter Chemical)) Chemical Receptor)

owner_back : (o : Owner) → owner_by (letter o) ≡ o
unfolding owner_by
owner_back Site = refl
owner_back Chemical = refl
owner_back Receptor = refl

pub is_line_lem : (o : Owner) (n : ℕ) (k : Kind) → is_line o n k ≡ true → k ≡ Line o n
unfolding is_line
is_line_lem o n (Line p m) h =
    let t = both (eqb (letter o) (letter p)) (eqb n m) h in
    let q = sym (owner_back p) ∙ ap owner_by (sym (eqb-true (letter o) (letter p) t.0)) ∙ owner_back o in
    let r = sym (eqb-true n m t.1) in
    λ i. Line (q i) (r i)
is_line_lem o n Start h = absurd (false≢true h)
is_line_lem o n End h = absurd (false≢true h)
is_line_lem o n Other h = absurd (false≢true h)

pub is_start_lem : (k : Kind) → is_start k ≡ true → k ≡ Start
is_start_lem (Line o n) h = absurd (false≢true h)
is_start_lem Start h = refl
is_start_lem End h = absurd (false≢true h)
is_start_lem Other h = absurd (false≢true h)

pub is_end_lem : (k : Kind) → is_end k ≡ true → k ≡ End
is_end_lem (Line o n) h = absurd (false≢true h)
is_end_lem Start h = absurd (false≢true h)
is_end_lem End h = refl
is_end_lem Other h = absurd (false≢true h)

-- ---- what may follow
module _ (before k : Kind) (o : Owner) (n : ℕ) (e : k ≡ Line o n) (r : Bool) where
  pub follow_first : n ≡ 0 → r ≡ may_begin before o → r ≡ may_follow before k
  unfolding may_follow
  follow_first z f = f ∙ sym (ap (may_follow before) (e ∙ ap (Line o) z))

  next_line : (m : ℕ) → (m ≡ 0 → ⊥) → is_line o (m - 1) before ≡ may_follow before (Line o m)
  unfolding may_follow
  next_line zero h = absurd (h refl)
  next_line (suc m) h = ap (λ (j : ℕ). is_line o j before) (omega arith)

  pub follow_next : (n ≡ 0 → ⊥) → r ≡ is_line o (n - 1) before → r ≡ may_follow before k
  follow_next h f = f ∙ next_line n h ∙ sym (ap (may_follow before) e)

-- ---- a kind is a line that its record has
abbrev pub Within : Kind → Type 0
Within (Line o n) = n < owner_lines o
Within Start = Unit {0}
Within End = Unit {0}
Within Other = Unit {0}

within_cond : (t : Bool) (a b : Kind) → (t ≡ true → Within a) → Within b → Within (cond t a b)
within_cond true a b p q = p refl
within_cond false a b p q = q

within_numbered : (o : Owner) (digit : ℕ) → Within (numbered o digit)
unfolding numbered
within_numbered o digit =
    within_cond (leb first_digit digit && ltb (digit - first_digit) (owner_lines o)) (Line o (digit - first_digit)) Other
    (λ t. ltb-true (digit - first_digit) (owner_lines o) (both (leb first_digit digit) _ t).1) tt

pub kind_within : (a b : ℕ) → Within (kind_in a b)
unfolding kind_in
kind_within a b =
    within_cond (eqb a (letter Site)) _ _ (λ t. within_numbered Site b)
    (within_cond (eqb a (letter Chemical)) _ _ (λ t. within_numbered Chemical b)
    (within_cond (eqb a (letter Receptor)) _ _ (λ t. within_numbered Receptor b) (within_cond (spells_end a b) End Other (λ t. tt) tt)))

-- no line but a record's first is its first line
pub not_first : (o : Owner) (k : Kind) → begins k ≡ false → is_line o 0 k ≡ false
unfolding is_line
not_first o (Line p m) h = rw (ne_eqb 0 m (λ e. eqb-false m 0 h (sym e))) (and-false (eqb (letter o) (letter p)))
not_first o Start h = refl
not_first o End h = refl
not_first o Other h = refl
