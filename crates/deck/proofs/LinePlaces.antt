-- Where the lines of an accepted deck stand: the site's, each chemical's, each receptor's, then EN.
-- Assumes nothing.
use Prim.Native.Nat.{ℕ, zero, suc, ◌+◌, ◌*◌, ◌-◌, ◌≤◌, ◌<◌}
use native.Mathlib.Nat.{add-zero, add-suc, add-sub_cancel, le_refl}
use native.Mathlib.Numerals.{add-one}
use native.Mathlib.Omega.{arith}
use mathlib.Core.Path.{◌≡◌, refl, sym, ap, ◌∙◌, subst}
use mathlib.Core.Bool.{Bool, true, false, ◌||◌, false≢true}
use mathlib.Core.List.{List, [], ◌∷◌, ◌++◌}
use borrow.Author.Tests.{not-false}
use lib.Dec.{eqb-zero-suc}
use lib.ListN.{get_or}
use Rattle.sizes.specs.Sizes.{site_lines, record_lines, max_chemicals}
use Rattle.slots.specs.declared.Owner.{Owner}
use Rattle.slots.specs.declared.Owner.TheVariants.{Site, Chemical, Receptor}
use Rattle.slots.specs.declared.Sort.{Sort}
use Rattle.kinds.specs.declared.Kind.{Kind}
use Rattle.kinds.specs.declared.Kind.TheVariants.{Start, Line, End, Other}
use Rattle.deck.specs.Parts.{lines_of, line_of, kind_of}
use Rattle.kinds.specs.Kinds.{owner_lines, is_line, is_last, is_end, may_begin, may_follow}
use Rattle.cases.specs.Cases.{max_receptors}
use Rattle.cases.specs.Conditions.{passed, at, first, up_to}
use Rattle.deck.specs.DeckConditions.{bad_length, no_end, begun_with, seen_with, seen_in, line_conditions, conditions}
use Rattle.deck.specs.DeckCase.{chemicals_start}
use Rattle.lists.proofs.Booleans.{and-false}
use Rattle.cases.proofs.FirstMet.{first_read, append_read, chained_each}
use Rattle.kinds.proofs.KindLaws.{Within, kind_within, is_line_lem, is_start_lem, is_end_lem}
use Rattle.deck.proofs.Scan.{LineRead, line_read, end_seen, may_follow_lem, few_chemicals, few_receptors}

-- a line's kind is a line that its record has
line_within : (line : List ℕ) → Within (kind_of line)
unfolding kind_of
line_within line = kind_within (get_or line 0 0) (get_or line 1 0)

-- a later line of a record begins none
not_begun : (o p : Owner) (m c : ℕ) → begun_with o (Line p (suc m)) c ≡ c
unfolding begun_with is_line
not_begun o p m c = simp (eqb-zero-suc m, and-false)

-- ---- where line n stands, of this kind, after c chemicals and r receptors began, of which there may be most
abbrev Stands : ℕ → ℕ → Kind → ℕ → ℕ → Type 0
Stands most n Start c r = (n ≡ 0) × (c ≡ 0) × (r ≡ 0)
Stands most n (Line Site j) c r = (j < site_lines) × (n ≡ 1 + j) × (c ≡ 0) × (r ≡ 0)
Stands most n (Line Chemical j) c r = (j < record_lines) × (n + record_lines ≡ chemicals_start + record_lines * c + j) × (1 ≤ c) × (c ≤ max_chemicals) × (r ≡ 0)
Stands most n (Line Receptor j) c r =
    (j < record_lines) × (n + record_lines ≡ chemicals_start + record_lines * c + record_lines * r + j) × (1 ≤ c) × (c ≤ max_chemicals) × (1 ≤ r) × (r ≤ most)
Stands most n End c r = (n ≡ chemicals_start + record_lines * c + record_lines * r) × (1 ≤ c) × (c ≤ max_chemicals) × (1 ≤ r) × (r ≤ most)
Stands most n Other c r = ⊥

module _ (most n : ℕ) (before : Kind) (c r : ℕ) (s : Stands most n before c r) where
  -- the line before is this one
  is_before : (o : Owner) (m : ℕ) → is_line o m before ≡ true → Stands most n (Line o m) c r
  is_before o m h = subst (λ (k : Kind). Stands most n k c r) (is_line_lem o m before h) s

  is_after : (o p : Owner) (t : Bool) → is_last o before ≡ t → (t || is_last p before) ≡ true
      → {P : Type 0} → (Stands most n (Line o (owner_lines o - 1)) c r → P) → (Stands most n (Line p (owner_lines p - 1)) c r → P) → P
  unfolding is_last
  is_after o p true e h f g = f (is_before o (owner_lines o - 1) e)
  is_after o p false e h f g = g (is_before p (owner_lines p - 1) h)

  -- from a line to the next
  step : (k : Kind) → may_follow before k ≡ true → Within k → begun_with Chemical k c ≤ max_chemicals → begun_with Receptor k r ≤ most
      → Stands most (suc n) k (begun_with Chemical k c) (begun_with Receptor k r)
  unfolding may_follow may_begin is_last is_line begun_with
  step Start h w p q = absurd (false≢true h)
  step (Line Site zero) h w p q = let b = subst (λ (k : Kind). Stands most n k c r) (is_start_lem before h) s in omega arith
  step (Line Chemical zero) h w p q = is_after Site Chemical (is_last Site before) refl h (λ b. omega arith) (λ b. omega arith)
  step (Line Receptor zero) h w p q = is_after Chemical Receptor (is_last Chemical before) refl h (λ b. omega arith) (λ b. omega arith)
  step (Line Site (suc m)) h w p q = let b = is_before Site m h in omega (arith, not_begun Chemical Site m c, not_begun Receptor Site m r)
  step (Line Chemical (suc m)) h w p q = let b = is_before Chemical m h in omega (arith, not_begun Chemical Chemical m c, not_begun Receptor Chemical m r)
  step (Line Receptor (suc m)) h w p q = let b = is_before Receptor m h in omega (arith, not_begun Chemical Receptor m c, not_begun Receptor Receptor m r)
  step End h w p q = let b = is_before Receptor (record_lines - 1) h in omega arith
  step Other h w p q = absurd (false≢true h)

all_few : (most n : ℕ) (k : Kind) (c r : ℕ) → Stands most n k c r → (c ≤ max_chemicals) × (r ≤ most)
all_few most n Start c r s = omega arith
all_few most n (Line Site j) c r s = omega arith
all_few most n (Line Chemical j) c r s = omega arith
all_few most n (Line Receptor j) c r s = omega arith
all_few most n End c r s = omega arith
all_few most n Other c r s = absurd s

-- ---- counts only grow, and no chemical begins after a receptor
module _ (most n : ℕ) where
  grow : (k : Kind) (c r : ℕ) → Stands most n k (begun_with Chemical k c) (begun_with Receptor k r)
      → (c ≤ begun_with Chemical k c) × (1 ≤ r → (c ≡ begun_with Chemical k c) × (1 ≤ begun_with Receptor k r))
  unfolding begun_with is_line
  grow Start c r s = (omega arith, λ h. omega arith)
  grow (Line Site j) c r s = (omega arith, λ h. omega arith)
  grow (Line Chemical zero) c r s = (omega arith, λ h. absurd (omega arith))
  grow (Line Chemical (suc j)) c r s =
      (omega (arith, not_begun Chemical Chemical j c), λ h. (sym (not_begun Chemical Chemical j c), omega (arith, not_begun Receptor Chemical j r)))
  grow (Line Receptor zero) c r s = (omega arith, λ h. omega arith)
  grow (Line Receptor (suc j)) c r s =
      (omega (arith, not_begun Chemical Receptor j c), λ h. (sym (not_begun Chemical Receptor j c), omega (arith, not_begun Receptor Receptor j r)))
  grow End c r s = (omega arith, λ h. omega arith)
  grow Other c r s = absurd s

-- nothing follows EN
no_more : (k : Kind) → may_follow End k ≡ true → ⊥
unfolding may_follow may_begin is_last is_line
no_more Start h = false≢true h
no_more (Line Site zero) h = false≢true h
no_more (Line Chemical zero) h = false≢true h
no_more (Line Receptor zero) h = false≢true h
no_more (Line o (suc n)) h = false≢true h
no_more End h = false≢true h
no_more Other h = false≢true h

-- ---- the line where record i of an owner begins, after so many chemicals, and how many records the owner has
abbrev pub begin : Owner → ℕ → ℕ → ℕ
begin Site chemicals i = 1
begin Chemical chemicals i = chemicals_start + record_lines * i
begin Receptor chemicals i = chemicals_start + record_lines * chemicals + record_lines * i

pub begin_some : (o : Owner) (chemicals i : ℕ) → 1 ≤ begin o chemicals i
begin_some Site chemicals i = omega arith
begin_some Chemical chemicals i = omega arith
begin_some Receptor chemicals i = omega arith

abbrev pub records : Owner → ℕ → ℕ → ℕ
records Site chemicals receptors = 1
records Chemical chemicals receptors = chemicals
records Receptor chemicals receptors = receptors

-- the kind of its line j
module _ (most n c r chemicals receptors i j : ℕ) (few : c ≤ chemicals) (all : 1 ≤ r → c ≡ chemicals) (some : 1 ≤ n) where
  found : (o : Owner) (k : Kind) → Stands most n k c r → (k ≡ End → ⊥) → n ≡ begin o chemicals i + j → i < records o chemicals receptors → j < owner_lines o → k ≡ Line o j
  found o Start s e p h l = absurd (omega arith)
  found o End s e p h l = absurd (e refl)
  found o Other s e p h l = absurd s
  found Site (Line Site m) s e p h l = ap (Line Site) (omega arith)
  found Site (Line Chemical m) s e p h l = absurd (omega arith)
  found Site (Line Receptor m) s e p h l = absurd (omega arith)
  found Chemical (Line Site m) s e p h l = absurd (omega arith)
  found Chemical (Line Chemical m) s e p h l = ap (Line Chemical) (omega arith)
  found Chemical (Line Receptor m) s e p h l = absurd (omega (arith, all s.4))
  found Receptor (Line Site m) s e p h l = absurd (omega arith)
  found Receptor (Line Chemical m) s e p h l = absurd (omega arith)
  found Receptor (Line Receptor m) s e p h l = ap (Line Receptor) (omega (arith, all s.4))

-- ---- an accepted deck
module _ (sort : Sort) (deck : List ℕ) (e : first (conditions sort deck) ≡ passed) where
  parts : (bad_length sort deck ≡ false) × ((first (up_to (line_conditions sort deck) (lines_of deck)) ≡ passed) × (no_end deck ≡ false))
  unfolding conditions
  parts =
      let a = first_read (at 11 0 0 (bad_length sort deck)) (up_to (line_conditions sort deck) (lines_of deck) ++ (at 21 (lines_of deck + 1) 0 (no_end deck) ∷ [])) e in
      let b = append_read (up_to (line_conditions sort deck) (lines_of deck)) (at 21 (lines_of deck + 1) 0 (no_end deck) ∷ []) a.1 in
      (a.0, (b.0, (first_read (at 21 (lines_of deck + 1) 0 (no_end deck)) [] b.1).0))

  pub line_facts : (n : ℕ) → n < lines_of deck → LineRead sort (seen_in deck n) (suc n) (line_of deck (suc n))
  unfolding line_conditions
  line_facts n h =
      line_read sort (seen_in deck n) (suc n) (line_of deck (suc n))
      (rw add-one at (rw (add-sub_cancel n 1) at (chained_each (λ k. line_conditions sort deck (k + 1)) (lines_of deck) parts.1.0 n h)))

  follows : (n : ℕ) → n < lines_of deck → may_follow (seen_in deck n).kind (kind_of (line_of deck (suc n))) ≡ true
  follows n h = may_follow_lem sort (seen_in deck n) (kind_of (line_of deck (suc n))) (line_facts n h).kind

  StandsAt : ℕ → Type 0
  StandsAt n = let s = seen_in deck n in Stands (max_receptors sort) n s.kind s.chemicals s.receptors

  stands : (n : ℕ) → n ≤ lines_of deck → StandsAt n
  unfolding StandsAt seen_in seen_with
  stands zero h = omega arith
  stands (suc n) h =
      let s = stands n (omega arith) in
      let x = seen_in deck n in
      let k = kind_of (line_of deck (suc n)) in
      let b = (line_facts n h).kind in
      let few = all_few (max_receptors sort) n x.kind x.chemicals x.receptors s in
      step (max_receptors sort) n x.kind x.chemicals x.receptors s k (follows n h) (line_within (line_of deck (suc n)))
      (few_chemicals sort x k b few.0) (few_receptors sort x k b few.1)

  end_stands : Stands (max_receptors sort) (lines_of deck) End (seen_in deck (lines_of deck)).chemicals (seen_in deck (lines_of deck)).receptors
  unfolding StandsAt no_end
  end_stands =
      let s = seen_in deck (lines_of deck) in
      let k : s.kind ≡ End = is_end_lem s.kind (end_seen deck (lines_of deck) ∙ not-false (is_end (kind_of (line_of deck (lines_of deck)))) parts.1.1) in
      subst (λ (k : Kind). Stands (max_receptors sort) (lines_of deck) k s.chemicals s.receptors) k (stands (lines_of deck) (le_refl (lines_of deck)))

  pub counts : ((1 ≤ (seen_in deck (lines_of deck)).chemicals) × ((seen_in deck (lines_of deck)).chemicals ≤ max_chemicals))
      × ((1 ≤ (seen_in deck (lines_of deck)).receptors) × ((seen_in deck (lines_of deck)).receptors ≤ max_receptors sort))
  counts = let s = end_stands in ((s.1, s.2), (s.3, s.4))

  -- the deck has the lines of its records and EN, and no other
  pub all_lines : lines_of deck ≡ site_lines + record_lines * ((seen_in deck (lines_of deck)).chemicals + (seen_in deck (lines_of deck)).receptors) + 1
  all_lines = omega (arith, end_stands.0)

  later : (n j : ℕ) → n + j ≤ lines_of deck
      → ((seen_in deck n).chemicals ≤ (seen_in deck (n + j)).chemicals)
      × (1 ≤ (seen_in deck n).receptors → ((seen_in deck n).chemicals ≡ (seen_in deck (n + j)).chemicals) × (1 ≤ (seen_in deck (n + j)).receptors))
  unfolding StandsAt seen_in seen_with
  later n zero h = rw add-zero (le_refl (seen_in deck n).chemicals, λ p. (refl, p))
  later n (suc j) h =
      rw add-suc
      (let x = seen_in deck (n + j) in
      let m : n + j ≤ lines_of deck = omega arith in
      let l : suc (n + j) ≤ lines_of deck = omega arith in
      let a = later n j m in
      let b = grow (max_receptors sort) (suc (n + j)) (kind_of (line_of deck (suc (n + j)))) x.chemicals x.receptors (stands (suc (n + j)) l) in
      (omega (arith, a.0, b.0), λ p. let q = a.1 p in let r = b.1 q.1 in (q.0 ∙ r.0, r.1)))

  to_last : (n : ℕ) → n ≤ lines_of deck
      → ((seen_in deck n).chemicals ≤ (seen_in deck (lines_of deck)).chemicals)
      × (1 ≤ (seen_in deck n).receptors → (seen_in deck n).chemicals ≡ (seen_in deck (lines_of deck)).chemicals)
  to_last n h =
      let q : n + (lines_of deck - n) ≡ lines_of deck = omega arith in
      let l = later n (lines_of deck - n) (omega arith) in
      subst
      (λ (m : ℕ). ((seen_in deck n).chemicals ≤ (seen_in deck m).chemicals) × (1 ≤ (seen_in deck n).receptors → (seen_in deck n).chemicals ≡ (seen_in deck m).chemicals))
      q (l.0, λ p. (l.1 p).0)

  -- line j of record i of an owner stands before EN, and is of its kind
  pub line_inside : (o : Owner) (i j : ℕ) → i < records o (seen_in deck (lines_of deck)).chemicals (seen_in deck (lines_of deck)).receptors → j < owner_lines o
      → begin o (seen_in deck (lines_of deck)).chemicals i + j < lines_of deck
  line_inside Site i j h l = omega (arith, end_stands)
  line_inside Chemical i j h l = omega (arith, end_stands)
  line_inside Receptor i j h l = omega (arith, end_stands)

  kind_at : (o : Owner) (n i j : ℕ) → n + 1 ≡ begin o (seen_in deck (lines_of deck)).chemicals i + j
      → i < records o (seen_in deck (lines_of deck)).chemicals (seen_in deck (lines_of deck)).receptors → j < owner_lines o → kind_of (line_of deck (suc n)) ≡ Line o j
  unfolding StandsAt seen_in seen_with
  kind_at o n i j p h l =
      let inside = line_inside o i j h l in
      let t = to_last (suc n) (omega arith) in
      found (max_receptors sort) (suc n) _ _ _ _ i j t.0 t.1 (omega arith) o (kind_of (line_of deck (suc n))) (stands (suc n) (omega arith))
      (λ q. no_more (kind_of (line_of deck (suc (suc n)))) (subst (λ (k : Kind). may_follow k (kind_of (line_of deck (suc (suc n)))) ≡ true) q (follows (suc n) (omega arith))))
      (omega arith) h l

  pub kind_of_lem : (o : Owner) (i j : ℕ) → i < records o (seen_in deck (lines_of deck)).chemicals (seen_in deck (lines_of deck)).receptors → j < owner_lines o
      → kind_of (line_of deck (begin o (seen_in deck (lines_of deck)).chemicals i + j)) ≡ Line o j
  kind_of_lem o i j h l =
      let m = begin o (seen_in deck (lines_of deck)).chemicals i + j in
      let q : suc (m - 1) ≡ m = omega (arith, begin_some o (seen_in deck (lines_of deck)).chemicals i) in
      subst (λ (n : ℕ). kind_of (line_of deck n) ≡ Line o j) q (kind_at o (m - 1) i j (omega arith) h l)
