-- 53 and 42 by line, each line in turn or every 53 before 42: which of them is first. Assumes nothing.
use Rattle.cases.specs.declared.Stop.{Stop}
use Rattle.std.specs.Prelude.{Ok, Err}
use mathlib.Core.Path.{◌≡◌, refl, sym, ap, ap₂, ◌∙◌}
use mathlib.Core.Bool.{Bool, true, false, ◌||◌}
use mathlib.Core.List.{List, [], ◌∷◌, ◌++◌}
use mathlib.Core.Logic.{◌⊎◌, inl, inr, ⊎_elim, ◌≢◌}
use Prim.Native.Nat.{ℕ, zero, suc, ◌<◌}
use native.Mathlib.Omega.{arith}
use Rattle.sizes.specs.Sizes.{pathways_per_chemical}
use Rattle.cases.specs.Conditions.{Status}
use Rattle.cases.specs.Conditions.{passed, stopped}
use Rattle.cases.specs.Conditions.{Condition, at, first}
use Rattle.cases.proofs.FirstMet.{or_else, first_append, never}
use Rattle.lists.specs.Lists.{chained}
use Rattle.scenario.specs.declared.Scenario.{Scenario}
use Rattle.equations.specs.declared.Effect.TheVariants.{Hazard, Cancer}
use Rattle.sheet.specs.Sheet.{pathway_at, unworked, over_cap, report_line, line_refused, line_too_large, over_lines, refused_lines, large_lines, faulty_lines}

-- lists whose parts stop alike
first_same : (f g : ℕ → List Condition) (n : ℕ) → ((k : ℕ) → k < n → first (f k) ≡ first (g k)) → first (chained f n) ≡ first (chained g n)
unfolding chained
first_same f g zero h = refl
first_same f g (suc n) h =
    first_append (chained f n) (f n) ∙ ap₂ or_else (first_same f g n (λ k l. h k (omega arith))) (h n (omega arith)) ∙ sym (first_append (chained g n) (g n))

pub lines_same : (scenario : Scenario) (f g : ℕ → ℕ → ℕ → List Condition)
    → ((j i p : ℕ) → j < scenario.receptors.count → i < scenario.chemicals.count → p < pathways_per_chemical → first (f j i p) ≡ first (g j i p)) → first (over_lines scenario f) ≡ first (over_lines scenario g)
unfolding over_lines
lines_same scenario f g h =
    first_same _ _ scenario.receptors.count
    (λ j a. first_same _ _ scenario.chemicals.count (λ i b. first_same (f j i) (g j i) pathways_per_chemical (λ p c. h j i p a b c)))

-- ---- t is the first of both in turn, b of 53 alone, l of 42 alone
pub record Broken (t b : Status) : Type 0 where
  pub line : ℕ
  pub told : t ≡ stopped 53 line 0
  pub same : b ≡ stopped 53 line 0

pub record Large (t l : Status) : Type 0 where
  pub line : ℕ
  pub told : t ≡ stopped 42 line 0
  pub same : l ≡ stopped 42 line 0

pub record Neither (t b l : Status) : Type 0 where
  pub told : t ≡ passed
  pub unbroken : b ≡ passed
  pub small : l ≡ passed

abbrev pub Mixed : Status → Status → Status → Type 0
Mixed t b l = Neither t b l ⊎ (Broken t b ⊎ Large t l)

module _ (t b l t' b' l' : Status) where
  after_neither : Neither t b l → Mixed t' b' l' → Mixed (or_else t t') (or_else b b') (or_else l l')
  unfolding or_else
  after_neither n m = rw (n.told, n.unbroken, n.small) m

  after_broken : Broken t b → Mixed (or_else t t') (or_else b b') (or_else l l')
  unfolding or_else
  after_broken k = inr (inl (record { line = k.line; told = rw k.told refl; same = rw k.same refl }))

  after_large : Large t l → Mixed (or_else t t') (or_else b b') (or_else l l')
  unfolding or_else
  after_large k = inr (inr (record { line = k.line; told = rw k.told refl; same = rw k.same refl }))

  mixed_after : Mixed t b l → Mixed t' b' l' → Mixed (or_else t t') (or_else b b') (or_else l l')
  mixed_after m n = ⊎_elim (λ h. after_neither h n) (λ h. ⊎_elim after_broken after_large h) m

-- lists that are mixed part by part
MixedLists : List Condition → List Condition → List Condition → Type 0
MixedLists f b l = Mixed (first f) (first b) (first l)

mixed_append : (f b l f' b' l' : List Condition) → MixedLists f b l → MixedLists f' b' l' → MixedLists (f ++ f') (b ++ b') (l ++ l')
unfolding MixedLists
mixed_append f b l f' b' l' m n = rw (first_append f f', first_append b b', first_append l l') (mixed_after (first f) (first b) (first l) (first f') (first b') (first l') m n)

mixed_chained : (f b l : ℕ → List Condition) (n : ℕ) → ((k : ℕ) → MixedLists (f k) (b k) (l k)) → MixedLists (chained f n) (chained b n) (chained l n)
unfolding MixedLists chained first
mixed_chained f b l zero h = inl (record { told = refl; unbroken = refl; small = refl })
mixed_chained f b l (suc n) h = mixed_append (chained f n) (chained b n) (chained l n) (f n) (b n) (l n) (mixed_chained f b l n h) (h n)

-- a line's two conditions
mixed_line : (n : ℕ) (a c : Bool) → MixedLists ((at 53 n 0 a ∷ []) ++ (at 42 n 0 c ∷ [])) (at 53 n 0 a ∷ []) (at 42 n 0 c ∷ [])
unfolding MixedLists first
mixed_line n true c = inr (inl (record { line = n; told = refl; same = refl }))
mixed_line n false true = inr (inr (record { line = n; told = refl; same = refl }))
mixed_line n false false = inl (record { told = refl; unbroken = refl; small = refl })

pub mixed_lines : (scenario : Scenario) (place : ℕ → ℕ → ℕ → ℕ) (a c : ℕ → ℕ → ℕ → Bool)
    → Mixed (first (over_lines scenario (λ j i p. (at 53 (place j i p) 0 (a j i p) ∷ []) ++ (at 42 (place j i p) 0 (c j i p) ∷ []))))
    (first (over_lines scenario (λ j i p. at 53 (place j i p) 0 (a j i p) ∷ []))) (first (over_lines scenario (λ j i p. at 42 (place j i p) 0 (c j i p) ∷ [])))
unfolding over_lines MixedLists
mixed_lines scenario place a c =
    mixed_chained _ _ _ scenario.receptors.count
    (λ j. mixed_chained _ _ _ scenario.chemicals.count (λ i. mixed_chained _ _ _ pathways_per_chemical (λ p. mixed_line (place j i p) (a j i p) (c j i p))))

-- ---- every 53 before 42, after what stops before the lines; that is never 42
module _ (m t b l : Status) (mixed : Mixed t b l) (before : (halt : Stop) → m ≡ Err halt → halt.number ≢ 42) where
  by_before : (s : Status) → m ≡ s → (T : Status → Status → Type 0) → (s ≡ passed → T t (or_else b l)) → ((halt : Stop) → s ≡ Err halt → T (Err halt) (Err halt)) → T (or_else s t) (or_else s (or_else b l))
  unfolding or_else
  by_before (Ok done) e T f g = f refl
  by_before (Err halt) e T f g = g halt refl

  stopped_number : (h h' : Stop) → ◌≡◌ {A = Status} (Err h) (Err h') → h.number ≡ h'.number
  stopped_number h h' e = let same : h ≡ h' = cc in ap (λ (x : Stop). x.number) same

  -- none in turn, so none at all
  none_passes : Neither t b l → or_else b l ≡ passed
  unfolding or_else
  none_passes h = rw (h.unbroken, h.small) refl

  pub strict_passes : or_else m t ≡ passed → or_else m (or_else b l) ≡ passed
  strict_passes =
      by_before m refl (λ u v. u ≡ passed → v ≡ passed)
      (λ _ e. ⊎_elim (λ h. none_passes h) (λ h. ⊎_elim (λ k. absurd (never t _ k.told e)) (λ k. absurd (never t _ k.told e)) h) mixed)
      (λ halt _ e. e)

  -- what is not 42 is the first of all
  broken_first : Broken t b → or_else b l ≡ t
  unfolding or_else
  broken_first k = ap (λ (s : Status). or_else s l) k.same ∙ sym k.told

  pub strict_other : (halt : Stop) → or_else m t ≡ Err halt → halt.number ≢ 42 → or_else m (or_else b l) ≡ or_else m t
  strict_other halt =
      by_before m refl (λ u v. u ≡ Err halt → halt.number ≢ 42 → v ≡ u)
      (λ _ e d. ⊎_elim (λ h. absurd (never t halt e h.told)) (λ h. ⊎_elim (λ k. broken_first k) (λ k. absurd (d (stopped_number halt _ (sym e ∙ k.told)))) h) mixed)
      (λ other _ e d. refl)

  -- after a 42 in turn: a 53 where there is one, else that 42
  module _ (x y : ℕ) (large : or_else m t ≡ stopped 42 x y) where
    here : (halt : Stop) → m ≡ Err halt → Err halt ≡ stopped 42 x y
    unfolding or_else
    here halt e = sym (ap (λ (s : Status). or_else s t) e) ∙ large

    none_before : (s : Status) → m ≡ s → s ≡ passed
    none_before (Ok done) e = refl
    none_before (Err halt) e = absurd (before halt e (stopped_number halt _ (here halt e)))

    nothing_before : m ≡ passed
    nothing_before = none_before m refl

    pub strict_refused : (halt : Stop) → or_else m b ≡ Err halt → or_else m (or_else b l) ≡ or_else m b
    unfolding or_else
    strict_refused halt e =
        let u : b ≡ Err halt = sym (ap (λ (s : Status). or_else s b) nothing_before) ∙ e in
        rw (nothing_before, u) refl

    pub strict_large : or_else m b ≡ passed → or_else m (or_else b l) ≡ or_else m t
    unfolding or_else
    strict_large e =
        let u : b ≡ passed = sym (ap (λ (s : Status). or_else s b) nothing_before) ∙ e in
        let v : t ≡ stopped 42 x y = sym (ap (λ (s : Status). or_else s t) nothing_before) ∙ large in
        rw (nothing_before, u)
        (⊎_elim (λ h. absurd (never t _ v h.told)) (λ h. ⊎_elim (λ k. absurd (never b _ k.same u)) (λ k. k.same ∙ sym k.told) h) mixed)

-- no line stops in turn, so none at all
none_mixed : (t b l : Status) → Mixed t b l → t ≡ passed → (b ≡ passed) × (l ≡ passed)
none_mixed t b l m e = ⊎_elim (λ h. (h.unbroken, h.small)) (λ h. ⊎_elim (λ k. absurd (never t _ k.told e)) (λ k. absurd (never t _ k.told e)) h) m

pub faulty_clear : (scenario : Scenario) → first (faulty_lines scenario) ≡ passed → (first (refused_lines scenario) ≡ passed) × (first (large_lines scenario) ≡ passed)
unfolding faulty_lines refused_lines large_lines line_refused line_too_large
faulty_clear scenario e =
    none_mixed _ _ _
    (mixed_lines scenario (report_line scenario) (λ j i p. unworked Hazard scenario j i (pathway_at p) || unworked Cancer scenario j i (pathway_at p))
    (λ j i p. over_cap Hazard scenario j i (pathway_at p) || over_cap Cancer scenario j i (pathway_at p)))
    e
