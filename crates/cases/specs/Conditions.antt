-- Where a call stops: its conditions as one ordered list. The answer is the first that holds; a call passes exactly where none holds. Each
-- call's list is its own; a later stage appends its conditions to an earlier one's.
-- Assumes nothing.
use Rattle.std.specs.Prelude.{◌≡◌, ℕ, ◌+◌, Bool, false, cond, List, [], ◌∷◌, ◌≢◌, Result, Ok, Err}
use Rattle.lists.specs.Lists.{chained}
use Rattle.cases.specs.declared.Refusal.{Refusal}
use Rattle.cases.specs.declared.Stop.{Stop}
use Rattle.cases.specs.declared.Told.{Told}

-- what a call's conditions come to: it passes, or it stops at one
abbrev pub Status : Type 0
Status = Result (Unit {0}) Stop

abbrev pub passed : Status
passed = Ok tt

abbrev pub stopped : ℕ → ℕ → ℕ → Status
stopped number line field = Err (record { number = number; line = line; field = field })

-- where a call that answers something else stops, if it does
unfoldable pub status_of : {A : Type 0} → Result A Stop → Status
status_of (Ok x) = passed
status_of (Err stop) = Err stop

-- the same of a call that reads no deck: no line and no field
abbrev pub Verdict : Type 0
Verdict = Result (Unit {0}) Refusal

abbrev pub accepted : Verdict
accepted = Ok tt

abbrev pub refused : ℕ → Verdict
refused number = Err (record { 0 = number })

-- a condition: its number, the line and the field where it is told, and whether it holds
pub record Condition : Type 0 where
  pub number : ℕ
  pub line : ℕ
  pub field : ℕ
  pub holds : Bool

abbrev pub at : ℕ → ℕ → ℕ → Bool → Condition
at n l f b = record { number = n; line = l; field = f; holds = b }

-- the first that holds
unfoldable pub first : List Condition → Status
first [] = passed
first (c ∷ cs) = cond c.holds (stopped c.number c.line c.field) (first cs)

-- each of them is such
abbrev pub Each : (Condition → Type 0) → List Condition → Type 0
Each Such [] = Unit {0}
Each Such (c ∷ cs) = Such c × Each Such cs

-- none of them holds
abbrev pub NoneHolds : List Condition → Type 0
NoneHolds = Each (λ c. c.holds ≡ false)

-- none of them has this number
abbrev pub Without : ℕ → List Condition → Type 0
Without n = Each (λ c. c.number ≢ n)

-- none of them names a line or a field
abbrev pub Nowhere : List Condition → Type 0
Nowhere = Each (λ c. (c.line ≡ 0) × (c.field ≡ 0))

-- f 1, f 2, .., f n
abbrev pub up_to : (ℕ → List Condition) → ℕ → List Condition
up_to f n = chained (λ k. f (k + 1)) n

-- number, line and field as document 01 tells them; all 0 where none holds
unfoldable pub told_of : Status → Told
told_of (Ok done) = record { number = 0; line = 0; field = 0 }
told_of (Err stop) = record { number = stop.number; line = stop.line; field = stop.field }

-- the number alone, as calls that read no deck tell it
unfoldable pub verdict_of : Status → Verdict
verdict_of (Ok done) = accepted
verdict_of (Err stop) = refused stop.number
