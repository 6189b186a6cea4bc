-- What a program prints of a call's answer (document 01, "Report"): the report, or number, line and field, each right-justified in six columns,
-- and a line feed: 19 bytes.
-- Bytes: 10 is a line feed.
-- Assumes nothing.
use Rattle.std.specs.Prelude.{ℕ, ◌<◌, ◌≤◌, cond, List, [], ◌∷◌, ◌++◌, eqb, length, take, Option, Result, Ok, Err, ⊤}
use Rattle.std.specs.Io.KnownBytes.{Consumes, IsAtEnd}
use Rattle.cases.specs.declared.Told.{Told}
use Rattle.spelling.specs.Columns.{number}

-- columns of each of the three numbers
abbrev pub told_width : ℕ
told_width = 6

unfoldable pub refusal_text : Told → List ℕ
refusal_text told = number told_width told.number ++ number told_width told.line ++ number told_width told.field ++ (10 ∷ [])

-- on success the report, which stands at the start of the buffer and whose length is told as the line
unfoldable pub answer_text : Told → List ℕ → List ℕ
answer_text told buffer = cond (eqb told.number 0) (take told.line buffer) (refusal_text told)

-- what was read into a room: as many bytes as are told, the next ones of the input, which has no more where the room has
abbrev pub IsRead : {E : Type 0} → Option (List ℕ) → Option (List ℕ) → Result ℕ E → List ℕ → Type 0
IsRead old new (Ok n) room = (n ≤ length room) × Consumes old new (take n room) × (n < length room → IsAtEnd new)
IsRead old new (Err e) room = ⊤
