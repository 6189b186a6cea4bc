-- How a field and an id are spelled (document 01, "Deck"): right-justified after spaces. A number is digits, or digits point digits, as
-- many as the columns of a field hold, zeros counted (document 02, P1); then, optionally, E, a sign and two digits. It has no leading sign.
-- Bytes: 32 is a space, 43 +, 45 -, 46 a point, 48 to 57 the digits, 69 E.
-- Assumes nothing.
use Rattle.std.specs.Prelude.{ℕ, ◌+◌, Bool, cond, ◌&&◌, ◌||◌, List, ◌++◌, leb, ltb, eqb, ℤ, length, get_or, take, drop, Option, Some, None}
use Rattle.std.proofs.Math.IntN.{sub_ℕ}
use Rattle.spelling.specs.Columns.{leading, field_width, id_width, digits_value}
use Rattle.spelling.specs.declared.Word.{Word}
use Rattle.spelling.specs.declared.Word.TheVariants.{Blank, Dash, Number, Other}

-- how many digits stand at the front
abbrev pub digits_of : List ℕ → ℕ
digits_of text = leading 48 57 text

-- what follows the leading spaces
abbrev pub unspaced : List ℕ → List ℕ
unspaced part = drop (leading 32 32 part) part

-- digits alone, the first no zero, at most six
unfoldable pub id_spelled : List ℕ → Bool
id_spelled text = ltb 48 (get_or text 0 0) && (leb (length text) id_width && eqb (digits_of text) (length text))

-- the id that columns spell, if they spell one
unfoldable pub id_in : List ℕ → Option ℕ
id_in columns = cond (id_spelled (unspaced columns)) (Some (digits_value 0 (unspaced columns))) None

-- + or -
unfoldable pub sign_spelled : List ℕ → Bool
sign_spelled tail = eqb (get_or tail 1 0) 43 || eqb (get_or tail 1 0) 45

-- nothing, or E, a sign and two digits
unfoldable pub exponent_spelled : List ℕ → Bool
exponent_spelled tail =
    eqb (length tail) 0 || eqb (length tail) 4 && eqb (get_or tail 0 0) 69 && sign_spelled tail && eqb (digits_of (drop 2 tail)) 2

-- the power of ten: the exponent with its sign, less the digits after the point
unfoldable pub power_of : List ℕ → ℕ → ℤ
power_of tail places =
    cond (eqb (get_or tail 1 0) 45)
    (sub_ℕ 0 (places + digits_value 0 (drop 2 tail)))
    (sub_ℕ (digits_value 0 (drop 2 tail)) places)

-- the digits before and after the point, read as one number
unfoldable pub digits_read : List ℕ → ℕ → ℕ → ℕ
digits_read text whole places = digits_value 0 (take whole text ++ take places (drop (whole + 1) text))

-- digits of a number before and after its point: as many as the twelve columns of a field hold
abbrev pub max_digits : ℕ
max_digits = field_width

-- the number with so many digits before the point and so many after it, whose exponent starts at end
unfoldable pub ended_of : List ℕ → ℕ → ℕ → ℕ → Word
ended_of text whole places end =
    cond (leb (whole + places) max_digits && exponent_spelled (drop end text)) (Number (digits_read text whole places) (power_of (drop end text) places)) Other

-- with a point after the digits: at least one digit must follow it
unfoldable pub pointed_of : List ℕ → ℕ → Word
pointed_of text whole =
    let places = digits_of (drop (whole + 1) text) in
    cond (eqb places 0) Other (ended_of text whole places (whole + 1 + places))

unfoldable pub spelled_of : List ℕ → Word
spelled_of text =
    let whole = digits_of text in
    cond (eqb whole 0) Other (cond (eqb (get_or text whole 0) 46) (pointed_of text whole) (ended_of text whole 0 whole))

unfoldable pub lone_dash : List ℕ → Bool
lone_dash text = eqb (length text) 1 && eqb (get_or text 0 0) 45

-- what a part holds: nothing, a lone -, a number, or none of these
unfoldable pub word_of : List ℕ → Word
word_of part =
    let text = unspaced part in
    cond (eqb (length text) 0) Blank (cond (lone_dash text) Dash (spelled_of text))

-- ---- a word in document 01's terms
-- nothing, a lone -, the number digits × 10 ^ power, or the number of a refusal
pub data Held : Type 0 where
  nothing_printed : Held
  dash_printed : Held
  number_printed : ℕ → ℤ → Held
  refused_by : ℕ → Held

unfoldable pub held : Word → Held
held Blank = nothing_printed
held Dash = dash_printed
held (Number digits power) = number_printed digits power
held Other = refused_by 31
