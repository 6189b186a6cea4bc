-- Document 01's ● cases ("Checked figures"), in its order and as a single list: each is worked by the definitions as it is printed there.
-- Assumes nothing.
use Rattle.std.specs.Prelude.{◌≡◌, List, [], ◌∷◌, ◌++◌, ℕ, cond, eqb, pos, negsuc, get_or, Some, None}
use Prim.Native.Char.{code}
use Prim.Native.String.{String, [] as ε, ◌∷◌ as ◌◂◌}
use Rattle.pair.specs.declared.Pair.{Pair}
use Rattle.pair.specs.Calls.{Outcome, is, mapped, after_one, entry, one_minus, one_minus_entry, zero_pair, one_pair}
use Rattle.pair.specs.Figures.{◌⊘◌, whole, both_ends}
use Rattle.equations.specs.declared.Pathway.TheVariants.{Air, SoilWinter}
use Rattle.equations.specs.declared.Effect.TheVariants.{Hazard, Cancer}
use Rattle.times.specs.declared.Years.{Years}
use Rattle.times.specs.Times as years
use Rattle.slots.specs.Slots.{Slot, place_of}
use Rattle.equations.specs.declared.Values.{Values}
use Rattle.equations.specs.Formula.{pairs}
use Rattle.equations.specs.Series.{phi, psi, pair_series}
use Rattle.equations.specs.Letters.{g, h}
use Rattle.equations.specs.Page.{kse, ksr, ksl, x, A, D, C, soil, AT}
use Rattle.equations.specs.Readings.{worked, inputs}
use Rattle.media.specs.Media.{of_slots, of_media, growth_at}
use Rattle.pathway.specs.Lines.{worked_for, factor_of}
use Rattle.cases.specs.Conditions.{passed}
use Rattle.cases.specs.Conditions.{first}
use Rattle.totals.specs.Totals.{Columns}
use Rattle.text.specs.declared.Row.{Row}
use Rattle.text.specs.Text.{lines_text}
use Rattle.scenario.specs.Scenario.{or_no_time, stay_in, pairs_at}
use Rattle.sheet.specs.Sheet.{columns_at}
use Rattle.composite.specs.Composite.{composed, years_together, composite}
use Rattle.report.specs.Forms.{scenario_of, all_conditions, outcome_of}
use Rattle.report.specs.Report.{rows_of, ordinary}

-- a text's bytes; every character here is one byte
unfoldable pub bytes : String → List ℕ
bytes ε = []
bytes (c ◂ s) = code c ∷ bytes s

-- lines, each before a line feed
unfoldable pub lines : List String → List ℕ
lines [] = []
lines (l ∷ ls) = bytes l ++ (10 ∷ lines ls)

-- the deck: kind, id and six fields; its site's second line, its chemical's second and fourth and its receptor's fourth are given
unfoldable pub deck_of : String → String → String → String → List ℕ
deck_of s2 c2 c4 r4 =
    lines
    ("S1     1          10           2          30         0.2           0           0"
    ∷ s2
    ∷ "C1     1           1           1           1           0           0           1"
    ∷ c2
    ∷ "C3     1           0         0.1          10           1           1         0.1"
    ∷ c4
    ∷ "R1     1          20           5       27375          10           1         365"
    ∷ "R2     1          80           1          73         146        1000        0.02"
    ∷ "R3     1         400         0.1           1         0.1         0.5         0.2"
    ∷ r4
    ∷ "EN                                                                              "
    ∷ [])

-- with no year and no CSFi
unfoldable pub deck_with : String → String → List ℕ
deck_with c2 r4 =
    deck_of "S2     1           0           0           0        0.01         0.5            " c2
    "C4     1       0.001       0.001           1           -                        " r4

-- ksg is 0, or as large as a field holds
abbrev pub kept_line : String
kept_line = "C2     1           0           0       0.001           0         100           0"

abbrev pub lost_line : String
lost_line = "C2     1           0           0       0.001           0         100       1E+09"

-- with 1 in the slot that document 02's P4 adds, T2
unfoldable pub deck : List ℕ
deck = deck_with kept_line "R4     1         0.5           1         365           1                        "

-- with T2 equal to tD, and with T2 twice as long
unfoldable pub equal_deck : List ℕ
equal_deck = deck_with kept_line "R4     1         0.5           1         365          30                        "

unfoldable pub long_deck : List ℕ
long_deck = deck_with kept_line "R4     1         0.5           1         365          60                        "

-- the same as the last of a solvent
unfoldable pub solvent_deck : List ℕ
solvent_deck = deck_with lost_line "R4     1         0.5           1         365          60                        "

-- the first deck by the guidance of 2009, with a CSFi of 0.5
unfoldable pub air_deck : List ℕ
air_deck =
    deck_of "S2     1           0           0           0        0.01         0.5        2009" kept_line
    "C4     1       0.001       0.001           1         0.5                        " "R4     1         0.5           1         365           1                        "

-- by 2005, with every loss, both shares of the air and of what it lays down, all four reference values and T2 beyond tD in play; x is 87.8 and
-- k × (T2 − tD) 70.2, so that no series is worked
unfoldable pub full_deck : List ℕ
full_deck =
    lines
    ("S1     1           2         1.5          10         0.3          40         0.5"
    ∷ "S2     1           3           3           5         0.5         0.6            "
    ∷ "C1     1         0.1         0.5         0.8         0.3           2           1"
    ∷ "C2     1        0.02        0.03        0.05        0.07         0.4           1"
    ∷ "C3     1           2         0.2           5         0.9         0.7         0.1"
    ∷ "C4     1       0.002       0.003         0.4         0.6                        "
    ∷ "R1     1          15           6       25550           8         0.9         350"
    ∷ "R2     1         100         0.8         180         120        2000        0.01"
    ∷ "R3     1         300         0.2         0.7         0.1         0.5         0.2"
    ∷ "R4     1         0.4         0.9         360          18                        "
    ∷ "EN                                                                              "
    ∷ [])

-- the soil of cancer for the first chemical and receptor, by the working rule
unfoldable pub cancer_soil : List ℕ → Outcome Pair
cancer_soil deck' = worked (pairs_at (scenario_of ordinary deck') 0 0) (soil Cancer (stay_in (scenario_of ordinary deck') 0))

-- with 1 in the slot that document 02's P2 adds: a composite's deck of one stage, its years 1
unfoldable pub composite_deck : List ℕ
composite_deck = deck_with kept_line "R4     1         0.5           1         365                       1            "

-- what `tally` prints of it, and these lines as values
unfoldable pub printed_lines : List String
printed_lines =
    "     1     1 1        500000000000        500000000000                   -                   -"
    ∷ "     1     1 2           120000000           120000000             3999999             4000001"
    ∷ "     1     1 3           120000000           120000000             3999999             4000001"
    ∷ "     1     1 4             9000000             9000000              300000              300000"
    ∷ "     1     1 5         37500000000         37500000000          1249999990          1250000010"
    ∷ "     1     1 6           750000000           750000000            24999999            25000001"
    ∷ "     1     0 0        538499000000        538499000000          1283299987          1283300013"
    ∷ []

unfoldable pub printed_text : List ℕ
printed_text = lines printed_lines

-- two counts
abbrev pub counts : ℕ → ℕ → Columns
counts low' high' = Some (record { low = low'; high = high' })

-- receptor, chemical, pathway, hazard and risk; - in both columns is None
unfoldable pub row : ℕ → ℕ → ℕ → Columns → Columns → Row
row r c p h k = record { receptor = r; chemical = c; pathway = p; hazard = h; cancer = k }

unfoldable pub rows : List Row
rows =
    row 1 1 1 (counts 500000000000 500000000000) None
    ∷ row 1 1 2 (counts 120000000 120000000) (counts 3999999 4000001)
    ∷ row 1 1 3 (counts 120000000 120000000) (counts 3999999 4000001)
    ∷ row 1 1 4 (counts 9000000 9000000) (counts 300000 300000)
    ∷ row 1 1 5 (counts 37500000000 37500000000) (counts 1249999990 1250000010)
    ∷ row 1 1 6 (counts 750000000 750000000) (counts 24999999 25000001)
    ∷ row 1 0 0 (counts 538499000000 538499000000) (counts 1283299987 1283300013)
    ∷ []

-- what `tally_composite` prints of the composite's deck, in which ED and T2 are 1 and ATc 365
unfoldable pub composite_text : List ℕ
composite_text =
    lines
    ("     1     1 1        500000000000        500000000000                   -                   -"
    ∷ "     1     1 2           120000000           120000000            60000000            60000000"
    ∷ "     1     1 3           120000000           120000000            60000000            60000000"
    ∷ "     1     1 4             9000000             9000000             4500000             4500000"
    ∷ "     1     1 5         37500000000         37500000000         18750000000         18750000000"
    ∷ "     1     1 6           750000000           750000000           375000000           375000000"
    ∷ "     1     0 0        538499000000        538499000000         19249500000         19249500000"
    ∷ [])

unfoldable pub composite_rows : List Row
composite_rows =
    row 1 1 1 (counts 500000000000 500000000000) None
    ∷ row 1 1 2 (counts 120000000 120000000) (counts 60000000 60000000)
    ∷ row 1 1 3 (counts 120000000 120000000) (counts 60000000 60000000)
    ∷ row 1 1 4 (counts 9000000 9000000) (counts 4500000 4500000)
    ∷ row 1 1 5 (counts 37500000000 37500000000) (counts 18750000000 18750000000)
    ∷ row 1 1 6 (counts 750000000 750000000) (counts 375000000 375000000)
    ∷ row 1 0 0 (counts 538499000000 538499000000) (counts 19249500000 19249500000)
    ∷ []

-- the lines of the deck with everything in play
unfoldable pub full_rows : List Row
full_rows =
    row 1 1 1 (counts 8975342430 8975342500) (counts 1384767120 1384767140)
    ∷ row 1 1 2 (counts 27686353 27686354) (counts 1054718 1054719)
    ∷ row 1 1 3 (counts 11074541 11074542) (counts 421887 421888)
    ∷ row 1 1 4 (counts 2768635 2768636) (counts 105471 105472)
    ∷ row 1 1 5 (counts 6229429400 6229429600) (counts 237311596 237311605)
    ∷ row 1 1 6 (counts 311471471000 311471479000) (counts 11865579800 11865580400)
    ∷ row 1 0 0 (counts 326717772359 326717780632) (counts 13489240592 13489241224)
    ∷ []

-- 002's five life stages, infant to adult: their years, and their body weights in every other slot
unfoldable pub five_stages : ℕ → ℕ → Outcome Pair
five_stages j k =
    cond (eqb k (place_of "years"))
    (get_or (entry 5 (negsuc 0) ∷ entry 45 (negsuc 0) ∷ whole 7 ∷ whole 8 ∷ whole 56 ∷ []) j (whole 0))
    (get_or (entry 82 (negsuc 0) ∷ entry 165 (negsuc 0) ∷ entry 329 (negsuc 0) ∷ entry 597 (negsuc 0) ∷ entry 707 (negsuc 0) ∷ []) j (whole 0))

-- their years as they are printed
unfoldable pub five_years : ℕ → Years
five_years j =
    or_no_time (get_or (years.printed 5 (negsuc 0) ∷ years.printed 45 (negsuc 0) ∷ years.printed 7 (pos 0) ∷ years.printed 8 (pos 0) ∷ years.printed 56 (pos 0) ∷ []) j (years.printed 0 (pos 0)))

-- every one of a list holds
abbrev pub All : List (Type 0) → Type 0
All [] = Unit {0}
All (A ∷ As) = A × All As

-- the values of 002's winter: 25, 1, 0.61, 1, 151, 75; 63.3, 27375
pub record Winter (env : Slot → Pair) : Type 0 where
  pub IRsoil : is (env "IRsoil") ≡ whole 25
  pub AForal : is (env "AForal") ≡ whole 1
  pub FRsnow : is (env "FRsnow") ≡ entry 61 (negsuc 1)
  pub ETsoil : is (env "ETsoil") ≡ whole 1
  pub EFw : is (env "EFw") ≡ whole 151
  pub ED : is (env "ED") ≡ whole 75
  pub BW : is (env "BW") ≡ entry 633 (negsuc 0)
  pub ATc : is (env "ATc") ≡ whole 27375

-- document 01's cases, and the figures of document 02's P1, P2, P4, P5 and P6
unfoldable pub cases : List (Type 0)
cases =
    -- 2 / 3
    (whole 2 ⊘ whole 3 ≡ both_ends 666666666 666666667 (negsuc 8))
    -- 1 − 1E-20
    ∷ (after_one one_minus (entry 1 (negsuc 19))
    ≡ is (record { low = record { significand = 999999999; exponent = negsuc 8 }; high = record { significand = 100000000; exponent = negsuc 7 } }))
    -- x = 0: φ and g are 1, as the media read them
    ∷ ((site chemical : Values) (particles : Pair) → of_slots site chemical x ≡ is zero_pair → (pair_series phi (of_slots site chemical x) ≡ is one_pair) × (of_media site chemical particles g ≡ is one_pair))
    -- ψ and h are 1/2 there
    ∷ ((site chemical : Values) (particles : Pair) → of_slots site chemical x ≡ is zero_pair
    → (pair_series psi (of_slots site chemical x) ≡ both_ends 500000000 500000000 (negsuc 8)) × (of_media site chemical particles h ≡ both_ends 500000000 500000000 (negsuc 8)))
    -- x = 64.0000001, the first above 64, and x = 1E+6: g is 1 / (x + 0..1E-25), and h is (1 − g) / x
    ∷ (growth_at (both_ends 640000001 640000001 (negsuc 6)) ≡ record { g = both_ends 156249999 156250000 (negsuc 9); h = both_ends 153808593 153808594 (negsuc 9) })
    ∷ ((growth_at (whole 1000000)).g ≡ is (record { low = record { significand = 999999990; exponent = negsuc 14 }; high = record { significand = 100000000; exponent = negsuc 13 } }))
    ∷ ((growth_at (whole 1000000)).h ≡ both_ends 999999000 999999001 (negsuc 14))
    -- ED 4.5: AT is 1642.5, as the pathways read it
    ∷ ((site chemical receptor : Values) → is (inputs site chemical receptor "ED") ≡ entry 45 (negsuc 0) → worked_for site chemical receptor (AT Hazard) ≡ both_ends 164250000 164250000 (negsuc 4))
    -- 002's winter factor
    ∷ ((site chemical receptor : Values) → Winter (inputs site chemical receptor) →
    factor_of Cancer SoilWinter site chemical receptor ≡ mapped (λ (q : Pair). record { 0 = q }) (both_ends 996667315 996667316 (negsuc 15)))
    -- 999999999.5, and 1 − 0.99999999999, as printed numbers of more than nine digits are taken
    ∷ (entry 9999999995 (negsuc 0) ≡ is (record { low = record { significand = 999999999; exponent = pos 0 }; high = record { significand = 100000000; exponent = pos 1 } }))
    ∷ (one_minus_entry 99999999999 (negsuc 10) ≡ both_ends 100000000 100000000 (negsuc 18))
    -- the deck: no condition holds, with a buffer of 665 bytes; its answer, its report's lines, and their bytes
    ∷ (first (all_conditions ordinary deck 665) ≡ passed)
    ∷ (outcome_of ordinary deck 665 ≡ record { number = 0; line = 665; field = 0 })
    ∷ (rows_of (scenario_of ordinary deck) ≡ rows)
    ∷ (lines_text (rows_of (scenario_of ordinary deck)) ≡ printed_text)
    -- its highest-year soil is 0.15 mg/kg; with nothing lost the soil of cancer is half of it where T2 is tD, and three quarters where T2 is twice tD
    ∷ (worked (pairs_at (scenario_of ordinary deck) 0 0) C ≡ both_ends 150000000 150000000 (negsuc 8))
    ∷ (cancer_soil equal_deck ≡ both_ends 750000000 750000000 (negsuc 9))
    ∷ (cancer_soil long_deck ≡ both_ends 112500000 112500000 (negsuc 8))
    -- a solvent's, which loses 1E+9 in a year what 0.005 adds, is 5E-12, and half of that where T2 is twice tD
    ∷ (worked (pairs_at (scenario_of ordinary solvent_deck) 0 0) C ≡ both_ends 499999998 500000001 (negsuc 19))
    ∷ (cancer_soil solvent_deck ≡ both_ends 249999998 250000004 (negsuc 19))
    -- by the guidance of 2009 its air is 1 × 365 × 5 / (365 × 5) × 0.001 / 0.001 = 1, and 1 × 365 × 5 / 27375 × 0.001 × 1000 × 0.5, a thirtieth
    ∷ (first (all_conditions ordinary air_deck 665) ≡ passed)
    ∷ (columns_at Hazard (scenario_of ordinary air_deck) 0 0 Air ≡ counts 1000000000000 1000000000000)
    ∷ (columns_at Cancer (scenario_of ordinary air_deck) 0 0 Air ≡ counts 33333333300000 33333333400000)
    -- the deck with everything in play: kse, ksr and ksl, air, yearly deposition, and its lines
    ∷ (first (all_conditions ordinary full_deck 665) ≡ passed)
    ∷ (worked (pairs_at (scenario_of ordinary full_deck) 0 0) kse ≡ both_ends 133333333 133333334 (negsuc 7))
    ∷ (worked (pairs_at (scenario_of ordinary full_deck) 0 0) ksr ≡ both_ends 166666666 166666667 (negsuc 7))
    ∷ (worked (pairs_at (scenario_of ordinary full_deck) 0 0) ksl ≡ both_ends 277777777 277777778 (negsuc 7))
    ∷ (worked (pairs_at (scenario_of ordinary full_deck) 0 0) A ≡ both_ends 650000000 650000000 (negsuc 12))
    ∷ (worked (pairs_at (scenario_of ordinary full_deck) 0 0) D ≡ both_ends 263999999 264000001 (negsuc 8))
    ∷ (rows_of (scenario_of ordinary full_deck) ≡ full_rows)
    -- the composite's deck likewise
    ∷ (first (all_conditions composite composite_deck 665) ≡ passed)
    ∷ (outcome_of composite composite_deck 665 ≡ record { number = 0; line = 665; field = 0 })
    ∷ (rows_of (scenario_of composite composite_deck) ≡ composite_rows)
    ∷ (lines_text (rows_of (scenario_of composite composite_deck)) ≡ composite_text)
    -- 002's five stages weigh 62.44 kg, where 002 prints 63.3; their years add to 76, as pairs and to the last digit
    ∷ (composed pairs five_stages (whole 76) 4 (place_of "BW") ≡ both_ends 624401315 624401316 (negsuc 6))
    ∷ (composed pairs five_stages (whole 76) 4 (place_of "ED") ≡ whole 76)
    ∷ (years.as_pair (years_together five_years 4) ≡ whole 76)
    ∷ []

-- all of them, jointly
unfoldable pub CheckedFigures : Type 0
CheckedFigures = All cases
