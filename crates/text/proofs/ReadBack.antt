-- A line's text determines its numbers: no two rows that their columns hold have one text.
-- Assumes nothing.
use mathlib.Core.Path.{◌≡◌, refl, sym, ap, ◌∙◌}
use mathlib.Core.List.{List, [], ◌∷◌, ◌++◌, append_assoc}
use Prim.Native.Nat.{ℕ, ◌-◌, ◌/◌, ◌^◌, ◌<◌}
use native.Mathlib.Omega.{arith}
use lib.Dec.{lit<}
use lib.ListN.{length, replicate}
use Rattle.std.specs.Prelude.{Some, None}
use Rattle.totals.specs.Totals.{Columns}
use Rattle.text.specs.declared.Row.{Row}
use Rattle.spelling.specs.Columns.{id_width, digits_value, digit, digits, decimal, justified, number, dash}
use Rattle.text.specs.Text.{pathway_width, count_width, columns_text, row_text, CountsFit, FitsColumns}
use Rattle.spelling.proofs.Filling.{length_number, length_justified}
use Rattle.text.proofs.Rows.{length_columns}
use Rattle.spelling.proofs.NumberRead.{number_read}
use Rattle.lists.proofs.ListLaws.{parts, last, last_snoc}

-- a number and the text after it, in columns of any width
number_first : (w m n : ℕ) (t u : List ℕ) → 0 < w → m < 10 ^ w → n < 10 ^ w → number w m ++ t ≡ number w n ++ u → (m ≡ n) × (t ≡ u)
number_first w m n t u some hm hn e =
    let p = parts (number w m) (number w n) t u (length_number w m some ∙ sym (length_number w n some)) e in
    (sym (number_read w m some hm) ∙ ap (digits_value 0) p.0 ∙ number_read w n some hn, p.1)

last_of_number : (w n : ℕ) → last 0 (number w n) ≡ digit n
unfolding number justified decimal
last_of_number w n =
    rw (← append_assoc)
    (last_snoc 0 (replicate (w - length (digits (w - 1) (n / 10) ++ (digit n ∷ []))) 32 ++ digits (w - 1) (n / 10)) (digit n))

-- a dash is no number
dash_no_number : (w n : ℕ) (t u : List ℕ) → 0 < w → justified w dash ++ t ≡ number w n ++ u → ⊥
unfolding justified
dash_no_number w n t u some e =
    let p = parts (justified w dash) (number w n) t u (length_justified w dash some ∙ sym (length_number w n some)) e in
    let same : 45 ≡ digit n = sym (last_snoc 0 (replicate (w - 1) 32) 45) ∙ ap (last 0) p.0 ∙ last_of_number w n in
    omega arith

columns_determine : (c d : Columns) → CountsFit c → CountsFit d → columns_text c ≡ columns_text d → c ≡ d
unfolding columns_text CountsFit
columns_determine None None f g e = refl
columns_determine None (Some n) f g e = absurd (dash_no_number count_width n.low _ _ (lit< tt) e)
columns_determine (Some n) None f g e = absurd (dash_no_number count_width n.low _ _ (lit< tt) (sym e))
columns_determine (Some n) (Some m) f g e =
    let first = number_first count_width n.low m.low (number count_width n.high) (number count_width m.high) (lit< tt) f.0 g.0 e in
    let second = number_first count_width n.high m.high [] [] (lit< tt) f.1 g.1 (ap (λ (x : List ℕ). x ++ []) first.1) in
    λ i. Some (record { low = first.0 i; high = second.0 i })

columns_first : (c d : Columns) (t u : List ℕ) → CountsFit c → CountsFit d → columns_text c ++ t ≡ columns_text d ++ u → (c ≡ d) × (t ≡ u)
columns_first c d t u f g e =
    let p = parts (columns_text c) (columns_text d) t u (length_columns c ∙ sym (length_columns d)) e in
    (columns_determine c d f g p.0, p.1)

pub text_determines : (r r' : Row) → FitsColumns r → FitsColumns r' → row_text r ≡ row_text r' → r ≡ r'
unfolding row_text
text_determines r r' f g e =
    let whole = simp append_assoc at e in
    let one = number_first id_width r.receptor r'.receptor _ _ (lit< tt) f.receptor g.receptor whole in
    let two = number_first id_width r.chemical r'.chemical _ _ (lit< tt) f.chemical g.chemical one.1 in
    let three = number_first pathway_width r.pathway r'.pathway _ _ (lit< tt) f.pathway g.pathway two.1 in
    let four = columns_first r.hazard r'.hazard _ _ f.hazard g.hazard three.1 in
    let five = columns_first r.cancer r'.cancer _ _ f.cancer g.cancer four.1 in
    λ i. record { receptor = one.0 i; chemical = two.0 i; pathway = three.0 i; hazard = four.0 i; cancer = five.0 i }
