-- Document 01's ● cases hold of the definitions, jointly: by computation. Assumes nothing.
use mathlib.Core.Path.{◌≡◌, refl, ◌∙◌, ap}
use mathlib.Core.List.{List, [], ◌∷◌, map}
use lib.IntN.{negsuc}
use Rattle.pair.specs.declared.Pair.{Pair}
use Rattle.pair.specs.Number.{nine_figures, in_reach, zero_exponent, is_zero, is_number, zero, one, lesser, rise, units_at, lower, at_most, is_pair}
use Rattle.pair.specs.Rounding.{extra, divided, excess_from, excess, carried, rounded, sum_end, product_end, quotient_end, rest_end, units_end}
use Rattle.pair.specs.Calls as calls
use Rattle.pair.specs.Calls.{Outcome, is, mapped, provided, after, after_one, zero_pair, one_pair, entry, sum, product, quotient, one_minus_entry, compared, in_units}
use Rattle.times.specs.Times as years
use Rattle.pair.specs.Figures.{◌⊗◌, ◌⊘◌, whole, both_ends, figures}
use Rattle.pair.proofs.PairFigures.{figures_hold}
use Rattle.slots.specs.Slots.{table, same, is_in, place_in, rule_in, rule_at, line_rules, year_of, owner_of, place_of}
use Rattle.equations.specs.declared.Pathway.TheVariants.{Air, SoilWinter}
use Rattle.equations.specs.declared.Effect.TheVariants.{Hazard, Cancer}
use Rattle.equations.specs.declared.Values.{Values}
use Rattle.equations.specs.Formula.{read, pairs}
use Rattle.equations.specs.Letters.{g, h}
use Rattle.equations.specs.Series as series
use Rattle.equations.specs.Series.{phi, psi, terms, from_zero, pair_series}
use Rattle.equations.specs.Page as page
use Rattle.equations.specs.Page.{growth, x, u, kse, ksr, ksl, k, A, D, C, above_ground, below_ground, AT, B, exposure, factor, by_medium, medium, intake, by_route, reference_slot, reference, figure_by, intake_line, time_in_air, time_share, air_figure_by, air_line, by_guidance, line}
use Rattle.equations.specs.Ranges.{sixty_four, next_to_nothing}
use Rattle.equations.specs.Readings.{letters, no_growth, plain_with, plain, exponents, growth_at_both, as_answers, pace_if, pace_of, paces_of, pair_growing, worked, value_in, by_owner, inputs, no_values}
use Rattle.equations.proofs.SeriesFigures.{first_pair, series_at_zero, g_at_zero, h_at_zero}
use Rattle.media.specs.Media.{media_inputs, of_slots, of_media, growth_at}
use Rattle.pathway.specs.Lines.{worked_for, factor_of}
use Rattle.cases.specs.Conditions.{Status}
use Rattle.cases.specs.Conditions.{passed}
use Rattle.spelling.specs.Columns.{within, leading, digits_value, digits, decimal, justified, number}
use Rattle.deck.specs.Parts.{lines_of, line_of, field_in, field_of, kind_of}
use Rattle.spelling.specs.Spelling.{id_spelled, id_in, sign_spelled, exponent_spelled, power_of, digits_read, ended_of, pointed_of, spelled_of, lone_dash, word_of}
use Rattle.kinds.specs.Kinds.{numbered, kind_in, is_line, is_last, may_begin, may_follow}
use Rattle.powers.specs.Powers.{above, below}
use Rattle.cases.specs.Ranges.{value_at_most, value_at_least, within_bounds, is_year_of, is_year, in_range}
use Rattle.cases.specs.Conditions.{first}
use Rattle.cases.specs.CaseConditions.{is_missing, lacks}
use Rattle.deck.specs.DeckConditions.{misspelled, misplaced, out_of_range, field_conditions, field_at, bad_bytes, bad_kind, id_of, same_letter, not_above, unlike, wrong_id, bad_id, line_conditions_after, begun_with, seen_with, seen_in, line_conditions, bad_length, no_end, conditions}
use Rattle.lists.specs.Lists.{tabulate, chained, any_of}
use Rattle.deck.specs.DeckCase.{value_of, slot_spelled, record_of, records_of, case_with, case_of}
use Rattle.cases.specs.Cases.{value_at, chemical_at, receptor_at, guidance_of}
use Rattle.totals.specs.Totals.{◌added◌}
use Rattle.text.specs.Text.{columns_text, row_text, lines_text}
use Rattle.scenario.specs.Scenario.{or_no_pair, pair_of, rest_of, values_of, no_receptor, chemical_in, receptor_in, stay_in, guidance_in, given_in, pairs_at, scenario_with, or_no_time, time_given, deposition_of, stay_if, later_if, receptor_with, entered, entered_from, of_value, otherwise, told, values_if, no_pairs, no_pair}
use Rattle.sheet.specs.Sheet.{pathway_at, is_given, has_reference, figure_at, unit_of, cap_of, counted, counted_in, columns_at, added_over, total_at, lines_per_receptor, is_above, high_above, over_cap, report_line, line_too_large, over_lines, large_lines}
use Rattle.composite.specs.Composite.{summed, sum_of_years, mean, composed, years_together, pair_stage, last_stage, stage_years, time_exposed, pair_composite, composite_receptor, composite_from, composite}
use Rattle.report.specs.Forms.{scenario_of, all_conditions, status_of, length_of, outcome_for, outcome_of, rows_for, too_short, form_conditions}
use Rattle.report.specs.Report.{row_at, total_row, rows_at, rows_of, ordinary}
use Rattle.figures.specs.Figures.{bytes, counts, lines, deck_of, deck_with, deck, equal_deck, long_deck, solvent_deck, air_deck, full_deck, full_rows, cancer_soil, composite_deck, composite_text, composite_rows, five_stages, five_years, printed_lines, printed_text, row, rows, Winter, cases, CheckedFigures}

-- x = 0
half_at_zero : (site chemical : Values) (particles : Pair) → of_slots site chemical x ≡ is zero_pair
    → (pair_series psi (of_slots site chemical x) ≡ both_ends 500000000 500000000 (negsuc 8)) × (of_media site chemical particles h ≡ both_ends 500000000 500000000 (negsuc 8))
unfolding of_slots of_media media_inputs as_answers first_pair both_ends extra divided excess_from excess carried rounded calls.written
half_at_zero site chemical particles e = (ap (pair_series psi) e ∙ series_at_zero psi, h_at_zero (media_inputs site chemical particles) e)

at_zero : (site chemical : Values) (particles : Pair) → of_slots site chemical x ≡ is zero_pair → (pair_series phi (of_slots site chemical x) ≡ is one_pair) × (of_media site chemical particles g ≡ is one_pair)
unfolding of_slots of_media media_inputs as_answers first_pair
at_zero site chemical particles e = (ap (pair_series phi) e ∙ series_at_zero phi, g_at_zero (media_inputs site chemical particles) e)

-- x = 64.0000001, and x = 1E+6
fast_growth : (growth_at (both_ends 640000001 640000001 (negsuc 6)) ≡ record { g = both_ends 156249999 156250000 (negsuc 9); h = both_ends 153808593 153808594 (negsuc 9) })
    × ((growth_at (whole 1000000)).g ≡ is (record { low = record { significand = 999999990; exponent = negsuc 14 }; high = record { significand = 100000000; exponent = negsuc 13 } }))
    × ((growth_at (whole 1000000)).h ≡ both_ends 999999000 999999001 (negsuc 14))
unfolding growth_at growth page.g_with pair_growing pace_of pace_if compared sixty_four next_to_nothing both_ends whole pairs nine_figures in_reach zero_exponent is_zero is_number zero one lesser rise units_at lower at_most is_pair extra divided excess_from excess carried rounded calls.written sum_end product_end quotient_end rest_end provided calls.ends after after_one entry sum product quotient calls.one_minus
fast_growth = (refl, refl, refl)

-- 365 × 4.5, and the winter factor as the page writes it
year : (site chemical receptor : Values) → is (inputs site chemical receptor "ED") ≡ entry 45 (negsuc 0) → worked_for site chemical receptor (AT Hazard) ≡ both_ends 164250000 164250000 (negsuc 4)
unfolding worked_for plain_with plain read letters pairs AT figures ◌⊗◌ whole
year site chemical receptor h = rw h figures_hold.1.1.0

winter : (site chemical receptor : Values) → Winter (inputs site chemical receptor) →
    factor_of Cancer SoilWinter site chemical receptor ≡ mapped (λ (q : Pair). record { 0 = q }) (both_ends 996667315 996667316 (negsuc 15))
unfolding factor_of worked_for plain_with plain read letters pairs factor exposure B AT figures ◌⊗◌ ◌⊘◌ whole
winter site chemical receptor w =
    ap (mapped (λ (q : Pair). record { 0 = q }))
    (rw (w.IRsoil, w.AForal, w.FRsnow, w.ETsoil, w.EFw, w.ED, w.BW, w.ATc) figures_hold.1.1.1.0)

-- the deck: its report's lines, their text, and that none of the conditions holds
lines_are : rows_of (scenario_of ordinary deck) ≡ rows
unfolding bytes lines deck_of deck_with deck within leading lines_of line_of field_in field_of digits_value id_spelled id_in sign_spelled exponent_spelled power_of digits_read ended_of pointed_of spelled_of lone_dash word_of kind_of id_of tabulate value_of slot_spelled record_of records_of case_with case_of table same is_in place_in owner_of place_of value_at chemical_at receptor_at or_no_pair pair_of rest_of values_of chemical_in receptor_in given_in scenario_with or_no_time time_given deposition_of stay_if later_if receptor_with entered entered_from calls.long_entry years.amount years.is_years years.words_of years.time_of years.none years.least years.places years.printed_amount years.printed years.together years.at_most years.as_pair years.beyond ordinary scenario_of value_in by_owner inputs pairs_at as_answers nine_figures in_reach zero_exponent is_zero is_number zero one lesser rise units_at lower at_most is_pair extra divided excess_from excess carried rounded calls.written sum_end product_end quotient_end rest_end provided calls.ends after after_one zero_pair one_pair entry sum product quotient one_minus_entry pairs read letters no_growth plain_with plain exponents growth_at_both stay_in compared pace_if pace_of paces_of pair_growing sixty_four worked series.first series.step terms from_zero pair_series u kse ksr ksl k x page.x' page.g_with growth page.gathered page.mean page.soil A D C above_ground below_ground AT B exposure factor by_medium medium intake by_route reference_slot reference figure_by intake_line by_guidance line guidance_of guidance_in pathway_at is_given has_reference figure_at chained units_end in_units unit_of counted counted_in columns_at ◌added◌ added_over total_at row_at total_row rows_at rows_of row rows numbered kind_in is_line begun_with seen_with seen_in told of_value otherwise values_if lacks is_missing any_of rule_at rule_in
lines_are = refl

-- its soils
soils_are : (worked (pairs_at (scenario_of ordinary deck) 0 0) C ≡ both_ends 150000000 150000000 (negsuc 8))
    × (cancer_soil equal_deck ≡ both_ends 750000000 750000000 (negsuc 9)) × (cancer_soil long_deck ≡ both_ends 112500000 112500000 (negsuc 8))
unfolding bytes lines deck_of deck_with deck equal_deck long_deck cancer_soil both_ends within leading lines_of line_of field_in field_of digits_value id_spelled id_in sign_spelled exponent_spelled power_of digits_read ended_of pointed_of spelled_of lone_dash word_of kind_of id_of tabulate value_of slot_spelled record_of records_of case_with case_of table same is_in place_in owner_of place_of value_at chemical_at receptor_at or_no_pair pair_of rest_of values_of chemical_in receptor_in given_in scenario_with or_no_time time_given deposition_of stay_if later_if receptor_with entered entered_from calls.long_entry years.amount years.is_years years.words_of years.time_of years.none years.least years.places years.printed_amount years.printed years.together years.at_most years.as_pair years.beyond ordinary scenario_of value_in by_owner inputs pairs_at as_answers nine_figures in_reach zero_exponent is_zero is_number zero one lesser rise units_at lower at_most is_pair extra divided excess_from excess carried rounded calls.written sum_end product_end quotient_end rest_end provided calls.ends after after_one zero_pair one_pair entry sum product quotient one_minus_entry pairs read letters no_growth plain_with plain exponents growth_at_both stay_in compared pace_if pace_of paces_of pair_growing sixty_four worked series.first series.step terms from_zero pair_series u kse ksr ksl k x page.x' page.g_with growth page.gathered page.mean page.soil A D C above_ground below_ground AT B exposure factor by_medium medium intake by_route reference_slot reference figure_by intake_line by_guidance line guidance_of guidance_in pathway_at is_given has_reference figure_at chained units_end in_units unit_of counted counted_in columns_at ◌added◌ added_over total_at row_at total_row rows_at rows_of row rows numbered kind_in is_line begun_with seen_with seen_in told of_value otherwise values_if lacks is_missing any_of rule_at rule_in
soils_are = (refl, refl, refl)

-- a solvent's
solvent_soils : (worked (pairs_at (scenario_of ordinary solvent_deck) 0 0) C ≡ both_ends 499999998 500000001 (negsuc 19)) × (cancer_soil solvent_deck ≡ both_ends 249999998 250000004 (negsuc 19))
unfolding bytes lines deck_of deck_with solvent_deck cancer_soil both_ends within leading lines_of line_of field_in field_of digits_value id_spelled id_in sign_spelled exponent_spelled power_of digits_read ended_of pointed_of spelled_of lone_dash word_of kind_of id_of tabulate value_of slot_spelled record_of records_of case_with case_of table same is_in place_in owner_of place_of value_at chemical_at receptor_at or_no_pair pair_of rest_of values_of chemical_in receptor_in given_in scenario_with or_no_time time_given deposition_of stay_if later_if receptor_with entered entered_from calls.long_entry years.amount years.is_years years.words_of years.time_of years.none years.least years.places years.printed_amount years.printed years.together years.at_most years.as_pair years.beyond ordinary scenario_of value_in by_owner inputs pairs_at as_answers nine_figures in_reach zero_exponent is_zero is_number zero one lesser rise units_at lower at_most is_pair extra divided excess_from excess carried rounded calls.written sum_end product_end quotient_end rest_end provided calls.ends after after_one zero_pair one_pair entry sum product quotient one_minus_entry pairs read letters no_growth plain_with plain exponents growth_at_both stay_in compared pace_if pace_of paces_of pair_growing sixty_four worked series.first series.step terms from_zero pair_series u kse ksr ksl k x page.x' page.g_with growth page.gathered page.mean page.soil A D C above_ground below_ground AT B exposure factor by_medium medium intake by_route reference_slot reference figure_by intake_line by_guidance line guidance_of guidance_in pathway_at is_given has_reference figure_at chained units_end in_units unit_of counted counted_in columns_at ◌added◌ added_over total_at row_at total_row rows_at rows_of row rows next_to_nothing calls.one_minus numbered kind_in is_line begun_with seen_with seen_in told of_value otherwise values_if lacks is_missing any_of rule_at rule_in
solvent_soils = (refl, refl)

-- by the guidance of 2009
air_whole : first (all_conditions ordinary air_deck 665) ≡ passed
unfolding bytes lines deck_of air_deck within leading lines_of line_of field_in field_of digits_value id_spelled id_in sign_spelled exponent_spelled power_of digits_read ended_of pointed_of spelled_of lone_dash word_of kind_of id_of tabulate value_of slot_spelled record_of records_of case_with case_of table same is_in place_in owner_of place_of value_at chemical_at receptor_at or_no_pair pair_of rest_of values_of chemical_in receptor_in given_in scenario_with or_no_time time_given deposition_of stay_if later_if receptor_with entered entered_from calls.long_entry years.amount years.is_years years.words_of years.time_of years.none years.least years.places years.printed_amount years.printed years.together years.at_most years.as_pair years.beyond ordinary scenario_of value_in by_owner inputs pairs_at as_answers nine_figures in_reach zero_exponent is_zero is_number zero one lesser rise units_at lower at_most is_pair extra divided excess_from excess carried rounded calls.written sum_end product_end quotient_end rest_end provided calls.ends after after_one zero_pair one_pair entry sum product quotient one_minus_entry pairs read letters no_growth plain_with plain exponents growth_at_both stay_in compared pace_if pace_of paces_of pair_growing sixty_four worked series.first series.step terms from_zero pair_series u kse ksr ksl k x page.x' page.g_with growth page.gathered page.mean page.soil A D C above_ground below_ground AT B exposure factor by_medium medium intake by_route reference_slot reference figure_by intake_line by_guidance line guidance_of guidance_in pathway_at is_given has_reference figure_at chained rule_in rule_at line_rules above below value_at_most value_at_least within_bounds in_range first misspelled misplaced out_of_range field_conditions field_at bad_bytes bad_kind same_letter not_above unlike wrong_id bad_id line_conditions_after line_conditions bad_length no_end conditions cap_of lines_per_receptor is_above high_above over_cap line_too_large large_lines rows_of rows_at rows_for too_short form_conditions all_conditions length_of air_line time_share time_in_air air_figure_by year_of is_year_of is_year numbered kind_in is_line begun_with seen_with seen_in is_last may_begin may_follow told of_value otherwise values_if lacks is_missing any_of over_lines report_line
air_whole = refl

air_is : (columns_at Hazard (scenario_of ordinary air_deck) 0 0 Air ≡ counts 1000000000000 1000000000000) × (columns_at Cancer (scenario_of ordinary air_deck) 0 0 Air ≡ counts 33333333300000 33333333400000)
unfolding bytes lines deck_of air_deck within leading lines_of line_of field_in field_of digits_value id_spelled id_in sign_spelled exponent_spelled power_of digits_read ended_of pointed_of spelled_of lone_dash word_of kind_of id_of tabulate value_of slot_spelled record_of records_of case_with case_of table same is_in place_in owner_of place_of value_at chemical_at receptor_at or_no_pair pair_of rest_of values_of chemical_in receptor_in given_in scenario_with or_no_time time_given deposition_of stay_if later_if receptor_with entered entered_from calls.long_entry years.amount years.is_years years.words_of years.time_of years.none years.least years.places years.printed_amount years.printed years.together years.at_most years.as_pair years.beyond ordinary scenario_of value_in by_owner inputs pairs_at as_answers nine_figures in_reach zero_exponent is_zero is_number zero one lesser rise units_at lower at_most is_pair extra divided excess_from excess carried rounded calls.written sum_end product_end quotient_end rest_end provided calls.ends after after_one zero_pair one_pair entry sum product quotient one_minus_entry pairs read letters no_growth plain_with plain exponents growth_at_both stay_in compared pace_if pace_of paces_of pair_growing sixty_four worked series.first series.step terms from_zero pair_series u kse ksr ksl k x page.x' page.g_with growth page.gathered page.mean page.soil A D C above_ground below_ground AT B exposure factor by_medium medium intake by_route reference_slot reference figure_by intake_line by_guidance line guidance_of guidance_in pathway_at is_given has_reference figure_at chained units_end in_units unit_of counted counted_in columns_at air_line time_share time_in_air air_figure_by year_of above below is_year_of is_year numbered kind_in is_line begun_with seen_with seen_in told of_value otherwise values_if lacks is_missing any_of rule_at rule_in
air_is = (refl, refl)

-- with everything in play
full_whole : first (all_conditions ordinary full_deck 665) ≡ passed
unfolding bytes lines full_deck next_to_nothing calls.one_minus within leading lines_of line_of field_in field_of digits_value id_spelled id_in sign_spelled exponent_spelled power_of digits_read ended_of pointed_of spelled_of lone_dash word_of kind_of id_of tabulate value_of slot_spelled record_of records_of case_with case_of table same is_in place_in owner_of place_of value_at chemical_at receptor_at or_no_pair pair_of rest_of values_of chemical_in receptor_in given_in scenario_with or_no_time time_given deposition_of stay_if later_if receptor_with entered entered_from calls.long_entry years.amount years.is_years years.words_of years.time_of years.none years.least years.places years.printed_amount years.printed years.together years.at_most years.as_pair years.beyond ordinary scenario_of value_in by_owner inputs pairs_at as_answers nine_figures in_reach zero_exponent is_zero is_number zero one lesser rise units_at lower at_most is_pair extra divided excess_from excess carried rounded calls.written sum_end product_end quotient_end rest_end provided calls.ends after after_one zero_pair one_pair entry sum product quotient one_minus_entry pairs read letters no_growth plain_with plain exponents growth_at_both stay_in compared pace_if pace_of paces_of pair_growing sixty_four worked series.first series.step terms from_zero pair_series u kse ksr ksl k x page.x' page.g_with growth page.gathered page.mean page.soil A D C above_ground below_ground AT B exposure factor by_medium medium intake by_route reference_slot reference figure_by intake_line by_guidance line guidance_of guidance_in pathway_at is_given has_reference figure_at chained rule_in rule_at line_rules above below value_at_most value_at_least within_bounds in_range first misspelled misplaced out_of_range field_conditions field_at bad_bytes bad_kind same_letter not_above unlike wrong_id bad_id line_conditions_after line_conditions bad_length no_end conditions cap_of lines_per_receptor is_above high_above over_cap line_too_large large_lines rows_of rows_at rows_for too_short form_conditions all_conditions length_of numbered kind_in is_line begun_with seen_with seen_in is_last may_begin may_follow told of_value otherwise values_if lacks is_missing any_of over_lines report_line
full_whole = refl

full_is : (worked (pairs_at (scenario_of ordinary full_deck) 0 0) kse ≡ both_ends 133333333 133333334 (negsuc 7)) × (worked (pairs_at (scenario_of ordinary full_deck) 0 0) ksr ≡ both_ends 166666666 166666667 (negsuc 7))
    × (worked (pairs_at (scenario_of ordinary full_deck) 0 0) ksl ≡ both_ends 277777777 277777778 (negsuc 7)) × (worked (pairs_at (scenario_of ordinary full_deck) 0 0) A ≡ both_ends 650000000 650000000 (negsuc 12))
    × (worked (pairs_at (scenario_of ordinary full_deck) 0 0) D ≡ both_ends 263999999 264000001 (negsuc 8)) × (rows_of (scenario_of ordinary full_deck) ≡ full_rows)
unfolding bytes lines full_deck full_rows both_ends next_to_nothing calls.one_minus within leading lines_of line_of field_in field_of digits_value id_spelled id_in sign_spelled exponent_spelled power_of digits_read ended_of pointed_of spelled_of lone_dash word_of kind_of id_of tabulate value_of slot_spelled record_of records_of case_with case_of table same is_in place_in owner_of place_of value_at chemical_at receptor_at or_no_pair pair_of rest_of values_of chemical_in receptor_in given_in scenario_with or_no_time time_given deposition_of stay_if later_if receptor_with entered entered_from calls.long_entry years.amount years.is_years years.words_of years.time_of years.none years.least years.places years.printed_amount years.printed years.together years.at_most years.as_pair years.beyond ordinary scenario_of value_in by_owner inputs pairs_at as_answers nine_figures in_reach zero_exponent is_zero is_number zero one lesser rise units_at lower at_most is_pair extra divided excess_from excess carried rounded calls.written sum_end product_end quotient_end rest_end provided calls.ends after after_one zero_pair one_pair entry sum product quotient one_minus_entry pairs read letters no_growth plain_with plain exponents growth_at_both stay_in compared pace_if pace_of paces_of pair_growing sixty_four worked series.first series.step terms from_zero pair_series u kse ksr ksl k x page.x' page.g_with growth page.gathered page.mean page.soil A D C above_ground below_ground AT B exposure factor by_medium medium intake by_route reference_slot reference figure_by intake_line by_guidance line guidance_of guidance_in pathway_at is_given has_reference figure_at chained units_end in_units unit_of counted counted_in columns_at ◌added◌ added_over total_at row_at total_row rows_at rows_of row numbered kind_in is_line begun_with seen_with seen_in told of_value otherwise values_if lacks is_missing any_of rule_at rule_in
full_is = (refl, refl, refl, refl, refl, refl)

text_is : lines_text rows ≡ printed_text
unfolding bytes lines printed_lines printed_text row rows lines_text row_text columns_text number justified decimal digits
text_is = refl

read_whole : first (all_conditions ordinary deck 665) ≡ passed
unfolding bytes lines deck_of deck_with deck within leading lines_of line_of field_in field_of digits_value id_spelled id_in sign_spelled exponent_spelled power_of digits_read ended_of pointed_of spelled_of lone_dash word_of kind_of id_of tabulate value_of slot_spelled record_of records_of case_with case_of table same is_in place_in owner_of place_of value_at chemical_at receptor_at or_no_pair pair_of rest_of values_of chemical_in receptor_in given_in scenario_with or_no_time time_given deposition_of stay_if later_if receptor_with entered entered_from calls.long_entry years.amount years.is_years years.words_of years.time_of years.none years.least years.places years.printed_amount years.printed years.together years.at_most years.as_pair years.beyond ordinary scenario_of value_in by_owner inputs pairs_at as_answers nine_figures in_reach zero_exponent is_zero is_number zero one lesser rise units_at lower at_most is_pair extra divided excess_from excess carried rounded calls.written sum_end product_end quotient_end rest_end provided calls.ends after after_one zero_pair one_pair entry sum product quotient one_minus_entry pairs read letters no_growth plain_with plain exponents growth_at_both stay_in compared pace_if pace_of paces_of pair_growing sixty_four worked series.first series.step terms from_zero pair_series u kse ksr ksl k x page.x' page.g_with growth page.gathered page.mean page.soil A D C above_ground below_ground AT B exposure factor by_medium medium intake by_route reference_slot reference figure_by intake_line by_guidance line guidance_of guidance_in pathway_at is_given has_reference figure_at chained rule_in rule_at line_rules above below value_at_most value_at_least within_bounds in_range first misspelled misplaced out_of_range field_conditions field_at bad_bytes bad_kind same_letter not_above unlike wrong_id bad_id line_conditions_after line_conditions bad_length no_end conditions cap_of lines_per_receptor is_above high_above over_cap line_too_large large_lines rows_of rows_at rows_for too_short form_conditions all_conditions length_of numbered kind_in is_line begun_with seen_with seen_in is_last may_begin may_follow told of_value otherwise values_if lacks is_missing any_of over_lines report_line
read_whole = refl

answer_is : outcome_of ordinary deck 665 ≡ record { number = 0; line = 665; field = 0 }
unfolding bytes lines deck_of deck_with deck within leading lines_of line_of field_in field_of digits_value id_spelled id_in sign_spelled exponent_spelled power_of digits_read ended_of pointed_of spelled_of lone_dash word_of kind_of id_of tabulate value_of slot_spelled record_of records_of case_with case_of entered_from scenario_with ordinary scenario_of rows_for rows_of rows_at chained length_of status_of outcome_for outcome_of numbered kind_in is_line begun_with seen_with seen_in
answer_is = ap (λ (s : Status). outcome_for s (rows_for ordinary deck)) read_whole

-- the composite's
composite_lines : rows_of (scenario_of composite composite_deck) ≡ composite_rows
unfolding bytes lines deck_of deck_with composite_deck within leading lines_of line_of field_in field_of digits_value id_spelled id_in sign_spelled exponent_spelled power_of digits_read ended_of pointed_of spelled_of lone_dash word_of kind_of id_of tabulate value_of slot_spelled record_of records_of case_with case_of table same is_in place_in owner_of place_of value_at chemical_at receptor_at or_no_pair pair_of rest_of values_of chemical_in receptor_in given_in scenario_with composed mean summed sum_of_years years_together pair_stage last_stage stage_years time_exposed pair_composite or_no_time time_given deposition_of stay_if later_if receptor_with composite_receptor calls.long_entry years.amount years.is_years years.words_of years.time_of years.none years.least years.places years.printed_amount years.printed years.together years.at_most years.as_pair years.beyond composite_from composite no_receptor scenario_of value_in by_owner inputs pairs_at as_answers nine_figures in_reach zero_exponent is_zero is_number zero one lesser rise units_at lower at_most is_pair extra divided excess_from excess carried rounded calls.written sum_end product_end quotient_end rest_end provided calls.ends after after_one zero_pair one_pair entry sum product quotient one_minus_entry pairs read letters no_growth plain_with plain exponents growth_at_both stay_in compared pace_if pace_of paces_of pair_growing sixty_four worked series.first series.step terms from_zero pair_series u kse ksr ksl k x page.x' page.g_with growth page.gathered page.mean page.soil A D C above_ground below_ground AT B exposure factor by_medium medium intake by_route reference_slot reference figure_by intake_line by_guidance line guidance_of guidance_in pathway_at is_given has_reference figure_at chained units_end in_units unit_of counted counted_in columns_at ◌added◌ added_over total_at row_at total_row rows_at rows_of row composite_rows numbered kind_in is_line begun_with seen_with seen_in told of_value otherwise no_pairs no_pair
composite_lines = refl

composite_text_lem : lines_text composite_rows ≡ composite_text
unfolding bytes lines composite_text row composite_rows lines_text row_text columns_text number justified decimal digits
composite_text_lem = refl

composite_whole : first (all_conditions composite composite_deck 665) ≡ passed
unfolding bytes lines deck_of deck_with composite_deck within leading lines_of line_of field_in field_of digits_value id_spelled id_in sign_spelled exponent_spelled power_of digits_read ended_of pointed_of spelled_of lone_dash word_of kind_of id_of tabulate value_of slot_spelled record_of records_of case_with case_of table same is_in place_in owner_of place_of value_at chemical_at receptor_at or_no_pair pair_of rest_of values_of chemical_in receptor_in given_in scenario_with composed mean summed sum_of_years years_together pair_stage last_stage stage_years time_exposed pair_composite or_no_time time_given deposition_of stay_if later_if receptor_with composite_receptor calls.long_entry years.amount years.is_years years.words_of years.time_of years.none years.least years.places years.printed_amount years.printed years.together years.at_most years.as_pair years.beyond composite_from composite no_receptor scenario_of value_in by_owner inputs pairs_at as_answers nine_figures in_reach zero_exponent is_zero is_number zero one lesser rise units_at lower at_most is_pair extra divided excess_from excess carried rounded calls.written sum_end product_end quotient_end rest_end provided calls.ends after after_one zero_pair one_pair entry sum product quotient one_minus_entry pairs read letters no_growth plain_with plain exponents growth_at_both stay_in compared pace_if pace_of paces_of pair_growing sixty_four worked series.first series.step terms from_zero pair_series u kse ksr ksl k x page.x' page.g_with growth page.gathered page.mean page.soil A D C above_ground below_ground AT B exposure factor by_medium medium intake by_route reference_slot reference figure_by intake_line by_guidance line guidance_of guidance_in pathway_at is_given has_reference figure_at chained rule_in rule_at line_rules above below value_at_most value_at_least within_bounds in_range first misspelled misplaced out_of_range field_conditions field_at bad_bytes bad_kind same_letter not_above unlike wrong_id bad_id line_conditions_after line_conditions bad_length no_end conditions cap_of lines_per_receptor is_above high_above over_cap line_too_large large_lines rows_of rows_at rows_for too_short form_conditions all_conditions length_of numbered kind_in is_line begun_with seen_with seen_in is_last may_begin may_follow told of_value otherwise over_lines report_line no_pairs no_pair
composite_whole = refl

composite_answer : outcome_of composite composite_deck 665 ≡ record { number = 0; line = 665; field = 0 }
unfolding bytes lines deck_of deck_with composite_deck within leading lines_of line_of field_in field_of digits_value id_spelled id_in sign_spelled exponent_spelled power_of digits_read ended_of pointed_of spelled_of lone_dash word_of kind_of id_of tabulate value_of slot_spelled record_of records_of case_with case_of scenario_with composite_from composite scenario_of rows_for rows_of rows_at chained length_of status_of outcome_for outcome_of numbered kind_in is_line begun_with seen_with seen_in
composite_answer = ap (λ (s : Status). outcome_for s (rows_for composite composite_deck)) composite_whole

-- 002's five stages
stages_weigh : (composed pairs five_stages (whole 76) 4 (place_of "BW") ≡ both_ends 624401315 624401316 (negsuc 6)) × (composed pairs five_stages (whole 76) 4 (place_of "ED") ≡ whole 76)
    × (years.as_pair (years_together five_years 4) ≡ whole 76)
unfolding five_stages five_years years_together or_no_time calls.long_entry years.amount years.is_years years.words_of years.time_of years.none years.least years.places years.printed_amount years.printed years.together years.at_most years.as_pair years.beyond composed mean summed sum_of_years both_ends whole pairs table same is_in place_in owner_of place_of nine_figures in_reach zero_exponent is_zero is_number zero one lesser rise units_at lower at_most is_pair extra divided excess_from excess carried rounded sum_end product_end quotient_end provided calls.ends after after_one zero_pair one_pair entry sum product quotient told of_value otherwise
stages_weigh = (refl, refl, refl)

-- What the cases x = 0, ED 4.5 and winter ask of the values is met: by the deck, and by these values.
deck_at_zero : of_slots (values_of (case_of deck).site) (values_of (chemical_at (case_of deck) 0)) x ≡ is zero_pair
unfolding bytes lines deck_of deck_with deck within leading lines_of line_of field_in field_of digits_value id_spelled id_in sign_spelled exponent_spelled power_of digits_read ended_of pointed_of spelled_of lone_dash word_of kind_of id_of tabulate value_of slot_spelled record_of records_of case_with case_of table same is_in place_in owner_of place_of value_at chemical_at or_no_pair pair_of values_of value_in by_owner inputs as_answers nine_figures in_reach zero_exponent is_zero is_number zero one lesser rise units_at lower at_most is_pair extra divided excess_from excess carried rounded sum_end product_end quotient_end rest_end provided calls.ends after after_one zero_pair one_pair entry sum product quotient one_minus_entry pairs read letters no_growth plain_with plain u kse ksr ksl k x of_slots no_values numbered kind_in is_line begun_with seen_with seen_in told of_value otherwise
deck_at_zero = refl

-- 1 in every place but those of a receptor's first ten slots, and so of the site's eleventh
values_from : List (Outcome Pair) → Values
values_from list = record { list = map or_no_pair list }

winter_site : Values
winter_site = values_from (whole 1 ∷ whole 1 ∷ whole 1 ∷ whole 1 ∷ whole 1 ∷ whole 1 ∷ whole 1 ∷ whole 1 ∷ whole 1 ∷ whole 1 ∷ entry 61 (negsuc 1) ∷ [])

winter_receptor : Values
winter_receptor = values_from (entry 633 (negsuc 0) ∷ whole 75 ∷ whole 27375 ∷ whole 1 ∷ whole 1 ∷ whole 1 ∷ whole 25 ∷ whole 1 ∷ whole 1 ∷ whole 151 ∷ [])

winter_met : Winter (inputs winter_site no_values winter_receptor)
unfolding values_from winter_site winter_receptor no_values whole table same is_in place_in owner_of place_of value_in by_owner inputs or_no_pair one in_reach extra divided excess_from excess carried rounded provided calls.ends one_pair entry told of_value otherwise
winter_met = record { IRsoil = refl; AForal = refl; FRsnow = refl; ETsoil = refl; EFw = refl; ED = refl; BW = refl; ATc = refl }

shorter : Values
shorter = values_from (whole 1 ∷ entry 45 (negsuc 0) ∷ [])

year_met : is (inputs no_values no_values shorter "ED") ≡ entry 45 (negsuc 0)
unfolding values_from shorter no_values whole table same is_in place_in owner_of place_of value_in by_owner inputs or_no_pair one in_reach extra divided excess_from excess carried rounded provided calls.ends one_pair entry told of_value otherwise
year_met = refl

-- the single list
pub checked_figures : CheckedFigures
unfolding CheckedFigures cases figures
checked_figures = (figures_hold.0, (figures_hold.1.0, (at_zero, (half_at_zero, (fast_growth.0, (fast_growth.1, (fast_growth.2, (year, (winter, (figures_hold.1.1.1.1.0, (figures_hold.1.1.1.1.1.0, (read_whole, (answer_is, (lines_are, (ap lines_text lines_are ∙ text_is, (soils_are.0, (soils_are.1, (soils_are.2, (solvent_soils.0, (solvent_soils.1, (air_whole, (air_is.0, (air_is.1, (full_whole, (full_is.0, (full_is.1, (full_is.2, (full_is.3, (full_is.4, (full_is.5, (composite_whole, (composite_answer, (composite_lines, (ap lines_text composite_lines ∙ composite_text_lem, (stages_weigh.0, (stages_weigh.1, (stages_weigh.2, tt)))))))))))))))))))))))))))))))))))))
