-- Calls on memory, checked one by one. Assumes nothing.
use mathlib.Core.Path.{◌≡◌, refl}
use mathlib.Core.Bool.{true}
use lib.IntN.{pos, negsuc}
use Rattle.equations.specs.Page.{A, AT, B, C, D, above_ground, air_figure_by, air_line, below_ground, by_guidance, by_medium, by_route, exposure, factor, figure_by, growth, intake, intake_line, k, kse, ksl, ksr, line, medium, reference, reference_slot, time_in_air, time_share, u, x}
use Rattle.powers.specs.Powers.{above, below}
use Rattle.pair.specs.Calls.{is, after, after_one, compared, entry, in_units, one_minus_entry, one_pair, product, provided, quotient, sum, zero_pair}
use Rattle.lists.specs.Lists.{any_of, chained, tabulate}
use Rattle.equations.specs.Readings.{as_answers, by_owner, exponents, growth_at_both, inputs, letters, no_growth, pace_if, pace_of, paces_of, pair_growing, plain, plain_with, value_in, worked}
use Rattle.pair.specs.Number.{at_most, in_reach, is_number, is_pair, is_zero, lesser, lower, nine_figures, one, rise, units_at, zero, zero_exponent}
use Rattle.deck.specs.DeckConditions.{begun_with, id_of, seen_in, seen_with}
use Rattle.pair.specs.Rounding.{carried, divided, excess, excess_from, extra, product_end, quotient_end, rest_end, rounded, sum_end, units_end}
use Rattle.deck.specs.DeckCase.{case_of, case_with, record_of, records_of, slot_spelled, value_of}
use Rattle.cases.specs.Cases.{chemical_at, guidance_of, receptor_at, value_at, no_case, zeros_at_end, without_zeros, plain as plain_value}
use Rattle.scenario.specs.Scenario.{chemical_in, deposition_of, entered, entered_from, given_in, guidance_in, later_if, no_pair, no_pairs, of_value, or_no_pair, or_no_time, otherwise, pair_of, pairs_at, receptor_in, receptor_with, rest_of, scenario_with, stay_if, stay_in, time_given, told, values_if, values_of, no_time, ordinary_of, ids_of, scenario_conditions, is_refused, is_unpaired}
use Rattle.sheet.specs.Sheet.{columns_at, counted, counted_in, figure_at, has_reference, is_given, pathway_at, unit_of, unworked}
use Rattle.spelling.specs.Spelling.{digits_read, ended_of, exponent_spelled, id_in, id_spelled, lone_dash, pointed_of, power_of, sign_spelled, spelled_of, word_of}
use Rattle.spelling.specs.Columns.{digits_value, leading, within}
use Rattle.deck.specs.Parts.{field_in, field_of, kind_of, line_of, lines_of}
use Rattle.equations.specs.Series.{from_zero, pair_series, terms}
use Rattle.slots.specs.Slots.{is_in, owner_of, place_in, place_of, rule_at, rule_in, same, table, year_of}
use Rattle.kinds.specs.Kinds.{is_line, kind_in, numbered}
use Rattle.cases.specs.CaseConditions.{is_missing, lacks, outside, counts_outside, id_before, id_wrong, ids_wrong, chemical_ids, receptor_ids, some_id_wrong, is_stray, is_out_of_range, slot_conditions, record_conditions, chemical_conditions, source_conditions, memory_conditions}
use Rattle.cases.specs.Ranges.{is_year, is_year_of, value_at_most, value_at_least, within_bounds, in_range}
use Rattle.report.specs.Report.{ordinary}
use Rattle.equations.specs.Formula.{pairs, read}
use Rattle.report.specs.Forms.{scenario_of}
use Rattle.equations.specs.Ranges.{sixty_four}
use Rattle.equations.specs.declared.Effect.TheVariants.{Hazard}
use Rattle.equations.specs.declared.Pathway.TheVariants.{Air}
use Rattle.cases.specs.Conditions.{passed, stopped}
use Rattle.cases.specs.declared.Value.TheVariants.{Absent, Given}
use Rattle.cases.specs.Conditions.{first}
use Rattle.figures.specs.Memory.{CheckedMemories, memories, given, record_with, site, chemical, receptor, case_of_three, with, under}
use Rattle.pair.specs.Calls as calls
use Rattle.times.specs.Times as years
use Rattle.equations.specs.Series as series
use Rattle.equations.specs.Page as page

passes : first (scenario_conditions (ordinary_of (case_of_three site chemical receptor))) ≡ passed
unfolding given record_with site chemical receptor case_of_three with under scenario_conditions memory_conditions counts_outside outside some_id_wrong ids_wrong any_of id_wrong id_before chemical_ids receptor_ids ids_of tabulate source_conditions chemical_conditions record_conditions chained slot_conditions is_missing is_stray is_out_of_range in_range within_bounds value_at_most value_at_least is_year is_year_of year_of above below rule_at rule_in table value_at first ordinary_of scenario_with entered_from receptor_at entered receptor_with
passes = refl

empty : first (scenario_conditions (ordinary_of no_case)) ≡ stopped 21 0 0
unfolding given record_with site chemical receptor case_of_three with under scenario_conditions memory_conditions counts_outside outside some_id_wrong ids_wrong any_of id_wrong id_before chemical_ids receptor_ids ids_of tabulate source_conditions chemical_conditions record_conditions chained slot_conditions is_missing is_stray is_out_of_range in_range within_bounds value_at_most value_at_least is_year is_year_of year_of above below rule_at rule_in table value_at first ordinary_of scenario_with entered_from receptor_at entered receptor_with no_case
empty = refl

long_id : first (scenario_conditions (ordinary_of (case_of_three site chemical (under 2000001 receptor)))) ≡ stopped 22 0 0
unfolding given record_with site chemical receptor case_of_three with under scenario_conditions memory_conditions counts_outside outside some_id_wrong ids_wrong any_of id_wrong id_before chemical_ids receptor_ids ids_of tabulate source_conditions chemical_conditions record_conditions chained slot_conditions is_missing is_stray is_out_of_range in_range within_bounds value_at_most value_at_least is_year is_year_of year_of above below rule_at rule_in table value_at first ordinary_of scenario_with entered_from receptor_at entered receptor_with
long_id = refl

missing : first (scenario_conditions (ordinary_of (case_of_three (with site "Zs" Absent) chemical receptor))) ≡ stopped 32 0 0
unfolding given record_with site chemical receptor case_of_three with under scenario_conditions memory_conditions counts_outside outside some_id_wrong ids_wrong any_of id_wrong id_before chemical_ids receptor_ids ids_of tabulate source_conditions chemical_conditions record_conditions chained slot_conditions is_missing is_stray is_out_of_range in_range within_bounds value_at_most value_at_least is_year is_year_of year_of above below rule_at rule_in table value_at first ordinary_of scenario_with entered_from receptor_at entered receptor_with place_of place_in owner_of is_in same
missing = refl

too_deep : first (scenario_conditions (ordinary_of (case_of_three (with site "Zs" (Given (pos 0) 10000000000000)) chemical receptor))) ≡ stopped 33 0 0
unfolding given record_with site chemical receptor case_of_three with under scenario_conditions memory_conditions counts_outside outside some_id_wrong ids_wrong any_of id_wrong id_before chemical_ids receptor_ids ids_of tabulate source_conditions chemical_conditions record_conditions chained slot_conditions is_missing is_stray is_out_of_range in_range within_bounds value_at_most value_at_least is_year is_year_of year_of above below rule_at rule_in table value_at first ordinary_of scenario_with entered_from receptor_at entered receptor_with place_of place_in owner_of is_in same
too_deep = refl

weightless : unworked Hazard (ordinary_of (case_of_three site chemical (with receptor "BW" (Given (pos 0) 0)))) 0 0 Air ≡ true
unfolding within leading lines_of line_of field_in field_of digits_value id_spelled id_in sign_spelled exponent_spelled power_of digits_read ended_of pointed_of spelled_of lone_dash word_of kind_of id_of tabulate value_of slot_spelled record_of records_of case_with case_of table same is_in place_in owner_of place_of value_at chemical_at receptor_at or_no_pair pair_of rest_of values_of chemical_in receptor_in given_in scenario_with or_no_time time_given deposition_of stay_if later_if receptor_with entered entered_from calls.long_entry years.amount years.is_years years.words_of years.time_of years.none years.least years.places years.printed_amount years.printed years.together years.at_most years.as_pair years.beyond ordinary scenario_of value_in by_owner inputs pairs_at as_answers nine_figures in_reach zero_exponent is_zero is_number zero one lesser rise units_at lower at_most is_pair extra divided excess_from excess carried rounded calls.written sum_end product_end quotient_end rest_end provided calls.ends after after_one zero_pair one_pair entry sum product quotient one_minus_entry pairs read letters no_growth plain_with plain exponents growth_at_both stay_in compared pace_if pace_of paces_of pair_growing sixty_four worked series.first series.step terms from_zero pair_series u kse ksr ksl k x page.x' page.g_with growth page.gathered page.mean page.soil A D C above_ground below_ground AT B exposure factor by_medium medium intake by_route reference_slot reference figure_by intake_line by_guidance line guidance_of guidance_in pathway_at is_given has_reference figure_at chained units_end in_units unit_of counted counted_in columns_at air_line time_share time_in_air air_figure_by year_of above below is_year_of is_year numbered kind_in is_line begun_with seen_with seen_in told of_value otherwise values_if lacks is_missing any_of rule_at rule_in unworked is_refused case_of_three given record_with site chemical receptor with ordinary_of no_pairs no_pair
weightless = refl

unweighed : unworked Hazard (ordinary_of (case_of_three site chemical (with receptor "BW" Absent))) 0 0 Air ≡ true
unfolding within leading lines_of line_of field_in field_of digits_value id_spelled id_in sign_spelled exponent_spelled power_of digits_read ended_of pointed_of spelled_of lone_dash word_of kind_of id_of tabulate value_of slot_spelled record_of records_of case_with case_of table same is_in place_in owner_of place_of value_at chemical_at receptor_at or_no_pair pair_of rest_of values_of chemical_in receptor_in given_in scenario_with or_no_time time_given deposition_of stay_if later_if receptor_with entered entered_from calls.long_entry years.amount years.is_years years.words_of years.time_of years.none years.least years.places years.printed_amount years.printed years.together years.at_most years.as_pair years.beyond ordinary scenario_of value_in by_owner inputs pairs_at as_answers nine_figures in_reach zero_exponent is_zero is_number zero one lesser rise units_at lower at_most is_pair extra divided excess_from excess carried rounded calls.written sum_end product_end quotient_end rest_end provided calls.ends after after_one zero_pair one_pair entry sum product quotient one_minus_entry pairs read letters no_growth plain_with plain exponents growth_at_both stay_in compared pace_if pace_of paces_of pair_growing sixty_four worked series.first series.step terms from_zero pair_series u kse ksr ksl k x page.x' page.g_with growth page.gathered page.mean page.soil A D C above_ground below_ground AT B exposure factor by_medium medium intake by_route reference_slot reference figure_by intake_line by_guidance line guidance_of guidance_in pathway_at is_given has_reference figure_at chained units_end in_units unit_of counted counted_in columns_at air_line time_share time_in_air air_figure_by year_of above below is_year_of is_year numbered kind_in is_line begun_with seen_with seen_in told of_value otherwise values_if lacks is_missing any_of rule_at rule_in unworked is_refused case_of_three given record_with site chemical receptor with ordinary_of no_pairs no_pair
unweighed = refl

five : entry 5 (pos 0) ≡ is (pair_of (Given (negsuc 11) 5000000000000))
unfolding above below in_reach extra divided excess_from excess carried rounded provided calls.ends entry one_minus_entry or_no_pair told of_value otherwise plain_value zeros_at_end without_zeros pair_of rest_of
five = refl

half : one_minus_entry 5 (negsuc 0) ≡ is (rest_of (Given (negsuc 12) 5000000000000))
unfolding above below in_reach nine_figures zero_exponent extra divided excess_from excess carried rounded rest_end sum_end provided calls.ends one entry one_minus_entry or_no_pair told of_value otherwise plain_value zeros_at_end without_zeros rest_of is_number is_zero lesser zero at_most units_at rise lower
half = refl

thirteen : is_unpaired (Given (negsuc 11) 1234567890123) ≡ true
unfolding above below in_reach extra divided excess_from excess carried rounded provided calls.ends entry one_minus_entry or_no_pair told of_value otherwise plain_value zeros_at_end without_zeros pair_of rest_of is_unpaired is_refused
thirteen = refl

least : years.printed 1 (negsuc 26) ≡ is (time_given (Given (negsuc 27) 10))
unfolding above below provided years.amount years.is_years years.words_of years.time_of years.least years.places years.printed_amount years.printed told of_value otherwise plain_value zeros_at_end without_zeros or_no_time time_given no_time
least = refl

less : time_given (Given (negsuc 27) 1) ≡ no_time
unfolding above below provided years.amount years.is_years years.words_of years.time_of years.least years.places years.printed_amount years.printed told of_value otherwise plain_value zeros_at_end without_zeros or_no_time time_given no_time
less = refl

pub checked_memories : CheckedMemories
unfolding CheckedMemories memories
checked_memories = (passes, (empty, (long_id, (missing, (too_deep, (weightless, (unweighed, (five, (half, (thirteen, (least, (less, tt))))))))))))
