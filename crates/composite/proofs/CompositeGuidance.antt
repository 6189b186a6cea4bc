-- A composite's deck of 2005 prints what it printed, and one of 2009 has the lines of 2009 (document 02, P6). Assumes nothing.
use mathlib.Core.Path.{◌≡◌, refl}
use Rattle.cases.specs.declared.Case.{Case}
use Rattle.cases.specs.Cases.{receptor_at, case_without_year}
use Rattle.sheet.proofs.YearLaws.{deposition_blank}
use Rattle.report.specs.Guidance.{Law2005, Law2009}
use Rattle.report.proofs.YearRows.{rows_same}
use Rattle.report.proofs.ReportGuidance.{law_2005_of, law_2009_of}
use Rattle.composite.specs.Composite.{pair_stage, last_stage, stage_years, time_exposed, pair_composite, composite_receptor, composite_from, composite}

-- no stage hangs on the site's year
composite_blank : (case : Case) → composite_from (case_without_year case) ≡ composite_from case
unfolding case_without_year composite_from composite_receptor pair_composite pair_stage last_stage stage_years time_exposed receptor_at
composite_blank case = rw (deposition_blank case.site) refl

pub law_2005 : Law2005 composite
unfolding composite
law_2005 = law_2005_of composite composite_blank rows_same

pub law_2009 : Law2009 composite
law_2009 = law_2009_of composite
