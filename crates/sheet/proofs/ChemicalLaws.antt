-- A chemical's source: its receptors' means one after another, and 53 where its media are refused. Assumes nothing.
use mathlib.Core.Path.{◌≡◌, refl, sym, ap, ap₂, ◌∙◌}
use mathlib.Core.Bool.{Bool, true, false, cond, false≢true}
use mathlib.Core.List.{List}
use Prim.Native.Nat.{ℕ, ◌+◌, ◌-◌, ◌<◌}
use native.Mathlib.Numerals.{add-one}
use lib.ListN.{length, get_or, replicate}
use Rattle.pair.specs.declared.Pair.{Pair}
use Rattle.pair.specs.Calls.{Outcome, is, refused, answer}
use Rattle.equations.specs.declared.Values.{Values}
use Rattle.lists.proofs.ListLaws.{read_any}
use Rattle.media.specs.declared.Media.{Media}
use Rattle.std.specs.Prelude.{Result, Ok}
use Rattle.media.specs.declared.Ground.{Ground}
use Rattle.pair.specs.declared.Refused.{Refused}
use Rattle.media.specs.Media.{media_inputs, ground_of}
use Rattle.pathway.specs.declared.Absorbed.{Absorbed}
use Rattle.pathway.specs.declared.References.{References}
use Rattle.pathway.specs.Lines.{absorbed_of}
use Rattle.cases.specs.declared.Chemicals.{Chemicals}
use Rattle.cases.specs.declared.Record.{Record}
use Rattle.cases.specs.Conditions.{passed, stopped}
use Rattle.sizes.specs.Sizes.{max_chemicals}
use Rattle.cases.specs.Conditions.{first}
use Rattle.slots.specs.declared.Owner.TheVariants.{Chemical}
use Rattle.slots.specs.declared.Sort.TheVariants.{Ordinary}
use Rattle.cases.specs.CaseConditions.{lacks}
use Rattle.cases.specs.Cases.{no_record}
use Rattle.lists.proofs.Tabulated.{filled_at}
use Rattle.scenario.specs.declared.Receptor.{Receptor}
use Rattle.scenario.specs.declared.Receptors.{Receptors}
use Rattle.sheet.specs.declared.Source.{Source}
use Rattle.scenario.specs.Scenario.{is_refused, values_of, particles_of, no_receptor}
use Rattle.lists.specs.Lists.{chained, any_of}
use Rattle.sheet.specs.Counts.{mean_with, stops_at}
use Rattle.sheet.specs.Inner.{media_from, ground_with, means_of, references_of, source_with, source_from, source_of, no_source, sources_of, source_at, stops_with, refused_source}
use Rattle.lists.proofs.AnyOf.{any_of_lem}
use Rattle.cases.proofs.FirstMet as chains
use Rattle.std.specs.Prelude.{Option, Some, None}
use Rattle.sheet.proofs.Chosen.{is_missing, is_there}

-- ---- a receptor's mean after another
module _ (site' chemical' : Values) (list : List Receptor) (the_ground : Ground) (blank : Receptor) (j : ℕ) (here : j < length list) (r : Result Media Refused)
    (is_found : answer r ≡ mean_with site' chemical' (get_or list j blank) the_ground) where
  abbrev means : ℕ → Bool
  means k = is_refused (mean_with site' chemical' (get_or list k no_receptor) the_ground)

  mean_is : answer r ≡ mean_with site' chemical' (get_or list j no_receptor) the_ground
  mean_is = is_found ∙ ap (λ (x : Receptor). mean_with site' chemical' x the_ground) (read_any list j here blank no_receptor)

  pub mean_at_lem : (m : Media) → r ≡ Ok m → m ≡ media_from (mean_with site' chemical' (get_or list j no_receptor) the_ground)
  unfolding answer media_from
  mean_at_lem m e = sym (ap (λ (x : Result Media Refused). media_from (answer x)) e) ∙ ap media_from mean_is

  pub mean_on : (m : Media) → r ≡ Ok m → any_of means j ≡ false → any_of means (j + 1) ≡ false
  unfolding any_of answer is_refused
  mean_on m e none =
      let worked : is_refused (mean_with site' chemical' (get_or list j no_receptor) the_ground) ≡ false = sym (ap is_refused mean_is) ∙ ap (λ (x : Result Media Refused). is_refused (answer x)) e in
      ap (any_of means) (add-one j) ∙ rw (none, worked) refl

  pub mean_stops : is_refused (answer r) ≡ true → (count : ℕ) → j < count → any_of means count ≡ true
  mean_stops e count l = any_of_lem means j count (sym (ap is_refused mean_is) ∙ e) l

-- ---- a chemical's source
module _ (site' : Values) (receptors' : Receptors) (chemical' : Record) (values' : Values) (of_chemical : values' ≡ values_of chemical') where
  -- a needed value is missing
  pub lacks_stops : lacks Ordinary Chemical chemical' ≡ true → stops_with site' receptors' chemical' ≡ true
  unfolding stops_with
  lacks_stops h = rw h refl

  -- from what the media call told
  module _ (whole : lacks Ordinary Chemical chemical' ≡ false) (particles' : Pair) (share : particles' ≡ particles_of chemical') (r : Result Ground Refused) (is_told : answer r ≡ ground_of (media_inputs site' values' particles')) where
    ground_is : answer r ≡ ground_with site' chemical'
    unfolding ground_with
    ground_is = is_told ∙ ap₂ (λ (v : Values) (q : Pair). ground_of (media_inputs site' v q)) of_chemical share

    refused_ground : (o : Outcome Ground) → is_refused o ≡ true → (means : ℕ → Ground → Outcome Media) (n : ℕ) → stops_at o means n ≡ true
    unfolding is_refused stops_at
    refused_ground (is g) h means n = absurd (false≢true h)
    refused_ground (refused k) h means n = refl

    pub refused_stops : is_refused (answer r) ≡ true → stops_with site' receptors' chemical' ≡ true
    unfolding stops_with
    refused_stops h =
        rw (whole, refused_ground (ground_with site' chemical') (sym (ap is_refused ground_is) ∙ h) (λ j g. mean_with site' (values_of chemical') (get_or receptors'.list j no_receptor) g) receptors'.count) refl

    module _ (the_ground : Ground) (e : r ≡ Ok the_ground) where
      laid : ground_with site' chemical' ≡ is the_ground
      unfolding answer
      laid = sym ground_is ∙ ap answer e

      pub means_stop : stops_with site' receptors' chemical' ≡ any_of (λ j. is_refused (mean_with site' values' (get_or receptors'.list j no_receptor) the_ground)) receptors'.count
      unfolding stops_with stops_at
      means_stop = rw (whole, laid, of_chemical) refl

      pub source_made : (list : List Media) → list ≡ means_of site' values' receptors' the_ground → (a : Absorbed) → a ≡ absorbed_of values' → (refs : References) → refs ≡ references_of chemical'
          → record { absorbed = a; media = the_ground.highest; means = list; references = refs } ≡ source_of site' receptors' chemical'
      unfolding source_of source_from source_with
      source_made list made a a_is refs refs_are = rw (a_is, refs_are, made, laid, of_chemical) refl

-- ---- a chemical after another
module _ (site' : Values) (receptors' : Receptors) (records : List Record) (blank : Record) (i : ℕ) (here : i < length records) (made : Option Source)
    (told : made ≡ cond (stops_with site' receptors' (get_or records i blank)) None (Some (source_of site' receptors' (get_or records i blank)))) where
  read : made ≡ cond (stops_with site' receptors' (get_or records i no_record)) None (Some (source_of site' receptors' (get_or records i no_record)))
  read = told ∙ ap (λ (r : Record). cond (stops_with site' receptors' r) None (Some (source_of site' receptors' r))) (read_any records i here blank no_record)

  pub source_is : (s : Source) → made ≡ Some s → s ≡ source_of site' receptors' (get_or records i no_record)
  source_is s e = (is_there _ _ made read s e).1

  module _ (none : first (chained (refused_source site' receptors' records) i) ≡ passed) where
    pub goes_on : (s : Source) → made ≡ Some s → first (chained (refused_source site' receptors' records) (i + 1)) ≡ passed
    unfolding refused_source first
    goes_on s e = chains.goes_on (refused_source site' receptors' records) i none passed (rw ((is_there _ _ made read s e).0) refl) refl

    pub stops : made ≡ None → (count : ℕ) → i < count → first (chained (refused_source site' receptors' records) count) ≡ stopped 53 (i + 1) 0
    unfolding refused_source first
    stops e count l = sym (chains.stops (refused_source site' receptors' records) i none (stopped 53 (i + 1) 0) (rw (is_missing _ _ made read e, add-one) refl) count l _ refl)

pub source_at_lem : (site' : Values) (receptors' : Receptors) (chemicals' : Chemicals) (i : ℕ) → i < chemicals'.count
    → source_at (sources_of site' receptors' chemicals') i ≡ source_of site' receptors' (get_or chemicals'.records i no_record)
unfolding source_at sources_of
source_at_lem site' receptors' chemicals' i h =
    filled_at (λ k. source_of site' receptors' (get_or chemicals'.records k no_record)) no_source chemicals'.count (replicate (max_chemicals - chemicals'.count) no_source) i h
