-- The ground holds what the page says of the highest year and of the mean, for every receptor; and the media of a receptor's cancer, worked
-- from the ground, are the page's, whose soil is the mean over the exposure. Assumes nothing.
use mathlib.Core.Path.{◌≡◌, refl, sym, ◌∙◌, ap, ap₂}
use Rattle.pair.specs.declared.Pair.{Pair}
use Rattle.pair.specs.Calls.{Outcome, is, refused}
use Rattle.slots.specs.Slots.{Slot, table, same, is_in, place_in, owner_of, place_of}
use Rattle.equations.specs.declared.Values.{Values}
use Rattle.equations.specs.declared.Stay.{Stay}
use Rattle.equations.specs.declared.Stay.TheVariants.{Within, Beyond}
use Rattle.equations.specs.Formula.{Formula, read}
use Rattle.equations.specs.Page.{u, kse, ksr, ksl, k, x, A, D, C, mean, gathered, above_ground, below_ground}
use Rattle.equations.specs.Readings.{Inputs, letters, plain, plain_with, exponents, growth_at_both, as_answers, paces_of, worked, inputs, by_owner, no_values}
use Rattle.media.specs.declared.Media.{Media}
use Rattle.media.specs.declared.Ground.{Ground}
use Rattle.media.specs.Media.{media_inputs, four, media_in, media_of, ground_from, ground_of, grown_in, held_in, soil_beyond, mean_media}
use Rattle.media.proofs.Passing.{is_not_refused}
use Rattle.media.proofs.Soils.{beyond_is, later_is, produce_is}

-- what is told is told of one thing
told : {A : Type 0} → A → Outcome A → A
told d (is y) = y
told d (refused n) = d

pub is_one : {A : Type 0} (y z : A) → is y ≡ is z → y ≡ z
unfolding told
is_one y z e = ap (told y) e

-- media that are told hold the four concentrations
pub record Told (a c f r : Outcome Pair) (m : Media) : Type 0 where
  pub air : a ≡ is m.air.0
  pub soil : c ≡ is m.soil.0
  pub above : f ≡ is m.above_ground.0
  pub below : r ≡ is m.below_ground.0

pub four_told : (a c f r : Outcome Pair) (m : Media) → four a c f r ≡ is m → Told a c f r m
unfolding four
four_told (is a) (is c) (is f) (is r) m e = rw (← is_one _ m e) (record { air = refl; soil = refl; above = refl; below = refl })
four_told (is a) (is c) (is f) (refused n) m e = is_not_refused m n e
four_told (is a) (is c) (refused n) r m e = is_not_refused m n e
four_told (is a) (refused n) f r m e = is_not_refused m n e
four_told (refused n) c f r m e = is_not_refused m n e

record Parts (l b : Outcome Pair) (m n : Outcome Media) (the_ground : Ground) : Type 0 where
  loss : l ≡ is the_ground.loss
  gathered : b ≡ is the_ground.gathered
  highest : m ≡ is the_ground.highest
  within : n ≡ is the_ground.within

parts_of : (l b : Outcome Pair) (m n : Outcome Media) (the_ground : Ground) → ground_from l b m n ≡ is the_ground → Parts l b m n the_ground
unfolding ground_from
parts_of (is l) (is b) (is m) (is n) the_ground e = rw (← is_one _ the_ground e) (record { loss = refl; gathered = refl; highest = refl; within = refl })
parts_of (is l) (is b) (is m) (refused n) the_ground e = is_not_refused the_ground n e
parts_of (is l) (is b) (refused n) y the_ground e = is_not_refused the_ground n e
parts_of (is l) (refused n) y z the_ground e = is_not_refused the_ground n e
parts_of (refused n) w y z the_ground e = is_not_refused the_ground n e

-- the values of a site, a chemical and a receptor, 1 less each, and T2 − tD
module _ (s c r : Values) (rests : Slot → Pair) (later : Pair) where
  abbrev env : Inputs Pair
  env = media_inputs s c (rests "Fv")

  abbrev full : Inputs Pair
  full = record { value = inputs s c r; rest = rests; later = later }

  -- no slot of a receptor stands in k, air, the highest year's soil and the mean within the deposition
  k_alike : worked env k ≡ worked full k
  unfolding media_inputs worked as_answers read letters inputs by_owner owner_of place_of table same is_in place_in k u kse ksr ksl
  k_alike = refl

  air_alike : worked env A ≡ worked full A
  unfolding media_inputs worked as_answers read letters inputs by_owner owner_of place_of table same is_in place_in A
  air_alike = refl

  highest_alike : worked env C ≡ worked full C
  unfolding media_inputs worked growth_at_both exponents paces_of plain plain_with as_answers read letters inputs by_owner owner_of place_of table same is_in place_in C D x k u kse ksr ksl
  highest_alike = refl

  within_alike : worked env (mean Within) ≡ worked full (mean Within)
  unfolding media_inputs worked growth_at_both exponents paces_of plain plain_with as_answers read letters inputs by_owner owner_of place_of table same is_in place_in mean D x k u kse ksr ksl
  within_alike = refl

  gathered_alike : worked env gathered ≡ worked full gathered
  unfolding media_inputs worked growth_at_both exponents paces_of plain plain_with as_answers read letters inputs by_owner owner_of place_of table same is_in place_in gathered D x k u kse ksr ksl
  gathered_alike = refl

  media_alike : (soil : Formula) → worked env soil ≡ worked full soil → media_in env soil ≡ media_in full soil
  unfolding media_inputs
  media_alike soil e = produce_is s c no_values (λ i. rests "Fv") _ soil ∙ ap₂ (grown_in s c) air_alike e ∙ sym (produce_is s c r rests later soil)

  -- the media call is the page's highest year
  pub media_highest : media_of env ≡ media_in full C
  unfolding media_of
  media_highest = media_alike C highest_alike

  pub ground_page : ground_of env ≡ ground_from (worked full k) (worked full gathered) (media_in full C) (media_in full (mean Within))
  unfolding ground_of
  ground_page = rw (k_alike, gathered_alike, media_alike C highest_alike, media_alike (mean Within) within_alike) refl

  module _ (the_ground : Ground) (laid : ground_of env ≡ is the_ground) where
    parts : Parts (worked full k) (worked full gathered) (media_in full C) (media_in full (mean Within)) the_ground
    parts = parts_of (worked full k) (worked full gathered) (media_in full C) (media_in full (mean Within)) the_ground (sym ground_page ∙ laid)

    pub ground_highest : media_in full C ≡ is the_ground.highest
    ground_highest = parts.highest

    pub ground_within : media_in full (mean Within) ≡ is the_ground.within
    ground_within = parts.within

    highest_told : Told (worked full A) (worked full C) (worked full (above_ground C)) (worked full (below_ground C)) the_ground.highest
    unfolding media_in
    highest_told = four_told (worked full A) (worked full C) (worked full (above_ground C)) (worked full (below_ground C)) the_ground.highest parts.highest

    soil_told : soil_beyond the_ground (full.value "T2") later ≡ worked full (mean Beyond)
    unfolding soil_beyond held_in plain_with as_answers read letters same
    soil_told = rw (beyond_is full, later_is full, parts.loss, parts.gathered, highest_told.soil) refl

    grown_told : grown_in s c (is the_ground.highest.air.0) (soil_beyond the_ground (full.value "T2") later) ≡ media_in full (mean Beyond)
    grown_told = ap₂ (grown_in s c) (sym highest_told.air) soil_told ∙ sym (produce_is s c r rests later (mean Beyond))

    pub mean_media_lem : (stay : Stay) → mean_media the_ground s c stay (full.value "T2") later ≡ media_in full (mean stay)
    unfolding mean_media
    mean_media_lem Within = sym parts.within
    mean_media_lem Beyond = grown_told
