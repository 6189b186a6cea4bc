-- The media of document 01 by the working rule: g and h at x (document 02, P5), and the four concentrations; and those that cancer takes
-- (P4), whose soil is the mean over the exposure. All that is refused is refused with 53.
use Rattle.std.specs.Prelude.{cond}
use Rattle.pair.specs.declared.Pair.{Pair}
use Rattle.pair.specs.Calls.{Outcome, is, refused, zero_pair, one_pair}
use Rattle.slots.specs.Slots.{Slot, same}
use Rattle.equations.specs.declared.Values.{Values}
use Rattle.equations.specs.declared.Stay.{Stay}
use Rattle.equations.specs.declared.Stay.TheVariants.{Within, Beyond}
use Rattle.equations.specs.Formula.{Formula, read, pairs}
use Rattle.equations.specs.Page.{k, Growth, growth, A, C, mean, gathered, above_ground, below_ground, lost_later, mean_beyond}
use Rattle.equations.specs.Readings.{Inputs, letters, plain_with, plain, as_answers, pace_of, pair_growing, worked, inputs, no_values}
use Rattle.equations.specs.Ahead.{given}
use Rattle.media.specs.declared.Media.{Media}
use Rattle.media.specs.declared.Ground.{Ground}

-- what the media are worked from: the values of a site and a chemical, and the particle share 1 − Fv, which is taken from the printed
-- digits. No formula here has a slot of a receptor or T2 − tD, or 1 less another slot.
unfoldable pub media_inputs : Values → Values → Pair → Inputs Pair
media_inputs s c particles = record { value = inputs s c no_values; rest = λ i. particles; later = one_pair }

-- a formula with neither g, h nor 1 −, and any formula
unfoldable pub of_slots : Values → Values → Formula → Outcome Pair
of_slots s c f = plain pairs (λ i. is (inputs s c no_values i)) f

unfoldable pub of_media : Values → Values → Pair → Formula → Outcome Pair
of_media s c particles f = worked (media_inputs s c particles) f

-- g and h at an exponent, on pairs
unfoldable pub growth_at : Outcome Pair → Growth (Outcome Pair)
growth_at x = growth pair_growing (pace_of x) x

-- the four concentrations, or the first refusal among them
unfoldable pub four : Outcome Pair → Outcome Pair → Outcome Pair → Outcome Pair → Outcome Media
four (is a) (is c) (is f) (is r) = is (record { air = record { 0 = a }; soil = record { 0 = c }; above_ground = record { 0 = f }; below_ground = record { 0 = r } })
four (is a) (is c) (is f) (refused n) = refused n
four (is a) (is c) (refused n) y = refused n
four (is a) (refused n) y z = refused n
four (refused n) x y z = refused n

-- the media with this soil
unfoldable pub media_in : Inputs Pair → Formula → Outcome Media
media_in env soil = four (worked env A) (worked env soil) (worked env (above_ground soil)) (worked env (below_ground soil))

-- what a chemical leaves in the media, in the highest year
unfoldable pub media_of : Inputs Pair → Outcome Media
media_of env = media_in env C

-- ---- the ground: what a chemical's soil is worked from, whatever the receptor. Its loss is k, its media are those of the highest year and
-- those of an exposure within the deposition; what was gathered is what the mean beyond the deposition begins with.
unfoldable pub ground_from : Outcome Pair → Outcome Pair → Outcome Media → Outcome Media → Outcome Ground
ground_from (is l) (is g) (is m) (is n) = is (record { loss = l; gathered = g; highest = m; within = n })
ground_from (is l) (is g) (is m) (refused n) = refused n
ground_from (is l) (is g) (refused n) y = refused n
ground_from (is l) (refused n) y z = refused n
ground_from (refused n) x y z = refused n

unfoldable pub ground_of : Inputs Pair → Outcome Ground
ground_of env = ground_from (worked env k) (worked env gathered) (media_in env C) (media_in env (mean Within))

-- ---- the media of a receptor's cancer, from the ground: T2 within the deposition, or beyond it. They are the page's formulas, where given
-- letters stand for what is worked already; `mean_media_lem` (proofs/Means.antt) holds them to the page read whole.
-- air, a soil, and the produce that grows in it
unfoldable pub grown_in : Values → Values → Outcome Pair → Outcome Pair → Outcome Media
grown_in s c air soil =
    let env : Slot → Outcome Pair = λ n. cond (same n "soil") soil (is (inputs s c no_values n)) in
    four air soil (plain pairs env (above_ground (given "soil"))) (plain pairs env (below_ground (given "soil")))

-- the ground's k, what was gathered and the highest year's soil; beside them the mean's only slot is T2
unfoldable pub held_in : Ground → Pair → Slot → Pair
held_in the_ground T2 n = cond (same n "k") the_ground.loss (cond (same n "gathered") the_ground.gathered (cond (same n "C") the_ground.highest.soil.0 T2))

unfoldable pub soil_beyond : Ground → Pair → Pair → Outcome Pair
soil_beyond the_ground T2 later =
    let env : Inputs (Outcome Pair) = as_answers (record { value = held_in the_ground T2; rest = λ n. one_pair; later = later }) in
    let grown : Growth (Outcome Pair) = growth_at (plain_with pairs env.value env.later (lost_later (given "k"))) in
    read pairs (letters env (record { at_x = grown; at_x' = grown })) (mean_beyond (given "gathered") (given "C"))

unfoldable pub mean_media : Ground → Values → Values → Stay → Pair → Pair → Outcome Media
mean_media the_ground s c Within T2 later = is the_ground.within
mean_media the_ground s c Beyond T2 later = grown_in s c (is the_ground.highest.air.0) (soil_beyond the_ground T2 later)

-- no chemical: 0 in each
unfoldable pub no_media : Media
no_media = record { air = record { 0 = zero_pair }; soil = record { 0 = zero_pair }; above_ground = record { 0 = zero_pair }; below_ground = record { 0 = zero_pair } }
