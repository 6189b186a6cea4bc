-- The soils of the page and the media in them, one operation at a time. Assumes nothing.
use mathlib.Core.Path.{◌≡◌, refl}
use Rattle.pair.specs.declared.Pair.{Pair}
use Rattle.pair.specs.Calls.{Outcome, is}
use Rattle.slots.specs.Slots.{Slot, table, same, is_in, place_in, owner_of, place_of}
use Rattle.equations.specs.declared.Values.{Values}
use Rattle.equations.specs.declared.Stay.TheVariants.{Within, Beyond}
use Rattle.equations.specs.Formula.{Formula, read, pairs}
use Rattle.equations.specs.Page.{u, kse, ksr, ksl, k, x, x', A, D, C, mean, gathered, above_ground, below_ground}
use Rattle.equations.specs.Readings.{Inputs, letters, plain, plain_with, exponents, growth_at_both, as_answers, paces_of, worked, inputs, by_owner}
use Rattle.media.specs.Media.{growth_at, media_in, grown_in}

module _ (env : Inputs Pair) where
  abbrev at_x : Outcome Pair
  at_x = plain pairs (λ i. is (env.value i)) x

  -- what is laid down in tD years, were nothing lost
  abbrev laid : Outcome Pair
  laid = pairs.times (worked env D) (is (env.value "tD"))

  pub highest_is : worked env C ≡ pairs.times laid (growth_at at_x).g
  unfolding worked as_answers read letters growth_at_both exponents paces_of growth_at C
  highest_is = refl

  pub within_is : worked env (mean Within) ≡ pairs.times laid (growth_at at_x).h
  unfolding worked as_answers read letters growth_at_both exponents paces_of growth_at mean
  within_is = refl

  pub gathered_is : worked env gathered ≡ pairs.times (pairs.times laid (is (env.value "tD"))) (growth_at at_x).h
  unfolding worked as_answers read letters growth_at_both exponents paces_of growth_at gathered
  gathered_is = refl

  pub beyond_is : worked env (mean Beyond) ≡ pairs.over (pairs.plus (worked env gathered) (pairs.times (pairs.times (worked env C) (is env.later)) (growth_at (worked env x')).g)) (is (env.value "T2"))
  unfolding worked as_answers read letters growth_at_both exponents paces_of growth_at plain_with mean x' k u kse ksr ksl
  beyond_is = refl

  pub loss_is : worked env k ≡ plain pairs (λ i. is (env.value i)) k
  unfolding worked as_answers read letters plain plain_with k u kse ksr ksl
  loss_is = refl

  pub later_is : worked env x' ≡ pairs.times (worked env k) (is env.later)
  unfolding worked as_answers read letters x'
  later_is = refl

-- produce grows in any soil
module _ (s c r : Values) (rests : Slot → Pair) (later : Pair) where
  abbrev all_inputs : Inputs Pair
  all_inputs = record { value = inputs s c r; rest = rests; later = later }

  pub produce_is : (soil : Formula) → media_in all_inputs soil ≡ grown_in s c (worked all_inputs A) (worked all_inputs soil)
  unfolding media_in grown_in plain plain_with worked as_answers read letters inputs by_owner owner_of place_of table same is_in place_in above_ground below_ground
  produce_is soil = refl
