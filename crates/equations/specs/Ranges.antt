-- Where a chemical is lost fast (document 02, P5): an exponent's high end above 64; and the pair that 1 / φ is there, 0 and 1E-25.
use Rattle.std.specs.Prelude.{pos, negsuc}
use Rattle.pair.specs.declared.Number.{Number}
use Rattle.pair.specs.declared.Pair.{Pair}
use Rattle.pair.specs.Number.{zero}
use Rattle.pair.specs.Calls.{written}

unfoldable pub sixty_four : Number
sixty_four = written 64 (pos 0)

unfoldable pub next_to_nothing : Pair
next_to_nothing = record { low = zero; high = written 1 (negsuc 24) }
