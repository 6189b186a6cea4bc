-- Each by itself. Assumes nothing.
use mathlib.Core.Path.{refl}
use Rattle.pathway.specs.Lines.{shared, habits_of}
use Rattle.pathway.proofs.habits_of.Goals as goal

pub returns : goal.returns
unfolding shared habits_of
returns c = rw (c.begun_of-3.ensures, c.begun_of-2.ensures, c.begun_of.ensures, c.base_of-2.ensures, c.base_of.ensures, c.breathing_of.ensures)
    refl
