-- By the test of the route. Assumes nothing.
use mathlib.Core.Path.{◌≡◌, refl}
use borrow.Author.Rules.{rules}
use Rattle.equations.proofs.Guided.{route_tested}
use Rattle.pathway.specs.Lines.{as_rfd}
use Rattle.pathway.proofs.given.rfd_of.Goals as goal

pub returns-then-is_inhaled : goal.returns-then-is_inhaled
unfolding as_rfd
returns-then-is_inhaled c =
    let h : c.map.result ≡ as_rfd c.args.references.rfd_i = search rules in
    rw (route_tested, ← c.is_inhaled.ensures, c.if-is_inhaled.true) h

pub returns : goal.returns
returns c = rw (route_tested, ← c.is_inhaled.ensures, c.if-is_inhaled.false) refl
