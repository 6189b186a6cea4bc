-- ψ's step, times x and n + 2, by n + 1 and n + 3, and then the total. Assumes nothing.
use mathlib.Core.Path.{◌≡◌, refl, sym, ◌∙◌, ap}
use Prim.Native.Nat.{ℕ, ◌+◌}
use lib.IntN.{pos}
use borrow.Author.Rules.{rules}
use Rattle.pair.specs.declared.Pair.{Pair}
use Rattle.pair.specs.Calls.{Outcome, is, refused, answer, after, entry, sum, product, quotient, partial}
use Rattle.equations.specs.Formula.{pairs}
use Rattle.equations.specs.Series.{psi, step}
use Rattle.media.specs.Inner.{next_of}
use Rattle.media.proofs.terms.PsiSeries.next.Goals as goal

-- what the chain of calls tells
chained : (x term whole : Pair) (n : ℕ) {a b p d l e r : Outcome Pair} → entry (n + 2) (pos 0) ≡ is whole → a ≡ is term → b ≡ is x → p ≡ after product a b →
    d ≡ entry (n + 1) (pos 0) → l ≡ after quotient (after product p (is whole)) d → e ≡ entry (n + 3) (pos 0) → r ≡ after quotient l e → r ≡ step pairs psi (is x) n (is term)
unfolding step pairs
chained x term whole n h1 h2 h3 h4 h5 h6 h7 h8 = cc

pub returns-in_err-term : goal.returns-in_err-term
unfolding answer next_of after partial
returns-in_err-term c =
    let a = c.args in
    let k = chained a.x a.term a.whole a.n c.requires.whole_value c.answer.ensures c.answer-2.ensures c.times.ensures c.entry.ensures c.times_over-led.ensures c.entry-2.ensures c.over.ensures in
    let e : refused 53 ≡ step pairs psi (is a.x) a.n (is a.term) = sym (ap answer c.in_err-term.was) ∙ k in
    rw (← e) (search rules)

pub returns-in_err-sum : goal.returns-in_err-sum
unfolding answer next_of after partial
returns-in_err-sum c =
    let a = c.args in
    let k = chained a.x a.term a.whole a.n c.requires.whole_value c.answer.ensures c.answer-2.ensures c.times.ensures c.entry.ensures c.times_over-led.ensures c.entry-2.ensures c.over.ensures in
    let e : is c.in_ok-term.term ≡ step pairs psi (is a.x) a.n (is a.term) = sym (ap answer c.in_ok-term.was) ∙ k in
    let s : refused 53 ≡ sum a.total c.in_ok-term.term = c.in_err-sum.ensures in
    rw (← e, ← s) (search rules)

pub returns : goal.returns
unfolding answer next_of after partial
returns c =
    let a = c.args in
    let k = chained a.x a.term a.whole a.n c.requires.whole_value c.answer.ensures c.answer-2.ensures c.times.ensures c.entry.ensures c.times_over-led.ensures c.entry-2.ensures c.over.ensures in
    let e : is c.in_ok-term.term ≡ step pairs psi (is a.x) a.n (is a.term) = sym (ap answer c.in_ok-term.was) ∙ k in
    let s : is c.in_ok-sum.field-0 ≡ sum a.total c.in_ok-term.term = c.in_ok-sum.ensures in
    rw (← e, ← s) refl
