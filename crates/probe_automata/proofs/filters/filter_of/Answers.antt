use Rattle.std.proofs.Common.{◌≡◌, true, arith, sym, ◌∙◌}
use Rattle.std.proofs.lemmas.Option.{slice_get_within}
use Rattle.probe_automata.specs.Filters.{passes}
use Rattle.probe_automata.proofs.FilterSteps.{not_yet, one_more}
use Rattle.probe_automata.proofs.filters.filter_of.Goals as goal
use Rattle.probe_automata.proofs.filters.filter_of.Goals.{then-position_passes, else-position_passes}

pub loop-at-preserved : goal.loop-at-preserved
loop-at-preserved c =
    elim c.if-position_passes.branch [
      | then-position_passes w ↦ one_more c.args.each.now (λ x. passes c.args.guards.now c.args.valuation c.args.letter x ≡ true) c.loop-at.at c.loop-at.set _ c.index-each-at.result c.loop-at-test.true c.index-each-at.is (sym c.position_passes.ensures ∙ w.if-position_passes.true) (w.set-is ∙ w.with-set.ensures) c.loop-at.invariant
      | else-position_passes w ↦ rw w.set-is (not_yet c.args.each.now (λ x. passes c.args.guards.now c.args.valuation c.args.letter x ≡ true) c.loop-at.at c.loop-at.set c.index-each-at.result c.loop-at-test.true c.index-each-at.is (λ p. let q = sym p ∙ sym c.position_passes.ensures ∙ w.if-position_passes.false in cc) c.loop-at.invariant)
    ]

pub returns : goal.returns
returns c = λ i. (
  λ b. let (x, s, p, l) = (c.loop-at.invariant i).0 b in (x, s, p),
  λ (x, s, p). (c.loop-at.invariant i).1 (x, s, p, let w = slice_get_within c.args.each.now i x s in omega arith),
)
