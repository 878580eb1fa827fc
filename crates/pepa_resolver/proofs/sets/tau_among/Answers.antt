use Rattle.std.proofs.Common.{◌≡◌, take, get_or, ◌∙◌, true}
use Rattle.std.proofs.lemmas.List.{take_more}
use Rattle.pepa_resolver.specs.NamesAnswers.{IsTau}
use Rattle.node_orders.proofs.Elements.{no_element}
use Rattle.pepa_resolver.proofs.Findings.{finds_more, finds_no_more}
use Rattle.pepa_resolver.proofs.sets.tau_among.Goals.{then-is_tau, else-is_tau}
use Rattle.pepa_resolver.proofs.sets.tau_among.Goals as goal

pub loop-word-init : goal.loop-word-init
loop-word-init c = λ i h. no_element i h.0

pub loop-word-preserved : goal.loop-word-preserved
loop-word-preserved c =
    let before = take c.loop-word.word-index c.args.words.now in
    let at = get_or c.args.words.now c.loop-word.word-index 0 in
    elim c.if-is_tau.branch [
      | then-is_tau w ↦ rw (take_more c.args.words.now c.loop-word.word-index 0 c.loop-word-test.true)
          (finds_more (IsTau c.args.source.now.input.now c.args.source.now.tokens.now) before at c.loop-word.found c.if-is_tau.found c.loop-word.invariant
          (c.is_tau.ensures.0 w.if-is_tau.true) (w.found-is ∙ w.least-found.ensures))
      | else-is_tau w ↦ rw (take_more c.args.words.now c.loop-word.word-index 0 c.loop-word-test.true, w.found-is)
          (finds_no_more (IsTau c.args.source.now.input.now c.args.source.now.tokens.now) before at c.loop-word.found c.loop-word.invariant
          (λ h. let yes : c.is_tau.result ≡ true = c.is_tau.ensures.1 h in cc))
    ]
