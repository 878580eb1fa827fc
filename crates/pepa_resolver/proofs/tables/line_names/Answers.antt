use Rattle.std.proofs.Common.{get_or, take, rules, ◌∙◌}
use Rattle.std.proofs.lemmas.List.{take_more, take_all}
use Rattle.indexmap.specs.IndexMap.{keys}
use Rattle.token_grammar.specs.Terminals.{name_at}
use Rattle.pepa_resolver.proofs.Repeated.{nothing_yet, so_far_new, so_far_again}
use Rattle.pepa_resolver.proofs.tables.line_names.Goals.{then-not-branch, else-not-branch}
use Rattle.pepa_resolver.proofs.tables.line_names.Goals as goal

pub loop-at-init : goal.loop-at-init
loop-at-init c = nothing_yet (name_at c.args.source.now.input.now c.args.source.now.tokens.now) (keys c.new-names.result) (search rules)

pub loop-at-preserved : goal.loop-at-preserved
loop-at-preserved c =
    let name = name_at c.args.source.now.input.now c.args.source.now.tokens.now in
    let before = take c.loop-at.at-index c.args.ats.now in
    let at = get_or c.args.ats.now c.loop-at.at-index 0 in
    elim c.if-not-branch.branch [
      | then-not-branch w ↦ rw (take_more c.args.ats.now c.loop-at.at-index 0 c.loop-at-test.true)
          (so_far_again name before at (keys c.loop-at.names) (keys c.add_name.new.names) c.loop-at.repeated c.if-not-branch.repeated c.loop-at.invariant
          (rw w.if-not-branch.true at c.in_ok-add_name.ensures) (w.repeated-is ∙ w.least-repeated.ensures))
      | else-not-branch w ↦ rw (take_more c.args.ats.now c.loop-at.at-index 0 c.loop-at-test.true, w.repeated-is)
          (so_far_new name before at (keys c.loop-at.names) (keys c.add_name.new.names) c.loop-at.repeated c.loop-at.invariant
          (rw w.if-not-branch.false at c.in_ok-add_name.ensures))
    ]

pub returns-clause-found : goal.returns-clause-found
returns-clause-found c = rw (take_all c.loop-at.at-index c.args.ats.now c.loop-at-test.false) at c.loop-at.invariant.finds

pub returns-clause-names : goal.returns-clause-names
returns-clause-names c = rw (take_all c.loop-at.at-index c.args.ats.now c.loop-at-test.false) at c.loop-at.invariant.all
