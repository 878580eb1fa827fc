use Rattle.std.proofs.Common.{List, ◌++◌, sym, ap, ◌∙◌}
use Rattle.pepa_reader.specs.declared.trees.ProcessTree.{ProcessTree}
use Rattle.pepa_reader.specs.Trees.{process_node_of}
use Rattle.pepa_resolver.specs.Parts.{RateSite, rates_in}
use Rattle.pepa_resolver.specs.NumberSteps.{outcome_by}
use Rattle.pepa_resolver.proofs.FirstBads.{in_parts, on_success}
use Rattle.pepa_resolver.proofs.numbers.Numbers.+process.Goals as goal

abbrev sites : ProcessTree → List RateSite
sites process = rates_in (process_node_of process)

pub returns-in_ok-right-in-Choice-clause-bad : goal.returns-in_ok-right-in-Choice-clause-bad
returns-in_ok-right-in-Choice-clause-bad t c =
    let left = c.deref-in-Choice.result.now in
    let right = c.deref-in-Choice-2.result.now in
    on_success c.chosen.result
    (in_parts (outcome_by c.args.self.now) c.args.bad.now c.process-in-Choice.new.bad c.process-in-Choice-2.new.bad (sites left) (sites right) (sites c.args.process.now)
    c.in_ok-left-in-Choice.ensures.bad c.in_ok-right-in-Choice.ensures.bad
    (ap sites c.in-Choice.is ∙ ap (λ (xs : List RateSite). xs ++ sites c.in-Choice.right.value) (sym (ap sites c.deref-in-Choice.ensures)) ∙ ap (λ (ys : List RateSite). sites left ++ ys) (sym (ap sites c.deref-in-Choice-2.ensures))))

pub returns-in_ok-right-in-Coop-clause-bad : goal.returns-in_ok-right-in-Coop-clause-bad
returns-in_ok-right-in-Coop-clause-bad t c =
    let left = c.deref-in-Coop.result.now in
    let right = c.deref-in-Coop-2.result.now in
    on_success c.cooperating.result
    (in_parts (outcome_by c.args.self.now) c.args.bad.now c.process-in-Coop.new.bad c.process-in-Coop-2.new.bad (sites left) (sites right) (sites c.args.process.now)
    c.in_ok-left-in-Coop.ensures.bad c.in_ok-right-in-Coop.ensures.bad
    (ap sites c.in-Coop.is ∙ ap (λ (xs : List RateSite). xs ++ sites c.in-Coop.right.value) (sym (ap sites c.deref-in-Coop.ensures)) ∙ ap (λ (ys : List RateSite). sites left ++ ys) (sym (ap sites c.deref-in-Coop-2.ensures))))
