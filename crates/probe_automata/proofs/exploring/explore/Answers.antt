use Rattle.std.proofs.Common.{sym, refl}
use Rattle.std.proofs.lemmas.Result.{err_from_is_err_and}
use Rattle.probe_automata.proofs.Exploration.{outer_start, inner_start, inner_step, inner_done, explored, all_taken, none_left, number_fails_by}
use Rattle.probe_automata.proofs.exploring.explore.Goals as goal

pub states-init : goal.states-init
states-init c = rw (c.in_ok-insert.ensures.keys, c.new-sets.ensures.empty, c.new-moves.ensures) (outer_start c.args.positions.now c.args.filters.now)

pub filters-init : goal.filters-init
filters-init c = (c.in-Some.set.now, c.candidates-next.ensures, inner_start c.args.positions.now c.args.filters.now c.states.state c.in-Some.set.now c.states.sets.keys c.states.moves c.states.invariant (sym c.in-Some.ensures.key))

pub returns-in_err-number : goal.returns-in_err-number
returns-in_err-number c =
    let p = err_from_is_err_and c.from_residual-in_err-number.result c.from_residual-in_err-number.ensures.1 in
    let (set, e, i) = c.filters.invariant in
    rw (p.1, p.2) (number_fails_by c.args.positions.now c.args.filters.now c.states.sets.keys c.states.state set c.filters.filter-index c.filters.sets.keys c.filters.moves c.number.new.sets.keys _ c.candidates-next.result c.in_err-number.field-0.0 e i c.filters-test.true refl c.in_err-number.ensures)

pub filters-preserved : goal.filters-preserved
filters-preserved c =
    let (set, e, i) = c.filters.invariant in
    let n = rw e at c.in_ok-number.ensures in
    (set, e, rw c.in_ok-push.ensures.ok (inner_step c.args.positions.now c.args.filters.now c.states.sets.keys c.states.state set c.filters.filter-index c.filters.sets.keys c.filters.moves _ c.in_ok-number.number c.number.new.sets.keys i c.filters-test.true refl n.0 n.1 n.2))

pub states-preserved : goal.states-preserved
states-preserved c =
    let (set, e, i) = c.filters.invariant in
    inner_done c.args.positions.now c.args.filters.now c.states.sets.keys c.states.state set c.filters.filter-index c.filters.sets.keys c.filters.moves i (all_taken c.args.filters.now c.filters.filter-index c.filters-test.false)

pub returns : goal.returns
returns c = explored c.args.positions.now c.args.filters.now c.states.sets.keys c.states.moves c.states.state c.states.invariant (all_taken c.states.sets.keys c.states.state (none_left c.states.sets.keys c.states.state (sym c.in_default.ensures.key)))
