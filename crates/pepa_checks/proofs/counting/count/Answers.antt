use Rattle.std.proofs.Common.{length, arith, ◌≤◌}
use Rattle.std.proofs.lemmas.Result.{err_from_is_err_and}
use Rattle.indexmap.specs.IndexMap.{keys}
use Rattle.pepa_resolver.specs.NamedTypes.{named_of, bodies_of}
use Rattle.pepa_checks.specs.Outline.{outline_of, sets_of}
use Rattle.pepa_checks.specs.Activities.{written_leaves}
use Rattle.pepa_checks.specs.LeavesAnswers.{AreLeaves}
use Rattle.pepa_checks.proofs.Countings.{choices, performed_end, many_leaves_in, many_nodes_in, counts, few_keys}
use Rattle.pepa_checks.proofs.OrderedViews.{ordered_view}
use Rattle.pepa_checks.proofs.counting.count.Goals as goal

pub leaves_of-requires : goal.leaves_of-requires
leaves_of-requires c = ordered_view c.args.file.now c.view-view.result c.view-view.ensures c.requires

abbrev leaves_are : (c : goal.After-as_slice) → AreLeaves (outline_of c.args.file.now.structure.compounds (bodies_of c.args.file.now.numbered.bodies) (named_of c.args.file.now.numbered.system)) c.args.file.now.structure.compounds (bodies_of c.args.file.now.numbered.bodies) (written_leaves c.args.file.now.structure.compounds (bodies_of c.args.file.now.numbered.bodies) (named_of c.args.file.now.numbered.system)) c.in_ok-leaves.leaves
leaves_are c = rw (c.view-view.ensures.compounds_are, c.view-view.ensures.bodies_are, c.view-view.ensures.system_is) at c.in_ok-leaves.ensures (sets_of (bodies_of c.args.file.now.numbered.bodies) (named_of c.args.file.now.numbered.system))

pub performed-requires : goal.performed-requires
performed-requires c =
    rw (c.view-view.ensures.compounds_are, c.view-view.ensures.sequential_order_is, c.as_slice-constants.ensures, c.as_slice.ensures)
    (choices (keys c.args.file.now.numbered.actions) c.args.file.now.structure.compounds (bodies_of c.args.file.now.numbered.bodies) (named_of c.args.file.now.numbered.system) c.args.file.now.structure.compound_order c.args.file.now.structure.sequential_order c.requires.built c.requires.compounds c.requires.sequential c.in_ok-leaves.leaves (leaves_are c))

pub returns-in_err-performed : goal.returns-in_err-performed
returns-in_err-performed c =
    let p = err_from_is_err_and c.from_residual-in_err-performed.result c.from_residual-in_err-performed.ensures.1 in
    let file = c.args.file.now in
    let are = rw (c.view-view.ensures.compounds_are, c.view-view.ensures.bodies_are, c.view-view.ensures.system_is) at c.in_ok-leaves.ensures (sets_of (bodies_of c.args.file.now.numbered.bodies) (named_of c.args.file.now.numbered.system)) in
    let told = rw (c.view-view.ensures.compounds_are, c.view-view.ensures.sequential_order_is, c.as_slice-constants.ensures, c.as_slice.ensures) at c.in_err-performed.ensures.performed
    (choices (keys file.numbered.actions) file.structure.compounds (bodies_of file.numbered.bodies) (named_of file.numbered.system) file.structure.compound_order file.structure.sequential_order c.requires.built c.requires.compounds c.requires.sequential c.in_ok-leaves.leaves are) in
    rw (p.1, p.2) (performed_end (keys file.numbered.actions) file.structure.compounds (bodies_of file.numbered.bodies) (named_of file.numbered.system) file.structure.compound_order file.structure.sequential_order c.requires.built c.requires.compounds c.requires.sequential _ _ c.in_ok-leaves.leaves are c.in_err-performed.field-0.0 told)

pub is_too_large-requires : goal.is_too_large-requires
is_too_large-requires c = ordered_view c.args.file.now c.view-view.result c.view-view.ensures c.requires

pub is_too_large-requires-2 : goal.is_too_large-requires-2
is_too_large-requires-2 c = ordered_view c.args.file.now c.view-view.result c.view-view.ensures c.requires

pub returns-then-branch : goal.returns-then-branch
returns-then-branch c =
    let file = c.args.file.now in
    let told = rw (c.view-view.ensures.compounds_are, c.view-view.ensures.bodies_are, c.view-view.ensures.system_is) at c.in_ok-is_too_large.ensures (sets_of (bodies_of file.numbered.bodies) (named_of file.numbered.system)) in
    many_leaves_in (keys file.numbered.actions) file.structure.compounds (bodies_of file.numbered.bodies) (named_of file.numbered.system) file.structure.compound_order file.structure.sequential_order c.requires.built c.requires.compounds c.requires.sequential c.in_ok-is_too_large.field-0 told c.if-branch.true

pub returns-then-branch-2 : goal.returns-then-branch-2
returns-then-branch-2 c =
    let file = c.args.file.now in
    let told = rw (c.view-view.ensures.compounds_are, c.view-view.ensures.bodies_are, c.view-view.ensures.system_is) at c.in_ok-is_too_large-2.ensures (sets_of (bodies_of file.numbered.bodies) (named_of file.numbered.system)) in
    many_nodes_in (keys file.numbered.actions) file.structure.compounds (bodies_of file.numbered.bodies) (named_of file.numbered.system) file.structure.compound_order file.structure.sequential_order c.requires.built c.requires.compounds c.requires.sequential c.in_ok-is_too_large-2.field-0 told c.if-branch-2.true

pub returns : goal.returns
returns c =
    let file = c.args.file.now in
    let are = rw (c.view-view.ensures.compounds_are, c.view-view.ensures.bodies_are, c.view-view.ensures.system_is) at c.in_ok-leaves.ensures (sets_of (bodies_of c.args.file.now.numbered.bodies) (named_of c.args.file.now.numbered.system)) in
    let told = rw (c.view-view.ensures.compounds_are, c.view-view.ensures.bodies_are, c.view-view.ensures.system_is) at c.in_ok-is_too_large.ensures (sets_of (bodies_of file.numbered.bodies) (named_of file.numbered.system)) in
    let told_too = rw (c.view-view.ensures.compounds_are, c.view-view.ensures.bodies_are, c.view-view.ensures.system_is) at c.in_ok-is_too_large-2.ensures (sets_of (bodies_of file.numbered.bodies) (named_of file.numbered.system)) in
    let performed = rw (c.view-view.ensures.compounds_are, c.view-view.ensures.sequential_order_is, c.as_slice-constants.ensures, c.as_slice.ensures) at c.in_ok-performed.ensures.performed
    (choices (keys file.numbered.actions) file.structure.compounds (bodies_of file.numbered.bodies) (named_of file.numbered.system) file.structure.compound_order file.structure.sequential_order c.requires.built c.requires.compounds c.requires.sequential c.in_ok-leaves.leaves are) in
    let few_actions : length (keys file.numbered.actions) ≤ 1025 = few_keys file.numbered.actions.entries 1025 c.len.result c.len.ensures.len c.if-len.false in
    let few_sets : length (keys c.in_ok-sets.sets) ≤ 1024 = few_keys c.in_ok-sets.sets.entries 1024 c.len-2.result c.len-2.ensures.len c.if-len-gt-MOST_SETS.false in
    let sets_are = rw (c.view-view.ensures.bodies_are, c.view-view.ensures.system_is) at c.in_ok-sets.ensures in
    counts (keys file.numbered.actions) file.structure.compounds (bodies_of file.numbered.bodies) (named_of file.numbered.system) file.structure.compound_order file.structure.sequential_order c.requires.built c.requires.compounds c.requires.sequential
    (record { sets = c.in_ok-sets.sets; leaves = c.in_ok-leaves.leaves; performed = c.in_ok-performed.performed }) c.in_ok-is_too_large.field-0 c.in_ok-is_too_large-2.field-0
    few_actions sets_are few_sets are performed c.in_ok-performed.ensures.few told c.if-branch.false told_too c.if-branch-2.false
