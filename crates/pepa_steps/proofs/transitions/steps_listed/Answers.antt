use Rattle.std.proofs.Common.{◌≡◌, ◌<◌, ◌+◌, List, Some, length, slice_get, ap, sym, subst, ◌∙◌, arith}
use Rattle.std.proofs.lemmas.Option.{slice_get-get_or}
use Rattle.pepa_model.specs.declared.term.Step.{Step}
use Rattle.pepa_steps.specs.declared.entries.Entry.{Entry}
use Rattle.pepa_steps.proofs.Listed.{AreFirst, one_more, all_first}
use Rattle.pepa_steps.proofs.transitions.steps_listed.Goals as goal

pub loop-index-preserved : goal.loop-index-preserved
loop-index-preserved c =
    let below : c.loop-index.index < length c.entries-entry-items.result.now = omega (arith, c.loop-index-test.true, c.loop-index.auto.index-end) in
    let here : slice_get c.entries-entry-items.result.now c.loop-index.index ≡ Some c.entry-item.result = slice_get-get_or c.entries-entry-items.result.now c.loop-index.index c.entry-item.result below ∙ ap Some (sym c.entry-item.is) in
    subst (λ (list : List Step). AreFirst c.args.model.now c.args.term.now list (c.loop-index.index + 1)) (sym c.in_ok-push.ensures.items)
    (one_more c.args.model.now c.recall_invariant.ensures c.args.term.now c.args.buffers.now c.requires c.loop-index.index
    (omega (arith, below, ap length c.entries-entry-items.ensures)) c.loop-index.list.items c.loop-index.invariant c.entry-item.result
    (sym (ap (λ (l : List Entry). slice_get l c.loop-index.index) c.entries-entry-items.ensures) ∙ here) c.in_ok-target.field-0 c.in_ok-target.ensures.stands)

pub returns : goal.returns
returns c =
    all_first c.args.model.now c.recall_invariant.ensures c.args.term.now c.args.buffers.now c.requires c.loop-index.list.items c.loop-index.index
    (omega (arith, c.loop-index-test.false, c.loop-index.auto.index-end, ap length c.entries-entry-items.ensures)) c.loop-index.invariant
