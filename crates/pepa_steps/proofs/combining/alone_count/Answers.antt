use Rattle.std.proofs.Common.{length, List, sym, ap, ◌∙◌, arith, refl}
use Rattle.std.proofs.lemmas.List.{take_all}
use Rattle.pepa_steps.specs.Moves.{outside_set}
use Rattle.pepa_steps.specs.Combined.{numbered}
use Rattle.pepa_steps.specs.declared.entries.Entry.{Entry}
use Rattle.pepa_steps.proofs.TakenEntries.{numbered_more, counts_alone, same_alone}
use Rattle.pepa_steps.proofs.combining.alone_count.Goals as goal
use Rattle.pepa_steps.proofs.combining.alone_count.Goals.{then-not-is_in, else-not-is_in}

pub loop-index-init : goal.loop-index-init
loop-index-init c = (refl, omega arith)

pub overflow_add-count : goal.overflow_add-count
overflow_add-count c = omega (arith, c.loop-index.invariant.1)

pub loop-index-preserved : goal.loop-index-preserved
loop-index-preserved c =
    let grows = numbered_more c.args.entries.now c.loop-index._index c.index-entries-index.result c.loop-index-test.true c.index-entries-index.is in
    elim c.if-not-is_in.branch [
      | then-not-is_in w ↦ (
        w.count-is ∙ counts_alone c.args.types.now _ _ _ grows _ (sym w.if-not-is_in.ensures) c.loop-index.invariant.0,
        omega (arith, w.count-is, c.loop-index.invariant.1),
      )
      | else-not-is_in w ↦ (
        w.count-is ∙ same_alone c.args.types.now _ _ _ grows _ (sym w.if-not-is_in.ensures) c.loop-index.invariant.0,
        omega (arith, w.count-is, c.loop-index.invariant.1),
      )
    ]

pub returns : goal.returns
returns c =
    c.loop-index.invariant.0 ∙ ap (λ (es : List Entry). length (outside_set c.args.types.now (numbered 0 es))) (take_all _ c.args.entries.now c.loop-index-test.false)
