use Rattle.std.proofs.Common.{List, map, sym, ap, refl}
use Rattle.std.proofs.lemmas.List.{take_all}
use Rattle.pepa_steps.specs.Moves.{carry, outside_set}
use Rattle.pepa_steps.specs.Combined.{numbered}
use Rattle.pepa_steps.specs.declared.entries.Entry.{Entry}
use Rattle.pepa_steps.specs.declared.entries.Origin.TheVariants.{Right}
use Rattle.pepa_steps.proofs.TakenEntries.{at_place, numbered_more}
use Rattle.pepa_steps.proofs.CombinedLists.{adds_none, adds_more, adds_same, alone_one, alone_none}
use Rattle.pepa_steps.proofs.combining.push_right.Goals as goal
use Rattle.pepa_steps.proofs.combining.push_right.Goals.{then-not-is_in+in_ok-push_one, else-not-is_in}

pub loop-index-init : goal.loop-index-init
loop-index-init c = adds_none _ _ _ _ refl refl

pub loop-index-preserved : goal.loop-index-preserved
loop-index-preserved c =
    let grows = numbered_more c.args.theirs.now c.loop-index.index c.index-theirs-index.result c.loop-index-test.true c.index-theirs-index.is in
    elim c.if-not-is_in.branch [
      | then-not-is_in+in_ok-push_one w ↦
          rw w.derived-is
          (adds_more _ _ _ _ _ _ (carry Right (at_place c.loop-index.index c.index-theirs-index.result)) _ _ c.loop-index.invariant
          w.in_ok-push_one.ensures.entries w.in_ok-push_one.ensures.origins
          (alone_one c.args.types.now _ _ _ grows Right (sym w.if-not-is_in.ensures)))
      | else-not-is_in w ↦
          rw w.derived-is (adds_same _ _ _ _ _ _ (alone_none c.args.types.now _ _ _ grows Right (sym w.if-not-is_in.ensures)) c.loop-index.invariant)
    ]

pub returns : goal.returns
returns c = adds_same _ _ _ _ _ _ (ap (λ (l : List Entry). map (carry Right) (outside_set c.args.types.now (numbered 0 l))) (take_all _ c.args.theirs.now c.loop-index-test.false)) c.loop-index.invariant
