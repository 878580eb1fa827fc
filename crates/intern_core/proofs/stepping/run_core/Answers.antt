use Rattle.std.proofs.Common.{◌<◌, length, refl, arith, subst}
use Rattle.intern_core.specs.History.{IsLegal}
use Rattle.intern_core.specs.Blocks.{KeptLists}
use Rattle.intern_core.specs.Image.{IsImage}
use Rattle.intern_core.proofs.Asking.{shape_all, asks_take_at_most}
use Rattle.intern_core.specs.Machine.{fresh, happened}
use Rattle.intern_core.proofs.Machines.{after_one_more, read_there, kept_fresh}
use Rattle.intern_core.proofs.stepping.run_core.Goals as goal

pub loop-k-preserved : goal.loop-k-preserved
loop-k-preserved c =
    let low : c.loop-k.k < length c.args.events.now = omega arith in
    let h = c.in-Ok-core_step.ensures in
    let e = c.index-events-k.result in
    record {
      low = omega arith;
      so_far = after_one_more (fresh c.args.shape) c.loop-k.core (happened c.core_step.new.core c.in-Ok-core_step.field-0) c.args.events.now c.loop-k.k e e
          c.loop-k.invariant.so_far low c.index-events-k.is h.ok;
    }

pub returns-in-Err-NotEnabled-clause-err : goal.returns-in-Err-NotEnabled-clause-err
returns-in-Err-NotEnabled-clause-err c =
    let low : c.loop-k.k < length c.args.events.now = omega arith in
    let h = rw c.in-Err-NotEnabled.field-0-is at c.in-Err-NotEnabled.ensures in
    let e = c.index-events-k.result in
    (c.loop-k.core, e, c.loop-k.invariant.so_far, read_there c.args.events.now c.loop-k.k e low c.index-events-k.is, h.refused refl)

pub returns-clause-legal : goal.returns-clause-legal
returns-clause-legal c = subst (λ s. IsLegal s c.loop-k.core.history) (shape_all (fresh c.args.shape) c.loop-k.core _ (kept_fresh c.args.shape c.requires) c.loop-k.invariant.so_far) c.valid.ensures.legal

pub returns-clause-image : goal.returns-clause-image
returns-clause-image c =
    subst (λ s. IsImage s c.loop-k.core.words c.loop-k.core.history) (shape_all (fresh c.args.shape) c.loop-k.core _ (kept_fresh c.args.shape c.requires) c.loop-k.invariant.so_far) c.valid.ensures.image

pub returns-in_default-clause-steps : goal.returns-in_default-clause-steps
returns-in_default-clause-steps c = asks_take_at_most c.args.shape c.requires c.args.events.now

pub returns-in-Err-NotEnabled-clause-steps : goal.returns-in-Err-NotEnabled-clause-steps
returns-in-Err-NotEnabled-clause-steps c = asks_take_at_most c.args.shape c.requires c.args.events.now

pub returns-in-Err-Memory-clause-steps : goal.returns-in-Err-Memory-clause-steps
returns-in-Err-Memory-clause-steps c = asks_take_at_most c.args.shape c.requires c.args.events.now

pub returns-clause-steps : goal.returns-clause-steps
returns-clause-steps c = asks_take_at_most c.args.shape c.requires c.args.events.now

pub returns-clause-lists : goal.returns-clause-lists
returns-clause-lists c =
    subst (λ s. KeptLists s c.loop-k.core.words c.loop-k.core.seats c.loop-k.core.history) (shape_all (fresh c.args.shape) c.loop-k.core _ (kept_fresh c.args.shape c.requires) c.loop-k.invariant.so_far) c.valid.ensures.lists
