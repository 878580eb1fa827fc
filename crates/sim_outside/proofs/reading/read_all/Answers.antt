use Rattle.std.proofs.Common.{arith, drop, take, length, ◌+◌, ◌-◌, ◌≡◌, ◌∙◌, ap, sym}
use Rattle.std.proofs.lemmas.Grind.{common_steps}
use Rattle.std.proofs.lemmas.List.{take_at}
use Rattle.sim_outside.proofs.Device.{Takes-behind}
use Rattle.sim_outside.proofs.Chains.{read_behind_more}
use Rattle.sim_outside.specs.Readings.{given_bytes}
use Rattle.sim_outside.proofs.reading.read_all.Goals as goal

pub loop-filled-preserved : goal.loop-filled-preserved
loop-filled-preserved g c =
    let new = c.read_behind.new.buffer in
    let kept : length new ≡ c.loop-filled.buffer.len = grind (arith, common_steps) in
    let front : take c.loop-filled.filled new ≡ take c.loop-filled.filled c.loop-filled.buffer.items = cc in
    let room : length c.deref_mut.result.now - c.loop-filled.filled ≡ c.args.limit + 1 - c.loop-filled.filled = omega arith in
    record {
      room = omega arith;
      in_room = let h = c.in-Ok-read_behind.ensures.count in grind (arith, common_steps);
      taken = rw (take_at new (drop (length new) c.loop-filled.buffer.items) c.loop-filled.buffer.len kept)
          (Takes-behind _ _ _ c.loop-filled.buffer.items new _ _ front c.loop-filled.invariant.taken c.in-Ok-read_behind.ensures.bytes.0);
      read = rw (take_at new (drop (length new) c.loop-filled.buffer.items) c.loop-filled.buffer.len kept)
          (read_behind_more g.S.Source.one_read c.args.source.now (c.args.limit + 1) c.loop-filled.source c.loop-filled.filled c.in-Ok-read_behind.count
          c.loop-filled.buffer.items new c.read_behind.new.source c.loop-filled.invariant.read front (omega arith) (omega arith)
          (omega (arith, c.in-Ok-read_behind.ensures.count)) (rw room at c.in-Ok-read_behind.ensures.called));
      none_failed = let h = c.in-Ok-read_behind.ensures.counted in cc;
    }

pub returns-in_default-read_behind-clause-reads : goal.returns-in_default-read_behind-clause-reads
returns-in_default-read_behind-clause-reads g c =
    let read = c.loop-filled.invariant.read in
    let room : length c.deref_mut.result.now - c.loop-filled.filled ≡ c.args.limit + 1 - c.loop-filled.filled = omega arith in
    (read.reads, c.loop-filled.source, c.args.limit + 1 - c.loop-filled.filled, read.chain, omega (arith, read.few), omega arith, rw room at c.in_default-read_behind.ensures.called)

pub returns-then-count-eq0-clause-reads : goal.returns-then-count-eq0-clause-reads
returns-then-count-eq0-clause-reads g c =
    let read = c.loop-filled.invariant.read in
    let room : length c.deref_mut.result.now - c.loop-filled.filled ≡ c.args.limit + 1 - c.loop-filled.filled = omega arith in
    let new = c.read_behind.new.buffer in
    let kept : length new ≡ c.loop-filled.buffer.len = omega arith in
    let front : take c.loop-filled.filled new ≡ take c.loop-filled.filled c.loop-filled.buffer.items = cc in
    let given : c.from_vec.result ≡ given_bytes read.reads =
    c.from_vec.ensures ∙ c.truncate.ensures.items ∙ ap (λ l. take c.loop-filled.filled l) (take_at new (drop (length new) c.loop-filled.buffer.items) c.loop-filled.buffer.len kept) ∙ front ∙ sym read.gave in
    (read.reads, c.loop-filled.source, c.args.limit + 1 - c.loop-filled.filled, read.chain, omega (arith, read.few), omega arith, rw (room, c.if-count-eq0.true) at c.in-Ok-read_behind.ensures.called, given)

pub returns-clause-reads : goal.returns-clause-reads
returns-clause-reads g c =
    let read = c.loop-filled.invariant.read in
    let full : c.args.limit + 1 - c.loop-filled.filled ≡ 0 = omega arith in
    (read.reads, rw full at read.chain, omega (arith, read.few))
