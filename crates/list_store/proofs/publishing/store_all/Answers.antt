-- The next word is stored.
use Rattle.std.proofs.Common.{sym, arith}
use Rattle.list_store.proofs.Offering.{stores_next}
use Rattle.list_store.proofs.publishing.store_all.Goals as goal

pub step_store_word-requires-clause-next : goal.step_store_word-requires-clause-next
step_store_word-requires-clause-next g c =
    let s = c.requires.storing in
    let now = c.loop-at.invariant.stored s.0 s.1 s.2 in
    let most = c.loop-at.invariant.most in
    let low = c.loop-at-test.true in
    stores_next s.0 c.args.words.now c.loop-at.at s.1 c.loop-at.pass.view now (omega arith)

pub step_store_word-requires-clause-words : goal.step_store_word-requires-clause-words
step_store_word-requires-clause-words g c =
    let s = c.requires.storing in
    sym (c.loop-at.invariant.stored s.0 s.1 s.2).offer
