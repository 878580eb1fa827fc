-- The pass has made a call and no other entry.
use Rattle.std.proofs.Common.{◌∙◌}
use Rattle.table_tests.proofs.OneCall.{one_call}
use Rattle.table_tests.proofs.lists.offer_after_note.Goals as goal

pub publish-requires-clause-unlisted : goal.publish-requires-clause-unlisted
publish-requires-clause-unlisted c = one_call c.in-Ok.number _ _ _ _ _ c.in-Ok.ensures.answered.mine (c.meet.ensures.mine ∙ c.requires.mine)
