-- A number that is known stays so.
use Rattle.list_store.proofs.ListReads.{known_on}
use Rattle.table_tests.proofs.lists.offer.Goals as goal

pub publish-requires-clause-known : goal.publish-requires-clause-known
publish-requires-clause-known c = known_on c.intern.new.pass.view.front c.list_len.new.pass.view.front c.in-Ok.number c.list_len.ensures.front c.in-Ok.ensures.known.1
