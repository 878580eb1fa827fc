-- It is a turn; what its play tells is what is ensured.
use Rattle.chain_rule.proofs.Operations.{allows_swap}
use Rattle.chain_rule.proofs.desk.swap_turn.Goals as goal

pub compare_exchange-requires : goal.compare_exchange-requires
compare_exchange-requires g c = (
  c.requires.own,
  c.requires.word,
  allows_swap g.M.Meaning.lawful g.M.Meaning.allowed g.M.Meaning.stands g.M.Meaning.lawful_stays g.M.Meaning.stands_stays c.args.table.now.table.shared.key c.args.table.now.setting c.args.table.now.told
      c.args.table.now.table.shared.table_id.slots c.args.place.now.id c.args.word c.args.new g.J.Beginning.begins g.J.Beginning.told c.args.place.now.me c.requires.turn.0 c.requires.turn.1 c.requires.swap,
)
