use Rattle.std.proofs.Common.{take}
use Rattle.indexmap.specs.IndexMap.{keys}
use Rattle.pepa_reader.specs.Trees.{rate_node_of}
use Rattle.token_grammar.specs.Terminals.{name_at}
use Rattle.pepa_resolver.specs.Parts.{names_in}
use Rattle.pepa_resolver.specs.Finding.{IsUnlisted}
use Rattle.pepa_resolver.proofs.Findings.{finds_append}
use Rattle.pepa_resolver.proofs.unknown.+unlisted_in_rate.Goals as goal

pub returns-in-Name : goal.returns-in-Name
returns-in-Name t c = rw c.in-Name.is c.unlisted.ensures

pub returns-in-Op : goal.returns-in-Op
returns-in-Op t c =
    rw c.in-Op.is (finds_append (IsUnlisted (name_at c.args.source.now.input.now c.args.source.now.tokens.now) (take c.args.above (keys c.args.table.now)))
    (names_in (rate_node_of c.in-Op.left.value)) (names_in (rate_node_of c.in-Op.right.value)) c.unlisted_in_rate.result c.unlisted_in_rate-in-Op.result c.least.result
    (rw c.deref.ensures at c.unlisted_in_rate.ensures) (rw c.deref-in-Op.ensures at c.unlisted_in_rate-in-Op.ensures) c.least.ensures)

pub returns-in-Bracket : goal.returns-in-Bracket
returns-in-Bracket t c = rw c.in-Bracket.is (rw c.deref-in-Bracket.ensures at c.unlisted_in_rate-in-Bracket.ensures)
