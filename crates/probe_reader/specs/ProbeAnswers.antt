-- What reading a probe expression answers: its tree, or the first token that can't follow.
use Rattle.std.specs.Prelude.{◌≡◌, ℕ, ◌+◌, List, take, drop, Result, Ok, Err}
use Rattle.pepa_lexer.specs.declared.kinds.Token.{Token}
use Rattle.token_grammar.specs.declared.terminal.Terminal.{Terminal}
use Rattle.token_grammar.specs.Terminals.{terminals}
use Rattle.token_grammar.specs.Languages.{GoesOnTo}
use Rattle.probe_reader.specs.declared.trees.ProbeRead.{ProbeRead}
use Rattle.probe_reader.specs.declared.fault.ProbeTextFault.{ProbeTextFault}
use Rattle.probe_reader.specs.declared.fault.ProbeTextFault.TheVariants.{Expected, Memory}
use Rattle.probe_reader.specs.ProbeGrammar.{Alternatives, alternatives_spelled}
use Rattle.probe_reader.specs.ProbeTrees.{probe_node_of, alternatives_tree}

-- the terminals are those of some expression
abbrev pub IsProbeText : List Terminal → Type 0
IsProbeText terminals = (alternatives : Alternatives) × (terminals ≡ alternatives_spelled alternatives)

-- the terminals from the index `at` up to the index `limit`
abbrev pub terminals_between : ℕ → ℕ → List Terminal → List Terminal
terminals_between at limit terminals = drop at (take limit terminals)

-- of the terminals from `at` up to `limit`, the one at `next` is the first that can't follow in an expression; or all can, and
-- `next` is the limit
pub record IsProbeEnd (terminals : List Terminal) (at limit next : ℕ) : Type 0 where
  pub count : ℕ
  pub index : next ≡ at + count
  pub goes_on : GoesOnTo IsProbeText (terminals_between at limit terminals) count

-- the terminals before the end
abbrev pub before_end : {terminals : List Terminal} {at limit next : ℕ} → IsProbeEnd terminals at limit next → List Terminal
before_end {terminals = terminals} {at = at} {limit = limit} stop = take stop.count (terminals_between at limit terminals)

-- an expression is before the end, and the tree is its tree
pub record IsProbeRead (terminals : List Terminal) (at limit : ℕ) (read : ProbeRead) : Type 0 where
  pub stop : IsProbeEnd terminals at limit read.next
  pub alternatives : Alternatives
  pub spelled : before_end stop ≡ alternatives_spelled alternatives
  pub tree_is : probe_node_of read.tree ≡ alternatives_tree at alternatives

-- no expression is before the end
pub record IsNoProbe (terminals : List Terminal) (at limit next : ℕ) : Type 0 where
  pub stop : IsProbeEnd terminals at limit next
  pub none : ¬ IsProbeText (before_end stop)

-- what may be answered: the tree and the end, the end alone, or that memory ran out
abbrev pub ReadsProbe : List ℕ → List Token → ℕ → ℕ → Result ProbeRead ProbeTextFault → Type 0
ReadsProbe input tokens at limit (Ok read) = IsProbeRead (terminals input tokens) at limit read
ReadsProbe input tokens at limit (Err (Expected next)) = IsNoProbe (terminals input tokens) at limit next
ReadsProbe input tokens at limit (Err Memory) = Unit {0}
