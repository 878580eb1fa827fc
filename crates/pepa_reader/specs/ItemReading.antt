-- What the readers of items answer, and why a token is refused.
use Rattle.std.specs.Prelude.{◌≡◌, ◌≢◌, ℕ, ◌+◌, ◌<◌, ◌≤◌, ◌⊎◌, length, List, [], ◌∷◌, ◌++◌, drop, slice_get, Option, Some, MatchOption, Result, Ok, Err}
use Rattle.std.specs.List.{AllByRecursion}
use Rattle.pepa_lexer.specs.declared.kinds.Token.{Token}
use Rattle.pepa_lexer.specs.declared.kinds.Sign.TheVariants.{Equals, Semicolon, OpeningBracket, DoubleColon}
use Rattle.token_grammar.specs.declared.terminal.Terminal.{Terminal}
use Rattle.token_grammar.specs.declared.terminal.Terminal.TheVariants.{Capital, Mark, End}
use Rattle.pepa_reader.specs.declared.fault.FileFault.{FileFault}
use Rattle.pepa_reader.specs.declared.fault.FileFault.TheVariants.{Expected, TooDeep, Array, Wildcard}
use Rattle.pepa_reader.specs.declared.fault.FileFault.TheVariants as faults
use Rattle.fault_ends.specs.declared.end.End.TheVariants.{Fault, Memory}
use Rattle.pepa_reader.specs.declared.items.Item.{Item}
use Rattle.pepa_reader.specs.declared.items.Item.TheVariants.{Rate, Process, Probe, System}
use Rattle.pepa_reader.specs.declared.items.ItemRead.{ItemRead}
use Rattle.pepa_reader.specs.Grammar as g
use Rattle.pepa_reader.specs.Grammar.{ending_spelled, item_spelled, target_spelled}
use Rattle.probe_reader.specs.ProbeTrees.{probe_node_of, alternatives_tree}
use Rattle.probe_reader.specs.declared.trees.ProbeRead.{ProbeRead}
use Rattle.probe_reader.specs.ProbeMachine.{probe_start}
use Rattle.probe_reader.specs.ProbeReading.{HaltsInProbe, HasExpression}
use Rattle.pepa_reader.specs.Trees.{rate_node_of, process_node_of, rate_tree, process_tree, target_at}
use Rattle.pepa_reader.specs.FileAnswers.{most_tokens, IsPlaceOf, IsWildcard}
use Rattle.token_grammar.specs.Languages.{StandsAt}
use Rattle.pepa_reader.specs.Machine.{ParserState, IsUndone, run, start}
use Rattle.token_grammar.specs.Cursors.{Begins, IsSpelledFrom, IsAt, PartEnd}
use Rattle.pepa_reader.specs.Reading.{CannotGoOn, Stops}
use Rattle.token_grammar.specs.Terminals.{terminals}
use Rattle.token_grammar.specs.SmallNames.{SmallName, small_spelled}
use Rattle.pepa_reader.specs.declared.items.TargetRead.{TargetRead}

-- a small name and a `=`
abbrev pub IsRateHead : List Terminal → ℕ → ℕ → SmallName → Type 0
IsRateHead kinds at next name = IsSpelledFrom kinds at next (small_spelled name ∷ Mark Equals ∷ [])

-- a constant and a `=`
abbrev pub IsLineHead : List Terminal → ℕ → ℕ → Type 0
IsLineHead kinds at next = IsSpelledFrom kinds at next (Capital ∷ Mark Equals ∷ [])

abbrev pub NoLineHead : List Terminal → Type 0
NoLineHead (Capital ∷ Mark Equals ∷ more) = ⊥
NoLineHead _ = Unit {0}

-- the index after a constant and a `=`, if they stand at the index
abbrev pub FindsLineHead : List Terminal → ℕ → Option ℕ → Type 0
FindsLineHead kinds at answer = MatchOption answer (NoLineHead (drop at kinds)) (λ next. IsLineHead kinds at next)

-- without a target no constant is there
abbrev pub NoConstant : g.ProbeTarget → List Terminal → Type 0
NoConstant g.Overall rest = ¬ Begins rest Capital
NoConstant g.OnConstant rest = Unit {0}

-- the target of a probe line, with its `::`, or none
abbrev pub IsTargetRead : List Terminal → ℕ → TargetRead → g.ProbeTarget → Type 0
IsTargetRead kinds at read target = IsSpelledFrom kinds at read.next (target_spelled target) × (read.target ≡ target_at at target) × NoConstant target (drop read.next kinds)

-- a target, or a constant without a `::`
abbrev pub ReadsTarget : List Terminal → ℕ → Result TargetRead PartEnd → Type 0
ReadsTarget kinds at (Ok read) = (target : g.ProbeTarget) × IsTargetRead kinds at read target
ReadsTarget kinds at (Err (Fault i)) = IsAt kinds at i Capital × (¬ Begins (drop i kinds) (Mark DoubleColon))
ReadsTarget kinds at (Err Memory) = ⊥

-- an expression, which the machine reads and after which it refuses what is there, or where it halts
abbrev pub ReadsExpression : List Terminal → ℕ → Result ProbeRead PartEnd → Type 0
ReadsExpression kinds at (Ok read) = HasExpression kinds at read
ReadsExpression kinds at (Err (Fault i)) = HaltsInProbe kinds at i probe_start
ReadsExpression kinds at (Err Memory) = Unit {0}

-- the end of a system, or neither the end of the text nor a `;`, or a `;` without the end
abbrev pub ReadsEnding : List Terminal → ℕ → Result ℕ PartEnd → Type 0
ReadsEnding kinds at (Ok next) = (ending : g.Ending) × IsSpelledFrom kinds at next (ending_spelled ending)
ReadsEnding kinds at (Err (Fault i)) =
    ((i ≡ at) × (¬ Begins (drop at kinds) End) × (¬ Begins (drop at kinds) (Mark Semicolon))) ⊎ (IsAt kinds at i (Mark Semicolon) × (¬ Begins (drop i kinds) End))
ReadsEnding kinds at (Err Memory) = ⊥

-- the item is this one of the grammar
abbrev pub IsItem : ℕ → Item → g.Item → Type 0
IsItem at (Rate line) (g.OneLine (g.RateNamed name rate)) = (line.at ≡ at) × (rate_node_of line.rate ≡ rate_tree (at + 2) rate)
IsItem at (Process line) (g.OneLine (g.ProcessNamed process)) = (line.at ≡ at) × (process_node_of line.body ≡ process_tree (at + 2) process)
IsItem at (Probe line) (g.OneLine (g.ProbeWritten target alternatives)) =
    (line.at ≡ at) × (line.target ≡ target_at (at + 1) target) × (probe_node_of line.expr ≡ alternatives_tree (at + 1 + length (target_spelled target)) alternatives)
IsItem at (System tree) (g.System process ending) = process_node_of tree ≡ process_tree at process
IsItem at _ _ = ⊥

pub record IsItemRead (kinds : List Terminal) (at : ℕ) (read : ItemRead) : Type 0 where
  pub item : g.Item
  pub spelled : IsSpelledFrom kinds at read.next (item_spelled item)
  pub tree : IsItem at read.item item

abbrev pub ReadsItem : List Terminal → ℕ → Result ItemRead PartEnd → Type 0
ReadsItem kinds at (Ok read) = IsItemRead kinds at read
ReadsItem kinds at (Err (Fault i)) = Stops kinds at i start
ReadsItem kinds at (Err Memory) = Unit {0}

-- the token at the index, and its place
abbrev pub TellsAt : List Token → FileFault → ℕ → Type 0
TellsAt tokens fault i = (token : Token) × (slice_get tokens i ≡ Some token) × IsPlaceOf fault token.place

-- why the token at i was refused, in the item that begins at `at`
abbrev pub IsCause : List ℕ → List Token → ℕ → ℕ → FileFault → Type 0
IsCause input tokens at i (TooDeep place) = (i ≡ at + most_tokens) × TellsAt tokens (TooDeep place) i
IsCause input tokens at i (Array place) =
    (i ≢ at + most_tokens) × StandsAt (terminals input tokens) i (Mark OpeningBracket) × TellsAt tokens (Array place) i
IsCause input tokens at i (Wildcard place) =
    (i ≢ at + most_tokens) × IsWildcard (terminals input tokens) i × TellsAt tokens (Wildcard place) i
IsCause input tokens at i (Expected place) =
    (i ≢ at + most_tokens) × (¬ StandsAt (terminals input tokens) i (Mark OpeningBracket)) × (¬ IsWildcard (terminals input tokens) i) × TellsAt tokens (Expected place) i
IsCause input tokens at i faults.Memory = ⊥

-- the last terminal is the end, and no other is
abbrev pub IsEnded : List Terminal → Type 0
IsEnded kinds = (front : List Terminal) × (kinds ≡ front ++ End ∷ []) × AllByRecursion (λ terminal. terminal ≢ End) front

-- from the item's start on the machine comes to i, which is at most 2,048 terminals behind; where it is fewer, it refuses
-- what stands there
pub record IsItemFault (input : List ℕ) (tokens : List Token) (at : ℕ) (fault : FileFault) : Type 0 where
  pub i : ℕ
  pub state : ParserState
  pub text : List Terminal
  pub spelled : IsSpelledFrom (terminals input tokens) at i text
  pub ran : run start text ≡ Some state
  pub undone : IsUndone state
  pub refused : i ≢ at + most_tokens → CannotGoOn state (drop i (terminals input tokens))
  pub within : i < length tokens
  pub few : i ≤ at + most_tokens
  pub cause : IsCause input tokens at i fault

-- an item of at most 2,048 terminals, or why there is none
abbrev pub ReadsItemAt : List ℕ → List Token → ℕ → Result ItemRead FileFault → Type 0
ReadsItemAt input tokens at (Ok read) = IsItemRead (terminals input tokens) at read × (read.next ≤ at + most_tokens)
ReadsItemAt input tokens at (Err faults.Memory) = Unit {0}
ReadsItemAt input tokens at (Err fault) = IsItemFault input tokens at fault
