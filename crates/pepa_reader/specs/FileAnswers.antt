-- What reading answers: the tree of a file, or the first token that can't follow.
use Rattle.std.specs.Prelude.{◌≡◌, ℕ, ◌+◌, ◌<◌, ◌≤◌, List, ◌++◌, length, take, slice_get, Result, Ok, Err, Some}
use Rattle.std.specs.List.{AllByRecursion}
use Rattle.pepa_lexer.specs.declared.kinds.Token.{Token}
use Rattle.pepa_lexer.specs.declared.kinds.Place.{Place}
use Rattle.pepa_lexer.specs.declared.kinds.Sign.TheVariants.{Star, Less, OpeningBracket}
use Rattle.token_grammar.specs.declared.terminal.Terminal.{Terminal}
use Rattle.token_grammar.specs.declared.terminal.Terminal.TheVariants.{Mark}
use Rattle.pepa_reader.specs.declared.trees.FileTree.{FileTree}
use Rattle.pepa_reader.specs.declared.fault.FileFault.{FileFault}
use Rattle.pepa_reader.specs.declared.fault.FileFault.TheVariants.{Expected, TooDeep, Array, Wildcard, Memory}
use Rattle.token_grammar.specs.Terminals.{terminals}
use Rattle.token_grammar.specs.Languages.{StandsAt, CantFollow}
use Rattle.pepa_reader.specs.Grammar.{File, Line, Item, System, line_spelled, item_spelled, lines_spelled, file_spelled}
use Rattle.pepa_reader.specs.Trees.{file_tree, file_node_of}

-- how many tokens an item has at most
abbrev pub most_tokens : ℕ
most_tokens = 2048

-- the terminals are those of some file
abbrev pub IsFile : List Terminal → Type 0
IsFile terminals = (file : File) × (terminals ≡ file_spelled file)

-- lines that are short enough
abbrev pub AreShort : List Line → Type 0
AreShort lines = AllByRecursion (λ line. length (line_spelled line) ≤ most_tokens) lines

-- a file whose items are short enough
abbrev pub HasShortItems : File → Type 0
HasShortItems file = AreShort file.lines × (length (item_spelled (System file.system file.ending)) ≤ most_tokens)

-- before the index stand lines that are short enough, and as many terminals of an item that has more than these
pub record IsInItem (terminals : List Terminal) (i begun : ℕ) : Type 0 where
  pub lines : List Line
  pub short : AreShort lines
  pub item : Item
  pub before : take i terminals ≡ lines_spelled lines ++ take begun (item_spelled item)
  pub index : i ≡ length (lines_spelled lines) + begun
  pub more : begun < length (item_spelled item)

-- a `*` at once behind a `<`
abbrev pub IsWildcard : List Terminal → ℕ → Type 0
IsWildcard terminals i = StandsAt terminals i (Mark Star) × ((before : ℕ) × (i ≡ before + 1) × StandsAt terminals before (Mark Less))

-- the first terminal that can't follow, where it is one of its item's first 2,048
pub record IsRefusedAtToken (terminals : List Terminal) (i : ℕ) : Type 0 where
  pub first : CantFollow IsFile terminals i
  pub begun : ℕ
  pub in_item : IsInItem terminals i begun
  pub few : begun < most_tokens

-- the fault of a kind at an index
abbrev pub IsFaultAt : List Terminal → ℕ → FileFault → Type 0
IsFaultAt terminals i (Expected place) = IsRefusedAtToken terminals i × (¬ StandsAt terminals i (Mark OpeningBracket)) × (¬ IsWildcard terminals i)
IsFaultAt terminals i (Array place) = IsRefusedAtToken terminals i × StandsAt terminals i (Mark OpeningBracket)
IsFaultAt terminals i (Wildcard place) = IsRefusedAtToken terminals i × IsWildcard terminals i
IsFaultAt terminals i (TooDeep place) = IsInItem terminals i most_tokens × (i < length terminals)
IsFaultAt terminals i Memory = ⊥

-- a fault stands at this index
abbrev pub IsFaultIndex : List Terminal → ℕ → Type 0
IsFaultIndex terminals i = (fault : FileFault) × IsFaultAt terminals i fault

-- the terminals have a fault
abbrev pub HasFileFault : List Terminal → Type 0
HasFileFault terminals = (i : ℕ) × IsFaultIndex terminals i

-- the place that a fault tells
abbrev pub IsPlaceOf : FileFault → Place → Type 0
IsPlaceOf (Expected place) there = place ≡ there
IsPlaceOf (Array place) there = place ≡ there
IsPlaceOf (Wildcard place) there = place ≡ there
IsPlaceOf (TooDeep place) there = place ≡ there
IsPlaceOf Memory there = ⊥

-- the tokens have this fault, at the place of the token that can't follow
pub record IsFileFault (input : List ℕ) (tokens : List Token) (fault : FileFault) : Type 0 where
  pub i : ℕ
  pub is_fault : IsFaultAt (terminals input tokens) i fault
  pub token : Token
  pub is_token : slice_get tokens i ≡ Some token
  pub place : IsPlaceOf fault token.place

-- the tree is that of the file that the tokens are, each of whose items is short enough
pub record IsFileTree (terminals : List Terminal) (tree : FileTree) : Type 0 where
  pub file : File
  pub spelled : terminals ≡ file_spelled file
  pub short : AreShort file.lines
  pub short_system : length (item_spelled (System file.system file.ending)) ≤ most_tokens
  pub tree_is : file_node_of tree ≡ file_tree file

-- what may be answered: the tree, the fault, or that memory ran out
abbrev pub ReadsFile : List ℕ → List Token → Result FileTree FileFault → Type 0
ReadsFile input tokens (Ok tree) = IsFileTree (terminals input tokens) tree
ReadsFile input tokens (Err Memory) = Unit {0}
ReadsFile input tokens (Err fault) = IsFileFault input tokens fault
