-- What each reader of a part answers: what it has read, or where nothing can follow.
use Rattle.std.specs.Prelude.{◌≡◌, ℕ, ◌+◌, List, [], ◌∷◌, ◌++◌, drop, Option, Some, None, MatchOption, Result, Ok, Err}
use Rattle.pepa_lexer.specs.declared.kinds.Sign.TheVariants.{Opening, Closing, Comma, Dot, Star, Slash, Plus, Minus, Or, Less, Greater, ClosingBrace}
use Rattle.token_grammar.specs.declared.terminal.Terminal.{Terminal}
use Rattle.token_grammar.specs.declared.terminal.Terminal.TheVariants.{Small, Probe, Tau, Top, Number, Mark}
use Rattle.fault_ends.specs.declared.end.End.TheVariants.{Fault, Memory}
use Rattle.pepa_reader.specs.declared.rates.RateRead.{RateRead}
use Rattle.pepa_reader.specs.declared.words.WordsRead.{WordsRead}
use Rattle.pepa_reader.specs.declared.processes.ActivityRead.{ActivityRead}
use Rattle.pepa_reader.specs.declared.processes.ProcessRead.{ProcessRead}
use Rattle.token_grammar.specs.Cursors.{Begins, IsSpelledFrom, IsAt, PartEnd}
use Rattle.token_grammar.specs.Machines.{IsRefusedBy, HaltsAt}
use Rattle.token_grammar.specs.SmallNames.{NoSmall}
use Rattle.pepa_reader.specs.Grammar.{SumSign, sum_sign_spelled, product_sign_spelled, Weighted, Word, word_spelled, words_spelled, ProductSign, Multiplied, Sum, Product, OneFactor, Factor, Amount, sum_spelled, product_spelled, factor_spelled, Rate, Computed, rate_spelled, Cooperation, cooperation_spelled, Process, Choice, Hidden, Prefix, process_spelled, choice_spelled, hidden_spelled, prefix_spelled}
use Rattle.pepa_reader.specs.declared.trees.RateTree.{RateTree}
use Rattle.pepa_reader.specs.Trees.{OpAt, PrefixAt, HideOf, ChoiceOf, CoopAt, rate_node_of, process_node_of, sum_tree, product_tree, factor_tree, rate_tree, word_indices, cooperation_indices, process_tree, choice_tree, hidden_tree, prefix_tree}
use Rattle.pepa_reader.specs.Machine.{Pending, ChosenSoFar, Joining, Outer, InSystem, InBrackets, RatePlace, Summing, Multiplying, RateOuter, Whole, SetPlace, OfCooperation, OfHiding, ParserState, Want, WantFactor, AtSet, IsUndone, step, behind_process}

-- ---- what stands at an index

-- no word is in front
abbrev pub NoWord : List Terminal → Type 0
NoWord rest = (¬ Begins rest Small) × (¬ Begins rest Probe) × (¬ Begins rest Tau)

-- the index after a word, if one stands at the index
abbrev pub FindsWord : List Terminal → ℕ → Option ℕ → Type 0
FindsWord kinds at answer =
    MatchOption answer (NoWord (drop at kinds)) (λ next. (word : Word) × IsAt kinds at next (word_spelled word))

-- the start of an activity, up to its comma
abbrev pub BeginsActivity : List Terminal → ℕ → ℕ → Type 0
BeginsActivity kinds at comma = (word : Word) × IsSpelledFrom kinds at comma (Mark Opening ∷ word_spelled word ∷ [])

-- ---- where nothing can follow

-- what stands there can't follow, if anything stands there
abbrev pub CannotGoOn : ParserState → List Terminal → Type 0
CannotGoOn state rest = IsRefusedBy step state rest

-- from the index on the machine comes to the index i, and no further
abbrev pub Stops : List Terminal → ℕ → ℕ → ParserState → Type 0
Stops kinds at i from = HaltsAt step IsUndone kinds at i from

-- ---- rates

-- `NUMBER "*" top` stands in front
abbrev pub BeginsWeighted : List Terminal → Type 0
BeginsWeighted (Number ∷ Mark Star ∷ Top ∷ more) = Unit {0}
BeginsWeighted _ = ⊥

-- where a factor may be `infty` or `T` in its place, it isn't
abbrev pub IsNoWeight : Product → ProductSign → List Terminal → Type 0
IsNoWeight (OneFactor Amount) Multiplied rest = ¬ Begins rest Top
IsNoWeight _ _ rest = Unit {0}

abbrev pub AdmitsFactor : Option Summing → Option Multiplying → RateOuter → List Terminal → Type 0
AdmitsFactor None None (Whole place) rest = (¬ Begins rest Top) × (¬ BeginsWeighted rest)
AdmitsFactor None (Some multiplying) (Whole place) rest = IsNoWeight multiplying.product multiplying.sign rest
AdmitsFactor _ _ _ rest = Unit {0}

-- the index after a passive rate with a weight, if one stands at the index
abbrev pub FindsWeighted : List Terminal → ℕ → Option ℕ → Type 0
FindsWeighted kinds at answer =
    MatchOption answer (¬ BeginsWeighted (drop at kinds)) (λ next. IsSpelledFrom kinds at next (rate_spelled Weighted) × (next ≡ at + 3))

pub record IsFactor (kinds : List Terminal) (at : ℕ) (read : RateRead) : Type 0 where
  pub factor : Factor
  pub spelled : IsSpelledFrom kinds at read.next (factor_spelled factor)
  pub tree : rate_node_of read.tree ≡ factor_tree at factor

abbrev pub ReadsFactor : List Terminal → ℕ → Result RateRead PartEnd → Type 0
ReadsFactor kinds at (Ok read) = IsFactor kinds at read
ReadsFactor kinds at (Err (Fault i)) =
    (summing : Option Summing) (multiplying : Option Multiplying) (outer : RateOuter) → AdmitsFactor summing multiplying outer (drop at kinds) → Stops kinds at i (WantFactor summing multiplying outer)
ReadsFactor kinds at (Err Memory) = Unit {0}

-- what stands there doesn't go on with a product, and with a sum
abbrev pub EndsProduct : List Terminal → Type 0
EndsProduct rest = (¬ Begins rest (Mark Star)) × (¬ Begins rest (Mark Slash))

abbrev pub EndsSum : List Terminal → Type 0
EndsSum rest = EndsProduct rest × ((¬ Begins rest (Mark Plus)) × (¬ Begins rest (Mark Minus)))

-- the index after a `*` or `/`, if one stands at the index
abbrev pub FindsProductSign : List Terminal → ℕ → Option ℕ → Type 0
FindsProductSign kinds at answer =
    MatchOption answer (EndsProduct (drop at kinds)) (λ next. (sign : ProductSign) × IsAt kinds at next (product_sign_spelled sign))

-- the index after a `+` or `-`, if one stands at the index
abbrev pub FindsSumSign : List Terminal → ℕ → Option ℕ → Type 0
FindsSumSign kinds at answer =
    MatchOption answer ((¬ Begins (drop at kinds) (Mark Plus)) × (¬ Begins (drop at kinds) (Mark Minus)))
    (λ next. (sign : SumSign) × IsAt kinds at next (sum_sign_spelled sign))

-- two rates and the operator between them, which stands at once after the left one
abbrev pub IsOperation : RateRead → RateRead → RateRead → Type 0
IsOperation left right read =
    (rate_node_of read.tree ≡ OpAt left.next (rate_node_of left.tree) (rate_node_of right.tree)) × (read.next ≡ right.next)

pub record IsProduct (kinds : List Terminal) (at : ℕ) (read : RateRead) : Type 0 where
  pub product : Product
  pub spelled : IsSpelledFrom kinds at read.next (product_spelled product)
  pub tree : rate_node_of read.tree ≡ product_tree at product

abbrev pub ReadsProduct : List Terminal → ℕ → Result RateRead PartEnd → Type 0
ReadsProduct kinds at (Ok read) = IsProduct kinds at read × EndsProduct (drop read.next kinds)
ReadsProduct kinds at (Err (Fault i)) =
    (summing : Option Summing) (outer : RateOuter) → AdmitsFactor summing None outer (drop at kinds) → Stops kinds at i (WantFactor summing None outer)
ReadsProduct kinds at (Err Memory) = Unit {0}

pub record IsSum (kinds : List Terminal) (at : ℕ) (read : RateRead) : Type 0 where
  pub sum : Sum
  pub spelled : IsSpelledFrom kinds at read.next (sum_spelled sum)
  pub tree : rate_node_of read.tree ≡ sum_tree at sum

abbrev pub ReadsSum : List Terminal → ℕ → Result RateRead PartEnd → Type 0
ReadsSum kinds at (Ok read) = IsSum kinds at read × EndsSum (drop read.next kinds)
ReadsSum kinds at (Err (Fault i)) =
    (outer : RateOuter) → AdmitsFactor None None outer (drop at kinds) → Stops kinds at i (WantFactor None None outer)
ReadsSum kinds at (Err Memory) = Unit {0}

abbrev pub EndsRate : Rate → List Terminal → Type 0
EndsRate (Computed sum) rest = EndsSum rest
EndsRate _ rest = Unit {0}

pub record IsRate (kinds : List Terminal) (at : ℕ) (read : RateRead) : Type 0 where
  pub rate : Rate
  pub spelled : IsSpelledFrom kinds at read.next (rate_spelled rate)
  pub tree : rate_node_of read.tree ≡ rate_tree at rate
  pub ends : EndsRate rate (drop read.next kinds)

abbrev pub ReadsRate : List Terminal → ℕ → Result RateRead PartEnd → Type 0
ReadsRate kinds at (Ok read) = IsRate kinds at read
ReadsRate kinds at (Err (Fault i)) = (place : RatePlace) → Stops kinds at i (WantFactor None None (Whole place))
ReadsRate kinds at (Err Memory) = Unit {0}

-- ---- sets

-- the sign that closes a set
abbrev pub closing_of : SetPlace → Terminal
closing_of (OfCooperation process outer) = Mark Greater
closing_of (OfHiding hidden chosen joining outer) = Mark ClosingBrace

pub record AreWords (kinds : List Terminal) (at : ℕ) (close : Terminal) (read : WordsRead) : Type 0 where
  pub words : List Word
  pub spelled : IsSpelledFrom kinds at read.next (words_spelled words ++ close ∷ [])
  pub set : read.set ≡ word_indices at words

abbrev pub ReadsSet : List Terminal → ℕ → Terminal → Result WordsRead PartEnd → Type 0
ReadsSet kinds at close (Ok read) = AreWords kinds at close read
ReadsSet kinds at close (Err (Fault i)) = (place : SetPlace) → closing_of place ≡ close → Stops kinds at i (AtSet place)
ReadsSet kinds at close (Err Memory) = Unit {0}

pub record IsCooperation (kinds : List Terminal) (at : ℕ) (read : WordsRead) : Type 0 where
  pub coop : Cooperation
  pub spelled : IsSpelledFrom kinds at read.next (cooperation_spelled coop)
  pub set : read.set ≡ cooperation_indices at coop

abbrev pub NoCooperation : List Terminal → Type 0
NoCooperation rest = (¬ Begins rest (Mark Or)) × (¬ Begins rest (Mark Less))

abbrev pub ReadsCooperation : List Terminal → ℕ → Result (Option WordsRead) PartEnd → Type 0
ReadsCooperation kinds at (Ok None) = NoCooperation (drop at kinds)
ReadsCooperation kinds at (Ok (Some read)) = IsCooperation kinds at read
ReadsCooperation kinds at (Err (Fault i)) = (process : Process) (outer : Outer) → Stops kinds at i (behind_process process outer)
ReadsCooperation kinds at (Err Memory) = Unit {0}

-- ---- processes

-- "(" word "," rate ")" "."
abbrev pub activity_spelled : Word → Rate → List Terminal
activity_spelled word rate = Mark Opening ∷ word_spelled word ∷ Mark Comma ∷ (rate_spelled rate ++ Mark Closing ∷ Mark Dot ∷ [])

pub record IsActivity (kinds : List Terminal) (at : ℕ) (read : ActivityRead) : Type 0 where
  pub word : Word
  pub rate : Rate
  pub spelled : IsSpelledFrom kinds at read.next (activity_spelled word rate)
  pub tree : rate_node_of read.rate ≡ rate_tree (at + 3) rate

abbrev pub ReadsActivity : List Terminal → ℕ → Result ActivityRead PartEnd → Type 0
ReadsActivity kinds at (Ok read) = IsActivity kinds at read
ReadsActivity kinds at (Err (Fault i)) =
    (pending : List Pending) (chosen : ChosenSoFar) (joining : Option Joining) (outer : Outer) → Stops kinds at i (Want pending chosen joining outer)
ReadsActivity kinds at (Err Memory) = Unit {0}

-- an activity at the index, and what follows it
abbrev pub IsPerforming : ℕ → RateTree → ProcessRead → ProcessRead → Type 0
IsPerforming at rate rest read =
    (process_node_of read.tree ≡ PrefixAt at (rate_node_of rate) (process_node_of rest.tree)) × (read.next ≡ rest.next)

-- a process with the words of a hiding after it
abbrev pub IsHidingOf : ProcessRead → WordsRead → ProcessRead → Type 0
IsHidingOf inner words read =
    (process_node_of read.tree ≡ HideOf (process_node_of inner.tree) words.set) × (read.next ≡ words.next)

-- the choice between two processes
abbrev pub IsChoiceRead : ProcessRead → ProcessRead → ProcessRead → Type 0
IsChoiceRead left right read =
    (process_node_of read.tree ≡ ChoiceOf (process_node_of left.tree) (process_node_of right.tree)) × (read.next ≡ right.next)

-- the cooperation of two processes, whose sign stands at once after the left one
abbrev pub IsCooperating : ProcessRead → List ℕ → ProcessRead → ProcessRead → Type 0
IsCooperating left set right read =
    (process_node_of read.tree ≡ CoopAt left.next (process_node_of left.tree) (process_node_of right.tree) set)
    × (read.next ≡ right.next)

-- where the start of an item or of an activity may stand in a prefix's place, it doesn't
abbrev pub AdmitsPrefix : List Pending → ChosenSoFar → Option Joining → Outer → List Terminal → Type 0
AdmitsPrefix [] None None InSystem rest = NoSmall rest
AdmitsPrefix [] None None (InBrackets pending chosen joining outer) rest = NoWord rest
AdmitsPrefix _ _ _ _ rest = Unit {0}

pub record IsPrefix (kinds : List Terminal) (at : ℕ) (read : ProcessRead) : Type 0 where
  pub prefix : Prefix
  pub spelled : IsSpelledFrom kinds at read.next (prefix_spelled prefix)
  pub tree : process_node_of read.tree ≡ prefix_tree at prefix

abbrev pub ReadsPrefix : List Terminal → ℕ → Result ProcessRead PartEnd → Type 0
ReadsPrefix kinds at (Ok read) = IsPrefix kinds at read
ReadsPrefix kinds at (Err (Fault i)) =
    (pending : List Pending) (chosen : ChosenSoFar) (joining : Option Joining) (outer : Outer) → AdmitsPrefix pending chosen joining outer (drop at kinds) → Stops kinds at i (Want pending chosen joining outer)
ReadsPrefix kinds at (Err Memory) = Unit {0}

pub record IsHidden (kinds : List Terminal) (at : ℕ) (read : ProcessRead) : Type 0 where
  pub hidden : Hidden
  pub spelled : IsSpelledFrom kinds at read.next (hidden_spelled hidden)
  pub tree : process_node_of read.tree ≡ hidden_tree at hidden

abbrev pub EndsHidden : List Terminal → Type 0
EndsHidden rest = ¬ Begins rest (Mark Slash)

abbrev pub ReadsHidden : List Terminal → ℕ → Result ProcessRead PartEnd → Type 0
ReadsHidden kinds at (Ok read) = IsHidden kinds at read × EndsHidden (drop read.next kinds)
ReadsHidden kinds at (Err (Fault i)) =
    (chosen : ChosenSoFar) (joining : Option Joining) (outer : Outer) → AdmitsPrefix [] chosen joining outer (drop at kinds) → Stops kinds at i (Want [] chosen joining outer)
ReadsHidden kinds at (Err Memory) = Unit {0}

pub record IsChoice (kinds : List Terminal) (at : ℕ) (read : ProcessRead) : Type 0 where
  pub choice : Choice
  pub spelled : IsSpelledFrom kinds at read.next (choice_spelled choice)
  pub tree : process_node_of read.tree ≡ choice_tree at choice

abbrev pub EndsChoice : List Terminal → Type 0
EndsChoice rest = EndsHidden rest × (¬ Begins rest (Mark Plus))

abbrev pub ReadsChoice : List Terminal → ℕ → Result ProcessRead PartEnd → Type 0
ReadsChoice kinds at (Ok read) = IsChoice kinds at read × EndsChoice (drop read.next kinds)
ReadsChoice kinds at (Err (Fault i)) =
    (joining : Option Joining) (outer : Outer) → AdmitsPrefix [] None joining outer (drop at kinds) → Stops kinds at i (Want [] None joining outer)
ReadsChoice kinds at (Err Memory) = Unit {0}

pub record IsProcess (kinds : List Terminal) (at : ℕ) (read : ProcessRead) : Type 0 where
  pub process : Process
  pub spelled : IsSpelledFrom kinds at read.next (process_spelled process)
  pub tree : process_node_of read.tree ≡ process_tree at process

abbrev pub EndsProcess : List Terminal → Type 0
EndsProcess rest = EndsChoice rest × NoCooperation rest

abbrev pub ReadsProcess : List Terminal → ℕ → Result ProcessRead PartEnd → Type 0
ReadsProcess kinds at (Ok read) = IsProcess kinds at read × EndsProcess (drop read.next kinds)
ReadsProcess kinds at (Err (Fault i)) =
    (outer : Outer) → AdmitsPrefix [] None None outer (drop at kinds) → Stops kinds at i (Want [] None None outer)
ReadsProcess kinds at (Err Memory) = Unit {0}
