-- The grammar of files, one constructor a production, and the terminals that each production spells.
use Rattle.std.specs.Prelude.{List, [], ◌∷◌, ◌++◌}
use Rattle.std.specs.List.{flat_map}
use Rattle.pepa_lexer.specs.declared.kinds.Sign.TheVariants.{Equals, Semicolon, Opening, Closing, Comma, Dot, Plus, Minus, Star, Slash, Less, Greater, Or, OpeningBrace, ClosingBrace, DoubleColon}
use Rattle.token_grammar.specs.declared.terminal.Terminal.{Terminal}
use Rattle.token_grammar.specs.declared.terminal.Terminal.TheVariants.{Probe, Tau, Capital, Top, Number, Mark, End}
use Rattle.token_grammar.specs.SmallNames.{SmallName, small_spelled}
use Rattle.probe_reader.specs.ProbeGrammar.{Alternatives, alternatives_spelled}

-- ---- names and words

-- word := small | "tau"
pub data Word : Type 0 where
  Named : SmallName → Word
  Internal : Word

abbrev pub word_spelled : Word → Terminal
word_spelled (Named name) = small_spelled name
word_spelled Internal = Tau

-- [word ("," word)*]
abbrev pub further_words : List Word → List Terminal
further_words [] = []
further_words (word ∷ words) = Mark Comma ∷ word_spelled word ∷ further_words words

abbrev pub words_spelled : List Word → List Terminal
words_spelled [] = []
words_spelled (word ∷ words) = word_spelled word ∷ further_words words

-- ---- rates

-- "+" | "-"
pub data SumSign : Type 0 where
  Added : SumSign
  Subtracted : SumSign

-- "*" | "/"
pub data ProductSign : Type 0 where
  Multiplied : ProductSign
  Divided : ProductSign

abbrev pub sum_sign_spelled : SumSign → Terminal
sum_sign_spelled Added = Mark Plus
sum_sign_spelled Subtracted = Mark Minus

abbrev pub product_sign_spelled : ProductSign → Terminal
product_sign_spelled Multiplied = Mark Star
product_sign_spelled Divided = Mark Slash

mutual
  -- sum := product | sum ("+" | "-") product
  pub data Sum : Type 0 where
    OneProduct : Product → Sum
    Summed : Sum → SumSign → Product → Sum

  -- product := factor | product ("*" | "/") factor
  pub data Product : Type 0 where
    OneFactor : Factor → Product
    Produced : Product → ProductSign → Factor → Product

  -- factor := NUMBER | small | "(" sum ")"
  pub data Factor : Type 0 where
    Amount : Factor
    Naming : SmallName → Factor
    Bracketed : Sum → Factor

abbrev mutual
  pub sum_spelled : Sum → List Terminal
  sum_spelled (OneProduct product) = product_spelled product
  sum_spelled (Summed sum sign product) = sum_spelled sum ++ sum_sign_spelled sign ∷ product_spelled product

  pub product_spelled : Product → List Terminal
  product_spelled (OneFactor unit) = factor_spelled unit
  product_spelled (Produced product sign unit) = product_spelled product ++ product_sign_spelled sign ∷ factor_spelled unit

  pub factor_spelled : Factor → List Terminal
  factor_spelled Amount = Number ∷ []
  factor_spelled (Naming name) = small_spelled name ∷ []
  factor_spelled (Bracketed sum) = Mark Opening ∷ (sum_spelled sum ++ Mark Closing ∷ [])

-- rate := top | NUMBER "*" top | sum
pub data Rate : Type 0 where
  Passive : Rate
  Weighted : Rate
  Computed : Sum → Rate

abbrev pub rate_spelled : Rate → List Terminal
rate_spelled Passive = Top ∷ []
rate_spelled Weighted = Number ∷ Mark Star ∷ Top ∷ []
rate_spelled (Computed sum) = sum_spelled sum

-- ---- processes

-- coop := "||" | "<" [word ("," word)*] ">"
pub data Cooperation : Type 0 where
  Parallel : Cooperation
  Sharing : List Word → Cooperation

abbrev pub cooperation_spelled : Cooperation → List Terminal
cooperation_spelled Parallel = Mark Or ∷ []
cooperation_spelled (Sharing words) = Mark Less ∷ (words_spelled words ++ Mark Greater ∷ [])

mutual
  -- process := choice | process coop choice
  pub data Process : Type 0 where
    OneChoice : Choice → Process
    Cooperating : Process → Cooperation → Choice → Process

  -- choice := hidden | choice "+" hidden
  pub data Choice : Type 0 where
    OneHidden : Hidden → Choice
    Chosen : Choice → Hidden → Choice

  -- hidden := prefix | hidden "/" "{" [word ("," word)*] "}"
  pub data Hidden : Type 0 where
    OnePrefix : Prefix → Hidden
    Hiding : Hidden → List Word → Hidden

  -- prefix := "(" word "," rate ")" "." prefix | Capital | "(" process ")"
  pub data Prefix : Type 0 where
    Activity : Word → Rate → Prefix → Prefix
    Constant : Prefix
    Grouped : Process → Prefix

abbrev mutual
  pub process_spelled : Process → List Terminal
  process_spelled (OneChoice choice) = choice_spelled choice
  process_spelled (Cooperating process coop choice) = process_spelled process ++ (cooperation_spelled coop ++ choice_spelled choice)

  pub choice_spelled : Choice → List Terminal
  choice_spelled (OneHidden hidden) = hidden_spelled hidden
  choice_spelled (Chosen choice hidden) = choice_spelled choice ++ Mark Plus ∷ hidden_spelled hidden

  pub hidden_spelled : Hidden → List Terminal
  hidden_spelled (OnePrefix prefix) = prefix_spelled prefix
  hidden_spelled (Hiding hidden words) = hidden_spelled hidden ++ Mark Slash ∷ Mark OpeningBrace ∷ (words_spelled words ++ Mark ClosingBrace ∷ [])

  pub prefix_spelled : Prefix → List Terminal
  prefix_spelled (Activity word rate prefix) = Mark Opening ∷ word_spelled word ∷ Mark Comma ∷ (rate_spelled rate ++ Mark Closing ∷ Mark Dot ∷ prefix_spelled prefix)
  prefix_spelled Constant = Capital ∷ []
  prefix_spelled (Grouped process) = Mark Opening ∷ (process_spelled process ++ Mark Closing ∷ [])

-- ---- files

-- what a probe watches: nothing is written for the whole system, and Capital "::" for a constant
pub data ProbeTarget : Type 0 where
  Overall : ProbeTarget
  OnConstant : ProbeTarget

abbrev pub target_spelled : ProbeTarget → List Terminal
target_spelled Overall = []
target_spelled OnConstant = Capital ∷ Mark DoubleColon ∷ []

-- line := small "=" rate ";" | Capital "=" process ";" | "probe" [Capital "::"] alt ";"
pub data Line : Type 0 where
  RateNamed : SmallName → Rate → Line
  ProcessNamed : Process → Line
  ProbeWritten : ProbeTarget → Alternatives → Line

abbrev pub line_spelled : Line → List Terminal
line_spelled (RateNamed name rate) = small_spelled name ∷ Mark Equals ∷ (rate_spelled rate ++ Mark Semicolon ∷ [])
line_spelled (ProcessNamed process) = Capital ∷ Mark Equals ∷ (process_spelled process ++ Mark Semicolon ∷ [])
line_spelled (ProbeWritten target alternatives) = Probe ∷ (target_spelled target ++ (alternatives_spelled alternatives ++ Mark Semicolon ∷ []))

-- what stands behind the system: [";"] End
pub data Ending : Type 0 where
  Open : Ending
  Closed : Ending

abbrev pub ending_spelled : Ending → List Terminal
ending_spelled Open = End ∷ []
ending_spelled Closed = Mark Semicolon ∷ End ∷ []

-- item := line | process [";"] End
pub data Item : Type 0 where
  OneLine : Line → Item
  System : Process → Ending → Item

abbrev pub item_spelled : Item → List Terminal
item_spelled (OneLine line) = line_spelled line
item_spelled (System process ending) = process_spelled process ++ ending_spelled ending

-- file := line* process [";"] End
pub record File : Type 0 where
  pub lines : List Line
  pub system : Process
  pub ending : Ending

abbrev pub lines_spelled : List Line → List Terminal
lines_spelled lines = flat_map line_spelled lines

abbrev pub file_spelled : File → List Terminal
file_spelled file = lines_spelled file.lines ++ item_spelled (System file.system file.ending)
