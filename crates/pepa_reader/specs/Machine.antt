-- A machine that reads the terminals of one item, one by one. Its states are what has been read, so it shows which tokens
-- can follow. It is a device of the proofs: no public clause speaks of it.
use Rattle.std.specs.Prelude.{List, [], ◌∷◌, ◌++◌, Option, Some, None}
use Rattle.pepa_lexer.specs.declared.kinds.Sign.TheVariants.{Equals, Semicolon, Opening, Closing, Comma, Dot, Plus, Minus, Star, Slash, Less, Greater, Or, OpeningBrace, ClosingBrace, DoubleColon}
use Rattle.token_grammar.specs.declared.terminal.Terminal.{Terminal}
use Rattle.token_grammar.specs.declared.terminal.Terminal.TheVariants.{Small, Probe, Tau, Capital, Top, Number, Mark, End}
use Rattle.token_grammar.specs.Machines.{runs}
use Rattle.token_grammar.specs.SmallNames.{SmallName, Plain, Probing}
use Rattle.probe_reader.specs.ProbeMachine.{ProbeState, AfterPart, Outermost, whole_alternatives, probe_step, probe_start}
use Rattle.pepa_reader.specs.Grammar.{Word, Named, Internal, SumSign, Added, Subtracted, ProductSign, Multiplied, Divided, Sum, OneProduct, Summed, Product, OneFactor, Produced, Factor, Amount, Naming, Bracketed, Rate, Passive, Weighted, Computed, Cooperation, Parallel, Sharing, Process, OneChoice, Cooperating, Choice, OneHidden, Chosen, Hidden, OnePrefix, Hiding, Prefix, Activity, Constant, Grouped, RateNamed, ProcessNamed, ProbeTarget, Overall, OnConstant, ProbeWritten, Open, Closed, Item, OneLine, System}

-- ---- what has been read of the parts that are not whole yet

-- an activity that waits for what follows it
pub record Pending : Type 0 where
  pub word : Word
  pub rate : Rate

-- the left side of a `+`, which waits for its right side
abbrev pub ChosenSoFar : Type 0
ChosenSoFar = Option Choice

-- the left side of a cooperation
pub record Joining : Type 0 where
  pub process : Process
  pub coop : Cooperation

-- where a process stands: in a line, as the system, or in brackets
pub data Outer : Type 0 where
  InLine : Outer
  InSystem : Outer
  InBrackets : List Pending → ChosenSoFar → Option Joining → Outer → Outer

-- where a rate stands: in a rate line, or in an activity
pub data RatePlace : Type 0 where
  OfLine : SmallName → RatePlace
  OfActivity : Word → List Pending → ChosenSoFar → Option Joining → Outer → RatePlace

-- the left side of a `+` or `-` of rates
pub record Summing : Type 0 where
  pub sum : Sum
  pub sign : SumSign

-- the left side of a `*` or `/` of rates
pub record Multiplying : Type 0 where
  pub product : Product
  pub sign : ProductSign

-- where a sum of rates stands: as the whole rate, or in brackets
pub data RateOuter : Type 0 where
  Whole : RatePlace → RateOuter
  InRateBrackets : Option Summing → Option Multiplying → RateOuter → RateOuter

-- whose words are read
pub data SetPlace : Type 0 where
  OfCooperation : Process → Outer → SetPlace
  OfHiding : Hidden → ChosenSoFar → Option Joining → Outer → SetPlace

pub data ParserState : Type 0 where
  -- wants a prefix
  Want : List Pending → ChosenSoFar → Option Joining → Outer → ParserState
  -- behind one
  After : Hidden → ChosenSoFar → Option Joining → Outer → ParserState
  -- after the first name of a line: wants the `=` of a rate line, or, after `probe`, what a probe line goes on with
  WantEquals : SmallName → ParserState
  -- after the target of a probe line
  WantColons : ParserState
  -- in the expression of a probe line
  InProbe : ProbeTarget → ProbeState → ParserState
  -- wants the comma behind an activity's word
  WantComma : Word → List Pending → ChosenSoFar → Option Joining → Outer → ParserState
  -- wants a factor of a rate
  WantFactor : Option Summing → Option Multiplying → RateOuter → ParserState
  -- behind one
  AfterFactor : Factor → Option Summing → Option Multiplying → RateOuter → ParserState
  -- behind `infty` or `T`
  AfterTop : Rate → RatePlace → ParserState
  -- wants the point behind an activity
  WantDot : Word → Rate → List Pending → ChosenSoFar → Option Joining → Outer → ParserState
  -- wants the brace behind a `/`
  WantBrace : Hidden → ChosenSoFar → Option Joining → Outer → ParserState
  -- at the start of a set
  AtSet : SetPlace → ParserState
  -- behind a word of a set
  AfterWord : SetPlace → List Word → ParserState
  -- behind a comma of a set
  WantWord : SetPlace → List Word → ParserState
  -- behind the `;` of a system
  WantEnd : Process → ParserState
  Done : Item → ParserState

-- ---- what parts are once they are whole

abbrev pub chosen_with : ChosenSoFar → Hidden → Choice
chosen_with None hidden = OneHidden hidden
chosen_with (Some choice) hidden = Chosen choice hidden

abbrev pub joined_with : Option Joining → Choice → Process
joined_with None choice = OneChoice choice
joined_with (Some joining) choice = Cooperating joining.process joining.coop choice

abbrev pub whole_process : Option Joining → ChosenSoFar → Hidden → Process
whole_process joining chosen hidden = joined_with joining (chosen_with chosen hidden)

abbrev pub product_with : Option Multiplying → Factor → Product
product_with None factor = OneFactor factor
product_with (Some multiplying) factor = Produced multiplying.product multiplying.sign factor

abbrev pub sum_with : Option Summing → Product → Sum
sum_with None product = OneProduct product
sum_with (Some summing) product = Summed summing.sum summing.sign product

abbrev pub whole_sum : Option Summing → Option Multiplying → Factor → Sum
whole_sum summing multiplying factor = sum_with summing (product_with multiplying factor)

-- behind a prefix, which is what the pending activities waited for
abbrev pub after : List Pending → Prefix → ChosenSoFar → Option Joining → Outer → ParserState
after [] prefix chosen joining outer = After (OnePrefix prefix) chosen joining outer
after (pending ∷ more) prefix chosen joining outer = after more (Activity pending.word pending.rate prefix) chosen joining outer

-- the state behind a set
abbrev pub set_read : SetPlace → List Word → ParserState
set_read (OfCooperation process outer) words = Want [] None (Some (record { process = process; coop = Sharing words })) outer
set_read (OfHiding hidden chosen joining outer) words = After (Hiding hidden words) chosen joining outer

-- ---- steps

-- where no part of a process has been read, the start of an item or an activity can stand too
abbrev pub starts : List Pending → ChosenSoFar → Option Joining → Outer → Word → Option ParserState
starts [] None None InSystem (Named name) = Some (WantEquals name)
starts [] None None (InBrackets pending chosen joining outer) word = Some (WantComma word pending chosen joining outer)
starts _ _ _ _ _ = None

abbrev pub want_step : List Pending → ChosenSoFar → Option Joining → Outer → Terminal → Option ParserState
want_step pending chosen joining outer Capital = Some (after pending Constant chosen joining outer)
want_step pending chosen joining outer (Mark Opening) = Some (Want [] None None (InBrackets pending chosen joining outer))
want_step pending chosen joining outer Small = starts pending chosen joining outer (Named Plain)
want_step pending chosen joining outer Probe = starts pending chosen joining outer (Named Probing)
want_step pending chosen joining outer Tau = starts pending chosen joining outer Internal
want_step pending chosen joining outer _ = None

-- the first constant of an item can be the name of a line
abbrev pub names_line : Hidden → ChosenSoFar → Option Joining → Outer → Option ParserState
names_line (OnePrefix Constant) None None InSystem = Some (Want [] None None InLine)
names_line _ _ _ _ = None

-- a process is whole
abbrev pub closes : Process → Outer → Terminal → Option ParserState
closes process InLine (Mark Semicolon) = Some (Done (OneLine (ProcessNamed process)))
closes process InSystem (Mark Semicolon) = Some (WantEnd process)
closes process InSystem End = Some (Done (System process Open))
closes process (InBrackets pending chosen joining outer) (Mark Closing) = Some (after pending (Grouped process) chosen joining outer)
closes process _ _ = None

abbrev pub after_step : Hidden → ChosenSoFar → Option Joining → Outer → Terminal → Option ParserState
after_step hidden chosen joining outer (Mark Slash) = Some (WantBrace hidden chosen joining outer)
after_step hidden chosen joining outer (Mark Plus) = Some (Want [] (Some (chosen_with chosen hidden)) joining outer)
after_step hidden chosen joining outer (Mark Or) = Some (Want [] None (Some (record { process = whole_process joining chosen hidden; coop = Parallel })) outer)
after_step hidden chosen joining outer (Mark Less) = Some (AtSet (OfCooperation (whole_process joining chosen hidden) outer))
after_step hidden chosen joining outer (Mark Equals) = names_line hidden chosen joining outer
after_step hidden chosen joining outer terminal = closes (whole_process joining chosen hidden) outer terminal

-- `infty` or `T` can stand for the whole rate, or behind its weight
abbrev pub weighted_step : Product → ProductSign → RatePlace → Option ParserState
weighted_step (OneFactor Amount) Multiplied place = Some (AfterTop Weighted place)
weighted_step _ _ _ = None

abbrev pub top_step : Option Summing → Option Multiplying → RateOuter → Option ParserState
top_step None None (Whole place) = Some (AfterTop Passive place)
top_step None (Some multiplying) (Whole place) = weighted_step multiplying.product multiplying.sign place
top_step _ _ _ = None

abbrev pub want_factor_step : Option Summing → Option Multiplying → RateOuter → Terminal → Option ParserState
want_factor_step summing multiplying outer Number = Some (AfterFactor Amount summing multiplying outer)
want_factor_step summing multiplying outer Small = Some (AfterFactor (Naming Plain) summing multiplying outer)
want_factor_step summing multiplying outer Probe = Some (AfterFactor (Naming Probing) summing multiplying outer)
want_factor_step summing multiplying outer (Mark Opening) = Some (WantFactor None None (InRateBrackets summing multiplying outer))
want_factor_step summing multiplying outer Top = top_step summing multiplying outer
want_factor_step summing multiplying outer _ = None

-- a rate is whole
abbrev pub closes_rate : Rate → RatePlace → Terminal → Option ParserState
closes_rate rate (OfLine name) (Mark Semicolon) = Some (Done (OneLine (RateNamed name rate)))
closes_rate rate (OfActivity word pending chosen joining outer) (Mark Closing) = Some (WantDot word rate pending chosen joining outer)
closes_rate rate _ _ = None

-- a sum is whole
abbrev pub closes_sum : Sum → RateOuter → Terminal → Option ParserState
closes_sum sum (Whole place) terminal = closes_rate (Computed sum) place terminal
closes_sum sum (InRateBrackets summing multiplying outer) (Mark Closing) = Some (AfterFactor (Bracketed sum) summing multiplying outer)
closes_sum sum _ _ = None

abbrev pub after_factor_step : Factor → Option Summing → Option Multiplying → RateOuter → Terminal → Option ParserState
after_factor_step factor summing multiplying outer (Mark Star) = Some (WantFactor summing (Some (record { product = product_with multiplying factor; sign = Multiplied })) outer)
after_factor_step factor summing multiplying outer (Mark Slash) = Some (WantFactor summing (Some (record { product = product_with multiplying factor; sign = Divided })) outer)
after_factor_step factor summing multiplying outer (Mark Plus) = Some (WantFactor (Some (record { sum = whole_sum summing multiplying factor; sign = Added })) None outer)
after_factor_step factor summing multiplying outer (Mark Minus) = Some (WantFactor (Some (record { sum = whole_sum summing multiplying factor; sign = Subtracted })) None outer)
after_factor_step factor summing multiplying outer terminal = closes_sum (whole_sum summing multiplying factor) outer terminal

abbrev pub takes_word : SetPlace → List Word → Terminal → Option ParserState
takes_word place words Small = Some (AfterWord place (words ++ Named Plain ∷ []))
takes_word place words Probe = Some (AfterWord place (words ++ Named Probing ∷ []))
takes_word place words Tau = Some (AfterWord place (words ++ Internal ∷ []))
takes_word place words _ = None

abbrev pub closes_set : SetPlace → List Word → Terminal → Option ParserState
closes_set (OfCooperation process outer) words (Mark Greater) = Some (set_read (OfCooperation process outer) words)
closes_set (OfHiding hidden chosen joining outer) words (Mark ClosingBrace) = Some (set_read (OfHiding hidden chosen joining outer) words)
closes_set _ _ _ = None

abbrev pub at_set_step : SetPlace → Terminal → Option ParserState
at_set_step place Small = takes_word place [] Small
at_set_step place Probe = takes_word place [] Probe
at_set_step place Tau = takes_word place [] Tau
at_set_step place terminal = closes_set place [] terminal

abbrev pub after_word_step : SetPlace → List Word → Terminal → Option ParserState
after_word_step place words (Mark Comma) = Some (WantWord place words)
after_word_step place words terminal = closes_set place words terminal

abbrev pub wants_equals : ParserState → Terminal → Option ParserState
wants_equals next (Mark Equals) = Some next
wants_equals next _ = None

-- an expression is whole
abbrev pub closes_probe : ProbeTarget → ProbeState → Terminal → Option ParserState
closes_probe target (AfterPart postfixed guards sequence alternatives Outermost) (Mark Semicolon) = Some (Done (OneLine (ProbeWritten target (whole_alternatives postfixed guards sequence alternatives))))
closes_probe target _ _ = None

-- the expression goes on, or it is whole
abbrev pub probe_goes_on_or : ProbeTarget → Option ParserState → Option ProbeState → Option ParserState
probe_goes_on_or target closed (Some next) = Some (InProbe target next)
probe_goes_on_or target closed None = closed

abbrev pub in_probe_step : ProbeTarget → ProbeState → Terminal → Option ParserState
in_probe_step target state terminal = probe_goes_on_or target (closes_probe target state terminal) (probe_step state terminal)

-- after the word `probe`
abbrev pub after_probe_step : Terminal → Option ParserState
after_probe_step (Mark Equals) = Some (WantFactor None None (Whole (OfLine Probing)))
after_probe_step Capital = Some WantColons
after_probe_step terminal = in_probe_step Overall probe_start terminal

abbrev pub name_step : SmallName → Terminal → Option ParserState
name_step Plain terminal = wants_equals (WantFactor None None (Whole (OfLine Plain))) terminal
name_step Probing terminal = after_probe_step terminal

abbrev pub wants_colons : Terminal → Option ParserState
wants_colons (Mark DoubleColon) = Some (InProbe OnConstant probe_start)
wants_colons _ = None

abbrev pub wants_comma : ParserState → Terminal → Option ParserState
wants_comma next (Mark Comma) = Some next
wants_comma next _ = None

abbrev pub wants_dot : ParserState → Terminal → Option ParserState
wants_dot next (Mark Dot) = Some next
wants_dot next _ = None

abbrev pub wants_brace : ParserState → Terminal → Option ParserState
wants_brace next (Mark OpeningBrace) = Some next
wants_brace next _ = None

abbrev pub wants_end : ParserState → Terminal → Option ParserState
wants_end next End = Some next
wants_end next _ = None

-- the state behind one more terminal, if it can follow
unfoldable pub step : ParserState → Terminal → Option ParserState
step (Want pending chosen joining outer) terminal = want_step pending chosen joining outer terminal
step (After hidden chosen joining outer) terminal = after_step hidden chosen joining outer terminal
step (WantEquals name) terminal = name_step name terminal
step WantColons terminal = wants_colons terminal
step (InProbe target state) terminal = in_probe_step target state terminal
step (WantComma word pending chosen joining outer) terminal = wants_comma (WantFactor None None (Whole (OfActivity word pending chosen joining outer))) terminal
step (WantFactor summing multiplying outer) terminal = want_factor_step summing multiplying outer terminal
step (AfterFactor factor summing multiplying outer) terminal = after_factor_step factor summing multiplying outer terminal
step (AfterTop rate place) terminal = closes_rate rate place terminal
step (WantDot word rate pending chosen joining outer) terminal = wants_dot (Want (record { word = word; rate = rate } ∷ pending) chosen joining outer) terminal
step (WantBrace hidden chosen joining outer) terminal = wants_brace (AtSet (OfHiding hidden chosen joining outer)) terminal
step (AtSet place) terminal = at_set_step place terminal
step (AfterWord place words) terminal = after_word_step place words terminal
step (WantWord place words) terminal = takes_word place words terminal
step (WantEnd process) terminal = wants_end (Done (System process Closed)) terminal
step (Done item) terminal = None

-- the state behind terminals, if they can follow
abbrev pub run : ParserState → List Terminal → Option ParserState
run state terminals = runs step state terminals

-- where an item begins
abbrev pub start : ParserState
start = Want [] None None InSystem

-- the item isn't whole
abbrev pub IsUndone : ParserState → Type 0
IsUndone (Done item) = ⊥
IsUndone _ = Unit {0}

-- the states behind whole parts
abbrev pub behind_product : Product → Option Summing → RateOuter → ParserState
behind_product (OneFactor factor) summing outer = AfterFactor factor summing None outer
behind_product (Produced product sign factor) summing outer = AfterFactor factor summing (Some (record { product = product; sign = sign })) outer

abbrev pub behind_sum : Sum → RateOuter → ParserState
behind_sum (OneProduct product) outer = behind_product product None outer
behind_sum (Summed sum sign product) outer = behind_product product (Some (record { sum = sum; sign = sign })) outer

abbrev pub behind_rate : Rate → RatePlace → ParserState
behind_rate Passive place = AfterTop Passive place
behind_rate Weighted place = AfterTop Weighted place
behind_rate (Computed sum) place = behind_sum sum (Whole place)

abbrev pub behind_choice : Choice → Option Joining → Outer → ParserState
behind_choice (OneHidden hidden) joining outer = After hidden None joining outer
behind_choice (Chosen choice hidden) joining outer = After hidden (Some choice) joining outer

abbrev pub behind_process : Process → Outer → ParserState
behind_process (OneChoice choice) outer = behind_choice choice None outer
behind_process (Cooperating process coop choice) outer = behind_choice choice (Some (record { process = process; coop = coop })) outer
