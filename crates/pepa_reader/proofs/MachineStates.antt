-- The states that the machine comes to from its start. Two forms are never met: behind a word of a set, or behind a comma, with
-- no word read.
use Rattle.std.proofs.Common.{◌≡◌, List, [], ◌∷◌, ◌++◌, Option, Some, None, subst}
use Rattle.pepa_lexer.specs.declared.kinds.Sign.TheVariants.{Equals, Semicolon, Opening, Closing, Comma, Dot, Plus, Minus, Star, Slash, Less, Greater, Or, OpeningBrace, ClosingBrace, DoubleColon}
use Rattle.token_grammar.specs.declared.terminal.Terminal.{Terminal}
use Rattle.token_grammar.specs.declared.terminal.Terminal.TheVariants.{Small, Probe, Tau, Capital, Top, Mark, End}
use Rattle.token_grammar.specs.SmallNames.{Plain, Probing}
use Rattle.pepa_reader.specs.Grammar.{Word, Named, Internal, ProductSign, Multiplied, Sum, Product, OneFactor, Factor, Amount, Rate, Computed, Process, Hidden, OnePrefix, Prefix, Activity, Constant, Grouped, ProbeTarget, Overall}
use Rattle.probe_reader.specs.ProbeMachine.{ProbeState, AfterPart, Outermost, probe_step, probe_start}
use Rattle.pepa_reader.specs.Machine.{Pending, ChosenSoFar, Joining, Outer, InLine, InSystem, InBrackets, RatePlace, OfLine, OfActivity, Summing, Multiplying, RateOuter, Whole, InRateBrackets, SetPlace, OfCooperation, OfHiding, ParserState, Want, After, WantEquals, WantComma, WantFactor, AfterFactor, AfterTop, WantDot, WantBrace, AtSet, AfterWord, WantWord, whole_process, whole_sum, after, starts, want_step, names_line, closes, after_step, weighted_step, want_factor_step, closes_rate, closes_sum, after_factor_step, closes_set, WantColons, InProbe, closes_probe, probe_goes_on_or, in_probe_step, after_probe_step, step}

-- behind a word of a set, or a comma, at least one word has been read; the machine comes to no other states
abbrev pub HasWord : List Word → Type 0
HasWord [] = ⊥
HasWord (word ∷ words) = Unit {0}

abbrev pub IsMet : ParserState → Type 0
IsMet (AfterWord place words) = HasWord words
IsMet (WantWord place words) = HasWord words
IsMet _ = Unit {0}

abbrev IsMetIf : Option ParserState → Type 0
IsMetIf None = Unit {0}
IsMetIf (Some state) = IsMet state

-- behind a prefix; likewise for each kind of step below
after_met : (pending : List Pending) (prefix : Prefix) (chosen : ChosenSoFar) (joining : Option Joining) (outer : Outer) → IsMet (after pending prefix chosen joining outer)
after_met [] prefix chosen joining outer = tt
after_met (pending ∷ more) prefix chosen joining outer = after_met more (Activity pending.word pending.rate prefix) chosen joining outer

starts_met : (pending : List Pending) (chosen : ChosenSoFar) (joining : Option Joining) (outer : Outer) (word : Word) → IsMetIf (starts pending chosen joining outer word)
starts_met [] None None InSystem (Named name) = tt
starts_met [] None None (InBrackets pending chosen joining outer) word = tt
starts_met _ _ _ _ _ = tt

want_met : (pending : List Pending) (chosen : ChosenSoFar) (joining : Option Joining) (outer : Outer) (terminal : Terminal) → IsMetIf (want_step pending chosen joining outer terminal)
want_met pending chosen joining outer Capital = after_met pending Constant chosen joining outer
want_met pending chosen joining outer Small = starts_met pending chosen joining outer (Named Plain)
want_met pending chosen joining outer Probe = starts_met pending chosen joining outer (Named Probing)
want_met pending chosen joining outer Tau = starts_met pending chosen joining outer Internal
want_met pending chosen joining outer (Mark Opening) = tt
want_met pending chosen joining outer _ = tt

names_line_met : (hidden : Hidden) (chosen : ChosenSoFar) (joining : Option Joining) (outer : Outer) → IsMetIf (names_line hidden chosen joining outer)
names_line_met (OnePrefix Constant) None None InSystem = tt
names_line_met _ _ _ _ = tt

closes_met : (process : Process) (outer : Outer) (terminal : Terminal) → IsMetIf (closes process outer terminal)
closes_met process InLine (Mark Semicolon) = tt
closes_met process InSystem (Mark Semicolon) = tt
closes_met process (InBrackets pending chosen joining outer) (Mark Closing) = after_met pending (Grouped process) chosen joining outer
closes_met process InSystem End = tt
closes_met process _ _ = tt

after_step_met : (hidden : Hidden) (chosen : ChosenSoFar) (joining : Option Joining) (outer : Outer) (terminal : Terminal) → IsMetIf (after_step hidden chosen joining outer terminal)
after_step_met hidden chosen joining outer (Mark Slash) = tt
after_step_met hidden chosen joining outer (Mark Plus) = tt
after_step_met hidden chosen joining outer (Mark Or) = tt
after_step_met hidden chosen joining outer (Mark Less) = tt
after_step_met hidden chosen joining outer (Mark Equals) = names_line_met hidden chosen joining outer
after_step_met hidden chosen joining outer terminal = closes_met (whole_process joining chosen hidden) outer terminal

weighted_met : (product : Product) (sign : ProductSign) (place : RatePlace) → IsMetIf (weighted_step product sign place)
weighted_met (OneFactor Amount) Multiplied place = tt
weighted_met _ _ _ = tt

want_factor_met : (summing : Option Summing) (multiplying : Option Multiplying) (outer : RateOuter) (terminal : Terminal) → IsMetIf (want_factor_step summing multiplying outer terminal)
want_factor_met None None (Whole place) Top = tt
want_factor_met None (Some multiplying) (Whole place) Top = weighted_met multiplying.product multiplying.sign place
want_factor_met _ _ _ (Mark Opening) = tt
want_factor_met _ _ _ _ = tt

closes_rate_met : (rate : Rate) (place : RatePlace) (terminal : Terminal) → IsMetIf (closes_rate rate place terminal)
closes_rate_met rate (OfLine name) (Mark Semicolon) = tt
closes_rate_met rate (OfActivity word pending chosen joining outer) (Mark Closing) = tt
closes_rate_met rate _ _ = tt

closes_sum_met : (sum : Sum) (outer : RateOuter) (terminal : Terminal) → IsMetIf (closes_sum sum outer terminal)
closes_sum_met sum (Whole place) terminal = closes_rate_met (Computed sum) place terminal
closes_sum_met sum (InRateBrackets summing multiplying outer) (Mark Closing) = tt
closes_sum_met sum _ _ = tt

after_factor_met : (factor : Factor) (summing : Option Summing) (multiplying : Option Multiplying) (outer : RateOuter) (terminal : Terminal) → IsMetIf (after_factor_step factor summing multiplying outer terminal)
after_factor_met factor summing multiplying outer (Mark Star) = tt
after_factor_met factor summing multiplying outer (Mark Slash) = tt
after_factor_met factor summing multiplying outer (Mark Plus) = tt
after_factor_met factor summing multiplying outer (Mark Minus) = tt
after_factor_met factor summing multiplying outer terminal = closes_sum_met (whole_sum summing multiplying factor) outer terminal

closes_set_met : (place : SetPlace) (words : List Word) (terminal : Terminal) → IsMetIf (closes_set place words terminal)
closes_set_met (OfCooperation process outer) words (Mark Greater) = tt
closes_set_met (OfHiding hidden chosen joining outer) words (Mark ClosingBrace) = tt
closes_set_met _ _ _ = tt

-- words with one more behind them are some
has_word : (words : List Word) (word : Word) → HasWord (words ++ word ∷ [])
has_word [] word = tt
has_word (first ∷ words) word = tt

-- what goes on with an expression, or closes it
goes_on_met : (target : ProbeTarget) (closed : Option ParserState) (goes : Option ProbeState) → IsMetIf closed → IsMetIf (probe_goes_on_or target closed goes)
goes_on_met target closed (Some next) met = tt
goes_on_met target closed None met = met

closes_probe_met : (target : ProbeTarget) (state : ProbeState) (terminal : Terminal) → IsMetIf (closes_probe target state terminal)
closes_probe_met target (AfterPart postfixed guards sequence alternatives Outermost) (Mark Semicolon) = tt
closes_probe_met target _ _ = tt

in_probe_met : (target : ProbeTarget) (state : ProbeState) (terminal : Terminal) → IsMetIf (in_probe_step target state terminal)
in_probe_met target state terminal = goes_on_met target (closes_probe target state terminal) (probe_step state terminal) (closes_probe_met target state terminal)

after_probe_met : (terminal : Terminal) → IsMetIf (after_probe_step terminal)
after_probe_met (Mark Equals) = tt
after_probe_met Capital = tt
after_probe_met terminal = in_probe_met Overall probe_start terminal

-- whatever step there is leads to a state that is met
step_met : (state : ParserState) (terminal : Terminal) → IsMet state → IsMetIf (step state terminal)
unfolding step
step_met (Want pending chosen joining outer) terminal met = want_met pending chosen joining outer terminal
step_met (After hidden chosen joining outer) terminal met = after_step_met hidden chosen joining outer terminal
step_met (WantFactor summing multiplying outer) terminal met = want_factor_met summing multiplying outer terminal
step_met (AfterFactor factor summing multiplying outer) terminal met = after_factor_met factor summing multiplying outer terminal
step_met (AfterTop rate place) terminal met = closes_rate_met rate place terminal
step_met (AtSet place) Small met = tt
step_met (AtSet place) Probe met = tt
step_met (AtSet place) Tau met = tt
step_met (AtSet place) terminal met = closes_set_met place [] terminal
step_met (AfterWord place words) (Mark Comma) met = met
step_met (AfterWord place words) terminal met = closes_set_met place words terminal
step_met (WantWord place words) Small met = has_word words (Named Plain)
step_met (WantWord place words) Probe met = has_word words (Named Probing)
step_met (WantWord place words) Tau met = has_word words Internal
step_met (WantEquals Plain) (Mark Equals) met = tt
step_met (WantEquals Plain) _ met = tt
step_met (WantEquals Probing) terminal met = after_probe_met terminal
step_met WantColons (Mark DoubleColon) met = tt
step_met (InProbe target state) terminal met = in_probe_met target state terminal
step_met (WantComma word pending chosen joining outer) (Mark Comma) met = tt
step_met (WantDot word rate pending chosen joining outer) (Mark Dot) met = tt
step_met (WantBrace hidden chosen joining outer) (Mark OpeningBrace) met = tt
step_met _ End met = tt
step_met _ _ met = tt

-- a step from a state that is met leads to one that is met
pub step_keeps : (state : ParserState) (terminal : Terminal) (next : ParserState) → IsMet state → step state terminal ≡ Some next → IsMet next
step_keeps state terminal next met h = subst IsMetIf h (step_met state terminal met)
