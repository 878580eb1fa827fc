-- The machine reads nothing but what the grammar spells: each state says what has been read.
use Rattle.std.proofs.Common.{◌≡◌, List, [], ◌∷◌, ◌++◌, Option, Some, None, refl, ap, sym, subst, ◌∙◌, append_assoc, append-nil}
use Rattle.std.proofs.lemmas.Option.{same_Some, option_and_then_some}
use Rattle.pepa_lexer.specs.declared.kinds.Sign.TheVariants.{Equals, Semicolon, Opening, Closing, Comma, Dot, Plus, Minus, Star, Slash, Less, Greater, Or, OpeningBrace, ClosingBrace, DoubleColon}
use Rattle.token_grammar.specs.declared.terminal.Terminal.{Terminal}
use Rattle.token_grammar.specs.declared.terminal.Terminal.TheVariants.{Small, Probe, Tau, Capital, Top, Number, Mark, End}
use Rattle.token_grammar.specs.Machines.{runs}
use Rattle.token_grammar.specs.SmallNames.{Plain, Probing, small_spelled}
use Rattle.pepa_reader.specs.Grammar.{Word, Named, Internal, Added, Subtracted, ProductSign, Multiplied, Divided, Sum, Product, OneFactor, Factor, Amount, Naming, Bracketed, Rate, Passive, Weighted, Computed, Parallel, Process, Hidden, OnePrefix, Prefix, Activity, Constant, Grouped, RateNamed, ProcessNamed, ProbeTarget, Overall, OnConstant, ProbeWritten, Open, Closed, OneLine, System, target_spelled, word_spelled, further_words, words_spelled, sum_sign_spelled, product_sign_spelled, sum_spelled, product_spelled, factor_spelled, rate_spelled, cooperation_spelled, process_spelled, choice_spelled, hidden_spelled, prefix_spelled, item_spelled}
use Rattle.probe_reader.specs.ProbeMachine.{ProbeState, AfterPart, Outermost, whole_alternatives, probe_step, probe_start}
use Rattle.probe_reader.proofs.ProbeTexts.{text_of_probe, alternatives_with_text, step_reads as probe_step_reads}
use Rattle.pepa_reader.specs.Machine.{Pending, ChosenSoFar, Joining, Outer, InLine, InSystem, InBrackets, RatePlace, OfLine, OfActivity, Summing, Multiplying, RateOuter, Whole, InRateBrackets, SetPlace, OfCooperation, OfHiding, ParserState, Want, After, WantEquals, WantComma, WantFactor, AfterFactor, AfterTop, WantDot, WantBrace, AtSet, AfterWord, WantWord, WantEnd, Done, chosen_with, whole_process, product_with, whole_sum, after, set_read, starts, want_step, names_line, closes, after_step, weighted_step, top_step, want_factor_step, closes_rate, closes_sum, after_factor_step, takes_word, closes_set, at_set_step, after_word_step, WantColons, InProbe, closes_probe, probe_goes_on_or, in_probe_step, after_probe_step, step, run, start}
use Rattle.pepa_reader.proofs.MachineStates.{HasWord, IsMet, step_keeps}

-- ---- what has been read to come to a state

-- `( word ,` of an activity
abbrev pub activity_text : Word → List Terminal
activity_text word = Mark Opening ∷ word_spelled word ∷ Mark Comma ∷ []

-- `( word , rate ) .` of each pending activity; the outermost is the last of the list, and stands first
abbrev pub pending_text : List Pending → List Terminal
pending_text [] = []
pending_text (pending ∷ more) = pending_text more ++ (activity_text pending.word ++ (rate_spelled pending.rate ++ Mark Closing ∷ Mark Dot ∷ []))

-- a choice and its `+`
abbrev pub chosen_text : ChosenSoFar → List Terminal
chosen_text None = []
chosen_text (Some choice) = choice_spelled choice ++ Mark Plus ∷ []

-- a process and what joins it to the next choice
abbrev pub joining_text : Option Joining → List Terminal
joining_text None = []
joining_text (Some joining) = process_spelled joining.process ++ cooperation_spelled joining.coop

-- what stands before a process
abbrev pub outer_text : Outer → List Terminal
outer_text InLine = Capital ∷ Mark Equals ∷ []
outer_text InSystem = []
outer_text (InBrackets pending chosen joining outer) = outer_text outer ++ (joining_text joining ++ (chosen_text chosen ++ (pending_text pending ++ Mark Opening ∷ [])))

-- before a prefix, and what the prefix begins with
abbrev pub want_text : List Pending → ChosenSoFar → Option Joining → Outer → List Terminal → List Terminal
want_text pending chosen joining outer behind = outer_text outer ++ (joining_text joining ++ (chosen_text chosen ++ (pending_text pending ++ behind)))

-- a sum and its sign
abbrev pub summing_text : Option Summing → List Terminal
summing_text None = []
summing_text (Some summing) = sum_spelled summing.sum ++ sum_sign_spelled summing.sign ∷ []

-- a product and its sign
abbrev pub multiplying_text : Option Multiplying → List Terminal
multiplying_text None = []
multiplying_text (Some multiplying) = product_spelled multiplying.product ++ product_sign_spelled multiplying.sign ∷ []

-- what stands before a rate
abbrev pub place_text : RatePlace → List Terminal
place_text (OfLine name) = small_spelled name ∷ Mark Equals ∷ []
place_text (OfActivity word pending chosen joining outer) = want_text pending chosen joining outer (activity_text word)

-- what stands before a sum
abbrev pub rate_outer_text : RateOuter → List Terminal
rate_outer_text (Whole place) = place_text place
rate_outer_text (InRateBrackets summing multiplying outer) = rate_outer_text outer ++ (summing_text summing ++ (multiplying_text multiplying ++ Mark Opening ∷ []))

-- what stands before the words of a set
abbrev pub set_place_text : SetPlace → List Terminal
set_place_text (OfCooperation process outer) = outer_text outer ++ (process_spelled process ++ Mark Less ∷ [])
set_place_text (OfHiding hidden chosen joining outer) = outer_text outer ++ (joining_text joining ++ (chosen_text chosen ++ (hidden_spelled hidden ++ Mark Slash ∷ Mark OpeningBrace ∷ [])))

-- what has been read to come to the state
abbrev pub text_of_state : ParserState → List Terminal
text_of_state (Want pending chosen joining outer) = want_text pending chosen joining outer []
text_of_state (After hidden chosen joining outer) = outer_text outer ++ (joining_text joining ++ (chosen_text chosen ++ hidden_spelled hidden))
text_of_state (WantEquals name) = small_spelled name ∷ []
text_of_state WantColons = Probe ∷ Capital ∷ []
text_of_state (InProbe target state) = Probe ∷ (target_spelled target ++ text_of_probe state)
text_of_state (WantComma word pending chosen joining outer) = want_text pending chosen joining outer (Mark Opening ∷ word_spelled word ∷ [])
text_of_state (WantFactor summing multiplying outer) = rate_outer_text outer ++ (summing_text summing ++ multiplying_text multiplying)
text_of_state (AfterFactor factor summing multiplying outer) = rate_outer_text outer ++ (summing_text summing ++ (multiplying_text multiplying ++ factor_spelled factor))
text_of_state (AfterTop rate place) = place_text place ++ rate_spelled rate
text_of_state (WantDot word rate pending chosen joining outer) = want_text pending chosen joining outer (activity_text word ++ (rate_spelled rate ++ Mark Closing ∷ []))
text_of_state (WantBrace hidden chosen joining outer) = outer_text outer ++ (joining_text joining ++ (chosen_text chosen ++ (hidden_spelled hidden ++ Mark Slash ∷ [])))
text_of_state (AtSet place) = set_place_text place
text_of_state (AfterWord place words) = set_place_text place ++ words_spelled words
text_of_state (WantWord place words) = set_place_text place ++ (words_spelled words ++ Mark Comma ∷ [])
text_of_state (WantEnd process) = process_spelled process ++ Mark Semicolon ∷ []
text_of_state (Done item) = item_spelled item

-- ---- the texts of whole parts

-- a choice is what was read of it and its last part; likewise for the others below
choice_with_text : (chosen : ChosenSoFar) (hidden : Hidden) → choice_spelled (chosen_with chosen hidden) ≡ chosen_text chosen ++ hidden_spelled hidden
choice_with_text None hidden = refl
choice_with_text (Some choice) hidden = simp append_assoc

process_with_text : (joining : Option Joining) (chosen : ChosenSoFar) (hidden : Hidden) → process_spelled (whole_process joining chosen hidden) ≡ joining_text joining ++ (chosen_text chosen ++ hidden_spelled hidden)
process_with_text None chosen hidden = choice_with_text chosen hidden
process_with_text (Some joining) chosen hidden = simp (append_assoc, choice_with_text chosen hidden)

product_with_text : (multiplying : Option Multiplying) (factor : Factor) → product_spelled (product_with multiplying factor) ≡ multiplying_text multiplying ++ factor_spelled factor
product_with_text None factor = refl
product_with_text (Some multiplying) factor = simp append_assoc

sum_with_text : (summing : Option Summing) (multiplying : Option Multiplying) (factor : Factor) → sum_spelled (whole_sum summing multiplying factor) ≡ summing_text summing ++ (multiplying_text multiplying ++ factor_spelled factor)
sum_with_text None multiplying factor = product_with_text multiplying factor
sum_with_text (Some summing) multiplying factor = simp (append_assoc, product_with_text multiplying factor)

-- the pending activities take a prefix each
after_text : (pending : List Pending) (prefix : Prefix) (chosen : ChosenSoFar) (joining : Option Joining) (outer : Outer) → text_of_state (after pending prefix chosen joining outer) ≡ want_text pending chosen joining outer (prefix_spelled prefix)
after_text [] prefix chosen joining outer = refl
after_text (pending ∷ more) prefix chosen joining outer = after_text more (Activity pending.word pending.rate prefix) chosen joining outer ∙ simp append_assoc

-- one word more at the end of those behind commas
further_text : (words : List Word) (word : Word) → further_words (words ++ word ∷ []) ≡ further_words words ++ Mark Comma ∷ word_spelled word ∷ []
further_text [] word = refl
further_text (first ∷ words) word = ap (λ l. Mark Comma ∷ word_spelled first ∷ l) (further_text words word)

-- one word more at the end of some words
words_text : (words : List Word) (word : Word) → HasWord words → words_spelled (words ++ word ∷ []) ≡ words_spelled words ++ Mark Comma ∷ word_spelled word ∷ []
words_text [] word h = absurd h
words_text (first ∷ words) word h = ap (λ l. word_spelled first ∷ l) (further_text words word)

-- ---- each step reads its terminal

-- what is said of the state that a step makes holds of the state that it comes to
reads : (made next : ParserState) (text : List Terminal) → Some made ≡ Some next → text_of_state made ≡ text → text_of_state next ≡ text
reads made next text h e = subst (λ state. text_of_state state ≡ text) (same_Some made next h) e

-- the start of a rate line or of an activity
starts_reads : (pending : List Pending) (chosen : ChosenSoFar) (joining : Option Joining) (outer : Outer) (word : Word) (next : ParserState) → starts pending chosen joining outer word ≡ Some next → text_of_state next ≡ want_text pending chosen joining outer [] ++ word_spelled word ∷ []
starts_reads [] None None InSystem (Named name) next h = reads (WantEquals name) next _ h refl
starts_reads [] None None (InBrackets pending chosen joining outer) word next h = reads (WantComma word pending chosen joining outer) next _ h (simp (append_assoc, append-nil))
starts_reads _ _ _ _ _ next h = cc

-- the start of a prefix
want_reads : (pending : List Pending) (chosen : ChosenSoFar) (joining : Option Joining) (outer : Outer) (terminal : Terminal) (next : ParserState) → want_step pending chosen joining outer terminal ≡ Some next → text_of_state next ≡ want_text pending chosen joining outer [] ++ terminal ∷ []
want_reads pending chosen joining outer Capital next h = reads (after pending Constant chosen joining outer) next _ h (after_text pending Constant chosen joining outer ∙ simp append_assoc)
want_reads pending chosen joining outer (Mark Opening) next h = reads (Want [] None None (InBrackets pending chosen joining outer)) next _ h (simp (append_assoc, append-nil))
want_reads pending chosen joining outer Small next h = starts_reads pending chosen joining outer (Named Plain) next h
want_reads pending chosen joining outer Probe next h = starts_reads pending chosen joining outer (Named Probing) next h
want_reads pending chosen joining outer Tau next h = starts_reads pending chosen joining outer Internal next h
want_reads pending chosen joining outer _ next h = cc

-- the `=` of a process line
names_line_reads : (hidden : Hidden) (chosen : ChosenSoFar) (joining : Option Joining) (outer : Outer) (next : ParserState) → names_line hidden chosen joining outer ≡ Some next → text_of_state next ≡ text_of_state (After hidden chosen joining outer) ++ Mark Equals ∷ []
names_line_reads (OnePrefix Constant) None None InSystem next h = reads (Want [] None None InLine) next _ h refl
names_line_reads _ _ _ _ next h = cc

-- what closes a process
closes_reads : (process : Process) (outer : Outer) (terminal : Terminal) (next : ParserState) → closes process outer terminal ≡ Some next → text_of_state next ≡ outer_text outer ++ (process_spelled process ++ terminal ∷ [])
closes_reads process InLine (Mark Semicolon) next h = reads (Done (OneLine (ProcessNamed process))) next _ h refl
closes_reads process InSystem (Mark Semicolon) next h = reads (WantEnd process) next _ h refl
closes_reads process InSystem End next h = reads (Done (System process Open)) next _ h refl
closes_reads process (InBrackets pending chosen joining outer) (Mark Closing) next h = reads (after pending (Grouped process) chosen joining outer) next _ h (after_text pending (Grouped process) chosen joining outer ∙ simp append_assoc)
closes_reads process _ _ next h = cc

-- behind a whole process stands what the state behind it shows
behind_text : (hidden : Hidden) (chosen : ChosenSoFar) (joining : Option Joining) (outer : Outer) (behind : List Terminal) → outer_text outer ++ (process_spelled (whole_process joining chosen hidden) ++ behind) ≡ text_of_state (After hidden chosen joining outer) ++ behind
behind_text hidden chosen joining outer behind = simp (append_assoc, process_with_text joining chosen hidden)

-- what stands behind a prefix
after_reads : (hidden : Hidden) (chosen : ChosenSoFar) (joining : Option Joining) (outer : Outer) (terminal : Terminal) (next : ParserState) → after_step hidden chosen joining outer terminal ≡ Some next → text_of_state next ≡ text_of_state (After hidden chosen joining outer) ++ terminal ∷ []
after_reads hidden chosen joining outer (Mark Slash) next h = reads (WantBrace hidden chosen joining outer) next _ h (simp append_assoc)
after_reads hidden chosen joining outer (Mark Plus) next h = reads (Want [] (Some (chosen_with chosen hidden)) joining outer) next _ h (simp (append_assoc, append-nil, choice_with_text chosen hidden))
after_reads hidden chosen joining outer (Mark Or) next h = reads (Want [] None (Some (record { process = whole_process joining chosen hidden; coop = Parallel })) outer) next _ h (simp (append_assoc, append-nil, process_with_text joining chosen hidden))
after_reads hidden chosen joining outer (Mark Less) next h = reads (AtSet (OfCooperation (whole_process joining chosen hidden) outer)) next _ h (behind_text hidden chosen joining outer (Mark Less ∷ []))
after_reads hidden chosen joining outer (Mark Equals) next h = names_line_reads hidden chosen joining outer next h
after_reads hidden chosen joining outer terminal next h = closes_reads (whole_process joining chosen hidden) outer terminal next h ∙ behind_text hidden chosen joining outer (terminal ∷ [])

-- `infty` behind its weight
weighted_reads : (multiplying : Multiplying) (place : RatePlace) (next : ParserState) → weighted_step multiplying.product multiplying.sign place ≡ Some next → text_of_state next ≡ place_text place ++ (multiplying_text (Some multiplying) ++ Top ∷ [])
weighted_reads multiplying place next h = go multiplying.product multiplying.sign h
  where
    go : (product : Product) (sign : ProductSign) → weighted_step product sign place ≡ Some next → text_of_state next ≡ place_text place ++ ((product_spelled product ++ product_sign_spelled sign ∷ []) ++ Top ∷ [])
    go (OneFactor Amount) Multiplied h' = reads (AfterTop Weighted place) next _ h' refl
    go _ _ h' = cc

-- `infty` for a whole rate, or behind its weight
top_reads : (summing : Option Summing) (multiplying : Option Multiplying) (outer : RateOuter) (next : ParserState) → top_step summing multiplying outer ≡ Some next → text_of_state next ≡ text_of_state (WantFactor summing multiplying outer) ++ Top ∷ []
top_reads None None (Whole place) next h = reads (AfterTop Passive place) next _ h (simp append-nil)
top_reads None (Some multiplying) (Whole place) next h = weighted_reads multiplying place next h ∙ simp append_assoc
top_reads _ _ _ next h = cc

-- the start of a factor
want_factor_reads : (summing : Option Summing) (multiplying : Option Multiplying) (outer : RateOuter) (terminal : Terminal) (next : ParserState) → want_factor_step summing multiplying outer terminal ≡ Some next → text_of_state next ≡ text_of_state (WantFactor summing multiplying outer) ++ terminal ∷ []
want_factor_reads summing multiplying outer Number next h = reads (AfterFactor Amount summing multiplying outer) next _ h (simp append_assoc)
want_factor_reads summing multiplying outer Small next h = reads (AfterFactor (Naming Plain) summing multiplying outer) next _ h (simp append_assoc)
want_factor_reads summing multiplying outer Probe next h = reads (AfterFactor (Naming Probing) summing multiplying outer) next _ h (simp append_assoc)
want_factor_reads summing multiplying outer (Mark Opening) next h = reads (WantFactor None None (InRateBrackets summing multiplying outer)) next _ h (simp (append_assoc, append-nil))
want_factor_reads summing multiplying outer Top next h = top_reads summing multiplying outer next h
want_factor_reads summing multiplying outer _ next h = cc

-- what closes a rate
closes_rate_reads : (rate : Rate) (place : RatePlace) (terminal : Terminal) (next : ParserState) → closes_rate rate place terminal ≡ Some next → text_of_state next ≡ place_text place ++ (rate_spelled rate ++ terminal ∷ [])
closes_rate_reads rate (OfLine name) (Mark Semicolon) next h = reads (Done (OneLine (RateNamed name rate))) next _ h refl
closes_rate_reads rate (OfActivity word pending chosen joining outer) (Mark Closing) next h = reads (WantDot word rate pending chosen joining outer) next _ h (simp append_assoc)
closes_rate_reads rate _ _ next h = cc

-- what closes a sum
closes_sum_reads : (sum : Sum) (outer : RateOuter) (terminal : Terminal) (next : ParserState) → closes_sum sum outer terminal ≡ Some next → text_of_state next ≡ rate_outer_text outer ++ (sum_spelled sum ++ terminal ∷ [])
closes_sum_reads sum (Whole place) terminal next h = closes_rate_reads (Computed sum) place terminal next h
closes_sum_reads sum (InRateBrackets summing multiplying outer) (Mark Closing) next h = reads (AfterFactor (Bracketed sum) summing multiplying outer) next _ h (simp append_assoc)
closes_sum_reads sum _ _ next h = cc

-- behind a whole sum stands what the state behind it shows
behind_sum_text : (factor : Factor) (summing : Option Summing) (multiplying : Option Multiplying) (outer : RateOuter) (behind : List Terminal) → rate_outer_text outer ++ (sum_spelled (whole_sum summing multiplying factor) ++ behind) ≡ text_of_state (AfterFactor factor summing multiplying outer) ++ behind
behind_sum_text factor summing multiplying outer behind = simp (append_assoc, sum_with_text summing multiplying factor)

-- what stands behind a factor
after_factor_reads : (factor : Factor) (summing : Option Summing) (multiplying : Option Multiplying) (outer : RateOuter) (terminal : Terminal) (next : ParserState) → after_factor_step factor summing multiplying outer terminal ≡ Some next → text_of_state next ≡ text_of_state (AfterFactor factor summing multiplying outer) ++ terminal ∷ []
after_factor_reads factor summing multiplying outer (Mark Star) next h = reads (WantFactor summing (Some (record { product = product_with multiplying factor; sign = Multiplied })) outer) next _ h (simp (append_assoc, product_with_text multiplying factor))
after_factor_reads factor summing multiplying outer (Mark Slash) next h = reads (WantFactor summing (Some (record { product = product_with multiplying factor; sign = Divided })) outer) next _ h (simp (append_assoc, product_with_text multiplying factor))
after_factor_reads factor summing multiplying outer (Mark Plus) next h = reads (WantFactor (Some (record { sum = whole_sum summing multiplying factor; sign = Added })) None outer) next _ h (simp (append_assoc, append-nil, sum_with_text summing multiplying factor))
after_factor_reads factor summing multiplying outer (Mark Minus) next h = reads (WantFactor (Some (record { sum = whole_sum summing multiplying factor; sign = Subtracted })) None outer) next _ h (simp (append_assoc, append-nil, sum_with_text summing multiplying factor))
after_factor_reads factor summing multiplying outer terminal next h = closes_sum_reads (whole_sum summing multiplying factor) outer terminal next h ∙ behind_sum_text factor summing multiplying outer (terminal ∷ [])

-- what closes a set
closes_set_reads : (place : SetPlace) (words : List Word) (terminal : Terminal) (next : ParserState) → closes_set place words terminal ≡ Some next → text_of_state next ≡ set_place_text place ++ (words_spelled words ++ terminal ∷ [])
closes_set_reads (OfCooperation process outer) words (Mark Greater) next h = reads (set_read (OfCooperation process outer) words) next _ h (simp (append_assoc, append-nil))
closes_set_reads (OfHiding hidden chosen joining outer) words (Mark ClosingBrace) next h = reads (set_read (OfHiding hidden chosen joining outer) words) next _ h (simp append_assoc)
closes_set_reads _ words _ next h = cc

-- a word behind a comma
takes_word_reads : (place : SetPlace) (words : List Word) (terminal : Terminal) (next : ParserState) → HasWord words → takes_word place words terminal ≡ Some next → text_of_state next ≡ text_of_state (WantWord place words) ++ terminal ∷ []
takes_word_reads place words Small next some h = reads (AfterWord place (words ++ Named Plain ∷ [])) next _ h (simp (append_assoc, words_text words (Named Plain) some))
takes_word_reads place words Probe next some h = reads (AfterWord place (words ++ Named Probing ∷ [])) next _ h (simp (append_assoc, words_text words (Named Probing) some))
takes_word_reads place words Tau next some h = reads (AfterWord place (words ++ Internal ∷ [])) next _ h (simp (append_assoc, words_text words Internal some))
takes_word_reads place words _ next some h = cc

-- the first word of a set, or its end
at_set_reads : (place : SetPlace) (terminal : Terminal) (next : ParserState) → at_set_step place terminal ≡ Some next → text_of_state next ≡ set_place_text place ++ terminal ∷ []
at_set_reads place Small next h = reads (AfterWord place (Named Plain ∷ [])) next _ h refl
at_set_reads place Probe next h = reads (AfterWord place (Named Probing ∷ [])) next _ h refl
at_set_reads place Tau next h = reads (AfterWord place (Internal ∷ [])) next _ h refl
at_set_reads place terminal next h = closes_set_reads place [] terminal next h

-- a comma, or what closes the set
after_word_reads : (place : SetPlace) (words : List Word) (terminal : Terminal) (next : ParserState) → after_word_step place words terminal ≡ Some next → text_of_state next ≡ text_of_state (AfterWord place words) ++ terminal ∷ []
after_word_reads place words (Mark Comma) next h = reads (WantWord place words) next _ h (simp append_assoc)
after_word_reads place words terminal next h = closes_set_reads place words terminal next h ∙ simp append_assoc

-- what closes an expression
closes_probe_reads : (target : ProbeTarget) (state : ProbeState) (terminal : Terminal) (next : ParserState) → closes_probe target state terminal ≡ Some next → text_of_state next ≡ text_of_state (InProbe target state) ++ terminal ∷ []
closes_probe_reads target (AfterPart postfixed guards sequence alternatives Outermost) (Mark Semicolon) next h = reads (Done (OneLine (ProbeWritten target (whole_alternatives postfixed guards sequence alternatives)))) next _ h (simp (append_assoc, alternatives_with_text postfixed guards sequence alternatives))
closes_probe_reads target _ _ next h = cc

-- what goes on with it, or closes it
in_probe_reads : (target : ProbeTarget) (state : ProbeState) (terminal : Terminal) (next : ParserState) → in_probe_step target state terminal ≡ Some next → text_of_state next ≡ text_of_state (InProbe target state) ++ terminal ∷ []
in_probe_reads target state terminal next h = by_step (probe_step state terminal) refl h
  where
    by_step : (goes : Option ProbeState) → probe_step state terminal ≡ goes → probe_goes_on_or target (closes_probe target state terminal) goes ≡ Some next → text_of_state next ≡ text_of_state (InProbe target state) ++ terminal ∷ []
    by_step (Some more) made h' = reads (InProbe target more) next _ h' (ap (λ l. Probe ∷ (target_spelled target ++ l)) (probe_step_reads state terminal more made) ∙ simp append_assoc)
    by_step None made h' = closes_probe_reads target state terminal next h'

-- after the word `probe`
after_probe_reads : (terminal : Terminal) (next : ParserState) → after_probe_step terminal ≡ Some next → text_of_state next ≡ Probe ∷ terminal ∷ []
after_probe_reads (Mark Equals) next h = reads (WantFactor None None (Whole (OfLine Probing))) next _ h refl
after_probe_reads Capital next h = reads WantColons next _ h refl
after_probe_reads terminal next h = in_probe_reads Overall probe_start terminal next h

-- a step adds its terminal to what has been read
pub step_reads : (state : ParserState) (terminal : Terminal) (next : ParserState) → IsMet state → step state terminal ≡ Some next → text_of_state next ≡ text_of_state state ++ terminal ∷ []
unfolding step
step_reads (Want pending chosen joining outer) terminal next met h = want_reads pending chosen joining outer terminal next h
step_reads (After hidden chosen joining outer) terminal next met h = after_reads hidden chosen joining outer terminal next h
step_reads (WantEquals Plain) (Mark Equals) next met h = reads (WantFactor None None (Whole (OfLine Plain))) next _ h refl
step_reads (WantEquals Plain) _ next met h = cc
step_reads (WantEquals Probing) terminal next met h = after_probe_reads terminal next h
step_reads WantColons (Mark DoubleColon) next met h = reads (InProbe OnConstant probe_start) next _ h refl
step_reads (InProbe target state) terminal next met h = in_probe_reads target state terminal next h
step_reads (WantComma word pending chosen joining outer) (Mark Comma) next met h = reads (WantFactor None None (Whole (OfActivity word pending chosen joining outer))) next _ h (simp (append_assoc, append-nil))
step_reads (WantFactor summing multiplying outer) terminal next met h = want_factor_reads summing multiplying outer terminal next h
step_reads (AfterFactor factor summing multiplying outer) terminal next met h = after_factor_reads factor summing multiplying outer terminal next h
step_reads (AfterTop rate place) terminal next met h = closes_rate_reads rate place terminal next h ∙ simp append_assoc
step_reads (WantDot word rate pending chosen joining outer) (Mark Dot) next met h = reads (Want (record { word = word; rate = rate } ∷ pending) chosen joining outer) next _ h (simp (append_assoc, append-nil))
step_reads (WantBrace hidden chosen joining outer) (Mark OpeningBrace) next met h = reads (AtSet (OfHiding hidden chosen joining outer)) next _ h (simp append_assoc)
step_reads (AtSet place) terminal next met h = at_set_reads place terminal next h
step_reads (AfterWord place words) terminal next met h = after_word_reads place words terminal next h
step_reads (WantWord place words) terminal next met h = takes_word_reads place words terminal next met h
step_reads (WantEnd process) End next met h = reads (Done (System process Closed)) next _ h (simp append_assoc)
step_reads _ _ next met h = cc

-- ---- runs

-- what has been read is what was read before, and the text
pub run_adds : (text : List Terminal) (from state : ParserState) → IsMet from → run from text ≡ Some state → text_of_state state ≡ text_of_state from ++ text
unfolding runs
run_adds [] from state met h = sym (ap text_of_state (same_Some from state h)) ∙ sym (append-nil (text_of_state from))
run_adds (terminal ∷ more) from state met h =
    option_and_then_some (λ next. run next more) (step from terminal) state h (λ next made ran.
    run_adds more next state (step_keeps from terminal next met made) ran
    ∙ ap (λ l. l ++ more) (step_reads from terminal next met made)
    ∙ append_assoc (text_of_state from) (terminal ∷ []) more)

-- from the start, what has been read is the text
pub run_reads : (text : List Terminal) (state : ParserState) → run start text ≡ Some state → text_of_state state ≡ text
run_reads text state h = run_adds text start state tt h
