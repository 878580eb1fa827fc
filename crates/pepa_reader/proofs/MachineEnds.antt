-- Each unfinished state of the machine can be completed to an item, and the end of the text always ends one.
use Rattle.std.proofs.Common.{◌≡◌, List, [], ◌∷◌, ◌++◌, Option, Some, None, refl, sym, subst, ◌∙◌}
use Rattle.std.proofs.lemmas.Option.{same_Some}
use Rattle.pepa_lexer.specs.declared.kinds.Sign.TheVariants.{Equals, Semicolon, Closing, Comma, Dot, Greater, OpeningBrace, ClosingBrace, DoubleColon}
use Rattle.token_grammar.specs.declared.terminal.Terminal.{Terminal}
use Rattle.token_grammar.specs.declared.terminal.Terminal.TheVariants.{Tau, Capital, Number, Mark, End}
use Rattle.token_grammar.proofs.Runs.{run_step, run_along}
use Rattle.token_grammar.specs.Machines.{runs}
use Rattle.pepa_reader.specs.Grammar.{Word, Internal, Factor, Amount, Bracketed, Rate, Computed, Sharing, Hidden, OnePrefix, Hiding, Prefix, Activity, Constant, Grouped, RateNamed, ProcessNamed, ProbeTarget, OnConstant, ProbeWritten, Open, Closed, Item, OneLine, System}
use Rattle.token_grammar.specs.SmallNames.{Plain, Probing}
use Rattle.probe_reader.specs.ProbeMachine.{ProbeState, AfterPart, Outermost, whole_alternatives, probe_step, probe_start}
use Rattle.probe_reader.proofs.ProbeEnds.{completed}
use Rattle.pepa_reader.proofs.MachineProbes.{runs_inside, no_end_in_line}
use Rattle.pepa_reader.specs.Machine.{Pending, ChosenSoFar, Joining, Outer, InLine, InSystem, InBrackets, RatePlace, OfLine, OfActivity, Summing, Multiplying, RateOuter, Whole, InRateBrackets, SetPlace, OfCooperation, OfHiding, ParserState, Want, After, WantEquals, WantComma, WantFactor, AfterFactor, AfterTop, WantDot, WantBrace, AtSet, AfterWord, WantWord, WantEnd, Done, whole_process, whole_sum, after, closes_rate, closes_set, WantColons, InProbe, step, run, IsUndone}
use Rattle.pepa_reader.proofs.MachineRuns.{closes_after_factor, closes_words, closes_no_words}

-- ---- what completes an item

-- terminals that lead from the state to the end of an item
abbrev pub Ends : ParserState → Type 0
Ends state = (more : List Terminal) × (item : Item) × (run state more ≡ Some (Done item))

-- an item that is whole wants nothing more
done_ends : (item : Item) → Ends (Done item)
unfolding runs
done_ends item = ([], item, refl)

-- one step more
step_ends : (state next : ParserState) (terminal : Terminal) → step state terminal ≡ Some next → Ends next → Ends state
step_ends state next terminal made ends = (terminal ∷ ends.0, ends.1, run_step step state next terminal ends.0 made ∙ ends.2)

-- the prefix with its pending activities around it
around : List Pending → Prefix → Prefix
around [] prefix = prefix
around (pending ∷ more) prefix = around more (Activity pending.word pending.rate prefix)

-- behind a prefix stands the state of a whole hidden part
after_is : (pending : List Pending) (prefix : Prefix) (chosen : ChosenSoFar) (joining : Option Joining) (outer : Outer) → after pending prefix chosen joining outer ≡ After (OnePrefix (around pending prefix)) chosen joining outer
unfolding around
after_is [] prefix chosen joining outer = refl
after_is (pending ∷ more) prefix chosen joining outer = after_is more (Activity pending.word pending.rate prefix) chosen joining outer

-- brackets are closed from the inner one to the outer one, and then the item
after_hidden_ends : (outer : Outer) (hidden : Hidden) (chosen : ChosenSoFar) (joining : Option Joining) → Ends (After hidden chosen joining outer)
unfolding step
after_hidden_ends InLine hidden chosen joining = step_ends (After hidden chosen joining InLine) (Done (OneLine (ProcessNamed (whole_process joining chosen hidden)))) (Mark Semicolon) refl (done_ends _)
after_hidden_ends InSystem hidden chosen joining = step_ends (After hidden chosen joining InSystem) (Done (System (whole_process joining chosen hidden) Open)) End refl (done_ends _)
after_hidden_ends (InBrackets pending chosen' joining' outer) hidden chosen joining =
    let grouped : Prefix = Grouped (whole_process joining chosen hidden) in
    step_ends (After hidden chosen joining (InBrackets pending chosen' joining' outer)) (after pending grouped chosen' joining' outer) (Mark Closing) refl
    (subst Ends (sym (after_is pending grouped chosen' joining' outer)) (after_hidden_ends outer (OnePrefix (around pending grouped)) chosen' joining'))

-- a constant ends what wants a prefix
want_ends : (pending : List Pending) (chosen : ChosenSoFar) (joining : Option Joining) (outer : Outer) → Ends (Want pending chosen joining outer)
unfolding step
want_ends pending chosen joining outer =
    step_ends (Want pending chosen joining outer) (after pending Constant chosen joining outer) Capital refl
    (subst Ends (sym (after_is pending Constant chosen joining outer)) (after_hidden_ends outer (OnePrefix (around pending Constant)) chosen joining))

-- the point, and then a prefix
want_dot_ends : (word : Word) (rate : Rate) (pending : List Pending) (chosen : ChosenSoFar) (joining : Option Joining) (outer : Outer) → Ends (WantDot word rate pending chosen joining outer)
unfolding step
want_dot_ends word rate pending chosen joining outer = step_ends (WantDot word rate pending chosen joining outer) (Want (record { word = word; rate = rate } ∷ pending) chosen joining outer) (Mark Dot) refl (want_ends (record { word = word; rate = rate } ∷ pending) chosen joining outer)

-- behind a whole rate
place_ends : (state : ParserState) (rate : Rate) (place : RatePlace) → ((terminal : Terminal) (next : ParserState) → closes_rate rate place terminal ≡ Some next → step state terminal ≡ Some next) → Ends state
place_ends state rate (OfLine name) closing = step_ends state (Done (OneLine (RateNamed name rate))) (Mark Semicolon) (closing (Mark Semicolon) _ refl) (done_ends _)
place_ends state rate (OfActivity word pending chosen joining outer) closing = step_ends state (WantDot word rate pending chosen joining outer) (Mark Closing) (closing (Mark Closing) _ refl) (want_dot_ends word rate pending chosen joining outer)

-- brackets of rates are closed likewise
after_factor_ends : (outer : RateOuter) (factor : Factor) (summing : Option Summing) (multiplying : Option Multiplying) → Ends (AfterFactor factor summing multiplying outer)
unfolding step
after_factor_ends (Whole place) factor summing multiplying = place_ends (AfterFactor factor summing multiplying (Whole place)) (Computed (whole_sum summing multiplying factor)) place (closes_after_factor factor summing multiplying place)
after_factor_ends (InRateBrackets summing' multiplying' outer) factor summing multiplying =
    step_ends (AfterFactor factor summing multiplying (InRateBrackets summing' multiplying' outer)) (AfterFactor (Bracketed (whole_sum summing multiplying factor)) summing' multiplying' outer) (Mark Closing) refl
    (after_factor_ends outer (Bracketed (whole_sum summing multiplying factor)) summing' multiplying')

-- an amount ends what wants a factor
want_factor_ends : (summing : Option Summing) (multiplying : Option Multiplying) (outer : RateOuter) → Ends (WantFactor summing multiplying outer)
unfolding step
want_factor_ends summing multiplying outer = step_ends (WantFactor summing multiplying outer) (AfterFactor Amount summing multiplying outer) Number refl (after_factor_ends outer Amount summing multiplying)

-- behind a set
set_ends : (state : ParserState) (place : SetPlace) (words : List Word) → ((close : Terminal) (next : ParserState) → closes_set place words close ≡ Some next → step state close ≡ Some next) → Ends state
set_ends state (OfCooperation process outer) words closing = step_ends state _ (Mark Greater) (closing (Mark Greater) _ refl) (want_ends [] None (Some (record { process = process; coop = Sharing words })) outer)
set_ends state (OfHiding hidden chosen joining outer) words closing = step_ends state _ (Mark ClosingBrace) (closing (Mark ClosingBrace) _ refl) (after_hidden_ends outer (Hiding hidden words) chosen joining)

-- an empty set is closed
at_set_ends : (place : SetPlace) → Ends (AtSet place)
at_set_ends place = set_ends (AtSet place) place [] (closes_no_words place)

-- so is one with words
after_word_ends : (place : SetPlace) (words : List Word) → Ends (AfterWord place words)
after_word_ends place words = set_ends (AfterWord place words) place words (closes_words place words)

-- an expression is completed, and then its line
in_probe_ends : (target : ProbeTarget) (state : ProbeState) → Ends (InProbe target state)
unfolding step probe_step
in_probe_ends target state =
    let done = completed state in
    let whole : ProbeState = AfterPart done.postfixed done.guards done.sequence done.alternatives Outermost in
    let last : Ends (InProbe target whole) =
    step_ends (InProbe target whole) (Done (OneLine (ProbeWritten target (whole_alternatives done.postfixed done.guards done.sequence done.alternatives)))) (Mark Semicolon) refl (done_ends _) in
    (done.more ++ last.0, last.1, run_along step (InProbe target state) (InProbe target whole) done.more last.0 (runs_inside target done.more state whole done.ran) ∙ last.2)

-- each unfinished state can be completed to an item
pub ends : (state : ParserState) → IsUndone state → (more : List Terminal) × (item : Item) × (run state more ≡ Some (Done item))
unfolding step
ends (Want pending chosen joining outer) undone = want_ends pending chosen joining outer
ends (After hidden chosen joining outer) undone = after_hidden_ends outer hidden chosen joining
ends (WantEquals Plain) undone = step_ends (WantEquals Plain) (WantFactor None None (Whole (OfLine Plain))) (Mark Equals) refl (want_factor_ends None None (Whole (OfLine Plain)))
ends (WantEquals Probing) undone = step_ends (WantEquals Probing) (WantFactor None None (Whole (OfLine Probing))) (Mark Equals) refl (want_factor_ends None None (Whole (OfLine Probing)))
ends WantColons undone = step_ends WantColons (InProbe OnConstant probe_start) (Mark DoubleColon) refl (in_probe_ends OnConstant probe_start)
ends (InProbe target state) undone = in_probe_ends target state
ends (WantComma word pending chosen joining outer) undone = step_ends (WantComma word pending chosen joining outer) (WantFactor None None (Whole (OfActivity word pending chosen joining outer))) (Mark Comma) refl (want_factor_ends None None (Whole (OfActivity word pending chosen joining outer)))
ends (WantFactor summing multiplying outer) undone = want_factor_ends summing multiplying outer
ends (AfterFactor factor summing multiplying outer) undone = after_factor_ends outer factor summing multiplying
ends (AfterTop rate place) undone = place_ends (AfterTop rate place) rate place (λ terminal next h. h)
ends (WantDot word rate pending chosen joining outer) undone = want_dot_ends word rate pending chosen joining outer
ends (WantBrace hidden chosen joining outer) undone = step_ends (WantBrace hidden chosen joining outer) (AtSet (OfHiding hidden chosen joining outer)) (Mark OpeningBrace) refl (at_set_ends (OfHiding hidden chosen joining outer))
ends (AtSet place) undone = at_set_ends place
ends (AfterWord place words) undone = after_word_ends place words
ends (WantWord place words) undone = step_ends (WantWord place words) (AfterWord place (words ++ Internal ∷ [])) Tau refl (after_word_ends place (words ++ Internal ∷ []))
ends (WantEnd process) undone = step_ends (WantEnd process) (Done (System process Closed)) End refl (done_ends _)
ends (Done item) undone = absurd undone

-- ---- the end of the text ends an item

-- what is made is an item
made_item : (item : Item) (next : ParserState) → Some (Done item) ≡ Some next → (item : Item) × (next ≡ Done item)
made_item item next h = (item, sym (same_Some (Done item) next h))

-- only a whole system takes the end, and then it is an item
pub end_ends : (state next : ParserState) → step state End ≡ Some next → (item : Item) × (next ≡ Done item)
unfolding step probe_step
end_ends (After hidden chosen joining InSystem) next h = made_item (System (whole_process joining chosen hidden) Open) next h
end_ends (WantEnd process) next h = made_item (System process Closed) next h
end_ends (After hidden chosen joining _) next h = absurd (cc)
end_ends (AfterFactor factor summing multiplying (Whole (OfLine name))) next h = absurd (cc)
end_ends (AfterFactor factor summing multiplying (Whole _)) next h = absurd (cc)
end_ends (AfterFactor factor summing multiplying _) next h = absurd (cc)
end_ends (AfterTop rate (OfLine name)) next h = absurd (cc)
end_ends (AfterTop rate _) next h = absurd (cc)
end_ends (AtSet (OfCooperation process outer)) next h = absurd (cc)
end_ends (AtSet _) next h = absurd (cc)
end_ends (AfterWord (OfCooperation process outer) words) next h = absurd (cc)
end_ends (AfterWord _ words) next h = absurd (cc)
end_ends (WantEquals Plain) next h = absurd (cc)
end_ends (WantEquals Probing) next h = absurd (cc)
end_ends (InProbe target state) next h = none_made (sym (no_end_in_line target state) ∙ h)
  where
    none_made : None ≡ Some next → (item : Item) × (next ≡ Done item)
    none_made e = absurd (cc)
end_ends _ next h = absurd (cc)
