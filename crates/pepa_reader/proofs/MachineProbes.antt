-- Probe lines: what the machine of expressions reads, the machine of items reads in a probe line.
use Rattle.std.proofs.Common.{◌≡◌, List, [], ◌∷◌, ◌++◌, Option, Some, None, refl, ap, subst, ◌∙◌}
use Rattle.std.proofs.lemmas.Option.{same_Some, option_and_then_some}
use Rattle.pepa_lexer.specs.declared.kinds.Sign.TheVariants.{Semicolon, Opening, OpeningBrace}
use Rattle.token_grammar.specs.declared.terminal.Terminal.{Terminal}
use Rattle.token_grammar.specs.declared.terminal.Terminal.TheVariants.{Small, Probe, Mark, End}
use Rattle.token_grammar.proofs.Runs.{run_step, run_along}
use Rattle.token_grammar.specs.Machines.{runs}
use Rattle.token_grammar.specs.SmallNames.{Probing}
use Rattle.probe_reader.specs.ProbeGrammar.{Disjunction, Alternatives, OneSequence, Alternated, Sequence, OneGuarded, Sequenced, GuardedPart, OnePostfixed, WithGuard, alternatives_spelled}
use Rattle.probe_reader.specs.ProbeMachine.{ProbeOuter, Outermost, InParentheses, GuardOuter, InBraces, InGuardParentheses, ProbeState, WantAtom, AfterPart, InSuffix, WantNegation, WantRelation, WantBound, AfterNegation, BehindColon, BehindSlash, BehindBrace, BehindLeast, BehindRangeComma, BehindMost, with_guards, sequence_with, alternatives_with, closes_alternatives, closes_guard, probe_step, probe_run, probe_start, IsPartial, behind_part, behind_alternatives}
use Rattle.probe_reader.proofs.ProbeRuns.{expression_runs}
use Rattle.probe_reader.proofs.ProbeLaws.{whole_isnt_partial}
use Rattle.pepa_reader.specs.Grammar.{ProbeTarget, Overall, OnConstant, ProbeWritten, target_spelled, line_spelled, OneLine}
use Rattle.pepa_reader.specs.Machine.{ParserState, WantEquals, InProbe, Done, closes_probe, probe_goes_on_or, step, run, start}

-- ---- in an expression

-- a step of the expression is one of the line
pub step_inside : (target : ProbeTarget) (state next : ProbeState) (terminal : Terminal) → probe_step state terminal ≡ Some next → step (InProbe target state) terminal ≡ Some (InProbe target next)
unfolding step
step_inside target state next terminal made = ap (probe_goes_on_or target (closes_probe target state terminal)) made

-- so is a run
pub runs_inside : (target : ProbeTarget) (text : List Terminal) (from to : ProbeState) → probe_run from text ≡ Some to → run (InProbe target from) text ≡ Some (InProbe target to)
unfolding runs
runs_inside target [] from to ran = ap (λ state. Some (InProbe target state)) (same_Some from to ran)
runs_inside target (terminal ∷ more) from to ran =
    option_and_then_some (λ next. probe_run next more) (probe_step from terminal) to ran (λ next made rest.
    run_step step (InProbe target from) (InProbe target next) terminal more (step_inside target from next terminal made) ∙ runs_inside target more next to rest)

-- after `probe` an expression can begin
begins_overall : (terminal : Terminal) (next : ProbeState) → probe_step probe_start terminal ≡ Some next → step (WantEquals Probing) terminal ≡ Some (InProbe Overall next)
unfolding step probe_step
begins_overall Small next made = ap (probe_goes_on_or Overall None) made
begins_overall Probe next made = ap (probe_goes_on_or Overall None) made
begins_overall (Mark Opening) next made = ap (probe_goes_on_or Overall None) made
begins_overall (Mark OpeningBrace) next made = ap (probe_goes_on_or Overall None) made
begins_overall _ next made = cc

-- a text of an expression leads from there to the state that it leads to, unless it is empty
pub some_runs_overall : (terminal : Terminal) (more : List Terminal) (to : ProbeState) → probe_run probe_start (terminal ∷ more) ≡ Some to → run (WantEquals Probing) (terminal ∷ more) ≡ Some (InProbe Overall to)
unfolding runs
some_runs_overall terminal more to ran =
    option_and_then_some (λ next. probe_run next more) (probe_step probe_start terminal) to ran (λ next made rest.
    run_step step (WantEquals Probing) (InProbe Overall next) terminal more (begins_overall terminal next made) ∙ runs_inside Overall more next to rest)

runs_overall : (text : List Terminal) (to : ProbeState) → probe_run probe_start text ≡ Some to → ¬ IsPartial to → run (WantEquals Probing) text ≡ Some (InProbe Overall to)
unfolding runs
runs_overall [] to ran whole = absurd (whole (subst IsPartial (same_Some probe_start to ran) tt))
runs_overall (terminal ∷ more) to ran whole = some_runs_overall terminal more to ran

-- ---- after an expression

-- a `;` ends the line
closes_part : (target : ProbeTarget) (part : GuardedPart) (guards : List Disjunction) (sequence : Option Sequence) (alternatives : Option Alternatives) → step (InProbe target (behind_part part guards sequence alternatives Outermost)) (Mark Semicolon) ≡ Some (Done (OneLine (ProbeWritten target (alternatives_with alternatives (sequence_with sequence (with_guards guards part))))))
unfolding step probe_step
closes_part target (OnePostfixed postfixed) guards sequence alternatives = refl
closes_part target (WithGuard guard part) guards sequence alternatives = closes_part target part (guard ∷ guards) sequence alternatives

pub semicolon_closes : (target : ProbeTarget) (whole : Alternatives) → step (InProbe target (behind_alternatives whole Outermost)) (Mark Semicolon) ≡ Some (Done (OneLine (ProbeWritten target whole)))
semicolon_closes target (OneSequence (OneGuarded part)) = closes_part target part [] None None
semicolon_closes target (OneSequence (Sequenced sequence part)) = closes_part target part [] (Some sequence) None
semicolon_closes target (Alternated alternatives (OneGuarded part)) = closes_part target part [] None (Some alternatives)
semicolon_closes target (Alternated alternatives (Sequenced sequence part)) = closes_part target part [] (Some sequence) (Some alternatives)

-- ---- whole lines

-- the state in which the expression of a probe line begins
abbrev pub before_expression : ProbeTarget → ParserState
before_expression Overall = WantEquals Probing
before_expression OnConstant = InProbe OnConstant probe_start

-- the target of a probe line
pub target_runs : (target : ProbeTarget) → run (WantEquals Probing) (target_spelled target) ≡ Some (before_expression target)
unfolding runs step
target_runs Overall = refl
target_runs OnConstant = refl

-- its expression
pub expression_in_line : (target : ProbeTarget) (whole : Alternatives) → run (before_expression target) (alternatives_spelled whole) ≡ Some (InProbe target (behind_alternatives whole Outermost))
expression_in_line Overall whole = runs_overall (alternatives_spelled whole) (behind_alternatives whole Outermost) (expression_runs whole) (whole_isnt_partial whole)
expression_in_line OnConstant whole = runs_inside OnConstant (alternatives_spelled whole) probe_start (behind_alternatives whole Outermost) (expression_runs whole)

-- a probe line is read to its end
pub probe_line_runs : (target : ProbeTarget) (whole : Alternatives) → run start (line_spelled (ProbeWritten target whole)) ≡ Some (Done (OneLine (ProbeWritten target whole)))
unfolding runs step
probe_line_runs target whole =
    run_along step (WantEquals Probing) (before_expression target) (target_spelled target) (alternatives_spelled whole ++ Mark Semicolon ∷ []) (target_runs target)
    ∙ run_along step (before_expression target) (InProbe target (behind_alternatives whole Outermost)) (alternatives_spelled whole) (Mark Semicolon ∷ []) (expression_in_line target whole)
    ∙ run_step step (InProbe target (behind_alternatives whole Outermost)) (Done (OneLine (ProbeWritten target whole))) (Mark Semicolon) [] (semicolon_closes target whole)

-- ---- the end of the text

closes_no_end : (whole : Alternatives) (outer : ProbeOuter) → closes_alternatives whole outer End ≡ None
closes_no_end whole Outermost = refl
closes_no_end whole (InParentheses guards sequence alternatives outer) = refl

closes_guard_no_end : (guard : Disjunction) (outer : GuardOuter) → closes_guard guard outer End ≡ None
closes_guard_no_end guard (InBraces guards sequence alternatives outer) = refl
closes_guard_no_end guard (InGuardParentheses count conjunction disjunction outer) = refl

-- no expression takes it
pub no_end_in_probe : (state : ProbeState) → probe_step state End ≡ None
unfolding probe_step
no_end_in_probe (WantAtom guards sequence alternatives outer) = refl
no_end_in_probe (AfterPart postfixed guards sequence alternatives outer) = closes_no_end _ outer
no_end_in_probe (InSuffix BehindColon postfixed guards sequence alternatives outer) = refl
no_end_in_probe (InSuffix BehindSlash postfixed guards sequence alternatives outer) = refl
no_end_in_probe (InSuffix BehindBrace postfixed guards sequence alternatives outer) = refl
no_end_in_probe (InSuffix BehindLeast postfixed guards sequence alternatives outer) = refl
no_end_in_probe (InSuffix BehindRangeComma postfixed guards sequence alternatives outer) = refl
no_end_in_probe (InSuffix BehindMost postfixed guards sequence alternatives outer) = refl
no_end_in_probe (WantNegation count conjunction disjunction outer) = refl
no_end_in_probe (WantRelation count conjunction disjunction outer) = refl
no_end_in_probe (WantBound sign count conjunction disjunction outer) = refl
no_end_in_probe (AfterNegation negation conjunction disjunction outer) = closes_guard_no_end _ outer

closes_probe_no_end : (target : ProbeTarget) (state : ProbeState) → closes_probe target state End ≡ None
closes_probe_no_end target (AfterPart postfixed guards sequence alternatives Outermost) = refl
closes_probe_no_end target _ = refl

-- nor does a probe line
pub no_end_in_line : (target : ProbeTarget) (state : ProbeState) → step (InProbe target state) End ≡ None
unfolding step
no_end_in_line target state = ap (probe_goes_on_or target (closes_probe target state End)) (no_end_in_probe state) ∙ closes_probe_no_end target state
