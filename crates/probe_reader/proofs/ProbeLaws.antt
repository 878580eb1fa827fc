-- What the machine shows of the grammar: what it reads can go on, what it refuses can't follow, and terminals spell one expression at most.
use Rattle.std.proofs.Common.{◌≡◌, ℕ, ◌+◌, List, [], ◌∷◌, ◌++◌, length, take, Option, Some, None, option_and_then, inl, inr, refl, ap, sym, subst, ◌∙◌, append_assoc, append-nil, length-append, arith}
use Rattle.std.proofs.lemmas.Option.{same_Some, option_and_then_some}
use Rattle.std.proofs.Math.Seq.{take-append_seam}
use Rattle.token_grammar.specs.declared.terminal.Terminal.{Terminal}
use Rattle.token_grammar.specs.Languages.{CanGoOn, GoesOnTo}
use Rattle.token_grammar.specs.Machines.{runs, IsRefusedBy}
use Rattle.token_grammar.proofs.Runs.{run-append, run_along}
use Rattle.token_grammar.proofs.GoingOn.{one_end}
use Rattle.probe_reader.specs.declared.trees.ProbeRead.{ProbeRead}
use Rattle.probe_reader.specs.ProbeGrammar.{Disjunction, Alternatives, OneSequence, Alternated, Sequence, OneGuarded, Sequenced, GuardedPart, OnePostfixed, WithGuard, OneAtom, LetterNamed, alternatives_spelled}
use Rattle.token_grammar.specs.SmallNames.{Plain}
use Rattle.probe_reader.specs.ProbeAnswers.{IsProbeText, terminals_between, IsProbeEnd, IsProbeRead, IsNoProbe}
use Rattle.probe_reader.specs.ProbeMachine.{ProbeOuter, Outermost, ProbeState, AfterPart, with_guards, sequence_with, alternatives_with, whole_alternatives, probe_step, probe_run, probe_start, IsPartial, behind_part, behind_alternatives}
use Rattle.probe_reader.proofs.ProbeRuns.{expression_runs}
use Rattle.probe_reader.proofs.ProbeTexts.{alternatives_with_text, run_reads}
use Rattle.probe_reader.proofs.ProbeEnds.{completed}

-- ---- states after whole expressions

-- what a state after a part shows
shown : ProbeState → Alternatives
shown (AfterPart postfixed guards sequence alternatives outer) = whole_alternatives postfixed guards sequence alternatives
shown _ = OneSequence (OneGuarded (OnePostfixed (OneAtom (LetterNamed Plain))))

shows_part : (part : GuardedPart) (guards : List Disjunction) (sequence : Option Sequence) (alternatives : Option Alternatives) (outer : ProbeOuter) → shown (behind_part part guards sequence alternatives outer) ≡ alternatives_with alternatives (sequence_with sequence (with_guards guards part))
unfolding shown
shows_part (OnePostfixed postfixed) guards sequence alternatives outer = refl
shows_part (WithGuard guard part) guards sequence alternatives outer = shows_part part (guard ∷ guards) sequence alternatives outer

shows_alternatives : (whole : Alternatives) (outer : ProbeOuter) → shown (behind_alternatives whole outer) ≡ whole
shows_alternatives (OneSequence (OneGuarded part)) outer = shows_part part [] None None outer
shows_alternatives (OneSequence (Sequenced sequence part)) outer = shows_part part [] (Some sequence) None outer
shows_alternatives (Alternated alternatives (OneGuarded part)) outer = shows_part part [] None (Some alternatives) outer
shows_alternatives (Alternated alternatives (Sequenced sequence part)) outer = shows_part part [] (Some sequence) (Some alternatives) outer

-- such a state isn't partial
part_is_whole : (part : GuardedPart) (guards : List Disjunction) (sequence : Option Sequence) (alternatives : Option Alternatives) → ¬ IsPartial (behind_part part guards sequence alternatives Outermost)
part_is_whole (OnePostfixed postfixed) guards sequence alternatives h = h
part_is_whole (WithGuard guard part) guards sequence alternatives h = part_is_whole part (guard ∷ guards) sequence alternatives h

pub whole_isnt_partial : (whole : Alternatives) → ¬ IsPartial (behind_alternatives whole Outermost)
whole_isnt_partial (OneSequence (OneGuarded part)) h = part_is_whole part [] None None h
whole_isnt_partial (OneSequence (Sequenced sequence part)) h = part_is_whole part [] (Some sequence) None h
whole_isnt_partial (Alternated alternatives (OneGuarded part)) h = part_is_whole part [] None (Some alternatives) h
whole_isnt_partial (Alternated alternatives (Sequenced sequence part)) h = part_is_whole part [] (Some sequence) (Some alternatives) h

-- ---- texts of expressions

-- terminals spell one expression at most
pub one_expression : (a b : Alternatives) → alternatives_spelled a ≡ alternatives_spelled b → a ≡ b
one_expression a b e =
    sym (shows_alternatives a Outermost)
    ∙ ap shown (same_Some (behind_alternatives a Outermost) (behind_alternatives b Outermost) (sym (expression_runs a) ∙ ap (probe_run probe_start) e ∙ expression_runs b))
    ∙ shows_alternatives b Outermost

-- where the machine isn't done, no expression has been read
pub partial_is_no_text : (text : List Terminal) (state : ProbeState) → probe_run probe_start text ≡ Some state → IsPartial state → ¬ IsProbeText text
partial_is_no_text text state ran partial is =
    whole_isnt_partial is.0 (subst IsPartial (same_Some state (behind_alternatives is.0 Outermost) (sym ran ∙ ap (probe_run probe_start) is.1 ∙ expression_runs is.0)) partial)

-- what the machine has read can go on
pub probe_goes_on : (text : List Terminal) (state : ProbeState) → probe_run probe_start text ≡ Some state → CanGoOn IsProbeText text
probe_goes_on text state ran =
    let done = completed state in (
      done.more,
      (
        whole_alternatives done.postfixed done.guards done.sequence done.alternatives,
        sym (run_reads (text ++ done.more) (AfterPart done.postfixed done.guards done.sequence done.alternatives Outermost) (run_along probe_step probe_start state text done.more ran ∙ done.ran))
            ∙ sym (alternatives_with_text done.postfixed done.guards done.sequence done.alternatives),
      ),
    )

-- and the other way: what can go on is read
pub front_runs : (text : List Terminal) → CanGoOn IsProbeText text → (state : ProbeState) × (probe_run probe_start text ≡ Some state)
front_runs text go =
    option_and_then_some (λ next. probe_run next go.0) (probe_run probe_start text) (behind_alternatives go.1.0 Outermost)
    (sym (run-append probe_step probe_start text go.0) ∙ ap (probe_run probe_start) go.1.1 ∙ expression_runs go.1.0)
    (λ state ran last. (state, ran))

-- what it refuses can't follow
pub probe_stops : (text : List Terminal) (state : ProbeState) (terminal : Terminal) → probe_run probe_start text ≡ Some state → probe_step state terminal ≡ None → ¬ CanGoOn IsProbeText (text ++ terminal ∷ [])
unfolding runs
probe_stops text state terminal ran none go =
    none_made (sym (ap (option_and_then (λ next. probe_run next go.0)) none) ∙ sym (run_along probe_step probe_start state text (terminal ∷ go.0) ran) ∙ ap (probe_run probe_start) (sym (append_assoc text (terminal ∷ []) go.0) ∙ go.1.1) ∙ expression_runs go.1.0)
  where
    none_made : None ≡ Some (behind_alternatives go.1.0 Outermost) → ⊥
    none_made h = cc

-- ---- where an expression ends

take_one_more : (text more : List Terminal) (terminal : Terminal) → take (length text + 1) (text ++ terminal ∷ more) ≡ text ++ terminal ∷ []
take_one_more text more terminal =
    ap (λ n. take n (text ++ terminal ∷ more)) (sym (length-append text (terminal ∷ [])))
    ∙ ap (take (length (text ++ terminal ∷ []))) (sym (append_assoc text (terminal ∷ []) more))
    ∙ take-append_seam (text ++ terminal ∷ []) more

-- the terminals that the machine has read, up to the one that it refuses
pub probe_goes_to : (text rest : List Terminal) (state : ProbeState) → probe_run probe_start text ≡ Some state → IsRefusedBy probe_step state rest → GoesOnTo IsProbeText (text ++ rest) (length text)
probe_goes_to text [] state ran refused = inr (ap length (sym (append-nil text)), subst (CanGoOn IsProbeText) (sym (append-nil text)) (probe_goes_on text state ran))
probe_goes_to text (terminal ∷ more) state ran refused = inl (record {
  within = omega (arith, length-append text (terminal ∷ more));
  before = subst (CanGoOn IsProbeText) (sym (take-append_seam text (terminal ∷ more))) (probe_goes_on text state ran);
  behind = λ go. probe_stops text state terminal ran refused (subst (CanGoOn IsProbeText) (take_one_more text more terminal) go);
})

-- the end, where so many terminals have been read
end_behind : (kinds : List Terminal) (at limit i : ℕ) (text rest : List Terminal) (state : ProbeState) → terminals_between at limit kinds ≡ text ++ rest → i ≡ at + length text → probe_run probe_start text ≡ Some state → IsRefusedBy probe_step state rest → IsProbeEnd kinds at limit i
end_behind kinds at limit i text rest state whole index ran refused = record { count = length text; index = index; goes_on = subst (λ l. GoesOnTo IsProbeText l (length text)) (sym whole) (probe_goes_to text rest state ran refused) }

-- no expression
pub no_probe : (kinds : List Terminal) (at limit i : ℕ) (text rest : List Terminal) (state : ProbeState) → terminals_between at limit kinds ≡ text ++ rest → i ≡ at + length text → probe_run probe_start text ≡ Some state → IsPartial state → IsRefusedBy probe_step state rest → IsNoProbe kinds at limit i
unfolding end_behind
no_probe kinds at limit i text rest state whole index ran partial refused = record {
  stop = end_behind kinds at limit i text rest state whole index ran refused;
  none = λ is. partial_is_no_text text state ran partial (subst IsProbeText (ap (take (length text)) whole ∙ take-append_seam text rest) is);
}

-- an expression
pub is_probe : (kinds : List Terminal) (at limit i : ℕ) (whole : Alternatives) (rest : List Terminal) → terminals_between at limit kinds ≡ alternatives_spelled whole ++ rest → i ≡ at + length (alternatives_spelled whole) → IsRefusedBy probe_step (behind_alternatives whole Outermost) rest → (stop : IsProbeEnd kinds at limit i) × (take stop.count (terminals_between at limit kinds) ≡ alternatives_spelled whole)
unfolding end_behind
is_probe kinds at limit i whole rest is index refused = (end_behind kinds at limit i (alternatives_spelled whole) rest (behind_alternatives whole Outermost) is index (expression_runs whole) refused, ap (take (length (alternatives_spelled whole))) is ∙ take-append_seam (alternatives_spelled whole) rest)

-- ---- one answer

same_count : (kinds : List Terminal) (at limit i j : ℕ) (h : IsProbeEnd kinds at limit i) (k : IsProbeEnd kinds at limit j) → h.count ≡ k.count
same_count kinds at limit i j h k = one_end IsProbeText (terminals_between at limit kinds) h.count k.count h.goes_on k.goes_on

pub one_probe_end : (kinds : List Terminal) (at limit i j : ℕ) → IsProbeEnd kinds at limit i → IsProbeEnd kinds at limit j → i ≡ j
one_probe_end kinds at limit i j h k = omega (arith, h.index, k.index, same_count kinds at limit i j h k)

pub read_or_not : (kinds : List Terminal) (at limit next : ℕ) (read : ProbeRead) → IsProbeRead kinds at limit read → ¬ IsNoProbe kinds at limit next
read_or_not kinds at limit next read is missing =
    missing.none (is.alternatives, ap (λ n. take n (terminals_between at limit kinds)) (same_count kinds at limit next read.next missing.stop is.stop) ∙ is.spelled)
