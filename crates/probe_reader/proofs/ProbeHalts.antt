-- What a public answer shows of the machine: where it halts, and where it has read an expression.
use Rattle.std.proofs.Common.{◌≡◌, ℕ, zero, suc, ◌+◌, ◌≤◌, List, [], ◌∷◌, ◌++◌, length, take, drop, Option, Some, None, ◌⊎◌, inl, inr, refl, ap, sym, subst, ◌∙◌, append_assoc, length-append, arith}
use Rattle.std.proofs.lemmas.List.{take-append-drop, length-take-le}
use Rattle.std.proofs.Math.Seq.{drop-nil, drop-length, take-length, take-append_seam}
use Rattle.token_grammar.specs.declared.terminal.Terminal.{Terminal}
use Rattle.token_grammar.specs.Cursors.{IsSpelledFrom}
use Rattle.token_grammar.specs.Languages.{CanGoOn, GoesOnTo}
use Rattle.token_grammar.specs.Machines.{runs}
use Rattle.token_grammar.proofs.Runs.{run_along}
use Rattle.probe_reader.specs.declared.trees.ProbeRead.{ProbeRead}
use Rattle.probe_reader.specs.ProbeGrammar.{Disjunction, Alternatives, Sequence, Postfixed}
use Rattle.probe_reader.specs.ProbeMachine.{Outermost, InParentheses, ProbeState, WantAtom, AfterPart, InSuffix, WantNegation, WantRelation, WantBound, AfterNegation, whole_alternatives, probe_step, probe_run, probe_start, IsPartial, behind_alternatives}
use Rattle.probe_reader.specs.ProbeReading.{IsRefusedInProbe, HaltsInProbe, HasExpression}
use Rattle.probe_reader.specs.ProbeAnswers.{IsProbeText, terminals_between, IsProbeEnd, IsProbeRead, IsNoProbe}
use Rattle.probe_reader.proofs.ProbeRuns.{expression_runs}
use Rattle.probe_reader.proofs.ProbeTexts.{alternatives_with_text, run_reads}
use Rattle.probe_reader.proofs.ProbeLaws.{probe_goes_on, front_runs}

-- ---- states

-- a state after a whole expression
pub record IsWholeState (state : ProbeState) : Type 0 where
  pub postfixed : Postfixed
  pub guards : List Disjunction
  pub sequence : Option Sequence
  pub alternatives : Option Alternatives
  pub is : state ≡ AfterPart postfixed guards sequence alternatives Outermost

pub partial_or_whole : (state : ProbeState) → IsPartial state ⊎ IsWholeState state
partial_or_whole (WantAtom guards sequence alternatives outer) = inl tt
partial_or_whole (AfterPart postfixed guards sequence alternatives Outermost) = inr (record { postfixed = postfixed; guards = guards; sequence = sequence; alternatives = alternatives; is = refl })
partial_or_whole (AfterPart postfixed guards sequence alternatives (InParentheses guards' sequence' alternatives' outer)) = inl tt
partial_or_whole (InSuffix part postfixed guards sequence alternatives outer) = inl tt
partial_or_whole (WantNegation count conjunction disjunction outer) = inl tt
partial_or_whole (WantRelation count conjunction disjunction outer) = inl tt
partial_or_whole (WantBound sign count conjunction disjunction outer) = inl tt
partial_or_whole (AfterNegation negation conjunction disjunction outer) = inl tt

-- there an expression has been read
whole_is_text : (text : List Terminal) (state : ProbeState) → probe_run probe_start text ≡ Some state → IsWholeState state → IsProbeText text
whole_is_text text state ran whole = (
  whole_alternatives whole.postfixed whole.guards whole.sequence whole.alternatives,
  sym (run_reads text (AfterPart whole.postfixed whole.guards whole.sequence whole.alternatives Outermost) (ran ∙ ap Some whole.is)) ∙ sym (alternatives_with_text whole.postfixed whole.guards whole.sequence whole.alternatives),
)

-- ---- where the terminals end that can be continued

drop_twice : (n m : ℕ) (kinds : List Terminal) → drop m (drop n kinds) ≡ drop (n + m) kinds
drop_twice zero m kinds = ap (λ k. drop k kinds) (omega arith)
drop_twice (suc n) m [] = drop-nil m ∙ sym (drop-nil (suc n + m))
drop_twice (suc n) m (first ∷ more) =
    let e : suc n + m ≡ suc (n + m) = omega arith in
    rw e (drop_twice n m more)

-- so many terminals are there
count_within : (window : List Terminal) (count : ℕ) → GoesOnTo IsProbeText window count → count ≤ length window
count_within window count (inl h) = omega (arith, h.within)
count_within window count (inr h) = omega (arith, h.0)

-- they can go on
count_goes_on : (window : List Terminal) (count : ℕ) → GoesOnTo IsProbeText window count → CanGoOn IsProbeText (take count window)
count_goes_on window count (inl h) = h.before
count_goes_on window count (inr h) = subst (CanGoOn IsProbeText) (sym (ap (λ n. take n window) h.0 ∙ take-length window)) h.1

-- one more terminal
one_more_taken : (window : List Terminal) (count : ℕ) (terminal : Terminal) (more : List Terminal) → count ≤ length window → drop count window ≡ terminal ∷ more → take (count + 1) window ≡ take count window ++ terminal ∷ []
one_more_taken window count terminal more within e =
    let text = take count window in
    let len : length text ≡ count = length-take-le count window within in
    let whole : window ≡ (text ++ terminal ∷ []) ++ more = sym (take-append-drop count window) ∙ ap (λ l. text ++ l) e ∙ sym (append_assoc text (terminal ∷ []) more) in
    let all : length (text ++ terminal ∷ []) ≡ count + 1 = omega (arith, len, length-append text (terminal ∷ [])) in
    ap (take (count + 1)) whole ∙ ap (λ n. take n ((text ++ terminal ∷ []) ++ more)) (sym all) ∙ take-append_seam (text ++ terminal ∷ []) more

-- the machine refuses what is there
count_refused : (window : List Terminal) (count : ℕ) (state : ProbeState) (rest : List Terminal) → GoesOnTo IsProbeText window count → probe_run probe_start (take count window) ≡ Some state → drop count window ≡ rest → IsRefusedInProbe state rest
unfolding runs
count_refused window count state [] goes ran e = tt
count_refused window count state (terminal ∷ more) (inl h) ran e = by_step (probe_step state terminal) refl
  where
    by_step : (o : Option ProbeState) → probe_step state terminal ≡ o → probe_step state terminal ≡ None
    by_step None made = made
    by_step (Some next) made =
        absurd (h.behind (subst (CanGoOn IsProbeText) (sym (one_more_taken window count terminal more (omega (arith, h.within)) e))
        (probe_goes_on (take count window ++ terminal ∷ []) next (run_along probe_step probe_start state (take count window) (terminal ∷ []) ran ∙ rw made refl))))
count_refused window count state (terminal ∷ more) (inr h) ran e = absurd (past (sym (ap (λ n. drop n window) h.0 ∙ drop-length window) ∙ e))
  where
    past : [] ≡ terminal ∷ more → ⊥
    past p = cc

-- the terminals before the end, as the reader sees them
pub spelled_before : (kinds : List Terminal) (at limit i : ℕ) (stop : IsProbeEnd kinds at limit i) → IsSpelledFrom (take limit kinds) at i (take stop.count (terminals_between at limit kinds))
spelled_before kinds at limit i stop =
    let window = terminals_between at limit kinds in
    let len = length-take-le stop.count window (count_within window stop.count stop.goes_on) in
    record {
      whole = sym (take-append-drop stop.count window) ∙ ap (λ l. take stop.count window ++ l) (drop_twice at stop.count (take limit kinds) ∙ ap (λ n. drop n (take limit kinds)) (sym stop.index));
      index = omega (arith, stop.index, len);
    }

-- where no expression was read, the machine halts
pub halts_without : (kinds : List Terminal) (at limit i : ℕ) → IsNoProbe kinds at limit i → HaltsInProbe (take limit kinds) at i probe_start
halts_without kinds at limit i missing =
    let stop = missing.stop in
    let window = terminals_between at limit kinds in
    let text = take stop.count window in
    let run = front_runs text (count_goes_on window stop.count stop.goes_on) in
    record {
      state = run.0;
      text = text;
      spelled = spelled_before kinds at limit i stop;
      ran = run.1;
      undone = elim (partial_or_whole run.0) [ inl p ↦ p | inr w ↦ absurd (missing.none (whole_is_text text run.0 run.1 w)) ];
      refused = count_refused window stop.count run.0 (drop i (take limit kinds)) stop.goes_on run.1 (drop_twice at stop.count (take limit kinds) ∙ ap (λ n. drop n (take limit kinds)) (sym stop.index));
    }

-- an expression that was read, as the machine sees it
pub has_read : (kinds : List Terminal) (at limit : ℕ) (read : ProbeRead) → IsProbeRead kinds at limit read → HasExpression (take limit kinds) at read
has_read kinds at limit read is =
    let stop = is.stop in
    let window = terminals_between at limit kinds in
    record {
      alternatives = is.alternatives;
      spelled = subst (λ text. IsSpelledFrom (take limit kinds) at read.next text) is.spelled (spelled_before kinds at limit read.next stop);
      tree = is.tree_is;
      refused = count_refused window stop.count (behind_alternatives is.alternatives Outermost) (drop read.next (take limit kinds)) stop.goes_on (ap (probe_run probe_start) is.spelled ∙ expression_runs is.alternatives) (drop_twice at stop.count (take limit kinds) ∙ ap (λ n. drop n (take limit kinds)) (sym stop.index));
    }
