-- Each state of the machine can be completed to an expression.
use Rattle.std.proofs.Common.{◌≡◌, ℕ, List, [], ◌∷◌, Option, Some, refl, ◌∙◌}
use Rattle.pepa_lexer.specs.declared.kinds.Sign.TheVariants.{Closing, Comma, Less, ClosingBrace}
use Rattle.token_grammar.specs.declared.terminal.Terminal.{Terminal}
use Rattle.token_grammar.specs.declared.terminal.Terminal.TheVariants.{Small, Capital, Number, Mark}
use Rattle.token_grammar.proofs.Runs.{run_step}
use Rattle.token_grammar.specs.Machines.{runs}
use Rattle.token_grammar.specs.SmallNames.{Plain}
use Rattle.probe_reader.specs.ProbeGrammar.{RelationSign, Below, Disjunction, Conjunction, Negation, EnclosedGuard, Comparison, Labelled, Ranged, ResetBy, Alternatives, Sequence, Postfixed, OneAtom, Suffixed, LetterNamed, Enclosed}
use Rattle.probe_reader.specs.ProbeMachine.{ProbeOuter, Outermost, InParentheses, GuardOuter, InBraces, InGuardParentheses, SuffixPart, BehindColon, BehindSlash, BehindBrace, BehindLeast, BehindRangeComma, BehindMost, ProbeState, WantAtom, AfterPart, InSuffix, WantNegation, WantRelation, WantBound, AfterNegation, whole_alternatives, negated_by, whole_guard, probe_step, probe_run}

-- terminals that lead from the state to the end of an expression
pub record Completed (state : ProbeState) : Type 0 where
  pub more : List Terminal
  pub postfixed : Postfixed
  pub guards : List Disjunction
  pub sequence : Option Sequence
  pub alternatives : Option Alternatives
  pub ran : probe_run state more ≡ Some (AfterPart postfixed guards sequence alternatives Outermost)

-- one step more
step_completes : (state next : ProbeState) (terminal : Terminal) → probe_step state terminal ≡ Some next → Completed next → Completed state
step_completes state next terminal made done =
    record {
      more = terminal ∷ done.more;
      postfixed = done.postfixed;
      guards = done.guards;
      sequence = done.sequence;
      alternatives = done.alternatives;
      ran = run_step probe_step state next terminal done.more made ∙ done.ran;
    }

-- brackets are closed from the inner one to the outer one
part_completes : (outer : ProbeOuter) (postfixed : Postfixed) (guards : List Disjunction) (sequence : Option Sequence) (alternatives : Option Alternatives) → Completed (AfterPart postfixed guards sequence alternatives outer)
unfolding probe_step runs
part_completes Outermost postfixed guards sequence alternatives = record { more = []; postfixed = postfixed; guards = guards; sequence = sequence; alternatives = alternatives; ran = refl }
part_completes (InParentheses guards' sequence' alternatives' outer) postfixed guards sequence alternatives =
    let whole : Postfixed = OneAtom (Enclosed (whole_alternatives postfixed guards sequence alternatives)) in
    step_completes (AfterPart postfixed guards sequence alternatives (InParentheses guards' sequence' alternatives' outer)) (AfterPart whole guards' sequence' alternatives' outer) (Mark Closing) refl
    (part_completes outer whole guards' sequence' alternatives')

-- a letter completes what wants an atom
atom_completes : (guards : List Disjunction) (sequence : Option Sequence) (alternatives : Option Alternatives) (outer : ProbeOuter) → Completed (WantAtom guards sequence alternatives outer)
unfolding probe_step
atom_completes guards sequence alternatives outer =
    step_completes (WantAtom guards sequence alternatives outer) (AfterPart (OneAtom (LetterNamed Plain)) guards sequence alternatives outer) Small refl
    (part_completes outer (OneAtom (LetterNamed Plain)) guards sequence alternatives)

-- a repeat's brace, and before it its numbers and its comma
most_completes : (postfixed : Postfixed) (guards : List Disjunction) (sequence : Option Sequence) (alternatives : Option Alternatives) (outer : ProbeOuter) → Completed (InSuffix BehindMost postfixed guards sequence alternatives outer)
unfolding probe_step
most_completes postfixed guards sequence alternatives outer = step_completes _ (AfterPart (Suffixed postfixed Ranged) guards sequence alternatives outer) (Mark ClosingBrace) refl (part_completes outer (Suffixed postfixed Ranged) guards sequence alternatives)

comma_completes : (postfixed : Postfixed) (guards : List Disjunction) (sequence : Option Sequence) (alternatives : Option Alternatives) (outer : ProbeOuter) → Completed (InSuffix BehindRangeComma postfixed guards sequence alternatives outer)
unfolding probe_step
comma_completes postfixed guards sequence alternatives outer = step_completes _ (InSuffix BehindMost postfixed guards sequence alternatives outer) Number refl (most_completes postfixed guards sequence alternatives outer)

least_completes : (postfixed : Postfixed) (guards : List Disjunction) (sequence : Option Sequence) (alternatives : Option Alternatives) (outer : ProbeOuter) → Completed (InSuffix BehindLeast postfixed guards sequence alternatives outer)
unfolding probe_step
least_completes postfixed guards sequence alternatives outer = step_completes _ (InSuffix BehindRangeComma postfixed guards sequence alternatives outer) (Mark Comma) refl (comma_completes postfixed guards sequence alternatives outer)

suffix_completes : (part : SuffixPart) (postfixed : Postfixed) (guards : List Disjunction) (sequence : Option Sequence) (alternatives : Option Alternatives) (outer : ProbeOuter) → Completed (InSuffix part postfixed guards sequence alternatives outer)
unfolding probe_step
suffix_completes BehindColon postfixed guards sequence alternatives outer = step_completes _ (AfterPart (Suffixed postfixed (Labelled Plain)) guards sequence alternatives outer) Small refl (part_completes outer (Suffixed postfixed (Labelled Plain)) guards sequence alternatives)
suffix_completes BehindSlash postfixed guards sequence alternatives outer = step_completes _ (AfterPart (Suffixed postfixed (ResetBy Plain)) guards sequence alternatives outer) Small refl (part_completes outer (Suffixed postfixed (ResetBy Plain)) guards sequence alternatives)
suffix_completes BehindBrace postfixed guards sequence alternatives outer = step_completes _ (InSuffix BehindLeast postfixed guards sequence alternatives outer) Number refl (least_completes postfixed guards sequence alternatives outer)
suffix_completes BehindLeast postfixed guards sequence alternatives outer = least_completes postfixed guards sequence alternatives outer
suffix_completes BehindRangeComma postfixed guards sequence alternatives outer = comma_completes postfixed guards sequence alternatives outer
suffix_completes BehindMost postfixed guards sequence alternatives outer = most_completes postfixed guards sequence alternatives outer

-- brackets of guards are closed likewise, and then the brace
guard_completes : (outer : GuardOuter) (negation : Negation) (conjunction : Option Conjunction) (disjunction : Option Disjunction) → Completed (AfterNegation negation conjunction disjunction outer)
unfolding probe_step
guard_completes (InBraces guards sequence alternatives outer) negation conjunction disjunction =
    step_completes _ (WantAtom (whole_guard negation conjunction disjunction ∷ guards) sequence alternatives outer) (Mark ClosingBrace) refl
    (atom_completes (whole_guard negation conjunction disjunction ∷ guards) sequence alternatives outer)
guard_completes (InGuardParentheses count conjunction' disjunction' outer) negation conjunction disjunction =
    let whole : Negation = negated_by count (EnclosedGuard (whole_guard negation conjunction disjunction)) in
    step_completes _ (AfterNegation whole conjunction' disjunction' outer) (Mark Closing) refl (guard_completes outer whole conjunction' disjunction')

-- the number, the relation and the constant of a comparison
bound_completes : (sign : RelationSign) (count : ℕ) (conjunction : Option Conjunction) (disjunction : Option Disjunction) (outer : GuardOuter) → Completed (WantBound sign count conjunction disjunction outer)
unfolding probe_step
bound_completes sign count conjunction disjunction outer = step_completes _ (AfterNegation (negated_by count (Comparison sign)) conjunction disjunction outer) Number refl (guard_completes outer (negated_by count (Comparison sign)) conjunction disjunction)

relation_completes : (count : ℕ) (conjunction : Option Conjunction) (disjunction : Option Disjunction) (outer : GuardOuter) → Completed (WantRelation count conjunction disjunction outer)
unfolding probe_step
relation_completes count conjunction disjunction outer = step_completes _ (WantBound Below count conjunction disjunction outer) (Mark Less) refl (bound_completes Below count conjunction disjunction outer)

-- each state can be completed
pub completed : (state : ProbeState) → Completed state
unfolding probe_step
completed (WantAtom guards sequence alternatives outer) = atom_completes guards sequence alternatives outer
completed (AfterPart postfixed guards sequence alternatives outer) = part_completes outer postfixed guards sequence alternatives
completed (InSuffix part postfixed guards sequence alternatives outer) = suffix_completes part postfixed guards sequence alternatives outer
completed (WantNegation count conjunction disjunction outer) = step_completes _ (WantRelation count conjunction disjunction outer) Capital refl (relation_completes count conjunction disjunction outer)
completed (WantRelation count conjunction disjunction outer) = relation_completes count conjunction disjunction outer
completed (WantBound sign count conjunction disjunction outer) = bound_completes sign count conjunction disjunction outer
completed (AfterNegation negation conjunction disjunction outer) = guard_completes outer negation conjunction disjunction
