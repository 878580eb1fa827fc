-- The machine reads what the grammar spells: from the state that wants a part, the part's terminals lead to the state after it.
use Rattle.std.proofs.Common.{◌≡◌, ℕ, suc, List, [], ◌∷◌, ◌++◌, Option, Some, None, refl, ap, sym, ◌∙◌, append_assoc, append-nil}
use Rattle.pepa_lexer.specs.declared.kinds.Sign.TheVariants.{Closing, Comma, And, Or, Bar, ClosingBrace}
use Rattle.token_grammar.specs.declared.terminal.Terminal.{Terminal}
use Rattle.token_grammar.specs.declared.terminal.Terminal.TheVariants.{Number, Mark}
use Rattle.token_grammar.proofs.Runs.{run_step}
use Rattle.token_grammar.specs.Machines.{runs}
use Rattle.token_grammar.specs.SmallNames.{Plain, Probing}
use Rattle.probe_reader.specs.ProbeGrammar.{RelationSign, Below, BelowOrEqual, Above, AboveOrEqual, Same, Different, Disjunction, OneConjunction, Disjoined, Conjunction, OneNegation, Conjoined, Negation, Negated, EnclosedGuard, Comparison, Suffix, Labelled, Starred, Repeated, Optional, Counted, Ranged, ResetBy, Alternatives, OneSequence, Alternated, Sequence, OneGuarded, Sequenced, GuardedPart, OnePostfixed, WithGuard, Postfixed, OneAtom, Suffixed, Atom, LetterNamed, Enclosed, relation_spelled, disjunction_spelled, conjunction_spelled, negation_spelled, suffix_spelled, alternatives_spelled, sequence_spelled, guarded_spelled, postfixed_spelled, atom_spelled}
use Rattle.probe_reader.specs.ProbeMachine.{ProbeOuter, InParentheses, GuardOuter, InBraces, InGuardParentheses, ProbeState, WantAtom, AfterPart, WantNegation, WantRelation, WantBound, AfterNegation, with_guards, sequence_with, alternatives_with, whole_alternatives, negated_by, whole_guard, closes_alternatives, closes_guard, probe_step, probe_run, probe_start, behind_conjunction, behind_guard, behind_part, behind_sequence, behind_alternatives, Outermost}

-- ---- steps after whole parts

-- a `&&` makes a whole conjunction the left side of the next; likewise for the others below
pub and_behind_conjunction : (conjunction : Conjunction) (disjunction : Option Disjunction) (outer : GuardOuter) → probe_step (behind_conjunction conjunction disjunction outer) (Mark And) ≡ Some (WantNegation 0 (Some conjunction) disjunction outer)
unfolding probe_step
and_behind_conjunction (OneNegation negation) disjunction outer = refl
and_behind_conjunction (Conjoined conjunction negation) disjunction outer = refl

pub or_behind_guard : (guard : Disjunction) (outer : GuardOuter) → probe_step (behind_guard guard outer) (Mark Or) ≡ Some (WantNegation 0 None (Some guard) outer)
unfolding probe_step
or_behind_guard (OneConjunction (OneNegation negation)) outer = refl
or_behind_guard (OneConjunction (Conjoined conjunction negation)) outer = refl
or_behind_guard (Disjoined disjunction (OneNegation negation)) outer = refl
or_behind_guard (Disjoined disjunction (Conjoined conjunction negation)) outer = refl

-- only `}` and `)` close a guard, and after a negation they do nothing else
pub closes_after_negation : (negation : Negation) (conjunction : Option Conjunction) (disjunction : Option Disjunction) (outer : GuardOuter) (terminal : Terminal) (next : ProbeState) → closes_guard (whole_guard negation conjunction disjunction) outer terminal ≡ Some next → probe_step (AfterNegation negation conjunction disjunction outer) terminal ≡ Some next
unfolding probe_step
closes_after_negation negation conjunction disjunction (InBraces guards sequence alternatives outer) (Mark ClosingBrace) next h = h
closes_after_negation negation conjunction disjunction (InGuardParentheses count conjunction' disjunction' outer) (Mark Closing) next h = h
closes_after_negation negation conjunction disjunction _ _ next h = cc

-- what closes a guard can be after it
pub guard_closes : (guard : Disjunction) (outer : GuardOuter) (terminal : Terminal) (next : ProbeState) → closes_guard guard outer terminal ≡ Some next → probe_step (behind_guard guard outer) terminal ≡ Some next
guard_closes (OneConjunction (OneNegation negation)) outer terminal next h = closes_after_negation negation None None outer terminal next h
guard_closes (OneConjunction (Conjoined conjunction negation)) outer terminal next h = closes_after_negation negation (Some conjunction) None outer terminal next h
guard_closes (Disjoined disjunction (OneNegation negation)) outer terminal next h = closes_after_negation negation None (Some disjunction) outer terminal next h
guard_closes (Disjoined disjunction (Conjoined conjunction negation)) outer terminal next h = closes_after_negation negation (Some conjunction) (Some disjunction) outer terminal next h

-- a part is whole with the guards before it
comma_behind_part : (part : GuardedPart) (guards : List Disjunction) (sequence : Option Sequence) (alternatives : Option Alternatives) (outer : ProbeOuter) → probe_step (behind_part part guards sequence alternatives outer) (Mark Comma) ≡ Some (WantAtom [] (Some (sequence_with sequence (with_guards guards part))) alternatives outer)
unfolding probe_step
comma_behind_part (OnePostfixed postfixed) guards sequence alternatives outer = refl
comma_behind_part (WithGuard guard part) guards sequence alternatives outer = comma_behind_part part (guard ∷ guards) sequence alternatives outer

pub comma_behind_sequence : (sequence : Sequence) (alternatives : Option Alternatives) (outer : ProbeOuter) → probe_step (behind_sequence sequence alternatives outer) (Mark Comma) ≡ Some (WantAtom [] (Some sequence) alternatives outer)
comma_behind_sequence (OneGuarded part) alternatives outer = comma_behind_part part [] None alternatives outer
comma_behind_sequence (Sequenced sequence part) alternatives outer = comma_behind_part part [] (Some sequence) alternatives outer

bar_behind_part : (part : GuardedPart) (guards : List Disjunction) (sequence : Option Sequence) (alternatives : Option Alternatives) (outer : ProbeOuter) → probe_step (behind_part part guards sequence alternatives outer) (Mark Bar) ≡ Some (WantAtom [] None (Some (alternatives_with alternatives (sequence_with sequence (with_guards guards part)))) outer)
unfolding probe_step
bar_behind_part (OnePostfixed postfixed) guards sequence alternatives outer = refl
bar_behind_part (WithGuard guard part) guards sequence alternatives outer = bar_behind_part part (guard ∷ guards) sequence alternatives outer

bar_behind_sequence : (sequence : Sequence) (alternatives : Option Alternatives) (outer : ProbeOuter) → probe_step (behind_sequence sequence alternatives outer) (Mark Bar) ≡ Some (WantAtom [] None (Some (alternatives_with alternatives sequence)) outer)
bar_behind_sequence (OneGuarded part) alternatives outer = bar_behind_part part [] None alternatives outer
bar_behind_sequence (Sequenced sequence part) alternatives outer = bar_behind_part part [] (Some sequence) alternatives outer

pub bar_behind_alternatives : (alternatives : Alternatives) (outer : ProbeOuter) → probe_step (behind_alternatives alternatives outer) (Mark Bar) ≡ Some (WantAtom [] None (Some alternatives) outer)
bar_behind_alternatives (OneSequence sequence) outer = bar_behind_sequence sequence None outer
bar_behind_alternatives (Alternated alternatives sequence) outer = bar_behind_sequence sequence (Some alternatives) outer

-- only `)` closes alternatives
closes_after_part : (postfixed : Postfixed) (guards : List Disjunction) (sequence : Option Sequence) (alternatives : Option Alternatives) (outer : ProbeOuter) (terminal : Terminal) (next : ProbeState) → closes_alternatives (whole_alternatives postfixed guards sequence alternatives) outer terminal ≡ Some next → probe_step (AfterPart postfixed guards sequence alternatives outer) terminal ≡ Some next
unfolding probe_step
closes_after_part postfixed guards sequence alternatives (InParentheses guards' sequence' alternatives' outer) (Mark Closing) next h = h
closes_after_part postfixed guards sequence alternatives _ _ next h = cc

part_closes : (part : GuardedPart) (guards : List Disjunction) (sequence : Option Sequence) (alternatives : Option Alternatives) (outer : ProbeOuter) (terminal : Terminal) (next : ProbeState) → closes_alternatives (alternatives_with alternatives (sequence_with sequence (with_guards guards part))) outer terminal ≡ Some next → probe_step (behind_part part guards sequence alternatives outer) terminal ≡ Some next
part_closes (OnePostfixed postfixed) guards sequence alternatives outer terminal next h = closes_after_part postfixed guards sequence alternatives outer terminal next h
part_closes (WithGuard guard part) guards sequence alternatives outer terminal next h = part_closes part (guard ∷ guards) sequence alternatives outer terminal next h

-- what closes alternatives can be after them
pub alternatives_close : (alternatives : Alternatives) (outer : ProbeOuter) (terminal : Terminal) (next : ProbeState) → closes_alternatives alternatives outer terminal ≡ Some next → probe_step (behind_alternatives alternatives outer) terminal ≡ Some next
alternatives_close (OneSequence (OneGuarded part)) outer terminal next h = part_closes part [] None None outer terminal next h
alternatives_close (OneSequence (Sequenced sequence part)) outer terminal next h = part_closes part [] (Some sequence) None outer terminal next h
alternatives_close (Alternated alternatives (OneGuarded part)) outer terminal next h = part_closes part [] None (Some alternatives) outer terminal next h
alternatives_close (Alternated alternatives (Sequenced sequence part)) outer terminal next h = part_closes part [] (Some sequence) (Some alternatives) outer terminal next h

-- ---- guards

-- the relation of a comparison
pub relation_begins : (sign : RelationSign) (count : ℕ) (conjunction : Option Conjunction) (disjunction : Option Disjunction) (outer : GuardOuter) → probe_step (WantRelation count conjunction disjunction outer) (relation_spelled sign) ≡ Some (WantBound sign count conjunction disjunction outer)
unfolding probe_step
relation_begins Below count conjunction disjunction outer = refl
relation_begins BelowOrEqual count conjunction disjunction outer = refl
relation_begins Above count conjunction disjunction outer = refl
relation_begins AboveOrEqual count conjunction disjunction outer = refl
relation_begins Same count conjunction disjunction outer = refl
relation_begins Different count conjunction disjunction outer = refl

mutual
  unfolding probe_step runs

  -- a negation leads to the state after it, whatever is after; likewise for the others below
  negation_onward : (negation : Negation) (count : ℕ) (conjunction : Option Conjunction) (disjunction : Option Disjunction) (outer : GuardOuter) (rest : List Terminal) → probe_run (WantNegation count conjunction disjunction outer) (negation_spelled negation ++ rest) ≡ probe_run (AfterNegation (negated_by count negation) conjunction disjunction outer) rest
  negation_onward (Negated negation) count conjunction disjunction outer rest = negation_onward negation (suc count) conjunction disjunction outer rest
  negation_onward (EnclosedGuard guard) count conjunction disjunction outer rest =
      ap (probe_run (WantNegation 0 None None (InGuardParentheses count conjunction disjunction outer))) (append_assoc (disjunction_spelled guard) (Mark Closing ∷ []) rest)
      ∙ guard_onward guard (InGuardParentheses count conjunction disjunction outer) (Mark Closing ∷ rest)
      ∙ run_step probe_step (behind_guard guard (InGuardParentheses count conjunction disjunction outer)) (AfterNegation (negated_by count (EnclosedGuard guard)) conjunction disjunction outer) (Mark Closing) rest (guard_closes guard (InGuardParentheses count conjunction disjunction outer) (Mark Closing) (AfterNegation (negated_by count (EnclosedGuard guard)) conjunction disjunction outer) refl)
  negation_onward (Comparison sign) count conjunction disjunction outer rest = run_step probe_step (WantRelation count conjunction disjunction outer) (WantBound sign count conjunction disjunction outer) (relation_spelled sign) (Number ∷ rest) (relation_begins sign count conjunction disjunction outer)

  conjunction_onward : (whole : Conjunction) (disjunction : Option Disjunction) (outer : GuardOuter) (rest : List Terminal) → probe_run (WantNegation 0 None disjunction outer) (conjunction_spelled whole ++ rest) ≡ probe_run (behind_conjunction whole disjunction outer) rest
  conjunction_onward (OneNegation negation) disjunction outer rest = negation_onward negation 0 None disjunction outer rest
  conjunction_onward (Conjoined conjunction negation) disjunction outer rest =
      ap (probe_run (WantNegation 0 None disjunction outer)) (append_assoc (conjunction_spelled conjunction) (Mark And ∷ negation_spelled negation) rest)
      ∙ conjunction_onward conjunction disjunction outer (Mark And ∷ (negation_spelled negation ++ rest))
      ∙ run_step probe_step _ _ (Mark And) (negation_spelled negation ++ rest) (and_behind_conjunction conjunction disjunction outer)
      ∙ negation_onward negation 0 (Some conjunction) disjunction outer rest

  guard_onward : (guard : Disjunction) (outer : GuardOuter) (rest : List Terminal) → probe_run (WantNegation 0 None None outer) (disjunction_spelled guard ++ rest) ≡ probe_run (behind_guard guard outer) rest
  guard_onward (OneConjunction conjunction) outer rest = conjunction_onward conjunction None outer rest
  guard_onward (Disjoined disjunction conjunction) outer rest =
      ap (probe_run (WantNegation 0 None None outer)) (append_assoc (disjunction_spelled disjunction) (Mark Or ∷ conjunction_spelled conjunction) rest)
      ∙ guard_onward disjunction outer (Mark Or ∷ (conjunction_spelled conjunction ++ rest))
      ∙ run_step probe_step _ _ (Mark Or) (conjunction_spelled conjunction ++ rest) (or_behind_guard disjunction outer)
      ∙ conjunction_onward conjunction (Some disjunction) outer rest

-- ---- expressions

suffix_onward : (suffix : Suffix) (postfixed : Postfixed) (guards : List Disjunction) (sequence : Option Sequence) (alternatives : Option Alternatives) (outer : ProbeOuter) (rest : List Terminal) → probe_run (AfterPart postfixed guards sequence alternatives outer) (suffix_spelled suffix ++ rest) ≡ probe_run (AfterPart (Suffixed postfixed suffix) guards sequence alternatives outer) rest
unfolding probe_step runs
suffix_onward (Labelled Plain) postfixed guards sequence alternatives outer rest = refl
suffix_onward (Labelled Probing) postfixed guards sequence alternatives outer rest = refl
suffix_onward Starred postfixed guards sequence alternatives outer rest = refl
suffix_onward Repeated postfixed guards sequence alternatives outer rest = refl
suffix_onward Optional postfixed guards sequence alternatives outer rest = refl
suffix_onward Counted postfixed guards sequence alternatives outer rest = refl
suffix_onward Ranged postfixed guards sequence alternatives outer rest = refl
suffix_onward (ResetBy Plain) postfixed guards sequence alternatives outer rest = refl
suffix_onward (ResetBy Probing) postfixed guards sequence alternatives outer rest = refl

mutual
  unfolding probe_step runs

  atom_onward : (atom : Atom) (guards : List Disjunction) (sequence : Option Sequence) (alternatives : Option Alternatives) (outer : ProbeOuter) (rest : List Terminal) → probe_run (WantAtom guards sequence alternatives outer) (atom_spelled atom ++ rest) ≡ probe_run (AfterPart (OneAtom atom) guards sequence alternatives outer) rest
  atom_onward (LetterNamed Plain) guards sequence alternatives outer rest = refl
  atom_onward (LetterNamed Probing) guards sequence alternatives outer rest = refl
  atom_onward (Enclosed inner) guards sequence alternatives outer rest =
      ap (probe_run (WantAtom [] None None (InParentheses guards sequence alternatives outer))) (append_assoc (alternatives_spelled inner) (Mark Closing ∷ []) rest)
      ∙ alternatives_onward inner (InParentheses guards sequence alternatives outer) (Mark Closing ∷ rest)
      ∙ run_step probe_step _ _ (Mark Closing) rest (alternatives_close inner (InParentheses guards sequence alternatives outer) (Mark Closing) (AfterPart (OneAtom (Enclosed inner)) guards sequence alternatives outer) refl)

  postfixed_onward : (postfixed : Postfixed) (guards : List Disjunction) (sequence : Option Sequence) (alternatives : Option Alternatives) (outer : ProbeOuter) (rest : List Terminal) → probe_run (WantAtom guards sequence alternatives outer) (postfixed_spelled postfixed ++ rest) ≡ probe_run (AfterPart postfixed guards sequence alternatives outer) rest
  postfixed_onward (OneAtom atom) guards sequence alternatives outer rest = atom_onward atom guards sequence alternatives outer rest
  postfixed_onward (Suffixed postfixed suffix) guards sequence alternatives outer rest =
      ap (probe_run (WantAtom guards sequence alternatives outer)) (append_assoc (postfixed_spelled postfixed) (suffix_spelled suffix) rest)
      ∙ postfixed_onward postfixed guards sequence alternatives outer (suffix_spelled suffix ++ rest)
      ∙ suffix_onward suffix postfixed guards sequence alternatives outer rest

  part_onward : (part : GuardedPart) (guards : List Disjunction) (sequence : Option Sequence) (alternatives : Option Alternatives) (outer : ProbeOuter) (rest : List Terminal) → probe_run (WantAtom guards sequence alternatives outer) (guarded_spelled part ++ rest) ≡ probe_run (behind_part part guards sequence alternatives outer) rest
  part_onward (OnePostfixed postfixed) guards sequence alternatives outer rest = postfixed_onward postfixed guards sequence alternatives outer rest
  part_onward (WithGuard guard part) guards sequence alternatives outer rest =
      ap (probe_run (WantNegation 0 None None (InBraces guards sequence alternatives outer))) (append_assoc (disjunction_spelled guard) (Mark ClosingBrace ∷ guarded_spelled part) rest)
      ∙ guard_onward guard (InBraces guards sequence alternatives outer) (Mark ClosingBrace ∷ (guarded_spelled part ++ rest))
      ∙ run_step probe_step _ _ (Mark ClosingBrace) (guarded_spelled part ++ rest) (guard_closes guard (InBraces guards sequence alternatives outer) (Mark ClosingBrace) (WantAtom (guard ∷ guards) sequence alternatives outer) refl)
      ∙ part_onward part (guard ∷ guards) sequence alternatives outer rest

  sequence_onward : (whole : Sequence) (alternatives : Option Alternatives) (outer : ProbeOuter) (rest : List Terminal) → probe_run (WantAtom [] None alternatives outer) (sequence_spelled whole ++ rest) ≡ probe_run (behind_sequence whole alternatives outer) rest
  sequence_onward (OneGuarded part) alternatives outer rest = part_onward part [] None alternatives outer rest
  sequence_onward (Sequenced sequence part) alternatives outer rest =
      ap (probe_run (WantAtom [] None alternatives outer)) (append_assoc (sequence_spelled sequence) (Mark Comma ∷ guarded_spelled part) rest)
      ∙ sequence_onward sequence alternatives outer (Mark Comma ∷ (guarded_spelled part ++ rest))
      ∙ run_step probe_step _ _ (Mark Comma) (guarded_spelled part ++ rest) (comma_behind_sequence sequence alternatives outer)
      ∙ part_onward part [] (Some sequence) alternatives outer rest

  alternatives_onward : (whole : Alternatives) (outer : ProbeOuter) (rest : List Terminal) → probe_run (WantAtom [] None None outer) (alternatives_spelled whole ++ rest) ≡ probe_run (behind_alternatives whole outer) rest
  alternatives_onward (OneSequence sequence) outer rest = sequence_onward sequence None outer rest
  alternatives_onward (Alternated alternatives sequence) outer rest =
      ap (probe_run (WantAtom [] None None outer)) (append_assoc (alternatives_spelled alternatives) (Mark Bar ∷ sequence_spelled sequence) rest)
      ∙ alternatives_onward alternatives outer (Mark Bar ∷ (sequence_spelled sequence ++ rest))
      ∙ run_step probe_step _ _ (Mark Bar) (sequence_spelled sequence ++ rest) (bar_behind_alternatives alternatives outer)
      ∙ sequence_onward sequence (Some alternatives) outer rest

-- ---- the same with nothing after

pub negation_runs : (negation : Negation) (count : ℕ) (conjunction : Option Conjunction) (disjunction : Option Disjunction) (outer : GuardOuter) → probe_run (WantNegation count conjunction disjunction outer) (negation_spelled negation) ≡ Some (AfterNegation (negated_by count negation) conjunction disjunction outer)
unfolding runs
negation_runs negation count conjunction disjunction outer = ap (probe_run (WantNegation count conjunction disjunction outer)) (sym (append-nil (negation_spelled negation))) ∙ negation_onward negation count conjunction disjunction outer []

pub conjunction_runs : (conjunction : Conjunction) (disjunction : Option Disjunction) (outer : GuardOuter) → probe_run (WantNegation 0 None disjunction outer) (conjunction_spelled conjunction) ≡ Some (behind_conjunction conjunction disjunction outer)
unfolding runs
conjunction_runs conjunction disjunction outer = ap (probe_run (WantNegation 0 None disjunction outer)) (sym (append-nil (conjunction_spelled conjunction))) ∙ conjunction_onward conjunction disjunction outer []

pub guard_runs : (guard : Disjunction) (outer : GuardOuter) → probe_run (WantNegation 0 None None outer) (disjunction_spelled guard) ≡ Some (behind_guard guard outer)
unfolding runs
guard_runs guard outer = ap (probe_run (WantNegation 0 None None outer)) (sym (append-nil (disjunction_spelled guard))) ∙ guard_onward guard outer []

pub suffix_runs : (suffix : Suffix) (postfixed : Postfixed) (guards : List Disjunction) (sequence : Option Sequence) (alternatives : Option Alternatives) (outer : ProbeOuter) → probe_run (AfterPart postfixed guards sequence alternatives outer) (suffix_spelled suffix) ≡ Some (AfterPart (Suffixed postfixed suffix) guards sequence alternatives outer)
unfolding runs
suffix_runs suffix postfixed guards sequence alternatives outer = ap (probe_run (AfterPart postfixed guards sequence alternatives outer)) (sym (append-nil (suffix_spelled suffix))) ∙ suffix_onward suffix postfixed guards sequence alternatives outer []

pub postfixed_runs : (postfixed : Postfixed) (guards : List Disjunction) (sequence : Option Sequence) (alternatives : Option Alternatives) (outer : ProbeOuter) → probe_run (WantAtom guards sequence alternatives outer) (postfixed_spelled postfixed) ≡ Some (AfterPart postfixed guards sequence alternatives outer)
unfolding runs
postfixed_runs postfixed guards sequence alternatives outer = ap (probe_run (WantAtom guards sequence alternatives outer)) (sym (append-nil (postfixed_spelled postfixed))) ∙ postfixed_onward postfixed guards sequence alternatives outer []

pub sequence_runs : (sequence : Sequence) (alternatives : Option Alternatives) (outer : ProbeOuter) → probe_run (WantAtom [] None alternatives outer) (sequence_spelled sequence) ≡ Some (behind_sequence sequence alternatives outer)
unfolding runs
sequence_runs sequence alternatives outer = ap (probe_run (WantAtom [] None alternatives outer)) (sym (append-nil (sequence_spelled sequence))) ∙ sequence_onward sequence alternatives outer []

pub alternatives_run : (alternatives : Alternatives) (outer : ProbeOuter) → probe_run (WantAtom [] None None outer) (alternatives_spelled alternatives) ≡ Some (behind_alternatives alternatives outer)
unfolding runs
alternatives_run alternatives outer = ap (probe_run (WantAtom [] None None outer)) (sym (append-nil (alternatives_spelled alternatives))) ∙ alternatives_onward alternatives outer []

-- an expression is read from the start
pub expression_runs : (alternatives : Alternatives) → probe_run probe_start (alternatives_spelled alternatives) ≡ Some (behind_alternatives alternatives Outermost)
expression_runs alternatives = alternatives_run alternatives Outermost
