-- The machine reads nothing but what the grammar spells: each state says what has been read.
use Rattle.std.proofs.Common.{◌≡◌, ℕ, zero, suc, List, [], ◌∷◌, ◌++◌, Option, Some, None, refl, ap, sym, subst, ◌∙◌, append_assoc, append-nil}
use Rattle.std.proofs.lemmas.Option.{same_Some, option_and_then_some}
use Rattle.pepa_lexer.specs.declared.kinds.Sign.TheVariants.{Opening, Closing, Comma, Plus, Star, Slash, Less, Greater, LessOrEqual, GreaterOrEqual, EqualTo, NotEqualTo, Not, And, Or, Bar, OpeningBrace, ClosingBrace, Colon, Question}
use Rattle.token_grammar.specs.declared.terminal.Terminal.{Terminal}
use Rattle.token_grammar.specs.declared.terminal.Terminal.TheVariants.{Small, Probe, Capital, Number, Mark}
use Rattle.token_grammar.specs.Machines.{runs}
use Rattle.token_grammar.specs.SmallNames.{Plain, Probing}
use Rattle.probe_reader.specs.ProbeGrammar.{RelationSign, Below, BelowOrEqual, Above, AboveOrEqual, Same, Different, Disjunction, Conjunction, Negation, Negated, EnclosedGuard, Comparison, Labelled, Starred, Repeated, Optional, Counted, Ranged, ResetBy, Alternatives, Sequence, GuardedPart, OnePostfixed, WithGuard, Postfixed, OneAtom, Suffixed, LetterNamed, Enclosed, relation_spelled, disjunction_spelled, conjunction_spelled, negation_spelled, alternatives_spelled, sequence_spelled, guarded_spelled, postfixed_spelled}
use Rattle.probe_reader.specs.ProbeMachine.{ProbeOuter, Outermost, InParentheses, GuardOuter, InBraces, InGuardParentheses, SuffixPart, BehindColon, BehindSlash, BehindBrace, BehindLeast, BehindRangeComma, BehindMost, ProbeState, WantAtom, AfterPart, InSuffix, WantNegation, WantRelation, WantBound, AfterNegation, with_guards, whole_sequence, whole_alternatives, negated_by, conjunction_with, whole_guard, want_atom_step, closes_alternatives, after_part_step, in_suffix_step, want_negation_step, want_relation_step, want_bound_step, closes_guard, after_negation_step, probe_step, probe_run, probe_start}

-- ---- what has been read to come to a state

-- the guards before a part; the outermost is the last of the list, and is first
abbrev pub guards_text : List Disjunction → List Terminal
guards_text [] = []
guards_text (guard ∷ more) = guards_text more ++ Mark OpeningBrace ∷ (disjunction_spelled guard ++ Mark ClosingBrace ∷ [])

-- a sequence and its `,`
abbrev pub sequence_text : Option Sequence → List Terminal
sequence_text None = []
sequence_text (Some sequence) = sequence_spelled sequence ++ Mark Comma ∷ []

-- alternatives and their `|`
abbrev pub alternatives_text : Option Alternatives → List Terminal
alternatives_text None = []
alternatives_text (Some alternatives) = alternatives_spelled alternatives ++ Mark Bar ∷ []

-- what is before alternatives
abbrev pub probe_outer_text : ProbeOuter → List Terminal
probe_outer_text Outermost = []
probe_outer_text (InParentheses guards sequence alternatives outer) = probe_outer_text outer ++ (alternatives_text alternatives ++ (sequence_text sequence ++ (guards_text guards ++ Mark Opening ∷ [])))

-- before a part, and what the part begins with
abbrev pub part_text : List Disjunction → Option Sequence → Option Alternatives → ProbeOuter → List Terminal → List Terminal
part_text guards sequence alternatives outer behind = probe_outer_text outer ++ (alternatives_text alternatives ++ (sequence_text sequence ++ (guards_text guards ++ behind)))

-- so many `!`
abbrev pub count_text : ℕ → List Terminal
count_text zero = []
count_text (suc count) = Mark Not ∷ count_text count

-- a conjunction and its `&&`
abbrev pub conjunction_text : Option Conjunction → List Terminal
conjunction_text None = []
conjunction_text (Some conjunction) = conjunction_spelled conjunction ++ Mark And ∷ []

-- a disjunction and its `||`
abbrev pub disjunction_text : Option Disjunction → List Terminal
disjunction_text None = []
disjunction_text (Some disjunction) = disjunction_spelled disjunction ++ Mark Or ∷ []

-- what is before a guard
abbrev pub guard_outer_text : GuardOuter → List Terminal
guard_outer_text (InBraces guards sequence alternatives outer) = part_text guards sequence alternatives outer (Mark OpeningBrace ∷ [])
guard_outer_text (InGuardParentheses count conjunction disjunction outer) = guard_outer_text outer ++ (disjunction_text disjunction ++ (conjunction_text conjunction ++ (count_text count ++ Mark Opening ∷ [])))

-- before a negation, and what it begins with
abbrev pub negation_text : ℕ → Option Conjunction → Option Disjunction → GuardOuter → List Terminal → List Terminal
negation_text count conjunction disjunction outer behind = guard_outer_text outer ++ (disjunction_text disjunction ++ (conjunction_text conjunction ++ (count_text count ++ behind)))

-- so much of a suffix
abbrev pub suffix_text : SuffixPart → List Terminal
suffix_text BehindColon = Mark Colon ∷ []
suffix_text BehindSlash = Mark Slash ∷ []
suffix_text BehindBrace = Mark OpeningBrace ∷ []
suffix_text BehindLeast = Mark OpeningBrace ∷ Number ∷ []
suffix_text BehindRangeComma = Mark OpeningBrace ∷ Number ∷ Mark Comma ∷ []
suffix_text BehindMost = Mark OpeningBrace ∷ Number ∷ Mark Comma ∷ Number ∷ []

-- what has been read to come to the state
abbrev pub text_of_probe : ProbeState → List Terminal
text_of_probe (WantAtom guards sequence alternatives outer) = part_text guards sequence alternatives outer []
text_of_probe (AfterPart postfixed guards sequence alternatives outer) = part_text guards sequence alternatives outer (postfixed_spelled postfixed)
text_of_probe (InSuffix part postfixed guards sequence alternatives outer) = part_text guards sequence alternatives outer (postfixed_spelled postfixed ++ suffix_text part)
text_of_probe (WantNegation count conjunction disjunction outer) = negation_text count conjunction disjunction outer []
text_of_probe (WantRelation count conjunction disjunction outer) = negation_text count conjunction disjunction outer (Capital ∷ [])
text_of_probe (WantBound sign count conjunction disjunction outer) = negation_text count conjunction disjunction outer (Capital ∷ relation_spelled sign ∷ [])
text_of_probe (AfterNegation negation conjunction disjunction outer) = guard_outer_text outer ++ (disjunction_text disjunction ++ (conjunction_text conjunction ++ negation_spelled negation))

-- ---- the texts of whole parts

-- a part is its guards and what they are before; likewise for the others below
guards_with_text : (guards : List Disjunction) (part : GuardedPart) → guarded_spelled (with_guards guards part) ≡ guards_text guards ++ guarded_spelled part
guards_with_text [] part = refl
guards_with_text (guard ∷ more) part = guards_with_text more (WithGuard guard part) ∙ simp append_assoc

sequence_with_text : (postfixed : Postfixed) (guards : List Disjunction) (sequence : Option Sequence) → sequence_spelled (whole_sequence postfixed guards sequence) ≡ sequence_text sequence ++ (guards_text guards ++ postfixed_spelled postfixed)
sequence_with_text postfixed guards None = guards_with_text guards (OnePostfixed postfixed)
sequence_with_text postfixed guards (Some sequence) = simp (append_assoc, guards_with_text guards (OnePostfixed postfixed))

pub alternatives_with_text : (postfixed : Postfixed) (guards : List Disjunction) (sequence : Option Sequence) (alternatives : Option Alternatives) → alternatives_spelled (whole_alternatives postfixed guards sequence alternatives) ≡ alternatives_text alternatives ++ (sequence_text sequence ++ (guards_text guards ++ postfixed_spelled postfixed))
alternatives_with_text postfixed guards sequence None = sequence_with_text postfixed guards sequence
alternatives_with_text postfixed guards sequence (Some alternatives) = simp (append_assoc, sequence_with_text postfixed guards sequence)

-- one `!` more at the end
count_more : (count : ℕ) → count_text (suc count) ≡ count_text count ++ Mark Not ∷ []
count_more zero = refl
count_more (suc count) = ap (λ l. Mark Not ∷ l) (count_more count)

negated_text : (count : ℕ) (negation : Negation) → negation_spelled (negated_by count negation) ≡ count_text count ++ negation_spelled negation
negated_text zero negation = refl
negated_text (suc count) negation = negated_text count (Negated negation) ∙ sym (append_assoc (count_text count) (Mark Not ∷ []) (negation_spelled negation)) ∙ ap (λ l. l ++ negation_spelled negation) (sym (count_more count))

conjunction_with_text : (negation : Negation) (conjunction : Option Conjunction) → conjunction_spelled (conjunction_with conjunction negation) ≡ conjunction_text conjunction ++ negation_spelled negation
conjunction_with_text negation None = refl
conjunction_with_text negation (Some conjunction) = simp append_assoc

guard_with_text : (negation : Negation) (conjunction : Option Conjunction) (disjunction : Option Disjunction) → disjunction_spelled (whole_guard negation conjunction disjunction) ≡ disjunction_text disjunction ++ (conjunction_text conjunction ++ negation_spelled negation)
guard_with_text negation conjunction None = conjunction_with_text negation conjunction
guard_with_text negation conjunction (Some disjunction) = simp (append_assoc, conjunction_with_text negation conjunction)

-- ---- each step reads its terminal

-- what is said of the state that a step makes holds of the state that it comes to
reads : (made next : ProbeState) (text : List Terminal) → Some made ≡ Some next → text_of_probe made ≡ text → text_of_probe next ≡ text
reads made next text h e = subst (λ state. text_of_probe state ≡ text) (same_Some made next h) e

want_atom_reads : (guards : List Disjunction) (sequence : Option Sequence) (alternatives : Option Alternatives) (outer : ProbeOuter) (terminal : Terminal) (next : ProbeState) → want_atom_step guards sequence alternatives outer terminal ≡ Some next → text_of_probe next ≡ part_text guards sequence alternatives outer [] ++ terminal ∷ []
want_atom_reads guards sequence alternatives outer Small next h = reads (AfterPart (OneAtom (LetterNamed Plain)) guards sequence alternatives outer) next _ h (simp (append_assoc, append-nil))
want_atom_reads guards sequence alternatives outer Probe next h = reads (AfterPart (OneAtom (LetterNamed Probing)) guards sequence alternatives outer) next _ h (simp (append_assoc, append-nil))
want_atom_reads guards sequence alternatives outer (Mark Opening) next h = reads (WantAtom [] None None (InParentheses guards sequence alternatives outer)) next _ h (simp (append_assoc, append-nil))
want_atom_reads guards sequence alternatives outer (Mark OpeningBrace) next h = reads (WantNegation zero None None (InBraces guards sequence alternatives outer)) next _ h (simp (append_assoc, append-nil))
want_atom_reads guards sequence alternatives outer _ next h = cc

-- what closes alternatives
closes_reads : (whole : Alternatives) (outer : ProbeOuter) (terminal : Terminal) (next : ProbeState) → closes_alternatives whole outer terminal ≡ Some next → text_of_probe next ≡ probe_outer_text outer ++ (alternatives_spelled whole ++ terminal ∷ [])
closes_reads whole (InParentheses guards sequence alternatives outer) (Mark Closing) next h = reads (AfterPart (OneAtom (Enclosed whole)) guards sequence alternatives outer) next _ h (simp append_assoc)
closes_reads whole _ _ next h = cc

-- after whole alternatives is what the state after them shows
behind_text : (postfixed : Postfixed) (guards : List Disjunction) (sequence : Option Sequence) (alternatives : Option Alternatives) (outer : ProbeOuter) (behind : List Terminal) → probe_outer_text outer ++ (alternatives_spelled (whole_alternatives postfixed guards sequence alternatives) ++ behind) ≡ text_of_probe (AfterPart postfixed guards sequence alternatives outer) ++ behind
behind_text postfixed guards sequence alternatives outer behind = simp (append_assoc, alternatives_with_text postfixed guards sequence alternatives)

after_part_reads : (postfixed : Postfixed) (guards : List Disjunction) (sequence : Option Sequence) (alternatives : Option Alternatives) (outer : ProbeOuter) (terminal : Terminal) (next : ProbeState) → after_part_step postfixed guards sequence alternatives outer terminal ≡ Some next → text_of_probe next ≡ text_of_probe (AfterPart postfixed guards sequence alternatives outer) ++ terminal ∷ []
after_part_reads postfixed guards sequence alternatives outer (Mark Colon) next h = reads (InSuffix BehindColon postfixed guards sequence alternatives outer) next _ h (simp append_assoc)
after_part_reads postfixed guards sequence alternatives outer (Mark Star) next h = reads (AfterPart (Suffixed postfixed Starred) guards sequence alternatives outer) next _ h (simp append_assoc)
after_part_reads postfixed guards sequence alternatives outer (Mark Plus) next h = reads (AfterPart (Suffixed postfixed Repeated) guards sequence alternatives outer) next _ h (simp append_assoc)
after_part_reads postfixed guards sequence alternatives outer (Mark Question) next h = reads (AfterPart (Suffixed postfixed Optional) guards sequence alternatives outer) next _ h (simp append_assoc)
after_part_reads postfixed guards sequence alternatives outer Number next h = reads (AfterPart (Suffixed postfixed Counted) guards sequence alternatives outer) next _ h (simp append_assoc)
after_part_reads postfixed guards sequence alternatives outer (Mark OpeningBrace) next h = reads (InSuffix BehindBrace postfixed guards sequence alternatives outer) next _ h (simp append_assoc)
after_part_reads postfixed guards sequence alternatives outer (Mark Slash) next h = reads (InSuffix BehindSlash postfixed guards sequence alternatives outer) next _ h (simp append_assoc)
after_part_reads postfixed guards sequence alternatives outer (Mark Comma) next h = reads (WantAtom [] (Some (whole_sequence postfixed guards sequence)) alternatives outer) next _ h (simp (append_assoc, append-nil, sequence_with_text postfixed guards sequence))
after_part_reads postfixed guards sequence alternatives outer (Mark Bar) next h = reads (WantAtom [] None (Some (whole_alternatives postfixed guards sequence alternatives)) outer) next _ h (simp (append_assoc, append-nil, alternatives_with_text postfixed guards sequence alternatives))
after_part_reads postfixed guards sequence alternatives outer terminal next h = closes_reads (whole_alternatives postfixed guards sequence alternatives) outer terminal next h ∙ behind_text postfixed guards sequence alternatives outer (terminal ∷ [])

in_suffix_reads : (part : SuffixPart) (postfixed : Postfixed) (guards : List Disjunction) (sequence : Option Sequence) (alternatives : Option Alternatives) (outer : ProbeOuter) (terminal : Terminal) (next : ProbeState) → in_suffix_step part postfixed guards sequence alternatives outer terminal ≡ Some next → text_of_probe next ≡ text_of_probe (InSuffix part postfixed guards sequence alternatives outer) ++ terminal ∷ []
in_suffix_reads BehindColon postfixed guards sequence alternatives outer Small next h = reads (AfterPart (Suffixed postfixed (Labelled Plain)) guards sequence alternatives outer) next _ h (simp append_assoc)
in_suffix_reads BehindColon postfixed guards sequence alternatives outer Probe next h = reads (AfterPart (Suffixed postfixed (Labelled Probing)) guards sequence alternatives outer) next _ h (simp append_assoc)
in_suffix_reads BehindSlash postfixed guards sequence alternatives outer Small next h = reads (AfterPart (Suffixed postfixed (ResetBy Plain)) guards sequence alternatives outer) next _ h (simp append_assoc)
in_suffix_reads BehindSlash postfixed guards sequence alternatives outer Probe next h = reads (AfterPart (Suffixed postfixed (ResetBy Probing)) guards sequence alternatives outer) next _ h (simp append_assoc)
in_suffix_reads BehindBrace postfixed guards sequence alternatives outer Number next h = reads (InSuffix BehindLeast postfixed guards sequence alternatives outer) next _ h (simp append_assoc)
in_suffix_reads BehindLeast postfixed guards sequence alternatives outer (Mark Comma) next h = reads (InSuffix BehindRangeComma postfixed guards sequence alternatives outer) next _ h (simp append_assoc)
in_suffix_reads BehindRangeComma postfixed guards sequence alternatives outer Number next h = reads (InSuffix BehindMost postfixed guards sequence alternatives outer) next _ h (simp append_assoc)
in_suffix_reads BehindMost postfixed guards sequence alternatives outer (Mark ClosingBrace) next h = reads (AfterPart (Suffixed postfixed Ranged) guards sequence alternatives outer) next _ h (simp append_assoc)
in_suffix_reads _ _ _ _ _ _ _ next h = cc

want_negation_reads : (count : ℕ) (conjunction : Option Conjunction) (disjunction : Option Disjunction) (outer : GuardOuter) (terminal : Terminal) (next : ProbeState) → want_negation_step count conjunction disjunction outer terminal ≡ Some next → text_of_probe next ≡ negation_text count conjunction disjunction outer [] ++ terminal ∷ []
want_negation_reads count conjunction disjunction outer (Mark Not) next h = reads (WantNegation (suc count) conjunction disjunction outer) next _ h (simp (append_assoc, append-nil, count_more count))
want_negation_reads count conjunction disjunction outer (Mark Opening) next h = reads (WantNegation zero None None (InGuardParentheses count conjunction disjunction outer)) next _ h (simp (append_assoc, append-nil))
want_negation_reads count conjunction disjunction outer Capital next h = reads (WantRelation count conjunction disjunction outer) next _ h (simp (append_assoc, append-nil))
want_negation_reads count conjunction disjunction outer _ next h = cc

want_relation_reads : (count : ℕ) (conjunction : Option Conjunction) (disjunction : Option Disjunction) (outer : GuardOuter) (terminal : Terminal) (next : ProbeState) → want_relation_step count conjunction disjunction outer terminal ≡ Some next → text_of_probe next ≡ text_of_probe (WantRelation count conjunction disjunction outer) ++ terminal ∷ []
want_relation_reads count conjunction disjunction outer (Mark Less) next h = reads (WantBound Below count conjunction disjunction outer) next _ h (simp append_assoc)
want_relation_reads count conjunction disjunction outer (Mark LessOrEqual) next h = reads (WantBound BelowOrEqual count conjunction disjunction outer) next _ h (simp append_assoc)
want_relation_reads count conjunction disjunction outer (Mark Greater) next h = reads (WantBound Above count conjunction disjunction outer) next _ h (simp append_assoc)
want_relation_reads count conjunction disjunction outer (Mark GreaterOrEqual) next h = reads (WantBound AboveOrEqual count conjunction disjunction outer) next _ h (simp append_assoc)
want_relation_reads count conjunction disjunction outer (Mark EqualTo) next h = reads (WantBound Same count conjunction disjunction outer) next _ h (simp append_assoc)
want_relation_reads count conjunction disjunction outer (Mark NotEqualTo) next h = reads (WantBound Different count conjunction disjunction outer) next _ h (simp append_assoc)
want_relation_reads count conjunction disjunction outer _ next h = cc

want_bound_reads : (sign : RelationSign) (count : ℕ) (conjunction : Option Conjunction) (disjunction : Option Disjunction) (outer : GuardOuter) (terminal : Terminal) (next : ProbeState) → want_bound_step sign count conjunction disjunction outer terminal ≡ Some next → text_of_probe next ≡ text_of_probe (WantBound sign count conjunction disjunction outer) ++ terminal ∷ []
want_bound_reads sign count conjunction disjunction outer Number next h = reads (AfterNegation (negated_by count (Comparison sign)) conjunction disjunction outer) next _ h (simp (append_assoc, negated_text count (Comparison sign)))
want_bound_reads sign count conjunction disjunction outer _ next h = cc

-- what closes a guard
closes_guard_reads : (guard : Disjunction) (outer : GuardOuter) (terminal : Terminal) (next : ProbeState) → closes_guard guard outer terminal ≡ Some next → text_of_probe next ≡ guard_outer_text outer ++ (disjunction_spelled guard ++ terminal ∷ [])
closes_guard_reads guard (InBraces guards sequence alternatives outer) (Mark ClosingBrace) next h = reads (WantAtom (guard ∷ guards) sequence alternatives outer) next _ h (simp (append_assoc, append-nil))
closes_guard_reads guard (InGuardParentheses count conjunction disjunction outer) (Mark Closing) next h = reads (AfterNegation (negated_by count (EnclosedGuard guard)) conjunction disjunction outer) next _ h (simp (append_assoc, negated_text count (EnclosedGuard guard)))
closes_guard_reads guard _ _ next h = cc

behind_guard_text : (negation : Negation) (conjunction : Option Conjunction) (disjunction : Option Disjunction) (outer : GuardOuter) (behind : List Terminal) → guard_outer_text outer ++ (disjunction_spelled (whole_guard negation conjunction disjunction) ++ behind) ≡ text_of_probe (AfterNegation negation conjunction disjunction outer) ++ behind
behind_guard_text negation conjunction disjunction outer behind = simp (append_assoc, guard_with_text negation conjunction disjunction)

after_negation_reads : (negation : Negation) (conjunction : Option Conjunction) (disjunction : Option Disjunction) (outer : GuardOuter) (terminal : Terminal) (next : ProbeState) → after_negation_step negation conjunction disjunction outer terminal ≡ Some next → text_of_probe next ≡ text_of_probe (AfterNegation negation conjunction disjunction outer) ++ terminal ∷ []
after_negation_reads negation conjunction disjunction outer (Mark And) next h = reads (WantNegation zero (Some (conjunction_with conjunction negation)) disjunction outer) next _ h (simp (append_assoc, append-nil, conjunction_with_text negation conjunction))
after_negation_reads negation conjunction disjunction outer (Mark Or) next h = reads (WantNegation zero None (Some (whole_guard negation conjunction disjunction)) outer) next _ h (simp (append_assoc, append-nil, guard_with_text negation conjunction disjunction))
after_negation_reads negation conjunction disjunction outer terminal next h = closes_guard_reads (whole_guard negation conjunction disjunction) outer terminal next h ∙ behind_guard_text negation conjunction disjunction outer (terminal ∷ [])

-- a step adds its terminal to what has been read
pub step_reads : (state : ProbeState) (terminal : Terminal) (next : ProbeState) → probe_step state terminal ≡ Some next → text_of_probe next ≡ text_of_probe state ++ terminal ∷ []
unfolding probe_step
step_reads (WantAtom guards sequence alternatives outer) terminal next h = want_atom_reads guards sequence alternatives outer terminal next h
step_reads (AfterPart postfixed guards sequence alternatives outer) terminal next h = after_part_reads postfixed guards sequence alternatives outer terminal next h
step_reads (InSuffix part postfixed guards sequence alternatives outer) terminal next h = in_suffix_reads part postfixed guards sequence alternatives outer terminal next h
step_reads (WantNegation count conjunction disjunction outer) terminal next h = want_negation_reads count conjunction disjunction outer terminal next h
step_reads (WantRelation count conjunction disjunction outer) terminal next h = want_relation_reads count conjunction disjunction outer terminal next h
step_reads (WantBound sign count conjunction disjunction outer) terminal next h = want_bound_reads sign count conjunction disjunction outer terminal next h
step_reads (AfterNegation negation conjunction disjunction outer) terminal next h = after_negation_reads negation conjunction disjunction outer terminal next h

-- ---- runs

-- what has been read is what was read before, and the text
run_adds : (text : List Terminal) (from state : ProbeState) → probe_run from text ≡ Some state → text_of_probe state ≡ text_of_probe from ++ text
unfolding runs
run_adds [] from state h = sym (ap text_of_probe (same_Some from state h)) ∙ sym (append-nil (text_of_probe from))
run_adds (terminal ∷ more) from state h =
    option_and_then_some (λ next. probe_run next more) (probe_step from terminal) state h (λ next made ran.
    run_adds more next state ran
    ∙ ap (λ l. l ++ more) (step_reads from terminal next made)
    ∙ append_assoc (text_of_probe from) (terminal ∷ []) more)

-- from the start, what has been read is the text
pub run_reads : (text : List Terminal) (state : ProbeState) → probe_run probe_start text ≡ Some state → text_of_probe state ≡ text
run_reads text state h = run_adds text probe_start state h
