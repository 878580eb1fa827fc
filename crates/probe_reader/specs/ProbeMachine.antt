-- A machine that reads the terminals of a probe expression, one by one. Its states are what has been read, so it shows which
-- tokens can follow. It is a device of the proofs: no public clause speaks of it.
use Rattle.std.specs.Prelude.{ℕ, zero, suc, List, [], ◌∷◌, Option, Some, None}
use Rattle.pepa_lexer.specs.declared.kinds.Sign.TheVariants.{Opening, Closing, Comma, Plus, Star, Slash, Less, Greater, LessOrEqual, GreaterOrEqual, EqualTo, NotEqualTo, Not, And, Or, Bar, OpeningBrace, ClosingBrace, Colon, Question}
use Rattle.token_grammar.specs.declared.terminal.Terminal.{Terminal}
use Rattle.token_grammar.specs.declared.terminal.Terminal.TheVariants.{Small, Probe, Capital, Number, Mark}
use Rattle.token_grammar.specs.Machines.{runs}
use Rattle.token_grammar.specs.SmallNames.{Plain, Probing}
use Rattle.probe_reader.specs.ProbeGrammar.{RelationSign, Below, BelowOrEqual, Above, AboveOrEqual, Same, Different, Disjunction, OneConjunction, Disjoined, Conjunction, OneNegation, Conjoined, Negation, Negated, EnclosedGuard, Comparison, Labelled, Starred, Repeated, Optional, Counted, Ranged, ResetBy, Alternatives, OneSequence, Alternated, Sequence, OneGuarded, Sequenced, GuardedPart, OnePostfixed, WithGuard, Postfixed, OneAtom, Suffixed, LetterNamed, Enclosed}

-- ---- what has been read of the parts that are not whole yet

-- where alternatives are: as the whole expression, or in brackets, after guards, a sequence and alternatives
pub data ProbeOuter : Type 0 where
  Outermost : ProbeOuter
  InParentheses : List Disjunction → Option Sequence → Option Alternatives → ProbeOuter → ProbeOuter

-- where a guard is: in braces before a part of an expression, or in brackets of another guard, after so many `!`
pub data GuardOuter : Type 0 where
  InBraces : List Disjunction → Option Sequence → Option Alternatives → ProbeOuter → GuardOuter
  InGuardParentheses : ℕ → Option Conjunction → Option Disjunction → GuardOuter → GuardOuter

-- how much of a suffix has been read
pub data SuffixPart : Type 0 where
  BehindColon : SuffixPart
  BehindSlash : SuffixPart
  BehindBrace : SuffixPart
  BehindLeast : SuffixPart
  BehindRangeComma : SuffixPart
  BehindMost : SuffixPart

pub data ProbeState : Type 0 where
  -- wants an atom, or a guard before it
  WantAtom : List Disjunction → Option Sequence → Option Alternatives → ProbeOuter → ProbeState
  -- after an atom with its suffixes
  AfterPart : Postfixed → List Disjunction → Option Sequence → Option Alternatives → ProbeOuter → ProbeState
  -- in a suffix
  InSuffix : SuffixPart → Postfixed → List Disjunction → Option Sequence → Option Alternatives → ProbeOuter → ProbeState
  -- wants a comparison, or what can be before it
  WantNegation : ℕ → Option Conjunction → Option Disjunction → GuardOuter → ProbeState
  -- after the constant of a comparison
  WantRelation : ℕ → Option Conjunction → Option Disjunction → GuardOuter → ProbeState
  -- after its relation
  WantBound : RelationSign → ℕ → Option Conjunction → Option Disjunction → GuardOuter → ProbeState
  -- after a comparison, or a guard in brackets, with its `!`
  AfterNegation : Negation → Option Conjunction → Option Disjunction → GuardOuter → ProbeState

-- ---- what parts are once they are whole

-- the part with its guards, the last one innermost
abbrev pub with_guards : List Disjunction → GuardedPart → GuardedPart
with_guards [] part = part
with_guards (guard ∷ more) part = with_guards more (WithGuard guard part)

abbrev pub sequence_with : Option Sequence → GuardedPart → Sequence
sequence_with None part = OneGuarded part
sequence_with (Some sequence) part = Sequenced sequence part

abbrev pub alternatives_with : Option Alternatives → Sequence → Alternatives
alternatives_with None sequence = OneSequence sequence
alternatives_with (Some alternatives) sequence = Alternated alternatives sequence

abbrev pub whole_sequence : Postfixed → List Disjunction → Option Sequence → Sequence
whole_sequence postfixed guards sequence = sequence_with sequence (with_guards guards (OnePostfixed postfixed))

abbrev pub whole_alternatives : Postfixed → List Disjunction → Option Sequence → Option Alternatives → Alternatives
whole_alternatives postfixed guards sequence alternatives = alternatives_with alternatives (whole_sequence postfixed guards sequence)

-- so many `!` before it
abbrev pub negated_by : ℕ → Negation → Negation
negated_by zero negation = negation
negated_by (suc count) negation = negated_by count (Negated negation)

abbrev pub conjunction_with : Option Conjunction → Negation → Conjunction
conjunction_with None negation = OneNegation negation
conjunction_with (Some conjunction) negation = Conjoined conjunction negation

abbrev pub disjunction_with : Option Disjunction → Conjunction → Disjunction
disjunction_with None conjunction = OneConjunction conjunction
disjunction_with (Some disjunction) conjunction = Disjoined disjunction conjunction

abbrev pub whole_guard : Negation → Option Conjunction → Option Disjunction → Disjunction
whole_guard negation conjunction disjunction = disjunction_with disjunction (conjunction_with conjunction negation)

-- ---- steps

abbrev pub want_atom_step : List Disjunction → Option Sequence → Option Alternatives → ProbeOuter → Terminal → Option ProbeState
want_atom_step guards sequence alternatives outer Small = Some (AfterPart (OneAtom (LetterNamed Plain)) guards sequence alternatives outer)
want_atom_step guards sequence alternatives outer Probe = Some (AfterPart (OneAtom (LetterNamed Probing)) guards sequence alternatives outer)
want_atom_step guards sequence alternatives outer (Mark Opening) = Some (WantAtom [] None None (InParentheses guards sequence alternatives outer))
want_atom_step guards sequence alternatives outer (Mark OpeningBrace) = Some (WantNegation zero None None (InBraces guards sequence alternatives outer))
want_atom_step guards sequence alternatives outer _ = None

-- alternatives are whole
abbrev pub closes_alternatives : Alternatives → ProbeOuter → Terminal → Option ProbeState
closes_alternatives whole (InParentheses guards sequence alternatives outer) (Mark Closing) = Some (AfterPart (OneAtom (Enclosed whole)) guards sequence alternatives outer)
closes_alternatives whole _ _ = None

abbrev pub after_part_step : Postfixed → List Disjunction → Option Sequence → Option Alternatives → ProbeOuter → Terminal → Option ProbeState
after_part_step postfixed guards sequence alternatives outer (Mark Colon) = Some (InSuffix BehindColon postfixed guards sequence alternatives outer)
after_part_step postfixed guards sequence alternatives outer (Mark Star) = Some (AfterPart (Suffixed postfixed Starred) guards sequence alternatives outer)
after_part_step postfixed guards sequence alternatives outer (Mark Plus) = Some (AfterPart (Suffixed postfixed Repeated) guards sequence alternatives outer)
after_part_step postfixed guards sequence alternatives outer (Mark Question) = Some (AfterPart (Suffixed postfixed Optional) guards sequence alternatives outer)
after_part_step postfixed guards sequence alternatives outer Number = Some (AfterPart (Suffixed postfixed Counted) guards sequence alternatives outer)
after_part_step postfixed guards sequence alternatives outer (Mark OpeningBrace) = Some (InSuffix BehindBrace postfixed guards sequence alternatives outer)
after_part_step postfixed guards sequence alternatives outer (Mark Slash) = Some (InSuffix BehindSlash postfixed guards sequence alternatives outer)
after_part_step postfixed guards sequence alternatives outer (Mark Comma) = Some (WantAtom [] (Some (whole_sequence postfixed guards sequence)) alternatives outer)
after_part_step postfixed guards sequence alternatives outer (Mark Bar) = Some (WantAtom [] None (Some (whole_alternatives postfixed guards sequence alternatives)) outer)
after_part_step postfixed guards sequence alternatives outer terminal = closes_alternatives (whole_alternatives postfixed guards sequence alternatives) outer terminal

abbrev pub in_suffix_step : SuffixPart → Postfixed → List Disjunction → Option Sequence → Option Alternatives → ProbeOuter → Terminal → Option ProbeState
in_suffix_step BehindColon postfixed guards sequence alternatives outer Small = Some (AfterPart (Suffixed postfixed (Labelled Plain)) guards sequence alternatives outer)
in_suffix_step BehindColon postfixed guards sequence alternatives outer Probe = Some (AfterPart (Suffixed postfixed (Labelled Probing)) guards sequence alternatives outer)
in_suffix_step BehindSlash postfixed guards sequence alternatives outer Small = Some (AfterPart (Suffixed postfixed (ResetBy Plain)) guards sequence alternatives outer)
in_suffix_step BehindSlash postfixed guards sequence alternatives outer Probe = Some (AfterPart (Suffixed postfixed (ResetBy Probing)) guards sequence alternatives outer)
in_suffix_step BehindBrace postfixed guards sequence alternatives outer Number = Some (InSuffix BehindLeast postfixed guards sequence alternatives outer)
in_suffix_step BehindLeast postfixed guards sequence alternatives outer (Mark Comma) = Some (InSuffix BehindRangeComma postfixed guards sequence alternatives outer)
in_suffix_step BehindRangeComma postfixed guards sequence alternatives outer Number = Some (InSuffix BehindMost postfixed guards sequence alternatives outer)
in_suffix_step BehindMost postfixed guards sequence alternatives outer (Mark ClosingBrace) = Some (AfterPart (Suffixed postfixed Ranged) guards sequence alternatives outer)
in_suffix_step _ _ _ _ _ _ _ = None

abbrev pub want_negation_step : ℕ → Option Conjunction → Option Disjunction → GuardOuter → Terminal → Option ProbeState
want_negation_step count conjunction disjunction outer (Mark Not) = Some (WantNegation (suc count) conjunction disjunction outer)
want_negation_step count conjunction disjunction outer (Mark Opening) = Some (WantNegation zero None None (InGuardParentheses count conjunction disjunction outer))
want_negation_step count conjunction disjunction outer Capital = Some (WantRelation count conjunction disjunction outer)
want_negation_step count conjunction disjunction outer _ = None

abbrev pub want_relation_step : ℕ → Option Conjunction → Option Disjunction → GuardOuter → Terminal → Option ProbeState
want_relation_step count conjunction disjunction outer (Mark Less) = Some (WantBound Below count conjunction disjunction outer)
want_relation_step count conjunction disjunction outer (Mark LessOrEqual) = Some (WantBound BelowOrEqual count conjunction disjunction outer)
want_relation_step count conjunction disjunction outer (Mark Greater) = Some (WantBound Above count conjunction disjunction outer)
want_relation_step count conjunction disjunction outer (Mark GreaterOrEqual) = Some (WantBound AboveOrEqual count conjunction disjunction outer)
want_relation_step count conjunction disjunction outer (Mark EqualTo) = Some (WantBound Same count conjunction disjunction outer)
want_relation_step count conjunction disjunction outer (Mark NotEqualTo) = Some (WantBound Different count conjunction disjunction outer)
want_relation_step count conjunction disjunction outer _ = None

abbrev pub want_bound_step : RelationSign → ℕ → Option Conjunction → Option Disjunction → GuardOuter → Terminal → Option ProbeState
want_bound_step sign count conjunction disjunction outer Number = Some (AfterNegation (negated_by count (Comparison sign)) conjunction disjunction outer)
want_bound_step sign count conjunction disjunction outer _ = None

-- a guard is whole
abbrev pub closes_guard : Disjunction → GuardOuter → Terminal → Option ProbeState
closes_guard guard (InBraces guards sequence alternatives outer) (Mark ClosingBrace) = Some (WantAtom (guard ∷ guards) sequence alternatives outer)
closes_guard guard (InGuardParentheses count conjunction disjunction outer) (Mark Closing) = Some (AfterNegation (negated_by count (EnclosedGuard guard)) conjunction disjunction outer)
closes_guard guard _ _ = None

abbrev pub after_negation_step : Negation → Option Conjunction → Option Disjunction → GuardOuter → Terminal → Option ProbeState
after_negation_step negation conjunction disjunction outer (Mark And) = Some (WantNegation zero (Some (conjunction_with conjunction negation)) disjunction outer)
after_negation_step negation conjunction disjunction outer (Mark Or) = Some (WantNegation zero None (Some (whole_guard negation conjunction disjunction)) outer)
after_negation_step negation conjunction disjunction outer terminal = closes_guard (whole_guard negation conjunction disjunction) outer terminal

-- the state after one more terminal, if it can follow
unfoldable pub probe_step : ProbeState → Terminal → Option ProbeState
probe_step (WantAtom guards sequence alternatives outer) terminal = want_atom_step guards sequence alternatives outer terminal
probe_step (AfterPart postfixed guards sequence alternatives outer) terminal = after_part_step postfixed guards sequence alternatives outer terminal
probe_step (InSuffix part postfixed guards sequence alternatives outer) terminal = in_suffix_step part postfixed guards sequence alternatives outer terminal
probe_step (WantNegation count conjunction disjunction outer) terminal = want_negation_step count conjunction disjunction outer terminal
probe_step (WantRelation count conjunction disjunction outer) terminal = want_relation_step count conjunction disjunction outer terminal
probe_step (WantBound sign count conjunction disjunction outer) terminal = want_bound_step sign count conjunction disjunction outer terminal
probe_step (AfterNegation negation conjunction disjunction outer) terminal = after_negation_step negation conjunction disjunction outer terminal

-- the state after terminals, if they can follow
abbrev pub probe_run : ProbeState → List Terminal → Option ProbeState
probe_run state terminals = runs probe_step state terminals

-- where an expression begins
abbrev pub probe_start : ProbeState
probe_start = WantAtom [] None None Outermost

-- the expression isn't whole
abbrev pub IsPartial : ProbeState → Type 0
IsPartial (AfterPart postfixed guards sequence alternatives Outermost) = ⊥
IsPartial _ = Unit {0}

-- the states after whole parts
abbrev pub behind_conjunction : Conjunction → Option Disjunction → GuardOuter → ProbeState
behind_conjunction (OneNegation negation) disjunction outer = AfterNegation negation None disjunction outer
behind_conjunction (Conjoined conjunction negation) disjunction outer = AfterNegation negation (Some conjunction) disjunction outer

abbrev pub behind_guard : Disjunction → GuardOuter → ProbeState
behind_guard (OneConjunction conjunction) outer = behind_conjunction conjunction None outer
behind_guard (Disjoined disjunction conjunction) outer = behind_conjunction conjunction (Some disjunction) outer

abbrev pub behind_part : GuardedPart → List Disjunction → Option Sequence → Option Alternatives → ProbeOuter → ProbeState
behind_part (OnePostfixed postfixed) guards sequence alternatives outer = AfterPart postfixed guards sequence alternatives outer
behind_part (WithGuard guard part) guards sequence alternatives outer = behind_part part (guard ∷ guards) sequence alternatives outer

abbrev pub behind_sequence : Sequence → Option Alternatives → ProbeOuter → ProbeState
behind_sequence (OneGuarded part) alternatives outer = behind_part part [] None alternatives outer
behind_sequence (Sequenced sequence part) alternatives outer = behind_part part [] (Some sequence) alternatives outer

abbrev pub behind_alternatives : Alternatives → ProbeOuter → ProbeState
behind_alternatives (OneSequence sequence) outer = behind_sequence sequence None outer
behind_alternatives (Alternated alternatives sequence) outer = behind_sequence sequence (Some alternatives) outer
