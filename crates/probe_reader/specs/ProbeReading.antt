-- What each reader of a part of a probe expression answers: what it has read, or where nothing can follow.
use Rattle.std.specs.Prelude.{◌≡◌, ℕ, ◌+◌, List, [], ◌∷◌, drop, Option, Some, None, MatchOption, Result, Ok, Err}
use Rattle.pepa_lexer.specs.declared.kinds.Sign.TheVariants.{Comma, Plus, Star, Slash, And, Or, Bar, OpeningBrace, ClosingBrace, Colon, Question}
use Rattle.token_grammar.specs.declared.terminal.Terminal.{Terminal}
use Rattle.token_grammar.specs.declared.terminal.Terminal.TheVariants.{Number, Mark}
use Rattle.fault_ends.specs.declared.end.End.TheVariants.{Fault, Memory}
use Rattle.token_grammar.specs.Cursors.{Begins, IsSpelledFrom, IsAt, PartEnd}
use Rattle.token_grammar.specs.Machines.{IsRefusedBy, HaltsAt}
use Rattle.token_grammar.specs.SmallNames.{SmallName, small_spelled, NoSmall}
use Rattle.probe_reader.specs.declared.guards.GuardRead.{GuardRead}
use Rattle.probe_reader.specs.declared.suffixes.SuffixRead.{SuffixRead}
use Rattle.probe_reader.specs.declared.suffixes.WrittenSuffix.{WrittenSuffix}
use Rattle.probe_reader.specs.declared.suffixes.WrittenSuffix.TheVariants.{Label, Star as StarSign, Plus as PlusSign, Maybe, Times, Between, Reset}
use Rattle.probe_reader.specs.declared.trees.ProbeRead.{ProbeRead}
use Rattle.probe_reader.specs.ProbeGrammar.{RelationSign, relation_spelled, Disjunction, Conjunction, Negation, disjunction_spelled, conjunction_spelled, negation_spelled, Suffix, suffix_spelled, Alternatives, Sequence, GuardedPart, Postfixed, Atom, alternatives_spelled, sequence_spelled, guarded_spelled, postfixed_spelled, atom_spelled}
use Rattle.probe_reader.specs.ProbeTrees.{ProbeNode, BothOf, EitherOf, NotOf, LabelOf, StarOf, PlusOf, MaybeOf, TimesOf, BetweenOf, ResetOf, ThenOf, OrOf, GuardedOf, guard_node_of, probe_node_of, disjunction_tree, conjunction_tree, negation_tree, suffix_tree, alternatives_tree, sequence_tree, guarded_tree, postfixed_tree, atom_tree}
use Rattle.probe_reader.specs.ProbeMachine.{ProbeOuter, Outermost, GuardOuter, BehindBrace, ProbeState, WantAtom, AfterPart, InSuffix, WantNegation, IsPartial, probe_step, behind_alternatives}

-- ---- where nothing can follow

-- what is there can't follow, if anything is there
abbrev pub IsRefusedInProbe : ProbeState → List Terminal → Type 0
IsRefusedInProbe state rest = IsRefusedBy probe_step state rest

-- from the index on the machine reads up to the index i, where the expression isn't whole, and no further
abbrev pub HaltsInProbe : List Terminal → ℕ → ℕ → ProbeState → Type 0
HaltsInProbe kinds at i from = HaltsAt probe_step IsPartial kinds at i from

-- the index after a small name that is wanted, or that there is none
abbrev pub ExpectsSmall : List Terminal → ℕ → Result ℕ PartEnd → Type 0
ExpectsSmall kinds at (Ok next) = (name : SmallName) × IsAt kinds at next (small_spelled name)
ExpectsSmall kinds at (Err (Fault i)) = (i ≡ at) × NoSmall (drop at kinds)
ExpectsSmall kinds at (Err Memory) = ⊥

-- ---- guards

-- no relation is in front
abbrev pub NoRelation : List Terminal → Type 0
NoRelation rest = (sign : RelationSign) → ¬ Begins rest (relation_spelled sign)

-- the index after a relation that is wanted, or that there is none
abbrev pub ExpectsRelation : List Terminal → ℕ → Result ℕ PartEnd → Type 0
ExpectsRelation kinds at (Ok next) = (sign : RelationSign) × IsAt kinds at next (relation_spelled sign)
ExpectsRelation kinds at (Err (Fault i)) = (i ≡ at) × NoRelation (drop at kinds)
ExpectsRelation kinds at (Err Memory) = ⊥

pub record IsNegation (kinds : List Terminal) (at : ℕ) (read : GuardRead) : Type 0 where
  pub negation : Negation
  pub spelled : IsSpelledFrom kinds at read.next (negation_spelled negation)
  pub tree : guard_node_of read.tree ≡ negation_tree at negation

abbrev pub ReadsNegation : List Terminal → ℕ → Result GuardRead PartEnd → Type 0
ReadsNegation kinds at (Ok read) = IsNegation kinds at read
ReadsNegation kinds at (Err (Fault i)) =
    (count : ℕ) (conjunction : Option Conjunction) (disjunction : Option Disjunction) (outer : GuardOuter) → HaltsInProbe kinds at i (WantNegation count conjunction disjunction outer)
ReadsNegation kinds at (Err Memory) = Unit {0}

pub record IsConjunction (kinds : List Terminal) (at : ℕ) (read : GuardRead) : Type 0 where
  pub conjunction : Conjunction
  pub spelled : IsSpelledFrom kinds at read.next (conjunction_spelled conjunction)
  pub tree : guard_node_of read.tree ≡ conjunction_tree at conjunction

abbrev pub EndsConjunction : List Terminal → Type 0
EndsConjunction rest = ¬ Begins rest (Mark And)

abbrev pub ReadsConjunction : List Terminal → ℕ → Result GuardRead PartEnd → Type 0
ReadsConjunction kinds at (Ok read) = IsConjunction kinds at read × EndsConjunction (drop read.next kinds)
ReadsConjunction kinds at (Err (Fault i)) =
    (disjunction : Option Disjunction) (outer : GuardOuter) → HaltsInProbe kinds at i (WantNegation 0 None disjunction outer)
ReadsConjunction kinds at (Err Memory) = Unit {0}

pub record IsGuard (kinds : List Terminal) (at : ℕ) (read : GuardRead) : Type 0 where
  pub guard : Disjunction
  pub spelled : IsSpelledFrom kinds at read.next (disjunction_spelled guard)
  pub tree : guard_node_of read.tree ≡ disjunction_tree at guard

abbrev pub EndsGuard : List Terminal → Type 0
EndsGuard rest = EndsConjunction rest × (¬ Begins rest (Mark Or))

abbrev pub ReadsGuard : List Terminal → ℕ → Result GuardRead PartEnd → Type 0
ReadsGuard kinds at (Ok read) = IsGuard kinds at read × EndsGuard (drop read.next kinds)
ReadsGuard kinds at (Err (Fault i)) = (outer : GuardOuter) → HaltsInProbe kinds at i (WantNegation 0 None None outer)
ReadsGuard kinds at (Err Memory) = Unit {0}

-- a guard with a `!` before it, both guards of an `&&`, and either of an `||`
abbrev pub IsNegated : GuardRead → GuardRead → Type 0
IsNegated inner read = (guard_node_of read.tree ≡ NotOf (guard_node_of inner.tree)) × (read.next ≡ inner.next)

abbrev pub IsBoth : GuardRead → GuardRead → GuardRead → Type 0
IsBoth left right read = (guard_node_of read.tree ≡ BothOf (guard_node_of left.tree) (guard_node_of right.tree)) × (read.next ≡ right.next)

abbrev pub IsEither : GuardRead → GuardRead → GuardRead → Type 0
IsEither left right read = (guard_node_of read.tree ≡ EitherOf (guard_node_of left.tree) (guard_node_of right.tree)) × (read.next ≡ right.next)

-- ---- suffixes

-- an expression with the suffix
abbrev pub with_suffix : WrittenSuffix → ProbeNode → ProbeNode
with_suffix (Label name) inner = LabelOf inner name
with_suffix StarSign inner = StarOf inner
with_suffix PlusSign inner = PlusOf inner
with_suffix Maybe inner = MaybeOf inner
with_suffix (Times number) inner = TimesOf inner number
with_suffix (Between least most) inner = BetweenOf inner least most
with_suffix (Reset name) inner = ResetOf inner name

pub record IsSuffixRead (kinds : List Terminal) (at : ℕ) (read : SuffixRead) : Type 0 where
  pub suffix : Suffix
  pub spelled : IsSpelledFrom kinds at read.next (suffix_spelled suffix)
  pub means : (inner : ProbeNode) → with_suffix read.suffix inner ≡ suffix_tree at suffix inner

-- no suffix of one token begins there, and no other
abbrev pub NoShortSuffix : List Terminal → Type 0
NoShortSuffix rest = (¬ Begins rest (Mark Star)) × (¬ Begins rest (Mark Plus)) × (¬ Begins rest (Mark Question)) × (¬ Begins rest Number)

abbrev pub NoSuffix : List Terminal → Type 0
NoSuffix rest = NoShortSuffix rest × ((¬ Begins rest (Mark Colon)) × (¬ Begins rest (Mark Slash)) × (¬ Begins rest (Mark OpeningBrace)))

abbrev pub FindsShortSuffix : List Terminal → ℕ → Option SuffixRead → Type 0
FindsShortSuffix kinds at answer = MatchOption answer (NoShortSuffix (drop at kinds)) (λ read. IsSuffixRead kinds at read)

-- the rest of a suffix `{m,n}`, after its brace
abbrev pub range_spelled : List Terminal
range_spelled = Number ∷ Mark Comma ∷ Number ∷ Mark ClosingBrace ∷ []

abbrev pub ReadsRange : List Terminal → ℕ → Result SuffixRead PartEnd → Type 0
ReadsRange kinds at (Ok read) = IsSpelledFrom kinds at read.next range_spelled × (read.suffix ≡ Between at (at + 2))
ReadsRange kinds at (Err (Fault i)) =
    (postfixed : Postfixed) (guards : List Disjunction) (sequence : Option Sequence) (alternatives : Option Alternatives) (outer : ProbeOuter) → HaltsInProbe kinds at i (InSuffix BehindBrace postfixed guards sequence alternatives outer)
ReadsRange kinds at (Err Memory) = Unit {0}

abbrev pub ReadsSuffix : List Terminal → ℕ → Result (Option SuffixRead) PartEnd → Type 0
ReadsSuffix kinds at (Ok None) = NoSuffix (drop at kinds)
ReadsSuffix kinds at (Ok (Some read)) = IsSuffixRead kinds at read
ReadsSuffix kinds at (Err (Fault i)) =
    (postfixed : Postfixed) (guards : List Disjunction) (sequence : Option Sequence) (alternatives : Option Alternatives) (outer : ProbeOuter) → HaltsInProbe kinds at i (AfterPart postfixed guards sequence alternatives outer)
ReadsSuffix kinds at (Err Memory) = Unit {0}

-- ---- expressions

pub record IsAtom (kinds : List Terminal) (at : ℕ) (read : ProbeRead) : Type 0 where
  pub atom : Atom
  pub spelled : IsSpelledFrom kinds at read.next (atom_spelled atom)
  pub tree : probe_node_of read.tree ≡ atom_tree at atom

-- no atom, and from every state that wants one the machine halts
abbrev pub HaltsAtPart : List Terminal → ℕ → ℕ → Type 0
HaltsAtPart kinds at i =
    (guards : List Disjunction) (sequence : Option Sequence) (alternatives : Option Alternatives) (outer : ProbeOuter) → HaltsInProbe kinds at i (WantAtom guards sequence alternatives outer)

-- where a guard may be in an atom's place, there is none
abbrev pub ReadsAtom : List Terminal → ℕ → Result ProbeRead PartEnd → Type 0
ReadsAtom kinds at (Ok read) = IsAtom kinds at read
ReadsAtom kinds at (Err (Fault i)) = ¬ Begins (drop at kinds) (Mark OpeningBrace) → HaltsAtPart kinds at i
ReadsAtom kinds at (Err Memory) = Unit {0}

pub record IsPostfixed (kinds : List Terminal) (at : ℕ) (read : ProbeRead) : Type 0 where
  pub postfixed : Postfixed
  pub spelled : IsSpelledFrom kinds at read.next (postfixed_spelled postfixed)
  pub tree : probe_node_of read.tree ≡ postfixed_tree at postfixed

abbrev pub ReadsPostfixed : List Terminal → ℕ → Result ProbeRead PartEnd → Type 0
ReadsPostfixed kinds at (Ok read) = IsPostfixed kinds at read × NoSuffix (drop read.next kinds)
ReadsPostfixed kinds at (Err (Fault i)) = ¬ Begins (drop at kinds) (Mark OpeningBrace) → HaltsAtPart kinds at i
ReadsPostfixed kinds at (Err Memory) = Unit {0}

pub record IsGuardedPart (kinds : List Terminal) (at : ℕ) (read : ProbeRead) : Type 0 where
  pub part : GuardedPart
  pub spelled : IsSpelledFrom kinds at read.next (guarded_spelled part)
  pub tree : probe_node_of read.tree ≡ guarded_tree at part

abbrev pub ReadsGuardedPart : List Terminal → ℕ → Result ProbeRead PartEnd → Type 0
ReadsGuardedPart kinds at (Ok read) = IsGuardedPart kinds at read × NoSuffix (drop read.next kinds)
ReadsGuardedPart kinds at (Err (Fault i)) = HaltsAtPart kinds at i
ReadsGuardedPart kinds at (Err Memory) = Unit {0}

pub record IsSequence (kinds : List Terminal) (at : ℕ) (read : ProbeRead) : Type 0 where
  pub sequence : Sequence
  pub spelled : IsSpelledFrom kinds at read.next (sequence_spelled sequence)
  pub tree : probe_node_of read.tree ≡ sequence_tree at sequence

abbrev pub EndsSequence : List Terminal → Type 0
EndsSequence rest = NoSuffix rest × (¬ Begins rest (Mark Comma))

abbrev pub ReadsSequence : List Terminal → ℕ → Result ProbeRead PartEnd → Type 0
ReadsSequence kinds at (Ok read) = IsSequence kinds at read × EndsSequence (drop read.next kinds)
ReadsSequence kinds at (Err (Fault i)) = (alternatives : Option Alternatives) (outer : ProbeOuter) → HaltsInProbe kinds at i (WantAtom [] None alternatives outer)
ReadsSequence kinds at (Err Memory) = Unit {0}

pub record AreAlternatives (kinds : List Terminal) (at : ℕ) (read : ProbeRead) : Type 0 where
  pub alternatives : Alternatives
  pub spelled : IsSpelledFrom kinds at read.next (alternatives_spelled alternatives)
  pub tree : probe_node_of read.tree ≡ alternatives_tree at alternatives

abbrev pub EndsAlternatives : List Terminal → Type 0
EndsAlternatives rest = EndsSequence rest × (¬ Begins rest (Mark Bar))

abbrev pub ReadsAlternatives : List Terminal → ℕ → Result ProbeRead PartEnd → Type 0
ReadsAlternatives kinds at (Ok read) = AreAlternatives kinds at read × EndsAlternatives (drop read.next kinds)
ReadsAlternatives kinds at (Err (Fault i)) = (outer : ProbeOuter) → HaltsInProbe kinds at i (WantAtom [] None None outer)
ReadsAlternatives kinds at (Err Memory) = Unit {0}

-- an expression with a suffix, with a guard before it, one after another, and two of which one is heard
abbrev pub IsSuffixed : ProbeRead → SuffixRead → ProbeRead → Type 0
IsSuffixed inner suffix read = (probe_node_of read.tree ≡ with_suffix suffix.suffix (probe_node_of inner.tree)) × (read.next ≡ suffix.next)

abbrev pub IsGuardedBy : GuardRead → ProbeRead → ProbeRead → Type 0
IsGuardedBy guard inner read = (probe_node_of read.tree ≡ GuardedOf (guard_node_of guard.tree) (probe_node_of inner.tree)) × (read.next ≡ inner.next)

abbrev pub IsThen : ProbeRead → ProbeRead → ProbeRead → Type 0
IsThen left right read = (probe_node_of read.tree ≡ ThenOf (probe_node_of left.tree) (probe_node_of right.tree)) × (read.next ≡ right.next)

abbrev pub IsOr : ProbeRead → ProbeRead → ProbeRead → Type 0
IsOr left right read = (probe_node_of read.tree ≡ OrOf (probe_node_of left.tree) (probe_node_of right.tree)) × (read.next ≡ right.next)

-- an expression, which the terminal after it can't go on with
pub record HasExpression (kinds : List Terminal) (at : ℕ) (read : ProbeRead) : Type 0 where
  pub alternatives : Alternatives
  pub spelled : IsSpelledFrom kinds at read.next (alternatives_spelled alternatives)
  pub tree : probe_node_of read.tree ≡ alternatives_tree at alternatives
  pub refused : IsRefusedInProbe (behind_alternatives alternatives Outermost) (drop read.next kinds)
