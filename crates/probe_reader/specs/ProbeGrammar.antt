-- The grammar of probe expressions and their guards, one constructor a production, and the terminals that each production spells.
use Rattle.std.specs.Prelude.{List, [], ◌∷◌, ◌++◌}
use Rattle.pepa_lexer.specs.declared.kinds.Sign.TheVariants.{Opening, Closing, Comma, Plus, Star, Slash, Less, Greater, LessOrEqual, GreaterOrEqual, EqualTo, NotEqualTo, Not, And, Or, Bar, OpeningBrace, ClosingBrace, Colon, Question}
use Rattle.token_grammar.specs.declared.terminal.Terminal.{Terminal}
use Rattle.token_grammar.specs.declared.terminal.Terminal.TheVariants.{Capital, Number, Mark}
use Rattle.token_grammar.specs.SmallNames.{SmallName, small_spelled}

-- ---- guards

-- relation := "<" | "<=" | ">" | ">=" | "==" | "!="
pub data RelationSign : Type 0 where
  Below : RelationSign
  BelowOrEqual : RelationSign
  Above : RelationSign
  AboveOrEqual : RelationSign
  Same : RelationSign
  Different : RelationSign

abbrev pub relation_spelled : RelationSign → Terminal
relation_spelled Below = Mark Less
relation_spelled BelowOrEqual = Mark LessOrEqual
relation_spelled Above = Mark Greater
relation_spelled AboveOrEqual = Mark GreaterOrEqual
relation_spelled Same = Mark EqualTo
relation_spelled Different = Mark NotEqualTo

mutual
  -- guard := conj | guard "||" conj
  pub data Disjunction : Type 0 where
    OneConjunction : Conjunction → Disjunction
    Disjoined : Disjunction → Conjunction → Disjunction

  -- conj := neg | conj "&&" neg
  pub data Conjunction : Type 0 where
    OneNegation : Negation → Conjunction
    Conjoined : Conjunction → Negation → Conjunction

  -- neg := "!" neg | "(" guard ")" | Capital relation NUMBER
  pub data Negation : Type 0 where
    Negated : Negation → Negation
    EnclosedGuard : Disjunction → Negation
    Comparison : RelationSign → Negation

abbrev mutual
  pub disjunction_spelled : Disjunction → List Terminal
  disjunction_spelled (OneConjunction conjunction) = conjunction_spelled conjunction
  disjunction_spelled (Disjoined disjunction conjunction) = disjunction_spelled disjunction ++ Mark Or ∷ conjunction_spelled conjunction

  pub conjunction_spelled : Conjunction → List Terminal
  conjunction_spelled (OneNegation negation) = negation_spelled negation
  conjunction_spelled (Conjoined conjunction negation) = conjunction_spelled conjunction ++ Mark And ∷ negation_spelled negation

  pub negation_spelled : Negation → List Terminal
  negation_spelled (Negated negation) = Mark Not ∷ negation_spelled negation
  negation_spelled (EnclosedGuard disjunction) = Mark Opening ∷ (disjunction_spelled disjunction ++ Mark Closing ∷ [])
  negation_spelled (Comparison sign) = Capital ∷ relation_spelled sign ∷ Number ∷ []

-- ---- expressions

-- suffix := ":" small | "*" | "+" | "?" | NUMBER | "{" NUMBER "," NUMBER "}" | "/" small
pub data Suffix : Type 0 where
  Labelled : SmallName → Suffix
  Starred : Suffix
  Repeated : Suffix
  Optional : Suffix
  Counted : Suffix
  Ranged : Suffix
  ResetBy : SmallName → Suffix

abbrev pub suffix_spelled : Suffix → List Terminal
suffix_spelled (Labelled name) = Mark Colon ∷ small_spelled name ∷ []
suffix_spelled Starred = Mark Star ∷ []
suffix_spelled Repeated = Mark Plus ∷ []
suffix_spelled Optional = Mark Question ∷ []
suffix_spelled Counted = Number ∷ []
suffix_spelled Ranged = Mark OpeningBrace ∷ Number ∷ Mark Comma ∷ Number ∷ Mark ClosingBrace ∷ []
suffix_spelled (ResetBy name) = Mark Slash ∷ small_spelled name ∷ []

mutual
  -- alt := seq | alt "|" seq
  pub data Alternatives : Type 0 where
    OneSequence : Sequence → Alternatives
    Alternated : Alternatives → Sequence → Alternatives

  -- seq := guarded | seq "," guarded
  pub data Sequence : Type 0 where
    OneGuarded : GuardedPart → Sequence
    Sequenced : Sequence → GuardedPart → Sequence

  -- guarded := post | "{" guard "}" guarded
  pub data GuardedPart : Type 0 where
    OnePostfixed : Postfixed → GuardedPart
    WithGuard : Disjunction → GuardedPart → GuardedPart

  -- post := atom | post suffix
  pub data Postfixed : Type 0 where
    OneAtom : Atom → Postfixed
    Suffixed : Postfixed → Suffix → Postfixed

  -- atom := small | "(" alt ")"
  pub data Atom : Type 0 where
    LetterNamed : SmallName → Atom
    Enclosed : Alternatives → Atom

abbrev mutual
  pub alternatives_spelled : Alternatives → List Terminal
  alternatives_spelled (OneSequence sequence) = sequence_spelled sequence
  alternatives_spelled (Alternated alternatives sequence) = alternatives_spelled alternatives ++ Mark Bar ∷ sequence_spelled sequence

  pub sequence_spelled : Sequence → List Terminal
  sequence_spelled (OneGuarded part) = guarded_spelled part
  sequence_spelled (Sequenced sequence part) = sequence_spelled sequence ++ Mark Comma ∷ guarded_spelled part

  pub guarded_spelled : GuardedPart → List Terminal
  guarded_spelled (OnePostfixed postfixed) = postfixed_spelled postfixed
  guarded_spelled (WithGuard guard part) = Mark OpeningBrace ∷ (disjunction_spelled guard ++ Mark ClosingBrace ∷ guarded_spelled part)

  pub postfixed_spelled : Postfixed → List Terminal
  postfixed_spelled (OneAtom atom) = atom_spelled atom
  postfixed_spelled (Suffixed postfixed suffix) = postfixed_spelled postfixed ++ suffix_spelled suffix

  pub atom_spelled : Atom → List Terminal
  atom_spelled (LetterNamed name) = small_spelled name ∷ []
  atom_spelled (Enclosed alternatives) = Mark Opening ∷ (alternatives_spelled alternatives ++ Mark Closing ∷ [])
