-- The trees of probe expressions and guards, without pointers, and the indices of tokens in them.
use Rattle.std.specs.Prelude.{ℕ, ◌+◌, length}
use Rattle.probe_reader.specs.declared.trees.GuardTree.{GuardTree, Count, Both', Either', Not'}
use Rattle.probe_reader.specs.declared.trees.ProbeTree.{ProbeTree, One, Then', Or', Label', Star', Plus', Maybe', Times', Between', Reset', Guarded'}
use Rattle.probe_reader.specs.ProbeGrammar.{Disjunction, OneConjunction, Disjoined, Conjunction, OneNegation, Conjoined, Negation, Negated, EnclosedGuard, Comparison, Suffix, Labelled, Starred, Repeated, Optional, Counted, Ranged, ResetBy, Alternatives, OneSequence, Alternated, Sequence, OneGuarded, Sequenced, GuardedPart, OnePostfixed, WithGuard, Postfixed, OneAtom, Suffixed, Atom, LetterNamed, Enclosed, disjunction_spelled, conjunction_spelled, alternatives_spelled, sequence_spelled, postfixed_spelled}

-- ---- trees without pointers

pub data GuardNode : Type 0 where
  -- the indices of the constant, of the relation and of the number
  CountAt : ℕ → ℕ → ℕ → GuardNode
  BothOf : GuardNode → GuardNode → GuardNode
  EitherOf : GuardNode → GuardNode → GuardNode
  NotOf : GuardNode → GuardNode

pub data ProbeNode : Type 0 where
  OneAt : ℕ → ProbeNode
  ThenOf : ProbeNode → ProbeNode → ProbeNode
  OrOf : ProbeNode → ProbeNode → ProbeNode
  LabelOf : ProbeNode → ℕ → ProbeNode
  StarOf : ProbeNode → ProbeNode
  PlusOf : ProbeNode → ProbeNode
  MaybeOf : ProbeNode → ProbeNode
  TimesOf : ProbeNode → ℕ → ProbeNode
  BetweenOf : ProbeNode → ℕ → ℕ → ProbeNode
  ResetOf : ProbeNode → ℕ → ProbeNode
  GuardedOf : GuardNode → ProbeNode → ProbeNode

-- ---- what the program's trees are

abbrev pub guard_node_of : GuardTree → GuardNode
guard_node_of (Count which relation number) = CountAt which relation number
guard_node_of (Both' p left q right) = BothOf (guard_node_of left) (guard_node_of right)
guard_node_of (Either' p left q right) = EitherOf (guard_node_of left) (guard_node_of right)
guard_node_of (Not' p inner) = NotOf (guard_node_of inner)

abbrev pub probe_node_of : ProbeTree → ProbeNode
probe_node_of (One at) = OneAt at
probe_node_of (Then' p left q right) = ThenOf (probe_node_of left) (probe_node_of right)
probe_node_of (Or' p left q right) = OrOf (probe_node_of left) (probe_node_of right)
probe_node_of (Label' p inner name) = LabelOf (probe_node_of inner) name
probe_node_of (Star' p inner) = StarOf (probe_node_of inner)
probe_node_of (Plus' p inner) = PlusOf (probe_node_of inner)
probe_node_of (Maybe' p inner) = MaybeOf (probe_node_of inner)
probe_node_of (Times' p inner number) = TimesOf (probe_node_of inner) number
probe_node_of (Between' p inner least most) = BetweenOf (probe_node_of inner) least most
probe_node_of (Reset' p inner name) = ResetOf (probe_node_of inner) name
probe_node_of (Guarded' guard p inner) = GuardedOf (guard_node_of guard) (probe_node_of inner)

-- ---- the trees of what the grammar spells, from the index of its first token on; brackets leave no trace

abbrev mutual
  pub disjunction_tree : ℕ → Disjunction → GuardNode
  disjunction_tree at (OneConjunction conjunction) = conjunction_tree at conjunction
  disjunction_tree at (Disjoined disjunction conjunction) = EitherOf (disjunction_tree at disjunction) (conjunction_tree (at + length (disjunction_spelled disjunction) + 1) conjunction)

  pub conjunction_tree : ℕ → Conjunction → GuardNode
  conjunction_tree at (OneNegation negation) = negation_tree at negation
  conjunction_tree at (Conjoined conjunction negation) = BothOf (conjunction_tree at conjunction) (negation_tree (at + length (conjunction_spelled conjunction) + 1) negation)

  pub negation_tree : ℕ → Negation → GuardNode
  negation_tree at (Negated negation) = NotOf (negation_tree (at + 1) negation)
  negation_tree at (EnclosedGuard disjunction) = disjunction_tree (at + 1) disjunction
  negation_tree at (Comparison sign) = CountAt at (at + 1) (at + 2)

-- an expression with a suffix, whose first token is at the index
abbrev pub suffix_tree : ℕ → Suffix → ProbeNode → ProbeNode
suffix_tree at (Labelled name) inner = LabelOf inner (at + 1)
suffix_tree at Starred inner = StarOf inner
suffix_tree at Repeated inner = PlusOf inner
suffix_tree at Optional inner = MaybeOf inner
suffix_tree at Counted inner = TimesOf inner at
suffix_tree at Ranged inner = BetweenOf inner (at + 1) (at + 3)
suffix_tree at (ResetBy name) inner = ResetOf inner (at + 1)

abbrev mutual
  pub alternatives_tree : ℕ → Alternatives → ProbeNode
  alternatives_tree at (OneSequence sequence) = sequence_tree at sequence
  alternatives_tree at (Alternated alternatives sequence) = OrOf (alternatives_tree at alternatives) (sequence_tree (at + length (alternatives_spelled alternatives) + 1) sequence)

  pub sequence_tree : ℕ → Sequence → ProbeNode
  sequence_tree at (OneGuarded part) = guarded_tree at part
  sequence_tree at (Sequenced sequence part) = ThenOf (sequence_tree at sequence) (guarded_tree (at + length (sequence_spelled sequence) + 1) part)

  pub guarded_tree : ℕ → GuardedPart → ProbeNode
  guarded_tree at (OnePostfixed postfixed) = postfixed_tree at postfixed
  guarded_tree at (WithGuard guard part) = GuardedOf (disjunction_tree (at + 1) guard) (guarded_tree (at + 1 + length (disjunction_spelled guard) + 1) part)

  pub postfixed_tree : ℕ → Postfixed → ProbeNode
  postfixed_tree at (OneAtom atom) = atom_tree at atom
  postfixed_tree at (Suffixed postfixed suffix) = suffix_tree (at + length (postfixed_spelled postfixed)) suffix (postfixed_tree at postfixed)

  pub atom_tree : ℕ → Atom → ProbeNode
  atom_tree at (LetterNamed name) = OneAt at
  atom_tree at (Enclosed alternatives) = alternatives_tree (at + 1) alternatives
