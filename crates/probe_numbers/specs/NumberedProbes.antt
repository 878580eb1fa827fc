-- Probe expressions with numbers in place of names, and the constants that their guards count.
use Rattle.std.specs.Prelude.{◌≡◌, ℕ, ◌≤◌, ◌<◌, ◌⊎◌, nat_eq, List, [], ◌∷◌, ◌++◌, map, length, position, Option, Some, None, slice_get}
use Rattle.pepa_lexer.specs.declared.kinds.Token.{Token}
use Rattle.pepa_lexer.specs.declared.kinds.Kind.{Kind}
use Rattle.pepa_lexer.specs.declared.kinds.Kind.TheVariants as kinds
use Rattle.pepa_lexer.specs.declared.kinds.Sign.TheVariants as signs
use Rattle.probe_words.specs.declared.letter.Letter.{Letter}
use Rattle.probe_words.specs.declared.letter.Letter.TheVariants.{Action, Signal}
use Rattle.probe_words.specs.declared.guard.Relation.{Relation}
use Rattle.probe_words.specs.declared.guard.Relation.TheVariants.{Less, AtMost, More, AtLeast, Equal, Unequal}
use Rattle.probe_words.specs.Guards.{Condition, Counted, Both, Either, Not, AsksBelow}
use Rattle.probe_words.specs.Words.{Pattern, Only, Then, Or, Label, Star, Plus, Maybe, Times, Between, Reset, Guarded, IsProperPattern}
use Rattle.probe_words.specs.Twins.{pattern_of}
use Rattle.probe_words.specs.ProbeTables.{by_first_places}
use Rattle.probe_reader.specs.ProbeTrees.{GuardNode, CountAt, BothOf, EitherOf, NotOf, ProbeNode, OneAt, ThenOf, OrOf, LabelOf, StarOf, PlusOf, MaybeOf, TimesOf, BetweenOf, ResetOf, GuardedOf}
use Rattle.probe_numbers.specs.WholeNumbers.{IsCountAt, whole_at}
use Rattle.probe_numbers.specs.declared.numbered.NumberedProbe.{NumberedProbe}

-- ---- names

-- the numbers of the action, the label and the constant that the name at an index denotes
pub record NameMeanings : Type 0 where
  pub action : ℕ → Option ℕ
  pub label : ℕ → Option ℕ
  pub constant : ℕ → Option ℕ

-- the number; a name that has none is unknown, and no expression with unknown names is numbered
abbrev pub number_given : Option ℕ → ℕ
number_given None = 0
number_given (Some n) = n

abbrev pub label_number : NameMeanings → ℕ → ℕ
label_number names at = number_given (names.label at)

abbrev pub constant_number : NameMeanings → ℕ → ℕ
constant_number names at = number_given (names.constant at)

-- the action of the name, where there is one, else the label
abbrev pub letter_given : Option ℕ → ℕ → Letter
letter_given (Some action) label = Action action
letter_given None label = Signal label

abbrev pub letter_at : NameMeanings → ℕ → Letter
letter_at names at = letter_given (names.action at) (label_number names at)

-- ---- the constants that are counted

-- the indices of the constants in a guard, in the order of the text
abbrev pub constants_in_guard : GuardNode → List ℕ
constants_in_guard (CountAt which relation number) = which ∷ []
constants_in_guard (BothOf left right) = constants_in_guard left ++ constants_in_guard right
constants_in_guard (EitherOf left right) = constants_in_guard left ++ constants_in_guard right
constants_in_guard (NotOf inner) = constants_in_guard inner

-- the indices of the constants in the guards of an expression, in the order of the text
abbrev pub constants_in_probe : ProbeNode → List ℕ
constants_in_probe (OneAt at) = []
constants_in_probe (ThenOf left right) = constants_in_probe left ++ constants_in_probe right
constants_in_probe (OrOf left right) = constants_in_probe left ++ constants_in_probe right
constants_in_probe (LabelOf inner name) = constants_in_probe inner
constants_in_probe (StarOf inner) = constants_in_probe inner
constants_in_probe (PlusOf inner) = constants_in_probe inner
constants_in_probe (MaybeOf inner) = constants_in_probe inner
constants_in_probe (TimesOf inner number) = constants_in_probe inner
constants_in_probe (BetweenOf inner least most) = constants_in_probe inner
constants_in_probe (ResetOf inner name) = constants_in_probe inner
constants_in_probe (GuardedOf guard inner) = constants_in_guard guard ++ constants_in_probe inner

-- the numbers of these constants, each once, in the order of their first places
abbrev pub counted_in : NameMeanings → ProbeNode → List ℕ
counted_in names node = by_first_places nat_eq [] (map (constant_number names) (constants_in_probe node))

-- the place of the number among the counted ones
abbrev pub place_in_counted : List ℕ → ℕ → ℕ
place_in_counted counted number = number_given (position (nat_eq number) counted)

-- ---- expressions

-- the relation of a sign; `!=` and each sign that is no relation
abbrev pub relation_of_kind : Kind → Relation
relation_of_kind (kinds.Sign signs.Less) = Less
relation_of_kind (kinds.Sign signs.LessOrEqual) = AtMost
relation_of_kind (kinds.Sign signs.Greater) = More
relation_of_kind (kinds.Sign signs.GreaterOrEqual) = AtLeast
relation_of_kind (kinds.Sign signs.EqualTo) = Equal
relation_of_kind _ = Unequal

abbrev pub relation_of : Option Token → Relation
relation_of None = Unequal
relation_of (Some token) = relation_of_kind token.kind

abbrev pub relation_at : List Token → ℕ → Relation
relation_at tokens at = relation_of (slice_get tokens at)

-- a guard with numbers: a constant has its place among the counted ones
abbrev pub condition_in : List Token → NameMeanings → List ℕ → GuardNode → Condition
condition_in tokens names counted (CountAt which relation number) =
    Counted (place_in_counted counted (constant_number names which)) (relation_at tokens relation) (whole_at tokens number)
condition_in tokens names counted (BothOf left right) = Both (condition_in tokens names counted left) (condition_in tokens names counted right)
condition_in tokens names counted (EitherOf left right) = Either (condition_in tokens names counted left) (condition_in tokens names counted right)
condition_in tokens names counted (NotOf inner) = Not (condition_in tokens names counted inner)

-- an expression with numbers, where these constants are counted
abbrev pub pattern_with : List Token → NameMeanings → List ℕ → ProbeNode → Pattern
pattern_with tokens names counted (OneAt at) = Only (letter_at names at)
pattern_with tokens names counted (ThenOf left right) = Then (pattern_with tokens names counted left) (pattern_with tokens names counted right)
pattern_with tokens names counted (OrOf left right) = Or (pattern_with tokens names counted left) (pattern_with tokens names counted right)
pattern_with tokens names counted (LabelOf inner name) = Label (pattern_with tokens names counted inner) (label_number names name)
pattern_with tokens names counted (StarOf inner) = Star (pattern_with tokens names counted inner)
pattern_with tokens names counted (PlusOf inner) = Plus (pattern_with tokens names counted inner)
pattern_with tokens names counted (MaybeOf inner) = Maybe (pattern_with tokens names counted inner)
pattern_with tokens names counted (TimesOf inner number) = Times (pattern_with tokens names counted inner) (whole_at tokens number)
pattern_with tokens names counted (BetweenOf inner least most) = Between (pattern_with tokens names counted inner) (whole_at tokens least) (whole_at tokens most)
pattern_with tokens names counted (ResetOf inner name) = Reset (pattern_with tokens names counted inner) (letter_at names name)
pattern_with tokens names counted (GuardedOf guard inner) = Guarded (condition_in tokens names counted guard) (pattern_with tokens names counted inner)

-- the expression of a tree with numbers: all constants of its own guards are counted
abbrev pub pattern_in : List Token → NameMeanings → ProbeNode → Pattern
pattern_in tokens names node = pattern_with tokens names (counted_in names node) node

-- ---- what is asked of a tree

-- each number of the guard is whole and at most 65,535
abbrev pub HasGoodGuardCounts : List Token → GuardNode → Type 0
HasGoodGuardCounts tokens (CountAt which relation number) = IsCountAt tokens 65535 number
HasGoodGuardCounts tokens (BothOf left right) = HasGoodGuardCounts tokens left × HasGoodGuardCounts tokens right
HasGoodGuardCounts tokens (EitherOf left right) = HasGoodGuardCounts tokens left × HasGoodGuardCounts tokens right
HasGoodGuardCounts tokens (NotOf inner) = HasGoodGuardCounts tokens inner

-- the numbers of a repeat are whole and at most 63, and the first is at most the second
pub record IsRepeatRange (tokens : List Token) (least most : ℕ) : Type 0 where
  pub least_is : IsCountAt tokens 63 least
  pub most_is : IsCountAt tokens 63 most
  pub in_order : whole_at tokens least ≤ whole_at tokens most

-- no count of the expression is bad
abbrev pub HasGoodCounts : List Token → ProbeNode → Type 0
HasGoodCounts tokens (OneAt at) = Unit {0}
HasGoodCounts tokens (ThenOf left right) = HasGoodCounts tokens left × HasGoodCounts tokens right
HasGoodCounts tokens (OrOf left right) = HasGoodCounts tokens left × HasGoodCounts tokens right
HasGoodCounts tokens (LabelOf inner name) = HasGoodCounts tokens inner
HasGoodCounts tokens (StarOf inner) = HasGoodCounts tokens inner
HasGoodCounts tokens (PlusOf inner) = HasGoodCounts tokens inner
HasGoodCounts tokens (MaybeOf inner) = HasGoodCounts tokens inner
HasGoodCounts tokens (TimesOf inner number) = HasGoodCounts tokens inner × IsCountAt tokens 63 number
HasGoodCounts tokens (BetweenOf inner least most) = HasGoodCounts tokens inner × IsRepeatRange tokens least most
HasGoodCounts tokens (ResetOf inner name) = HasGoodCounts tokens inner
HasGoodCounts tokens (GuardedOf guard inner) = HasGoodGuardCounts tokens guard × HasGoodCounts tokens inner

-- the name denotes an action or a label
abbrev pub IsKnownLetter : NameMeanings → ℕ → Type 0
IsKnownLetter names at = ((n : ℕ) × (names.action at ≡ Some n)) ⊎ ((n : ℕ) × (names.label at ≡ Some n))

-- the name denotes a label with a number below 64
abbrev pub IsSentLabel : NameMeanings → ℕ → Type 0
IsSentLabel names at = (n : ℕ) × (names.label at ≡ Some n) × (n < 64)

-- the name denotes a constant
abbrev pub IsKnownConstant : NameMeanings → ℕ → Type 0
IsKnownConstant names at = (n : ℕ) × (names.constant at ≡ Some n)

-- each constant of the guard is known
abbrev pub HasKnownConstants : NameMeanings → GuardNode → Type 0
HasKnownConstants names (CountAt which relation number) = IsKnownConstant names which
HasKnownConstants names (BothOf left right) = HasKnownConstants names left × HasKnownConstants names right
HasKnownConstants names (EitherOf left right) = HasKnownConstants names left × HasKnownConstants names right
HasKnownConstants names (NotOf inner) = HasKnownConstants names inner

-- each name of the expression is known, and the labels that it sends have numbers below 64
abbrev pub HasKnownNames : NameMeanings → ProbeNode → Type 0
HasKnownNames names (OneAt at) = IsKnownLetter names at
HasKnownNames names (ThenOf left right) = HasKnownNames names left × HasKnownNames names right
HasKnownNames names (OrOf left right) = HasKnownNames names left × HasKnownNames names right
HasKnownNames names (LabelOf inner name) = HasKnownNames names inner × IsSentLabel names name
HasKnownNames names (StarOf inner) = HasKnownNames names inner
HasKnownNames names (PlusOf inner) = HasKnownNames names inner
HasKnownNames names (MaybeOf inner) = HasKnownNames names inner
HasKnownNames names (TimesOf inner number) = HasKnownNames names inner
HasKnownNames names (BetweenOf inner least most) = HasKnownNames names inner
HasKnownNames names (ResetOf inner name) = HasKnownNames names inner × IsKnownLetter names name
HasKnownNames names (GuardedOf guard inner) = HasKnownConstants names guard × HasKnownNames names inner

-- ---- what is promised of the numbered expression

-- each guard asks for counts below n alone
abbrev pub GuardsAskBelow : ℕ → Pattern → Type 0
GuardsAskBelow n (Only a) = Unit {0}
GuardsAskBelow n (Then r s) = GuardsAskBelow n r × GuardsAskBelow n s
GuardsAskBelow n (Or r s) = GuardsAskBelow n r × GuardsAskBelow n s
GuardsAskBelow n (Label r l) = GuardsAskBelow n r
GuardsAskBelow n (Star r) = GuardsAskBelow n r
GuardsAskBelow n (Plus r) = GuardsAskBelow n r
GuardsAskBelow n (Maybe r) = GuardsAskBelow n r
GuardsAskBelow n (Times r k) = GuardsAskBelow n r
GuardsAskBelow n (Between r k m) = GuardsAskBelow n r
GuardsAskBelow n (Reset r a) = GuardsAskBelow n r
GuardsAskBelow n (Guarded g r) = AsksBelow n g × GuardsAskBelow n r

-- the expression and the counted constants of the tree; the expression is proper, and its guards ask for no count past the counted ones
pub record IsNumberedProbe (tokens : List Token) (names : NameMeanings) (node : ProbeNode) (probe : NumberedProbe) : Type 0 where
  pub pattern_is : pattern_of probe.expr ≡ pattern_in tokens names node
  pub counted_is : probe.counted ≡ counted_in names node
  pub proper : IsProperPattern (pattern_of probe.expr)
  pub asks : GuardsAskBelow (length probe.counted) (pattern_of probe.expr)
