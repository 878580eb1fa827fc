-- How names are spelled, and which rates can be written: those that a text has.
use Rattle.std.specs.Prelude.{◌≡◌, ℕ, ◌≤◌, ⊤, true, false, List, length, codes}
use Rattle.pepa_rates.specs.Fraction.{IsProper}
use Rattle.pepa_rates.specs.declared.rate.Rate.{Rate}
use Rattle.pepa_rates.specs.declared.rate.Rate.TheVariants.{Active, Passive}
use Rattle.pepa_lexer.specs.Bytes.{is_capital, begins}
use Rattle.pepa_lexer.specs.Lexemes.{IsWord}
use Rattle.pepa_model.specs.Expression.{Expression, Const, Prefixed, Chosen, Shape, LeafShape, ConstShape, CoopShape, HideShape, Definition, Sequentially, Compoundly}

-- a letter and then letters, digits and `_`, at most 64 bytes
abbrev pub IsShortWord : List ℕ → Type 0
IsShortWord name = IsWord name × (length name ≤ 64)

-- the name of a constant: it begins with a capital letter, and isn't the word `T`
abbrev pub IsConstantName : List ℕ → Type 0
IsConstantName name = IsShortWord name × (begins is_capital name ≡ true) × (¬ (name ≡ codes "T"))

-- the name of an action type: it begins with a small letter, and is neither the word `infty` nor `tau`
abbrev pub IsActionName : List ℕ → Type 0
IsActionName name = IsShortWord name × (begins is_capital name ≡ false) × (¬ (name ≡ codes "infty")) × (¬ (name ≡ codes "tau"))

-- a rate that can be written: a fraction of the program, and a whole number as a weight
abbrev pub IsWrittenRate : Rate → Type 0
IsWrittenRate (Active q) = IsProper q
IsWrittenRate (Passive q) = IsProper q × (q.den ≡ 1)

-- the rates of a component, of a system, and of what a constant stands for
abbrev pub HasWrittenRates : Expression → Type 0
HasWrittenRates (Const c) = ⊤
HasWrittenRates (Prefixed a r next) = IsWrittenRate r × HasWrittenRates next
HasWrittenRates (Chosen x y) = HasWrittenRates x × HasWrittenRates y

abbrev pub HasWrittenShape : Shape → Type 0
HasWrittenShape (LeafShape e) = HasWrittenRates e
HasWrittenShape (ConstShape c) = ⊤
HasWrittenShape (CoopShape x y set) = HasWrittenShape x × HasWrittenShape y
HasWrittenShape (HideShape x set) = HasWrittenShape x

abbrev pub HasWrittenDefinition : Definition → Type 0
HasWrittenDefinition (Sequentially e) = HasWrittenRates e
HasWrittenDefinition (Compoundly shape) = HasWrittenShape shape
