-- The text of sequential components.
use Rattle.std.specs.Prelude.{ℕ, Bool, true, false, List, [], ◌++◌, slice_index_or, codes, if◌then◌else◌}
use Rattle.pepa_rates.specs.declared.rate.Rate.{Rate}
use Rattle.pepa_model.specs.Expression.{Expression, Const, Prefixed, Chosen, expression_of}
use Rattle.pepa_model.specs.PepaModel.{PepaModel}
use Rattle.pepa_model.specs.declared.term.Sequential.{Sequential}
use Rattle.pepa_text.specs.RateText.{rate_text}

-- ---- brackets

-- the text in brackets
abbrev pub in_brackets : List ℕ → List ℕ
in_brackets text = codes "(" ++ text ++ codes ")"

-- the text, in brackets where it is to have some
abbrev pub operand_text : Bool → List ℕ → List ℕ
operand_text brackets text = if brackets then in_brackets text else text

-- ---- components

-- the name at this place
abbrev pub name_of : List (List ℕ) → ℕ → List ℕ
name_of names n = slice_index_or names n []

-- the component is a choice
abbrev pub is_choice : Expression → Bool
is_choice (Const c) = false
is_choice (Prefixed a r next) = false
is_choice (Chosen x y) = true

-- the component is no constant
abbrev pub is_composed : Expression → Bool
is_composed (Const c) = false
is_composed (Prefixed a r next) = true
is_composed (Chosen x y) = true

-- `(a, r).`
abbrev pub prefix_text : PepaModel → ℕ → Rate → List ℕ
prefix_text m a r = codes "(" ++ name_of m.actions a ++ codes ", " ++ rate_text r ++ codes ")."

-- a component as it is written: a choice has brackets after `.` and after `+`
abbrev pub expression_text : PepaModel → Expression → List ℕ
expression_text m (Const c) = name_of m.constants c
expression_text m (Prefixed a r next) = prefix_text m a r ++ operand_text (is_choice next) (expression_text m next)
expression_text m (Chosen x y) = expression_text m x ++ codes " + " ++ operand_text (is_choice y) (expression_text m y)

-- the text of the component that the program holds
abbrev pub component_text : PepaModel → Sequential → List ℕ
component_text m component = expression_text m (expression_of component)
