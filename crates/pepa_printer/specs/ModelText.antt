-- The text of a model in its normal form: a line for each constant, and then its system.
use Rattle.std.specs.Prelude.{ℕ, List, [], ◌∷◌, ◌++◌, codes}
use Rattle.pepa_model.specs.Expression.{Definition, Sequentially, Compoundly, definition_of}
use Rattle.pepa_model.specs.PepaModel.{PepaModel}
use Rattle.pepa_model.specs.declared.term.Body.{Body}
use Rattle.pepa_text.specs.ComponentText.{name_of, expression_text}
use Rattle.pepa_text.specs.SystemText.{shape_text}

-- what a constant stands for
abbrev pub definition_text : PepaModel → Definition → List ℕ
definition_text m (Sequentially e) = expression_text m e
definition_text m (Compoundly shape) = shape_text m shape

-- the text of what a constant stands for, as the program holds it
abbrev pub definition_text_of : PepaModel → Body → List ℕ
definition_text_of m body = definition_text m (definition_of body)

-- the line of a constant of this name: `P = (a, 1).Q;`, and a line feed
abbrev pub line_text : PepaModel → List ℕ → Definition → List ℕ
line_text m name definition = name ++ codes " = " ++ definition_text m definition ++ codes ";" ++ 10 ∷ []

-- the line of the constant of this number, for what the program holds of it
abbrev pub line_text_of : PepaModel → ℕ → Body → List ℕ
line_text_of m constant body = line_text m (name_of m.constants constant) (definition_of body)

-- the lines of constants of these names
abbrev pub lines_text : PepaModel → List (List ℕ) → List Definition → List ℕ
lines_text m (name ∷ names) (definition ∷ definitions) = line_text m name definition ++ lines_text m names definitions
lines_text m _ _ = []

-- the lines of a model's constants in the order of their numbers
abbrev pub model_lines_text : PepaModel → List ℕ
model_lines_text m = lines_text m m.constants m.bodies

-- they, and the system on a line of its own
abbrev pub model_text : PepaModel → List ℕ
model_text m = model_lines_text m ++ shape_text m m.system ++ 10 ∷ []
