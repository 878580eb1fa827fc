-- The text of a model as its tokens, each with its kind and its bytes.
use Rattle.std.specs.Prelude.{◌==◌, ℕ, Bool, List, [], ◌∷◌, ◌++◌, flat_map, codes, decimal, if◌then◌else◌}
use Rattle.pepa_rates.specs.Fraction.{Fraction}
use Rattle.pepa_rates.specs.declared.rate.Rate.{Rate}
use Rattle.pepa_rates.specs.declared.rate.Rate.TheVariants.{Active, Passive}
use Rattle.pepa_lexer.specs.Signs.{sign_bytes}
use Rattle.pepa_lexer.specs.declared.kinds.Kind.{Kind}
use Rattle.pepa_lexer.specs.declared.kinds.Kind.TheVariants as kinds
use Rattle.pepa_lexer.specs.declared.kinds.Sign.{Sign}
use Rattle.pepa_lexer.specs.declared.kinds.Sign.TheVariants.{Equals, Semicolon, Opening, Closing, Comma, Dot, Plus, Star, Slash, Less, Greater, Or, OpeningBrace, ClosingBrace}
use Rattle.pepa_lexer.specs.declared.kinds.Token.{Token}
use Rattle.token_grammar.specs.Terminals.{text_of}
use Rattle.pepa_model.specs.Expression.{Expression, Const, Prefixed, Chosen, Shape, LeafShape, ConstShape, CoopShape, HideShape, Definition, Sequentially, Compoundly}
use Rattle.pepa_model.specs.PepaModel.{PepaModel}
use Rattle.pepa_text.specs.ComponentText.{name_of, is_choice}
use Rattle.pepa_text.specs.RateText.{is_one}
use Rattle.pepa_text.specs.SetText.{set_of}
use Rattle.pepa_text.specs.SystemText.{written_shape, is_cooperation, is_bracketed}

-- a token without its place
pub record Piece : Type 0 where
  pub kind : Kind
  pub bytes : List ℕ

abbrev pub piece : Kind → List ℕ → Piece
piece kind bytes = record { kind = kind; bytes = bytes }

-- the token of an input
abbrev pub piece_of : List ℕ → Token → Piece
piece_of input token = piece token.kind (text_of input token)

abbrev pub sign_piece : Sign → Piece
sign_piece sign = piece (kinds.Sign sign) (sign_bytes sign)

abbrev pub number_piece : ℕ → Piece
number_piece n = piece (kinds.Number n 0) (decimal n)

abbrev pub capital_piece : List ℕ → Piece
capital_piece name = piece kinds.Capital name

abbrev pub small_piece : List ℕ → Piece
small_piece name = piece kinds.Small name

-- ---- rates

abbrev pub fraction_pieces : Fraction → List Piece
fraction_pieces q = if q.den == 1 then number_piece q.num ∷ [] else number_piece q.num ∷ sign_piece Slash ∷ number_piece q.den ∷ []

abbrev pub weight_pieces : Fraction → List Piece
weight_pieces q = if is_one q then small_piece (codes "infty") ∷ [] else fraction_pieces q ++ sign_piece Star ∷ small_piece (codes "infty") ∷ []

abbrev pub rate_pieces : Rate → List Piece
rate_pieces (Active q) = fraction_pieces q
rate_pieces (Passive q) = weight_pieces q

-- ---- components

abbrev pub bracketed : List Piece → List Piece
bracketed pieces = sign_piece Opening ∷ (pieces ++ sign_piece Closing ∷ [])

abbrev pub operand_pieces : Bool → List Piece → List Piece
operand_pieces brackets pieces = if brackets then bracketed pieces else pieces

abbrev pub prefix_pieces : PepaModel → ℕ → Rate → List Piece
prefix_pieces m a r =
    sign_piece Opening ∷ small_piece (name_of m.actions a) ∷ sign_piece Comma ∷ (rate_pieces r ++ sign_piece Closing ∷ sign_piece Dot ∷ [])

abbrev pub expression_pieces : PepaModel → Expression → List Piece
expression_pieces m (Const c) = capital_piece (name_of m.constants c) ∷ []
expression_pieces m (Prefixed a r next) = prefix_pieces m a r ++ operand_pieces (is_choice next) (expression_pieces m next)
expression_pieces m (Chosen x y) = expression_pieces m x ++ sign_piece Plus ∷ operand_pieces (is_choice y) (expression_pieces m y)

-- ---- systems

abbrev pub further_pieces : PepaModel → ℕ → List Piece
further_pieces m a = sign_piece Comma ∷ small_piece (name_of m.actions a) ∷ []

abbrev pub set_pieces : PepaModel → List ℕ → List Piece
set_pieces m [] = []
set_pieces m (a ∷ set) = small_piece (name_of m.actions a) ∷ flat_map (further_pieces m) set

abbrev pub coop_pieces : PepaModel → List ℕ → List Piece
coop_pieces m [] = sign_piece Or ∷ []
coop_pieces m (a ∷ set) = sign_piece Less ∷ (set_pieces m (a ∷ set) ++ sign_piece Greater ∷ [])

abbrev pub hiding_pieces : PepaModel → List ℕ → List Piece
hiding_pieces m set = sign_piece Slash ∷ sign_piece OpeningBrace ∷ (set_pieces m set ++ sign_piece ClosingBrace ∷ [])

abbrev pub shape_pieces : PepaModel → Shape → List Piece
shape_pieces m (LeafShape e) = expression_pieces m e
shape_pieces m (ConstShape c) = capital_piece (name_of m.constants c) ∷ []
shape_pieces m (CoopShape x y set) =
    shape_pieces m x ++ (coop_pieces m (set_of m set) ++ operand_pieces (is_cooperation (written_shape m y)) (shape_pieces m y))
shape_pieces m (HideShape x set) = operand_pieces (is_bracketed (written_shape m x)) (shape_pieces m x) ++ hiding_pieces m (set_of m set)

-- ---- lines

abbrev pub definition_pieces : PepaModel → Definition → List Piece
definition_pieces m (Sequentially e) = expression_pieces m e
definition_pieces m (Compoundly shape) = shape_pieces m shape

abbrev pub line_pieces : PepaModel → List ℕ → Definition → List Piece
line_pieces m name definition = capital_piece name ∷ sign_piece Equals ∷ (definition_pieces m definition ++ sign_piece Semicolon ∷ [])

abbrev pub lines_pieces : PepaModel → List (List ℕ) → List Definition → List Piece
lines_pieces m (name ∷ names) (definition ∷ definitions) = line_pieces m name definition ++ lines_pieces m names definitions
lines_pieces m _ _ = []

-- the tokens of a model's text, the end among them
abbrev pub model_pieces : PepaModel → List Piece
model_pieces m = lines_pieces m m.constants m.bodies ++ (shape_pieces m m.system ++ piece kinds.End [] ∷ [])
