-- Trees of files that are written as the parts of a model are: a tree node for each node of the model, and at its index the
-- name, the number or the sign.
use Rattle.std.specs.Prelude.{◌≡◌, ℕ, ◌+◌, ⊤, ◌⊎◌, List, [], ◌∷◌, Some, None, slice_get}
use Rattle.std.specs.List.{AllZip}
use Rattle.pepa_rates.specs.Fraction.{Fraction}
use Rattle.pepa_rates.specs.declared.rate.Rate.{Rate}
use Rattle.pepa_rates.specs.declared.rate.Rate.TheVariants.{Active, Passive}
use Rattle.pepa_lexer.specs.declared.kinds.Kind.{Kind}
use Rattle.pepa_lexer.specs.declared.kinds.Kind.TheVariants.{Number, Sign}
use Rattle.pepa_lexer.specs.declared.kinds.Sign.TheVariants.{Slash}
use Rattle.pepa_lexer.specs.declared.kinds.Token.{Token}
use Rattle.pepa_reader.specs.Trees.{RateNode, NumberAt, TopAt, OpAt, ProcessNode, ConstantAt, PrefixAt, ChoiceOf, CoopAt, HideOf, ProcessLineNode, FileNode}
use Rattle.pepa_model.specs.Expression.{Expression, Const, Prefixed, Chosen, Shape, LeafShape, ConstShape, CoopShape, HideShape, Definition, Sequentially, Compoundly}
use Rattle.pepa_model.specs.PepaModel.{PepaModel}
use Rattle.token_grammar.specs.Terminals.{name_at}
use Rattle.pepa_text.specs.ComponentText.{name_of}
use Rattle.pepa_text.specs.SetText.{set_of}

-- the token at an index is of this kind
abbrev pub IsKindAt : List Token → ℕ → Kind → Type 0
IsKindAt tokens i kind = (token : Token) × (slice_get tokens i ≡ Some token) × (token.kind ≡ kind)

-- ---- rates

-- a fraction is its numerator alone, or its numerator over its denominator
abbrev pub IsFractionAt : List Token → Fraction → RateNode → Type 0
IsFractionAt tokens q node =
    ((i : ℕ) × (node ≡ NumberAt i) × (q.den ≡ 1) × IsKindAt tokens i (Number q.num 0))
    ⊎ ((i j k : ℕ) × (node ≡ OpAt i (NumberAt j) (NumberAt k)) × IsKindAt tokens i (Sign Slash) × IsKindAt tokens j (Number q.num 0) × IsKindAt tokens k (Number q.den 0))

-- a weight is left out if it is 1, and is else a whole number
abbrev pub IsWeightAt : List Token → Fraction → RateNode → Type 0
IsWeightAt tokens q node =
    ((i : ℕ) × (node ≡ TopAt None i) × (q.num ≡ 1) × (q.den ≡ 1))
    ⊎ ((i w : ℕ) × (node ≡ TopAt (Some w) i) × (q.den ≡ 1) × IsKindAt tokens w (Number q.num 0))

abbrev pub IsRateAt : List Token → Rate → RateNode → Type 0
IsRateAt tokens (Active q) node = IsFractionAt tokens q node
IsRateAt tokens (Passive q) node = IsWeightAt tokens q node

-- ---- processes

abbrev pub IsExpressionAt : List ℕ → List Token → PepaModel → Expression → ProcessNode → Type 0
IsExpressionAt input tokens m (Const c) (ConstantAt at) = name_at input tokens at ≡ name_of m.constants c
IsExpressionAt input tokens m (Prefixed a r next) (PrefixAt at rate node) =
    (name_at input tokens (at + 1) ≡ name_of m.actions a) × IsRateAt tokens r rate × IsExpressionAt input tokens m next node
IsExpressionAt input tokens m (Chosen x y) (ChoiceOf left right) = IsExpressionAt input tokens m x left × IsExpressionAt input tokens m y right
IsExpressionAt input tokens m _ _ = ⊥

-- the words of a set are its action types' names, in their order
abbrev pub IsSetAt : List ℕ → List Token → PepaModel → ℕ → List ℕ → Type 0
IsSetAt input tokens m set words = AllZip (λ i a. name_at input tokens i ≡ name_of m.actions a) words (set_of m set)

abbrev pub IsShapeAt : List ℕ → List Token → PepaModel → Shape → ProcessNode → Type 0
IsShapeAt input tokens m (LeafShape e) node = IsExpressionAt input tokens m e node
IsShapeAt input tokens m (ConstShape c) (ConstantAt at) = name_at input tokens at ≡ name_of m.constants c
IsShapeAt input tokens m (CoopShape x y set) (CoopAt at left right words) =
    IsShapeAt input tokens m x left × IsShapeAt input tokens m y right × IsSetAt input tokens m set words
IsShapeAt input tokens m (HideShape x set) (HideOf node words) = IsShapeAt input tokens m x node × IsSetAt input tokens m set words
IsShapeAt input tokens m _ _ = ⊥

abbrev pub IsDefinitionAt : List ℕ → List Token → PepaModel → Definition → ProcessNode → Type 0
IsDefinitionAt input tokens m (Sequentially e) node = IsExpressionAt input tokens m e node
IsDefinitionAt input tokens m (Compoundly shape) node = IsShapeAt input tokens m shape node

-- ---- files

-- a line for each constant, with its name and what it stands for
abbrev pub AreLinesAt : List ℕ → List Token → PepaModel → List (List ℕ) → List Definition → List ProcessLineNode → Type 0
AreLinesAt input tokens m [] [] [] = ⊤
AreLinesAt input tokens m (name ∷ names) (definition ∷ definitions) (line ∷ lines) =
    (name_at input tokens line.line_at ≡ name) × IsDefinitionAt input tokens m definition line.body × AreLinesAt input tokens m names definitions lines
AreLinesAt input tokens m _ _ _ = ⊥

-- no rate line, a line for each constant, and the system
pub record IsPrintedFile (input : List ℕ) (tokens : List Token) (m : PepaModel) (file : FileNode) : Type 0 where
  pub no_rates : file.rates ≡ []
  pub no_probes : file.probes ≡ []
  pub lines : AreLinesAt input tokens m m.constants m.bodies file.processes
  pub system : IsShapeAt input tokens m m.system file.system
