-- Codes for expressions, shapes and definitions, by which proofs tell them apart: the nodes in post-order, which a stack
-- reads back.
use Rattle.std.specs.Prelude.{◌≡◌, ℕ, List, [], ◌∷◌, ◌++◌, Option, None, Some, ◌⊎◌, refl}
use Rattle.std.specs.Coded.{Coded, code_by, coded_ℕ, coded_list, coded_option, coded×, coded⊎}
use Rattle.std.proofs.Common.{inl, inr, append_assoc, ◌∙◌, ap}
use Rattle.pepa_rates.specs.declared.rate.Rate.{Rate}
use Rattle.pepa_rates.specs.contracts.rate.Rate as rate
use Rattle.pepa_model.specs.Expression.{Expression, Const, Prefixed, Chosen, Shape, LeafShape, ConstShape, CoopShape, HideShape, Definition, Sequentially, Compoundly}

-- ---- expressions

-- a choice, a constant, or an action type with its rate
abbrev Node : Type 0
Node = Option (ℕ ⊎ (ℕ × Rate))

abbrev nodes : Expression → List Node
nodes (Const c) = Some (inl c) ∷ []
nodes (Prefixed a r next) = nodes next ++ Some (inr (a, r)) ∷ []
nodes (Chosen x y) = (nodes x ++ nodes y) ++ None ∷ []

abbrev choose : List Expression → List Expression
choose (y ∷ x ∷ stack) = Chosen x y ∷ stack
choose (y ∷ []) = []
choose [] = []

abbrev prefix : ℕ → Rate → List Expression → List Expression
prefix a r (x ∷ stack) = Prefixed a r x ∷ stack
prefix a r [] = []

abbrev put : Node → List Expression → List Expression
put None stack = choose stack
put (Some (inl c)) stack = Const c ∷ stack
put (Some (inr p)) stack = prefix p.0 p.1 stack

abbrev read : List Node → List Expression → List Expression
read [] stack = stack
read (n ∷ rest) stack = read rest (put n stack)

abbrev top : List Expression → Expression
top (x ∷ stack) = x
top [] = Const 0

read-nodes : (e : Expression) (rest : List Node) (stack : List Expression) → read (nodes e ++ rest) stack ≡ read rest (e ∷ stack)
read-nodes (Const c) rest stack = refl
read-nodes (Prefixed a r next) rest stack =
    ap (λ l. read l stack) (append_assoc (nodes next) (Some (inr (a, r)) ∷ []) rest) ∙ read-nodes next (Some (inr (a, r)) ∷ rest) stack
read-nodes (Chosen x y) rest stack =
    ap (λ l. read l stack) (append_assoc (nodes x ++ nodes y) (None ∷ []) rest ∙ append_assoc (nodes x) (nodes y) (None ∷ rest))
    ∙ read-nodes x (nodes y ++ None ∷ rest) stack
    ∙ read-nodes y (None ∷ rest) (x ∷ stack)

pub again : (e : Expression) → top (read (nodes e) []) ≡ e
again (Const c) = refl
again (Prefixed a r next) = ap top (read-nodes next (Some (inr (a, r)) ∷ []) [])
again (Chosen x y) =
    ap (λ l. top (read l [])) (append_assoc (nodes x) (nodes y) (None ∷ []))
    ∙ ap top (read-nodes x (nodes y ++ None ∷ []) [])
    ∙ ap top (read-nodes y (None ∷ []) (x ∷ []))

abbrev pub expression_code : Coded Expression
expression_code =
    code_by (List Node) (coded_list (coded_option (coded⊎ coded_ℕ (coded× coded_ℕ rate.the_row.coded)))) nodes (λ l. top (read l [])) again

-- ---- shapes

-- a component or a constant; or whether it is a cooperation, and the number of its set
abbrev Piece : Type 0
Piece = (Expression ⊎ ℕ) ⊎ (ℕ ⊎ ℕ)

abbrev pieces : Shape → List Piece
pieces (LeafShape e) = inl (inl e) ∷ []
pieces (ConstShape c) = inl (inr c) ∷ []
pieces (CoopShape x y set) = (pieces x ++ pieces y) ++ inr (inl set) ∷ []
pieces (HideShape x set) = pieces x ++ inr (inr set) ∷ []

abbrev cooperate : ℕ → List Shape → List Shape
cooperate set (y ∷ x ∷ stack) = CoopShape x y set ∷ stack
cooperate set (y ∷ []) = []
cooperate set [] = []

abbrev hide : ℕ → List Shape → List Shape
hide set (x ∷ stack) = HideShape x set ∷ stack
hide set [] = []

abbrev put_piece : Piece → List Shape → List Shape
put_piece (inl (inl e)) stack = LeafShape e ∷ stack
put_piece (inl (inr c)) stack = ConstShape c ∷ stack
put_piece (inr (inl set)) stack = cooperate set stack
put_piece (inr (inr set)) stack = hide set stack

abbrev read_pieces : List Piece → List Shape → List Shape
read_pieces [] stack = stack
read_pieces (n ∷ rest) stack = read_pieces rest (put_piece n stack)

abbrev top_shape : List Shape → Shape
top_shape (x ∷ stack) = x
top_shape [] = ConstShape 0

read-pieces : (s : Shape) (rest : List Piece) (stack : List Shape) → read_pieces (pieces s ++ rest) stack ≡ read_pieces rest (s ∷ stack)
read-pieces (LeafShape e) rest stack = refl
read-pieces (ConstShape c) rest stack = refl
read-pieces (CoopShape x y set) rest stack =
    ap (λ l. read_pieces l stack) (append_assoc (pieces x ++ pieces y) (inr (inl set) ∷ []) rest ∙ append_assoc (pieces x) (pieces y) (inr (inl set) ∷ rest))
    ∙ read-pieces x (pieces y ++ inr (inl set) ∷ rest) stack
    ∙ read-pieces y (inr (inl set) ∷ rest) (x ∷ stack)
read-pieces (HideShape x set) rest stack =
    ap (λ l. read_pieces l stack) (append_assoc (pieces x) (inr (inr set) ∷ []) rest) ∙ read-pieces x (inr (inr set) ∷ rest) stack

pub shape_again : (s : Shape) → top_shape (read_pieces (pieces s) []) ≡ s
shape_again (LeafShape e) = refl
shape_again (ConstShape c) = refl
shape_again (CoopShape x y set) =
    ap (λ l. top_shape (read_pieces l [])) (append_assoc (pieces x) (pieces y) (inr (inl set) ∷ []))
    ∙ ap top_shape (read-pieces x (pieces y ++ inr (inl set) ∷ []) [])
    ∙ ap top_shape (read-pieces y (inr (inl set) ∷ []) (x ∷ []))
shape_again (HideShape x set) = ap top_shape (read-pieces x (inr (inr set) ∷ []) [])

abbrev pub shape_code : Coded Shape
shape_code =
    code_by (List Piece) (coded_list (coded⊎ (coded⊎ expression_code coded_ℕ) (coded⊎ coded_ℕ coded_ℕ))) pieces (λ l. top_shape (read_pieces l [])) shape_again

-- ---- definitions

abbrev side : Definition → Expression ⊎ Shape
side (Sequentially e) = inl e
side (Compoundly shape) = inr shape

abbrev of_side : Expression ⊎ Shape → Definition
of_side (inl e) = Sequentially e
of_side (inr shape) = Compoundly shape

pub definition_again : (d : Definition) → of_side (side d) ≡ d
definition_again (Sequentially e) = refl
definition_again (Compoundly shape) = refl

abbrev pub definition_code : Coded Definition
definition_code = code_by (Expression ⊎ Shape) (coded⊎ expression_code shape_code) side of_side definition_again
