-- A file's outline: what the parts of its model are, before its leaves' activities. `bodies` has what each constant stands
-- for, with numbers in place of names, and `compounds` says of each whether it is compound.
use Rattle.std.specs.Prelude.{ℕ, Bool, true, false, if◌then◌else◌, List, [], ◌∷◌, ◌++◌, flat_map, unwrap_or, slice_get}
use Rattle.pepa_model.specs.Expression.{Expression, Const, Prefixed, Chosen, Shape, LeafShape, ConstShape, CoopShape, HideShape, Definition, Sequentially, Compoundly}
use Rattle.pepa_model.specs.Leaves.{leaves_of}
use Rattle.pepa_resolver.specs.Named.{Named, NamedConstant, NamedPrefix, NamedChoice, NamedCoop, NamedHide}
use Rattle.pepa_resolver.specs.Numbers.{first_places, place_in}

-- whether a constant is compound
abbrev pub is_compound : List Bool → ℕ → Bool
is_compound compounds c = unwrap_or (slice_get compounds c) false

-- a sequential process as an expression; a cooperation or a hiding has none, so it doesn't matter what stands for it
abbrev pub expression_in : Named → Expression
expression_in (NamedConstant at c) = Const c
expression_in (NamedPrefix at action rate next) = Prefixed action rate (expression_in next)
expression_in (NamedChoice left right) = Chosen (expression_in left) (expression_in right)
expression_in (NamedCoop left right set) = Const 0
expression_in (NamedHide inner set) = Const 0

-- the sets of a process, in the order of the text
abbrev pub sets_written : Named → List (List ℕ)
sets_written (NamedConstant at c) = []
sets_written (NamedPrefix at action rate next) = sets_written next
sets_written (NamedChoice left right) = sets_written left ++ sets_written right
sets_written (NamedCoop left right set) = sets_written left ++ (set ∷ sets_written right)
sets_written (NamedHide inner set) = sets_written inner ++ set ∷ []

-- the sets, by number: each once, by their first places
abbrev pub sets_of : List Named → Named → List (List ℕ)
sets_of bodies system = first_places (flat_map sets_written bodies ++ sets_written system)

-- a process as a system, with the numbers of its sets
abbrev pub shape_in : List Bool → List (List ℕ) → Named → Shape
shape_in compounds sets (NamedConstant at c) = if is_compound compounds c then ConstShape c else LeafShape (Const c)
shape_in compounds sets (NamedPrefix at action rate next) = LeafShape (expression_in (NamedPrefix at action rate next))
shape_in compounds sets (NamedChoice left right) = LeafShape (expression_in (NamedChoice left right))
shape_in compounds sets (NamedCoop left right set) = CoopShape (shape_in compounds sets left) (shape_in compounds sets right) (place_in sets set)
shape_in compounds sets (NamedHide inner set) = HideShape (shape_in compounds sets inner) (place_in sets set)

-- what a constant stands for
abbrev pub definition_in : List Bool → List (List ℕ) → Bool → Named → Definition
definition_in compounds sets true body = Compoundly (shape_in compounds sets body)
definition_in compounds sets false body = Sequentially (expression_in body)

-- what the constants stand for, where the flags say which of them are compound
abbrev pub definitions_in : List Bool → List (List ℕ) → List Bool → List Named → List Definition
definitions_in compounds sets [] bodies = []
definitions_in compounds sets (flag ∷ flags) [] = []
definitions_in compounds sets (flag ∷ flags) (body ∷ bodies) = definition_in compounds sets flag body ∷ definitions_in compounds sets flags bodies

pub record Outline : Type 0 where
  pub definitions : List Definition
  pub sets : List (List ℕ)
  pub leaves : List Expression
  pub system : Shape

abbrev pub outline_from : List (List ℕ) → List Definition → Shape → Outline
outline_from sets definitions system = record { definitions = definitions; sets = sets; leaves = leaves_of definitions system; system = system }

abbrev pub outline_with : List (List ℕ) → List Bool → List Named → Named → Outline
outline_with sets compounds bodies system = outline_from sets (definitions_in compounds sets compounds bodies) (shape_in compounds sets system)

-- the outline of a file
abbrev pub outline_of : List Bool → List Named → Named → Outline
outline_of compounds bodies system = outline_with (sets_of bodies system) compounds bodies system
