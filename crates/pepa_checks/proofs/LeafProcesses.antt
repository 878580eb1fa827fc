-- The leaves of an outline, and the processes that they are written as.
use Rattle.std.proofs.Common.{◌≡◌, ℕ, suc, Bool, true, false, cond, if◌then◌else◌, List, [], ◌∷◌, ◌++◌, map, filter, flat_map, length, not, Some, slice_get, inl, inr, refl, sym, ap, subst, ◌∙◌, arith}
use Rattle.std.specs.List.{Contains}
use Rattle.std.proofs.lemmas.List.{map-append}
use Rattle.pepa_model.specs.Expression.{Expression, Const, ConstShape, LeafShape}
use Rattle.pepa_model.specs.Leaves.{without, each_once, same_expression, followers, components, components_defined, sequential_constants}
use Rattle.pepa_resolver.specs.Named.{Named, NamedConstant, NamedPrefix, NamedChoice, NamedCoop, NamedHide}
use Rattle.node_orders.proofs.Elements.{contains_here, contains_there, contains_cases, contains_map_from, contains_from_get}
use Rattle.pepa_checks.specs.Outline.{is_compound, expression_in, shape_in, definition_in, definitions_in, outline_with}
use Rattle.pepa_checks.specs.Activities.{written_followers, written_components, written_in, written_leaves}
use Rattle.pepa_checks.specs.Built.{constant_names, leaf_processes}

-- ---- expressions of processes

abbrev expressions : List Named → List Expression
expressions processes = map expression_in processes

pub followers_written : (process : Named) → followers (expression_in process) ≡ map expression_in (written_followers process)
followers_written (NamedConstant at c) = refl
followers_written (NamedPrefix at action rate next) = ap (λ (l : List Expression). expression_in next ∷ l) (followers_written next)
followers_written (NamedChoice left right) =
    ap (λ (l : List Expression). l ++ followers (expression_in right)) (followers_written left)
    ∙ ap (λ (l : List Expression). expressions (written_followers left) ++ l) (followers_written right)
    ∙ sym (map-append expression_in (written_followers left) (written_followers right))
followers_written (NamedCoop left right set) = refl
followers_written (NamedHide inner set) = refl

module _ (compounds : List Bool) (sets : List (List ℕ)) where
  constant_written : (at c : ℕ) (b : Bool) → components (if b then ConstShape c else LeafShape (Const c)) ≡ expressions (if b then [] else NamedConstant at c ∷ [])
  constant_written at c true = refl
  constant_written at c false = refl

  pub components_written : (process : Named) → components (shape_in compounds sets process) ≡ map expression_in (written_components compounds process)
  components_written (NamedConstant at c) = constant_written at c (is_compound compounds c)
  components_written (NamedPrefix at action rate next) = ap (λ (l : List Expression). expression_in (NamedPrefix at action rate next) ∷ l) (followers_written (NamedPrefix at action rate next))
  components_written (NamedChoice left right) = ap (λ (l : List Expression). expression_in (NamedChoice left right) ∷ l) (followers_written (NamedChoice left right))
  components_written (NamedCoop left right set) =
      ap (λ (l : List Expression). l ++ components (shape_in compounds sets right)) (components_written left)
      ∙ ap (λ (l : List Expression). expressions (written_components compounds left) ++ l) (components_written right)
      ∙ sym (map-append expression_in (written_components compounds left) (written_components compounds right))
  components_written (NamedHide inner set) = components_written inner

  body_written : (flag : Bool) (body : Named) → components_defined (definition_in compounds sets flag body) ≡ expressions (if flag then written_components compounds body else written_followers body)
  body_written true body = components_written body
  body_written false body = followers_written body

  pub bodies_written : (flags : List Bool) (bodies : List Named) → flat_map components_defined (definitions_in compounds sets flags bodies) ≡ map expression_in (written_in compounds flags bodies)
  bodies_written [] bodies = refl
  bodies_written (flag ∷ flags) [] = refl
  bodies_written (flag ∷ flags) (body ∷ bodies) =
      ap (λ (l : List Expression). l ++ flat_map components_defined (definitions_in compounds sets flags bodies)) (body_written flag body)
      ∙ ap (λ (l : List Expression). expressions (if flag then written_components compounds body else written_followers body) ++ l) (bodies_written flags bodies)
      ∙ sym (map-append expression_in (if flag then written_components compounds body else written_followers body) (written_in compounds flags bodies))

  pub constants_written : (c : ℕ) (flags : List Bool) (bodies : List Named) → length flags ≡ length bodies → sequential_constants c (definitions_in compounds sets flags bodies) ≡ map expression_in (constant_names c flags)
  constants_written c [] bodies e = refl
  constants_written c (flag ∷ flags) [] e = absurd (omega (arith, e))
  constants_written c (true ∷ flags) (body ∷ bodies) e = constants_written (suc c) flags bodies (omega (arith, e))
  constants_written c (false ∷ flags) (body ∷ bodies) e = ap (λ (l : List Expression). Const c ∷ l) (constants_written (suc c) flags bodies (omega (arith, e)))

-- the leaves are the expressions of these processes, each once
pub leaves_are : (sets : List (List ℕ)) (compounds : List Bool) (bodies : List Named) (system : Named) → length compounds ≡ length bodies → (outline_with sets compounds bodies system).leaves ≡ each_once same_expression (map expression_in (leaf_processes compounds bodies system))
leaves_are sets compounds bodies system e =
    let definitions = definitions_in compounds sets compounds bodies in
    let shape = shape_in compounds sets system in
    ap (each_once same_expression) (
    ap (λ (l : List Expression). l ++ (flat_map components_defined definitions ++ components shape)) (constants_written compounds sets 0 compounds bodies e)
    ∙ ap (λ (l : List Expression). expressions (constant_names 0 compounds) ++ (l ++ components shape)) (bodies_written compounds sets compounds bodies)
    ∙ ap (λ (l : List Expression). expressions (constant_names 0 compounds) ++ (expressions (written_in compounds compounds bodies) ++ l)) (components_written compounds sets system)
    ∙ ap (λ (l : List Expression). expressions (constant_names 0 compounds) ++ l) (sym (map-append expression_in (written_in compounds compounds bodies) (written_components compounds system)))
    ∙ sym (map-append expression_in (constant_names 0 compounds) (written_leaves compounds bodies system))
    )

-- ---- each thing once

module _ {X : Type 0} where
  kept_from : (x : X) (xs kept : List X) (y : X) (b : Bool) → (Contains kept y → Contains xs y) → Contains (cond b (x ∷ kept) kept) y → Contains (x ∷ xs) y
  kept_from x xs kept y true rest h =
      elim (contains_cases x kept y h) [
        | inl e ↦ subst (λ (z : X). Contains (x ∷ xs) z) e (contains_here x xs)
        | inr there ↦ contains_there x xs y (rest there)
      ]
  kept_from x xs kept y false rest h = contains_there x xs y (rest h)

  -- what is kept stood there before
  pub filter_from : (test : X → Bool) (xs : List X) (y : X) → Contains (filter test xs) y → Contains xs y
  filter_from test [] y h = h
  filter_from test (x ∷ xs) y h = kept_from x xs (filter test xs) y (test x) (filter_from test xs y) h

  pub once_from : (same : X → X → Bool) (xs : List X) (y : X) → Contains (each_once same xs) y → Contains xs y
  once_from same [] y h = h
  once_from same (x ∷ xs) y h =
      elim (contains_cases x (without same x (each_once same xs)) y h) [
        | inl e ↦ subst (λ (z : X). Contains (x ∷ xs) z) e (contains_here x xs)
        | inr there ↦ contains_there x xs y (once_from same xs y (filter_from (λ z. not (same x z)) (each_once same xs) y there))
      ]

-- each leaf is the expression of one of these processes
pub leaf_written : (sets : List (List ℕ)) (compounds : List Bool) (bodies : List Named) (system : Named) → length compounds ≡ length bodies → (number : ℕ) (leaf : Expression) → slice_get (outline_with sets compounds bodies system).leaves number ≡ Some leaf → (process : Named) × Contains (leaf_processes compounds bodies system) process × (expression_in process ≡ leaf)
leaf_written sets compounds bodies system e number leaf at =
    let processes = leaf_processes compounds bodies system in
    let among : Contains (each_once same_expression (expressions processes)) leaf =
    subst (λ (l : List Expression). Contains l leaf) (leaves_are sets compounds bodies system e) (contains_from_get (outline_with sets compounds bodies system).leaves number leaf at) in
    contains_map_from expression_in processes leaf (once_from same_expression (expressions processes) leaf among)
