-- Each process that a leaf may be written as has its leaf's number.
use Rattle.std.proofs.Common.{◌≡◌, ℕ, suc, ◌+◌, ◌<◌, Bool, true, false, cond, not, List, [], ◌∷◌, map, length, get_or, Option, Some, None, position, unwrap_or, slice_get, nat_lt, ◌⊎◌, inl, inr, refl, sym, ap, ◌∙◌, subst, arith}
use Rattle.std.specs.Bool.{Decides}
use Rattle.std.specs.List.{Contains, position_or_len}
use Rattle.std.proofs.lemmas.Bool.{false≢true}
use Rattle.std.proofs.lemmas.Bool.Decides.{nat_tests}
use Rattle.std.proofs.lemmas.List.Quantifiers.{position-Some}
use Rattle.std.proofs.lemmas.Option.{slice_get-get_or}
use Rattle.pepa_model.specs.Expression.{Expression}
use Rattle.pepa_model.specs.Leaves.{without, each_once, position_of, same_expression}
use Rattle.pepa_model.proofs.DistinctLeaves.{same_expression-Decides}
use Rattle.pepa_resolver.specs.Named.{Named}
use Rattle.node_orders.proofs.Elements.{no_element, contains_here, contains_there, contains_cases, contains_map_to}
use Rattle.pepa_checks.specs.Outline.{expression_in, outline_with}
use Rattle.pepa_checks.specs.Activities.{leaf_number}
use Rattle.pepa_checks.specs.Built.{leaf_processes}
use Rattle.pepa_checks.proofs.LeafProcesses.{leaves_are}

-- ---- places

first_step : (b : Bool) (n m : ℕ) → (b ≡ true) ⊎ (n < m) → cond (not b) (1 + n) 0 < suc m
first_step true n m h = omega arith
first_step false n m (inl e) = absurd (false≢true e)
first_step false n m (inr lt) = omega arith

module _ {X : Type 0} where
  first_within : (p : X → Bool) (xs : List X) (x : X) → Contains xs x → p x ≡ true → position_or_len p xs < length xs
  first_within p [] x h e = absurd (no_element x h)
  first_within p (y ∷ xs) x h e =
      first_step (p y) (position_or_len p xs) (length xs)
      (elim (contains_cases y xs x h) [ inl same ↦ inl (subst (λ (z : X). p z ≡ true) (sym same) e) | inr there ↦ inr (first_within p xs x there e) ])

  module _ (same : X → X → Bool) (decides : (x y : X) → Decides (same x y) (x ≡ y)) where
    has_place : (xs : List X) (x : X) → Contains xs x → position (same x) xs ≡ None → ⊥
    has_place xs x there none =
        let lt = first_within (same x) xs x there ((decides x x).1 refl) in
        let test : nat_lt (position_or_len (same x) xs) (length xs) ≡ true = grind (arith, nat_tests) in
        let some : position (same x) xs ≡ Some (position_or_len (same x) xs) = ap (λ (b : Bool). cond b (Some (position_or_len (same x) xs)) None) test in
        absurd cc

    place_by : (xs : List X) (x : X) (o : Option ℕ) → Contains xs x → position (same x) xs ≡ o → slice_get xs (unwrap_or o 0) ≡ Some x
    place_by xs x None there e = absurd (has_place xs x there e)
    place_by xs x (Some i) there e =
        let at = position-Some (same x) xs i x e in
        slice_get-get_or xs i x at.0 ∙ ap (λ (z : X). Some z) (sym ((decides x (get_or xs i x)).0 at.1))

    -- at its place stands the element
    pub place_stands : (xs : List X) (x : X) → Contains xs x → slice_get xs (position_of same xs x) ≡ Some x
    place_stands xs x there = place_by xs x (position (same x) xs) there refl

    kept_by : (x y z : X) (kept : List X) (b : Bool) → same x y ≡ b → ¬ (x ≡ z) → (y ≡ z) ⊎ Contains kept z → Contains (cond (not b) (y ∷ kept) kept) z
    kept_by x y z kept true e apart (inl is) = absurd (apart ((decides x y).0 e ∙ is))
    kept_by x y z kept true e apart (inr there) = there
    kept_by x y z kept false e apart (inl is) = subst (λ (w : X). Contains (y ∷ kept) w) is (contains_here y kept)
    kept_by x y z kept false e apart (inr there) = contains_there y kept z there

    -- what is another thing is kept
    without_keeps : (x z : X) (xs : List X) → ¬ (x ≡ z) → Contains xs z → Contains (without same x xs) z
    without_keeps x z [] apart h = absurd (no_element z h)
    without_keeps x z (y ∷ xs) apart h =
        kept_by x y z (without same x xs) (same x y) refl apart
        (elim (contains_cases y xs z h) [ inl is ↦ inl is | inr there ↦ inr (without_keeps x z xs apart there) ])

    once_by : (x z : X) (once : List X) (b : Bool) → same x z ≡ b → Contains once z → Contains (x ∷ without same x once) z
    once_by x z once true e there = subst (λ (w : X). Contains (x ∷ without same x once) w) ((decides x z).0 e) (contains_here x (without same x once))
    once_by x z once false e there =
        contains_there x (without same x once) z (without_keeps x z once (λ is. false≢true (sym e ∙ (decides x z).1 is)) there)

    -- each element stands there once
    pub once_keeps : (xs : List X) (z : X) → Contains xs z → Contains (each_once same xs) z
    once_keeps [] z h = h
    once_keeps (x ∷ xs) z h =
        elim (contains_cases x xs z h) [
          | inl is ↦ subst (λ (w : X). Contains (x ∷ without same x (each_once same xs)) w) is (contains_here x (without same x (each_once same xs)))
          | inr there ↦ once_by x z (each_once same xs) (same x z) refl (once_keeps xs z there)
        ]

-- at a leaf's number stands the leaf
pub leaf_stands : (leaves : List Expression) (e : Expression) → Contains leaves e → slice_get leaves (leaf_number leaves e) ≡ Some e
leaf_stands leaves e there = place_stands same_expression same_expression-Decides leaves e there

-- the expression of each of these processes is a leaf
pub process_leaf : (sets : List (List ℕ)) (compounds : List Bool) (bodies : List Named) (system : Named) → length compounds ≡ length bodies → (process : Named) → Contains (leaf_processes compounds bodies system) process → slice_get (outline_with sets compounds bodies system).leaves (leaf_number (outline_with sets compounds bodies system).leaves (expression_in process)) ≡ Some (expression_in process)
process_leaf sets compounds bodies system e process among =
    let leaves = (outline_with sets compounds bodies system).leaves in
    let processes = leaf_processes compounds bodies system in
    let there : Contains (each_once same_expression (map expression_in processes)) (expression_in process) =
    once_keeps same_expression same_expression-Decides (map expression_in processes) (expression_in process) (contains_map_to expression_in processes process among) in
    leaf_stands leaves (expression_in process) (subst (λ (l : List Expression). Contains l (expression_in process)) (sym (leaves_are sets compounds bodies system e)) there)
