-- The numbers in what a model's constants stand for are the model's.
use Rattle.std.proofs.Common.{◌≡◌, ℕ, zero, suc, ◌+◌, ◌<◌, Bool, true, false, cond, not, nat_eq, List, [], ◌∷◌, ◌++◌, length, Some, slice_get, inl, inr, refl, sym, ap, ◌∙◌, subst, arith}
use Rattle.std.specs.Bool.{Decides}
use Rattle.std.specs.List.{flat_map, range_with_len}
use Rattle.std.proofs.lemmas.Bool.{false≢true}
use Rattle.std.proofs.lemmas.Bool.Decides.{Decides-eqb}
use Rattle.std.proofs.lemmas.Option.{slice_get_within, same_Some}
use Rattle.pepa_model.specs.Expression.{Expression, Const, Definition, Sequentially, Compoundly, Defines}
use Rattle.pepa_model.specs.Derivation.{Among}
use Rattle.pepa_model.specs.Opened.{Opened, Opens, OpenPrefix, OpenChoice, OpenConst}
use Rattle.pepa_model.specs.Leaves.{without, each_once, same_expression, followers, components_defined, sequential_constants, components, actions_in, actions_defined, actions_of_shape, action_numbers}
use Rattle.pepa_model.specs.PepaModel.{PepaModel, IsModel, IsNamed}
use Rattle.pepa_model.proofs.DistinctLeaves.{same_expression-Decides}
use Rattle.pepa_text.proofs.ModelNumbers.{defined_known}
use Rattle.pepa_printer.specs.KnownBodies.{IsBodyOf}

-- ---- elements of lists

module _ {X : Type 0} where
  among_left : (x : X) (xs ys : List X) → Among x xs → Among x (xs ++ ys)
  among_left x [] ys h = absurd h
  among_left x (y ∷ xs) ys (inl is) = inl is
  among_left x (y ∷ xs) ys (inr h) = inr (among_left x xs ys h)

  among_right : (x : X) (xs ys : List X) → Among x ys → Among x (xs ++ ys)
  among_right x [] ys h = h
  among_right x (y ∷ xs) ys h = inr (among_right x xs ys h)

  among_place : (x : X) (xs : List X) → Among x xs → (i : ℕ) × (slice_get xs i ≡ Some x)
  among_place x [] h = absurd h
  among_place x (y ∷ xs) (inl is) = (zero, ap (λ (z : X). Some z) (sym is))
  among_place x (y ∷ xs) (inr h) = let (i, at) = among_place x xs h in (suc i, at)

among_flat : {X Y : Type 0} (f : X → List Y) (xs : List X) (i : ℕ) (x : X) (y : Y) → slice_get xs i ≡ Some x → Among y (f x) → Among y (flat_map f xs)
among_flat f [] i x y e h = let within = slice_get_within [] i x e in absurd (omega arith)
among_flat {X} {Y} f (z ∷ xs) zero x y e h = among_left y (f z) (flat_map f xs) (subst (λ (w : X). Among y (f w)) (sym (same_Some z x e)) h)
among_flat f (z ∷ xs) (suc i) x y e h = among_right y (f z) (flat_map f xs) (among_flat f xs i x y e h)

range_below : (from count a : ℕ) → Among a (range_with_len from count) → a < from + count
range_below from zero a h = absurd h
range_below from (suc count) a (inl is) = omega arith
range_below from (suc count) a (inr h) = let lt = range_below (from + 1) count a h in omega arith

-- ---- each thing once

module _ {X : Type 0} (same : X → X → Bool) (decides : (x y : X) → Decides (same x y) (x ≡ y)) where
  without_keeps : (x z : X) (ys : List X) → ¬ (x ≡ z) → Among z ys → Among z (without same x ys)
  without_keeps x z [] apart h = absurd h
  without_keeps x z (y ∷ ys) apart h = by (same x y) refl h (without_keeps x z ys apart)
    where
      by : (b : Bool) → same x y ≡ b → Among z (y ∷ ys) → (Among z ys → Among z (without same x ys)) → Among z (cond (not b) (y ∷ without same x ys) (without same x ys))
      by true e (inl is) rest = absurd (apart ((decides x y).0 e ∙ sym is))
      by true e (inr h) rest = rest h
      by false e (inl is) rest = inl is
      by false e (inr h) rest = inr (rest h)

  once_keeps : (z : X) (xs : List X) → Among z xs → Among z (each_once same xs)
  once_keeps z [] h = h
  once_keeps z (x ∷ xs) (inl is) = inl is
  once_keeps z (x ∷ xs) (inr h) = by (same x z) refl (once_keeps z xs h)
    where
      by : (b : Bool) → same x z ≡ b → Among z (each_once same xs) → Among z (x ∷ without same x (each_once same xs))
      by true e there = inl (sym ((decides x z).0 e))
      by false e there = inr (without_keeps x z (each_once same xs) (λ is. false≢true (sym e ∙ (decides x z).1 is)) there)

-- a constant with a sequential body stands among the sequential constants
constant_among : (from i c : ℕ) (definitions : List Definition) (e : Expression) → slice_get definitions i ≡ Some (Sequentially e) → c ≡ from + i → Among (Const c) (sequential_constants from definitions)
constant_among from i c [] e at is = let within = slice_get_within [] i (Sequentially e) at in absurd (omega arith)
constant_among from zero c (Sequentially x ∷ definitions) e at is = let same : c ≡ from = omega arith in inl (ap (λ (n : ℕ). Const n) same)
constant_among from zero c (Compoundly shape ∷ definitions) e at is = absurd cc
constant_among from (suc i) c (Sequentially x ∷ definitions) e at is = inr (constant_among (suc from) i c definitions e at (omega arith))
constant_among from (suc i) c (Compoundly shape ∷ definitions) e at is = constant_among (suc from) i c definitions e at (omega arith)

-- ---- the numbers of a model

module _ (m : PepaModel) (sound : IsModel m) where
  leaf_among : (e : Expression) → Among e (sequential_constants 0 m.bodies ++ (flat_map components_defined m.bodies ++ components m.system)) → Among e m.leaves
  leaf_among e h =
      subst (λ (leaves : List Expression). Among e leaves) (sym sound.numbered.leaves_by_place)
      (once_keeps same_expression same_expression-Decides e _ h)

  -- what follows the activities of a sequential body is a leaf
  follower_named : (c : ℕ) (e f : Expression) → Defines m.bodies c e → Among f (followers e) → IsNamed m f
  follower_named c e f at h =
      let there = among_flat components_defined m.bodies c (Sequentially e) f at h in
      let leaf = leaf_among f
      (among_right f (sequential_constants 0 m.bodies) (flat_map components_defined m.bodies ++ components m.system)
      (among_left f (flat_map components_defined m.bodies) (components m.system) there)) in
      let (number, stands) = among_place f m.leaves leaf in
      (sound.leaves number f stands).named

  action_known : (c : ℕ) (e : Expression) (a : ℕ) → Defines m.bodies c e → Among a (actions_in e) → a < length m.actions
  action_known c e a at h =
      let there = among_flat (actions_defined m.sets) m.bodies c (Sequentially e) a at h in
      let written : Among a (action_numbers m.sets m.bodies m.system) = inr (among_left a (flat_map (actions_defined m.sets) m.bodies) (actions_of_shape m.sets m.system) there) in
      let once = once_keeps nat_eq Decides-eqb a (action_numbers m.sets m.bodies m.system) written in
      let below = range_below 0 (length m.actions) a (subst (λ (list : List ℕ). Among a list) sound.numbered.actions_by_place once) in
      omega arith

  -- what follows the activities of an expression has the model's numbers, and so have its action types
  abbrev HasKnownParts : Expression → Type 0
  HasKnownParts e = ((f : Expression) → Among f (followers e) → IsNamed m f) × ((a : ℕ) → Among a (actions_in e) → a < length m.actions)

  opened_named : (p : Opened) (e : Expression) → Opens m.bodies e p → HasKnownParts e → IsNamed m e
  opened_named (OpenPrefix a r next) e is =
      subst (λ (e : Expression). HasKnownParts e → IsNamed m e) (sym is) (λ known. (known.1 a (inl refl), known.0 next (inl refl)))
  opened_named (OpenChoice p q) e (x, y, is, left, right) =
      subst (λ (e : Expression). HasKnownParts e → IsNamed m e) (sym is) (λ known. (
        opened_named p x left (λ f h. known.0 f (among_left f (followers x) (followers y) h), λ a h. known.1 a (among_left a (actions_in x) (actions_in y) h)),
        opened_named q y right (λ f h. known.0 f (among_right f (followers x) (followers y) h), λ a h. known.1 a (among_right a (actions_in x) (actions_in y) h)),
      ))
  opened_named (OpenConst c p) e (is, (body, defines, opens)) =
      subst (λ (e : Expression). HasKnownParts e → IsNamed m e) (sym is) (λ known. defined_known m sound c (Sequentially body) defines)

  -- a sequential body opens, since its constant is a leaf
  body_opens : (c : ℕ) (e : Expression) (o : Opened) → Defines m.bodies c e → Opens m.bodies (Const c) o → (p : Opened) × Opens m.bodies e p
  body_opens c e (OpenPrefix a r next) at is = absurd cc
  body_opens c e (OpenChoice p q) at (x, y, is, left, right) = absurd cc
  body_opens c e (OpenConst k p) at (is, (body, defines, opens)) =
      let same : e ≡ body = cc in
      (p, subst (λ (w : Expression). Opens m.bodies w p) (sym same) opens)

  pub body_known : (c : ℕ) (d : Definition) → slice_get m.bodies c ≡ Some d → IsBodyOf m d
  body_known c (Sequentially e) at =
      let among = leaf_among (Const c) (among_left (Const c) (sequential_constants 0 m.bodies) (flat_map components_defined m.bodies ++ components m.system) (constant_among 0 c c m.bodies e at (omega arith))) in
      let (number, stands) = among_place (Const c) m.leaves among in
      let leaf = sound.leaves number (Const c) stands in
      let (p, opens) = body_opens c e leaf.opened at leaf.opens in
      opened_named p e opens (λ f h. follower_named c e f at h, λ a h. action_known c e a at h)
  body_known c (Compoundly shape) at = (sound.compounds c shape at).is_shape
