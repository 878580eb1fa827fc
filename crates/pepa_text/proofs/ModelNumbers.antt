-- The numbers in a model's systems and sets are the model's.
use Rattle.std.proofs.Common.{◌≡◌, ℕ, ◌<◌, [], length, Some, slice_get, subst}
use Rattle.std.specs.List.{AllByRecursion}
use Rattle.std.proofs.lemmas.Option.{slice_get_within, slice_get-get_or}
use Rattle.pepa_model.specs.Expression.{Expression, LeafShape, ConstShape, Definition, Compoundly}
use Rattle.pepa_model.specs.PepaModel.{PepaModel, IsModel, IsNamed, IsShapeOf}
use Rattle.pepa_text.specs.SetText.{set_of}

module _ (m : PepaModel) (sound : IsModel m) where
  pub defined_known : (c : ℕ) (d : Definition) → slice_get m.bodies c ≡ Some d → c < length m.constants
  defined_known c d at = subst (λ (n : ℕ). c < n) sound.bodies (slice_get_within m.bodies c d at)

  pub leaf_named : (e : Expression) → IsShapeOf m (LeafShape e) → IsNamed m e
  leaf_named e (number, at) = (sound.leaves number e at).named

  pub constant_known : (c : ℕ) → IsShapeOf m (ConstShape c) → c < length m.constants
  constant_known c (shape, at) = defined_known c (Compoundly shape) at

  pub set_actions : (number : ℕ) → number < length m.sets → AllByRecursion (λ a. a < length m.actions) (set_of m number)
  set_actions number within = (sound.sets number (set_of m number) (slice_get-get_or m.sets number [] within)).known
