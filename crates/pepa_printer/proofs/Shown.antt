-- Processes with numbers that are the parts of a model, but for the places where they stand.
use Rattle.std.specs.Prelude.{◌≡◌, List, Some, slice_get}
use Rattle.std.specs.List.{AllZip}
use Rattle.pepa_model.specs.Expression.{Expression, Const, Prefixed, Chosen, Shape, LeafShape, ConstShape, CoopShape, HideShape, Definition, Sequentially, Compoundly}
use Rattle.pepa_model.specs.PepaModel.{PepaModel}
use Rattle.pepa_resolver.specs.Named.{Named, NamedConstant, NamedPrefix, NamedChoice, NamedCoop, NamedHide}
use Rattle.pepa_checks.specs.Outline.{Outline}

abbrev pub Shows : Expression → Named → Type 0
Shows (Const c) (NamedConstant at d) = d ≡ c
Shows (Prefixed a r next) (NamedPrefix at b s node) = (b ≡ a) × (s ≡ r) × Shows next node
Shows (Chosen x y) (NamedChoice left right) = Shows x left × Shows y right
Shows _ _ = ⊥

abbrev pub ShowsShape : PepaModel → Shape → Named → Type 0
ShowsShape m (LeafShape e) node = Shows e node
ShowsShape m (ConstShape c) (NamedConstant at d) = d ≡ c
ShowsShape m (CoopShape x y k) (NamedCoop left right set) = ShowsShape m x left × ShowsShape m y right × (slice_get m.sets k ≡ Some set)
ShowsShape m (HideShape x k) (NamedHide node set) = ShowsShape m x node × (slice_get m.sets k ≡ Some set)
ShowsShape m _ _ = ⊥

abbrev pub ShowsDefinition : PepaModel → Definition → Named → Type 0
ShowsDefinition m (Sequentially e) node = Shows e node
ShowsDefinition m (Compoundly shape) node = ShowsShape m shape node

-- the bodies are what the constants stand for, and the system is the model's
pub record AreShown (m : PepaModel) (bodies : List Named) (system : Named) : Type 0 where
  pub bodies_are : AllZip (ShowsDefinition m) m.bodies bodies
  pub system_is : ShowsShape m m.system system

-- the outline that a model has
abbrev pub model_outline : PepaModel → Outline
model_outline m = record { definitions = m.bodies; sets = m.sets; leaves = m.leaves; system = m.system }
