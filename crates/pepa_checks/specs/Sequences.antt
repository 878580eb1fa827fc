-- What of a process is sequential.
use Rattle.std.specs.Prelude.{◌≡◌, ℕ, Bool, false, List, Some, slice_get, ⊤}
use Rattle.pepa_resolver.specs.Named.{Named, NamedConstant, NamedPrefix, NamedChoice, NamedCoop, NamedHide}
use Rattle.pepa_checks.specs.Structure.{has_system}

-- the operands of its choices and what follows its activities have no cooperation and no hiding
abbrev pub HasSequentialParts : Named → Type 0
HasSequentialParts (NamedConstant at c) = ⊤
HasSequentialParts (NamedPrefix at action rate next) = has_system next ≡ false
HasSequentialParts (NamedChoice left right) = (has_system left ≡ false) × (has_system right ≡ false)
HasSequentialParts (NamedCoop left right set) = HasSequentialParts left × HasSequentialParts right
HasSequentialParts (NamedHide inner set) = HasSequentialParts inner

-- so in each body, and a body that isn't compound has none itself
pub record AreBodies (compounds : List Bool) (bodies : List Named) : Type 0 where
  pub parts : (c : ℕ) (body : Named) → slice_get bodies c ≡ Some body → HasSequentialParts body
  pub plain : (c : ℕ) (body : Named) → slice_get bodies c ≡ Some body → slice_get compounds c ≡ Some false → has_system body ≡ false
