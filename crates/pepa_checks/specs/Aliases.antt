-- Constants that stand for another one alone, and the compound constants that they make.
use Rattle.std.specs.Prelude.{◌≡◌, ℕ, zero, List, Option, Some, None, slice_get}
use Rattle.std.specs.List.{Contains}
use Rattle.node_orders.specs.Graphs.{EdgeOf}
use Rattle.pepa_resolver.specs.Named.{Named, NamedConstant, NamedPrefix, NamedChoice, NamedCoop, NamedHide}
use Rattle.pepa_checks.specs.Structure.{IsCompoundBy}

-- the constant that a process is, if it is one alone
abbrev pub lone_constant : Named → Option ℕ
lone_constant (NamedConstant at constant) = Some constant
lone_constant (NamedPrefix at action rate next) = None
lone_constant (NamedChoice left right) = None
lone_constant (NamedCoop left right set) = None
lone_constant (NamedHide inner set) = None

-- the constant stands for the other one alone
abbrev pub IsAlias : List Named → ℕ → ℕ → Type 0
IsAlias bodies c d = (body : Named) × (slice_get bodies c ≡ Some body) × (lone_constant body ≡ Some d)

-- the constants in whose bodies a cooperation or a hiding stands
pub record IsSystemList (bodies : List Named) (systems : List ℕ) : Type 0 where
  pub sound : (c : ℕ) → Contains systems c → IsCompoundBy bodies zero c
  pub complete : (c : ℕ) → IsCompoundBy bodies zero c → Contains systems c

-- the lists have for each constant those that stand for it alone
pub record IsUserTable (bodies : List Named) (users : List (List ℕ)) : Type 0 where
  pub sound : (c d : ℕ) → EdgeOf users d c → IsAlias bodies c d
  pub complete : (c d : ℕ) → IsAlias bodies c d → EdgeOf users d c
