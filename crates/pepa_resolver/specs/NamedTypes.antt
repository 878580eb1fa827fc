-- The program's processes with numbers, without pointers.
use Rattle.std.specs.Prelude.{ℕ, List, map}
use Rattle.std.specs.List.{Contains}
use Rattle.pepa_resolver.specs.declared.named.NamedProcess.{NamedProcess, Constant, Prefix', Choice', Coop', Hide'}
use Rattle.pepa_resolver.specs.Named.{Named, NamedConstant, NamedPrefix, NamedChoice, NamedCoop, NamedHide, constants_named}
use Rattle.node_orders.specs.Graphs.{AreBelow}

abbrev pub named_of : NamedProcess → Named
named_of (Constant at number) = NamedConstant at number
named_of (Prefix' at action rate p next) = NamedPrefix at action rate (named_of next)
named_of (Choice' p left q right) = NamedChoice (named_of left) (named_of right)
named_of (Coop' p left q right set) = NamedCoop (named_of left) (named_of right) set
named_of (Hide' p inner set) = NamedHide (named_of inner) set

-- the right sides of the constants
abbrev pub bodies_of : List NamedProcess → List Named
bodies_of bodies = map named_of bodies

-- each constant in the processes has a number below this one
abbrev pub HasConstantsBelow : ℕ → List Named → Type 0
HasConstantsBelow n processes = (process : Named) → Contains processes process → AreBelow n (constants_named process)
