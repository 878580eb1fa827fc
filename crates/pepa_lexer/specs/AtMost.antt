-- What laws say of a predicate.
use Rattle.std.specs.Prelude.{◌≡◌}

-- at most one value is like this
abbrev pub AtMostOne : {X : Type 0} → (X → Type 0) → Type 0
AtMostOne {X = X} Holds = (first second : X) → Holds first → Holds second → first ≡ second
