-- Transitions that differ in their targets alone.
use Rattle.std.specs.Prelude.{◌≡◌}
use Rattle.pepa_steps.specs.Moves.{Move}

-- two transitions that differ in their targets alone, and these are related
pub record Alike {X Y : Type 0} (R : X → Y → Type 0) (u : Move X) (v : Move Y) : Type 0 where
  pub action : u.action ≡ v.action
  pub signals : u.signals ≡ v.signals
  pub rate : u.rate ≡ v.rate
  pub target : R u.target v.target
