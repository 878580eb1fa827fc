-- Passages, as a function of the signals of the jumps taken and of their times. A passage begins at a `start` and ends at the next
-- `stop` (after A. Clark and S. Gilmore, State-Aware Performance Analysis with eXtended Stochastic Probes, 2008).
use Rattle.std.specs.Prelude.{ℕ, ◌-◌, ◌/◌, ◌%◌, ◌==◌, if◌then◌else◌, Option, None, Some, List, [], ◌∷◌, ◌++◌, fold}
use Rattle.pepa_steps.specs.States.{State}
use Rattle.sim_replication.specs.declared.passages.Passages.{Passages}

-- a jump that was taken: from which state, with what signals, a set of labels by its bits, and at what time, in ticks
pub record TakenJump : Type 0 where
  pub from : State
  pub signals : ℕ
  pub time : ℕ

-- none has ended, and none is running
abbrev pub no_passages : Passages
no_passages = record { since = None; ended = [] }

-- after a `stop`: a running passage ends, and its length is added; where none runs nothing changes
abbrev pub after_stop : Passages → ℕ → Passages
after_stop p time = elim p.since [
  | None ↦ p
  | Some since ↦ record { since = None; ended = p.ended ++ (time - since) ∷ [] }
]

-- after a `start`: one begins where none runs; a running one goes on
abbrev pub after_start : Passages → ℕ → Passages
after_start p time = elim p.since [
  | None ↦ record { since = Some time; ended = p.ended }
  | Some since ↦ p
]

-- after the signals of a jump: first `stop`, which is label 1, and then `start`, which is label 0
abbrev pub after_signals : Passages → ℕ → ℕ → Passages
after_signals p signals time =
    let stopped = if signals / 2 % 2 == 1 then after_stop p time else p in
    if signals % 2 == 1 then after_start stopped time else stopped

-- the passages of these jumps, in the order in which they ended, and since when one is running
unfoldable pub passages_of : List TakenJump → Passages
passages_of taken = fold (λ p j. after_signals p j.signals j.time) no_passages taken
