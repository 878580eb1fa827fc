use Rattle.std.proofs.Common.{◌≡◌, map, take}
use Rattle.probe_words.specs.Twins.{condition_of}
use Rattle.probe_words.proofs.guard.copy_guards.Given as goal

-- the guards so far are copied
abbrev pub invariant-loop-guard : goal.invariant-loop-guard
invariant-loop-guard l = map condition_of l.copy ≡ map condition_of (take l.guard-index l.guards)
