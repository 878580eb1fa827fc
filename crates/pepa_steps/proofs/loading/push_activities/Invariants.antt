use Rattle.std.proofs.Common.{◌≡◌, ◌++◌, map, take}
use Rattle.pepa_steps.specs.Combined.{entry_of}
use Rattle.pepa_steps.specs.Traces.{activity_node}
use Rattle.pepa_steps.proofs.loading.push_activities.Given as goal

abbrev pub invariant-loop-activity : goal.invariant-loop-activity
invariant-loop-activity l = l.entries.items ≡ l.initial.entries.items ++ map (λ a. entry_of (activity_node a)) (take l.activity-index l.activities)
