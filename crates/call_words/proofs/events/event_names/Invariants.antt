use Rattle.std.proofs.Common.{◌≡◌, map, take}
use Rattle.std.specs.List.{AllByRecursion}
use Rattle.pepa_model.specs.Spelling.{IsActionName}
use Rattle.call_words.proofs.events.event_names.Given as goal

-- the parts so far are the names, and each is one of an action type
abbrev pub invariant-loop-part : goal.invariant-loop-part
invariant-loop-part l = (l.names ≡ map (λ part. part.now) (take l.part-index l.part-items)) × AllByRecursion IsActionName l.names
