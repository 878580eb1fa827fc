use Rattle.std.proofs.Common.{arith, drop}
use Rattle.std.proofs.lemmas.Grind.{common_steps}
use Rattle.std.proofs.lemmas.List.{take-append-drop, take_at, drop-drop}
use Rattle.sim_outside.proofs.mem_source.MemSourceSource.read.Goals as goal

pub returns-clause-bytes : goal.returns-clause-bytes
returns-clause-bytes c =
    let left = drop c.self.inside.position c.self.inside.bytes.items in
    let whole = take-append-drop c.min-count.result left in
    let behind = drop-drop c.min-count.result c.self.inside.position c.self.inside.bytes.items in
    (grind (arith, common_steps, take_at), λ none room. grind (arith, common_steps))
