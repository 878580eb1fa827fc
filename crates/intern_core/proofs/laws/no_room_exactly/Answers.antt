use Rattle.intern_core.proofs.Fetching.{no_room_exactly}
use Rattle.intern_core.proofs.laws.no_room_exactly.Goals as goal

pub returns : goal.returns
returns c = no_room_exactly
