-- How views are cut in two and put together.
use Rattle.std.specs.Prelude.{◌+◌, true, false, List, [], None}
use Rattle.intern_core.specs.declared.history.Entry.{Entry}
use Rattle.intern_core.specs.declared.seat.Phase.TheVariants.{Idle}
use Rattle.intern_core.specs.Turns.{seat}
use Rattle.chain_rule.specs.declared.view.View.{View}

module _ {M : Type 0} where
  -- a note of what was seen
  abbrev pub noted : List Entry → View M
  noted front = record { walks = false; setting = None; front = front; met = []; mine = []; seat = seat 0 None 0 false Idle; offer = []; made = 0 }

  -- pass 0 once it has made one more
  abbrev pub giver : View M → View M
  giver v = record v { made = v.made + 1 }

  -- the pass that it made
  abbrev pub newcomer : View M → View M
  newcomer v = record { walks = true; setting = v.setting; front = []; met = []; mine = []; seat = seat v.made None 0 false Idle; offer = []; made = 0 }

  -- a pass that takes in a note
  abbrev pub meets : View M → View M → View M
  meets v w = record v { met = w.front }
