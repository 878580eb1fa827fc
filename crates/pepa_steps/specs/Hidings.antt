-- Entries of hidings.
use Rattle.std.specs.Prelude.{ℕ, if◌then◌else◌, List}
use Rattle.pepa_steps.specs.Moves.{has}
use Rattle.pepa_steps.specs.declared.entries.Entry.{Entry}

-- a hidden type becomes `tau`, whose number is 0
abbrev pub hidden_entry : List ℕ → Entry → Entry
hidden_entry types e = record { action = if has types e.action then 0 else e.action; signals = e.signals; rate = e.rate }
