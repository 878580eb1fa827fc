-- What a function answers that may want memory.
use Rattle.std.specs.Prelude.{⊤, Result, Ok, Err}
use Rattle.fault_ends.specs.declared.end.End.{End}
use Rattle.fault_ends.specs.declared.end.End.TheVariants.{Fault, Memory}

-- a value is like this, a fault is like that, and want of memory says nothing
abbrev pub OkOrFault : {T F : Type 0} → Result T (End F) → (T → Type 0) → (F → Type 0) → Type 0
OkOrFault (Ok value) P Q = P value
OkOrFault (Err (Fault fault)) P Q = Q fault
OkOrFault (Err Memory) P Q = ⊤
