-- Processes with numbers in place of names. The places of their constants and activities are kept, for the faults that are
-- told there.
use Rattle.std.specs.Prelude.{ℕ, ◌+◌, nat_lt, nat_eq, if◌then◌else◌, List, [], ◌∷◌, ◌++◌, map}
use Rattle.pepa_rates.specs.declared.rate.Rate.{Rate}
use Rattle.pepa_reader.specs.Trees.{RateNode, ProcessNode, ConstantAt, PrefixAt, ChoiceOf, CoopAt, HideOf}

pub data Named : Type 0 where
  -- its index, and the constant's number
  NamedConstant : ℕ → ℕ → Named
  -- the index of the activity's `(`, its action type's number, its rate, and what follows
  NamedPrefix : ℕ → ℕ → Rate → Named → Named
  NamedChoice : Named → Named → Named
  -- its set, as the numbers of action types
  NamedCoop : Named → Named → List ℕ → Named
  NamedHide : Named → List ℕ → Named

-- a number put into ascending ones, unless it is there
abbrev pub with_number : ℕ → List ℕ → List ℕ
with_number n [] = n ∷ []
with_number n (m ∷ ms) = if nat_lt n m then n ∷ m ∷ ms else (if nat_eq n m then m ∷ ms else m ∷ with_number n ms)

-- the numbers in ascending order, each once
abbrev pub ascending_set : List ℕ → List ℕ
ascending_set [] = []
ascending_set (n ∷ ns) = with_number n (ascending_set ns)

-- the number of the constant and of the action type at an index, and the value of a rate
pub record Naming : Type 0 where
  pub constant : ℕ → ℕ
  pub action : ℕ → ℕ
  pub rate_of : RateNode → Rate

abbrev pub named : Naming → ProcessNode → Named
named naming (ConstantAt at) = NamedConstant at (naming.constant at)
named naming (PrefixAt at rate next) = NamedPrefix at (naming.action (at + 1)) (naming.rate_of rate) (named naming next)
named naming (ChoiceOf left right) = NamedChoice (named naming left) (named naming right)
named naming (CoopAt at left right set) = NamedCoop (named naming left) (named naming right) (ascending_set (map naming.action set))
named naming (HideOf inner set) = NamedHide (named naming inner) (ascending_set (map naming.action set))

-- the first constant of a process, or the `(` of its first activity, whichever stands first
abbrev pub first_at : Named → ℕ
first_at (NamedConstant at constant) = at
first_at (NamedPrefix at action rate next) = at
first_at (NamedChoice left right) = first_at left
first_at (NamedCoop left right set) = first_at left
first_at (NamedHide inner set) = first_at inner

-- the constants in a process
abbrev pub constants_named : Named → List ℕ
constants_named (NamedConstant at constant) = constant ∷ []
constants_named (NamedPrefix at action rate next) = constants_named next
constants_named (NamedChoice left right) = constants_named left ++ constants_named right
constants_named (NamedCoop left right set) = constants_named left ++ constants_named right
constants_named (NamedHide inner set) = constants_named inner

-- the constants that stand behind no activity
abbrev pub unguarded : Named → List ℕ
unguarded (NamedConstant at constant) = constant ∷ []
unguarded (NamedPrefix at action rate next) = []
unguarded (NamedChoice left right) = unguarded left ++ unguarded right
unguarded (NamedCoop left right set) = unguarded left ++ unguarded right
unguarded (NamedHide inner set) = unguarded inner

-- what has to be sequential in a process: the operands of a choice, and what follows an activity
abbrev pub sequential_parts : Named → List Named
sequential_parts (NamedConstant at constant) = []
sequential_parts (NamedPrefix at action rate next) = next ∷ sequential_parts next
sequential_parts (NamedChoice left right) = left ∷ right ∷ (sequential_parts left ++ sequential_parts right)
sequential_parts (NamedCoop left right set) = sequential_parts left ++ sequential_parts right
sequential_parts (NamedHide inner set) = sequential_parts inner
