-- What a call for a key does to its pass, and what a look at a number tells.
use Rattle.std.specs.Prelude.{◌≡◌, ℕ, ◌+◌, ◌-◌, ◌*◌, ◌<◌, ◌≤◌, Bool, true, false, List, [], ◌∷◌, ◌++◌, Some, Result, Ok, Err, length, None}
use Rattle.intern_core.specs.declared.history.Key.{Key}
use Rattle.intern_core.specs.declared.history.Reply.{Reply}
use Rattle.intern_core.specs.declared.history.Reply.TheVariants.{Num, Full}
use Rattle.intern_core.specs.declared.history.Entry.{Entry}
use Rattle.intern_core.specs.declared.history.Entry.TheVariants.{Call}
use Rattle.intern_core.specs.declared.seat.Phase.{Phase}
use Rattle.intern_core.specs.declared.seat.Phase.TheVariants.{Idle}
use Rattle.intern_core.specs.declared.shape.Shape.{Shape}
use Rattle.intern_core.specs.History.{Known, known, number_in, uses}
use Rattle.intern_core.specs.Pace.{key_in, pace}
use Rattle.chain_rule.specs.declared.view.View.{View}

-- The front went on and ends with the call, which is one more of the pass; the pass has no call in flight. Whether it was answered that
-- there is no room stays; a pass that is marked full stays so, and it is once it was answered so.
pub record HasAnswered {M : Type 0} (key : Key) (reply : Reply) (v w : View M) : Type 0 where
  pub between : List Entry
  pub front : w.front ≡ (v.front ++ between) ++ Call v.seat.pass key reply ∷ []
  pub mine : w.mine ≡ v.mine ++ Call v.seat.pass key reply ∷ []
  pub number : w.seat.pass ≡ v.seat.pass
  pub refused : w.seat.refused ≡ v.seat.refused
  pub mark : v.seat.marked ≡ true → w.seat.marked ≡ true
  pub full : reply ≡ Full → w.seat.marked ≡ true
  pub idle : w.seat.phase ≡ Idle

-- the call is still in flight
pub record IsGoing {M : Type 0} (key : Key) (v w : View M) : Type 0 where
  pub between : List Entry
  pub front : w.front ≡ v.front ++ between
  pub mine : w.mine ≡ v.mine
  pub number : w.seat.pass ≡ v.seat.pass
  pub refused : w.seat.refused ≡ v.seat.refused
  pub mark : v.seat.marked ≡ true → w.seat.marked ≡ true
  pub call : key_in w.seat.phase ≡ Some key

-- how many steps are left at most, in a table with so many nodes
abbrev pub steps_left : ℕ → Bool → Phase → ℕ
steps_left nodes marked Idle = 0
steps_left nodes marked other = 4 * nodes + 7 - pace marked other

-- what a result says in the history
abbrev pub reply_of : {E : Type 0} → Result ℕ E → Reply
reply_of (Ok n) = Num n
reply_of (Err e) = Full

-- a test whether a phase is idle
abbrev pub IsIdle : Bool → Phase → Type 0
IsIdle true phase = phase ≡ Idle
IsIdle false phase = phase ≡ Idle → ⊥

-- a number is known, with this key
pub record HasKey (n : ℕ) (key : Key) (seen : List Known) : Type 0 where
  pub before : List Known
  pub rest : List Known
  pub is : seen ≡ before ++ record { number = n; key = key } ∷ rest

-- a history knows this key with this number
abbrev pub IsNumberOf : Key → ℕ → List Entry → Type 0
IsNumberOf key n history = (number_in (known history) key ≡ Some n) × (0 < uses n (known history))

-- the table was full before the entry: the key was unknown, and all numbers but at most one for each pass were known; the pass is
-- then marked full
pub record WasFull {M : Type 0} (shape : Shape) (key : Key) (v w : View M) : Type 0 where
  pub before : List Entry
  pub front : w.front ≡ before ++ Call v.seat.pass key Full ∷ []
  pub unknown : number_in (known before) key ≡ None
  pub many : shape.nodes ≤ length (known before) + shape.passes
  pub marked : w.seat.marked ≡ true
