-- How many events a call can have taken, by how far it has come.
use Rattle.std.specs.Prelude.{◌≡◌, ℕ, ◌+◌, ◌*◌, ◌==◌, ◌≤◌, Bool, true, false, List, [], ◌∷◌, ◌++◌, length, filter, Option, Some, None}
use Rattle.intern_core.specs.declared.shape.Shape.{Shape}
use Rattle.intern_core.specs.declared.history.Key.{Key}
use Rattle.intern_core.specs.declared.history.Entry.{Entry}
use Rattle.intern_core.specs.declared.history.Reply.{Reply}
use Rattle.intern_core.specs.declared.history.Reply.TheVariants.{Num, Full}
use Rattle.intern_core.specs.declared.seat.Phase.{Phase}
use Rattle.intern_core.specs.declared.seat.Phase.TheVariants.{Claiming, StoringOne, StoringTwo, Linking, Swapping, AtOne, AtTwo}
use Rattle.intern_core.specs.declared.event.Act.TheVariants.{Ask}
use Rattle.intern_core.specs.declared.event.Event.{Event}
use Rattle.intern_core.specs.declared.outcome.Outcome2.TheVariants.{Answered}
use Rattle.intern_core.specs.Layout.{bucket_of}
use Rattle.intern_core.specs.History.{known}
use Rattle.intern_core.specs.Image.{in_bucket}
use Rattle.intern_core.specs.Machine.{Machine, happened, fresh, after_event, after_all}

-- the key of the call in flight
abbrev pub key_in : Phase → Option Key
key_in (Claiming key) = Some key
key_in (StoringOne key) = Some key
key_in (StoringTwo key) = Some key
key_in (Linking key from passed) = Some key
key_in (Swapping key from passed) = Some key
key_in (AtOne key node passed) = Some key
key_in (AtTwo key node passed) = Some key
key_in other = None

-- what a call is answered, where its next turn ends it
abbrev pub answer_in : ℕ → Phase → Reply
answer_in spare (Swapping key from passed) = Num spare
answer_in spare (AtTwo key node passed) = Num node
answer_in spare other = Full

-- the events of a seat before it walks
abbrev pub start_pace : Bool → ℕ
start_pace true = 1
start_pace false = 3

-- at most so many events since the call began; each node that was passed took at most four
abbrev pub pace : Bool → Phase → ℕ
pace marked (StoringOne key) = 1
pace marked (StoringTwo key) = 2
pace marked (Linking key from passed) = start_pace marked + 4 * passed
pace marked (Swapping key from passed) = start_pace marked + 1 + 4 * passed
pace marked (AtOne key node passed) = start_pace marked + 2 + 4 * passed
pace marked (AtTwo key node passed) = start_pace marked + 3 + 4 * passed
pace marked other = 0

-- the events of a seat
abbrev pub own_events : ℕ → List Event → List Event
own_events seat events = filter (λ e. e.seat == seat) events

-- how many known keys are in the bucket of a key
abbrev pub known_beside : Shape → List Entry → Key → ℕ
known_beside shape history key = length (in_bucket shape (bucket_of shape key) (known history))

abbrev pub asks : ℕ → Key → Event
asks seat key = record { seat = seat; act = Ask key }

-- no call for a key begins among these events of a seat
abbrev pub BeginsNoAsk : ℕ → List Event → Type 0
BeginsNoAsk seat events = (first rest : List Event) (key : Key) → ¬ (events ≡ first ++ asks seat key ∷ rest)

-- After the events `before` the seat asks for the key; the event `last` answers this call, and none of those in `between` begins another.
-- The machine is the one after all of them.
pub record IsAnsweredAsk (shape : Shape) (before between : List Event) (seat : ℕ) (key : Key) (last : Event) (machine : Machine) : Type 0 where
  pub own : last.seat ≡ seat
  pub once : BeginsNoAsk seat between
  pub earlier : Machine
  pub runs : after_all (fresh shape) (before ++ asks seat key ∷ between) ≡ Some earlier
  pub reply : Reply
  pub answered : after_event earlier last ≡ Some (happened machine (Answered reply))

-- in a run of these events from no entry on, a call for a key takes at most so many of its seat's events after it; the bound is
-- of the number of known keys in the key's bucket once it is answered
abbrev pub AsksTakeAtMost : (ℕ → ℕ) → Shape → List Event → Type 0
AsksTakeAtMost bound shape events =
    (before between rest : List Event) (seat : ℕ) (key : Key) (last : Event) (m : Machine)
    → events ≡ before ++ asks seat key ∷ between ++ last ∷ rest → IsAnsweredAsk shape before between seat key last m
    → length (own_events seat (between ++ last ∷ [])) ≤ bound (known_beside shape m.history key)
