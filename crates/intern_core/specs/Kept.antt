-- What holds between any two steps, of the words, of all seats and of the history.
use Rattle.std.specs.Prelude.{◌≡◌, ℕ, ◌+◌, ◌<◌, ◌≤◌, ◌==◌, nat_lt, nat_le, min, Bool, true, false, List, [], ◌∷◌, ◌++◌, length, slice_index}
use mathlib.Core.Option.{some}
use lib.ListN.{get_elem?}
use Rattle.intern_core.specs.declared.shape.Shape.{Shape}
use Rattle.intern_core.specs.declared.history.Key.{Key}
use Rattle.intern_core.specs.declared.history.Entry.{Entry}
use Rattle.intern_core.specs.declared.seat.Seat.{Seat}
use Rattle.intern_core.specs.declared.seat.Phase.{Phase}
use Rattle.intern_core.specs.declared.seat.Phase.TheVariants.{Idle, Claiming, StoringOne, StoringTwo, Linking, Swapping, AtOne, AtTwo, LookingOne, LookingTwo, MeasuringList, FindingEntry, ReadingOne, ReadingTwo, ReadingThree, Offering, ClaimingBlock, StoringWord, SwappingList}
use Rattle.intern_core.specs.Layout.{claim_at, one_at, two_at, next_at, bucket_of, word_count}
use Rattle.intern_core.specs.History.{Known, known, one_if, uses, is_same_key, IsLegal}
use Rattle.intern_core.specs.Image.{in_bucket, IsImage}

-- f of each, added up
abbrev pub total : {X : Type 0} → (X → ℕ) → List X → ℕ
total f [] = 0
total f (x ∷ xs) = f x + total f xs

-- whether a seat is pass n's
abbrev pub is_pass : ℕ → Seat → ℕ
is_pass n s = one_if (s.pass == n)

-- whether a seat keeps the spare n
abbrev pub keeps : ℕ → Seat → ℕ
keeps n s = one_if (s.spare == n)

abbrev pub has_spare : Seat → ℕ
has_spare s = one_if (nat_lt 0 s.spare)

abbrev pub is_marked : Seat → ℕ
is_marked s = one_if s.marked

-- no node has this key
abbrev pub AllOther : Key → List Known → Type 0
AllOther key [] = Unit {0}
AllOther key (x ∷ xs) = (is_same_key x.key key ≡ false) × AllOther key xs

-- the last node of a list, or the one before it
abbrev pub last_of : ℕ → List Known → ℕ
last_of from [] = from
last_of from (x ∷ xs) = last_of x.number xs

-- a walk for a key has passed so many nodes of its bucket, none with this key, and is at the link of the last one
pub record IsWalk (shape : Shape) (seen : List Known) (key : Key) (from steps : ℕ) : Type 0 where
  pub passed : List Known
  pub rest : List Known
  pub chain : in_bucket shape (bucket_of shape key) seen ≡ passed ++ rest
  pub reached : last_of 0 passed ≡ from
  pub count : length passed ≡ steps
  pub others : AllOther key passed

-- a walk has found this node after those
pub record HasFound (shape : Shape) (seen : List Known) (key : Key) (node steps : ℕ) : Type 0 where
  pub passed : List Known
  pub here : Known
  pub rest : List Known
  pub chain : in_bucket shape (bucket_of shape key) seen ≡ passed ++ here ∷ rest
  pub reached : here.number ≡ node
  pub count : length passed ≡ steps
  pub others : AllOther key passed

-- the seat's spare has the key
abbrev pub Stored : List ℕ → ℕ → Key → Type 0
Stored words spare key = (0 < spare) × (slice_index words (one_at spare) ≡ key.one) × (slice_index words (two_at spare) ≡ key.two)

-- a seat that walks is marked full, or its spare has the key
abbrev pub Ready : List ℕ → ℕ → Bool → Key → Type 0
Ready words spare true key = Unit {0}
Ready words spare false key = Stored words spare key

-- how far a call has come
abbrev pub HasReached : Shape → List ℕ → List Known → ℕ → Bool → Phase → Type 0
HasReached shape words seen spare marked Idle = Unit {0}
HasReached shape words seen spare marked (Claiming key) = (spare ≡ 0) × (marked ≡ false)
HasReached shape words seen spare marked (StoringOne key) = (0 < spare) × (marked ≡ false)
HasReached shape words seen spare marked (StoringTwo key) = (0 < spare) × (marked ≡ false) × (slice_index words (one_at spare) ≡ key.one)
HasReached shape words seen spare marked (Linking key from passed) = Ready words spare marked key × IsWalk shape seen key from passed
HasReached shape words seen spare marked (Swapping key from passed) =
    (marked ≡ false) × Stored words spare key × IsWalk shape seen key from passed
HasReached shape words seen spare marked (AtOne key node passed) = Ready words spare marked key × HasFound shape seen key node passed
HasReached shape words seen spare marked (AtTwo key node passed) =
    Ready words spare marked key × HasFound shape seen key node passed × (slice_index words (one_at node) ≡ key.one)
HasReached shape words seen spare marked (LookingOne node) = 0 < uses node seen
HasReached shape words seen spare marked (LookingTwo node one) = (0 < uses node seen) × (slice_index words (one_at node) ≡ one)
HasReached shape words seen spare marked (MeasuringList number) = 0 < uses number seen
HasReached shape words seen spare marked (FindingEntry number at) = 0 < uses number seen
HasReached shape words seen spare marked (ReadingOne number at index) = 0 < uses number seen
HasReached shape words seen spare marked (ReadingTwo number at index one) = 0 < uses number seen
HasReached shape words seen spare marked (ReadingThree number at index one two) = 0 < uses number seen
HasReached shape words seen spare marked (Offering number len) = 0 < uses number seen
HasReached shape words seen spare marked (ClaimingBlock number len) = 0 < uses number seen
HasReached shape words seen spare marked (StoringWord number start len stored) = 0 < uses number seen
HasReached shape words seen spare marked (SwappingList number start len) = 0 < uses number seen

-- what holds of a seat: once it is marked full it has no spare, and all numbers are given out
pub record IsSeat (shape : Shape) (words : List ℕ) (seen : List Known) (s : Seat) : Type 0 where
  pub pass : s.pass < shape.passes
  pub mark : s.marked ≡ true → (s.spare ≡ 0) × (shape.nodes ≤ slice_index words claim_at)
  pub reached : HasReached shape words seen s.spare s.marked s.phase

-- the numbers that a claim word has given out are those from 1 to this
abbrev pub given_out : Shape → List ℕ → ℕ
given_out shape words = min (slice_index words claim_at) shape.nodes

-- no number is twice among those known and the spares, and together they are those that the claim word has given out; the claim
-- word has counted them and the marked seats; a number that is not known has no next node yet
pub record Shared (shape : Shape) (words : List ℕ) (seats : List Seat) (seen : List Known) : Type 0 where
  pub each : (n : ℕ) → 0 < n → uses n seen + total (keeps n) seats ≡ one_if (nat_le n (given_out shape words))
  pub numbers : uses 0 seen ≡ 0
  pub all : length seen + total has_spare seats + total is_marked seats ≡ slice_index words claim_at
  pub full : length seen + total has_spare seats ≡ given_out shape words
  pub fresh : (n : ℕ) → 0 < n → n ≤ shape.nodes → uses n seen ≡ 0 → slice_index words (next_at n) ≡ 0

-- the ranges of a shape
pub record IsShape (shape : Shape) : Type 0 where
  pub some_nodes : 0 < shape.nodes
  pub nodes_fit : shape.nodes ≤ 4194304
  pub bits_fit : shape.bucket_bits ≤ 20
  pub entries_fit : shape.entries ≤ 16777216
  pub some_passes : 0 < shape.passes
  pub passes_fit : shape.passes ≤ 65

-- what holds between any two steps: the history is legal, the words are its image, and each pass has at most one seat
pub record Kept (shape : Shape) (words : List ℕ) (seats : List Seat) (history : List Entry) : Type 0 where
  pub ranges : IsShape shape
  pub long : length words ≡ word_count shape
  pub few : length seats ≤ shape.passes
  pub apart : (n : ℕ) → total (is_pass n) seats ≤ 1
  pub legal : IsLegal shape history
  pub image : IsImage shape words history
  pub shared : Shared shape words seats (known history)
  pub seat_is : (i : ℕ) (s : Seat) → get_elem? seats i ≡ some s → IsSeat shape words (known history) s
