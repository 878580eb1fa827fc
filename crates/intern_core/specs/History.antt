-- The history of an interner: which keys it makes known, which lists it publishes, and when it is legal.
use Rattle.std.specs.Prelude.{◌≡◌, ◌≢◌, ◌↔◌, ℕ, ◌+◌, ◌<◌, ◌≤◌, ◌==◌, Bool, true, false, ◌&&◌, List, [], ◌∷◌, ◌++◌, length, if◌then◌else◌, slice_get, Option, Some, None}
use Rattle.intern_core.specs.declared.shape.Shape.{Shape}
use Rattle.intern_core.specs.declared.history.Key.{Key}
use Rattle.intern_core.specs.declared.history.EntryWords.{EntryWords}
use Rattle.intern_core.specs.declared.history.Reply.{Reply}
use Rattle.intern_core.specs.declared.history.Reply.TheVariants.{Num, Full}
use Rattle.intern_core.specs.declared.history.Entry.{Entry}
use Rattle.intern_core.specs.declared.history.Entry.TheVariants as entry

-- a key that is known, with its number
pub record Known : Type 0 where
  pub number : ℕ
  pub key : Key

-- both words of two keys are equal
abbrev pub is_same_key : Key → Key → Bool
is_same_key a b = (a.one == b.one) && (a.two == b.two)

-- the number of a key, if it is known
abbrev pub number_in : List Known → Key → Option ℕ
number_in [] key = None
number_in (x ∷ xs) key = if is_same_key x.key key then Some x.number else number_in xs key

abbrev pub one_if : Bool → ℕ
one_if true = 1
one_if false = 0

-- how many known keys have this number
abbrev pub uses : ℕ → List Known → ℕ
uses n [] = 0
uses n (x ∷ xs) = one_if (x.number == n) + uses n xs

-- what is known once a key has this number, unless it had one before
abbrev pub with_key : List Known → Key → ℕ → Option ℕ → List Known
with_key seen key n (Some m) = seen
with_key seen key n None = seen ++ record { number = n; key = key } ∷ []

-- what is known after one more entry: a call that is answered a number makes its key known with that number
abbrev pub learnt : List Known → Entry → List Known
learnt seen (entry.Call pass key (Num n)) = with_key seen key n (number_in seen key)
learnt seen other = seen

abbrev pub known_after : List Known → List Entry → List Known
known_after seen [] = seen
known_after seen (e ∷ es) = known_after (learnt seen e) es

-- the keys that a history makes known, in the order in which they became known
abbrev pub known : List Entry → List Known
known history = known_after [] history

-- a published list, with the pass that published it
pub record Listing : Type 0 where
  pub pass : ℕ
  pub words : List EntryWords

abbrev pub listing : ℕ → List EntryWords → Listing
listing pass words = record { pass = pass; words = words }

-- the list of a number, if one is published
abbrev pub listing_in : List Entry → ℕ → Option Listing
listing_in [] n = None
listing_in (entry.List pass number words ∷ es) n = if number == n then Some (listing pass words) else listing_in es n
listing_in (other ∷ es) n = listing_in es n

-- a known key is answered its number; an unknown one a number of the table that no key has, or that the table is full, where
-- all numbers but at most one for each pass are known
abbrev pub MayAnswer : Shape → List Known → Option ℕ → Reply → Type 0
MayAnswer shape seen (Some n) answer = answer ≡ Num n
MayAnswer shape seen None (Num n) = (0 < n) × (n ≤ shape.nodes) × (uses n seen ≡ 0)
MayAnswer shape seen None Full = shape.nodes ≤ length seen + shape.passes

-- another pass has published
abbrev pub IsOfAnother : ℕ → Option Listing → Type 0
IsOfAnother pass None = ⊥
IsOfAnother pass (Some l) = l.pass ≢ pass

-- What an entry meets after those before it. A call is answered as above; a list is for a known number that has none, and has
-- at most 4,096 entries; a list is lost to an earlier one of another pass for the same number.
abbrev pub Meets : Shape → List Entry → Entry → Type 0
Meets shape before (entry.Call pass key answer) = (pass < shape.passes) × MayAnswer shape (known before) (number_in (known before) key) answer
Meets shape before (entry.List pass number words) =
    (pass < shape.passes) × (0 < uses number (known before)) × (listing_in before number ≡ None) × (length words ≤ 4096)
Meets shape before (entry.Lost pass number len) =
    (pass < shape.passes) × IsOfAnother pass (listing_in before number) × (len ≤ 4096)

abbrev pub IsLegalAfter : Shape → List Entry → List Entry → Type 0
IsLegalAfter shape before [] = Unit {0}
IsLegalAfter shape before (e ∷ es) = Meets shape before e × IsLegalAfter shape (before ++ e ∷ []) es

-- each entry, seen after those before it, is one that an interner with one thread could make
abbrev pub IsLegal : Shape → List Entry → Type 0
IsLegal shape history = IsLegalAfter shape [] history

-- whatever a history answers, two keys are equal exactly where their numbers are
abbrev pub HasOneNumberPerKey : List Entry → Type 0
HasOneNumberPerKey history =
    (i j p q : ℕ) (a b : Key) (n m : ℕ) → slice_get history i ≡ Some (entry.Call p a (Num n)) → slice_get history j ≡ Some (entry.Call q b (Num m))
    → (a ≡ b) ↔ (n ≡ m)
