-- What the words are after a history: for each bucket a chain of the known numbers whose keys fall into it, for each number its
-- key, and for each published list a block with its words.
use Rattle.std.specs.Prelude.{◌≡◌, ℕ, ◌+◌, ◌*◌, ◌<◌, ◌≤◌, ◌==◌, ◌^◌, List, [], ◌∷◌, length, filter, slice_index, Option, Some, None}
use Rattle.intern_core.specs.declared.shape.Shape.{Shape}
use Rattle.intern_core.specs.declared.history.EntryWords.{EntryWords}
use Rattle.intern_core.specs.declared.history.Entry.{Entry}
use Rattle.intern_core.specs.Layout.{one_at, two_at, list_at, link_at, bucket_of, block_at}
use Rattle.intern_core.specs.History.{Known, known, Listing, listing_in}

-- the known keys of a bucket, in the order in which they became known
abbrev pub in_bucket : Shape → ℕ → List Known → List Known
in_bucket shape bucket seen = filter (λ x. bucket_of shape x.key == bucket) seen

-- from this link on, the links lead through these nodes and no others
abbrev pub IsChain : Shape → List ℕ → ℕ → ℕ → List Known → Type 0
IsChain shape words bucket from [] = slice_index words (link_at shape bucket from) ≡ 0
IsChain shape words bucket from (x ∷ xs) =
    (slice_index words (link_at shape bucket from) ≡ x.number) × IsChain shape words bucket x.number xs

-- each node's key words are its key
abbrev pub HaveKeys : List ℕ → List Known → Type 0
HaveKeys words [] = Unit {0}
HaveKeys words (x ∷ xs) =
    (slice_index words (one_at x.number) ≡ x.key.one) × (slice_index words (two_at x.number) ≡ x.key.two) × HaveKeys words xs

-- from this word on, the words are these
abbrev pub Holds : List ℕ → ℕ → List ℕ → Type 0
Holds words at [] = Unit {0}
Holds words at (v ∷ vs) = (slice_index words at ≡ v) × Holds words (at + 1) vs

-- the words of a list's entries, three for each, one after another
abbrev pub flat : List EntryWords → List ℕ
flat [] = []
flat (e ∷ es) = slice_index e.0 0 ∷ slice_index e.0 1 ∷ slice_index e.0 2 ∷ flat es

-- the list word that names the block of so many entries from this one on
abbrev pub list_word : ℕ → ℕ → ℕ
list_word start len = len + 2 ^ 32 * (start + 1)

-- a list word is 0 where no list is published; else it names a block that holds the list
abbrev pub IsListWord : Shape → List ℕ → ℕ → Option Listing → Type 0
IsListWord shape words word None = word ≡ 0
IsListWord shape words word (Some l) =
    (start : ℕ) × (word ≡ list_word start (length l.words)) × (start + length l.words ≤ shape.entries)
    × Holds words (block_at shape start) (flat l.words)

-- these words are what a history has left
pub record IsImage (shape : Shape) (words : List ℕ) (history : List Entry) : Type 0 where
  pub chains : (bucket : ℕ) → bucket < 2 ^ shape.bucket_bits → IsChain shape words bucket 0 (in_bucket shape bucket (known history))
  pub keys : HaveKeys words (known history)
  pub lists : (n : ℕ) → 0 < n → n ≤ shape.nodes → IsListWord shape words (slice_index words (list_at n)) (listing_in history n)
