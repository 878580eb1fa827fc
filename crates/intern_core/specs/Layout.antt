-- Where each word of a table is. Node n, from 1, has the four words from 4n on; the two claim words come first. After the nodes
-- come the heads of the buckets, and then three words for each entry.
use Rattle.std.specs.Prelude.{ℕ, zero, suc, ◌+◌, ◌-◌, ◌*◌, ◌/◌, ◌%◌, ◌^◌, bit_xor}
use Rattle.intern_core.specs.declared.shape.Shape.{Shape}
use Rattle.intern_core.specs.declared.history.Key.{Key}

-- the claim word of the nodes
abbrev pub claim_at : ℕ
claim_at = 0

-- the claim word of the entries
abbrev pub entries_at : ℕ
entries_at = 1

-- a node's first key word
abbrev pub one_at : ℕ → ℕ
one_at n = 4 * n

-- a node's second key word
abbrev pub two_at : ℕ → ℕ
two_at n = 4 * n + 1

-- the link from this node to the next one
abbrev pub next_at : ℕ → ℕ
next_at n = 4 * n + 2

-- a node's list word
abbrev pub list_at : ℕ → ℕ
list_at n = 4 * n + 3

-- the link to the first node of a bucket
abbrev pub head_at : Shape → ℕ → ℕ
head_at shape bucket = 4 * shape.nodes + 4 + bucket

-- the first word of an entry
abbrev pub block_at : Shape → ℕ → ℕ
block_at shape index = 4 * shape.nodes + 4 + 2 ^ shape.bucket_bits + 3 * index

-- how many words there are
abbrev pub word_count : Shape → ℕ
word_count shape = block_at shape shape.entries

-- the link from a node of a bucket, or for 0 the bucket's head
abbrev pub link_at : Shape → ℕ → ℕ → ℕ
link_at shape bucket zero = head_at shape bucket
link_at shape bucket (suc n) = next_at (suc n)

-- the bucket of a key among 2 ^ bits, by Fibonacci hashing: the top bits of a product modulo 2 ^ 64
unfoldable pub bucket_with : Key → ℕ → ℕ
bucket_with key zero = 0
bucket_with key (suc bits) =
    (bit_xor key.one (key.two * 11400714819323198485 % 2 ^ 64) * 11400714819323198485 % 2 ^ 64) / 2 ^ (63 - bits)

abbrev pub bucket_of : Shape → Key → ℕ
bucket_of shape key = bucket_with key shape.bucket_bits
