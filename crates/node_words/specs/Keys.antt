-- The key of a node: the kind of the node and its small numbers in the first word, its components in the second.
use Rattle.std.specs.Prelude.{◌≡◌, ◌≢◌, ℕ, ◌+◌, ◌*◌, ◌^◌, ◌<◌, ◌≤◌, Option, Some, None}
use Rattle.intern_core.specs.declared.history.Key.{Key}
use Rattle.node_words.specs.declared.node.Node.{Node}
use Rattle.node_words.specs.declared.node.Node.TheVariants.{Leaf, Coop, Hide, Watch}

-- a number of an interner
abbrev pub IsNumber : ℕ → Type 0
IsNumber n = (0 < n) × (n ≤ 4194304)

-- a node whose numbers are in their ranges
abbrev pub IsNode : Node → Type 0
IsNode (Leaf leaf) = leaf < 65535
IsNode (Coop left right set) = IsNumber left × IsNumber right × (set < 1024)
IsNode (Hide child set) = IsNumber child × (set < 1024)
IsNode (Watch child probe state) = IsNumber child × (probe < 16) × (state < 1024)

abbrev pub key_words : ℕ → ℕ → Key
key_words one two = record { one = one; two = two }

-- the key of a node
abbrev pub packed_key : Node → Key
packed_key (Leaf leaf) = key_words (4 * leaf) 0
packed_key (Coop left right set) = key_words (1 + 4 * set) (left + 2 ^ 32 * right)
packed_key (Hide child set) = key_words (2 + 4 * set) child
packed_key (Watch child probe state) = key_words (3 + 4 * probe + 2 ^ 32 * state) child

-- no node in range has this key
abbrev pub IsNoKey : Key → Type 0
IsNoKey key = (node : Node) → IsNode node → packed_key node ≢ key

-- the node that a key unpacks to: the one in range that has it, or none where no node in range has it
abbrev pub IsUnpackedKey : Key → Option Node → Type 0
IsUnpackedKey key (Some node) = IsNode node × (packed_key node ≡ key)
IsUnpackedKey key None = IsNoKey key
