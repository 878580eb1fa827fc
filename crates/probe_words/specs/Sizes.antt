-- How many positions an expression has, and how many of them are first.
use Rattle.std.proofs.Common.{zero, suc}
use Rattle.std.specs.Prelude.{ℕ, ◌+◌, ◌*◌, Bool, true, false, ◌||◌, ◌&&◌, if◌then◌else◌}
use Rattle.probe_words.specs.Words.{Pattern, Only, Then, Or, Label, Star, Plus, Maybe, Times, Between, Reset, Guarded}

-- the number is 0
abbrev pub is_zero_count : ℕ → Bool
is_zero_count zero = true
is_zero_count (suc n) = false

-- the first positions of n copies of a part, whether it has the empty word or not
abbrev pub copies_heads : Bool → ℕ → ℕ → ℕ
copies_heads b zero h = 0
copies_heads true (suc n) h = suc n * h
copies_heads false (suc n) h = h

-- the empty word is a word
abbrev pub has_empty : Pattern → Bool
has_empty (Only a) = false
has_empty (Then r s) = has_empty r && has_empty s
has_empty (Or r s) = has_empty r || has_empty s
has_empty (Label r l) = has_empty r
has_empty (Guarded g r) = has_empty r
has_empty (Star r) = true
has_empty (Plus r) = has_empty r
has_empty (Maybe r) = true
has_empty (Times r n) = is_zero_count n || has_empty r
has_empty (Between r m n) = is_zero_count m || has_empty r
has_empty (Reset r a) = has_empty r

-- the table of heads
abbrev pub heads_of_pattern : Pattern → ℕ
heads_of_pattern (Only a) = 1
heads_of_pattern (Then r s) = heads_of_pattern r + (if has_empty r then heads_of_pattern s else 0)
heads_of_pattern (Or r s) = heads_of_pattern r + heads_of_pattern s
heads_of_pattern (Label r l) = heads_of_pattern r
heads_of_pattern (Guarded g r) = heads_of_pattern r
heads_of_pattern (Star r) = heads_of_pattern r
heads_of_pattern (Plus r) = heads_of_pattern r
heads_of_pattern (Maybe r) = heads_of_pattern r
heads_of_pattern (Times r n) = copies_heads (has_empty r) n (heads_of_pattern r)
heads_of_pattern (Between r m n) = copies_heads (has_empty r) n (heads_of_pattern r)
heads_of_pattern (Reset r a) = heads_of_pattern r + 1

-- the table of sizes
abbrev pub size_of_pattern : Pattern → ℕ
size_of_pattern (Only a) = 1
size_of_pattern (Then r s) = size_of_pattern r + size_of_pattern s
size_of_pattern (Or r s) = size_of_pattern r + size_of_pattern s
size_of_pattern (Label r l) = size_of_pattern r
size_of_pattern (Guarded g r) = size_of_pattern r + heads_of_pattern r
size_of_pattern (Star r) = size_of_pattern r
size_of_pattern (Plus r) = size_of_pattern r
size_of_pattern (Maybe r) = size_of_pattern r
size_of_pattern (Times r n) = n * size_of_pattern r
size_of_pattern (Between r m n) = n * size_of_pattern r
size_of_pattern (Reset r a) = size_of_pattern r + 1
