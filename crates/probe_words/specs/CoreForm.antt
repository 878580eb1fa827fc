-- Each expression as one of eight constructors: how `*`, `?` and repeats are made of the others.
use Rattle.std.proofs.Common.{zero, suc}
use Rattle.std.specs.Prelude.{ℕ, ◌-◌}
use Rattle.probe_words.specs.Core.{Core, Epsilon, Symbol, Sequence, Alternative, LastLabelled, Repeated, Restarted, FirstGuarded}
use Rattle.probe_words.specs.Words.{Pattern, Only, Then, Or, Label, Star, Plus, Maybe, Times, Between, Reset, Guarded}

-- n copies in a row
abbrev pub row_of : Core → ℕ → Core
row_of r zero = Epsilon
row_of r (suc n) = Sequence (row_of r n) r

-- the part, or the empty word
abbrev pub maybe_of : Core → Core
maybe_of r = Alternative Epsilon r

-- the tail for n copies: a copy and then the tail for one less, or the empty word
abbrev pub tail_of : Core → ℕ → Core
tail_of r zero = Epsilon
tail_of r (suc zero) = maybe_of r
tail_of r (suc (suc n)) = maybe_of (Sequence r (tail_of r (suc n)))

-- `*` is `+` or the empty word; `{m,n}` is m copies in a row, and then the tail for n - m
abbrev pub core_of : Pattern → Core
core_of (Only a) = Symbol a
core_of (Then r s) = Sequence (core_of r) (core_of s)
core_of (Or r s) = Alternative (core_of r) (core_of s)
core_of (Label r l) = LastLabelled (core_of r) l
core_of (Guarded g r) = FirstGuarded g (core_of r)
core_of (Star r) = maybe_of (Repeated (core_of r))
core_of (Plus r) = Repeated (core_of r)
core_of (Maybe r) = maybe_of (core_of r)
core_of (Times r n) = row_of (core_of r) n
core_of (Between r m n) = Sequence (row_of (core_of r) m) (tail_of (core_of r) (n - m))
core_of (Reset r a) = Restarted (core_of r) a
