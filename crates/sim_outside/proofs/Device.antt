-- One call of a device after another.
use Rattle.std.proofs.Common.{◌≡◌, ℕ, ◌+◌, Option, None, Some, List, ◌++◌, take, drop, sym, ap, ◌∙◌, append_assoc}
use Rattle.std.proofs.Math.Seq.{take-add}
use Rattle.sim_outside.specs.Source.{Takes}
use Rattle.sim_outside.specs.Sink.{GrowsBy}

-- what a second call takes follows what the first took
pub Takes-trans : (a b c : Option (List ℕ)) (xs ys : List ℕ) → Takes a b xs → Takes b c ys → Takes a c (xs ++ ys)
Takes-trans None b c xs ys p q = tt
Takes-trans (Some i) None c xs ys p q = absurd p
Takes-trans (Some i) (Some j) None xs ys p q = absurd q
Takes-trans (Some i) (Some j) (Some k) xs ys p q = p ∙ ap (λ l. xs ++ l) q ∙ sym (append_assoc xs ys k)

-- what was taken before stands in the front of a buffer, and what a read takes behind it
pub Takes-behind : (a b c : Option (List ℕ)) (before after : List ℕ) (filled count : ℕ) → take filled after ≡ take filled before
    → Takes a b (take filled before) → Takes b c (take count (drop filled after)) → Takes a c (take (filled + count) after)
Takes-behind a b c before after filled count same p q =
    let r = Takes-trans a b c _ _ p q in
    rw (take-add, same) r

-- a sink grows by what a second call adds behind what the first did
pub GrowsBy-trans : (a b c : Option (List ℕ)) (xs ys : List ℕ) → GrowsBy a b xs → GrowsBy b c ys → GrowsBy a c (xs ++ ys)
GrowsBy-trans None b c xs ys p q = tt
GrowsBy-trans (Some i) None c xs ys p q = cc
GrowsBy-trans (Some i) (Some j) c xs ys p q =
    let e : j ≡ i ++ xs = cc in
    let f : (i ++ xs) ++ ys ≡ i ++ (xs ++ ys) = append_assoc i xs ys in
    cc

-- the same for two parts of one piece
pub GrowsBy-behind : (a b c : Option (List ℕ)) (piece : List ℕ) (taken count : ℕ) → GrowsBy a b (take taken piece)
    → GrowsBy b c (take count (drop taken piece)) → GrowsBy a c (take (taken + count) piece)
GrowsBy-behind a b c piece taken count p q = rw take-add (GrowsBy-trans a b c _ _ p q)
