-- What speaks of an expression's positions speaks of those from `at` on, as many as its size.
use Rattle.std.proofs.Common.{◌≡◌, ℕ, ◌+◌, ◌≤◌, ◌<◌, [], ◌∷◌, inl, inr, refl, ap, arith, length, length-append}
use Rattle.probe_words.specs.MarkedLetters.{IsAmong, GuardedLetter}
use Rattle.probe_words.specs.Core.{Core, Epsilon, Symbol, Sequence, Alternative, LastLabelled, Repeated, Restarted, FirstGuarded, empty_of, list_if, count_if, heads_of, size_of, firsts, CopyOf, InPart, IsLast, HasLabel, IsLetterAt, Follows}
use Rattle.probe_words.proofs.PlaceLists.{among_either, among_only_if, length-only_if, length-places, among_places, copy_place}

pub length-firsts : (r : Core) (at : ℕ) → length (firsts r at) ≡ heads_of r
length-firsts Epsilon at = refl
length-firsts (Symbol a) at = refl
length-firsts (Sequence r s) at =
    let p = length-append (firsts r at) (list_if (empty_of r) (firsts s (at + size_of r))) in
    let q = length-only_if (empty_of r) (firsts s (at + size_of r)) in
    let c = ap (λ (n : ℕ). count_if (empty_of r) n) (length-firsts s (at + size_of r)) in
    omega (arith, length-firsts r at)
length-firsts (Alternative r s) at =
    let p = length-append (firsts r at) (firsts s (at + size_of r)) in
    omega (arith, length-firsts r at, length-firsts s (at + size_of r))
length-firsts (LastLabelled r l) at = length-firsts r at
length-firsts (Repeated r) at = length-firsts r at
length-firsts (Restarted r a) at =
    let p = length-append (firsts r at) ((at + size_of r) ∷ []) in
    omega (arith, length-firsts r at)
length-firsts (FirstGuarded g r) at = length-places (at + size_of r) (heads_of r)

pub copy_within : (r : Core) (at c x : ℕ) → CopyOf r at c x → (at + size_of r ≤ c) × (c < at + size_of r + heads_of r)
copy_within r at c x h = among_places (at + size_of r) (heads_of r) c (copy_place (firsts r at) (at + size_of r) (heads_of r) c x (length-firsts r at) h)

pub first_within : (r : Core) (at i : ℕ) → IsAmong i (firsts r at) → InPart r at i
first_within Epsilon at i h = absurd h
first_within (Symbol a) at i (inl e) = (omega arith, omega arith)
first_within (Symbol a) at i (inr h) = absurd h
first_within (Sequence r s) at i h =
    elim (among_either i (firsts r at) (list_if (empty_of r) (firsts s (at + size_of r))) h) [
      | inl a ↦ (let p : InPart r at i = first_within r at i a in (omega arith, omega arith))
      | inr b ↦ (let p : InPart s (at + size_of r) i = first_within s (at + size_of r) i (among_only_if (empty_of r) i (firsts s (at + size_of r)) b).1 in (omega arith, omega arith))
    ]
first_within (Alternative r s) at i h =
    elim (among_either i (firsts r at) (firsts s (at + size_of r)) h) [
      | inl a ↦ (let p : InPart r at i = first_within r at i a in (omega arith, omega arith))
      | inr b ↦ (let p : InPart s (at + size_of r) i = first_within s (at + size_of r) i b in (omega arith, omega arith))
    ]
first_within (LastLabelled r l) at i h = first_within r at i h
first_within (Repeated r) at i h = first_within r at i h
first_within (Restarted r a) at i h =
    elim (among_either i (firsts r at) ((at + size_of r) ∷ []) h) [
      | inl a ↦ (let p : InPart r at i = first_within r at i a in (omega arith, omega arith))
      | inr b ↦ (elim b [ inl e ↦ (omega arith, omega arith) | inr f ↦ absurd f ])
    ]
first_within (FirstGuarded g r) at i h =
    let p : (at + size_of r ≤ i) × (i < at + size_of r + heads_of r) = among_places (at + size_of r) (heads_of r) i h in (omega arith, omega arith)

pub last_within : (r : Core) (at i : ℕ) → IsLast r at i → InPart r at i
last_within Epsilon at i h = absurd h
last_within (Symbol a) at i e = (omega arith, omega arith)
last_within (Sequence r s) at i (inl h) = let p : InPart r at i = last_within r at i h.0 in (omega arith, omega arith)
last_within (Sequence r s) at i (inr h) = let p : InPart s (at + size_of r) i = last_within s (at + size_of r) i h in (omega arith, omega arith)
last_within (Alternative r s) at i (inl h) = let p : InPart r at i = last_within r at i h in (omega arith, omega arith)
last_within (Alternative r s) at i (inr h) = let p : InPart s (at + size_of r) i = last_within s (at + size_of r) i h in (omega arith, omega arith)
last_within (LastLabelled r l) at i h = last_within r at i h
last_within (Repeated r) at i h = last_within r at i h
last_within (Restarted r a) at i (inl h) = let p : InPart r at i = last_within r at i h in (omega arith, omega arith)
last_within (Restarted r a) at i (inr h) = (omega arith, omega arith)
last_within (FirstGuarded g r) at i (inl h) = let p : InPart r at i = last_within r at i h in (omega arith, omega arith)
last_within (FirstGuarded g r) at i (inr h) = let p = copy_within r at i h.0 h.1 in (omega arith, omega arith)

pub label_within : (r : Core) (at l i : ℕ) → HasLabel r at l i → InPart r at i
label_within Epsilon at l i h = absurd h
label_within (Symbol a) at l i h = absurd h
label_within (Sequence r s) at l i (inl h) = let p : InPart r at i = label_within r at l i h in (omega arith, omega arith)
label_within (Sequence r s) at l i (inr h) = let p : InPart s (at + size_of r) i = label_within s (at + size_of r) l i h in (omega arith, omega arith)
label_within (Alternative r s) at l i (inl h) = let p : InPart r at i = label_within r at l i h in (omega arith, omega arith)
label_within (Alternative r s) at l i (inr h) = let p : InPart s (at + size_of r) i = label_within s (at + size_of r) l i h in (omega arith, omega arith)
label_within (LastLabelled r k) at l i (inl h) = label_within r at l i h
label_within (LastLabelled r k) at l i (inr h) = last_within r at i h.1
label_within (Repeated r) at l i h = label_within r at l i h
label_within (Restarted r a) at l i h = let p : InPart r at i = label_within r at l i h in (omega arith, omega arith)
label_within (FirstGuarded g r) at l i (inl h) = let p : InPart r at i = label_within r at l i h in (omega arith, omega arith)
label_within (FirstGuarded g r) at l i (inr h) = let p = copy_within r at i h.0 h.1 in (omega arith, omega arith)

pub at_within : (r : Core) (at i : ℕ) (m : GuardedLetter) → IsLetterAt r at i m → InPart r at i
at_within Epsilon at i m h = absurd h
at_within (Symbol a) at i m h = (omega arith, omega arith)
at_within (Sequence r s) at i m (inl h) = let p : InPart r at i = at_within r at i m h in (omega arith, omega arith)
at_within (Sequence r s) at i m (inr h) = let p : InPart s (at + size_of r) i = at_within s (at + size_of r) i m h in (omega arith, omega arith)
at_within (Alternative r s) at i m (inl h) = let p : InPart r at i = at_within r at i m h in (omega arith, omega arith)
at_within (Alternative r s) at i m (inr h) = let p : InPart s (at + size_of r) i = at_within s (at + size_of r) i m h in (omega arith, omega arith)
at_within (LastLabelled r l) at i m h = at_within r at i m h
at_within (Repeated r) at i m h = at_within r at i m h
at_within (Restarted r a) at i m (inl h) = let p : InPart r at i = at_within r at i m h in (omega arith, omega arith)
at_within (Restarted r a) at i m (inr h) = (omega arith, omega arith)
at_within (FirstGuarded g r) at i m (inl h) = let p : InPart r at i = at_within r at i m h in (omega arith, omega arith)
at_within (FirstGuarded g r) at i m (inr h) = let p = copy_within r at i h.0 h.2 in (omega arith, omega arith)

-- both ends of an edge
pub follow_within : (r : Core) (at i j : ℕ) → Follows r at i j → InPart r at i × InPart r at j
follow_within Epsilon at i j h = absurd h
follow_within (Symbol a) at i j h = absurd h
follow_within (Sequence r s) at i j (inl h) = let p = follow_within r at i j h in ((omega arith, omega arith), (omega arith, omega arith))
follow_within (Sequence r s) at i j (inr (inl h)) = let p = follow_within s (at + size_of r) i j h in ((omega arith, omega arith), (omega arith, omega arith))
follow_within (Sequence r s) at i j (inr (inr h)) =
    let p = last_within r at i h.0 in
    let q = first_within s (at + size_of r) j h.1 in
    ((omega arith, omega arith), (omega arith, omega arith))
follow_within (Alternative r s) at i j (inl h) = let p = follow_within r at i j h in ((omega arith, omega arith), (omega arith, omega arith))
follow_within (Alternative r s) at i j (inr h) = let p = follow_within s (at + size_of r) i j h in ((omega arith, omega arith), (omega arith, omega arith))
follow_within (LastLabelled r l) at i j h = follow_within r at i j h
follow_within (Repeated r) at i j (inl h) = follow_within r at i j h
follow_within (Repeated r) at i j (inr h) = (last_within r at i h.0, first_within r at j h.1)
follow_within (Restarted r a) at i j (inl h) = let p = follow_within r at i j h in ((omega arith, omega arith), (omega arith, omega arith))
follow_within (Restarted r a) at i j (inr (inl h)) = (h.0, (omega arith, omega arith))
follow_within (Restarted r a) at i j (inr (inr h)) = let q = first_within r at j h.1 in ((omega arith, omega arith), (omega arith, omega arith))
follow_within (FirstGuarded g r) at i j (inl h) = let p = follow_within r at i j h in ((omega arith, omega arith), (omega arith, omega arith))
follow_within (FirstGuarded g r) at i j (inr h) =
    let p = copy_within r at i h.0 h.1 in
    let q = follow_within r at h.0 j h.2 in
    ((omega arith, omega arith), (omega arith, omega arith))
