-- Where terminals can be continued to a text of a language.
use Rattle.std.proofs.Common.{◌≡◌, ℕ, ◌+◌, ◌-◌, ◌<◌, ◌≤◌, List, ◌++◌, take, drop, ap, sym, subst, ◌∙◌, append_assoc, inl, inr, arith}
use Rattle.std.proofs.lemmas.List.{take-append-drop}
use Rattle.std.proofs.Math.Seq.{take-add}
use Rattle.token_grammar.specs.declared.terminal.Terminal.{Terminal}
use Rattle.token_grammar.specs.Languages.{CanGoOn, CantFollow, GoesOnTo}

-- a front can go on where the whole can
pub shorter : (IsText : List Terminal → Type 0) (a b : List Terminal) → CanGoOn IsText (a ++ b) → CanGoOn IsText a
shorter IsText a b go = (b ++ go.0, subst IsText (append_assoc a b go.0) go.1)

-- and so can what stands before
pub can_before : (IsText : List Terminal → Type 0) (kinds : List Terminal) (i j : ℕ) → i ≤ j → CanGoOn IsText (take j kinds) → CanGoOn IsText (take i kinds)
can_before IsText kinds i j h go =
    let e : take j kinds ≡ take i kinds ++ take (j - i) (drop i kinds) = ap (λ n. take n kinds) (omega (arith, h)) ∙ take-add i (j - i) kinds in
    shorter IsText (take i kinds) (take (j - i) (drop i kinds)) (subst (CanGoOn IsText) e go)

-- no terminal can follow, and some can: the second isn't after the first
pub not_before : {IsText : List Terminal → Type 0} (kinds : List Terminal) (i j : ℕ) → CantFollow IsText kinds i → CanGoOn IsText (take j kinds) → j ≤ i
not_before {IsText = IsText} kinds i j h go = omega (arith, λ (before : i < j). h.behind (can_before IsText kinds (i + 1) j (omega arith) go))

-- one terminal is the first that can't follow
pub cant_cant : {IsText : List Terminal → Type 0} (kinds : List Terminal) (i j : ℕ) → CantFollow IsText kinds i → CantFollow IsText kinds j → i ≡ j
cant_cant kinds i j h k = omega (arith, not_before kinds i j h k.before, not_before kinds j i k h.before)

-- where all terminals can go on, none is refused
all_go : {IsText : List Terminal → Type 0} (kinds : List Terminal) (i : ℕ) → CantFollow IsText kinds i → ¬ CanGoOn IsText kinds
all_go {IsText = IsText} kinds i h go = h.behind (shorter IsText (take (i + 1) kinds) (drop (i + 1) kinds) (subst (CanGoOn IsText) (sym (take-append-drop (i + 1) kinds)) go))

-- terminals go on to one index
pub one_end : (IsText : List Terminal → Type 0) (kinds : List Terminal) (i j : ℕ) → GoesOnTo IsText kinds i → GoesOnTo IsText kinds j → i ≡ j
one_end IsText kinds i j (inl h) (inl k) = cant_cant kinds i j h k
one_end IsText kinds i j (inl h) (inr k) = absurd (all_go kinds i h k.1)
one_end IsText kinds i j (inr h) (inl k) = absurd (all_go kinds j k h.1)
one_end IsText kinds i j (inr h) (inr k) = h.0 ∙ sym k.0
