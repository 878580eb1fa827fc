-- Positions that are reached by events are those at which prefixes that the events fit can end.
use Rattle.std.proofs.Common.{◌≡◌, ℕ, List, [], ◌∷◌, ◌++◌, inl, inr, refl}
use Rattle.probe_words.specs.MarkedLetters.{IsAmong, GuardedLetter}
use Rattle.probe_words.specs.Core.{Core, Epsilon, Repeated, firsts, IsLetterAt, Follows}
use Rattle.probe_words.specs.WordKinds.{WordKind, IsOfKind}
use Rattle.probe_words.specs.Paths.{EndsPath, Spells, GoesOn}
use Rattle.probe_words.specs.Words.{Pattern, Star, IsProbeWord, IsProperPattern}
use Rattle.probe_words.specs.CoreForm.{core_of, maybe_of}
use Rattle.probe_words.specs.Hearing.{ProbeEvent, FitsLetter, FitsLetters, FitsWordKind}
use Rattle.probe_words.proofs.CoreWordsAgree.{word_core, core_word}
use Rattle.probe_words.proofs.PathsSpellWords.{spelled_ends, ends_spelled}
use Rattle.probe_words.proofs.PathsOfAlternatives.{alternative_sound, alternative_complete}

-- the event fits the letter of position y
abbrev pub Hits : Core → ProbeEvent → ℕ → Type 0
Hits r e y = (m : GuardedLetter) × IsLetterAt r 0 y m × FitsLetter e m

-- the event leads from the start to y
abbrev pub StartStep : Core → ProbeEvent → ℕ → Type 0
StartStep r e y = IsAmong y (firsts r 0) × Hits r e y

-- the event leads from a member of S to y
abbrev pub Step : Core → (ℕ → Type 0) → ProbeEvent → ℕ → Type 0
Step r S e y = (x : ℕ) × S x × Follows (Repeated r) 0 x y × Hits r e y

abbrev pub Reach : Core → (ℕ → Type 0) → List ProbeEvent → ℕ → Type 0
Reach r S [] y = S y
Reach r S (e ∷ h) y = Reach r (Step r S e) h y

-- the positions to which the events lead from the start
abbrev pub Reached : Core → List ProbeEvent → ℕ → Type 0
Reached r [] y = ⊥
Reached r (e ∷ h) y = Reach r (StartStep r e) h y

-- a path from x that fits the events and ends at such a position
abbrev Way : Core → (ℕ → Type 0) → ℕ → List ProbeEvent → Type 0
Way r T x h = (w : List GuardedLetter) × GoesOn (Follows (Repeated r) 0) (IsLetterAt r 0) T x w × FitsLetters h w

reach_way : (r : Core) (T S : ℕ → Type 0) (h : List ProbeEvent) (y : ℕ) → Reach r S h y → T y → (x : ℕ) × S x × Way r T x h
reach_way r T S [] y s t = (y, s, ([], t, tt))
reach_way r T S (e ∷ h) y s t =
    let (z, (x, p, f, (m, i, g)), (w, o, k)) = reach_way r T (Step r S e) h y s t in
    (x, p, (m ∷ w, (z, f, i, o), (g, k)))

way_reach : (r : Core) (T S : ℕ → Type 0) (h : List ProbeEvent) (x : ℕ) → S x → Way r T x h → (y : ℕ) × Reach r S h y × T y
way_reach r T S [] x s ([], o, k) = (x, s, o)
way_reach r T S [] x s (m ∷ w, o, k) = absurd k
way_reach r T S (e ∷ h) x s ([], o, k) = absurd k
way_reach r T S (e ∷ h) x s (m ∷ w, (z, f, i, o), (g, k)) = way_reach r T (Step r S e) h z (x, s, f, (m, i, g)) (w, o, k)

-- one event more is one step more
pub reach_snoc : (r : Core) (S : ℕ → Type 0) (h : List ProbeEvent) (e : ProbeEvent) (y : ℕ) → Reach r S (h ++ e ∷ []) y ≡ Step r (λ x. Reach r S h x) e y
reach_snoc r S [] e y = refl
reach_snoc r S (d ∷ h) e y = reach_snoc r (Step r S d) h e y

pub reached_snoc : (r : Core) (d : ProbeEvent) (h : List ProbeEvent) (e : ProbeEvent) (y : ℕ) → Reached r ((d ∷ h) ++ e ∷ []) y ≡ Step r (λ x. Reached r (d ∷ h) x) e y
reached_snoc r d h e y = reach_snoc r (StartStep r d) h e y

-- ---- what is reached, and what is heard

-- what the repeated expression's positions spell
repeated : (p : Pattern) → IsProperPattern p → (kind : WordKind) (m : GuardedLetter) (w : List GuardedLetter) → IsOfKind (λ u. IsProbeWord (Star p) u) kind (m ∷ w) → Spells (Repeated (core_of p)) 0 kind (m ∷ w)
repeated p s kind m w (u, v, g, k, t) =
    elim (alternative_sound Epsilon (Repeated (core_of p)) 0 kind (m ∷ w) (ends_spelled (maybe_of (Repeated (core_of p))) 0 kind (m ∷ w) (u, v, word_core (Star p) s (u ++ v) g, k, t))) [
      | inl h ↦ absurd h.1
      | inr h ↦ h
    ]

spelled : (p : Pattern) → IsProperPattern p → (kind : WordKind) (w : List GuardedLetter) → Spells (Repeated (core_of p)) 0 kind w → IsOfKind (λ u. IsProbeWord (Star p) u) kind w
spelled p s kind w h =
    let (u, v, g, k, t) = spelled_ends (maybe_of (Repeated (core_of p))) 0 kind w (alternative_complete Epsilon (Repeated (core_of p)) 0 kind w (inr h)) in
    (u, v, core_word (Star p) s (u ++ v) g, k, t)

pub heard_reached : (p : Pattern) → IsProperPattern p → (kind : WordKind) (e : ProbeEvent) (h : List ProbeEvent) → FitsWordKind p kind (e ∷ h) → (y : ℕ) × Reached (core_of p) (e ∷ h) y × EndsPath (Repeated (core_of p)) 0 kind y
heard_reached p s kind e h ([], g, f) = absurd f
heard_reached p s kind e h (m ∷ w, g, (i, f)) =
    let (y, a, b, o) = repeated p s kind m w g in
    way_reach (core_of p) (EndsPath (Repeated (core_of p)) 0 kind) (StartStep (core_of p) e) h y (a, (m, b, i)) (w, o, f)

pub reached_heard : (p : Pattern) → IsProperPattern p → (kind : WordKind) (e : ProbeEvent) (h : List ProbeEvent) (y : ℕ) → Reached (core_of p) (e ∷ h) y → EndsPath (Repeated (core_of p)) 0 kind y → FitsWordKind p kind (e ∷ h)
reached_heard p s kind e h y g t =
    let (x, (a, (m, b, i)), (w, o, f)) = reach_way (core_of p) (EndsPath (Repeated (core_of p)) 0 kind) (StartStep (core_of p) e) h y g t in
    (m ∷ w, spelled p s kind (m ∷ w) (x, a, b, o), (i, f))
