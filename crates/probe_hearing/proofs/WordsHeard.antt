-- What is heard and sent, by words alone.
use Rattle.std.proofs.Common.{◌≡◌, ℕ, List, [], ◌∷◌, ◌++◌, ◌↔◌, inl, inr, refl, sym, ap, ◌∙◌, subst, append_assoc, arith}
use Rattle.std.specs.Int.{bit_at}
use Rattle.std.proofs.lemmas.Bool.{cases_eq}
use Rattle.std.proofs.lemmas.List.{map-append}
use Rattle.std.proofs.lemmas.Nat.Bits.{bit_at-lt, same_from_bits}
use Rattle.probe_words.specs.MarkedLetters.{GuardedLetter, MarkedLetter}
use Rattle.probe_words.specs.Sets.{HasMember}
use Rattle.probe_words.specs.WordKinds.{WordKind, WholeWord, WordPrefix, LabelledPrefix, LastHas, CutsAs, without_labels}
use Rattle.probe_words.specs.Words.{Pattern, IsProbeWord, Star}
use Rattle.probe_words.specs.Hearing.{ProbeEvent, FitsLetter, FitsLetters, FitsWordKind, IsHeard, Hear, Out}
use Rattle.probe_words.proofs.CoreWordsAgree.{join_rows}
use Rattle.probe_hearing.specs.Watching.{HearsAll, IsWatched, events_of}

-- ---- one event

pub out_heard : (p : Pattern) (h : List ProbeEvent) (e : ProbeEvent) (l : ℕ) → Out p h e l → IsHeard p h e
out_heard p h e l (w, (u, v, g, m, c), f) = (w, (u, v, g, m, tt), f)

pub heard_next : (p : Pattern) (h : List ProbeEvent) (e : ProbeEvent) (next : List ProbeEvent) → Hear p h e next → IsHeard p h e → next ≡ h ++ e ∷ []
heard_next p h e next (inl (k, is)) f = is
heard_next p h e next (inr (n, is)) f = absurd (n f)

pub unheard_next : (p : Pattern) (h : List ProbeEvent) (e : ProbeEvent) (next : List ProbeEvent) → Hear p h e next → (IsHeard p h e → ⊥) → next ≡ h
unheard_next p h e next (inl (k, is)) n = absurd (n k)
unheard_next p h e next (inr (k, is)) n = is

hear_once : (p : Pattern) (h : List ProbeEvent) (e : ProbeEvent) (a b : List ProbeEvent) → Hear p h e a → Hear p h e b → a ≡ b
hear_once p h e a b (inl (k, is)) g = is ∙ sym (heard_next p h e b g k)
hear_once p h e a b (inr (n, is)) g = is ∙ sym (unheard_next p h e b g n)

-- ---- sets with the same members

pub same_members : (a b : ℕ) → ((l : ℕ) → HasMember a l ↔ HasMember b l) → a ≡ b
same_members a b s = same_from_bits a b each
  where
    each : (i : ℕ) → bit_at a i ≡ bit_at b i
    each i =
        elim (cases_eq (bit_at a i) 1) [
          | inl e ↦ e ∙ sym ((s i).0 e)
          | inr n ↦ (elim (cases_eq (bit_at b i) 1) [
            | inl e ↦ absurd (n ((s i).1 e))
            | inr k ↦ omega (arith, bit_at-lt a i, bit_at-lt b i)
          ])
        ]

-- ---- events one after another

pub without_first : (p : Pattern) (h es next : List ProbeEvent) (e : ProbeEvent) (sent : ℕ) → (IsHeard p h e → ⊥) → HearsAll p h (e ∷ es) next sent → HearsAll p h es next sent
without_first p h es next e sent n (mid, later, hear, all, members) =
    let same : later ≡ sent = same_members later sent (λ l. (λ m. (members l).1 (inr m), λ m. elim ((members l).0 m) [ inl o ↦ absurd (n (out_heard p h e l o)) | inr k ↦ k ])) in
    subst (λ (z : ℕ). HearsAll p h es next z) same (subst (λ (z : List ProbeEvent). HearsAll p z es next later) (unheard_next p h e mid hear n) all)

pub with_first : (p : Pattern) (h es next : List ProbeEvent) (e : ProbeEvent) (sent : ℕ) → (IsHeard p h e → ⊥) → HearsAll p h es next sent → HearsAll p h (e ∷ es) next sent
with_first p h es next e sent n all = (h, sent, inr (n, refl), all, λ l. (λ m. inr m, λ s. elim s [ inl o ↦ absurd (n (out_heard p h e l o)) | inr m ↦ m ]))

pub one_end : (p : Pattern) (es h next other : List ProbeEvent) (sent more : ℕ) → HearsAll p h es next sent → HearsAll p h es other more → (next ≡ other) × (sent ≡ more)
one_end p [] h next other sent more (a, x) (b, y) = (a ∙ sym b, same_members sent more (λ l. (λ m. absurd (x l m), λ m. absurd (y l m))))
one_end p (e ∷ es) h next other sent more (mid, later, hear, all, members) (mid2, later2, hear2, all2, members2) =
    let same : mid ≡ mid2 = hear_once p h e mid mid2 hear hear2 in
    let (nexts, laters) = one_end p es mid2 next other later later2 (subst (λ (z : List ProbeEvent). HearsAll p z es next later) same all) all2 in (
      nexts,
      same_members sent more (λ l. (
        λ m. (members2 l).1 (elim ((members l).0 m) [ inl o ↦ inl o | inr k ↦ inr (subst (λ (z : ℕ). HasMember z l) laters k) ]),
        λ m. (members l).1 (elim ((members2 l).0 m) [ inl o ↦ inl o | inr k ↦ inr (subst (λ (z : ℕ). HasMember z l) (sym laters) k) ]),
      )),
    )

pub one_watched : (p : Pattern) (h : List ProbeEvent) (action signals : ℕ) (counts : List ℕ) (next other : List ProbeEvent) (out more : ℕ) → IsWatched p h action signals counts next out → IsWatched p h action signals counts other more → (next ≡ other) × (out ≡ more)
one_watched p h action signals counts next other out more (sent, all, members) (sent2, all2, members2) =
    let (nexts, sents) = one_end p (events_of action signals counts) h next other sent sent2 all all2 in (
      nexts,
      same_members out more (λ l. (
        λ m. (members2 l).1 (elim ((members l).0 m) [ inl k ↦ inl k | inr k ↦ inr (subst (λ (z : ℕ). HasMember z l) sents k) ]),
        λ m. (members l).1 (elim ((members2 l).0 m) [ inl k ↦ inl k | inr k ↦ inr (subst (λ (z : ℕ). HasMember z l) (sym sents) k) ]),
      )),
    )

-- ---- prefixes of what was heard

-- the letters that the first of the events fit
shorter_marks : (h k : List ProbeEvent) (u : List MarkedLetter) (w : List GuardedLetter) → without_labels u ≡ w → FitsLetters (h ++ k) w → (a b : List MarkedLetter) × (u ≡ a ++ b) × FitsLetters h (without_labels a)
shorter_marks [] k u w m f = ([], u, refl, tt)
shorter_marks (d ∷ h) k [] [] m f = absurd f
shorter_marks (d ∷ h) k [] (y ∷ w) m f = absurd cc
shorter_marks (d ∷ h) k (x ∷ u) [] m f = absurd f
shorter_marks (d ∷ h) k (x ∷ u) (y ∷ w) m (i, f) =
    let same : x.mark ≡ y = cc in
    let rest : without_labels u ≡ w = cc in
    let (a, b, s, g) = shorter_marks h k u w rest f in
    (x ∷ a, b, ap (λ (z : List MarkedLetter). x ∷ z) s, (subst (λ (z : GuardedLetter). FitsLetter d z) (sym same) i, g))

pub shorter : (p : Pattern) (h k : List ProbeEvent) → FitsWordKind p WordPrefix (h ++ k) → FitsWordKind p WordPrefix h
shorter p h k (w, (u, v, g, m, c), f) =
    let (a, b, s, fits) = shorter_marks h k u w m f in
    let whole : IsProbeWord (Star p) (a ++ (b ++ v)) = subst (λ (z : List MarkedLetter). IsProbeWord (Star p) z) (ap (λ (z : List MarkedLetter). z ++ v) s ∙ append_assoc a b v) g in
    (without_labels a, (a, b ++ v, whole, refl, tt), fits)

-- ---- a word and then another

fits_both : (h k : List ProbeEvent) (w x : List GuardedLetter) → FitsLetters h w → FitsLetters k x → FitsLetters (h ++ k) (w ++ x)
fits_both [] k [] x f g = g
fits_both [] k (m ∷ w) x f g = absurd f
fits_both (e ∷ h) k [] x f g = absurd f
fits_both (e ∷ h) k (m ∷ w) x (i, f) g = (i, fits_both h k w x f g)

last_after : (l : ℕ) (a u : List MarkedLetter) → LastHas l u → LastHas l (a ++ u)
last_after l [] u h = h
last_after l (x ∷ []) [] h = absurd h
last_after l (x ∷ []) (y ∷ u) h = h
last_after l (x ∷ y ∷ a) u h = last_after l (y ∷ a) u h

cuts_after : (kind : WordKind) (a u v : List MarkedLetter) → CutsAs kind u v → CutsAs kind (a ++ u) v
cuts_after WholeWord a u v c = c
cuts_after WordPrefix a u v c = tt
cuts_after (LabelledPrefix l) a u v c = last_after l a u c

pub fits_after_word : (p : Pattern) (kind : WordKind) (h k : List ProbeEvent) → FitsWordKind p WholeWord h → FitsWordKind p kind k → FitsWordKind p kind (h ++ k)
fits_after_word p kind h k (w, (a, b, (n, r), m, c), f) (x, (u, v, (i, s), q, d), g) =
    let front : IsProbeWord (Star p) (a ++ []) = subst (λ (z : List MarkedLetter). IsProbeWord (Star p) (a ++ z)) c (n, r) in
    let (t, e, row) = join_rows (λ z. IsProbeWord p z) front.0 i (a ++ []) (u ++ v) front.1 s in
    let flat : (a ++ []) ++ (u ++ v) ≡ (a ++ u) ++ v = append_assoc a [] (u ++ v) ∙ sym (append_assoc a u v) in (
      w ++ x,
      (a ++ u, v, subst (λ (z : List MarkedLetter). IsProbeWord (Star p) z) flat (t, row), map-append (λ z. z.mark) a u ∙ ap (λ (z : List GuardedLetter). z ++ without_labels u) m ∙ ap (λ (z : List GuardedLetter). w ++ z) q, cuts_after kind a u v d),
      fits_both h k w x f g,
    )

pub anew : (p : Pattern) (kind : WordKind) (h g : List ProbeEvent) (e : ProbeEvent) → FitsWordKind p WholeWord h → FitsWordKind p kind (g ++ e ∷ []) → FitsWordKind p kind ((h ++ g) ++ e ∷ [])
anew p kind h g e a b = subst (λ (z : List ProbeEvent). FitsWordKind p kind z) (sym (append_assoc h g (e ∷ []))) (fits_after_word p kind h (g ++ e ∷ []) a b)
