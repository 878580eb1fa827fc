-- Marked numbers in a table, and their queue, as one target after another is marked.
use Rattle.std.proofs.Common.{◌≡◌, ℕ, ◌+◌, ◌<◌, ◌≤◌, ◌⊎◌, inl, inr, Bool, true, false, not, cond, List, [], ◌∷◌, ◌++◌, length, get_or, set, take, Some, refl, sym, ◌∙◌, ap, subst, arith, count_by, append-nil, append_assoc, length-append, length-set, get_or-set_same, get_or-set_other}
use Rattle.std.specs.List.{Contains}
use Rattle.std.proofs.lemmas.Bool.{cases_eq}
use Rattle.std.proofs.lemmas.List.{take_all, take_more}
use Rattle.std.proofs.lemmas.Option.{slice_get_within, get_or_from_slice_get, slice_get-get_or}
use Rattle.std.proofs.lemmas.List.Elements.{Contains-append_left, Contains-get_or, Contains-push, Contains-push_cases}
use Rattle.std.proofs.lemmas.List.Sums.{sum_by-set}
use Rattle.node_orders.specs.Graphs.{SaysYes, AreBelow}
use Rattle.node_orders.specs.Marking.{IsMarking, IsQueueOf}

-- ---- one entry of a table

pub marked_at : (table : List Bool) (d : ℕ) → d < length table → get_or table d false ≡ true → SaysYes table d
marked_at table d within hit = slice_get-get_or table d false within ∙ ap Some hit

pub marked_set : (table : List Bool) (t : ℕ) → t < length table → SaysYes (set table t true) t
marked_set table t within =
    marked_at (set table t true) t (omega (arith, length-set {A = Bool})) (get_or-set_same table t true false within)

pub marked_kept : (table : List Bool) (t d : ℕ) → SaysYes table d → SaysYes (set table t true) d
marked_kept table t d hit =
    let within = slice_get_within table d true hit in
    elim (cases_eq d t) [
      | inl same ↦ subst (λ n. SaysYes (set table t true) n) (sym same) (marked_set table t (subst (λ n. n < length table) same within))
      | inr other ↦ marked_at (set table t true) d (omega (arith, length-set {A = Bool})) (get_or-set_other table t d true false other ∙ get_or_from_slice_get table d true false hit)
    ]

pub marked_before : (table : List Bool) (t d : ℕ) → SaysYes (set table t true) d → SaysYes table d ⊎ (t ≡ d)
marked_before table t d hit =
    let within = slice_get_within (set table t true) d true hit in
    elim (cases_eq d t) [
      | inl same ↦ inr (sym same)
      | inr other ↦ inl (marked_at table d (omega (arith, length-set {A = Bool})) (sym (get_or-set_other table t d true false other) ∙ get_or_from_slice_get (set table t true) d true false hit))
    ]

-- ---- one target after another

pub marking_none : (seen : List Bool) (queue : List ℕ) → IsMarking [] seen queue seen queue
marking_none seen queue = record {
  same_length = refl;
  kept = λ d hit. hit;
  each = λ d among. absurd (omega (arith, among.1));
  only = λ d hit. inl hit;
  more = [];
  behind = sym (append-nil queue);
  queue_of = λ given. given;
  total = refl;
}

pub marking_seen : (targets : List ℕ) (t : ℕ) (seen : List Bool) (queue : List ℕ) (seen2 : List Bool) (queue2 : List ℕ) → IsMarking targets seen queue seen2 queue2 → SaysYes seen2 t → IsMarking (targets ++ t ∷ []) seen queue seen2 queue2
marking_seen targets t seen queue seen2 queue2 so_far hit = record {
  same_length = so_far.same_length;
  kept = so_far.kept;
  each = λ d among. elim (Contains-push_cases targets t d among) [
    | inl before ↦ so_far.each d before
    | inr same ↦ subst (λ n. SaysYes seen2 n) same hit
  ];
  only = λ d marked. elim (so_far.only d marked) [
    | inl before ↦ inl before
    | inr among ↦ inr (Contains-append_left targets (t ∷ []) d among)
  ];
  more = so_far.more;
  behind = so_far.behind;
  queue_of = so_far.queue_of;
  total = so_far.total;
}

queue_more : (t : ℕ) (seen : List Bool) (queue : List ℕ) → t < length seen → IsQueueOf seen queue → IsQueueOf (set seen t true) (queue ++ t ∷ [])
queue_more t seen queue within given = record {
  marked = λ d among. elim (Contains-push_cases queue t d among) [
    | inl before ↦ marked_kept seen t d (given.marked d before)
    | inr same ↦ subst (λ n. SaysYes (set seen t true) n) same (marked_set seen t within)
  ];
  queued = λ d hit. elim (marked_before seen t d hit) [
    | inl before ↦ Contains-append_left queue (t ∷ []) d (given.queued d before)
    | inr same ↦ subst (λ n. Contains (queue ++ t ∷ []) n) same (Contains-push queue t)
  ];
}

one_fewer : (seen : List Bool) (t : ℕ) → t < length seen → get_or seen t false ≡ false → count_by not (set seen t true) + 1 ≡ count_by not seen
one_fewer seen t within miss =
    let step = sum_by-set (λ b. cond (not b) 1 0) seen t true false within in
    let was : ◌≡◌ {A = ℕ} (cond (not (get_or seen t false)) 1 0) 1 = ap (λ b. cond (not b) 1 0) miss in
    omega (arith, step, was)

pub marking_new : (targets : List ℕ) (t : ℕ) (seen : List Bool) (queue : List ℕ) (seen2 : List Bool) (queue2 : List ℕ) → IsMarking targets seen queue seen2 queue2 → t < length seen2 → get_or seen2 t false ≡ false → IsMarking (targets ++ t ∷ []) seen queue (set seen2 t true) (queue2 ++ t ∷ [])
marking_new targets t seen queue seen2 queue2 so_far within miss = record {
  same_length = length-set seen2 t true ∙ so_far.same_length;
  kept = λ d hit. marked_kept seen2 t d (so_far.kept d hit);
  each = λ d among. elim (Contains-push_cases targets t d among) [
    | inl before ↦ marked_kept seen2 t d (so_far.each d before)
    | inr same ↦ subst (λ n. SaysYes (set seen2 t true) n) same (marked_set seen2 t within)
  ];
  only = λ d marked. elim (marked_before seen2 t d marked) [
    | inl before ↦ elim (so_far.only d before) [
      | inl first ↦ inl first
      | inr among ↦ inr (Contains-append_left targets (t ∷ []) d among)
    ]
    | inr same ↦ inr (subst (λ n. Contains (targets ++ t ∷ []) n) same (Contains-push targets t))
  ];
  more = so_far.more ++ t ∷ [];
  behind = ap (λ q. q ++ t ∷ []) so_far.behind ∙ append_assoc queue so_far.more (t ∷ []);
  queue_of = λ given. queue_more t seen2 queue2 within (so_far.queue_of given);
  total = omega (arith, length-append queue2 (t ∷ []), one_fewer seen2 t within miss, so_far.total);
}

-- ---- along a list

pub below_at : (n : ℕ) (targets : List ℕ) (i : ℕ) → AreBelow n targets → i < length targets → get_or targets i 0 < n
below_at n targets i below within = below (get_or targets i 0) (Contains-get_or targets i 0 within)

pub marking_seen_at : (targets : List ℕ) (i : ℕ) (seen : List Bool) (queue : List ℕ) (seen2 : List Bool) (queue2 : List ℕ) → i < length targets → AreBelow (length seen) targets → IsMarking (take i targets) seen queue seen2 queue2 → get_or seen2 (get_or targets i 0) false ≡ true → IsMarking (take (i + 1) targets) seen queue seen2 queue2
marking_seen_at targets i seen queue seen2 queue2 within below so_far hit =
    let t = get_or targets i 0 in
    let low : t < length seen2 = omega (arith, below_at (length seen) targets i below within, so_far.same_length) in
    subst (λ ts. IsMarking ts seen queue seen2 queue2) (sym (take_more targets i 0 within))
    (marking_seen (take i targets) t seen queue seen2 queue2 so_far (marked_at seen2 t low hit))

pub marking_new_at : (targets : List ℕ) (i : ℕ) (seen : List Bool) (queue : List ℕ) (seen2 : List Bool) (queue2 : List ℕ) → i < length targets → AreBelow (length seen) targets → IsMarking (take i targets) seen queue seen2 queue2 → get_or seen2 (get_or targets i 0) false ≡ false → IsMarking (take (i + 1) targets) seen queue (set seen2 (get_or targets i 0) true) (queue2 ++ get_or targets i 0 ∷ [])
marking_new_at targets i seen queue seen2 queue2 within below so_far miss =
    let t = get_or targets i 0 in
    let low : t < length seen2 = omega (arith, below_at (length seen) targets i below within, so_far.same_length) in
    subst (λ ts. IsMarking ts seen queue (set seen2 t true) (queue2 ++ t ∷ [])) (sym (take_more targets i 0 within))
    (marking_new (take i targets) t seen queue seen2 queue2 so_far low miss)

pub marking_whole : (targets : List ℕ) (i : ℕ) (seen : List Bool) (queue : List ℕ) (seen2 : List Bool) (queue2 : List ℕ) → length targets ≤ i → IsMarking (take i targets) seen queue seen2 queue2 → IsMarking targets seen queue seen2 queue2
marking_whole targets i seen queue seen2 queue2 all so_far = subst (λ ts. IsMarking ts seen queue seen2 queue2) (take_all i targets all) so_far
