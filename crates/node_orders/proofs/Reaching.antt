-- What edges reach, and the search for it.
use Rattle.std.proofs.Common.{◌≡◌, ℕ, zero, suc, ◌+◌, ◌<◌, ◌≤◌, inl, inr, Bool, true, false, List, [], ◌∷◌, ◌++◌, length, get_or, replicate, refl, sym, ◌∙◌, ap, subst, arith, length-append}
use Rattle.std.specs.List.{Contains}
use Rattle.std.proofs.lemmas.Bool.{false≢true, cases_lt}
use Rattle.std.proofs.lemmas.List.{get_or_default, get_or_append_left, length-replicate, get_or-replicate}
use Rattle.std.proofs.lemmas.Option.{slice_get_within, get_or_from_slice_get, slice_get-get_or}
use Rattle.std.proofs.lemmas.List.Elements.{Contains-get_or, Contains-push_cases}
use Rattle.node_orders.specs.Cycles.{ReachesIn}
use Rattle.node_orders.specs.Graphs.{EdgeOf, AreBelow, HasEdgesBelow, SaysYes, IsReached, IsTableOf}
use Rattle.node_orders.specs.Marking.{IsMarking, IsQueueOf}

-- ---- one edge more, in front or behind

pub leads_more : (Edge : ℕ → ℕ → Type 0) (n c d e : ℕ) → ReachesIn Edge n c d → Edge d e → ReachesIn Edge (suc n) c e
leads_more Edge zero c d e same edge = (e, subst (λ x. Edge x e) (sym same) edge, refl)
leads_more Edge (suc n) c d e way edge = (way.0, way.1, leads_more Edge n way.0 d e way.2 edge)

-- what edges don't leave has all that edges reach from it
pub leads_within : (Edge : ℕ → ℕ → Type 0) (Holds : ℕ → Type 0) → ((c d : ℕ) → Holds c → Edge c d → Holds d) → (n c d : ℕ) → ReachesIn Edge n c d → Holds c → Holds d
leads_within Edge Holds closed zero c d same holds = subst Holds same holds
leads_within Edge Holds closed (suc n) c d way holds = leads_within Edge Holds closed n way.0 d way.2 (closed c way.0 holds way.1)

-- ---- edges in lists

pub edge_at : (edges : List (List ℕ)) (c d : ℕ) (e : List ℕ) → c < length edges → Contains (get_or edges c e) d → EdgeOf edges c d
edge_at edges c d e within among = (get_or edges c e, slice_get-get_or edges c e within, among)

pub edge_among : (edges : List (List ℕ)) (c d : ℕ) (e : List ℕ) → EdgeOf edges c d → Contains (get_or edges c e) d
edge_among edges c d e edge = subst (λ ts. Contains ts d) (sym (get_or_from_slice_get edges c edge.0 e edge.1)) edge.2

pub edge_within : (edges : List (List ℕ)) (c d : ℕ) → EdgeOf edges c d → c < length edges
edge_within edges c d edge = slice_get_within edges c edge.0 edge.1

pub list_below : (n : ℕ) (edges : List (List ℕ)) (c : ℕ) (e : List ℕ) → HasEdgesBelow n edges → c < length edges → AreBelow n (get_or edges c e)
list_below n edges c e below within = λ d among. below c d (edge_at edges c d e within among)

-- ---- the search

pub record IsSearching (edges : List (List ℕ)) (from : List ℕ) (seen : List Bool) (queue : List ℕ) (done : ℕ) : Type 0 where
  pub sizes : length seen ≡ length edges
  pub queue_of : IsQueueOf seen queue
  pub starts : (d : ℕ) → Contains from d → SaysYes seen d
  pub sound : (d : ℕ) → SaysYes seen d → IsReached edges from d
  pub within : done ≤ length queue
  pub closed : (k : ℕ) → k < done → (d : ℕ) → EdgeOf edges (get_or queue k 0) d → SaysYes seen d

none_marked : (n d : ℕ) → SaysYes (replicate n false) d → ⊥
none_marked n d hit =
    let within = slice_get_within (replicate n false) d true hit in
    false≢true (sym (get_or-replicate n d false false (omega (arith, length-replicate n false))) ∙ get_or_from_slice_get (replicate n false) d true false hit)

none_queued : (n : ℕ) → IsQueueOf (replicate n false) []
none_queued n = record { marked = λ d among. absurd (omega (arith, among.1)); queued = λ d hit. absurd (none_marked n d hit) }

pub search_begins : (edges : List (List ℕ)) (from : List ℕ) (seen : List Bool) (queue : List ℕ) → IsMarking from (replicate (length edges) false) [] seen queue → IsSearching edges from seen queue 0
search_begins edges from seen queue step = record {
  sizes = step.same_length ∙ length-replicate (length edges) false;
  queue_of = step.queue_of (none_queued (length edges));
  starts = step.each;
  sound = λ d hit. elim (step.only d hit) [
    | inl before ↦ absurd (none_marked (length edges) d before)
    | inr among ↦ (d, among, (0, refl))
  ];
  within = omega arith;
  closed = λ k low. absurd (omega (arith, low));
}

pub search_goes : (edges : List (List ℕ)) (from : List ℕ) (seen : List Bool) (queue : List ℕ) (done : ℕ) (e : List ℕ) (seen2 : List Bool) (queue2 : List ℕ) → HasEdgesBelow (length edges) edges → IsSearching edges from seen queue done → done < length queue → get_or queue done 0 < length edges → IsMarking (get_or edges (get_or queue done 0) e) seen queue seen2 queue2 → IsSearching edges from seen2 queue2 (done + 1)
search_goes edges from seen queue done e seen2 queue2 below so_far low within step =
    let c = get_or queue done 0 in
    let longer : length queue ≤ length queue2 = omega (arith, ap length step.behind, length-append queue step.more) in
    let same : (k : ℕ) → k < length queue → get_or queue2 k 0 ≡ get_or queue k 0 = λ k h. ap (λ q. get_or q k 0) step.behind ∙ get_or_append_left queue step.more 0 k h in
    record {
      sizes = step.same_length ∙ so_far.sizes;
      queue_of = step.queue_of so_far.queue_of;
      starts = λ d among. step.kept d (so_far.starts d among);
      sound = λ d hit. elim (step.only d hit) [
        | inl before ↦ so_far.sound d before
        | inr among ↦
            let way = so_far.sound c (so_far.queue_of.marked c (Contains-get_or queue done 0 low)) in
            (way.0, way.1, (suc (way.2).0, leads_more (EdgeOf edges) (way.2).0 way.0 c d (way.2).1 (edge_at edges c d e within among)))
      ];
      within = omega arith;
      closed = λ k h d edge. elim (cases_lt k done) [
        | inl before ↦ step.kept d (so_far.closed k before d (subst (λ x. EdgeOf edges x d) (same k (omega arith)) edge))
        | inr after ↦
            let is : k ≡ done = omega arith in
            step.each d (edge_among edges c d e (subst (λ x. EdgeOf edges x d) (same k (omega arith) ∙ ap (λ i. get_or queue i 0) is) edge))
      ];
    }

pub queued_below : (edges : List (List ℕ)) (from : List ℕ) (seen : List Bool) (queue : List ℕ) (done : ℕ) → IsSearching edges from seen queue done → done < length queue → get_or queue done 0 < length edges
queued_below edges from seen queue done so_far low =
    omega (arith, so_far.sizes, slice_get_within seen (get_or queue done 0) true (so_far.queue_of.marked (get_or queue done 0) (Contains-get_or queue done 0 low)))

-- the same, by what the program read
pub search_goes_at : (edges : List (List ℕ)) (from : List ℕ) (seen : List Bool) (queue : List ℕ) (done next : ℕ) (e targets : List ℕ) (seen2 : List Bool) (queue2 : List ℕ) → HasEdgesBelow (length edges) edges → IsSearching edges from seen queue done → done < length queue → next ≡ get_or queue done 0 → targets ≡ get_or edges next e → IsMarking targets seen queue seen2 queue2 → IsSearching edges from seen2 queue2 (done + 1)
search_goes_at edges from seen queue done next e targets seen2 queue2 below so_far low is read step =
    search_goes edges from seen queue done e seen2 queue2 below so_far low (queued_below edges from seen queue done so_far low)
    (subst (λ ts. IsMarking ts seen queue seen2 queue2) (read ∙ ap (λ c. get_or edges c e) is) step)

pub next_below : (edges : List (List ℕ)) (from : List ℕ) (seen : List Bool) (queue : List ℕ) (done next : ℕ) → IsSearching edges from seen queue done → done < length queue → next ≡ get_or queue done 0 → next < length edges
next_below edges from seen queue done next so_far low is = omega (arith, queued_below edges from seen queue done so_far low)

pub read_below : (n : ℕ) (edges : List (List ℕ)) (c : ℕ) (e targets : List ℕ) → HasEdgesBelow n edges → c < length edges → targets ≡ get_or edges c e → AreBelow n targets
read_below n edges c e targets below within read = subst (λ ts. AreBelow n ts) (sym read) (list_below n edges c e below within)

pub search_ends : (edges : List (List ℕ)) (from : List ℕ) (seen : List Bool) (queue : List ℕ) (done : ℕ) → IsSearching edges from seen queue done → length queue ≤ done → IsTableOf (IsReached edges from) seen
search_ends edges from seen queue done so_far all = record {
  sound = so_far.sound;
  complete = λ d way. leads_within (EdgeOf edges) (SaysYes seen)
      (λ c e hit edge.
      let at = so_far.queue_of.queued c hit in
      so_far.closed at.0 (omega (arith, at.1)) e (subst (λ x. EdgeOf edges x e) (sym (get_or_default queue at.0 0 c at.1 ∙ at.2)) edge))
      (way.2).0 way.0 d (way.2).1 (so_far.starts way.0 way.1);
}

-- ---- what the program's parts keep

pub none_below : (n : ℕ) → AreBelow n []
none_below n = λ d among. absurd (omega (arith, among.1))

pub pushed_below : (n : ℕ) (queue : List ℕ) (t : ℕ) → AreBelow n queue → t < n → AreBelow n (queue ++ t ∷ [])
pushed_below n queue t below low = λ d among. elim (Contains-push_cases queue t d among) [
  | inl before ↦ below d before
  | inr same ↦ subst (λ x. x < n) same low
]
