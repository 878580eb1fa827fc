-- A replication under way, one more jump, and how it ends.
use Rattle.std.proofs.Common.{◌≡◌, ℕ, zero, suc, ◌+◌, ◌<◌, ◌≤◌, ◌⊎◌, inl, inr, List, [], ◌∷◌, ◌++◌, length, take, refl, ap, sym, ◌∙◌, subst, arith, All, fold, Ok, Err, length-append}
use Rattle.std.proofs.lemmas.Bool.{cases_lt}
use Rattle.std.proofs.lemmas.List.Sums.{fold-append}
use Rattle.std.proofs.lemmas.List.{take-append-le}
use Rattle.std.proofs.lemmas.List.Elements.{All-push, All-weaker, All-nil}
use Rattle.std.proofs.Math.Seq.{take-append_seam}
use Rattle.pepa_model.specs.PepaModel.{PepaModel}
use Rattle.pepa_steps.specs.States.{State}
use Rattle.probe_attach.specs.FirstStates.{IsFirstState}
use Rattle.sim_space.specs.LoadedLists.{IsChoiceList}
use Rattle.sim_space.specs.declared.space.Halt.{Halt}
use Rattle.sim_space.specs.declared.space.Halt.TheVariants.{Memory, Full, Stop}
use Rattle.sim_replication.specs.declared.order.Order.{Order}
use Rattle.sim_replication.specs.declared.ran.Ran.{Ran}
use Rattle.sim_replication.specs.declared.ran.Ending.{Ending}
use Rattle.sim_replication.specs.declared.ran.Ending.TheVariants.{Deadlock}
use Rattle.sim_replication.specs.declared.passages.Passages.{Passages}
use Rattle.sim_replication.specs.Signals.{TakenJump, passages_of, no_passages, after_signals}
use Rattle.sim_replication.specs.Jumps.{Point, JumpsTo, StopsBy, HaltsBy}
use Rattle.sim_replication.specs.Runs.{Walk, AsksForMore, BeginsRun, EndsBy, IsRun, HasVisited, AnswersRun}

-- what is kept from jump to jump: the jumps so far lead to this point; the space's state denotes the state there; what was seen and
-- kept; the passages
pub record IsUnderWay (m : PepaModel) (order : Order) (at : ℕ → ℕ) (Stands Seen Kept : State → Type 0) (passages : Passages) (time place jumps : ℕ)
    : Type 0 where
  pub taken : List TakenJump
  pub state : State
  pub begins : BeginsRun m order at taken (record { state = state; time = time; place = place })
  pub stands : Stands state
  pub seen : Seen state
  pub left : All (λ j. Seen j.from × Kept j.from) taken
  pub passages_are : passages ≡ passages_of taken
  pub jumps_are : length taken ≡ jumps

walk_more : (m : PepaModel) (at : ℕ → ℕ) (p : Point) (ts : List TakenJump) (q r : Point) (t : TakenJump)
    → Walk m at p ts q → JumpsTo m at q t r → Walk m at p (ts ++ t ∷ []) r
walk_more m at p [] q r t w j = let P : Point → Type 0 = λ x. JumpsTo m at x t r in (r, subst P (sym w) j, refl)
walk_more m at p (x ∷ ts) q r t w j = (w.0, w.1, walk_more m at w.0 ts q r t w.2 j)

passages-more : (ts : List TakenJump) (t : TakenJump) → passages_of (ts ++ t ∷ []) ≡ after_signals (passages_of ts) t.signals t.time
unfolding passages_of
passages-more ts t = fold-append (λ (p : Passages) (j : TakenJump). after_signals p j.signals j.time) no_passages ts (t ∷ [])

asks_more : (order : Order) (ts : List TakenJump) (t : TakenJump) → ((k : ℕ) → k < length ts → AsksForMore order (take k ts)) → AsksForMore order ts
    → (k : ℕ) → k < length (ts ++ t ∷ []) → AsksForMore order (take k (ts ++ t ∷ []))
asks_more order ts t before now k h =
    let P : List TakenJump → Type 0 = AsksForMore order in
    elim (cases_lt k (length ts)) [
      | inl less ↦ let le : k ≤ length ts = omega arith in subst P (sym (take-append-le k ts (t ∷ []) le)) (before k less)
      | inr more ↦
          let long = length-append ts (t ∷ []) in
          let same : length ts ≡ k = omega arith in
          subst P (sym (take-append_seam ts (t ∷ [])) ∙ ap (λ (n : ℕ). take n (ts ++ t ∷ [])) same) now
    ]

-- one more jump of a run
pub begins_more : (m : PepaModel) (order : Order) (at : ℕ → ℕ) (ts : List TakenJump) (q r : Point) (t : TakenJump)
    → BeginsRun m order at ts q → AsksForMore order ts → JumpsTo m at q t r → BeginsRun m order at (ts ++ t ∷ []) r
begins_more m order at ts q r t b more jump = record {
  start = b.start;
  is_first = b.is_first;
  walk = walk_more m at _ ts q r t b.walk jump;
  asks = asks_more order ts t b.asks more;
}

-- it begins
pub under_way : (m : PepaModel) (order : Order) (at : ℕ → ℕ) (Stands Seen Kept : State → Type 0) (state : State) (place : ℕ)
    → place ≡ 0 → IsFirstState m state → Stands state → Seen state → IsUnderWay m order at Stands Seen Kept no_passages 0 place 0
unfolding passages_of
under_way m order at Stands Seen Kept state place zero_place first stands seen = record {
  taken = [];
  state = state;
  begins = record {
    start = state;
    is_first = first;
    walk =
        let P : ℕ → Type 0 = λ n. (let p : Point = record { state = state; time = 0; place = 0 } in let q : Point = record { state = state; time = 0; place = n } in p ≡ q) in
        subst P (sym zero_place) refl;
    asks = λ k h. absurd (omega arith);
  };
  stands = stands;
  seen = seen;
  left = All-nil _;
  passages_are = refl;
  jumps_are = refl;
}

left_more : (Seen Kept Seen' Kept' : State → Type 0) (ts : List TakenJump) → ((q : State) → Seen q → Seen' q) → ((q : State) → Kept q → Kept' q)
    → All (λ j. Seen j.from × Kept j.from) ts → All (λ j. Seen' j.from × Kept' j.from) ts
left_more Seen Kept Seen' Kept' ts see keep left =
    All-weaker (λ (j : TakenJump). Seen j.from × Kept j.from) (λ (j : TakenJump). Seen' j.from × Kept' j.from) (λ j h. (see j.from h.0, keep j.from h.1)) ts left

module _ (m : PepaModel) (order : Order) (at : ℕ → ℕ) (Stands Seen Kept : State → Type 0) (passages : Passages) (time place jumps : ℕ)
    (u : IsUnderWay m order at Stands Seen Kept passages time place jumps) where
  few_still : length passages.ended < order.passages → length (passages_of u.taken).ended < order.passages
  few_still few = let P : Passages → Type 0 = λ p. length p.ended < order.passages in subst P u.passages_are few

  asks_still : length passages.ended < order.passages → jumps < order.jumps → AsksForMore order u.taken
  asks_still few less = (few_still few, omega (arith, u.jumps_are, less))

  -- one more jump, after which the space may have seen and kept more
  pub under_way_more : (Stands' Seen' Kept' : State → Type 0) (passages' : Passages) (time' place' : ℕ) (target : State) (signals : ℕ)
      → length passages.ended < order.passages → jumps < order.jumps
      → JumpsTo m at (record { state = u.state; time = time; place = place }) (record { from = u.state; signals = signals; time = time' })
      (record { state = target; time = time'; place = place' })
      → Stands' target → Seen' target → Kept' u.state
      → ((q : State) → Seen q → Seen' q) → ((q : State) → Kept q → Kept' q)
      → passages' ≡ after_signals passages signals time'
      → IsUnderWay m order at Stands' Seen' Kept' passages' time' place' (jumps + 1)
  under_way_more Stands' Seen' Kept' passages' time' place' target signals few less jump stands seen kept see keep heard =
      let one : TakenJump = record { from = u.state; signals = signals; time = time' } in
      let long = length-append u.taken (one ∷ []) in
      record {
        taken = u.taken ++ one ∷ [];
        state = target;
        begins = begins_more m order at u.taken _ _ one u.begins (asks_still few less) jump;
        stands = stands;
        seen = seen;
        left = All-push (λ (j : TakenJump). Seen' j.from × Kept' j.from) u.taken one (left_more Seen Kept Seen' Kept' u.taken see keep u.left) (see u.state u.seen, kept);
        passages_are = heard ∙ ap (λ (p : Passages). after_signals p signals time') u.passages_are ∙ sym (passages-more u.taken one);
        jumps_are = omega (arith, long, u.jumps_are);
      }

  -- no jump was made
  pub run_halted : (Seen' Kept' : State → Type 0) → length passages.ended < order.passages → jumps < order.jumps
      → ((q : State) → Seen q → Seen' q) → ((q : State) → Kept q → Kept' q) → (e : Halt)
      → HaltsBy (StopsBy m at (record { state = u.state; time = time; place = place })) e
      → AnswersRun m order at (HasVisited Seen' Kept') (Err e)
  run_halted Seen' Kept' few less see keep Memory h = tt
  run_halted Seen' Kept' few less see keep Full h = tt
  run_halted Seen' Kept' few less see keep (Stop s) h =
      (u.taken, (_, record { begins = u.begins; asks = asks_still few less; stops = h }, (left_more Seen Kept Seen' Kept' u.taken see keep u.left, see u.state u.seen)))

  -- it ends here
  pub run_ended : (Seen' Kept' : State → Type 0) (ending : Ending)
      → EndsBy m order u.taken (record { state = u.state; time = time; place = place }) ending
      → ((q : State) → Seen q → Seen' q) → ((q : State) → Kept q → Kept' q)
      → (ran : Ran) → ran ≡ record { passages = passages.ended; ending = ending }
      → AnswersRun m order at (HasVisited Seen' Kept') (Ok ran)
  run_ended Seen' Kept' ending ends see keep ran e =
      let Q : Ran → Type 0 = λ r. AnswersRun m order at (HasVisited Seen' Kept') (Ok r) in
      let here : Q (record { passages = passages.ended; ending = ending })
      = (
        u.taken,
        (
          _,
          record { begins = u.begins; ends = ends; passages = ap (λ (p : Passages). p.ended) u.passages_are },
          (left_more Seen Kept Seen' Kept' u.taken see keep u.left, see u.state u.seen),
        ),
      ) in
      subst Q (sym e) here

  -- there is no transition
  pub run_dead : (Seen' Kept' : State → Type 0) → length passages.ended < order.passages → jumps < order.jumps
      → ((q : State) → Seen q → Seen' q) → ((q : State) → Kept q → Kept' q) → IsChoiceList m u.state []
      → (ran : Ran) → ran ≡ record { passages = passages.ended; ending = Deadlock }
      → AnswersRun m order at (HasVisited Seen' Kept') (Ok ran)
  run_dead Seen' Kept' few less see keep dead ran e = run_ended Seen' Kept' Deadlock (asks_still few less, dead) see keep ran e

-- what was said of the model and the numbers as they are now
pub said_before : (m n : PepaModel) (at now : ℕ → ℕ) → n ≡ m → now ≡ at → (P : PepaModel → (ℕ → ℕ) → Type 0) → P n now → P m at
said_before m n at now e f P h = subst (P m) f (let Q : PepaModel → Type 0 = λ x. P x now in subst Q e h)
