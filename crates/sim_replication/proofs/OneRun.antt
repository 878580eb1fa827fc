-- There is at most one replication.
use Rattle.std.proofs.Common.{◌≡◌, ℕ, zero, suc, ◌+◌, ◌*◌, ◌^◌, ◌<◌, ◌≤◌, ◌⊎◌, inl, inr, List, [], ◌∷◌, ◌++◌, length, take, refl, ap, sym, ◌∙◌, subst, arith, append_assoc, length-append}
use Rattle.std.proofs.lemmas.List.{append-nil}
use Rattle.std.proofs.Math.Seq.{take-append_seam}
use Rattle.pepa_model.specs.PepaModel.{PepaModel}
use Rattle.pepa_steps.specs.States.{State}
use Rattle.sim_space.specs.LoadedLists.{IsChoiceList}
use Rattle.sim_space.specs.declared.stop.Stop.{Stop}
use Rattle.sim_replication.specs.declared.order.Order.{Order}
use Rattle.sim_replication.specs.declared.ran.Ran.{Ran}
use Rattle.sim_replication.specs.declared.ran.Ending.{Ending}
use Rattle.sim_replication.specs.declared.ran.Ending.TheVariants.{Done, Deadlock, JumpLimit}
use Rattle.sim_replication.specs.Signals.{TakenJump, passages_of}
use Rattle.sim_replication.specs.Jumps.{Point, JumpsTo, StopsBy}
use Rattle.sim_replication.specs.Runs.{Walk, AsksForMore, begin_at, BeginsRun, EndsBy, IsRun, IsStoppedRun}
use Rattle.sim_replication.proofs.FirstOnes.{one_first}
use Rattle.sim_replication.proofs.OneJump.{one_jump, one_stop, stop_or_dead, stop_or_jump, dead_or_jump}

-- the replication is over at this point: it ends, or it stops where the order asks for more
pub data IsOver (m : PepaModel) (order : Order) (at : ℕ → ℕ) (taken : List TakenJump) (last : Point) : Type 0 where
  ByEnd : (e : Ending) → EndsBy m order taken last e → IsOver m order at taken last
  ByStop : (s : Stop) → AsksForMore order taken → StopsBy m at last s → IsOver m order at taken last

module _ (m : PepaModel) (order : Order) (at : ℕ → ℕ) where
  end_or_jump : (taken : List TakenJump) (p : Point) (e : Ending) (t : TakenJump) (q : Point)
      → EndsBy m order taken p e → AsksForMore order taken → JumpsTo m at p t q → ⊥
  end_or_jump taken p Done t q h g j = omega (arith, h, g.0)
  end_or_jump taken p JumpLimit t q h g j = omega (arith, h.1, g.1)
  end_or_jump taken p Deadlock t q h g j = dead_or_jump m at p t q h.1 j

  over_or_jump : (taken : List TakenJump) (p : Point) (t : TakenJump) (q : Point)
      → IsOver m order at taken p → AsksForMore order taken → JumpsTo m at p t q → ⊥
  over_or_jump taken p t q (ByEnd e h) g j = end_or_jump taken p e t q h g j
  over_or_jump taken p t q (ByStop s a h) g j = stop_or_jump m at p s t q h j

  -- a point has one end
  one_end : (taken : List TakenJump) (p : Point) (e f : Ending) → EndsBy m order taken p e → EndsBy m order taken p f → e ≡ f
  one_end taken p Done Done h k = refl
  one_end taken p Done JumpLimit h k = absurd (omega (arith, h, k.0))
  one_end taken p Done Deadlock h k = absurd (omega (arith, h, k.0.0))
  one_end taken p JumpLimit Done h k = absurd (omega (arith, h.0, k))
  one_end taken p JumpLimit JumpLimit h k = refl
  one_end taken p JumpLimit Deadlock h k = absurd (omega (arith, h.1, k.0.1))
  one_end taken p Deadlock Done h k = absurd (omega (arith, h.0.0, k))
  one_end taken p Deadlock JumpLimit h k = absurd (omega (arith, h.0.1, k.1))
  one_end taken p Deadlock Deadlock h k = refl

  end_or_stop : (taken : List TakenJump) (p : Point) (e : Ending) (s : Stop) → EndsBy m order taken p e → AsksForMore order taken → StopsBy m at p s → ⊥
  end_or_stop taken p Done s h g k = omega (arith, h, g.0)
  end_or_stop taken p JumpLimit s h g k = omega (arith, h.1, g.1)
  end_or_stop taken p Deadlock s h g k = stop_or_dead m at p s k h.1

abbrev pub AllAsk : Order → List TakenJump → Type 0
AllAsk order taken = (k : ℕ) → k < length taken → AsksForMore order (take k taken)

-- one walk is over where the other goes on
stuck : (m : PepaModel) (order : Order) (at : ℕ → ℕ) (done : List TakenJump) (p q r : Point) (y : TakenJump) (ys : List TakenJump)
    → p ≡ q → IsOver m order at (done ++ []) q → JumpsTo m at p y r → AllAsk order (done ++ y ∷ ys) → ⊥
stuck m order at done p q r y ys e o j g =
    let P : List TakenJump → Type 0 = λ l. IsOver m order at l q in
    let Q : Point → Type 0 = λ x. JumpsTo m at x y r in
    let G : List TakenJump → Type 0 = λ l. AsksForMore order l in
    let long = length-append done (y ∷ ys) in
    over_or_jump m order at done q y r (subst P (append-nil done) o) (subst G (take-append_seam done (y ∷ ys)) (g (length done) (omega arith))) (subst Q e j)

walk_one : (m : PepaModel) (order : Order) (at : ℕ → ℕ) (done : List TakenJump) (p : Point) (xs ys : List TakenJump) (q r : Point)
    → Walk m at p xs q → Walk m at p ys r → AllAsk order (done ++ xs) → AllAsk order (done ++ ys)
    → IsOver m order at (done ++ xs) q → IsOver m order at (done ++ ys) r → (xs ≡ ys) × (q ≡ r)
walk_one m order at done p [] [] q r v w g h a b = (refl, sym v ∙ w)
walk_one m order at done p [] (y ∷ ys) q r v w g h a b = absurd (stuck m order at done p q w.0 y ys v a w.1 h)
walk_one m order at done p (x ∷ xs) [] q r v w g h a b = absurd (stuck m order at done p r v.0 x xs w b v.1 g)
walk_one m order at done p (x ∷ xs) (y ∷ ys) q r v w g h a b =
    let j = one_jump m at p x y v.0 w.0 v.1 w.1 in
    let W : Point → Type 0 = λ s. Walk m at s ys r in
    let G : List TakenJump → Type 0 = AllAsk order in
    let A : List TakenJump → Type 0 = λ l. IsOver m order at l q in
    let B : List TakenJump → Type 0 = λ l. IsOver m order at l r in
    let one = sym (append_assoc done (x ∷ []) xs) in
    let two : done ++ y ∷ ys ≡ (done ++ x ∷ []) ++ ys = ap (λ (t : TakenJump). done ++ t ∷ ys) (sym j.0) ∙ sym (append_assoc done (x ∷ []) ys) in
    let more = walk_one m order at (done ++ x ∷ []) v.0 xs ys q r v.2 (subst W (sym j.1) w.2) (subst G one g) (subst G two h) (subst A one a) (subst B two b) in
    (ap (λ (l : List TakenJump). x ∷ l) more.0 ∙ ap (λ (t : TakenJump). t ∷ ys) j.0, more.1)

module _ (m : PepaModel) (order : Order) (at : ℕ → ℕ) (xs ys : List TakenJump) (q r : Point) where
  one_place : BeginsRun m order at xs q → BeginsRun m order at ys r → IsOver m order at xs q → IsOver m order at ys r → (xs ≡ ys) × (q ≡ r)
  one_place a b o p =
      let start : a.start ≡ b.start = one_first m a.start b.start a.is_first b.is_first in
      let W : State → Type 0 = λ t. Walk m at (begin_at t) ys r in
      walk_one m order at [] _ xs ys q r a.walk (subst W (sym start) b.walk) a.asks b.asks o p

  pub one_run : (a b : Ran) → IsRun m order at xs q a → IsRun m order at ys r b → (xs ≡ ys) × (q ≡ r) × (a ≡ b)
  one_run a b h k =
      let place = one_place h.begins k.begins (ByEnd a.ending h.ends) (ByEnd b.ending k.ends) in
      let P : List TakenJump → Type 0 = λ l. EndsBy m order l r b.ending in
      let Q : Point → Type 0 = λ x. EndsBy m order xs x b.ending in
      let ending = one_end m order at xs q a.ending b.ending h.ends (subst Q (sym place.1) (subst P (sym place.0) k.ends)) in
      let passages : a.passages ≡ b.passages = h.passages ∙ ap (λ (l : List TakenJump). (passages_of l).ended) place.0 ∙ sym k.passages in (
        place.0,
        place.1,
        ap (λ (l : List ℕ). let x : Ran = record { passages = l; ending = a.ending } in x) passages
            ∙ ap (λ (e : Ending). let x : Ran = record { passages = b.passages; ending = e } in x) ending,
      )

  pub one_stopped_run : (s t : Stop) → IsStoppedRun m order at xs q s → IsStoppedRun m order at ys r t → (xs ≡ ys) × (q ≡ r) × (s ≡ t)
  one_stopped_run s t h k =
      let place = one_place h.begins k.begins (ByStop s h.asks h.stops) (ByStop t k.asks k.stops) in
      let Q : Point → Type 0 = λ x. StopsBy m at x t in
      (place.0, place.1, one_stop m at q s t h.stops (subst Q (sym place.1) k.stops))

  pub run_or_stop : (a : Ran) (s : Stop) → IsRun m order at xs q a → IsStoppedRun m order at ys r s → ⊥
  run_or_stop a s h k =
      let place = one_place h.begins k.begins (ByEnd a.ending h.ends) (ByStop s k.asks k.stops) in
      let P : List TakenJump → Type 0 = λ l. AsksForMore order l in
      let Q : Point → Type 0 = λ x. StopsBy m at x s in
      end_or_stop m order at xs q a.ending s h.ends (subst P (sym place.0) k.asks) (subst Q (sym place.1) k.stops)
