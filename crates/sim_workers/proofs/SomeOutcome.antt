-- Each model and order have an outcome.
use Rattle.std.proofs.Common.{◌≡◌, ℕ, zero, suc, ◌+◌, ◌≤◌, ◌⊎◌, inl, inr, List, [], ◌∷◌, ◌++◌, length, refl, subst, arith, length-append}
use Rattle.pepa_model.specs.PepaModel.{PepaModel, IsModel}
use Rattle.sim_space.specs.declared.stop.Stop.{Stop}
use Rattle.sim_replication.specs.declared.order.Order.{Order}
use Rattle.sim_replication.specs.declared.ran.Ran.{Ran}
use Rattle.sim_replication.specs.declared.ran.Outcome.{Outcome}
use Rattle.sim_replication.specs.declared.ran.Outcome.TheVariants.{Finished, Stopped}
use Rattle.sim_replication.specs.Orders.{numbers_of}
use Rattle.sim_replication.proofs.SomeRun.{some_run}
use Rattle.sim_workers.specs.AllRuns.{IsRunNumbered, IsStopNumbered, AreFirstRuns, EachEndsBefore, AllRuns}
use Rattle.sim_workers.proofs.RunLists.{none_yet, first_runs_more, ends_before}

module _ (m : PepaModel) (sound : IsModel m) (order : Order) where
  -- of so many replications each ends
  record AllEnd (count : ℕ) : Type 0 where
    rans : List Ran
    count_is : length rans ≡ count
    are : AreFirstRuns m order rans

  -- of so many replications one is the first that stops
  record OneStops (count : ℕ) : Type 0 where
    number : ℕ
    stop : Stop
    from : 1 ≤ number
    to : number ≤ count
    stops : IsStopNumbered m order number stop
    before : EachEndsBefore m order number

  one_more : (count : ℕ) → AllEnd count → AllEnd (suc count) ⊎ OneStops (suc count)
  one_more count so_far =
      let e = so_far.count_is in
      let next : suc count ≡ length so_far.rans + 1 = omega (arith, e) in
      elim (some_run m sound order (numbers_of order (suc count))) [
        | inl (taken, (last, (ran, is))) ↦
            let P : ℕ → Type 0 = λ n. IsRunNumbered m order n ran in
            let long = length-append so_far.rans (ran ∷ []) in
            inl (record { rans = so_far.rans ++ ran ∷ []; count_is = omega (arith, long, e); are = first_runs_more m order so_far.rans ran so_far.are (subst P next (taken, (last, is))) })
        | inr (taken, (last, (stop, is))) ↦
            inr (record { number = suc count; stop = stop; from = omega arith; to = omega arith; stops = (taken, (last, is)); before = ends_before m order so_far.rans (suc count) so_far.are (omega (arith, e)) })
      ]

  so_many : (count : ℕ) → AllEnd count ⊎ OneStops count
  so_many zero = inl (record { rans = []; count_is = refl; are = none_yet m order })
  so_many (suc count) =
      elim (so_many count) [
        | inl so_far ↦ one_more count so_far
        | inr one ↦ (let le = one.to in inr (record { number = one.number; stop = one.stop; from = one.from; to = omega (arith, le); stops = one.stops; before = one.before }))
      ]

  pub some_outcome : (outcome : Outcome) × AllRuns m order outcome
  some_outcome =
      elim (so_many order.runs) [
        | inl all ↦ (Finished all.rans, (all.count_is, all.are))
        | inr one ↦ (Stopped one.number one.stop, ((one.from, one.to), one.stops, one.before))
      ]
