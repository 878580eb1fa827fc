-- A replication that ended has at most as many passages as were ordered.
use Rattle.std.specs.Prelude.{◌/◌, ◌%◌, ◌==◌, if◌then◌else◌}
use Rattle.std.proofs.Common.{◌≡◌, ℕ, ◌+◌, ◌-◌, ◌<◌, ◌≤◌, Bool, true, false, Option, None, Some, List, [], ◌∷◌, ◌++◌, length, take, get_or, All, refl, sym, ◌∙◌, subst, arith, length-append}
use Rattle.std.proofs.lemmas.List.Sums.{fold-append}
use Rattle.std.proofs.lemmas.List.Elements.{All-nil, All-from_get_or}
use Rattle.std.proofs.lemmas.Option.{slice_get-get_or}
use Rattle.std.proofs.Math.Seq.{take-length, take-suc}
use Rattle.pepa_model.specs.PepaModel.{PepaModel}
use Rattle.sim_replication.specs.declared.order.Order.{Order}
use Rattle.sim_replication.specs.declared.ran.Ran.{Ran}
use Rattle.sim_replication.specs.declared.passages.Passages.{Passages}
use Rattle.sim_replication.specs.Signals.{TakenJump, passages_of, no_passages, after_signals, after_start, after_stop}
use Rattle.sim_replication.specs.Runs.{AsksForMore}
use Rattle.sim_workers.specs.AllRuns.{IsRunNumbered, AreFirstRuns}

stop_adds : (since : Option ℕ) (ended : List ℕ) (time : ℕ) → length (after_stop (record { since = since; ended = ended }) time).ended ≤ length ended + 1
stop_adds None ended time = omega arith
stop_adds (Some s) ended time = let long = length-append ended ((time - s) ∷ []) in omega (arith, long)

start_keeps : (since : Option ℕ) (ended : List ℕ) (time : ℕ) → (after_start (record { since = since; ended = ended }) time).ended ≡ ended
start_keeps None ended time = refl
start_keeps (Some s) ended time = refl

either_few : (test : Bool) (p q : Passages) (most : ℕ) → length p.ended ≤ most → length q.ended ≤ most → length (if test then p else q).ended ≤ most
either_few true p q most h k = h
either_few false p q most h k = k

-- the signals of one jump end one passage or none
one_more_at_most : (p : Passages) (signals time : ℕ) → length (after_signals p signals time).ended ≤ length p.ended + 1
one_more_at_most p signals time =
    let stopped : Passages = if signals / 2 % 2 == 1 then after_stop p time else p in
    let few : length stopped.ended ≤ length p.ended + 1 = either_few (signals / 2 % 2 == 1) (after_stop p time) p (length p.ended + 1) (stop_adds p.since p.ended time) (omega arith) in
    let keeps : (after_start stopped time).ended ≡ stopped.ended = start_keeps stopped.since stopped.ended time in
    let P : List ℕ → Type 0 = λ l. length l ≤ length p.ended + 1 in
    either_few (signals % 2 == 1) (after_start stopped time) stopped (length p.ended + 1) (subst P (sym keeps) few) few

passages_next : (ts : List TakenJump) (t : TakenJump) → passages_of (ts ++ t ∷ []) ≡ after_signals (passages_of ts) t.signals t.time
unfolding passages_of
passages_next ts t = fold-append (λ (p : Passages) (j : TakenJump). after_signals p j.signals j.time) no_passages ts (t ∷ [])

none_of_none : length (passages_of []).ended ≡ 0
unfolding passages_of
none_of_none = refl

few_passages : (order : Order) (taken : List TakenJump) → ((k : ℕ) → k < length taken → AsksForMore order (take k taken)) → length (passages_of taken).ended ≤ order.passages
few_passages order [] asks = let e = none_of_none in omega (arith, e)
few_passages order (t ∷ ts) asks =
    let all : List TakenJump = t ∷ ts in
    let before = take (length ts) all in
    let last = get_or all (length ts) t in
    let few : length (passages_of before).ended < order.passages = (asks (length ts) (omega arith)).0 in
    let split : before ++ last ∷ [] ≡ all = sym (take-suc all (length ts) t (omega arith)) ∙ take-length all in
    let next = one_more_at_most (passages_of before) last.signals last.time in
    let P : Passages → Type 0 = λ p. length p.ended ≤ length (passages_of before).ended + 1 in
    let Q : List TakenJump → Type 0 = λ l. length (passages_of l).ended ≤ length (passages_of before).ended + 1 in
    let now : length (passages_of all).ended ≤ length (passages_of before).ended + 1 = subst Q split (subst P (sym (passages_next before last)) next) in
    omega (arith, now, few)

few_of_run : (m : PepaModel) (order : Order) (number : ℕ) (ran : Ran) → IsRunNumbered m order number ran → length ran.passages ≤ order.passages
few_of_run m order number ran h =
    let P : List ℕ → Type 0 = λ l. length l ≤ order.passages in
    subst P (sym h.1.1.passages) (few_passages order h.0 h.1.1.begins.asks)

pub each_few : (m : PepaModel) (order : Order) (rans : List Ran) → AreFirstRuns m order rans → All (λ r. length r.passages ≤ order.passages) rans
each_few m order [] are = All-nil _
each_few m order (ran ∷ rans) are =
    All-from_get_or (λ (r : Ran). length r.passages ≤ order.passages) (ran ∷ rans) ran
    (λ i less. few_of_run m order (i + 1) _ (are i _ (slice_get-get_or (ran ∷ rans) i ran less)))
