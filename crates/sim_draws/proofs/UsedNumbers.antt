-- A draw is decided by the numbers that it uses.
use Rattle.std.proofs.Common.{◌≡◌, ℕ, zero, suc, ◌+◌, ◌-◌, ◌*◌, ◌/◌, ◌%◌, ◌^◌, ◌<◌, ◌≤◌, inl, inr, List, [], ◌∷◌, ◌++◌, length, drop, get_or, ap, sym, ◌∙◌, arith, length-append, length-drop}
use Rattle.std.proofs.lemmas.Bool.{cases_lt}
use Rattle.std.proofs.lemmas.List.{drop-append-le}
use Rattle.std.proofs.Math.ListN.{get_or-append}
use Rattle.sim_draws.specs.ExponentialDraw.{falls_below, run_length, after_rounds, RoundDecides, IsExponentialDraw}
use Rattle.sim_draws.specs.FairDraw.{IsDrawBelow}
use Rattle.sim_draws.proofs.Rounds.{falls_below-on, falls_below-stops, after_rounds-zero, after_rounds-suc, stays_whole}

-- a run that ends within the numbers in front is the same whatever follows them
falls_below-append : (x : ℕ) (front rest others : List ℕ) → falls_below x (front ++ rest) < length front
    → falls_below x (front ++ others) ≡ falls_below x (front ++ rest)
falls_below-append x [] rest others h = absurd (omega arith)
falls_below-append x (y ∷ front) rest others h = elim (cases_lt y x) [
  | inl less ↦
      let on = falls_below-on x y (front ++ rest) less in
      let inner = falls_below-append y front rest others (omega (arith, h, on)) in
      falls_below-on x y (front ++ others) less ∙ ap suc inner ∙ sym on
  | inr more ↦ falls_below-stops x y (front ++ others) more ∙ sym (falls_below-stops x y (front ++ rest) more)
]

run_length-append : (front rest others : List ℕ) → run_length (front ++ rest) < length front
    → run_length (front ++ others) ≡ run_length (front ++ rest)
run_length-append [] rest others h = absurd (omega arith)
run_length-append (x ∷ front) rest others h = ap suc (falls_below-append x front rest others (omega arith))

-- a round takes what it takes from the length
length-after_rounds : (n : ℕ) (xs : List ℕ)
    → length (after_rounds (suc n) xs) ≡ length (after_rounds n xs) - suc (run_length (after_rounds n xs))
length-after_rounds n xs = ap length (after_rounds-suc n xs) ∙ length-drop (suc (run_length (after_rounds n xs))) (after_rounds n xs)

-- more rounds leave no more
after_rounds-shrinks : (xs : List ℕ) (n j : ℕ) → length (after_rounds (n + j) xs) ≤ length (after_rounds n xs)
after_rounds-shrinks xs n zero = let e : n ≡ n + 0 = omega arith in rw (← e) (omega arith)
after_rounds-shrinks xs n (suc j) =
    let e : n + suc j ≡ suc (n + j) = omega arith in
    let before = after_rounds-shrinks xs n j in
    let step = length-after_rounds (n + j) xs in
    rw e (omega (arith, before, step))

-- what so many rounds leave of two lists: the same numbers in front of what follows the used ones
record Shared (n : ℕ) (xs ys rest others : List ℕ) : Type 0 where
  front : List ℕ
  one : after_rounds n xs ≡ front ++ rest
  other : after_rounds n ys ≡ front ++ others

module _ (used rest others : List ℕ) (d : ℕ) (a : IsExponentialDraw (used ++ rest) d (length used)) where
  whole : (n : ℕ) → n ≤ a.round → run_length (after_rounds n (used ++ rest)) < length (after_rounds n (used ++ rest))
  whole n h = elim (cases_lt (run_length (after_rounds n (used ++ rest))) (length (after_rounds n (used ++ rest)))) [
    | inl less ↦ less
    | inr more ↦
        let e : n + (a.round - n) ≡ a.round = omega arith in
        let stays = stays_whole (used ++ rest) n (a.round - n) more in
        let stays' : length (after_rounds a.round (used ++ rest)) ≤ run_length (after_rounds a.round (used ++ rest)) = rw e at stays in
        absurd (omega (arith, a.decides.0, stays'))
  ]

  left : length (after_rounds (suc a.round) (used ++ rest)) ≡ length rest
  left = let all = length-append used rest in omega (arith, a.taken, all)

  room : (n : ℕ) → n ≤ a.round → (front : List ℕ) → after_rounds n (used ++ rest) ≡ front ++ rest
      → run_length (front ++ rest) < length front
  room n h front e =
      let here = whole n h in
      let here' : run_length (front ++ rest) < length (front ++ rest) = rw e at here in
      let both = length-append front rest in
      let step = length-after_rounds n (used ++ rest) in
      let step' : length (after_rounds (suc n) (used ++ rest)) ≡ length (front ++ rest) - suc (run_length (front ++ rest)) = rw e at step in
      let f : suc n + (a.round - n) ≡ suc a.round = omega arith in
      let shrinks = after_rounds-shrinks (used ++ rest) (suc n) (a.round - n) in
      let shrinks' : length (after_rounds (suc a.round) (used ++ rest)) ≤ length (after_rounds (suc n) (used ++ rest)) = rw f at shrinks in
      omega (arith, here', both, step', shrinks', left)

  shared : (n : ℕ) → n ≤ suc a.round → Shared n (used ++ rest) (used ++ others) rest others
  shared zero h = record { front = used; one = after_rounds-zero _; other = after_rounds-zero _ }
  shared (suc n) h =
      let s = shared n (omega arith) in
      let fits = room n (omega arith) s.front s.one in
      let same = run_length-append s.front rest others fits in
      record {
        front = drop (suc (run_length (s.front ++ rest))) s.front;
        one = after_rounds-suc n _ ∙ ap (λ (zs : List ℕ). drop (suc (run_length zs)) zs) s.one
            ∙ drop-append-le (suc (run_length (s.front ++ rest))) s.front rest (omega (arith, fits));
        other = after_rounds-suc n _ ∙ ap (λ (zs : List ℕ). drop (suc (run_length zs)) zs) s.other
            ∙ ap (λ (k : ℕ). drop (suc k) (s.front ++ others)) same
            ∙ drop-append-le (suc (run_length (s.front ++ rest))) s.front others (omega (arith, fits));
      }

  decides_too : (n : ℕ) → n ≤ a.round → RoundDecides (used ++ rest) n → RoundDecides (used ++ others) n
  decides_too n h decides =
      let s = shared n (omega arith) in
      let fits = room n h s.front s.one in
      let same = run_length-append s.front rest others fits in
      let both = length-append s.front others in
      let odd : run_length (s.front ++ rest) % 2 ≡ 1 = rw s.one at decides.1 in
      rw s.other (omega (arith, fits, same, both), rw same odd)

  decided_before : (n : ℕ) → n ≤ a.round → RoundDecides (used ++ others) n → RoundDecides (used ++ rest) n
  decided_before n h decides =
      let s = shared n (omega arith) in
      let fits = room n h s.front s.one in
      let same = run_length-append s.front rest others fits in
      let both = length-append s.front rest in
      let odd : run_length (s.front ++ others) % 2 ≡ 1 = rw s.other at decides.1 in
      rw s.one (omega (arith, fits, both), rw (← same) odd)

  pub used_decide_exponential : IsExponentialDraw (used ++ others) d (length used)
  used_decide_exponential =
      let here = shared a.round (omega arith) in
      let fits = room a.round (omega arith) here.front here.one in
      let some : 0 < length here.front = omega (arith, fits) in
      let after = shared (suc a.round) (omega arith) in
      let nothing : length after.front ≡ 0 =
      let both = length-append after.front rest in
      let one = ap length after.one in
      omega (arith, left, both, one) in
      record {
        round = a.round;
        decides = decides_too a.round (omega arith) a.decides;
        first = λ n h decides. a.first n h (decided_before n (omega arith) decides);
        value = a.value ∙ ap (λ (zs : List ℕ). a.round * 2 ^ 32 + get_or zs 0 0 / 2 ^ 32) here.one
            ∙ ap (λ (k : ℕ). a.round * 2 ^ 32 + k / 2 ^ 32)
            (get_or-append here.front rest 0 0 some ∙ sym (get_or-append here.front others 0 0 some))
            ∙ sym (ap (λ (zs : List ℕ). a.round * 2 ^ 32 + get_or zs 0 0 / 2 ^ 32) here.other);
        taken =
            let other = ap length after.other in
            let both = length-append after.front others in
            let all = length-append used others in
            omega (arith, nothing, other, both, all);
      }

pub used_decide_below : (used rest others : List ℕ) (bound d : ℕ) → IsDrawBelow (used ++ rest) bound d (length used)
    → IsDrawBelow (used ++ others) bound d (length used)
used_decide_below used rest others bound d a =
    let last : a.index < length used = omega (arith, a.taken) in
    let same : (k : ℕ) → k < length used → get_or (used ++ rest) k 0 ≡ get_or (used ++ others) k 0
    = λ k h. get_or-append used rest 0 k h ∙ sym (get_or-append used others 0 k h) in
    record {
      index = a.index;
      in_list = let all = length-append used others in omega (arith, last, all);
      fair = rw (← same a.index last) a.fair;
      first = λ k h. rw (← same k (omega arith)) (a.first k h);
      value = a.value ∙ ap (λ (x : ℕ). x % bound) (same a.index last);
      taken = a.taken;
    }
