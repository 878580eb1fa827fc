use Rattle.std.proofs.Common.{◌≡◌, ℕ, ◌+◌, ◌<◌, ◌≤◌, ◌⊎◌, List, length, sum, take, ap, subst, inl, inr, arith}
use Rattle.std.proofs.lemmas.Bool.{cases_lt}
use Rattle.pepa_rates.specs.Sum.{fraction_of}
use Rattle.pepa_rates.specs.Weights.{common_den, weight_of}
use Rattle.pepa_steps.specs.declared.entries.Entry.{Entry}
use Rattle.sim_space.specs.LoadedLists.{fractions_in, weights_in, loaded_of, IsLoaded}
use Rattle.sim_space.specs.declared.space.Jump.{Jump}
use Rattle.sim_space.specs.declared.space.Loaded.{Loaded}
use Rattle.sim_space.proofs.WeightSums.{sum_more, sum_within, sum_all, weights_long}
use Rattle.sim_space.proofs.space.Space.choose.Goals as goal

-- where the sum so far isn't above the number, the list goes on
goes_on : (entries : List Entry) (loaded : Loaded) (number i : ℕ) → IsLoaded entries loaded → number < loaded.whole → sum (take i (weights_in entries)) ≤ number → i < length entries
goes_on entries loaded number i told below so_far = of_cases (cases_lt i (length entries))
  where
    whole : loaded.whole ≡ sum (weights_in entries)
    whole = ap (λ (l : Loaded). l.whole) told.same

    of_cases : (i < length entries) ⊎ (length entries ≤ i) → i < length entries
    of_cases (inl less) = less
    of_cases (inr more) = let all = sum_all entries i more in absurd (omega (arith, whole, all, below, so_far))

pub step-before-requires : goal.step-before-requires
step-before-requires g c =
    let entries = g.Self.Space.list c.args.self.now in
    goes_on entries c.requires.0 c.args.number c.loop-index.index c.requires.1 c.requires.2 (c.loop-index.invariant.none c.loop-index.index (omega arith))

pub overflow_add-before : goal.overflow_add-before
overflow_add-before g c =
    let entries = g.Self.Space.list c.args.self.now in
    let told = c.requires.1 in
    let whole : c.requires.0.whole ≡ sum (weights_in entries) = ap (λ (l : Loaded). l.whole) told.same in
    let e = c.step-before.ensures in
    let weight : c.step-before.result.weight ≡ weight_of (common_den (fractions_in entries)) (fraction_of e.0.rate) = ap (λ (j : Jump). j.weight) e.2 in
    let more = sum_more entries c.loop-index.index e.0 e.1 in
    let within = sum_within entries (c.loop-index.index + 1) in
    omega (arith, whole, told.whole_fits, weight, more, within, c.loop-index.invariant.sum_is)

pub returns-then-number-before : goal.returns-then-number-before
returns-then-number-before g c =
    let entries = g.Self.Space.list c.args.self.now in
    let e = c.step-before.ensures in
    let weight : c.step-before.result.weight ≡ weight_of (common_den (fractions_in entries)) (fraction_of e.0.rate) = ap (λ (j : Jump). j.weight) e.2 in
    let more = sum_more entries c.loop-index.index e.0 e.1 in
    let long = weights_long entries in
    let inside = goes_on entries c.requires.0 c.args.number c.loop-index.index c.requires.1 c.requires.2 (c.loop-index.invariant.none c.loop-index.index (omega arith)) in
    record {
      in_list = omega (arith, long, inside);
      above = omega (arith, weight, more, c.loop-index.invariant.sum_is, c.if-number-before.true);
      first = c.loop-index.invariant.none;
    }

pub loop-index-preserved : goal.loop-index-preserved
loop-index-preserved g c =
    let entries = g.Self.Space.list c.args.self.now in
    let e = c.step-before.ensures in
    let weight : c.step-before.result.weight ≡ weight_of (common_den (fractions_in entries)) (fraction_of e.0.rate) = ap (λ (j : Jump). j.weight) e.2 in
    let more = sum_more entries c.loop-index.index e.0 e.1 in
    let sum_is : c.loop-index.before + c.step-before.result.weight ≡ sum (take (c.loop-index.index + 1) (weights_in entries)) = omega (arith, weight, more, c.loop-index.invariant.sum_is) in
    record {
      sum_is = sum_is;
      none = λ k h. elim (cases_lt k (c.loop-index.index + 1)) [
        | inl less ↦ let le : k ≤ c.loop-index.index = omega arith in c.loop-index.invariant.none k le
        | inr more ↦ let same : c.loop-index.index + 1 ≡ k = omega arith in
            let P : ℕ → Type 0 = λ n. sum (take n (weights_in entries)) ≤ c.args.number in
            let here : P (c.loop-index.index + 1) = omega (arith, sum_is, c.if-number-before.false) in
            subst P same here
      ];
    }

pub unreachable-requires : goal.unreachable-requires
unreachable-requires g c =
    let entries = g.Self.Space.list c.args.self.now in
    let told = c.requires.1 in
    let len : c.requires.0.len ≡ length entries = ap (λ (l : Loaded). l.len) told.same in
    let inside = goes_on entries c.requires.0 c.args.number c.loop-index.index c.requires.1 c.requires.2 (c.loop-index.invariant.none c.loop-index.index (omega arith)) in
    omega (arith, len, told.short, inside, c.loop-index-test.false)
