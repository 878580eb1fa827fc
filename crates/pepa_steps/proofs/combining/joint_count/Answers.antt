use Rattle.std.proofs.Common.{◌≡◌, ℕ, ◌+◌, ◌*◌, ◌≤◌, List, length, sym, ap, ◌∙◌, arith, refl}
use Rattle.std.proofs.lemmas.List.{take_all}
use Rattle.pepa_steps.specs.Moves.{Move}
use Rattle.pepa_steps.specs.Combined.{numbered}
use Rattle.pepa_steps.specs.JointSteps.{places_from, pair_count}
use Rattle.pepa_steps.specs.declared.entries.Entry.{Entry}
use Rattle.pepa_steps.proofs.TakenEntries.{numbered_more, counts_pairs, same_pairs, no_more_than, found_places, no_places}
use Rattle.pepa_steps.proofs.combining.joint_count.Goals as goal
use Rattle.pepa_steps.proofs.combining.joint_count.Goals.{then-is_in+in-Some, then-is_in+in_default, else-is_in}

-- no more indices than entries
few : (n action : ℕ) (indices : List ℕ) (vs : List (Move ℕ)) → n ≡ length indices → indices ≡ places_from 0 action vs → length vs ≤ 65535 → n ≤ 65535
few n action indices vs e is short =
    let as_many = e ∙ ap length is in
    omega (arith, as_many, short, no_more_than action vs)

pub loop-index-init : goal.loop-index-init
loop-index-init c = (λ vs h. refl, omega arith)

pub overflow_add-count : goal.overflow_add-count
overflow_add-count c =
    let known = c.requires.few in
    let places = found_places c.args.types.now known.0 _ _ _ known.1 (sym c.if-is_in.ensures) c.in-Some.ensures.value in
    let bound : c.len.result ≤ 65535 = few _ _ _ known.0 c.len.ensures places known.2 in
    let before : c.loop-index.count ≤ c.loop-index._index * 65535 = c.loop-index.invariant.1 in
    omega (arith, bound, before, c.requires.short, c.loop-index-test.true)

pub loop-index-preserved : goal.loop-index-preserved
loop-index-preserved c =
    let known = c.requires.few in
    let grows = numbered_more c.args.ours.now c.loop-index._index c.index-ours-index.result c.loop-index-test.true c.index-ours-index.is in
    let before : c.loop-index.count ≤ c.loop-index._index * 65535 = c.loop-index.invariant.1 in
    elim c.if-is_in.branch [
      | then-is_in+in-Some w ↦
          let has_it = sym w.if-is_in.ensures in
          let own = found_places c.args.types.now known.0 _ _ _ known.1 has_it w.in-Some.ensures.value in
          let bound : w.len.result ≤ 65535 = few _ _ _ known.0 w.len.ensures own known.2 in (
            (λ vs h.
                let places = found_places c.args.types.now vs _ _ _ h has_it w.in-Some.ensures.value in
                w.count-is ∙ counts_pairs c.args.types.now _ _ _ grows vs _ _ has_it (c.loop-index.invariant.0 vs h) (w.len.ensures ∙ ap length places)),
            omega (arith, bound, before, w.count-is),
          )
      | then-is_in+in_default w ↦
          let has_it = sym w.if-is_in.ensures in
          let same : c.loop-index.count ≡ c.loop-index.count + 0 = omega arith in (
            (λ vs h.
                let places = no_places c.args.types.now vs _ _ h has_it w.in_default.ensures.value in
                w.count-is ∙ same ∙ counts_pairs c.args.types.now _ _ _ grows vs _ 0 has_it (c.loop-index.invariant.0 vs h) (ap length places)),
            omega (arith, before, w.count-is),
          )
      | else-is_in w ↦ (
        (λ vs h. w.count-is ∙ same_pairs c.args.types.now _ _ _ grows vs _ (sym w.if-is_in.ensures) (c.loop-index.invariant.0 vs h)),
        omega (arith, before, w.count-is),
      )
    ]

pub returns : goal.returns
returns c = λ vs h.
    c.loop-index.invariant.0 vs h ∙ ap (λ (es : List Entry). pair_count c.args.types.now (numbered 0 es) vs) (take_all _ c.args.ours.now c.loop-index-test.false)
