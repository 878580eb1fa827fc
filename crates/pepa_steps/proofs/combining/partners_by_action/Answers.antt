use Rattle.std.proofs.Common.{◌≡◌, ℕ, List, length, take, sym, ap, ◌∙◌}
use Rattle.std.proofs.lemmas.List.{take_all, length-take-le}
use Rattle.pepa_steps.specs.Combined.{numbered}
use Rattle.pepa_steps.specs.JointSteps.{indices_in, places_from}
use Rattle.pepa_steps.specs.declared.entries.Entry.{Entry}
use Rattle.pepa_steps.proofs.TakenEntries.{numbered_more, numbered_length, notes, passes_over}
use Rattle.pepa_steps.proofs.combining.partners_by_action.Goals as goal
use Rattle.pepa_steps.proofs.combining.partners_by_action.Goals.{then-is_in+in_ok-add_partner, else-is_in}

pub loop-index-init : goal.loop-index-init
loop-index-init c = λ action h. ap (λ (entries : List (ℕ × List ℕ)). indices_in entries action) c.new-partners.ensures.empty

pub loop-index-preserved : goal.loop-index-preserved
loop-index-preserved c = λ action h.
    let grows = numbered_more c.args.entries.now c.loop-index.index c.index-entries-index.result c.loop-index-test.true c.index-entries-index.is in
    let at : c.loop-index.index ≡ length (numbered 0 (take c.loop-index.index c.args.entries.now)) =
    sym (numbered_length 0 (take c.loop-index.index c.args.entries.now) ∙ length-take-le c.loop-index.index c.args.entries.now c.loop-index.auto.index-end) in
    elim c.if-is_in.branch [
      | then-is_in+in_ok-add_partner w ↦
          ap (λ (entries : List (ℕ × List ℕ)). indices_in entries action) (ap (λ m. m.entries) w.partners-is)
          ∙ notes c.args.types.now _ _ _ grows c.loop-index.partners.entries c.loop-index.invariant
          _ _ at w.in_ok-add_partner.ensures action h
      | else-is_in w ↦
          ap (λ (entries : List (ℕ × List ℕ)). indices_in entries action) (ap (λ m. m.entries) w.partners-is)
          ∙ passes_over c.args.types.now _ _ _ grows c.loop-index.partners.entries c.loop-index.invariant
          (sym w.if-is_in.ensures) action h
    ]

pub returns : goal.returns
returns c = λ action h.
    c.loop-index.invariant action h
    ∙ ap (λ (es : List Entry). places_from 0 action (numbered 0 es)) (take_all _ c.args.entries.now c.loop-index-test.false)
