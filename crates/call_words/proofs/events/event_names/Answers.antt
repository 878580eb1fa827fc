use Rattle.std.proofs.Common.{◌≡◌, map, false, true, sym, ap, ◌∙◌, subst}
use Rattle.std.specs.List.{AllByRecursion}
use Rattle.pepa_model.specs.Spelling.{IsActionName}
use Rattle.call_words.proofs.EventNames.{each_at}
use Rattle.call_words.proofs.events.event_names.Goals as goal

pub returns-then-not-is_action_name : goal.returns-then-not-is_action_name
returns-then-not-is_action_name c = λ u names h.
    let parts = c.as_slice-part-items.result.now in
    let all : AllByRecursion IsActionName (map (λ part. part.now) parts) =
    subst (AllByRecursion IsActionName) (h.0 ∙ sym c.in_ok-parts.ensures ∙ ap (map (λ part. part.now)) (sym c.as_slice-part-items.ensures.value)) h.1 in
    let one = each_at IsActionName (λ part. part.now) parts c.loop-part.part-index _ c.loop-part-test.true all in
    let bad : false ≡ true = c.if-not-is_action_name.ensures.1 (subst IsActionName (sym c.as_bytes-name.ensures.value) one) in
    absurd cc
