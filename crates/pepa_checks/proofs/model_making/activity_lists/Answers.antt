use Rattle.std.proofs.Common.{List, length, map, take, refl, sym, ap, ◌∙◌}
use Rattle.std.proofs.lemmas.List.{map_push}
use Rattle.std.proofs.lemmas.Option.{slice_get_read}
use Rattle.pepa_model.specs.declared.term.Activity.{Activity}
use Rattle.node_orders.proofs.Elements.{take_next}
use Rattle.pepa_checks.specs.declared.summand.Performed.{Performed}
use Rattle.pepa_checks.proofs.model_making.activity_lists.Goals as goal

pub loop-list-preserved : goal.loop-list-preserved
loop-list-preserved c =
    let lists : List (List Performed) = c.args.lists.now in
    let n = c.loop-list.list-index in
    let f : List Performed → List Activity = map (λ (performed : Performed). performed.activity) in
    let at = slice_get_read lists (length lists) n c.list-item.result refl c.loop-list-test.true c.list-item.is in
    rw (c.in_ok-push.ensures.ok, c.in_ok-activities_of.ensures, c.as_slice.ensures, c.loop-list.invariant)
    (sym (ap (map f) (take_next lists n c.list-item.result at) ∙ map_push f (take n lists) c.list-item.result))
