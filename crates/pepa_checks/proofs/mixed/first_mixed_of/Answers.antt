use Rattle.std.proofs.Common.{◌≡◌, Some, refl, sym, ◌∙◌, ap, arith, nat_eq, length}
use Rattle.std.proofs.lemmas.Bool.{ne_eqb}
use Rattle.std.proofs.lemmas.List.{length-map}
use Rattle.std.proofs.lemmas.Option.{slice_get_read}
use Rattle.std.specs.Map.{lookup}
use Rattle.indexmap.specs.IndexMap.{get}
use Rattle.pepa_checks.specs.declared.summand.Performed.{Performed}
use Rattle.pepa_checks.specs.MixedLists.{activities}
use Rattle.pepa_checks.proofs.ActivityKinds.{no_kinds, kinds_same, kinds_new, mixed_at, all_unmixed, activity_at, apart_from_test, same_from_test}
use Rattle.pepa_checks.proofs.mixed.first_mixed_of.Goals as goal
use Rattle.pepa_checks.proofs.mixed.first_mixed_of.Goals.{in-Some+else-first-passive, in-None+in_ok-insert-in-None}

pub loop-performed-init : goal.loop-performed-init
loop-performed-init c = no_kinds (activities c.args.list.now) (get nat_eq c.new-kinds.result) (λ action. ap (lookup (nat_eq action)) c.new-kinds.ensures.empty)

pub returns-then-first-passive : goal.returns-then-first-passive
returns-then-first-passive c =
    let list = c.args.list.now in
    let k = c.loop-performed.performed-index in
    let item = c.performed-item.result in
    let is = activity_at list k item c.loop-performed-test.true c.performed-item.is in
    let kind_is : get nat_eq c.loop-performed.kinds item.activity.action ≡ Some c.in-Some.first = sym c.get.ensures.value ∙ (sym c.copied.ensures ∙ c.in-Some.is) in
    record {
      place = k;
      mixed = mixed_at (activities list) k (get nat_eq c.loop-performed.kinds) c.loop-performed.invariant item.activity is c.in-Some.first kind_is (λ same. apart_from_test c.in-Some.first c.is_passive-passive.result c.if-first-passive.true (same ∙ sym c.is_passive-passive.ensures));
      first = c.loop-performed.invariant.unmixed;
      performed = item;
      stands = slice_get_read list (length list) k item refl c.loop-performed-test.true c.performed-item.is;
      site = refl;
    }

pub loop-performed-preserved : goal.loop-performed-preserved
loop-performed-preserved c =
    let list = c.args.list.now in
    let k = c.loop-performed.performed-index in
    let item = c.performed-item.result in
    let is = activity_at list k item c.loop-performed-test.true c.performed-item.is in
    let kind = get nat_eq c.loop-performed.kinds in
    let so_far = c.loop-performed.invariant in
    elim c.match-copied.branch [
      | in-Some+else-first-passive w ↦
          rw w.kinds-is (kinds_same (activities list) k kind so_far item.activity is w.in-Some.first
          (sym c.get.ensures.value ∙ (sym c.copied.ensures ∙ w.in-Some.is)) (sym c.is_passive-passive.ensures ∙ sym (same_from_test w.in-Some.first c.is_passive-passive.result w.if-first-passive.false)))
      | in-None+in_ok-insert-in-None w ↦
          rw w.kinds-is (kinds_new (activities list) k kind so_far item.activity is (get nat_eq w.insert.new.self) c.is_passive-passive.result
          (sym c.get.ensures.value ∙ (sym c.copied.ensures ∙ w.in-None.is)) (sym c.is_passive-passive.ensures)
          w.in_ok-insert-in-None.ensures.updates.1
          (λ action apart. w.in_ok-insert-in-None.ensures.updates.2 action (ne_eqb item.activity.action action (λ same. apart (sym same)))))
    ]

pub returns : goal.returns
returns c =
    all_unmixed (activities c.args.list.now) c.loop-performed.performed-index (get nat_eq c.loop-performed.kinds) c.loop-performed.invariant
    (let whole = length-map c.args.list.now (λ (p : Performed). p.activity) in omega arith)
