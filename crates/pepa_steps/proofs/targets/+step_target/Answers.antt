use Rattle.std.proofs.Common.{◌<◌, ◌^◌, length, ap, arith}
use Rattle.std.proofs.lemmas.Option.{slice_get-get_or}
use Rattle.pepa_model.specs.Terms.{term_of}
use Rattle.pepa_steps.proofs.Aims.{left_ready, right_ready, both_ready, never_lost, left_aimed, right_aimed, both_aimed, inner_ready, inner_aimed, leaf_inside, leaf_aimed, left_smaller, right_smaller, inner_smaller, left_of_model, right_of_model, inner_of_model, ok_then}
use Rattle.pepa_steps.proofs.targets.+step_target.Goals as goal

pub step_target-requires : goal.step_target-requires
step_target-requires l c =
    let fits : length c.args.buffers.now.origins.items < 2 ^ 64 = omega (arith, c.args.buffers.now.origins.ok.0, c.args.buffers.now.origins.small) in
    let is = ap term_of c.in-Coop.is in
    let ready = left_ready c.args.model.now c.args.buffers.now.marks.items c.args.buffers.now.origins.items fits _ _ _ _ c.args.at c.args.index c.find_source.result is c.find_source.ensures c.requires.traced _ _ c.in-Left.is in
    rw c.deref.ensures (omega (arith, c.decreases, left_smaller _ _ _ _ is), (left_of_model c.args.model.now _ _ _ _ is c.requires.of_model, ready))

pub step_target-requires-in-Right : goal.step_target-requires-in-Right
step_target-requires-in-Right l c =
    let fits : length c.args.buffers.now.origins.items < 2 ^ 64 = omega (arith, c.args.buffers.now.origins.ok.0, c.args.buffers.now.origins.small) in
    let is = ap term_of c.in-Coop.is in
    let ready = right_ready c.args.model.now c.args.buffers.now.marks.items c.args.buffers.now.origins.items fits _ _ _ _ c.args.at c.args.index c.find_source.result is c.find_source.ensures c.requires.traced _ _ c.in-Right.is in
    rw c.deref-in-Right.ensures (omega (arith, c.decreases, right_smaller _ _ _ _ is), (right_of_model c.args.model.now _ _ _ _ is c.requires.of_model, ready))

pub step_target-requires-in-Both : goal.step_target-requires-in-Both
step_target-requires-in-Both l c =
    let fits : length c.args.buffers.now.origins.items < 2 ^ 64 = omega (arith, c.args.buffers.now.origins.ok.0, c.args.buffers.now.origins.small) in
    let is = ap term_of c.in-Coop.is in
    let ready = both_ready c.args.model.now c.args.buffers.now.marks.items c.args.buffers.now.origins.items fits _ _ _ _ c.args.at c.args.index c.find_source.result is c.find_source.ensures c.requires.traced _ _ _ _ c.in-Both.is in
    rw c.deref-in-Both.ensures (omega (arith, c.decreases, left_smaller _ _ _ _ is), (left_of_model c.args.model.now _ _ _ _ is c.requires.of_model, ready.0))

pub step_target-requires-in-Both-2 : goal.step_target-requires-in-Both-2
step_target-requires-in-Both-2 l c =
    let fits : length c.args.buffers.now.origins.items < 2 ^ 64 = omega (arith, c.args.buffers.now.origins.ok.0, c.args.buffers.now.origins.small) in
    let is = ap term_of c.in-Coop.is in
    let ready = both_ready c.args.model.now c.args.buffers.now.marks.items c.args.buffers.now.origins.items fits _ _ _ _ c.args.at c.args.index c.find_source.result is c.find_source.ensures c.requires.traced _ _ _ _ c.in-Both.is in
    rw c.deref-in-Both-2.ensures (omega (arith, c.decreases, right_smaller _ _ _ _ is), (right_of_model c.args.model.now _ _ _ _ is c.requires.of_model, ready.1))

pub unreachable-requires : goal.unreachable-requires
unreachable-requires l c =
    let fits : length c.args.buffers.now.origins.items < 2 ^ 64 = omega (arith, c.args.buffers.now.origins.ok.0, c.args.buffers.now.origins.small) in
    let is = ap term_of c.in-Coop.is in
    never_lost c.args.model.now c.args.buffers.now.marks.items c.args.buffers.now.origins.items fits _ _ _ _ c.args.at c.args.index c.find_source.result is c.find_source.ensures c.requires.traced c.in-Lost.is

pub step_target-requires-in-Hide : goal.step_target-requires-in-Hide
step_target-requires-in-Hide l c =
    let fits : length c.args.buffers.now.origins.items < 2 ^ 64 = omega (arith, c.args.buffers.now.origins.ok.0, c.args.buffers.now.origins.small) in
    let is = ap term_of c.in-Hide.is in
    rw c.deref-in-Hide.ensures (omega (arith, c.decreases, inner_smaller _ _ _ is), (inner_of_model c.args.model.now _ _ _ is c.requires.of_model, inner_ready c.args.model.now c.args.buffers.now.marks.items c.args.buffers.now.origins.items fits _ _ _ c.args.at c.args.index is c.requires.traced))

pub returns-in-Leaf : goal.returns-in-Leaf
returns-in-Leaf l c =
    let fits : length c.args.buffers.now.origins.items < 2 ^ 64 = omega (arith, c.args.buffers.now.origins.ok.0, c.args.buffers.now.origins.small) in
    let is = ap term_of c.in-Leaf.is in
    leaf_aimed c.args.model.now c.args.buffers.now.marks.items c.args.buffers.now.origins.items fits _ _ c.args.at c.args.index _ is c.activities.ensures.stored _
    (slice_get-get_or c.activities.result.now c.args.index c.index-activities-index.result (leaf_inside c.args.model.now c.args.buffers.now.marks.items c.args.buffers.now.origins.items fits _ _ c.args.at c.args.index _ is c.activities.ensures.stored c.requires.traced))

pub returns-in_ok-copy-in-Left : goal.returns-in_ok-copy-in-Left
returns-in_ok-copy-in-Left l c =
    let fits : length c.args.buffers.now.origins.items < 2 ^ 64 = omega (arith, c.args.buffers.now.origins.ok.0, c.args.buffers.now.origins.small) in
    let is = ap term_of c.in-Coop.is in
    ok_then c.joined.result
    (λ made made_is. left_aimed c.args.model.now c.args.buffers.now.marks.items c.args.buffers.now.origins.items fits _ _ _ _ c.args.at c.args.index c.find_source.result is c.find_source.ensures _ _ c.in-Left.is _ _ _ (rw c.deref.ensures at c.in_ok-moved-in-Left.ensures) (rw c.deref-in-Left.ensures at c.in_ok-copy-in-Left.ensures) made_is)
    c.joined.ensures

pub returns-in_ok-copy-in-Right : goal.returns-in_ok-copy-in-Right
returns-in_ok-copy-in-Right l c =
    let fits : length c.args.buffers.now.origins.items < 2 ^ 64 = omega (arith, c.args.buffers.now.origins.ok.0, c.args.buffers.now.origins.small) in
    let is = ap term_of c.in-Coop.is in
    ok_then c.joined-in-Right.result
    (λ made made_is. right_aimed c.args.model.now c.args.buffers.now.marks.items c.args.buffers.now.origins.items fits _ _ _ _ c.args.at c.args.index c.find_source.result is c.find_source.ensures _ _ c.in-Right.is _ _ _ (rw c.deref-in-Right.ensures at c.in_ok-moved-in-Right.ensures) (rw c.deref-in-Right-2.ensures at c.in_ok-copy-in-Right.ensures) made_is)
    c.joined-in-Right.ensures

pub returns-in_ok-other-in-Both : goal.returns-in_ok-other-in-Both
returns-in_ok-other-in-Both l c =
    let fits : length c.args.buffers.now.origins.items < 2 ^ 64 = omega (arith, c.args.buffers.now.origins.ok.0, c.args.buffers.now.origins.small) in
    let is = ap term_of c.in-Coop.is in
    ok_then c.joined-in-Both.result
    (λ made made_is. both_aimed c.args.model.now c.args.buffers.now.marks.items c.args.buffers.now.origins.items fits _ _ _ _ c.args.at c.args.index c.find_source.result is c.find_source.ensures _ _ _ _ c.in-Both.is _ _ _ (rw c.deref-in-Both.ensures at c.in_ok-moved-in-Both.ensures) (rw c.deref-in-Both-2.ensures at c.in_ok-other-in-Both.ensures) made_is)
    c.joined-in-Both.ensures

pub returns-in_ok-moved-in-Hide : goal.returns-in_ok-moved-in-Hide
returns-in_ok-moved-in-Hide l c =
    let fits : length c.args.buffers.now.origins.items < 2 ^ 64 = omega (arith, c.args.buffers.now.origins.ok.0, c.args.buffers.now.origins.small) in
    let is = ap term_of c.in-Hide.is in
    ok_then c.hiding.result
    (λ made made_is. inner_aimed c.args.model.now c.args.buffers.now.marks.items c.args.buffers.now.origins.items fits _ _ _ c.args.at c.args.index is _ _ (rw c.deref-in-Hide.ensures at c.in_ok-moved-in-Hide.ensures) made_is)
    c.hiding.ensures
