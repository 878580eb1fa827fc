-- Each end of an offer.
use Rattle.std.proofs.Common.{◌∙◌, sym}
use Rattle.std.proofs.lemmas.Bool.{eqb-true, eqb-false}
use Rattle.list_store.proofs.ListReads.{front_on}
use Rattle.list_store.proofs.Offering.{offer_already, claims_next, claim_refused, claim_stores, swaps_next, swap_first, swap_already}
use Rattle.list_store.proofs.publishing.publish.Goals as goal

pub returns-then-step_load_list-ne0-clause-published : goal.returns-then-step_load_list-ne0-clause-published
returns-then-step_load_list-ne0-clause-published g c =
    let u = c.args.pass.now.view in
    let a = c.step_load_list.new.pass.view in
    (offer_already g.M.Meaning.lawful g.M.Meaning.allowed g.M.Meaning.stands c.args.table.now.setting c.args.number c.args.words.now u c.requires.idle a c.step_load_list.result c.step_load_list.ensures.step c.if-step_load_list-ne0.true c.requires.unlisted
    c.step_load_list.ensures.stays).0

pub returns-then-not-step_claim_block-clause-seat : goal.returns-then-not-step_claim_block-clause-seat
returns-then-not-step_claim_block-clause-seat g c =
    let u = c.args.pass.now.view in
    let a = c.step_load_list.new.pass.view in
    let next = claims_next g.M.Meaning.lawful g.M.Meaning.allowed g.M.Meaning.stands c.args.table.now.setting c.args.number c.args.words.now u c.requires.idle a c.step_load_list.result c.step_load_list.ensures.step c.if-step_load_list-ne0.false
    (sym c.no_room.ensures ∙ c.if-no_room.false) in
    let b = c.step_claim_block.new.pass.view in
    let claim = c.step_claim_block.ensures.step in
    (claim_refused g.M.Meaning.lawful g.M.Meaning.allowed g.M.Meaning.stands c.args.table.now.setting c.args.number c.args.words.now u c.requires.idle a c.step_load_list.ensures.front next.0 next.1 b claim.0 claim.1 (sym claim.2 ∙ c.if-not-step_claim_block.true)
    (c.step_claim_block.ensures.room c.if-not-step_claim_block.true)).1

pub store_all-requires-clause-storing : goal.store_all-requires-clause-storing
store_all-requires-clause-storing g c =
    let u = c.args.pass.now.view in
    let a = c.step_load_list.new.pass.view in
    let next = claims_next g.M.Meaning.lawful g.M.Meaning.allowed g.M.Meaning.stands c.args.table.now.setting c.args.number c.args.words.now u c.requires.idle a c.step_load_list.result c.step_load_list.ensures.step c.if-step_load_list-ne0.false
    (sym c.no_room.ensures ∙ c.if-no_room.false) in
    let b = c.step_claim_block.new.pass.view in
    let claim = c.step_claim_block.ensures.step in
    let begun = claim_stores g.M.Meaning.lawful g.M.Meaning.allowed g.M.Meaning.stands c.args.table.now.setting c.args.number c.args.words.now u c.requires.idle a c.step_load_list.ensures.front next.0 next.1 b claim.0 claim.1
    (sym claim.2 ∙ c.if-not-step_claim_block.false) next.2 c.step_claim_block.ensures.front in
    (c.args.number, u, begun)

pub step_swap_list-requires-clause-next : goal.step_swap_list-requires-clause-next
step_swap_list-requires-clause-next g c =
    let u = c.args.pass.now.view in
    let a = c.step_load_list.new.pass.view in
    let next = claims_next g.M.Meaning.lawful g.M.Meaning.allowed g.M.Meaning.stands c.args.table.now.setting c.args.number c.args.words.now u c.requires.idle a c.step_load_list.result c.step_load_list.ensures.step c.if-step_load_list-ne0.false
    (sym c.no_room.ensures ∙ c.if-no_room.false) in
    let b = c.step_claim_block.new.pass.view in
    let claim = c.step_claim_block.ensures.step in
    let begun = claim_stores g.M.Meaning.lawful g.M.Meaning.allowed g.M.Meaning.stands c.args.table.now.setting c.args.number c.args.words.now u c.requires.idle a c.step_load_list.ensures.front next.0 next.1 b claim.0 claim.1
    (sym claim.2 ∙ c.if-not-step_claim_block.false) next.2 c.step_claim_block.ensures.front in
    let d = c.store_all.new.pass.view in
    let stored = c.store_all.ensures.stored c.args.number u begun in
    swaps_next c.args.number c.args.words.now u d stored

pub returns-then-step_swap_list-clause-published : goal.returns-then-step_swap_list-clause-published
returns-then-step_swap_list-clause-published g c =
    let u = c.args.pass.now.view in
    let a = c.step_load_list.new.pass.view in
    let next = claims_next g.M.Meaning.lawful g.M.Meaning.allowed g.M.Meaning.stands c.args.table.now.setting c.args.number c.args.words.now u c.requires.idle a c.step_load_list.result c.step_load_list.ensures.step c.if-step_load_list-ne0.false
    (sym c.no_room.ensures ∙ c.if-no_room.false) in
    let b = c.step_claim_block.new.pass.view in
    let claim = c.step_claim_block.ensures.step in
    let begun = claim_stores g.M.Meaning.lawful g.M.Meaning.allowed g.M.Meaning.stands c.args.table.now.setting c.args.number c.args.words.now u c.requires.idle a c.step_load_list.ensures.front next.0 next.1 b claim.0 claim.1
    (sym claim.2 ∙ c.if-not-step_claim_block.false) next.2 c.step_claim_block.ensures.front in
    let d = c.store_all.new.pass.view in
    let stored = c.store_all.ensures.stored c.args.number u begun in
    let e = c.step_swap_list.new.pass.view in
    let swap = c.step_swap_list.ensures.step in
    let first = swap_first g.M.Meaning.lawful g.M.Meaning.allowed g.M.Meaning.stands c.args.table.now.setting c.args.number c.args.words.now u d e swap.0 stored swap.1 (eqb-true swap.0 0 (sym swap.2 ∙ c.if-step_swap_list.true)) in
    first.0

pub returns-then-step_swap_list-clause-seat : goal.returns-then-step_swap_list-clause-seat
returns-then-step_swap_list-clause-seat g c =
    let u = c.args.pass.now.view in
    let a = c.step_load_list.new.pass.view in
    let next = claims_next g.M.Meaning.lawful g.M.Meaning.allowed g.M.Meaning.stands c.args.table.now.setting c.args.number c.args.words.now u c.requires.idle a c.step_load_list.result c.step_load_list.ensures.step c.if-step_load_list-ne0.false
    (sym c.no_room.ensures ∙ c.if-no_room.false) in
    let b = c.step_claim_block.new.pass.view in
    let claim = c.step_claim_block.ensures.step in
    let begun = claim_stores g.M.Meaning.lawful g.M.Meaning.allowed g.M.Meaning.stands c.args.table.now.setting c.args.number c.args.words.now u c.requires.idle a c.step_load_list.ensures.front next.0 next.1 b claim.0 claim.1
    (sym claim.2 ∙ c.if-not-step_claim_block.false) next.2 c.step_claim_block.ensures.front in
    let d = c.store_all.new.pass.view in
    let stored = c.store_all.ensures.stored c.args.number u begun in
    let e = c.step_swap_list.new.pass.view in
    let swap = c.step_swap_list.ensures.step in
    let first = swap_first g.M.Meaning.lawful g.M.Meaning.allowed g.M.Meaning.stands c.args.table.now.setting c.args.number c.args.words.now u d e swap.0 stored swap.1 (eqb-true swap.0 0 (sym swap.2 ∙ c.if-step_swap_list.true)) in
    first.1

pub returns-then-step_swap_list-clause-front : goal.returns-then-step_swap_list-clause-front
returns-then-step_swap_list-clause-front g c =
    let u = c.args.pass.now.view in
    let a = c.step_load_list.new.pass.view in
    let next = claims_next g.M.Meaning.lawful g.M.Meaning.allowed g.M.Meaning.stands c.args.table.now.setting c.args.number c.args.words.now u c.requires.idle a c.step_load_list.result c.step_load_list.ensures.step c.if-step_load_list-ne0.false
    (sym c.no_room.ensures ∙ c.if-no_room.false) in
    let b = c.step_claim_block.new.pass.view in
    let claim = c.step_claim_block.ensures.step in
    let begun = claim_stores g.M.Meaning.lawful g.M.Meaning.allowed g.M.Meaning.stands c.args.table.now.setting c.args.number c.args.words.now u c.requires.idle a c.step_load_list.ensures.front next.0 next.1 b claim.0 claim.1
    (sym claim.2 ∙ c.if-not-step_claim_block.false) next.2 c.step_claim_block.ensures.front in
    let d = c.store_all.new.pass.view in
    let stored = c.store_all.ensures.stored c.args.number u begun in
    let e = c.step_swap_list.new.pass.view in
    let swap = c.step_swap_list.ensures.step in
    front_on u.front d.front e.front stored.front c.step_swap_list.ensures.front

pub returns-else-step_swap_list-clause-published : goal.returns-else-step_swap_list-clause-published
returns-else-step_swap_list-clause-published g c =
    let u = c.args.pass.now.view in
    let a = c.step_load_list.new.pass.view in
    let next = claims_next g.M.Meaning.lawful g.M.Meaning.allowed g.M.Meaning.stands c.args.table.now.setting c.args.number c.args.words.now u c.requires.idle a c.step_load_list.result c.step_load_list.ensures.step c.if-step_load_list-ne0.false
    (sym c.no_room.ensures ∙ c.if-no_room.false) in
    let b = c.step_claim_block.new.pass.view in
    let claim = c.step_claim_block.ensures.step in
    let begun = claim_stores g.M.Meaning.lawful g.M.Meaning.allowed g.M.Meaning.stands c.args.table.now.setting c.args.number c.args.words.now u c.requires.idle a c.step_load_list.ensures.front next.0 next.1 b claim.0 claim.1
    (sym claim.2 ∙ c.if-not-step_claim_block.false) next.2 c.step_claim_block.ensures.front in
    let d = c.store_all.new.pass.view in
    let stored = c.store_all.ensures.stored c.args.number u begun in
    let e = c.step_swap_list.new.pass.view in
    let swap = c.step_swap_list.ensures.step in
    let already = swap_already g.M.Meaning.lawful g.M.Meaning.allowed g.M.Meaning.stands c.args.table.now.setting c.args.number c.args.words.now u d e swap.0 stored swap.1 (eqb-false swap.0 0 (sym swap.2 ∙ c.if-step_swap_list.false)) c.step_swap_list.ensures.stays.legal in
    already.0

pub returns-else-step_swap_list-clause-seat : goal.returns-else-step_swap_list-clause-seat
returns-else-step_swap_list-clause-seat g c =
    let u = c.args.pass.now.view in
    let a = c.step_load_list.new.pass.view in
    let next = claims_next g.M.Meaning.lawful g.M.Meaning.allowed g.M.Meaning.stands c.args.table.now.setting c.args.number c.args.words.now u c.requires.idle a c.step_load_list.result c.step_load_list.ensures.step c.if-step_load_list-ne0.false
    (sym c.no_room.ensures ∙ c.if-no_room.false) in
    let b = c.step_claim_block.new.pass.view in
    let claim = c.step_claim_block.ensures.step in
    let begun = claim_stores g.M.Meaning.lawful g.M.Meaning.allowed g.M.Meaning.stands c.args.table.now.setting c.args.number c.args.words.now u c.requires.idle a c.step_load_list.ensures.front next.0 next.1 b claim.0 claim.1
    (sym claim.2 ∙ c.if-not-step_claim_block.false) next.2 c.step_claim_block.ensures.front in
    let d = c.store_all.new.pass.view in
    let stored = c.store_all.ensures.stored c.args.number u begun in
    let e = c.step_swap_list.new.pass.view in
    let swap = c.step_swap_list.ensures.step in
    let already = swap_already g.M.Meaning.lawful g.M.Meaning.allowed g.M.Meaning.stands c.args.table.now.setting c.args.number c.args.words.now u d e swap.0 stored swap.1 (eqb-false swap.0 0 (sym swap.2 ∙ c.if-step_swap_list.false)) c.step_swap_list.ensures.stays.legal in
    already.1

pub returns-else-step_swap_list-clause-front : goal.returns-else-step_swap_list-clause-front
returns-else-step_swap_list-clause-front g c =
    let u = c.args.pass.now.view in
    let a = c.step_load_list.new.pass.view in
    let next = claims_next g.M.Meaning.lawful g.M.Meaning.allowed g.M.Meaning.stands c.args.table.now.setting c.args.number c.args.words.now u c.requires.idle a c.step_load_list.result c.step_load_list.ensures.step c.if-step_load_list-ne0.false
    (sym c.no_room.ensures ∙ c.if-no_room.false) in
    let b = c.step_claim_block.new.pass.view in
    let claim = c.step_claim_block.ensures.step in
    let begun = claim_stores g.M.Meaning.lawful g.M.Meaning.allowed g.M.Meaning.stands c.args.table.now.setting c.args.number c.args.words.now u c.requires.idle a c.step_load_list.ensures.front next.0 next.1 b claim.0 claim.1
    (sym claim.2 ∙ c.if-not-step_claim_block.false) next.2 c.step_claim_block.ensures.front in
    let d = c.store_all.new.pass.view in
    let stored = c.store_all.ensures.stored c.args.number u begun in
    let e = c.step_swap_list.new.pass.view in
    let swap = c.step_swap_list.ensures.step in
    front_on u.front d.front e.front stored.front c.step_swap_list.ensures.front
