-- The three words are those of the entry.
use Rattle.std.proofs.Common.{◌<◌, arith}
use Rattle.list_store.proofs.ListReads.{front_on, longer_on, place_small, three_words}
use Rattle.list_store.proofs.reading.list_entry.Goals as goal

pub overflow_mul-first : goal.overflow_mul-first
overflow_mul-first g c =
    let f = c.step_load_list.new.pass.view.front in
    let low : c.args.at < 4096 = place_small c.args.table.now.setting.shape f c.args.number c.args.at c.step_load_list.ensures.stays.legal
    (longer_on c.args.pass.now.view.front f c.args.number c.args.at c.step_load_list.ensures.front c.requires.longer) in
    omega arith

pub overflow_add-first : goal.overflow_add-first
overflow_add-first g c =
    let f = c.step_load_list.new.pass.view.front in
    let low : c.args.at < 4096 = place_small c.args.table.now.setting.shape f c.args.number c.args.at c.step_load_list.ensures.stays.legal
    (longer_on c.args.pass.now.view.front f c.args.number c.args.at c.step_load_list.ensures.front c.requires.longer) in
    omega arith

pub overflow_add-first-2 : goal.overflow_add-first-2
overflow_add-first-2 g c =
    let f = c.step_load_list.new.pass.view.front in
    let low : c.args.at < 4096 = place_small c.args.table.now.setting.shape f c.args.number c.args.at c.step_load_list.ensures.stays.legal
    (longer_on c.args.pass.now.view.front f c.args.number c.args.at c.step_load_list.ensures.front c.requires.longer) in
    omega arith

pub returns-clause-front : goal.returns-clause-front
returns-clause-front g c =
    let f = c.args.pass.now.view.front in
    let a = c.step_load_list.new.pass.view.front in
    let b = c.step_load_word-one.new.pass.view.front in
    let d = c.step_load_word-two.new.pass.view.front in
    let e = c.step_load_word-three.new.pass.view.front in
    front_on f a e c.step_load_list.ensures.front (front_on a b e c.step_load_word-one.ensures.front (front_on b d e c.step_load_word-two.ensures.front c.step_load_word-three.ensures.front))

pub returns-clause-entry : goal.returns-clause-entry
returns-clause-entry g c = three_words c.step_load_word-one.new.pass.view.front c.step_load_word-two.new.pass.view.front c.step_load_word-three.new.pass.view.front c.args.number c.args.at
    c.step_load_word-one.result c.step_load_word-two.result c.step_load_word-three.result c.step_load_word-two.ensures.front c.step_load_word-three.ensures.front
    c.step_load_word-one.ensures.word c.step_load_word-two.ensures.word c.step_load_word-three.ensures.word
