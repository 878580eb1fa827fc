use Rattle.std.proofs.Common.{arith, ◌≡◌, length, refl, []}
use Rattle.probe_words.specs.Twins.{pattern_of}
use Rattle.probe_words.specs.CoreForm.{core_of}
use Rattle.std.proofs.lemmas.Result.{err_from_is_err_and}
use Rattle.probe_words.proofs.LayingParts.{small_firsts, adds_at}
use Rattle.probe_words.proofs.PositionLists.{are_positions, positions_answer, positions_refused, position_sets}
use Rattle.probe_words.proofs.numbering.positions.Goals as goal

pub set_of-first-requires : goal.set_of-first-requires
set_of-first-requires c = small_firsts _ _ _ _ _ c.in_ok-part.ensures.0 c.in_ok-part.ensures.1

pub returns-clause-answer : goal.returns-clause-answer
returns-clause-answer c =
    let z : length c.new.result ≡ 0 = rw c.new.ensures refl in
    let l = rw c.as_slice.ensures at c.in_ok-each.ensures in
    positions_answer (pattern_of c.args.expr.now) c.requires _ (are_positions _ _ c.add.new.work c.in_ok-part.part _ (adds_at _ _ 0 _ _ _ z c.in_ok-part.ensures.0) l refl refl refl c.set_of-first.ensures)
    (length c.add.new.work.places) (adds_at _ _ 0 _ _ _ z c.in_ok-part.ensures.0).count c.in_ok-part.ensures.1

pub returns-in_err-part-clause-answer : goal.returns-in_err-part-clause-answer
returns-in_err-part-clause-answer c =
    let z : length c.new.result ≡ 0 = rw c.new.ensures refl in
    let p = err_from_is_err_and c.from_residual.result c.from_residual.ensures.1 in
    rw (p.1, p.2) (positions_refused (pattern_of c.args.expr.now) c.requires (length c.new.result) z c.in_err-part.field-0.0 (record { places = c.new.result; labels = []; follow = [] }) c.add.new.work refl c.in_err-part.ensures)

pub returns-clause-sets : goal.returns-clause-sets
returns-clause-sets c =
    let z : length c.new.result ≡ 0 = rw c.new.ensures refl in
    let l = rw c.as_slice.ensures at c.in_ok-each.ensures in
    let a = adds_at _ _ 0 _ _ _ z c.in_ok-part.ensures.0 in
    position_sets (core_of (pattern_of c.args.expr.now)) _ (are_positions _ _ c.add.new.work c.in_ok-part.part _ a l refl refl refl c.set_of-first.ensures)
    (let n = a.count in let f = c.in_ok-part.ensures.1 in omega arith)
