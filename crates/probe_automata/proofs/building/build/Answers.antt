use Rattle.std.proofs.Common.{refl, arith, subst, List, ℕ, Err}
use Rattle.std.proofs.lemmas.Result.{err_from_is_err_and}
use Rattle.probe_words.specs.declared.position_list.Position.{Position}
use Rattle.probe_automata.specs.Exploring.{Explores, IsExplored}
use Rattle.probe_automata.specs.Signals.{AreSignals}
use Rattle.probe_automata.proofs.Tables.{is_table, table_shape, explore_fails, are_parts}
use Rattle.probe_automata.proofs.building.build.Goals as goal

pub returns-in_err-sets : goal.returns-in_err-sets
returns-in_err-sets c =
    let parts = are_parts c.args.positions.now c.as_slice-each.result.now c.in_ok-letters.letters c.as_slice-2.result.now c.in_ok-guards.guards c.as_slice.result.now c.in_ok-filters.filters c.as_slice-each.ensures c.as_slice-2.ensures c.as_slice.ensures c.in_ok-letters.ensures c.in_ok-guards.ensures c.in_ok-filters.ensures in
    let p = err_from_is_err_and c.from_residual-in_err-sets.result c.from_residual-in_err-sets.ensures.1 in
    rw (p.1, p.2) (explore_fails c.args.positions.now c.in_ok-letters.letters c.in_ok-guards.guards c.in_ok-filters.filters parts.parts_letters parts.parts_guards parts.parts_rows c.in_err-sets.field-0.0 (let l = c.if-len-gt-GUARD_LIMIT.false in let k = c.len.ensures in omega arith)
    (subst (λ (z : List ℕ). Explores c.args.positions.now z (Err c.in_err-sets.field-0.0)) c.as_slice-3.ensures c.in_err-sets.ensures))

pub invariant_of-result : goal.invariant_of-result
invariant_of-result c =
    let parts = are_parts c.args.positions.now c.as_slice-each.result.now c.in_ok-letters.letters c.as_slice-2.result.now c.in_ok-guards.guards c.as_slice.result.now c.in_ok-filters.filters c.as_slice-each.ensures c.as_slice-2.ensures c.as_slice.ensures c.in_ok-letters.ensures c.in_ok-guards.ensures c.in_ok-filters.ensures in
    record {
      shape = table_shape c.args.positions.now c.in_ok-letters.letters c.in_ok-guards.guards c.in_ok-filters.filters parts.parts_letters parts.parts_guards parts.parts_rows c.len-2.result c.in_ok-sets.field-0.sets.keys c.in_ok-sets.field-0.moves c.in_ok-signals.signals
          (subst (λ (z : List ℕ). IsExplored c.args.positions.now z c.in_ok-sets.field-0.sets.keys c.in_ok-sets.field-0.moves) c.as_slice-3.ensures c.in_ok-sets.ensures)
          (subst (λ (z : List Position). AreSignals z c.in_ok-sets.field-0.sets.keys c.in_ok-signals.signals) c.as_slice-each.ensures c.in_ok-signals.ensures) c.len-2.ensures.len;
    }

pub returns : goal.returns
returns c =
    let parts = are_parts c.args.positions.now c.as_slice-each.result.now c.in_ok-letters.letters c.as_slice-2.result.now c.in_ok-guards.guards c.as_slice.result.now c.in_ok-filters.filters c.as_slice-each.ensures c.as_slice-2.ensures c.as_slice.ensures c.in_ok-letters.ensures c.in_ok-guards.ensures c.in_ok-filters.ensures in
    is_table c.args.positions.now c.in_ok-letters.letters c.in_ok-guards.guards c.in_ok-filters.filters parts.parts_letters parts.parts_guards parts.parts_rows _ c.in_ok-sets.field-0.sets.keys
    (subst (λ (z : List ℕ). IsExplored c.args.positions.now z c.in_ok-sets.field-0.sets.keys c.in_ok-sets.field-0.moves) c.as_slice-3.ensures c.in_ok-sets.ensures)
    (subst (λ (z : List Position). AreSignals z c.in_ok-sets.field-0.sets.keys c.in_ok-signals.signals) c.as_slice-each.ensures c.in_ok-signals.ensures) refl refl c.len-2.ensures.len
    (let l = c.if-len-gt-GUARD_LIMIT.false in let k = c.len.ensures in omega arith)
