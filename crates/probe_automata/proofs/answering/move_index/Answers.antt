use Rattle.std.proofs.Common.{◌<◌, ◌*◌, ◌%◌, ◌^◌, ℕ, length, ◌∙◌, ap, arith}
use Rattle.probe_automata.proofs.Entries.{few_bits, shifted, row_fits, rows_fit, letters_fit, letter_fits, entry_fits, entry_is, entry_within}
use Rattle.probe_automata.proofs.answering.move_index.Goals as goal

pub overflow_shl-width : goal.overflow_shl-width
overflow_shl-width c =
    let small : length c.args.table.now.moves < 2 ^ 64 = (let e = c.len-moves.ensures in let f = c.len-moves.type_inv in omega arith) in
    rw c.len-width.ensures (few_bits c.args.state c.args.table.now.states c.args.at (length c.args.table.now.letters) c.args.valuation (length c.args.table.now.guards) (length c.args.table.now.moves) c.requires.state c.requires.letter c.requires.valuation c.args.table.now.shape.moves_count small)

pub overflow_mul-result : goal.overflow_mul-result
overflow_mul-result c =
    let small : length c.args.table.now.moves < 2 ^ 64 = (let e = c.len-moves.ensures in let f = c.len-moves.type_inv in omega arith) in
    let w = ap (λ (z : ℕ). 1 * 2 ^ z % 18446744073709551616) c.len-width.ensures ∙ shifted c.args.state c.args.table.now.states c.args.at (length c.args.table.now.letters) c.args.valuation (length c.args.table.now.guards) (length c.args.table.now.moves) c.requires.state c.requires.letter c.requires.valuation c.args.table.now.shape.moves_count small in
    let f = row_fits c.args.state c.args.table.now.states c.args.at (length c.args.table.now.letters) c.args.valuation (length c.args.table.now.guards) (length c.args.table.now.moves) c.requires.state c.requires.letter c.requires.valuation c.args.table.now.shape.moves_count small _ _ c.len.ensures w in omega arith

pub overflow_mul-result-2 : goal.overflow_mul-result-2
overflow_mul-result-2 c =
    let small : length c.args.table.now.moves < 2 ^ 64 = (let e = c.len-moves.ensures in let f = c.len-moves.type_inv in omega arith) in
    let w = ap (λ (z : ℕ). 1 * 2 ^ z % 18446744073709551616) c.len-width.ensures ∙ shifted c.args.state c.args.table.now.states c.args.at (length c.args.table.now.letters) c.args.valuation (length c.args.table.now.guards) (length c.args.table.now.moves) c.requires.state c.requires.letter c.requires.valuation c.args.table.now.shape.moves_count small in
    let f = rows_fit c.args.state c.args.table.now.states c.args.at (length c.args.table.now.letters) c.args.valuation (length c.args.table.now.guards) (length c.args.table.now.moves) c.requires.state c.requires.letter c.requires.valuation c.args.table.now.shape.moves_count small _ _ c.len.ensures w in omega arith

pub overflow_mul-result-3 : goal.overflow_mul-result-3
overflow_mul-result-3 c =
    let small : length c.args.table.now.moves < 2 ^ 64 = (let e = c.len-moves.ensures in let f = c.len-moves.type_inv in omega arith) in
    let w = ap (λ (z : ℕ). 1 * 2 ^ z % 18446744073709551616) c.len-width.ensures ∙ shifted c.args.state c.args.table.now.states c.args.at (length c.args.table.now.letters) c.args.valuation (length c.args.table.now.guards) (length c.args.table.now.moves) c.requires.state c.requires.letter c.requires.valuation c.args.table.now.shape.moves_count small in
    let f = letters_fit c.args.state c.args.table.now.states c.args.at (length c.args.table.now.letters) c.args.valuation (length c.args.table.now.guards) (length c.args.table.now.moves) c.requires.state c.requires.letter c.requires.valuation c.args.table.now.shape.moves_count small _ w in omega arith

pub overflow_add-result : goal.overflow_add-result
overflow_add-result c =
    let small : length c.args.table.now.moves < 2 ^ 64 = (let e = c.len-moves.ensures in let f = c.len-moves.type_inv in omega arith) in
    let w = ap (λ (z : ℕ). 1 * 2 ^ z % 18446744073709551616) c.len-width.ensures ∙ shifted c.args.state c.args.table.now.states c.args.at (length c.args.table.now.letters) c.args.valuation (length c.args.table.now.guards) (length c.args.table.now.moves) c.requires.state c.requires.letter c.requires.valuation c.args.table.now.shape.moves_count small in
    let f = letter_fits c.args.state c.args.table.now.states c.args.at (length c.args.table.now.letters) c.args.valuation (length c.args.table.now.guards) (length c.args.table.now.moves) c.requires.state c.requires.letter c.requires.valuation c.args.table.now.shape.moves_count small _ w in omega arith

pub overflow_add-result-2 : goal.overflow_add-result-2
overflow_add-result-2 c =
    let small : length c.args.table.now.moves < 2 ^ 64 = (let e = c.len-moves.ensures in let f = c.len-moves.type_inv in omega arith) in
    let w = ap (λ (z : ℕ). 1 * 2 ^ z % 18446744073709551616) c.len-width.ensures ∙ shifted c.args.state c.args.table.now.states c.args.at (length c.args.table.now.letters) c.args.valuation (length c.args.table.now.guards) (length c.args.table.now.moves) c.requires.state c.requires.letter c.requires.valuation c.args.table.now.shape.moves_count small in
    let f = entry_fits c.args.state c.args.table.now.states c.args.at (length c.args.table.now.letters) c.args.valuation (length c.args.table.now.guards) (length c.args.table.now.moves) c.requires.state c.requires.letter c.requires.valuation c.args.table.now.shape.moves_count small _ _ c.len.ensures w in omega arith

pub returns-clause-index : goal.returns-clause-index
returns-clause-index c =
    let small : length c.args.table.now.moves < 2 ^ 64 = (let e = c.len-moves.ensures in let f = c.len-moves.type_inv in omega arith) in
    let w = ap (λ (z : ℕ). 1 * 2 ^ z % 18446744073709551616) c.len-width.ensures ∙ shifted c.args.state c.args.table.now.states c.args.at (length c.args.table.now.letters) c.args.valuation (length c.args.table.now.guards) (length c.args.table.now.moves) c.requires.state c.requires.letter c.requires.valuation c.args.table.now.shape.moves_count small in
    entry_is c.args.state c.args.table.now.states c.args.at (length c.args.table.now.letters) c.args.valuation (length c.args.table.now.guards) (length c.args.table.now.moves) c.requires.state c.requires.letter c.requires.valuation c.args.table.now.shape.moves_count small _ _ c.len.ensures w

pub returns-clause-within : goal.returns-clause-within
returns-clause-within c =
    let small : length c.args.table.now.moves < 2 ^ 64 = (let e = c.len-moves.ensures in let f = c.len-moves.type_inv in omega arith) in
    let w = ap (λ (z : ℕ). 1 * 2 ^ z % 18446744073709551616) c.len-width.ensures ∙ shifted c.args.state c.args.table.now.states c.args.at (length c.args.table.now.letters) c.args.valuation (length c.args.table.now.guards) (length c.args.table.now.moves) c.requires.state c.requires.letter c.requires.valuation c.args.table.now.shape.moves_count small in
    entry_within c.args.state c.args.table.now.states c.args.at (length c.args.table.now.letters) c.args.valuation (length c.args.table.now.guards) (length c.args.table.now.moves) c.requires.state c.requires.letter c.requires.valuation c.args.table.now.shape.moves_count small _ _ c.len.ensures w
