use Rattle.std.proofs.Common.{List, sym, subst, ◌∙◌}
use Rattle.std.proofs.lemmas.Result.{err_from_is_err_and}
use Rattle.pepa_lexer.specs.declared.kinds.Token.{Token}
use Rattle.pepa_lexer.specs.TokenLists.{IsTokens}
use Rattle.token_grammar.specs.Terminals.{terminals}
use Rattle.pepa_reader.specs.FileAnswers.{IsFileTree}
use Rattle.sim_command.proofs.ModelReading.{no_file, has_model, no_model}
use Rattle.sim_command.proofs.model_reading.read_model.Goals as goal

pub returns-in_err-tree : goal.returns-in_err-tree
returns-in_err-tree c =
    let p = err_from_is_err_and c.from_residual-in_err-tree.result c.from_residual-in_err-tree.ensures.1 in
    let are = subst (λ (l : List Token). IsTokens c.args.input.now l) (sym c.as_slice.ensures) c.in_ok-tokens.ensures in
    rw p.1 (no_file c.args.input.now c.as_slice.result.now are _ _ p.2 c.in_err-tree.ensures)

pub returns-in_err-check : goal.returns-in_err-check
returns-in_err-check c =
    let p = err_from_is_err_and c.from_residual-in_err-check.result c.from_residual-in_err-check.ensures.1 in
    let are = subst (λ (l : List Token). IsTokens c.args.input.now l) (sym c.as_slice-2.ensures) c.in_ok-tokens.ensures in
    let tree =
    subst (λ (l : List Token). IsFileTree (terminals c.args.input.now l) c.in_ok-tree.tree) (c.as_slice.ensures ∙ sym c.as_slice-2.ensures) c.in_ok-tree.ensures in
    rw p.1 (no_model c.args.input.now c.as_slice-2.result.now are c.in_ok-tree.tree tree _ _ p.2 c.in_err-check.ensures)

pub returns : goal.returns
returns c =
    let are = subst (λ (l : List Token). IsTokens c.args.input.now l) (sym c.as_slice-2.ensures) c.in_ok-tokens.ensures in
    let tree =
    subst (λ (l : List Token). IsFileTree (terminals c.args.input.now l) c.in_ok-tree.tree) (c.as_slice.ensures ∙ sym c.as_slice-2.ensures) c.in_ok-tree.ensures in
    has_model c.args.input.now c.as_slice-2.result.now are c.in_ok-tree.tree tree c.in_ok-check.field-0 c.requires c.in_ok-check.ensures
