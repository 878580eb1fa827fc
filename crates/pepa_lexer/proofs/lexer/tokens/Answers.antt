use Rattle.std.proofs.Common.{◌+◌, List, ◌++◌, length, take, drop, ℕ, Option, sym, ap, ◌∙◌, arith, append-nil, length-drop}
use Rattle.std.proofs.lemmas.List.{drop-drop}
use Rattle.pepa_lexer.specs.TokenLists.{place_after, token_at}
use Rattle.pepa_lexer.specs.declared.kinds.Kind.{Kind}
use Rattle.pepa_lexer.proofs.Lexing.{next_done, next_front, column_fits}
use Rattle.pepa_lexer.proofs.lexer.tokens.Goals as goal
use Rattle.pepa_lexer.proofs.lexer.tokens.Goals.{in-Some+in_ok-push, in_default}

pub place_behind-place-requires-clause-column : goal.place_behind-place-requires-clause-column
place_behind-place-requires-clause-column c =
    let column = column_fits c.args.input.now c.loop-rest.from c.loop-rest.place c.loop-rest.invariant.within c.loop-rest.invariant.place in
    let d = length-drop c.loop-rest.from c.args.input.now in
    let left = ap length c.loop-rest.invariant.left in
    omega arith

pub loop-rest-preserved : goal.loop-rest-preserved
loop-rest-preserved c =
    let input = c.args.input.now in
    let from = c.loop-rest.from in
    let scanned = c.in_ok-scanned.scanned in
    let place = c.loop-rest.place in
    let d = length-drop from input in
    let left = ap length c.loop-rest.invariant.left in
    record {
      within = omega arith;
      left = c.split_at.ensures.back ∙ ap (λ (xs : List ℕ). drop scanned.len xs) c.loop-rest.invariant.left ∙ drop-drop scanned.len from input;
      place = c.place_behind-place.ensures (take from input) c.loop-rest.invariant.place ∙ ap place_after (next_front input c.loop-rest.rest.now c.split_at.result.0.now from scanned.len c.loop-rest.invariant.left c.split_at.ensures.front);
      done = next_done input c.loop-rest.rest.now c.split_at.result.1.now from place c.loop-rest.list c.match-scanned.list scanned c.loop-rest.invariant.within c.loop-rest.invariant.left c.loop-rest.invariant.place c.loop-rest.invariant.done c.in_ok-scanned.ensures c.split_at.ensures.back
          (elim c.match-scanned.branch [
            | in-Some+in_ok-push w ↦ w.list-is ∙ w.in_ok-push.ensures.ok ∙ ap (λ (k : Option Kind). c.loop-rest.list ++ token_at k place from (from + scanned.len)) (sym w.in-Some.is)
            | in_default w ↦ w.list-is ∙ sym (append-nil c.loop-rest.list) ∙ ap (λ (k : Option Kind). c.loop-rest.list ++ token_at k place from (from + scanned.len)) (sym w.in_default.is)
          ]);
    }
