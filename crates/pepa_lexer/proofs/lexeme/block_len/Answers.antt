use Rattle.pepa_lexer.proofs.Blocks.{block_is}
use Rattle.pepa_lexer.proofs.lexeme.block_len.Goals as goal

pub returns-then-byte-eq47 : goal.returns-then-byte-eq47
returns-then-byte-eq47 c =
    let star = c.loop-at.invariant.star c.if-behind_star.true in
    block_is c.args.text.now c.loop-at.at star.0 c.loop-at-test.true star.1 c.if-byte-eq47.true c.loop-at.invariant.open_before
