use Rattle.std.proofs.Common.{refl}
use Rattle.std.proofs.lemmas.Result.{err_from_is_err_and}
use Rattle.token_grammar.specs.Cursors.{kinds_of}
use Rattle.pepa_reader.proofs.WordReading.{no_word, no_comma, one_more_listed, are_words}
use Rattle.pepa_reader.proofs.words.words.Goals as goal

pub returns-in_default-word : goal.returns-in_default-word
returns-in_default-word c = no_word (kinds_of c.args.text.now) c.args.at c.loop-behind.start c.args.close c.loop-behind.set c.loop-behind.invariant c.in_default-word.ensures

pub returns-in-Some-after : goal.returns-in-Some-after
returns-in-Some-after c =
    are_words (kinds_of c.args.text.now) c.args.at c.loop-behind.start c.in-Some-word.behind c.in-Some-after.next c.args.close (record { set = c.push.new.self; next = c.in-Some-after.next }) c.loop-behind.set c.in-Some-word.ensures.0 c.loop-behind.invariant c.in-Some-word.ensures.1 c.in-Some-after.ensures c.in_ok-push.ensures.ok refl

pub returns-in_err-start : goal.returns-in_err-start
returns-in_err-start c =
    let p = err_from_is_err_and c.from_residual-in_err-start.result c.from_residual-in_err-start.ensures.1 in
    rw (p.1, p.2) (no_comma (kinds_of c.args.text.now) c.args.at c.loop-behind.start c.in-Some-word.behind c.args.close c.loop-behind.set c.in-Some-word.ensures.0 c.in_err-start.field-0.0 c.loop-behind.invariant c.in-Some-word.ensures.1 c.in_default-after.ensures c.in_err-start.ensures)

pub loop-behind-preserved : goal.loop-behind-preserved
loop-behind-preserved c =
    rw c.in_ok-push.ensures.ok (one_more_listed (kinds_of c.args.text.now) c.args.at c.loop-behind.start c.in-Some-word.behind c.in_ok-start.start c.args.close c.loop-behind.set c.in-Some-word.ensures.0 c.loop-behind.invariant c.in-Some-word.ensures.1 c.in_ok-start.ensures)
