use Rattle.std.proofs.Common.{refl}
use Rattle.std.proofs.lemmas.Result.{err_from_is_err_and}
use Rattle.pepa_reader.specs.Grammar.{Constant}
use Rattle.token_grammar.specs.Cursors.{kinds_of}
use Rattle.pepa_reader.proofs.ProcessReading.{no_prefix, rest_fails, is_performing, group_fails, group_stays_open, is_group, is_one_prefix, no_brace, hiding_fails, is_hiding, is_one_hidden, choice_fails, is_chosen, is_one_choice, cooperation_fails, cooperation_found, right_fails, is_cooperating}
use Rattle.pepa_reader.proofs.processes.+process.Goals as goal

pub prefix-returns-in-Some : goal.prefix-returns-in-Some
prefix-returns-in-Some t c = record { prefix = Constant; spelled = c.in-Some.ensures.spelled; tree = refl }

pub prefix-returns-in_err-inside : goal.prefix-returns-in_err-inside
prefix-returns-in_err-inside t c =
    let p = err_from_is_err_and c.from_residual.result c.from_residual.ensures.1 in
    rw (p.1, p.2) (no_prefix (kinds_of c.args.text.now) c.args.at c.in_err-inside.field-0.0 c.in_default.ensures c.in_err-inside.ensures)

pub prefix-returns-in_err-rest : goal.prefix-returns-in_err-rest
prefix-returns-in_err-rest t c =
    let p = err_from_is_err_and c.from_residual-in_err-rest.result c.from_residual-in_err-rest.ensures.1 in
    rw (p.1, p.2) (rest_fails (kinds_of c.args.text.now) c.args.at c.in_ok-activity.activity c.in_err-rest.field-0.0 c.in_ok-activity.ensures c.in_err-rest.ensures)

pub prefix-returns-in-Some-word : goal.prefix-returns-in-Some-word
prefix-returns-in-Some-word t c = is_performing (kinds_of c.args.text.now) c.args.at c.in_ok-activity.activity c.in_ok-rest.rest c.in_ok-read.read c.in_ok-activity.ensures c.in_ok-rest.ensures c.in_ok-read.ensures.0 c.in_ok-read.ensures.1

pub prefix-returns-in_err-tree : goal.prefix-returns-in_err-tree
prefix-returns-in_err-tree t c =
    let p = err_from_is_err_and c.from_residual-in_err-tree.result c.from_residual-in_err-tree.ensures.1 in
    rw (p.1, p.2) (group_fails (kinds_of c.args.text.now) c.args.at c.in_ok-inside.inside c.in_err-tree.field-0.0 c.in_ok-inside.ensures c.in_default-word.ensures c.in_err-tree.ensures)

pub prefix-returns-in_err-next : goal.prefix-returns-in_err-next
prefix-returns-in_err-next t c =
    let p = err_from_is_err_and c.from_residual-in_err-next.result c.from_residual-in_err-next.ensures.1 in
    rw (p.1, p.2) (group_stays_open (kinds_of c.args.text.now) c.args.at c.in_ok-inside.inside c.in_ok-tree.field-0 c.in_err-next.field-0.0 c.in_ok-inside.ensures c.in_ok-tree.ensures.0 c.in_ok-tree.ensures.1 c.in_err-next.ensures)

pub prefix-returns : goal.prefix-returns
prefix-returns t c =
    is_group (kinds_of c.args.text.now) c.args.at c.in_ok-inside.inside c.in_ok-tree.field-0 (record { tree = c.in_ok-tree.field-0.tree; next = c.in_ok-next.next }) c.in_ok-inside.ensures c.in_ok-tree.ensures.0 c.in_ok-next.ensures refl

pub hidden-loop-brace-init : goal.hidden-loop-brace-init
hidden-loop-brace-init t c = is_one_prefix (kinds_of c.args.text.now) c.args.at c.in_ok-read.read c.in_ok-read.ensures

pub hidden-returns-in_err-inside : goal.hidden-returns-in_err-inside
hidden-returns-in_err-inside t c =
    let p = err_from_is_err_and c.from_residual-in_err-inside.result c.from_residual-in_err-inside.ensures.1 in
    rw (p.1, p.2) (no_brace (kinds_of c.args.text.now) c.args.at c.in-Some.brace c.loop-brace.read c.in_err-inside.field-0.0 c.loop-brace.invariant c.in-Some.ensures c.in_err-inside.ensures)

pub hidden-returns-in_err-words : goal.hidden-returns-in_err-words
hidden-returns-in_err-words t c =
    let p = err_from_is_err_and c.from_residual-in_err-words.result c.from_residual-in_err-words.ensures.1 in
    rw (p.1, p.2) (hiding_fails (kinds_of c.args.text.now) c.args.at c.in-Some.brace c.in_ok-inside.inside c.loop-brace.read c.in_err-words.field-0.0 c.loop-brace.invariant c.in-Some.ensures c.in_ok-inside.ensures c.in_err-words.ensures)

pub hidden-loop-brace-preserved : goal.hidden-loop-brace-preserved
hidden-loop-brace-preserved t c =
    is_hiding (kinds_of c.args.text.now) c.args.at c.in-Some.brace c.in_ok-inside.inside c.loop-brace.read c.in_ok-read-2.read c.in_ok-words.words c.loop-brace.invariant c.in-Some.ensures c.in_ok-inside.ensures c.in_ok-words.ensures c.in_ok-read-2.ensures.0 c.in_ok-read-2.ensures.1

pub choice-loop-behind-init : goal.choice-loop-behind-init
choice-loop-behind-init t c = record { choices = is_one_hidden (kinds_of c.args.text.now) c.args.at c.in_ok-read.read c.in_ok-read.ensures.0; ends = c.in_ok-read.ensures.1 }

pub choice-returns-in_err-right : goal.choice-returns-in_err-right
choice-returns-in_err-right t c =
    let p = err_from_is_err_and c.from_residual-in_err-right.result c.from_residual-in_err-right.ensures.1 in
    rw (p.1, p.2) (choice_fails (kinds_of c.args.text.now) c.args.at c.in-Some.behind c.loop-behind.read c.in_err-right.field-0.0 c.loop-behind.invariant.choices c.in-Some.ensures c.in_err-right.ensures)

pub choice-loop-behind-preserved : goal.choice-loop-behind-preserved
choice-loop-behind-preserved t c = record {
  choices = is_chosen (kinds_of c.args.text.now) c.args.at c.in-Some.behind c.loop-behind.read c.in_ok-right.right c.in_ok-read-2.read c.loop-behind.invariant.choices c.in-Some.ensures c.in_ok-right.ensures.0 c.in_ok-read-2.ensures.0 c.in_ok-read-2.ensures.1;
  ends = rw c.in_ok-read-2.ensures.1 c.in_ok-right.ensures.1;
}

pub process-loop-read-init : goal.process-loop-read-init
process-loop-read-init t c = record { processes = is_one_choice (kinds_of c.args.text.now) c.args.at c.in_ok-read.read c.in_ok-read.ensures.0; ends = c.in_ok-read.ensures.1 }

pub process-returns-in_err-words : goal.process-returns-in_err-words
process-returns-in_err-words t c =
    let p = err_from_is_err_and c.from_residual-in_err-words.result c.from_residual-in_err-words.ensures.1 in
    rw (p.1, p.2) (cooperation_fails (kinds_of c.args.text.now) c.args.at c.loop-read.read c.in_err-words.field-0.0 c.loop-read.invariant.processes c.in_err-words.ensures)

pub process-returns-in_err-right : goal.process-returns-in_err-right
process-returns-in_err-right t c =
    let p = err_from_is_err_and c.from_residual-in_err-right.result c.from_residual-in_err-right.ensures.1 in
    rw (p.1, p.2) (right_fails (kinds_of c.args.text.now) c.args.at c.loop-read.read c.in-Some.words c.in_err-right.field-0.0 c.loop-read.invariant.processes
    (cooperation_found (kinds_of c.args.text.now) c.loop-read.read.next c.in_ok-words.field-0 c.in-Some.words c.in-Some.is c.in_ok-words.ensures) c.in_err-right.ensures)

pub process-loop-read-preserved : goal.process-loop-read-preserved
process-loop-read-preserved t c = record {
  processes = is_cooperating (kinds_of c.args.text.now) c.args.at c.loop-read.read c.in_ok-right.right c.in_ok-read-2.read c.in-Some.words c.loop-read.invariant.processes
      (cooperation_found (kinds_of c.args.text.now) c.loop-read.read.next c.in_ok-words.field-0 c.in-Some.words c.in-Some.is c.in_ok-words.ensures) c.in_ok-right.ensures.0 c.in_ok-read-2.ensures.0 c.in_ok-read-2.ensures.1;
  ends = rw c.in_ok-read-2.ensures.1 c.in_ok-right.ensures.1;
}
