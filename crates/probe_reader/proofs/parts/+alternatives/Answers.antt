use Rattle.std.proofs.Common.{refl}
use Rattle.std.proofs.lemmas.Result.{err_from_is_err_and}
use Rattle.token_grammar.specs.Cursors.{kinds_of}
use Rattle.probe_reader.specs.ProbeGrammar.{LetterNamed}
use Rattle.probe_reader.proofs.PartReading.{no_atom, brackets_fail, brackets_stay_open, are_enclosed, is_one_atom, suffix_stops, suffix_found, is_suffixed, is_unguarded, condition_fails, condition_stays_open, guarded_fails, is_guarded, is_one_part, sequence_fails, is_sequenced, is_one_sequence, alternatives_fail, are_alternated}
use Rattle.probe_reader.proofs.parts.+alternatives.Goals as goal

pub atom-returns-in-Some : goal.atom-returns-in-Some
atom-returns-in-Some t c = record { atom = LetterNamed c.in-Some.ensures.0; spelled = c.in-Some.ensures.1.spelled; tree = refl }

pub atom-returns-in_err-inside : goal.atom-returns-in_err-inside
atom-returns-in_err-inside t c =
    let p = err_from_is_err_and c.from_residual.result c.from_residual.ensures.1 in
    rw (p.1, p.2) (no_atom (kinds_of c.args.text.now) c.args.at c.in_err-inside.field-0.0 c.in_default.ensures c.in_err-inside.ensures)

pub atom-returns-in_err-tree : goal.atom-returns-in_err-tree
atom-returns-in_err-tree t c =
    let p = err_from_is_err_and c.from_residual-in_err-tree.result c.from_residual-in_err-tree.ensures.1 in
    rw (p.1, p.2) (brackets_fail (kinds_of c.args.text.now) c.args.at c.in_ok-inside.inside c.in_err-tree.field-0.0 c.in_ok-inside.ensures c.in_err-tree.ensures)

pub atom-returns-in_err-next : goal.atom-returns-in_err-next
atom-returns-in_err-next t c =
    let p = err_from_is_err_and c.from_residual-in_err-next.result c.from_residual-in_err-next.ensures.1 in
    rw (p.1, p.2) (brackets_stay_open (kinds_of c.args.text.now) c.args.at c.in_ok-inside.inside c.in_ok-tree.field-0 c.in_err-next.field-0.0 c.in_ok-inside.ensures c.in_ok-tree.ensures.0 c.in_ok-tree.ensures.1 c.in_err-next.ensures)

pub atom-returns : goal.atom-returns
atom-returns t c =
    are_enclosed (kinds_of c.args.text.now) c.args.at c.in_ok-inside.inside c.in_ok-tree.field-0 (record { tree = c.in_ok-tree.field-0.tree; next = c.in_ok-next.next }) c.in_ok-inside.ensures c.in_ok-tree.ensures.0 c.in_ok-next.ensures refl

pub postfixed-loop-read-init : goal.postfixed-loop-read-init
postfixed-loop-read-init t c = is_one_atom (kinds_of c.args.text.now) c.args.at c.in_ok-read.read c.in_ok-read.ensures

pub postfixed-returns-in_err-suffix : goal.postfixed-returns-in_err-suffix
postfixed-returns-in_err-suffix t c =
    let p = err_from_is_err_and c.from_residual-in_err-suffix.result c.from_residual-in_err-suffix.ensures.1 in
    rw (p.1, p.2) (suffix_stops (kinds_of c.args.text.now) c.args.at c.loop-read.read c.in_err-suffix.field-0.0 c.loop-read.invariant c.in_err-suffix.ensures)

pub postfixed-loop-read-preserved : goal.postfixed-loop-read-preserved
postfixed-loop-read-preserved t c =
    is_suffixed (kinds_of c.args.text.now) c.args.at c.loop-read.read c.in_ok-read-2.read c.in-Some.suffix c.loop-read.invariant
    (suffix_found (kinds_of c.args.text.now) c.loop-read.read.next c.in_ok-suffix.field-0 c.in-Some.suffix c.in-Some.is c.in_ok-suffix.ensures) c.in_ok-read-2.ensures.0 c.in_ok-read-2.ensures.1

pub guarded-returns-in_default : goal.guarded-returns-in_default
guarded-returns-in_default t c = is_unguarded (kinds_of c.args.text.now) c.args.at c.postfixed.result c.in_default.ensures c.postfixed.ensures

pub guarded-returns-in_err-condition : goal.guarded-returns-in_err-condition
guarded-returns-in_err-condition t c =
    let p = err_from_is_err_and c.from_residual.result c.from_residual.ensures.1 in
    rw (p.1, p.2) (condition_fails (kinds_of c.args.text.now) c.args.at c.in-Some.inside c.in_err-condition.field-0.0 c.in-Some.ensures c.in_err-condition.ensures)

pub guarded-returns-in_err-behind : goal.guarded-returns-in_err-behind
guarded-returns-in_err-behind t c =
    let p = err_from_is_err_and c.from_residual-in_err-behind.result c.from_residual-in_err-behind.ensures.1 in
    rw (p.1, p.2) (condition_stays_open (kinds_of c.args.text.now) c.args.at c.in-Some.inside c.in_ok-condition.condition c.in_err-behind.field-0.0 c.in-Some.ensures c.in_ok-condition.ensures.0 c.in_ok-condition.ensures.1 c.in_err-behind.ensures)

pub guarded-returns-in_err-inner : goal.guarded-returns-in_err-inner
guarded-returns-in_err-inner t c =
    let p = err_from_is_err_and c.from_residual-in_err-inner.result c.from_residual-in_err-inner.ensures.1 in
    rw (p.1, p.2) (guarded_fails (kinds_of c.args.text.now) c.args.at c.in-Some.inside c.in_ok-behind.behind c.in_ok-condition.condition c.in_err-inner.field-0.0 c.in-Some.ensures c.in_ok-condition.ensures.0 c.in_ok-behind.ensures c.in_err-inner.ensures)

pub guarded-returns : goal.guarded-returns
guarded-returns t c = (
  is_guarded (kinds_of c.args.text.now) c.args.at c.in-Some.inside c.in_ok-behind.behind c.in_ok-condition.condition c.in_ok-inner.inner c.in_ok-read.read c.in-Some.ensures c.in_ok-condition.ensures.0 c.in_ok-behind.ensures c.in_ok-inner.ensures.0 c.in_ok-read.ensures.0 c.in_ok-read.ensures.1,
  rw c.in_ok-read.ensures.1 c.in_ok-inner.ensures.1,
)

pub sequence-loop-behind-init : goal.sequence-loop-behind-init
sequence-loop-behind-init t c = record { sequences = is_one_part (kinds_of c.args.text.now) c.args.at c.in_ok-read.read c.in_ok-read.ensures.0; ends = c.in_ok-read.ensures.1 }

pub sequence-returns-in_err-right : goal.sequence-returns-in_err-right
sequence-returns-in_err-right t c =
    let p = err_from_is_err_and c.from_residual-in_err-right.result c.from_residual-in_err-right.ensures.1 in
    rw (p.1, p.2) (sequence_fails (kinds_of c.args.text.now) c.args.at c.in-Some.behind c.loop-behind.read c.in_err-right.field-0.0 c.loop-behind.invariant.sequences c.in-Some.ensures c.in_err-right.ensures)

pub sequence-loop-behind-preserved : goal.sequence-loop-behind-preserved
sequence-loop-behind-preserved t c = record {
  sequences = is_sequenced (kinds_of c.args.text.now) c.args.at c.in-Some.behind c.loop-behind.read c.in_ok-right.right c.in_ok-read-2.read c.loop-behind.invariant.sequences c.in-Some.ensures c.in_ok-right.ensures.0 c.in_ok-read-2.ensures.0 c.in_ok-read-2.ensures.1;
  ends = rw c.in_ok-read-2.ensures.1 c.in_ok-right.ensures.1;
}

pub alternatives-loop-behind-init : goal.alternatives-loop-behind-init
alternatives-loop-behind-init t c = record { choices = is_one_sequence (kinds_of c.args.text.now) c.args.at c.in_ok-read.read c.in_ok-read.ensures.0; ends = c.in_ok-read.ensures.1 }

pub alternatives-returns-in_err-right : goal.alternatives-returns-in_err-right
alternatives-returns-in_err-right t c =
    let p = err_from_is_err_and c.from_residual-in_err-right.result c.from_residual-in_err-right.ensures.1 in
    rw (p.1, p.2) (alternatives_fail (kinds_of c.args.text.now) c.args.at c.in-Some.behind c.loop-behind.read c.in_err-right.field-0.0 c.loop-behind.invariant.choices c.in-Some.ensures c.in_err-right.ensures)

pub alternatives-loop-behind-preserved : goal.alternatives-loop-behind-preserved
alternatives-loop-behind-preserved t c = record {
  choices = are_alternated (kinds_of c.args.text.now) c.args.at c.in-Some.behind c.loop-behind.read c.in_ok-right.right c.in_ok-read-2.read c.loop-behind.invariant.choices c.in-Some.ensures c.in_ok-right.ensures.0 c.in_ok-read-2.ensures.0 c.in_ok-read-2.ensures.1;
  ends = rw c.in_ok-read-2.ensures.1 c.in_ok-right.ensures.1;
}
