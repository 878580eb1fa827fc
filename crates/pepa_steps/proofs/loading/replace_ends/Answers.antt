use Rattle.std.proofs.Common.{ap, ◌∙◌, ◌++◌, ◌-◌, List, length, take, drop}
use Rattle.std.proofs.lemmas.Result.{err_from_is_err_and}
use Rattle.pepa_steps.specs.declared.entries.Entry.{Entry}
use Rattle.pepa_steps.proofs.EndLists.{ends_ours, ends_taken, replaced, replaced_end}
use Rattle.pepa_steps.proofs.loading.replace_ends.Goals as goal

pub returns-in_err-combine : goal.returns-in_err-combine
returns-in_err-combine c = λ front us vs ends.
    let p = err_from_is_err_and c.from_residual.result c.from_residual.ensures.1 in
    rw (p.1, p.2)
    (replaced_end c.args.types.now c.args.left.now.rates.entries c.args.right.now.rates.entries c.args.entries.now.items front us vs _ _ c.args.left.now.start c.args.right.now.start ends
    (ap (λ (l : List Entry). take (c.args.right.now.start - c.args.left.now.start) (drop c.args.left.now.start l)) c.as_slice.ensures.value ∙ ends_ours c.args.entries.now.items front us vs c.args.left.now.start c.args.right.now.start ends)
    (ap (λ (l : List Entry). take (length l - c.args.right.now.start) (drop c.args.right.now.start l)) c.as_slice-2.ensures.value ∙ ends_taken c.args.entries.now.items front us vs c.args.left.now.start c.args.right.now.start ends)
    (record { entries = c.clear.new.self; origins = c.clear-2.new.self }) c.combine.new.derived _ c.in_err-combine.ensures c.args.entries.now.items c.args.origins.now.items c.args.origins.now.items)

pub returns : goal.returns
returns c = λ front us vs ends.
    replaced c.args.types.now c.args.left.now.rates.entries c.args.right.now.rates.entries c.args.entries.now.items front us vs _ _ c.args.left.now.start c.args.right.now.start ends
    (ap (λ (l : List Entry). take (c.args.right.now.start - c.args.left.now.start) (drop c.args.left.now.start l)) c.as_slice.ensures.value ∙ ends_ours c.args.entries.now.items front us vs c.args.left.now.start c.args.right.now.start ends)
    (ap (λ (l : List Entry). take (length l - c.args.right.now.start) (drop c.args.right.now.start l)) c.as_slice-2.ensures.value ∙ ends_taken c.args.entries.now.items front us vs c.args.left.now.start c.args.right.now.start ends)
    (record { entries = c.clear.new.self; origins = c.clear-2.new.self }) c.combine.new.derived c.clear.ensures.items c.clear-2.ensures.items c.in_ok-combine.ensures
    c.truncate.new.self.items c.extend_from_slice.new.self.items c.truncate.ensures.items
    (c.in_ok-extend_from_slice.ensures.items ∙ ap (λ l. c.truncate.new.self.items ++ l) c.as_slice-3.ensures.value)
    c.args.origins.now.items c.extend_from_slice-2.new.self.items
    (c.in_ok-extend_from_slice-2.ensures.items ∙ ap (λ l. c.args.origins.now.items ++ l) c.as_slice-4.ensures.value)
