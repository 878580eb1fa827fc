use Rattle.std.proofs.Common.{◌≡◌, Bool, List, false, inr, set, get_or, ap, sym, ◌∙◌, refl, arith}
use Rattle.std.proofs.lemmas.Result.{err_from_is_err_and}
use Rattle.pepa_checks.specs.declared.summand.Performed.{Performed}
use Rattle.pepa_checks.specs.ActivityLists.{performed_in}
use Rattle.pepa_checks.proofs.ListsMaking.{kept_more, passes_most}
use Rattle.pepa_checks.proofs.activities.Lists.make.Goals as goal

pub returns-in_err-list : goal.returns-in_err-list
returns-in_err-list c = let p = err_from_is_err_and c.from_residual.result c.from_residual.ensures.1 in
    let before = c.args.self.now in
    let unmarked : get_or before.made c.args.number false ≡ false = ap (λ (xs : List Bool). get_or xs c.args.number false) (sym c.as_slice.ensures) ∙ c.if-as_slice-number.false in
    rw (p.1, p.2) (passes_most _ _ before c.args.constants.now c.args.operands.now c.args.number c.as_slice-2.result.now c.in_err-list.field-0.0 c.requires.kept c.requires.within unmarked c.as_slice-2.ensures c.in_err-list.ensures)

pub returns : goal.returns
returns c =
    let list = c.in_ok-list.list in
    let before = c.args.self.now in
    let unmarked : get_or before.made c.args.number false ≡ false = ap (λ (xs : List Bool). get_or xs c.args.number false) (sym c.as_slice.ensures) ∙ c.if-as_slice-number.false in
    rw (c.set-2.ensures, c.set.ensures, c.len.ensures) (
      kept_more before c.args.number list c.requires.kept c.requires.within unmarked (omega (arith, c.in_ok-list.ensures.1)),
      inr (refl, ap (set before.lists c.args.number) (c.in_ok-list.ensures.0 ∙ ap (λ (l : List (List Performed)). performed_in c.args.constants.now l c.args.operands.now) c.as_slice-2.ensures)),
    )
