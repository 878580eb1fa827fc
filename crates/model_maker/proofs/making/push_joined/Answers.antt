use Rattle.std.proofs.Common.{◌≡◌, ◌++◌, ◌-◌, ◌∙◌, List, ℕ, ap, sym, arith, append_assoc}
use Rattle.std.specs.Prelude.{codes}
use Rattle.model_maker.proofs.Joined.{first_name, joined_more, more_names}
use Rattle.model_maker.proofs.making.push_joined.Goals as goal

pub returns : goal.returns
returns c =
    let name : List ℕ = c.args.name.now in
    let done : c.loop-more._more ≡ c.args.count - 1 = omega (arith, c.loop-more.auto._more-end) in
    let more : ℕ → List ℕ = λ n. more_names (codes " || ") name n in
    c.loop-more.invariant
    ∙ ap (λ (n : ℕ). c.args.to.now.items ++ name ++ more n) done
    ∙ append_assoc c.args.to.now.items name (more (c.args.count - 1))
    ∙ ap (λ (rest : List ℕ). c.args.to.now.items ++ rest)
    (sym (first_name (codes " || ") name c.args.count c.requires))

pub loop-more-preserved : goal.loop-more-preserved
loop-more-preserved c =
    let name : List ℕ = c.args.name.now in
    c.in_ok-extend_from_slice-3.ensures.items
    ∙ ap (λ (text : List ℕ). text ++ name) c.in_ok-extend_from_slice-2.ensures.items
    ∙ ap (λ (text : List ℕ). text ++ codes " || " ++ name) c.loop-more.invariant
    ∙ joined_more c.args.to.now.items (codes " || ") name c.loop-more._more
