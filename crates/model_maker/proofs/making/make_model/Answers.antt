use Rattle.std.proofs.Common.{◌++◌, ◌+◌, ◌/◌, ◌∙◌, [], ◌∷◌, List, ℕ, ap}
use Rattle.std.specs.Prelude.{codes}
use Rattle.std.specs.List.{flat_map}
use Rattle.model_maker.specs.MadeModel.{joined_names, made_lines}
use Rattle.model_maker.proofs.Joined.{in_parts}
use Rattle.model_maker.proofs.making.make_model.Goals as goal

pub returns : goal.returns
returns c =
    let lines : List ℕ = flat_map (λ line. line ++ 10 ∷ []) made_lines in
    let users : List ℕ = joined_names (codes "Idle") c.args.size in
    let between : List ℕ = codes " <ask,reply> (" in
    let servers : List ℕ = joined_names (codes "Free") ((c.args.size + 3) / 4) in
    let close : List ℕ = codes ")" ++ 10 ∷ [] in
    c.from_vec.ensures
    ∙ c.in_ok-extend_from_slice-3.ensures.items
    ∙ ap (λ (text : List ℕ). text ++ close) c.in_ok-push_joined-2.ensures
    ∙ ap (λ (text : List ℕ). text ++ servers ++ close) c.in_ok-extend_from_slice-2.ensures.items
    ∙ ap (λ (text : List ℕ). text ++ between ++ servers ++ close) c.in_ok-push_joined.ensures
    ∙ ap (λ (text : List ℕ). text ++ users ++ between ++ servers ++ close) c.in_ok-extend_from_slice.ensures.items
    ∙ ap (λ (text : List ℕ). text ++ lines ++ users ++ between ++ servers ++ close) c.new-text.ensures.items
    ∙ in_parts lines users between servers (codes ")") (10 ∷ [])
