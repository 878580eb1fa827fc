-- What `check` says of a model: how many constants, action types, probes and leaves it has.
use Rattle.std.specs.Prelude.{◌≡◌, ℕ, ◌-◌, List, [], ◌∷◌, ◌++◌, length, codes, decimal}
use Rattle.pepa_model.specs.PepaModel.{PepaModel}
use Rattle.probe_attach.specs.Systems.{HasLeaves}

-- the line with so many constants, action types and leaves, and no probes
abbrev pub counts_text : ℕ → ℕ → ℕ → List ℕ
counts_text constants actions leaves =
    codes "ok constants " ++ decimal constants ++ codes " actions " ++ decimal actions ++ codes " probes 0 leaves " ++ decimal leaves ++ 10 ∷ []

-- the model's constants, its action types without `tau`, and the leaves of its expanded system
pub record IsCheckText (m : PepaModel) (text : List ℕ) : Type 0 where
  pub leaves : ℕ
  pub has_leaves : HasLeaves m leaves
  pub text_is : text ≡ counts_text (length m.constants) (length m.actions - 1) leaves
