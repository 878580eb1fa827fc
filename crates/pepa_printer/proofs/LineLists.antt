-- The lines of a model, one after another.
use Rattle.std.proofs.Common.{◌≡◌, ℕ, zero, suc, ◌+◌, ◌<◌, List, [], ◌∷◌, ◌++◌, length, drop, Some, slice_get, sym, ap, ◌∙◌, arith, append_assoc}
use Rattle.std.proofs.lemmas.Option.{slice_get_within, same_Some}
use Rattle.pepa_model.specs.Expression.{Definition}
use Rattle.pepa_model.specs.PepaModel.{PepaModel}
use Rattle.pepa_text.specs.ComponentText.{name_of}
use Rattle.pepa_printer.specs.ModelText.{line_text, lines_text}

module _ (m : PepaModel) where
  first_line : (names : List (List ℕ)) (definitions : List Definition) (i : ℕ) (definition : Definition) → i < length names → slice_get definitions i ≡ Some definition → lines_text m (drop i names) (drop i definitions) ≡ line_text m (name_of names i) definition ++ lines_text m (drop (suc i) names) (drop (suc i) definitions)
  first_line [] definitions i definition lt at = absurd (omega arith)
  first_line (name ∷ names) [] i definition lt at = let within = slice_get_within [] i definition at in absurd (omega arith)
  first_line (name ∷ names) (d ∷ definitions) zero definition lt at = ap (λ (e : Definition). line_text m name e ++ lines_text m names definitions) (same_Some d definition at)
  first_line (name ∷ names) (d ∷ definitions) (suc i) definition lt at = first_line names definitions i definition (omega arith) at

  -- a line goes from those that are left to those that are written
  pub line_written : (names : List (List ℕ)) (definitions : List Definition) (i : ℕ) (definition : Definition) (text whole : List ℕ) → i < length names → slice_get definitions i ≡ Some definition → text ++ lines_text m (drop i names) (drop i definitions) ≡ whole → (text ++ line_text m (name_of names i) definition) ++ lines_text m (drop (i + 1) names) (drop (i + 1) definitions) ≡ whole
  line_written names definitions i definition text whole lt at before =
      let next : suc i ≡ i + 1 = omega arith in
      let more = λ (k : ℕ). lines_text m (drop k names) (drop k definitions) in
      ap (λ (k : ℕ). (text ++ line_text m (name_of names i) definition) ++ more k) (sym next)
      ∙ append_assoc text (line_text m (name_of names i) definition) (more (suc i))
      ∙ ap (λ (rest : List ℕ). text ++ rest) (sym (first_line names definitions i definition lt at))
      ∙ before
