-- Bytes that stay at the front.
use Rattle.std.proofs.Common.{◌≡◌, ℕ, ◌≤◌, List, ◌++◌, length, take, sym, ap, ◌∙◌, arith, subst, length-append, append_assoc}
use Rattle.std.specs.Io.{StartsWith}
use Rattle.std.proofs.Math.Seq.{take-append_seam}
use Rattle.std.proofs.lemmas.List.{take-take}

-- what begins with a text begins with the front of that text
pub kept_front : (whole start more : List ℕ) → StartsWith whole (start ++ more) → StartsWith whole start
kept_front whole start more starts =
    let within : length start ≤ length (start ++ more) = rw (length-append start more) (omega arith) in
    sym (take-take (length start) (length (start ++ more)) whole within) ∙ ap (λ l. take (length start) l) starts ∙ take-append_seam start more

pub kept_step : (start more at whole : List ℕ) → at ≡ start ++ more → StartsWith whole at → StartsWith whole start
kept_step start more at whole e starts = kept_front whole start more (subst (λ l. StartsWith whole l) e starts)

-- the same where the text was put together in two steps
pub kept_behind : (start first after texts at whole : List ℕ) → after ≡ start ++ first → at ≡ after ++ texts → StartsWith whole at → StartsWith whole start
kept_behind start first after texts at whole e f starts =
    let joined : at ≡ start ++ (first ++ texts) = f ∙ ap (λ l. l ++ texts) e ∙ append_assoc start first texts in
    kept_front whole start (first ++ texts) (subst (λ l. StartsWith whole l) joined starts)
