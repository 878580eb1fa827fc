-- Sets that are put behind others, each once.
use Rattle.std.proofs.Common.{◌≡◌, ℕ, List, [], ◌++◌, sym, ap, ◌∙◌}
use Rattle.pepa_resolver.specs.Numbers.{first_places}
use Rattle.pepa_resolver.specs.NumberSteps.{with_names}
use Rattle.pepa_resolver.proofs.NumberNames.{names_together, with_names-append}

pub sets_together : (middle last first more : List (List ℕ)) → middle ≡ with_names [] first → last ≡ with_names middle more → last ≡ first_places (first ++ more)
sets_together middle last first more f m =
    m ∙ ap (λ (k : List (List ℕ)). with_names k more) f ∙ sym (with_names-append [] first more) ∙ names_together [] (first ++ more)
