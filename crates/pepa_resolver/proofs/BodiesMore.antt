-- The right sides of process lines with numbers, and their refused rates, one line after another.
use Rattle.std.proofs.Common.{◌≡◌, ℕ, ◌+◌, ◌<◌, List, [], ◌∷◌, ◌++◌, map, length, take, get_or, Option, refl, sym, ap, ◌∙◌, append-nil}
use Rattle.std.proofs.lemmas.List.{take_more, map-append}
use Rattle.std.proofs.lemmas.List.Concat.{flat_map-append}
use Rattle.pepa_rates.specs.declared.rate.Rate.{Rate}
use Rattle.pepa_reader.specs.declared.trees.ProcessLine.{ProcessLine}
use Rattle.pepa_reader.specs.Trees.{RateNode, ProcessLineNode, process_line_of, process_node_of}
use Rattle.pepa_resolver.specs.declared.bad_rates.BadRate.{BadRate}
use Rattle.pepa_resolver.specs.declared.named.NamedProcess.{NamedProcess}
use Rattle.pepa_resolver.specs.Parts.{RateSite, rates_in}
use Rattle.pepa_resolver.specs.Outcomes.{Outcome}
use Rattle.pepa_resolver.specs.FirstBad.{earliest_in, line_sites}
use Rattle.pepa_resolver.specs.Named.{Naming, Named, named}
use Rattle.pepa_resolver.specs.NamedTypes.{named_of}
use Rattle.pepa_resolver.specs.NumberSteps.{bodies_by}
use Rattle.pepa_resolver.proofs.FirstBads.{in_parts}

module _ (lines : List ProcessLine) (i : ℕ) (line : ProcessLine) (low : i < length lines) (read : line ≡ get_or lines i line) where
  abbrev front : List ProcessLineNode
  front = map process_line_of (take i lines)

  whole : map process_line_of (take (i + 1) lines) ≡ front ++ process_line_of line ∷ []
  whole =
      ap (map process_line_of) (take_more lines i line low ∙ ap (λ (l : ProcessLine). take i lines ++ l ∷ []) (sym read))
      ∙ map-append process_line_of (take i lines) (line ∷ [])

  pub bodies_more : (naming : Naming) (bodies : List NamedProcess) (body : NamedProcess) → map named_of bodies ≡ bodies_by naming front → named_of body ≡ named naming (process_node_of line.body)
      → map named_of (bodies ++ body ∷ []) ≡ bodies_by naming (map process_line_of (take (i + 1) lines))
  bodies_more naming bodies body so_far here =
      map-append named_of bodies (body ∷ [])
      ∙ ap (λ (bs : List Named). bs ++ named_of body ∷ []) so_far
      ∙ ap (λ (b : Named). bodies_by naming front ++ b ∷ []) here
      ∙ sym (ap (bodies_by naming) whole ∙ map-append (λ (l : ProcessLineNode). named naming l.body) front (process_line_of line ∷ []))

  pub bad_more : (outcome : RateNode → Outcome Rate) (before so_far next : Option BadRate) → so_far ≡ earliest_in outcome before (line_sites front) → next ≡ earliest_in outcome so_far (rates_in (process_node_of line.body))
      → next ≡ earliest_in outcome before (line_sites (map process_line_of (take (i + 1) lines)))
  bad_more outcome before so_far next first second =
      in_parts outcome before so_far next (line_sites front) (rates_in (process_node_of line.body)) (line_sites (map process_line_of (take (i + 1) lines))) first second
      (ap line_sites whole
      ∙ flat_map-append (λ (l : ProcessLineNode). rates_in l.body) front (process_line_of line ∷ [])
      ∙ ap (λ (sites : List RateSite). line_sites front ++ sites) (append-nil (rates_in (process_node_of line.body))))
