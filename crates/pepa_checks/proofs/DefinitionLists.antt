-- What constants stand for, one more at a time, and what of their bodies is sequential.
use Rattle.std.proofs.Common.{◌≡◌, ℕ, ◌+◌, min, Bool, true, false, List, [], ◌∷◌, ◌++◌, length, take, Some, slice_get, refl, sym, ap, ◌∙◌, inl, arith}
use Rattle.std.specs.List.{Contains}
use Rattle.std.proofs.lemmas.List.{length-map, map_push, length-take}
use Rattle.std.proofs.lemmas.List.Elements.{Contains-append_left, Contains-append_right}
use Rattle.pepa_model.specs.Expression.{Definition}
use Rattle.pepa_resolver.specs.declared.named.NamedProcess.{NamedProcess}
use Rattle.pepa_resolver.specs.Named.{Named, NamedConstant, NamedPrefix, NamedChoice, NamedCoop, NamedHide, first_at, sequential_parts}
use Rattle.pepa_resolver.specs.NamedTypes.{named_of, bodies_of}
use Rattle.pepa_checks.specs.Structure.{has_system, IsCompoundConstant, IsSystem, NotSequentialAt}
use Rattle.pepa_resolver.specs.Faults.{HasNone}
use Rattle.node_orders.specs.Graphs.{IsTableOf}
use Rattle.node_orders.proofs.Elements.{take_next, contains_here, contains_there, contains_from_get}
use Rattle.pepa_checks.specs.Outline.{definition_in, definitions_in}
use Rattle.pepa_checks.specs.Sequences.{HasSequentialParts, AreBodies}

-- ---- one more

definitions-push : (compounds : List Bool) (sets : List (List ℕ)) (flags : List Bool) (flag : Bool) (bodies : List Named) (body : Named) → length flags ≡ length bodies → definitions_in compounds sets (flags ++ flag ∷ []) (bodies ++ body ∷ []) ≡ definitions_in compounds sets flags bodies ++ definition_in compounds sets flag body ∷ []
definitions-push compounds sets [] flag [] body e = refl
definitions-push compounds sets [] flag (first ∷ bodies) body e = absurd (omega arith)
definitions-push compounds sets (first ∷ flags) flag [] body e = absurd (omega arith)
definitions-push compounds sets (f ∷ flags) flag (b ∷ bodies) body e =
    ap (λ (l : List Definition). definition_in compounds sets f b ∷ l) (definitions-push compounds sets flags flag bodies body (omega arith))

pub definitions_more : (compounds : List Bool) (sets : List (List ℕ)) (flags : List Bool) (bodies : List NamedProcess) (n : ℕ) (flag : Bool) (process : NamedProcess) (made : List Definition) → length flags ≡ length bodies → slice_get flags n ≡ Some flag → slice_get bodies n ≡ Some process → made ≡ definitions_in compounds sets (take n flags) (bodies_of (take n bodies)) → made ++ definition_in compounds sets flag (named_of process) ∷ [] ≡ definitions_in compounds sets (take (n + 1) flags) (bodies_of (take (n + 1) bodies))
definitions_more compounds sets flags bodies n flag process made one_each is_flag is_body so_far =
    let short : length (take n flags) ≡ length (bodies_of (take n bodies)) = length-take n flags ∙ ap (min n) one_each ∙ sym (length-take n bodies) ∙ sym (length-map (take n bodies) named_of) in
    ap (λ (l : List Definition). l ++ definition_in compounds sets flag (named_of process) ∷ []) so_far
    ∙ sym (definitions-push compounds sets (take n flags) flag (bodies_of (take n bodies)) (named_of process) short)
    ∙ sym (ap (λ (l : List Bool). definitions_in compounds sets l (bodies_of (take n bodies) ++ named_of process ∷ [])) (take_next flags n flag is_flag))
    ∙ sym (ap (definitions_in compounds sets (take (n + 1) flags)) (ap bodies_of (take_next bodies n process is_body) ∙ map_push named_of (take n bodies) process))

-- ---- what a sound structure says of one process

no_system : (b : Bool) → ¬ (b ≡ true) → b ≡ false
no_system true apart = absurd (apart refl)
no_system false apart = refl

-- each part that has to be sequential has no cooperation and no hiding
module _ (Sequential : Named → Type 0) (plain : (part : Named) → Sequential part → has_system part ≡ false) where
  pub parts_sequential : (process : Named) → ((part : Named) → Contains (sequential_parts process) part → Sequential part) → HasSequentialParts process
  parts_sequential (NamedConstant at c) each = tt
  parts_sequential (NamedPrefix at action rate next) each = plain next (each next (contains_here next (sequential_parts next)))
  parts_sequential (NamedChoice left right) each =
      let rest = sequential_parts left ++ sequential_parts right in
      (plain left (each left (contains_here left (right ∷ rest))), plain right (each right (contains_there left (right ∷ rest) right (contains_here right rest))))
  parts_sequential (NamedCoop left right set) each = (
    parts_sequential left (λ part among. each part (Contains-append_left (sequential_parts left) (sequential_parts right) part among)),
    parts_sequential right (λ part among. each part (Contains-append_right (sequential_parts left) (sequential_parts right) part among)),
  )
  parts_sequential (NamedHide inner set) each = parts_sequential inner each

module _ (compounds : List Bool) (bodies : List Named) (system : Named) (sound : HasNone (NotSequentialAt bodies system)) where
  process_parts : (process : Named) → Contains (bodies ++ system ∷ []) process → HasSequentialParts process
  process_parts process among =
      parts_sequential (λ part. ¬ IsSystem bodies part) (λ part apart. no_system (has_system part) (λ e. apart (inl e))) process
      (λ part inside bad. sound (first_at part) (process, among, (part, inside, bad, refl)))

  pub system_parts : HasSequentialParts system
  system_parts = process_parts system (Contains-append_right bodies (system ∷ []) system (contains_here system []))

  pub are_bodies : length compounds ≡ length bodies → IsTableOf (IsCompoundConstant bodies) compounds → AreBodies compounds bodies
  are_bodies one_each table = record {
    parts = λ c body is. process_parts body (Contains-append_left bodies (system ∷ []) body (contains_from_get bodies c body is));
    plain = λ c body is flag. no_system (has_system body) (λ e. let marked = table.complete c (0, (body, is, e)) in absurd cc);
  }
