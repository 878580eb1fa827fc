use Rattle.std.proofs.Common.{◌≡◌, ℕ, List, length, take}
use Rattle.pepa_resolver.specs.NamedTypes.{bodies_of}
use Rattle.pepa_checks.specs.Outline.{definitions_in}
use Rattle.pepa_checks.specs.SystemSizes.{HasCounts}
use Rattle.pepa_checks.proofs.system_size.is_too_large.Given as goal

abbrev pub invariant-loop-constant : goal.invariant-loop-constant
invariant-loop-constant l = record {
  sizes : length l.counts ≡ length l.bodies;
  counted : (sets : List (List ℕ)) → HasCounts l.measure (definitions_in l.compounds sets l.compounds (bodies_of l.bodies)) l.counts (take l.constant-index l.order);
}
