-- What counting the parts of a file says of its limits.
use Rattle.std.proofs.Common.{◌≡◌, ℕ, ◌≤◌, Bool, false, List, length, inl, inr, ap, arith, IsTrue, Err}
use Rattle.std.specs.Prelude.{sum_by}
use Rattle.std.specs.Map.{keys_of}
use Rattle.std.proofs.lemmas.List.{length-map}
use Rattle.indexmap.specs.IndexMap.{keys}
use Rattle.pepa_resolver.specs.Named.{Named}
use Rattle.pepa_checks.specs.Structure.{CompoundEdge, UnguardedEdge}
use Rattle.node_orders.specs.Graphs.{IsOrder}
use Rattle.pepa_checks.specs.declared.leaves.Leaves.{Leaves}
use Rattle.pepa_checks.specs.declared.counting.Counted.{Counted}
use Rattle.fault_ends.specs.declared.end.End.{End}
use Rattle.fault_ends.specs.declared.end.End.TheVariants.{Fault, Memory}
use Rattle.fault_ends.specs.Answers.{OkOrFault}
use Rattle.pepa_checks.specs.declared.over_limit.OverLimit.{OverLimit}
use Rattle.pepa_checks.specs.declared.system_size.Measure.TheVariants as measure
use Rattle.pepa_checks.specs.Outline.{Outline, outline_of, sets_of}
use Rattle.pepa_checks.specs.Activities.{written_leaves}
use Rattle.pepa_checks.specs.Limits.{PassesLimit}
use Rattle.pepa_checks.specs.Summands.{ArePerformed}
use Rattle.pepa_checks.specs.Built.{IsBuilt}
use Rattle.pepa_checks.specs.LeavesAnswers.{AreLeaves}
use Rattle.pepa_checks.specs.ActivityLists.{LeafChoices, OpensIntoMany, choices_outline}
use Rattle.pepa_checks.specs.CountedFiles.{IsCounted}
use Rattle.pepa_checks.proofs.Openings.{leaf_opens}
use Rattle.pepa_checks.proofs.Expansions.{system_expands}
use Rattle.pepa_checks.proofs.Counted.{EachOpens, TellsSize, few_activities, many_activities, many_leaves, few_leaves, many_nodes, few_nodes}

-- as many keys as entries
pub few_keys : {V : Type 0} (entries : List (List ℕ × V)) (limit len : ℕ) → len ≡ length entries → len ≤ limit → length (keys_of entries) ≤ limit
few_keys entries limit len e few = omega (arith, length-map entries (λ p. p.0))

module _ (actions : List (List ℕ)) (compounds : List Bool) (bodies : List Named) (system : Named) (compound_order sequential_order : List ℕ) (built : IsBuilt compounds bodies system) (compounds_first : IsOrder (CompoundEdge bodies) (length bodies) compound_order) (sequential_first : IsOrder (UnguardedEdge bodies) (length bodies) sequential_order) where
  abbrev outline : Outline
  outline = outline_of compounds bodies system

  abbrev written : List Named
  written = written_leaves compounds bodies system

  abbrev pub choices : (found : Leaves) → AreLeaves outline compounds bodies written found → LeafChoices compounds sequential_order found.constants found.summands
  choices found are = record {
    bodies = bodies;
    system = system;
    sets = sets_of bodies system;
    one_each = built.one_each;
    table = built.table;
    sequential = built.sequential;
    in_order = sequential_first;
    constant_leaves = are.constants_are;
    operands = are.summands_are;
  }

  pub each_opens : EachOpens outline
  each_opens number leaf is =
      let tree = leaf_opens (sets_of bodies system) compounds bodies system sequential_order built sequential_first number leaf is in
      (tree.0, tree.1)

  pub performed_end : {T U : Type 0} (P : T → Type 0) (Q : U → Type 0) (found : Leaves) (are : AreLeaves outline compounds bodies written found) (end : End OverLimit) → OkOrFault (Err end) P (λ _. OpensIntoMany (choices_outline (choices found are))) → OkOrFault (Err end) Q (λ _. PassesLimit actions outline)
  performed_end P Q found are (Fault over) many = inr (inr (inr (inl (many_activities outline each_opens many))))
  performed_end P Q found are Memory h = tt

  pub many_leaves_in : (large : Bool) → TellsSize measure.Leaves outline large → IsTrue large → PassesLimit actions outline
  many_leaves_in large tells is =
      let tree = system_expands (sets_of bodies system) compounds bodies system compound_order built compounds_first in
      inr (inr (inr (inr (inl (many_leaves outline large tells tree.0 tree.1 is)))))

  pub many_nodes_in : (large : Bool) → TellsSize measure.Nodes outline large → IsTrue large → PassesLimit actions outline
  many_nodes_in large tells is =
      let tree = system_expands (sets_of bodies system) compounds bodies system compound_order built compounds_first in
      inr (inr (inr (inr (inr (many_nodes outline large tells tree.0 tree.1 is)))))

  pub counts : (counted : Counted) (many large : Bool) → length actions ≤ 1025 → keys counted.sets ≡ sets_of bodies system → length (keys counted.sets) ≤ 1024 → AreLeaves outline compounds bodies written counted.leaves → ArePerformed outline bodies written counted.performed → sum_by length counted.performed ≤ 65535 → TellsSize measure.Leaves outline many → many ≡ false → TellsSize measure.Nodes outline large → large ≡ false → IsCounted actions compounds bodies system counted
  counts counted many large few_actions sets few_sets leaves performed few tells is tells_too is_too = record {
    within = λ passed. apart passed;
    sets_are = sets;
    leaves_are = leaves.expressions_are;
    performed_are = performed;
  }
    where
      apart : ¬ PassesLimit actions outline
      apart (inl lt) = omega arith
      apart (inr (inl lt)) = let e : length (keys counted.sets) ≡ length (sets_of bodies system) = ap (λ (l : List (List ℕ)). length l) sets in omega arith
      apart (inr (inr (inl lt))) = let most = leaves.few in omega arith
      apart (inr (inr (inr (inl h)))) = few_activities outline bodies written counted.performed performed few h
      apart (inr (inr (inr (inr (inl h))))) = few_leaves outline many tells is h
      apart (inr (inr (inr (inr (inr h))))) = few_nodes outline large tells_too is_too h
