-- The lists of edges of compound and of sequential constants.
use Rattle.std.proofs.Common.{◌≡◌, ℕ, ◌+◌, ◌<◌, inl, inr, Bool, true, false, List, [], ◌∷◌, ◌++◌, length, get_or, Some, slice_get, sym, ◌∙◌, subst, arith}
use Rattle.std.specs.List.{Contains}
use Rattle.std.proofs.lemmas.Bool.{false≢true}
use Rattle.std.proofs.lemmas.Option.{slice_get_within, get_or_from_slice_get}
use Rattle.std.proofs.lemmas.List.Elements.{Contains-append_left, Contains-append_right, Contains-append_cases}
use Rattle.node_orders.specs.Graphs.{HasEdgesBelow, IsTableOf, HasTheEdges}
use Rattle.node_orders.proofs.Elements.{contains_from_get}
use Rattle.node_orders.proofs.Marks.{marked_at}
use Rattle.node_orders.proofs.EdgeLists.{HasEdgesUpTo, edges_more}
use Rattle.pepa_resolver.specs.Named.{Named, NamedConstant, NamedPrefix, NamedChoice, NamedCoop, NamedHide, constants_named, unguarded}
use Rattle.pepa_resolver.specs.NamedTypes.{HasConstantsBelow}
use Rattle.pepa_checks.specs.Structure.{IsCompoundConstant, CompoundEdge, UnguardedEdge}
use Rattle.pepa_checks.specs.declared.structure.EdgeKind.{EdgeKind}
use Rattle.pepa_checks.specs.declared.structure.EdgeKind.TheVariants.{Compound, Unguarded}
use Rattle.pepa_checks.specs.StructureAnswers.{ConstantEdge, successors_of}
use Rattle.pepa_checks.proofs.Bodies.{same_body}

-- ---- the edges of one body

unmarked : (Holds : ℕ → Type 0) (table : List Bool) (at : ℕ) → IsTableOf Holds table → get_or table at false ≡ false → Holds at → ⊥
unmarked Holds table at told miss holds = false≢true (sym miss ∙ get_or_from_slice_get table at true false (told.complete at holds))

compound_hit : (bodies : List Named) (table : List Bool) (edges : List (List ℕ)) (at : ℕ) (body : Named) → IsTableOf (IsCompoundConstant bodies) table → at < length table → get_or table at false ≡ true → slice_get bodies at ≡ Some body → HasEdgesUpTo (CompoundEdge bodies) edges at → HasEdgesUpTo (CompoundEdge bodies) (edges ++ constants_named body ∷ []) (at + 1)
compound_hit bodies table edges at body told within hit read so_far =
    edges_more (CompoundEdge bodies) edges at (constants_named body) so_far
    (λ d among. (told.sound at (marked_at table at within hit), (body, read, among)))
    (λ d edge. subst (λ b. Contains (constants_named b) d) (same_body bodies at (edge.1).0 body (edge.1).1 read) (edge.1).2)

compound_miss : (bodies : List Named) (table : List Bool) (edges : List (List ℕ)) (at : ℕ) → IsTableOf (IsCompoundConstant bodies) table → get_or table at false ≡ false → HasEdgesUpTo (CompoundEdge bodies) edges at → HasEdgesUpTo (CompoundEdge bodies) (edges ++ [] ∷ []) (at + 1)
compound_miss bodies table edges at told miss so_far =
    edges_more (CompoundEdge bodies) edges at [] so_far
    (λ d among. absurd (omega (arith, among.1)))
    (λ d edge. absurd (unmarked (IsCompoundConstant bodies) table at told miss edge.0))

unguarded_hit : (bodies : List Named) (table : List Bool) (edges : List (List ℕ)) (at : ℕ) (body : Named) → IsTableOf (IsCompoundConstant bodies) table → get_or table at false ≡ false → slice_get bodies at ≡ Some body → HasEdgesUpTo (UnguardedEdge bodies) edges at → HasEdgesUpTo (UnguardedEdge bodies) (edges ++ unguarded body ∷ []) (at + 1)
unguarded_hit bodies table edges at body told miss read so_far =
    edges_more (UnguardedEdge bodies) edges at (unguarded body) so_far
    (λ d among. (unmarked (IsCompoundConstant bodies) table at told miss, (body, read, among)))
    (λ d edge. subst (λ b. Contains (unguarded b) d) (same_body bodies at (edge.1).0 body (edge.1).1 read) (edge.1).2)

unguarded_miss : (bodies : List Named) (table : List Bool) (edges : List (List ℕ)) (at : ℕ) → IsTableOf (IsCompoundConstant bodies) table → at < length table → get_or table at false ≡ true → HasEdgesUpTo (UnguardedEdge bodies) edges at → HasEdgesUpTo (UnguardedEdge bodies) (edges ++ [] ∷ []) (at + 1)
unguarded_miss bodies table edges at told within hit so_far =
    edges_more (UnguardedEdge bodies) edges at [] so_far
    (λ d among. absurd (omega (arith, among.1)))
    (λ d edge. absurd (edge.0 (told.sound at (marked_at table at within hit))))

-- the edges with those of one more body
pub edges_next : (kind : EdgeKind) (bodies : List Named) (table : List Bool) (edges : List (List ℕ)) (at : ℕ) (body : Named) (flag : Bool) → IsTableOf (IsCompoundConstant bodies) table → at < length table → get_or table at false ≡ flag → slice_get bodies at ≡ Some body → HasEdgesUpTo (ConstantEdge kind bodies) edges at → HasEdgesUpTo (ConstantEdge kind bodies) (edges ++ successors_of kind flag body ∷ []) (at + 1)
edges_next Compound bodies table edges at body true told within hit read so_far = compound_hit bodies table edges at body told within hit read so_far
edges_next Compound bodies table edges at body false told within miss read so_far = compound_miss bodies table edges at told miss so_far
edges_next Unguarded bodies table edges at body true told within hit read so_far = unguarded_miss bodies table edges at told within hit so_far
edges_next Unguarded bodies table edges at body false told within miss read so_far = unguarded_hit bodies table edges at body told miss read so_far

pub edge_within : (kind : EdgeKind) (bodies : List Named) (c d : ℕ) → ConstantEdge kind bodies c d → c < length bodies
edge_within Compound bodies c d edge = slice_get_within bodies c (edge.1).0 (edge.1).1
edge_within Unguarded bodies c d edge = slice_get_within bodies c (edge.1).0 (edge.1).1

-- ---- numbers below the bound

unguarded_among : (process : Named) (d : ℕ) → Contains (unguarded process) d → Contains (constants_named process) d
unguarded_among (NamedConstant at constant) d among = among
unguarded_among (NamedPrefix at action rate next) d among = absurd (omega (arith, among.1))
unguarded_among (NamedChoice left right) d among = elim (Contains-append_cases (unguarded left) (unguarded right) d among) [
  | inl first ↦ Contains-append_left (constants_named left) (constants_named right) d (unguarded_among left d first)
  | inr second ↦ Contains-append_right (constants_named left) (constants_named right) d (unguarded_among right d second)
]
unguarded_among (NamedCoop left right set) d among = elim (Contains-append_cases (unguarded left) (unguarded right) d among) [
  | inl first ↦ Contains-append_left (constants_named left) (constants_named right) d (unguarded_among left d first)
  | inr second ↦ Contains-append_right (constants_named left) (constants_named right) d (unguarded_among right d second)
]
unguarded_among (NamedHide inner set) d among = unguarded_among inner d among

pub edges_below : (kind : EdgeKind) (n : ℕ) (bodies : List Named) (edges : List (List ℕ)) → HasConstantsBelow n bodies → HasTheEdges (ConstantEdge kind bodies) edges → HasEdgesBelow n edges
edges_below Compound n bodies edges below told = λ c d edge.
    let is = told.sound c d edge in
    below (is.1).0 (contains_from_get bodies c (is.1).0 (is.1).1) d (is.1).2
edges_below Unguarded n bodies edges below told = λ c d edge.
    let is = told.sound c d edge in
    below (is.1).0 (contains_from_get bodies c (is.1).0 (is.1).1) d (unguarded_among (is.1).0 d (is.1).2)
