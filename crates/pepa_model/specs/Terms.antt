-- The terms of the program without their pointers.
use Rattle.std.specs.Prelude.{◌==◌, ℕ, ◌+◌, ◌<◌, length, if◌then◌else◌}
use Rattle.pepa_model.specs.PepaModel.{PepaModel}
use Rattle.pepa_model.specs.declared.term.Term.{Term, Leaf, Coop', Hide'}

-- a term without pointers: a leaf's number, two terms that cooperate over the set of this number, or a term that hides it
pub data TermNode : Type 0 where
  LeafNode : ℕ → TermNode
  CoopNode : TermNode → TermNode → ℕ → TermNode
  HideNode : TermNode → ℕ → TermNode

-- the term that the program holds
abbrev pub term_of : Term → TermNode
term_of (Leaf number) = LeafNode number
term_of (Coop' p x q y set) = CoopNode (term_of x) (term_of y) set
term_of (Hide' p x set) = HideNode (term_of x) set

-- the leaves and sets are the model's
abbrev pub IsNodeOf : PepaModel → TermNode → Type 0
IsNodeOf m (LeafNode number) = number < length m.leaves
IsNodeOf m (CoopNode x y set) = IsNodeOf m x × IsNodeOf m y × (set < length m.sets)
IsNodeOf m (HideNode x set) = IsNodeOf m x × (set < length m.sets)

abbrev pub IsTermOf : PepaModel → Term → Type 0
IsTermOf m term = IsNodeOf m (term_of term)

-- how many leaves of the term are this one
abbrev pub leaf_count_in : TermNode → ℕ → ℕ
leaf_count_in (LeafNode number) leaf = if number == leaf then 1 else 0
leaf_count_in (CoopNode x y set) leaf = leaf_count_in x leaf + leaf_count_in y leaf
leaf_count_in (HideNode x set) leaf = leaf_count_in x leaf

abbrev pub leaf_count_of : Term → ℕ → ℕ
leaf_count_of term leaf = leaf_count_in (term_of term) leaf
