-- The words of core expressions.
use Rattle.std.proofs.Common.{suc}
use Rattle.std.specs.Prelude.{◌≡◌, ℕ, List, [], ◌∷◌, ◌++◌, ◌⊎◌}
use Rattle.probe_words.specs.MarkedLetters.{MarkedLetter}
use Rattle.probe_words.specs.Core.{Core, Epsilon, Symbol, Sequence, Alternative, LastLabelled, Repeated, Restarted, FirstGuarded}
use Rattle.probe_words.specs.Words.{unmarked, label_last, guard_first, IsRow, IsFronts, IsPrefixOf}

-- the words of a core expression
abbrev pub CoreWord : Core → List MarkedLetter → Type 0
CoreWord Epsilon w = w ≡ []
CoreWord (Symbol a) w = w ≡ unmarked a ∷ []
CoreWord (Sequence r s) w = (u v : List MarkedLetter) × CoreWord r u × CoreWord s v × (w ≡ u ++ v)
CoreWord (Alternative r s) w = CoreWord r w ⊎ CoreWord s w
CoreWord (LastLabelled r l) w = (u : List MarkedLetter) × CoreWord r u × (w ≡ label_last l u)
CoreWord (Repeated r) w = (n : ℕ) × IsRow (λ u. CoreWord r u) (suc n) w
CoreWord (Restarted r a) w = (n : ℕ) × (u v : List MarkedLetter) × IsFronts (IsPrefixOf (λ z. CoreWord r z)) (unmarked a) n u × CoreWord r v × (w ≡ u ++ v)
CoreWord (FirstGuarded g r) w = (u : List MarkedLetter) × CoreWord r u × (w ≡ guard_first g u)
