-- Guards: tests on counts of leaves.
use Rattle.std.specs.Prelude.{ℕ, ◌<◌, ◌||◌, ◌&&◌, ◌==◌, nat_lt, nat_le, not, Bool, false, List, slice_index}
use Rattle.probe_words.specs.declared.guard.Relation.{Relation}
use Rattle.probe_words.specs.declared.guard.Relation.TheVariants.{Less, AtMost, More, AtLeast, Equal, Unequal}

-- a guard, without pointers
pub data Condition : Type 0 where
  Counted : ℕ → Relation → ℕ → Condition
  Both : Condition → Condition → Condition
  Either : Condition → Condition → Condition
  Not : Condition → Condition

-- how the count is compared with the number
abbrev pub compares : Relation → ℕ → ℕ → Bool
compares Less count number = nat_lt count number
compares AtMost count number = nat_le count number
compares More count number = nat_lt number count
compares AtLeast count number = nat_le number count
compares Equal count number = count == number
compares Unequal count number = not (count == number)

-- the guard holds where these are the counts
abbrev pub holds_for : List ℕ → Condition → Bool
holds_for counts (Counted which relation number) = compares relation (slice_index counts which) number
holds_for counts (Both x y) = holds_for counts x && holds_for counts y
holds_for counts (Either x y) = holds_for counts x || holds_for counts y
holds_for counts (Not x) = not (holds_for counts x)

-- the guard asks for no count past the first n
abbrev pub AsksBelow : ℕ → Condition → Type 0
AsksBelow n (Counted which relation number) = which < n
AsksBelow n (Both x y) = AsksBelow n x × AsksBelow n y
AsksBelow n (Either x y) = AsksBelow n x × AsksBelow n y
AsksBelow n (Not x) = AsksBelow n x

abbrev pub relation_code : Relation → ℕ
relation_code Less = 0
relation_code AtMost = 1
relation_code More = 2
relation_code AtLeast = 3
relation_code Equal = 4
relation_code Unequal = 5

-- two guards are one tree, with the same relations and numbers; the law says that they are then equal
abbrev pub same_condition : Condition → Condition → Bool
same_condition (Counted a r n) (Counted b s m) = (a == b) && ((relation_code r == relation_code s) && (n == m))
same_condition (Both a b) (Both c d) = same_condition a c && same_condition b d
same_condition (Either a b) (Either c d) = same_condition a c && same_condition b d
same_condition (Not a) (Not b) = same_condition a b
same_condition _ _ = false
