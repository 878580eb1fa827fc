-- The numbers of a probe line that are refused, as the set of their indices.
use Rattle.std.specs.Prelude.{◌≡◌, ℕ, ◌≤◌, ◌<◌, min, ◌⊎◌, List, Option, Some, None}
use Rattle.pepa_lexer.specs.declared.kinds.Token.{Token}
use Rattle.probe_reader.specs.ProbeTrees.{GuardNode, CountAt, BothOf, EitherOf, NotOf, ProbeNode, OneAt, ThenOf, OrOf, LabelOf, StarOf, PlusOf, MaybeOf, TimesOf, BetweenOf, ResetOf, GuardedOf}
use Rattle.probe_numbers.specs.WholeNumbers.{IsWholeAt, IsCountAt}

-- i is the index, and no whole number up to the limit is at it
abbrev pub IsBadNumber : List Token → ℕ → ℕ → ℕ → Type 0
IsBadNumber tokens limit at i = (i ≡ at) × (¬ IsCountAt tokens limit at)

-- whole numbers up to 63 are at both indices, and the first is above the second
pub record IsTurnedRange (tokens : List Token) (least most : ℕ) : Type 0 where
  pub first : ℕ
  pub second : ℕ
  pub first_is : IsWholeAt tokens least first
  pub second_is : IsWholeAt tokens most second
  pub few : first ≤ 63
  pub turned : second < first

-- one of the two numbers of a repeat isn't whole or is above 63; or the first is above the second, which is then the place
abbrev pub IsBadRange : List Token → ℕ → ℕ → ℕ → Type 0
IsBadRange tokens least most i =
    IsBadNumber tokens 63 least i ⊎ (IsBadNumber tokens 63 most i ⊎ ((i ≡ most) × IsTurnedRange tokens least most))

-- i is a number of the guard that isn't whole or is above 65,535
abbrev pub IsBadInGuard : List Token → GuardNode → ℕ → Type 0
IsBadInGuard tokens (CountAt which relation number) i = IsBadNumber tokens 65535 number i
IsBadInGuard tokens (BothOf left right) i = IsBadInGuard tokens left i ⊎ IsBadInGuard tokens right i
IsBadInGuard tokens (EitherOf left right) i = IsBadInGuard tokens left i ⊎ IsBadInGuard tokens right i
IsBadInGuard tokens (NotOf inner) i = IsBadInGuard tokens inner i

-- i is a bad count of the expression
abbrev pub BadCountAt : List Token → ProbeNode → ℕ → Type 0
BadCountAt tokens (OneAt at) i = ⊥
BadCountAt tokens (ThenOf left right) i = BadCountAt tokens left i ⊎ BadCountAt tokens right i
BadCountAt tokens (OrOf left right) i = BadCountAt tokens left i ⊎ BadCountAt tokens right i
BadCountAt tokens (LabelOf inner name) i = BadCountAt tokens inner i
BadCountAt tokens (StarOf inner) i = BadCountAt tokens inner i
BadCountAt tokens (PlusOf inner) i = BadCountAt tokens inner i
BadCountAt tokens (MaybeOf inner) i = BadCountAt tokens inner i
BadCountAt tokens (TimesOf inner number) i = BadCountAt tokens inner i ⊎ IsBadNumber tokens 63 number i
BadCountAt tokens (BetweenOf inner least most) i = BadCountAt tokens inner i ⊎ IsBadRange tokens least most i
BadCountAt tokens (ResetOf inner name) i = BadCountAt tokens inner i
BadCountAt tokens (GuardedOf guard inner) i = IsBadInGuard tokens guard i ⊎ BadCountAt tokens inner i

-- no index is like this; or this one is, and each other that is isn't below it
abbrev pub IsFirstIndex : (ℕ → Type 0) → Option ℕ → Type 0
IsFirstIndex Is None = (i : ℕ) → ¬ Is i
IsFirstIndex Is (Some i) = Is i × ((other : ℕ) → Is other → i ≤ other)

-- the lesser of two indices, as far as they are there
abbrev pub earlier_index : Option ℕ → Option ℕ → Option ℕ
earlier_index None right = right
earlier_index (Some i) None = Some i
earlier_index (Some i) (Some j) = Some (min i j)
