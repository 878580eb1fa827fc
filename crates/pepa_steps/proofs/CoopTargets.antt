-- The steps of a cooperation, and what the origins of its entries tell of where they lead.
use Rattle.std.proofs.Common.{◌≡◌, ℕ, zero, suc, ◌+◌, List, [], ◌∷◌, ◌++◌, map, filter, flat_map, length, slice_get, Some}
use Rattle.std.proofs.Common.{refl, sym, ap, subst, ◌∙◌, arith}
use Rattle.std.specs.List.{AllZip}
use Rattle.std.proofs.lemmas.List.{append-nil, map-append}
use Rattle.pepa_rates.specs.declared.rate.Rate.{Rate}
use Rattle.pepa_model.specs.Terms.{TermNode, CoopNode}
use Rattle.pepa_steps.specs.Moves.{Move, has, carry, outside_set, joints_with, joint_moves, cooperation}
use Rattle.pepa_steps.specs.Alike.{Alike}
use Rattle.pepa_steps.specs.Combined.{entry_of, target_of, numbered, rate_at, combined}
use Rattle.pepa_steps.specs.PartAnswers.{StepNode}
use Rattle.pepa_steps.specs.Traces.{IsTargetOf, OriginsTell}
use Rattle.pepa_steps.specs.declared.entries.Entry.{Entry}
use Rattle.pepa_steps.specs.declared.entries.Origin.{Origin}
use Rattle.pepa_steps.specs.declared.entries.Origin.TheVariants.{Left, Right, Both}
use Rattle.pepa_steps.proofs.Alikes.{cooperation_alike}
use Rattle.pepa_steps.proofs.CoopStates.{coop_steps}

-- ---- what stands at a place

pub get_kept : {X : Type 0} (xs more : List X) (i : ℕ) (x : X) → slice_get xs i ≡ Some x → slice_get (xs ++ more) i ≡ Some x
get_kept [] more i x h = absurd cc
get_kept (y ∷ xs) more zero x h = h
get_kept (y ∷ xs) more (suc i) x h = get_kept xs more i x h

pub get_last : {X : Type 0} (xs : List X) (x : X) → slice_get (xs ++ x ∷ []) (length xs) ≡ Some x
get_last [] x = refl
get_last (y ∷ xs) x = get_last xs x

get_behind : {X : Type 0} (xs ys : List X) (i : ℕ) → slice_get (xs ++ ys) (length xs + i) ≡ slice_get ys i
get_behind [] ys i = let same : 0 + i ≡ i = omega arith in ap (slice_get ys) same
get_behind (x ∷ xs) ys i = let same : suc (length xs) + i ≡ suc (length xs + i) = omega arith in ap (slice_get (x ∷ (xs ++ ys))) same ∙ get_behind xs ys i

pub get_map : {X Y : Type 0} (f : X → Y) (xs : List X) (i : ℕ) (x : X) → slice_get xs i ≡ Some x → slice_get (map f xs) i ≡ Some (f x)
get_map f [] i x h = absurd cc
get_map f (y ∷ xs) zero x h = cc
get_map f (y ∷ xs) (suc i) x h = get_map f xs i x h

pub zip_right : {X Y : Type 0} (R : X → Y → Type 0) (xs : List X) (ys : List Y) (i : ℕ) (y : Y) → AllZip R xs ys → slice_get ys i ≡ Some y → (x : X) × (slice_get xs i ≡ Some x) × R x y
zip_right R [] [] i y h k = absurd cc
zip_right R [] (v ∷ ys) i y h k = absurd h
zip_right R (x ∷ xs) [] i y h k = absurd h
zip_right R (x ∷ xs) (v ∷ ys) zero y h k = let same : v ≡ y = cc in (x, refl, subst (R x) same h.0)
zip_right R (x ∷ xs) (v ∷ ys) (suc i) y h k = zip_right R xs ys i y h.1 k

-- what stands at the place leads there
abbrev PlaceIn : {X : Type 0} → List (Move X) → ℕ → X → Type 0
PlaceIn {X} all i x = (v : Move X) × (slice_get all i ≡ Some v) × (v.target ≡ x)

module _ {X : Type 0} (all : List (Move X)) where
  numbered_alike : (at : ℕ) (us : List (Move X)) → ((i : ℕ) (u : Move X) → slice_get us i ≡ Some u → slice_get all (at + i) ≡ Some u) → AllZip (Alike (PlaceIn all)) (numbered at (map entry_of us)) us
  numbered_alike at [] here = tt
  numbered_alike at (u ∷ us) here = (
    record { action = refl; signals = refl; rate = refl; target = (u, subst (λ (n : ℕ). slice_get all n ≡ Some u) (omega arith) (here 0 u refl), refl) },
    numbered_alike (at + 1) us (λ i v e. let same : at + suc i ≡ (at + 1) + i = omega arith in subst (λ (n : ℕ). slice_get all n ≡ Some v) same (here (suc i) v e)),
  )

  places_alike : AllZip (Alike (PlaceIn all)) (numbered 0 (map entry_of all)) all
  places_alike = numbered_alike 0 all (λ i u e. let same : i ≡ 0 + i = omega arith in subst (λ (n : ℕ). slice_get all n ≡ Some u) same e)

pub entries_same : {X Y : Type 0} (R : X → Y → Type 0) (us : List (Move X)) (vs : List (Move Y)) → AllZip (Alike R) us vs → map entry_of us ≡ map entry_of vs
entries_same R [] [] h = refl
entries_same R [] (v ∷ vs) h = absurd h
entries_same R (u ∷ us) [] h = absurd h
entries_same R (u ∷ us) (v ∷ vs) h =
    ap (λ (n : ℕ). record { action = n; signals = u.signals; rate = u.rate } ∷ map entry_of us) h.0.action
    ∙ ap (λ (n : ℕ). record { action = v.action; signals = n; rate = u.rate } ∷ map entry_of us) h.0.signals
    ∙ ap (λ (r : Rate). record { action = v.action; signals = v.signals; rate = r } ∷ map entry_of us) h.0.rate
    ∙ ap (λ (l : List Entry). entry_of v ∷ l) (entries_same R us vs h.1)

-- ---- the steps of a cooperation, and what the origins of its entries tell

module _ (types : List ℕ) (set : ℕ) (x y : TermNode) (l r : List (ℕ × Rate)) (us vs : List StepNode) where
  abbrev whole : List StepNode
  whole = coop_steps types set x y l r us vs

  abbrev made : List (Move Origin)
  made = combined types l r (map entry_of us) (map entry_of vs)

  pub tells : AllZip (Alike (IsTargetOf x y set us vs)) made whole
  tells =
      cooperation_alike (PlaceIn us) (PlaceIn vs) (IsTargetOf x y set us vs) Left Right Both (λ a. CoopNode a y set) (λ b. CoopNode x b set) (λ a b. CoopNode a b set)
      (λ i a (v, at, is). (v, at, ap (λ (n : TermNode). CoopNode n y set) (sym is)))
      (λ j b (v, at, is). (v, at, ap (λ (n : TermNode). CoopNode x n set) (sym is)))
      (λ i a j b (u, at, is) (v, at_too, is_too). (u, v, at, at_too, ap (λ (n : TermNode). CoopNode n b set) (sym is) ∙ ap (λ (n : TermNode). CoopNode u.target n set) (sym is_too)))
      types (rate_at l) (rate_at l) (rate_at r) (rate_at r) (λ a h. refl) (λ a h. refl) _ _ _ _ (places_alike us) (places_alike vs)

  pub made_entries : map entry_of made ≡ map entry_of whole
  made_entries = entries_same (IsTargetOf x y set us vs) made whole tells

  -- origins that are pushed tell of the steps
  pub pushed_origins : (old new : List Origin) → new ≡ old ++ map target_of made → OriginsTell new (length old) x y set us vs whole
  pushed_origins old new is i w at =
      let found = zip_right (Alike (IsTargetOf x y set us vs)) made whole i w tells at in
      (found.0.target, ap (λ (o : List Origin). slice_get o (length old + i)) is ∙ get_behind old (map target_of made) i ∙ get_map target_of made i found.0 found.1, found.2.target)

-- over no types they are those of both sides, one behind the other
all_alone : {X : Type 0} (us : List (Move X)) → outside_set [] us ≡ us
all_alone [] = refl
all_alone (u ∷ us) = ap (λ l. u ∷ l) (all_alone us)

none_shared : {X : Type 0} (us : List (Move X)) → filter (λ u. has [] u.action) us ≡ []
none_shared [] = refl
none_shared (u ∷ us) = none_shared us

carried : {X Y : Type 0} (f : X → Y) (us : List (Move X)) → map entry_of (map (carry f) us) ≡ map entry_of us
carried f [] = refl
carried f (u ∷ us) = ap (λ l. entry_of u ∷ l) (carried f us)

pub side_by_side : {X Y Z : Type 0} (left : X → Z) (right : Y → Z) (both : X → Y → Z) (ra rb : ℕ → Rate) (us : List (Move X)) (vs : List (Move Y))
    → cooperation left right both [] ra rb us vs ≡ map (carry left) us ++ map (carry right) vs
side_by_side {X} {Y} {Z} left right both ra rb us vs =
    ap (λ (l : List (Move X)). (map (carry left) l ++ map (carry right) (outside_set [] vs)) ++ joint_moves both [] ra rb us vs) (all_alone us)
    ∙ ap (λ (l : List (Move Y)). (map (carry left) us ++ map (carry right) l) ++ joint_moves both [] ra rb us vs) (all_alone vs)
    ∙ ap (λ (l : List (Move X)). (map (carry left) us ++ map (carry right) vs) ++ flat_map (joints_with both ra rb vs) l) (none_shared us)
    ∙ append-nil (map (carry left) us ++ map (carry right) vs)

numbered_entries : (at : ℕ) (es : List Entry) → map entry_of (numbered at es) ≡ es
numbered_entries at [] = refl
numbered_entries at (e ∷ es) = ap (λ l. e ∷ l) (numbered_entries (at + 1) es)

pub beside_entries : (l r : List (ℕ × Rate)) (us vs : List Entry) → map entry_of (combined [] l r us vs) ≡ us ++ vs
beside_entries l r us vs =
    ap (map entry_of) (side_by_side Left Right Both (rate_at l) (rate_at r) (numbered 0 us) (numbered 0 vs))
    ∙ map-append entry_of (map (carry Left) (numbered 0 us)) (map (carry Right) (numbered 0 vs))
    ∙ ap (λ (e : List Entry). e ++ map entry_of (map (carry Right) (numbered 0 vs))) (carried Left (numbered 0 us) ∙ numbered_entries 0 us)
    ∙ ap (λ (e : List Entry). us ++ e) (carried Right (numbered 0 vs) ∙ numbered_entries 0 vs)
