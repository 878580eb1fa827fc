-- Lists of views and histories, where one view changes or one entry is made.
use Rattle.std.proofs.Common.{◌≡◌, ℕ, zero, suc, ◌==◌, Bool, true, false, cond, List, [], ◌∷◌, ◌++◌, set, refl, sym, ap, ◌∙◌, subst, append_assoc, append-nil, Option, Some, None}
use mathlib.Core.Option.{some, some-injective, some-ne-none}
use lib.ListN.{get_elem?}
use Rattle.intern_core.specs.declared.history.Key.{Key}
use Rattle.intern_core.specs.declared.history.Entry.{Entry}
use Rattle.intern_core.specs.declared.history.EntryWords.{EntryWords}
use Rattle.intern_core.specs.declared.history.Entry.TheVariants.{Call, Lost}
use Rattle.intern_core.specs.declared.history.Entry.TheVariants as entry
use Rattle.intern_core.specs.History.{Listing, listing, listing_in}
use Rattle.intern_core.specs.Blocks.{IsLongerThan}
use Rattle.intern_core.specs.Machine.{with_offer}
use Rattle.chain_rule.specs.declared.view.View.{View}
use Rattle.chain_rule.specs.Rule.{IsFront, pass_of, own, offering_seats, Means, MeansAfter}

-- where the seat of a pass stands among the seats, and what they are once that pass changes
pub record Place {M : Type 0} (views : List (View M)) (id : ℕ) (v : View M) : Type 0 where
  pub at : ℕ
  pub seat_there : get_elem? (offering_seats views) at ≡ some (with_offer v.seat v.offer)
  pub changed : (w : View M) → w.walks ≡ true → offering_seats (set views id w) ≡ set (offering_seats views) at (with_offer w.seat w.offer)

module _ {M : Type 0} where
  pub walks_on : (v : View M) (vs : List (View M)) → v.walks ≡ true → offering_seats (v ∷ vs) ≡ with_offer v.seat v.offer ∷ offering_seats vs
  walks_on v vs w = ap (λ t. cond t (with_offer v.seat v.offer ∷ offering_seats vs) (offering_seats vs)) w

  place_behind : (x : View M) (views : List (View M)) (id : ℕ) (v : View M) → Place views id v → (t : Bool) → x.walks ≡ t → Place (x ∷ views) (suc id) v
  place_behind x views id v p true w = record {
    at = suc p.at;
    seat_there = subst (λ l. get_elem? l (suc p.at) ≡ some (with_offer v.seat v.offer)) (sym (walks_on x views w)) p.seat_there;
    changed = λ y walks. walks_on x (set views id y) w ∙ ap (λ l. with_offer x.seat x.offer ∷ l) (p.changed y walks) ∙ ap (λ l. set l (suc p.at) (with_offer y.seat y.offer)) (sym (walks_on x views w));
  }
  place_behind x views id v p false w = record {
    at = p.at;
    seat_there = subst (λ l. get_elem? l p.at ≡ some (with_offer v.seat v.offer)) (sym (ap (λ t. cond t (with_offer x.seat x.offer ∷ offering_seats views) (offering_seats views)) w)) p.seat_there;
    changed = λ y walks. ap (λ t. cond t (with_offer x.seat x.offer ∷ offering_seats (set views id y)) (offering_seats (set views id y))) w ∙ p.changed y walks
        ∙ ap (λ l. set l p.at (with_offer y.seat y.offer)) (sym (ap (λ t. cond t (with_offer x.seat x.offer ∷ offering_seats views) (offering_seats views)) w));
  }

  pub place_of_pass : (views : List (View M)) (id : ℕ) (v : View M) → get_elem? views id ≡ some v → v.walks ≡ true → Place views id v
  place_of_pass [] id v at walks = absurd (some-ne-none v (sym at))
  place_of_pass (x ∷ views) zero v at walks =
      let e = some-injective x v at in
      let w : x.walks ≡ true = ap (λ (y : View M). y.walks) e ∙ walks in
      record {
        at = 0;
        seat_there = subst (λ l. get_elem? l 0 ≡ some (with_offer v.seat v.offer)) (sym (walks_on x views w)) (ap (λ (y : View M). some (with_offer y.seat y.offer)) e);
        changed = λ y walks'. walks_on y views walks' ∙ ap (λ l. set l 0 (with_offer y.seat y.offer)) (sym (walks_on x views w));
      }
  place_of_pass (x ∷ views) (suc id) v at walks = place_behind x views id v (place_of_pass views id v at walks) x.walks refl

pub at_again : {A : Type 0} (l : List A) (i : ℕ) (a b : A) → get_elem? l i ≡ some a → get_elem? (set l i b) i ≡ some b
at_again [] i a b e = absurd (some-ne-none a (sym e))
at_again (x ∷ xs) zero a b e = refl
at_again (x ∷ xs) (suc i) a b e = at_again xs i a b e

pub front_self : (h : List Entry) → IsFront h h
front_self h = ([], sym (append-nil h))

pub front_more : (f h more : List Entry) → IsFront f h → IsFront f (h ++ more)
front_more f h more p = (p.0 ++ more, ap (λ l. l ++ more) p.1 ∙ append_assoc f p.0 more)

pub own-append : (p : ℕ) (xs ys : List Entry) → own p (xs ++ ys) ≡ own p xs ++ own p ys
own-append p [] ys = refl
own-append p (x ∷ xs) ys =
    ap (λ l. cond (pass_of x == p) (x ∷ l) l) (own-append p xs ys) ∙ step (pass_of x == p) x (own p xs) (own p ys) where
      step : (t : Bool) (e : Entry) (l m : List Entry) → cond t (e ∷ (l ++ m)) (l ++ m) ≡ cond t (e ∷ l) l ++ m
      step true e l m = refl
      step false e l m = refl

module _ {M : Type 0} (lawful : M → List Entry → Key → Type 0) (allowed : M → Key → Type 0) (stands : M → List Entry → ℕ → List EntryWords → Type 0) (m : M) where
  pub means_more : (before xs : List Entry) (e : Entry) → MeansAfter lawful allowed stands m before xs → Means lawful allowed stands m (before ++ xs) e
      → MeansAfter lawful allowed stands m before (xs ++ e ∷ [])
  means_more before [] e h new = (subst (λ l. Means lawful allowed stands m l e) (append-nil before) new, tt)
  means_more before (x ∷ xs) e h new = (h.0, means_more (before ++ x ∷ []) xs e h.1 (subst (λ l. Means lawful allowed stands m l e) (sym (append_assoc before (x ∷ []) xs)) new))

-- a list that a front has stays
pub listing_front : (xs more : List Entry) (n : ℕ) (l : Listing) → listing_in xs n ≡ Some l → listing_in (xs ++ more) n ≡ Some l
listing_front [] more n l h = absurd cc
listing_front (Call p k a ∷ xs) more n l h = listing_front xs more n l h
listing_front (Lost p m len ∷ xs) more n l h = listing_front xs more n l h
listing_front (entry.List p m ws ∷ xs) more n l h = by (m == n) h (listing_front xs more n l) where
  by : (t : Bool) → cond t (Some (listing p ws)) (listing_in xs n) ≡ Some l → (listing_in xs n ≡ Some l → listing_in (xs ++ more) n ≡ Some l)
      → cond t (Some (listing p ws)) (listing_in (xs ++ more) n) ≡ Some l
  by true h' rest = h'
  by false h' rest = rest h'

-- a list that is longer than this is there
pub longer_is : (at : ℕ) (o : Option Listing) → IsLongerThan at o → (l : Listing) × (o ≡ Some l) × IsLongerThan at (Some l)
longer_is at None long = absurd long
longer_is at (Some l) long = (l, refl, long)
