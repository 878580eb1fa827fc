-- What is kept of nodes and keys, where a word of lists changes.
use Rattle.std.proofs.Common.{◌≡◌, ◌≢◌, ℕ, zero, suc, ◌+◌, ◌<◌, ◌≤◌, ◌^◌, nat_le, min, Bool, List, ◌++◌, length, set, refl, sym, ap, ◌∙◌, subst, arith, slice_index, length-set, Option}
use mathlib.Core.Option.{some}
use lib.ListN.{get_elem?}
use Rattle.std.proofs.lemmas.List.{get_or-set_other}
use Rattle.intern_core.specs.declared.shape.Shape.{Shape}
use Rattle.intern_core.specs.declared.history.Entry.{Entry}
use Rattle.intern_core.specs.declared.seat.Seat.{Seat}
use Rattle.intern_core.specs.declared.seat.Phase.{Phase}
use Rattle.intern_core.specs.Layout.{claim_at, one_at, two_at, next_at, list_at, link_at, block_at}
use Rattle.intern_core.specs.History.{Known, known, uses, one_if, listing_in, IsLegal}
use Rattle.intern_core.specs.Image.{in_bucket, IsChain, HaveKeys, IsListWord}
use Rattle.intern_core.specs.Turns.{seat}
use Rattle.intern_core.specs.Kept.{total, is_pass, keeps, has_spare, is_marked, HasReached, IsSeat, Shared, Kept}
use Rattle.intern_core.proofs.Sums.{total_same}
use Rattle.intern_core.proofs.Chains.{chain_same, keys_same, uses_filter}
use Rattle.intern_core.proofs.Walks.{reached_words}
use Rattle.intern_core.proofs.Steps.{each_seat, known_small, spare_alone}
use Rattle.intern_core.specs.Layout.{bucket_of}
use Rattle.std.specs.Prelude.{◌==◌}

-- a word that is no link, no key word and not the claim word of the nodes
pub record IsAside (shape : Shape) (place : ℕ) : Type 0 where
  pub link : (b n : ℕ) → b < 2 ^ shape.bucket_bits → n ≤ shape.nodes → place ≢ link_at shape b n
  pub claim : claim_at ≢ place
  pub one : (n : ℕ) → 0 < n → n ≤ shape.nodes → one_at n ≢ place
  pub two : (n : ℕ) → 0 < n → n ≤ shape.nodes → two_at n ≢ place
  pub next : (n : ℕ) → 0 < n → n ≤ shape.nodes → next_at n ≢ place

pub entries_aside : (shape : Shape) → IsAside shape 1
entries_aside shape = record {
  link = λ b n low. elim n as (λ m. m ≤ shape.nodes → 1 ≢ link_at shape b m) [ zero ↦ (λ h e. omega arith) | suc m ↦ (λ h e. omega arith) ];
  claim = λ e. omega arith;
  one = λ n pos le e. omega arith;
  two = λ n pos le e. omega arith;
  next = λ n pos le e. omega arith;
}

pub list_aside : (shape : Shape) (number : ℕ) → number ≤ shape.nodes → IsAside shape (list_at number)
list_aside shape number small = record {
  link = λ b n low. elim n as (λ m. m ≤ shape.nodes → list_at number ≢ link_at shape b m) [ zero ↦ (λ h e. omega arith) | suc m ↦ (λ h e. omega arith) ];
  claim = λ e. omega arith;
  one = λ n pos le e. omega arith;
  two = λ n pos le e. omega arith;
  next = λ n pos le e. omega arith;
}

pub block_aside : (shape : Shape) (place : ℕ) → block_at shape 0 ≤ place → IsAside shape place
block_aside shape place high = record {
  link = λ b n low. elim n as (λ m. m ≤ shape.nodes → place ≢ link_at shape b m) [ zero ↦ (λ h e. omega arith) | suc m ↦ (λ h e. omega arith) ];
  claim = λ e. omega arith;
  one = λ n pos le e. omega arith;
  two = λ n pos le e. omega arith;
  next = λ n pos le e. omega arith;
}

module _ (shape : Shape) (words : List ℕ) (seats : List Seat) (history : List Entry) (k : Kept shape words seats history) where
  -- a seat that keeps its spare and its mark changes such a word
  pub kept_aside : (i p : ℕ) (r r' : Option ℕ) (spare : ℕ) (marked : Bool) (before after : Phase) (made : List Entry) (place v : ℕ)
      → get_elem? seats i ≡ some (seat p r spare marked before) → IsAside shape place
      → known (history ++ made) ≡ known history → IsLegal shape (history ++ made)
      → ((n : ℕ) → 0 < n → n ≤ shape.nodes → IsListWord shape (set words place v) (slice_index (set words place v) (list_at n)) (listing_in (history ++ made) n))
      → HasReached shape (set words place v) (known history) spare marked after
      → Kept shape (set words place v) (set seats i (seat p r' spare marked after)) (history ++ made)
  kept_aside i p r r' spare marked before after made place v at aside same legal lists reached =
      let old = seat p r spare marked before in
      let new = seat p r' spare marked after in
      let seen = known history in
      let words' = set words place v in
      let sum : (f : Seat → ℕ) → f new ≡ f old → total f (set seats i new) ≡ total f seats = λ f e. total_same f seats i old new at e in
      let others : (n : ℕ) → n ≢ place → slice_index words' n ≡ slice_index words n = λ n ne. get_or-set_other words place n v 0 ne in
      let claim : slice_index words' claim_at ≡ slice_index words claim_at = others claim_at aside.claim in
      let small = known_small shape words seats history k in
      let sitting = k.seat_is i old at in
      record {
        ranges = k.ranges;
        long = length-set words place v ∙ k.long;
        few = let h = k.few in omega (arith, length-set seats i new);
        apart = λ n. let h = k.apart n in omega (arith, sum (is_pass n) refl);
        legal = legal;
        image = record {
          chains = λ b low. subst (λ l. IsChain shape words' b 0 (in_bucket shape b l)) (sym same)
              (chain_same shape words b place v 0 (in_bucket shape b seen) (aside.link b 0 low (omega arith))
              (λ n h. let below = uses_filter n (λ (x : Known). bucket_of shape x.key == b) seen in aside.link b n low (small n (omega arith)).1)
              (k.image.chains b low));
          keys = subst (HaveKeys words') (sym same) (keys_same words place v seen (λ n h. (aside.one n (small n h).0 (small n h).1, aside.two n (small n h).0 (small n h).1)) k.image.keys);
          lists = lists;
        };
        shared = subst (Shared shape words' (set seats i new)) (sym same) (record {
          each = λ n h. ap (λ t. uses n seen + t) (sum (keeps n) refl) ∙ k.shared.each n h ∙ ap (λ c. one_if (nat_le n (min c shape.nodes))) (sym claim);
          numbers = k.shared.numbers;
          all = let h = k.shared.all in omega (arith, sum has_spare refl, sum is_marked refl);
          full = ap (λ t. length seen + t) (sum has_spare refl) ∙ k.shared.full ∙ ap (λ c. min c shape.nodes) (sym claim);
          fresh = λ n pos le none. others (next_at n) (aside.next n pos le) ∙ k.shared.fresh n pos le none;
        });
        seat_is = subst (λ (l : List Known). (j : ℕ) (t : Seat) → get_elem? (set seats i new) j ≡ some t → IsSeat shape words' l t) (sym same)
            (each_seat seats i new (IsSeat shape words' seen)
            (record { pass = sitting.pass; mark = λ m. let h = sitting.mark m in (h.0, subst (λ c. shape.nodes ≤ c) (sym claim) h.1); reached = reached })
            (λ j t ne there.
            let s = k.seat_is j t there in
            record {
              pass = s.pass;
              mark = λ m. let h = s.mark m in (h.0, subst (λ c. shape.nodes ≤ c) (sym claim) h.1);
              reached = reached_words shape words seen t.spare place v
                  (record {
                    spare_one = λ h. aside.one t.spare h (spare_alone shape words seats history k j t there h).0;
                    spare_two = λ h. aside.two t.spare h (spare_alone shape words seats history k j t there h).0;
                    known_one = λ n h. aside.one n (small n h).0 (small n h).1;
                  })
                  t.marked t.phase s.reached;
            }));
      }
