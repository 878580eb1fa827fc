-- What putting a name into a table does.
use Rattle.std.proofs.Common.{◌≡◌, ℕ, Bool, true, false, List, [], ◌∷◌, ◌++◌, Option, Some, None, is_some, not, MatchBool, bytes_eq, sym, ap, ◌∙◌}
use Rattle.std.specs.List.{Contains}
use Rattle.std.specs.Option.{IsSome}
use Rattle.std.specs.Cmp.Lexicographic.{nat_list_eq_equiv}
use Rattle.std.specs.Map.{keys_of}
use Rattle.std.proofs.lemmas.List.{map-append}
use Rattle.std.proofs.lemmas.Map.Views.{hash_map_contains_key_iff}
use Rattle.std.proofs.lemmas.Slice.Eq.{bytes_eq-Decides}
use Rattle.indexmap.specs.IndexMap.{IndexMap, keys, get, insert_entry}
use Rattle.indexmap.proofs.CallerLemmas.{insert_entry-new, keys-insert_entry-present}

module _ {V S : Type 0} (m : IndexMap (List ℕ) V S) (name : List ℕ) (v : V) where
  listed : IsSome (get bytes_eq m name) → Contains (keys m) name
  listed h = (hash_map_contains_key_iff nat_list_eq_equiv (λ x y e. (bytes_eq-Decides x y).0 e) m name).0 h

  unlisted : get bytes_eq m name ≡ None → ¬ Contains (keys m) name
  unlisted none h =
      let some : is_some (get bytes_eq m name) ≡ true = (hash_map_contains_key_iff nat_list_eq_equiv (λ x y e. (bytes_eq-Decides x y).0 e) m name).1 h in
      let not : is_some (get bytes_eq m name) ≡ false = ap is_some none in
      cc

  by_old : (n : IndexMap (List ℕ) V S) (old : Option V) (r : Bool) → n.entries ≡ insert_entry bytes_eq m.entries name v → old ≡ get bytes_eq m name → is_some old ≡ not r → MatchBool r ((¬ Contains (keys m) name) × (keys n ≡ keys m ++ name ∷ [])) (Contains (keys m) name × (keys n ≡ keys m))
  by_old n None true entries is test =
      (unlisted (sym is), ap keys_of entries ∙ ap keys_of (insert_entry-new bytes_eq m name v (sym is)) ∙ map-append (λ (e : List ℕ × V). e.0) m.entries ((name, v) ∷ []))
  by_old n None false entries is test = absurd cc
  by_old n (Some x) true entries is test = absurd cc
  by_old n (Some x) false entries is test =
      let there : IsSome (get bytes_eq m name) = ap is_some (sym is) in
      (listed there, ap keys_of entries ∙ keys-insert_entry-present bytes_eq m name v there)

  pub inserted : (n : IndexMap (List ℕ) V S) (key : List ℕ) (old : Option V) (r : Bool) → key ≡ name → n.entries ≡ insert_entry bytes_eq m.entries key v → old ≡ get bytes_eq m key → is_some old ≡ not r → MatchBool r ((¬ Contains (keys m) name) × (keys n ≡ keys m ++ name ∷ [])) (Contains (keys m) name × (keys n ≡ keys m))
  inserted n key old r same entries is test =
      by_old n old r (entries ∙ ap (λ k. insert_entry bytes_eq m.entries k v) same) (is ∙ ap (get bytes_eq m) same) test
