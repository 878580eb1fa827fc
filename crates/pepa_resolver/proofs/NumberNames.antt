-- Names that are put behind others, each once.
use Rattle.std.proofs.Common.{◌≡◌, ℕ, ◌<◌, Bool, true, false, cond, not, ◌||◌, if◌then◌else◌, List, [], ◌∷◌, ◌++◌, map, flat_map, length, Option, Some, None, position, unwrap_or, bytes_eq, ◌⊎◌, inl, inr, refl, sym, ap, ◌∙◌, subst, append_assoc}
use Rattle.std.specs.List.{list_any}
use Rattle.std.specs.Map.{keys_of}
use Rattle.std.proofs.lemmas.Slice.Eq.{bytes_eq-Decides}
use Rattle.std.proofs.lemmas.List.{map-append}
use Rattle.std.proofs.lemmas.List.Concat.{flat_map-append}
use Rattle.std.proofs.lemmas.List.Quantifiers.{position-Some}
use Rattle.std.proofs.lemmas.List.Elements.{filter-append}
use Rattle.indexmap.specs.IndexMap.{insert_entry}
use Rattle.pepa_reader.specs.Trees.{ProcessNode}
use Rattle.pepa_model.specs.Leaves.{without}
use Rattle.pepa_resolver.specs.Numbers.{first_places, place_in, words_in}
use Rattle.pepa_resolver.specs.NumberSteps.{with_name, with_names}

abbrev Names : Type 0
Names = List (List ℕ)

pub true_or_false : (b : Bool) → (b ≡ true) ⊎ (b ≡ false)
true_or_false true = inl refl
true_or_false false = inr refl

pub place_within : (names : Names) (name : List ℕ) → 0 < length names → place_in names name < length names
place_within names name some = by (position (bytes_eq name) names) refl
  where
    by : (o : Option ℕ) → position (bytes_eq name) names ≡ o → unwrap_or o 0 < length names
    by None e = some
    by (Some i) e = (position-Some (bytes_eq name) names i name e).0

-- ---- a name that is put behind the others

pub keys-insert : {V : Type 0} (entries : List (List ℕ × V)) (name : List ℕ) (v : V) → keys_of (insert_entry bytes_eq entries name v) ≡ with_name (keys_of entries) name
keys-insert [] name v = refl
keys-insert {V} (e ∷ entries) name v = step (bytes_eq name e.0) (list_any (bytes_eq name) (keys_of entries)) (insert_entry bytes_eq entries name v) (keys-insert entries name v)
  where
    step : (b a : Bool) (rest : List (List ℕ × V)) → keys_of rest ≡ (if a then keys_of entries else (keys_of entries ++ name ∷ [])) → keys_of (if b then (e.0, v) ∷ entries else e ∷ rest) ≡ (if b || a then e.0 ∷ keys_of entries else ((e.0 ∷ keys_of entries) ++ name ∷ []))
    step true a rest h = refl
    step false true rest h = ap (λ (k : Names). e.0 ∷ k) h
    step false false rest h = ap (λ (k : Names). e.0 ∷ k) h

-- ---- first places

any-without : (x name : List ℕ) (names : Names) → bytes_eq name x ≡ false → list_any (bytes_eq name) (without bytes_eq x names) ≡ list_any (bytes_eq name) names
any-without x name [] apart = refl
any-without x name (other ∷ names) apart =
    elim (true_or_false (bytes_eq x other)) [
      | inl e ↦ let same : x ≡ other = (bytes_eq-Decides x other).0 e in
          let apart' : bytes_eq name other ≡ false = subst (λ (y : List ℕ). bytes_eq name y ≡ false) same apart in
          ap (λ (b : Bool). list_any (bytes_eq name) (cond (not b) (other ∷ without bytes_eq x names) (without bytes_eq x names))) e
          ∙ any-without x name names apart
          ∙ sym (ap (λ (b : Bool). b || list_any (bytes_eq name) names) apart')
      | inr e ↦ ap (λ (b : Bool). list_any (bytes_eq name) (cond (not b) (other ∷ without bytes_eq x names) (without bytes_eq x names))) e
          ∙ ap (λ (b : Bool). bytes_eq name other || b) (any-without x name names apart)
    ]

pub with_name-there : (names : Names) (name : List ℕ) → list_any (bytes_eq name) names ≡ true → with_name names name ≡ names
with_name-there names name e = ap (λ (b : Bool). if b then names else (names ++ name ∷ [])) e

pub with_name-new : (names : Names) (name : List ℕ) → list_any (bytes_eq name) names ≡ false → with_name names name ≡ names ++ name ∷ []
with_name-new names name e = ap (λ (b : Bool). if b then names else (names ++ name ∷ [])) e

without-push : (x name : List ℕ) (names : Names) (b : Bool) → bytes_eq x name ≡ b → without bytes_eq x (names ++ name ∷ []) ≡ without bytes_eq x names ++ (cond (not b) (name ∷ []) [])
without-push x name names b e = filter-append (λ (other : List ℕ). not (bytes_eq x other)) names (name ∷ []) ∙ ap (λ (c : Bool). without bytes_eq x names ++ cond (not c) (name ∷ []) []) e

pub append-nothing : (names : Names) → names ++ [] ≡ names
append-nothing [] = refl
append-nothing (name ∷ names) = ap (λ (k : Names). name ∷ k) (append-nothing names)

bytes_eq-apart : (x y : List ℕ) → bytes_eq x y ≡ false → bytes_eq y x ≡ false
bytes_eq-apart x y e =
    elim (true_or_false (bytes_eq y x)) [
      | inl k ↦ let same : bytes_eq x y ≡ true = (bytes_eq-Decides x y).1 (sym ((bytes_eq-Decides y x).0 k)) in absurd cc
      | inr k ↦ k
    ]

without-with_name : (x name : List ℕ) (names : Names) → x ∷ without bytes_eq x (with_name names name) ≡ with_name (x ∷ without bytes_eq x names) name
without-with_name x name names =
    elim (true_or_false (bytes_eq name x)) [
      | inl e ↦ ap (λ (k : Names). x ∷ k) (same e) ∙ sym (with_name-there (x ∷ without bytes_eq x names) name (ap (λ (b : Bool). b || list_any (bytes_eq name) (without bytes_eq x names)) e))
      | inr e ↦ other e
    ]
  where
    same : bytes_eq name x ≡ true → without bytes_eq x (with_name names name) ≡ without bytes_eq x names
    same e =
        let back : bytes_eq x name ≡ true = (bytes_eq-Decides x name).1 (sym ((bytes_eq-Decides name x).0 e)) in
        elim (true_or_false (list_any (bytes_eq name) names)) [
          | inl a ↦ ap (without bytes_eq x) (with_name-there names name a)
          | inr a ↦ ap (without bytes_eq x) (with_name-new names name a) ∙ without-push x name names true back ∙ append-nothing (without bytes_eq x names)
        ]

    other : bytes_eq name x ≡ false → x ∷ without bytes_eq x (with_name names name) ≡ with_name (x ∷ without bytes_eq x names) name
    other e =
        let kept : list_any (bytes_eq name) (x ∷ without bytes_eq x names) ≡ list_any (bytes_eq name) names = ap (λ (b : Bool). b || list_any (bytes_eq name) (without bytes_eq x names)) e ∙ any-without x name names e in
        elim (true_or_false (list_any (bytes_eq name) names)) [
          | inl a ↦ ap (λ (k : Names). x ∷ without bytes_eq x k) (with_name-there names name a) ∙ sym (with_name-there (x ∷ without bytes_eq x names) name (kept ∙ a))
          | inr a ↦ ap (λ (k : Names). x ∷ without bytes_eq x k) (with_name-new names name a)
              ∙ ap (λ (k : Names). x ∷ k) (without-push x name names false (bytes_eq-apart name x e))
              ∙ sym (with_name-new (x ∷ without bytes_eq x names) name (kept ∙ a))
        ]

first_places-push : (names : Names) (name : List ℕ) → first_places (names ++ name ∷ []) ≡ with_name (first_places names) name
first_places-push [] name = refl
first_places-push (x ∷ names) name =
    ap (λ (k : Names). x ∷ without bytes_eq x k) (first_places-push names name) ∙ without-with_name x name (first_places names)

-- ---- many names behind others

pub names_together : (before more : Names) → with_names (first_places before) more ≡ first_places (before ++ more)
names_together before [] = ap first_places (sym (append-nothing before))
names_together before (name ∷ more) =
    ap (λ (k : Names). with_names k more) (sym (first_places-push before name))
    ∙ names_together (before ++ name ∷ []) more
    ∙ ap first_places (append_assoc before (name ∷ []) more)

pub with_names-append : (names more others : Names) → with_names names (more ++ others) ≡ with_names (with_names names more) others
with_names-append names [] others = refl
with_names-append names (name ∷ more) others = with_names-append (with_name names name) more others

module _ (name : ℕ → List ℕ) where
  -- two lists of indices, one after the other
  pub words_append : (names middle last : Names) (words others : List ℕ) → middle ≡ with_names names (map name words) → last ≡ with_names middle (map name others) → last ≡ with_names names (map name (words ++ others))
  words_append names middle last words others first second =
      second ∙ ap (λ (k : Names). with_names k (map name others)) first
      ∙ sym (with_names-append names (map name words) (map name others))
      ∙ ap (with_names names) (sym (map-append name words others))

  -- the words of one process more
  pub processes_more : (names middle last : Names) (processes : List ProcessNode) (process : ProcessNode) → middle ≡ with_names names (map name (flat_map words_in processes)) → last ≡ with_names middle (map name (words_in process)) → last ≡ with_names names (map name (flat_map words_in (processes ++ process ∷ [])))
  processes_more names middle last processes process first second =
      words_append names middle last (flat_map words_in processes) (words_in process) first second
      ∙ ap (λ (words : List ℕ). with_names names (map name words)) (sym (flat_map-append words_in processes (process ∷ []) ∙ ap (λ (r : List ℕ). flat_map words_in processes ++ r) (no_words (words_in process))))
    where
      no_words : (words : List ℕ) → words ++ [] ≡ words
      no_words [] = refl
      no_words (word ∷ words) = ap (λ (r : List ℕ). word ∷ r) (no_words words)
