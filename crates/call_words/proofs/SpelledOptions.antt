-- What the test of a word decides.
use Rattle.std.proofs.Common.{◌≡◌, ℕ, List, [], ◌∷◌, ◌++◌, Bool, true, false, not, eqb, ◌&&◌, ◌||◌, refl, sym, ap, ◌∙◌, ◌⊎◌, inl, inr, subst, ◌+◌, ◌<◌, length, get_or, drop, drop-cons, add-one, map}
use Rattle.std.proofs.lemmas.Bool.{eqb-true, eq-eqb, or_right, or_left}
use Rattle.call_words.specs.OptionUses.{name_word, joined_word}
use Rattle.call_words.specs.HyphenTest.{IsOptionOrPlain, AreOptionsOrPlain, spells_name, spells_one, is_option_or_plain}
use Rattle.pepa_model.specs.Derivation.{Among}

and_both : (a b : Bool) → a && b ≡ true → (a ≡ true) × (b ≡ true)
and_both true b h = (refl, h)
and_both false b h = absurd cc

-- the bytes are the name, or the name, `=` and a value
abbrev Spells : List ℕ → List ℕ → Type 0
Spells name w = (w ≡ name) ⊎ ((v : List ℕ) × (w ≡ name ++ 61 ∷ v))

spells : (name w : List ℕ) → spells_name name w ≡ true → Spells name w
spells [] [] h = inl refl
spells [] (y ∷ ys) h = let e = eqb-true y 61 h in inr (ys, ap (λ (x : ℕ). x ∷ ys) e)
spells (n ∷ ns) [] h = absurd cc
spells (n ∷ ns) (y ∷ ys) h =
    let both = and_both (eqb y n) (spells_name ns ys) h in
    let e = eqb-true y n both.0 in
    elim (spells ns ys both.1) [
      | inl same ↦ inl (ap (λ (x : ℕ). x ∷ ys) e ∙ ap (λ (l : List ℕ). n ∷ l) same)
      | inr more ↦ inr (more.0, ap (λ (x : ℕ). x ∷ ys) e ∙ ap (λ (l : List ℕ). n ∷ l) more.1)
    ]

spells_alone : (name : List ℕ) → spells_name name name ≡ true
spells_alone [] = refl
spells_alone (n ∷ ns) = rw (eq-eqb n n refl) (spells_alone ns)

spells_joined : (name v : List ℕ) → spells_name name (name ++ 61 ∷ v) ≡ true
spells_joined [] v = refl
spells_joined (n ∷ ns) v = rw (eq-eqb n n refl) (spells_joined ns v)

one_from : (names : List (List ℕ)) (name w : List ℕ) → Among name names → spells_name name w ≡ true → spells_one names w ≡ true
one_from [] name w among h = absurd among
one_from (x ∷ names) name w (inl e) h = or_left (spells_name x w) _ (ap (λ n. spells_name n w) (sym e) ∙ h)
one_from (x ∷ names) name w (inr among) h = or_right _ (spells_one names w) (one_from names name w among h)

one_of : (names : List (List ℕ)) (w : List ℕ) → spells_one names w ≡ true → (name : List ℕ) × Among name names × (spells_name name w ≡ true)
one_of [] w h = absurd cc
one_of (x ∷ names) w h = go (one_of names w) (spells_name x w) refl h where
  go : (spells_one names w ≡ true → (name : List ℕ) × Among name names × (spells_name name w ≡ true)) → (b : Bool) → spells_name x w ≡ b → b || spells_one names w ≡ true
      → (name : List ℕ) × Among name (x ∷ names) × (spells_name name w ≡ true)
  go more true e h = (x, inl refl, e)
  go more false e h = let t = more h in (t.0, inr t.1, t.2)

option_passes : (names : List (List ℕ)) (name w : List ℕ) → Among name names → ((w ≡ name_word name) ⊎ ((v : List ℕ) × (w ≡ joined_word name v)))
    → is_option_or_plain names w ≡ true
option_passes names name w among h =
    let P : List ℕ → Type 0 = λ x. is_option_or_plain names x ≡ true in
    elim h [
      | inl e ↦ subst P (sym e) (one_from names name name among (spells_alone name))
      | inr e ↦ subst P (sym e.1) (one_from names name (name ++ 61 ∷ e.0) among (spells_joined name e.0))
    ]

pub test_from : (names : List (List ℕ)) (w : List ℕ) → IsOptionOrPlain names w → is_option_or_plain names w ≡ true
test_from names [] h = refl
test_from names (x ∷ []) h = go (eqb x 45) refl where
  go : (b : Bool) → eqb x 45 ≡ b → not b ≡ true
  go false e = refl
  go true e = let t = h (eqb-true x 45 e) in let p = option_passes names t.0 (x ∷ []) t.1 t.2 in sym (ap not e) ∙ p
test_from names (x ∷ y ∷ ys) h = go (eqb x 45) refl where
  go : (b : Bool) → eqb x 45 ≡ b → is_option_or_plain names (x ∷ y ∷ ys) ≡ true
  go false e = rw e refl
  go true e = let t = h (eqb-true x 45 e) in option_passes names t.0 (x ∷ y ∷ ys) t.1 t.2

spelled_word : (name ys : List ℕ) (x y : ℕ) → x ≡ 45 → y ≡ 45 → Spells name ys
    → ((x ∷ y ∷ ys ≡ name_word name) ⊎ ((v : List ℕ) × (x ∷ y ∷ ys ≡ joined_word name v)))
spelled_word name ys x y d e (inl s) = inl (ap (λ z. z ∷ y ∷ ys) d ∙ ap (λ z. 45 ∷ z ∷ ys) e ∙ ap (λ (l : List ℕ). 45 ∷ 45 ∷ l) s)
spelled_word name ys x y d e (inr s) = inr (s.0, ap (λ z. z ∷ y ∷ ys) d ∙ ap (λ z. 45 ∷ z ∷ ys) e ∙ ap (λ (l : List ℕ). 45 ∷ 45 ∷ l) s.1)

pub test_to : (names : List (List ℕ)) (w : List ℕ) → is_option_or_plain names w ≡ true → IsOptionOrPlain names w
test_to names [] h = λ k. absurd k
test_to names (x ∷ []) h = λ k. let bad : not true ≡ true = sym (ap not (eq-eqb x 45 k)) ∙ h in absurd cc
test_to names (x ∷ y ∷ ys) h = λ k.
    let one : (y ≡ 45) × (spells_one names ys ≡ true) = parts k (eqb y 45) refl in
    let t = one_of names ys one.1 in
    (t.0, t.1, spelled_word t.0 ys x y k one.0 (spells t.0 ys t.2)) where
      parts : x ≡ 45 → (b : Bool) → eqb y 45 ≡ b → (y ≡ 45) × (spells_one names ys ≡ true)
      parts k b e =
          let both = and_both (eqb y 45) (spells_one names ys) (rw (eq-eqb x 45 k) at h) in
          (eqb-true y 45 both.0, both.1)

drop_at : {A : Type 0} (words : List A) (i : ℕ) (w : A) → i < length words → w ≡ get_or words i w → drop i words ≡ w ∷ drop (i + 1) words
drop_at words i w less is =
    let e : drop i words ≡ get_or words i w ∷ drop (i + 1) words = rw add-one (drop-cons words i w less) in
    e ∙ ap (λ y. y ∷ drop (i + 1) words) (sym is)

-- one more word
pub one_more_word : {A : Type 0} (text : A → List ℕ) (names : List (List ℕ)) (words : List A) (i : ℕ) (w : A) → i < length words → w ≡ get_or words i w
    → is_option_or_plain names (text w) ≡ true
    → (AreOptionsOrPlain names (map text (drop (i + 1) words)) → AreOptionsOrPlain names (map text (drop i words)))
    × (AreOptionsOrPlain names (map text (drop i words)) → AreOptionsOrPlain names (map text (drop (i + 1) words)))
one_more_word {A} text names words i w less is passes =
    let e = drop_at words i w less is in
    let P : List A → Type 0 = λ xs. AreOptionsOrPlain names (map text xs) in
    (λ h. subst P (sym e) (test_to names (text w) passes, h), λ h. (let k : P (w ∷ drop (i + 1) words) = subst P e h in k.1))

pub refused_word : {A : Type 0} (text : A → List ℕ) (names : List (List ℕ)) (words : List A) (i : ℕ) (w : A) → i < length words → w ≡ get_or words i w
    → is_option_or_plain names (text w) ≡ false → AreOptionsOrPlain names (map text (drop i words)) → ⊥
refused_word {A} text names words i w less is refused h =
    let P : List A → Type 0 = λ xs. AreOptionsOrPlain names (map text xs) in
    let k : P (w ∷ drop (i + 1) words) = subst P (drop_at words i w less is) h in
    let bad : true ≡ false = sym (test_from names (text w) k.0) ∙ refused in
    absurd cc
