-- Guards that are the same to the program are equal.
use Rattle.std.proofs.Common.{◌≡◌, ◌==◌, ℕ, zero, suc, ◌&&◌, true, refl, sym, ap, ◌∙◌, eqb-true, eq-eqb}
use Rattle.probe_words.specs.declared.guard.Relation.{Relation}
use Rattle.probe_words.specs.declared.guard.Relation.TheVariants.{Less, AtMost, More, AtLeast, Equal, Unequal}
use Rattle.probe_words.specs.Guards.{Condition, Counted, Both, Either, Not, relation_code, same_condition}
use Rattle.probe_words.proofs.PlaceLists.{both_true, true_both}

-- the relation of a code
abbrev pub relation_of_code : ℕ → Relation
relation_of_code zero = Less
relation_of_code (suc zero) = AtMost
relation_of_code (suc (suc zero)) = More
relation_of_code (suc (suc (suc zero))) = AtLeast
relation_of_code (suc (suc (suc (suc zero)))) = Equal
relation_of_code (suc (suc (suc (suc (suc n))))) = Unequal

decoded : (r : Relation) → relation_of_code (relation_code r) ≡ r
decoded Less = refl
decoded AtMost = refl
decoded More = refl
decoded AtLeast = refl
decoded Equal = refl
decoded Unequal = refl

same_relation : (r s : Relation) → relation_code r ≡ relation_code s → r ≡ s
same_relation r s e = sym (decoded r) ∙ ap relation_of_code e ∙ decoded s

pub same_equal : (g h : Condition) → same_condition g h ≡ true → g ≡ h
same_equal (Counted a r n) (Counted b s m) e =
    let p = both_true (a == b) ((relation_code r == relation_code s) && (n == m)) e in
    let q = both_true (relation_code r == relation_code s) (n == m) p.1 in
    counted (eqb-true a b p.0) (same_relation r s (eqb-true (relation_code r) (relation_code s) q.0)) (eqb-true n m q.1)
  where
    counted : {a b n m : ℕ} {r s : Relation} → a ≡ b → r ≡ s → n ≡ m → Counted a r n ≡ Counted b s m
    counted x y z = rw (x, y, z) refl
same_equal (Both a b) (Both c d) e = let p = both_true (same_condition a c) (same_condition b d) e in rw (same_equal a c p.0, same_equal b d p.1) refl
same_equal (Either a b) (Either c d) e = let p = both_true (same_condition a c) (same_condition b d) e in rw (same_equal a c p.0, same_equal b d p.1) refl
same_equal (Not a) (Not b) e = ap Not (same_equal a b e)
same_equal (Counted a r n) (Both c d) e = cc
same_equal (Counted a r n) (Either c d) e = cc
same_equal (Counted a r n) (Not b) e = cc
same_equal (Both a b) (Counted c r n) e = cc
same_equal (Both a b) (Either c d) e = cc
same_equal (Both a b) (Not c) e = cc
same_equal (Either a b) (Counted c r n) e = cc
same_equal (Either a b) (Both c d) e = cc
same_equal (Either a b) (Not c) e = cc
same_equal (Not a) (Counted c r n) e = cc
same_equal (Not a) (Both c d) e = cc
same_equal (Not a) (Either c d) e = cc

pub same_self : (g : Condition) → same_condition g g ≡ true
same_self (Counted a r n) = true_both (a == a) ((relation_code r == relation_code r) && (n == n)) (eq-eqb a a refl) (true_both (relation_code r == relation_code r) (n == n) (eq-eqb (relation_code r) (relation_code r) refl) (eq-eqb n n refl))
same_self (Both a b) = true_both (same_condition a a) (same_condition b b) (same_self a) (same_self b)
same_self (Either a b) = true_both (same_condition a a) (same_condition b b) (same_self a) (same_self b)
same_self (Not a) = same_self a

pub equal_same : (g h : Condition) → g ≡ h → same_condition g h ≡ true
equal_same g h e = rw (sym e) (same_self g)
