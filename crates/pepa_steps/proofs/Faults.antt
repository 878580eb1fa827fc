-- First faults in lists of parts.
use Rattle.std.proofs.Common.{List, [], ◌∷◌, ◌++◌, refl, sym, ap, append_assoc, ◌∙◌}
use Rattle.std.specs.List.{AllByRecursion}
use Rattle.pepa_model.specs.Opened.{Opened, OpenPrefix, OpenChoice, OpenConst, parts}
use Rattle.pepa_model.specs.Verdict.{IsFirstFault}

pub all_append : {P : Type 0} (Fine : P → Type 0) (xs ys : List P) → AllByRecursion Fine xs → AllByRecursion Fine ys → AllByRecursion Fine (xs ++ ys)
all_append Fine [] ys h k = k
all_append Fine (x ∷ xs) ys h k = (h.0, all_append Fine xs ys h.1 k)

pub all_front : {P : Type 0} (Fine : P → Type 0) (xs ys : List P) → AllByRecursion Fine (xs ++ ys) → AllByRecursion Fine ys
all_front Fine [] ys h = h
all_front Fine (x ∷ xs) ys h = all_front Fine xs ys h.1

-- the whole is the last of its parts
pub whole_from_parts : (Fine : Opened → Type 0) (o : Opened) → AllByRecursion Fine (parts o) → Fine o
whole_from_parts Fine (OpenPrefix a r next) h = h.0
whole_from_parts Fine (OpenChoice p q) h = (all_front Fine (parts p ++ parts q) (OpenChoice p q ∷ []) h).0
whole_from_parts Fine (OpenConst c p) h = (all_front Fine (parts p) (OpenConst c p ∷ []) h).0

module _ {P F : Type 0} (Fine : P → Type 0) (Faulty : P → F → Type 0) (f : F) where
  pub first_in_front : (xs ys : List P) → IsFirstFault Fine Faulty xs f → IsFirstFault Fine Faulty (xs ++ ys) f
  first_in_front xs ys h = record {
    before = h.before;
    at = h.at;
    after = h.after ++ ys;
    whole = ap (λ l. l ++ ys) h.whole ∙ append_assoc h.before (h.at ∷ h.after) ys;
    fine = h.fine;
    faulty = h.faulty;
  }

  pub first_in_back : (xs ys : List P) → AllByRecursion Fine xs → IsFirstFault Fine Faulty ys f → IsFirstFault Fine Faulty (xs ++ ys) f
  first_in_back xs ys fine h = record {
    before = xs ++ h.before;
    at = h.at;
    after = h.after;
    whole = ap (λ l. xs ++ l) h.whole ∙ sym (append_assoc xs h.before (h.at ∷ h.after));
    fine = all_append Fine xs h.before fine h.fine;
    faulty = h.faulty;
  }

  pub first_at_last : (xs : List P) (x : P) → AllByRecursion Fine xs → Faulty x f → IsFirstFault Fine Faulty (xs ++ x ∷ []) f
  first_at_last xs x fine faulty = record { before = xs; at = x; after = []; whole = refl; fine = fine; faulty = faulty }
