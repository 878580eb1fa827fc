-- Checks one behind another: at most one of them refuses, and none refuses what is fine. What they refuse for is any type.
use Rattle.std.proofs.Common.{◌≡◌, ℕ, ◌⊎◌, inl, inr, sym, ap, ◌∙◌}

-- there is at most one refusal, and none beside what is fine
pub record Judges {C : Type 0} (Refused : C → ℕ → Type 0) (Fine : Type 0) : Type 0 where
  pub same_cause : (cause other : C) (i j : ℕ) → Refused cause i → Refused other j → cause ≡ other
  pub same_index : (cause other : C) (i j : ℕ) → Refused cause i → Refused other j → i ≡ j
  pub apart : (cause : C) (i : ℕ) → Refused cause i → Fine → ⊥

-- a check that refuses for one cause
abbrev pub For : {C : Type 0} → C → (ℕ → Type 0) → C → ℕ → Type 0
For cause At other i = (other ≡ cause) × At i

pub for_one : {C : Type 0} (cause : C) (At : ℕ → Type 0) (Fine : Type 0) → ((i j : ℕ) → At i → At j → i ≡ j) → ((i : ℕ) → At i → Fine → ⊥) → Judges (For cause At) Fine
for_one cause At Fine one apart = record {
  same_cause = λ c d i j h k. h.0 ∙ sym k.0;
  same_index = λ c d i j h k. one i j h.1 k.1;
  apart = λ c i h fine. apart i h.1 fine;
}

-- a check behind another, made of what the first one finds fine
abbrev pub Behind : {C : Type 0} → (C → ℕ → Type 0) → Type 0 → (C → ℕ → Type 0) → C → ℕ → Type 0
Behind First Fine Next cause i = First cause i ⊎ (Fine × Next cause i)

pub behind : {C : Type 0} (First Next : C → ℕ → Type 0) (Fine FineNext : Type 0) → Judges First Fine → Judges Next FineNext → Judges (Behind First Fine Next) (Fine × FineNext)
behind {C} First Next Fine FineNext first next = record { same_cause = cause_is; same_index = index_is; apart = none }
  where
    cause_is : (c d : C) (i j : ℕ) → Behind First Fine Next c i → Behind First Fine Next d j → c ≡ d
    cause_is c d i j (inl h) (inl k) = first.same_cause c d i j h k
    cause_is c d i j (inl h) (inr k) = absurd (first.apart c i h k.0)
    cause_is c d i j (inr h) (inl k) = absurd (first.apart d j k h.0)
    cause_is c d i j (inr h) (inr k) = next.same_cause c d i j h.1 k.1

    index_is : (c d : C) (i j : ℕ) → Behind First Fine Next c i → Behind First Fine Next d j → i ≡ j
    index_is c d i j (inl h) (inl k) = first.same_index c d i j h k
    index_is c d i j (inl h) (inr k) = absurd (first.apart c i h k.0)
    index_is c d i j (inr h) (inl k) = absurd (first.apart d j k h.0)
    index_is c d i j (inr h) (inr k) = next.same_index c d i j h.1 k.1

    none : (c : C) (i : ℕ) → Behind First Fine Next c i → Fine × FineNext → ⊥
    none c i (inl h) fine = first.apart c i h fine.0
    none c i (inr h) fine = next.apart c i h.1 fine.1

-- a check of something that there is, where it doesn't matter which
pub any : {C : Type 0} (X : Type 0) (Refused : X → C → ℕ → Type 0) (Fine : X → Type 0) → ((x y : X) (c : C) (i : ℕ) → Refused y c i → Refused x c i) → ((x y : X) → Fine y → Fine x) → ((x : X) → Judges (Refused x) (Fine x)) → Judges (λ c i. (x : X) × Refused x c i) ((x : X) × Fine x)
any X Refused Fine move move_fine each = record {
  same_cause = λ c d i j h k. (each h.0).same_cause c d i j h.1 (move h.0 k.0 d j k.1);
  same_index = λ c d i j h k. (each h.0).same_index c d i j h.1 (move h.0 k.0 d j k.1);
  apart = λ c i h fine. (each h.0).apart c i h.1 (move_fine h.0 fine.0 fine.1);
}

-- what refuses no more
pub fewer : {C : Type 0} (Refused Other : C → ℕ → Type 0) (Fine FineOther : Type 0) → ((c : C) (i : ℕ) → Other c i → Refused c i) → (FineOther → Fine) → Judges Refused Fine → Judges Other FineOther
fewer Refused Other Fine FineOther to to_fine judged = record {
  same_cause = λ c d i j h k. judged.same_cause c d i j (to c i h) (to d j k);
  same_index = λ c d i j h k. judged.same_index c d i j (to c i h) (to d j k);
  apart = λ c i h fine. judged.apart c i (to c i h) (to_fine fine);
}

-- the same check, whose causes are told by others
pub told_by : {C D : Type 0} (told : C → D) (Refused : C → ℕ → Type 0) (Fine : Type 0) → Judges Refused Fine → Judges (λ (d : D) i. (c : C) × (d ≡ told c) × Refused c i) Fine
told_by told Refused Fine judged = record {
  same_cause = λ d e i j h k. h.1 ∙ ap told (judged.same_cause h.0 k.0 i j h.2 k.2) ∙ sym k.1;
  same_index = λ d e i j h k. judged.same_index h.0 k.0 i j h.2 k.2;
  apart = λ d i h fine. judged.apart h.0 i h.2 fine;
}
