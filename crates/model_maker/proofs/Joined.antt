-- Names joined one after the other.
use Rattle.std.proofs.Common.{◌≡◌, ℕ, zero, suc, ◌+◌, ◌-◌, ◌≤◌, List, ◌++◌, refl, sym, ap, ◌∙◌, replicate, append_assoc, append-nil, arith}
use Rattle.std.specs.List.{flat_map, join_by}

-- what stands after the first name
abbrev pub more_names : List ℕ → List ℕ → ℕ → List ℕ
more_names between name count = flat_map (λ each. between ++ each) (replicate count name)

-- one name more stands at the end as well as in front
pub one_name_more : (between name : List ℕ) (count : ℕ)
    → more_names between name count ++ (between ++ name) ≡ between ++ name ++ more_names between name count
one_name_more between name zero = sym (append-nil (between ++ name))
one_name_more between name (suc n) =
    append_assoc (between ++ name) (more_names between name n) (between ++ name)
    ∙ ap (λ (rest : List ℕ). between ++ name ++ rest) (one_name_more between name n)

-- a name so many times is one name and those that stand after it
pub first_name : (between name : List ℕ) (count : ℕ) → 1 ≤ count
    → join_by (λ (each : List ℕ). each) between (replicate count name) ≡ name ++ more_names between name (count - 1)
first_name between name zero one = absurd (omega arith)
first_name between name (suc n) one = let e : suc n - 1 ≡ n = omega arith in rw e refl

-- one name more at the end
pub joined_more : (before between name : List ℕ) (count : ℕ)
    → before ++ name ++ more_names between name count ++ between ++ name
    ≡ before ++ name ++ more_names between name (count + 1)
joined_more before between name count =
    let next : count + 1 ≡ suc count = omega arith in
    let last : more_names between name (count + 1) ≡ more_names between name count ++ (between ++ name) =
    rw next (append_assoc between name (more_names between name count)
    ∙ sym (one_name_more between name count ∙ append_assoc between name (more_names between name count))) in
    append_assoc (before ++ name ++ more_names between name count) between name
    ∙ append_assoc (before ++ name) (more_names between name count) (between ++ name)
    ∙ ap (λ (rest : List ℕ). before ++ name ++ rest) (sym last)

-- five texts behind one another, the last of which begins with another's end
pub in_parts : (lines users between servers close end : List ℕ)
    → lines ++ users ++ between ++ servers ++ (close ++ end)
    ≡ lines ++ (users ++ between ++ servers ++ close) ++ end
in_parts lines users between servers close end = simp append_assoc refl
