-- What the constants of an outline stand for, by number.
use Rattle.std.proofs.Common.{◌≡◌, ℕ, zero, suc, ◌<◌, Bool, true, false, List, [], ◌∷◌, length, get_or, Some, slice_get, refl, ap, ◌∙◌, arith}
use Rattle.std.proofs.lemmas.Option.{same_Some, slice_get-get_or}
use Rattle.pepa_model.specs.Expression.{Expression, Const, Shape, Definition, Sequentially, Compoundly, Defines, IsCompound}
use Rattle.pepa_resolver.specs.Named.{Named}
use Rattle.pepa_checks.specs.Outline.{is_compound, expression_in, shape_in, definition_in, definitions_in}

module _ (compounds : List Bool) (sets : List (List ℕ)) where
  -- there are as many as bodies
  pub length-definitions : (flags : List Bool) (bodies : List Named) → length flags ≡ length bodies → length (definitions_in compounds sets flags bodies) ≡ length bodies
  length-definitions [] [] e = refl
  length-definitions [] (body ∷ bodies) e = absurd (omega (arith, e))
  length-definitions (flag ∷ flags) [] e = absurd (omega (arith, e))
  length-definitions (flag ∷ flags) (body ∷ bodies) e =
      let rest = length-definitions flags bodies (omega (arith, e)) in
      omega (arith, rest)

  -- the one of a number, from its flag and its body
  pub definition_at : (flags : List Bool) (bodies : List Named) (c : ℕ) (flag : Bool) (body : Named) → slice_get flags c ≡ Some flag → slice_get bodies c ≡ Some body → slice_get (definitions_in compounds sets flags bodies) c ≡ Some (definition_in compounds sets flag body)
  definition_at [] bodies c flag body f b = cc
  definition_at (x ∷ flags) [] c flag body f b = cc
  definition_at (x ∷ flags) (y ∷ bodies) zero flag body f b =
      ap (λ (z : Bool). Some (definition_in compounds sets z y)) (same_Some x flag f)
      ∙ ap (λ (z : Named). Some (definition_in compounds sets flag z)) (same_Some y body b)
  definition_at (x ∷ flags) (y ∷ bodies) (suc c) flag body f b = definition_at flags bodies c flag body f b

  -- and back
  pub record IsDefinedBy (flags : List Bool) (bodies : List Named) (c : ℕ) (definition : Definition) : Type 0 where
    pub flag : Bool
    pub body : Named
    pub flag_at : slice_get flags c ≡ Some flag
    pub body_at : slice_get bodies c ≡ Some body
    pub is : definition_in compounds sets flag body ≡ definition

  pub defined_by : (flags : List Bool) (bodies : List Named) (c : ℕ) (definition : Definition) → slice_get (definitions_in compounds sets flags bodies) c ≡ Some definition → IsDefinedBy flags bodies c definition
  defined_by [] bodies c definition e = cc
  defined_by (x ∷ flags) [] c definition e = cc
  defined_by (x ∷ flags) (y ∷ bodies) zero definition e = record { flag = x; body = y; flag_at = refl; body_at = refl; is = same_Some (definition_in compounds sets x y) definition e }
  defined_by (x ∷ flags) (y ∷ bodies) (suc c) definition e =
      let rest = defined_by flags bodies c definition e in
      record { flag = rest.flag; body = rest.body; flag_at = rest.flag_at; body_at = rest.body_at; is = rest.is }

  -- each constant has one
  pub definition_within : (flags : List Bool) (bodies : List Named) (c : ℕ) → length flags ≡ length bodies → c < length bodies → (definition : Definition) × (slice_get (definitions_in compounds sets flags bodies) c ≡ Some definition) × IsDefinedBy flags bodies c definition
  definition_within flags bodies c e within =
      let d = Sequentially (Const 0) in
      let count = length-definitions flags bodies e in
      let at = slice_get-get_or (definitions_in compounds sets flags bodies) c d (omega arith) in
      (get_or (definitions_in compounds sets flags bodies) c d, at, defined_by flags bodies c (get_or (definitions_in compounds sets flags bodies) c d) at)

  -- ---- sequential and compound constants

  -- a sequential constant stands for its body's expression
  pub defines_at : (flags : List Bool) (bodies : List Named) (c : ℕ) (body : Named) → slice_get flags c ≡ Some false → slice_get bodies c ≡ Some body → Defines (definitions_in compounds sets flags bodies) c (expression_in body)
  defines_at flags bodies c body f b = definition_at flags bodies c false body f b

  -- a compound constant stands for its body's system
  pub compound_at : (flags : List Bool) (bodies : List Named) (c : ℕ) (body : Named) → slice_get flags c ≡ Some true → slice_get bodies c ≡ Some body → IsCompound (definitions_in compounds sets flags bodies) c (shape_in compounds sets body)
  compound_at flags bodies c body f b = definition_at flags bodies c true body f b

  -- what stands for an expression is a sequential constant
  pub record DefinesBy (flags : List Bool) (bodies : List Named) (c : ℕ) (e : Expression) : Type 0 where
    pub body : Named
    pub flag_at : slice_get flags c ≡ Some false
    pub body_at : slice_get bodies c ≡ Some body
    pub is : expression_in body ≡ e

  defines_cases : (flags : List Bool) (bodies : List Named) (c : ℕ) (e : Expression) (flag : Bool) (body : Named) → slice_get flags c ≡ Some flag → slice_get bodies c ≡ Some body → definition_in compounds sets flag body ≡ Sequentially e → DefinesBy flags bodies c e
  defines_cases flags bodies c e true body f b is = absurd cc
  defines_cases flags bodies c e false body f b is = record { body = body; flag_at = f; body_at = b; is = cc }

  pub defines_by : (flags : List Bool) (bodies : List Named) (c : ℕ) (e : Expression) → Defines (definitions_in compounds sets flags bodies) c e → DefinesBy flags bodies c e
  defines_by flags bodies c e h =
      let by = defined_by flags bodies c (Sequentially e) h in
      defines_cases flags bodies c e by.flag by.body by.flag_at by.body_at by.is

  -- what stands for a system is a compound constant
  pub record CompoundBy (flags : List Bool) (bodies : List Named) (c : ℕ) (shape : Shape) : Type 0 where
    pub body : Named
    pub flag_at : slice_get flags c ≡ Some true
    pub body_at : slice_get bodies c ≡ Some body
    pub is : shape_in compounds sets body ≡ shape

  compound_cases : (flags : List Bool) (bodies : List Named) (c : ℕ) (shape : Shape) (flag : Bool) (body : Named) → slice_get flags c ≡ Some flag → slice_get bodies c ≡ Some body → definition_in compounds sets flag body ≡ Compoundly shape → CompoundBy flags bodies c shape
  compound_cases flags bodies c shape true body f b is = record { body = body; flag_at = f; body_at = b; is = cc }
  compound_cases flags bodies c shape false body f b is = absurd cc

  pub compound_by : (flags : List Bool) (bodies : List Named) (c : ℕ) (shape : Shape) → IsCompound (definitions_in compounds sets flags bodies) c shape → CompoundBy flags bodies c shape
  compound_by flags bodies c shape h =
      let by = defined_by flags bodies c (Compoundly shape) h in
      compound_cases flags bodies c shape by.flag by.body by.flag_at by.body_at by.is

-- ---- flags

-- a flag that isn't set
pub flag_false : (flags : List Bool) (c : ℕ) → c < length flags → ¬ (slice_get flags c ≡ Some true) → slice_get flags c ≡ Some false
flag_false [] c lt unset = absurd (omega arith)
flag_false (true ∷ flags) zero lt unset = absurd (unset refl)
flag_false (false ∷ flags) zero lt unset = refl
flag_false (flag ∷ flags) (suc c) lt unset = flag_false flags c (omega arith) unset

-- a flag by whether the constant is compound
pub flag_of : (flags : List Bool) (c : ℕ) (b : Bool) → is_compound flags c ≡ b → c < length flags → slice_get flags c ≡ Some b
flag_of [] c b e lt = absurd (omega arith)
flag_of (flag ∷ flags) zero b e lt = ap (λ (x : Bool). Some x) e
flag_of (flag ∷ flags) (suc c) b e lt = flag_of flags c b e (omega arith)

-- a compound one has a flag
pub flag_true : (flags : List Bool) (c : ℕ) → is_compound flags c ≡ true → slice_get flags c ≡ Some true
flag_true [] c e = cc
flag_true (flag ∷ flags) zero e = ap (λ (x : Bool). Some x) e
flag_true (flag ∷ flags) (suc c) e = flag_true flags c e
