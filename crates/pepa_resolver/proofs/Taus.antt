-- Where `tau` stands.
use Rattle.std.proofs.Common.{◌≡◌, ◌↔◌, ℕ, Bool, true, false, if◌then◌else◌, List, codes, nat_eq, IsTrue, Some, None, slice_get, option_map, refl, sym, ap, ◌∙◌, subst}
use Rattle.std.specs.Cmp.Lexicographic.{pointwise, bytes_decides}
use Rattle.std.proofs.lemmas.Option.{slice_get-map}
use Rattle.pepa_lexer.specs.declared.kinds.Token.{Token}
use Rattle.pepa_lexer.specs.declared.kinds.Kind.{Kind}
use Rattle.pepa_lexer.specs.declared.kinds.Kind.TheVariants as kinds
use Rattle.token_grammar.specs.declared.terminal.Terminal.{Terminal}
use Rattle.token_grammar.specs.declared.terminal.Terminal.TheVariants.{Small, Probe, Tau, Capital, Top}
use Rattle.token_grammar.specs.Terminals.{text_of, small_terminal, terminal_from, terminal_of, terminals}
use Rattle.pepa_resolver.specs.NamesAnswers.{IsTau}

by_tests : (a b c : Bool) → (if a then Top else (if b then Tau else (if c then Probe else Small))) ≡ Tau → b ≡ true
by_tests true b c h = absurd cc
by_tests false true c h = refl
by_tests false false true h = absurd cc
by_tests false false false h = absurd cc

to_tests : (a b c : Bool) → (a ≡ true → b ≡ true → ⊥) → b ≡ true → (if a then Top else (if b then Tau else (if c then Probe else Small))) ≡ Tau
to_tests true b c apart h = absurd (apart refl h)
to_tests false true c apart h = refl
to_tests false false c apart h = absurd cc

is_tau : List ℕ → Bool
is_tau text = pointwise nat_eq text (codes "tau")

pub small_tau : (text : List ℕ) → (pointwise nat_eq text (codes "tau") ≡ true) ↔ (small_terminal text ≡ Tau)
small_tau text = (
  λ h. to_tests (pointwise nat_eq text (codes "infty")) (pointwise nat_eq text (codes "tau")) (pointwise nat_eq text (codes "probe"))
      (λ i t. let e : text ≡ codes "infty" = (bytes_decides text (codes "infty")).0 i in let f : pointwise nat_eq (codes "infty") (codes "tau") ≡ true = subst (λ (x : List ℕ). pointwise nat_eq x (codes "tau") ≡ true) e t in absurd cc) h,
  λ h. by_tests (pointwise nat_eq text (codes "infty")) (pointwise nat_eq text (codes "tau")) (pointwise nat_eq text (codes "probe")) h,
)

capital_test : (a : Bool) → (if a then Top else Capital) ≡ Tau → ⊥
capital_test true h = cc
capital_test false h = cc

other_kind : (kind : Kind) (text : List ℕ) → terminal_from kind text ≡ Tau → kind ≡ kinds.Small
other_kind kinds.Small text h = refl
other_kind kinds.Capital text h = absurd (capital_test (pointwise nat_eq text (codes "T")) h)
other_kind (kinds.Number digits scale) text h = absurd cc
other_kind (kinds.Sign sign) text h = absurd cc
other_kind kinds.End text h = absurd cc

terminal_at : (input : List ℕ) (tokens : List Token) (at : ℕ) → slice_get (terminals input tokens) at ≡ option_map (terminal_of input) (slice_get tokens at)
terminal_at input tokens at = slice_get-map (terminal_of input) tokens at

some_same : (x y : Terminal) → Some x ≡ Some y → x ≡ y
some_same x y h = cc

stands : (input : List ℕ) (tokens : List Token) (at : ℕ) (token : Token) → slice_get tokens at ≡ Some token → (terminal_of input token ≡ Tau) ↔ IsTau input tokens at
stands input tokens at token is =
    let e : slice_get (terminals input tokens) at ≡ Some (terminal_of input token) = terminal_at input tokens at ∙ ap (option_map (terminal_of input)) is in
    (λ h. e ∙ ap Some h, λ h. some_same (terminal_of input token) Tau (sym e ∙ h))

-- a small name is `tau` by its bytes
pub tau_by_bytes : (input : List ℕ) (tokens : List Token) (at : ℕ) (token : Token) (b : Bool) → slice_get tokens at ≡ Some token → token.kind ≡ kinds.Small → b ≡ pointwise nat_eq (text_of input token) (codes "tau") → IsTrue b ↔ IsTau input tokens at
tau_by_bytes input tokens at token b is small test =
    let to = stands input tokens at token is in
    let e : terminal_of input token ≡ small_terminal (text_of input token) = ap (λ (k : Kind). terminal_from k (text_of input token)) small in (
      λ h. to.0 (e ∙ (small_tau (text_of input token)).0 (sym test ∙ h)),
      λ h. test ∙ (small_tau (text_of input token)).1 (sym e ∙ to.1 h),
    )

-- no other token is
pub no_tau : (input : List ℕ) (tokens : List Token) (at : ℕ) (token : Token) → slice_get tokens at ≡ Some token → (token.kind ≡ kinds.Small → ⊥) → ¬ IsTau input tokens at
no_tau input tokens at token is other h = other (other_kind token.kind (text_of input token) ((stands input tokens at token is).1 h))

pub none_is_tau : (input : List ℕ) (tokens : List Token) (at : ℕ) → slice_get tokens at ≡ None → ¬ IsTau input tokens at
none_is_tau input tokens at none h = let e : slice_get (terminals input tokens) at ≡ None = terminal_at input tokens at ∙ ap (option_map (terminal_of input)) none in absurd cc
