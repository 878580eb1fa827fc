use Rattle.std.proofs.Common.{◌≡◌, ◌-◌, arith}
use Rattle.pepa_lexer.specs.declared.kinds.Kind.TheVariants.{Small}
use Rattle.pepa_lexer.specs.declared.kinds.Token.{Token}
use Rattle.pepa_lexer.specs.declared.kinds.Sign.TheVariants.{Star, Less, OpeningBracket}
use Rattle.token_grammar.specs.declared.terminal.Terminal.TheVariants.{Mark}
use Rattle.token_grammar.specs.Cursors.{kinds_of}
use Rattle.token_grammar.proofs.Places.{begins_there, stands_there, has_place}
use Rattle.pepa_reader.proofs.file.cause.Goals.{else-i-gt0-via-then-i-gt0+then-comes-2+else-comes-3, else-i-gt0-via-then-i-gt0+else-comes-2, else-i-gt0-via-else-i-gt0}
use Rattle.pepa_reader.proofs.file.cause.Goals as goal

-- what indexing reads behind the end
no_token : Token
no_token = record { kind = Small; place = record { line = 0; column = 0 }; from = 0; to = 0 }

pub returns-then-begun-eq-MOST_TOKENS : goal.returns-then-begun-eq-MOST_TOKENS
unfolding no_token
returns-then-begun-eq-MOST_TOKENS c = (omega arith, has_place c.args.text.now.tokens.now c.args.i no_token c.requires.within)

pub returns-then-comes : goal.returns-then-comes
unfolding kinds_of no_token
returns-then-comes c = (
  (λ e. c.if-begun-eq-MOST_TOKENS.false (omega arith)),
  stands_there (kinds_of c.args.text.now) c.args.i (Mark OpeningBracket) c.if-comes.ensures.answer,
  has_place c.args.text.now.tokens.now c.args.i no_token c.requires.within,
)

pub returns-then-comes-3 : goal.returns-then-comes-3
unfolding kinds_of no_token
returns-then-comes-3 c = (
  (λ e. c.if-begun-eq-MOST_TOKENS.false (omega arith)),
  (stands_there (kinds_of c.args.text.now) c.args.i (Mark Star) c.if-comes-2.ensures.answer, (c.args.i - 1, omega arith, stands_there (kinds_of c.args.text.now) (c.args.i - 1) (Mark Less) c.if-comes-3.ensures.answer)),
  has_place c.args.text.now.tokens.now c.args.i no_token c.requires.within,
)

pub returns : goal.returns
unfolding kinds_of no_token
returns c = (
  (λ e. c.if-begun-eq-MOST_TOKENS.false (omega arith)),
  (λ s. c.if-comes.ensures.answer (begins_there (kinds_of c.args.text.now) c.args.i (Mark OpeningBracket) s)),
  (λ s. elim c.else-i-gt0.branch [
    | else-i-gt0-via-then-i-gt0+then-comes-2+else-comes-3 w ↦ w.if-comes-3.ensures.answer (begins_there (kinds_of c.args.text.now) (c.args.i - 1) (Mark Less) (let e : c.args.i - 1 ≡ s.1.0 = omega (arith, s.1.1) in rw e s.1.2))
    | else-i-gt0-via-then-i-gt0+else-comes-2 w ↦ w.if-comes-2.ensures.answer (begins_there (kinds_of c.args.text.now) c.args.i (Mark Star) s.0)
    | else-i-gt0-via-else-i-gt0 w ↦ absurd (omega (arith, s.1.1))
  ]),
  has_place c.args.text.now.tokens.now c.args.i no_token c.requires.within,
)
