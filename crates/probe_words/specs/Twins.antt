-- Expressions and guards of the program, without pointers.
use Rattle.std.specs.Prelude.{map}
use Rattle.probe_words.specs.declared.guard.Guard.{Guard, Count, Both', Either', Not'}
use Rattle.probe_words.specs.declared.expression.Expr.{Expr, One, Then', Or', Label', Star', Plus', Maybe', Times', Between', Reset', Guarded'}
use Rattle.probe_words.specs.declared.work.Placed.{Placed}
use Rattle.probe_words.specs.Guards.{Condition, Counted, Both, Either, Not}
use Rattle.probe_words.specs.MarkedLetters.{GuardedLetter}
use Rattle.probe_words.specs.Words.{Pattern, Only, Then, Or, Label, Star, Plus, Maybe, Times, Between, Reset, Guarded}

abbrev pub condition_of : Guard → Condition
condition_of (Count which relation number) = Counted which relation number
condition_of (Both' p x q y) = Both (condition_of x) (condition_of y)
condition_of (Either' p x q y) = Either (condition_of x) (condition_of y)
condition_of (Not' p x) = Not (condition_of x)

abbrev pub pattern_of : Expr → Pattern
pattern_of (One a) = Only a
pattern_of (Then' p x q y) = Then (pattern_of x) (pattern_of y)
pattern_of (Or' p x q y) = Or (pattern_of x) (pattern_of y)
pattern_of (Label' p x l) = Label (pattern_of x) l
pattern_of (Star' p x) = Star (pattern_of x)
pattern_of (Plus' p x) = Plus (pattern_of x)
pattern_of (Maybe' p x) = Maybe (pattern_of x)
pattern_of (Times' p x n) = Times (pattern_of x) n
pattern_of (Between' p x m n) = Between (pattern_of x) m n
pattern_of (Reset' p x a) = Reset (pattern_of x) a
pattern_of (Guarded' g p x) = Guarded (condition_of g) (pattern_of x)

abbrev pub mark_of : Placed → GuardedLetter
mark_of p = record { letter = p.letter; guards = map condition_of p.guards }
