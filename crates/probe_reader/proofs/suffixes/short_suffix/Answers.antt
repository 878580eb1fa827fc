use Rattle.std.proofs.Common.{refl}
use Rattle.probe_reader.specs.ProbeGrammar.{Starred, Repeated, Optional, Counted}
use Rattle.probe_reader.proofs.suffixes.short_suffix.Goals as goal

pub returns-in-Some : goal.returns-in-Some
returns-in-Some c = record { suffix = Starred; spelled = c.in-Some.ensures.spelled; means = λ inner. refl }

pub returns-in-Some-after : goal.returns-in-Some-after
returns-in-Some-after c = record { suffix = Repeated; spelled = c.in-Some-after.ensures.spelled; means = λ inner. refl }

pub returns-in-Some-after-2 : goal.returns-in-Some-after-2
returns-in-Some-after-2 c = record { suffix = Optional; spelled = c.in-Some-after-2.ensures.spelled; means = λ inner. refl }

pub returns : goal.returns
returns c = record { suffix = Counted; spelled = c.in_ok-next.ensures.spelled; means = λ inner. refl }
