-- What `probe` says of a model without probes, as each model is yet.
use Rattle.std.specs.Prelude.{ℕ, List, [], ◌∷◌, ◌++◌, codes, decimal}
use Rattle.sim_report.specs.declared.probe_ask.ProbeAsk.{ProbeAsk}
use Rattle.sim_report.specs.declared.probe_ask.ProbeAsk.TheVariants.{All, Events}

-- no line, since there is no probe; of the events of one, that there is no probe of this number
abbrev pub probe_text_of : ProbeAsk → List ℕ
probe_text_of All = []
probe_text_of (Events number names) = codes "no probe " ++ decimal number ++ 10 ∷ []
