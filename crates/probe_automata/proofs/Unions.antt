-- What follows the members of a set.
use Rattle.std.proofs.Common.{◌≡◌, ℕ, suc, ◌+◌, ◌<◌, List, drop, sym, ap, arith, length, get_or, ◌∙◌}
use Rattle.std.specs.Int.{bit_at}
use Rattle.std.proofs.Math.Seq.{drop-cons}
use Rattle.probe_words.specs.Laying.{united_if}
use Rattle.probe_automata.specs.Exploring.{unite}

pub unite_step : (set at all next total : ℕ) (follow : List ℕ) → at < length follow → unite set at all (drop at follow) ≡ total → next ≡ united_if (bit_at set at) all (get_or follow at 0) → unite set (at + 1) next (drop (at + 1) follow) ≡ total
unite_step set at all next total follow l e h =
    let one : at + 1 ≡ suc at = omega arith in
    rw (h, one) (sym (ap (λ (z : List ℕ). unite set at all z) (drop-cons follow at 0 l)) ∙ e)

pub unite_skip : Unit {0}
unite_skip = tt
