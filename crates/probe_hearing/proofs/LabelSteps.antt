-- The loop that hears the signals of a transition, from the lowest label up.
use Rattle.std.proofs.Common.{◌≡◌, ℕ, ◌<◌, ◌*◌, ◌%◌, ◌^◌, List, map, sym, ap, ◌∙◌}
use Rattle.std.specs.Prelude.{bit_and}
use Rattle.std.specs.Int.{bit_not, trailing_zeros, w64}
use Rattle.probe_words.specs.declared.letter.Letter.TheVariants.{Signal}
use Rattle.probe_words.specs.declared.probe.ProbeTable.{ProbeTable}
use Rattle.probe_hearing.specs.declared.hearing.Heard.{Heard}
use Rattle.probe_hearing.specs.Watching.{labels_in}
use Rattle.probe_hearing.specs.TableHearing.{heard_letter, heard_letters}
use Rattle.probe_hearing.proofs.LabelLists.{no_labels, lowest_leads}

-- what is left is heard after the lowest label
pub one_label : (t : ProbeTable) (v : ℕ) (before now whole : Heard) (left : ℕ) → 0 < left → left < 2 ^ 64 → now ≡ heard_letter t v before (Signal (trailing_zeros w64 left)) → heard_letters t v before (map Signal (labels_in left)) ≡ whole
    → heard_letters t v now (map Signal (labels_in (bit_and left (bit_not w64 (1 * 2 ^ trailing_zeros w64 left % 2 ^ 64))))) ≡ whole
one_label t v before now whole left some fits is all =
    ap (λ (z : Heard). heard_letters t v z (map Signal (labels_in (bit_and left (bit_not w64 (1 * 2 ^ trailing_zeros w64 left % 2 ^ 64)))))) is
    ∙ ap (λ (z : List ℕ). heard_letters t v before (map Signal z)) (sym (lowest_leads left some fits))
    ∙ all

-- nothing is left
pub labels_done : (t : ProbeTable) (v : ℕ) (before whole : Heard) (left : ℕ) → left ≡ 0 → heard_letters t v before (map Signal (labels_in left)) ≡ whole → before ≡ whole
labels_done t v before whole left none all =
    sym (ap (λ (z : ℕ). heard_letters t v before (map Signal (labels_in z))) none ∙ ap (λ (z : List ℕ). heard_letters t v before (map Signal z)) no_labels)
    ∙ all
