use Rattle.std.proofs.Common.{drop, map, string_bytes}
use Rattle.call_words.specs.HyphenTest.{AreOptionsOrPlain}
use Rattle.call_words.proofs.hyphens.are_options_or_plain.Given as goal

-- all words are options or plain where those left are
abbrev pub invariant-loop-word : goal.invariant-loop-word
invariant-loop-word l =
    let names = map (λ name. name.now) l.fn.names in
    record {
      all : AreOptionsOrPlain names (map string_bytes (drop l.word-index l.words)) → AreOptionsOrPlain names (map string_bytes l.words);
      left : AreOptionsOrPlain names (map string_bytes l.words) → AreOptionsOrPlain names (map string_bytes (drop l.word-index l.words));
    }
