-- How a call ends over devices that tell their bytes and don't fail.
use Rattle.std.proofs.Common.{◌≡◌, ℕ, true, ◌<◌, ◌≤◌, ◌^◌, Option, Some, List, ◌++◌, length, Err, inl, inr, sym, subst, ◌∙◌}
use Rattle.sim_outside.specs.Sink.{GrowsBy}
use Rattle.sim_outside.specs.ReadAll.{ReadsToEnd}
use Rattle.sim_outside.specs.declared.reading.ReadEnd.TheVariants.{TooLong}
use Rattle.call_words.specs.declared.command.Command.{Command}
use Rattle.sim_command.specs.declared.answered.Answered.{Answered}
use Rattle.sim_command.specs.Inputs.{reads_source}
use Rattle.sim_command.specs.Answer.{IsAnswer}
use Rattle.sim_command.specs.TopCall.{Seen, AreAllLeft, IsAsBefore, IsGiven, IsEnding}
use Rattle.sim_command.specs.SoundEndings.{IsSound, IsSoundEnding}
use Rattle.sim_command.proofs.GivenCommands.{own_answer}

as_before : (out : Seen) (written : List ℕ) → IsSound out written → IsAsBefore out → out.bytes_after ≡ Some written
as_before out written sound stays = stays.bytes ∙ sound.tells

grown : (before after : Option (List ℕ)) (written piece : List ℕ) → before ≡ Some written → GrowsBy before after piece → after ≡ Some (written ++ piece)
grown before after written piece tells grows = subst (λ b. GrowsBy b after piece) tells grows

all_read : (before after : Option (List ℕ)) (input bytes : List ℕ) → before ≡ Some input → AreAllLeft before after bytes → bytes ≡ input
all_read before after input bytes tells all = (subst (λ b. AreAllLeft b after bytes) tells all).0

too_long : (before after : Option (List ℕ)) (input : List ℕ) → before ≡ Some input → ReadsToEnd before after (2 ^ 20) (Err TooLong) → 2 ^ 20 < length input
too_long before after input tells read = (subst (λ b. ReadsToEnd b after (2 ^ 20) (Err TooLong)) tells read).0

-- the answer where the source gave these bytes, of all that it has
given_answer : (command : Command) (source : Seen) (input bytes : List ℕ) (answer : Answered) → IsSound source input → IsGiven command source bytes → IsAnswer command bytes answer → IsAnswer command input answer
given_answer command source input bytes answer s (inl (reads, read)) is =
    subst (λ (b : List ℕ). IsAnswer command b answer) (all_read source.bytes_before source.bytes_after input bytes s.tells read.read) is
given_answer command source input bytes answer s (inr (own, stays, none)) is = own_answer command own bytes input answer is

given_few : (command : Command) (source : Seen) (input bytes : List ℕ) → IsSound source input → IsGiven command source bytes → reads_source command ≡ true → length input ≤ 2 ^ 20
given_few command source input bytes s (inl (reads, read)) reads_it =
    subst (λ (b : List ℕ). length b ≤ 2 ^ 20) (all_read source.bytes_before source.bytes_after input bytes s.tells read.read) read.few
given_few command source input bytes s (inr (own, stays, none)) reads_it = let e = sym own ∙ reads_it in absurd cc

pub sound_ending : (words : List (List ℕ)) (input written : List ℕ) (source out : Seen) (line : List ℕ) (status : ℕ) → IsEnding words source out line status
    → IsSound source input → IsSound out written → IsSoundEnding words input written out line status
sound_ending words input written source out line status (inl usage) s o =
    inl (record { no_command = usage.no_command; status_is = usage.status_is; out_is = as_before out written o usage.out_stays; line_is = usage.line_is })
sound_ending words input written source out line status (inr (inl memory)) s o =
    inr (inr (inl (record { status_is = memory.ended.status_is; out_is = as_before out written o memory.ended.out_stays; line_is = memory.ended.line_is })))
sound_ending words input written source out line status (inr (inr (inl fault))) s o = absurd (s.sound fault.failed)
sound_ending words input written source out line status (inr (inr (inr (inl long)))) s o =
    inr (inl (record {
      needed = long.needed;
      long = too_long source.bytes_before source.bytes_after input s.tells long.read;
      status_is = long.status_is;
      out_is = as_before out written o long.out_stays;
      line_is = long.line_is;
    }))
sound_ending words input written source out line status (inr (inr (inr (inr (inl ended))))) s o =
    let a = ended.answered in
    inr (inr (inr (record {
      command = a.command;
      is_command = a.is_command;
      few = given_few a.command source input a.input s a.given;
      answer = ended.answer;
      is = given_answer a.command source input a.input ended.answer s a.given a.is;
      status_is = ended.status_is;
      out_is = grown out.bytes_before out.bytes_after written ended.answer.out o.tells ended.wrote.wrote;
      line_is = ended.line_is;
    })))
sound_ending words input written source out line status (inr (inr (inr (inr (inr failed))))) s o = absurd (o.sound failed.wrote.failed)
