-- Copies in a row, and the tail.
use Rattle.std.proofs.Common.{◌≡◌, ◌≢◌, ℕ, zero, suc, ◌+◌, ◌-◌, ◌≤◌, arith, refl, length, Ok, Err, Result}
use Rattle.probe_words.specs.declared.work.Work.{Work}
use Rattle.probe_words.specs.declared.work.Part.{Part}
use Rattle.probe_words.specs.declared.position_list.PositionsFault.{PositionsFault}
use Rattle.probe_words.specs.declared.position_list.PositionsFault.TheVariants.{TooManyPositions, Memory}
use Rattle.probe_words.specs.Core.{Core, Sequence, size_of}
use Rattle.probe_words.specs.CoreForm.{row_of, tail_of, maybe_of}
use Rattle.probe_words.specs.Laying.{LaysPart, AnswersLaying, JoinsParts}
use Rattle.probe_words.proofs.LayingParts.{adds_at}

pub row_is : (r : Core) (count : ℕ) → count ≢ 0 → row_of r count ≡ Sequence (row_of r (count - 1)) r
row_is r zero h = absurd (h refl)
row_is r (suc n) h = let e : suc n - 1 ≡ n = omega arith in rw e refl

pub tail_is : (r : Core) (count : ℕ) → count ≢ 0 → count ≢ 1 → tail_of r count ≡ maybe_of (Sequence r (tail_of r (count - 1)))
tail_is r zero h g = absurd (h refl)
tail_is r (suc zero) h g = absurd (g refl)
tail_is r (suc (suc n)) h g = let e : suc (suc n) - 1 ≡ suc n = omega arith in rw e refl

pub behind_at : (r s : Core) (at : ℕ) (old mid new : Work) (left right : Part) → LaysPart r at old mid left → LaysPart s (length mid.places) mid new right → LaysPart s (at + size_of r) mid new right
behind_at r s at old mid new left right a b = adds_at s (length mid.places) (at + size_of r) mid new right a.count b

pub joined_answers : (r s : Core) (old mid between new : Work) (left right : Part) (result : Result Part PositionsFault) → LaysPart r (length old.places) old mid left → LaysPart s (length mid.places) mid between right → length between.places ≤ 63 → JoinsParts (Sequence r s) (length old.places) old new result → AnswersLaying (Sequence r s) old new result
joined_answers r s old mid between new left right (Ok part) a b l j = (j, (let x = a.count in let y = b.count in let z = j.count in omega arith))
joined_answers r s old mid between new left right (Err TooManyPositions) a b l j = absurd j
joined_answers r s old mid between new left right (Err Memory) a b l j = tt

pub front_fails : (r s : Core) (old new after : Work) (e : PositionsFault) → AnswersLaying r old new (Err e) → AnswersLaying (Sequence r s) old after (Err e)
front_fails r s old new after TooManyPositions h = omega arith
front_fails r s old new after Memory h = tt

pub back_fails : (r s : Core) (old mid new : Work) (left : Part) (e : PositionsFault) → LaysPart r (length old.places) old mid left → AnswersLaying s mid new (Err e) → AnswersLaying (Sequence r s) old new (Err e)
back_fails r s old mid new left TooManyPositions a h = let c = a.count in omega arith
back_fails r s old mid new left Memory a h = tt

pub joined_fails : (r s : Core) (old new : Work) (e : PositionsFault) → JoinsParts (Sequence r s) (length old.places) old new (Err e) → AnswersLaying (Sequence r s) old new (Err e)
joined_fails r s old new TooManyPositions j = absurd j
joined_fails r s old new Memory j = tt

pub maybe_fails : (r : Core) (old new : Work) (e : PositionsFault) → AnswersLaying r old new (Err e) → AnswersLaying (maybe_of r) old new (Err e)
maybe_fails r old new TooManyPositions h = omega arith
maybe_fails r old new Memory h = tt

pub first_fails : (r : Core) (count : ℕ) (old new : Work) (e : PositionsFault) → count ≢ 0 → AnswersLaying r old new (Err e) → AnswersLaying (tail_of r count) old new (Err e)
first_fails r zero old new e n h = absurd (n refl)
first_fails r (suc zero) old new e n h = maybe_fails r old new e h
first_fails r (suc (suc k)) old new e n h = maybe_fails (Sequence r (tail_of r (suc k))) old new e (front_fails r (tail_of r (suc k)) old new new e h)
