-- The adapters of the standard library's readers and writers: what they hold, and what one call of them does to it.
use Rattle.std.specs.Prelude.{◌≡◌, ℕ, ◌<◌, ◌≤◌, Option, Result, Ok, Err, List, length, take}
use Rattle.std.specs.Io.KnownBytes.{Keeps, Appends, Consumes, IsAtEnd}
use Rattle.sim_outside.specs.Faults.{next_count}
use Rattle.sim_outside.specs.declared.source.Failed.{Failed}
use Rattle.sim_outside.specs.declared.std_source.StdSource.{StdSource}
use Rattle.sim_outside.specs.declared.std_sink.StdSink.{StdSink}

-- the reader of a source
abbrev pub reader_of : {R : Type 0} → StdSource R → R
reader_of source = source.reader

-- how many reads of a source failed, up to 2^64 - 1
abbrev pub read_faults : {R : Type 0} → StdSource R → ℕ
read_faults source = source.faults

-- the writer of a sink
abbrev pub writer_of : {W : Type 0} → StdSink W → W
writer_of sink = sink.writer

-- how many writes of a sink failed, up to 2^64 - 1
abbrev pub write_faults : {W : Type 0} → StdSink W → ℕ
write_faults sink = sink.faults

-- one read: where the bytes that the reader has to give are known, it loses those that are given, and gives none into some room
-- only at its end; one that fails takes none, and counts as a fault
abbrev pub IsStdRead : {R : Type 0} → (R → Option (List ℕ)) → StdSource R → ℕ → Result (List ℕ) Failed → StdSource R → Type 0
IsStdRead remaining before room (Ok bytes) after =
    (read_faults after ≡ read_faults before)
    × Consumes (remaining (reader_of before)) (remaining (reader_of after)) bytes
    × (length bytes ≡ 0 → 0 < room → IsAtEnd (remaining (reader_of after)))
IsStdRead remaining before room (Err failed) after =
    (read_faults after ≡ next_count (read_faults before))
    × Keeps (remaining (reader_of before)) (remaining (reader_of after))

-- one write: where the bytes that the writer holds are known, they grow by those that are taken; one that fails may have added a
-- front of the piece, where the writer took it and couldn't be flushed, and counts as a fault
abbrev pub IsStdWrite : {W : Type 0} → (W → Option (List ℕ)) → StdSink W → List ℕ → Result ℕ Failed → StdSink W → Type 0
IsStdWrite contents before piece (Ok count) after =
    (write_faults after ≡ write_faults before)
    × Appends (contents (writer_of before)) (contents (writer_of after)) (take count piece)
IsStdWrite contents before piece (Err failed) after =
    (write_faults after ≡ next_count (write_faults before))
    × ((count : ℕ) × (count ≤ length piece)
    × Appends (contents (writer_of before)) (contents (writer_of after)) (take count piece))
