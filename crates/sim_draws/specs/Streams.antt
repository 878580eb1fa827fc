-- The numbers of a stream: two words each of the key stream of ChaCha (D. J. Bernstein, ChaCha, a variant of Salsa20,
-- 2008) with 12 rounds, which are 6 double rounds. The crate `rand_chacha` defines its words, after RFC 8439.
use Rattle.std.specs.Prelude.{ℕ, ◌+◌, ◌*◌, ◌^◌, List, ◌++◌, replicate}
use Rattle.std.specs.Int.{w64, to_le_bytes}
use Rattle.rand_chacha.specs.ChaCha.{word_at, key_of}

-- a key of eight words, the number of a stream under it, and the place of its next number, from 0
pub record StreamPlace : Type 0 where
  pub key : List ℕ
  pub stream : ℕ
  pub place : ℕ

-- the key of a seed: its 8 bytes, the least one first, and 24 zero bytes
abbrev pub seed_key : ℕ → List ℕ
seed_key seed = key_of (to_le_bytes w64 seed ++ replicate 24 0)

-- number k of a stream: word 2k, and 2^32 times word 2k + 1
abbrev pub stream_number : List ℕ → ℕ → ℕ → ℕ
stream_number key stream k =
    word_at 6 key stream (2 * k) + word_at 6 key stream (2 * k + 1) * 2 ^ 32
