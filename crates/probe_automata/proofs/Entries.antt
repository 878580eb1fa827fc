-- Places of entries in a table.
use Rattle.std.proofs.Common.{◌≡◌, ℕ, ◌+◌, ◌*◌, ◌%◌, ◌^◌, ◌≤◌, ◌<◌, ◌⊎◌, inl, inr, arith, refl}
use Rattle.std.proofs.lemmas.Nat.{mul-le, pow_below}
use Rattle.std.proofs.Math.Pow.{pow_mono}

-- an entry of row q is inside of so many rows
pub entry_inside : (q rows width i : ℕ) → q < rows → i < width → q * width + i < rows * width
entry_inside q rows width i l k =
    let m = mul-le (q + 1) width rows width (omega arith) (omega arith) in
    let e : (q + 1) * width ≡ q * width + width = omega arith in
    omega arith

-- the state q is one of the states, the letter a one of the letters, the valuation v below 2 ^ g, and n the number of moves
module _ (q states a letters v g n : ℕ) (state : q < states) (letter : a < letters) (valuation : v < 2 ^ g) (count : n ≡ states * (letters * 2 ^ g)) (small : n < 2 ^ 64) where
  row : letters * 2 ^ g ≤ n
  row = let m = mul-le 1 (letters * 2 ^ g) states (letters * 2 ^ g) (omega arith) (omega arith) in let e : 1 * (letters * 2 ^ g) ≡ letters * 2 ^ g = omega arith in omega arith

  one : 2 ^ g ≤ letters * 2 ^ g
  one = let m = mul-le 1 (2 ^ g) letters (2 ^ g) (omega arith) (omega arith) in let e : 1 * 2 ^ g ≡ 2 ^ g = omega arith in omega arith

  pub few_bits : g < 64
  few_bits =
      elim (split g) [
        | inl l ↦ l
        | inr l ↦ absurd (let m = pow_mono l in let o = one in let r = row in omega arith)
      ]
    where
      split : (i : ℕ) → (i < 64) ⊎ (64 ≤ i)
      split i = grind arith

  pub shifted : 1 * 2 ^ g % 18446744073709551616 ≡ 2 ^ g
  shifted = let p = pow_below g 64 few_bits in omega arith

  inner : a * 2 ^ g + v < letters * 2 ^ g
  inner = entry_inside a letters (2 ^ g) v letter valuation

  pub entry : q * (letters * 2 ^ g) + (a * 2 ^ g + v) < n
  entry = let e = entry_inside q states (letters * 2 ^ g) (a * 2 ^ g + v) state inner in omega arith

  pub row_fits : (l w : ℕ) → l ≡ letters → w ≡ 2 ^ g → l * w < 2 ^ 64
  row_fits l w e f = rw (e, f) (let r = row in omega arith)

  pub rows_fit : (l w : ℕ) → l ≡ letters → w ≡ 2 ^ g → q * (l * w) < 2 ^ 64
  rows_fit l w e f = rw (e, f) (let r = entry in omega arith)

  pub letters_fit : (w : ℕ) → w ≡ 2 ^ g → a * w < 2 ^ 64
  letters_fit w f = rw f (let r = entry in omega arith)

  pub letter_fits : (w : ℕ) → w ≡ 2 ^ g → a * w + v < 2 ^ 64
  letter_fits w f = rw f (let r = entry in omega arith)

  pub entry_fits : (l w : ℕ) → l ≡ letters → w ≡ 2 ^ g → q * (l * w) + (a * w + v) < 2 ^ 64
  entry_fits l w e f = rw (e, f) (let r = entry in omega arith)

  pub entry_is : (l w : ℕ) → l ≡ letters → w ≡ 2 ^ g → q * (l * w) + (a * w + v) ≡ q * (letters * 2 ^ g) + (a * 2 ^ g + v)
  entry_is l w e f = rw (e, f) refl

  pub entry_within : (l w : ℕ) → l ≡ letters → w ≡ 2 ^ g → q * (l * w) + (a * w + v) < n
  entry_within l w e f = rw (e, f) entry
