-- Numbers that are written with zeros before them.
use Rattle.std.proofs.Common.{◌≡◌, ℕ, ◌-◌, ◌^◌, length, arith, append-nil, refl}
use Rattle.std.specs.Fmt.{decimal, padded_integral, styled_decimal, format_spec, char_count}
use Rattle.sim_outside.specs.TicksText.{six_digits}

-- what `{:06}` writes
pub zeros_before : (n : ℕ) → styled_decimal (format_spec 32 0 4 6 (2 ^ 64 - 1)) n ≡ six_digits n
unfolding padded_integral char_count
zeros_before n =
    let short : 6 - length (decimal n) - 0 - 0 ≡ 6 - length (decimal n) = omega arith in
    rw (short, append-nil (decimal n)) refl
