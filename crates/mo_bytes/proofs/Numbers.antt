-- A number reads back from its bytes.
use Rattle.std.proofs.Common.{◌≡◌, ℕ, ◌^◌, ◌<◌, List, ◌++◌, length}
use Rattle.byteorder.specs.Numbers.{little_number-reads_back, length-bytes_low_first}
use Rattle.mo_bytes.specs.Number.{number, number_bytes}

pub length-number_bytes : (w n : ℕ) → length (number_bytes w n) ≡ w
unfolding number_bytes
length-number_bytes w n = length-bytes_low_first 0 w n

pub number-number_bytes : (w n : ℕ) (rest : List ℕ) → n < 256 ^ w → number w (number_bytes w n ++ rest) 0 ≡ n
unfolding number number_bytes
number-number_bytes w n rest fits = little_number-reads_back w n rest fits
