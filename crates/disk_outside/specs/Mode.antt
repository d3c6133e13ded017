-- The mode of a file (`sys/stat.h`).
use Rattle.std.specs.Prelude.{ℕ, ◌/◌, bit_and, bit_or}

-- the bits of those who may read it: S_IRUSR, S_IRGRP and S_IROTH
abbrev pub read_bits : ℕ
read_bits = 0x124

-- the mode with the leave to run it for those who may read it: each of S_IXUSR, S_IXGRP and S_IXOTH stands two
-- places below
abbrev pub mode_to_run : ℕ → ℕ
mode_to_run mode = bit_or mode (bit_and mode read_bits / 4)
