-- What the fields of a code directory tell of a signature.
use Rattle.std.specs.Prelude.{ℕ, ◌+◌, ◌-◌, ◌==◌, ◌&&◌, nat_le, nat_lt, List, length, Option, Some, None, if◌then◌else◌}
use Rattle.image_format.specs.Signature.{code_directory_at}
use Rattle.image_format.specs.declared.signature.CodeDirectory.{CodeDirectory}
use Rattle.sign_adhoc.specs.declared.standing.Standing.{Standing}

abbrev pub told_by : ℕ → ℕ → CodeDirectory → Standing
told_by from size d = record {
  from = from;
  size = size;
  identifier = d.hash_offset - 89;
  text_size = d.exec_seg_limit;
  main = d.exec_seg_flags == 1;
}

abbrev pub told_at : List ℕ → ℕ → ℕ → Standing
told_at image from size = told_by from size (code_directory_at image (from + 20))

abbrev pub told : List ℕ → ℕ → ℕ → Option Standing
told image from size =
    if nat_lt 108 size && nat_le (from + size) (length image) then Some (told_at image from size) else None
