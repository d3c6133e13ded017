-- The texts of faults, as `Display` writes them. Numbers are decimal.
use Rattle.std.specs.Prelude.{ℕ, List, ◌++◌, codes}
use Rattle.std.specs.Fmt.{decimal}
use Rattle.mo_types.specs.Cause.{rule_text, feature_text, which_text}
use Rattle.mo_types.specs.declared.object_fault.ObjFault.{ObjFault}
use Rattle.mo_types.specs.declared.object_fault.ObjFault.TheVariants as object

-- why a file isn't read
abbrev pub object_fault_text : ObjFault → List ℕ
object_fault_text (object.Malformed place rule) = codes "malformed at " ++ decimal place ++ codes ": " ++ rule_text rule
object_fault_text (object.Unsupported feature) = codes "unsupported: " ++ feature_text feature
object_fault_text (object.Limit which) = codes "limit: " ++ which_text which
object_fault_text object.OutOfMemory = codes "out of memory"
