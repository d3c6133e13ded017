-- The faults that a text may have, and their text, as `Display` writes it. Numbers are decimal.
use Rattle.std.specs.Prelude.{ℕ, List, ◌++◌, codes}
use Rattle.std.specs.Fmt.{decimal}
use Rattle.mo_types.specs.Cause.{rule_text}
use Rattle.yaml_text.specs.declared.fault.YamlFault.{YamlFault}
use Rattle.yaml_text.specs.declared.fault.YamlFault.TheVariants.{At, OutOfMemory}

-- a fault that a text may have
abbrev pub IsYamlFault : YamlFault → Type 0
IsYamlFault OutOfMemory = ⊥
IsYamlFault (At line rule) = Unit {0}

-- why a text isn't read
abbrev pub yaml_fault_text : YamlFault → List ℕ
yaml_fault_text (At line rule) = codes "line " ++ decimal line ++ codes ": " ++ rule_text rule
yaml_fault_text OutOfMemory = codes "out of memory"
