-- The texts of faults, as `Display` writes them. Numbers are decimal.
use Rattle.std.specs.Prelude.{ℕ, List, ◌++◌, codes}
use Rattle.std.specs.Fmt.{decimal}
use Rattle.mo_types.specs.Cause.{feature_text, which_text}
use Rattle.dylib_read.specs.declared.fault.DylibFault.{DylibFault}
use Rattle.dylib_read.specs.declared.fault.DylibFault.TheVariants as fault
use Rattle.dylib_read.specs.declared.fault.DylibRule.{DylibRule}
use Rattle.dylib_read.specs.declared.fault.DylibRule.TheVariants as rule
use Rattle.dylib_read.specs.declared.trie_fault.TrieFault.{TrieFault}
use Rattle.dylib_read.specs.declared.trie_fault.TrieFault.TheVariants as trie

abbrev pub rule_text : DylibRule → List ℕ
rule_text rule.Header = codes "header"
rule_text rule.Commands = codes "commands"
rule_text rule.Dylib = codes "dylib"
rule_text rule.Trie = codes "trie"

-- why a file isn't read
abbrev pub dylib_fault_text : DylibFault → List ℕ
dylib_fault_text (fault.Malformed place rule) = codes "malformed at " ++ decimal place ++ codes ": " ++ rule_text rule
dylib_fault_text (fault.Unsupported feature) = codes "unsupported: " ++ feature_text feature
dylib_fault_text (fault.Limit which) = codes "limit: " ++ which_text which
dylib_fault_text fault.OutOfMemory = codes "out of memory"

-- why a trie isn't read
abbrev pub trie_fault_text : TrieFault → List ℕ
trie_fault_text trie.Broken = codes "broken trie"
trie_fault_text trie.OutOfMemory = codes "out of memory"
