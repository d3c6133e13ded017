-- The text of a fault, as `Display` writes it. Numbers are decimal.
use Rattle.std.specs.Prelude.{ℕ, List, ◌++◌, codes}
use Rattle.std.specs.Fmt.{decimal}
use Rattle.tbd_doc.specs.declared.fault.StubFault.{StubFault}
use Rattle.tbd_doc.specs.declared.fault.StubFault.TheVariants.{NotTbd4, NoTarget, BadKey, OutOfMemory}

-- why the documents of a text are no stub library for arm64 on macOS
abbrev pub stub_fault_text : StubFault → List ℕ
stub_fault_text NotTbd4 = codes "unsupported: tbd"
stub_fault_text NoTarget = codes "malformed at 0: notarget"
stub_fault_text (BadKey doc) = codes "malformed at " ++ decimal doc ++ codes ": badkey"
stub_fault_text OutOfMemory = codes "out of memory"
