-- The names of causes in messages: those of the variants, in lower case.
use Rattle.std.specs.Prelude.{ℕ, List, codes}
use Rattle.mo_types.specs.declared.cause.Rule.{Rule}
use Rattle.mo_types.specs.declared.cause.Rule.TheVariants as rule
use Rattle.mo_types.specs.declared.cause.Feature.{Feature}
use Rattle.mo_types.specs.declared.cause.Feature.TheVariants as feature
use Rattle.mo_types.specs.declared.cause.Which.{Which}
use Rattle.mo_types.specs.declared.cause.Which.TheVariants as which
use Rattle.mo_types.specs.declared.cause.RangeKind.{RangeKind}
use Rattle.mo_types.specs.declared.cause.RangeKind.TheVariants as range_kind
use Rattle.mo_types.specs.declared.cause.UsageRule.{UsageRule}
use Rattle.mo_types.specs.declared.cause.UsageRule.TheVariants as usage_rule

abbrev pub rule_text : Rule → List ℕ
rule_text rule.NotAnInput = codes "notaninput"
rule_text rule.Header = codes "header"
rule_text rule.Commands = codes "commands"
rule_text rule.Segment = codes "segment"
rule_text rule.Section = codes "section"
rule_text rule.Relocations = codes "relocations"
rule_text rule.Symbols = codes "symbols"
rule_text rule.Symbol = codes "symbol"
rule_text rule.Literals = codes "literals"
rule_text rule.Pair = codes "pair"
rule_text rule.Shape = codes "shape"
rule_text rule.Place = codes "place"
rule_text rule.Target = codes "target"
rule_text rule.Unwind = codes "unwind"
rule_text rule.Member = codes "member"
rule_text rule.Contents = codes "contents"
rule_text rule.NoSlice = codes "noslice"
rule_text rule.Slice = codes "slice"
rule_text rule.Utf8 = codes "utf8"
rule_text rule.Open = codes "open"
rule_text rule.Tab = codes "tab"
rule_text rule.Indent = codes "indent"
rule_text rule.Key = codes "key"
rule_text rule.Flow = codes "flow"
rule_text rule.Quote = codes "quote"
rule_text rule.Escape = codes "escape"
rule_text rule.Scalar = codes "scalar"
rule_text rule.NoTarget = codes "notarget"
rule_text rule.BadKey = codes "badkey"

abbrev pub feature_text : Feature → List ℕ
feature_text feature.SectionType = codes "sectiontype"
feature_text feature.ObjcSection = codes "objcsection"
feature_text feature.Alignment = codes "alignment"
feature_text feature.CodeSegment = codes "codesegment"
feature_text feature.SegmentName = codes "segmentname"
feature_text feature.TextZerofill = codes "textzerofill"
feature_text feature.SymbolKind = codes "symbolkind"
feature_text feature.Absolute = codes "absolute"
feature_text feature.PointerAuth = codes "pointerauth"
feature_text feature.Machine = codes "machine"
feature_text feature.FileType = codes "filetype"
feature_text feature.Fat64 = codes "fat64"
feature_text feature.ThinArchive = codes "thinarchive"
feature_text feature.GnuArchive = codes "gnuarchive"
feature_text feature.Archive64 = codes "archive64"
feature_text feature.Bitcode = codes "bitcode"
feature_text feature.Tbd = codes "tbd"
feature_text feature.Wildcard = codes "wildcard"
feature_text feature.EhFrame = codes "ehframe"
feature_text feature.Later = codes "later"

abbrev pub which_text : Which → List ℕ
which_text which.Inputs = codes "inputs"
which_text which.FileBytes = codes "filebytes"
which_text which.Members = codes "members"
which_text which.Symbols = codes "symbols"
which_text which.Names = codes "names"
which_text which.Atoms = codes "atoms"
which_text which.Libraries = codes "libraries"
which_text which.Personalities = codes "personalities"
which_text which.Imports = codes "imports"
which_text which.Sections = codes "sections"

abbrev pub range_kind_text : RangeKind → List ℕ
range_kind_text range_kind.ImageSize = codes "imagesize"
range_kind_text range_kind.Branch = codes "branch"
range_kind_text range_kind.Page = codes "page"
range_kind_text range_kind.LowBits = codes "lowbits"
range_kind_text range_kind.Diff32 = codes "diff32"
range_kind_text range_kind.GotDelta = codes "gotdelta"
range_kind_text range_kind.RebaseTarget = codes "rebasetarget"
range_kind_text range_kind.FixupPlace = codes "fixupplace"

abbrev pub usage_rule_text : UsageRule → List ℕ
usage_rule_text usage_rule.Unknown = codes "unknown"
usage_rule_text usage_rule.NoValue = codes "novalue"
usage_rule_text usage_rule.BadValue = codes "badvalue"
usage_rule_text usage_rule.DylibOnly = codes "dylibonly"
usage_rule_text usage_rule.NoInput = codes "noinput"
