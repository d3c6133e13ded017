-- Where the atoms of an object's section go: to the section of the image with this segment, name and type
-- (`loader.h`: section_64, S_ATTR_PURE_INSTRUCTIONS).
use Rattle.std.specs.Prelude.{ℕ, ◌==◌, ◌&&◌, ◌||◌, Bool, not, bit_and, List, codes, if◌then◌else◌}
use Rattle.std.specs.Str.{bytes_eq}
use Rattle.mo_format.specs.declared.loader.TheConstants.{S_ATTR_PURE_INSTRUCTIONS, S_REGULAR, S_THREAD_LOCAL_REGULAR, S_THREAD_LOCAL_VARIABLES, S_THREAD_LOCAL_ZEROFILL, S_ZEROFILL}
use Rattle.mo_types.specs.declared.object.Section.{Section}

pub record Destination : Type 0 where
  pub segment : List ℕ
  pub name : List ℕ
  pub kind : ℕ

abbrev pub is_instructions : Section → Bool
is_instructions section = not (bit_and section.attributes S_ATTR_PURE_INSTRUCTIONS == 0)

abbrev pub is_thread_local : ℕ → Bool
is_thread_local kind = kind == S_THREAD_LOCAL_REGULAR || kind == S_THREAD_LOCAL_ZEROFILL || kind == S_THREAD_LOCAL_VARIABLES

-- data that don't change once the loader has filled them in
unfoldable pub is_constant : Section → Bool
is_constant section =
    bytes_eq section.segment (codes "__DATA")
    && (bytes_eq section.name (codes "__const") || bytes_eq section.name (codes "__mod_init_func"))
    && not (is_thread_local section.kind)

unfoldable pub destination_segment : Section → List ℕ
destination_segment section =
    if is_instructions section then codes "__TEXT" else if is_constant section then codes "__DATA_CONST" else section.segment

unfoldable pub destination_name : Section → List ℕ
destination_name section = if is_instructions section then codes "__text" else section.name

unfoldable pub destination_kind : Section → ℕ
destination_kind section = if is_instructions section then S_REGULAR else section.kind

-- Instructions go to the image's `__TEXT,__text`, and what is constant to `__DATA_CONST`. Else a section keeps its
-- segment, its name and its type.
abbrev pub destination : Section → Destination
destination section = record {
  segment = destination_segment section;
  name = destination_name section;
  kind = destination_kind section;
}

-- where common symbols go
abbrev pub common_destination : Destination
common_destination = record { segment = codes "__DATA"; name = codes "__common"; kind = S_ZEROFILL }
