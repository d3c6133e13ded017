-- Parts of bytes are bytes: what an input is opened as, and what a file is read of.
use Rattle.std.proofs.Common.{◌≡◌, ℕ, zero, suc, ◌+◌, ◌-◌, ◌^◌, ◌==◌, nat_le, Bool, true, false, List, [], ◌∷◌, take, drop, length, Option, Some, None, Result, Ok, Err, subst, lit<, if◌then◌else◌}
use Rattle.std.specs.Prelude.{option_map, slice_get, unwrap_or}
use Rattle.std.specs.List.{AllByRecursion, filter_map}
use Rattle.std.proofs.lemmas.List.{get_or-drop}
use Rattle.mo_types.specs.Kind.{kind_of}
use Rattle.mo_types.specs.Scan.{first_some, option_or_else}
use Rattle.mo_types.specs.declared.answer.Refusal.TheVariants as refusal
use Rattle.mo_types.specs.declared.cause.Feature.TheVariants.{Bitcode}
use Rattle.mo_types.specs.declared.cause.Which.TheVariants.{FileBytes}
use Rattle.mo_types.specs.declared.key.FileId.{FileId}
use Rattle.mo_types.specs.declared.kind.Kind.{Kind}
use Rattle.mo_types.specs.declared.kind.Kind.TheVariants as kind
use Rattle.mo_types.specs.declared.loaded.LoadedFile.{LoadedFile}
use Rattle.mo_types.specs.declared.object_fault.ObjFault.{ObjFault}
use Rattle.mo_ar.specs.Archive.{archive_of}
use Rattle.mo_ar.specs.Slice.{slice_of}
use Rattle.mo_ar.specs.Text.{part}
use Rattle.mo_ar.specs.declared.archive.Archive.{Archive}
use Rattle.mo_ar.specs.declared.member.Member.{Member}
use Rattle.mo_ar.specs.declared.slice.SliceFault.{SliceFault}
use Rattle.mo_ar.specs.declared.slice.SliceFault.TheVariants as slice
use Rattle.mo_obj.proofs.ReadLemmas.{bind_ok}
use Rattle.mo_obj.specs.Read.{AreBytes}
use Rattle.tbd_doc.specs.declared.stub.StubFile.{StubFile}
use Rattle.lib_bind.specs.Reexported.{stub_text}
use Rattle.input_files.specs.Files.{Content, archive_in as archive_held, content_as, content_in, content_of, id_at, member_content, read_as}
use Rattle.input_files.specs.declared.fault.LoadFault.{LoadFault}
use Rattle.input_files.specs.declared.fault.LoadFault.TheVariants as fault
use Rattle.input_files.specs.declared.input.Input.{Input}
use Rattle.input_read.specs.Opened.{Contents, contents_in, contents_of, input_in, openings_of}
use Rattle.input_read.specs.Opening.{archive_in, object_in, opened_archive, opened_by, opened_object, opening_of, slice_by, slice_in, stubs_in, universal_in}
use Rattle.input_read.specs.declared.opening.Opening.{Opening}
use Rattle.input_read.specs.declared.opening.Opening.TheVariants as opening
use Rattle.input_read.proofs.OpenedLemmas.{first_read, nothing_read}
use Rattle.link_engine.proofs.ValueLemmas.{no_value, same_value}

-- each input has bytes
abbrev pub HaveBytes : List Input → Type 0
HaveBytes inputs = AllByRecursion (λ (input : Input). AreBytes input.bytes) inputs

-- ---- a part

front_bytes : (n : ℕ) (bytes : List ℕ) → AreBytes bytes → AreBytes (take n bytes)
front_bytes zero bytes are i = lit< tt
front_bytes (suc n) [] are i = are i
front_bytes (suc n) (b ∷ bytes) are zero = are 0
front_bytes (suc n) (b ∷ bytes) are (suc i) = front_bytes n bytes (λ k. are (suc k)) i

part_bytes : (bytes : List ℕ) (from size : ℕ) → AreBytes bytes → AreBytes (part bytes from size)
part_bytes bytes from size are = front_bytes size (drop from bytes) (λ k. rw get_or-drop (are (from + k)))

-- ---- what a file is read of

abbrev IsOfBytes : Option Content → Type 0
IsOfBytes None = Unit {0}
IsOfBytes (Some content) = AreBytes content.bytes

member_bytes : (input : Input) (o : Option Member) → AreBytes input.bytes → IsOfBytes (option_map (member_content input) o)
member_bytes input None are = tt
member_bytes input (Some member) are = part_bytes input.bytes member.from member.size are

archive_bytes : (input : Input) (member : ℕ) (o : Option Archive) → AreBytes input.bytes → IsOfBytes (content_as input member o)
archive_bytes input member None are = are
archive_bytes input member (Some archive) are = member_bytes input (slice_get archive.members (member - 1)) are

held_bytes : (input : Input) (member : ℕ) → AreBytes input.bytes → IsOfBytes (content_in input member)
unfolding content_in
held_bytes input member are = archive_bytes input member (archive_held input) are

some_bytes : (id : FileId) (inputs : List Input) → HaveBytes inputs → IsOfBytes (first_some (λ input. if input.position == id.position then content_in input id.member else None) inputs)
some_bytes id [] are = tt
some_bytes id (input ∷ inputs) are = first (if input.position == id.position then content_in input id.member else None) _ (by (input.position == id.position)) (some_bytes id inputs are.1)
  where
    first : (o rest : Option Content) → IsOfBytes o → IsOfBytes rest → IsOfBytes (option_or_else o rest)
    first None rest here later = later
    first (Some content) rest here later = here

    by : (b : Bool) → IsOfBytes (if b then content_in input id.member else None)
    by true = held_bytes input id.member are.0
    by false = tt

-- each file is read of bytes, where the inputs have bytes
pub content_bytes : (inputs : List Input) (id : FileId) → HaveBytes inputs → AreBytes (content_of inputs id).bytes
unfolding content_of
content_bytes inputs id are = by (first_some (λ (input : Input). if input.position == id.position then content_in input id.member else None) inputs) (some_bytes id inputs are)
  where
    by : (o : Option Content) → IsOfBytes o → AreBytes (unwrap_or o (record { label = []; bytes = [] })).bytes
    by None are = λ i. lit< tt
    by (Some content) are = are

-- ---- what an input is opened as

abbrev HasBytesIn : Opening → Type 0
HasBytesIn (opening.Object input file) = AreBytes input.bytes
HasBytesIn (opening.Archive input archive) = AreBytes input.bytes
HasBytesIn (opening.Stubs named) = Unit {0}

object_bytes : (input : Input) (one : Opening) → AreBytes input.bytes → opened_object input ≡ Ok one → HasBytesIn one
unfolding opened_object
object_bytes input one are is = by (read_as (id_at input 0) input.label input.bytes) is
  where
    by : (r : Result LoadedFile LoadFault) → object_in input r ≡ Ok one → HasBytesIn one
    by (Ok file) e = subst HasBytesIn (same_value (opening.Object input file) one e) are
    by (Err why) e = no_value why one e

opened_bytes : (input : Input) (one : Opening) → AreBytes input.bytes → opened_archive input ≡ Ok one → HasBytesIn one
unfolding opened_archive
opened_bytes input one are is = by (archive_of input.bytes) is
  where
    by : (r : Result Archive ObjFault) → archive_in input r ≡ Ok one → HasBytesIn one
    by (Ok archive) e = subst HasBytesIn (same_value (opening.Archive input archive) one e) are
    by (Err why) e = no_value _ one e

slice_bytes : (k : Kind) (input : Input) (one : Opening) → AreBytes input.bytes → slice_by k input ≡ Ok one → HasBytesIn one
slice_bytes kind.MachO input one are is = object_bytes input one are is
slice_bytes kind.Archive input one are is = opened_bytes input one are is
slice_bytes (kind.Refused Bitcode) input one are is = absurd (cc)
slice_bytes _ input one are is = absurd (cc)

universal_bytes : (input : Input) (one : Opening) (r : Result (ℕ × ℕ) SliceFault) → AreBytes input.bytes → universal_in input r ≡ Ok one → HasBytesIn one
universal_bytes input one (Ok (from, size)) are is = slice_bytes (kind_of (part input.bytes from size)) (slice_in input from size) one (part_bytes input.bytes from size are) is
universal_bytes input one (Err (slice.Malformed place rule)) are is = no_value _ one is

kind_bytes : (k : Kind) (input : Input) (one : Opening) → AreBytes input.bytes → opened_by k input ≡ Ok one → HasBytesIn one
kind_bytes kind.MachO input one are is = object_bytes input one are is
kind_bytes kind.Archive input one are is = opened_bytes input one are is
kind_bytes kind.Universal input one are is = universal_bytes input one (slice_of input.bytes) are is
kind_bytes kind.Stub input one are is = by (stub_text input.bytes) is
  where
    by : (r : Result StubFile ObjFault) → stubs_in input r ≡ Ok one → HasBytesIn one
    by (Ok file) e = subst HasBytesIn (same_value _ one e) tt
    by (Err why) e = no_value _ one e
kind_bytes kind.NotAnInput input one are is = no_value _ one is
kind_bytes (kind.Refused feature) input one are is = no_value _ one is

opening_bytes : (input : Input) (one : Opening) → AreBytes input.bytes → opening_of input ≡ Ok one → HasBytesIn one
unfolding opening_of
opening_bytes input one are is = by (nat_le (2 ^ 30) (length input.bytes)) is
  where
    by : (b : Bool) → (if b then Err (fault.Refused (refusal.Limit FileBytes)) else opened_by (kind_of input.bytes) input) ≡ Ok one → HasBytesIn one
    by true e = no_value _ one e
    by false e = kind_bytes (kind_of input.bytes) input one are e

openings_bytes : (inputs : List Input) (openings : List Opening) → HaveBytes inputs → openings_of inputs ≡ Ok openings → HaveBytes (filter_map input_in openings)
openings_bytes inputs [] are is = tt
openings_bytes [] (one ∷ openings) are is = absurd (nothing_read one openings is)
openings_bytes (input ∷ inputs) (one ∷ openings) are is =
    let read = first_read input inputs one openings is in
    by one (opening_bytes input one are.0 read.0) (openings_bytes inputs openings are.1 read.1)
  where
    by : (one : Opening) → HasBytesIn one → HaveBytes (filter_map input_in openings) → HaveBytes (filter_map input_in (one ∷ openings))
    by (opening.Object i file) here rest = (here, rest)
    by (opening.Archive i archive) here rest = (here, rest)
    by (opening.Stubs named) here rest = rest

-- objects and archives have bytes, where the inputs have
pub contents_bytes : (inputs : List Input) (contents : Contents) → HaveBytes inputs → contents_of inputs ≡ Ok contents → HaveBytes contents.inputs
unfolding contents_of
contents_bytes inputs contents are is =
    let read = bind_ok (openings_of inputs) _ contents is in
    subst (λ (c : Contents). HaveBytes c.inputs) (same_value (contents_in read.0) contents read.2) (openings_bytes inputs read.0 are read.1)
