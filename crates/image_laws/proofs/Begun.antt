-- An image that was made begins with its header and load commands.
use Rattle.std.proofs.Common.{◌≡◌, ℕ, ◌+◌, ◌*◌, ◌%◌, ◌<◌, ◌≤◌, ◌^◌, Bool, true, false, List, [], ◌∷◌, ◌++◌, length, get_or, take, drop, refl, sym, ap, ◌∙◌, arith, subst, if◌then◌else◌, append_assoc, length-append}
use Rattle.std.specs.Prelude.{All}
use Rattle.std.specs.List.{AllByRecursion}
use Rattle.std.proofs.lemmas.List.{ext_get_or, get_or-take, length-take-le, take-append-drop}
use Rattle.mo_bytes.specs.Number.{number, number_bytes}
use Rattle.mo_format.specs.Fields.{Field, Number, spelled}
use Rattle.mo_format.specs.Header.{mach_header_bytes, mach_header_fields}
use Rattle.mo_format.specs.declared.header.MachHeader.{MachHeader}
use Rattle.mo_format.proofs.FieldLemmas.{AllRead, all_read}
use Rattle.patch.specs.Range.{IsBeside}
use Rattle.load_cmds.specs.Commands.{header}
use Rattle.load_cmds.specs.Others.{others_bytes}
use Rattle.load_cmds.specs.Segments.{segments_bytes, slot_count, stub_count}
use Rattle.load_cmds.specs.Sizes.{other_count, other_size}
use Rattle.load_cmds.specs.declared.parts.PartSizes.{PartSizes}
use Rattle.load_cmds.proofs.Lengths.{length-spelled}
use Rattle.image_make.specs.Flags.{bound_flags}
use Rattle.image_make.specs.Made.{ImageInputs, blank, entry_offset, front_of, rows_of}
use Rattle.image_make.specs.Parts.{linkedit_offset, parts_of, parts_there}
use Rattle.image_make.proofs.RoomLemmas.{blank_long, counts, front_room, whole_layout}
use Rattle.image_read.specs.Commands.{ncmds, sizeofcmds}
use Rattle.image_laws.specs.Means.{AreRising, Imaged}
use Rattle.image_laws.proofs.Blank.{front_byte}
use Rattle.image_laws.proofs.Fronted.{IsFronted}
use Rattle.image_laws.proofs.Layouts.{beside_rows}
use Rattle.image_laws.proofs.Listed.{all_join, few, length_join, other_list, others_are, others_each, others_many, segment_list, segments_are, segments_each, segments_many}
use Rattle.image_laws.proofs.Turned.{appended}
use Rattle.image_laws.proofs.Walk.{IsCommand, all_bytes}

-- what the load commands tell beside the layout
abbrev pub parts_for : {m : ImageInputs} {image : List ℕ} → Imaged m image → PartSizes
parts_for {m = m} of = parts_of (m.flags + bound_flags of.fixups of.layout.sections) (entry_offset m of.layout) of.layout of.chains

-- ---- its bytes

pub image_long : (m : ImageInputs) (image : List ℕ) (of : Imaged m image) → length image ≡ linkedit_offset of.layout.segments + length of.chains.blob
image_long m image of = of.is_image.filled.beside.size ∙ blank_long m of.layout of.fixups of.chains

-- a place of the file that no atom has is as it was
pub beside_atoms : (m : ImageInputs) (image : List ℕ) (of : Imaged m image) (k : ℕ) → All (IsBeside m.files 0 k) (rows_of m of.layout) → get_or image k 0 ≡ get_or (blank m of.layout of.fixups of.chains) k 0
beside_atoms m image of k beside = of.is_image.filled.beside.others k beside

-- ---- the front of the image

front_there : (m : ImageInputs) (image : List ℕ) (of : Imaged m image) → AreRising m → image ≡ front_of m of.layout of.fixups of.chains ++ drop (length (front_of m of.layout of.fixups of.chains)) image
front_there m image of rising =
    let front = front_of m of.layout of.fixups of.chains in
    let n = length front in
    let count = counts m of.layout of.fixups of.chains of.is_image.laid in
    let room = count.room in
    let ends = (front_room m of.layout of.is_image.laid).lead in
    let long = image_long m image of in
    let enough : n ≤ length image = omega arith in
    let size : length (take n image) ≡ n = length-take-le n image enough in
    let same : take n image ≡ front = ext_get_or 0 (take n image) front size (λ k within.
    let low : k < n = omega arith in
    get_or-take n image k 0 low
    ∙ beside_atoms m image of k (beside_rows m of.layout k rising of.is_image.laid (λ section key has listed solid. (let behind = has.behind in absurd (omega arith))))
    ∙ front_byte m of.layout of.chains front k low (omega arith)) in
    sym (take-append-drop n image) ∙ ap (λ (z : List ℕ). z ++ drop n image) same

-- the load commands
abbrev pub commands_list : {m : ImageInputs} {image : List ℕ} → Imaged m image → List (List ℕ)
commands_list {m = m} of =
    segment_list (parts_for of) (stub_count of.layout.sections) (slot_count of.layout.sections) of.layout.segments of.layout.sections
    ++ other_list (parts_for of) m.command m.libs

commands_are : (m : ImageInputs) (image : List ℕ) (of : Imaged m image) → all_bytes (commands_list of) ≡ segments_bytes (parts_for of) of.layout.segments of.layout.sections ++ others_bytes (parts_for of) m.command m.libs
unfolding segments_bytes
commands_are m image of =
    let parts = parts_for of in
    let layout = of.layout in
    let segments = segment_list parts (stub_count layout.sections) (slot_count layout.sections) layout.segments layout.sections in
    all_join segments (other_list parts m.command m.libs)
    ∙ ap (λ (z : List ℕ). z ++ all_bytes (other_list parts m.command m.libs)) (segments_are parts (stub_count layout.sections) (slot_count layout.sections) layout.segments layout.sections)
    ∙ ap (λ (z : List ℕ). segments_bytes parts layout.segments layout.sections ++ z) (others_are parts m.command m.libs refl)

kind_small : (b : Bool) → (if b then 6 else 2) < 256 ^ 4
kind_small true = omega arith
kind_small false = omega arith

-- how many commands the header tells, and how many bytes they have
head_told : (image : List ℕ) (top : MachHeader) (rest : List ℕ) → top.magic < 256 ^ 4 → top.cputype < 256 ^ 4 → top.cpusubtype < 256 ^ 4 → top.filetype < 256 ^ 4 → top.ncmds < 256 ^ 4 → top.sizeofcmds < 256 ^ 4 → image ≡ mach_header_bytes top ++ rest → (number 4 image 16 ≡ top.ncmds) × (number 4 image 20 ≡ top.sizeofcmds)
head_told image top rest a b c d e f is =
    let fields : List Field = Number 4 top.magic ∷ Number 4 top.cputype ∷ Number 4 top.cpusubtype ∷ Number 4 top.filetype ∷ Number 4 top.ncmds ∷ Number 4 top.sizeofcmds ∷ [] in
    let tail : List ℕ = number_bytes 4 top.flags ++ (number_bytes 4 top.reserved ++ rest) in
    let whole : spelled fields ++ tail ≡ mach_header_bytes top ++ rest = simp append_assoc in
    let read : AllRead (spelled fields ++ tail) 0 0 fields = all_read fields 0 [] [] tail (a, (b, (c, (d, (e, (f, tt)))))) refl in
    let there : AllRead image 0 0 fields = subst (λ (z : List ℕ). AllRead z 0 0 fields) (whole ∙ sym is) read in
    (there.1.1.1.1.0, there.1.1.1.1.1.0)

pub is_fronted : (m : ImageInputs) (image : List ℕ) (of : Imaged m image) → AreRising m → IsFronted image (commands_list of)
unfolding ncmds sizeofcmds
is_fronted m image of rising =
    let parts = parts_for of in
    let commands = commands_list of in
    let segments = segment_list parts (stub_count of.layout.sections) (slot_count of.layout.sections) of.layout.segments of.layout.sections in
    let others = other_list parts m.command m.libs in
    let top : MachHeader = header of.layout parts m.command m.libs in
    let head : List ℕ = mach_header_bytes top in
    let front = front_of m of.layout of.fixups of.chains in
    let rest : List ℕ = drop (length front) image in
    let there = front_there m image of rising in
    let same = commands_are m image of in
    let split : image ≡ head ++ (all_bytes commands ++ rest) =
    there ∙ append_assoc head (segments_bytes parts of.layout.segments of.layout.sections ++ others_bytes parts m.command m.libs) rest ∙ ap (λ (z : List ℕ). head ++ (z ++ rest)) (sym same) in
    let count = counts m of.layout of.fixups of.chains of.is_image.laid in
    let size = count.front in
    let room = count.room in
    let small = count.small in
    let long : length head ≡ 32 = length-spelled (mach_header_fields top) tt in
    let each : AllByRecursion IsCommand commands =
    appended IsCommand segments others (segments_each parts (stub_count of.layout.sections) (slot_count of.layout.sections) of.layout.segments of.layout.sections (whole_layout m of.layout of.is_image.laid).sections (omega arith)) (others_each parts m.command m.libs (omega arith)) in
    let all : length (all_bytes commands) ≡ 72 * length of.layout.segments + 80 * length of.layout.sections + other_size parts_there m.command m.libs =
    omega (arith, size, ap length same, length-append head (segments_bytes parts of.layout.segments of.layout.sections ++ others_bytes parts m.command m.libs), long) in
    let many : length commands ≡ length of.layout.segments + other_count parts_there m.command m.libs =
    length_join segments others ∙ omega (arith, segments_many parts (stub_count of.layout.sections) (slot_count of.layout.sections) of.layout.segments of.layout.sections, others_many parts m.command m.libs) in
    let low = few commands each in
    let told = head_told image top (all_bytes commands ++ rest) (omega arith) (omega arith) (omega arith) (kind_small m.command.dylib) (omega arith) (omega arith) split in
    let told_count : number 4 image 16 ≡ (length of.layout.segments + other_count parts_there m.command m.libs) % 2 ^ 32 = told.0 in
    let told_size : number 4 image 20 ≡ (72 * length of.layout.segments + 80 * length of.layout.sections + other_size parts_there m.command m.libs) % 2 ^ 32 = told.1 in
    record {
      header = head;
      rest = rest;
      is = split;
      long = long;
      each = each;
      many = omega (arith, told_count, many, all, low, small, room, size);
      size = omega (arith, told_size, all, small, room, size);
    }
