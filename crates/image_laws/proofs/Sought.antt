-- The kinds of an image's load commands, and the search for one of a kind.
use Rattle.std.proofs.Common.{◌≡◌, ◌≢◌, ℕ, ◌+◌, ◌<◌, ◌^◌, not, Bool, true, false, List, [], ◌∷◌, ◌++◌, map, length, take, drop, Option, None, refl, sym, ap, ◌∙◌, arith, if◌then◌else◌, append_assoc, length-append}
use Rattle.std.specs.List.{AllByRecursion, flat_map}
use Rattle.command_line.specs.declared.command.Command.{Command}
use Rattle.mo_bytes.specs.Number.{number, number_bytes}
use Rattle.mo_bytes.proofs.Numbers.{number-number_bytes}
use Rattle.mo_bytes.specs.Rounding.{least_multiple}
use Rattle.mo_format.specs.declared.loader.TheConstants.{LC_BUILD_VERSION, LC_DYLD_CHAINED_FIXUPS, LC_ID_DYLIB, LC_LOAD_DYLIB, LC_LOAD_DYLINKER, LC_LOAD_WEAK_DYLIB, LC_MAIN, LC_REEXPORT_DYLIB, LC_RPATH, LC_SEGMENT_64}
use Rattle.mo_types.specs.Scan.{first_some, option_or_else}
use Rattle.lib_bind.specs.declared.library.Library.{Library}
use Rattle.lib_bind.specs.declared.library.LibraryGraph.{LibraryGraph}
use Rattle.sect_place.specs.declared.layout.PlacedSection.{PlacedSection}
use Rattle.sect_place.specs.declared.layout.Segment.{Segment}
use Rattle.load_cmds.specs.Documents.{document_of}
use Rattle.load_cmds.specs.Names.{u64_of}
use Rattle.load_cmds.specs.Others.{dylib_bytes, dylinker_bytes, entry_bytes, id_bytes, library_bytes, part_bytes, rpath_bytes, version_bytes}
use Rattle.load_cmds.specs.Segments.{is_empty, linkedit_size, section_bytes, segment_command, segment_with, sized_command}
use Rattle.load_cmds.specs.declared.parts.PartPlace.{PartPlace}
use Rattle.load_cmds.specs.declared.parts.PartSizes.{PartSizes}
use Rattle.image_read.specs.Commands.{cmd}
use Rattle.image_laws.proofs.Listed.{other_list, segment_list}
use Rattle.image_laws.proofs.Turned.{appended}
use Rattle.image_laws.proofs.Walk.{all_bytes, number_there, places_from}

-- ---- commands of other kinds

-- bytes that begin with a number that isn't the kind that is sought
pub record IsOther (sought : ℕ) (bytes : List ℕ) : Type 0 where
  pub kind : ℕ
  pub told : (rest : List ℕ) → number 4 (bytes ++ rest) 0 ≡ kind
  pub other : kind ≢ sought

pub begins_with : (sought kind : ℕ) (bytes more : List ℕ) → bytes ≡ number_bytes 4 kind ++ more → kind < 256 ^ 4 → kind ≢ sought → IsOther sought bytes
begins_with sought kind bytes more is low other = record {
  kind = kind;
  told = λ rest.
      ap (λ (z : List ℕ). number 4 (z ++ rest) 0) is ∙ ap (λ (z : List ℕ). number 4 z 0) (append_assoc (number_bytes 4 kind) more rest) ∙ number-number_bytes 4 kind (more ++ rest) low;
  other = other;
}

sized_other : (sought : ℕ) (segment : Segment) (memory file stubs slots : ℕ) (sections : List PlacedSection) → LC_SEGMENT_64 ≢ sought → IsOther sought (segment_with (sized_command segment memory file) stubs slots sections)
sized_other sought segment memory file stubs slots sections other =
    begins_with sought LC_SEGMENT_64 (segment_with (sized_command segment memory file) stubs slots sections) _
    (append_assoc (number_bytes 4 LC_SEGMENT_64) _ (flat_map (section_bytes stubs slots) sections)) (omega arith) other

segment_other : (sought : ℕ) (parts : PartSizes) (last : Bool) (segment : Segment) (stubs slots : ℕ) (sections : List PlacedSection) → LC_SEGMENT_64 ≢ sought → IsOther sought (segment_with (segment_command parts last segment) stubs slots sections)
segment_other sought parts true segment stubs slots sections other = sized_other sought segment (u64_of (least_multiple 0x4000 (linkedit_size parts segment))) (u64_of (linkedit_size parts segment)) stubs slots sections other
segment_other sought parts false segment stubs slots sections other = sized_other sought segment segment.vmsize segment.file_size stubs slots sections other

pub segments_other : (sought : ℕ) (parts : PartSizes) (stubs slots : ℕ) (segments : List Segment) (sections : List PlacedSection) → LC_SEGMENT_64 ≢ sought → AllByRecursion (IsOther sought) (segment_list parts stubs slots segments sections)
segments_other sought parts stubs slots [] sections other = tt
segments_other sought parts stubs slots (segment ∷ segments) sections other =
    (segment_other sought parts (is_empty segments) segment stubs slots (take segment.sections sections) other, segments_other sought parts stubs slots segments (drop segment.sections sections) other)

pub dylinker_other : (sought : ℕ) → LC_LOAD_DYLINKER ≢ sought → IsOther sought dylinker_bytes
unfolding dylinker_bytes
dylinker_other sought other = begins_with sought LC_LOAD_DYLINKER dylinker_bytes _ (append_assoc (number_bytes 4 LC_LOAD_DYLINKER) _ _) (omega arith) other

pub part_other : (sought kind : ℕ) (part : PartPlace) → kind < 256 ^ 4 → kind ≢ sought → IsOther sought (part_bytes kind part)
unfolding part_bytes
part_other sought kind part low other = begins_with sought kind (part_bytes kind part) _ refl low other

pub version_other : (sought : ℕ) (command : Command) → LC_BUILD_VERSION ≢ sought → IsOther sought (version_bytes command)
unfolding version_bytes
version_other sought command other = begins_with sought LC_BUILD_VERSION (version_bytes command) _ refl (omega arith) other

pub dylib_other : (sought kind : ℕ) (name : List ℕ) (timestamp current compatible : ℕ) → kind < 256 ^ 4 → kind ≢ sought → IsOther sought (dylib_bytes kind name timestamp current compatible)
unfolding dylib_bytes
dylib_other sought kind name timestamp current compatible low other =
    begins_with sought kind (dylib_bytes kind name timestamp current compatible) _ (append_assoc (number_bytes 4 kind) _ _) low other

rpath_other : (path : List ℕ) → IsOther LC_SEGMENT_64 (rpath_bytes path)
unfolding rpath_bytes
rpath_other path = begins_with LC_SEGMENT_64 LC_RPATH (rpath_bytes path) _ (append_assoc (number_bytes 4 LC_RPATH) _ _) (omega arith) (λ e. omega (arith, e))

entry_other : (parts : PartSizes) → IsOther LC_SEGMENT_64 (entry_bytes parts)
unfolding entry_bytes
entry_other parts = begins_with LC_SEGMENT_64 LC_MAIN (entry_bytes parts) _ refl (omega arith) (λ e. omega (arith, e))

library_other : (libs : LibraryGraph) (library : Library) → IsOther LC_SEGMENT_64 (library_bytes libs library)
library_other libs library = by library.weak library.reexport
  where
    by : (weak reexport : Bool) → IsOther LC_SEGMENT_64 (dylib_bytes (if weak then LC_LOAD_WEAK_DYLIB else if reexport then LC_REEXPORT_DYLIB else LC_LOAD_DYLIB) (document_of libs library).install 2 (document_of libs library).current (document_of libs library).compatible)
    by true reexport = dylib_other LC_SEGMENT_64 LC_LOAD_WEAK_DYLIB (document_of libs library).install 2 (document_of libs library).current (document_of libs library).compatible (omega arith) (λ e. omega (arith, e))
    by false true = dylib_other LC_SEGMENT_64 LC_REEXPORT_DYLIB (document_of libs library).install 2 (document_of libs library).current (document_of libs library).compatible (omega arith) (λ e. omega (arith, e))
    by false false = dylib_other LC_SEGMENT_64 LC_LOAD_DYLIB (document_of libs library).install 2 (document_of libs library).current (document_of libs library).compatible (omega arith) (λ e. omega (arith, e))

mapped_other : {X : Type 0} (f : X → List ℕ) → ((x : X) → IsOther LC_SEGMENT_64 (f x)) → (xs : List X) → AllByRecursion (IsOther LC_SEGMENT_64) (map f xs)
mapped_other f one [] = tt
mapped_other f one (x ∷ xs) = (one x, mapped_other f one xs)

-- none of the commands behind those of segments is a segment
pub others_other : (parts : PartSizes) (command : Command) (libs : LibraryGraph) → AllByRecursion (IsOther LC_SEGMENT_64) (other_list parts command libs)
others_other parts command libs = by command.dylib
  where
    rest : List (List ℕ)
    rest = map (library_bytes libs) libs.libraries ++ map rpath_bytes command.rpaths

    all : AllByRecursion (IsOther LC_SEGMENT_64) rest
    all = appended (IsOther LC_SEGMENT_64) (map (library_bytes libs) libs.libraries) (map rpath_bytes command.rpaths) (mapped_other (library_bytes libs) (library_other libs) libs.libraries) (mapped_other rpath_bytes rpath_other command.rpaths)

    version : IsOther LC_SEGMENT_64 (version_bytes command)
    version = version_other LC_SEGMENT_64 command (λ e. omega (arith, e))

    chains : IsOther LC_SEGMENT_64 (part_bytes LC_DYLD_CHAINED_FIXUPS parts.fixups)
    chains = part_other LC_SEGMENT_64 LC_DYLD_CHAINED_FIXUPS parts.fixups (omega arith) (λ e. omega (arith, e))

    by : (dylib : Bool) → AllByRecursion (IsOther LC_SEGMENT_64) ((if dylib then id_bytes command ∷ [] else []) ++ (part_bytes LC_DYLD_CHAINED_FIXUPS parts.fixups ∷ ((if not dylib then dylinker_bytes ∷ [] else []) ++ (version_bytes command ∷ ((if not dylib then entry_bytes parts ∷ [] else []) ++ rest)))))
    by true = (dylib_other LC_SEGMENT_64 LC_ID_DYLIB command.install 1 command.current command.compatible (omega arith) (λ e. omega (arith, e)), (chains, (version, all)))
    by false = (chains, (dylinker_other LC_SEGMENT_64 (λ e. omega (arith, e)), (version, (entry_other parts, all))))

-- ---- the search

pub kind_away : (sought : ℕ) (image front bytes rest : List ℕ) → IsOther sought bytes → image ≡ front ++ (bytes ++ rest) → cmd image (length front) ≢ sought
unfolding cmd
kind_away sought image front bytes rest one is =
    let kind : number 4 image (length front) ≡ one.kind = number_there 4 image front (bytes ++ rest) 0 (length front) is (omega arith) ∙ one.told rest in
    λ e. one.other (sym kind ∙ e)

-- what is sought by its kind isn't found among commands of other kinds
pub skipped : {X : Type 0} (sought : ℕ) (found : ℕ → Option X) (image front rest : List ℕ) (others more : List (List ℕ)) → ((at : ℕ) → cmd image at ≢ sought → found at ≡ None) → image ≡ front ++ (all_bytes (others ++ more) ++ rest) → AllByRecursion (IsOther sought) others → first_some found (places_from (length front) (others ++ more)) ≡ first_some found (places_from (length front + length (all_bytes others)) more)
skipped sought found image front rest [] more none is each = ap (λ (n : ℕ). first_some found (places_from n more)) (let e : length front ≡ length front + 0 = omega arith in e)
skipped {X = X} sought found image front rest (bytes ∷ others) more none is each =
    let here : image ≡ front ++ (bytes ++ (all_bytes (others ++ more) ++ rest)) = is ∙ ap (λ (z : List ℕ). front ++ z) (append_assoc bytes (all_bytes (others ++ more)) rest) in
    let moved : image ≡ (front ++ bytes) ++ (all_bytes (others ++ more) ++ rest) = here ∙ sym (append_assoc front bytes (all_bytes (others ++ more) ++ rest)) in
    let next : length (front ++ bytes) ≡ length front + length bytes = length-append front bytes in
    let long : length (bytes ++ all_bytes others) ≡ length bytes + length (all_bytes others) = length-append bytes (all_bytes others) in
    ap (λ (o : Option X). option_or_else o (first_some found (places_from (length front + length bytes) (others ++ more)))) (none (length front) (kind_away sought image front bytes (all_bytes (others ++ more) ++ rest) each.0 here))
    ∙ ap (λ (n : ℕ). first_some found (places_from n (others ++ more))) (sym next)
    ∙ skipped sought found image (front ++ bytes) rest others more none moved each.1
    ∙ ap (λ (n : ℕ). first_some found (places_from n more)) (let e : length (front ++ bytes) + length (all_bytes others) ≡ length front + length (bytes ++ all_bytes others) = omega arith in e)
