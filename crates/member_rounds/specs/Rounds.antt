-- The files that a link loads, round by round.
use Rattle.std.specs.Prelude.{◌≡◌, ℕ, zero, suc, ◌+◌, ◌<◌, ◌^◌, ◌||◌, ◌++◌, Bool, not, nat_lt, List, codes, length, map, filter, Contains, Option, Some, None, option_map, Result, Ok, Err, if◌then◌else◌}
use Rattle.std.specs.List.{filter_map, flat_map, list_any, range_with_len}
use Rattle.std.specs.Result.{result_err, result_ok}
use Rattle.std.specs.Str.{bytes_eq}
use Rattle.mo_types.specs.Candidates.{candidates, is_undefined}
use Rattle.mo_types.specs.Scan.{first_some, option_or_else}
use Rattle.mo_types.specs.declared.answer.Refusal.TheVariants as refusal
use Rattle.mo_types.specs.declared.cause.Which.TheVariants.{Names}
use Rattle.mo_types.specs.declared.key.FileId.{FileId}
use Rattle.mo_types.specs.declared.loaded.Loaded.{Loaded}
use Rattle.mo_types.specs.declared.loaded.LoadedFile.{LoadedFile}
use Rattle.mo_ar.specs.Offers.{first_offer}
use Rattle.mo_ar.specs.declared.archive.Archive.{Archive}
use Rattle.lib_bind.specs.Provides.{offer_of}
use Rattle.lib_bind.specs.declared.library.LibraryGraph.{LibraryGraph}
use Rattle.lib_bind.specs.declared.provider.Offer.{Offer}
use Rattle.name_ids.specs.Names.{external_names, numbered}
use Rattle.member_rounds.specs.Growth.{after, is_in, union}
use Rattle.input_files.specs.Files.{all_ids, archive_in, file_of, id_at, is_first}
use Rattle.input_files.specs.declared.fault.LoadFault.{LoadFault}
use Rattle.input_files.specs.declared.fault.LoadFault.TheVariants as rounds
use Rattle.input_files.specs.declared.input.Input.{Input}

-- ---- what names ask for

-- the names of headers, which stand for the image itself (`loader.h`)
abbrev pub is_header_name : List ℕ → Bool
is_header_name name = bytes_eq name (codes "___dso_handle") || bytes_eq name (codes "__mh_execute_header") || bytes_eq name (codes "__mh_dylib_header")

abbrev pub offer_as : List ℕ → Input → Option Archive → Option FileId
offer_as name input None = None
offer_as name input (Some archive) = option_map (id_at input) (first_offer name archive.offers)

-- the least-numbered member that an archive's table gives to a name
unfoldable pub offer_in : List ℕ → Input → Option FileId
offer_in name input = offer_as name input (archive_in input)

-- where a library that stands before the archive offers the name, no member is asked for
abbrev pub unless_before : Option FileId → Option Offer → Option FileId
unless_before None library = None
unless_before (Some id) None = Some id
unless_before (Some id) (Some offer) = if nat_lt offer.library.position id.position then None else Some id

-- the member that a name asks for: that of the first archive that offers the name, unless a library that stands before it
-- does
unfoldable pub asked_by : List Input → LibraryGraph → List ℕ → Option FileId
asked_by inputs libs name = if is_header_name name then None else unless_before (first_some (offer_in name) inputs) (offer_of libs name)

-- ---- wanted names

-- the names that an object leaves undefined (`nlist.h`: N_UNDF)
unfoldable pub undefined_in : LoadedFile → List (List ℕ)
undefined_in file = map (λ symbol. symbol.name) (filter (λ symbol. is_undefined symbol.kind) file.object.symbols)

-- the names that files or the command line want
unfoldable pub wanted_names : List LoadedFile → List (List ℕ) → List (List ℕ)
wanted_names files wanted = flat_map undefined_in files ++ wanted

unfoldable pub has_candidate : List LoadedFile → List ℕ → Bool
has_candidate files name = list_any (λ candidate. bytes_eq name candidate.symbol.name) (candidates files)

-- those without a candidate
unfoldable pub missing_names : List LoadedFile → List (List ℕ) → List (List ℕ)
missing_names files wanted = filter (λ name. not (has_candidate files name)) (wanted_names files wanted)

-- ---- rounds

-- the files among these that can be read
unfoldable pub files_of : List Input → List FileId → List LoadedFile
files_of inputs ids = filter_map (λ id. result_ok (file_of inputs id)) ids

-- the members that the files' missing names ask for
unfoldable pub asked_ids : List Input → LibraryGraph → List (List ℕ) → List FileId → List FileId
asked_ids inputs libs wanted ids = filter_map (asked_by inputs libs) (missing_names (files_of inputs ids) wanted)

unfoldable pub asks : List Input → LibraryGraph → List (List ℕ) → List FileId → FileId → Bool
asks inputs libs wanted ids id = is_in (asked_ids inputs libs wanted ids) id

-- the files after a number of rounds, by rising id where the positions of the inputs rise: the objects and the members of
-- forced archives, and with each round all members at once for which the files so far ask
abbrev pub round : List Input → LibraryGraph → List (List ℕ) → ℕ → List FileId
round inputs libs wanted k = after (all_ids inputs) (is_first inputs) (asks inputs libs wanted) k

-- the files of all rounds
abbrev pub loaded_ids : List Input → LibraryGraph → List (List ℕ) → List FileId
loaded_ids inputs libs wanted = union (all_ids inputs) (is_first inputs) (asks inputs libs wanted)

-- a name asks for the file that was wanted after a round before this one, without a candidate there
abbrev pub WasAskedFor : List Input → LibraryGraph → List (List ℕ) → ℕ → FileId → Type 0
WasAskedFor inputs libs wanted k id =
    (j : ℕ) × (name : List ℕ) × (j < k) × Contains (missing_names (files_of inputs (round inputs libs wanted j)) wanted) name × (asked_by inputs libs name ≡ Some id)

-- ---- what the rounds load

-- the files that a round brings
abbrev pub new_ids : List Input → LibraryGraph → List (List ℕ) → ℕ → List FileId
new_ids inputs libs wanted zero = round inputs libs wanted zero
new_ids inputs libs wanted (suc k) = filter (λ id. not (is_in (round inputs libs wanted k) id)) (round inputs libs wanted (suc k))

-- there are fewer than 2^24 names
abbrev pub names_fault : List LoadedFile → List (List ℕ) → Option LoadFault
names_fault files wanted = if nat_lt (length (numbered (external_names files ++ wanted))) (2 ^ 24) then None else Some (rounds.Refused (refusal.Limit Names))

-- the fault of a round: that of the least of its new files that has one, and then that of too many names
unfoldable pub round_fault : List Input → LibraryGraph → List (List ℕ) → ℕ → Option LoadFault
round_fault inputs libs wanted k = option_or_else (first_some (λ id. result_err (file_of inputs id)) (new_ids inputs libs wanted k)) (names_fault (files_of inputs (round inputs libs wanted k)) wanted)

abbrev pub loaded_unless : Option LoadFault → List LoadedFile → Result Loaded LoadFault
loaded_unless None files = Ok (record { files = files })
loaded_unless (Some fault) files = Err fault

-- the files that a link loads, or the fault of the first round that has one
unfoldable pub loaded_of : List Input → LibraryGraph → List (List ℕ) → Result Loaded LoadFault
loaded_of inputs libs wanted = loaded_unless (first_some (round_fault inputs libs wanted) (range_with_len 0 (length (all_ids inputs) + 1))) (files_of inputs (loaded_ids inputs libs wanted))
