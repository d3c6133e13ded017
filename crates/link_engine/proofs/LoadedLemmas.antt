-- Each file that is loaded is cut into its pieces, has its references and unwind entries, the form and atoms of low alignment,
-- and is whole and has bytes where it is read of bytes.
use Rattle.std.proofs.Common.{◌≡◌, ℕ, ◌<◌, ◌^◌, false, true, Bool, nat_lt, List, All, length, Result, Ok, Err, IfOk, is_ok, refl, sym, subst}
use Rattle.std.specs.Result.{IfErr, MatchResult}
use Rattle.std.proofs.lemmas.Bool.{false≢true, ltb-true}
use Rattle.std.proofs.lemmas.List.{get_or_default}
use Rattle.std.proofs.lemmas.List.Elements.{All-weaker}
use Rattle.list_lemmas.proofs.Members.{In, Contains_from_in, in_from_Contains}
use Rattle.mo_types.specs.Gives.{guarded}
use Rattle.name_ids.specs.declared.numbered.NamedFiles.{NamedFiles}
use Rattle.mo_types.specs.Loaded.{IsWholeFile}
use Rattle.mo_types.specs.Refs.{refs_of}
use Rattle.mo_types.specs.declared.cause.Which.TheVariants.{Symbols}
use Rattle.mo_types.specs.declared.key.FileId.{FileId}
use Rattle.mo_types.specs.declared.loaded.Loaded.{Loaded}
use Rattle.mo_types.specs.declared.loaded.LoadedFile.{LoadedFile}
use Rattle.mo_types.specs.declared.object.Object.{Object}
use Rattle.mo_types.specs.declared.object.Section.{Section}
use Rattle.mo_types.specs.declared.object_fault.ObjFault.TheVariants.{Limit}
use Rattle.mo_obj.proofs.WholeLemmas.{read_whole}
use Rattle.mo_obj.specs.Features.{first_feature}
use Rattle.mo_obj.specs.Entries.{entries_of}
use Rattle.mo_obj.specs.Object.{accepted, described, lacks, object_of}
use Rattle.mo_obj.proofs.ReadLemmas.{bind_ok}
use Rattle.mo_obj.specs.Read.{AreBytes, IsRead}
use Rattle.mo_obj.specs.Relocations.{relocations_of}
use Rattle.mo_obj.proofs.UnwindLemmas.{entries_read}
use Rattle.unwind_read.specs.Unwinds.{unwinds_of}
use Rattle.lib_bind.specs.declared.library.LibraryGraph.{LibraryGraph}
use Rattle.input_files.specs.Files.{HasUnwinds, IsLow, all_ids, content_of, file_of, is_first, or_none}
use Rattle.member_rounds.specs.Growth.{union}
use Rattle.member_rounds.specs.Rounds.{asks, loaded_ids, loaded_of}
use Rattle.input_files.specs.declared.fault.LoadFault.{LoadFault}
use Rattle.input_files.specs.declared.input.Input.{Input}
use Rattle.member_rounds.proofs.AnswerLemmas.{loaded_only}
use Rattle.input_files.proofs.FileLemmas.{few_ids}
use Rattle.member_rounds.proofs.LowLemmas.{IsObjectOf, low_at, object_at}
use Rattle.input_files.proofs.EachLemmas.{all_from}
use Rattle.member_rounds.proofs.WorkLemmas.{from_all}
use Rattle.link_files.proofs.KeptLemmas.{IsCut}
use Rattle.link_engine.proofs.ValueLemmas.{no_value, same_value}
use Rattle.link_engine.proofs.PartLemmas.{HaveBytes, content_bytes}
use Rattle.link_files.specs.Linked.{AreCut, AreReferred}
use Rattle.image_make.specs.Whole.{AreBytesIn}

-- ---- an object

few_symbols : (bytes : List ℕ) (object : Object) → object_of bytes ≡ Ok object → length object.symbols < 2 ^ 24
unfolding object_of accepted
few_symbols bytes object e =
    let read = bind_ok (described bytes) _ object e in
    let done = bind_ok (accepted read.0.object read.0.foreign) _ object read.2 in
    let relocs = bind_ok (relocations_of read.0.object) _ done.0 done.1 in
    let entries = bind_ok (entries_of read.0.object) _ done.0 relocs.2 in
    let supported = bind_ok (lacks (first_feature read.0.object read.0.foreign relocs.0)) _ done.0 entries.2 in
    subst (λ (o : Object). length o.symbols < 2 ^ 24) (same_value read.0.object object done.2) (by (nat_lt (length read.0.object.symbols) (2 ^ 24)) read.0.object done.0 refl supported.2)
  where
    by : (b : Bool) (o : Object) (d : Unit {0}) → nat_lt (length o.symbols) (2 ^ 24) ≡ b → guarded b (Limit Symbols) (tt {0}) ≡ Ok d → length o.symbols < 2 ^ 24
    by true o d low f = ltb-true (length o.symbols) (2 ^ 24) low
    by false o d low f = no_value (Limit Symbols) d f

all_there : {X E : Type 0} (r : Result (List X) E) → IfErr r (λ fault. ⊥) → r ≡ Ok (or_none r)
all_there (Ok xs) none = refl
all_there (Err fault) none = absurd none

-- the rule of unwind entries holds of it
entries_kept : (bytes : List ℕ) (object : Object) → object_of bytes ≡ Ok object → entries_of object ≡ Ok (tt {0})
unfolding object_of accepted
entries_kept bytes object e =
    let read = bind_ok (described bytes) _ object e in
    let done = bind_ok (accepted read.0.object read.0.foreign) _ object read.2 in
    let relocs = bind_ok (relocations_of read.0.object) _ done.0 done.1 in
    let entries = bind_ok (entries_of read.0.object) _ done.0 relocs.2 in
    subst (λ (o : Object). entries_of o ≡ Ok (tt {0})) (same_value read.0.object object done.2) entries.1

-- ---- a file

file_whole : (inputs : List Input) (id : FileId) (file : LoadedFile) → id.member < 2 ^ 20 → AreBytes (content_of inputs id).bytes → file_of inputs id ≡ Ok file → IsWholeFile file
file_whole inputs id file few bytes is =
    let content = content_of inputs id in
    let of : IsObjectOf id content.label content.bytes file = object_at inputs id file is in
    let object : Object = of.object in
    let read : IsRead object = read_whole content.bytes object bytes of.read in
    subst IsWholeFile (sym of.is) (record {
      member = few;
      object = read.whole;
      few_symbols = few_symbols content.bytes object of.read;
      atoms = refl;
      refs = all_there (refs_of object id) (read.refs id);
      unwinds = tt;
    })

abbrev HasByteSections : LoadedFile → Type 0
HasByteSections file = All (λ (section : Section). All (λ byte. byte < 256) section.bytes) file.object.sections

file_bytes : (inputs : List Input) (id : FileId) (file : LoadedFile) → AreBytes (content_of inputs id).bytes → file_of inputs id ≡ Ok file → HasByteSections file
file_bytes inputs id file bytes is =
    let content = content_of inputs id in
    let of : IsObjectOf id content.label content.bytes file = object_at inputs id file is in
    let read : IsRead of.object = read_whole content.bytes of.object bytes of.read in
    subst HasByteSections (sym of.is) (All-weaker (λ (section : Section). AreBytes section.bytes) (λ (section : Section). All (λ byte. byte < 256) section.bytes)
    (λ section are k d within. subst (λ (n : ℕ). n < 256) (get_or_default section.bytes k 0 d within) (are k)) of.object.sections read.contents)

-- a file has the unwind entries of its object
file_unwinds : (inputs : List Input) (id : FileId) (file : LoadedFile) → file_of inputs id ≡ Ok file → HasUnwinds file
file_unwinds inputs id file is =
    let content = content_of inputs id in
    let of : IsObjectOf id content.label content.bytes file = object_at inputs id file is in
    subst HasUnwinds (sym of.is) (all_there (unwinds_of of.object id) (entries_read of.object id (entries_kept content.bytes of.object of.read)))

-- and its references
abbrev IsReferred : LoadedFile → Type 0
IsReferred file = file.refs ≡ or_none (refs_of file.object file.id)

-- ---- what is loaded

module _ (inputs : List Input) (libs : LibraryGraph) (wanted : List (List ℕ)) (loaded : Loaded) (is : loaded_of inputs libs wanted ≡ Ok loaded) where
  -- what holds of each file of the inputs that is read holds of all that are loaded
  each_loaded : (P : LoadedFile → Type 0) → ((id : FileId) (file : LoadedFile) → In id (all_ids inputs) → file_of inputs id ≡ Ok file → P file) → All P loaded.files
  unfolding union
  each_loaded P holds = all_from P loaded.files (λ file there.
      let from = loaded_only inputs libs wanted loaded file is (Contains_from_in loaded.files file there) in
      holds from.0 file (from_all (all_ids inputs) (is_first inputs) (asks inputs libs wanted) (length (all_ids inputs)) from.0 (in_from_Contains (loaded_ids inputs libs wanted) from.0 from.1)) from.2)

  -- what holds of each object that is read holds of theirs
  pub loaded_objects : (P : Object → Type 0) → ((bytes : List ℕ) (object : Object) → object_of bytes ≡ Ok object → P object) → All (λ (file : LoadedFile). P file.object) loaded.files
  loaded_objects P holds = each_loaded (λ (file : LoadedFile). P file.object) (λ id file among read.
      let of = object_at inputs id file read in
      subst (λ (f : LoadedFile). P f.object) (sym of.is) (holds (content_of inputs id).bytes of.object of.read))

  pub loaded_cut : AreCut loaded.files
  loaded_cut = each_loaded IsCut (λ id file among read. subst IsCut (sym (object_at inputs id file read).is) refl)

  pub loaded_referred : AreReferred loaded.files
  loaded_referred = each_loaded IsReferred (λ id file among read. subst IsReferred (sym (object_at inputs id file read).is) refl)

  pub loaded_whole : HaveBytes inputs → All IsWholeFile loaded.files
  loaded_whole are = each_loaded IsWholeFile (λ id file among read. file_whole inputs id file (few_ids inputs id among) (content_bytes inputs id are) read)

  pub loaded_unwinds : All HasUnwinds loaded.files
  loaded_unwinds = each_loaded HasUnwinds (λ id file among read. file_unwinds inputs id file read)

  pub loaded_low : All IsLow loaded.files
  loaded_low = each_loaded IsLow (λ id file among read. low_at inputs id file read)

  pub loaded_bytes : HaveBytes inputs → AreBytesIn loaded.files
  loaded_bytes are = each_loaded HasByteSections (λ id file among read. file_bytes inputs id file (content_bytes inputs id are) read)

-- files that are handed on, whatever a fault is turned into
pub named_unwinds : {F : Type 0} (Turned : LoadFault → Type 0) (inputs : List Input) (libs : LibraryGraph) (wanted : List (List ℕ)) (read : Result NamedFiles LoadFault) (result : Result NamedFiles F) → IfOk read (λ named. loaded_of inputs libs wanted ≡ Ok named.loaded) → MatchResult read (λ named. result ≡ Ok named) Turned → is_ok result ≡ is_ok read
    → IfOk result (λ named. All HasUnwinds named.loaded.files)
named_unwinds {F = F} Turned inputs libs wanted (Ok named) result loaded same ends = subst (λ (r : Result NamedFiles F). IfOk r (λ n. All HasUnwinds n.loaded.files)) (sym same) (loaded_unwinds inputs libs wanted named.loaded loaded)
named_unwinds Turned inputs libs wanted (Err fault) (Ok named) loaded same ends = absurd (false≢true (sym ends))
named_unwinds Turned inputs libs wanted (Err fault) (Err end) loaded same ends = tt
