-- A link of the code between two of its rounds.
use Rattle.std.specs.Prelude.{◌≡◌, ℕ, ◌+◌, ◌^◌, ◌<◌, ◌++◌, Bool, false, List, [], length, map, All, Option, Some, None, Result, Ok}
use Rattle.std.specs.List.{flat_map}
use Rattle.std.specs.List.Sorted.{IsPermutation, IsSortedBy}
use Rattle.std.specs.Ordering.{is_lt}
use Rattle.mo_types.specs.Candidates.{no_word}
use Rattle.mo_types.specs.Keys.{compare_files}
use Rattle.mo_types.specs.Loaded.{IsWholeFile}
use Rattle.mo_types.specs.Scan.{first_some}
use Rattle.mo_types.specs.declared.key.FileId.{FileId}
use Rattle.mo_types.specs.declared.loaded.Loaded.{Loaded}
use Rattle.mo_types.specs.declared.loaded.LoadedFile.{LoadedFile}
use Rattle.lib_bind.specs.declared.library.LibraryGraph.{LibraryGraph}
use Rattle.name_ids.specs.Names.{AreNames, numbers_of}
use Rattle.name_ids.specs.declared.numbered.NamedFiles.{NamedFiles}
use Rattle.race_core.specs.Run.{run}
use Rattle.symbol_winners.specs.Winners.{AreLeast}
use Rattle.name_offers.specs.Offers.{bids_of}
use Rattle.input_files.specs.Files.{all_ids}
use Rattle.input_files.specs.Sources.{AreInOrder}
use Rattle.input_files.specs.declared.fault.LoadFault.{LoadFault}
use Rattle.input_files.specs.declared.input.Input.{Input}
use Rattle.member_rounds.specs.Rounds.{files_of, loaded_ids, loaded_of, offer_in, undefined_in}
use Rattle.member_rounds.specs.declared.loading.Link.{Link}
use Rattle.member_rounds.specs.declared.loading.Round.{Round}
use Rattle.member_rounds.specs.declared.round_race.Asking.{Asking}
use Rattle.member_rounds.specs.declared.round_rules.RoundRules.{RoundRules}
use Rattle.member_rounds.specs.inner.Asking.{is_settled}
use Rattle.member_rounds.specs.inner.Naming.{names_before}
use Rattle.member_rounds.specs.inner.Racing.{padded}
use Rattle.member_rounds.specs.inner.Working.{AreKept, HaveAsked, IsBetween, read_each}

-- what is known of names by the words of files' candidates; nothing has to be where no archive offers anything
abbrev pub IsAsking : List Input → List LoadedFile → List (List ℕ) → Option Asking → Type 0
IsAsking inputs files names None = (name : List ℕ) → first_some (offer_in name) inputs ≡ None
IsAsking inputs files names (Some asking) = AreLeast files names asking.words.items × (length asking.asked.items ≡ length names)

-- the names that needn't ask
abbrev pub settled_of : List (List ℕ) → Option Asking → List ℕ → Bool
settled_of names None = λ name. false
settled_of names (Some asking) = is_settled names asking.words.items asking.asked.items

pub record IsLinkAt (inputs : List Input) (libs : LibraryGraph) (wanted : List (List ℕ)) (link : Link) : Type 0 where
  pub between : IsBetween inputs libs wanted link.rounds link.kept.files (settled_of link.numbered.names link.asking) link.left link.new.items
  pub whole : All IsWholeFile link.kept.files
  pub low : All (λ file. file.id.position < 2 ^ 16) link.kept.files
  pub names : AreNames link.kept.files (names_before wanted link.rounds) link.numbered.names
  pub numbers : link.numbered.numbers ≡ numbers_of link.numbered.names link.kept.files
  pub known : IsAsking inputs link.kept.files link.numbered.names link.asking

-- the files of the next round were read
pub record IsReadAt (inputs : List Input) (libs : LibraryGraph) (wanted : List (List ℕ)) (link : Link) (files : List LoadedFile) : Type 0 where
  pub order : AreInOrder inputs
  pub link_is : IsLinkAt inputs libs wanted link
  pub rounds : link.rounds < length (all_ids inputs) + 1
  pub read : read_each inputs link.new.items ≡ Ok files
  pub whole : All IsWholeFile files

-- the files of the rounds in order, and their names
pub record HasEnded (link : Link) (named : NamedFiles) : Type 0 where
  pub permutation : (f : LoadedFile → List ℕ) → link.numbered.numbers ≡ map f link.kept.files → IsPermutation link.kept.files named.loaded.files
  pub sorted : IsSortedBy (λ a b. is_lt (compare_files a.id b.id)) named.loaded.files
  pub names : named.numbered.names ≡ link.numbered.names
  pub numbers : (f : LoadedFile → List ℕ) → link.numbered.numbers ≡ map f link.kept.files → named.numbered.numbers ≡ map f named.loaded.files

-- ---- by the rules of a link

-- the files that a link loads by them, or the fault of the first round that has one
abbrev pub loaded_by : RoundRules → Result Loaded LoadFault
loaded_by rules = loaded_of rules.offers rules.libs.now rules.wanted.now

abbrev pub IsLinkBy : RoundRules → Link → Type 0
IsLinkBy rules link = IsLinkAt rules.offers rules.libs.now rules.wanted.now link

abbrev pub IsReadBy : RoundRules → Link → List LoadedFile → Type 0
IsReadBy rules link files = IsReadAt rules.offers rules.libs.now rules.wanted.now link files

-- the rounds are done: no further one brings a file
pub record IsDoneBy (rules : RoundRules) (link : Link) : Type 0 where
  pub link_is : IsLinkBy rules link
  pub some : 0 < link.rounds
  pub loaded : loaded_by rules ≡ Ok (record { files = files_of rules.offers (loaded_ids rules.offers rules.libs.now rules.wanted.now) })
  pub kept : AreKept rules.offers (loaded_ids rules.offers rules.libs.now rules.wanted.now) link.kept.files

-- ---- a round

-- the marks of names before a round's names ask
abbrev pub marks_before : Round → Asking → List Bool
marks_before round asking = padded (length round.numbered.now.names) false asking.asked.items

-- what a round's names have asked for, after its files joined the race of the names
pub record HaveSomeAsked (rules : RoundRules) (round : Round) (before after : Asking) (ids : List FileId) : Type 0 where
  pub words : after.words.items ≡ run (padded (length round.numbered.now.names) no_word before.words.items) (bids_of round.numbered.now.names round.files.now.files)
  pub marks : length after.asked.items ≡ length round.numbered.now.names
  pub have : HaveAsked rules.offers rules.libs.now [] (is_settled round.numbered.now.names after.words.items (marks_before round before)) ids (is_settled round.numbered.now.names after.words.items after.asked.items) (flat_map undefined_in round.files.now.files ++ round.names.now)

abbrev pub HaveRoundAsked : RoundRules → Round → Option Asking → Option Asking → List FileId → Type 0
HaveRoundAsked rules round None after ids = (after ≡ None) × (ids ≡ [])
HaveRoundAsked rules round (Some before) None ids = ⊥
HaveRoundAsked rules round (Some before) (Some after) ids = HaveSomeAsked rules round before after ids
