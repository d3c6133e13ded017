-- What files link to links them.
use Rattle.std.proofs.Common.{◌≡◌, ◌≢◌, ℕ, ◌≤◌, false, List, Some, Ok, length, inl, inr, refl, sym, subst, ◌∙◌, arith}
use Rattle.std.specs.FinMap.{get}
use Rattle.std.proofs.lemmas.List.Elements.{All-weaker}
use Rattle.mo_types.specs.Atoms.{atoms_of}
use Rattle.mo_types.specs.Loaded.{IsWholeFile}
use Rattle.mo_types.specs.declared.atom.Atom.{Atom}
use Rattle.mo_types.specs.declared.key.AtomKey.{AtomKey}
use Rattle.mo_types.specs.declared.loaded.LoadedFile.{LoadedFile}
use Rattle.command_line.specs.declared.command.Command.{Command}
use Rattle.lib_bind.specs.declared.library.LibraryGraph.{LibraryGraph}
use Rattle.slot_plan.specs.declared.list.Slots.{Slots}
use Rattle.symbol_winners.specs.SymbolTable.{SymbolTable}
use Rattle.field_laws.specs.Pointers.{addresses_of}
use Rattle.field_laws.proofs.Found.{address_found}
use Rattle.file_cache.specs.Program.{File}
use Rattle.image_laws.proofs.Layouts.{all_places}
use Rattle.link_engine.specs.Bytes.{HaveBytes}
use Rattle.link_engine.specs.Verdict.{IsVerdict}
use Rattle.link_engine.specs.declared.plan.Plan.{Plan}
use Rattle.link_files.specs.Linked.{AreCut, AreOrdered, IsLinked, making}
use Rattle.link_files.specs.Lost.{is_lost}
use Rattle.link_files.specs.Names.{wanted}
use Rattle.loader_laws.specs.Images.{IsImageOf}
use Rattle.loader_laws.specs.LinkOf.{AreApart, IsAtomInMemory, IsInItsSegment, IsKeptAtom, IsLinkOf}
use Rattle.loader_laws.specs.Plans.{IsPlanOfLink}
use Rattle.loader_laws.specs.Tellings.{AreNamed, AreWhole, made_of}
use Rattle.loader_laws.proofs.Beginning.{wanted_found}
use Rattle.loader_laws.proofs.Fetched.{planned_named, planned_whole}
use Rattle.loader_laws.proofs.FilledIn.{all_filled}
use Rattle.loader_laws.proofs.Linked.{AreFew, image_linked}
use Rattle.loader_laws.proofs.PlannedLinks.{image_planned}
use Rattle.loader_laws.proofs.Programs.{entry_begins}
use Rattle.loader_laws.proofs.Referred.{kept_reference_tells}
use Rattle.loader_laws.proofs.Seated.{one_in_memory, one_spread}
use Rattle.loader_laws.proofs.Seats.{IsOfFiles, IsOne, kept_one, kept_size, one_of}
use Rattle.loader_laws.proofs.Segmented.{one_in_segment}
use Rattle.loader_laws.proofs.Spread.{IsSpread, stand_apart}
use Rattle.loader_laws.proofs.Unwound.{image_unwinds}

-- the pieces of whole files are those of their objects, which have few sections
are_cut : (files : List LoadedFile) → AreWhole files → AreCut files
are_cut files whole = All-weaker IsWholeFile (λ (file : LoadedFile). file.atoms ≡ atoms_of file.object file.id) (λ file is. is.atoms) files whole

are_few : (files : List LoadedFile) → AreWhole files → AreFew files
are_few files whole = All-weaker IsWholeFile (λ (file : LoadedFile). length file.object.sections ≤ 255) (λ file is. is.object.few_sections) files whole

-- ---- what their image is made of

pub of_files : (command : Command) (libs : LibraryGraph) (files : List LoadedFile) (image : List ℕ) → AreOrdered files → AreWhole files → (is : IsImageOf command libs files image) → IsOfFiles (made_of is)
unfolding making
of_files command libs files image ordered whole is = record { ordered = ordered; whole = whole; literals = is.inside.symbols_are.literals; winners = is.inside.symbols_are.winners }

kept_made : (command : Command) (libs : LibraryGraph) (files : List LoadedFile) (symbols : SymbolTable) (keys : List AtomKey) (slots : Slots) (file : LoadedFile) (atom : Atom) → IsKeptAtom command files keys file atom
    → IsKeptAtom (making command libs files symbols keys slots).command (making command libs files symbols keys slots).files (making command libs files symbols keys slots).keys file atom
unfolding making
kept_made command libs files symbols keys slots file atom kept = kept

files_made : (command : Command) (libs : LibraryGraph) (files : List LoadedFile) (symbols : SymbolTable) (keys : List AtomKey) (slots : Slots) → (making command libs files symbols keys slots).files ≡ files
unfolding making
files_made command libs files symbols keys slots = refl

-- ---- atoms

module _ (command : Command) (libs : LibraryGraph) (files : List LoadedFile) (image : List ℕ) (ordered : AreOrdered files) (whole : AreWhole files) (is : IsImageOf command libs files image) where
  of : IsOfFiles (made_of is)
  of = of_files command libs files image ordered whole is

  one : (file : LoadedFile) (atom : Atom) → IsKeptAtom command files is.keys file atom → IsOne (made_of is) file atom
  one file atom kept = kept_one (made_of is) file atom of (kept_made command libs files is.symbols is.keys is.slots file atom kept)

  in_memory : (file : LoadedFile) (atom : Atom) → IsKeptAtom command files is.keys file atom → IsAtomInMemory image (addresses_of is.imaged.layout.placed) file atom
  in_memory file atom kept = one_in_memory (made_of is) image is.imaged file atom of is.rising (one file atom kept)

  in_segment : (file : LoadedFile) (atom : Atom) → IsKeptAtom command files is.keys file atom → IsInItsSegment image files (addresses_of is.imaged.layout.placed) atom
  in_segment file atom kept =
      subst (λ (fs : List LoadedFile). IsInItsSegment image fs (addresses_of is.imaged.layout.placed) atom) (files_made command libs files is.symbols is.keys is.slots)
      (one_in_segment (made_of is) image is.imaged file atom is.rising (one file atom kept))

  spread : (file : LoadedFile) (atom : Atom) (address : ℕ) → (kept : IsOne (made_of is) file atom) → get (addresses_of is.imaged.layout.placed) atom.key ≡ Some address → IsSpread (made_of is) atom.key (one_of (made_of is) kept.at atom).atom address
  spread file atom address kept stands = one_spread (made_of is) is.imaged.layout file atom address is.rising is.imaged.is_image.laid kept (sym (address_found is.imaged.layout.placed atom.key) ∙ stands)

  stand_so : (file other : LoadedFile) (a b : Atom) → IsKeptAtom command files is.keys file a → IsKeptAtom command files is.keys other b → a.key ≢ b.key → AreApart (addresses_of is.imaged.layout.placed) a b
  stand_so file other a b first second differ x y here there =
      let kept = one file a first in
      let also = one other b second in
      let size = kept_size (made_of is) kept.at a in
      let also_size = kept_size (made_of is) also.at b in
      elim (stand_apart (made_of is) a.key b.key (one_of (made_of is) kept.at a).atom (one_of (made_of is) also.at b).atom x y (spread file a x kept here) (spread other b y also there) differ) [
        | inl before ↦ inl (omega (arith, before, size))
        | inr behind ↦ inr (omega (arith, behind, also_size))
      ]

-- ---- all of it

image_links : (command : Command) (libs : LibraryGraph) (files : List LoadedFile) (image : List ℕ) → AreOrdered files → AreWhole files → AreNamed command libs files → IsImageOf command libs files image → IsLinkOf command libs files image
image_links command libs files image ordered whole named is =
    record {
      keys = is.keys;
      addresses = addresses_of is.imaged.layout.placed;
      kept = record {
        once = is.inside.once;
        symbols = is.symbols;
        winners = is.inside.symbols_are;
        least = is.inside.kept;
        found = all_places (λ (name : List ℕ). is_lost command libs files name ≡ false) (wanted command) (λ name h. wanted_found command libs files is.symbols is.keys is.slots name is.inside h);
      };
      atoms = in_memory command libs files image ordered whole is;
      segments = in_segment command libs files image ordered whole is;
      apart = stand_so command libs files image ordered whole is;
      references = kept_reference_tells command libs files image is ordered whole named;
      entry = entry_begins command libs files image is ordered whole named;
      filled = all_filled command libs files image is ordered whole named;
      unwound = image_unwinds command libs files image is ordered whole named;
    }

pub files_link : (command : Command) (libs : LibraryGraph) (files : List LoadedFile) (image : List ℕ) → AreOrdered files → AreWhole files → AreNamed command libs files → IsLinked command libs files (Ok image) → IsLinkOf command libs files image
files_link command libs files image ordered whole named linked =
    image_links command libs files image ordered whole named (image_linked command libs files image ordered (are_cut files whole) (are_few files whole) linked)

pub plan_links : (words : List (List ℕ)) (look : List ℕ → File) (plan : Plan) → IsVerdict words look (Ok plan) → HaveBytes look → IsPlanOfLink words look plan
plan_links words look plan verdict have =
    let planned = image_planned words look plan verdict in
    record {
      planned = planned;
      link = image_links planned.command planned.libs planned.loaded.files planned.image planned.ordered (planned_whole words look plan planned have) (planned_named words look plan planned) planned.image_of;
    }
