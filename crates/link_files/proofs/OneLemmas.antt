-- Loaded files link to one thing.
use Rattle.std.proofs.Common.{◌≡◌, ℕ, ◌+◌, ◌++◌, Bool, true, false, inl, inr, get_or, List, [], ◌∷◌, Option, Some, None, Result, Ok, Err, refl, sym, ap, ap₂, subst, ◌∙◌, if◌then◌else◌}
use Rattle.std.specs.Prelude.{All}
use Rattle.std.specs.List.{filter_map, flat_map, list_any}
use Rattle.std.specs.List.Sorted.{IsStrictlySortedBy}
use Rattle.command_line.specs.declared.command.Command.{Command}
use Rattle.fixup_chain.specs.declared.chains.Fixup.{Fixup}
use Rattle.image_make.specs.Made.{IsMade, ImageInputs}
use Rattle.image_make.specs.declared.fault.MakeFault.{MakeFault}
use Rattle.image_make.specs.declared.fault.MakeFault.TheVariants as make
use Rattle.image_make.proofs.FieldLemmas.{HasRefs}
use Rattle.image_make.proofs.FrameLemmas.{read_text}
use Rattle.input_files.specs.Files.{HasUnwinds, IsLow, or_none}
use Rattle.lib_bind.specs.declared.library.LibraryGraph.{LibraryGraph}
use Rattle.link_steps.proofs.StepLemmas.{checks_agree, some_agree, unless_agree}
use Rattle.link_steps.specs.Steps.{Agree}
use Rattle.literal_merge.specs.declared.representative.Representative.{Representative}
use Rattle.liveness.specs.Edges.{edges_by, supports_by}
use Rattle.liveness.specs.Roots.{exported_root, exported_roots, kept_roots, marked_root, name_root, merged_root, plain_roots, roots, wanted_roots}
use Rattle.mark_core.proofs.LawLemmas.{kept_is_one}
use Rattle.mark_core.specs.Kept.{IsKept}
use Rattle.mo_format.specs.declared.loader.TheConstants.{MH_DYLDLINK, MH_TWOLEVEL}
use Rattle.mo_types.specs.Keys.{compare_keys}
use Rattle.mo_types.specs.Refs.{refs_of}
use Rattle.mo_types.specs.declared.answer.Refusal.{Refusal}
use Rattle.mo_types.specs.declared.answer.Refusal.TheVariants.{Duplicate}
use Rattle.mo_types.specs.declared.goal.Goal.{Goal}
use Rattle.mo_types.specs.declared.key.AtomKey.{AtomKey}
use Rattle.mo_types.specs.declared.key.FileId.{FileId}
use Rattle.mo_types.specs.declared.loaded.LoadedFile.{LoadedFile}
use Rattle.mo_types.specs.declared.reference.Ref.{Ref}
use Rattle.mo_types.specs.declared.reference_fault.RefFault.{RefFault}
use Rattle.ref_meet.specs.Binds.{binds}
use Rattle.resolve.specs.Goals.{goal_of_name, goal_table}
use Rattle.sect_place.specs.declared.size.PlaceFault.TheVariants as place
use Rattle.slot_needs.specs.Unmet.{unmet}
use Rattle.slot_plan.proofs.Ordered.{one_list}
use Rattle.slot_plan.specs.Slots.{in_got, in_stubs, in_tlv, needed}
use Rattle.slot_plan.specs.declared.list.Slots.{Slots}
use Rattle.slot_plan.specs.declared.need.Need.{Need}
use Rattle.symbol_winners.specs.Duplicates.{duplicate_of}
use Rattle.symbol_winners.proofs.OneListLemmas.{is_some, neither_greater, winners_are_one}
use Rattle.symbol_winners.specs.SymbolTable.{IsSymbolTable, SymbolTable}
use Rattle.symbol_winners.specs.declared.winner.Winner.{Winner}
use Rattle.unwind_link.specs.Kept.{kept_unwinds}
use Rattle.link_files.specs.Bound.{AreSlotsFor, IsImportsTold, IsUnmetTold, all_needs, start_of}
use Rattle.link_files.specs.Flags.{header_flags, is_weak_export, kind_flag, weak_flag}
use Rattle.link_files.specs.Linked.{AreCut, AreOrdered, AreReferred, AsImage, IsLinked, making, no_islands}
use Rattle.link_files.specs.Lost.{undefined_refusal}
use Rattle.link_files.specs.Names.{label_of}
use Rattle.link_files.specs.Refusals.{AreOnce, IsDuplicateTold, IsToldAs, IsTwice}
use Rattle.link_files.specs.Resolved.{AreKept}
use Rattle.link_files.specs.Unwinding.{ArePersonalitiesTold, IsEhFrameTold, handlers}
use Rattle.link_files.proofs.KeptLemmas.{making_low, making_rises}
use Rattle.link_files.proofs.MadeLemmas.{IsAnswer, IsSoundMade, made_one}
use Rattle.link_files.proofs.NameLemmas.{same_some}
use Rattle.link_files.proofs.UnmetLemmas.{unmet_same}
use Rattle.link_files.proofs.UnwindingLemmas.{eh_frame_same, personalities_same}

-- ---- names that two strong definitions have

twice_same : (files : List LoadedFile) (a b : Refusal) → IsTwice files a → IsTwice files b → a ≡ b
twice_same files a b p q =
    let name : p.name ≡ q.name = neither_greater p.name q.name (p.least q.name (is_some (duplicate_of files q.name) q.pair q.twice)) (q.least p.name (is_some (duplicate_of files p.name) p.pair p.twice)) in
    let pair : p.pair ≡ q.pair = same_some (sym p.twice ∙ ap (duplicate_of files) name ∙ q.twice) in
    p.told
    ∙ ap (λ (n : List ℕ). Duplicate n (label_of files p.pair.0) (label_of files p.pair.1)) name
    ∙ ap (λ (d : FileId × FileId). Duplicate q.name (label_of files d.0) (label_of files d.1)) pair
    ∙ sym q.told

not_twice : (files : List LoadedFile) (why : Refusal) → AreOnce files → IsTwice files why → ⊥
not_twice files why once twice = absurd (let e : None ≡ Some twice.pair = sym (once twice.name) ∙ twice.twice in cc)

duplicates_same : (files : List LoadedFile) (a b : Option Refusal) → IsDuplicateTold files a → IsDuplicateTold files b → a ≡ b
duplicates_same files None None p q = refl
duplicates_same files None (Some why) p q = absurd (not_twice files why p q)
duplicates_same files (Some why) None p q = absurd (not_twice files why q p)
duplicates_same files (Some a) (Some b) p q = ap Some (twice_same files a b p q)

-- ---- the atoms that are kept

-- what roots look at
looked_at : SymbolTable → SymbolTable
looked_at symbols = record { winners = symbols.winners; literals = symbols.literals; weak = []; flats = []; names = [] }

flat_same : {X Y : Type 0} (f g : X → List Y) → ((x : X) → f x ≡ g x) → (xs : List X) → flat_map f xs ≡ flat_map g xs
flat_same f g same [] = refl
flat_same {Y = Y} f g same (x ∷ xs) = ap₂ (λ (ys zs : List Y). ys ++ zs) (same x) (flat_same f g same xs)

wanted_looked : (command : Command) (symbols : SymbolTable) → wanted_roots command symbols ≡ wanted_roots command (looked_at symbols)
unfolding wanted_roots name_root looked_at
wanted_looked command symbols = refl

exported_looked : (command : Command) (symbols : SymbolTable) → exported_roots command symbols ≡ exported_roots command (looked_at symbols)
unfolding exported_roots exported_root looked_at
exported_looked command symbols = refl

kept_looked : (symbols : SymbolTable) (file : LoadedFile) → kept_roots symbols file ≡ kept_roots (looked_at symbols) file
unfolding kept_roots marked_root looked_at
kept_looked symbols file = refl

plain_looked : (symbols : SymbolTable) (file : LoadedFile) → plain_roots symbols file ≡ plain_roots (looked_at symbols) file
unfolding plain_roots looked_at
plain_looked symbols file = refl

merged_looked : (symbols : SymbolTable) → filter_map (merged_root symbols.literals) symbols.winners ≡ filter_map (merged_root (looked_at symbols).literals) (looked_at symbols).winners
unfolding looked_at
merged_looked symbols = refl

either_same : (b : Bool) (xs ys zs ws : List AtomKey) → xs ≡ ys → zs ≡ ws → (if b then xs else zs) ≡ (if b then ys else ws)
either_same true xs ys zs ws first second = first
either_same false xs ys zs ws first second = second

roots_looked : (command : Command) (symbols : SymbolTable) (files : List LoadedFile) → roots command symbols files ≡ roots command (looked_at symbols) files
unfolding roots
roots_looked command symbols files =
    either_same command.dead_strip _ _ _ _
    (ap₂ (λ (xs ys : List AtomKey). xs ++ ys)
    (ap₂ (λ (xs ys : List AtomKey). xs ++ ys) (wanted_looked command symbols) (exported_looked command symbols))
    (flat_same (kept_roots symbols) (kept_roots (looked_at symbols)) (kept_looked symbols) files))
    (ap₂ (λ (xs ys : List AtomKey). xs ++ ys) (flat_same (plain_roots symbols) (plain_roots (looked_at symbols)) (plain_looked symbols) files) (merged_looked symbols))

roots_same : (command : Command) (files : List LoadedFile) (a b : SymbolTable) → IsSymbolTable command files a → IsSymbolTable command files b → roots command a files ≡ roots command b files
unfolding looked_at
roots_same command files a b p q =
    roots_looked command a files
    ∙ ap (λ (winners : List Winner). roots command (record { winners = winners; literals = a.literals; weak = []; flats = []; names = [] }) files) (winners_are_one command files a.winners b.winners p.winners q.winners)
    ∙ ap (λ (literals : List Representative). roots command (record { winners = b.winners; literals = literals; weak = []; flats = []; names = [] }) files) (p.literals ∙ sym q.literals)
    ∙ sym (roots_looked command b files)

keys_same : (command : Command) (files : List LoadedFile) (goals : List (List Goal)) (symbols other : SymbolTable) (a b : List AtomKey) → IsSymbolTable command files symbols → IsSymbolTable command files other → AreKept command files symbols goals a → AreKept command files other goals b → a ≡ b
keys_same command files goals symbols other a b p q first second =
    kept_is_one (edges_by files goals) (supports_by files goals) (roots command other files) a b
    (subst (λ (rs : List AtomKey). IsKept (edges_by files goals) (supports_by files goals) rs a) (roots_same command files symbols other p q) first) second

flags_same : (command : Command) (libs : LibraryGraph) (files : List LoadedFile) (symbols other : SymbolTable) (a b : List AtomKey) → IsSymbolTable command files symbols → IsSymbolTable command files other → a ≡ b → header_flags command libs symbols a ≡ header_flags command libs other b
unfolding header_flags
flags_same command libs files symbols other a b p q same =
    ap₂ (λ (literals : List Representative) (winners : List Winner). flags literals winners a) (p.literals ∙ sym q.literals) (winners_are_one command files symbols.winners other.winners p.winners q.winners)
    ∙ ap (flags other.literals other.winners) same
  where
    flags : List Representative → List Winner → List AtomKey → ℕ
    flags literals winners keys = MH_DYLDLINK + MH_TWOLEVEL + weak_flag (list_any (is_weak_export literals keys) winners) + kind_flag command.dylib (list_any (λ library. library.reexport) libs.libraries)

-- ---- slots and imports

slots_same : (needs : List Need) (a b : Slots) → AreSlotsFor needs a → AreSlotsFor needs b → a ≡ b
slots_same needs a b p q =
    parts (one_list (needed in_got needs) a.got b.got p.got q.got) (one_list (needed in_stubs needs) a.stubs b.stubs p.stubs q.stubs) (one_list (needed in_tlv needs) a.tlv b.tlv p.tlv q.tlv)
  where
    parts : a.got ≡ b.got → a.stubs ≡ b.stubs → a.tlv ≡ b.tlv → a ≡ b
    parts e f g = rw (e, f, g) refl

imports_same : (fixups : List Fixup) (a b : Option Refusal) → IsImportsTold fixups a → IsImportsTold fixups b → a ≡ b
imports_same fixups None None p q = refl
imports_same fixups None (Some why) p q = absurd (p q.many)
imports_same fixups (Some why) None p q = absurd (q p.many)
imports_same fixups (Some a) (Some b) p q = ap Some (p.told ∙ sym q.told)

-- ---- the image

refs_in : (file : LoadedFile) → file.refs ≡ or_none (refs_of file.object file.id) → HasRefs file
refs_in file is = by (refs_of file.object file.id) refl
  where
    by : (r : Result (List Ref) RefFault) → refs_of file.object file.id ≡ r → HasRefs file
    by (Ok refs) e = inl (e ∙ ap Ok (sym (is ∙ ap or_none e)))
    by (Err fault) e = inr (is ∙ ap or_none e)

-- files as they are loaded: their ids rise, and each has the pieces, the references and the unwind entries of its object
record AreLoaded (files : List LoadedFile) : Type 0 where
  ordered : AreOrdered files
  cut : AreCut files
  referred : AreReferred files
  low : All IsLow files
  unwinds : All HasUnwinds files

sound_of : (command : Command) (libs : LibraryGraph) (files : List LoadedFile) (symbols : SymbolTable) (keys : List AtomKey) (slots : Slots) → AreLoaded files → IsSymbolTable command files symbols → IsStrictlySortedBy compare_keys keys → IsSoundMade (making command libs files symbols keys slots)
unfolding making
sound_of command libs files symbols keys slots are table rises = record {
  sound = record {
    rising = making_rises command libs files symbols keys slots are.ordered are.cut are.low rises;
    low = making_low command libs files symbols keys slots are.low table;
    refs = λ k d low. refs_in (get_or files k d) (are.referred k d low);
  };
  text = read_text (making command libs files symbols keys slots) (record { rises = are.ordered; cut = are.cut; few = λ k d low. (are.low k d low).sections; unwinds = are.unwinds }) refl;
}

answer_of : (command : Command) (files : List LoadedFile) (fault : MakeFault) (why : Refusal) → IsToldAs command files fault why → IsAnswer (Err fault)
answer_of command files (make.Place (place.ImageSize value)) why told = tt
answer_of command files (make.Place place.OutOfMemory) why told = absurd told
answer_of command files (make.Range atom fault) why told = tt
answer_of command files make.OutOfMemory why told = absurd told

told_same : (command : Command) (files : List LoadedFile) (fault : MakeFault) (a b : Refusal) → IsToldAs command files fault a → IsToldAs command files fault b → a ≡ b
told_same command files (make.Place (place.ImageSize value)) a b p q = p ∙ sym q
told_same command files (make.Place place.OutOfMemory) a b p q = absurd p
told_same command files (make.Range None fault) a b p q = p ∙ sym q
told_same command files (make.Range (Some key) fault) a b p q = p ∙ sym q
told_same command files make.OutOfMemory a b p q = absurd p

image_same : (m : ImageInputs) → IsSoundMade m → Agree (AsImage m) (AsImage m)
image_same m sound a b p q = by a b p q
  where
    no_fault : (image : List ℕ) (fault : MakeFault) (why : Refusal) → IsMade m (Ok image) → IsMade m (Err fault) → IsToldAs m.command m.files fault why → ⊥
    no_fault image fault why is other told =
        let same : ◌≡◌ {A = Result (List ℕ) MakeFault} (Ok image) (Err fault) = made_one m (Ok image) (Err fault) sound tt (answer_of m.command m.files fault why told) is other in
        cc

    one_fault_only : (f g : MakeFault) (v w : Refusal) → IsMade m (Err f) → IsMade m (Err g) → IsToldAs m.command m.files f v → IsToldAs m.command m.files g w → v ≡ w
    one_fault_only f g v w is other told tell =
        let both : ◌≡◌ {A = Result (List ℕ) MakeFault} (Err f) (Err g) = made_one m (Err f) (Err g) sound (answer_of m.command m.files f v told) (answer_of m.command m.files g w tell) is other in
        let same : g ≡ f = cc in
        told_same m.command m.files f v w told (subst (λ (x : MakeFault). IsToldAs m.command m.files x w) same tell)

    by : (a b : Result (List ℕ) Refusal) → AsImage m a → AsImage m b → a ≡ b
    by (Ok x) (Ok y) is other =
        let same : ◌≡◌ {A = Result (List ℕ) MakeFault} (Ok x) (Ok y) = made_one m (Ok x) (Ok y) sound tt tt is other in
        let images : x ≡ y = cc in
        ap Ok images
    by (Ok x) (Err w) is other = absurd (no_fault x other.0 w is other.1 other.2)
    by (Err v) (Ok y) is other = absurd (no_fault y is.0 v other is.1 is.2)
    by (Err v) (Err w) is other = ap Err (one_fault_only is.0 other.0 v w is.1 other.1 is.2 other.2)

-- what an image is made of, by its parts
abbrev parts : Command → LibraryGraph → List LoadedFile → List Representative → List Winner → List AtomKey → ℕ → Slots → ImageInputs
parts command libs files literals winners keys flags slots = record {
  command = command;
  libs = libs;
  files = files;
  goals = goal_table files libs command;
  literals = literals;
  winners = winners;
  keys = keys;
  flags = flags;
  entry = goal_of_name files libs command command.entry;
  slots = slots;
  islands = no_islands;
  unwinds = kept_unwinds keys files;
  info = [];
}

inputs_same : (command : Command) (libs : LibraryGraph) (files : List LoadedFile) (symbols other : SymbolTable) (keys others : List AtomKey) (slots more : Slots) → IsSymbolTable command files symbols → IsSymbolTable command files other → keys ≡ others → slots ≡ more
    → making command libs files symbols keys slots ≡ making command libs files other others more
unfolding making
inputs_same command libs files symbols other keys others slots more p q same served =
    ap₂ (λ (literals : List Representative) (winners : List Winner). parts command libs files literals winners keys (header_flags command libs symbols keys) slots) (p.literals ∙ sym q.literals) (winners_are_one command files symbols.winners other.winners p.winners q.winners)
    ∙ ap₂ (λ (ks : List AtomKey) (flags : ℕ). parts command libs files other.literals other.winners ks flags slots) same (flags_same command libs files symbols other keys others p q same)
    ∙ ap (parts command libs files other.literals other.winners others (header_flags command libs other others)) served

-- ---- all steps

one_link : (command : Command) (libs : LibraryGraph) (files : List LoadedFile) → AreLoaded files → Agree (IsLinked command libs files) (IsLinked command libs files)
one_link command libs files loaded =
    unless_agree _ _ _ _ refl (λ few_names.
    unless_agree _ _ _ _ refl (λ few.
    checks_agree _ _ _ _ (duplicates_same files) (λ once.
    some_agree _ _ _ _ (λ symbols other is also.
    let goals : List (List Goal) = goal_table files libs command in
    let entry : Goal = goal_of_name files libs command command.entry in
    some_agree _ _ _ _ (λ keys others kept again.
    let same : keys ≡ others = keys_same command files goals symbols other keys others is also kept again in
    let literal : symbols.literals ≡ other.literals = is.literals ∙ sym also.literals in
    let handled : handlers symbols.literals keys goals files ≡ handlers other.literals others goals files = ap₂ (λ (literals : List Representative) (ks : List AtomKey). handlers literals ks goals files) literal same in
    let needed_same : all_needs symbols.literals keys goals files (start_of command entry) ≡ all_needs other.literals others goals files (start_of command entry) =
    ap₂ (λ (literals : List Representative) (ks : List AtomKey). all_needs literals ks goals files (start_of command entry)) literal same in
    unless_agree _ _ _ _ (ap (undefined_refusal command libs files goals) same) (λ found.
    checks_agree _ _ _ _ (λ a b x y. eh_frame_same files (kept_unwinds others files) a b (subst (λ (ks : List AtomKey). IsEhFrameTold files (kept_unwinds ks files) a) same x) y) (λ no_dwarf.
    checks_agree _ _ _ _ (λ a b x y. personalities_same (handlers other.literals others goals files) a b (subst (λ (gs : List Goal). ArePersonalitiesTold gs a) handled x) y) (λ few_handlers.
    some_agree _ _ _ _ (λ slots more served serves.
    let slot : slots ≡ more = slots_same (all_needs other.literals others goals files (start_of command entry)) slots more (subst (λ (ns : List Need). AreSlotsFor ns slots) needed_same served) serves in
    let bound : binds files symbols.literals keys goals slots ≡ binds files other.literals others goals more =
    ap₂ (λ (literals : List Representative) (ks : List AtomKey). binds files literals ks goals slots) literal same ∙ ap (binds files other.literals others goals) slot in
    checks_agree _ _ _ _ (λ a b x y. imports_same (binds files other.literals others goals more) a b (subst (λ (fs : List Fixup). IsImportsTold fs a) bound x) y) (λ few_imports.
    checks_agree _ _ _ _ (λ a b x y. unmet_same others goals files a b loaded.ordered loaded.referred (subst (λ (ks : List AtomKey). IsUnmetTold files (unmet ks goals files) a) same x) y) (λ met a b x y.
    image_same (making command libs files other others more) (sound_of command libs files other others more loaded also again.rises) a b
    (subst (λ (m : ImageInputs). AsImage m a) (inputs_same command libs files symbols other keys others slots more is also same slot) x) y)))))))))))

pub link_one : (command : Command) (libs : LibraryGraph) (files : List LoadedFile) → AreOrdered files → AreCut files → AreReferred files → All IsLow files → All HasUnwinds files → Agree (IsLinked command libs files) (IsLinked command libs files)
link_one command libs files ordered cut referred low unwinds = one_link command libs files (record { ordered = ordered; cut = cut; referred = referred; low = low; unwinds = unwinds })
