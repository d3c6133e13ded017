-- A link of the code from its begin to its end.
use Rattle.std.proofs.Common.{◌≡◌, ℕ, zero, suc, ◌+◌, ◌<◌, ◌^◌, ◌&&◌, ◌||◌, ◌++◌, Bool, true, false, not, List, [], All, Option, Some, None, Ok, Err, length, filter, map, take, drop, get_or, refl, sym, ap, ap₂, ◌∙◌, subst, inl, inr, arith, add-one}
use Rattle.std.specs.List.{IsDistinct, flat_map}
use Rattle.std.specs.List.Sorted.{IsPermutation, IsStrictlySortedBy}
use Rattle.std.specs.Ordering.{on}
use Rattle.std.specs.Str.{bytes_eq}
use Rattle.std.proofs.lemmas.Bool.{lt-ltb}
use Rattle.std.proofs.lemmas.List.{get_or-map, length-map, map-append, take-append-drop}
use Rattle.std.proofs.lemmas.List.Sorted.{All-permutation, Contains-permutation, IsPermutation-refl, IsPermutation-sym}
use Rattle.list_lemmas.proofs.Members.{Contains_from_in, In, in_either, in_from_Contains, in_left, in_right}
use Rattle.list_lemmas.proofs.Rising.{rising_at}
use Rattle.mo_types.specs.Candidates.{no_word}
use Rattle.mo_types.specs.Keys.{compare_files}
use Rattle.mo_types.specs.Loaded.{IsWholeFile, IsWholeLoaded}
use Rattle.mo_types.specs.declared.key.FileId.{FileId}
use Rattle.mo_types.specs.declared.loaded.LoadedFile.{LoadedFile}
use Rattle.lib_bind.specs.declared.library.LibraryGraph.{LibraryGraph}
use Rattle.name_ids.specs.Names.{AreNames, external_names, numbered as numbered_names, numbers_in, numbers_of}
use Rattle.name_ids.specs.declared.numbered.NamedFiles.{NamedFiles}
use Rattle.name_ids.proofs.Any.{as_many, none_are_names}
use Rattle.race_core.specs.Run.{run}
use Rattle.symbol_winners.specs.Found.{AreNamed}
use Rattle.symbol_winners.specs.Winners.{AreLeast}
use Rattle.symbol_winners.proofs.NamedLemmas.{named_by, names_named}
use Rattle.name_offers.specs.Offers.{bids_of}
use Rattle.name_offers.proofs.LeastLemmas.{least_after}
use Rattle.member_rounds.specs.Growth.{after, is_in}
use Rattle.input_files.specs.Files.{IsLow, all_ids, file_of, is_first}
use Rattle.member_rounds.specs.Rounds.{asked_by, asks, has_candidate, loaded_ids, loaded_of, names_fault, new_ids, undefined_in}
use Rattle.input_files.specs.Sources.{AreInOrder, inputs_of}
use Rattle.input_files.specs.declared.fault.LoadFault.{LoadFault}
use Rattle.input_files.specs.declared.input.Input.{Input}
use Rattle.member_rounds.specs.declared.loading.Link.{Link}
use Rattle.member_rounds.specs.declared.loading.Round.{Round}
use Rattle.member_rounds.specs.declared.round_race.Asking.{Asking}
use Rattle.member_rounds.specs.declared.round_rules.RoundRules.{RoundRules}
use Rattle.input_files.specs.declared.sources.Source.{Source}
use Rattle.input_files.specs.inner.Holding.{AreReadable}
use Rattle.member_rounds.specs.inner.Asking.{is_settled}
use Rattle.member_rounds.specs.inner.Linking.{HasEnded, HaveRoundAsked, HaveSomeAsked, IsAsking, IsDoneBy, IsLinkAt, IsLinkBy, IsReadAt, IsReadBy, settled_of}
use Rattle.member_rounds.specs.inner.Naming.{IsBehind, names_before}
use Rattle.member_rounds.specs.inner.Racing.{padded}
use Rattle.member_rounds.specs.inner.Working.{AreKept, HaveAsked, IsBetween, first_names, read_each}
use Rattle.input_files.proofs.FileLemmas.{few_ids, ids_rise}
use Rattle.input_files.proofs.EachLemmas.{all_from, all_has}
use Rattle.member_rounds.proofs.AskLemmas.{asks_none}
use Rattle.member_rounds.proofs.KnownLemmas.{round_tells, words_stay}
use Rattle.member_rounds.proofs.LowLemmas.{low_at}
use Rattle.member_rounds.proofs.SettledLemmas.{none_settled}
use Rattle.member_rounds.proofs.StateLemmas.{each_ok, fresh_rises, more_names, union_rises}
use Rattle.member_rounds.proofs.StepLemmas.{ends_early, ends_late, in_order, names_fail, next_round, read_fails, sorted_rises}
use Rattle.member_rounds.proofs.WorkLemmas.{fresh_in, from_all}

-- ---- files that can be read

readable_new : (sources : List Source) (libs : LibraryGraph) (wanted : List (List ℕ)) (link : Link) → AreInOrder (inputs_of sources) → IsLinkAt (inputs_of sources) libs wanted link → AreReadable sources link.new.items
readable_new sources libs wanted link order so = record {
  order = order;
  few = all_from (λ (id : FileId). id.member < 2 ^ 20) link.new.items (λ id there.
      few_ids (inputs_of sources) id (from_all (all_ids (inputs_of sources)) (is_first (inputs_of sources)) (asks (inputs_of sources) libs wanted) link.rounds id
      (fresh_in (inputs_of sources) libs wanted link.rounds id (subst (λ (ids : List FileId). In id ids) so.between.new_are there))));
}

pub readable_over : (sources : List Source) (libs : LibraryGraph) (wanted : List (List ℕ)) (link : Link) (ids : List FileId) → AreInOrder (inputs_of sources) → IsLinkAt (inputs_of sources) libs wanted link → ids ≡ link.new.items → AreReadable sources ids
readable_over sources libs wanted link ids order so is = subst (λ (l : List FileId). AreReadable sources l) (sym is) (readable_new sources libs wanted link order so)

in_take : {X : Type 0} (n : ℕ) (xs : List X) (x : X) → In x (take n xs) → In x xs
in_take {X = X} n xs x there = subst (λ (ys : List X). In x ys) (take-append-drop n xs) (in_left (take n xs) (drop n xs) x there)

in_drop : {X : Type 0} (n : ℕ) (xs : List X) (x : X) → In x (drop n xs) → In x xs
in_drop {X = X} n xs x there = subst (λ (ys : List X). In x ys) (take-append-drop n xs) (in_right (take n xs) (drop n xs) x there)

pub readable_part : (sources : List Source) (ids some : List FileId) (n m : ℕ) → AreReadable sources ids → some ≡ take m (drop n ids) → AreReadable sources some
readable_part sources ids some n m so is = record {
  order = so.order;
  few = all_from (λ (id : FileId). id.member < 2 ^ 20) some (λ id there. all_has (λ (i : FileId). i.member < 2 ^ 20) ids id so.few (in_drop n ids id (in_take m (drop n ids) id (subst (λ (xs : List FileId). In id xs) is there))));
}

-- ---- the begin

first_round : (inputs : List Input) (libs : LibraryGraph) (wanted : List (List ℕ)) → after (all_ids inputs) (is_first inputs) (asks inputs libs wanted) 0 ≡ filter (is_first inputs) (all_ids inputs)
unfolding after
first_round inputs libs wanted = refl

no_numbers : (names : List (List ℕ)) → [] ≡ numbers_of names []
unfolding numbers_of
no_numbers names = refl

nothing_settled : (names : List (List ℕ)) (asking : Option Asking) (name : List ℕ) → names ≡ [] → settled_of names asking name ≡ false
nothing_settled names None name none = refl
nothing_settled names (Some asking) name none = ap (λ (ns : List (List ℕ)). is_settled ns asking.words.items asking.asked.items name) none

pub link_begins : (inputs : List Input) (libs : LibraryGraph) (wanted : List (List ℕ)) (all : List FileId) (link : Link) → all ≡ all_ids inputs → link.rounds ≡ 0 → link.kept.files ≡ [] → link.numbered.names ≡ [] → link.numbered.numbers ≡ [] → IsAsking inputs [] [] link.asking → link.new.items ≡ filter (is_first inputs) all → ((id : FileId) → is_in link.left id ≡ (is_in all id && not (is_in link.new.items id))) → IsLinkAt inputs libs wanted link
link_begins inputs libs wanted all link are none nothing nameless numberless known first left =
    let new : link.new.items ≡ after (all_ids inputs) (is_first inputs) (asks inputs libs wanted) 0 = first ∙ ap (filter (is_first inputs)) are ∙ sym (first_round inputs libs wanted) in
    record {
      between = subst (λ (k : ℕ). IsBetween inputs libs wanted k link.kept.files (settled_of link.numbered.names link.asking) link.left link.new.items) (sym none) (record {
        files = subst (λ (fs : List LoadedFile). AreKept inputs [] fs) (sym nothing) (record { ids = IsPermutation-refl []; read = λ k d low. absurd (omega (arith, low)) });
        settled_are = none_settled inputs libs link.kept.files (settled_of link.numbered.names link.asking) link.left nothing (λ name. nothing_settled link.numbered.names link.asking name nameless);
        left_are = λ id. left id ∙ ap (λ (ids : List FileId). is_in ids id && not (is_in link.new.items id)) are ∙ ap (λ (ids : List FileId). is_in (all_ids inputs) id && not (is_in ids id)) new;
        new_are = new;
        no_fault = λ j low. absurd (omega (arith, low));
      });
      whole = subst (λ (fs : List LoadedFile). All IsWholeFile fs) (sym nothing) (λ k d low. absurd (omega (arith, low)));
      low = subst (λ (fs : List LoadedFile). All (λ (f : LoadedFile). f.id.position < 2 ^ 16) fs) (sym nothing) (λ k d low. absurd (omega (arith, low)));
      names = subst (λ (k : ℕ). AreNames link.kept.files (names_before wanted k) link.numbered.names) (sym none) (subst (λ (fs : List LoadedFile). AreNames fs [] link.numbered.names) (sym nothing) (subst (λ (ns : List (List ℕ)). AreNames [] [] ns) (sym nameless) none_are_names));
      numbers = numberless ∙ no_numbers link.numbered.names ∙ ap (numbers_of link.numbered.names) (sym nothing);
      known = subst (λ (fs : List LoadedFile). IsAsking inputs fs link.numbered.names link.asking) (sym nothing) (subst (λ (ns : List (List ℕ)). IsAsking inputs [] ns link.asking) (sym nameless) known);
    }

-- ---- a round

-- the files of the first round
pub new_first : (inputs : List Input) (libs : LibraryGraph) (wanted : List (List ℕ)) (link : Link) → IsLinkAt inputs libs wanted link → link.rounds ≡ 0 → link.new.items ≡ filter (is_first inputs) (all_ids inputs)
unfolding after
new_first inputs libs wanted link so none = so.between.new_are ∙ ap (new_ids inputs libs wanted) none

pub read_at : (inputs : List Input) (libs : LibraryGraph) (wanted : List (List ℕ)) (link : Link) (files : List LoadedFile) → AreInOrder inputs → IsLinkAt inputs libs wanted link → link.rounds < length (all_ids inputs) + 1 → read_each inputs link.new.items ≡ Ok files → All IsWholeFile files → IsReadAt inputs libs wanted link files
read_at inputs libs wanted link files order so low read whole = record { order = order; link_is = so; rounds = low; read = read; whole = whole }

-- the inputs are also these
pub link_over : (inputs also : List Input) (libs : LibraryGraph) (wanted : List (List ℕ)) (link : Link) → also ≡ inputs → IsLinkAt also libs wanted link → IsLinkAt inputs libs wanted link
link_over inputs also libs wanted link same so = subst (λ (all : List Input). IsLinkAt all libs wanted link) same so

-- ---- what its names ask for

-- the files that were read rise, and so are those of a whole link
pub read_whole : (inputs : List Input) (libs : LibraryGraph) (wanted : List (List ℕ)) (link : Link) (files : List LoadedFile) → IsReadAt inputs libs wanted link files → IsWholeLoaded (record { files = files })
read_whole inputs libs wanted link files so = record {
  rises = λ i j d less within.
      let ids : map (λ (f : LoadedFile). f.id) files ≡ link.new.items = (each_ok inputs link.new.items files so.read).1 in
      let rise : IsStrictlySortedBy compare_files (map (λ (f : LoadedFile). f.id) files) = subst (λ (xs : List FileId). IsStrictlySortedBy compare_files xs) (sym (ids ∙ so.link_is.between.new_are)) (fresh_rises inputs libs wanted link.rounds (ids_rise inputs so.order)) in
      let long : length (map (λ (f : LoadedFile). f.id) files) ≡ length files = length-map files (λ (f : LoadedFile). f.id) in
      let one : get_or (map (λ (f : LoadedFile). f.id) files) i d.id ≡ (get_or files i d).id = get_or-map (λ (f : LoadedFile). f.id) files i d d.id (omega (arith, less, within)) in
      let two : get_or (map (λ (f : LoadedFile). f.id) files) j d.id ≡ (get_or files j d).id = get_or-map (λ (f : LoadedFile). f.id) files j d d.id within in
      ap₂ (λ (a b : FileId). compare_files a b) (sym one) (sym two) ∙ rising_at compare_files (map (λ (f : LoadedFile). f.id) files) i j d.id rise less (omega (arith, within, long));
  files = so.whole;
}

all_both : (P : LoadedFile → Type 0) (xs ys : List LoadedFile) → All P xs → All P ys → All P (xs ++ ys)
all_both P xs ys one two = all_from P (xs ++ ys) (λ file there. elim (in_either xs ys file there) [
  | inl l ↦ all_has P xs file one l
  | inr r ↦ all_has P ys file two r
])

-- what is known after a round, and what its names have asked for
pub record HasJoined (rules : RoundRules) (kept files : List LoadedFile) (names next : List (List ℕ)) (before after : Option Asking) (ids : List FileId) (asking : List (List ℕ)) : Type 0 where
  pub known : IsAsking rules.offers (kept ++ files) next after
  pub noted : List ℕ → Bool
  pub learnt : (name : List ℕ) (id : FileId) → asked_by rules.offers rules.libs.now name ≡ Some id → noted name ≡ (settled_of names before name || has_candidate files name)
  pub have : HaveAsked rules.offers rules.libs.now [] noted ids (settled_of next after) asking

module _ (rules : RoundRules) (round : Round) (kept files : List LoadedFile) (names more next asking : List (List ℕ))
    (whole : All IsWholeFile kept) (whole_all : All IsWholeFile (kept ++ files)) (low : All (λ file. file.id.position < 2 ^ 16) kept) (low_all : All (λ file. file.id.position < 2 ^ 16) (kept ++ files))
    (apart : IsDistinct bytes_eq (names ++ more)) (named : AreNamed names kept) (named_all : AreNamed (names ++ more) (kept ++ files))
    (next_is : next ≡ names ++ more) (names_are : round.numbered.now.names ≡ next) (files_are : round.files.now.files ≡ files) (asking_is : flat_map undefined_in round.files.now.files ++ round.names.now ≡ asking) where
  some_join : (before after : Asking) (ids : List FileId) → AreLeast kept names before.words.items → length before.asked.items ≡ length names → HaveSomeAsked rules round before after ids → HasJoined rules kept files names next (Some before) (Some after) ids asking
  some_join before after ids least same so = record {
    known = (subst (λ (ns : List (List ℕ)). AreLeast (kept ++ files) ns after.words.items) (sym next_is) leasts, so.marks ∙ ap length names_are);
    noted = is_settled (names ++ more) after.words.items (padded (length (names ++ more)) false before.asked.items);
    learnt = λ name id asks. round_tells kept files names more before.words.items after.words.items before.asked.items name whole whole_all low low_all named named_all least leasts same;
    have = subst (λ (ns : List (List ℕ)). HaveAsked rules.offers rules.libs.now [] (is_settled (names ++ more) after.words.items (padded (length (names ++ more)) false before.asked.items)) ids (is_settled next after.words.items after.asked.items) ns) asking_is
        (subst (λ (ns : List (List ℕ)). HaveAsked rules.offers rules.libs.now [] (is_settled (names ++ more) after.words.items (padded (length (names ++ more)) false before.asked.items)) ids (is_settled ns after.words.items after.asked.items) (flat_map undefined_in round.files.now.files ++ round.names.now)) (sym next_is)
        (subst (λ (ns : List (List ℕ)). HaveAsked rules.offers rules.libs.now [] (is_settled ns after.words.items (padded (length ns) false before.asked.items)) ids (is_settled ns after.words.items after.asked.items) (flat_map undefined_in round.files.now.files ++ round.names.now)) all_are so.have));
  }
    where
      all_are : round.numbered.now.names ≡ names ++ more
      all_are = names_are ∙ next_is

      leasts : AreLeast (kept ++ files) (names ++ more) after.words.items
      leasts = subst (λ (ws : List ℕ). AreLeast (kept ++ files) (names ++ more) ws) (sym (so.words ∙ ap₂ (λ (ns : List (List ℕ)) (fs : List LoadedFile). run (padded (length ns) no_word before.words.items) (bids_of ns fs)) all_are files_are)) (least_after kept files (names ++ more) (padded (length (names ++ more)) no_word before.words.items) apart (words_stay kept whole low names more before.words.items apart named least))

  pub joins : (before after : Option Asking) (ids : List FileId) → IsAsking rules.offers kept names before → HaveRoundAsked rules round before after ids → HasJoined rules kept files names next before after ids asking
  joins None after ids none so = record {
    known = subst (λ (a : Option Asking). IsAsking rules.offers (kept ++ files) next a) (sym so.0) none;
    noted = λ name. false;
    learnt = λ name id asks. absurd (never name id asks);
    have = subst (λ (a : Option Asking). HaveAsked rules.offers rules.libs.now [] (λ name. false) ids (settled_of next a) asking) (sym so.0) (record {
      stay = λ name has. has;
      only = λ name has. absurd (let s : false ≡ true = has in let t : true ≡ false = sym s in cc);
      kept = λ id has. absurd (let s : false ≡ true = has in let t : true ≡ false = sym s in cc);
      came = λ id has. absurd (let s : false ≡ true = subst (λ (xs : List FileId). is_in xs id ≡ true) so.1 has in let t : true ≡ false = sym s in cc);
      asks = λ name id there away is. absurd (never name id is);
    });
  }
    where
      never : (name : List ℕ) (id : FileId) → asked_by rules.offers rules.libs.now name ≡ Some id → ⊥
      never name id is = let s : None ≡ Some id = asks_none rules.offers rules.libs.now name (none name) ∙ is in cc
  joins (Some before) None ids known so = absurd so
  joins (Some before) (Some after) ids known so = some_join before after ids known.0 known.1 so

-- the candidates of the files of a round are named
pub named_new : (kept files : List LoadedFile) (wanted names : List (List ℕ)) → AreNames (kept ++ files) wanted names → AreNamed names files
named_new kept files wanted names so = named_by files wanted names (λ name there.
    (so.same name).0 (Contains_from_in (external_names (kept ++ files) ++ wanted) name
    (more_names files (kept ++ files) wanted (λ file among. in_right kept files file among) name (in_from_Contains (external_names files ++ wanted) name there))))

numbers_both : (names : List (List ℕ)) (xs ys : List LoadedFile) → numbers_of names (xs ++ ys) ≡ numbers_of names xs ++ numbers_of names ys
unfolding numbers_of
numbers_both names xs ys = map-append (numbers_in names) xs ys

pub link_goes_on : (rules : RoundRules) (round : Round) (link next : Link) (files : List LoadedFile) (ids : List FileId)
    → IsReadBy rules link files
    → All (λ file. file.id.position < 2 ^ 16) files
    → next.rounds ≡ link.rounds + 1
    → next.kept.files ≡ link.kept.files ++ files
    → ((kept : List LoadedFile) → AreNames kept (names_before rules.wanted.now link.rounds) link.numbered.names → AreNames (kept ++ files) rules.wanted.now next.numbered.names)
    → ((kept : List LoadedFile) → AreNames kept (names_before rules.wanted.now link.rounds) link.numbered.names → numbers_of next.numbered.names kept ≡ numbers_of link.numbered.names kept)
    → IsBehind link.numbered.names next.numbered.names
    → next.numbered.numbers ≡ link.numbered.numbers ++ numbers_of next.numbered.names files
    → round.numbered.now.names ≡ next.numbered.names
    → round.files.now.files ≡ files
    → round.names.now ≡ first_names rules.wanted.now link.rounds
    → HaveRoundAsked rules round link.asking next.asking ids
    → ((id : FileId) → is_in next.left id ≡ (is_in link.left id && not (is_in ids id)))
    → IsStrictlySortedBy compare_files next.new.items
    → ((id : FileId) → is_in next.new.items id ≡ (is_in link.left id && is_in ids id))
    → IsLinkBy rules next
link_goes_on rules round link next files ids so low more grown joined stay behind numbered names_are files_are asking_is asked left rises new = record {
  between = subst (λ (k : ℕ). IsBetween rules.offers rules.libs.now rules.wanted.now k next.kept.files (settled_of next.numbered.names next.asking) next.left next.new.items) (sym (more ∙ add-one link.rounds))
      (next_round rules.offers rules.libs.now rules.wanted.now link.rounds kept files next.kept.files (settled_of names link.asking) join.noted (settled_of next.numbered.names next.asking) link.left next.left link.new.items next.new.items ids (ids_rise rules.offers so.order) so.link_is.between so.read grown join.learnt fine join.have left rises new);
  whole = subst (λ (fs : List LoadedFile). All IsWholeFile fs) (sym grown) whole_all;
  low = subst (λ (fs : List LoadedFile). All (λ (f : LoadedFile). f.id.position < 2 ^ 16) fs) (sym grown) low_all;
  names = subst (λ (k : ℕ). AreNames next.kept.files (names_before rules.wanted.now k) next.numbered.names) (sym (more ∙ add-one link.rounds)) (subst (λ (fs : List LoadedFile). AreNames fs rules.wanted.now next.numbered.names) (sym grown) names_all);
  numbers =
      numbered
      ∙ ap (λ (ns : List (List ℕ)). ns ++ numbers_of next.numbered.names files) (so.link_is.numbers ∙ sym (stay kept so.link_is.names))
      ∙ sym (numbers_both next.numbered.names kept files)
      ∙ ap (numbers_of next.numbered.names) (sym grown);
  known = subst (λ (fs : List LoadedFile). IsAsking rules.offers fs next.numbered.names next.asking) (sym grown) join.known;
}
  where
    kept : List LoadedFile
    kept = link.kept.files

    names : List (List ℕ)
    names = link.numbered.names

    whole_all : All IsWholeFile (kept ++ files)
    whole_all = all_both IsWholeFile kept files so.link_is.whole so.whole

    low_all : All (λ file. file.id.position < 2 ^ 16) (kept ++ files)
    low_all = all_both (λ (f : LoadedFile). f.id.position < 2 ^ 16) kept files so.link_is.low low

    names_all : AreNames (kept ++ files) rules.wanted.now next.numbered.names
    names_all = joined kept so.link_is.names

    fine : names_fault next.kept.files rules.wanted.now ≡ None
    fine =
        let few : length (numbered_names (external_names (kept ++ files) ++ rules.wanted.now)) < 2 ^ 24 = (let many : length next.numbered.names ≡ length (numbered_names (external_names (kept ++ files) ++ rules.wanted.now)) = as_many (kept ++ files) rules.wanted.now next.numbered.names names_all in let low_names : length next.numbered.names < 2 ^ 24 = names_all.numbering.few in omega (arith, many, low_names)) in
        ap (λ (fs : List LoadedFile). names_fault fs rules.wanted.now) grown ∙ rw (lt-ltb _ _ few) refl

    join : HasJoined rules kept files names next.numbered.names link.asking next.asking ids (flat_map undefined_in files ++ first_names rules.wanted.now link.rounds)
    join =
        joins rules round kept files names behind.more next.numbered.names (flat_map undefined_in files ++ first_names rules.wanted.now link.rounds) so.link_is.whole whole_all so.link_is.low low_all
        (subst (λ (ns : List (List ℕ)). IsDistinct bytes_eq ns) behind.behind names_all.numbering.distinct)
        (names_named kept (names_before rules.wanted.now link.rounds) names so.link_is.names)
        (subst (λ (ns : List (List ℕ)). AreNamed ns (kept ++ files)) behind.behind (names_named (kept ++ files) rules.wanted.now next.numbered.names names_all))
        behind.behind names_are files_are
        (ap₂ (λ (fs : List LoadedFile) (ns : List (List ℕ)). flat_map undefined_in fs ++ ns) files_are asking_is)
        link.asking next.asking ids so.link_is.known asked

pub link_read_fails : (inputs : List Input) (libs : LibraryGraph) (wanted : List (List ℕ)) (link : Link) (fault : LoadFault) → IsLinkAt inputs libs wanted link → link.rounds < length (all_ids inputs) + 1 → read_each inputs link.new.items ≡ Err fault → loaded_of inputs libs wanted ≡ Err fault
link_read_fails inputs libs wanted link fault so low is = read_fails inputs libs wanted link.rounds link.kept.files (settled_of link.numbered.names link.asking) link.left link.new.items fault so.between is low

pub link_names_fail : (inputs : List Input) (libs : LibraryGraph) (wanted : List (List ℕ)) (link : Link) (files more : List LoadedFile) (fault : LoadFault) → IsLinkAt inputs libs wanted link → link.rounds < length (all_ids inputs) + 1 → read_each inputs link.new.items ≡ Ok files → more ≡ link.kept.files ++ files → names_fault more wanted ≡ Some fault → loaded_of inputs libs wanted ≡ Err fault
link_names_fail inputs libs wanted link files more fault so low is grown faulty = names_fail inputs libs wanted link.rounds link.kept.files files more (settled_of link.numbered.names link.asking) link.left link.new.items fault so.between is grown faulty low

-- ---- the end

-- the rounds are done
pub early_done : (rules : RoundRules) (link : Link) (k : ℕ) → IsLinkBy rules link → link.rounds ≡ k + 1 → link.new.items ≡ [] → IsDoneBy rules link
early_done rules link k so is none =
    let end = ends_early rules.offers rules.libs.now rules.wanted.now k link.kept.files (settled_of link.numbered.names link.asking) link.left link.new.items (ids_rise rules.offers rules.order) (subst (λ (j : ℕ). IsBetween rules.offers rules.libs.now rules.wanted.now j link.kept.files (settled_of link.numbered.names link.asking) link.left link.new.items) (is ∙ add-one k) so.between) none in
    record { link_is = so; some = omega (arith, is); loaded = end.0; kept = end.1 }

pub late_done : (rules : RoundRules) (link : Link) → IsLinkBy rules link → link.rounds ≡ length (all_ids rules.offers) + 1 → IsDoneBy rules link
late_done rules link so is =
    let end = ends_late rules.offers rules.libs.now rules.wanted.now link.kept.files (settled_of link.numbered.names link.asking) link.left link.new.items (subst (λ (j : ℕ). IsBetween rules.offers rules.libs.now rules.wanted.now j link.kept.files (settled_of link.numbered.names link.asking) link.left link.new.items) (is ∙ add-one (length (all_ids rules.offers))) so.between) in
    record { link_is = so; some = omega (arith, is); loaded = end.0; kept = end.1 }

module _ (rules : RoundRules) (link : Link) (named : NamedFiles) (done : IsDoneBy rules link) (ended : HasEnded link named) where
  moved : IsPermutation link.kept.files named.loaded.files
  unfolding numbers_of
  moved = ended.permutation (numbers_in link.numbered.names) done.link_is.numbers

  rise : IsStrictlySortedBy compare_files (loaded_ids rules.offers rules.libs.now rules.wanted.now)
  rise = union_rises rules.offers rules.libs.now rules.wanted.now (ids_rise rules.offers rules.order)

  pub done_exact : loaded_of rules.offers rules.libs.now rules.wanted.now ≡ Ok named.loaded
  done_exact = done.loaded ∙ ap (λ (fs : List LoadedFile). Ok (record { files = fs })) (sym (in_order rules.offers (loaded_ids rules.offers rules.libs.now rules.wanted.now) link.kept.files named.loaded.files done.kept rise moved ended.sorted))

  pub done_whole : IsWholeLoaded named.loaded
  done_whole = record {
    rises = λ i j d less within. rising_at (on (λ (f : LoadedFile). f.id) compare_files) named.loaded.files i j d (sorted_rises rules.offers (loaded_ids rules.offers rules.libs.now rules.wanted.now) link.kept.files named.loaded.files done.kept rise moved ended.sorted) less within;
    files = All-permutation IsWholeFile link.kept.files named.loaded.files moved done.link_is.whole;
  }

  pub done_low : All IsLow named.loaded.files
  done_low = All-permutation IsLow link.kept.files named.loaded.files moved (all_from IsLow link.kept.files (λ file there. low_at rules.offers file.id file (all_has (λ (f : LoadedFile). file_of rules.offers f.id ≡ Ok f) link.kept.files file done.kept.read there)))

  all_wanted : AreNames link.kept.files rules.wanted.now link.numbered.names
  all_wanted = by link.rounds refl
    where
      by : (k : ℕ) → link.rounds ≡ k → AreNames link.kept.files rules.wanted.now link.numbered.names
      by zero none = absurd (let some : 0 < link.rounds = done.some in omega (arith, some, none))
      by (suc k) is = subst (λ (j : ℕ). AreNames link.kept.files (names_before rules.wanted.now j) link.numbered.names) is done.link_is.names

  there : (name : List ℕ) → In name (external_names link.kept.files ++ rules.wanted.now) → In name (external_names named.loaded.files ++ rules.wanted.now)
  there name is = more_names link.kept.files named.loaded.files rules.wanted.now (λ file among. in_from_Contains named.loaded.files file (Contains-permutation link.kept.files named.loaded.files file moved (Contains_from_in link.kept.files file among))) name is

  from : (name : List ℕ) → In name (external_names named.loaded.files ++ rules.wanted.now) → In name (external_names link.kept.files ++ rules.wanted.now)
  from name is = more_names named.loaded.files link.kept.files rules.wanted.now (λ file among. in_from_Contains link.kept.files file (Contains-permutation named.loaded.files link.kept.files file (IsPermutation-sym link.kept.files named.loaded.files moved) (Contains_from_in named.loaded.files file among))) name is

  pub done_names : AreNames named.loaded.files rules.wanted.now named.numbered.names
  done_names = subst (λ (ns : List (List ℕ)). AreNames named.loaded.files rules.wanted.now ns) (sym ended.names) (record {
    numbering = all_wanted.numbering;
    same = λ name. (
      (λ c. (all_wanted.same name).0 (Contains_from_in (external_names link.kept.files ++ rules.wanted.now) name (from name (in_from_Contains (external_names named.loaded.files ++ rules.wanted.now) name c)))),
      (λ c. Contains_from_in (external_names named.loaded.files ++ rules.wanted.now) name (there name (in_from_Contains (external_names link.kept.files ++ rules.wanted.now) name ((all_wanted.same name).1 c)))),
    );
  })

  pub done_numbers : named.numbered.numbers ≡ numbers_of named.numbered.names named.loaded.files
  unfolding numbers_of
  done_numbers = ended.numbers (numbers_in link.numbered.names) done.link_is.numbers ∙ ap (λ (ns : List (List ℕ)). map (numbers_in ns) named.loaded.files) (sym ended.names)
