-- The names that needn't ask, and what the others ask for.
use Rattle.std.proofs.Common.{◌≡◌, ℕ, zero, suc, ◌+◌, ◌<◌, ◌≤◌, ◌==◌, ◌&&◌, ◌||◌, ◌⊎◌, ◌++◌, Bool, true, false, not, List, [], ◌∷◌, Option, Some, None, length, filter, position, set, take, get_or, refl, sym, ap, ◌∙◌, subst, inl, inr, append-nil}
use Rattle.std.specs.List.{flat_map}
use Rattle.std.specs.Str.{bytes_eq}
use Rattle.std.proofs.lemmas.List.{take_all, take_more}
use Rattle.std.proofs.lemmas.List.Concat.{flat_map-append}
use Rattle.std.proofs.lemmas.List.Folds.{list_any-append}
use Rattle.std.proofs.lemmas.List.Quantifiers.{position-Some}
use Rattle.std.proofs.lemmas.Slice.Eq.{bytes_eq-Decides}
use Rattle.list_lemmas.proofs.Members.{In, any_from_in, any_true, from_filter, in_filter, from_filter_map, in_filter_map}
use Rattle.mo_types.specs.Candidates.{candidates, is_undefined, no_word}
use Rattle.mo_types.specs.declared.key.FileId.{FileId}
use Rattle.mo_types.specs.declared.loaded.LoadedFile.{LoadedFile}
use Rattle.mo_types.specs.declared.object.Symbol.{Symbol}
use Rattle.lib_bind.specs.declared.library.LibraryGraph.{LibraryGraph}
use Rattle.name_offers.proofs.OfferLemmas.{number_there}
use Rattle.name_offers.proofs.PlainLemmas.{list_there}
use Rattle.member_rounds.specs.Growth.{is_in, same_file}
use Rattle.member_rounds.specs.Rounds.{asked_by, has_candidate, undefined_in}
use Rattle.input_files.specs.declared.input.Input.{Input}
use Rattle.member_rounds.specs.inner.Asking.{is_settled, marked, option_list, settled_at}
use Rattle.member_rounds.specs.inner.Working.{AreSettled, HaveAsked, asked_of, lists, undefined_name, undefined_of}
use Rattle.member_rounds.proofs.GrowthLemmas.{has_from_in, in_from_has}
use Rattle.member_rounds.proofs.WorkLemmas.{and_true, not_from, not_true, or_cases, same_tests}

-- ---- tests

or_left : (a b : Bool) → a ≡ true → (a || b) ≡ true
or_left true b e = refl
or_left false b e = absurd (let s : true ≡ false = sym e in cc)

or_right : (a b : Bool) → b ≡ true → (a || b) ≡ true
or_right true b e = refl
or_right false b e = e

or_false : (a : Bool) → (a || false) ≡ a
or_false true = refl
or_false false = refl

or_grouped : (a b c : Bool) → ((a || b) || c) ≡ (a || (b || c))
or_grouped true b c = refl
or_grouped false b c = refl

-- where neither is
neither_left : (a b : Bool) → (a || b) ≡ false → a ≡ false
neither_left true b e = e
neither_left false b e = refl

opposed : (b : Bool) → b ≡ true → b ≡ false → ⊥
opposed b is other = absurd (let s : true ≡ false = sym is ∙ other in cc)

-- ---- names

name_is : (a b : List ℕ) → bytes_eq a b ≡ true → a ≡ b
name_is a b is = (bytes_eq-Decides a b).0 is

in_names : (names : List (List ℕ)) (name : List ℕ) → lists names name ≡ true → In name names
in_names names name has =
    let found = any_true (bytes_eq name) names has in
    subst (λ (n : List ℕ). In n names) (sym (name_is name found.0 found.2)) found.1

has_name : (names : List (List ℕ)) (name : List ℕ) → In name names → lists names name ≡ true
has_name names name there = any_from_in (bytes_eq name) names name there ((bytes_eq-Decides name name).1 refl)

both_lists : (xs ys : List (List ℕ)) (name : List ℕ) → lists (xs ++ ys) name ≡ (lists xs name || lists ys name)
both_lists xs ys name = list_any-append (bytes_eq name) xs ys

abbrev pub alone : List ℕ → List (List ℕ)
alone name = name ∷ []

-- ---- what names ask for, one after another

module _ (inputs : List Input) (libs : LibraryGraph) where
  nothing_asked : (before : List FileId) (settled : List ℕ → Bool) → HaveAsked inputs libs before settled before settled []
  nothing_asked before settled = record {
    stay = λ name has. has;
    only = λ name has. or_left (settled name) false has;
    kept = λ id has. has;
    came = λ id has. inl has;
    asks = λ name id there missing is. absurd (let s : false ≡ true = there in let t : true ≡ false = sym s in cc);
  }

  one_after_other : (before mid asked : List FileId) (settled middle after : List ℕ → Bool) (xs ys : List (List ℕ)) → HaveAsked inputs libs before settled mid middle xs → HaveAsked inputs libs mid middle asked after ys → HaveAsked inputs libs before settled asked after (xs ++ ys)
  one_after_other before mid asked settled middle after xs ys one two = record {
    stay = λ name has. two.stay name (one.stay name has);
    only = λ name has. elim (or_cases (middle name) (lists ys name) (two.only name has)) [
      | inl first ↦ elim (or_cases (settled name) (lists xs name) (one.only name first)) [
        | inl old ↦ or_left (settled name) (lists (xs ++ ys) name) old
        | inr new ↦ or_right (settled name) (lists (xs ++ ys) name) (both_lists xs ys name ∙ or_left (lists xs name) (lists ys name) new)
      ]
      | inr second ↦ or_right (settled name) (lists (xs ++ ys) name) (both_lists xs ys name ∙ or_right (lists xs name) (lists ys name) second)
    ];
    kept = λ id has. two.kept id (one.kept id has);
    came = λ id has. elim (two.came id has) [
      | inl in_mid ↦ elim (one.came id in_mid) [
        | inl old ↦ inl old
        | inr r ↦ inr (r.0, both_lists xs ys r.0 ∙ or_left (lists xs r.0) (lists ys r.0) r.1, r.2, r.3)
      ]
      | inr r ↦ inr (r.0, both_lists xs ys r.0 ∙ or_right (lists xs r.0) (lists ys r.0) r.1, was_not (settled r.0) (middle r.0) (one.stay r.0) r.2, r.3)
    ];
    asks = λ name id there missing is. elim (or_cases (lists xs name) (lists ys name) (sym (both_lists xs ys name) ∙ there)) [
      | inl first ↦ two.kept id (one.asks name id first missing is)
      | inr second ↦ by name id second missing is (middle name) refl
    ];
  }
    where
      was_not : (a b : Bool) → (a ≡ true → b ≡ true) → b ≡ false → a ≡ false
      was_not true b stay missing = sym (stay refl) ∙ missing
      was_not false b stay missing = refl

      by : (name : List ℕ) (id : FileId) → lists ys name ≡ true → settled name ≡ false → asked_by inputs libs name ≡ Some id → (b : Bool) → middle name ≡ b → is_in asked id ≡ true
      by name id second missing is false e = two.asks name id second e is
      by name id second missing is true e =
          let either : (settled name || lists xs name) ≡ true = one.only name e in
          let first : lists xs name ≡ true = rw missing at either in
          two.kept id (one.asks name id first missing is)

  -- ---- one name

  alone_is : (name other : List ℕ) → lists (name ∷ []) other ≡ true → other ≡ name
  alone_is name other has = name_is other name (sym (or_false (bytes_eq other name)) ∙ has)

  pub already : (before : List FileId) (settled : List ℕ → Bool) (name : List ℕ) → settled name ≡ true → HaveAsked inputs libs before settled before settled (name ∷ [])
  already before settled name has = record {
    stay = λ other is. is;
    only = λ other is. or_left (settled other) (lists (name ∷ []) other) is;
    kept = λ id there. there;
    came = λ id there. inl there;
    asks = λ other id there missing is. absurd (opposed (settled other) (subst (λ (n : List ℕ). settled n ≡ true) (sym (alone_is name other there)) has) missing);
  }

  one_is : (id other : FileId) → is_in (id ∷ []) other ≡ true → id ≡ other
  one_is id other has = elim (in_from_has (id ∷ []) other has) [
    | inl e ↦ e
    | inr never ↦ absurd never
  ]

  asked_list : (file : Option FileId) (id : FileId) → is_in (option_list file) id ≡ true → file ≡ Some id
  asked_list None id has = absurd (let s : false ≡ true = has in let t : true ≡ false = sym s in cc)
  asked_list (Some file) id has = ap Some (one_is file id has)

  listed : (file : Option FileId) (id : FileId) → file ≡ Some id → is_in (option_list file) id ≡ true
  listed file id is = rw is (has_from_in (id ∷ []) id (inl refl))

  pub asked_now : (before asked : List FileId) (settled after : List ℕ → Bool) (name : List ℕ) → settled name ≡ false → ((other : List ℕ) → settled other ≡ true → after other ≡ true) → ((other : List ℕ) → after other ≡ true → (settled other ≡ true) ⊎ (other ≡ name)) → asked ≡ before ++ option_list (asked_by inputs libs name) → HaveAsked inputs libs before settled asked after (name ∷ [])
  asked_now before asked settled after name missing stay only are = record {
    stay = stay;
    only = λ other has. elim (only other has) [
      | inl old ↦ or_left (settled other) (lists (name ∷ []) other) old
      | inr same ↦ or_right (settled other) (lists (name ∷ []) other) (has_name (name ∷ []) other (inl (sym same)))
    ];
    kept = λ id has. of_both id ∙ or_left (is_in before id) (is_in (option_list (asked_by inputs libs name)) id) has;
    came = λ id has. elim (or_cases (is_in before id) (is_in (option_list (asked_by inputs libs name)) id) (sym (of_both id) ∙ has)) [
      | inl old ↦ inl old
      | inr new ↦ inr (name, has_name (name ∷ []) name (inl refl), missing, asked_list (asked_by inputs libs name) id new)
    ];
    asks = λ other id there other_missing is.
        of_both id ∙ or_right (is_in before id) (is_in (option_list (asked_by inputs libs name)) id) (listed (asked_by inputs libs name) id (ap (asked_by inputs libs) (sym (alone_is name other there)) ∙ is));
  }
    where
      of_both : (id : FileId) → is_in asked id ≡ (is_in before id || is_in (option_list (asked_by inputs libs name)) id)
      of_both id = ap (λ (ids : List FileId). is_in ids id) are ∙ list_any-append (same_file id) before (option_list (asked_by inputs libs name))

  -- ---- marks

  still_marked : (asked : List Bool) (i j : ℕ) → get_or asked j false ≡ true → get_or (set asked i true) j false ≡ true
  still_marked [] i j is = is
  still_marked (x ∷ asked) zero zero is = refl
  still_marked (x ∷ asked) zero (suc j) is = is
  still_marked (x ∷ asked) (suc i) zero is = is
  still_marked (x ∷ asked) (suc i) (suc j) is = still_marked asked i j is

  was_marked : (asked : List Bool) (i j : ℕ) → get_or (set asked i true) j false ≡ true → (get_or asked j false ≡ true) ⊎ (j ≡ i)
  was_marked [] i j is = inl is
  was_marked (x ∷ asked) zero zero is = inr refl
  was_marked (x ∷ asked) zero (suc j) is = inl is
  was_marked (x ∷ asked) (suc i) zero is = inl is
  was_marked (x ∷ asked) (suc i) (suc j) is = elim (was_marked asked i j is) [
    | inl old ↦ inl old
    | inr same ↦ inr (ap suc same)
  ]

  still_settled : (words : List ℕ) (asked : List Bool) (id at : Option ℕ) → settled_at words asked at ≡ true → settled_at words (marked asked id) at ≡ true
  still_settled words asked None at is = is
  still_settled words asked (Some i) None is = is
  still_settled words asked (Some i) (Some j) is = elim (or_cases (not (get_or words j no_word == no_word)) (get_or asked j false) is) [
    | inl word ↦ or_left (not (get_or words j no_word == no_word)) (get_or (set asked i true) j false) word
    | inr mark ↦ or_right (not (get_or words j no_word == no_word)) (get_or (set asked i true) j false) (still_marked asked i j mark)
  ]

  was_settled : (words : List ℕ) (asked : List Bool) (id at : Option ℕ) → settled_at words (marked asked id) at ≡ true → (settled_at words asked at ≡ true) ⊎ ((i : ℕ) × (at ≡ Some i) × (id ≡ Some i))
  was_settled words asked None at is = inl is
  was_settled words asked (Some i) None is = inl is
  was_settled words asked (Some i) (Some j) is = elim (or_cases (not (get_or words j no_word == no_word)) (get_or (set asked i true) j false) is) [
    | inl word ↦ inl (or_left (not (get_or words j no_word == no_word)) (get_or asked j false) word)
    | inr mark ↦ elim (was_marked asked i j mark) [
      | inl old ↦ inl (or_right (not (get_or words j no_word == no_word)) (get_or asked j false) old)
      | inr same ↦ inr (i, ap Some same, refl)
    ]
  ]

  -- two names at one place are one
  one_place : (names : List (List ℕ)) (a b : List ℕ) (i : ℕ) → position (bytes_eq a) names ≡ Some i → position (bytes_eq b) names ≡ Some i → a ≡ b
  one_place names a b i first second =
      let one : bytes_eq a (get_or names i []) ≡ true = (position-Some (bytes_eq a) names i [] first).1 in
      let two : bytes_eq b (get_or names i []) ≡ true = (position-Some (bytes_eq b) names i [] second).1 in
      name_is a (get_or names i []) one ∙ sym (name_is b (get_or names i []) two)

  pub name_asked : (names : List (List ℕ)) (words : List ℕ) (asked after : List Bool) (name : List ℕ) (id : Option ℕ) (before ids : List FileId) → id ≡ position (bytes_eq name) names → settled_at words asked id ≡ false → after ≡ marked asked id → ids ≡ before ++ option_list (asked_by inputs libs name) → HaveAsked inputs libs before (is_settled names words asked) ids (is_settled names words after) (name ∷ [])
  name_asked names words asked after name id before ids at missing marks are =
      asked_now before ids (is_settled names words asked) (is_settled names words after) name
      (ap (settled_at words asked) (sym at) ∙ missing)
      (λ other is. ap (λ (ms : List Bool). settled_at words ms (position (bytes_eq other) names)) marks ∙ still_settled words asked id (position (bytes_eq other) names) is)
      (λ other is. elim (was_settled words asked id (position (bytes_eq other) names) (ap (λ (ms : List Bool). settled_at words ms (position (bytes_eq other) names)) (sym marks) ∙ is)) [
        | inl old ↦ inl old
        | inr p ↦ inr (one_place names other name p.0 p.1 (sym at ∙ p.2))
      ])
      are

  pub name_settled : (names : List (List ℕ)) (words : List ℕ) (asked : List Bool) (name : List ℕ) (id : Option ℕ) (before : List FileId) → id ≡ position (bytes_eq name) names → settled_at words asked id ≡ true → HaveAsked inputs libs before (is_settled names words asked) before (is_settled names words asked) (name ∷ [])
  name_settled names words asked name id before at is = already before (is_settled names words asked) name (ap (settled_at words asked) (sym at) ∙ is)

  -- ---- one symbol

  pub defined_one : (before : List FileId) (settled : List ℕ → Bool) (symbol : Symbol) → is_undefined symbol.kind ≡ false → HaveAsked inputs libs before settled before settled (undefined_name symbol)
  defined_one before settled symbol is = rw is (nothing_asked before settled)

  pub undefined_one : (before asked : List FileId) (settled after : List ℕ → Bool) (symbol : Symbol) → is_undefined symbol.kind ≡ true → HaveAsked inputs libs before settled asked after (symbol.name ∷ []) → HaveAsked inputs libs before settled asked after (undefined_name symbol)
  undefined_one before asked settled after symbol is have = rw is have

  -- ---- loops

  -- what was asked for by the names of the elements before a place
  pub record AreAsking {X : Type 0} (before : List FileId) (settled : List ℕ → Bool) (asked : List FileId) (after : List ℕ → Bool) (f : X → List (List ℕ)) (xs : List X) (i : ℕ) : Type 0 where
    pub have : HaveAsked inputs libs before settled asked after (flat_map f (take i xs))

  pub asking_start : {X : Type 0} (before : List FileId) (settled : List ℕ → Bool) (f : X → List (List ℕ)) (xs : List X) → AreAsking before settled before settled f xs 0
  asking_start before settled f xs = record { have = nothing_asked before settled }

  pub asking_step : {X : Type 0} (before : List FileId) (settled : List ℕ → Bool) (asked : List FileId) (after : List ℕ → Bool) (next : List FileId) (later : List ℕ → Bool) (f : X → List (List ℕ)) (xs : List X) (i : ℕ) (x : X) → AreAsking before settled asked after f xs i → i < length xs → x ≡ get_or xs i x → HaveAsked inputs libs asked after next later (f x) → AreAsking before settled next later f xs (i + 1)
  asking_step {X = X} before settled asked after next later f xs i x so low is more = record {
    have = subst (λ (ns : List (List ℕ)). HaveAsked inputs libs before settled next later ns)
        (ap (λ (ns : List (List ℕ)). flat_map f (take i xs) ++ ns) (sym (append-nil (f x))) ∙ sym (flat_map-append f (take i xs) (x ∷ [])) ∙ ap (flat_map f) (sym (take_more xs i x low ∙ ap (λ (y : X). take i xs ++ y ∷ []) (sym is))))
        (one_after_other before asked next settled after later (flat_map f (take i xs)) (f x) so.have more);
  }

  asking_end : {X : Type 0} (before : List FileId) (settled : List ℕ → Bool) (asked : List FileId) (after : List ℕ → Bool) (f : X → List (List ℕ)) (xs : List X) (i : ℕ) → AreAsking before settled asked after f xs i → length xs ≤ i → HaveAsked inputs libs before settled asked after (flat_map f xs)
  asking_end {X = X} before settled asked after f xs i so past = subst (λ (ys : List X). HaveAsked inputs libs before settled asked after (flat_map f ys)) (take_all i xs past) so.have

  pub symbols_end : (before : List FileId) (settled : List ℕ → Bool) (asked : List FileId) (after : List ℕ → Bool) (symbols : List Symbol) (i : ℕ) → AreAsking before settled asked after undefined_name symbols i → length symbols ≤ i → HaveAsked inputs libs before settled asked after (undefined_of symbols)
  symbols_end before settled asked after symbols i so past = subst (λ (ns : List (List ℕ)). HaveAsked inputs libs before settled asked after ns) (sym (undefined_are symbols)) (asking_end before settled asked after undefined_name symbols i so past)
    where
      undefined_are : (ss : List Symbol) → undefined_of ss ≡ flat_map undefined_name ss
      undefined_are [] = refl
      undefined_are (s ∷ ss) = by (undefined_are ss) (is_undefined s.kind) refl
        where
          by : undefined_of ss ≡ flat_map undefined_name ss → (b : Bool) → is_undefined s.kind ≡ b → undefined_of (s ∷ ss) ≡ flat_map undefined_name (s ∷ ss)
          by rest true e = rw e (ap (λ (l : List (List ℕ)). s.name ∷ l) rest)
          by rest false e = rw e rest

  pub files_end : (before : List FileId) (settled : List ℕ → Bool) (asked : List FileId) (after : List ℕ → Bool) (files : List LoadedFile) (i : ℕ) → AreAsking before settled asked after undefined_in files i → length files ≤ i → HaveAsked inputs libs before settled asked after (flat_map undefined_in files)
  files_end before settled asked after files i so past = asking_end before settled asked after undefined_in files i so past

  pub names_end : (before : List FileId) (settled : List ℕ → Bool) (asked : List FileId) (after : List ℕ → Bool) (names : List (List ℕ)) (i : ℕ) → AreAsking before settled asked after alone names i → length names ≤ i → HaveAsked inputs libs before settled asked after names
  names_end before settled asked after names i so past = subst (λ (ns : List (List ℕ)). HaveAsked inputs libs before settled asked after ns) (alone_are names) (asking_end before settled asked after alone names i so past)
    where
      alone_are : (ns : List (List ℕ)) → flat_map alone ns ≡ ns
      alone_are [] = refl
      alone_are (n ∷ ns) = ap (λ (l : List (List ℕ)). n ∷ l) (alone_are ns)

  pub files_then_names : (none mid asked : List FileId) (settled middle after : List ℕ → Bool) (files : List LoadedFile) (names : List (List ℕ)) → none ≡ [] → HaveAsked inputs libs none settled mid middle (flat_map undefined_in files) → HaveAsked inputs libs mid middle asked after names → HaveAsked inputs libs [] settled asked after (flat_map undefined_in files ++ names)
  files_then_names none mid asked settled middle after files names nothing one two = subst (λ (ids : List FileId). HaveAsked inputs libs ids settled asked after (flat_map undefined_in files ++ names)) nothing (one_after_other none mid asked settled middle after (flat_map undefined_in files) names one two)

pub ruleset one_name = (name_asked, name_settled)

pub ruleset one_symbol = (defined_one, undefined_one)

pub ruleset symbols = (asking_start, asking_step, symbols_end, number_there)

pub ruleset files = (asking_start, asking_step, files_end, list_there)

pub ruleset names = (asking_start, asking_step, names_end)

pub ruleset both = (files_then_names)

-- ---- settled names

module _ (inputs : List Input) (libs : LibraryGraph) where
  pub none_settled : (kept : List LoadedFile) (settled : List ℕ → Bool) (left : List FileId) → kept ≡ [] → ((name : List ℕ) → settled name ≡ false) → AreSettled inputs libs kept settled left
  unfolding has_candidate candidates
  none_settled kept settled left none nothing = record {
    all = λ name id asks has. absurd (let s : false ≡ true = subst (λ (fs : List LoadedFile). has_candidate fs name ≡ true) none has in let t : true ≡ false = sym s in cc);
    only = λ name id has asks there. absurd (opposed (settled name) has (nothing name));
  }

  -- the candidates of new files settle their names
  pub noted_settled : (kept files more : List LoadedFile) (settled noted : List ℕ → Bool) (left : List FileId) → AreSettled inputs libs kept settled left → ((name : List ℕ) (id : FileId) → asked_by inputs libs name ≡ Some id → noted name ≡ (settled name || has_candidate files name)) → ((name : List ℕ) → has_candidate more name ≡ (has_candidate kept name || has_candidate files name)) → AreSettled inputs libs more noted left
  noted_settled kept files more settled noted left so learnt grown = record {
    all = λ name id asks has. learnt name id asks ∙ elim (or_cases (has_candidate kept name) (has_candidate files name) (sym (grown name) ∙ has)) [
      | inl old ↦ or_left (settled name) (has_candidate files name) (so.all name id asks old)
      | inr new ↦ or_right (settled name) (has_candidate files name) new
    ];
    only = λ name id has asks there. grown name ∙ elim (or_cases (settled name) (has_candidate files name) (sym (learnt name id asks) ∙ has)) [
      | inl old ↦ or_left (has_candidate kept name) (has_candidate files name) (so.only name id old asks there)
      | inr new ↦ or_right (has_candidate kept name) (has_candidate files name) new
    ];
  }

  -- names that have asked are settled where what they asked for isn't left
  pub after_settled : (kept : List LoadedFile) (noted after : List ℕ → Bool) (names : List (List ℕ)) (asked left rest : List FileId) → AreSettled inputs libs kept noted left → HaveAsked inputs libs [] noted asked after names → ((id : FileId) → is_in rest id ≡ (is_in left id && not (is_in asked id))) → AreSettled inputs libs kept after rest
  after_settled kept noted after names asked left rest so have rest_are = record {
    all = λ name id asks has. have.stay name (so.all name id asks has);
    only = λ name id has asks there.
        let parts = and_true (is_in left id) (not (is_in asked id)) (sym (rest_are id) ∙ there) in
        by name id asks parts.0 parts.1 (noted name) refl (have.only name has);
  }
    where
      by : (name : List ℕ) (id : FileId) → asked_by inputs libs name ≡ Some id → is_in left id ≡ true → not (is_in asked id) ≡ true → (b : Bool) → noted name ≡ b → (noted name || lists names name) ≡ true → has_candidate kept name ≡ true
      by name id asks there away true e has = so.only name id e asks there
      by name id asks there away false e has = absurd (not_true (is_in asked id) away (have.asks name id (rw e at has) e asks))

  -- among the files that are left the names that aren't settled ask for those for which all without a candidate ask
  pub asked_alike : (kept : List LoadedFile) (noted after : List ℕ → Bool) (names : List (List ℕ)) (asked left : List FileId) → HaveAsked inputs libs [] noted asked after names → AreSettled inputs libs kept noted left → (id : FileId) → is_in left id ≡ true → is_in asked id ≡ is_in (asked_of (has_candidate kept) inputs libs names) id
  unfolding asked_of
  asked_alike kept noted after names asked left have so id there =
      same_tests (is_in asked id) (is_in (asked_of (has_candidate kept) inputs libs names) id)
      (λ has. elim (have.came id has) [
        | inl never ↦ absurd (let s : false ≡ true = never in let t : true ≡ false = sym s in cc)
        | inr r ↦ has_from_in (asked_of (has_candidate kept) inputs libs names) id
            (in_filter_map (asked_by inputs libs) (filter (λ name. not (has_candidate kept name)) names) r.0 id
            (in_filter (λ name. not (has_candidate kept name)) names r.0 (in_names names r.0 r.1) (not_from (has_candidate kept r.0) (λ candidate. opposed (noted r.0) (so.all r.0 id r.3 candidate) r.2))) r.3)
      ])
      (λ has.
      let from = from_filter_map (asked_by inputs libs) (filter (λ name. not (has_candidate kept name)) names) id (in_from_has (asked_of (has_candidate kept) inputs libs names) id has) in
      let parts = from_filter (λ name. not (has_candidate kept name)) names from.0 from.1 in
      by from.0 (has_name names from.0 parts.0) parts.1 from.2 (noted from.0) refl)
    where
      by : (name : List ℕ) → lists names name ≡ true → not (has_candidate kept name) ≡ true → asked_by inputs libs name ≡ Some id → (b : Bool) → noted name ≡ b → is_in asked id ≡ true
      by name listed missing asks true e = absurd (not_true (has_candidate kept name) missing (so.only name id e asks there))
      by name listed missing asks false e = have.asks name id listed e asks
