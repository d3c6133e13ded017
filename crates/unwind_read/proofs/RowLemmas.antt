-- The relocations of entries' fields, as relocations come.
use Rattle.std.proofs.Common.{◌≡◌, ℕ, zero, suc, ◌+◌, ◌-◌, ◌*◌, ◌/◌, ◌%◌, ◌^◌, ◌<◌, ◌≤◌, ◌++◌, ◌∷◌, [], ◌&&◌, ◌||◌, ◌⊎◌, inl, inr, List, length, get_or, set, take, replicate, slice_get, Bool, true, false, not, eqb, ltb, Option, Some, None, is_none, is_some, refl, sym, ap, ◌∙◌, subst, arith}
use Rattle.std.specs.List.{filter_map, range_with_len}
use Rattle.std.specs.Option.{option_map_or, option_or}
use Rattle.std.proofs.lemmas.Bool.{and_from, and_left, and_parts, and_right, cases_Bool, cases_eq, eq-eqb, eqb-true, false≢true, lt-ltb, ltb-true, ne_eqb, not_from_false, not_from_true, or_from, or_left, or_right}
use Rattle.std.proofs.lemmas.List.{get_or-replicate, get_or-set_other, get_or-set_same, length-replicate, length-set, take_all, take_more}
use Rattle.std.proofs.lemmas.List.Folds.{find-append}
use Rattle.std.proofs.lemmas.Option.{slice_get_read}
use Rattle.mo_types.specs.declared.object.Object.{Object}
use Rattle.mo_types.specs.declared.object.RawReloc.{RawReloc}
use Rattle.mo_types.specs.declared.object.Section.{Section}
use Rattle.mo_types.specs.RelocationRules.{least}
use Rattle.mo_types.specs.Rows.{when}
use Rattle.reloc_read.specs.Faults.{lesser}
use Rattle.list_lemmas.proofs.Members.{find_some}
use Rattle.unwind_read.specs.declared.entry_rows.EntryRow.{EntryRow}
use Rattle.unwind_read.specs.declared.entry_rows.Named.{Named}
use Rattle.unwind_read.specs.declared.entry_rows.Named.TheVariants.{Nothing, BySection, BySymbol}
use Rattle.unwind_read.specs.declared.pointers.EntryRelocs.{EntryRelocs}
use Rattle.unwind_read.specs.EntryRows.{is_empty, is_nothing, pointer_of, pointer_with, relocs_in}
use Rattle.unwind_read.specs.Pointers.{AreRows, is_pointer, is_pointer_at, pointer_at, relocs_of, row_with}
use Rattle.unwind_read.specs.Rules.{entry_count, faults_of, is_field, is_in_entry, is_other, other_relocation, place_of}
use Rattle.unwind_read.proofs.LeastLemmas.{least_more}

-- one more relocation

more_at : (before : List RawReloc) (reloc : RawReloc) (a : ℕ) → pointer_at (before ++ reloc ∷ []) a ≡ option_or (pointer_at before a) (pointer_at (reloc ∷ []) a)
more_at before reloc a = find-append (is_pointer_at a) before (reloc ∷ [])

or_none : (o : Option RawReloc) → option_or o None ≡ o
or_none None = refl
or_none (Some x) = refl

-- another address than that of the relocation
elsewhere : (before : List RawReloc) (reloc : RawReloc) (a : ℕ) → is_pointer_at a reloc ≡ false → pointer_at (before ++ reloc ∷ []) a ≡ pointer_at before a
elsewhere before reloc a not_here = more_at before reloc a ∙ rw not_here (or_none (pointer_at before a))

-- its address, which has no pointer yet
first_here : (before : List RawReloc) (reloc : RawReloc) (a : ℕ) → is_pointer_at a reloc ≡ true → pointer_at before a ≡ None → pointer_at (before ++ reloc ∷ []) a ≡ Some reloc
first_here before reloc a here none = more_at before reloc a ∙ rw (none, here) refl

-- its address, which has one
later_here : (before : List RawReloc) (reloc : RawReloc) (a : ℕ) → is_some (pointer_at before a) ≡ true → pointer_at (before ++ reloc ∷ []) a ≡ pointer_at before a
later_here before reloc a some = more_at before reloc a ∙ kept (pointer_at before a) (pointer_at (reloc ∷ []) a) some
  where
    kept : (o rest : Option RawReloc) → is_some o ≡ true → option_or o rest ≡ o
    kept None rest some = absurd (false≢true some)
    kept (Some x) rest some = refl

not_at : (reloc : RawReloc) (a : ℕ) → (reloc.address ≡ a → ⊥) → is_pointer_at a reloc ≡ false
not_at reloc a differs = right (is_pointer reloc) (eqb reloc.address a) (ne_eqb reloc.address a differs)
  where
    right : (x y : Bool) → y ≡ false → (x && y) ≡ false
    right true y e = e
    right false y e = refl

pub record IsAt (reloc : RawReloc) (a : ℕ) : Type 0 where
  pub pointer : is_pointer reloc ≡ true
  pub address : reloc.address ≡ a
  pub low : reloc.address < 2 ^ 31

is_at : (reloc : RawReloc) (a : ℕ) → is_pointer_at a reloc ≡ true → IsAt reloc a
is_at reloc a e =
    let parts : (is_pointer reloc ≡ true) × (eqb reloc.address a ≡ true) = and_parts _ _ e in record {
      pointer = parts.0;
      address = eqb-true reloc.address a parts.1;
      low = ltb-true reloc.address (2 ^ 31) ((and_parts _ _ parts.0).1);
    }

-- a relocation that is other than the first pointer of a field changes nothing

field_0 : (i : ℕ) → is_field (32 * i) ≡ true
field_0 i = let e : 32 * i % 32 ≡ 0 = omega arith in rw e refl

field_16 : (i : ℕ) → is_field (32 * i + 16) ≡ true
field_16 i = let e : (32 * i + 16) % 32 ≡ 16 = omega arith in rw e refl

field_24 : (i : ℕ) → is_field (32 * i + 24) ≡ true
field_24 i = let e : (32 * i + 24) % 32 ≡ 24 = omega arith in rw e refl

in_entry : (section : Section) (reloc : RawReloc) (i : ℕ) → reloc.address < 2 ^ 31 → reloc.address / 32 ≡ i → i < entry_count section → is_in_entry section reloc ≡ true
in_entry section reloc i low is within =
    let inside : reloc.address / 32 < entry_count section = omega arith in
    and_from _ _ (lt-ltb reloc.address (2 ^ 31) low) (lt-ltb (reloc.address / 32) (entry_count section) inside)

not_other : (p e f : Bool) (some : Bool) → p ≡ true → e ≡ true → f ≡ true → (not (p && e && f) || some) ≡ true → some ≡ true
not_other p e f some is_p is_e is_f other = rw (is_p, is_e, is_f) at other

unchanged_at : (section : Section) (before : List RawReloc) (reloc : RawReloc) (i a : ℕ) → is_other section before reloc ≡ true → i < entry_count section → a / 32 ≡ i → is_field a ≡ true → pointer_at (before ++ reloc ∷ []) a ≡ pointer_at before a
unchanged_at section before reloc i a other within entry field =
    elim (cases_Bool (is_pointer_at a reloc)) [
      | inl here ↦
          let at : IsAt reloc a = is_at reloc a here in
          let address : reloc.address ≡ a = at.address in
          let index : reloc.address / 32 ≡ i = ap (λ n. n / 32) address ∙ entry in
          let some : is_some (pointer_at before reloc.address) ≡ true =
          not_other (is_pointer reloc) (is_in_entry section reloc) (is_field reloc.address) (is_some (pointer_at before reloc.address)) at.pointer (in_entry section reloc i at.low index within) (ap is_field address ∙ field) other in
          later_here before reloc a (ap (λ n. is_some (pointer_at before n)) (sym address) ∙ some)
      | inr not_here ↦ elsewhere before reloc a not_here
    ]

same_row : (relocs others : List RawReloc) (i : ℕ) → pointer_at relocs (32 * i) ≡ pointer_at others (32 * i) → pointer_at relocs (32 * i + 16) ≡ pointer_at others (32 * i + 16) → pointer_at relocs (32 * i + 24) ≡ pointer_at others (32 * i + 24) → relocs_of relocs i ≡ relocs_of others i
unfolding relocs_of
same_row relocs others i function personality lsda = rw (function, personality, lsda) refl

pub others_change_nothing : (section : Section) (before : List RawReloc) (reloc : RawReloc) (rows : List EntryRow) → AreRows before rows → length rows ≡ entry_count section → is_other section before reloc ≡ true → AreRows (before ++ reloc ∷ []) rows
others_change_nothing section before reloc rows are count other = record {
  each = λ i d within.
      let inside : i < entry_count section = omega (arith, count) in
      are.each i d within ∙ sym (same_row (before ++ reloc ∷ []) before i
      (unchanged_at section before reloc i (32 * i) other inside (omega arith) (field_0 i))
      (unchanged_at section before reloc i (32 * i + 16) other inside (omega arith) (field_16 i))
      (unchanged_at section before reloc i (32 * i + 24) other inside (omega arith) (field_24 i)));
}

-- the first pointer of a field is put into its row

entry_function : (relocs : List RawReloc) (i : ℕ) → (relocs_of relocs i).function ≡ pointer_at relocs (32 * i)
unfolding relocs_of
entry_function relocs i = refl

entry_personality : (relocs : List RawReloc) (i : ℕ) → (relocs_of relocs i).personality ≡ pointer_at relocs (32 * i + 16)
unfolding relocs_of
entry_personality relocs i = refl

entry_lsda : (relocs : List RawReloc) (i : ℕ) → (relocs_of relocs i).lsda ≡ pointer_at relocs (32 * i + 24)
unfolding relocs_of
entry_lsda relocs i = refl

none_is : (o : Option RawReloc) → is_none o ≡ true → o ≡ None
none_is None e = refl
none_is (Some x) e = absurd (false≢true e)

-- the row with the relocation in one of its fields
made_row : (before : List RawReloc) (reloc : RawReloc) (i : ℕ) (function personality lsda : Option RawReloc) → pointer_at (before ++ reloc ∷ []) (32 * i) ≡ function → pointer_at (before ++ reloc ∷ []) (32 * i + 16) ≡ personality → pointer_at (before ++ reloc ∷ []) (32 * i + 24) ≡ lsda → record { function = function; personality = personality; lsda = lsda } ≡ relocs_of (before ++ reloc ∷ []) i
unfolding relocs_of
made_row before reloc i function personality lsda f p l = rw (f, p, l) refl

-- what `row_with` says of the row of an entry: at which field the relocation is the first pointer, and the new row
pub record IsPut (before : List RawReloc) (reloc : RawReloc) (i : ℕ) (row : EntryRelocs) : Type 0 where
  pub field : is_field reloc.address ≡ true
  pub first : is_some (pointer_at before reloc.address) ≡ false
  pub made : row ≡ relocs_of (before ++ reloc ∷ []) i

none_some : (o : Option RawReloc) → o ≡ None → is_some o ≡ false
none_some o e = ap is_some e

at_address : (reloc : RawReloc) (a : ℕ) → is_pointer reloc ≡ true → reloc.address ≡ a → is_pointer_at a reloc ≡ true
at_address reloc a pointer is = and_from _ _ pointer (eq-eqb reloc.address a is)

put_function : (before : List RawReloc) (reloc : RawReloc) (i : ℕ) → is_pointer reloc ≡ true → reloc.address ≡ 32 * i → is_none (relocs_of before i).function ≡ true → IsPut before reloc i (record (relocs_of before i) { function = Some reloc })
put_function before reloc i pointer is none =
    let empty : pointer_at before (32 * i) ≡ None = sym (entry_function before i) ∙ none_is _ none in record {
      field = ap is_field is ∙ field_0 i;
      first = none_some _ (ap (pointer_at before) is ∙ empty);
      made = made_row before reloc i (Some reloc) (relocs_of before i).personality (relocs_of before i).lsda
          (first_here before reloc (32 * i) (at_address reloc (32 * i) pointer is) empty)
          (elsewhere before reloc (32 * i + 16) (not_at reloc (32 * i + 16) (λ e. omega arith)) ∙ sym (entry_personality before i))
          (elsewhere before reloc (32 * i + 24) (not_at reloc (32 * i + 24) (λ e. omega arith)) ∙ sym (entry_lsda before i));
    }

put_personality : (before : List RawReloc) (reloc : RawReloc) (i : ℕ) → is_pointer reloc ≡ true → reloc.address ≡ 32 * i + 16 → is_none (relocs_of before i).personality ≡ true → IsPut before reloc i (record (relocs_of before i) { personality = Some reloc })
put_personality before reloc i pointer is none =
    let empty : pointer_at before (32 * i + 16) ≡ None = sym (entry_personality before i) ∙ none_is _ none in record {
      field = ap is_field is ∙ field_16 i;
      first = none_some _ (ap (pointer_at before) is ∙ empty);
      made = made_row before reloc i (relocs_of before i).function (Some reloc) (relocs_of before i).lsda
          (elsewhere before reloc (32 * i) (not_at reloc (32 * i) (λ e. omega arith)) ∙ sym (entry_function before i))
          (first_here before reloc (32 * i + 16) (at_address reloc (32 * i + 16) pointer is) empty)
          (elsewhere before reloc (32 * i + 24) (not_at reloc (32 * i + 24) (λ e. omega arith)) ∙ sym (entry_lsda before i));
    }

put_lsda : (before : List RawReloc) (reloc : RawReloc) (i : ℕ) → is_pointer reloc ≡ true → reloc.address ≡ 32 * i + 24 → is_none (relocs_of before i).lsda ≡ true → IsPut before reloc i (record (relocs_of before i) { lsda = Some reloc })
put_lsda before reloc i pointer is none =
    let empty : pointer_at before (32 * i + 24) ≡ None = sym (entry_lsda before i) ∙ none_is _ none in record {
      field = ap is_field is ∙ field_24 i;
      first = none_some _ (ap (pointer_at before) is ∙ empty);
      made = made_row before reloc i (relocs_of before i).function (relocs_of before i).personality (Some reloc)
          (elsewhere before reloc (32 * i) (not_at reloc (32 * i) (λ e. omega arith)) ∙ sym (entry_function before i))
          (elsewhere before reloc (32 * i + 16) (not_at reloc (32 * i + 16) (λ e. omega arith)) ∙ sym (entry_personality before i))
          (first_here before reloc (32 * i + 24) (at_address reloc (32 * i + 24) pointer is) empty);
    }

one_row : (x y : EntryRelocs) → Some x ≡ Some y → x ≡ y
one_row x y e = cc

chosen : (test : Bool) (x y : EntryRelocs) → when test x ≡ Some y → (test ≡ true) × (x ≡ y)
chosen true x y e = (refl, one_row x y e)
chosen false x y e = cc

moved_row : (before : List RawReloc) (reloc : RawReloc) (i : ℕ) (x y : EntryRelocs) → x ≡ y → IsPut before reloc i x → IsPut before reloc i y
moved_row before reloc i x y e put = subst (λ (row : EntryRelocs). IsPut before reloc i row) e put

pub put_is : (before : List RawReloc) (reloc : RawReloc) (i : ℕ) (row : EntryRelocs) → is_pointer reloc ≡ true → reloc.address / 32 ≡ i → row_with (relocs_of before i) reloc ≡ Some row → IsPut before reloc i row
put_is before reloc i row pointer entry e =
    elim (cases_eq (reloc.address % 32) 0) [
      | inl is_0 ↦
          let some : when (is_none (relocs_of before i).function) (record (relocs_of before i) { function = Some reloc }) ≡ Some row = rw (eq-eqb (reloc.address % 32) 0 is_0) at e in
          let parts = chosen _ _ _ some in
          moved_row before reloc i _ _ parts.1 (put_function before reloc i pointer (omega arith) parts.0)
      | inr not_0 ↦ elim (cases_eq (reloc.address % 32) 16) [
        | inl is_16 ↦
            let some : when (is_none (relocs_of before i).personality) (record (relocs_of before i) { personality = Some reloc }) ≡ Some row = rw (ne_eqb (reloc.address % 32) 0 not_0, eq-eqb (reloc.address % 32) 16 is_16) at e in
            let parts = chosen _ _ _ some in
            moved_row before reloc i _ _ parts.1 (put_personality before reloc i pointer (omega arith) parts.0)
        | inr not_16 ↦ elim (cases_eq (reloc.address % 32) 24) [
          | inl is_24 ↦
              let some : when (is_none (relocs_of before i).lsda) (record (relocs_of before i) { lsda = Some reloc }) ≡ Some row = rw (ne_eqb (reloc.address % 32) 0 not_0, ne_eqb (reloc.address % 32) 16 not_16, eq-eqb (reloc.address % 32) 24 is_24) at e in
              let parts = chosen _ _ _ some in
              moved_row before reloc i _ _ parts.1 (put_lsda before reloc i pointer (omega arith) parts.0)
          | inr not_24 ↦
              let none : None ≡ Some row = rw (ne_eqb (reloc.address % 32) 0 not_0, ne_eqb (reloc.address % 32) 16 not_16, ne_eqb (reloc.address % 32) 24 not_24) at e in
              cc
        ]
      ]
    ]

-- what is told of a relocation

unplaced_other : (section : Section) (before : List RawReloc) (reloc : RawReloc) → (is_pointer reloc && is_in_entry section reloc) ≡ false → is_other section before reloc ≡ true
unplaced_other section before reloc e = or_left _ _ (not_from_false _ (and_left _ _ e))

unput_cases : (before : List RawReloc) (reloc : RawReloc) (i : ℕ) → reloc.address / 32 ≡ i → row_with (relocs_of before i) reloc ≡ None → (is_field reloc.address ≡ false) ⊎ (is_some (pointer_at before reloc.address) ≡ true)
unput_cases before reloc i entry e =
    elim (cases_eq (reloc.address % 32) 0) [
      | inl is_0 ↦
          let none : when (is_none (relocs_of before i).function) (record (relocs_of before i) { function = Some reloc }) ≡ None = rw (eq-eqb (reloc.address % 32) 0 is_0) at e in
          inr (taken before reloc (32 * i) (relocs_of before i).function (entry_function before i) (omega arith) (unchosen _ _ none))
      | inr not_0 ↦ elim (cases_eq (reloc.address % 32) 16) [
        | inl is_16 ↦
            let none : when (is_none (relocs_of before i).personality) (record (relocs_of before i) { personality = Some reloc }) ≡ None = rw (ne_eqb (reloc.address % 32) 0 not_0, eq-eqb (reloc.address % 32) 16 is_16) at e in
            inr (taken before reloc (32 * i + 16) (relocs_of before i).personality (entry_personality before i) (omega arith) (unchosen _ _ none))
        | inr not_16 ↦ elim (cases_eq (reloc.address % 32) 24) [
          | inl is_24 ↦
              let none : when (is_none (relocs_of before i).lsda) (record (relocs_of before i) { lsda = Some reloc }) ≡ None = rw (ne_eqb (reloc.address % 32) 0 not_0, ne_eqb (reloc.address % 32) 16 not_16, eq-eqb (reloc.address % 32) 24 is_24) at e in
              inr (taken before reloc (32 * i + 24) (relocs_of before i).lsda (entry_lsda before i) (omega arith) (unchosen _ _ none))
          | inr not_24 ↦ inl (or_from _ _ (or_from _ _ (ne_eqb (reloc.address % 32) 0 not_0) (ne_eqb (reloc.address % 32) 16 not_16)) (ne_eqb (reloc.address % 32) 24 not_24))
        ]
      ]
    ]
  where
    unchosen : (test : Bool) (x : EntryRelocs) → when test x ≡ None → test ≡ false
    unchosen true x e = cc
    unchosen false x e = refl

    some_is : (o : Option RawReloc) → is_none o ≡ false → is_some o ≡ true
    some_is None e = absurd (false≢true (sym e))
    some_is (Some x) e = refl

    taken : (before : List RawReloc) (reloc : RawReloc) (a : ℕ) (slot : Option RawReloc) → slot ≡ pointer_at before a → reloc.address ≡ a → is_none slot ≡ false → is_some (pointer_at before reloc.address) ≡ true
    taken before reloc a slot is address some = ap (λ n. is_some (pointer_at before n)) address ∙ ap is_some (sym is) ∙ some_is slot some

unput_other : (section : Section) (before : List RawReloc) (reloc : RawReloc) (i : ℕ) → reloc.address / 32 ≡ i → row_with (relocs_of before i) reloc ≡ None → is_other section before reloc ≡ true
unput_other section before reloc i entry e =
    elim (unput_cases before reloc i entry e) [
      | inl no_field ↦ or_left _ _ (not_from_false _ (and_right _ _ no_field))
      | inr taken ↦ or_right _ _ taken
    ]

put_own : (section : Section) (before : List RawReloc) (reloc : RawReloc) (i : ℕ) (row : EntryRelocs) → (is_pointer reloc && is_in_entry section reloc) ≡ true → IsPut before reloc i row → is_other section before reloc ≡ false
put_own section before reloc i row placed put = or_from _ _ (not_from_true _ (and_from _ _ placed put.field)) put.first

pub row_is : (before : List RawReloc) (rows : List EntryRow) (i : ℕ) (row : EntryRow) → AreRows before rows → i < length rows → row ≡ get_or rows i row → relocs_in i row ≡ relocs_of before i
row_is before rows i row are within is = ap (relocs_in i) is ∙ are.each i row within

pub own_unplaced : (section : Section) (before : List RawReloc) (reloc : RawReloc) → (is_pointer reloc && is_in_entry section reloc) ≡ false → false ≡ not (is_other section before reloc)
own_unplaced section before reloc e = sym (not_from_true _ (unplaced_other section before reloc e))

pub rows_unplaced : (section : Section) (before : List RawReloc) (reloc : RawReloc) (rows : List EntryRow) → (is_pointer reloc && is_in_entry section reloc) ≡ false → length rows ≡ entry_count section → AreRows before rows → AreRows (before ++ reloc ∷ []) rows
rows_unplaced section before reloc rows e count are = others_change_nothing section before reloc rows are count (unplaced_other section before reloc e)

pub placed_within : (section : Section) (reloc : RawReloc) (rows : List EntryRow) → (is_pointer reloc && is_in_entry section reloc) ≡ true → length rows ≡ entry_count section → reloc.address / 32 < length rows
placed_within section reloc rows e count =
    let inside : reloc.address / 32 < entry_count section = ltb-true (reloc.address / 32) (entry_count section) ((and_parts (ltb reloc.address (2 ^ 31)) (ltb (reloc.address / 32) (entry_count section)) ((and_parts (is_pointer reloc) (is_in_entry section reloc) e).1)).1) in
    omega (arith, count)

pub own_unput : (section : Section) (before : List RawReloc) (reloc : RawReloc) (rows : List EntryRow) (row : EntryRow) → AreRows before rows → reloc.address / 32 < length rows → row ≡ get_or rows (reloc.address / 32) row → row_with (relocs_in (reloc.address / 32) row) reloc ≡ None → false ≡ not (is_other section before reloc)
own_unput section before reloc rows row are within is none =
    sym (not_from_true _ (unput_other section before reloc (reloc.address / 32) refl
    (ap (λ r. row_with r reloc) (sym (row_is before rows (reloc.address / 32) row are within is)) ∙ none)))

pub rows_unput : (section : Section) (before : List RawReloc) (reloc : RawReloc) (rows : List EntryRow) (row : EntryRow) → AreRows before rows → length rows ≡ entry_count section → reloc.address / 32 < length rows → row ≡ get_or rows (reloc.address / 32) row → row_with (relocs_in (reloc.address / 32) row) reloc ≡ None → AreRows (before ++ reloc ∷ []) rows
rows_unput section before reloc rows row are count within is none =
    others_change_nothing section before reloc rows are count (unput_other section before reloc (reloc.address / 32) refl
    (ap (λ r. row_with r reloc) (sym (row_is before rows (reloc.address / 32) row are within is)) ∙ none))

put_into : (section : Section) (before : List RawReloc) (reloc : RawReloc) (rows : List EntryRow) (row more : EntryRow) → (is_pointer reloc && is_in_entry section reloc) ≡ true → AreRows before rows → reloc.address / 32 < length rows → row ≡ get_or rows (reloc.address / 32) row → row_with (relocs_in (reloc.address / 32) row) reloc ≡ Some (relocs_in (reloc.address / 32) more) → IsPut before reloc (reloc.address / 32) (relocs_in (reloc.address / 32) more)
put_into section before reloc rows row more placed are within is some =
    put_is before reloc (reloc.address / 32) (relocs_in (reloc.address / 32) more) ((and_parts _ _ placed).0) refl
    (ap (λ r. row_with r reloc) (sym (row_is before rows (reloc.address / 32) row are within is)) ∙ some)

pub own_put : (section : Section) (before : List RawReloc) (reloc : RawReloc) (rows : List EntryRow) (row more : EntryRow) → (is_pointer reloc && is_in_entry section reloc) ≡ true → AreRows before rows → reloc.address / 32 < length rows → row ≡ get_or rows (reloc.address / 32) row → row_with (relocs_in (reloc.address / 32) row) reloc ≡ Some (relocs_in (reloc.address / 32) more) → true ≡ not (is_other section before reloc)
own_put section before reloc rows row more placed are within is some =
    sym (not_from_false _ (put_own section before reloc (reloc.address / 32) (relocs_in (reloc.address / 32) more) placed (put_into section before reloc rows row more placed are within is some)))

-- another entry's row
other_row : (before : List RawReloc) (reloc : RawReloc) (i : ℕ) → (reloc.address / 32 ≡ i → ⊥) → relocs_of before i ≡ relocs_of (before ++ reloc ∷ []) i
other_row before reloc i differs =
    same_row before (before ++ reloc ∷ []) i
    (sym (elsewhere before reloc (32 * i) (not_at reloc (32 * i) (λ e. differs (ap (λ n. n / 32) e ∙ omega arith)))))
    (sym (elsewhere before reloc (32 * i + 16) (not_at reloc (32 * i + 16) (λ e. differs (ap (λ n. n / 32) e ∙ omega arith)))))
    (sym (elsewhere before reloc (32 * i + 24) (not_at reloc (32 * i + 24) (λ e. differs (ap (λ n. n / 32) e ∙ omega arith)))))

pub rows_put : (section : Section) (before : List RawReloc) (reloc : RawReloc) (rows : List EntryRow) (row more : EntryRow) → (is_pointer reloc && is_in_entry section reloc) ≡ true → AreRows before rows → reloc.address / 32 < length rows → row ≡ get_or rows (reloc.address / 32) row → row_with (relocs_in (reloc.address / 32) row) reloc ≡ Some (relocs_in (reloc.address / 32) more) → AreRows (before ++ reloc ∷ []) (set rows (reloc.address / 32) more)
rows_put section before reloc rows row more placed are within is some = record {
  each = λ i d inside. elim (cases_eq (reloc.address / 32) i) [
    | inl here ↦
        subst (λ (k : ℕ). relocs_in k (get_or (set rows (reloc.address / 32) more) k d) ≡ relocs_of (before ++ reloc ∷ []) k) here
        (ap (relocs_in (reloc.address / 32)) (get_or-set_same rows (reloc.address / 32) more d within) ∙ (put_into section before reloc rows row more placed are within is some).made)
    | inr there ↦
        ap (relocs_in i) (get_or-set_other rows (reloc.address / 32) i more d (λ e. there (sym e)))
        ∙ are.each i d (subst (λ (n : ℕ). i < n) (length-set rows (reloc.address / 32) more) inside)
        ∙ other_row before reloc i there
  ];
}

pub ruleset puts = (own_unplaced, rows_unplaced, placed_within, own_unput, rows_unput, own_put, rows_put)

-- relocations in turn

-- the place of the relocation at an index, where it is another one
abbrev pub other_at : Section → List RawReloc → ℕ → Option ℕ
other_at section relocs k = when (option_map_or (is_other section (take k relocs)) (slice_get relocs k) false) (option_map_or (place_of section) (slice_get relocs k) section.file_offset)

pub record Filled (section : Section) (relocs : List RawReloc) (at : ℕ) (rows : List EntryRow) (fault : Option ℕ) : Type 0 where
  pub by_entry : AreRows (take at relocs) rows
  pub told : fault ≡ least (filter_map (other_at section relocs) (range_with_len 0 at))

pub filled_none : (section : Section) (relocs : List RawReloc) (rows : List EntryRow) → AreRows [] rows → Filled section relocs 0 rows None
filled_none section relocs rows are = record { by_entry = are; told = refl }

pub filled_more : (section : Section) (relocs : List RawReloc) (at : ℕ) (rows new : List EntryRow) (fault more here : Option ℕ) (reloc : RawReloc) → Filled section relocs at rows fault → at < length relocs → reloc ≡ get_or relocs at reloc → ((before : List RawReloc) → AreRows before rows → here ≡ when (is_other section before reloc) (place_of section reloc)) → ((before : List RawReloc) → AreRows before rows → AreRows (before ++ reloc ∷ []) new) → more ≡ lesser fault here → Filled section relocs (at + 1) new more
filled_more section relocs at rows new fault more here reloc are within is told put joined =
    let one : slice_get relocs at ≡ Some reloc = slice_get_read relocs (length relocs) at reloc refl within is in
    let same : get_or relocs at reloc ≡ reloc = sym is in
    record {
      by_entry = subst (λ (xs : List RawReloc). AreRows xs new) (ap (λ r. take at relocs ++ r ∷ []) is ∙ sym (take_more relocs at reloc within)) (put (take at relocs) are.by_entry);
      told = least_more (other_at section relocs) at fault more here are.told
          (told (take at relocs) are.by_entry ∙ sym (rw one refl)) joined;
    }

pub filled_rows : (section : Section) (relocs : List RawReloc) (at : ℕ) (rows : List EntryRow) (fault : Option ℕ) → Filled section relocs at rows fault → relocs ≡ section.relocs → length relocs ≤ at → AreRows section.relocs rows
filled_rows section relocs at rows fault are is past = subst (λ (xs : List RawReloc). AreRows xs rows) (take_all at relocs past ∙ is) are.by_entry

pub filled_fault : (object : Object) (section : Section) (relocs : List RawReloc) (at : ℕ) (rows : List EntryRow) (fault : Option ℕ) → Filled section relocs at rows fault → relocs ≡ section.relocs → at ≡ length relocs → fault ≡ least (faults_of object section other_relocation)
filled_fault object section relocs at rows fault are is last =
    let all : fault ≡ least (filter_map (other_at section relocs) (range_with_len 0 (length relocs))) =
    are.told ∙ ap (λ n. least (filter_map (other_at section relocs) (range_with_len 0 n))) last in
    subst (λ (xs : List RawReloc). fault ≡ least (filter_map (other_at section xs) (range_with_len 0 (length xs)))) is all

pub ruleset fills = (filled_none, filled_more, filled_rows, filled_fault)

-- rows without relocations

abbrev pub no_row : EntryRow
no_row = record { function = 0; personality = 0; lsda = 0; function_named = Nothing; personality_named = Nothing; lsda_named = Nothing }

abbrev no_rows : List EntryRow
no_rows = []

take_nil : (n : ℕ) → take n no_rows ≡ no_rows
take_nil zero = refl
take_nil (suc n) = refl

none_of : (i : ℕ) → relocs_in i no_row ≡ relocs_of [] i
unfolding relocs_in relocs_of
none_of i = refl

pub empty_are : (count size : ℕ) (old rows : List EntryRow) → rows ≡ take count old ++ replicate (count - size) no_row → old ≡ [] → size ≡ 0 → AreRows [] rows
empty_are count size old rows is none start =
    let first : take count old ≡ [] = ap (take count) none ∙ take_nil count in
    let rest : count - size ≡ count = omega arith in
    let all : rows ≡ replicate count no_row = is ∙ ap (λ xs. xs ++ replicate (count - size) no_row) first ∙ ap (λ n. replicate n no_row) rest in
    record {
      each = λ i d within.
          let inside : i < count = subst (λ (n : ℕ). i < n) (ap length all ∙ length-replicate count no_row) within in
          ap (λ xs. relocs_in i (get_or xs i d)) all ∙ ap (relocs_in i) (get_or-replicate count i no_row d inside) ∙ none_of i;
    }

-- a row with relocations is that of an entry whose fields have addresses of 32 bits

low_address : (relocs : List RawReloc) (a : ℕ) (reloc : RawReloc) → pointer_at relocs a ≡ Some reloc → a < 2 ^ 31
low_address relocs a reloc e =
    let at : IsAt reloc a = is_at reloc a (find_some (is_pointer_at a) relocs reloc e).1 in
    let address : reloc.address ≡ a = at.address in
    let low : reloc.address < 2 ^ 31 = at.low in
    omega arith

low_pointer : (relocs : List RawReloc) (a number : ℕ) (named : Named) → pointer_of a number named ≡ pointer_at relocs a → is_nothing named ≡ false → a < 2 ^ 31
low_pointer relocs a number Nothing e some = absurd (false≢true (sym some))
low_pointer relocs a number BySection e some = low_address relocs a (pointer_with a number false) (sym e)
low_pointer relocs a number BySymbol e some = low_address relocs a (pointer_with a number true) (sym e)

pub row_is_low : (relocs : List RawReloc) (rows : List EntryRow) (i : ℕ) (row : EntryRow) → AreRows relocs rows → i < length rows → row ≡ get_or rows i row → is_empty row ≡ false → 32 * i + 24 < 2 ^ 32
unfolding relocs_in relocs_of
row_is_low relocs rows i row are within is some =
    let same : relocs_in i row ≡ relocs_of relocs i = row_is relocs rows i row are within is in
    elim (cases_Bool (is_nothing row.function_named)) [
      | inl no_function ↦ elim (cases_Bool (is_nothing row.personality_named)) [
        | inl no_personality ↦ elim (cases_Bool (is_nothing row.lsda_named)) [
          | inl no_lsda ↦ absurd (false≢true (sym some ∙ and_from _ _ (and_from _ _ no_function no_personality) no_lsda))
          | inr lsda ↦ let low : 32 * i + 24 < 2 ^ 31 = low_pointer relocs (32 * i + 24) row.lsda row.lsda_named (ap (λ (r : EntryRelocs). r.lsda) same) lsda in omega arith
        ]
        | inr personality ↦ let low : 32 * i + 16 < 2 ^ 31 = low_pointer relocs (32 * i + 16) row.personality row.personality_named (ap (λ (r : EntryRelocs). r.personality) same) personality in omega arith
      ]
      | inr function ↦ let low : 32 * i < 2 ^ 31 = low_pointer relocs (32 * i) row.function row.function_named (ap (λ (r : EntryRelocs). r.function) same) function in omega arith
    ]
