-- The three ranges of symbols, and the parts that are made of them.
use Rattle.std.proofs.Common.{◌≡◌, ℕ, Bool, true, false, List, [], ◌++◌, map, refl, sym, ap, subst, ◌∙◌, Option, Some, None, if◌then◌else◌}
use Rattle.std.specs.List.{AllPairs, filter_map}
use Rattle.std.specs.Option.{option_map, option_map_or}
use Rattle.std.specs.Ordering.{nat_cmp}
use Rattle.std.specs.Cmp.Lexicographic.{slice_cmp}
use Rattle.std.specs.declared.cmp.Ordering.TheVariants.{Less}
use Rattle.std.specs.List.Sorted.{IsPermutation, IsSorted}
use Rattle.std.proofs.lemmas.Grind.{flat_map-append}
use Rattle.mo_bytes.specs.Number.{number_bytes}
use Rattle.mo_types.specs.Goals.{name_of}
use Rattle.mo_types.specs.declared.goal.Goal.{Goal}
use Rattle.mo_types.specs.declared.goal.Goal.TheVariants.{Def, Flat, Header, Import, Nobody, WeakSelf}
use Rattle.mo_types.specs.declared.loaded.LoadedFile.{LoadedFile}
use Rattle.sect_place.specs.declared.layout.Layout.{Layout}
use Rattle.slot_plan.specs.declared.list.Slots.{Slots}
use Rattle.symbol_winners.specs.SymbolTable.{SymbolTable}
use Rattle.symbol_winners.specs.declared.winner.Winner.{Winner}
use Rattle.sym_out.specs.Entries.{Entry}
use Rattle.sym_out.specs.Files.{symbols_of}
use Rattle.sym_out.specs.Sites.{Site, site_of}
use Rattle.sym_out.specs.Symbols.{AreRanges, AreSymbolParts, Local, Ranges, compare_locals, entries_of, exported_at, exported_entry, hidden_local, indirect_bytes, indirect_number, local_entry, locals_of, own_local, parts_of, undefined_entry, winner_place}
use Rattle.sym_out.specs.declared.parts.SymbolParts.{SymbolParts}
use Rattle.sym_out.specs.inner.Ranged.{AreNamed, AreRising}
use Rattle.sym_out.specs.inner.Written.{Puts}
use Rattle.sym_out.proofs.Seeking.{chosen_rises}
use Rattle.sym_out.proofs.Writing.{puts_append}

-- ---- the names of entries

named_site : (winner : Winner) (site : Option Site) (entry : Entry) → option_map (exported_at winner) site ≡ Some entry → entry.name ≡ winner.name
named_site winner None entry e = absurd (cc)
named_site winner (Some site) entry e = let same : exported_at winner site ≡ entry = cc in sym (ap (λ (x : Entry). x.name) same)

pub exported_named : (layout : Layout) (symbols : SymbolTable) (winner : Winner) (entry : Entry) → exported_entry layout symbols winner ≡ Some entry → entry.name ≡ winner.name
unfolding exported_entry
exported_named layout symbols winner entry e = by winner.exported refl
  where
    site : Option Site
    site = site_of layout (winner_place symbols.literals winner).atom

    by : (t : Bool) → winner.exported ≡ t → entry.name ≡ winner.name
    by true seen = named_site winner site entry (sym (ap (λ (t : Bool). if t then option_map (exported_at winner) site else None) seen) ∙ e)
    by false seen = let no : None ≡ Some entry = sym (ap (λ (t : Bool). if t then option_map (exported_at winner) site else None) seen) ∙ e in absurd cc

pub undefined_named : (goal : Goal) (entry : Entry) → undefined_entry goal ≡ Some entry → entry.name ≡ name_of goal
unfolding undefined_entry
undefined_named (Import name ordinal by_weak optional) entry e = sym (ap (λ (x : Option Entry). option_map_or (λ (y : Entry). y.name) x name) e)
undefined_named (Flat name) entry e = sym (ap (λ (x : Option Entry). option_map_or (λ (y : Entry). y.name) x name) e)
undefined_named (Def atom offset) entry e = absurd cc
undefined_named (WeakSelf name atom offset) entry e = absurd cc
undefined_named Header entry e = absurd cc
undefined_named Nobody entry e = absurd cc

pub ranges_named : (layout : Layout) (symbols : SymbolTable) (winners : List Winner) (bound : List Goal) (exported undefined : List Entry) → AreRising bound symbols.winners → winners ≡ symbols.winners → exported ≡ filter_map (exported_entry layout symbols) winners → undefined ≡ filter_map undefined_entry bound → AreNamed exported undefined
ranges_named layout symbols winners bound exported undefined rising same seen wanted = record {
  exported_ones = subst (λ (es : List Entry). AllPairs (λ (a : Entry) (b : Entry). slice_cmp nat_cmp a.name b.name ≡ Less) es)
      (sym (seen ∙ ap (filter_map (exported_entry layout symbols)) same))
      (chosen_rises (exported_entry layout symbols) (λ w. w.name) symbols.winners (exported_named layout symbols) rising.of_winners);
  undefined_ones = subst (λ (es : List Entry). AllPairs (λ (a : Entry) (b : Entry). slice_cmp nat_cmp a.name b.name ≡ Less) es)
      (sym wanted)
      (chosen_rises undefined_entry name_of bound undefined_named rising.of_goals);
}

pub ranges_are : (layout : Layout) (symbols : SymbolTable) (winners : List Winner) (bound : List Goal) (files : List LoadedFile) (locals : List Local) (exported undefined : List Entry) → IsPermutation (locals_of layout symbols files) locals → IsSorted compare_locals locals → winners ≡ symbols.winners → exported ≡ filter_map (exported_entry layout symbols) winners → undefined ≡ filter_map undefined_entry bound → AreRanges layout bound symbols files (record { locals = map local_entry locals; exported = exported; undefined = undefined })
ranges_are layout symbols winners bound files locals exported undefined moved sorted same seen wanted = record {
  locals = locals;
  same = moved;
  sorted = sorted;
  local_ones = refl;
  seen = seen ∙ ap (filter_map (exported_entry layout symbols)) same;
  wanted = wanted;
}

-- ---- the table

pub table_puts : (ranges : Ranges) (locals read : List Local) (exported read_exported undefined read_undefined : List Entry) (s t s1 t1 s2 t2 s3 t3 : List ℕ) → read ≡ locals → read_exported ≡ exported → read_undefined ≡ undefined → record { locals = map local_entry locals; exported = exported; undefined = undefined } ≡ ranges → Puts (map local_entry read) s t s1 t1 → Puts read_exported s1 t1 s2 t2 → Puts read_undefined s2 t2 s3 t3 → Puts (entries_of ranges) s t s3 t3
table_puts ranges locals read exported read_exported undefined read_undefined s t s1 t1 s2 t2 s3 t3 same same_exported same_undefined view one two three =
    let all : Puts ((map local_entry read ++ read_exported) ++ read_undefined) s t s3 t3 =
    puts_append (map local_entry read ++ read_exported) read_undefined s t s2 t2 s3 t3 (puts_append (map local_entry read) read_exported s t s1 t1 s2 t2 one two) three in
    subst (λ (es : List Entry). Puts es s t s3 t3)
    (ap (λ (ls : List Local). (map local_entry ls ++ read_exported) ++ read_undefined) same
    ∙ ap (λ (es : List Entry). (map local_entry locals ++ es) ++ read_undefined) same_exported
    ∙ ap (λ (es : List Entry). (map local_entry locals ++ exported) ++ es) same_undefined
    ∙ ap entries_of view)
    all

-- ---- local symbols

pub locals_gathered : (layout : Layout) (symbols : SymbolTable) (files read : List LoadedFile) (winners : List Winner) (own all sorted : List Local) → own ≡ filter_map (own_local layout) (symbols_of read) → read ≡ files → winners ≡ symbols.winners → all ≡ own ++ filter_map (hidden_local layout symbols read) winners → IsPermutation all sorted → IsPermutation (locals_of layout symbols files) sorted
unfolding locals_of
locals_gathered layout symbols files read winners own all sorted gathered same_files same_winners whole moved =
    subst (λ (ls : List Local). IsPermutation ls sorted)
    (whole
    ∙ ap (λ (ls : List Local). ls ++ filter_map (hidden_local layout symbols read) winners) gathered
    ∙ ap (λ (fs : List LoadedFile). filter_map (own_local layout) (symbols_of fs) ++ filter_map (hidden_local layout symbols fs) winners) same_files
    ∙ ap (λ (ws : List Winner). filter_map (own_local layout) (symbols_of files) ++ filter_map (hidden_local layout symbols files) ws) same_winners)
    moved

pub indirect_is : (ranges : Ranges) (stubs got tlv : List Goal) (o o1 o2 o3 : List ℕ) → o ≡ [] → o1 ≡ o ++ indirect_bytes ranges stubs → o2 ≡ o1 ++ indirect_bytes ranges got → o3 ≡ o2 ++ indirect_bytes ranges tlv → o3 ≡ indirect_bytes ranges (stubs ++ got ++ tlv)
indirect_is ranges stubs got tlv o o1 o2 o3 none one two three =
    let f : Goal → List ℕ = λ goal. number_bytes 4 (indirect_number ranges goal) in
    three
    ∙ ap (λ (z : List ℕ). z ++ indirect_bytes ranges tlv) (two ∙ ap (λ (z : List ℕ). z ++ indirect_bytes ranges got) (one ∙ ap (λ (z : List ℕ). z ++ indirect_bytes ranges stubs) none))
    ∙ ap (λ (z : List ℕ). z ++ indirect_bytes ranges tlv) (sym (flat_map-append f stubs got))
    ∙ sym (flat_map-append f (stubs ++ got) tlv)

-- ---- the parts

pub parts_are : (layout : Layout) (slots : Slots) (bound goals : List Goal) (symbols : SymbolTable) (files : List LoadedFile) (ranges : Ranges) (parts : SymbolParts) (sites : Layout) → AreRanges sites goals symbols files ranges → sites ≡ layout → goals ≡ bound → parts ≡ parts_of slots ranges → AreSymbolParts layout slots bound symbols files parts
parts_are layout slots bound goals symbols files ranges parts sites are same_layout same_goals written = record {
  ranges = ranges;
  ranged = subst (λ (l : Layout). AreRanges l bound symbols files ranges) same_layout (subst (λ (g : List Goal). AreRanges sites g symbols files ranges) same_goals are);
  written = written;
}
