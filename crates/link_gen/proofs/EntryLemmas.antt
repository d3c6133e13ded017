-- The loops that write entries and names.
use Rattle.std.proofs.Common.{◌≡◌, ℕ, ◌+◌, ◌*◌, ◌<◌, ◌≤◌, List, [], ◌∷◌, ◌++◌, length, drop, take, get_or, refl, sym, ap, ◌∙◌, append_assoc, append-nil, arith}
use Rattle.std.specs.List.{flat_map}
use Rattle.std.proofs.lemmas.List.{at_drop_more, at_drop_all, flat_map_more, take_all, take_more}
use Rattle.mo_format.specs.Symbol.{nlist_bytes}
use Rattle.mo_format.specs.declared.symbol.Nlist.{Nlist}
use Rattle.link_gen.specs.Names.{string_of}
use Rattle.link_gen.specs.Symbols.{entries_from, entry_of}
use Rattle.link_gen.specs.declared.symbols.MadeSymbol.{MadeSymbol}

abbrev pub entry_bytes : ℕ → List MadeSymbol → List ℕ
entry_bytes at list = flat_map nlist_bytes (entries_from at list)

pub record AreEntries (list : List MadeSymbol) (old : List ℕ) (index at : ℕ) (now : List ℕ) : Type 0 where
  pub low : at ≤ 1 + 9 * index
  pub rest : now ++ entry_bytes at (drop index list) ≡ old ++ entry_bytes 1 list

pub entries_start : (list : List MadeSymbol) (old : List ℕ) → AreEntries list old 0 1 old
entries_start list old = record { low = omega arith; rest = refl }

pub entries_go_on : (list : List MadeSymbol) (old now new : List ℕ) (index at further size : ℕ) (symbol : MadeSymbol) (entry : Nlist) → AreEntries list old index at now → index < length list → symbol ≡ get_or list index symbol → entry ≡ entry_of at symbol → new ≡ now ++ nlist_bytes entry → size ≡ length (string_of symbol.name) → size ≤ 9 → further ≡ at + size → AreEntries list old (index + 1) further new
entries_go_on list old now new index at further size symbol entry entries within is same e long small step =
    let here : MadeSymbol = get_or list index symbol in
    let next : further ≡ at + length (string_of (get_or list index symbol).name) =
    step ∙ ap (λ (n : ℕ). at + n) long ∙ ap (λ (s : MadeSymbol). at + length (string_of s.name)) is in
    record {
      low = let l = entries.low in omega arith;
      rest =
          ap (λ (n : ℕ). new ++ entry_bytes n (drop (index + 1) list)) next
          ∙ ap (λ (z : List ℕ). z ++ entry_bytes (at + length (string_of (get_or list index symbol).name)) (drop (index + 1) list)) (e ∙ ap (λ (n : Nlist). now ++ nlist_bytes n) (same ∙ ap (entry_of at) is))
          ∙ append_assoc now (nlist_bytes (entry_of at (get_or list index symbol))) (entry_bytes (at + length (string_of (get_or list index symbol).name)) (drop (index + 1) list))
          ∙ ap (λ (z : List ℕ). now ++ z) (sym (at_drop_more (entry_bytes at) list index symbol within))
          ∙ entries.rest;
    }

pub entries_end : (list : List MadeSymbol) (old now : List ℕ) (index at : ℕ) → AreEntries list old index at now → length list ≤ index → now ≡ old ++ entry_bytes 1 list
entries_end list old now index at entries past =
    sym (append-nil now) ∙ ap (λ (z : List ℕ). now ++ z) (sym (at_drop_all (entry_bytes at) list index past)) ∙ entries.rest

pub ruleset entering = (entries_start, entries_go_on, entries_end)

abbrev pub named : MadeSymbol → List ℕ
named symbol = string_of symbol.name

pub record AreStrings (list : List MadeSymbol) (at : ℕ) (now : List ℕ) : Type 0 where
  pub are : now ≡ (0 ∷ []) ++ flat_map named (take at list)

pub strings_start : (list : List MadeSymbol) (empty now : List ℕ) → empty ≡ [] → now ≡ empty ++ 0 ∷ [] → AreStrings list 0 now
strings_start list empty now none e = record { are = e ∙ ap (λ (z : List ℕ). z ++ 0 ∷ []) none }

pub strings_go_on : (list : List MadeSymbol) (now new : List ℕ) (at : ℕ) (symbol : MadeSymbol) → AreStrings list at now → at < length list → symbol ≡ get_or list at symbol → new ≡ now ++ string_of symbol.name → AreStrings list (at + 1) new
strings_go_on list now new at symbol strings within is e = record {
  are =
      e ∙ ap (λ (s : MadeSymbol). now ++ named s) is
      ∙ ap (λ (z : List ℕ). z ++ named (get_or list at symbol)) strings.are
      ∙ flat_map_more named (0 ∷ []) (take at list) (get_or list at symbol)
      ∙ ap (λ (z : List MadeSymbol). (0 ∷ []) ++ flat_map named z) (sym (take_more list at symbol within));
}

pub strings_end : (list : List MadeSymbol) (now : List ℕ) (at : ℕ) → AreStrings list at now → length list ≤ at → now ≡ 0 ∷ flat_map named list
strings_end list now at strings past = strings.are ∙ ap (λ (z : List MadeSymbol). 0 ∷ flat_map named z) (take_all at list past)

pub ruleset stringing = (strings_start, strings_go_on, strings_end)
