-- The laws of symbols.
use Rattle.std.proofs.Common.{◌≡◌, ℕ, zero, suc, ◌+◌, ◌-◌, ◌*◌, ◌%◌, ◌<◌, ◌⊎◌, List, [], ◌∷◌, ◌++◌, length, take, drop, get_or, replicate, refl, sym, ap, subst, ◌∙◌, inl, inr, arith, append_assoc, append-nil, length-append, true, Option, Some, None}
use Rattle.std.specs.List.{flat_map}
use Rattle.std.specs.Str.{bytes_eq}
use Rattle.std.proofs.Math.Seq.{drop-append-add, take-append_seam}
use Rattle.std.proofs.Math.ListN.{get_or-append}
use Rattle.std.proofs.lemmas.List.{get_or-append-add}
use Rattle.std.proofs.lemmas.List.Quantifiers.{position-Some}
use Rattle.std.proofs.lemmas.Slice.Eq.{bytes_eq-Decides}
use Rattle.mo_bytes.proofs.Numbers.{length-number_bytes}
use Rattle.mo_bytes.specs.Number.{number_bytes}
use Rattle.mo_format.specs.Symbol.{nlist_bytes}
use Rattle.mo_format.specs.declared.symbol.Nlist.{Nlist}
use Rattle.mo_types.specs.Goals.{name_of}
use Rattle.mo_types.specs.declared.goal.Goal.{Goal}
use Rattle.mo_types.specs.declared.goal.Goal.TheVariants.{Def, Flat, Header, Import, Nobody, WeakSelf}
use Rattle.slot_plan.specs.declared.list.Slots.{Slots}
use Rattle.mo_format.specs.declared.loader.TheConstants.{INDIRECT_SYMBOL_LOCAL}
use Rattle.std.specs.Option.{option_map_or}
use Rattle.sym_out.specs.Entries.{Entry, in_32, nlist_of, nlists, place_named, string_of, strings_bytes, symbols_bytes}
use Rattle.sym_out.specs.Laws.{HaveSizes, IsNamed, IsNumberOf, LeadsToSymbol, string_place}
use Rattle.sym_out.proofs.Seeking.{nothing}
use Rattle.sym_out.proofs.Sizing.{strings_have_size}
use Rattle.sym_out.specs.Symbols.{Ranges, entries_of, indirect_bytes, indirect_number, number_in, slot_goals}

-- ---- sizes

nlist_size : (s : Nlist) → length (nlist_bytes s) ≡ 16
nlist_size s =
    let a = number_bytes 4 s.n_strx in
    let b = number_bytes 1 s.n_type in
    let c = number_bytes 1 s.n_sect in
    let d = number_bytes 2 s.n_desc in
    let e = number_bytes 8 s.n_value in
    let none : List ℕ = [] in
    let la : length a ≡ 4 = length-number_bytes 4 s.n_strx in
    let lb : length b ≡ 1 = length-number_bytes 1 s.n_type in
    let lc : length c ≡ 1 = length-number_bytes 1 s.n_sect in
    let ld : length d ≡ 2 = length-number_bytes 2 s.n_desc in
    let le : length e ≡ 8 = length-number_bytes 8 s.n_value in
    let s5 : length (e ++ none) ≡ length e + 0 = length-append e none in
    let s4 : length (d ++ (e ++ none)) ≡ length d + length (e ++ none) = length-append d (e ++ none) in
    let s3 : length (c ++ (d ++ (e ++ none))) ≡ length c + length (d ++ (e ++ none)) = length-append c (d ++ (e ++ none)) in
    let s2 : length (b ++ (c ++ (d ++ (e ++ none)))) ≡ length b + length (c ++ (d ++ (e ++ none))) = length-append b (c ++ (d ++ (e ++ none))) in
    let s1 : length (a ++ (b ++ (c ++ (d ++ (e ++ none))))) ≡ length a + length (b ++ (c ++ (d ++ (e ++ none)))) = length-append a (b ++ (c ++ (d ++ (e ++ none)))) in
    omega (arith, la, lb, lc, ld, le, s1, s2, s3, s4, s5)

nlists_size : (at : ℕ) (entries : List Entry) → length (nlists at entries) ≡ 16 * length entries
unfolding nlists
nlists_size at [] = refl
nlists_size at (x ∷ xs) =
    let one = nlist_size (nlist_of at x) in
    let rest = nlists_size (at + length (string_of x)) xs in
    let both = length-append (nlist_bytes (nlist_of at x)) (nlists (at + length (string_of x)) xs) in
    omega (arith, one, rest, both)

indirect_size : (ranges : Ranges) (goals : List Goal) → length (indirect_bytes ranges goals) ≡ 4 * length goals
indirect_size ranges [] = refl
indirect_size ranges (goal ∷ goals) =
    let one = length-number_bytes 4 (indirect_number ranges goal) in
    let rest = indirect_size ranges goals in
    let both = length-append (number_bytes 4 (indirect_number ranges goal)) (indirect_bytes ranges goals) in
    omega (arith, one, rest, both)

pub have_sizes : (slots : Slots) (ranges : Ranges) → HaveSizes slots ranges
unfolding symbols_bytes
have_sizes slots ranges = record {
  of_symbols =
      let all = nlists_size 1 (entries_of ranges) in
      let first = length-append (ranges.locals ++ ranges.exported) ranges.undefined in
      let second = length-append ranges.locals ranges.exported in
      omega (arith, all, first, second);
  of_indirect =
      let all = indirect_size ranges (slot_goals slots) in
      let first = length-append (slots.stubs ++ slots.got) slots.tlv in
      let second = length-append slots.stubs slots.got in
      omega (arith, all, first, second);
  of_strings = strings_have_size ranges;
}

-- ---- names

here : (xs ys : List ℕ) (n : ℕ) → length xs ≡ n → take n (xs ++ ys) ≡ xs
here xs ys n e = subst (λ (m : ℕ). take m (xs ++ ys) ≡ xs) e (take-append_seam xs ys)

behind : (xs ys : List ℕ) (n m : ℕ) → m ≡ length xs + n → drop m (xs ++ ys) ≡ drop n ys
behind xs ys n m e = ap (λ (k : ℕ). drop k (xs ++ ys)) e ∙ drop-append-add xs ys n

symbol_there : (at : ℕ) (entries : List Entry) (i : ℕ) (d : Entry) → i < length entries → take 16 (drop (16 * i) (nlists at entries)) ≡ nlist_bytes (nlist_of (at + length (flat_map string_of (take i entries))) (get_or entries i d))
unfolding nlists
symbol_there at [] i d low = absurd (omega (arith, low))
symbol_there at (x ∷ xs) zero d low =
    let place : at ≡ at + 0 = omega arith in
    here (nlist_bytes (nlist_of at x)) (nlists (at + length (string_of x)) xs) 16 (nlist_size (nlist_of at x))
    ∙ ap (λ (n : ℕ). nlist_bytes (nlist_of n x)) place
symbol_there at (x ∷ xs) (suc i) d low =
    let first = nlist_size (nlist_of at x) in
    let step : 16 * suc i ≡ length (nlist_bytes (nlist_of at x)) + 16 * i = omega (arith, first) in
    let strings = length-append (string_of x) (flat_map string_of (take i xs)) in
    let place : at + length (string_of x) + length (flat_map string_of (take i xs)) ≡ at + length (string_of x ++ flat_map string_of (take i xs)) = omega (arith, strings) in
    ap (take 16) (behind (nlist_bytes (nlist_of at x)) (nlists (at + length (string_of x)) xs) (16 * i) (16 * suc i) step)
    ∙ symbol_there (at + length (string_of x)) xs i d (omega (arith, low))
    ∙ ap (λ (n : ℕ). nlist_bytes (nlist_of n (get_or xs i d))) place

string_there : (entries : List Entry) (rest : List ℕ) (i : ℕ) (d : Entry) → i < length entries → take (length (string_of (get_or entries i d))) (drop (length (flat_map string_of (take i entries))) (flat_map string_of entries ++ rest)) ≡ string_of (get_or entries i d)
string_there [] rest i d low = absurd (omega (arith, low))
string_there (x ∷ xs) rest zero d low =
    ap (take (length (string_of x))) (append_assoc (string_of x) (flat_map string_of xs) rest)
    ∙ here (string_of x) (flat_map string_of xs ++ rest) (length (string_of x)) refl
string_there (x ∷ xs) rest (suc i) d low =
    let size = length-append (string_of x) (flat_map string_of (take i xs)) in
    ap (λ (z : List ℕ). take (length (string_of (get_or xs i d))) (drop (length (string_of x ++ flat_map string_of (take i xs))) z)) (append_assoc (string_of x) (flat_map string_of xs) rest)
    ∙ ap (take (length (string_of (get_or xs i d)))) (behind (string_of x) (flat_map string_of xs ++ rest) (length (flat_map string_of (take i xs))) (length (string_of x ++ flat_map string_of (take i xs))) size)
    ∙ string_there xs rest i d (omega (arith, low))

pub is_named : (entries : List Entry) (i : ℕ) (d : Entry) → i < length entries → IsNamed entries i (get_or entries i d)
unfolding symbols_bytes strings_bytes
is_named entries i d low =
    let all : List ℕ = flat_map string_of entries in
    let zeros : List ℕ = replicate ((8 - length (0 ∷ all) % 8) % 8) 0 in
    record {
      symbol = symbol_there 1 entries i d low;
      string = ap (take (length (string_of (get_or entries i d)))) (behind (0 ∷ []) (all ++ zeros) (length (flat_map string_of (take i entries))) (string_place entries i) refl)
          ∙ string_there entries zeros i d low;
    }

-- ---- the indirect table

leads : (ranges : Ranges) (front entries back : List Entry) (before : ℕ) (goal : Goal) (o : Option ℕ) → entries_of ranges ≡ front ++ (entries ++ back) → before ≡ length front → place_named entries (name_of goal) ≡ o → (option_map_or (λ at. in_32 (before + at)) o INDIRECT_SYMBOL_LOCAL ≡ INDIRECT_SYMBOL_LOCAL) ⊎ IsNumberOf ranges goal (option_map_or (λ at. in_32 (before + at)) o INDIRECT_SYMBOL_LOCAL)
leads ranges front entries back before goal None all count there = inl refl
leads ranges front entries back before goal (Some at) all count there = inr (record {
  at = before + at;
  within = omega (arith, low, size, sizes, whole, count);
  named = λ d. ap (λ (xs : List Entry). (get_or xs (before + at) d).name) all
      ∙ ap (λ (n : ℕ). (get_or (front ++ (entries ++ back)) (n + at) d).name) count
      ∙ ap (λ (e : Entry). e.name) (get_or-append-add front (entries ++ back) at d ∙ get_or-append entries back d at low)
      ∙ (bytes_eq-Decides (get_or entries at d).name (name_of goal)).0 (hit d);
  value = refl;
})
  where
    low : at < length entries
    low = (position-Some (λ entry. bytes_eq entry.name (name_of goal)) entries at nothing there).0

    hit : (d : Entry) → bytes_eq (get_or entries at d).name (name_of goal) ≡ true
    hit d = (position-Some (λ entry. bytes_eq entry.name (name_of goal)) entries at d there).1

    whole : length (entries_of ranges) ≡ length (front ++ (entries ++ back))
    whole = ap length all

    sizes : length (front ++ (entries ++ back)) ≡ length front + length (entries ++ back)
    sizes = length-append front (entries ++ back)

    size : length (entries ++ back) ≡ length entries + length back
    size = length-append entries back

in_undefined : (ranges : Ranges) (goal : Goal) → (number_in (length ranges.locals + length ranges.exported) ranges.undefined (name_of goal) ≡ INDIRECT_SYMBOL_LOCAL) ⊎ IsNumberOf ranges goal (number_in (length ranges.locals + length ranges.exported) ranges.undefined (name_of goal))
in_undefined ranges goal =
    leads ranges (ranges.locals ++ ranges.exported) ranges.undefined [] (length ranges.locals + length ranges.exported) goal (place_named ranges.undefined (name_of goal))
    (ap (λ (xs : List Entry). (ranges.locals ++ ranges.exported) ++ xs) (sym (append-nil ranges.undefined)))
    (sym (length-append ranges.locals ranges.exported)) refl

pub leads_to_symbol : (ranges : Ranges) (goal : Goal) → LeadsToSymbol ranges goal
unfolding indirect_number
leads_to_symbol ranges (WeakSelf name atom offset) =
    leads ranges ranges.locals ranges.exported ranges.undefined (length ranges.locals) (WeakSelf name atom offset) (place_named ranges.exported name) (append_assoc ranges.locals ranges.exported ranges.undefined) refl refl
leads_to_symbol ranges (Import name ordinal by_weak optional) = in_undefined ranges (Import name ordinal by_weak optional)
leads_to_symbol ranges (Flat name) = in_undefined ranges (Flat name)
leads_to_symbol ranges (Def atom offset) = inl refl
leads_to_symbol ranges Header = inl refl
leads_to_symbol ranges Nobody = inl refl
