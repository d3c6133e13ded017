-- Entries that are written one after the other.
use Rattle.std.proofs.Common.{◌≡◌, ℕ, ◌+◌, ◌<◌, ◌≤◌, List, [], ◌∷◌, ◌++◌, length, map, take, drop, get_or, refl, sym, ap, subst, ◌∙◌, arith, append_assoc, append-nil}
use Rattle.std.specs.List.{flat_map}
use Rattle.std.proofs.lemmas.Grind.{flat_map-append}
use Rattle.std.proofs.lemmas.List.{at_drop_all, at_drop_more, length-append, map-append, take_all, take_more}
use Rattle.mo_format.specs.Symbol.{nlist_bytes}
use Rattle.sym_out.specs.Entries.{Entry, nlist_of, nlists, padded, string_of, strings_bytes, symbols_bytes}
use Rattle.sym_out.specs.inner.Written.{Puts}

-- entries behind others
pub nlists_append : (at : ℕ) (xs ys : List Entry) → nlists at (xs ++ ys) ≡ nlists at xs ++ nlists (at + length (flat_map string_of xs)) ys
unfolding nlists
nlists_append at [] ys = let e : at ≡ at + 0 = omega arith in ap (λ (n : ℕ). nlists n ys) e
nlists_append at (x ∷ xs) ys =
    let behind : nlists (at + length (string_of x)) (xs ++ ys) ≡ nlists (at + length (string_of x)) xs ++ nlists (at + length (string_of x) + length (flat_map string_of xs)) ys = nlists_append (at + length (string_of x)) xs ys in
    let size : length (string_of x ++ flat_map string_of xs) ≡ length (string_of x) + length (flat_map string_of xs) = length-append (string_of x) (flat_map string_of xs) in
    let place : at + length (string_of x) + length (flat_map string_of xs) ≡ at + length (string_of x ++ flat_map string_of xs) = omega (arith, size) in
    ap (λ (z : List ℕ). nlist_bytes (nlist_of at x) ++ z) (behind ∙ ap (λ (n : ℕ). nlists (at + length (string_of x)) xs ++ nlists n ys) place)
    ∙ sym (append_assoc (nlist_bytes (nlist_of at x)) (nlists (at + length (string_of x)) xs) (nlists (at + length (string_of x ++ flat_map string_of xs)) ys))

one_nlist : (at : ℕ) (x : Entry) → nlists at (x ∷ []) ≡ nlist_bytes (nlist_of at x)
unfolding nlists
one_nlist at x = append-nil (nlist_bytes (nlist_of at x))

pub puts_none : (symbols strings : List ℕ) → Puts [] symbols strings symbols strings
unfolding nlists
puts_none symbols strings = record { symbol_bytes = sym (append-nil symbols); string_bytes = sym (append-nil strings) }

-- what is put behind what was put
pub puts_append : (xs ys : List Entry) (s t s1 t1 s2 t2 : List ℕ) → Puts xs s t s1 t1 → Puts ys s1 t1 s2 t2 → Puts (xs ++ ys) s t s2 t2
puts_append xs ys s t s1 t1 s2 t2 first second = record {
  symbol_bytes = second.symbol_bytes
      ∙ ap (λ (z : List ℕ). z ++ nlists (length t1) ys) first.symbol_bytes
      ∙ append_assoc s (nlists (length t) xs) (nlists (length t1) ys)
      ∙ ap (λ (n : ℕ). s ++ (nlists (length t) xs ++ nlists n ys)) behind
      ∙ ap (λ (z : List ℕ). s ++ z) (sym (nlists_append (length t) xs ys));
  string_bytes = second.string_bytes
      ∙ ap (λ (z : List ℕ). z ++ flat_map string_of ys) first.string_bytes
      ∙ append_assoc t (flat_map string_of xs) (flat_map string_of ys)
      ∙ ap (λ (z : List ℕ). t ++ z) (sym (flat_map-append string_of xs ys));
}
  where
    behind : length t1 ≡ length t + length (flat_map string_of xs)
    behind = ap length first.string_bytes ∙ length-append t (flat_map string_of xs)

pub puts_one : (x : Entry) (s t s1 t1 : List ℕ) → s1 ≡ s ++ nlist_bytes (nlist_of (length t) x) → t1 ≡ t ++ string_of x → Puts (x ∷ []) s t s1 t1
puts_one x s t s1 t1 symbol string = record {
  symbol_bytes = symbol ∙ ap (λ (z : List ℕ). s ++ z) (sym (one_nlist (length t) x));
  string_bytes = string ∙ ap (λ (z : List ℕ). t ++ z) (sym (append-nil (string_of x)));
}

-- ---- one after the other

pub puts_more : {X : Type 0} (f : X → Entry) (xs : List X) (i : ℕ) (x : X) (e : Entry) (s t s1 t1 s2 t2 : List ℕ) → i < length xs → x ≡ get_or xs i x → e ≡ f x → Puts (map f (take i xs)) s t s1 t1 → s2 ≡ s1 ++ nlist_bytes (nlist_of (length t1) e) → t2 ≡ t1 ++ string_of e → Puts (map f (take (i + 1) xs)) s t s2 t2
puts_more {X} f xs i x e s t s1 t1 s2 t2 low is value before symbol string =
    let all : map f (take i xs) ++ e ∷ [] ≡ map f (take (i + 1) xs) =
    ap (λ (y : Entry). map f (take i xs) ++ y ∷ []) (value ∙ ap f is)
    ∙ sym (map-append f (take i xs) (get_or xs i x ∷ []))
    ∙ ap (map f) (sym (take_more xs i x low)) in
    subst (λ (es : List Entry). Puts es s t s2 t2) all (puts_append (map f (take i xs)) (e ∷ []) s t s1 t1 s2 t2 before (puts_one e s1 t1 s2 t2 symbol string))

pub puts_all : {X : Type 0} (f : X → Entry) (xs : List X) (i : ℕ) (s t s1 t1 : List ℕ) → length xs ≤ i → Puts (map f (take i xs)) s t s1 t1 → Puts (map f xs) s t s1 t1
puts_all {X} f xs i s t s1 t1 past before = subst (λ (ys : List X). Puts (map f ys) s t s1 t1) (take_all i xs past) before

-- ---- symbols whose strings stand elsewhere

-- those from a place on, and where the string of the first of them stands
pub record IsPlacing (entries : List Entry) (start : ℕ) (old : List ℕ) (i at : ℕ) (now : List ℕ) : Type 0 where
  pub size : at + length (flat_map string_of (drop i entries)) ≡ start + length (flat_map string_of entries)
  pub rest : now ++ nlists at (drop i entries) ≡ old ++ nlists start entries

pub placing_starts : (entries : List Entry) (start : ℕ) (old : List ℕ) → IsPlacing entries start old 0 start old
placing_starts entries start old = record { size = refl; rest = refl }

next_size : (entries : List Entry) (i : ℕ) (x : Entry) → i < length entries → x ≡ get_or entries i x → length (flat_map string_of (drop i entries)) ≡ length x.name + 1 + length (flat_map string_of (drop (i + 1) entries))
next_size entries i x low is =
    ap length (at_drop_more (flat_map string_of) entries i x low)
    ∙ ap (λ (e : Entry). length (string_of e ++ flat_map string_of (drop (i + 1) entries))) (sym is)
    ∙ length-append (string_of x) (flat_map string_of (drop (i + 1) entries))
    ∙ ap (λ (n : ℕ). n + length (flat_map string_of (drop (i + 1) entries))) (length-append x.name (0 ∷ []))

pub placing_goes_on : (entries : List Entry) (start : ℕ) (old : List ℕ) (i at : ℕ) (now new : List ℕ) (x : Entry) → IsPlacing entries start old i at now → i < length entries → x ≡ get_or entries i x → new ≡ now ++ nlist_bytes (nlist_of at x) → IsPlacing entries start old (i + 1) (at + (length x.name + 1)) new
unfolding nlists
placing_goes_on entries start old i at now new x placing low is e =
    let size : at + length (flat_map string_of (drop i entries)) ≡ start + length (flat_map string_of entries) = placing.size in
    let next : length (flat_map string_of (drop i entries)) ≡ length x.name + 1 + length (flat_map string_of (drop (i + 1) entries)) = next_size entries i x low is in
    let rest : List Entry = drop (i + 1) entries in
    record {
      size = omega (arith, size, next);
      rest = ap (λ (z : List ℕ). z ++ nlists (at + (length x.name + 1)) rest) e
          ∙ append_assoc now (nlist_bytes (nlist_of at x)) (nlists (at + (length x.name + 1)) rest)
          ∙ ap (λ (n : ℕ). now ++ (nlist_bytes (nlist_of at x) ++ nlists (at + n) rest)) (sym (length-append x.name (0 ∷ [])))
          ∙ ap (λ (y : Entry). now ++ nlists at (y ∷ rest)) is
          ∙ ap (λ (z : List ℕ). now ++ z) (sym (at_drop_more (nlists at) entries i x low))
          ∙ placing.rest;
    }

pub placing_ends : (entries : List Entry) (start : ℕ) (old : List ℕ) (i at : ℕ) (now : List ℕ) → IsPlacing entries start old i at now → length entries ≤ i → now ≡ old ++ nlists start entries
unfolding nlists
placing_ends entries start old i at now placing past =
    sym (append-nil now) ∙ ap (λ (z : List ℕ). now ++ z) (sym (at_drop_all (nlists at) entries i past)) ∙ placing.rest

pub puts_both : (entries : List Entry) (s t s1 t1 : List ℕ) (start : ℕ) → start ≡ length t → s1 ≡ s ++ nlists start entries → t1 ≡ t ++ flat_map string_of entries → Puts entries s t s1 t1
puts_both entries s t s1 t1 start is symbols strings = record {
  symbol_bytes = symbols ∙ ap (λ (n : ℕ). s ++ nlists n entries) is;
  string_bytes = strings;
}

-- ---- the whole table

pub table_symbols : (entries : List Entry) (s t s1 t1 : List ℕ) → s ≡ [] → t ≡ 0 ∷ [] → Puts entries s t s1 t1 → s1 ≡ symbols_bytes entries
unfolding symbols_bytes
table_symbols entries s t s1 t1 none start puts =
    puts.symbol_bytes ∙ ap (λ (z : List ℕ). z ++ nlists (length t) entries) none ∙ ap (λ (z : List ℕ). nlists (length z) entries) start

pub table_strings : (entries : List Entry) (s t s1 t1 t2 : List ℕ) → t ≡ 0 ∷ [] → Puts entries s t s1 t1 → t2 ≡ padded t1 → t2 ≡ strings_bytes entries
unfolding strings_bytes
table_strings entries s t s1 t1 t2 start puts end =
    end ∙ ap padded (puts.string_bytes ∙ ap (λ (z : List ℕ). z ++ flat_map string_of entries) start)
