-- What the definitions say, in words of their own.
use Rattle.std.proofs.Common.{tests, ◌≡◌, ℕ, zero, suc, ◌+◌, ◌-◌, ◌*◌, ◌/◌, ◌^◌, ◌<◌, ◌≤◌, Bool, true, false, List, length, nat_le, nat_lt, Option, Some, None, Result, Ok, Err, if◌then◌else◌, refl, sym, ap, subst, ◌∙◌, arith}
use Rattle.mo_types.specs.Gives.{◌>>=◌, guarded}
use Rattle.mo_types.specs.declared.cause.Rule.TheVariants as rule
use Rattle.mo_types.specs.declared.cause.Which.TheVariants.{Members}
use Rattle.mo_types.specs.declared.object_fault.ObjFault.{ObjFault}
use Rattle.mo_types.specs.declared.object_fault.ObjFault.TheVariants.{Malformed, Limit}
use Rattle.mo_ar.specs.Archive.{IsArchive, IsChained, archive_of, at_end, chained, members_of, offered, opening_of, places_of}
use Rattle.mo_ar.specs.Chain.{IsChain, Link, chain, end_of}
use Rattle.mo_ar.specs.Slice.{IsSlice, IsSliceOf, count, entry, first_arm64, is_arm64, offset, size, slice_at, slice_of}
use Rattle.mo_ar.specs.declared.archive.Archive.{Archive}
use Rattle.mo_ar.specs.declared.archive.Opening.{Opening}
use Rattle.mo_ar.specs.declared.member.Member.{Member}
use Rattle.mo_ar.specs.declared.offers.Offer.{Offer}
use Rattle.mo_ar.specs.declared.slice.SliceFault.{SliceFault}
use Rattle.mo_ar.specs.declared.slice.SliceFault.TheVariants as fault
use Rattle.mo_ar.proofs.ChainLemmas.{chain_is, leads_to_end, same_chain}

pub chain_there : (bytes : List ℕ) (at : ℕ) → IsChain bytes at (chain bytes at) (end_of at (chain bytes at))
chain_there bytes at = chain_is bytes (length bytes) at (omega arith)

pub chain_alone : (bytes : List ℕ) (at : ℕ) (links : List Link) (to : ℕ) → IsChain bytes at links to → links ≡ chain bytes at
chain_alone bytes at links to is =
    let there : IsChain bytes at (chain bytes at) (end_of at (chain bytes at)) = chain_there bytes at in
    same_chain bytes at links (chain bytes at) to (end_of at (chain bytes at)) is.leads is.ends there.leads there.ends

pub ruleset chains = (chain_there, chain_alone)

bind_ok : {A B : Type 0} (r : Result A ObjFault) (f : A → Result B ObjFault) (y : B) → (r >>= f) ≡ Ok y → (x : A) × (r ≡ Ok x) × (f x ≡ Ok y)
bind_ok (Ok x) f y is = (x, refl, is)
bind_ok (Err e) f y is = cc

guard_ok : {A : Type 0} (b : Bool) (e : ObjFault) (x y : A) → guarded b e x ≡ Ok y → (b ≡ true) × (x ≡ y)
guard_ok true e x y is = (refl, cc)
guard_ok false e x y is = cc

less : (a b : ℕ) → nat_lt a b ≡ true → a < b
less a b is = grind (arith, tests)

at_most : (a b : ℕ) → nat_le a b ≡ true → a ≤ b
at_most a b is = grind (arith, tests)

is_less : (a b : ℕ) → a < b → nat_lt a b ≡ true
is_less a b is = grind (arith, tests)

is_at_most : (a b : ℕ) → a ≤ b → nat_le a b ≡ true
is_at_most a b is = grind (arith, tests)

chained_is : (bytes : List ℕ) (archive : Archive) (opening : Opening) (links : List Link) (end : ℕ) → opening_of bytes ≡ Ok opening → IsChain bytes opening.start links end → chained bytes opening.table links end ≡ Ok archive → IsChained bytes archive opening links end
chained_is bytes archive opening links end opens chain is =
    let a : (w : Unit {0}) × (at_end bytes end ≡ Ok w) × ((offered bytes opening.table (places_of links) >>= λ offers. guarded (nat_lt (length (members_of links)) (2 ^ 20)) (Limit Members) (record { members = members_of links; offers = offers })) ≡ Ok archive) =
    bind_ok (at_end bytes end) (λ w. offered bytes opening.table (places_of links) >>= λ offers. guarded (nat_lt (length (members_of links)) (2 ^ 20)) (Limit Members) (record { members = members_of links; offers = offers })) archive is in
    let b : (offers : List Offer) × (offered bytes opening.table (places_of links) ≡ Ok offers) × (guarded (nat_lt (length (members_of links)) (2 ^ 20)) (Limit Members) (record { members = members_of links; offers = offers }) ≡ Ok archive) =
    bind_ok (offered bytes opening.table (places_of links)) (λ offers. guarded (nat_lt (length (members_of links)) (2 ^ 20)) (Limit Members) (record { members = members_of links; offers = offers })) archive a.2 in
    let made : Archive = record { members = members_of links; offers = b.0 } in
    let c : (nat_lt (length (members_of links)) (2 ^ 20) ≡ true) × (made ≡ archive) = guard_ok (nat_lt (length (members_of links)) (2 ^ 20)) (Limit Members) made archive b.2 in
    let w : (nat_le (length bytes) end ≡ true) × (tt ≡ a.0) = guard_ok (nat_le (length bytes) end) (Malformed end rule.Member) tt a.0 a.1 in
    let members : archive.members ≡ members_of links = ap (λ (x : Archive). x.members) (sym c.1) in
    record {
      opens = opens;
      chain_is = chain;
      whole = at_most (length bytes) end w.0;
      members_are = members;
      offers_are = b.1 ∙ ap (λ (x : Archive). Ok x.offers) c.1;
      few = rw members (less (length (members_of links)) (2 ^ 20) c.0);
    }

pub archive_there : (bytes : List ℕ) (archive : Archive) → archive_of bytes ≡ Ok archive → IsArchive bytes archive
unfolding archive_of
archive_there bytes archive is =
    let a : (opening : Opening) × (opening_of bytes ≡ Ok opening) × (chained bytes opening.table (chain bytes opening.start) (end_of opening.start (chain bytes opening.start)) ≡ Ok archive) =
    bind_ok (opening_of bytes) (λ opening. chained bytes opening.table (chain bytes opening.start) (end_of opening.start (chain bytes opening.start))) archive is in
    (a.0, chain bytes a.0.start, end_of a.0.start (chain bytes a.0.start), chained_is bytes archive a.0 (chain bytes a.0.start) (end_of a.0.start (chain bytes a.0.start)) a.1 (chain_there bytes a.0.start) a.2)

abbrev made : List Member → List Offer → Result Archive ObjFault
made members offers = Ok (record { members = members; offers = offers })

same_archive : (archive : Archive) (links : List Link) → archive.members ≡ members_of links → made (members_of links) archive.offers ≡ Ok archive
same_archive archive links members = ap (λ (ms : List Member). made ms archive.offers) (sym members)

is_chained : (bytes : List ℕ) (archive : Archive) (opening : Opening) (links : List Link) (end : ℕ) → IsChained bytes archive opening links end → chained bytes opening.table links end ≡ Ok archive
is_chained bytes archive opening links end is =
    let whole : nat_le (length bytes) end ≡ true = is_at_most (length bytes) end is.whole in
    let count : length (members_of links) < 2 ^ 20 = rw is.members_are at is.few in
    let few : nat_lt (length (members_of links)) (2 ^ 20) ≡ true = is_less (length (members_of links)) (2 ^ 20) count in
    rw (whole, is.offers_are, few) (same_archive archive links is.members_are)

pub archive_alone : (bytes : List ℕ) (archive : Archive) → IsArchive bytes archive → archive_of bytes ≡ Ok archive
unfolding archive_of
archive_alone bytes archive is =
    let opening : Opening = is.0 in
    let known : IsChained bytes archive is.0 is.1 is.2 = is.3 in
    let links : is.1 ≡ chain bytes is.0.start = chain_alone bytes is.0.start is.1 is.2 known.chain_is in
    let end : is.2 ≡ end_of is.0.start is.1 = leads_to_end bytes is.0.start is.1 is.2 known.chain_is.leads in
    let e : chained bytes is.0.table is.1 is.2 ≡ Ok archive = is_chained bytes archive is.0 is.1 is.2 known in
    let f : chained bytes is.0.table is.1 (end_of is.0.start is.1) ≡ Ok archive = subst (λ (x : ℕ). chained bytes is.0.table is.1 x ≡ Ok archive) end e in
    let g : chained bytes is.0.table (chain bytes is.0.start) (end_of is.0.start (chain bytes is.0.start)) ≡ Ok archive =
    subst (λ (ls : List Link). chained bytes is.0.table ls (end_of is.0.start ls) ≡ Ok archive) links f in
    rw known.opens g

pub ruleset archives = (archive_there, archive_alone)

-- the first entry for arm64 that a search finds
pub record IsFound (bytes : List ℕ) (at n p i : ℕ) : Type 0 where
  pub among : i < n
  pub place : p ≡ at + 20 * i
  pub is : is_arm64 bytes p ≡ true
  pub first : (k : ℕ) → k < i → is_arm64 bytes (at + 20 * k) ≡ false

earlier : (bytes : List ℕ) (at i k : ℕ) → is_arm64 bytes at ≡ false → ((j : ℕ) → j < i → is_arm64 bytes (at + 20 + 20 * j) ≡ false) → k < suc i → is_arm64 bytes (at + 20 * k) ≡ false
earlier bytes at i zero other first low = let e : at + 20 * 0 ≡ at = omega arith in rw e other
earlier bytes at i (suc k) other first low =
    let e : at + 20 * suc k ≡ at + 20 + 20 * k = omega arith in
    rw e (first k (omega arith))

found_next : (bytes : List ℕ) (at n p i : ℕ) → is_arm64 bytes at ≡ false → IsFound bytes (at + 20) n p i → IsFound bytes at (suc n) p (suc i)
found_next bytes at n p i other found = record {
  among = let a : i < n = found.among in omega arith;
  place = let a : p ≡ at + 20 + 20 * i = found.place in omega arith;
  is = found.is;
  first = λ k low. earlier bytes at i k other found.first low;
}

found_by : (bytes : List ℕ) (at n p : ℕ) (here : Bool) → is_arm64 bytes at ≡ here → ((q : ℕ) → first_arm64 bytes (at + 20) n ≡ Some q → (i : ℕ) × IsFound bytes (at + 20) n q i) → (if here then Some at else first_arm64 bytes (at + 20) n) ≡ Some p → (i : ℕ) × IsFound bytes at (suc n) p i
found_by bytes at n p true here rest is =
    let e : at ≡ p = cc in
    (0, record { among = omega arith; place = omega arith; is = rw (← e) here; first = λ k low. absurd (omega arith) })
found_by bytes at n p false here rest is =
    let r : (i : ℕ) × IsFound bytes (at + 20) n p i = rest p is in
    (suc r.0, found_next bytes at n p r.0 here r.1)

search_found : (bytes : List ℕ) (at n p : ℕ) → first_arm64 bytes at n ≡ Some p → (i : ℕ) × IsFound bytes at n p i
search_found bytes at zero p is = cc
search_found bytes at (suc n) p is =
    found_by bytes at n p (is_arm64 bytes at) refl (λ q there. search_found bytes (at + 20) n q there) is

found_search : (bytes : List ℕ) (at n i : ℕ) → i < n → is_arm64 bytes (at + 20 * i) ≡ true → ((k : ℕ) → k < i → is_arm64 bytes (at + 20 * k) ≡ false) → first_arm64 bytes at n ≡ Some (at + 20 * i)
found_search bytes at zero i among is first = absurd (omega arith)
found_search bytes at (suc n) zero among is first =
    let e : at + 20 * 0 ≡ at = omega arith in
    let here : is_arm64 bytes at ≡ true = rw e at is in
    rw (here, e) refl
found_search bytes at (suc n) (suc i) among is first =
    let e : at + 20 * suc i ≡ at + 20 + 20 * i = omega arith in
    let z : at + 20 * 0 ≡ at = omega arith in
    let other : is_arm64 bytes at ≡ false = rw z at (first 0 (omega arith)) in
    rw (other, e)
    (found_search bytes (at + 20) n i (omega arith) (rw e at is) (λ k low. let f : at + 20 * suc k ≡ at + 20 + 20 * k = omega arith in rw f at (first (suc k) (omega arith))))

abbrev read_as : ℕ → ℕ → Result (ℕ × ℕ) SliceFault
read_as from sized = Ok (from, sized)

ok_same : (a b : ℕ × ℕ) → read_as a.0 a.1 ≡ read_as b.0 b.1 → a ≡ b
ok_same a b is = cc

not_outside : (a b : ℕ) → nat_lt a b ≡ false → b ≤ a
not_outside a b is = grind (arith, tests)

within_file : (bytes : List ℕ) (p from sized : ℕ) (outside : Bool) → nat_lt (length bytes) (offset bytes p + size bytes p) ≡ outside → (if outside then Err (fault.Malformed p rule.Slice) else read_as (offset bytes p) (size bytes p)) ≡ read_as from sized → (q : ℕ) × (Some p ≡ Some q) × (from ≡ offset bytes q) × (sized ≡ size bytes q) × (from + sized ≤ length bytes)
within_file bytes p from sized true test is = cc
within_file bytes p from sized false test is =
    let a : from ≡ offset bytes p = ap (λ (r : ℕ × ℕ). r.0) (sym (ok_same (offset bytes p, size bytes p) (from, sized) is)) in
    let b : sized ≡ size bytes p = ap (λ (r : ℕ × ℕ). r.1) (sym (ok_same (offset bytes p, size bytes p) (from, sized) is)) in
    (p, refl, a, b, rw (a, b) (not_outside (length bytes) (offset bytes p + size bytes p) test))

slice_found : (bytes : List ℕ) (found : Option ℕ) (from sized : ℕ) → slice_at bytes found ≡ Ok (from, sized) → (p : ℕ) × (found ≡ Some p) × (from ≡ offset bytes p) × (sized ≡ size bytes p) × (from + sized ≤ length bytes)
slice_found bytes None from sized is = cc
slice_found bytes (Some p) from sized is =
    within_file bytes p from sized (nat_lt (length bytes) (offset bytes p + size bytes p)) refl is

inside : (bytes : List ℕ) (from sized : ℕ) (short cut : Bool) → nat_lt (length bytes) (entry (count bytes)) ≡ cut → (if short then Err (fault.Malformed 0 rule.Slice) else if cut then Err (fault.Malformed (entry ((length bytes - 8) / 20)) rule.Slice) else slice_at bytes (first_arm64 bytes (entry 0) (count bytes))) ≡ Ok (from, sized) → IsSlice bytes from sized
inside bytes from sized true cut test is = cc
inside bytes from sized false true test is = cc
inside bytes from sized false false test is =
    let a : (p : ℕ) × (first_arm64 bytes (entry 0) (count bytes) ≡ Some p) × (from ≡ offset bytes p) × (sized ≡ size bytes p) × (from + sized ≤ length bytes) =
    slice_found bytes (first_arm64 bytes (entry 0) (count bytes)) from sized is in
    let b : (i : ℕ) × IsFound bytes 8 (count bytes) a.0 i = search_found bytes 8 (count bytes) a.0 a.1 in
    let found : IsFound bytes 8 (count bytes) a.0 b.0 = b.1 in
    let place : a.0 ≡ entry b.0 = found.place in (
      b.0,
      record {
        entries = not_outside (length bytes) (entry (count bytes)) test;
        arm64 = record { among = found.among; is = rw (← place) found.is; first = found.first };
        begins = a.2 ∙ ap (offset bytes) place;
        sized = a.3 ∙ ap (size bytes) place;
        within = a.4;
      },
    )

pub slice_there : (bytes : List ℕ) (from sized : ℕ) → slice_of bytes ≡ Ok (from, sized) → IsSlice bytes from sized
unfolding slice_of
slice_there bytes from sized is =
    inside bytes from sized (nat_lt (length bytes) 8) (nat_lt (length bytes) (entry (count bytes))) refl is

is_inside : (a b : ℕ) → b ≤ a → nat_lt a b ≡ false
is_inside a b low = grind (arith, tests)

read_slice : (bytes : List ℕ) (p : ℕ) → offset bytes p + size bytes p ≤ length bytes → slice_at bytes (Some p) ≡ Ok (offset bytes p, size bytes p)
read_slice bytes p low = rw (is_inside (length bytes) (offset bytes p + size bytes p) low) refl

pub slice_alone : (bytes : List ℕ) (from sized : ℕ) → IsSlice bytes from sized → slice_of bytes ≡ Ok (from, sized)
unfolding slice_of
slice_alone bytes from sized is =
    let i : ℕ = is.0 in
    let known : IsSliceOf bytes is.0 from sized = is.1 in
    let among : is.0 < count bytes = known.arm64.among in
    let whole : entry (count bytes) ≤ length bytes = known.entries in
    let within : from + sized ≤ length bytes = known.within in
    let long : nat_lt (length bytes) 8 ≡ false = is_inside (length bytes) 8 (omega arith) in
    let entries : nat_lt (length bytes) (entry (count bytes)) ≡ false = is_inside (length bytes) (entry (count bytes)) known.entries in
    let found : first_arm64 bytes (entry 0) (count bytes) ≡ Some (entry is.0) = found_search bytes 8 (count bytes) is.0 known.arm64.among known.arm64.is known.arm64.first in
    let low : offset bytes (entry is.0) + size bytes (entry is.0) ≤ length bytes = rw (← known.begins, ← known.sized) within in
    let same : read_as (offset bytes (entry is.0)) (size bytes (entry is.0)) ≡ read_as from sized =
    ap (λ (x : ℕ). read_as x (size bytes (entry is.0))) (sym known.begins) ∙ ap (λ (x : ℕ). read_as from x) (sym known.sized) in
    rw (long, entries) (ap (slice_at bytes) found ∙ read_slice bytes (entry is.0) low ∙ same)

pub ruleset slices = (slice_there, slice_alone)
