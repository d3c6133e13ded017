-- The walk from one header to the next.
use Rattle.std.proofs.Common.{tests, ◌≡◌, ℕ, zero, suc, ◌+◌, ◌<◌, ◌≤◌, Bool, true, false, List, [], ◌∷◌, ◌++◌, length, map, get_or, nat_le, Option, Some, None, if◌then◌else◌, refl, sym, ap, subst, ◌∙◌, arith, length-append, below_more}
use Rattle.std.specs.Option.{option_map_or}
use Rattle.std.proofs.lemmas.List.{map-append, get_or_append_left}
use Rattle.std.proofs.Math.Seq.{get_or-append_seam}
use Rattle.mo_ar.specs.Chain.{Link, Leads, IsChain, chain, chain_from, end_of}
use Rattle.mo_ar.specs.inner.Tables.{IsRising}
use Rattle.mo_ar.specs.inner.Tables.{IsWalked}
use Rattle.mo_ar.specs.Member.{is_header, long_name, member_at, name_at, named, next_of, size_at, sized}
use Rattle.mo_ar.specs.inner.Tables.{IsWithin}
use Rattle.mo_ar.specs.declared.chain.Walked.{Walked}
use Rattle.mo_ar.specs.declared.member.Member.{Member}

named_within : (bytes : List ℕ) (at size : ℕ) (long : Option ℕ) (member : Member) → at + 60 + size ≤ length bytes → named bytes at size long ≡ Some member → IsWithin (length bytes) at member
named_within bytes at size None member fits is = grind (arith, tests)
named_within bytes at size (Some n) member fits is = grind (arith, tests)

fitting_within : (bytes : List ℕ) (at size : ℕ) (member : Member) (fits : Bool) → (fits ≡ true → at + 60 + size ≤ length bytes) → (if fits then named bytes at size (long_name (name_at bytes at)) else None) ≡ Some member → IsWithin (length bytes) at member
fitting_within bytes at size member true fits is =
    named_within bytes at size (long_name (name_at bytes at)) member (fits refl) is
fitting_within bytes at size member false fits is = cc

sized_within : (bytes : List ℕ) (at : ℕ) (size : Option ℕ) (member : Member) → sized bytes at size ≡ Some member → IsWithin (length bytes) at member
sized_within bytes at None member is = cc
sized_within bytes at (Some n) member is =
    fitting_within bytes at n member (nat_le (at + 60 + n) (length bytes)) (λ fits. grind (arith, tests)) is

headed_within : (bytes : List ℕ) (at : ℕ) (member : Member) (headed : Bool) → (if headed then sized bytes at (size_at bytes at) else None) ≡ Some member → IsWithin (length bytes) at member
headed_within bytes at member true is = sized_within bytes at (size_at bytes at) member is
headed_within bytes at member false is = cc

pub member_within : (bytes : List ℕ) (at : ℕ) (member : Member) → member_at bytes at ≡ Some member → IsWithin (length bytes) at member
unfolding member_at
member_within bytes at member is = headed_within bytes at member (is_header bytes at) is

-- headers are read up to a place
pub record IsWalking (bytes : List ℕ) (from : ℕ) (places : List ℕ) (members : List Member) (at : ℕ) : Type 0 where
  pub links : List Link
  pub leads : Leads bytes from links at
  pub placed : places ≡ map (λ link. link.place) links
  pub read : members ≡ map (λ link. link.member) links
  pub rising : IsRising (length bytes) places
  pub below : (i : ℕ) → i < length places → get_or places i 0 + 60 ≤ at

pub walk_starts : (bytes : List ℕ) (from : ℕ) → IsWalking bytes from [] [] from
walk_starts bytes from = record {
  links = [];
  leads = refl;
  placed = refl;
  read = refl;
  rising = record { apart = λ i k low high. absurd (omega arith); within = λ i low. absurd (omega arith) };
  below = λ i low. absurd (omega arith);
}

leads_on : (bytes : List ℕ) (from : ℕ) (links : List Link) (at : ℕ) (member : Member) → Leads bytes from links at → member_at bytes at ≡ Some member → Leads bytes from (links ++ record { place = at; member = member } ∷ []) (next_of member)
leads_on bytes from [] at member leads is = (sym leads, rw leads is, refl)
leads_on bytes from (link ∷ links) at member leads is =
    (leads.0, leads.1, leads_on bytes (next_of link.member) links at member leads.2 is)

in_front : (places : List ℕ) (at i : ℕ) → i < length places → get_or (places ++ at ∷ []) i 0 ≡ get_or places i 0
in_front places at i low = get_or_append_left places (at ∷ []) 0 i low

at_the_end : (places : List ℕ) (at i : ℕ) → i ≡ length places → get_or (places ++ at ∷ []) i 0 ≡ at
at_the_end places at i is = rw is (get_or-append_seam places at [] 0)

one_more : (places : List ℕ) (at : ℕ) → length (places ++ at ∷ []) ≡ length places + 1
one_more places at = length-append places (at ∷ [])

rising_on : (size : ℕ) (places : List ℕ) (at : ℕ) → IsRising size places → ((i : ℕ) → i < length places → get_or places i 0 + 60 ≤ at) → at + 60 ≤ size → IsRising size (places ++ at ∷ [])
rising_on size places at rising below fits =
    let longer : length (places ++ at ∷ []) ≡ length places + 1 = one_more places at in
    record {
      apart = λ i k low high.
          below_more (λ (j : ℕ). i < j → get_or (places ++ at ∷ []) i 0 + 60 ≤ get_or (places ++ at ∷ []) j 0) (length places)
          (λ j inside before. rw (in_front places at j inside, in_front places at i (omega arith)) (rising.apart i j before inside))
          (λ before. rw (at_the_end places at (length places) refl, in_front places at i before) (below i before))
          k
          (omega arith)
          low;
      within = λ i low.
          below_more (λ (j : ℕ). get_or (places ++ at ∷ []) j 0 + 60 ≤ size) (length places)
          (λ j inside. rw (in_front places at j inside) (rising.within j inside))
          (rw (at_the_end places at (length places) refl) fits)
          i
          (omega arith);
    }

pub walk_goes_on : (bytes : List ℕ) (from : ℕ) (places : List ℕ) (members : List Member) (at : ℕ) (member : Member) → IsWalking bytes from places members at → Some member ≡ member_at bytes at → IsWithin (length bytes) at member → IsWalking bytes from (places ++ at ∷ []) (members ++ member ∷ []) (next_of member)
walk_goes_on bytes from places members at member walking is within =
    let link : Link = record { place = at; member = member } in
    let longer : length (places ++ at ∷ []) ≡ length places + 1 = one_more places at in
    let header : at + 60 ≤ member.from = within.header in
    let contents : member.from + member.size ≤ length bytes = within.contents in
    record {
      links = walking.links ++ link ∷ [];
      leads = leads_on bytes from walking.links at member walking.leads (sym is);
      placed = ap (λ (xs : List ℕ). xs ++ at ∷ []) walking.placed ∙ sym (map-append (λ (l : Link). l.place) walking.links (link ∷ []));
      read = ap (λ (xs : List Member). xs ++ member ∷ []) walking.read ∙ sym (map-append (λ (l : Link). l.member) walking.links (link ∷ []));
      rising = rising_on (length bytes) places at walking.rising walking.below (omega arith);
      below = λ i low.
          below_more (λ (j : ℕ). get_or (places ++ at ∷ []) j 0 + 60 ≤ next_of member) (length places)
          (λ j inside. rw (in_front places at j inside) (omega (arith, walking.below j inside)))
          (rw (at_the_end places at (length places) refl) (omega arith))
          i
          (omega arith);
    }

some_same : (a b : Member) → Some a ≡ Some b → a ≡ b
some_same a b is = cc

same_link : (p q : Link) → p.place ≡ q.place → p.member ≡ q.member → p ≡ q
same_link p q place member =
    let a : p ≡ record { place = q.place; member = p.member } = ap (λ (x : ℕ). record { place = x; member = p.member }) place in
    let b : record { place = q.place; member = p.member } ≡ q = ap (λ (x : Member). record { place = q.place; member = x }) member in
    a ∙ b

pub same_chain : (bytes : List ℕ) (at : ℕ) (xs ys : List Link) (x y : ℕ) → Leads bytes at xs x → member_at bytes x ≡ None → Leads bytes at ys y → member_at bytes y ≡ None → xs ≡ ys
same_chain bytes at [] [] x y to_x none_x to_y none_y = refl
same_chain bytes at [] (q ∷ qs) x y to_x none_x to_y none_y =
    let here : member_at bytes at ≡ Some q.member = to_y.1 in
    let none : member_at bytes at ≡ None = rw to_x none_x in
    cc
same_chain bytes at (p ∷ ps) [] x y to_x none_x to_y none_y =
    let here : member_at bytes at ≡ Some p.member = to_x.1 in
    let none : member_at bytes at ≡ None = rw to_y none_y in
    cc
same_chain bytes at (p ∷ ps) (q ∷ qs) x y to_x none_x to_y none_y =
    let m : q.member ≡ p.member = some_same q.member p.member (sym to_y.1 ∙ to_x.1) in
    let rest : Leads bytes (next_of p.member) qs y = subst (λ (z : Member). Leads bytes (next_of z) qs y) m to_y.2 in
    let tails : ps ≡ qs = same_chain bytes (next_of p.member) ps qs x y to_x.2 none_x rest none_y in
    let heads : p ≡ q = same_link p q (to_x.0 ∙ sym to_y.0) (sym m) in
    ap (λ (l : Link). l ∷ ps) heads ∙ ap (λ (ls : List Link). q ∷ ls) tails

none_past : (bytes : List ℕ) (at : ℕ) (found : Option Member) → member_at bytes at ≡ found → length bytes ≤ at → found ≡ None
none_past bytes at None is past = refl
none_past bytes at (Some member) is past =
    let within : IsWithin (length bytes) at member = member_within bytes at member is in
    let header : at + 60 ≤ member.from = within.header in
    let contents : member.from + member.size ≤ length bytes = within.contents in
    absurd (omega arith)

chain_on : (bytes : List ℕ) (n at : ℕ) (found : Option Member) → member_at bytes at ≡ found → ((member : Member) → found ≡ Some member → IsChain bytes (next_of member) (chain_from bytes n (next_of member)) (end_of (next_of member) (chain_from bytes n (next_of member)))) → IsChain bytes at (option_map_or (λ member. record { place = at; member = member } ∷ chain_from bytes n (next_of member)) found []) (end_of at (option_map_or (λ member. record { place = at; member = member } ∷ chain_from bytes n (next_of member)) found []))
chain_on bytes n at None is rest = record { leads = refl; ends = is }
chain_on bytes n at (Some member) is rest =
    record { leads = (refl, is, (rest member refl).leads); ends = (rest member refl).ends }

nearer : (bytes : List ℕ) (n at : ℕ) (member : Member) → length bytes ≤ at + suc n → member_at bytes at ≡ Some member → length bytes ≤ next_of member + n
nearer bytes n at member enough is =
    let within : IsWithin (length bytes) at member = member_within bytes at member is in
    let header : at + 60 ≤ member.from = within.header in
    omega arith

pub chain_is : (bytes : List ℕ) (n at : ℕ) → length bytes ≤ at + n → IsChain bytes at (chain_from bytes n at) (end_of at (chain_from bytes n at))
unfolding chain_from
chain_is bytes zero at enough =
    record { leads = refl; ends = none_past bytes at (member_at bytes at) refl (omega arith) }
chain_is bytes (suc n) at enough =
    chain_on bytes n at (member_at bytes at) refl (λ member is. chain_is bytes n (next_of member) (nearer bytes n at member enough is))

pub leads_to_end : (bytes : List ℕ) (at : ℕ) (links : List Link) (to : ℕ) → Leads bytes at links to → to ≡ end_of at links
leads_to_end bytes at [] to leads = sym leads
leads_to_end bytes at (link ∷ links) to leads = leads_to_end bytes (next_of link.member) links to leads.2

pub walk_ends : (bytes : List ℕ) (from : ℕ) (walked : Walked) → IsWalking bytes from walked.places.items walked.members.items walked.end → member_at bytes walked.end ≡ None → IsWalked bytes from walked
walk_ends bytes from walked walking none =
    let is : IsChain bytes from (chain bytes from) (end_of from (chain bytes from)) = chain_is bytes (length bytes) from (omega arith) in
    let same : walking.links ≡ chain bytes from =
    same_chain bytes from walking.links (chain bytes from) walked.end (end_of from (chain bytes from)) walking.leads none is.leads is.ends in
    record {
      places = walking.placed ∙ ap (map (λ (l : Link). l.place)) same;
      members = walking.read ∙ ap (map (λ (l : Link). l.member)) same;
      end = leads_to_end bytes from walking.links walked.end walking.leads ∙ ap (end_of from) same;
      rising = walking.rising;
    }

pub ruleset walks = (walk_starts, walk_goes_on)
