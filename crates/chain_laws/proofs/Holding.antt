-- The segment that holds an address, in the image and in the layout.
use Rattle.std.proofs.Common.{◌≡◌, ℕ, zero, suc, ◌+◌, ◌-◌, ◌<◌, ◌≤◌, ◌&&◌, ◌⊎◌, Bool, true, false, List, [], ◌∷◌, length, get_or, map, nat_le, nat_lt, Option, Some, None, if◌then◌else◌, refl, sym, ap, ◌∙◌, inl, inr, arith}
use Rattle.std.specs.List.{filter}
use Rattle.std.proofs.lemmas.Bool.{le-leb, leb-true, lt-ltb, ltb-true, false≢true}
use Rattle.list_lemmas.proofs.Members.{In}
use Rattle.mo_format.specs.Segment.{segment_command_at}
use Rattle.mo_format.specs.declared.segment.SegmentCommand.{SegmentCommand}
use Rattle.sect_place.specs.declared.layout.Segment.{Segment}
use Rattle.fixup_chain.specs.Places.{is_in}
use Rattle.image_read.specs.Commands.{cmdsize, commands_from, commands_of, ncmds}
use Rattle.image_read.specs.Fixups.{holding_from, holding_of}
use Rattle.image_read.specs.Mapped.{holds, is_segment}
use Rattle.image_read.specs.declared.fixups.Holding.{Holding}
use Rattle.chain_laws.specs.Carried.{StandAs, segments_of}

abbrev pub held_by : ℕ → ℕ → Holding
held_by index vmaddr = record { index = index; vmaddr = vmaddr }

-- the first of some segments that holds an address, by its index from a number on
abbrev pub holding_in : ℕ → ℕ → List SegmentCommand → Option Holding
holding_in address index [] = None
holding_in address index (c ∷ cs) = if holds address c then Some (held_by index c.vmaddr) else holding_in address (index + 1) cs

listed : (image : List ℕ) (address index n at : ℕ) → holding_from image address index n at ≡ holding_in address index (map (segment_command_at image) (filter (is_segment image) (commands_from image n at)))
unfolding holding_from
listed image address index zero at = refl
listed image address index (suc n) at = by (is_segment image at) refl (λ i. listed image address i n (at + cmdsize image at))
  where
    by : (b : Bool) → is_segment image at ≡ b → ((i : ℕ) → holding_from image address i n (at + cmdsize image at) ≡ holding_in address i (map (segment_command_at image) (filter (is_segment image) (commands_from image n (at + cmdsize image at))))) → holding_from image address index (suc n) at ≡ holding_in address index (map (segment_command_at image) (filter (is_segment image) (commands_from image (suc n) at)))
    by true e rest = rw e (rw (rest (index + 1)) refl)
    by false e rest = rw e (rest index)

pub holding_is : (image : List ℕ) (address : ℕ) → holding_of image address ≡ holding_in address 0 (segments_of image)
unfolding holding_of segments_of commands_of
holding_is image address = listed image address 0 (ncmds image) 32

-- a segment of the layout, by its index
pub record IsAmong (segments : List Segment) (address index : ℕ) (holding : Holding) : Type 0 where
  pub segment : Segment
  pub k : ℕ
  pub index_is : holding.index ≡ index + k
  pub within : k < length segments
  pub is : get_or segments k segment ≡ segment
  pub vmaddr : holding.vmaddr ≡ segment.address
  pub above : segment.address ≤ address

both : (a b : Bool) → (a && b) ≡ true → (a ≡ true) × (b ≡ true)
both true true e = (refl, refl)
both true false e = cc
both false b e = cc

held_above : (address : ℕ) (c : SegmentCommand) → holds address c ≡ true → c.vmaddr ≤ address
held_above address c e = leb-true c.vmaddr address (both (nat_le c.vmaddr address) (nat_lt address (c.vmaddr + c.vmsize)) e).0

-- a segment that holds an address is one of the layout's
pub among_layout : (commands : List SegmentCommand) (segments : List Segment) (address index : ℕ) (holding : Holding) → StandAs commands segments → holding_in address index commands ≡ Some holding → IsAmong segments address index holding
among_layout [] segments address index holding stand e = absurd (let f : ⊥ = cc in f)
among_layout (c ∷ cs) [] address index holding stand e = absurd stand
among_layout (c ∷ cs) (s ∷ []) address index holding stand e = by (holds address c) refl e
  where
    by : (b : Bool) → holds address c ≡ b → (if b then Some (held_by index c.vmaddr) else holding_in address (index + 1) cs) ≡ Some holding → IsAmong (s ∷ []) address index holding
    by true h f =
        let same : held_by index c.vmaddr ≡ holding = cc in
        record {
          segment = s;
          k = 0;
          index_is = (let i : index ≡ holding.index = ap (λ (x : Holding). x.index) same in omega (arith, i));
          within = omega arith;
          is = refl;
          vmaddr = sym (ap (λ (x : Holding). x.vmaddr) same) ∙ stand.0;
          above = (let low : c.vmaddr ≤ address = held_above address c h in omega (arith, low, stand.0));
        }
    by false h f = absurd (let none : holding_in address (index + 1) cs ≡ None = rw stand.2 refl in let g : ⊥ = cc in g)
among_layout (c ∷ cs) (s ∷ t ∷ ss) address index holding stand e = by (holds address c) refl e (λ f. among_layout cs (t ∷ ss) address (index + 1) holding stand.2 f)
  where
    by : (b : Bool) → holds address c ≡ b → (if b then Some (held_by index c.vmaddr) else holding_in address (index + 1) cs) ≡ Some holding → (holding_in address (index + 1) cs ≡ Some holding → IsAmong (t ∷ ss) address (index + 1) holding) → IsAmong (s ∷ t ∷ ss) address index holding
    by true h f later =
        let same : held_by index c.vmaddr ≡ holding = cc in
        record {
          segment = s;
          k = 0;
          index_is = (let i : index ≡ holding.index = ap (λ (x : Holding). x.index) same in omega (arith, i));
          within = omega arith;
          is = refl;
          vmaddr = sym (ap (λ (x : Holding). x.vmaddr) same) ∙ stand.0;
          above = (let low : c.vmaddr ≤ address = held_above address c h in omega (arith, low, stand.0));
        }
    by false h f later =
        let rest = later f in
        record {
          segment = rest.segment;
          k = suc rest.k;
          index_is = omega (arith, rest.index_is);
          within = omega (arith, rest.within);
          is = rest.is;
          vmaddr = rest.vmaddr;
          above = rest.above;
        }

-- an address of one of the layout's segments is held by a segment in which it is
pub record IsWithin (commands : List SegmentCommand) (segments : List Segment) (address index : ℕ) : Type 0 where
  pub segment : Segment
  pub k : ℕ
  pub within : k < length segments
  pub is : get_or segments k segment ≡ segment
  pub found : holding_in address index commands ≡ Some (held_by (index + k) segment.address)
  pub inside : is_in segment address ≡ true

not_both : (a b : Bool) → (a ≡ true → b ≡ true → ⊥) → (a && b) ≡ false
not_both true true never = absurd (never refl refl)
not_both true false never = refl
not_both false b never = refl

-- an address is one of a segment's, in the image and in the layout alike
held_alike : (address : ℕ) (c : SegmentCommand) (s : Segment) → c.vmaddr ≡ s.address → c.vmsize ≡ s.vmsize → holds address c ≡ is_in s address
held_alike address c s a z = by (holds address c) refl
  where
    by : (b : Bool) → holds address c ≡ b → holds address c ≡ is_in s address
    by true e =
        let p = both (nat_le c.vmaddr address) (nat_lt address (c.vmaddr + c.vmsize)) e in
        let low : c.vmaddr ≤ address = leb-true c.vmaddr address p.0 in
        let high : address < c.vmaddr + c.vmsize = ltb-true address (c.vmaddr + c.vmsize) p.1 in
        let l : s.address ≤ address = omega (arith, low, a) in
        let h : address - s.address < s.vmsize = omega (arith, high, low, a, z) in
        e ∙ sym (rw (le-leb s.address address l, lt-ltb (address - s.address) s.vmsize h) refl)
    by false e = e ∙ sym (not_both (nat_le s.address address) (nat_lt (address - s.address) s.vmsize) (λ p q.
        let low : s.address ≤ address = leb-true s.address address p in
        let high : address - s.address < s.vmsize = ltb-true (address - s.address) s.vmsize q in
        let l : c.vmaddr ≤ address = omega (arith, low, a) in
        let h : address < c.vmaddr + c.vmsize = omega (arith, high, low, a, z) in
        let yes : holds address c ≡ true = rw (le-leb c.vmaddr address l, lt-ltb address (c.vmaddr + c.vmsize) h) refl in
        false≢true (sym e ∙ yes)))

empty_segment : (s : Segment) (address : ℕ) → s.vmsize ≡ 0 → is_in s address ≡ true → ⊥
empty_segment s address none e =
    let p = both (nat_le s.address address) (nat_lt (address - s.address) s.vmsize) e in
    let high : address - s.address < s.vmsize = ltb-true (address - s.address) s.vmsize p.1 in
    omega (arith, high, none)

pub within_layout : (commands : List SegmentCommand) (segments : List Segment) (address index : ℕ) (one : Segment) → StandAs commands segments → In one segments → is_in one address ≡ true → IsWithin commands segments address index
within_layout commands [] address index one stand h inside = absurd h
within_layout [] (s ∷ ss) address index one stand h inside = absurd stand
within_layout (c ∷ cs) (s ∷ []) address index one stand (inl e) inside = absurd (empty_segment s address stand.1 (rw e inside))
within_layout (c ∷ cs) (s ∷ []) address index one stand (inr h) inside = absurd h
within_layout (c ∷ cs) (s ∷ t ∷ ss) address index one stand h inside = by (is_in s address) refl (λ there. within_layout cs (t ∷ ss) address (index + 1) one stand.2 there inside)
  where
    alike : holds address c ≡ is_in s address
    alike = held_alike address c s stand.0 stand.1

    later : is_in s address ≡ false → (s ≡ one) ⊎ In one (t ∷ ss) → In one (t ∷ ss)
    later e (inl same) = absurd (false≢true (sym e ∙ rw same inside))
    later e (inr there) = there

    by : (b : Bool) → is_in s address ≡ b → (In one (t ∷ ss) → IsWithin cs (t ∷ ss) address (index + 1)) → IsWithin (c ∷ cs) (s ∷ t ∷ ss) address index
    by true e others =
        let yes : holds address c ≡ true = alike ∙ e in
        let place : index ≡ index + 0 = omega arith in
        record {
          segment = s;
          k = 0;
          within = omega arith;
          is = refl;
          found = rw yes (ap (λ (i : ℕ). Some (held_by i c.vmaddr)) place ∙ ap (λ (v : ℕ). Some (held_by (index + 0) v)) stand.0);
          inside = e;
        }
    by false e others =
        let no : holds address c ≡ false = alike ∙ e in
        let rest = others (later e h) in
        let place : index + 1 + rest.k ≡ index + suc rest.k = omega arith in
        record {
          segment = rest.segment;
          k = suc rest.k;
          within = omega (arith, rest.within);
          is = rest.is;
          found = rw no (rest.found ∙ ap (λ (i : ℕ). Some (held_by i rest.segment.address)) place);
          inside = rest.inside;
        }
