-- The walk along a page's chain goes through the page's pointers.
use Rattle.std.proofs.Common.{◌≡◌, ◌⊎◌, ℕ, zero, suc, ◌+◌, ◌-◌, ◌*◌, ◌/◌, ◌%◌, ◌^◌, ◌<◌, ◌≤◌, ◌==◌, Bool, true, false, List, [], ◌∷◌, length, get_or, nat_lt, Some, None, Ok, refl, sym, ap, ◌∙◌, inl, inr, arith}
use Rattle.std.proofs.lemmas.Bool.{cases_eq, cases_lt, eq-eqb, eqb-true, ltb-true}
use Rattle.fixup_chain.specs.Encoded.{AreApart}
use Rattle.fixup_chain.specs.Places.{addresses_of, page_of, steps_to_next}
use Rattle.fixup_chain.specs.declared.chains.Fixup.{Fixup}
use Rattle.fixup_chain.proofs.PlaceLemmas.{in_turn, not_below, steps_missing, steps_there}
use Rattle.image_read.specs.Fixups.{PAGE, chain_from, held_at, held_on, known, long_at, next_of, pointer_at}
use Rattle.chain_laws.proofs.Steps.{goes_on}

-- Pointers are in memory by their words, each with the distance to the next one of its page.
pub record AreInMemory (image : List ℕ) (fixups : List Fixup) (word : Fixup → ℕ) : Type 0 where
  pub apart : AreApart fixups
  pub there : (k : ℕ) (d : Fixup) → k < length fixups → long_at image (get_or fixups k d).address ≡ Some (word (get_or fixups k d))
  pub next : (k : ℕ) (d : Fixup) → k < length fixups → next_of (word (get_or fixups k d)) ≡ steps_to_next (addresses_of fixups) (get_or fixups k d).address
  pub four : (k : ℕ) (d : Fixup) → k < length fixups → (get_or fixups k d).address % 4 ≡ 0
  pub one_page : (k : ℕ) (d : Fixup) → k < length fixups → (get_or fixups k d).address % PAGE + 8 ≤ PAGE
  pub low : (k : ℕ) (d : Fixup) → k < length fixups → (get_or fixups k d).address + 8 ≤ 2 ^ 64

-- ---- a step of the walk

not_below_test : (a b : ℕ) → b ≤ a → nat_lt a b ≡ false
not_below_test a b high = by (nat_lt a b) refl
  where
    by : (t : Bool) → nat_lt a b ≡ t → nat_lt a b ≡ false
    by true e = let less : a < b = ltb-true a b e in absurd (omega (arith, less, high))
    by false e = e

not_same_test : (a b : ℕ) → (a ≡ b → ⊥) → (a == b) ≡ false
not_same_test a b other = by (a == b) refl
  where
    by : (t : Bool) → (a == b) ≡ t → (a == b) ≡ false
    by true e = absurd (other (eqb-true a b e))
    by false e = e

pointer_there : (image : List ℕ) (base at address word : ℕ) → base + at ≡ address → at + 8 ≤ PAGE → address + 8 ≤ 2 ^ 64 → long_at image address ≡ Some word → pointer_at image base at ≡ Some word
pointer_there image base at address word place page low there =
    let first : nat_lt PAGE (at + 8) ≡ false = not_below_test PAGE (at + 8) page in
    let second : nat_lt (2 ^ 64) (base + at + 8) ≡ false = not_below_test (2 ^ 64) (base + at + 8) (omega (arith, place, low)) in
    rw (first, second) (ap (long_at image) place ∙ there)

chain_ends : (image : List ℕ) (base n at word : ℕ) → pointer_at image base at ≡ Some word → next_of word ≡ 0 → chain_from image base (suc n) at ≡ Ok ((at, word) ∷ [])
unfolding chain_from
chain_ends image base n at word there last =
    let test : (next_of word == 0) ≡ true = eq-eqb (next_of word) 0 last in
    goes_on (known (pointer_at image base at)) word _ (Ok ((at, word) ∷ [])) (ap known there) (rw test refl)

chain_more : (image : List ℕ) (base n at word steps to : ℕ) (rest : List (ℕ × ℕ)) → pointer_at image base at ≡ Some word → next_of word ≡ steps → (steps ≡ 0 → ⊥) → at + 4 * steps ≡ to → chain_from image base n to ≡ Ok rest → chain_from image base (suc n) at ≡ Ok ((at, word) ∷ rest)
unfolding chain_from
chain_more image base n at word steps to rest there next some place others =
    let test : (next_of word == 0) ≡ false = not_same_test (next_of word) 0 (λ e. some (sym next ∙ e)) in
    let here : at + 4 * next_of word ≡ to = ap (λ (s : ℕ). at + 4 * s) next ∙ place in
    goes_on (known (pointer_at image base at)) word _ (Ok ((at, word) ∷ rest)) (ap known there)
    (rw (test, here) (goes_on (chain_from image base n to) rest _ (Ok ((at, word) ∷ rest)) others refl))

-- ---- the whole walk from a pointer on

pub record IsRun (image : List ℕ) (fixups : List Fixup) (word : Fixup → ℕ) (page n i : ℕ) (d : Fixup) : Type 0 where
  pub pointers : List (ℕ × ℕ)
  pub is : chain_from image (page * PAGE) n ((get_or fixups i d).address % PAGE) ≡ Ok pointers
  pub hit : (k : ℕ) → i ≤ k → k < length fixups → page_of (get_or fixups k d).address ≡ page → held_at ((get_or fixups k d).address % PAGE) pointers ≡ Some (word (get_or fixups k d))
  pub miss : (place : ℕ) → ((k : ℕ) → i ≤ k → k < length fixups → page_of (get_or fixups k d).address ≡ page → (get_or fixups k d).address % PAGE ≡ place → ⊥) → held_at place pointers ≡ None

held_first : (at place word : ℕ) (rest : List (ℕ × ℕ)) → at ≡ place → held_at place ((at, word) ∷ rest) ≡ Some word
held_first at place word rest e = let test : (at == place) ≡ true = eq-eqb at place e in rw test refl

held_later : (at place word : ℕ) (rest : List (ℕ × ℕ)) → (at ≡ place → ⊥) → held_at place ((at, word) ∷ rest) ≡ held_at place rest
held_later at place word rest other = let test : (at == place) ≡ false = not_same_test at place other in rw test refl

-- two pointers of a page have two places
other_place : (fixups : List Fixup) (page i k : ℕ) (d : Fixup) → AreApart fixups → i < k → k < length fixups → page_of (get_or fixups i d).address ≡ page → page_of (get_or fixups k d).address ≡ page → (get_or fixups i d).address % PAGE ≡ (get_or fixups k d).address % PAGE → ⊥
other_place fixups page i k d apart less within p q e =
    let far : (get_or fixups i d).address + 8 ≤ (get_or fixups k d).address = in_turn fixups i k d apart less within in
    omega (arith, far, p, q, e)

pub walk_from : (image : List ℕ) (fixups : List Fixup) (word : Fixup → ℕ) (page n i : ℕ) (d : Fixup) → AreInMemory image fixups word → i < length fixups → page_of (get_or fixups i d).address ≡ page → PAGE ≤ (get_or fixups i d).address % PAGE + 8 * n → IsRun image fixups word page n i d
walk_from image fixups word page zero i d m within on room = let full : (get_or fixups i d).address % PAGE + 8 ≤ PAGE = m.one_page i d within in absurd (omega (arith, full, room))
walk_from image fixups word page (suc n) i d m within on room = by (cases_lt (i + 1) (length fixups)) (λ inside also wide. walk_from image fixups word page n (i + 1) d m inside also wide)
  where
    a : ℕ
    a = (get_or fixups i d).address

    b : ℕ
    b = (get_or fixups (i + 1) d).address

    there : pointer_at image (page * PAGE) (a % PAGE) ≡ Some (word (get_or fixups i d))
    there =
        let place : page * PAGE + a % PAGE ≡ a = omega (arith, on) in
        pointer_there image (page * PAGE) (a % PAGE) a (word (get_or fixups i d)) place (m.one_page i d within) (m.low i d within) (m.there i d within)

    -- it is the page's last one
    last : steps_to_next (addresses_of fixups) a ≡ 0 → ((k : ℕ) → i < k → k < length fixups → page_of (get_or fixups k d).address ≡ page → ⊥) → IsRun image fixups word page (suc n) i d
    last none past = record {
      pointers = (a % PAGE, word (get_or fixups i d)) ∷ [];
      is = chain_ends image (page * PAGE) n (a % PAGE) (word (get_or fixups i d)) there (m.next i d within ∙ none);
      hit = λ k up inside also. elim (cases_eq i k) [
        | inl e ↦ held_first (a % PAGE) ((get_or fixups k d).address % PAGE) (word (get_or fixups i d)) [] (ap (λ (j : ℕ). (get_or fixups j d).address % PAGE) e) ∙ ap (λ (j : ℕ). Some (word (get_or fixups j d))) e
        | inr other ↦ absurd (past k (omega (arith, up, other)) inside also)
      ];
      miss = λ place none_there. held_later (a % PAGE) place (word (get_or fixups i d)) [] (none_there i (omega arith) within on);
    }

    -- another one follows on the page
    more : i + 1 < length fixups → page_of b ≡ page → (i + 1 < length fixups → page_of b ≡ page → PAGE ≤ b % PAGE + 8 * n → IsRun image fixups word page n (i + 1) d) → IsRun image fixups word page (suc n) i d
    more inside also next = follow (next inside also wide)
      where
        far : a + 8 ≤ b
        far = in_turn fixups i (i + 1) d m.apart (omega arith) inside

        wide : PAGE ≤ b % PAGE + 8 * n
        wide = omega (arith, room, far, on, also)

        steps : steps_to_next (addresses_of fixups) a ≡ (b - a) / 4
        steps = steps_there fixups i d m.apart inside (also ∙ sym on)

        some : (b - a) / 4 ≡ 0 → ⊥
        some e = omega (arith, e, far)

        reach : a % PAGE + 4 * ((b - a) / 4) ≡ b % PAGE
        reach =
            let first : a % 4 ≡ 0 = m.four i d within in
            let second : b % 4 ≡ 0 = m.four (i + 1) d inside in
            omega (arith, first, second, far, on, also)

        follow : IsRun image fixups word page n (i + 1) d → IsRun image fixups word page (suc n) i d
        follow run = record {
          pointers = (a % PAGE, word (get_or fixups i d)) ∷ run.pointers;
          is = chain_more image (page * PAGE) n (a % PAGE) (word (get_or fixups i d)) ((b - a) / 4) (b % PAGE) run.pointers there (m.next i d within ∙ steps) some reach run.is;
          hit = λ k up low same. elim (cases_eq i k) [
            | inl e ↦ held_first (a % PAGE) ((get_or fixups k d).address % PAGE) (word (get_or fixups i d)) run.pointers (ap (λ (j : ℕ). (get_or fixups j d).address % PAGE) e) ∙ ap (λ (j : ℕ). Some (word (get_or fixups j d))) e
            | inr other ↦
                held_later (a % PAGE) ((get_or fixups k d).address % PAGE) (word (get_or fixups i d)) run.pointers (other_place fixups page i k d m.apart (omega (arith, up, other)) low on same)
                ∙ run.hit k (omega (arith, up, other)) low same
          ];
          miss = λ place none_there.
              held_later (a % PAGE) place (word (get_or fixups i d)) run.pointers (none_there i (omega arith) within on)
              ∙ run.miss place (λ k up low same. none_there k (omega (arith, up)) low same);
        }

    by : (i + 1 < length fixups) ⊎ (length fixups ≤ i + 1) → (i + 1 < length fixups → page_of b ≡ page → PAGE ≤ b % PAGE + 8 * n → IsRun image fixups word page n (i + 1) d) → IsRun image fixups word page (suc n) i d
    by (inr past) next = last (steps_missing fixups i d m.apart within (λ inside e. omega (arith, inside, past))) (λ k less inside also. omega (arith, less, inside, past))
    by (inl inside) next = elim (cases_eq (page_of b) page) [
      | inl same ↦ more inside same next
      | inr other ↦
          last (steps_missing fixups i d m.apart within (λ room e. other (e ∙ on)))
          (λ k less low also.
          let up : b ≤ (get_or fixups k d).address = not_below fixups (i + 1) k d m.apart (omega (arith, less)) low in
          let far : a + 8 ≤ b = in_turn fixups i (i + 1) d m.apart (omega arith) inside in
          other (omega (arith, up, far, on, also)))
    ]

pub run_holds : (image : List ℕ) (base start place : ℕ) (pointers : List (ℕ × ℕ)) → chain_from image base 0x1001 start ≡ Ok pointers → held_on image base start place ≡ Ok (held_at place pointers)
unfolding held_on
run_holds image base start place pointers e = goes_on (chain_from image base 0x1001 start) pointers _ (Ok (held_at place pointers)) e refl
