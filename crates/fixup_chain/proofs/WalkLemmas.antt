-- The words of pointers and the first fault, one pointer after the other.
use Rattle.std.proofs.Common.{◌≡◌, ℕ, ◌+◌, ◌<◌, ◌≤◌, Bool, List, [], ◌∷◌, ◌++◌, length, map, take, get_or, Option, sym, ap, ◌∙◌}
use Rattle.std.proofs.lemmas.List.{map-append, take_all, take_more}
use Rattle.sect_place.specs.declared.layout.Layout.{Layout}
use Rattle.fixup_chain.specs.Faults.{target_of}
use Rattle.fixup_chain.specs.ImportOrder.{Import}
use Rattle.fixup_chain.specs.Places.{addresses_of, steps_to_next}
use Rattle.fixup_chain.specs.Words.{chain_word, word_by, words_of}
use Rattle.fixup_chain.specs.inner.Turn.{IsFirst}
use Rattle.fixup_chain.specs.declared.chains.ChainWord.{ChainWord}
use Rattle.fixup_chain.specs.declared.chains.Fixup.{Fixup}

pub record IsWalk (layout : Layout) (wide : Bool) (imports : List Import) (fixups : List Fixup) (at : ℕ) (made : List ChainWord) (found : Option ℕ) : Type 0 where
  pub words : made ≡ map (chain_word (target_of layout) wide imports (addresses_of fixups)) (take at fixups)
  pub first : IsFirst layout fixups at found

pub walk_goes_on : (layout : Layout) (wide : Bool) (imports : List Import) (fixups : List Fixup) (at : ℕ) (words new : List ChainWord) (before first : Option ℕ) (x : Fixup) (next word : ℕ) → IsWalk layout wide imports fixups at words before → at < length fixups → x ≡ get_or fixups at x → next ≡ steps_to_next (addresses_of fixups) x.address → word ≡ word_by wide imports (target_of layout x) next x → IsFirst layout fixups (at + 1) first → new ≡ words ++ record { address = x.address; word = word } ∷ [] → IsWalk layout wide imports fixups (at + 1) new first
unfolding chain_word
walk_goes_on layout wide imports fixups at words new before first x next word walk within is n w f grown =
    let one = chain_word (target_of layout) wide imports (addresses_of fixups) in
    let value : word ≡ (one x).word = w ∙ ap (λ (k : ℕ). word_by wide imports (target_of layout x) k x) n in
    let made : ChainWord = record { address = x.address; word = word } in
    let here : made ≡ one (get_or fixups at x) = ap (λ (k : ℕ). let c : ChainWord = record { address = x.address; word = k } in c) value ∙ ap one is in
    record {
      words =
          grown
          ∙ ap (λ (xs : List ChainWord). xs ++ made ∷ []) walk.words
          ∙ ap (λ (c : ChainWord). map one (take at fixups) ++ c ∷ []) here
          ∙ sym (ap (map one) (take_more fixups at x within) ∙ map-append one (take at fixups) (get_or fixups at x ∷ []));
      first = f;
    }

pub walk_ends : (layout : Layout) (wide : Bool) (imports : List Import) (fixups : List Fixup) (at : ℕ) (words : List ChainWord) (first : Option ℕ) → IsWalk layout wide imports fixups at words first → length fixups ≤ at → words ≡ words_of (target_of layout) wide imports fixups
unfolding words_of
walk_ends layout wide imports fixups at words first walk past = walk.words ∙ ap (map (chain_word (target_of layout) wide imports (addresses_of fixups))) (take_all at fixups past)

pub ruleset walking = (walk_ends)
