-- The numbers stay those of documents, request by request.
use Rattle.std.proofs.Common.{◌≡◌, ℕ, ◌<◌, ◌≤◌, List, All, length, get_or, sym, ap, ◌∙◌, subst, arith}
use Rattle.std.proofs.lemmas.List.Elements.{All-get_or}
use Rattle.std.proofs.lemmas.Option.{slice_get-get_or}
use Rattle.lib_bind.specs.Closing.{linked}
use Rattle.lib_bind.specs.Graph.{AreLibraries, AreLinks}
use Rattle.lib_bind.specs.declared.closing.Closing.{Closing}
use Rattle.lib_bind.specs.declared.closing.Request.{Request}
use Rattle.lib_bind.specs.declared.library.Library.{Library}
use Rattle.lib_bind.specs.declared.sought.Target.{Target}
use Rattle.lib_bind.specs.inner.Held.{AreThere, IsHeld, IsRequestOf, Meets}
use Rattle.lib_bind.proofs.HeldLemmas.{heads_more, linked_held}

-- ---- a step

request_at : (n at : ℕ) (work slice : List Request) (request : Request) → slice ≡ work → at < length work → request ≡ get_or slice at request → All (IsRequestOf n) work → IsRequestOf n request
request_at n at work slice request same within is all =
    subst (IsRequestOf n) (sym (is ∙ ap (λ (requests : List Request). get_or requests at request) same)) (All-get_or (IsRequestOf n) work at request within all)

pub held_there : (n : ℕ) (heads : List (List ℕ × ℕ)) (closing : Closing) → IsHeld n heads closing → AreThere heads closing.growing
held_there n heads closing held = record { heads_are = heads_more n (length closing.growing.documents) heads held.more held.heads_are; grown = held.grown }

module _ (heads : List (List ℕ × ℕ)) (n at : ℕ) (closing : Closing) (slice : List Request) (request : Request)
    (same : slice ≡ closing.work) (within : at < length closing.work) (is : request ≡ get_or slice at request) (held : IsHeld n heads closing) where
  pub step_asks : IsRequestOf (length closing.growing.documents) request
  step_asks = request_at (length closing.growing.documents) at closing.work slice request same within is held.work

  module _ (there : Target) (meets : Meets closing.growing there) where
    pub step_held : (next : Closing) → next ≡ linked request.from closing.reached closing.work there → IsHeld n heads next
    step_held next made = subst (IsHeld n heads) (sym made) (linked_held n request.from heads closing there step_asks.from held meets)

    pub step_links : request.from < length there.growing.links
    step_links =
        let links : length there.growing.links ≡ length there.growing.documents = meets.grown.links in
        let more : length closing.growing.documents ≤ length there.growing.documents = meets.more in
        let from : request.from < length closing.growing.documents = step_asks.from in
        omega (arith, links, more, from)

    pub step_reexports : there.document < length there.growing.reexports
    step_reexports =
        let reexports : length there.growing.reexports ≡ length there.growing.documents = meets.grown.reexports in
        let low : there.document < length there.growing.documents = meets.there in
        omega (arith, reexports, low)

-- ---- steps

pub held_itself : (n : ℕ) (heads : List (List ℕ × ℕ)) (closing : Closing) → IsHeld n heads closing → IsHeld (length closing.growing.documents) heads closing
held_itself n heads closing held = record {
  heads_are = heads_more n (length closing.growing.documents) heads held.more held.heads_are;
  more = omega arith;
  grown = held.grown;
  work = held.work;
}

pub held_then : (n : ℕ) (heads : List (List ℕ × ℕ)) (closing next : Closing) → IsHeld n heads closing → IsHeld (length closing.growing.documents) heads next → IsHeld n heads next
held_then n heads closing next held then = record {
  heads_are = held.heads_are;
  more = omega (arith, held.more, then.more);
  grown = then.grown;
  work = then.work;
}

pub held_links : (n : ℕ) (heads : List (List ℕ × ℕ)) (closing : Closing) → IsHeld n heads closing → AreLinks (length closing.growing.documents) closing.growing.links
held_links n heads closing held = record { each = held.grown.links; within = held.grown.leads }

pub all_within : (n : ℕ) (libraries : List Library) → AreLibraries n libraries → All (λ (library : Library). library.document < n) libraries
all_within n libraries are = λ k d low. are.within k (get_or libraries k d) (slice_get-get_or libraries k d low)

pub held_libraries : (n : ℕ) (heads : List (List ℕ × ℕ)) (closing : Closing) (libraries : List Library) → IsHeld n heads closing → AreLibraries n libraries → AreLibraries (length closing.growing.documents) libraries
held_libraries n heads closing libraries held are = record {
  within = λ at library is. (let low : library.document < n = are.within at library is in let more : n ≤ length closing.growing.documents = held.more in omega (arith, low, more));
  ordinals = are.ordinals;
  rising = are.rising;
  few = are.few;
}
