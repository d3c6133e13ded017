-- What is found of libraries is what they reach and provide.
use Rattle.std.proofs.Common.{◌≡◌, ℕ, ◌<◌, ◌≤◌, ◌⊎◌, List, [], length, get_or, Contains, sym, ap, subst, ◌∙◌, inl, inr, arith}
use Rattle.std.specs.Prelude.{zip}
use Rattle.std.proofs.Math.ListN.{get_or-eq_default}
use Rattle.std.proofs.lemmas.Option.{slice_get-get_or}
use Rattle.list_lemmas.proofs.Members.{in_from_Contains}
use Rattle.mo_types.specs.Scan.{first_some}
use Rattle.tbd_doc.specs.declared.stub.Stub.{Stub}
use Rattle.lib_bind.specs.Graph.{AreLibraries, AreLinks, AreReaches}
use Rattle.lib_bind.specs.Provides.{offer_by, offer_of}
use Rattle.lib_bind.specs.declared.index.NameIndex.{NameIndex}
use Rattle.lib_bind.specs.declared.library.Library.{Library}
use Rattle.lib_bind.specs.declared.library.LibraryGraph.{LibraryGraph}
use Rattle.lib_bind.specs.inner.Index.{IsIndexed, known}
use Rattle.lib_bind.proofs.ReachLemmas.{reached_below}
use Rattle.lib_bind.proofs.ReachedLemmas.{no_library}

pub within_or_past : (at n : ℕ) → (at < n) ⊎ (n ≤ at)
within_or_past at n = grind arith

below : (libraries : List Library) (links reach : List (List ℕ)) (documents at d : ℕ) → AreLinks documents links → AreLibraries documents libraries → AreReaches libraries links reach → (at < length libraries) ⊎ (length libraries ≤ at) → Contains (get_or reach at []) d → d < documents
below libraries links reach documents at d are libs reaches (inl within) there =
    let each : length links ≡ documents = are.each in
    let low : (get_or libraries at no_library).document < documents = libs.within at (get_or libraries at no_library) (slice_get-get_or libraries at no_library within) in
    let result : d < length links = reached_below links (get_or libraries at no_library).document d (subst (λ (n : ℕ). AreLinks n links) (sym each) are) (omega (arith, each, low))
    ((reaches.reached at (get_or libraries at no_library) (slice_get-get_or libraries at no_library within)).only d there) in
    omega (arith, each, result)
below libraries links reach documents at d are libs reaches (inr past) there =
    let each : length reach ≡ length libraries = reaches.each in
    let none : get_or reach at [] ≡ [] = get_or-eq_default reach [] (omega (arith, each, past)) in
    absurd (in_from_Contains [] d (subst (λ (ds : List ℕ). Contains ds d) none there))

pub reach_below : (libraries : List Library) (links reach : List (List ℕ)) (documents : ℕ) → AreLinks documents links → AreLibraries documents libraries → AreReaches libraries links reach → (at d : ℕ) → Contains (get_or reach at []) d → d < documents
reach_below libraries links reach documents are libs reaches at d there = below libraries links reach documents at d are libs reaches (within_or_past at (length libraries)) there

names : (graph : LibraryGraph) (index : NameIndex) → ((name : List ℕ) → known index name ≡ first_some (offer_by graph.documents name) (zip graph.libraries graph.reach)) → (name : List ℕ) → known index name ≡ offer_of graph name
unfolding offer_of
names graph index known_are name = known_are name

pub indexed : (libraries read_libraries : List Library) (documents read_documents : List Stub) (links read_links reach : List (List ℕ)) (index : NameIndex) → read_libraries ≡ libraries → read_documents ≡ documents → read_links ≡ links
    → AreLinks (length documents) links → AreLibraries (length documents) libraries → AreReaches read_libraries read_links reach
    → ((name : List ℕ) → known index name ≡ first_some (offer_by read_documents name) (zip read_libraries reach))
    → IsIndexed (record { libraries = libraries; documents = documents; links = links; reach = reach }) index
indexed libraries read_libraries documents read_documents links read_links reach index l d k are libs reaches known_are = record {
  whole = record { links = are; libraries = libs; reach = subst (λ (ls : List Library). AreReaches ls links reach) l (subst (λ (ks : List (List ℕ)). AreReaches read_libraries ks reach) k reaches) };
  names = names (record { libraries = libraries; documents = documents; links = links; reach = reach }) index
      (λ name. known_are name ∙ ap (λ (ds : List Stub). first_some (offer_by ds name) (zip read_libraries reach)) d ∙ ap (λ (ls : List Library). first_some (offer_by documents name) (zip ls reach)) l);
}
