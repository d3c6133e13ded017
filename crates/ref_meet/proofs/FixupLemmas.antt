-- All pointers of an image, as they are gathered.
use Rattle.std.proofs.Common.{◌≡◌, List, [], ◌++◌, sym, ap, subst, ◌∙◌, IsPermutation}
use Rattle.std.specs.List.{AllPairs, flat_map}
use Rattle.std.proofs.lemmas.Grind.{flat_map-append}
use Rattle.fixup_chain.specs.declared.chains.Fixup.{Fixup}
use Rattle.patch.specs.declared.range.PlacedWork.{PlacedWork}
use Rattle.slot_place.specs.Places.{starts_of}
use Rattle.ref_meet.specs.Pointers.{AreBeside, AreSpread, all_fixups, row_fixups, slot_fixups}
use Rattle.ref_meet.specs.Scene.{Scene}
use Rattle.ref_meet.proofs.GatherLemmas.{gathered}
use Rattle.ref_meet.proofs.PairLemmas.{by_mutual, pairs_permuted}

pub all_moved : (scene : Scene) (work front middle rest : List PlacedWork) (empty first got second tlv third : List Fixup) → work ≡ front ++ (middle ++ rest) → empty ≡ []
    → IsPermutation (empty ++ flat_map (row_fixups scene) front) first → got ≡ first ++ slot_fixups (starts_of scene.layout.sections).got scene.slots.got
    → IsPermutation (got ++ flat_map (row_fixups scene) middle) second → tlv ≡ second ++ slot_fixups (starts_of scene.layout.sections).tlv scene.slots.tlv
    → IsPermutation (tlv ++ flat_map (row_fixups scene) rest) third → IsPermutation (all_fixups scene work) third
unfolding all_fixups
all_moved scene work front middle rest empty first got second tlv third parts none a b c d e =
    let rf : PlacedWork → List Fixup = row_fixups scene in
    let slots : List Fixup = slot_fixups (starts_of scene.layout.sections).got scene.slots.got in
    let threads : List Fixup = slot_fixups (starts_of scene.layout.sections).tlv scene.slots.tlv in
    let all : flat_map rf work ≡ flat_map rf front ++ (flat_map rf middle ++ flat_map rf rest) =
    ap (flat_map rf) parts ∙ flat_map-append rf front (middle ++ rest) ∙ ap (λ (ys : List Fixup). flat_map rf front ++ ys) (flat_map-append rf middle rest) in
    subst (λ (ys : List Fixup). IsPermutation (slots ++ (threads ++ ys)) third) (sym all)
    (gathered (flat_map rf front) slots (flat_map rf middle) threads (flat_map rf rest) first second third
    (subst (λ (ys : List Fixup). IsPermutation (ys ++ flat_map rf front) first) none a)
    (subst (λ (ys : List Fixup). IsPermutation (ys ++ flat_map rf middle) second) b c)
    (subst (λ (ys : List Fixup). IsPermutation (ys ++ flat_map rf rest) third) d e))

pub spread_moved : (scene : Scene) (work : List PlacedWork) (fixups : List Fixup) → AreSpread scene work → IsPermutation (all_fixups scene work) fixups → AllPairs AreBeside fixups
spread_moved scene work fixups spread moved = pairs_permuted AreBeside (by_mutual (λ (fixup : Fixup). fixup.address)) (all_fixups scene work) fixups moved spread
