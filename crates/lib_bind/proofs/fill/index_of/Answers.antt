use Rattle.std.proofs.Common.{◌≡◌, ℕ, ◌<◌, List, [], length, get_or, Contains, ap, subst, ◌∙◌, arith}
use Rattle.std.specs.Prelude.{zip}
use Rattle.std.proofs.lemmas.List.{get_or_default, take_all}
use Rattle.mo_types.specs.Scan.{first_some}
use Rattle.lib_bind.specs.Provides.{offer_by}
use Rattle.lib_bind.proofs.ReachedLemmas.{before_is, indexed_more, library_is, no_library, ordinal_is, pair_is, pairs_size, reach_is}
use Rattle.lib_bind.proofs.fill.index_of.Goals as goal

pub add_reached-requires-clause-within : goal.add_reached-requires-clause-within
add_reached-requires-clause-within c = λ d there.
    let each : length c.args.reach.now ≡ length c.args.libraries.now = c.requires.each in
    let low : c.loop-at.at < length c.args.libraries.now = c.loop-at-test.true in
    let within : c.loop-at.at < length c.args.reach.now = omega (arith, each, low) in
    c.requires.within c.loop-at.at d (subst (λ (ds : List ℕ). Contains ds d) (reach_is c.args.reach.now c.loop-at.at c.index-reach-at.result c.as_slice.result.now within c.index-reach-at.is c.as_slice.ensures) there)

pub add_reached-requires-clause-before : goal.add_reached-requires-clause-before
add_reached-requires-clause-before c = before_is _ _ _ (ordinal_is c.args.libraries.now c.loop-at.at c.requires.ordinals c.loop-at-test.true) c.loop-at.invariant.before

pub loop-at-preserved : goal.loop-at-preserved
loop-at-preserved c =
    let each : length c.args.reach.now ≡ length c.args.libraries.now = c.requires.each in
    let low : c.loop-at.at < length c.args.libraries.now = c.loop-at-test.true in
    let within : c.loop-at.at < length c.args.reach.now = omega (arith, each, low) in
    let size : length (zip c.args.libraries.now c.args.reach.now) ≡ length c.args.libraries.now = pairs_size c.args.libraries.now c.args.reach.now each in
    let among : c.loop-at.at < length (zip c.args.libraries.now c.args.reach.now) = omega (arith, size, low) in
    let reached_is : c.as_slice.result.now ≡ get_or c.args.reach.now c.loop-at.at [] = reach_is c.args.reach.now c.loop-at.at c.index-reach-at.result c.as_slice.result.now within c.index-reach-at.is c.as_slice.ensures in
    indexed_more c.args.documents.now (zip c.args.libraries.now c.args.reach.now) c.loop-at.at c.loop-at.filling c.in_ok-filling.filling
    (get_or c.args.libraries.now c.loop-at.at no_library) c.as_slice.result.now c.loop-at.invariant among
    (pair_is c.args.libraries.now c.args.reach.now c.loop-at.at (get_or c.args.libraries.now c.loop-at.at no_library) c.as_slice.result.now each low
    (library_is c.args.libraries.now c.loop-at.at low) (reached_is ∙ get_or_default c.args.reach.now c.loop-at.at [] c.as_slice.result.now within))
    (ordinal_is c.args.libraries.now c.loop-at.at c.requires.ordinals low)
    c.in_ok-filling.ensures.size c.in_ok-filling.ensures.covers c.in_ok-filling.ensures.before c.in_ok-filling.ensures.names

pub returns : goal.returns
returns c = λ name.
    let each : length c.args.reach.now ≡ length c.args.libraries.now = c.requires.each in
    let size : length (zip c.args.libraries.now c.args.reach.now) ≡ length c.args.libraries.now = pairs_size c.args.libraries.now c.args.reach.now each in
    c.loop-at.invariant.names name
    ∙ ap (first_some (offer_by c.args.documents.now name)) (take_all c.loop-at.at (zip c.args.libraries.now c.args.reach.now) (omega (arith, size, c.loop-at-test.false)))
