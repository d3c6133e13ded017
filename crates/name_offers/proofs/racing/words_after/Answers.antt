use Rattle.std.proofs.Common.{◌≡◌, ℕ, List, length, ap, ◌∙◌, arith}
use Rattle.std.specs.List.{flat_map}
use Rattle.std.proofs.lemmas.Grind.{common_steps}
use Rattle.mo_types.specs.declared.loaded.LoadedFile.{LoadedFile}
use Rattle.race_core.proofs.Runs.{length-run}
use Rattle.race_core.specs.Run.{run}
use Rattle.name_offers.specs.Offers.{bids_of}
use Rattle.name_offers.specs.inner.Offering.{offers_in}
use Rattle.name_offers.proofs.OfferLemmas.{named_offers}
use Rattle.name_offers.proofs.TeamLemmas.{front_is}
use Rattle.name_offers.proofs.racing.words_after.Goals as goal

pub returns : goal.returns
returns g c =
    let words : c.offer_files.new.words ≡ run c.args.before.items (bids_of c.args.numbered.now.names c.args.files.now.files) =
    c.offer_files.ensures
    ∙ ap (λ (ws : List ℕ). run ws (flat_map (offers_in c.args.numbered.now.names) c.as_slice-2.result.now)) c.as_mut_slice.ensures.value
    ∙ ap (λ (fs : List LoadedFile). run c.args.before.items (flat_map (offers_in c.args.numbered.now.names) fs)) c.as_slice-2.ensures
    ∙ ap (run c.args.before.items) (named_offers c.args.numbered.now.names c.args.files.now.files c.requires.named) in
    let long : c.args.before.len ≡ length c.offer_files.new.words = grind (arith, common_steps, ap length words, length-run c.args.before.items (bids_of c.args.numbered.now.names c.args.files.now.files)) in
    front_is c.args.before.len c.offer_files.new.words _ long ∙ words
