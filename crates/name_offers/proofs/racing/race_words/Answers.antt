use Rattle.std.proofs.Common.{◌≡◌, length, ap, ◌∙◌, arith}
use Rattle.std.proofs.lemmas.Grind.{common_steps}
use Rattle.race_core.proofs.Runs.{length-run}
use Rattle.race_core.specs.Run.{run}
use Rattle.name_offers.specs.Offers.{bids_of}
use Rattle.name_offers.proofs.TeamLemmas.{front_is, passes_kept, races_kept, words_are}
use Rattle.name_offers.proofs.racing.race_words.Goals as goal

pub joined-racer-requires-clause-race : goal.joined-racer-requires-clause-race
joined-racer-requires-clause-race g c = races_kept c.in_ok-race.race c.in_ok-racers.racers.items c.in_ok-racers-2.racers.items c.in_ok-racers-2.ensures.race c.in_ok-racers.ensures.racers.races

pub settle-requires-clause-passes : goal.settle-requires-clause-passes
settle-requires-clause-passes g c = omega (
  arith,
  c.joined-racer.ensures.passes,
  passes_kept c.in_ok-racers.racers.items c.in_ok-racers-2.racers.items c.in_ok-racers-2.ensures.passes,
  c.in_ok-racers.ensures.racers.all_passes,
  c.in_ok-race.ensures.race.1,
  c.from.ensures,
)

pub returns : goal.returns
returns g c =
    let words : c.settle.new.into ≡ run c.args.start.items (bids_of c.args.numbered.now.names c.args.files.now.files) =
    words_are c.args.start.items c.settle.new.into (bids_of c.args.numbered.now.names c.args.files.now.files) c.joined-racer.result.offers c.in_ok-racers.racers.items c.in_ok-racers-2.racers.items c.in_ok-racers.ensures.racers.nothing c.in_ok-racers-2.ensures.offers c.joined-racer.ensures.offers
    (c.settle.ensures.words ∙ ap (λ start. run start c.joined-racer.result.offers) c.in_ok-race.ensures.race.0) in
    let long : c.in_ok-words.words.len ≡ length c.settle.new.into = grind (arith, common_steps, ap length words, length-run c.args.start.items (bids_of c.args.numbered.now.names c.args.files.now.files), c.in_ok-words.ensures.len, c.len.ensures) in
    front_is c.in_ok-words.words.len c.settle.new.into _ long ∙ words
