use Rattle.std.proofs.Common.{◌≡◌, ◌++◌, ◌∷◌, [], get_or, rules}
use Rattle.slot_needs.specs.inner.Gathered.{need}
use Rattle.slot_needs.proofs.GatheringLemmas.{noted_after, shown_after}
use Rattle.slot_needs.proofs.gathering.Gathering.with_place.Goals as goal

pub invariant_of-result : goal.invariant_of-result
invariant_of-result c =
    let pool : c.seen.inside.pool.now ≡ c.args.self.pool = search rules in
    let needs : c.seen.inside.needs ≡ c.args.self.needs ++ need c.in_ok-goal.goal c.args.way ∷ [] = search rules in
    let found : c.in_ok-goal.goal ≡ get_or c.args.self.pool c.args.place c.in_ok-goal.goal = search rules in
    noted_after c.args.self.pool c.seen.inside.pool.now c.seen.inside.seen.items c.mark.new.seen.items c.args.self.needs c.seen.inside.needs c.args.place c.args.way c.in_ok-goal.goal
    c.requires pool needs found c.mark.ensures c.seen.invariant

pub returns : goal.returns
returns c =
    let pool : c.seen.inside.pool.now ≡ c.args.self.pool = search rules in
    let needs : c.seen.inside.needs ≡ c.args.self.needs ++ need c.in_ok-goal.goal c.args.way ∷ [] = search rules in
    let found : c.in_ok-goal.goal ≡ get_or c.args.self.pool c.args.place c.in_ok-goal.goal = search rules in
    shown_after c.args.self.pool c.seen.inside.pool.now c.args.self.needs c.seen.inside.needs c.args.place c.args.way c.in_ok-goal.goal c.requires pool needs found
