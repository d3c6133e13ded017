use Rattle.std.proofs.Common.{◌≡◌, ◌∙◌, length, drop, sym}
use Rattle.mark_race.proofs.LevelLemmas.{level_end, level_start}
use Rattle.mark_race.proofs.Words.{front_is}
use Rattle.mark_race.proofs.levels.mark_all.Goals as goal

pub run_levels-requires-clause-level : goal.run_levels-requires-clause-level
run_levels-requires-clause-level g c κs within = level_start c.in_ok-race.race c.args.ends.now c.in_ok-race.marker c.args.start.now c.in_ok-work.work.items _ c.in_ok-race.ensures.marker c.in_ok-race.ensures.race.0 c.in_ok-race.ensures.race.1 c.in_ok-work.ensures

pub returns : goal.returns
returns g c =
    let into = c.settle.new.into in
    let kept : length into ≡ length c.args.start.now = c.settle.ensures.places ∙ (c.as_mut_slice.ensures.len ∙ c.in_ok-marked.ensures.len) in
    let long : c.in_ok-marked.marked.len ≡ length into = c.in_ok-marked.ensures.len ∙ sym kept in
    level_end c.in_ok-race.race c.args.ends.now c.in_ok-marker.marker c.args.start.now into _ c.in_ok-marker.ensures c.in_ok-race.ensures.race.0 c.requires.long c.requires.ends c.settle.ensures.gains c.settle.ensures.marked kept
    (front_is c.in_ok-marked.marked.len into (drop (length into) c.in_ok-marked.marked.items) long)
