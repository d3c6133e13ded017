use Rattle.std.proofs.Common.{◌≡◌, ◌<◌, ◌∙◌, length, sym, ap, arith}
use Rattle.std.proofs.lemmas.Bool.{eqb-false}
use Rattle.mark_race.proofs.LevelLemmas.{level_few, level_smaller, level_work}
use Rattle.mark_race.proofs.levels.run_levels.Goals as goal

pub run_level-requires-clause-few : goal.run_level-requires-clause-few
run_level-requires-clause-few g c κs within = level_few c.args.course.now.race.now c.args.course.now.ends.now c.levels.marker c.levels.work.items c.as_slice.result.now c.levels.invariant.level c.as_slice.ensures.value c.requires.few

pub run_level-requires-clause-work : goal.run_level-requires-clause-work
run_level-requires-clause-work g c κs within = level_work c.args.course.now.race.now c.args.course.now.ends.now c.levels.marker c.levels.work.items c.as_slice.result.now c.levels.invariant.level c.as_slice.ensures.value c.requires.long

pub levels-smaller : goal.levels-smaller
levels-smaller g c =
    let apart = eqb-false c.levels.work.len 0 (sym c.is_empty.ensures ∙ c.levels-test.true) in
    let long : c.levels.work.len ≡ length c.levels.work.items = sym c.as_slice.ensures.len ∙ ap length c.as_slice.ensures.value in
    let some_work : 0 < length c.levels.work.items = omega (arith, apart, long) in
    level_smaller c.args.course.now.race.now c.args.course.now.ends.now c.levels.marker c.in_ok-next.next c.levels.work.items c.in_ok-next.gained.items _ some_work c.in_ok-next.ensures
