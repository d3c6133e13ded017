use Rattle.std.proofs.Common.{◌<◌, length, refl, get_or, []}
use Rattle.std.proofs.lemmas.Option.{slice_get-get_or}
use Rattle.resolve.specs.inner.Scoped.{name_goal, names_of}
use Rattle.resolve.proofs.MappedLemmas.{mapped_more}
use Rattle.resolve.proofs.goals.name_goals.Goals as goal

pub loop-id-preserved : goal.loop-id-preserved
loop-id-preserved c =
    let s = c.args.scope.now in
    let low : c.loop-id.id < length (names_of s) = rw (← c.names-names.ensures, ← c.len-id-end.ensures.value) c.loop-id-test.true in
    mapped_more (name_goal s) c.loop-id.pool.items c.push.new.self.items (names_of s) c.loop-id.id (get_or (names_of s) c.loop-id.id []) [] c.in_ok-numbered_goal.field-0
    c.loop-id.invariant low refl
    (c.in_ok-numbered_goal.ensures (get_or (names_of s) c.loop-id.id []) (slice_get-get_or (names_of s) c.loop-id.id [] low)) c.in_ok-push.ensures.items
