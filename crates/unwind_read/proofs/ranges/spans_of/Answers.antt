use Rattle.std.proofs.Common.{◌<◌, arith, get_or, length}
use Rattle.std.proofs.lemmas.List.{get_or_default}
use Rattle.mo_types.specs.declared.unwind.Unwind.{Unwind}
use Rattle.unwind_read.proofs.RangeLemmas.{no_unwind, place_within, span_is_next, spans_all, unwind_room}
use Rattle.unwind_read.proofs.ranges.spans_of.Goals as goal

pub bounds-places-at : goal.bounds-places-at
bounds-places-at c =
    let within : c.loop-at.at < length c.args.entries.now = omega arith in
    place_within c.args.cut.now.object.now c.args.cut.now.file c.args.entries.now c.args.places.now c.loop-at.at c.requires.entries c.requires.places within

pub span_from-requires : goal.span_from-requires
span_from-requires c =
    let within : c.loop-at.at < length c.args.entries.now = omega arith in
    let unwind : Unwind = get_or c.args.entries.now c.loop-at.at no_unwind in
    unwind_room c.args.cut.now.object.now c.args.cut.now.file c.args.entries.now c.loop-at.at unwind c.requires.cut.whole c.requires.entries within (get_or_default c.args.entries.now c.loop-at.at no_unwind unwind within)

pub loop-at-preserved : goal.loop-at-preserved
loop-at-preserved c =
    let within : c.loop-at.at < length c.args.entries.now = omega arith in
    let unwind : Unwind = get_or c.args.entries.now c.loop-at.at no_unwind in
    let inside : c.loop-at.at < length c.args.places.now = place_within c.args.cut.now.object.now c.args.cut.now.file c.args.entries.now c.args.places.now c.loop-at.at c.requires.entries c.requires.places within in
    span_is_next c.args.cut.now.object.now c.args.cut.now.file c.args.entries.now c.args.places.now c.loop-at.at (get_or c.args.places.now c.loop-at.at 0) unwind c.loop-at.spans.items c.push.new.self.items c.requires.entries c.requires.places within
    (get_or_default c.args.entries.now c.loop-at.at no_unwind unwind within)
    (get_or_default c.args.places.now c.loop-at.at 0 (get_or c.args.places.now c.loop-at.at 0) inside) c.loop-at.invariant
    (rw c.span_from.ensures at c.in_ok-push.ensures.items)

pub returns : goal.returns
returns c =
    spans_all c.args.cut.now.object.now c.args.cut.now.file c.args.entries.now c.loop-at.spans.items c.loop-at.at c.requires.entries c.loop-at.invariant (omega arith)
