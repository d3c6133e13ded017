-- One entry more, for which there is room.
use Rattle.std.proofs.Common.{◌<◌, arith}
use Rattle.mo_ar.specs.Contents.{pair_count}
use Rattle.mo_ar.proofs.ContentsLemmas.{table_goes_on}
use Rattle.mo_ar.proofs.contents.entries_of.Goals as goal

pub loop-i-preserved : goal.loop-i-preserved
loop-i-preserved c =
    let inside : c.loop-i.i < pair_count c.args.table.now = omega (arith, c.number.ensures, c.loop-i-test.true) in
    let value = rw c.requires.strings at c.in-Some.ensures.value in
    let within = rw c.requires.strings at c.in-Some.ensures.within in
    record {
      tabling = rw c.push_reserved.ensures.items (table_goes_on c.args.table.now c.args.places.now c.loop-i.i c.loop-i.entries.items c.in-Some.entry c.loop-i.invariant.tabling inside value within);
      room = omega (arith, c.loop-i.invariant.room, c.push_reserved.ensures.capacity);
    }
