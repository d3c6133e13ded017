use Rattle.std.proofs.Common.{◌≡◌, ◌+◌, get_or, take, arith}
use Rattle.std.proofs.lemmas.List.{get_or_default}
use Rattle.image_format.specs.declared.unwind.RegularPageEntry.{RegularPageEntry}
use Rattle.unwind_out.specs.Pages.{encodings}
use Rattle.unwind_out.proofs.Cutting.{meeting_starts, meeting_goes_on, most_far, most_indexed, most_room, encodings_next}
use Rattle.unwind_out.proofs.cut.most_rows.Goals as goal
use Rattle.unwind_out.proofs.cut.most_rows.Goals.{then-len-gt-MOST_ENCODINGS-via-then-len-gt-MOST_ENCODINGS, then-len-gt-MOST_ENCODINGS-via-else-len-gt-MOST_ENCODINGS+then-at-len-gt-COMPRESSED_ROOM}

abbrev no_entry : RegularPageEntry
no_entry = record { function_offset = 0; encoding = 0 }

pub loop-at-init : goal.loop-at-init
loop-at-init c = meeting_starts c.args.rows.now c.forget.new.numbers.items c.forget.new.guesses c.forget.ensures.none c.forget.ensures.known

pub returns-then-from-end-clause-most : goal.returns-then-from-end-clause-most
returns-then-from-end-clause-most c =
    most_far c.args.rows.now c.loop-at.at c.loop-at.numbers.items c.loop-at.guesses (get_or c.args.rows.now c.loop-at.at no_entry) c.loop-at.invariant c.loop-at-test.true
    (get_or_default c.args.rows.now c.loop-at.at no_entry (get_or c.args.rows.now c.loop-at.at no_entry) c.loop-at-test.true) (omega arith)

pub returns-then-len-gt-MOST_ENCODINGS-clause-most : goal.returns-then-len-gt-MOST_ENCODINGS-clause-most
returns-then-len-gt-MOST_ENCODINGS-clause-most c =
    let new : c.put_new.new.numbers.items ≡ encodings (take (c.loop-at.at + 1) c.args.rows.now) =
    encodings_next c.args.rows.now c.loop-at.at c.loop-at.numbers.items c.loop-at.guesses c.put_new.new.numbers.items (get_or c.args.rows.now c.loop-at.at no_entry) c.loop-at.invariant c.loop-at-test.true
    (get_or_default c.args.rows.now c.loop-at.at no_entry (get_or c.args.rows.now c.loop-at.at no_entry) c.loop-at-test.true) c.in_ok-put_new.ensures.ok in
    elim c.then-len-gt-MOST_ENCODINGS.branch [
      | then-len-gt-MOST_ENCODINGS-via-then-len-gt-MOST_ENCODINGS w ↦
          most_indexed c.args.rows.now c.loop-at.at c.loop-at.numbers.items c.loop-at.guesses c.put_new.new.numbers.items c.loop-at.invariant c.loop-at-test.true new (omega (arith, c.put_new.new.numbers.ok.0))
      | then-len-gt-MOST_ENCODINGS-via-else-len-gt-MOST_ENCODINGS+then-at-len-gt-COMPRESSED_ROOM w ↦
          most_room c.args.rows.now c.loop-at.at c.loop-at.numbers.items c.loop-at.guesses c.put_new.new.numbers.items c.loop-at.invariant c.loop-at-test.true new (omega (arith, c.put_new.new.numbers.ok.0))
    ]

pub loop-at-preserved : goal.loop-at-preserved
loop-at-preserved c =
    let is = get_or_default c.args.rows.now c.loop-at.at no_entry (get_or c.args.rows.now c.loop-at.at no_entry) c.loop-at-test.true in
    let new : c.put_new.new.numbers.items ≡ encodings (take (c.loop-at.at + 1) c.args.rows.now) =
    encodings_next c.args.rows.now c.loop-at.at c.loop-at.numbers.items c.loop-at.guesses c.put_new.new.numbers.items (get_or c.args.rows.now c.loop-at.at no_entry) c.loop-at.invariant c.loop-at-test.true is c.in_ok-put_new.ensures.ok in
    meeting_goes_on c.args.rows.now c.loop-at.at c.loop-at.numbers.items c.loop-at.guesses c.put_new.new.numbers.items c.put_new.new.guesses (get_or c.args.rows.now c.loop-at.at no_entry) c.loop-at.invariant c.loop-at-test.true is new c.in_ok-put_new.ensures.known
    (omega arith) (omega (arith, c.put_new.new.numbers.ok.0)) (omega (arith, c.put_new.new.numbers.ok.0))
