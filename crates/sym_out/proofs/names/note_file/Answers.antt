use Rattle.std.proofs.Common.{◌<◌, ◌≤◌, length, refl, ◌∙◌, arith}
use Rattle.sym_out.specs.inner.Tables.{filled}
use Rattle.sym_out.proofs.Filed.{nothing, until}
use Rattle.sym_out.proofs.Naming.{file_ends, file_goes_on, file_starts}
use Rattle.sym_out.proofs.names.note_file.Goals as goal

pub loop-index-init : goal.loop-index-init
loop-index-init c = record {
  size = refl;
  noted = λ f are. file_starts f c.args.placed.now c.args.names.now.items c.args.file.now are;
}

pub loop-index-preserved : goal.loop-index-preserved
loop-index-preserved c =
    let low : c.loop-index.index < length c.args.file.now.object.symbols = omega arith in
    record {
      size = c.note.ensures.size ∙ c.loop-index.invariant.size;
      noted = λ f are.
          file_goes_on f c.args.placed.now c.note.new.names.items c.args.file.now c.loop-index.index nothing low
          (c.note.ensures.noted (filled f (until c.args.file.now c.loop-index.index)) nothing (c.loop-index.invariant.noted f are));
    }

pub returns-clause-noted : goal.returns-clause-noted
returns-clause-noted c = λ f are.
    let past : length c.args.file.now.object.symbols ≤ c.loop-index.index = omega arith in
    file_ends f c.args.placed.now c.loop-index.names.items c.args.file.now c.loop-index.index past (c.loop-index.invariant.noted f are)
