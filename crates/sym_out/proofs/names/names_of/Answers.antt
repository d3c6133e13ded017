use Rattle.std.proofs.Common.{rules, take}
use Rattle.sym_out.specs.Files.{symbols_of}
use Rattle.sym_out.specs.Map.{first_name}
use Rattle.sym_out.proofs.Naming.{files_end, files_go_on, files_start}
use Rattle.sym_out.proofs.names.names_of.Goals as goal

pub loop-file-init : goal.loop-file-init
loop-file-init c =
    files_start c.args.placed.now c.in_ok-names.names.items c.args.files.now c.len.result c.len.ensures
    (c.in_ok-names.ensures.items_if_clones_equal (λ y e. search rules))

pub loop-file-preserved : goal.loop-file-preserved
loop-file-preserved c =
    files_go_on c.args.placed.now c.note_file.new.names.items c.args.files.now c.loop-file.file-index c.file-item.result
    c.loop-file-test.true c.file-item.is
    (c.note_file.ensures.noted (first_name (symbols_of (take c.loop-file.file-index c.args.files.now))) c.loop-file.invariant)

pub returns : goal.returns
returns c =
    files_end c.args.placed.now c.loop-file.names.items c.args.files.now c.loop-file.file-index c.loop-file-test.false c.loop-file.invariant
