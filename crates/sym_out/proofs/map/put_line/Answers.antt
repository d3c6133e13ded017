use Rattle.std.proofs.Common.{ap}
use Rattle.sym_out.specs.Map.{MapRow}
use Rattle.sym_out.proofs.Lines.{line_is}
use Rattle.sym_out.proofs.map.put_line.Goals as goal

pub returns : goal.returns
returns c =
    line_is c.args.files.now c.args.row.now c.row.inside.address c.row.inside.atom.now.size c.row.inside.atom.now.key.file
    c.args.out.now.items _ _ _ _ _ _ _ _ _ _ _
    (ap (λ (r : MapRow). r.address) c.row.view_is)
    (ap (λ (r : MapRow). r.atom.size) c.row.view_is)
    (ap (λ (r : MapRow). r.atom.key.file) c.row.view_is)
    c.in_ok-put_digits.ensures c.in_ok-put_digits-2.ensures c.in_ok-push.ensures.items c.in_ok-put_digits-3.ensures c.in_ok-push-2.ensures.items
    c.label_of.ensures c.in_ok-extend_from_slice.ensures.items c.in_ok-push-3.ensures.items
    c.name_of.ensures c.in_ok-extend_from_slice-2.ensures.items c.in_ok-push-4.ensures.items
