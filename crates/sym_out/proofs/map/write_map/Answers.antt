use Rattle.sym_out.proofs.Naming.{map_is}
use Rattle.sym_out.proofs.map.write_map.Goals as goal

pub returns : goal.returns
returns c =
    map_is _ c.args.layout.now.placed _ c.args.kept.now _ c.args.loaded.now.files _ _ _ _ _ _
    c.of-placed.ensures c.as_slice-files.ensures c.as_slice.ensures c.in_ok-names.ensures c.in_ok-rows.ensures
    c.put_in_order.ensures.same c.put_in_order.ensures.sorted c.as_slice-2.ensures.value c.in_ok-lines.ensures c.in_ok-from_vec.ensures
