use Rattle.std.proofs.Common.{Some, sym, ap, ◌∙◌}
use Rattle.link_files.proofs.DuplicateLemmas.{twice_told}
use Rattle.link_files.proofs.duplicates.twice.Goals as goal

pub returns : goal.returns
returns c =
    twice_told c.args.loaded.now.files c.args.names.now c.args.found.0 (c.args.found.1, c.args.found.2) c.in_ok-from_slice.field-0 c.in_ok-label_of.field-0 c.in_ok-label_of-2.field-0
    c.requires (c.name_of.ensures ∙ ap Some (sym c.in_ok-from_slice.ensures)) (rw c.as_slice-files.ensures at c.in_ok-label_of.ensures) (rw c.as_slice-files.ensures at c.in_ok-label_of-2.ensures)
