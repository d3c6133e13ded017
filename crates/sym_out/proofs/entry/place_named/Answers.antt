use Rattle.std.proofs.Common.{rules}
use Rattle.std.proofs.lemmas.Fn.{always_returns_same}
use Rattle.std.specs.Ordering.{nat_cmp}
use Rattle.std.specs.Cmp.Lexicographic.{slice_cmp}
use Rattle.sym_out.specs.Entries.{Entry}
use Rattle.sym_out.proofs.Seeking.{named_found, named_none}
use Rattle.sym_out.proofs.entry.place_named.Goals as goal

pub returns-in-Ok : goal.returns-in-Ok
returns-in-Ok c =
    named_found c.args.entries.now c.args.name.now c.in-Ok.at c.requires c.in-Ok.ensures.bound
    (c.in-Ok.ensures.position (λ (entry : Entry). slice_cmp nat_cmp entry.name c.args.name.now) (always_returns_same _ _ _ (λ a r g called. search rules)))

pub returns-in-Err : goal.returns-in-Err
returns-in-Err c =
    named_none c.args.entries.now c.args.name.now c.in-Err.field-0 c.requires
    (c.in-Err.ensures.position (λ (entry : Entry). slice_cmp nat_cmp entry.name c.args.name.now) (always_returns_same _ _ _ (λ a r g called. search rules)))
