use Rattle.std.proofs.Common.{ℕ, List, [], ◌∷◌, ◌++◌, ap, ◌∙◌}
use Rattle.sym_out.specs.Symbols.{entries_of}
use Rattle.sym_out.proofs.Ranging.{table_puts}
use Rattle.sym_out.proofs.Writing.{table_strings, table_symbols}
use Rattle.sym_out.proofs.parts.table_of.Goals as goal

pub returns-clause-symbols : goal.returns-clause-symbols
returns-clause-symbols c =
    table_symbols (entries_of c.args.ranges.now) _ _ _ _
    c.in_ok-symbols.ensures (c.in_ok-push.ensures.items ∙ ap (λ (xs : List ℕ). xs ++ 0 ∷ []) c.in_ok-strings.ensures)
    (table_puts c.args.ranges.now c.ranges-2.inside.locals.items c.as_slice.result.now c.ranges-2.inside.exported.items c.as_slice-2.result.now c.ranges-2.inside.undefined.items c.as_slice-3.result.now
    _ _ _ _ _ _ _ _ c.as_slice.ensures.value c.as_slice-2.ensures.value c.as_slice-3.ensures.value c.ranges-2.view_is
    c.in_ok-put_locals.ensures c.in_ok-put_entries.ensures c.in_ok-put_entries-2.ensures)

pub returns-clause-strings : goal.returns-clause-strings
returns-clause-strings c =
    table_strings (entries_of c.args.ranges.now) _ _ _ _ _
    (c.in_ok-push.ensures.items ∙ ap (λ (xs : List ℕ). xs ++ 0 ∷ []) c.in_ok-strings.ensures)
    (table_puts c.args.ranges.now c.ranges-2.inside.locals.items c.as_slice.result.now c.ranges-2.inside.exported.items c.as_slice-2.result.now c.ranges-2.inside.undefined.items c.as_slice-3.result.now
    _ _ _ _ _ _ _ _ c.as_slice.ensures.value c.as_slice-2.ensures.value c.as_slice-3.ensures.value c.ranges-2.view_is
    c.in_ok-put_locals.ensures c.in_ok-put_entries.ensures c.in_ok-put_entries-2.ensures)
    c.in_ok-pad.ensures
