use Rattle.std.proofs.Common.{ap, ◌≡◌, ◌∙◌, ◌/◌, ◌<◌, ◌&&◌, true, sym, get_or, length}
use Rattle.std.proofs.lemmas.List.{get_or_default}
use Rattle.unwind_read.specs.declared.entry_rows.EntryRow.{EntryRow}
use Rattle.std.specs.Option.{option_map}
use Rattle.std.proofs.lemmas.Bool.{and_parts}
use Rattle.unwind_read.specs.EntryRows.{relocs_in}
use Rattle.unwind_read.specs.Pointers.{is_pointer}
use Rattle.unwind_read.specs.Rules.{is_in_entry}
use Rattle.unwind_read.proofs.RowLemmas.{no_row, own_put, own_unput, placed_within, rows_put, rows_unput}
use Rattle.unwind_read.proofs.pointers.is_put.Goals as goal

pub row_with-requires : goal.row_with-requires
row_with-requires c = (and_parts _ _ (sym c.if-not-is_placed.ensures)).0

pub returns-in_default-clause-own : goal.returns-in_default-clause-own
returns-in_default-clause-own c = λ before are.
    (let placed : (is_pointer c.args.reloc.now && is_in_entry c.args.section.now c.args.reloc.now) ≡ true = sym c.if-not-is_placed.ensures in
    let within : c.args.reloc.now.address / 32 < length c.args.rows.now = placed_within c.args.section.now c.args.reloc.now c.args.rows.now placed c.requires in
    let row : EntryRow = get_or c.args.rows.now (c.args.reloc.now.address / 32) no_row in
    own_unput c.args.section.now before c.args.reloc.now c.args.rows.now row are within (get_or_default c.args.rows.now (c.args.reloc.now.address / 32) no_row row within) (sym c.row_with.ensures ∙ ap (option_map (relocs_in (c.args.reloc.now.address / 32))) c.in_default.is))

pub returns-in_default-clause-rows : goal.returns-in_default-clause-rows
returns-in_default-clause-rows c = λ before are.
    (let placed : (is_pointer c.args.reloc.now && is_in_entry c.args.section.now c.args.reloc.now) ≡ true = sym c.if-not-is_placed.ensures in
    let within : c.args.reloc.now.address / 32 < length c.args.rows.now = placed_within c.args.section.now c.args.reloc.now c.args.rows.now placed c.requires in
    let row : EntryRow = get_or c.args.rows.now (c.args.reloc.now.address / 32) no_row in
    rows_unput c.args.section.now before c.args.reloc.now c.args.rows.now row are c.requires within (get_or_default c.args.rows.now (c.args.reloc.now.address / 32) no_row row within) (sym c.row_with.ensures ∙ ap (option_map (relocs_in (c.args.reloc.now.address / 32))) c.in_default.is))

pub returns-clause-own : goal.returns-clause-own
returns-clause-own c = λ before are.
    (let placed : (is_pointer c.args.reloc.now && is_in_entry c.args.section.now c.args.reloc.now) ≡ true = sym c.if-not-is_placed.ensures in
    let within : c.args.reloc.now.address / 32 < length c.args.rows.now = placed_within c.args.section.now c.args.reloc.now c.args.rows.now placed c.requires in
    let row : EntryRow = get_or c.args.rows.now (c.args.reloc.now.address / 32) no_row in
    own_put c.args.section.now before c.args.reloc.now c.args.rows.now row c.in-Some.row placed are within (get_or_default c.args.rows.now (c.args.reloc.now.address / 32) no_row row within) (sym c.row_with.ensures ∙ ap (option_map (relocs_in (c.args.reloc.now.address / 32))) c.in-Some.is))

pub returns-clause-rows : goal.returns-clause-rows
returns-clause-rows c = λ before are.
    (let placed : (is_pointer c.args.reloc.now && is_in_entry c.args.section.now c.args.reloc.now) ≡ true = sym c.if-not-is_placed.ensures in
    let within : c.args.reloc.now.address / 32 < length c.args.rows.now = placed_within c.args.section.now c.args.reloc.now c.args.rows.now placed c.requires in
    let row : EntryRow = get_or c.args.rows.now (c.args.reloc.now.address / 32) no_row in
    rows_put c.args.section.now before c.args.reloc.now c.args.rows.now row c.in-Some.row placed are within (get_or_default c.args.rows.now (c.args.reloc.now.address / 32) no_row row within) (sym c.row_with.ensures ∙ ap (option_map (relocs_in (c.args.reloc.now.address / 32))) c.in-Some.is))
