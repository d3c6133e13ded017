use Rattle.std.proofs.Common.{rules, sym, ap, ◌∙◌, Some}
use Rattle.std.proofs.lemmas.Cmp.{on_total}
use Rattle.std.proofs.lemmas.Fn.{always_returns_same}
use Rattle.mo_types.proofs.KeyOrder.{compare_keys_total}
use Rattle.mo_types.specs.Keys.{compare_keys}
use Rattle.mo_types.specs.declared.loaded.LoadedFile.{LoadedFile}
use Rattle.atom_index.proofs.Keys.{found_key, no_key, sorted_from_rising}
use Rattle.sect_list.proofs.Homes.{start, starts_rise, file_found, file_missing}
use Rattle.ref_meet.proofs.template.file_of.Goals as goal

pub returns-in-Ok : goal.returns-in-Ok
returns-in-Ok c =
    let by_key = c.in-Ok.ensures.position (λ (file : LoadedFile). compare_keys (start file.id) (start c.args.id)) (always_returns_same _ _ _ (λ a r g called. search rules)) in
    ap Some c.index-files-at.is ∙ sym (file_found c.args.files.now c.args.id c.in-Ok.at c.index-files-at.result c.requires c.in-Ok.ensures.bound (found_key (λ (file : LoadedFile). start file.id) c.args.files.now (start c.args.id) c.in-Ok.at c.index-files-at.result by_key))

pub returns-in-Err : goal.returns-in-Err
returns-in-Err c =
    let by_key = c.in-Err.ensures.position (λ (file : LoadedFile). compare_keys (start file.id) (start c.args.id)) (always_returns_same _ _ _ (λ a r g called. search rules)) in
    sym (file_missing c.args.files.now c.args.id
    (no_key (λ (file : LoadedFile). start file.id) c.args.files.now (start c.args.id) c.in-Err.field-0 (sorted_from_rising (on_total (λ (file : LoadedFile). start file.id) compare_keys_total) c.args.files.now (starts_rise c.args.files.now c.requires)) by_key))
