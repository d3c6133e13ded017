use Rattle.std.proofs.Common.{rules, ap, ◌∙◌, Some}
use Rattle.std.proofs.lemmas.Fn.{always_returns_same}
use Rattle.mo_types.specs.Keys.{compare_files}
use Rattle.mo_types.specs.declared.loaded.LoadedFile.{LoadedFile}
use Rattle.sym_out.specs.Files.{file_of}
use Rattle.sym_out.proofs.Sought.{file_found, file_missing}
use Rattle.sym_out.proofs.files.file_of.Goals as goal

pub returns-in-Ok : goal.returns-in-Ok
unfolding file_of
returns-in-Ok c =
    ap Some c.index-files-at.is
    ∙ file_found c.args.files.now c.args.id c.in-Ok.at c.index-files-at.result c.requires c.in-Ok.ensures.bound
    (c.in-Ok.ensures.position (λ (file : LoadedFile). compare_files file.id c.args.id) (always_returns_same _ _ _ (λ a r g called. search rules)))

pub returns-in-Err : goal.returns-in-Err
unfolding file_of
returns-in-Err c =
    file_missing c.args.files.now c.args.id c.in-Err.field-0 c.requires
    (c.in-Err.ensures.position (λ (file : LoadedFile). compare_files file.id c.args.id) (always_returns_same _ _ _ (λ a r g called. search rules)))
