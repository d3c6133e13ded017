use Rattle.std.proofs.Common.{◌∙◌, ap, Some, subst, List, ℕ, IfOk}
use Rattle.mo_outside.specs.Files.{Fetches}
use Rattle.mo_outside.specs.Memory.{SureFileSet, files_of}
use Rattle.mo_outside.proofs.file_maps.SureFilesFiles.fetch.Goals as goal

pub returns-clause-answer : goal.returns-clause-answer
returns-clause-answer c =
    let P : List (List ℕ × List ℕ) → Type 0 = λ pairs. IfOk c.fetch_from.result (λ there. Fetches (Some (files_of pairs)) c.args.path.now there c.fetch_from.new.into.items) in
    subst P (c.as_slice.ensures ∙ ap (λ (files : SureFileSet). files.pairs) c.self.view_is) c.fetch_from.ensures.answer
