use Rattle.std.proofs.Common.{◌≡◌, List, map, ap, sym, ◌∙◌}
use Rattle.mo_types.specs.declared.loaded.LoadedFile.{LoadedFile}
use Rattle.literal_merge.specs.Representatives.{Literal, literals, representative_of, representatives_of}
use Rattle.literal_merge.specs.declared.representative.Representative.{Representative}
use Rattle.literal_merge.specs.inner.Groups.{held_literals}
use Rattle.literal_merge.proofs.groups.representatives.Goals as goal

of_files : (files : List LoadedFile) (list items : List Representative) (all : List Literal) → list ≡ items → items ≡ map (representative_of all) all → all ≡ literals files → list ≡ representatives_of files
unfolding representatives_of
of_files files list items all e f g = e ∙ f ∙ ap (λ ls. map (representative_of ls) ls) g

pub returns : goal.returns
returns c = of_files c.args.loaded.now.files c.from_vec.result c.in_ok-list.list.items (held_literals c.as_slice-3.result.now) c.from_vec.ensures (c.in_ok-list.ensures (held_literals c.as_slice-3.result.now) (rw (c.as_slice-3.ensures.value, sym c.as_slice-2.ensures.value) c.in_ok-groups.ensures)) (ap held_literals c.as_slice-3.ensures.value ∙ c.in_ok-literals.ensures ∙ ap literals c.as_slice.ensures)
