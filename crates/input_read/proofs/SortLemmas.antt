-- What is sorted of what inputs are.
use Rattle.std.proofs.Common.{◌≡◌, ◌++◌, List, [], ◌∷◌, All, Option, None, Some, refl, sym, ap, subst, ◌∙◌, append_assoc}
use Rattle.std.proofs.lemmas.List.{append-nil, map-append}
use Rattle.std.proofs.lemmas.List.Elements.{All-head, All-tail, filter_map-append}
use Rattle.std.specs.List.{filter_map}
use Rattle.mo_types.specs.declared.loaded.LoadedFile.{LoadedFile}
use Rattle.mo_ar.specs.declared.archive.Archive.{Archive}
use Rattle.lib_bind.specs.declared.named.NamedStub.{NamedStub}
use Rattle.input_files.specs.Files.{archive_in}
use Rattle.input_files.specs.Sources.{inputs_of}
use Rattle.input_files.specs.declared.input.Input.{Input}
use Rattle.input_files.specs.declared.sources.Source.{Source}
use Rattle.input_read.specs.Opened.{contents_as, contents_in, input_in, object_in, stubs_in}
use Rattle.input_read.specs.Sound.{IsObjectOf, IsSound}
use Rattle.input_read.specs.declared.opened.Opened.{Opened}
use Rattle.input_read.specs.declared.opening.Opening.{Opening}
use Rattle.input_read.specs.declared.opening.Opening.TheVariants as opening

-- what is sorted of the inputs that are done, and that those are sound that are left
pub record IsSorting (sources : List Source) (files : List LoadedFile) (libraries : List NamedStub) (all done left : List Opening) : Type 0 where
  pub inputs : inputs_of sources ≡ filter_map input_in done
  pub objects : files ≡ filter_map object_in done
  pub stubs : libraries ≡ filter_map stubs_in done
  pub parts : all ≡ done ++ left
  pub sound : All IsSound left

pub sort_start : (sources : List Source) (files : List LoadedFile) (libraries : List NamedStub) (all left : List Opening) → sources ≡ [] → files ≡ [] → libraries ≡ [] → left ≡ all → All IsSound all → IsSorting sources files libraries all [] left
sort_start sources files libraries all left no_sources no_files no_libraries is sound = record {
  inputs = ap inputs_of no_sources;
  objects = no_files;
  stubs = no_libraries;
  parts = sym is;
  sound = subst (λ (os : List Opening). All IsSound os) (sym is) sound;
}

next_parts : (all done left more rest : List Opening) (one : Opening) → all ≡ done ++ left → left ≡ one ∷ rest → more ≡ done ++ one ∷ [] → all ≡ more ++ rest
next_parts all done left more rest one parts first is = parts ∙ ap (λ (os : List Opening). done ++ os) first ∙ sym (append_assoc done (one ∷ []) rest) ∙ ap (λ (os : List Opening). os ++ rest) (sym is)

next_sound : (left rest : List Opening) (one : Opening) → All IsSound left → left ≡ one ∷ rest → All IsSound rest
next_sound left rest one sound first = All-tail IsSound one rest (subst (λ (os : List Opening). All IsSound os) first sound)

first_sound : (left rest : List Opening) (one : Opening) → All IsSound left → left ≡ one ∷ rest → IsSound one
first_sound left rest one sound first = All-head IsSound one rest (subst (λ (os : List Opening). All IsSound os) first sound)

grown : {Y : Type 0} (h : Opening → Option Y) (done more : List Opening) (one : Opening) → more ≡ done ++ one ∷ [] → filter_map h more ≡ filter_map h done ++ filter_map h (one ∷ [])
grown {Y = Y} h done more one is = ap (filter_map h) is ∙ filter_map-append h done (one ∷ [])

same : {Y : Type 0} (h : Opening → Option Y) (now : List Y) (done more : List Opening) (one : Opening) → now ≡ filter_map h done → more ≡ done ++ one ∷ [] → filter_map h (one ∷ []) ≡ [] → now ≡ filter_map h more
same {Y = Y} h now done more one so is none = so ∙ sym (grown h done more one is ∙ ap (λ (ys : List Y). filter_map h done ++ ys) none ∙ append-nil (filter_map h done))

another : {Y : Type 0} (h : Opening → Option Y) (now next : List Y) (done more : List Opening) (one : Opening) (y : Y) → now ≡ filter_map h done → more ≡ done ++ one ∷ [] → filter_map h (one ∷ []) ≡ y ∷ [] → next ≡ now ++ y ∷ [] → next ≡ filter_map h more
another {Y = Y} h now next done more one y so is some up = up ∙ ap (λ (ys : List Y). ys ++ y ∷ []) so ∙ sym (grown h done more one is ∙ ap (λ (ys : List Y). filter_map h done ++ ys) some)

another_input : (now next : List Source) (done more : List Opening) (one : Opening) (source : Source) (input : Input) → inputs_of now ≡ filter_map input_in done → more ≡ done ++ one ∷ [] → filter_map input_in (one ∷ []) ≡ input ∷ [] → next ≡ now ++ source ∷ [] → source.input ≡ input → inputs_of next ≡ filter_map input_in more
another_input now next done more one source input so is some up of =
    another input_in (inputs_of now) (inputs_of next) done more one input so is some
    (ap inputs_of up ∙ map-append (λ (s : Source). s.input) now (source ∷ []) ∙ ap (λ (i : Input). inputs_of now ++ i ∷ []) of)

pub sort_object : (sources more_sources : List Source) (files more_files : List LoadedFile) (libraries : List NamedStub) (all done left more rest : List Opening) (input : Input) (file : LoadedFile) (source : Source) → IsSorting sources files libraries all done left → left ≡ opening.Object input file ∷ rest → more ≡ done ++ opening.Object input file ∷ [] → more_sources ≡ sources ++ source ∷ [] → source.input ≡ input → more_files ≡ files ++ file ∷ [] → IsSorting more_sources more_files libraries all more rest
sort_object sources more_sources files more_files libraries all done left more rest input file source so first is up of up_files = record {
  inputs = another_input sources more_sources done more (opening.Object input file) source input so.inputs is refl up of;
  objects = another object_in files more_files done more (opening.Object input file) file so.objects is refl up_files;
  stubs = same stubs_in libraries done more (opening.Object input file) so.stubs is refl;
  parts = next_parts all done left more rest (opening.Object input file) so.parts first is;
  sound = next_sound left rest (opening.Object input file) so.sound first;
}

pub sort_archive : (sources more_sources : List Source) (files : List LoadedFile) (libraries : List NamedStub) (all done left more rest : List Opening) (input : Input) (archive : Archive) (source : Source) → IsSorting sources files libraries all done left → left ≡ opening.Archive input archive ∷ rest → more ≡ done ++ opening.Archive input archive ∷ [] → more_sources ≡ sources ++ source ∷ [] → source.input ≡ input → IsSorting more_sources files libraries all more rest
sort_archive sources more_sources files libraries all done left more rest input archive source so first is up of = record {
  inputs = another_input sources more_sources done more (opening.Archive input archive) source input so.inputs is refl up of;
  objects = same object_in files done more (opening.Archive input archive) so.objects is refl;
  stubs = same stubs_in libraries done more (opening.Archive input archive) so.stubs is refl;
  parts = next_parts all done left more rest (opening.Archive input archive) so.parts first is;
  sound = next_sound left rest (opening.Archive input archive) so.sound first;
}

pub sort_stubs : (sources : List Source) (files : List LoadedFile) (libraries more_libraries : List NamedStub) (all done left more rest : List Opening) (named : NamedStub) → IsSorting sources files libraries all done left → left ≡ opening.Stubs named ∷ rest → more ≡ done ++ opening.Stubs named ∷ [] → more_libraries ≡ libraries ++ named ∷ [] → IsSorting sources files more_libraries all more rest
sort_stubs sources files libraries more_libraries all done left more rest named so first is up = record {
  inputs = same input_in (inputs_of sources) done more (opening.Stubs named) so.inputs is refl;
  objects = same object_in files done more (opening.Stubs named) so.objects is refl;
  stubs = another stubs_in libraries more_libraries done more (opening.Stubs named) named so.stubs is refl up;
  parts = next_parts all done left more rest (opening.Stubs named) so.parts first is;
  sound = next_sound left rest (opening.Stubs named) so.sound first;
}

pub object_single : (left rest : List Opening) (input : Input) (file : LoadedFile) → All IsSound left → left ≡ opening.Object input file ∷ rest → None ≡ archive_in input
object_single left rest input file sound first = let so : IsObjectOf input file = first_sound left rest (opening.Object input file) sound first in sym so.single

pub archive_known : (left rest : List Opening) (input : Input) (archive : Archive) → All IsSound left → left ≡ opening.Archive input archive ∷ rest → Some archive ≡ archive_in input
archive_known left rest input archive sound first = sym (first_sound left rest (opening.Archive input archive) sound first)

pub sort_end : (opened : Opened) (all done left : List Opening) → IsSorting opened.sources opened.objects opened.stubs all done left → all ≡ done → contents_as opened ≡ contents_in all
sort_end opened all done left so is = rw (is, so.inputs, so.objects, so.stubs) refl

pub ruleset sorts = (sort_start, sort_object, sort_archive, sort_stubs, object_single, archive_known, sort_end)
