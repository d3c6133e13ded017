-- Loaded files are refused exactly where a cause stands.
use Rattle.std.proofs.Common.{◌≡◌, ◌↔◌, ◌∙◌, ℕ, ℤ, pos, inl, inr, List, Option, Some, None, Err, refl, sym, ap}
use Rattle.image_make.specs.Made.{IsMade, ImageInputs, least_info, plan_for, with_info, with_least}
use Rattle.image_make.specs.declared.fault.MakeFault.{MakeFault}
use Rattle.image_make.specs.declared.fault.MakeFault.TheVariants as make
use Rattle.liveness.specs.Undefined.{undefined}
use Rattle.lib_bind.specs.declared.library.LibraryGraph.{LibraryGraph}
use Rattle.link_steps.proofs.StepLemmas.{checks_stops, some_stops, unless_stops}
use Rattle.link_steps.specs.Steps.{Stops}
use Rattle.command_line.specs.declared.command.Command.{Command}
use Rattle.mo_types.specs.declared.answer.Refusal.{Refusal}
use Rattle.mo_types.specs.declared.answer.Refusal.TheVariants as refusal
use Rattle.mo_types.specs.declared.cause.RangeKind.TheVariants.{ImageSize}
use Rattle.mo_types.specs.declared.key.AtomKey.{AtomKey}
use Rattle.mo_types.specs.declared.loaded.LoadedFile.{LoadedFile}
use Rattle.resolve.specs.Goals.{goal_table}
use Rattle.sect_place.specs.Layout.{IsTooLarge, image_size}
use Rattle.sect_place.specs.declared.size.PlaceFault.TheVariants as place
use Rattle.link_files.specs.Causes.{HasNoImage, IsLost, IsTooLong, LinkCause}
use Rattle.link_files.specs.Linked.{AsImage, IsLinked, making}
use Rattle.link_files.specs.Lost.{lost_wanted, undefined_refusal}
use Rattle.link_files.specs.Names.{wanted}
use Rattle.link_files.proofs.MissingLemmas.{lost_from, lost_to}
use Rattle.link_files.specs.Refusals.{IsToldAs}
use Rattle.link_files.proofs.NameLemmas.{atoms_stop, names_stop, same_some}

lost_stop : (command : Command) (libs : LibraryGraph) (files : List LoadedFile) (keys : List AtomKey) (why : Refusal) → (undefined_refusal command libs files (goal_table files libs command) keys ≡ Some why) ↔ IsLost command libs files keys why
unfolding undefined_refusal
lost_stop command libs files keys why = (to, (λ c. rw (lost_from command libs files keys c.name c.file c.missed c.least) (ap Some (sym c.told))))
  where
    to : undefined_refusal command libs files (goal_table files libs command) keys ≡ Some why → IsLost command libs files keys why
    to e = by (undefined keys files (goal_table files libs command) (lost_wanted command libs files)) refl
      where
        by : (o : Option (List ℕ × List ℕ)) → undefined keys files (goal_table files libs command) (lost_wanted command libs files) ≡ o → IsLost command libs files keys why
        by None f = absurd (let g : ◌≡◌ {A = Option Refusal} None (Some why) = rw f at e in cc)
        by (Some (name, file)) f =
            let g : Some (refusal.Undefined name file) ≡ Some why = rw f at e in
            let is = lost_to command libs files keys name file f in
            record { name = name; file = file; missed = is.0; least = is.1; told = sym (same_some g) }

image_stop : (m : ImageInputs) → Stops (AsImage m) (HasNoImage m)
image_stop m why = (to, from)
  where
    told_long : (info : List ℕ) (value : ℤ) → IsTooLarge (image_size (plan_for (with_info m info))) (place.ImageSize value) → why ≡ refusal.Range m.command.output 0 ImageSize value → IsTooLong (with_info m info) why
    told_long info value large told = record { long = large.0; told = told ∙ ap (λ (v : ℤ). refusal.Range m.command.output 0 ImageSize v) large.1 }

    by : (fault : MakeFault) → IsMade m (Err fault) → IsToldAs m.command m.files fault why → HasNoImage m why
    by (make.Place (place.ImageSize value)) (inl (inl large)) told = inl (inl (told_long (least_info m.unwinds) value large told))
    by (make.Place (place.ImageSize value)) (inl (inr (info, first, large))) told = inl (inr (info, first, told_long info value large told))
    by (make.Place (place.ImageSize value)) (inr (info, overlong)) told = inr (info, inr (inr (record { value = value; overlong = overlong; told = told })))
    by (make.Place place.OutOfMemory) is told = absurd told
    by (make.Range None fault) (info, is) told = inr (info, inl (record { layout = is.0; fault = fault; unfit = is.1; told = told }))
    by (make.Range (Some key) fault) (info, is) told = inr (info, inr (inl (record { layout = is.0; key = key; fault = fault; unfit = is.1; told = told })))
    by make.OutOfMemory is told = absurd told

    to : AsImage m (Err why) → HasNoImage m why
    to made = by made.0 made.1 made.2

    from : HasNoImage m why → AsImage m (Err why)
    from (inl (inl long)) = (make.Place (place.ImageSize (pos (image_size (plan_for (with_least m))))), inl (inl (long.long, refl)), long.told)
    from (inl (inr (info, first, long))) = (make.Place (place.ImageSize (pos (image_size (plan_for (with_info m info))))), inl (inr (info, first, (long.long, refl))), long.told)
    from (inr (info, inl slot)) = (make.Range None slot.fault, (info, (slot.layout, slot.unfit)), slot.told)
    from (inr (info, inr (inl out))) = (make.Range (Some out.key) out.fault, (info, (out.layout, out.unfit)), out.told)
    from (inr (info, inr (inr all))) = (make.Place (place.ImageSize all.value), inr (info, all.overlong), all.told)

pub link_stops : (command : Command) (libs : LibraryGraph) (files : List LoadedFile) → Stops (IsLinked command libs files) (LinkCause command libs files)
link_stops command libs files =
    unless_stops _ _ _ _ (names_stop files (wanted command)) (λ few_names.
    unless_stops _ _ _ _ (atoms_stop files) (λ few.
    checks_stops _ _ _ _ (λ why. ((λ twice. twice), (λ twice. twice))) (λ once.
    some_stops _ _ _ (λ symbols is.
    some_stops _ _ _ (λ keys kept.
    unless_stops _ _ _ _ (lost_stop command libs files keys) (λ found.
    checks_stops _ _ _ _ (λ why. ((λ first. first), (λ first. first))) (λ no_dwarf.
    checks_stops _ _ _ _ (λ why. ((λ many. many), (λ many. many))) (λ few_handlers.
    some_stops _ _ _ (λ slots are.
    checks_stops _ _ _ _ (λ why. ((λ many. many), (λ many. many))) (λ few_imports.
    checks_stops _ _ _ _ (λ why. ((λ first. first), (λ first. first))) (λ met.
    image_stop (making command libs files symbols keys slots))))))))))))
