-- What `__unwind_info` tells of the kept entries of whole files.
use Rattle.std.proofs.Common.{◌≢◌, ℕ, List, [], Contains, subst}
use Rattle.list_lemmas.proofs.Members.{In, in_from_Contains}
use Rattle.unwind_link.specs.declared.kept.KeptUnwind.{KeptUnwind}
use Rattle.unwind_out.specs.Law.{IsQuiet}
use Rattle.unwind_out.specs.Lookup.{unwind}
use Rattle.image_make.specs.Made.{IsLaid, ImageInputs, scene_of}
use Rattle.image_make.proofs.FrameLemmas.{few, spread}
use Rattle.image_laws.specs.Means.{Imaged}
use Rattle.image_laws.specs.References.{AreFillable}
use Rattle.image_laws.specs.Unwinding.{AreUnwindable, IsEntryServed, IsInNoFunction, TellsEntry, TellsUnwinding}
use Rattle.image_laws.proofs.Entries.{told_entry, told_nothing}
use Rattle.image_laws.proofs.Unwinding.{spread_tells}

pub section_tells : (m : ImageInputs) (image : List ℕ) (of : Imaged m image) → AreUnwindable m → m.unwinds ≢ [] → TellsUnwinding m of.layout image
section_tells m image of able some =
    let laid : IsLaid m of.layout = of.is_image.laid in
    spread_tells m image of able.rising some (spread m of.layout able.whole able.rising able.low able.frames laid.layout_of laid.small)
    (λ rows are. few m of.layout rows able.frames are)

pub each_told : (m : ImageInputs) (image : List ℕ) (of : Imaged m image) (entry : KeptUnwind) → AreUnwindable m → AreFillable (scene_of m of.layout) of.fixups → Contains m.unwinds entry → IsEntryServed m entry → TellsEntry m of.layout image entry
each_told m image of entry able fillable there served =
    told_entry m image of entry able fillable (section_tells m image of able (λ none. subst (λ (xs : List KeptUnwind). In entry xs) none (in_from_Contains m.unwinds entry there))) there served

pub others_quiet : (m : ImageInputs) (image : List ℕ) (of : Imaged m image) (offset : ℕ) → AreUnwindable m → m.unwinds ≢ [] → IsInNoFunction m of.layout image offset → IsQuiet (unwind m.info offset)
others_quiet m image of offset able some none = told_nothing m image of offset able (section_tells m image of able some) none
