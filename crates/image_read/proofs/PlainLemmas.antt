-- Images without fixups.
use Rattle.std.proofs.Common.{◌≡◌, ◌≢◌, ◌==◌, ℕ, Bool, true, false, List, [], ◌∷◌, Option, None, Err, if◌then◌else◌, refl, ap, ◌∙◌, arith, tests}
use Rattle.std.proofs.lemmas.List.Elements.{All-head, All-tail}
use Rattle.std.specs.List.{All}
use Rattle.mo_types.specs.Rows.{when}
use Rattle.mo_types.specs.Scan.{first_some, option_or_else}
use Rattle.image_read.specs.Commands.{cmd, commands_of, fits}
use Rattle.image_read.specs.Fixups.{fixup_at, fixup_read, header_for, header_read}
use Rattle.mo_format.specs.declared.loader.TheConstants.{LC_DYLD_CHAINED_FIXUPS}
use Rattle.image_read.specs.Imports.{fixups_at, fixups_command}
use Rattle.image_read.specs.declared.fixups.FixupRead.TheVariants.{Plain}

not_there : (image : List ℕ) (at : ℕ) (b : Bool) → (cmd image at == LC_DYLD_CHAINED_FIXUPS) ≡ b → cmd image at ≢ LC_DYLD_CHAINED_FIXUPS → when b at ≡ None
not_there image at true is other = absurd (other (grind (arith, tests)))
not_there image at false is other = refl

nowhere : (image : List ℕ) (places : List ℕ) → All (λ at. cmd image at ≢ LC_DYLD_CHAINED_FIXUPS) places → first_some (fixups_at image) places ≡ None
unfolding fixups_at
nowhere image [] all = refl
nowhere image (at ∷ places) all =
    let other : cmd image at ≢ LC_DYLD_CHAINED_FIXUPS = All-head (λ a. cmd image a ≢ LC_DYLD_CHAINED_FIXUPS) at places all in
    ap (λ x. option_or_else x (first_some (fixups_at image) places)) (not_there image at (cmd image at == LC_DYLD_CHAINED_FIXUPS) refl other)
    ∙ nowhere image places (All-tail (λ a. cmd image a ≢ LC_DYLD_CHAINED_FIXUPS) at places all)

if_none : (b : Bool) (image : List ℕ) (command : Option ℕ) → command ≡ None → (if b then header_for image command else Err Plain) ≡ Err Plain
if_none true image command none = rw none refl
if_none false image command none = refl

no_header : (image : List ℕ) → All (λ at. cmd image at ≢ LC_DYLD_CHAINED_FIXUPS) (commands_of image) → header_read image ≡ Err Plain
unfolding header_read fixups_command
no_header image all = if_none (fits image) image (first_some (fixups_at image) (commands_of image)) (nowhere image (commands_of image) all)

pub all_plain : (image : List ℕ) (address : ℕ) → All (λ at. cmd image at ≢ LC_DYLD_CHAINED_FIXUPS) (commands_of image) → fixup_at image address ≡ Plain
unfolding fixup_at fixup_read
all_plain image address all = rw (no_header image all) refl

pub ruleset plains = (all_plain)
