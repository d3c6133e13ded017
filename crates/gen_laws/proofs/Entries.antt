-- No unwind entry is at fault: there is none.
use Rattle.std.proofs.Common.{◌≡◌, ℕ, zero, suc, [], slice_get, Some, refl}
use Rattle.unwind_read.specs.Overlaps.{overlap_faults}
use Rattle.unwind_read.specs.Rules.{section_faults}
use Rattle.unwind_read.specs.Unwinds.{fault_places, section_spans}
use Rattle.mo_obj.specs.Rules.{IsIn}
use Rattle.link_gen.specs.declared.calls.MadeObject.{MadeObject}
use Rattle.gen_laws.specs.Object.{made_object, text_section}

none_there : (made : MadeObject) → fault_places (made_object made) ≡ []
unfolding made_object text_section section_faults section_spans overlap_faults
none_there made = refl

pub no_entries : (made : MadeObject) (place : ℕ) → IsIn (fault_places (made_object made)) place → ⊥
no_entries made place has = by has.0 (rw (none_there made) at has.1)
  where
    by : (number : ℕ) → slice_get [] number ≡ Some place → ⊥
    by zero is = cc
    by (suc number) is = cc
