-- Libraries that are looked at one after the other.
use Rattle.std.specs.Prelude.{ℕ, ◌≡◌, ◌+◌, ◌-◌, ◌<◌, ◌⊎◌, false, List, get_or}
use Rattle.lib_bind.specs.declared.library.Library.{Library}

-- what stands where there is no library
abbrev pub no_library : Library
no_library = record { position = 0; ordinal = 0; weak = false; reexport = false; document = 0 }

-- the library at a place has a document, the ordinal of its place, and a greater position than the one before
pub record IsNext (documents : ℕ) (libraries : List Library) (at : ℕ) : Type 0 where
  pub within : (get_or libraries at no_library).document < documents
  pub ordinal : (get_or libraries at no_library).ordinal ≡ at + 1
  pub rising : (at ≡ 0) ⊎ ((get_or libraries (at - 1) no_library).position < (get_or libraries at no_library).position)
