-- What is answered for the pointers of a layout: their chains, or why there are none.
use Rattle.std.specs.Prelude.{◌≡◌, ◌<◌, ◌≤◌, Bool, true, List, length, Contains, None}
use Rattle.mo_types.specs.declared.cause.Which.TheVariants as which
use Rattle.sect_place.specs.declared.layout.Layout.{Layout}
use Rattle.fixup_chain.specs.Encoded.{IMPORTS, blob_of}
use Rattle.fixup_chain.specs.Faults.{IsFirstFault, base_of, fault_of, target_of}
use Rattle.fixup_chain.specs.ImportOrder.{Import}
use Rattle.fixup_chain.specs.Imports.{AreFormed, is_bound}
use Rattle.fixup_chain.specs.Places.{addresses_of}
use Rattle.fixup_chain.specs.Words.{words_of}
use Rattle.fixup_chain.specs.declared.chains.ChainFault.{ChainFault}
use Rattle.fixup_chain.specs.declared.chains.ChainFault.TheVariants as fault
use Rattle.fixup_chain.specs.declared.chains.Chains.{Chains}
use Rattle.fixup_chain.specs.declared.chains.Fixup.{Fixup}

-- Chains go through all pointers, none of which has a fault, and tell the loader of their imports.
pub record AreChains (layout : Layout) (fixups : List Fixup) (chains : Chains) : Type 0 where
  pub wide : Bool
  pub imports : List Import
  pub formed : AreFormed fixups wide imports
  pub few : length imports < IMPORTS
  pub sound : (fixup : Fixup) → Contains fixups fixup → fault_of layout fixup ≡ None
  pub words : chains.words ≡ words_of (target_of layout) wide imports fixups
  pub blob : chains.blob ≡ blob_of (addresses_of fixups) (base_of layout.segments) layout.segments wide imports

-- there are more imports than words have room for
pub record AreMany (fixups : List Fixup) : Type 0 where
  pub wide : Bool
  pub imports : List Import
  pub formed : AreFormed fixups wide imports
  pub many : IMPORTS ≤ length imports

-- What pointers are bound to others are bound to too, with the same addends, wherever either stand.
pub record AreAmong (few more : List Fixup) : Type 0 where
  pub each : (fixup : Fixup) → Contains few fixup → is_bound fixup.goal ≡ true → (other : Fixup) × Contains more other × (other.goal ≡ fixup.goal) × (other.addend ≡ fixup.addend)

-- words have room for all imports, and some pointer has a fault, of which this is the first
pub record IsRefused (layout : Layout) (fixups : List Fixup) (why : ChainFault) : Type 0 where
  pub wide : Bool
  pub imports : List Import
  pub formed : AreFormed fixups wide imports
  pub few : length imports < IMPORTS
  pub first : IsFirstFault layout fixups why

-- when each fault is answered; want of memory may always be
abbrev pub IsCause : Layout → List Fixup → ChainFault → Type 0
IsCause layout fixups (fault.Range atom place kind value) = IsRefused layout fixups (fault.Range atom place kind value)
IsCause layout fixups (fault.Limit limit) = (limit ≡ which.Imports) × AreMany fixups
IsCause layout fixups fault.OutOfMemory = Unit {0}
