-- What a name asks for, by what is offered.
use Rattle.std.proofs.Common.{◌≡◌, ℕ, Bool, true, false, List, Option, Some, None, refl, sym}
use Rattle.mo_types.specs.declared.key.FileId.{FileId}
use Rattle.lib_bind.specs.Provides.{offer_of}
use Rattle.lib_bind.specs.declared.library.LibraryGraph.{LibraryGraph}
use Rattle.lib_bind.specs.declared.provider.Offer.{Offer}
use Rattle.member_rounds.specs.Rounds.{asked_by, is_header_name, offer_in, unless_before}
use Rattle.mo_types.specs.Scan.{first_some}
use Rattle.input_files.specs.declared.input.Input.{Input}

pub header_asks : (inputs : List Input) (libs : LibraryGraph) (name : List ℕ) → is_header_name name ≡ true → None ≡ asked_by inputs libs name
unfolding asked_by
header_asks inputs libs name is = rw is refl

pub none_asks : (inputs : List Input) (libs : LibraryGraph) (name : List ℕ) → is_header_name name ≡ false → None ≡ first_some (offer_in name) inputs → None ≡ asked_by inputs libs name
unfolding asked_by
none_asks inputs libs name other none = rw (other, ← none) refl

pub some_asks : (inputs : List Input) (libs : LibraryGraph) (name : List ℕ) (id : FileId) (result : Option FileId) (offer : Option Offer) → is_header_name name ≡ false → Some id ≡ first_some (offer_in name) inputs → offer ≡ offer_of libs name → result ≡ unless_before (Some id) offer → result ≡ asked_by inputs libs name
unfolding asked_by
some_asks inputs libs name id result offer other first library is = rw (other, ← first, ← library) is

-- a name that no archive offers asks for nothing
pub asks_none : (inputs : List Input) (libs : LibraryGraph) (name : List ℕ) → first_some (offer_in name) inputs ≡ None → None ≡ asked_by inputs libs name
asks_none inputs libs name none = by (is_header_name name) refl
  where
    by : (b : Bool) → is_header_name name ≡ b → None ≡ asked_by inputs libs name
    by true e = header_asks inputs libs name e
    by false e = none_asks inputs libs name e (sym none)

pub ruleset asks = (header_asks, none_asks, some_asks)
