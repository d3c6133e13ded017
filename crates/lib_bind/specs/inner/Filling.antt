-- How the code notes the names that libraries provide.
use Rattle.std.specs.Prelude.{ℕ, ◌≡◌, ◌<◌, ◌&&◌, ◌||◌, Bool, true, false, not, nat_eq, bytes_eq, List, get_or, Option, None, Some, IsSome, if◌then◌else◌}
use Rattle.std.specs.List.{list_any}
use Rattle.tbd_doc.specs.declared.stub.Export.{Export}
use Rattle.tbd_doc.specs.declared.stub.Stub.{Stub}
use Rattle.lib_bind.specs.declared.fill.Filling.{Filling}
use Rattle.lib_bind.specs.declared.index.NameIndex.{NameIndex}
use Rattle.lib_bind.specs.declared.library.Library.{Library}
use Rattle.lib_bind.specs.declared.provider.Offer.{Offer}
use Rattle.lib_bind.specs.Provides.{exports_at, weakens_at}
use Rattle.lib_bind.specs.inner.Index.{known}

-- a library's own offer becomes a weak one
abbrev pub adds : Offer → Library → Bool → Bool
adds offer library weak = (nat_eq offer.library.ordinal library.ordinal && weak) && not offer.weak

-- what is known of a name after a library was looked at that exports it or doesn't, and lists it as weak or doesn't
abbrev pub merged : Library → Option Offer → Bool → Bool → Option Offer
merged library None exported weak = if exported then Some (record { library = library; weak = weak }) else None
merged library (Some offer) exported weak =
    Some (record { library = offer.library; weak = offer.weak || (nat_eq offer.library.ordinal library.ordinal && weak) })

-- what is known after a library was looked at that exports some names, and lists some of them as weak
abbrev pub AddsNames : Library → (List ℕ → Bool) → (List ℕ → Bool) → NameIndex → NameIndex → Type 0
AddsNames library exported weak before after = (name : List ℕ) → known after name ≡ merged library (known before name) (exported name) (weak name)

-- a name is among exports, and among the weak ones of them
abbrev pub exports_name : List Export → List ℕ → Bool
exports_name exports name = list_any (λ export. bytes_eq name export.name) exports

abbrev pub weakens_name : List Export → List ℕ → Bool
weakens_name exports name = list_any (λ export. bytes_eq name export.name && export.weak) exports

-- what is known after the document of a number was looked at, which a library reaches
abbrev pub AddsDocument : Library → List Stub → ℕ → Filling → Filling → Type 0
AddsDocument library documents at before after =
    (name : List ℕ) → known after.index name ≡ merged library (known before.index name) (exports_at documents name at) (weakens_at documents name at)

-- the names of the documents that were looked at are known
pub record Covers (documents : List Stub) (filling : Filling) : Type 0 where
  pub names : (d : ℕ) → get_or filling.seen.items d false ≡ true → (name : List ℕ) → exports_at documents name d ≡ true → IsSome (known filling.index name)

-- the libraries that are known to provide names have lesser ordinals
pub record IsBefore (ordinal : ℕ) (index : NameIndex) : Type 0 where
  pub lesser : (name : List ℕ) (offer : Offer) → known index name ≡ Some offer → offer.library.ordinal < ordinal
