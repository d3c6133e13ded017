-- The files for which names ask where no library is in the way, as the code finds them.
use Rattle.std.specs.Prelude.{◌≡◌, ℕ, Bool, List, Option, if◌then◌else◌}
use Rattle.std.specs.HashMap.{get}
use Rattle.std.specs.List.{list_any}
use Rattle.std.specs.Str.{bytes_eq}
use Rattle.mo_ar.specs.declared.offers.Offer.{Offer}
use Rattle.mo_types.specs.Scan.{first_some, option_or_else}
use Rattle.mo_types.specs.declared.key.FileId.{FileId}
use Rattle.member_rounds.specs.Rounds.{offer_in}
use Rattle.member_rounds.specs.declared.files_by_name.FilesByName.{FilesByName}
use Rattle.input_files.specs.declared.input.Input.{Input}

-- the file of a name
abbrev pub file_named : FilesByName → List ℕ → Option FileId
file_named index name = get bytes_eq index.files name

-- whether a name is offered
abbrev pub is_offered : List ℕ → List Offer → Bool
is_offered name offers = list_any (λ offer. bytes_eq offer.name name) offers

-- the file of a name, or else the member that an input offers
abbrev pub named_or_offered : FilesByName → Input → List ℕ → Option FileId
named_or_offered index input name = option_or_else (file_named index name) (offer_in name input)

-- names that pass a test have the member that an input offers where they have no file; other names are left
abbrev pub HasOffered : (List ℕ → Bool) → FilesByName → Input → FilesByName → Type 0
HasOffered test before input after =
    (name : List ℕ) → file_named after name ≡ (if test name then named_or_offered before input name else file_named before name)

-- each name leads to the least-numbered member of the first archive that offers it
pub record IsIndexOf (inputs : List Input) (index : FilesByName) : Type 0 where
  pub leads : (name : List ℕ) → file_named index name ≡ first_some (offer_in name) inputs
