-- The signature that stands in an image, where its command says (`loader.h`: linkedit_data_command), and what a check of
-- it answers.
use Rattle.std.specs.Prelude.{ℕ, ◌+◌, ◌*◌, ◌≡◌, ◌<◌, ◌≤◌, ◌==◌, ◌&&◌, nat_le, List, length, take, drop, slice_index, slice_range, EachIndex, Option, Some, None, if◌then◌else◌}
use Rattle.image_read.specs.Commands.{cmd, cmdsize, commands_of, fits}
use Rattle.mo_types.specs.Rows.{when}
use Rattle.mo_types.specs.Scan.{first_some}
use Rattle.mo_format.specs.Linkedit.{linkedit_data_command_at}
use Rattle.image_format.specs.Signature.{super_blob_at, blob_index_at, code_directory_at}
use Rattle.image_format.specs.declared.signature.SuperBlob.{SuperBlob}
use Rattle.image_format.specs.declared.signature.BlobIndex.{BlobIndex}
use Rattle.image_format.specs.declared.signature.CodeDirectory.{CodeDirectory}
use Rattle.mo_format.specs.declared.loader.TheConstants.{LC_CODE_SIGNATURE}
use Rattle.sign_adhoc.specs.Pages.{page_count, page_hash}
use Rattle.sign_adhoc.specs.Signature.{blob_size, directory, directory_entry, hashes_begin, signature_size, super_blob}
use Rattle.sign_adhoc.specs.declared.standing.Standing.{Standing}
use Rattle.sign_adhoc.specs.declared.answer.Check.{Check}
use Rattle.sign_adhoc.specs.declared.answer.Check.TheVariants.{Good, No, Absent}

-- the place, where the command of a signature stands there with all of its fields
unfoldable pub signature_command_at : List ℕ → ℕ → Option ℕ
signature_command_at image at = when (cmd image at == LC_CODE_SIGNATURE && nat_le 16 (cmdsize image at)) at

-- the first such command
unfoldable pub first_command : List ℕ → Option ℕ
first_command image = first_some (signature_command_at image) (commands_of image)

-- the same, where the image's commands fit it
unfoldable pub signature_command : List ℕ → Option ℕ
signature_command image = if fits image then first_command image else None

-- the command names these bytes
pub record IsNamed (image : List ℕ) (from size : ℕ) : Type 0 where
  pub at : ℕ
  pub command : signature_command image ≡ Some at
  pub dataoff : (linkedit_data_command_at image at).dataoff ≡ from
  pub datasize : (linkedit_data_command_at image at).datasize ≡ size

-- the super blob, its entry and the code directory, as they stand there
abbrev pub blob_of : List ℕ → Standing → SuperBlob
blob_of image s = super_blob_at image s.from

abbrev pub entry_of : List ℕ → Standing → BlobIndex
entry_of image s = blob_index_at image (s.from + 12)

abbrev pub directory_of : List ℕ → Standing → CodeDirectory
directory_of image s = code_directory_at image (s.from + 20)

-- all bytes are 0
abbrev pub AreZeros : List ℕ → Type 0
AreZeros bytes = EachIndex bytes (λ k. slice_index bytes k ≡ 0)

-- the identifier ends in NUL, and zeros fill the signature up
pub record HasEnds (image : List ℕ) (s : Standing) : Type 0 where
  pub nul : slice_index image (s.from + 108 + s.identifier) ≡ 0
  pub zeros : AreZeros (slice_range image (s.from + blob_size s.identifier s.from) (s.from + s.size))

-- bytes of an image are an ad-hoc signature of what stands before them, whatever its hashes are
pub record IsStanding (image : List ℕ) (s : Standing) : Type 0 where
  pub within : s.from + s.size ≤ length image
  pub size : s.size ≡ signature_size s.identifier s.from
  pub blob : blob_of image s ≡ super_blob s.identifier s.from
  pub entry : entry_of image s ≡ directory_entry
  pub directory : directory_of image s ≡ directory s.identifier s.from s.text_size s.main
  pub ends : HasEnds image s

-- the signature of the image
pub record IsSignature (image : List ℕ) (s : Standing) : Type 0 where
  pub named : IsNamed image s.from s.size
  pub stands : IsStanding image s

-- the hash of page k, as the signature has it
abbrev pub hash_in : List ℕ → Standing → ℕ → List ℕ
hash_in image s k = take 32 (drop (s.from + 20 + hashes_begin s.identifier + 32 * k) image)

-- it is that of the page
abbrev pub IsHashed : List ℕ → Standing → ℕ → Type 0
IsHashed image s k = hash_in image s k ≡ page_hash (take s.from image) k

-- all hashes before that of page n are those of their pages
abbrev pub AreHashed : List ℕ → Standing → ℕ → Type 0
AreHashed image s n = (k : ℕ) → k < n → IsHashed image s k

-- page k is the first one whose hash is another
pub record IsFirstChanged (image : List ℕ) (s : Standing) (k : ℕ) : Type 0 where
  pub among : k < page_count s.from
  pub changed : ¬ IsHashed image s k
  pub first : AreHashed image s k

-- a signature stands, and each of its hashes is that of the page
pub record IsSigned (image : List ℕ) : Type 0 where
  pub signature : Standing
  pub stands : IsSignature image signature
  pub hashed : AreHashed image signature (page_count signature.from)

-- a signature stands, and this page is the first whose hash is another
pub record IsChangedAt (image : List ℕ) (page : ℕ) : Type 0 where
  pub signature : Standing
  pub stands : IsSignature image signature
  pub changed : IsFirstChanged image signature page

-- what a check answers
abbrev pub IsAnswer : List ℕ → Check → Type 0
IsAnswer image Good = IsSigned image
IsAnswer image (No page) = IsChangedAt image page
IsAnswer image Absent = (s : Standing) → ¬ IsSignature image s
