-- An image whose front has its UUID and whose end has the front's signature is sealed.
use Rattle.std.proofs.Common.{◌≡◌, ℕ, ◌+◌, ◌-◌, ◌<◌, ◌≤◌, ◌^◌, List, ◌++◌, length, take, drop, get_or, replicate, sym, ap, ◌∙◌, arith, length-append, append_assoc}
use Rattle.std.proofs.Math.Seq.{drop-append_seam, take-append_seam}
use Rattle.std.proofs.lemmas.List.{get_or_append_left, get_or-take, length-replicate, length-take-le}
use Rattle.mo_bytes.specs.Rounding.{least_multiple}
use Rattle.sign_adhoc.specs.Pages.{page_hashes}
use Rattle.sign_adhoc.specs.Signature.{blob_size, padded, signature, signature_size, with_hashes}
use Rattle.sign_adhoc.specs.Uuid.{IsBesideUuid, image_uuid, with_uuid}
use Rattle.sign_adhoc.specs.Standing.{IsNamed, IsSigned}
use Rattle.sign_adhoc.proofs.GoodLemmas.{is_signed}
use Rattle.sign_adhoc.proofs.PageLemmas.{blob_within}
use Rattle.sign_adhoc.proofs.SizeLemmas.{length-signature}
use Rattle.sign_adhoc.proofs.UuidLemmas.{length-image_uuid, length-with_uuid, same_uuid}
use Rattle.image_join.specs.Sealed.{HasPlaces, IsSealed, IsUnsealed}
use Rattle.image_join.specs.declared.parts.Seal.{Seal}

-- the bytes of a UUID, read at their place
uuid_read : (at : ℕ) (uuid image rest : List ℕ) → length uuid ≡ 16 → at + 16 ≤ length image → take 16 (drop at (with_uuid at uuid image ++ rest)) ≡ uuid
unfolding with_uuid
uuid_read at uuid image rest long room =
    let before : length (take at image) ≡ at = length-take-le at image (omega arith) in
    let shape : (take at image ++ (uuid ++ drop (at + 16) image)) ++ rest ≡ take at image ++ (uuid ++ (drop (at + 16) image ++ rest)) = simp append_assoc in
    ap (λ (bytes : List ℕ). take 16 (drop at bytes)) shape
    ∙ ap (λ (n : ℕ). take 16 (drop n (take at image ++ (uuid ++ (drop (at + 16) image ++ rest))))) (sym before)
    ∙ ap (λ (bytes : List ℕ). take 16 bytes) (drop-append_seam (take at image) (uuid ++ (drop (at + 16) image ++ rest)))
    ∙ ap (λ (n : ℕ). take n (uuid ++ (drop (at + 16) image ++ rest))) (sym long)
    ∙ take-append_seam uuid (drop (at + 16) image ++ rest)

-- the parts of an image that is sealed: its front before and after, and what was written behind it
pub record IsSealing (seal : Seal) (old front new bytes place : List ℕ) : Type 0 where
  pub places : HasPlaces seal (length old)
  pub before : front ≡ take seal.signature_at old
  pub uuid : new ≡ with_uuid seal.uuid_at (image_uuid seal.uuid_at front) front
  pub signature : bytes ≡ signature new seal.identifier seal.text_size seal.main
  pub behind : place ≡ bytes ++ replicate (length old - seal.signature_at - length bytes) 0

-- bytes that were made of equal things
pub sealing : (seal : Seal) (old front new bytes place identifier : List ℕ) (hashes : List (List ℕ)) (room : ℕ) → HasPlaces seal (length old) → front ≡ take seal.signature_at old → new ≡ with_uuid seal.uuid_at (image_uuid seal.uuid_at front) front → hashes ≡ page_hashes new → identifier ≡ seal.identifier → bytes ≡ with_hashes (length new) hashes identifier seal.text_size seal.main → room ≡ length old - seal.signature_at → place ≡ bytes ++ replicate (room - length bytes) 0 → IsSealing seal old front new bytes place
sealing seal old front new bytes place identifier hashes room places before uuid are named is_bytes is_room is_place = record {
  places = places;
  before = before;
  uuid = uuid;
  signature = is_bytes
      ∙ ap (λ (list : List (List ℕ)). with_hashes (length new) list identifier seal.text_size seal.main) are
      ∙ ap (λ (name : List ℕ). with_hashes (length new) (page_hashes new) name seal.text_size seal.main) named;
  behind = is_place ∙ ap (λ (n : ℕ). bytes ++ replicate (n - length bytes) 0) is_room;
}

module _ (seal : Seal) (old front new bytes place : List ℕ) (it : IsSealing seal old front new bytes place) where
  long_front : length front ≡ seal.signature_at
  long_front =
      let room = it.places.signature in
      ap (λ (part : List ℕ). length part) it.before ∙ length-take-le seal.signature_at old (omega arith)

  room : seal.uuid_at + 16 ≤ length front
  room = let long = long_front in let fits = it.places.uuid in omega arith

  long_new : length new ≡ seal.signature_at
  long_new =
      ap (λ (part : List ℕ). length part) it.uuid
      ∙ length-with_uuid seal.uuid_at (image_uuid seal.uuid_at front) front (length-image_uuid seal.uuid_at front) room
      ∙ long_front

  long_bytes : length bytes ≡ blob_size (length seal.identifier) seal.signature_at
  long_bytes =
      ap (λ (part : List ℕ). length part) it.signature
      ∙ length-signature new seal.identifier seal.text_size seal.main
      ∙ ap (λ (n : ℕ). blob_size (length seal.identifier) n) long_new

  pub bytes_fit : length bytes ≤ length old - seal.signature_at
  bytes_fit =
      let long = long_bytes in
      let below = blob_within (length seal.identifier) seal.signature_at in
      let size = it.places.signature in
      omega arith

  front_of_new : take seal.signature_at (new ++ place) ≡ new
  front_of_new = ap (λ (n : ℕ). take n (new ++ place)) (sym long_new) ∙ take-append_seam new place

  end_of_new : drop seal.signature_at (new ++ place) ≡ place
  end_of_new = ap (λ (n : ℕ). drop n (new ++ place)) (sym long_new) ∙ drop-append_seam new place

  gap : length old - seal.signature_at - length bytes ≡ least_multiple 16 (length bytes) - length bytes
  unfolding signature_size
  gap =
      let same : least_multiple 16 (length bytes) ≡ signature_size (length seal.identifier) seal.signature_at = ap (λ (n : ℕ). least_multiple 16 n) long_bytes in
      let size = it.places.signature in
      omega arith

  filled : place ≡ padded bytes
  filled = it.behind ∙ ap (λ (n : ℕ). bytes ++ replicate n 0) gap

  pub sealed : IsSealed seal (new ++ place)
  sealed = record {
    uuid = ap (λ (part : List ℕ). take 16 (drop seal.uuid_at (part ++ place))) it.uuid
        ∙ uuid_read seal.uuid_at (image_uuid seal.uuid_at front) front place (length-image_uuid seal.uuid_at front) room
        ∙ sym (ap (λ (part : List ℕ). image_uuid seal.uuid_at part) (front_of_new ∙ it.uuid) ∙ same_uuid seal.uuid_at (image_uuid seal.uuid_at front) front (length-image_uuid seal.uuid_at front) room);
    signature = end_of_new ∙ filled
        ∙ ap (λ (part : List ℕ). padded part) (it.signature ∙ ap (λ (part : List ℕ). signature part seal.identifier seal.text_size seal.main) (sym front_of_new));
  }

  long_place : length place ≡ length old - seal.signature_at
  long_place =
      let zeros : length (replicate {A = ℕ} (length old - seal.signature_at - length bytes) 0) ≡ length old - seal.signature_at - length bytes = length-replicate (length old - seal.signature_at - length bytes) 0 in
      let fits = bytes_fit in
      ap (λ (part : List ℕ). length part) it.behind ∙ length-append bytes (replicate (length old - seal.signature_at - length bytes) 0) ∙ omega arith

  long_whole : length (new ++ place) ≡ length old
  long_whole =
      let first = long_new in
      let last = long_place in
      let size = it.places.signature in
      length-append new place ∙ omega arith

  -- where its command names the signature, the image is signed
  pub is_good : seal.text_size < 2 ^ 64 → IsNamed (new ++ place) seal.signature_at (signature_size (length seal.identifier) seal.signature_at) → IsSigned (new ++ place)
  is_good text named =
      let whole = long_whole in
      let few = it.places.few in
      is_signed (new ++ place) seal.signature_at seal.identifier seal.text_size seal.main
      (record { place = it.places.signature ∙ sym whole; bytes = sealed.signature; few = omega arith; text = text })
      named

-- a byte that is none of either is as it was
pub others_stay : (seal : Seal) (old front new place : List ℕ) → HasPlaces seal (length old) → front ≡ take seal.signature_at old → length new ≡ length front → ((k : ℕ) → IsBesideUuid seal.uuid_at k → get_or new k 0 ≡ get_or front k 0) → (k : ℕ) → IsUnsealed seal k → get_or (new ++ place) k 0 ≡ get_or old k 0
others_stay seal old front new place places before long beside k (low, out) =
    let size = places.signature in
    let front_long : length front ≡ seal.signature_at = ap (λ (part : List ℕ). length part) before ∙ length-take-le seal.signature_at old (omega arith) in
    get_or_append_left new place 0 k (omega arith)
    ∙ beside k out
    ∙ ap (λ (part : List ℕ). get_or part k 0) before
    ∙ get_or-take seal.signature_at old k 0 low
