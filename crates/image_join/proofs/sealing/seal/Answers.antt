use Rattle.std.proofs.Common.{◌≡◌, ℕ, ◌-◌, ◌<◌, ◌^◌, List, ◌++◌, length, take, replicate, refl, sym, ◌∙◌, subst, arith, rules}
use Rattle.sign_adhoc.specs.Signature.{blob_size}
use Rattle.sign_adhoc.proofs.PageLemmas.{blob_within}
use Rattle.image_join.proofs.SealLemmas.{bytes_fit, is_good, sealed, sealing}
use Rattle.image_join.proofs.sealing.seal.Goals as goal

pub sign_hashes-requires-clause-size : goal.sign_hashes-requires-clause-size
sign_hashes-requires-clause-size g c =
    let whole = c.args.seal.now in
    let front : length c.split_at_mut-front.result.0.now ≡ whole.signature_at = search rules in
    let same : length c.identify.new.image ≡ length c.split_at_mut-front.result.0.now = search rules in
    let below = blob_within (length whole.identifier) whole.signature_at in
    let ends = c.requires.signature in
    let few = c.requires.few in
    let size : blob_size (length whole.identifier) whole.signature_at < 4294967296 = omega arith in
    subst (λ (n : ℕ). blob_size (length c.as_slice-2.result.now) n < 4294967296) (sym (same ∙ front))
    (subst (λ (name : List ℕ). blob_size (length name) whole.signature_at < 4294967296) (sym c.as_slice-2.ensures) size)

pub put_padded-requires : goal.put_padded-requires
put_padded-requires g c =
    let whole = c.args.seal.now in
    let front = c.split_at_mut-front.result.0.now in
    let before : front ≡ take whole.signature_at c.args.image.now = search rules in
    let room : length c.split_at_mut-front.result.1.now ≡ length c.args.image.now - whole.signature_at = search rules in
    let hashes : c.as_slice.result.now ≡ c.in_ok-hashes.hashes.items = search rules in
    let bytes : c.as_slice-3.result.now ≡ c.in_ok-signature.signature.items = search rules in
    let fits = bytes_fit whole c.args.image.now front c.identify.new.image c.as_slice-3.result.now (c.as_slice-3.result.now ++ replicate (length c.split_at_mut-front.result.1.now - length c.as_slice-3.result.now) 0) (sealing whole c.args.image.now front c.identify.new.image c.as_slice-3.result.now (c.as_slice-3.result.now ++ replicate (length c.split_at_mut-front.result.1.now - length c.as_slice-3.result.now) 0) c.as_slice-2.result.now c.as_slice.result.now (length c.split_at_mut-front.result.1.now) c.requires before c.in_ok-hashes.ensures.uuid (hashes ∙ c.in_ok-hashes.ensures.hashes) c.as_slice-2.ensures (bytes ∙ c.in_ok-signature.ensures) room refl) in
    omega arith

pub returns-clause-sealed : goal.returns-clause-sealed
returns-clause-sealed g c =
    let whole = c.args.seal.now in
    let front = c.split_at_mut-front.result.0.now in
    let before : front ≡ take whole.signature_at c.args.image.now = search rules in
    let room : length c.split_at_mut-front.result.1.now ≡ length c.args.image.now - whole.signature_at = search rules in
    let hashes : c.as_slice.result.now ≡ c.in_ok-hashes.hashes.items = search rules in
    let bytes : c.as_slice-3.result.now ≡ c.in_ok-signature.signature.items = search rules in
    sealed whole c.args.image.now front c.identify.new.image c.as_slice-3.result.now c.put_padded.new.place (sealing whole c.args.image.now front c.identify.new.image c.as_slice-3.result.now c.put_padded.new.place c.as_slice-2.result.now c.as_slice.result.now (length c.split_at_mut-front.result.1.now) c.requires before c.in_ok-hashes.ensures.uuid (hashes ∙ c.in_ok-hashes.ensures.hashes) c.as_slice-2.ensures (bytes ∙ c.in_ok-signature.ensures) room c.put_padded.ensures)

pub returns-clause-good : goal.returns-clause-good
returns-clause-good g c =
    let whole = c.args.seal.now in
    let front = c.split_at_mut-front.result.0.now in
    let before : front ≡ take whole.signature_at c.args.image.now = search rules in
    let room : length c.split_at_mut-front.result.1.now ≡ length c.args.image.now - whole.signature_at = search rules in
    let hashes : c.as_slice.result.now ≡ c.in_ok-hashes.hashes.items = search rules in
    let bytes : c.as_slice-3.result.now ≡ c.in_ok-signature.signature.items = search rules in
    let text : c.args.seal.now.text_size < 2 ^ 64 = search rules in
    is_good whole c.args.image.now front c.identify.new.image c.as_slice-3.result.now c.put_padded.new.place (sealing whole c.args.image.now front c.identify.new.image c.as_slice-3.result.now c.put_padded.new.place c.as_slice-2.result.now c.as_slice.result.now (length c.split_at_mut-front.result.1.now) c.requires before c.in_ok-hashes.ensures.uuid (hashes ∙ c.in_ok-hashes.ensures.hashes) c.as_slice-2.ensures (bytes ∙ c.in_ok-signature.ensures) room c.put_padded.ensures) text
