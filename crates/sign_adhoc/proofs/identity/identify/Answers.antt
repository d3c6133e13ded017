use Rattle.std.proofs.Common.{◌≡◌, ℕ, List, length, replicate, slice_index, refl, sym, ap, ◌∙◌, rules}
use Rattle.sign_adhoc.specs.Uuid.{uuid_of}
use Rattle.sign_adhoc.proofs.UuidLemmas.{beside_stays, identified, put_back}
use Rattle.sign_adhoc.proofs.identity.identify.Goals as goal

pub returns-in_err-hashes-clause-beside : goal.returns-in_err-hashes-clause-beside
returns-in_err-hashes-clause-beside g c k beside =
    ap (λ (bytes : List ℕ). slice_index bytes k) c.put_uuid.ensures ∙ beside_stays c.args.uuid_at (replicate 16 0) c.args.image.now k refl c.requires beside

pub renew-requires-clause-count : goal.renew-requires-clause-count
renew-requires-clause-count g c =
    let listed : c.as_mut_slice.result.now ≡ c.in_ok-hashes.hashes.items = search rules in
    let read : c.as_slice.result.now ≡ c.in_ok-hashes.hashes.items = search rules in
    (identified c.args.uuid_at c.args.image.now c.put_uuid.new.image c.put_uuid-2.new.image c.uuid_of-uuid.result c.as_mut_slice.result.now c.requires c.put_uuid.ensures (listed ∙ c.in_ok-hashes.ensures) (c.uuid_of-uuid.ensures ∙ ap (λ (list : List (List ℕ)). uuid_of list) (read ∙ sym listed)) c.put_uuid-2.ensures).count

pub returns-clause-uuid : goal.returns-clause-uuid
returns-clause-uuid g c =
    let listed : c.as_mut_slice.result.now ≡ c.in_ok-hashes.hashes.items = search rules in
    let read : c.as_slice.result.now ≡ c.in_ok-hashes.hashes.items = search rules in
    (identified c.args.uuid_at c.args.image.now c.put_uuid.new.image c.put_uuid-2.new.image c.uuid_of-uuid.result c.as_mut_slice.result.now c.requires c.put_uuid.ensures (listed ∙ c.in_ok-hashes.ensures) (c.uuid_of-uuid.ensures ∙ ap (λ (list : List (List ℕ)). uuid_of list) (read ∙ sym listed)) c.put_uuid-2.ensures).uuid

pub returns-clause-hashes : goal.returns-clause-hashes
returns-clause-hashes g c =
    let listed : c.as_mut_slice.result.now ≡ c.in_ok-hashes.hashes.items = search rules in
    let read : c.as_slice.result.now ≡ c.in_ok-hashes.hashes.items = search rules in
    let long : length c.renew.new.hashes ≡ c.in_ok-hashes.hashes.len = search rules in
    put_back c.in_ok-hashes.hashes.len c.renew.new.hashes c.in_ok-hashes.hashes.items long
    ∙ c.renew.ensures
    ∙ (identified c.args.uuid_at c.args.image.now c.put_uuid.new.image c.put_uuid-2.new.image c.uuid_of-uuid.result c.as_mut_slice.result.now c.requires c.put_uuid.ensures (listed ∙ c.in_ok-hashes.ensures) (c.uuid_of-uuid.ensures ∙ ap (λ (list : List (List ℕ)). uuid_of list) (read ∙ sym listed)) c.put_uuid-2.ensures).anew

pub returns-clause-beside : goal.returns-clause-beside
returns-clause-beside g c =
    let listed : c.as_mut_slice.result.now ≡ c.in_ok-hashes.hashes.items = search rules in
    let read : c.as_slice.result.now ≡ c.in_ok-hashes.hashes.items = search rules in
    (identified c.args.uuid_at c.args.image.now c.put_uuid.new.image c.put_uuid-2.new.image c.uuid_of-uuid.result c.as_mut_slice.result.now c.requires c.put_uuid.ensures (listed ∙ c.in_ok-hashes.ensures) (c.uuid_of-uuid.ensures ∙ ap (λ (list : List (List ℕ)). uuid_of list) (read ∙ sym listed)) c.put_uuid-2.ensures).beside
