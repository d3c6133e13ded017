-- What a check answers of a signed image that was changed.
use Rattle.std.proofs.Common.{◌≡◌, ℕ, ◌+◌, ◌*◌, ◌↔◌, List, take, drop, sym, ap, ◌∙◌, subst, arith}
use Rattle.std.proofs.lemmas.List.{drop-drop}
use Rattle.sign_adhoc.specs.Changed.{HasItsHash, HaveTheirHashes, IsChanged, IsFirstOther}
use Rattle.sign_adhoc.specs.Pages.{page_count}
use Rattle.sign_adhoc.specs.Signature.{hashes_begin}
use Rattle.sign_adhoc.specs.Standing.{AreHashed, IsChangedAt, IsFirstChanged, IsHashed, IsSigned, hash_in}
use Rattle.sign_adhoc.specs.declared.standing.Standing.{Standing}
use Rattle.sign_adhoc.proofs.AnswerLemmas.{one_signature}

behind : (image : List ℕ) (from n k : ℕ) → take 32 (drop (from + 20 + n + k) image) ≡ take 32 (drop (20 + n + k) (drop from image))
behind image from n k =
    let place : from + (20 + n + k) ≡ from + 20 + n + k = omega arith in
    ap (λ (bytes : List ℕ). take 32 bytes) (sym (drop-drop (20 + n + k) from image ∙ ap (λ (at : ℕ). drop at image) place))

kept_hash : (signed image : List ℕ) (s : Standing) (k : ℕ) → IsChanged signed image s → hash_in image s k ≡ hash_in signed s k
kept_hash signed image s k changed =
    behind image s.from (hashes_begin s.identifier) (32 * k)
    ∙ ap (λ (bytes : List ℕ). take 32 (drop (20 + hashes_begin s.identifier + 32 * k) bytes)) changed.kept
    ∙ sym (behind signed s.from (hashes_begin s.identifier) (32 * k))

has_it : (signed image : List ℕ) (s : Standing) (k : ℕ) → IsChanged signed image s → IsHashed signed s k → IsHashed image s k → HasItsHash signed image s.from k
has_it signed image s k changed before now = sym now ∙ kept_hash signed image s k changed ∙ before

is_hashed : (signed image : List ℕ) (s : Standing) (k : ℕ) → IsChanged signed image s → IsHashed signed s k → HasItsHash signed image s.from k → IsHashed image s k
is_hashed signed image s k changed before same = kept_hash signed image s k changed ∙ before ∙ sym same

pub good : (signed image : List ℕ) (is : IsSigned signed) → IsChanged signed image is.signature → IsSigned image ↔ HaveTheirHashes signed image is.signature.from (page_count is.signature.from)
good signed image is changed = (to, from)
  where
    s : Standing
    s = is.signature

    to : IsSigned image → HaveTheirHashes signed image s.from (page_count s.from)
    to good k low =
        let same : good.signature ≡ s = one_signature image good.signature s good.stands changed.found in
        let all : AreHashed image s (page_count s.from) = subst (λ (t : Standing). AreHashed image t (page_count t.from)) same good.hashed in
        has_it signed image s k changed (is.hashed k low) (all k low)

    from : HaveTheirHashes signed image s.from (page_count s.from) → IsSigned image
    from have = record {
      signature = s;
      stands = changed.found;
      hashed = λ k low. is_hashed signed image s k changed (is.hashed k low) (have k low);
    }

pub first_other : (signed image : List ℕ) (page : ℕ) (is : IsSigned signed) → IsChanged signed image is.signature → IsChangedAt image page ↔ IsFirstOther signed image is.signature.from page
first_other signed image page is changed = (to, from)
  where
    s : Standing
    s = is.signature

    to : IsChangedAt image page → IsFirstOther signed image s.from page
    to at =
        let same : at.signature ≡ s = one_signature image at.signature s at.stands changed.found in
        let is_first : IsFirstChanged image s page = subst (λ (t : Standing). IsFirstChanged image t page) same at.changed in record {
          among = is_first.among;
          other = λ has. is_first.changed (is_hashed signed image s page changed (is.hashed page is_first.among) has);
          first = λ k low. has_it signed image s k changed (is.hashed k (let among = is_first.among in omega arith)) (is_first.first k low);
        }

    from : IsFirstOther signed image s.from page → IsChangedAt image page
    from is_first = record {
      signature = s;
      stands = changed.found;
      changed = record {
        among = is_first.among;
        changed = λ hashed. is_first.other (has_it signed image s page changed (is.hashed page is_first.among) hashed);
        first = λ k low. is_hashed signed image s k changed (is.hashed k (let among = is_first.among in omega arith)) (is_first.first k low);
      };
    }
