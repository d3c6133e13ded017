-- Where the hashes of a signature stand, and which signature its fields tell of.
use Rattle.std.proofs.Common.{◌≡◌, ℕ, ◌+◌, ◌-◌, ◌*◌, ◌^◌, ◌<◌, ◌≤◌, ◌==◌, Bool, true, false, nat_le, nat_lt, List, length, Option, Some, None, refl, sym, ap, subst, ◌∙◌, arith}
use Rattle.std.specs.Prelude.{unwrap_or}
use Rattle.std.proofs.lemmas.Bool.{le-leb, lt-ltb}
use Rattle.mo_format.specs.Linkedit.{linkedit_data_command_at}
use Rattle.image_format.specs.declared.signature.CodeDirectory.{CodeDirectory}
use Rattle.sign_adhoc.specs.Pages.{page_count}
use Rattle.sign_adhoc.specs.Signature.{directory, hashes_begin}
use Rattle.sign_adhoc.specs.Standing.{IsStanding, IsSignature, signature_command}
use Rattle.sign_adhoc.specs.declared.standing.Standing.{Standing}
use Rattle.sign_adhoc.specs.inner.Told.{told, told_at, told_by}
use Rattle.sign_adhoc.proofs.PageLemmas.{blob_within, few_pages, pages_below_size}

pub hash_within : (image : List ℕ) (s : Standing) (k : ℕ) → IsStanding image s → k < page_count s.from → s.from + 20 + hashes_begin s.identifier + 32 * k + 32 ≤ length image
hash_within image s k stands low =
    let parts = pages_below_size s.identifier s.from in
    let below = blob_within s.identifier s.from in
    let size = stands.size in
    let within = stands.within in
    omega arith

pub number_fits : (size k : ℕ) → k < page_count size → size < 2 ^ 32 → k < 2 ^ 32
number_fits size k low few = let pages = few_pages size in omega arith

pub ruleset places = (hash_within, number_fits)

flag_tells : (main : Bool) → ((directory 0 0 0 main).exec_seg_flags == 1) ≡ main
flag_tells true = refl
flag_tells false = refl

-- a signature is the one that its code directory tells of
pub told_is : (image : List ℕ) (s : Standing) → IsStanding image s → told_at image s.from s.size ≡ s
told_is image s stands =
    let same : told_at image s.from s.size ≡ told_by s.from s.size (directory s.identifier s.from s.text_size s.main) = ap (λ (d : CodeDirectory). told_by s.from s.size d) stands.directory in
    let size : hashes_begin s.identifier - 89 ≡ s.identifier = omega arith in
    let flag : ((directory 0 0 0 s.main).exec_seg_flags == 1) ≡ s.main = flag_tells s.main in
    let whole : told_by s.from s.size (directory s.identifier s.from s.text_size s.main) ≡ record { from = s.from; size = s.size; identifier = s.identifier; text_size = s.text_size; main = s.main } = cc in
    same ∙ whole

told_some : (image : List ℕ) (s : Standing) → IsStanding image s → told image s.from s.size ≡ Some (told_at image s.from s.size)
told_some image s stands =
    let parts = pages_below_size s.identifier s.from in
    let below = blob_within s.identifier s.from in
    let size = stands.size in
    let long : nat_lt 108 s.size ≡ true = lt-ltb 108 s.size (omega arith) in
    let within : nat_le (s.from + s.size) (length image) ≡ true = le-leb (s.from + s.size) (length image) stands.within in
    rw (long, within) refl

-- where the command's bytes tell of none, there is no signature
pub not_told : (image : List ℕ) (at : ℕ) (s : Standing) → Some at ≡ signature_command image → None ≡ told image (linkedit_data_command_at image at).dataoff (linkedit_data_command_at image at).datasize → IsSignature image s → ⊥
not_told image at s command none is =
    let place : is.named.at ≡ at = ap (λ (found : Option ℕ). unwrap_or found 0) (sym is.named.command ∙ sym command) in
    let from : (linkedit_data_command_at image at).dataoff ≡ s.from = subst (λ (n : ℕ). (linkedit_data_command_at image n).dataoff ≡ s.from) place is.named.dataoff in
    let size : (linkedit_data_command_at image at).datasize ≡ s.size = subst (λ (n : ℕ). (linkedit_data_command_at image n).datasize ≡ s.size) place is.named.datasize in
    let here : told image (linkedit_data_command_at image at).dataoff (linkedit_data_command_at image at).datasize ≡ told image s.from s.size =
    ap (λ (n : ℕ). told image n (linkedit_data_command_at image at).datasize) from ∙ ap (λ (n : ℕ). told image s.from n) size in
    let both : None ≡ Some (told_at image s.from s.size) = none ∙ here ∙ told_some image s is.stands in
    absurd cc
