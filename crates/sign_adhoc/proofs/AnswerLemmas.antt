-- A check has one answer.
use Rattle.std.proofs.Common.{◌≡◌, ℕ, inl, inr, List, Option, refl, sym, ap, ◌∙◌, subst, arith}
use Rattle.std.specs.Prelude.{unwrap_or}
use Rattle.std.proofs.lemmas.Bool.{cases_lt}
use Rattle.mo_format.specs.Linkedit.{linkedit_data_command_at}
use Rattle.sign_adhoc.specs.Pages.{page_count}
use Rattle.sign_adhoc.specs.Standing.{AreHashed, IsAnswer, IsChangedAt, IsFirstChanged, IsNamed, IsSignature, IsSigned}
use Rattle.sign_adhoc.specs.declared.answer.Check.{Check}
use Rattle.sign_adhoc.specs.declared.answer.Check.TheVariants.{Good, No, Absent}
use Rattle.sign_adhoc.specs.declared.standing.Standing.{Standing}
use Rattle.sign_adhoc.specs.inner.Told.{told_at}
use Rattle.sign_adhoc.proofs.StandingLemmas.{told_is}

one_place : (image : List ℕ) (f g n m : ℕ) (a : IsNamed image f n) (b : IsNamed image g m) → a.at ≡ b.at
one_place image f g n m a b = ap (λ (place : Option ℕ). unwrap_or place 0) (sym a.command ∙ b.command)

one_from : (image : List ℕ) (f g n m : ℕ) → IsNamed image f n → IsNamed image g m → f ≡ g
one_from image f g n m a b = sym a.dataoff ∙ ap (λ (at : ℕ). (linkedit_data_command_at image at).dataoff) (one_place image f g n m a b) ∙ b.dataoff

one_size : (image : List ℕ) (f g n m : ℕ) → IsNamed image f n → IsNamed image g m → n ≡ m
one_size image f g n m a b = sym a.datasize ∙ ap (λ (at : ℕ). (linkedit_data_command_at image at).datasize) (one_place image f g n m a b) ∙ b.datasize

pub one_signature : (image : List ℕ) (s t : Standing) → IsSignature image s → IsSignature image t → s ≡ t
one_signature image s t a b =
    sym (told_is image s a.stands)
    ∙ ap (λ (from : ℕ). told_at image from s.size) (one_from image s.from t.from s.size t.size a.named b.named)
    ∙ ap (λ (size : ℕ). told_at image t.from size) (one_size image s.from t.from s.size t.size a.named b.named)
    ∙ told_is image t b.stands

good_or_changed : (image : List ℕ) (page : ℕ) → IsSigned image → IsChangedAt image page → ⊥
good_or_changed image page signed changed =
    let same : signed.signature ≡ changed.signature = one_signature image signed.signature changed.signature signed.stands changed.stands in
    let all : AreHashed image changed.signature (page_count changed.signature.from) = subst (λ (s : Standing). AreHashed image s (page_count s.from)) same signed.hashed in
    changed.changed.changed (all page changed.changed.among)

one_page : (image : List ℕ) (p q : ℕ) → IsChangedAt image p → IsChangedAt image q → p ≡ q
one_page image p q a b =
    let same : a.signature ≡ b.signature = one_signature image a.signature b.signature a.stands b.stands in
    let first : IsFirstChanged image b.signature p = subst (λ (s : Standing). IsFirstChanged image s p) same a.changed in
    elim (cases_lt p q) [
      | inl before ↦ absurd (first.changed (b.changed.first p before))
      | inr from ↦ elim (cases_lt q p) [
        | inl after ↦ absurd (b.changed.changed (first.first q after))
        | inr to ↦ omega arith
      ]
    ]

pub one_answer : (image : List ℕ) (a b : Check) → IsAnswer image a → IsAnswer image b → a ≡ b
one_answer image Good Good a b = refl
one_answer image Good (No page) a b = absurd (good_or_changed image page a b)
one_answer image Good Absent a b = absurd (b a.signature a.stands)
one_answer image (No page) Good a b = absurd (good_or_changed image page b a)
one_answer image (No page) (No other) a b = ap (λ (n : ℕ). No n) (one_page image page other a b)
one_answer image (No page) Absent a b = absurd (b a.signature a.stands)
one_answer image Absent Good a b = absurd (a b.signature b.stands)
one_answer image Absent (No page) a b = absurd (a b.signature b.stands)
one_answer image Absent Absent a b = refl
