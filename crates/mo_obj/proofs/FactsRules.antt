-- The rules asked one after the other.
use Rattle.std.proofs.Common.{◌≡◌, ◌⊎◌, ℕ, suc, ◌<◌, List, [], ◌∷◌, get_or, Option, Some, None, Result, Ok, Err, refl, sym, ap, subst, ◌∙◌, ⊎_elim, arith}
use Rattle.mo_types.specs.Gives.{◌>>=◌}
use Rattle.mo_types.specs.declared.cause.Rule.{Rule}
use Rattle.mo_types.specs.declared.cause.Rule.TheVariants as rule
use Rattle.mo_types.specs.declared.object_fault.ObjFault.{ObjFault}
use Rattle.mo_obj.specs.Facts.{IsFirst, IsForArm64, IsSound}
use Rattle.mo_obj.specs.Faults.{keeps}
use Rattle.mo_obj.specs.Rules.{Fails, rank}
use Rattle.mo_obj.proofs.FactsLeast.{IsLeast}

-- the rule of a rank
abbrev pub ranked : ℕ → Rule
ranked n = get_or (rule.Header ∷ rule.Commands ∷ rule.Segment ∷ rule.Section ∷ rule.Relocations ∷ rule.Symbols ∷ rule.Symbol ∷ rule.Literals ∷ rule.Pair ∷ rule.Shape ∷ rule.Place ∷ rule.Target ∷ rule.Unwind ∷ []) n rule.NotAnInput

-- only rules that have a rank fail
pub has_rank : (bytes : List ℕ) (asked : Rule) (place : ℕ) → Fails bytes asked place → (ranked (rank asked) ≡ asked) × (rank asked < 13)
has_rank bytes rule.Header place fails = (refl, omega arith)
has_rank bytes rule.Commands place fails = (refl, omega arith)
has_rank bytes rule.Segment place fails = (refl, omega arith)
has_rank bytes rule.Section place fails = (refl, omega arith)
has_rank bytes rule.Relocations place fails = (refl, omega arith)
has_rank bytes rule.Symbols place fails = (refl, omega arith)
has_rank bytes rule.Symbol place fails = (refl, omega arith)
has_rank bytes rule.Literals place fails = (refl, omega arith)
has_rank bytes rule.Pair place fails = (refl, omega arith)
has_rank bytes rule.Shape place fails = (refl, omega arith)
has_rank bytes rule.Place place fails = (refl, omega arith)
has_rank bytes rule.Target place fails = (refl, omega arith)
has_rank bytes rule.Unwind place fails = (refl, omega arith)
has_rank bytes _ place fails = absurd fails

-- two rules of one rank that fail are one
pub same_rank : (bytes : List ℕ) (one other : Rule) (p q : ℕ) → Fails bytes one p → Fails bytes other q → rank one ≡ rank other → one ≡ other
same_rank bytes one other p q fails also e = sym (has_rank bytes one p fails).0 ∙ ap ranked e ∙ (has_rank bytes other q also).0

-- the rules below a rank fail nowhere
pub record Holds (bytes : List ℕ) (below : ℕ) : Type 0 where
  pub target : IsForArm64 bytes
  pub earlier : (other : Rule) → rank other < below → (at : ℕ) → Fails bytes other at → ⊥

below_or_at : (n k : ℕ) → n < suc k → (n < k) ⊎ (n ≡ k)
below_or_at n k less = grind arith

pub one_more : (bytes : List ℕ) (asked : Rule) → ranked (rank asked) ≡ asked → IsForArm64 bytes → ((other : Rule) → rank other < rank asked → (at : ℕ) → Fails bytes other at → ⊥) → ((at : ℕ) → Fails bytes asked at → ⊥) → Holds bytes (suc (rank asked))
one_more bytes asked is target earlier nowhere = record {
  target = target;
  earlier = λ other less at fails. ⊎_elim
      (λ before. earlier other before at fails)
      (λ same. nowhere at (subst (λ r. Fails bytes r at) (sym (has_rank bytes other at fails).0 ∙ ap ranked same ∙ is) fails))
      (below_or_at (rank other) (rank asked) less);
}

pub all_hold : (bytes : List ℕ) → Holds bytes 13 → IsSound bytes
all_hold bytes holds = record {
  target = holds.target;
  rules = λ asked place fails. holds.earlier asked (has_rank bytes asked place fails).1 place fails;
}

-- what is known of a value that was read, or why none was
unfoldable pub Tells : {A : Type 0} → List ℕ → (A → Type 0) → Result A ObjFault → Type 0
Tells bytes P (Ok x) = P x
Tells bytes P (Err fault) = IsFirst bytes fault

-- the value that was read where the rules below a rank fail nowhere
pub record IsReadBelow {A : Type 0} (bytes : List ℕ) (below : ℕ) (x y : A) : Type 0 where
  pub same : y ≡ x
  pub holds : Holds bytes below

pub then_read : {A B : Type 0} (bytes : List ℕ) (below : ℕ) (x : A) (Q : B → Type 0) (read : Result A ObjFault) (next : A → Result B ObjFault) → Tells bytes (IsReadBelow bytes below x) read → (Holds bytes below → Tells bytes Q (next x)) → Tells bytes Q (read >>= next)
unfolding Tells
then_read bytes below x Q (Ok y) next is more = subst (λ z. Tells bytes Q (next z)) (sym is.same) (more is.holds)
then_read bytes below x Q (Err fault) next told more = told

pub kept : {A : Type 0} (bytes : List ℕ) (asked : Rule) (x : A) (found : Option ℕ) → ranked (rank asked) ≡ asked → Holds bytes (rank asked) → IsLeast (Fails bytes asked) found → Tells bytes (IsReadBelow bytes (suc (rank asked)) x) (keeps asked found x)
unfolding Tells
kept bytes asked x None is holds nowhere = record { same = refl; holds = one_more bytes asked is holds.target holds.earlier nowhere }
kept bytes asked x (Some place) is holds least = record { target = λ behind. holds.target; earlier = holds.earlier; fails = least.0; least = least.1 }
