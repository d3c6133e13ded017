-- Fields that were written one after the other are read at their places.
use Rattle.std.proofs.Common.{◌≡◌, ℕ, ◌+◌, ◌^◌, ◌<◌, List, [], ◌∷◌, ◌++◌, length, refl, sym, ap, append_assoc, append-nil, length-append, subst, ◌∙◌}
use Rattle.std.proofs.Math.Seq.{drop-append_seam, take-append_seam}
use Rattle.mo_bytes.specs.Number.{number}
use Rattle.mo_bytes.proofs.Numbers.{length-number_bytes, number-number_bytes}
use Rattle.mo_format.specs.Fields.{Field, Number, Name, name_at, field_bytes, spelled}

-- a field that its bytes can hold
abbrev pub IsFit : Field → Type 0
IsFit (Number width value) = value < 256 ^ width
IsFit (Name bytes) = length bytes ≡ 16

abbrev pub AreFit : List Field → Type 0
AreFit [] = Unit {0}
AreFit (f ∷ fs) = IsFit f × AreFit fs

abbrev pub width_of : Field → ℕ
width_of (Number width value) = width
width_of (Name bytes) = 16

-- what stands at a place reads as the field
abbrev pub ReadsAs : List ℕ → ℕ → Field → Type 0
ReadsAs bytes at (Number width value) = number width bytes at ≡ value
ReadsAs bytes at (Name name) = name_at bytes at ≡ name

-- the fields are read one after the other, the first one `passed` bytes after a place
abbrev pub AllRead : List ℕ → ℕ → ℕ → List Field → Type 0
AllRead bytes at passed [] = Unit {0}
AllRead bytes at passed (f ∷ fs) = ReadsAs bytes (at + passed) f × AllRead bytes at (passed + width_of f) fs

length-field_bytes : (f : Field) → IsFit f → length (field_bytes f) ≡ width_of f
length-field_bytes (Number width value) fit = length-number_bytes width value
length-field_bytes (Name bytes) fit = fit

read_after : (front rest : List ℕ) (f : Field) (at : ℕ) → IsFit f → at ≡ length front → ReadsAs (front ++ (field_bytes f ++ rest)) at f
unfolding number name_at
read_after front rest (Number width value) at fit e =
    rw e (rw drop-append_seam (number-number_bytes width value rest fit))
read_after front rest (Name name) at fit e =
    rw e (rw drop-append_seam (rw (← fit) (take-append_seam name rest)))

pub all_read : (fs : List Field) (passed : ℕ) (front mid rest : List ℕ) → AreFit fs → length mid ≡ passed → AllRead (front ++ (mid ++ (spelled fs ++ rest))) (length front) passed fs
all_read [] passed front mid rest fit e = tt
all_read (f ∷ fs) passed front mid rest fit e =
    let here : length front + passed ≡ length (front ++ mid) = rw length-append (ap (λ n. length front + n) (sym e)) in
    let first : (front ++ mid) ++ (field_bytes f ++ (spelled fs ++ rest)) ≡ front ++ (mid ++ ((field_bytes f ++ spelled fs) ++ rest)) = simp append_assoc in
    let others : front ++ ((mid ++ field_bytes f) ++ (spelled fs ++ rest)) ≡ front ++ (mid ++ ((field_bytes f ++ spelled fs) ++ rest)) = simp append_assoc in
    let passed_on : length (mid ++ field_bytes f) ≡ passed + width_of f = rw length-append (rw (e, length-field_bytes f fit.0) refl) in (
      subst (λ (bytes : List ℕ). ReadsAs bytes (length front + passed) f) first (read_after (front ++ mid) (spelled fs ++ rest) f (length front + passed) fit.0 here),
      subst (λ (bytes : List ℕ). AllRead bytes (length front) (passed + width_of f) fs) others (all_read fs (passed + width_of f) front (mid ++ field_bytes f) rest fit.1 passed_on),
    )

-- bytes behind which the fields were put, one after the other
abbrev pub put_behind : List ℕ → List Field → List ℕ
put_behind out [] = out
put_behind out (f ∷ fs) = put_behind (out ++ field_bytes f) fs

pub put_spelled : (out : List ℕ) (fs : List Field) → put_behind out fs ≡ out ++ spelled fs
put_spelled out [] = sym (append-nil out)
put_spelled out (f ∷ fs) = put_spelled (out ++ field_bytes f) fs ∙ append_assoc out (field_bytes f) (spelled fs)
