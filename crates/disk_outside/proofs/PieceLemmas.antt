-- Reads and writes that follow one another.
use Rattle.std.proofs.Common.{◌≡◌, ℕ, ◌+◌, ◌≤◌, List, ◌++◌, Option, Some, None, IfSome, ◌∙◌, ap, sym, subst, length, take, drop, arith}
use Rattle.std.specs.Io.KnownBytes.{Appends, Consumes, IsAtEnd, Keeps}
use Rattle.std.proofs.KnownBytes.{Appends-trans, Consumes-trans, Keeps-refl, Keeps-trans}
use Rattle.std.proofs.Math.Seq.{take-add, take-append_seam}
use Rattle.std.proofs.lemmas.List.{append-nil, length-take-le, take_all}

pub kept-Consumes : (a b c : Option (List ℕ)) (bytes : List ℕ) → Keeps a b → Consumes b c bytes → Consumes a c bytes
kept-Consumes None b c bytes kept read = tt
kept-Consumes (Some x) None c bytes kept read = absurd kept
kept-Consumes (Some x) (Some y) None bytes kept read = absurd read
kept-Consumes (Some x) (Some y) (Some z) bytes kept read = sym kept ∙ read

pub kept-Appends : (a b c : Option (List ℕ)) (bytes : List ℕ) → Keeps a b → Appends b c bytes → Appends a c bytes
kept-Appends None b c bytes kept written = tt
kept-Appends (Some x) None c bytes kept written = absurd kept
kept-Appends (Some x) (Some y) None bytes kept written = absurd written
kept-Appends (Some x) (Some y) (Some z) bytes kept written = written ∙ ap (λ front. front ++ bytes) kept

-- a call that is tried again
pub ruleset retries = (Keeps-refl, Keeps-trans, kept-Consumes, kept-Appends)

-- a piece of what is left was written after the first bytes
pub written_more : (a b c : Option (List ℕ)) (bytes piece : List ℕ) (at count : ℕ) → piece ≡ drop at bytes
    → Appends a b (take at bytes) → Appends b c (take count piece) → Appends a c (take (at + count) bytes)
written_more a b c bytes piece at count is before now =
    subst (Appends a c) (sym (take-add at count bytes))
    (Appends-trans a b c (take at bytes) (take count (drop at bytes)) before (subst (λ (rest : List ℕ). Appends b c (take count rest)) is now))

-- a piece was read behind the bytes that were filled
pub read_more : (a b c : Option (List ℕ)) (old new : List ℕ) (filled count : ℕ) → take filled new ≡ take filled old
    → Consumes a b (take filled old) → Consumes b c (take count (drop filled new)) → Consumes a c (take (filled + count) new)
read_more a b c old new filled count kept before now =
    subst (Consumes a c) (sym (take-add filled count new))
    (Consumes-trans a b c (take filled new) (take count (drop filled new)) (subst (Consumes a b) (sym kept) before) now)

-- as many bytes were read as may be
pub reached : (a b : Option (List ℕ)) (bytes : List ℕ) (filled limit : ℕ) → Consumes a b (take filled bytes)
    → filled ≤ length bytes → filled ≡ limit → IfSome a (λ held. take filled bytes ≡ take limit held)
reached None b bytes filled limit read within full = tt
reached (Some held) None bytes filled limit read within full = absurd read
reached (Some held) (Some rest) bytes filled limit read within full =
    let front : List ℕ = take filled bytes in
    let size : length front ≡ limit = length-take-le filled bytes within ∙ full in
    sym (ap (take limit) read ∙ ap (λ n. take n (front ++ rest)) (sym size) ∙ take-append_seam front rest)

-- all bytes were read, the last time none
pub ended : (a b : Option (List ℕ)) (bytes : List ℕ) (filled count limit : ℕ) → Consumes a b (take (filled + count) bytes) → count ≡ 0
    → IsAtEnd b → filled ≤ length bytes → filled ≤ limit → IfSome a (λ held. take filled bytes ≡ take limit held)
ended None b bytes filled count limit read none end within few = tt
ended (Some held) None bytes filled count limit read none end within few = absurd read
ended (Some held) (Some rest) bytes filled count limit read none end within few =
    let front : List ℕ = take filled bytes in
    let size : length front ≡ filled = length-take-le filled bytes within in
    let total : filled + count ≡ filled = omega arith in
    let whole : held ≡ front = read ∙ ap (λ n. take n bytes ++ rest) total ∙ ap (λ more. front ++ more) end ∙ append-nil front in
    sym (ap (take limit) whole ∙ take_all limit front (omega arith))
