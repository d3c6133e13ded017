-- What writing the files of a plan leaves in the output, and what it hands over.
use Rattle.std.specs.Prelude.{ℕ, ◌≡◌, ◌≤◌, ◌<◌, ◌++◌, ◌⊎◌, true, false, List, [], ◌∷◌, length, take, drop, map, slice_get, Some}
use Rattle.mo_outside.specs.Log.{OutCall, Begin, Write, Cut, Finish}
use Rattle.mo_outside.specs.Written.{Written}

-- a file that is written whole, of a path and its bytes
abbrev pub whole_file : List ℕ × List ℕ → Written
whole_file file = record { path = file.0; bytes = file.1; done = true }

-- the file was written, and is done
pub record WritesWhole (file : List ℕ × List ℕ) (old new : List Written) : Type 0 where
  pub written : new ≡ old ++ whole_file file ∷ []

-- the files were written, one after the other, and each is done
pub record WritesAll (files : List (List ℕ × List ℕ)) (old new : List Written) : Type 0 where
  pub written : new ≡ old ++ map whole_file files

-- nothing, or a file that isn't done with the first bytes, perhaps all of them, was written
pub record WritesPart (file : List ℕ × List ℕ) (old new : List Written) : Type 0 where
  pub part : (new ≡ old) ⊎ ((count : ℕ) × (count ≤ length file.1) × (new ≡ old ++ record { path = file.0; bytes = take count file.1; done = false } ∷ []))

-- the files before that of a number, counted from 0, were written, and a part of that one
pub record WritesUpTo (files : List (List ℕ × List ℕ)) (number : ℕ) (old new : List Written) : Type 0 where
  pub file : List ℕ × List ℕ
  pub between : List Written
  pub there : slice_get files number ≡ Some file
  pub whole : WritesAll (take number files) old between
  pub part : WritesPart file between new

-- writes, each of which was handed all that is left, from the first bytes to the last that are left
abbrev pub AreWrites : List ℕ → List ℕ → List OutCall → Type 0
AreWrites bytes left [] = left ≡ bytes
AreWrites bytes left (Write piece taken ∷ calls) = (piece ≡ bytes) × (0 < length piece) × AreWrites (drop taken bytes) left calls
AreWrites bytes left (Begin path ∷ calls) = ⊥
AreWrites bytes left (Cut piece ∷ calls) = ⊥
AreWrites bytes left (Finish ∷ calls) = ⊥

-- the calls that write a file: it is begun once, written until nothing is left, and done once
pub record AreFileCalls (file : List ℕ × List ℕ) (calls : List OutCall) : Type 0 where
  pub writes : List OutCall
  pub each : AreWrites file.1 [] writes
  pub all : calls ≡ Begin file.0 ∷ (writes ++ Finish ∷ [])

-- writes until one fails, which was handed all that is left
pub record AreCut (bytes : List ℕ) (calls : List OutCall) : Type 0 where
  pub writes : List OutCall
  pub left : List ℕ
  pub each : AreWrites bytes left writes
  pub some : 0 < length left
  pub all : calls ≡ writes ++ Cut left ∷ []

-- the calls that write a file, of which the last one failed
pub record ArePartCalls (file : List ℕ × List ℕ) (calls : List OutCall) : Type 0 where
  pub failed : (calls ≡ Begin file.0 ∷ []) ⊎ (AreFileCalls file calls ⊎ ((writes : List OutCall) × AreCut file.1 writes × (calls ≡ Begin file.0 ∷ writes)))

abbrev pub AreFilesCalls : List (List ℕ × List ℕ) → List OutCall → Type 0
AreFilesCalls [] calls = calls ≡ []
AreFilesCalls (file ∷ files) calls =
    (first : List OutCall) × (rest : List OutCall) × AreFileCalls file first × AreFilesCalls files rest × (calls ≡ first ++ rest)

-- the calls that were made are those of a kind
pub record Hands (are : List OutCall → Type 0) (old new : List OutCall) : Type 0 where
  pub calls : List OutCall
  pub each : are calls
  pub handed : new ≡ old ++ calls

-- the calls that write the files before that of a number, and those for that one, of which the last one failed
pub record AreCallsUpTo (files : List (List ℕ × List ℕ)) (number : ℕ) (calls : List OutCall) : Type 0 where
  pub file : List ℕ × List ℕ
  pub whole : List OutCall
  pub part : List OutCall
  pub there : slice_get files number ≡ Some file
  pub before : AreFilesCalls (take number files) whole
  pub last : ArePartCalls file part
  pub all : calls ≡ whole ++ part
