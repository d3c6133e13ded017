-- What workers read, put in order.
use Rattle.std.proofs.Common.{◌≡◌, ℕ, ◌+◌, ◌≤◌, ◌++◌, List, [], All, IfOk, Result, Ok, Err, length, map, take, drop, take-add, inl, inr, refl, sym, ap, subst, ◌∙◌, arith}
use Rattle.std.proofs.lemmas.List.{map-append, take-append-drop, take_all}
use Rattle.list_lemmas.proofs.Members.{In, in_either}
use Rattle.mo_types.specs.Gives.{Gives}
use Rattle.mo_types.specs.Loaded.{IsWholeFile}
use Rattle.mo_types.specs.declared.key.FileId.{FileId}
use Rattle.mo_types.specs.declared.loaded.LoadedFile.{LoadedFile}
use Rattle.input_files.specs.Collected.{all_of, behind}
use Rattle.input_files.specs.Files.{IsLoadFault, file_of}
use Rattle.input_files.specs.declared.fault.LoadFault.{LoadFault}
use Rattle.input_files.specs.declared.input.Input.{Input}
use Rattle.member_rounds.specs.inner.Working.{ArePieces, no_id, read_each}
use Rattle.input_files.specs.declared.fault.LoadFault.TheVariants.{OutOfMemory}
use Rattle.input_files.proofs.CollectedLemmas.{all_append, all_fail, each_holds, pieces_are, pieces_miss}
use Rattle.input_files.proofs.EachLemmas.{all_from, all_has}

-- ---- pieces that are what the definition gives

after_ok : (before now : List LoadedFile) (r : Result (List LoadedFile) LoadFault) → behind before r ≡ Ok now → (files : List LoadedFile) × (r ≡ Ok files) × (now ≡ before ++ files)
after_ok before now (Ok files) is = (files, refl, sym (let s : Ok (before ++ files) ≡ Ok now = is in let t : before ++ files ≡ now = cc in t))
after_ok before now (Err e) is = absurd (let s : Err e ≡ Ok now = is in cc)

after_err : (before : List LoadedFile) (fault : LoadFault) (r : Result (List LoadedFile) LoadFault) → behind before r ≡ Err fault → r ≡ Err fault
after_err before fault (Ok files) is = absurd (let s : Ok (before ++ files) ≡ Err fault = is in cc)
after_err before fault (Err e) is = is

pub pieces_read : (inputs : List Input) (ids : List FileId) (pieces : List (Result LoadedFile LoadFault)) (before now : List LoadedFile) → ArePieces inputs ids pieces → behind before (all_of pieces) ≡ Ok now → behind before (read_each inputs ids) ≡ Ok now
pieces_read inputs ids pieces before now are is =
    let parts = after_ok before now (all_of pieces) is in
    ap (behind before) (pieces_are (file_of inputs) ids pieces no_id parts.0 are.count (λ job low. (are.each job (Err OutOfMemory) low).exact) parts.1) ∙ ap Ok (sym parts.2)

pub pieces_fail : (inputs : List Input) (ids : List FileId) (pieces : List (Result LoadedFile LoadFault)) (before : List LoadedFile) (fault : LoadFault) → ArePieces inputs ids pieces → IsLoadFault fault → behind before (all_of pieces) ≡ Err fault → behind before (read_each inputs ids) ≡ Err fault
pieces_fail inputs ids pieces before fault are real is = ap (behind before) (pieces_miss (file_of inputs) ids pieces no_id fault are.count (λ job low. (are.each job (Err OutOfMemory) low).exact) real (after_err before fault (all_of pieces) is))

pub pieces_whole : (inputs : List Input) (ids : List FileId) (pieces : List (Result LoadedFile LoadFault)) (before now : List LoadedFile) → ArePieces inputs ids pieces → All IsWholeFile before → behind before (all_of pieces) ≡ Ok now → All IsWholeFile now
pieces_whole inputs ids pieces before now are whole is =
    let parts = after_ok before now (all_of pieces) is in
    all_from IsWholeFile now (λ file there. elim (in_either before parts.0 file (subst (λ (fs : List LoadedFile). In file fs) parts.2 there)) [
      | inl old ↦ all_has IsWholeFile before file whole old
      | inr new ↦ each_holds IsWholeFile pieces parts.0 (λ piece at. all_has (λ (p : Result LoadedFile LoadFault). IfOk p IsWholeFile) pieces piece (λ k d low. (are.each k d (omega (arith, low, are.count))).whole) at) parts.1 file new
    ])

pub pieces_result : (inputs : List Input) (ids : List FileId) (pieces : List (Result LoadedFile LoadFault)) (before : List LoadedFile) (read : Result (List LoadedFile) LoadFault) → ArePieces inputs ids pieces → All IsWholeFile before → Gives IsLoadFault read (behind before (all_of pieces)) → IfOk read (λ all. All IsWholeFile all)
pieces_result inputs ids pieces before (Ok now) are whole is = pieces_whole inputs ids pieces before now are whole is
pieces_result inputs ids pieces before (Err fault) are whole is = tt

pub ruleset pieces = (pieces_read, pieces_fail, pieces_whole)

-- ---- runs of files, one after the other

-- what was read of the first n files
pub record IsReadTo (inputs : List Input) (ids : List FileId) (n : ℕ) (now : List LoadedFile) : Type 0 where
  pub read : read_each inputs (take n ids) ≡ Ok now
  pub whole : All IsWholeFile now

read_append : (inputs : List Input) (xs ys : List FileId) (files : List LoadedFile) → read_each inputs xs ≡ Ok files → read_each inputs (xs ++ ys) ≡ behind files (read_each inputs ys)
read_append inputs xs ys files is = ap all_of (map-append (file_of inputs) xs ys) ∙ all_append (map (file_of inputs) xs) (map (file_of inputs) ys) files is

pub read_start : (inputs : List Input) (ids : List FileId) (now : List LoadedFile) → now ≡ [] → IsReadTo inputs ids 0 now
read_start inputs ids now none = rw none (record { read = refl; whole = λ k d low. absurd (omega (arith, low)) })

pub read_more : (inputs : List Input) (ids some : List FileId) (n m : ℕ) (now next : List LoadedFile) → IsReadTo inputs ids n now → some ≡ take m (drop n ids) → behind now (read_each inputs some) ≡ Ok next → All IsWholeFile next → IsReadTo inputs ids (n + m) next
read_more inputs ids some n m now next so are is whole = record {
  read = ap (read_each inputs) (take-add n m ids ∙ ap (λ (xs : List FileId). take n ids ++ xs) (sym are)) ∙ read_append inputs (take n ids) some now so.read ∙ is;
  whole = whole;
}

fails_on : (inputs : List Input) (fault : LoadFault) (xs ys : List FileId) → read_each inputs xs ≡ Err fault → read_each inputs (xs ++ ys) ≡ Err fault
fails_on inputs fault xs ys is = ap all_of (map-append (file_of inputs) xs ys) ∙ all_fail (map (file_of inputs) xs) (map (file_of inputs) ys) fault is

pub read_stops : (inputs : List Input) (ids some : List FileId) (n m : ℕ) (now : List LoadedFile) (fault : LoadFault) → IsReadTo inputs ids n now → some ≡ take m (drop n ids) → behind now (read_each inputs some) ≡ Err fault → read_each inputs ids ≡ Err fault
read_stops inputs ids some n m now fault so are is =
    let front : read_each inputs (some ++ drop m (drop n ids)) ≡ Err fault = fails_on inputs fault some (drop m (drop n ids)) (after_err now fault (read_each inputs some) is) in
    ap (read_each inputs) (sym (take-append-drop n ids)) ∙ read_append inputs (take n ids) (drop n ids) now so.read
    ∙ ap (λ (xs : List FileId). behind now (read_each inputs xs)) (sym (take-append-drop m (drop n ids)) ∙ ap (λ (xs : List FileId). xs ++ drop m (drop n ids)) (sym are))
    ∙ ap (behind now) front

pub read_end : (inputs : List Input) (ids : List FileId) (n : ℕ) (now : List LoadedFile) → IsReadTo inputs ids n now → length ids ≤ n → read_each inputs ids ≡ Ok now
read_end inputs ids n now so past = ap (read_each inputs) (sym (take_all n ids past)) ∙ so.read

pub ruleset runs = (read_start, read_end)
