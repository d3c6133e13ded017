-- A signature that was written is read.
use Rattle.std.proofs.Common.{lit<, ◌≡◌, ℕ, zero, suc, ◌+◌, ◌-◌, ◌*◌, ◌^◌, ◌<◌, ◌≤◌, List, [], ◌∷◌, ◌++◌, length, min, take, drop, get_or, replicate, Bool, true, false, refl, sym, ap, ◌∙◌, subst, arith, map, length-append, append_assoc}
use Rattle.std.specs.Prelude.{slice_range}
use Rattle.std.proofs.Math.Seq.{drop-append-add, drop-append_seam}
use Rattle.std.proofs.lemmas.List.{drop-drop, get_or-append_right, get_or-replicate, get_or-take, length-replicate, length-take, length-take-le, take-append-drop, take-append-le, take_all}
use Rattle.std.specs.List.{flat_map, range_with_len}
use Rattle.mo_bytes.specs.Rounding.{least_multiple}
use Rattle.image_format.specs.Signature.{super_blob_at, super_blob_bytes, blob_index_at, blob_index_bytes, code_directory_at, code_directory_bytes, super_blob_fields, blob_index_fields, code_directory_fields}
use Rattle.image_format.proofs.BigFieldLemmas.{AreBigFit, super_blob_read, blob_index_read, code_directory_read}
use Rattle.sign_adhoc.specs.Pages.{joined, page_count, page_hash, page_hashes}
use Rattle.sign_adhoc.specs.Signature.{blob_size, directory, directory_entry, hashes_begin, head, padded, signature, signature_size, super_blob, with_hashes}
use Rattle.sign_adhoc.specs.Standing.{AreZeros, IsNamed, IsSigned, IsStanding}
use Rattle.sign_adhoc.specs.Written.{IsWritten}
use Rattle.sign_adhoc.specs.declared.standing.Standing.{Standing}
use Rattle.sign_adhoc.proofs.PageLemmas.{blob_within, few_pages, pages_below_size}
use Rattle.sign_adhoc.proofs.SizeLemmas.{length-big_spelled, length-head, length-page_hash, length-signature}

-- the head of a signature stands behind some bytes
abbrev headed : ℕ → ℕ → ℕ → Bool → List ℕ → List ℕ → List ℕ
headed identifier limit text_size main front rest = front ++ (head identifier limit text_size main ++ rest)

flag_fits : (main : Bool) → (directory 0 0 0 main).exec_seg_flags < 256 ^ 8
flag_fits true = lit< tt
flag_fits false = lit< tt

blob_fits : (identifier limit : ℕ) → blob_size identifier limit < 2 ^ 32 → AreBigFit (super_blob_fields (super_blob identifier limit))
blob_fits identifier limit few = (lit< tt, (omega arith, (lit< tt, tt)))

directory_fits : (identifier limit text_size : ℕ) (main : Bool) → blob_size identifier limit < 2 ^ 32 → limit < 2 ^ 32 → text_size < 2 ^ 64 → AreBigFit (code_directory_fields (directory identifier limit text_size main))
directory_fits identifier limit text_size main few low text =
    let parts = pages_below_size identifier limit in
    let pages = few_pages limit in (
      lit< tt,
      (omega arith, (lit< tt, (lit< tt, (omega arith, (lit< tt, (lit< tt, (omega arith, (omega arith, (lit< tt, (lit< tt, (lit< tt, (lit< tt, (lit< tt, (lit< tt, (lit< tt, (lit< tt, (lit< tt, (lit< tt, (omega arith, (flag_fits main, tt)))))))))))))))))))),
    )

blob_reads : (identifier limit text_size : ℕ) (main : Bool) (front rest : List ℕ) → blob_size identifier limit < 2 ^ 32 → super_blob_at (headed identifier limit text_size main front rest) (length front) ≡ super_blob identifier limit
unfolding head
blob_reads identifier limit text_size main front rest few =
    let blob = super_blob_bytes (super_blob identifier limit) in
    let entry = blob_index_bytes directory_entry in
    let fields = code_directory_bytes (directory identifier limit text_size main) in
    let shape : headed identifier limit text_size main front rest ≡ (front ++ blob) ++ (entry ++ (fields ++ rest)) = simp append_assoc in
    subst (λ (bytes : List ℕ). super_blob_at bytes (length front) ≡ super_blob identifier limit) (sym shape)
    (super_blob_read (super_blob identifier limit) front (entry ++ (fields ++ rest)) (blob_fits identifier limit few))

entry_reads : (identifier limit text_size : ℕ) (main : Bool) (front rest : List ℕ) → blob_index_at (headed identifier limit text_size main front rest) (length front + 12) ≡ directory_entry
unfolding head
entry_reads identifier limit text_size main front rest =
    let blob = super_blob_bytes (super_blob identifier limit) in
    let entry = blob_index_bytes directory_entry in
    let fields = code_directory_bytes (directory identifier limit text_size main) in
    let size : length blob ≡ 12 = length-big_spelled (super_blob_fields (super_blob identifier limit)) in
    let at : length (front ++ blob) ≡ length front + 12 = length-append front blob ∙ ap (λ (n : ℕ). length front + n) size in
    let shape : headed identifier limit text_size main front rest ≡ ((front ++ blob) ++ entry) ++ (fields ++ rest) = simp append_assoc in
    subst (λ (bytes : List ℕ). blob_index_at bytes (length front + 12) ≡ directory_entry) (sym shape)
    (subst (λ (n : ℕ). blob_index_at (((front ++ blob) ++ entry) ++ (fields ++ rest)) n ≡ directory_entry) at
    (blob_index_read directory_entry (front ++ blob) (fields ++ rest) (lit< tt, (lit< tt, tt))))

directory_reads : (identifier limit text_size : ℕ) (main : Bool) (front rest : List ℕ) → blob_size identifier limit < 2 ^ 32 → limit < 2 ^ 32 → text_size < 2 ^ 64 → code_directory_at (headed identifier limit text_size main front rest) (length front + 20) ≡ directory identifier limit text_size main
unfolding head
directory_reads identifier limit text_size main front rest few low text =
    let blob = super_blob_bytes (super_blob identifier limit) in
    let entry = blob_index_bytes directory_entry in
    let it = directory identifier limit text_size main in
    let fields = code_directory_bytes it in
    let size : length blob ≡ 12 = length-big_spelled (super_blob_fields (super_blob identifier limit)) in
    let size_entry : length entry ≡ 8 = length-big_spelled (blob_index_fields directory_entry) in
    let at : length ((front ++ blob) ++ entry) ≡ length front + 20 = length-append (front ++ blob) entry ∙ rw (length-append, size, size_entry) (omega arith) in
    let shape : headed identifier limit text_size main front rest ≡ (((front ++ blob) ++ entry) ++ fields) ++ rest = simp append_assoc in
    subst (λ (bytes : List ℕ). code_directory_at bytes (length front + 20) ≡ it) (sym shape)
    (subst (λ (n : ℕ). code_directory_at ((((front ++ blob) ++ entry) ++ fields) ++ rest) n ≡ it) at
    (code_directory_read it ((front ++ blob) ++ entry) rest (directory_fits identifier limit text_size main few low text)))

drop_behind : (first rest : List ℕ) (n : ℕ) → length first ≡ 32 → drop (32 + n) (first ++ rest) ≡ drop n rest
drop_behind first rest n size = subst (λ (m : ℕ). drop (m + n) (first ++ rest) ≡ drop n rest) size (drop-append-add first rest n)

-- the hash of a page among those of all
hash_at : (image : List ℕ) (from count k : ℕ) (rest : List ℕ) → k < count → take 32 (drop (32 * k) (flat_map (λ hash. hash) (map (page_hash image) (range_with_len from count)) ++ rest)) ≡ page_hash image (from + k)
hash_at image from zero k rest below = absurd (omega arith)
hash_at image from (suc count) zero rest below =
    let here = length-page_hash image from in
    let at : from + 0 ≡ from = omega arith in
    let others = flat_map (λ hash. hash) (map (page_hash image) (range_with_len (from + 1) count)) in
    rw (append_assoc, at) (take-append-le 32 (page_hash image from) (others ++ rest) (omega arith) ∙ take_all 32 (page_hash image from) (omega arith))
hash_at image from (suc count) (suc k) rest below =
    let here = length-page_hash image from in
    let others = flat_map (λ hash. hash) (map (page_hash image) (range_with_len (from + 1) count)) in
    let step : 32 * suc k ≡ 32 + 32 * k = omega arith in
    let at : from + 1 + k ≡ from + suc k = omega arith in
    ap (λ (n : ℕ). take 32 (drop n ((page_hash image from ++ others) ++ rest))) step
    ∙ ap (λ (bytes : List ℕ). take 32 (drop (32 + 32 * k) bytes)) (append_assoc (page_hash image from) others rest)
    ∙ ap (λ (bytes : List ℕ). take 32 bytes) (drop_behind (page_hash image from) (others ++ rest) (32 * k) here)
    ∙ hash_at image (from + 1) count k rest (omega arith)
    ∙ ap (λ (n : ℕ). page_hash image n) at

-- ---- an image that ends with a signature of what stands before it

abbrev pub standing_of : ℕ → List ℕ → ℕ → Bool → Standing
standing_of from identifier text_size main = record {
  from = from;
  size = signature_size (length identifier) from;
  identifier = length identifier;
  text_size = text_size;
  main = main;
}

zeros_are : (m n : ℕ) → AreZeros (take m (replicate n 0))
zeros_are m n k within =
    let long : length (take m (replicate {A = ℕ} n 0)) ≡ min m (length (replicate {A = ℕ} n 0)) = length-take m (replicate n 0) in
    let all : length (replicate {A = ℕ} n 0) ≡ n = length-replicate n 0 in
    get_or-take m (replicate n 0) k 0 (omega arith) ∙ get_or-replicate n k 0 0 (omega arith)

module _ (image : List ℕ) (from : ℕ) (identifier : List ℕ) (text_size : ℕ) (main : Bool) (written : IsWritten image from identifier text_size main) where
  zeros : List ℕ
  zeros = replicate (least_multiple 16 (length (signature (take from image) identifier text_size main)) - length (signature (take from image) identifier text_size main)) 0

  room : from ≤ length image
  room = let place = written.place in omega arith

  long : length (take from image) ≡ from
  long = length-take-le from image room

  shape : image ≡ take from image ++ (head (length identifier) from text_size main ++ (identifier ++ ((0 ∷ []) ++ (joined (page_hashes (take from image)) ++ zeros))))
  unfolding with_hashes zeros
  shape =
      sym (take-append-drop from image)
      ∙ ap (λ (bytes : List ℕ). take from image ++ bytes) written.bytes
      ∙ subst (λ (n : ℕ). take from image ++ ((head (length identifier) n text_size main ++ identifier ++ (0 ∷ []) ++ joined (page_hashes (take from image))) ++ zeros) ≡ take from image ++ (head (length identifier) from text_size main ++ (identifier ++ ((0 ∷ []) ++ (joined (page_hashes (take from image)) ++ zeros))))) (sym long) (simp append_assoc)

  nul_stands : get_or image (from + 108 + length identifier) 0 ≡ 0
  nul_stands =
      let first = length-head (length identifier) from text_size main in
      let before = (take from image ++ head (length identifier) from text_size main) ++ identifier in
      let behind = (0 ∷ []) ++ (joined (page_hashes (take from image)) ++ zeros) in
      let size : length before ≡ from + 108 + length identifier = rw (length-append, length-append, long, first) refl in
      let cut : image ≡ before ++ behind = shape ∙ simp append_assoc in
      let none : from + 108 + length identifier - (from + 108 + length identifier) ≡ 0 = omega arith in
      ap (λ (bytes : List ℕ). get_or bytes (from + 108 + length identifier) 0) cut
      ∙ get_or-append_right before behind (from + 108 + length identifier) (from + 108 + length identifier) 0 size (omega arith)
      ∙ rw none refl

  hash_stands : (k : ℕ) → k < page_count from → take 32 (drop (from + 20 + hashes_begin (length identifier) + 32 * k) image) ≡ page_hash (take from image) k
  unfolding joined page_hashes
  hash_stands k low =
      let first = length-head (length identifier) from text_size main in
      let before = ((take from image ++ head (length identifier) from text_size main) ++ identifier) ++ (0 ∷ []) in
      let behind = joined (page_hashes (take from image)) ++ zeros in
      let size : length before ≡ from + 108 + length identifier + 1 = rw (length-append, length-append, length-append, long, first) refl in
      let cut : image ≡ before ++ behind = shape ∙ simp append_assoc in
      let place : from + 20 + hashes_begin (length identifier) + 32 * k ≡ length before + 32 * k = omega arith in
      let within : k < page_count (length (take from image)) = subst (λ (n : ℕ). k < page_count n) (sym long) low in
      let at : 0 + k ≡ k = omega arith in
      ap (λ (n : ℕ). take 32 (drop n image)) place
      ∙ ap (λ (bytes : List ℕ). take 32 (drop (length before + 32 * k) bytes)) cut
      ∙ ap (λ (bytes : List ℕ). take 32 bytes) (drop-append-add before behind (32 * k))
      ∙ hash_at (take from image) 0 (page_count (length (take from image))) k zeros within
      ∙ ap (λ (n : ℕ). page_hash (take from image) n) at

  zeros_stand : AreZeros (slice_range image (from + blob_size (length identifier) from) (from + signature_size (length identifier) from))
  unfolding zeros
  zeros_stand =
      let it = signature (take from image) identifier text_size main in
      let size : length it ≡ blob_size (length identifier) from = length-signature (take from image) identifier text_size main ∙ ap (λ (n : ℕ). blob_size (length identifier) n) long in
      let rest : drop (from + blob_size (length identifier) from) image ≡ replicate (least_multiple 16 (length it) - length it) 0 =
      sym (drop-drop (blob_size (length identifier) from) from image)
      ∙ ap (λ (bytes : List ℕ). drop (blob_size (length identifier) from) bytes) written.bytes
      ∙ ap (λ (n : ℕ). drop n (padded it)) (sym size)
      ∙ drop-append_seam it (replicate (least_multiple 16 (length it) - length it) 0) in
      subst (λ (bytes : List ℕ). AreZeros (take (from + signature_size (length identifier) from - (from + blob_size (length identifier) from)) bytes)) (sym rest)
      (zeros_are (from + signature_size (length identifier) from - (from + blob_size (length identifier) from)) (least_multiple 16 (length it) - length it))

  pub stands : IsStanding image (standing_of from identifier text_size main)
  stands =
      let below = blob_within (length identifier) from in
      let place = written.place in
      let few = written.few in
      let rest = identifier ++ ((0 ∷ []) ++ (joined (page_hashes (take from image)) ++ zeros)) in
      let small : blob_size (length identifier) from < 2 ^ 32 = omega arith in
      let low : from < 2 ^ 32 = omega arith in
      record {
        within = omega arith;
        size = refl;
        blob = subst (λ (bytes : List ℕ). super_blob_at bytes from ≡ super_blob (length identifier) from) (sym shape)
            (subst (λ (n : ℕ). super_blob_at (take from image ++ (head (length identifier) from text_size main ++ rest)) n ≡ super_blob (length identifier) from) long
            (blob_reads (length identifier) from text_size main (take from image) rest small));
        entry = subst (λ (bytes : List ℕ). blob_index_at bytes (from + 12) ≡ directory_entry) (sym shape)
            (subst (λ (n : ℕ). blob_index_at (take from image ++ (head (length identifier) from text_size main ++ rest)) (n + 12) ≡ directory_entry) long
            (entry_reads (length identifier) from text_size main (take from image) rest));
        directory = subst (λ (bytes : List ℕ). code_directory_at bytes (from + 20) ≡ directory (length identifier) from text_size main) (sym shape)
            (subst (λ (n : ℕ). code_directory_at (take from image ++ (head (length identifier) from text_size main ++ rest)) (n + 20) ≡ directory (length identifier) from text_size main) long
            (directory_reads (length identifier) from text_size main (take from image) rest small low written.text));
        ends = record { nul = nul_stands; zeros = zeros_stand };
      }

  -- where its command names it, the image is signed
  pub is_signed : IsNamed image from (signature_size (length identifier) from) → IsSigned image
  is_signed named = record {
    signature = standing_of from identifier text_size main;
    stands = record { named = named; stands = stands };
    hashed = hash_stands;
  }
