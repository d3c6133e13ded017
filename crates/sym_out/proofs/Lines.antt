-- A line that is put together piece by piece.
use Rattle.std.proofs.Common.{◌≡◌, ℕ, List, [], ◌∷◌, ◌++◌, ap, ◌∙◌, append_assoc}
use Rattle.mo_types.specs.declared.key.FileId.{FileId}
use Rattle.mo_types.specs.declared.loaded.LoadedFile.{LoadedFile}
use Rattle.sym_out.specs.Files.{label_of}
use Rattle.sym_out.specs.Map.{MapRow, hex_digits, line_of, lower_places, or_hyphen, upper_places}

join : (o a b c : List ℕ) → c ≡ (o ++ a) ++ b → c ≡ o ++ (a ++ b)
join o a b c e = e ∙ append_assoc o a b

step : (o a b c d : List ℕ) → c ≡ o ++ a → d ≡ c ++ b → d ≡ o ++ (a ++ b)
step o a b c d before more = join o a b d (more ∙ ap (λ (z : List ℕ). z ++ b) before)

pub line_is : (files : List LoadedFile) (row : MapRow) (address size : ℕ) (id : FileId) (o o1 o2 o3 o4 o5 label o6 o7 name o8 o9 : List ℕ) → address ≡ row.address → size ≡ row.atom.size → id ≡ row.atom.key.file → o1 ≡ o ++ hex_digits upper_places address → o2 ≡ o1 ++ hex_digits lower_places address → o3 ≡ o2 ++ 32 ∷ [] → o4 ≡ o3 ++ hex_digits lower_places size → o5 ≡ o4 ++ 32 ∷ [] → label ≡ label_of files id → o6 ≡ o5 ++ label → o7 ≡ o6 ++ 32 ∷ [] → name ≡ or_hyphen row.name → o8 ≡ o7 ++ name → o9 ≡ o8 ++ 10 ∷ [] → o9 ≡ o ++ line_of files row
unfolding line_of
line_is files row address size id o o1 o2 o3 o4 o5 label o6 o7 name o8 o9 is_address is_size is_id e1 e2 e3 e4 e5 is_label e6 e7 is_name e8 e9 =
    let a = hex_digits upper_places row.address in
    let b = hex_digits lower_places row.address in
    let d = hex_digits lower_places row.atom.size in
    let l = label_of files row.atom.key.file in
    let n = or_hyphen row.name in
    let s : List ℕ = 32 ∷ [] in
    let f1 : o1 ≡ o ++ a = e1 ∙ ap (λ (x : ℕ). o ++ hex_digits upper_places x) is_address in
    let f2 : o2 ≡ o1 ++ b = e2 ∙ ap (λ (x : ℕ). o1 ++ hex_digits lower_places x) is_address in
    let f4 : o4 ≡ o3 ++ d = e4 ∙ ap (λ (x : ℕ). o3 ++ hex_digits lower_places x) is_size in
    let f6 : o6 ≡ o5 ++ l = e6 ∙ ap (λ (x : List ℕ). o5 ++ x) (is_label ∙ ap (label_of files) is_id) in
    let f8 : o8 ≡ o7 ++ n = e8 ∙ ap (λ (x : List ℕ). o7 ++ x) is_name in
    let g2 = step o a b o1 o2 f1 f2 in
    let g3 = step o (a ++ b) s o2 o3 g2 e3 in
    let g4 = step o (a ++ b ++ s) d o3 o4 g3 f4 in
    let g5 = step o (a ++ b ++ s ++ d) s o4 o5 g4 e5 in
    let g6 = step o (a ++ b ++ s ++ d ++ s) l o5 o6 g5 f6 in
    let g7 = step o (a ++ b ++ s ++ d ++ s ++ l) s o6 o7 g6 e7 in
    let g8 = step o (a ++ b ++ s ++ d ++ s ++ l ++ s) n o7 o8 g7 f8 in
    step o (a ++ b ++ s ++ d ++ s ++ l ++ s ++ n) (10 ∷ []) o8 o9 g8 e9
