-- A line that names the file, since the file isn't empty.
use Rattle.std.proofs.Common.{◌≡◌, ◌≤◌, ℕ, List, [], ◌∷◌, ◌++◌, length, codes, refl, arith}
use Rattle.mo_types.specs.declared.answer.Refusal.TheVariants.{Undefined}
use Rattle.mo_types.specs.Message.{line_of_refusal}
use Rattle.mo_message.proofs.message.put_undefined.Goals as goal

line_with_file : (name file : List ℕ) → 1 ≤ length file → line_of_refusal (Undefined name file) ≡ codes "atomld: undefined " ++ name ++ codes ": " ++ file ++ codes "\n"
unfolding line_of_refusal
line_with_file name [] some = absurd (omega arith)
line_with_file name (first ∷ others) some = refl

pub returns-in-len1-up-clause-ok : goal.returns-in-len1-up-clause-ok
returns-in-len1-up-clause-ok g c =
    rw (line_with_file c.args.name.now c.args.file.now c.in-len1-up.len_at_least) c.put_line_of_two.ensures.ok
