-- The line that the program says of each answer. A file is named by its path, or by `path(member)`;
-- numbers are decimal.
use Rattle.std.specs.Prelude.{ℕ, List, [], ◌∷◌, ◌++◌, codes}
use Rattle.std.specs.Fmt.{decimal, signed_decimal}
use Rattle.mo_types.specs.Cause.{rule_text, feature_text, which_text, range_kind_text, usage_rule_text}
use Rattle.mo_types.specs.declared.answer.Refusal.{Refusal}
use Rattle.mo_types.specs.declared.answer.Refusal.TheVariants.{Missing, Malformed, Unsupported, Limit, Duplicate, Undefined, NeedsImage, Range}
use Rattle.mo_types.specs.declared.answer.Status.{Status}
use Rattle.mo_types.specs.declared.answer.Status.TheVariants.{Done, Usage, ReadFault, Refused, WriteFault, OutOfMemory}

-- the line of inputs that have no image
unfoldable pub line_of_refusal : Refusal → List ℕ
line_of_refusal (Missing path) = codes "atomld: not found: " ++ path ++ codes "\n"
line_of_refusal (Malformed file place rule) =
    codes "atomld: " ++ file ++ codes ": malformed at " ++ decimal place ++ codes ": " ++ rule_text rule ++ codes "\n"
line_of_refusal (Unsupported file feature) =
    codes "atomld: " ++ file ++ codes ": unsupported: " ++ feature_text feature ++ codes "\n"
line_of_refusal (Limit which) = codes "atomld: limit: " ++ which_text which ++ codes "\n"
line_of_refusal (Duplicate name first second) =
    codes "atomld: duplicate " ++ name ++ codes ": " ++ first ++ codes ", " ++ second ++ codes "\n"
line_of_refusal (Undefined name []) = codes "atomld: undefined " ++ name ++ codes "\n"
line_of_refusal (Undefined name (first ∷ others)) =
    codes "atomld: undefined " ++ name ++ codes ": " ++ (first ∷ others) ++ codes "\n"
line_of_refusal (NeedsImage file place) =
    codes "atomld: " ++ file ++ codes ": import without slot at " ++ decimal place ++ codes "\n"
line_of_refusal (Range file place kind value) =
    codes "atomld: " ++ file ++ codes ": out of range at " ++ decimal place ++ codes ": " ++ range_kind_text kind ++ codes " " ++ signed_decimal value ++ codes "\n"

-- the line of an answer, where `written` is the path of the file that was to be written
unfoldable pub line_of : List ℕ → Status → List ℕ
line_of written Done = []
line_of written (Usage word rule) =
    codes "atomld: usage: word " ++ decimal word ++ codes ": " ++ usage_rule_text rule ++ codes "\n"
line_of written (ReadFault path) = codes "atomld: cannot read " ++ path ++ codes "\n"
line_of written (Refused refusal) = line_of_refusal refusal
line_of written WriteFault = codes "atomld: cannot write " ++ written ++ codes "\n"
line_of written OutOfMemory = codes "atomld: out of memory\n"
