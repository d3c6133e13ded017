-- What pieces hold that workers made, in order.
use Rattle.std.specs.Prelude.{List, [], ◌∷◌, ◌++◌, Result, Ok}
use Rattle.mo_types.specs.Gives.{◌>>=◌}
use Rattle.input_files.specs.declared.fault.LoadFault.{LoadFault}

-- what all pieces hold, or the fault of the first that has one
abbrev pub all_of : {X : Type 0} → List (Result X LoadFault) → Result (List X) LoadFault
all_of [] = Ok []
all_of (piece ∷ pieces) = piece >>= λ x. all_of pieces >>= λ xs. Ok (x ∷ xs)

-- that, behind what was there before
abbrev pub behind : {X : Type 0} → List X → Result (List X) LoadFault → Result (List X) LoadFault
behind before read = read >>= λ xs. Ok (before ++ xs)
