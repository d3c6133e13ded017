-- What workers read, put in order.
use Rattle.std.proofs.Common.{◌≡◌, List, [], All, IfOk, Result, Ok, Err, sym, ap, ◌∙◌, arith}
use Rattle.input_files.specs.Collected.{all_of, behind}
use Rattle.input_files.specs.Files.{IsLoadFault}
use Rattle.input_files.specs.declared.fault.LoadFault.{LoadFault}
use Rattle.input_files.specs.declared.fault.LoadFault.TheVariants.{OutOfMemory}
use Rattle.input_files.specs.declared.input.Input.{Input}
use Rattle.input_files.proofs.CollectedLemmas.{behind_none, each_holds, pieces_are, pieces_miss}
use Rattle.input_files.proofs.EachLemmas.{all_from, all_has}
use Rattle.input_read.specs.Opened.{openings_of}
use Rattle.input_read.specs.Opening.{opening_of}
use Rattle.input_read.specs.Sound.{IsSound}
use Rattle.input_read.specs.declared.opening.Opening.{Opening}
use Rattle.input_read.specs.inner.Pieces.{ArePieces, no_input}

alone : (before : List Opening) (read : Result (List Opening) LoadFault) → before ≡ [] → read ≡ behind before read
alone before read none = sym (behind_none read) ∙ ap (λ (openings : List Opening). behind openings read) (sym none)

pub pieces_read : (inputs : List Input) (pieces : List (Result Opening LoadFault)) (before openings : List Opening) → ArePieces inputs pieces → before ≡ [] → behind before (all_of pieces) ≡ Ok openings → openings_of inputs ≡ Ok openings
pieces_read inputs pieces before openings are none is = pieces_are opening_of inputs pieces no_input openings are.count (λ job low. (are.each job (Err OutOfMemory) low).exact) (alone before (all_of pieces) none ∙ is)

pub pieces_fail : (inputs : List Input) (pieces : List (Result Opening LoadFault)) (before : List Opening) (fault : LoadFault) → ArePieces inputs pieces → before ≡ [] → IsLoadFault fault → behind before (all_of pieces) ≡ Err fault → openings_of inputs ≡ Err fault
pieces_fail inputs pieces before fault are none real is = pieces_miss opening_of inputs pieces no_input fault are.count (λ job low. (are.each job (Err OutOfMemory) low).exact) real (alone before (all_of pieces) none ∙ is)

pub pieces_sound : (inputs : List Input) (pieces : List (Result Opening LoadFault)) (before openings : List Opening) → ArePieces inputs pieces → before ≡ [] → behind before (all_of pieces) ≡ Ok openings → All IsSound openings
pieces_sound inputs pieces before openings are none is =
    all_from IsSound openings (each_holds IsSound pieces openings (λ piece at. all_has (λ (p : Result Opening LoadFault). IfOk p IsSound) pieces piece (λ k d low. (are.each k d (omega (arith, low, are.count))).sound) at) (alone before (all_of pieces) none ∙ is))

pub ruleset pieces = (pieces_read, pieces_fail, pieces_sound)
