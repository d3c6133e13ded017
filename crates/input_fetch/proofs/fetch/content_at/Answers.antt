use Rattle.std.proofs.Common.{◌≡◌, ◌∙◌, ◌<◌, List, ℕ, [], length, get_or, subst, sym}
use Rattle.input_fetch.proofs.AskLemmas.{at_place, wanting}
use Rattle.input_fetch.proofs.PlaceLemmas.{paths_at, some_path_at}
use Rattle.input_fetch.specs.Contents.{places_of}
use Rattle.input_fetch.proofs.fetch.content_at.Goals as goal

pub returns-in_err-paths : goal.returns-in_err-paths
returns-in_err-paths g c = wanting g.F.Files.answers _ _ _ c.from_residual.ensures.1

pub first_there-requires : goal.first_there-requires
first_there-requires g c =
    subst (λ (list : List (List ℕ)). 0 < length list) (sym c.as_slice.ensures) (some_path_at c.args.command.now c.args.at c.in_ok-paths.paths c.requires c.in_ok-paths.ensures)

pub returns : goal.returns
returns g c =
    let paths : List (List ℕ) = get_or (places_of c.args.command.now) c.args.at [] in
    let same : c.as_slice.result.now ≡ paths = c.as_slice.ensures ∙ paths_at c.args.command.now c.args.at c.in_ok-paths.paths c.requires c.in_ok-paths.ensures in
    at_place g.F.Files.answers c.as_slice.result.now paths c.first_there.result _ _ same c.first_there.ensures
