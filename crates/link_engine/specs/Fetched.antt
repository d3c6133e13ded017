-- The files of the inputs of a link, by what stands under each path.
use Rattle.std.specs.Prelude.{ℕ, ◌≡◌, ◌++◌, List, Result}
use Rattle.file_cache.specs.Program.{File}
use Rattle.input_fetch.specs.Contents.{contents_of, places_of}
use Rattle.input_fetch.specs.declared.content.Content.{Content}
use Rattle.command_line.specs.declared.command.Command.{Command}
use Rattle.link_steps.specs.Steps.{IsToldBy, map_err}
use Rattle.link_engine.specs.declared.stop.Stop.{Stop}
use Rattle.link_engine.specs.Stop.{fetch_fault_for}

-- The files of the inputs, all of which are fetched before the first is read, or why one has none. Their paths are tried
-- after those before.
pub record FetchedBy (look : List ℕ → File) (command : Command)
    (old : List (List ℕ)) (given : Result (List Content) Stop) (new : List (List ℕ)) : Type 0 where
  pub told : IsToldBy (map_err fetch_fault_for (contents_of (places_of command) look).end) given
  pub tries : new ≡ old ++ (contents_of (places_of command) look).tried
