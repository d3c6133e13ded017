-- The image that is planned for the words of a command line, by what stands under each path.
use Rattle.std.specs.Prelude.{ℕ, ◌≡◌, List, Ok}
use Rattle.file_cache.specs.Program.{File}
use Rattle.input_fetch.specs.Contents.{contents_of, places_of}
use Rattle.input_fetch.specs.declared.content.Content.{Content}
use Rattle.input_read.specs.Opened.{Contents}
use Rattle.input_read.specs.Opened as opened
use Rattle.lib_bind.specs.declared.library.LibraryGraph.{LibraryGraph}
use Rattle.link_engine.specs.Bound.{BoundBy}
use Rattle.link_engine.specs.Command.{command_of}
use Rattle.link_engine.specs.Input.{inputs_with}
use Rattle.link_engine.specs.Verdict.{plan_of}
use Rattle.link_engine.specs.declared.plan.Plan.{Plan}
use Rattle.link_files.specs.Linked.{AreCut, AreOrdered, IsLinked}
use Rattle.link_files.specs.Names.{wanted}
use Rattle.member_rounds.specs.Rounds.{loaded_of}
use Rattle.command_line.specs.declared.command.Command.{Command}
use Rattle.mo_types.specs.declared.loaded.Loaded.{Loaded}
use Rattle.loader_laws.specs.Images.{IsImageOf}
use Rattle.loader_laws.specs.LinkOf.{IsLinkOf}

-- The inputs of the command are opened as what the bytes are that were found. Its stub libraries and what these re-export are
-- the libraries, and the files are loaded that the rounds bring. What is planned is the image to which these files link; their
-- ids rise, and each is cut into its pieces.
pub record IsPlanOfImage (words : List (List ℕ)) (look : List ℕ → File) (plan : Plan) : Type 0 where
  pub command : Command
  pub found : List Content
  pub contents : Contents
  pub libs : LibraryGraph
  pub loaded : Loaded
  pub image : List ℕ
  pub commanded : command_of words ≡ Ok command
  pub fetched : (contents_of (places_of command) look).end ≡ Ok found
  pub opened_are : opened.contents_of (inputs_with command found) ≡ Ok contents
  pub before : List (List ℕ)
  pub after : List (List ℕ)
  pub bound : BoundBy look command contents.stubs before (Ok libs) after
  pub read : loaded_of contents.inputs libs (wanted command) ≡ Ok loaded
  pub planned : plan ≡ plan_of command image
  pub ordered : AreOrdered loaded.files
  pub cut : AreCut loaded.files
  pub linked : IsLinked command libs loaded.files (Ok image)
  pub image_of : IsImageOf command libs loaded.files image

-- what is planned is an image that links the files that are loaded
pub record IsPlanOfLink (words : List (List ℕ)) (look : List ℕ → File) (plan : Plan) : Type 0 where
  pub planned : IsPlanOfImage words look plan
  pub link : IsLinkOf planned.command planned.libs planned.loaded.files planned.image
