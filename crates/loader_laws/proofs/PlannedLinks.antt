-- What is planned is an image to which the loaded files link.
use Rattle.std.proofs.Common.{◌≡◌, ℕ, List, [], Ok}
use Rattle.file_cache.specs.Program.{File}
use Rattle.input_fetch.specs.Contents.{contents_of, places_of}
use Rattle.input_read.specs.Opened as opened
use Rattle.input_read.proofs.OpenedLemmas.{keeps_order}
use Rattle.link_engine.proofs.InputLemmas.{inputs_rise}
use Rattle.link_engine.proofs.WordLemmas.{command_read}
use Rattle.link_engine.specs.Bound.{BoundBy}
use Rattle.link_engine.specs.Command.{commanded, crowd_stop}
use Rattle.link_engine.specs.Input.{inputs_with}
use Rattle.link_engine.specs.Fetched.{FetchedBy}
use Rattle.link_engine.specs.Stop.{fetch_fault_for, load_fault_for}
use Rattle.link_engine.specs.Verdict.{IsImage, IsVerdict, IsVerdictAfter, contents_with, files_for, plan_of}
use Rattle.link_engine.specs.declared.plan.Plan.{Plan}
use Rattle.link_files.specs.Names.{wanted}
use Rattle.link_steps.proofs.AskLemmas.{asks_case, last_case, told_case, tries_case, unless_case}
use Rattle.link_steps.proofs.StepLemmas.{mapped_value, told_value}
use Rattle.link_steps.specs.Steps.{map_err}
use Rattle.member_rounds.proofs.RiseLemmas.{loaded_rises}
use Rattle.member_rounds.specs.Rounds.{loaded_of}
use Rattle.loader_laws.specs.Plans.{IsPlanOfImage}
use Rattle.link_engine.proofs.ValueLemmas.{no_fault, same_value}
use Rattle.loader_laws.proofs.Linked.{low_linked}
use Rattle.link_engine.proofs.LoadedLemmas.{loaded_cut, loaded_low}

-- ---- all steps, a line for each

pub image_planned : (words : List (List ℕ)) (look : List ℕ → File) (plan : Plan) → IsVerdict words look (Ok plan) → IsPlanOfImage words look plan
unfolding IsVerdictAfter
image_planned words look plan (tried, verdict) =
    told_case (commanded words) _ [] (Ok plan) tried (IsPlanOfImage words look plan) verdict
    (λ why e stop same. no_fault plan why stop)
    (λ command read first. unless_case (crowd_stop command) _ [] (Ok plan) tried (IsPlanOfImage words look plan) first
    (λ why e stop same. no_fault plan why stop)
    (λ few second. asks_case (FetchedBy look command) _ [] (Ok plan) tried (IsPlanOfImage words look plan) second
    (λ why is stop. no_fault plan why stop)
    (λ found then there third. told_case (contents_with command found) _ then (Ok plan) tried (IsPlanOfImage words look plan) third
    (λ why e stop same. no_fault plan why stop)
    (λ contents are fourth. asks_case (BoundBy look command contents.stubs) _ then (Ok plan) tried (IsPlanOfImage words look plan) fourth
    (λ why is stop. no_fault plan why stop)
    (λ libs later bound fifth. told_case (files_for command contents.inputs libs) _ later (Ok plan) tried (IsPlanOfImage words look plan) fifth
    (λ why e stop same. no_fault plan why stop)
    (λ loaded e sixth. tries_case (IsImage command libs loaded.files) _ later (Ok plan) tried (IsPlanOfImage words look plan) sixth
    (λ why is stop same. no_fault plan why stop)
    (λ image linked seventh. last_case (Ok (plan_of command image)) later (Ok plan) tried (IsPlanOfImage words look plan) seventh (λ planned still.
    let opened_are : opened.contents_of (inputs_with command found) ≡ Ok contents = (mapped_value load_fault_for (opened.contents_of (inputs_with command found)) contents).0 are in
    let loads : loaded_of contents.inputs libs (wanted command) ≡ Ok loaded = (mapped_value load_fault_for (loaded_of contents.inputs libs (wanted command)) loaded).0 e in
    let ordered = loaded_rises contents.inputs libs (wanted command) loaded (keeps_order (inputs_with command found) contents (inputs_rise command found) opened_are) loads in
    let cut = loaded_cut contents.inputs libs (wanted command) loaded loads in
    let low = loaded_low contents.inputs libs (wanted command) loaded loads in
    record {
      command = command;
      found = found;
      contents = contents;
      libs = libs;
      loaded = loaded;
      image = image;
      commanded = command_read words command read few;
      fetched = (mapped_value fetch_fault_for (contents_of (places_of command) look).end found).0 ((told_value (map_err fetch_fault_for (contents_of (places_of command) look).end) found).0 there.told);
      opened_are = opened_are;
      before = then;
      after = later;
      bound = bound;
      read = loads;
      planned = same_value plan (plan_of command image) planned;
      ordered = ordered;
      cut = cut;
      linked = linked;
      image_of = low_linked command libs loaded.files image ordered cut low linked;
    }))))))))
