use Rattle.std.proofs.lemmas.List.{take_min, take_rest}
use Rattle.sign_adhoc.specs.Pages.{page}
use Rattle.sign_adhoc.proofs.pages.page.Goals as goal

pub returns : goal.returns
unfolding page
returns c = rw (c.min-size.ensures, take_rest) (take_min _ _)
