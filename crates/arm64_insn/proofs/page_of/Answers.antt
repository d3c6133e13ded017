use Rattle.arm64_insn.proofs.PageLemmas.{page_read, page_of-in_reach, put_page-page_of}
use Rattle.arm64_insn.proofs.page_of.Goals as goal

pub returns-clause-value : goal.returns-clause-value
returns-clause-value c =
    page_read c.args.word c.read.result c.read-2.result c.sign_extended.result
    c.read.ensures.value c.read-2.ensures.value c.sign_extended.ensures.value

pub returns-clause-in_reach : goal.returns-clause-in_reach
returns-clause-in_reach c = rw (returns-clause-value c) (page_of-in_reach c.args.word)

pub returns-clause-written_back : goal.returns-clause-written_back
returns-clause-written_back c = rw (returns-clause-value c) (put_page-page_of c.args.word)
