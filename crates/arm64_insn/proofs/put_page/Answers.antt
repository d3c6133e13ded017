use Rattle.std.proofs.Common.{◌≡◌, w64, true}
use Rattle.std.proofs.lemmas.Int.{to_z-of_z}
use Rattle.arm64_insn.specs.Page.{is_page_delta, page_word}
use Rattle.arm64_insn.proofs.PageLemmas.{pages_tested, tested_in_pages, page_made, page_of-page_word, page_word-same, put_page-page_word}
use Rattle.arm64_insn.proofs.put_page.Goals as goal

pub returns-then-not-is_page_delta-clause-in_reach :
    goal.returns-then-not-is_page_delta-clause-in_reach
returns-then-not-is_page_delta-clause-in_reach c h =
    let held = to_z-of_z w64 c.args.pages c.ranges.pages in
    let yes = pages_tested c.args.pages h in
    cc

tested : (c : goal.After-write-2) → is_page_delta c.args.pages ≡ true
tested c = let held = to_z-of_z w64 c.args.pages c.ranges.pages in cc

made : (c : goal.After-write-2) → c.write-2.result ≡ page_word c.args.word c.args.pages
made c =
    page_made c.args.word c.args.pages c.twos_complement-imm.result c.write.result c.write-2.result c.ranges.pages
    c.twos_complement-imm.ensures.value c.write.ensures c.write-2.ensures

pub returns-clause-written : goal.returns-clause-written
returns-clause-written c = rw (tested c, made c)

pub returns-clause-in_reach : goal.returns-clause-in_reach
returns-clause-in_reach c = (tested_in_pages c.args.pages (tested c), made c)

pub returns-clause-read_back : goal.returns-clause-read_back
returns-clause-read_back c =
    rw (made c) (page_of-page_word c.args.word c.args.pages (tested_in_pages c.args.pages (tested c)))

pub returns-clause-others : goal.returns-clause-others
returns-clause-others c = rw (made c) (page_word-same c.args.word c.args.pages)

pub returns-clause-last : goal.returns-clause-last
returns-clause-last c later = rw (made c) (put_page-page_word c.args.word c.args.pages later)
