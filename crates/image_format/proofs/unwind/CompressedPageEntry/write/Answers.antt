use Rattle.std.proofs.Common.{append_assoc, append-nil, subst}
use Rattle.std.proofs.Common.{◌^◌, ◌<◌, ℕ}
use Rattle.image_format.proofs.UnwindLemmas.{compressed_page_entry_read}
use Rattle.image_format.proofs.unwind.CompressedPageEntry.write.Goals as goal

pub returns-clause-ok : goal.returns-clause-ok
returns-clause-ok c =
    rw (c.put_u32.ensures.items, c.pack_row.ensures, c.reserve.ensures.items)
    (simp (append_assoc, append-nil))

pub returns-clause-read_back : goal.returns-clause-read_back
returns-clause-read_back c rest =
    rw (returns-clause-ok c) (compressed_page_entry_read c.args.self c.args.out.now.items rest c.requires (subst (λ (n : ℕ). n < 256 ^ 4) c.pack_row.ensures c.put_u32.ensures.fits))
