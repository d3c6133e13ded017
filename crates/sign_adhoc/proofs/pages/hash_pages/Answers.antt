use Rattle.std.proofs.Common.{◌≡◌, ◌<◌, ◌-◌, ◌∙◌, length, map, ap, arith}
use Rattle.std.specs.List.{range_with_len}
use Rattle.std.proofs.lemmas.Slice.Zip.{AllZip-map}
use Rattle.rayon.specs.Numbers.{nat_range}
use Rattle.rayon.proofs.ToStd.{nat_range-All}
use Rattle.sign_adhoc.specs.Pages.{page_count, page_hash, page_hashes}
use Rattle.sign_adhoc.proofs.pages.hash_pages.Goals as goal

pub collect-requires-clause-ready : goal.collect-requires-clause-ready
collect-requires-clause-ready g c κs within =
    let ends = c.into_par_iter.ensures in
    let counted = c.page_count-count.ensures in
    let inside = nat_range-All (λ i. i < page_count (length c.args.bytes.now)) 0 c.page_count-count.result (λ i low high. omega arith) in
    rw (c.map.ensures.base, c.with_min_len.ensures.base, c.map.ensures.f, ends.0, ends.1) (λ k d lt. (inside k d lt, λ y p. tt))

pub returns : goal.returns
unfolding page_hashes
returns g c =
    let ends = c.into_par_iter.ensures in
    let n = page_count (length c.args.bytes.now) in
    let counted = c.page_count-count.ensures in
    let whole : c.page_count-count.result - 0 ≡ n = omega arith in
    let h = c.in_ok-hashes.ensures in
    let chain = rw (c.map.ensures.base, c.with_min_len.ensures.base, c.map.ensures.f) at h.1 in
    let places = chain.1 ∙ (λ i. nat_range (ends.0 i) (ends.1 i)) ∙ ap (range_with_len 0) whole in
    h.2 ∙ AllZip-map (page_hash c.args.bytes.now) chain.0 h.0 chain.2 ∙ ap (map (page_hash c.args.bytes.now)) places
