-- Offers whose buckets are told by some entries, and what is indexed of them.
use Rattle.std.specs.Prelude.{ℕ, ◌≡◌, List, drop, slice_index_or}
use Rattle.mo_ar.specs.Text.{part}
use Rattle.mo_ar.specs.inner.Index.{AreBuckets, IsIndex, bucket, offers_of}
use Rattle.mo_ar.specs.declared.index.Node.{Node}
use Rattle.mo_ar.specs.declared.offered.Offered.{Offered}
use Rattle.mo_ar.specs.declared.offers.Entry.{Entry}

-- a bucket is that of the name of the entry at an index, of m buckets
abbrev pub IsBucketAt : Offered → ℕ → ℕ → ℕ → Type 0
IsBucketAt offered m at b =
    (d : Entry) → b ≡ bucket offered.strings.now offered.order.now m (part offered.strings.now (slice_index_or offered.entries.now at d).at (slice_index_or offered.entries.now at d).size)

-- the buckets of the names of the entries from an index on, of m buckets
abbrev pub AreBucketsFrom : Offered → ℕ → ℕ → List ℕ → Type 0
AreBucketsFrom offered m from buckets = AreBuckets offered.strings.now offered.order.now m offered.entries.now from buckets

-- the index of the offers from an index on
abbrev pub IsIndexFrom : Offered → ℕ → List ℕ → List Node → Type 0
IsIndexFrom offered from heads nodes =
    IsIndex offered.strings.now offered.order.now (drop from (offers_of offered.strings.now offered.entries.now)) heads nodes
