use Rattle.std.proofs.Common.{refl, All, ◌≡◌, ℕ, ◌+◌, ◌*◌, ◌-◌, ◌/◌, ◌%◌, ◌<◌, ◌^◌, ◌≤◌, List, length, min, take, drop, sym, ap, ◌∙◌, subst, arith, le_trans, lit<}
use Rattle.std.proofs.Math.Nat.{min_comm, mul-le-mul_right}
use Rattle.std.proofs.lemmas.Grind.{div_ceil_times}
use Rattle.std.proofs.lemmas.List.{length-drop, length-take, take_min, take_rest}
use Rattle.std.proofs.lemmas.List.Elements.{All-drop, All-take}
use Rattle.mo_types.specs.Loaded.{IsWholeFile}
use Rattle.mo_types.specs.declared.loaded.LoadedFile.{LoadedFile}
use Rattle.name_ids.specs.Names.{numbers_of}
use Rattle.name_offers.proofs.OfferLemmas.{run_numbers}
use Rattle.name_offers.proofs.JobLemmas.{IsOfferedTo, runs_end, runs_more}
use Rattle.name_offers.proofs.offering.offer_all.Goals as goal

part_is : (files : List LoadedFile) (n m k : ℕ) → k ≡ min (length files - n) m → take k (take (length files - n) (drop n files)) ≡ take m (drop n files)
part_is files n m k is =
    ap (take k) (take_rest files n)
    ∙ ap (λ (i : ℕ). take i (drop n files)) (is ∙ ap (λ (l : ℕ). min l m) (sym (length-drop n files)) ∙ min_comm (length (drop n files)) m)
    ∙ take_min m (drop n files)

all_past : (len runs run m : ℕ) → 0 < m → runs ≡ len / m + min 1 (len % m) → runs ≤ run → len ≤ run * m
all_past len runs run m some is past = le_trans (div_ceil_times len m some).0 (subst (λ (r : ℕ). r * m ≤ run * m) is (mul-le-mul_right m past))

pub offer_run-requires-clause-files : goal.offer_run-requires-clause-files
offer_run-requires-clause-files g c κs within =
    let are : c.as_slice-numbers.result.now ≡ numbers_of c.args.numbered.now.names c.as_slice-files.result.now = c.as_slice-numbers.ensures ∙ c.requires.numbers ∙ ap (numbers_of c.args.numbered.now.names) (sym c.as_slice-files.ensures) in
    let all_whole : All IsWholeFile c.as_slice-files.result.now = subst (λ (files : List LoadedFile). All IsWholeFile files) (sym c.as_slice-files.ensures) c.requires.whole.files in
    record {
      words = c.requires.words;
      whole = All-take IsWholeFile c.min.result (take (length c.as_slice-files.result.now - c.loop-run.run * 2 ^ 30) (drop (c.loop-run.run * 2 ^ 30) c.as_slice-files.result.now))
          (All-take IsWholeFile (length c.as_slice-files.result.now - c.loop-run.run * 2 ^ 30) (drop (c.loop-run.run * 2 ^ 30) c.as_slice-files.result.now) (All-drop IsWholeFile (c.loop-run.run * 2 ^ 30) c.as_slice-files.result.now all_whole));
      numbers = run_numbers c.args.numbered.now.names c.as_slice-numbers.result.now c.part-their.result.now c.as_slice-files.result.now
          (take c.min.result (take (length c.as_slice-files.result.now - c.loop-run.run * 2 ^ 30) (drop (c.loop-run.run * 2 ^ 30) c.as_slice-files.result.now))) (c.loop-run.run * 2 ^ 30) c.min.result are refl c.part-their.ensures;
    }

pub loop-run-preserved : goal.loop-run-preserved
loop-run-preserved g c =
    let next : c.loop-run.run * 2 ^ 30 + 2 ^ 30 ≡ (c.loop-run.run + 1) * 2 ^ 30 = omega arith in
    let least : c.min.result ≡ min (length c.as_slice-files.result.now - c.loop-run.run * 2 ^ 30) (2 ^ 30) = omega (arith, c.min.ensures, length-take (length c.as_slice-files.result.now - c.loop-run.run * 2 ^ 30) (drop (c.loop-run.run * 2 ^ 30) c.as_slice-files.result.now), length-drop (c.loop-run.run * 2 ^ 30) c.as_slice-files.result.now) in
    subst (λ n. IsOfferedTo c.args.race.now c.args.numbered.now.names c.as_slice-files.result.now n c.args.racers.items c.in_ok-racers.racers.items) next
    (runs_more c.args.race.now c.args.numbered.now.names c.as_slice-files.result.now _ (c.loop-run.run * 2 ^ 30) (2 ^ 30) c.args.racers.items c.loop-run.racers.items c.in_ok-racers.racers.items c.loop-run.invariant
    (part_is c.as_slice-files.result.now (c.loop-run.run * 2 ^ 30) (2 ^ 30) c.min.result least) c.in_ok-racers.ensures.offered c.in_ok-racers.ensures.race)

pub returns-clause-offers : goal.returns-clause-offers
returns-clause-offers g c =
    let past : length c.as_slice-files.result.now ≤ c.loop-run.run * 2 ^ 30 = all_past (length c.as_slice-files.result.now) c.div_ceil-run-end.result c.loop-run.run (2 ^ 30) (lit< tt) c.div_ceil-run-end.ensures c.loop-run-test.false in
    (runs_end c.args.race.now c.args.numbered.now.names c.args.files.now.files (c.loop-run.run * 2 ^ 30) c.args.racers.items c.loop-run.racers.items (rw c.as_slice-files.ensures at c.loop-run.invariant) c.requires.named (rw c.as_slice-files.ensures at past)).offers
