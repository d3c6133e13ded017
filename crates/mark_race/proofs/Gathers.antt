-- Workers that are made of markers, and give them back.
use Rattle.std.proofs.Common.{◌≡◌, ℕ, ◌+◌, ◌<◌, List, [], ◌∷◌, ◌++◌, All, length, get_or, map, cond, refl, sym, ◌∙◌, ap, ap₂, subst, arith}
use Rattle.std.specs.Prelude.{sum_by, is_err, Result, Ok}
use Rattle.mo_types.specs.declared.memory.OutOfMemory.{OutOfMemory}
use Rattle.std.proofs.lemmas.List.{get_or-map, length-map, map-append}
use Rattle.std.proofs.lemmas.List.Sums.{sum_by-cons, sum_by-append}
use Rattle.mark_race.specs.Level.{HaveMarked}
use Rattle.mark_race.specs.Marks.{Holding, Race, times}
use Rattle.mark_race.specs.declared.level.Worker.{Worker}
use Rattle.mark_race.specs.inner.Working.{AllMarked, AreFresh, AreGathered, lost}
use Rattle.mark_race.proofs.Steps.{times-append}

-- a sum with one more
sum_one_more : (f : Worker → ℕ) (ws : List Worker) (w : Worker) → sum_by f (ws ++ w ∷ []) ≡ sum_by f ws + f w
sum_one_more f ws w = omega (arith, sum_by-append f ws (w ∷ []), sum_by-cons f w [])

markers_more : (ws new : List Worker) (w : Worker) (ms more : List Holding) (m : Holding) → map (λ (w : Worker). w.marker) ws ≡ ms → new ≡ ws ++ w ∷ [] → more ≡ ms ++ m ∷ [] → w.marker ≡ m → map (λ (w : Worker). w.marker) new ≡ more
markers_more ws new w ms more m so grown longer is = ap (map (λ (w : Worker). w.marker)) grown ∙ (map-append (λ (w : Worker). w.marker) ws (w ∷ []) ∙ (ap₂ (λ (l : List Holding) (x : Holding). l ++ x ∷ []) so is ∙ sym longer))

pub fresh_start : (ws : List Worker) → ws ≡ [] → AreFresh [] ws
fresh_start ws empty = record { markers_are = ap (map (λ (w : Worker). w.marker)) empty; nothing = λ x. ap (sum_by (λ (w : Worker). times x w.gained.items)) empty }

pub fresh_more : (ms more : List Holding) (m : Holding) (ws new : List Worker) (w : Worker) → AreFresh ms ws → more ≡ ms ++ m ∷ [] → new ≡ ws ++ w ∷ [] → w.marker ≡ m → w.gained.items ≡ [] → AreFresh more new
fresh_more ms more m ws new w so longer grown is empty = record {
  markers_are = markers_more ws new w ms more m so.markers_are grown longer is;
  nothing = λ x. ap (sum_by (λ (w : Worker). times x w.gained.items)) grown ∙ omega (arith, sum_one_more (λ (w : Worker). times x w.gained.items) ws w, so.nothing x, ap (times x) empty);
}

pub fresh_end : (ms all : List Holding) (ws : List Worker) → AreFresh ms ws → ms ≡ all → AreFresh all ws
fresh_end ms all ws so is = subst (λ (l : List Holding). AreFresh l ws) is so

pub ruleset freshness = (fresh_start, fresh_more, fresh_end)

pub gathers_start : (ms : List Holding) (gained : List ℕ) → ms ≡ [] → gained ≡ [] → AreGathered [] ms gained
gathers_start ms gained empty none_yet = record { markers_are = sym empty; all = λ x. ap (times x) none_yet; none_lost = refl }

pub gathers_more : (ws more : List Worker) (w : Worker) (ms new : List Holding) (gained grown : List ℕ) (done : Unit {0}) → AreGathered ws ms gained → more ≡ ws ++ w ∷ [] → w.notes ≡ Ok done → new ≡ ms ++ w.marker ∷ [] → grown ≡ gained ++ w.gained.items → AreGathered more new grown
gathers_more ws more w ms new gained grown done so longer kept added noted = record {
  markers_are = markers_more ws more w ms new w.marker so.markers_are longer added refl;
  all = λ x. ap (times x) noted ∙ omega (arith, times-append x gained w.gained.items, so.all x, ap (sum_by (λ (w : Worker). times x w.gained.items)) longer, sum_one_more (λ (w : Worker). times x w.gained.items) ws w);
  none_lost = omega (arith, so.none_lost, ap lost longer, sum_one_more (λ (w : Worker). cond (is_err w.notes) 1 0) ws w, ap (λ (notes : Result (Unit {0}) OutOfMemory). cond {A = ℕ} (is_err notes) 1 0) kept);
}

pub gathers_end : (ws all : List Worker) (ms : List Holding) (gained : List ℕ) → AreGathered ws ms gained → ws ≡ all → AreGathered all ms gained
gathers_end ws all ms gained so is = subst (λ (l : List Worker). AreGathered l ms gained) is so

pub ruleset gathering = (gathers_start, gathers_more, gathers_end)

-- ---- the level, by its markers

sum_map : {X Y : Type 0} (f : Y → ℕ) (g : X → Y) (xs : List X) → sum_by f (map g xs) ≡ sum_by (λ x. f (g x)) xs
sum_map f g [] = refl
sum_map f g (x ∷ xs) = omega (arith, sum_map f g xs, sum_by-cons f (g x) (map g xs), sum_by-cons (λ x. f (g x)) x xs)

map_map : {X Y Z : Type 0} (f : Y → Z) (g : X → Y) (xs : List X) → map f (map g xs) ≡ map (λ x. f (g x)) xs
map_map f g [] = refl
map_map f g (x ∷ xs) = ap (λ ys. f (g x) ∷ ys) (map_map f g xs)

pub level_is : (atoms : List ℕ) (before after : List Holding) (seats ends : List Worker) (gained : List ℕ) → AreFresh before seats → AllMarked atoms seats ends → AreGathered ends after gained → HaveMarked atoms before after gained
level_is atoms before after seats ends gained fresh all gathered =
    let noted : (x : ℕ) → times x gained ≡ times x all.new = λ x. omega (arith, gathered.all x, all.noted gathered.none_lost x, fresh.nothing x) in
    record {
      races = is (λ (m : Holding). m.race) ∙ (all.races ∙ sym (was (λ (m : Holding). m.race)));
      passes = is (λ (m : Holding). m.passes) ∙ (all.passes ∙ sym (was (λ (m : Holding). m.passes)));
      marks = λ x. omega (arith, sum_is (λ (m : Holding). times x m.marks), sum_was (λ (m : Holding). times x m.marks), all.marks x);
      gains = λ x. omega (arith, sum_is (λ (m : Holding). times x m.gains), sum_was (λ (m : Holding). times x m.gains), all.gains x, noted x);
      among = λ x. omega (arith, noted x, all.few x);
    }
  where
    was : {Y : Type 0} (f : Holding → Y) → map f before ≡ map (λ (w : Worker). f w.marker) seats
    was f = ap (map f) (sym fresh.markers_are) ∙ map_map f (λ (w : Worker). w.marker) seats

    is : {Y : Type 0} (f : Holding → Y) → map f after ≡ map (λ (w : Worker). f w.marker) ends
    is f = ap (map f) (sym gathered.markers_are) ∙ map_map f (λ (w : Worker). w.marker) ends

    sum_was : (f : Holding → ℕ) → sum_by f before ≡ sum_by (λ (w : Worker). f w.marker) seats
    sum_was f = ap (sum_by f) (sym fresh.markers_are) ∙ sum_map f (λ (w : Worker). w.marker) seats

    sum_is : (f : Holding → ℕ) → sum_by f after ≡ sum_by (λ (w : Worker). f w.marker) ends
    sum_is f = ap (sum_by f) (sym gathered.markers_are) ∙ sum_map f (λ (w : Worker). w.marker) ends

-- the workers' markers are of the race, since the markers are
pub all_fit : (race : Race) (markers : List Holding) (workers : List Worker) → AreFresh markers workers → All (λ (m : Holding). m.race ≡ race) markers → (k : ℕ) (d : Worker) → k < length workers → (get_or workers k d).marker.race ≡ race
all_fit race markers workers fresh all k d low =
    let low' : k < length markers = omega (arith, low, length-map workers (λ (w : Worker). w.marker), ap length fresh.markers_are) in
    ap (λ (m : Holding). m.race) (sym (get_or-map (λ (w : Worker). w.marker) workers k d d.marker low) ∙ ap (λ (l : List Holding). get_or l k d.marker) fresh.markers_are) ∙ all k d.marker low'

pub as_many_workers : (markers : List Holding) (workers : List Worker) → AreFresh markers workers → length workers ≡ length markers
as_many_workers markers workers fresh = sym (length-map workers (λ (w : Worker). w.marker)) ∙ ap length fresh.markers_are

pub ruleset crews = (as_many_workers)
