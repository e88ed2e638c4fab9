-- The runs of updates, partition by partition.
use Rattle.std.proofs.Common.{◌≡◌, ◌≤◌, ◌<◌, ◌+◌, ◌-◌, ℕ, suc, List, [], ◌∷◌, ◌++◌, ◌∙◌, length, refl, sym, ap, append_assoc, arith}
use Rattle.std.proofs.lemmas.List.{append-nil}
use Rattle.std.specs.List.{range_with_len}
use Rattle.group_types.specs.Lists.{at}
use Rattle.group_run.specs.World.{World}
use Rattle.scenario_text.specs.Texts.{many_placed, places_text}
use Rattle.scenario_run.specs.Placing.{many_runs, runs_text}

-- the first d partitions' runs are written: what they and those of the partitions to come will have written, and how
-- many there are
pub record ArePlaced (bases : List ℕ) (w : World) (d : ℕ) (text : List ℕ) (count : ℕ) : Type 0 where
  pub written : text ++ runs_text bases w (range_with_len d (w.shape.k - d)) ≡ runs_text bases w (range_with_len 0 w.shape.k)
  pub counted : count + many_runs w (range_with_len d (w.shape.k - d)) ≡ many_runs w (range_with_len 0 w.shape.k)
  pub few : count ≤ length text

module _ (bases : List ℕ) (w : World) where
  pub placed-none : (text : List ℕ) → text ≡ [] → ArePlaced bases w 0 text 0
  placed-none text is =
      let all : w.shape.k - 0 ≡ w.shape.k = omega arith in
      record {
        written = rw (is, all) refl;
        counted = (let same = ap (λ (n : ℕ). many_runs w (range_with_len 0 n)) all in omega (arith, same));
        few = omega arith;
      }

  next-range : (d : ℕ) → d < w.shape.k → range_with_len d (w.shape.k - d) ≡ d ∷ range_with_len (d + 1) (w.shape.k - (d + 1))
  next-range d below = let many : w.shape.k - d ≡ suc (w.shape.k - (d + 1)) = omega (arith, below) in ap (range_with_len d) many

  pub placed-next : (d : ℕ) (text more : List ℕ) (count lines : ℕ) → d < w.shape.k → ArePlaced bases w d text count
      → more ≡ text ++ places_text d (at 0 bases d) (at [] w.places d)
      → lines ≡ many_placed (at [] w.places d) → length text + lines ≤ length more → ArePlaced bases w (d + 1) more (count + lines)
  placed-next d text more count lines below are gained many long =
      let was = are.written in
      let were = are.counted in
      let was_split = rw (next-range d below) at was in
      let were_split = rw (next-range d below) at were in
      let few = are.few in
      record {
        written = rw gained (append_assoc text (places_text d (at 0 bases d) (at [] w.places d))
            (runs_text bases w (range_with_len (d + 1) (w.shape.k - (d + 1)))) ∙ was_split);
        counted = omega (arith, were_split, many);
        few = omega (arith, few, long);
      }

  pub placed-all : (text : List ℕ) (count : ℕ) → ArePlaced bases w w.shape.k text count → text ≡ runs_text bases w (range_with_len 0 w.shape.k)
  placed-all text count are =
      let none : w.shape.k - w.shape.k ≡ 0 = omega arith in
      let was = are.written in
      let is = rw none at was in
      sym (append-nil text) ∙ is

  pub counted-all : (text : List ℕ) (count : ℕ) → ArePlaced bases w w.shape.k text count → count ≡ many_runs w (range_with_len 0 w.shape.k)
  counted-all text count are =
      let none : w.shape.k - w.shape.k ≡ 0 = omega arith in
      let was = are.counted in
      let is = rw none at was in
      omega (arith, is)
