-- Where an entry of the log stands among its parts.
use Rattle.std.proofs.Common.{ℕ, zero, suc, ◌≡◌, ◌<◌, ◌≤◌, ◌+◌, ◌-◌, List, [], ◌∷◌, ◌++◌, length, take, drop, Some, refl, sym, ap, subst, ◌∙◌, arith}
use Rattle.std.specs.Prelude.{slice_get, slice_index_or}
use Rattle.group_types.specs.Dimensions.{Dimensions}
use Rattle.group_types.specs.Lists.{at}
use Rattle.group_calls.specs.declared.entry.Entry.{Entry}
use Rattle.group_run.specs.World.{World, opening}
use Rattle.group_layout.specs.Cluster.{ClusterEntry, tagged}
use Rattle.group_cluster.specs.Parts.{AreWithinLogs, IsWithinLog, log_in, part_in}
use Rattle.group_cluster.specs.declared.groups.Part.{Part}
use Rattle.group_cluster.proofs.Parted.{read-at}

-- within a part
in-tagged : (j : ℕ) (from many left : ℕ) (log : List Entry) (rest : List ClusterEntry) (e : Entry) → left < many → from + many ≤ length log
    → slice_get (tagged j (take many (drop from log)) ++ rest) left ≡ Some (j, slice_index_or log (from + left) e)
in-tagged j zero zero left log rest e low reached = absurd (omega (arith, low))
in-tagged j zero (suc many) left [] rest e low reached = absurd (omega (arith, reached))
in-tagged j zero (suc many) zero (x ∷ log) rest e low reached = refl
in-tagged j zero (suc many) (suc left) (x ∷ log) rest e low reached =
    in-tagged j zero many left log rest e (omega (arith, low)) (omega (arith, reached))
    ∙ (let same : suc (0 + left) ≡ 0 + suc left = omega arith in ap (λ (y : ℕ). Some (j, slice_index_or (x ∷ log) y e)) same)
in-tagged j (suc from) many left [] rest e low reached = absurd (omega (arith, low, reached))
in-tagged j (suc from) many left (x ∷ log) rest e low reached =
    in-tagged j from many left log rest e low (omega (arith, reached))
    ∙ (let same : suc (from + left) ≡ suc from + left = omega arith in ap (λ (y : ℕ). Some (j, slice_index_or (x ∷ log) y e)) same)

-- behind it
behind-tagged : (j : ℕ) (from many left : ℕ) (log : List Entry) (rest : List ClusterEntry) → many ≤ left → from + many ≤ length log
    → slice_get (tagged j (take many (drop from log)) ++ rest) left ≡ slice_get rest (left - many)
behind-tagged j zero zero left log rest le reached = let same : left ≡ left - 0 = omega arith in ap (slice_get rest) same
behind-tagged j zero (suc many) left [] rest le reached = absurd (omega (arith, reached))
behind-tagged j zero (suc many) zero (x ∷ log) rest le reached = absurd (omega (arith, le))
behind-tagged j zero (suc many) (suc left) (x ∷ log) rest le reached =
    behind-tagged j zero many left log rest (omega (arith, le)) (omega (arith, reached))
    ∙ (let same : left - many ≡ suc left - suc many = omega arith in ap (slice_get rest) same)
behind-tagged j (suc from) zero left [] rest le reached = absurd (omega (arith, reached))
behind-tagged j (suc from) (suc many) left [] rest le reached = absurd (omega (arith, reached))
behind-tagged j (suc from) many left (x ∷ log) rest le reached = behind-tagged j from many left log rest le (omega (arith, reached))

-- the parts from one on
next-drop : (ps : List Part) (i : ℕ) (d : Part) → i < length ps → drop i ps ≡ slice_index_or ps i d ∷ drop (i + 1) ps
next-drop [] i d low = absurd (omega (arith, low))
next-drop (x ∷ ps) zero d low = refl
next-drop (x ∷ ps) (suc i) d low =
    next-drop ps i d (omega (arith, low)) ∙ (let same : suc (i + 1) ≡ suc i + 1 = omega arith in ap (λ (y : ℕ). slice_index_or ps i d ∷ drop y (x ∷ ps)) same)

module _ (s : Dimensions) (ws : List World) (ps : List Part) (all : AreWithinLogs s ws ps) (place i left : ℕ) (d : Part) (low : i < length ps)
    (was : slice_get (log_in s ws ps) place ≡ slice_get (log_in s ws (drop i ps)) left) where
  abbrev p : Part
  p = slice_index_or ps i d

  parts : slice_get (log_in s ws (drop i ps)) left ≡ slice_get (part_in s ws p ++ log_in s ws (drop (i + 1) ps)) left
  parts = ap (λ (qs : List Part). slice_get (log_in s ws qs) left) (next-drop ps i d low)

  -- the part's group, as it is read
  pub reached : (w : World) → w ≡ slice_index_or ws p.group w → p.from + p.many ≤ length w.log
  reached w read =
      let within : IsWithinLog s ws p = all i d low in
      subst (λ (v : World). p.from + p.many ≤ length v.log) (sym (read-at s ws p.group w within.group read)) within.reached

  pub found : (w : World) (e : Entry) → w ≡ slice_index_or ws p.group w → e ≡ slice_index_or w.log (p.from + left) e
      → left < p.many → slice_get (log_in s ws ps) place ≡ Some (p.group, e)
  found w e read here few =
      let within : IsWithinLog s ws p = all i d low in
      was ∙ parts ∙ in-tagged p.group p.from p.many left (at (opening s) ws p.group).log (log_in s ws (drop (i + 1) ps)) e few within.reached
      ∙ ap (λ (v : World). Some (p.group, slice_index_or v.log (p.from + left) e)) (sym (read-at s ws p.group w within.group read))
      ∙ ap (λ (x : Entry). Some (p.group, x)) (sym here)

  pub left-behind : p.many ≤ left → slice_get (log_in s ws ps) place ≡ slice_get (log_in s ws (drop (i + 1) ps)) (left - p.many)
  left-behind le =
      let within : IsWithinLog s ws p = all i d low in
      was ∙ parts ∙ behind-tagged p.group p.from p.many left (at (opening s) ws p.group).log (log_in s ws (drop (i + 1) ps)) le within.reached
