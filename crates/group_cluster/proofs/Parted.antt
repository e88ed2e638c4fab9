-- Parts of logs that grow.
use Rattle.std.proofs.Common.{ℕ, zero, suc, ◌≡◌, ◌<◌, ◌≤◌, ◌+◌, List, [], ◌∷◌, ◌++◌, length, take, drop, inl, inr, refl}
use Rattle.std.proofs.Common.{sym, ap, subst, ◌∙◌, arith, Bool, true, false, ◌==◌, if◌then◌else◌}
use Rattle.std.specs.Prelude.{set, slice_index_or}
use Rattle.std.proofs.lemmas.Bool.{eqb-true}
use Rattle.std.proofs.Math.Seq.{drop-append_seam, take-length}
use Rattle.std.proofs.lemmas.List.{append-nil, append_assoc, length-append, take-append-le}
use Rattle.std.proofs.lemmas.List.Elements.{All-push}
use Rattle.group_types.specs.Dimensions.{Dimensions}
use Rattle.group_types.specs.Lists.{at, put}
use Rattle.group_types.proofs.Lists.{at-put, at-put-other, at_index, length-put, set_put}
use Rattle.group_calls.specs.declared.entry.Entry.{Entry}
use Rattle.group_calls.specs.declared.event.Event.{Event}
use Rattle.group_run.specs.World.{World, opening, step}
use Rattle.law_moves.proofs.Reading.{grown-is}
use Rattle.group_layout.specs.Cluster.{ClusterEntry, moved, tagged}
use Rattle.group_layout.proofs.Moves.{IsOrNot, is-or-not}
use Rattle.group_cluster.specs.Parts.{AreWithinLogs, IsWithinLog, groups_of, log_in, noted, part_in}
use Rattle.group_cluster.specs.declared.groups.Part.{Part}

-- the log of a group grows by what an event logs
pub log-grown : (w : World) (e : Event) → (step w e).world.log ≡ w.log ++ (step w e).turn.logged
log-grown w e = grown-is w.log (step w e).turn.logged

-- a part stays as the log of a group grows behind it
part-of-more : (from many : ℕ) (xs more : List Entry) → from + many ≤ length xs → take many (drop from (xs ++ more)) ≡ take many (drop from xs)
part-of-more zero many xs more reached = take-append-le many xs more (omega (arith, reached))
part-of-more (suc from) many [] more reached = absurd (omega (arith, reached))
part-of-more (suc from) many (x ∷ xs) more reached = part-of-more from many xs more (omega (arith, reached))

-- the part that is new
new-part : (xs more : List Entry) (many : ℕ) → many ≡ length more → take many (drop (length xs) (xs ++ more)) ≡ more
new-part xs more many is =
    ap (λ (n : ℕ). take n (drop (length xs) (xs ++ more))) is
    ∙ ap (take (length more)) (drop-append_seam xs more)
    ∙ take-length more

module _ (s : Dimensions) (ws : List World) (j : ℕ) (w : World) (more : List Entry) (low : j < length ws)
    (grows : w.log ≡ (at (opening s) ws j).log ++ more) where
  abbrev after : List World
  after = put (opening s) ws j w

  here : at (opening s) after j ≡ w
  here = at-put (opening s) (opening s) ws j w

  log-at : (i : ℕ) (p : Part) → p.group ≡ j → (at (opening s) after p.group).log ≡ (at (opening s) ws p.group).log ++ more
  log-at i p is =
      ap (λ (x : ℕ). (at (opening s) after x).log) is ∙ ap (λ (v : World). v.log) here ∙ grows
      ∙ ap (λ (x : ℕ). (at (opening s) ws x).log ++ more) (sym is)

  part-keeps : (p : Part) → IsWithinLog s ws p → part_in s after p ≡ part_in s ws p
  part-keeps p within = by (is-or-not p.group j) where
    by : IsOrNot p.group j → part_in s after p ≡ part_in s ws p
    by (inl (word, is)) =
        ap (λ (l : List Entry). tagged p.group (take p.many (drop p.from l))) (log-at 0 p is)
        ∙ ap (tagged p.group) (part-of-more p.from p.many (at (opening s) ws p.group).log more within.reached)
    by (inr (word, other)) = ap (λ (v : World). tagged p.group (take p.many (drop p.from v.log))) (at-put-other (opening s) ws j p.group w other)

  within-keeps : (p : Part) → IsWithinLog s ws p → IsWithinLog s after p
  within-keeps p within = by (is-or-not p.group j) where
    long : length after ≡ length ws
    long = length-put (opening s) ws j w low

    by : IsOrNot p.group j → IsWithinLog s after p
    by (inl (word, is)) =
        let grown : length (at (opening s) after p.group).log ≡ length (at (opening s) ws p.group).log + length more
        = ap length (log-at 0 p is) ∙ length-append (at (opening s) ws p.group).log more in
        record { group = (let g = within.group in omega (arith, g, long)); reached = (let r = within.reached in omega (arith, r, grown)) }
    by (inr (word, other)) =
        let same : length (at (opening s) after p.group).log ≡ length (at (opening s) ws p.group).log =
        ap (λ (v : World). length v.log) (at-put-other (opening s) ws j p.group w other) in
        record { group = (let g = within.group in omega (arith, g, long)); reached = (let r = within.reached in omega (arith, r, same)) }

  pub all-keep : (ps : List Part) → AreWithinLogs s ws ps → AreWithinLogs s after ps
  all-keep ps all = λ i d below. within-keeps _ (all i d below)

  pub log-keeps : (ps : List Part) → AreWithinLogs s ws ps → log_in s after ps ≡ log_in s ws ps
  log-keeps [] all = refl
  log-keeps (p ∷ ps) all =
      ap (λ (l : List ClusterEntry). l ++ log_in s after ps) (part-keeps p (all 0 p (omega arith)))
      ∙ ap (λ (l : List ClusterEntry). part_in s ws p ++ l) (log-keeps ps (λ i d below. all (suc i) d (omega (arith, below))))

  -- with the part that is new
  log-behind : (ps : List Part) (p : Part) → log_in s after (ps ++ p ∷ []) ≡ log_in s after ps ++ part_in s after p
  log-behind [] p = append-nil (part_in s after p)
  log-behind (x ∷ ps) p =
      ap (λ (l : List ClusterEntry). part_in s after x ++ l) (log-behind ps p)
      ∙ sym (append_assoc (part_in s after x) (log_in s after ps) (part_in s after p))

  module _ (p : Part) (own : p.group ≡ j) (from : p.from ≡ length (at (opening s) ws j).log) (many : p.many ≡ length more) where
    is-new : part_in s after p ≡ tagged j more
    is-new =
        ap (λ (x : ℕ). tagged x (take p.many (drop p.from (at (opening s) after x).log))) own
        ∙ ap (λ (v : World). tagged j (take p.many (drop p.from v.log))) here
        ∙ ap (λ (l : List Entry). tagged j (take p.many (drop p.from l))) grows
        ∙ ap (λ (x : ℕ). tagged j (take p.many (drop x ((at (opening s) ws j).log ++ more)))) from
        ∙ ap (tagged j) (new-part (at (opening s) ws j).log more p.many many)

    pub log-pushed : (ps : List Part) → AreWithinLogs s ws ps → log_in s after (ps ++ p ∷ []) ≡ log_in s ws ps ++ tagged j more
    log-pushed ps all =
        log-behind ps p ∙ ap (λ (l : List ClusterEntry). l ++ part_in s after p) (log-keeps ps all)
        ∙ ap (λ (l : List ClusterEntry). log_in s ws ps ++ l) is-new

    is-within : IsWithinLog s after p
    is-within =
        let long : length after ≡ length ws = length-put (opening s) ws j w low in
        let grown : length (at (opening s) after p.group).log ≡ length (at (opening s) ws j).log + length more
        = ap (λ (x : ℕ). length (at (opening s) after x).log) own ∙ ap (λ (v : World). length v.log) here
        ∙ ap length grows ∙ length-append (at (opening s) ws j).log more in
        record { group = omega (arith, low, long, own); reached = omega (arith, grown, from, many) }

    pub all-pushed : (ps : List Part) → AreWithinLogs s ws ps → AreWithinLogs s after (ps ++ p ∷ [])
    all-pushed ps all = All-push (IsWithinLog s after) ps p (all-keep ps all) is-within

none-of : {X : Type 0} (xs : List X) → length xs ≡ 0 → xs ≡ []
none-of [] none = refl
none-of (x ∷ xs) none = absurd (omega (arith, none))

module _ (s : Dimensions) (ws : List World) (ps : List Part) (j : ℕ) (e : Event) (w : World) (p : Part) (low : j < length ws) (all : AreWithinLogs s ws ps)
    (made : w ≡ (step (at (opening s) ws j) e).world) (own : p.group ≡ j) (from : p.from ≡ length (at (opening s) ws j).log)
    (many : p.many ≡ length (step (at (opening s) ws j) e).turn.logged) where
  abbrev logs : List Entry
  logs = (step (at (opening s) ws j) e).turn.logged

  grows : w.log ≡ (at (opening s) ws j).log ++ logs
  grows = ap (λ (v : World). v.log) made ∙ log-grown (at (opening s) ws j) e

  log-noted : log_in s (put (opening s) ws j w) (noted ps p) ≡ log_in s ws ps ++ tagged j logs
  log-noted = by (p.many == 0) refl where
    by : (b : Bool) → (p.many == 0) ≡ b → log_in s (put (opening s) ws j w) (if b then ps else (ps ++ p ∷ [])) ≡ log_in s ws ps ++ tagged j logs
    by true word =
        let none : logs ≡ [] = none-of logs (sym many ∙ eqb-true p.many 0 word) in
        log-keeps s ws j w logs low grows ps all ∙ sym (append-nil (log_in s ws ps)) ∙ ap (λ (es : List Entry). log_in s ws ps ++ tagged j es) (sym none)
    by false word = log-pushed s ws j w logs low grows p own from many ps all

  all-noted : AreWithinLogs s (put (opening s) ws j w) (noted ps p)
  all-noted = by (p.many == 0) where
    by : (b : Bool) → AreWithinLogs s (put (opening s) ws j w) (if b then ps else (ps ++ p ∷ []))
    by true = all-keep s ws j w logs low grows ps all
    by false = all-pushed s ws j w logs low grows p own from many ps all

  pub stepped-within : AreWithinLogs s (set ws j w) (noted ps p)
  stepped-within = subst (λ (vs : List World). AreWithinLogs s vs (noted ps p)) (sym (set_put (opening s) ws j w low)) all-noted

  pub stepped : groups_of s (set ws j w) (noted ps p) ≡ moved (groups_of s ws ps) (record { group = j; event = e })
  stepped = both (set ws j w) (set_put (opening s) ws j w low) where
    both : (vs : List World) → vs ≡ put (opening s) ws j w → groups_of s vs (noted ps p) ≡ moved (groups_of s ws ps) (record { group = j; event = e })
    both vs is =
        ap (λ (xs : List World). groups_of s xs (noted ps p)) is
        ∙ (λ i. record { shape = s; worlds = put (opening s) ws j (made i); log = log-noted i })

-- the world that is read
pub read-at : (s : Dimensions) (ws : List World) (j : ℕ) (w : World) → j < length ws → w ≡ slice_index_or ws j w → w ≡ at (opening s) ws j
read-at s ws j w low read = read ∙ sym (at_index (opening s) w ws j low)
