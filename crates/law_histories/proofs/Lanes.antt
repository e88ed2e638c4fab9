-- What messages make of what is seen of a partition: which are dropped, and that the rank only rises.
use Rattle.std.proofs.Common.{ℕ, ◌≡◌, ◌≢◌, ◌<◌, ◌≤◌, ◌+◌, ◌==◌, nat_le, Bool, true, false, ◌&&◌, List, [], ◌∷◌, ◌++◌}
use Rattle.std.proofs.Common.{length, take, ◌⊎◌, inl, inr, refl, sym, ap, subst, ◌∙◌, arith}
use Rattle.std.proofs.lemmas.Grind.{common_steps}
use Rattle.std.proofs.lemmas.Bool.{cases_eq}
use Rattle.std.proofs.lemmas.List.{length-append, take-append-le, take-take, take_all}
use Rattle.group_types.specs.Each.{Each}
use Rattle.group_message.specs.declared.message.Message.{Message}
use Rattle.group_message.specs.declared.message.Message.TheVariants as tells
use Rattle.group_message.specs.declared.update.Update.{Update}
use Rattle.law_histories.proofs.HistoryWords.{RankRises}
use Rattle.law_histories.proofs.LaneWords.{AdoptGoes, Fine, Goes, Prolongs, Seen, appended, is_live, next, raised, replaced}
use Rattle.law_histories.proofs.Folds.{run, Along}

-- what is said of a message of a head for partition d, by its rank
abbrev pub Ranked : ℕ → (ℕ → Type 0) → Message → Type 0
Ranked d P (tells.Update r e u stable) = e.0 ≡ d → P r.0
Ranked d P (tells.Adopt r e base list) = e.0 ≡ d → P r.0
Ranked d P (tells.Ack r e n) = Unit {0}
Ranked d P (tells.Stable r e n) = e.0 ≡ d → P r.0
Ranked d P (tells.ReadBlock session block rows) = Unit {0}
Ranked d P (tells.Block session bytes n) = Unit {0}
Ranked d P (tells.Mark session r block e n) = e.0 ≡ d → P r.0
Ranked d P (tells.Row session bytes stamp) = Unit {0}
Ranked d P (tells.Cease upto) = Unit {0}
Ranked d P (tells.Notice dead) = Unit {0}

pub ranked-weaker : (d : ℕ) (P Q : ℕ → Type 0) → ((r : ℕ) → P r → Q r) → (m : Message) → Ranked d P m → Ranked d Q m
ranked-weaker d P Q turn (tells.Update r e u stable) ranked = λ here. turn r.0 (ranked here)
ranked-weaker d P Q turn (tells.Adopt r e base list) ranked = λ here. turn r.0 (ranked here)
ranked-weaker d P Q turn (tells.Ack r e n) ranked = tt
ranked-weaker d P Q turn (tells.Stable r e n) ranked = λ here. turn r.0 (ranked here)
ranked-weaker d P Q turn (tells.ReadBlock session block rows) ranked = tt
ranked-weaker d P Q turn (tells.Block session bytes n) ranked = tt
ranked-weaker d P Q turn (tells.Mark session r block e n) ranked = λ here. turn r.0 (ranked here)
ranked-weaker d P Q turn (tells.Row session bytes stamp) ranked = tt
ranked-weaker d P Q turn (tells.Cease upto) ranked = tt
ranked-weaker d P Q turn (tells.Notice dead) ranked = tt

-- a message of the partition, of no lower rank, is taken
pub live-parts : (d : ℕ) (seen : Seen) (e r : ℕ) → is_live d seen e r ≡ true → (e ≡ d) × (seen.rank ≤ r)
live-parts d seen e r live = by (e == d) (nat_le seen.rank r) refl refl live where
  by : (a b : Bool) → (e == d) ≡ a → nat_le seen.rank r ≡ b → (a && b) ≡ true → (e ≡ d) × (seen.rank ≤ r)
  by true true same low both = (grind (arith, common_steps), grind (arith, common_steps))
  by true false same low both = cc both
  by false b same low both = cc both

pub live-is : (d : ℕ) (seen : Seen) (e r : ℕ) → e ≡ d → seen.rank ≤ r → is_live d seen e r ≡ true
live-is d seen e r same low =
    let here : (e == d) ≡ true = grind (arith, common_steps) in
    let above : nat_le seen.rank r ≡ true = grind (arith, common_steps) in
    ap (λ (b : Bool). b && nat_le seen.rank r) here ∙ above

-- one that is stale, or of another partition, isn't
pub live-not : (d : ℕ) (seen : Seen) (e r : ℕ) → (e ≡ d → r < seen.rank) → is_live d seen e r ≡ false
live-not d seen e r stale = by (is_live d seen e r) refl where
  by : (b : Bool) → is_live d seen e r ≡ b → is_live d seen e r ≡ false
  by false is = is
  by true is = let parts = live-parts d seen e r is in let low = stale parts.0 in let high = parts.1 in absurd (omega (arith, low, high))

-- what is stale changes nothing and owes nothing
abbrev pub Stale : ℕ → ℕ → Message → Type 0
Stale d rank m = Ranked d (λ r. r < rank) m

pub stale-next : (d : ℕ) (seen : Seen) (m : Message) → Stale d seen.rank m → next d seen m ≡ seen
stale-next d seen (tells.Update r e u stable) stale = ap (λ (b : Bool). appended b u stable seen) (live-not d seen e.0 r.0 stale)
stale-next d seen (tells.Adopt r e base list) stale = ap (λ (b : Bool). replaced b r.0 base list seen) (live-not d seen e.0 r.0 stale)
stale-next d seen (tells.Ack r e n) stale = refl
stale-next d seen (tells.Stable r e n) stale = ap (λ (b : Bool). raised b n seen) (live-not d seen e.0 r.0 stale)
stale-next d seen (tells.ReadBlock session block rows) stale = refl
stale-next d seen (tells.Block session bytes n) stale = refl
stale-next d seen (tells.Mark session r block e n) stale = ap (λ (b : Bool). raised b n seen) (live-not d seen e.0 r.0 stale)
stale-next d seen (tells.Row session bytes stamp) stale = refl
stale-next d seen (tells.Cease upto) stale = refl
stale-next d seen (tells.Notice dead) stale = refl

pub stale-run : (d : ℕ) (seen : Seen) (ms : List Message) → Each (Stale d seen.rank) ms → run (next d) seen ms ≡ seen
stale-run d seen [] stale = refl
stale-run d seen (m ∷ ms) stale = ap (λ (y : Seen). run (next d) y ms) (stale-next d seen m stale.0) ∙ stale-run d seen ms stale.1

module _ (F : ℕ → ℕ → List Update → Type 0) (d : ℕ) where
  pub stale-goes : (settled : List Update) (seen : Seen) (m : Message) → Stale d seen.rank m → Goes F d settled seen m
  stale-goes settled seen (tells.Update r e u stable) stale = λ live. cc (live, live-not d seen e.0 r.0 stale)
  stale-goes settled seen (tells.Adopt r e base list) stale = λ live. cc (live, live-not d seen e.0 r.0 stale)
  stale-goes settled seen (tells.Ack r e n) stale = tt
  stale-goes settled seen (tells.Stable r e n) stale = λ live. cc (live, live-not d seen e.0 r.0 stale)
  stale-goes settled seen (tells.ReadBlock session block rows) stale = tt
  stale-goes settled seen (tells.Block session bytes n) stale = tt
  stale-goes settled seen (tells.Mark session r block e n) stale = λ live. cc (live, live-not d seen e.0 r.0 stale)
  stale-goes settled seen (tells.Row session bytes stamp) stale = tt
  stale-goes settled seen (tells.Cease upto) stale = tt
  stale-goes settled seen (tells.Notice dead) stale = tt

  pub stale-along : (settled : List Update) (seen : Seen) (ms : List Message) → Each (Stale d seen.rank) ms → Along (next d) (Goes F d settled) seen ms
  stale-along settled seen [] stale = tt
  stale-along settled seen (m ∷ ms) stale = (
    stale-goes settled seen m stale.0,
    subst (λ (y : Seen). Along (next d) (Goes F d settled) y ms)
        (sym (stale-next d seen m stale.0)) (stale-along settled seen ms stale.1),
  )

-- the rank only rises
pub rank-rises : (d : ℕ) (seen : Seen) (m : Message) → seen.rank ≤ (next d seen m).rank
rank-rises d seen (tells.Update r e u stable) = by (is_live d seen e.0 r.0) where
  by : (b : Bool) → seen.rank ≤ (appended b u stable seen).rank
  by true = omega arith
  by false = omega arith
rank-rises d seen (tells.Adopt r e base list) = by (is_live d seen e.0 r.0) refl where
  by : (b : Bool) → is_live d seen e.0 r.0 ≡ b → seen.rank ≤ (replaced b r.0 base list seen).rank
  by true live = (live-parts d seen e.0 r.0 live).1
  by false live = omega arith
rank-rises d seen (tells.Ack r e n) = omega arith
rank-rises d seen (tells.Stable r e n) = by (is_live d seen e.0 r.0) where
  by : (b : Bool) → seen.rank ≤ (raised b n seen).rank
  by true = omega arith
  by false = omega arith
rank-rises d seen (tells.ReadBlock session block rows) = omega arith
rank-rises d seen (tells.Block session bytes n) = omega arith
rank-rises d seen (tells.Mark session r block e n) = by (is_live d seen e.0 r.0) where
  by : (b : Bool) → seen.rank ≤ (raised b n seen).rank
  by true = omega arith
  by false = omega arith
rank-rises d seen (tells.Row session bytes stamp) = omega arith
rank-rises d seen (tells.Cease upto) = omega arith
rank-rises d seen (tells.Notice dead) = omega arith

pub run-rises : RankRises
run-rises d seen [] = omega arith
run-rises d seen (m ∷ ms) = let first = rank-rises d seen m in let rest = run-rises d (next d seen m) ms in omega (arith, first, rest)

pub begins-refl : (us : List Update) → Prolongs us us
begins-refl us = record { reaches = omega arith; front = take_all (length us) us (omega arith) }

pub begins-append : (us vs : List Update) → Prolongs us (us ++ vs)
begins-append us vs = record {
  reaches = let long = length-append us vs in omega (arith, long);
  front = take-append-le (length us) us vs (omega arith) ∙ take_all (length us) us (omega arith);
}

pub begins-trans : (us vs ws : List Update) → Prolongs us vs → Prolongs vs ws → Prolongs us ws
begins-trans us vs ws a b = record {
  reaches = let one = a.reaches in let two = b.reaches in omega (arith, one, two);
  front = sym (take-take (length us) (length vs) ws a.reaches) ∙ ap (take (length us)) b.front ∙ a.front;
}

module _ (F : ℕ → ℕ → List Update → Type 0) (d : ℕ) (settled : List Update) where
  -- a message that leaves the rank only prolongs what is seen
  pub same-rank-step : (seen : Seen) (m : Message) → Goes F d settled seen m → (next d seen m).rank ≡ seen.rank → Prolongs seen.history (next d seen m).history
  same-rank-step seen (tells.Update r e u stable) goes same = by (is_live d seen e.0 r.0) where
    by : (b : Bool) → Prolongs seen.history (appended b u stable seen).history
    by true = begins-append seen.history (u ∷ [])
    by false = begins-refl seen.history
  same-rank-step seen (tells.Adopt r e base list) goes same = by (is_live d seen e.0 r.0) refl same where
    by : (b : Bool) → is_live d seen e.0 r.0 ≡ b → (replaced b r.0 base list seen).rank ≡ seen.rank
        → Prolongs seen.history (replaced b r.0 base list seen).history
    by true live is = let above = (goes live).rank in absurd (omega (arith, above, is))
    by false live is = begins-refl seen.history
  same-rank-step seen (tells.Ack r e n) goes same = begins-refl seen.history
  same-rank-step seen (tells.Stable r e n) goes same = by (is_live d seen e.0 r.0) where
    by : (b : Bool) → Prolongs seen.history (raised b n seen).history
    by true = begins-refl seen.history
    by false = begins-refl seen.history
  same-rank-step seen (tells.ReadBlock session block rows) goes same = begins-refl seen.history
  same-rank-step seen (tells.Block session bytes n) goes same = begins-refl seen.history
  same-rank-step seen (tells.Mark session r block e n) goes same = by (is_live d seen e.0 r.0) where
    by : (b : Bool) → Prolongs seen.history (raised b n seen).history
    by true = begins-refl seen.history
    by false = begins-refl seen.history
  same-rank-step seen (tells.Row session bytes stamp) goes same = begins-refl seen.history
  same-rank-step seen (tells.Cease upto) goes same = begins-refl seen.history
  same-rank-step seen (tells.Notice dead) goes same = begins-refl seen.history

  -- so does a link that leaves it
  pub same-rank-begins : (seen : Seen) (ms : List Message) → Along (next d) (Goes F d settled) seen ms
      → (run (next d) seen ms).rank ≡ seen.rank → Prolongs seen.history (run (next d) seen ms).history
  same-rank-begins seen [] goes same = begins-refl seen.history
  same-rank-begins seen (m ∷ ms) goes same =
      let first = rank-rises d seen m in
      let rest = run-rises d (next d seen m) ms in
      let here : (next d seen m).rank ≡ seen.rank = omega (arith, first, rest, same) in
      begins-trans seen.history (next d seen m).history (run (next d) seen (m ∷ ms)).history
      (same-rank-step seen m goes.0 here) (same-rank-begins (next d seen m) ms goes.1 (same ∙ sym here))

  -- where more is settled, what leaves the rank still goes
  grows-step : (more : List Update) → length settled ≤ length more → (seen : Seen) (m : Message)
      → (next d seen m).rank ≡ seen.rank → Goes F d settled seen m → Goes F d more seen m
  grows-step more longer seen (tells.Update r e u stable) same goes =
      λ live. let old = goes live in record {
        rank = old.rank;
        stable_settled = let low = old.stable_settled in
            omega (arith, low, longer);
        few = old.few;
        fine = old.fine;
      }
  grows-step more longer seen (tells.Adopt r e base list) same goes = λ live.
      let above = (goes live).rank in
      let is : r.0 ≡ seen.rank = sym (ap (λ (b : Bool). (replaced b r.0 base list seen).rank) live) ∙ same in
      absurd (omega (arith, above, is))
  grows-step more longer seen (tells.Ack r e n) same goes = tt
  grows-step more longer seen (tells.Stable r e n) same goes = λ live. let old = goes live in
      record { rank = old.rank; number_settled = let low = old.number_settled in omega (arith, low, longer) }
  grows-step more longer seen (tells.ReadBlock session block rows) same goes = tt
  grows-step more longer seen (tells.Block session bytes n) same goes = tt
  grows-step more longer seen (tells.Mark session r block e n) same goes =
      λ live. let old = goes live in record { rank = old.rank; number_settled = let low = old.number_settled in omega (arith, low, longer); above = old.above }
  grows-step more longer seen (tells.Row session bytes stamp) same goes = tt
  grows-step more longer seen (tells.Cease upto) same goes = tt
  grows-step more longer seen (tells.Notice dead) same goes = tt

  pub along-grows : (more : List Update) → length settled ≤ length more → (seen : Seen) (ms : List Message) → (run (next d) seen ms).rank ≡ seen.rank
      → Along (next d) (Goes F d settled) seen ms → Along (next d) (Goes F d more) seen ms
  along-grows more longer seen [] same goes = tt
  along-grows more longer seen (m ∷ ms) same goes =
      let first = rank-rises d seen m in
      let rest = run-rises d (next d seen m) ms in
      let here : (next d seen m).rank ≡ seen.rank = omega (arith, first, rest, same) in
      (grows-step more longer seen m here goes.0, along-grows more longer (next d seen m) ms (same ∙ sym here) goes.1)

  -- a front of what is settled is the same in all that prolongs it
  pub front-same : (base : ℕ) (us vs : List Update) → base ≤ length settled → Prolongs settled us → Prolongs settled vs → take base us ≡ take base vs
  front-same base us vs low a b =
      sym (take-take base (length settled) us low) ∙ ap (take base) (a.front ∙ sym b.front) ∙ take-take base (length settled) vs low

  -- where less is applied all goes that goes where more is
  pub record Lower (a b : Seen) : Type 0 where
    pub rank : a.rank ≡ b.rank
    pub history : a.history ≡ b.history
    pub number : a.number ≤ b.number

  same-live : (a b : Seen) → Lower a b → (e r : ℕ) → is_live d a e r ≡ is_live d b e r
  same-live a b lower e r = ap (λ (k : ℕ). (e == d) && nat_le k r) lower.rank

  lower-raised : (t : Bool) (a b : Seen) (n : ℕ) → Lower a b → Lower (raised t n a) (raised t n b)
  lower-raised true a b n lower = record { rank = lower.rank; history = lower.history; number = let low = lower.number in omega (arith, low) }
  lower-raised false a b n lower = lower

  lower-appended : (t : Bool) (a b : Seen) (u : Update) (n : ℕ) → Lower a b → Lower (appended t u n a) (appended t u n b)
  lower-appended true a b u n lower =
      record {
        rank = lower.rank;
        history = ap (λ (us : List Update). us ++ u ∷ []) lower.history;
        number = let low = lower.number in omega (arith, low);
      }
  lower-appended false a b u n lower = lower

  lower-replaced : (t : Bool) (a b : Seen) (r base : ℕ) (list : List Update) → Lower a b → Lower (replaced t r base list a) (replaced t r base list b)
  lower-replaced true a b r base list lower =
      record {
        rank = refl;
        history = ap (λ (us : List Update). take base us ++ list) lower.history;
        number = omega arith;
      }
  lower-replaced false a b r base list lower = lower

  lower-next : (a b : Seen) (m : Message) → Lower a b → Lower (next d a m) (next d b m)
  lower-next a b (tells.Update r e u stable) lower =
      subst (λ (t : Bool). Lower (appended t u stable a) (appended (is_live d b e.0 r.0) u stable b))
      (sym (same-live a b lower e.0 r.0)) (lower-appended (is_live d b e.0 r.0) a b u stable lower)
  lower-next a b (tells.Adopt r e base list) lower =
      subst (λ (t : Bool). Lower (replaced t r.0 base list a) (replaced (is_live d b e.0 r.0) r.0 base list b)) (sym (same-live a b lower e.0 r.0))
      (lower-replaced (is_live d b e.0 r.0) a b r.0 base list lower)
  lower-next a b (tells.Stable r e n) lower =
      subst (λ (t : Bool). Lower (raised t n a) (raised (is_live d b e.0 r.0) n b)) (sym (same-live a b lower e.0 r.0))
      (lower-raised (is_live d b e.0 r.0) a b n lower)
  lower-next a b (tells.Mark session r block e n) lower =
      subst (λ (t : Bool). Lower (raised t n a) (raised (is_live d b e.0 r.0) n b)) (sym (same-live a b lower e.0 r.0))
      (lower-raised (is_live d b e.0 r.0) a b n lower)
  lower-next a b (tells.Ack r e n) lower = lower
  lower-next a b (tells.ReadBlock session block rows) lower = lower
  lower-next a b (tells.Block session bytes n) lower = lower
  lower-next a b (tells.Row session bytes stamp) lower = lower
  lower-next a b (tells.Cease upto) lower = lower
  lower-next a b (tells.Notice dead) lower = lower

  pub lower-run : (a b : Seen) (ms : List Message) → Lower a b → Lower (run (next d) a ms) (run (next d) b ms)
  lower-run a b [] lower = lower
  lower-run a b (m ∷ ms) lower = lower-run (next d a m) (next d b m) ms (lower-next a b m lower)

  lower-goes : (a b : Seen) (m : Message) → Lower a b → Goes F d settled b m → Goes F d settled a m
  lower-goes a b (tells.Update r e u stable) lower goes = λ live. let old = goes (sym (same-live a b lower e.0 r.0) ∙ live) in
      record {
        rank = old.rank ∙ sym lower.rank;
        stable_settled = old.stable_settled;
        few = old.few;
        fine = subst (λ (us : List Update). Fine F d stable (us ++ u ∷ [])) (sym lower.history) old.fine;
      }
  lower-goes a b (tells.Adopt r e base list) lower goes = λ live. let old = goes (sym (same-live a b lower e.0 r.0) ∙ live) in record {
    rank = let low = old.rank in let same = lower.rank in omega (arith, low, same);
    base_settled = old.base_settled;
    prolongs = subst (λ (us : List Update). Prolongs settled (take base us ++ list)) (sym lower.history) old.prolongs;
    few = old.few;
    fine = subst (λ (us : List Update). Fine F d base (take base us ++ list)) (sym lower.history) old.fine;
  }
  lower-goes a b (tells.Stable r e n) lower goes = λ live. let old = goes (sym (same-live a b lower e.0 r.0) ∙ live) in
      record { rank = old.rank ∙ sym lower.rank; number_settled = old.number_settled }
  lower-goes a b (tells.Mark session r block e n) lower goes =
      λ live. let old = goes
      (sym (same-live a b lower e.0 r.0) ∙ live) in
      record {
        rank = old.rank ∙ sym lower.rank;
        number_settled = old.number_settled;
        above = let low = lower.number
            in let most = old.above in omega (arith, low, most);
      }
  lower-goes a b (tells.Ack r e n) lower goes = tt
  lower-goes a b (tells.ReadBlock session block rows) lower goes = tt
  lower-goes a b (tells.Block session bytes n) lower goes = tt
  lower-goes a b (tells.Row session bytes stamp) lower goes = tt
  lower-goes a b (tells.Cease upto) lower goes = tt
  lower-goes a b (tells.Notice dead) lower goes = tt

  pub along-lower : (a b : Seen) (ms : List Message) → Lower a b → Along (next d) (Goes F d settled) b ms → Along (next d) (Goes F d settled) a ms
  along-lower a b [] lower goes = tt
  along-lower a b (m ∷ ms) lower goes = (lower-goes a b m lower goes.0, along-lower (next d a m) (next d b m) ms (lower-next a b m lower) goes.1)

  -- what another head's messages make of a replica doesn't depend on what lower reigns left there
  pub record Resyncs (a b : Seen) (ms : List Message) : Type 0 where
    pub goes : Along (next d) (Goes F d settled) b ms
    pub meets : (run (next d) a ms ≡ run (next d) b ms) ⊎ (run (next d) a ms ≡ a)

  -- one message of it changes neither, or makes both the same
  record Passes (a b : Seen) (m : Message) : Type 0 where
    goes : Goes F d settled b m
    a_stays : next d a m ≡ a
    b_stays : next d b m ≡ b

  record Joins (a b : Seen) (m : Message) : Type 0 where
    goes : Goes F d settled b m
    same : next d a m ≡ next d b m

  module _ (a b : Seen) (higher : a.rank ≤ b.rank) (pa : Prolongs settled a.history) (pb : Prolongs settled b.history) where
    abbrev Above : Message → Type 0
    Above m = Ranked d (λ r. b.rank < r) m

    passes : (m : Message) → Stale d a.rank m → Stale d b.rank m → Passes a b m
    passes m lower low = record { goes = stale-goes F d settled b m low; a_stays = stale-next d a m lower; b_stays = stale-next d b m low }

    joins : (r e base : ℕ) (list : List Update) (goes : AdoptGoes F d settled a r base list) → b.rank < r → is_live d a e r ≡ true → is_live d b e r ≡ true
        → (AdoptGoes F d settled b r base list) × (replaced (is_live d a e r) r base list a ≡ replaced (is_live d b e r) r base list b)
    joins r e base list goes high live live_b = (
      record {
        rank = high;
        base_settled = goes.base_settled;
        prolongs = subst (λ (us : List Update). Prolongs settled (us ++ list)) front goes.prolongs;
        few = goes.few;
        fine = subst (λ (us : List Update). Fine F d base (us ++ list)) front goes.fine;
      },
      ap (λ (t : Bool). replaced t r base list a) live ∙ ap (λ (us : List Update). record { rank = r; history = us ++ list; number = base + length list }) front
          ∙ sym (ap (λ (t : Bool). replaced t r base list b) live_b),
    ) where
      front : take base a.history ≡ take base b.history
      front = front-same base a.history b.history goes.base_settled pa pb

    -- by whether it is of the partition
    by-part : (m : Message) (e r : ℕ) → (e ≡ d) ⊎ (e ≢ d) → (e ≢ d → Passes a b m)
        → (e ≡ d → is_live d a e r ≡ true → Joins a b m) → (e ≡ d → b.rank < r) → Passes a b m ⊎ Joins a b m
    by-part m e r (inr other) off on above = inl (off other)
    by-part m e r (inl here) off on above = let high = above here in inr (on here (live-is d a e r here (omega (arith, high, higher))))

    resync-step : (m : Message) → Above m → Goes F d settled a m → Passes a b m ⊎ Joins a b m
    resync-step (tells.Update r e u stable) above goes = by-part (tells.Update r e u stable) e.0 r.0 (cases_eq e.0 d)
        (λ other. passes (tells.Update r e u stable) (λ here. absurd (other here)) (λ here. absurd (other here)))
        (λ here live. let high = above here in let same = (goes live).rank in absurd (omega (arith, higher, high, same))) above
    resync-step (tells.Stable r e n) above goes = by-part (tells.Stable r e n) e.0 r.0 (cases_eq e.0 d)
        (λ other. passes (tells.Stable r e n) (λ here. absurd (other here)) (λ here. absurd (other here)))
        (λ here live. let high = above here in let same = (goes live).rank in absurd (omega (arith, higher, high, same))) above
    resync-step (tells.Mark session r block e n) above goes = by-part (tells.Mark session r block e n) e.0 r.0 (cases_eq e.0 d)
        (λ other. passes (tells.Mark session r block e n) (λ here. absurd (other here)) (λ here. absurd (other here)))
        (λ here live. let high = above here in let same = (goes live).rank in absurd (omega (arith, higher, high, same))) above
    resync-step (tells.Adopt r e base list) above goes = by-part (tells.Adopt r e base list) e.0 r.0 (cases_eq e.0 d)
        (λ other. passes (tells.Adopt r e base list) (λ here. absurd (other here)) (λ here. absurd (other here)))
        (λ here live.
        let high = above here in
        let both = joins r.0 e.0 base list (goes live) high live (live-is d b e.0 r.0 here (omega (arith, high))) in
        record { goes = λ live_b. both.0; same = both.1 }) above
    resync-step (tells.Ack r e n) above goes = inl (passes (tells.Ack r e n) tt tt)
    resync-step (tells.ReadBlock session block rows) above goes = inl (passes (tells.ReadBlock session block rows) tt tt)
    resync-step (tells.Block session bytes n) above goes = inl (passes (tells.Block session bytes n) tt tt)
    resync-step (tells.Row session bytes stamp) above goes = inl (passes (tells.Row session bytes stamp) tt tt)
    resync-step (tells.Cease upto) above goes = inl (passes (tells.Cease upto) tt tt)
    resync-step (tells.Notice dead) above goes = inl (passes (tells.Notice dead) tt tt)

    resynced : (m : Message) (ms : List Message) → Along (next d) (Goes F d settled) (next d a m) ms → Passes a b m ⊎ Joins a b m
        → (Along (next d) (Goes F d settled) a ms → Resyncs a b ms) → Resyncs a b (m ∷ ms)
    resynced m ms goes (inr join) rest = record {
      goes = (join.goes, subst (λ (y : Seen). Along (next d) (Goes F d settled) y ms) join.same goes);
      meets = inl (ap (λ (y : Seen). run (next d) y ms) join.same);
    }
    resynced m ms goes (inl pass) rest = record {
      goes = (pass.goes, subst (λ (y : Seen). Along (next d) (Goes F d settled) y ms) (sym pass.b_stays) later.goes);
      meets = by later.meets;
    } where
      later : Resyncs a b ms
      later = rest (subst (λ (y : Seen). Along (next d) (Goes F d settled) y ms) pass.a_stays goes)

      by : (run (next d) a ms ≡ run (next d) b ms) ⊎ (run (next d) a ms ≡ a)
          → (run (next d) (next d a m) ms ≡ run (next d) (next d b m) ms) ⊎ (run (next d) (next d a m) ms ≡ a)
      by (inl same) = inl (ap (λ (y : Seen). run (next d) y ms) pass.a_stays ∙ same ∙ ap (λ (y : Seen). run (next d) y ms) (sym pass.b_stays))
      by (inr same) = inr (ap (λ (y : Seen). run (next d) y ms) pass.a_stays ∙ same)

    pub resync : (ms : List Message) → Each Above ms → Along (next d) (Goes F d settled) a ms → Resyncs a b ms
    resync [] above goes = record { goes = tt; meets = inr refl }
    resync (m ∷ ms) above goes = resynced m ms goes.1 (resync-step m above.0 goes.0) (resync ms above.1)
