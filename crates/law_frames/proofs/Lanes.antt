-- What stands in a link into a living process of a partition's updates fits a frame.
use Rattle.std.proofs.Common.{◌≡◌, ◌<◌, ◌≤◌, ℕ, ◌+◌, ◌^◌, Bool, true, false, List, [], ◌∷◌, ◌++◌, length, take, refl, subst, arith}
use Rattle.std.proofs.lemmas.Bool.Decides.{nat_tests}
use Rattle.std.proofs.lemmas.Grind.{common_steps}
use Rattle.std.proofs.lemmas.List.{length-append, length-take-le}
use Rattle.std.proofs.Math.Seq.{drop_at}
use Rattle.group_types.specs.Dimensions.{Dimensions, space_of}
use Rattle.group_types.specs.Each.{Each}
use Rattle.group_types.proofs.Eaches.{each-drop, each-weaker}
use Rattle.group_types.specs.Shape.{IsShape, most_space}
use Rattle.group_message.specs.declared.message.Message.{Message}
use Rattle.group_message.specs.declared.message.Message.TheVariants as tells
use Rattle.group_message.specs.declared.update.Update.{Update}
use Rattle.group_run.specs.Deciding.{window}
use Rattle.group_run.specs.Fitting.{Writes}
use Rattle.group_run.specs.World.{AskedCall}
use Rattle.law_histories.proofs.Folds.{Along, run}
use Rattle.law_histories.proofs.Histories.{last-number}
use Rattle.law_histories.proofs.Lanes.{run-rises}
use Rattle.law_histories.proofs.LaneWords.{AdoptGoes, Goes, Seen, UpdateGoes, appended, is_live, next, raised, replaced}
use Rattle.law_updates.specs.Fine.{AreClear}
use Rattle.law_updates.specs.Store.{no_store}
use Rattle.law_updates.proofs.Steps.{no_store-fits}
use Rattle.law_headline.proofs.Issues.{FineIn}
use Rattle.wire_codec.specs.Fits.{FitsUpdate}
use Rattle.law_frames.proofs.Apart.{total, total-few, written}
use Rattle.law_frames.proofs.Sizes.{written-few}
use Rattle.law_frames.proofs.Updates.{CallFits, UpdateFits, steps-fit}

live-is : (d : ℕ) (seen : Seen) (e r : ℕ) → e ≡ d → seen.rank ≤ r → is_live d seen e r ≡ true
live-is d seen e r same low = grind (arith, nat_tests, common_steps)

-- what a message of the partition has that comes under this rank
abbrev pub Found : ℕ → ℕ → ℕ → Message → Type 0
Found n d rank (tells.Update r e u stable) = e.0 ≡ d → r.0 ≡ rank → FitsUpdate u × (written u.body ≤ most_space) × (stable ≤ n)
Found n d rank (tells.Adopt r e base list) = e.0 ≡ d → r.0 ≡ rank → Each FitsUpdate list × (total list ≤ most_space) × (length list ≤ window) × (base ≤ n)
Found n d rank (tells.Stable r e number) = e.0 ≡ d → r.0 ≡ rank → number ≤ n
Found n d rank _ = Unit {0}

module _ (s : Dimensions) (shaped : IsShape s) (calls : List AskedCall) (fits : Each CallFits calls) (n : ℕ)
    (few : n < 2 ^ 63) (d : ℕ) (settled : List Update) (low : length settled ≤ n) where
  update-found : (seen : Seen) (r : ℕ) (u : Update) (stable : ℕ) → UpdateGoes (FineIn s calls) d settled seen r u stable
      → FitsUpdate u × (written u.body ≤ most_space) × (stable ≤ n)
  update-found seen r u stable goes =
      let whole = seen.history ++ u ∷ [] in
      let number = last-number seen.history u goes.fine.0 in
      let near = goes.few in
      let told = goes.stable_settled in
      let long = length-append seen.history (u ∷ []) in
      let space = shaped.blocks.1 in
      let all = steps-fit s shaped calls fits d 0 (no_store s) whole (omega (arith, number, near, told, long, low, few))
      (no_store-fits s) tt goes.fine.1.steps in
      let last = (subst (Each (UpdateFits s shaped calls fits d))
      (drop_at seen.history (u ∷ []) (length seen.history) refl)
      (each-drop (UpdateFits s shaped calls fits d) (length seen.history) whole all)).0 in
      let size = written-few (space_of s) u.body last.1 in
      (last.0, omega (arith, size, space), omega (arith, told, low))

  adopt-found : (seen : Seen) (r base : ℕ) (list : List Update) → length settled ≤ length seen.history → AdoptGoes (FineIn s calls) d settled seen r base list
      → Each FitsUpdate list × (total list ≤ most_space) × (length list ≤ window) × (base ≤ n)
  adopt-found seen r base list begins goes =
      let front = take base seen.history in
      let told = goes.base_settled in
      let short = goes.few in
      let space = shaped.blocks.1 in
      let cut : length front ≡ base = length-take-le base seen.history (omega (arith, told, begins)) in
      let long = length-append front list in
      let behind = drop_at front list base cut in
      let all = steps-fit s shaped calls fits d 0 (no_store s) (front ++ list)
      (omega (arith, cut, long, short, told, low, few)) (no_store-fits s) tt goes.fine.1.steps in
      let mine = subst (Each (UpdateFits s shaped calls fits d)) behind (each-drop (UpdateFits s shaped calls fits d) base (front ++ list) all) in
      let size = total-few (space_of s) _ list
      (each-weaker (UpdateFits s shaped calls fits d) (λ u. Writes (space_of s) u.body) (λ u both. both.1) list mine)
      (subst (AreClear _) behind goes.fine.1.clear) in
      (each-weaker (UpdateFits s shaped calls fits d) FitsUpdate (λ u both. both.0) list mine, omega (arith, size, space), short, omega (arith, told, low))

  -- of one message, at what is seen before it
  found : (seen : Seen) (m : Message) (rank : ℕ) → Goes (FineIn s calls) d settled seen m → seen.rank ≤ rank
      → length settled ≤ length seen.history → Found n d rank m
  found seen (tells.Update r e u stable) rank goes below begins = λ same is. update-found seen r.0 u stable
      (goes (live-is d seen e.0 r.0 same (omega (arith, below, is))))
  found seen (tells.Adopt r e base list) rank goes below begins = λ same is. adopt-found seen r.0 base list begins
      (goes (live-is d seen e.0 r.0 same (omega (arith, below, is))))
  found seen (tells.Stable r e number) rank goes below begins = λ same is.
      let told = (goes (live-is d seen e.0 r.0 same (omega (arith, below, is)))).number_settled in
      omega (arith, told, low)
  found seen (tells.Ack r e number) rank goes below begins = tt
  found seen (tells.ReadBlock session block rows) rank goes below begins = tt
  found seen (tells.Block session bytes number) rank goes below begins = tt
  found seen (tells.Mark session r block e number) rank goes below begins = tt
  found seen (tells.Row session bytes stamp) rank goes below begins = tt
  found seen (tells.Cease upto) rank goes below begins = tt
  found seen (tells.Notice dead) rank goes below begins = tt

  raised-begins : (b : Bool) (number : ℕ) (seen : Seen) → length settled ≤ length seen.history → length settled ≤ length (raised b number seen).history
  raised-begins true number seen begins = begins
  raised-begins false number seen begins = begins

  -- what is seen goes on to have all that is settled
  begins-next : (seen : Seen) (m : Message) → Goes (FineIn s calls) d settled seen m
      → length settled ≤ length seen.history → length settled ≤ length (next d seen m).history
  begins-next seen (tells.Update r e u stable) goes begins = by (is_live d seen e.0 r.0) where
    by : (b : Bool) → length settled ≤ length (appended b u stable seen).history
    by true = let long = length-append seen.history (u ∷ []) in omega (arith, begins, long)
    by false = begins
  begins-next seen (tells.Adopt r e base list) goes begins = by (is_live d seen e.0 r.0) goes where
    by : (b : Bool) → (b ≡ true → AdoptGoes (FineIn s calls) d settled seen r.0 base list) → length settled ≤ length (replaced b r.0 base list seen).history
    by true goes = (goes refl).prolongs.reaches
    by false goes = begins
  begins-next seen (tells.Stable r e number) goes begins = raised-begins (is_live d seen e.0 r.0) number seen begins
  begins-next seen (tells.Mark session r block e number) goes begins = raised-begins (is_live d seen e.0 r.0) number seen begins
  begins-next seen (tells.Ack r e number) goes begins = begins
  begins-next seen (tells.ReadBlock session block rows) goes begins = begins
  begins-next seen (tells.Block session bytes number) goes begins = begins
  begins-next seen (tells.Row session bytes stamp) goes begins = begins
  begins-next seen (tells.Cease upto) goes begins = begins
  begins-next seen (tells.Notice dead) goes begins = begins

  pub lane-found : (seen : Seen) (ms : List Message) (rank : ℕ) → Along (next d) (Goes (FineIn s calls) d settled) seen
      ms → (run (next d) seen ms).rank ≤ rank → length settled ≤ length seen.history → Each (Found n d rank) ms
  lane-found seen [] rank along below begins = tt
  lane-found seen (m ∷ ms) rank along below begins =
      let rises = run-rises d seen (m ∷ ms) in (
        found seen m rank along.0 (omega (arith, rises, below)) begins,
        lane-found (next d seen m) ms rank along.1 below (begins-next seen m along.0 begins),
      )
