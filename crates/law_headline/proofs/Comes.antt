-- The updates that a message brings can come to the replica that receives them.
use Rattle.std.proofs.Common.{◌≡◌, ℕ, ◌-◌, ◌≤◌, max, List, [], ◌∷◌, ◌++◌, length, take, drop, sym, ap, subst, ◌∙◌, refl, arith}
use Rattle.std.proofs.Math.Seq.{drop-append-add}
use Rattle.std.proofs.lemmas.List.{drop_all, length-append, length-take-le, take-append-drop, take-take}
use Rattle.group_types.specs.Dimensions.{Dimensions, space_of}
use Rattle.group_message.specs.declared.update.Update.{Update}
use Rattle.group_run.specs.Fitting.{AllCanCome, CanCome}
use Rattle.group_run.specs.Process.{Process}
use Rattle.group_run.specs.Applying.{head_at, replica_of}
use Rattle.group_run.specs.Replica.{Replica, applied_to, items_after, with_log}
use Rattle.group_run.specs.World.{AskedCall}
use Rattle.group_run.specs.History.{history}
use Rattle.law_histories.proofs.LaneWords.{AdoptGoes, Prolongs, UpdateGoes}
use Rattle.law_histories.proofs.Histories.{applied-is, history-applied, length-history}
use Rattle.law_histories.proofs.Reach.{ReplicaFits, ReplicaReaches, seen_at}
use Rattle.law_histories.proofs.Heads.{fits-applied}
use Rattle.law_updates.specs.Fine.{Fine}
use Rattle.law_updates.proofs.Fine.{IsReplicaOf}
use Rattle.law_updates.proofs.Fines.{all-come, histories_are_fine, next-comes}
use Rattle.law_headline.proofs.Issues.{fine-laws, replica-of-history}

module _ (s : Dimensions) (calls : List AskedCall) (d : ℕ) (settled : List Update) (p : Process) (fits : ReplicaReaches (Fine s calls) d settled p) where
  abbrev r : Replica
  r = replica_of p d

  hist : List Update
  hist = history settled r

  -- where more of what is settled is applied
  moved : (n : ℕ) → n ≤ length settled → ReplicaFits (Fine s calls) d settled (applied_to n r) (head_at p d)
  moved n low = fits-applied (Fine s calls) (fine-laws s calls) d settled r (head_at p d) n low fits

  moved-is : (n : ℕ) → n ≤ length settled → (applied_to n r).applied ≡ max r.applied n
  moved-is n low = applied-is settled r fits.applied n (let long = length-history settled r fits.applied in
      let reach = fits.prolongs.reaches in omega (arith, long, reach, low))

  -- an update
  pub update-comes : (rank stable : ℕ) (u : Update) → UpdateGoes (Fine s calls) d settled (seen_at d settled p) rank u
      stable → CanCome (space_of s) (applied_to stable r) u
  unfolding hist
  update-comes rank stable u goes = next-comes s calls d a hist u [] (applied_to stable r) fine replica where
    a : ℕ
    a = (applied_to stable r).applied

    low : stable ≤ length settled
    low = goes.stable_settled

    replica : IsReplicaOf a hist (applied_to stable r)
    replica = subst (λ (h : List Update). IsReplicaOf (applied_to stable r).applied h (applied_to stable r))
        (history-applied settled r fits.applied fits.prolongs stable low)
        (replica-of-history (Fine s calls) d settled (applied_to stable r) (head_at p d) (moved stable low))

    fine : Fine s calls d a (hist ++ u ∷ [])
    fine = (histories_are_fine s d).rises calls stable (applied_to stable r).applied (history settled r ++ u ∷ []) goes.fine.1
        (let is = moved-is stable low in omega (arith, is))
        (let within = replica.within in omega (arith, within, length-append (history settled r) (u ∷ [])))

  -- a new head's list
  pub adopt-comes : (rank base : ℕ) (list : List Update) → AdoptGoes (Fine s calls) d settled (seen_at d settled p) rank base list
      → AllCanCome (space_of s) (with_log [] (applied_to base r)) (drop ((applied_to base r).applied - base) list)
  unfolding hist
  adopt-comes rank base list goes =
      subst (AllCanCome (space_of s) (with_log [] (applied_to base r))) (sym behind)
      (all-come s calls d a (take a whole) (drop a whole) (with_log [] (applied_to base r))
      (subst (Fine s calls d a) (sym (take-append-drop a whole)) fine) replica)
    where
      a : ℕ
      a = (applied_to base r).applied

      whole : List Update
      whole = take base (history settled r) ++ list

      low : base ≤ length settled
      low = goes.base_settled

      is : a ≡ max r.applied base
      is = moved-is base low

      prolongs : Prolongs settled whole
      prolongs = goes.prolongs

      a_low : a ≤ length settled
      a_low = let most = fits.applied in omega (arith, is, most, low)

      a_long : length (take a whole) ≡ a
      a_long = length-take-le a whole (let reach = prolongs.reaches in omega (arith, a_low, reach))

      base_long : length (take base (history settled r)) ≡ base
      base_long = length-take-le base (history settled r) (let reach = fits.prolongs.reaches in omega (arith, low, reach))

      behind : drop ((applied_to base r).applied - base) list ≡ drop a whole
      behind = sym (ap (λ (k : ℕ). drop k (take base (history settled r) ++ list)) (let high = moved-is base low in
          omega (arith, base_long, high)) ∙ drop-append-add (take base (history settled r)) list
          ((applied_to base r).applied - base))

      fine : Fine s calls d a whole
      fine = (histories_are_fine s d).rises calls base a (take base (history settled r) ++ list) goes.fine.1
          (omega (arith, is)) (let reach = goes.prolongs.reaches in omega (arith, a_low, reach))

      -- what is applied is the list's, as far as it reaches
      front : take a settled ≡ take a (take a whole)
      front = ap (take a) (sym prolongs.front) ∙ take-take a (length settled) whole a_low ∙ sym (take-take a a whole (omega arith))

      replica : IsReplicaOf a (take a whole) (with_log [] (applied_to base r))
      replica = record {
        applied = refl;
        within = omega (arith, a_long);
        items = (moved base low).holds.items ∙ ap (items_after []) front;
        log = sym (drop_all (applied_to base r).applied (take (applied_to base r).applied whole) (omega (arith, a_long)));
      }
