-- The history of a head after a step: the same where nothing was put behind its log, and one update longer
-- where it issued one.
use Rattle.std.proofs.Common.{ℕ, zero, suc, ◌≡◌, ◌≤◌, ◌+◌, ◌-◌, true, List, [], ◌∷◌, ◌++◌, length, take, drop, Option}
use Rattle.std.proofs.Common.{Some, None, is_some, inl, inr, refl, sym, ap, subst, ◌∙◌, append_assoc, arith}
use Rattle.std.proofs.lemmas.List.{drop_all, take-append-drop, take_all}
use Rattle.group_types.specs.Dimensions.{Dimensions}
use Rattle.group_types.proofs.Lists.{at-put}
use Rattle.group_types.specs.Each.{Each}
use Rattle.group_types.proofs.Eaches.{each-append}
use Rattle.group_message.specs.declared.update.Update.{Update}
use Rattle.group_run.specs.Applying.{head_at, replica_of, with_replica}
use Rattle.group_run.specs.Asking.{issued}
use Rattle.group_run.specs.Heading.{judge_head, least_acked, other_parities, settlements}
use Rattle.group_run.specs.Leaders.{rebuilt_block}
use Rattle.group_run.specs.Process.{Head, Process}
use Rattle.group_run.specs.Replica.{Replica, applied_to, empty_replica, last_of, up_to, with_update}
use Rattle.group_run.specs.World.{settled_in}
use Rattle.group_run.specs.History.{history}
use Rattle.law_histories.proofs.Histories.{history-grown, length-history, settled-in-own}
use Rattle.law_histories.proofs.Heads.{replica-apply_to}
use Rattle.law_histories.proofs.LaneWords.{Prolongs}
use Rattle.law_headline.proofs.Apart.{HeadOff, StaysOff}
use Rattle.law_headline.proofs.Longs.{Inherits, Long}

-- a list that begins with another, and is no longer, is that
pub begins-same : (us vs : List Update) → Prolongs us vs → length vs ≡ length us → vs ≡ us
begins-same us vs begins long = sym (take_all (length us) vs (omega (arith, long))) ∙ begins.front

-- the updates behind a place, with one more
pub drop-behind : (n : ℕ) (us : List Update) (u : Update) → n ≤ length us → drop n (us ++ u ∷ []) ≡ drop n us ++ u ∷ []
drop-behind zero us u within = refl
drop-behind (suc n) [] u within = absurd (omega (arith, within))
drop-behind (suc n) (x ∷ us) u within = drop-behind n us u (omega (arith, within))

-- what was rebuilt is so still
abbrev pub StaysBuilt : ℕ → Process → Process → Type 0
StaysBuilt d p q = (b : ℕ) → is_some (rebuilt_block p.as_leader d b) ≡ true → is_some (rebuilt_block q.as_leader d b) ≡ true

-- so what isn't rebuilt wasn't before
pub unbuilt-before : (d b : ℕ) (p q : Process) → StaysBuilt d p q → rebuilt_block q.as_leader d b ≡ None → rebuilt_block p.as_leader d b ≡ None
unbuilt-before d b p q stays none = by (rebuilt_block p.as_leader d b) refl where
  by : (o : Option (List ℕ)) → rebuilt_block p.as_leader d b ≡ o → rebuilt_block p.as_leader d b ≡ None
  by None is = is
  by (Some bytes) is = absurd (cc (sym (stays b (ap is_some is)) ∙ ap is_some none))

module _ (s : Dimensions) (d : ℕ) (old new : List Update) (p q : Process) (within : (replica_of p d).applied ≤ length old)
    (within_now : (replica_of q d).applied ≤ length new) (stays : StaysBuilt d p q) where
  -- nothing was put behind the log
  pub off-long : ((h : Head) → head_at q d ≡ Some h → Long d p q)
      → ((h : Head) → head_at q d ≡ Some h → Prolongs (history old (replica_of p d)) (history new (replica_of q d))) → HeadOff s d old p → HeadOff s d new q
  off-long long follows off h b heads none = subst (λ (us : List Update). Each (StaysOff s b) (drop h.inherited us))
      (sym same) (by ((long h heads).heads h heads)) where
        before : length (history old (replica_of p d)) ≡ last_of (replica_of p d)
        before = length-history old (replica_of p d) within

        same : history new (replica_of q d) ≡ history old (replica_of p d)
        same = begins-same (history old (replica_of p d)) (history new (replica_of q d)) (follows h heads)
            (length-history new (replica_of q d) within_now ∙ (long h heads).length ∙ sym before)

        by : Inherits d p h → Each (StaysOff s b) (drop h.inherited (history old (replica_of p d)))
        by (inl kept) = subst (λ (n : ℕ). Each (StaysOff s b) (drop n (history old (replica_of p d)))) (sym kept.2)
            (off kept.0 b kept.1 (unbuilt-before d b p q stays none))
        by (inr all) = subst (Each (StaysOff s b)) (sym (drop_all h.inherited (history old (replica_of p d)) (omega (arith, all, before)))) tt

  -- an update was put behind it
  pub off-issued : (h0 : Head) (u : Update) → head_at p d ≡ Some h0 → h0.inherited ≤ last_of (replica_of p d)
      → ((h : Head) → head_at q d ≡ Some h → h.inherited ≡ h0.inherited)
      → history new (replica_of q d) ≡ history old (replica_of p d) ++ u ∷ []
      → ((b : ℕ) → rebuilt_block p.as_leader d b ≡ None → StaysOff s b u) → HeadOff s d old p → HeadOff s d new q
  off-issued h0 u had low same grown apart off h b heads none =
      let before : length (history old (replica_of p d)) ≡ last_of (replica_of p d) = length-history old (replica_of p d) within in
      let unbuilt : rebuilt_block p.as_leader d b ≡ None = unbuilt-before d b p q stays none in
      let here : drop h.inherited (history new (replica_of q d)) ≡ drop h0.inherited (history old (replica_of p d)) ++ u ∷ [] =
      (λ j. drop (same h heads j) (grown j)) ∙ drop-behind h0.inherited (history old (replica_of p d)) u (omega (arith, low, before)) in
      subst (Each (StaysOff s b)) (sym here)
      (each-append (StaysOff s b) (drop h0.inherited (history old (replica_of p d))) (u ∷ []) (off h0 b had unbuilt)
      (apart b unbuilt, tt))

-- what is applied out of a log is next: the history is as before
pub history-next : (more : List Update) (r : Replica) (n : ℕ) → take (r.applied + length (up_to n r)) more
    ≡ take r.applied more ++ up_to n r → history more (applied_to n r) ≡ history more r
history-next more r n next =
    ap (λ (us : List Update). us ++ drop (n - r.applied) r.log) next
    ∙ append_assoc (take r.applied more) (up_to n r) (drop (n - r.applied) r.log)
    ∙ ap (λ (us : List Update). take r.applied more ++ us) (take-append-drop (n - r.applied) r.log)

module _ (s : Dimensions) (d : ℕ) (h : Head) (u : Update) (p : Process) (heads : head_at p d ≡ Some h) where
  told : Process
  told = with_replica d (with_update u (replica_of p d)) p

  -- the number up to which it is settled at once
  least : ℕ
  least = least_acked h (last_of (replica_of told d)) (other_parities s.m p.name p.known)

  replica_told : replica_of told d ≡ with_update u (replica_of p d)
  unfolding told
  replica_told = at-put empty_replica empty_replica p.replicas d (with_update u (replica_of p d))

  issued-own : settled_in d (issued s d h u p).settled ≡ up_to least (with_update u (replica_of p d))
  unfolding told least
  issued-own =
      ap (λ (o : Option Head). settled_in d (judge_head s d told o).settled) heads
      ∙ ap (λ (x : Replica). settled_in d (settlements d (up_to least x))) replica_told
      ∙ settled-in-own d (up_to least (with_update u (replica_of p d)))

  issued-replica : replica_of (issued s d h u p).process d ≡ applied_to least (with_update u (replica_of p d))
  unfolding told least
  issued-replica = ap (λ (o : Option Head). replica_of (judge_head s d told o).process d) heads
      ∙ replica-apply_to s d least told ∙ ap (applied_to least) replica_told

  -- what is issued stands behind the history
  pub history-issued : (settled more : List Update) → (replica_of p d).applied ≤ length settled → Prolongs settled more
      → take ((replica_of p d).applied + length (settled_in d (issued s d h u p).settled)) more
      ≡ take (replica_of p d).applied more ++ settled_in d (issued s d h u p).settled
      → history more (replica_of (issued s d h u p).process d) ≡ history settled (replica_of p d) ++ u ∷ []
  history-issued settled more applied begins next =
      let r : Replica = replica_of p d in
      ap (history more) issued-replica
      ∙ history-next more (with_update u r) least (subst (λ (us : List Update). take (r.applied + length us) more ≡ take r.applied more ++ us) issued-own next)
      ∙ sym (append_assoc (take r.applied more) r.log (u ∷ []))
      ∙ ap (λ (us : List Update). us ++ u ∷ []) (history-grown settled r applied more begins)
