-- Histories that stay fronts of given ones: so no process can settle anything else.
use Rattle.std.proofs.Common.{ℕ, zero, suc, ◌≡◌, ◌≢◌, ◌<◌, ◌≤◌, true, false, List, [], ◌++◌, length, take, Some, ◌⊎◌}
use Rattle.std.proofs.Common.{inl, inr, refl, sym, ap, subst, ◌∙◌, arith}
use Rattle.std.specs.Prelude.{All}
use Rattle.std.proofs.lemmas.Bool.{cases_eq}
use Rattle.std.proofs.lemmas.List.{append-nil, take_all}
use Rattle.group_types.specs.Dimensions.{Dimensions}
use Rattle.group_types.specs.Lists.{at}
use Rattle.group_types.specs.Names.{IsProcess, index_of, of_rank}
use Rattle.group_types.specs.Shape.{IsShape}
use Rattle.group_types.specs.declared.process.ProcessId.{ProcessId}
use Rattle.group_types.specs.declared.process.ProcessId.TheVariants.{DataNode, ParityNode}
use Rattle.memc_table.specs.Act.{act_value}
use Rattle.memc_table.specs.Asked.{Asked}
use Rattle.group_message.specs.declared.message.Message.{Message}
use Rattle.group_message.specs.declared.update.Update.{Update}
use Rattle.group_calls.specs.Turns.{CallName}
use Rattle.group_calls.specs.declared.event.Answer.{Answer}
use Rattle.group_calls.specs.declared.event.Event.TheVariants.{Ask, Deliver}
use Rattle.group_run.specs.Applying.{head_at, replica_of}
use Rattle.group_run.specs.Asking.{ask_process}
use Rattle.group_run.specs.Headline.{MayCome}
use Rattle.group_run.specs.History.{History, history, prolonged}
use Rattle.group_run.specs.Process.{Head}
use Rattle.group_run.specs.Receiving.{receive}
use Rattle.group_run.specs.Replica.{items_after}
use Rattle.group_run.specs.World.{next_name, process_node}
use Rattle.law_moves.proofs.Moves.{Acted, Asks, Popped}
use Rattle.law_moves.specs.State.{IsGroupUp, State, state_of}
use Rattle.law_moves.proofs.Events.{FramedHistory}
use Rattle.law_moves.proofs.Members.{Members}
use Rattle.law_moves.proofs.Keeping.{keeps}
use Rattle.law_histories.proofs.Around.{GrewBy, keeper-rank}
use Rattle.law_histories.proofs.Finished.{IsEmpty, log-empty}
use Rattle.law_histories.proofs.Folds.{Along, run}
use Rattle.law_histories.proofs.HistoryWords.{HistoryLaws}
use Rattle.law_histories.proofs.Issuing.{IssueKeeps}
use Rattle.law_histories.proofs.Keeping as reaching
use Rattle.law_histories.proofs.LaneWords.{Goes, Prolongs, next}
use Rattle.law_histories.proofs.Lanes.{begins-trans}
use Rattle.law_histories.proofs.Ranks.{head-from}
use Rattle.law_histories.proofs.Reach.{Any, EndsAt, IsKeeper, LaneReaches, PartitionReaches, Reach, ReplicaReaches, seen_at}
use Rattle.law_histories.proofs.Told.{Told}
use Rattle.law_histories.proofs.ToldKeeping.{Reached}
use Rattle.law_log.proofs.Calls.{Answers, Acts, Delivers, Idle, Nothing, Takes, call-comes, message-comes}

-- a history of partition d is a front of this one
abbrev pub Upto : (ℕ → List Update) → ℕ → ℕ → List Update → Type 0
Upto limit d a us = Prolongs us (limit d)

module _ (limit : ℕ → List Update) where
  upto-laws : HistoryLaws (Upto limit)
  upto-laws = record { start = λ d. record { reaches = omega arith; front = refl }; rises = λ d a b history front low high. front }

  -- all histories are, and what is settled
  abbrev pub AllUpto : Dimensions → State → Type 0
  AllUpto s v = Members s v × Reach (Upto limit) s v × ((d : ℕ) → d < s.k → Prolongs (v.settled d) (limit d))

  module _ (s : Dimensions) (shaped : IsShape s) where
    upto-after : (v w : State) (p : ProcessId) → reaching.Leaves_both (Upto limit) upto-laws s shaped v w p → Members s w → IsProcess s p
        → w.dead p ≡ false → AllUpto s v → AllUpto s w
    upto-after v w p leaves members pin living all = (members, (λ d below. (leaves d below).0), λ d below. by d below (leaves d below).2) where
      by : (d : ℕ) → d < s.k → GrewBy d (v.settled d) (w.settled d) (w.process p) → Prolongs (w.settled d) (limit d)
      by d below (inl same) = subst (λ (us : List Update). Prolongs us (limit d)) (sym same) (all.2 d below)
      by d below (inr has) =
          let kept = ((leaves d below).0).replicas p pin living
          (keeper-rank d has.head.rank p (head-from s w d members below p has.head pin living has.heads).0) in
          begins-trans (w.settled d) (history (w.settled d) (replica_of (w.process p) d)) (limit d) kept.prolongs kept.fine.1

    asks : (v w : State) (p : ProcessId) (name : CallName) (op : Asked) → IsProcess s p → IsGroupUp s v → v.dead p ≡ false
        → All (λ b. b < 256) (act_value op.act) → IssueKeeps (Upto limit) s v p name op
        → AllUpto s v → Acted s v w p (ask_process s name op (v.process p)).step → AllUpto s w
    asks v w p name op pin up lives bytes issues all acts =
        upto-after v w p (reaching.asks-both (Upto limit) upto-laws s shaped v w p name op pin up lives bytes issues all.0 all.1 acts)
        ((keeps s shaped).treats v w p (ask_process s name op (v.process p)).step pin up lives (Asks name op bytes)
        all.0 acts) pin (acts.dead p pin ∙ lives) all

    receives : (v u w : State) (x p : ProcessId) (m : Message) → IsProcess s x → IsProcess s p → x ≢ p → IsGroupUp s v → v.dead p ≡ false → AllUpto s v
        → Popped s v u x p m → Acted s u w p (receive s x m (v.process p)) → AllUpto s w
    receives v u w x p m xin pin apart up lives all pops acts =
        upto-after v w p (reaching.receives-both (Upto limit) upto-laws s shaped v u w x p m xin pin apart up lives all.0 all.1 pops acts)
        ((keeps s shaped).receives v u w x p m xin pin apart up lives all.0 pops acts) pin (acts.dead p pin ∙ pops.dead p pin ∙ lives) all

  -- an ask keeps them so where what it issues does, and a delivery always
  pub upto-ask : (h : History) (caller : ℕ) (op : Asked) (p : ProcessId) → FramedHistory h → IsShape h.world.shape → MayCome h.world (Ask caller op p)
      → IssueKeeps (Upto limit) h.world.shape (state_of h) p (next_name h.world caller) op
      → AllUpto h.world.shape (state_of h) → AllUpto h.world.shape (state_of (prolonged h (Ask caller op p)))
  upto-ask h caller op p framed shaped may issues all =
      by (call-comes h.world.shape h.world.nodes h.settled framed p
      (ask_process h.world.shape (next_name h.world caller) op (process_node h.world p).process) may.1
      (process_node h.world p).down (process_node h.world p).dead refl refl) where
        by : {w : State} {answer : Answer}
            → Answers h.world.shape (state_of h) w p (ask_process h.world.shape (next_name h.world caller) op (process_node h.world p).process) answer
            → AllUpto h.world.shape w
        by (Idle same idle) = subst (AllUpto h.world.shape) (sym same) all
        by {w} (Acts up lives acts is) = asks h.world.shape shaped (state_of h) w p (next_name h.world caller) op may.1 up lives may.2 issues all acts

  pub upto-deliver : (h : History) (from to : ProcessId) → FramedHistory h → IsShape h.world.shape → MayCome h.world (Deliver from to)
      → AllUpto h.world.shape (state_of h) → AllUpto h.world.shape (state_of (prolonged h (Deliver from to)))
  upto-deliver h from to framed shaped may all =
      by (message-comes h.world.shape h.world.nodes h.settled framed from to may.0 may.1 may.2 (process_node h.world to).down
      (process_node h.world to).dead refl refl (at [] (process_node h.world from).links (index_of h.world.shape to)) refl) where
        by : {w : State} → Delivers h.world.shape (state_of h) w from to → AllUpto h.world.shape w
        by (Nothing same) = subst (AllUpto h.world.shape) (sym same) all
        by {w} (Takes u m up lives pops acts) = receives h.world.shape shaped (state_of h) u w from to m may.0 may.1 may.2 up lives all pops acts

-- where all is delivered, and each partition has a head, every history is what is settled
module _ (s : Dimensions) (v : State) (reached : Reached s v) (told : Told s v) (empty : IsEmpty s v)
    (headed : (d : ℕ) → d < s.k → (r : ℕ) × (v.dead (of_rank d r) ≡ false) × IsProcess s (of_rank d r)
    × ((q : ℕ) → q < r → v.dead (of_rank d q) ≡ true)
    × ((h : Head) × (head_at (v.process (of_rank d r)) d ≡ Some h))) where
  module _ (d : ℕ) (below : d < s.k) where
    abbrev r : ℕ
    r = (headed d below).0

    abbrev p : ProcessId
    p = of_rank d r

    lives : v.dead p ≡ false
    lives = (headed d below).1

    pin : IsProcess s p
    pin = (headed d below).2

    lower : (q : ℕ) → q < r → v.dead (of_rank d q) ≡ true
    lower = (headed d below).3

    abbrev h : Head
    h = (headed d below).4.0

    heads : head_at (v.process p) d ≡ Some h
    heads = (headed d below).4.1

    kept : ReplicaReaches Any d (v.settled d) (v.process p)
    kept = (reached.1 d below).replicas p pin lives (keeper-rank d r p refl)

    no-log : (replica_of (v.process p) d).log ≡ []
    no-log = log-empty s v reached told empty p d h pin lives below heads

    pub all-applied : (replica_of (v.process p) d).applied ≡ length (v.settled d)
    all-applied = by (kept.heads h heads).all_or where
      by : ((replica_of (v.process p) d).applied ≡ length (v.settled d))
          ⊎ (((replica_of (v.process p) d).applied < h.inherited) × (length (v.settled d) ≤ h.inherited))
          → (replica_of (v.process p) d).applied ≡ length (v.settled d)
      by (inl same) = same
      by (inr both) =
          let low = both.0 in
          let most = (kept.heads h heads).inherited in
          let none : length (replica_of (v.process p) d).log ≡ 0 = ap length no-log in
          absurd (omega (arith, low, most, none))

    pub head-history : history (v.settled d) (replica_of (v.process p) d) ≡ v.settled d
    head-history =
        ap (λ (us : List Update). take (replica_of (v.process p) d).applied (v.settled d) ++ us) no-log
        ∙ append-nil (take (replica_of (v.process p) d).applied (v.settled d))
        ∙ take_all (replica_of (v.process p) d).applied (v.settled d) (let all = all-applied in omega (arith, all))

    -- so the head's items are those of all that is settled
    pub head-items : (replica_of (v.process p) d).items ≡ items_after [] (v.settled d)
    head-items = kept.holds.items
        ∙ ap (items_after []) (take_all (replica_of (v.process p) d).applied (v.settled d) (let all = all-applied in
        omega (arith, all)))

    parity-history : (i : ℕ) → i < s.m → p ≢ ParityNode i → v.dead (ParityNode i) ≡ false
        → history (v.settled d) (replica_of (v.process (ParityNode i)) d) ≡ v.settled d
    parity-history i iin apart living = ends.history_is ∙ head-history where
      ends : EndsAt (v.settled d) (replica_of (v.process p) d) h (seen_at d (v.settled d) (v.process (ParityNode i)))
      ends =
          subst
          (λ (ms : List Message). EndsAt (v.settled d) (replica_of (v.process p) d) h (run (next d) (seen_at d (v.settled d) (v.process (ParityNode i))) ms))
          (empty p (ParityNode i) pin iin living apart)
          (((reached.1 d below).lanes p i pin iin apart living).ends lives h heads)

    any-history : (q : ProcessId) → IsProcess s q → v.dead q ≡ false → IsKeeper d q → history (v.settled d) (replica_of (v.process q) d) ≡ v.settled d
    any-history (ParityNode i) qin living keeps = by r refl where
      other : (n : ℕ) → r ≡ n → (of_rank d n ≡ ParityNode i) ⊎ (of_rank d n ≢ ParityNode i)
          → history (v.settled d) (replica_of (v.process (ParityNode i)) d) ≡ v.settled d
      other n is (inl same) =
          subst (λ (y : ProcessId). history (v.settled d) (replica_of (v.process y) d) ≡ v.settled d) (ap (of_rank d) is ∙ same) head-history
      other n is (inr apart) = parity-history i qin (λ same. apart (sym (ap (of_rank d) is) ∙ same)) living

      by : (n : ℕ) → r ≡ n → history (v.settled d) (replica_of (v.process (ParityNode i)) d) ≡ v.settled d
      by zero is = other zero is (inr (λ same. cc same))
      by (suc j) is = other (suc j) is (which (cases_eq j i)) where
        which : (j ≡ i) ⊎ (j ≢ i) → (ParityNode j ≡ ParityNode i) ⊎ (ParityNode j ≢ ParityNode i)
        which (inl same) = inl (ap ParityNode same)
        which (inr not) = inr (λ same. not (cc same))
    any-history (DataNode e) qin living keeps = by r refl where
      here : DataNode e ≡ DataNode d
      here = ap DataNode keeps

      by : (n : ℕ) → r ≡ n → history (v.settled d) (replica_of (v.process (DataNode e)) d) ≡ v.settled d
      by zero is = subst (λ (y : ProcessId). history (v.settled d) (replica_of (v.process y) d) ≡ v.settled d) (ap (of_rank d) is ∙ sym here) head-history
      by (suc j) is = absurd (cc (living, ap v.dead here, lower 0 (omega (arith, is))))

    reaches-front : PartitionReaches (Upto v.settled) s v d
    reaches-front = record {
      replicas = λ q qin living keeps.
          let old : ReplicaReaches Any d (v.settled d) (v.process q) = (reached.1 d below).replicas q qin living keeps in
          record {
            applied = old.applied;
            prolongs = old.prolongs;
            short = old.short;
            fine = (
              old.fine.0,
              subst (λ (us : List Update). Prolongs us (v.settled d))
                  (sym (any-history q qin living keeps))
                  (record {
                    reaches = omega arith;
                    front = take_all (length (v.settled d)) (v.settled d)
                        (omega arith);
                  }),
            );
            holds = old.holds;
            heads = old.heads;
          };
      lanes = λ x i xin iin apart living.
          let old : LaneReaches Any d (v.settled d) x i (v.dead x) (head_at (v.process x) d)
          (replica_of (v.process x) d) (seen_at d (v.settled d) (v.process (ParityNode i))) (v.link x (ParityNode i))
          (v.link (ParityNode i) x)
          = (reached.1 d below).lanes x i xin iin apart living in
          record {
            goes = subst (λ (ms : List Message). Along (next d) (Goes (Upto v.settled) d (v.settled d))
                (seen_at d (v.settled d) (v.process (ParityNode i))) ms)
                (sym (empty x (ParityNode i) xin iin living apart)) tt;
            ends = old.ends;
            kept = old.kept;
            acks = old.acks;
          };
      issued = (reached.1 d below).issued;
    }

  pub rest-upto : AllUpto v.settled s v
  rest-upto = (reached.0, reaches-front, λ d below. record { reaches = omega arith; front = take_all (length (v.settled d)) (v.settled d) (omega arith) })
