-- What a process makes of a call, of a collect, or of being told to tell how far it has settled, told of one
-- partition.
use Rattle.std.proofs.Common.{ℕ, zero, suc, ◌≡◌, ◌≢◌, ◌<◌, ◌≤◌, ◌+◌, nat_le, Bool, true, false, not, ◌&&◌, List, []}
use Rattle.std.proofs.Common.{◌∷◌, ◌++◌, length, Option, Some, None, ◌⊎◌, inl, inr, refl, sym, ap, subst, ◌∙◌, arith}
use Rattle.std.proofs.lemmas.Bool.{cases_eq}
use Rattle.std.proofs.lemmas.Grind.{common_steps}
use Rattle.std.specs.Prelude.{cond, filter, find}
use Rattle.std.specs.List.{range_with_len}
use Rattle.group_types.specs.Dimensions.{Dimensions, space_of}
use Rattle.group_types.specs.Names.{IsProcess, same_process}
use Rattle.group_types.specs.declared.process.ProcessId.{ProcessId}
use Rattle.group_types.specs.declared.process.ProcessId.TheVariants.{ParityNode}
use Rattle.group_types.specs.declared.run.Run.{Run}
use Rattle.group_types.proofs.Lists.{at-put, at-put-other}
use Rattle.group_types.proofs.Names.{same-ne}
use Rattle.group_types.specs.Each.{Each}
use Rattle.group_types.proofs.Eaches.{each-weaker, each-all, each-map}
use Rattle.membership.specs.Members.{knows_dead}
use Rattle.memc_table.specs.Asked.{Asked}
use Rattle.group_message.specs.declared.message.Message.{Message}
use Rattle.group_message.specs.declared.message.Message.TheVariants as tells
use Rattle.group_message.specs.declared.update.Body.{Body}
use Rattle.group_message.specs.declared.update.Outcome.{Outcome}
use Rattle.group_message.specs.declared.update.Update.{Update}
use Rattle.group_calls.specs.Turns.{CallName}
use Rattle.group_calls.specs.declared.decision.Decision.{Decision}
use Rattle.group_calls.specs.declared.decision.Decision.TheVariants as decides
use Rattle.group_run.specs.Applying.{ProcessStep, head_at, held_at, quiet, replica_of, sending, with_replica}
use Rattle.group_run.specs.Asking.{CallStep, act_on, ask_head, collect_from, collect_held, found_at, handed_out}
use Rattle.group_run.specs.Asking.{holding, is_call, issued, oldest_inherited, ticketed, update_of}
use Rattle.group_run.specs.Deciding.{Missing, decide, window}
use Rattle.group_run.specs.Heading.{judge, other_parities, partition, rank, tell_stable, to_others, to_parities}
use Rattle.group_run.specs.History.{settled_with, history}
use Rattle.group_run.specs.Process.{Head, Held, Process}
use Rattle.group_run.specs.Replica.{empty_replica, last_of, with_update}
use Rattle.group_run.specs.World.{flush_process, front_if, sent_to}
use Rattle.law_moves.specs.State.{State}
use Rattle.law_moves.proofs.Members.{Members}
use Rattle.law_moves.proofs.Standing.{each-sent_to}
use Rattle.law_histories.proofs.LaneWords.{AckBelow, AckFits}
use Rattle.law_histories.proofs.HistoryWords.{HistoryLaws}
use Rattle.law_histories.proofs.Acts.{Tells}
use Rattle.law_histories.proofs.Around.{Around, keeper-rank}
use Rattle.law_histories.proofs.Deciding.{RestsWell, decides-well}
use Rattle.law_histories.proofs.Heads.{act-issue}
use Rattle.law_histories.proofs.Histories.{length-history, numbered-append}
use Rattle.law_histories.proofs.Rows.{LeadsLost, each-flat_map, still-retry}
use Rattle.law_histories.proofs.Steps.{LeadsFrom, SameIn, Spares, Still, judge-leads, same-in-refl, same-in-trans}
use Rattle.law_histories.proofs.Steps.{settled-none, still-judge, still-leads, still-quiet, still-then, tells-same}
use Rattle.law_histories.proofs.Steps.{then-from, told-others, turn-same}

-- whom a message for others goes to
none-sent : (m : Message) (test : ℕ → Bool) (i n a : ℕ) → i < a → sent_to (ParityNode i) (to_parities (filter test (range_with_len a n)) m) ≡ []
none-sent m test i zero a low = refl
none-sent m test i (suc n) a low = by (test a) (none-sent m test i n (a + 1) (omega (arith, low))) where
  other : same_process (ParityNode a) (ParityNode i) ≡ false
  other = grind (arith, common_steps)

  by : (b : Bool) → sent_to (ParityNode i) (to_parities (filter test (range_with_len (a + 1) n)) m) ≡ []
      → sent_to (ParityNode i) (to_parities (cond b (a ∷ filter test (range_with_len (a + 1) n)) (filter test (range_with_len (a + 1) n))) m) ≡ []
  by true rest = ap (λ (b : Bool). front_if b m (sent_to (ParityNode i) (to_parities (filter test (range_with_len (a + 1) n)) m))) other ∙ rest
  by false rest = rest

one-sent : (m : Message) (test : ℕ → Bool) (i n a : ℕ) → a ≤ i → i < a + n → test i ≡ true
    → sent_to (ParityNode i) (to_parities (filter test (range_with_len a n)) m) ≡ m ∷ []
one-sent m test i zero a low high passes = absurd (omega (arith, low, high))
one-sent m test i (suc n) a low high passes = by (cases_eq i a) (test a) refl (λ above. one-sent m test i n (a + 1) above (omega (arith, high)) passes) where
  by : (i ≡ a) ⊎ (i ≢ a) → (b : Bool) → test a ≡ b → (a + 1 ≤ i → sent_to (ParityNode i) (to_parities (filter test (range_with_len (a + 1) n)) m) ≡ m ∷ [])
      → sent_to (ParityNode i) (to_parities (cond b (a ∷ filter test (range_with_len (a + 1) n)) (filter test (range_with_len (a + 1) n))) m) ≡ m ∷ []
  by (inl same) false is rest = absurd (cc (is, ap test (sym same) ∙ passes))
  by (inl same) true is rest =
      let here : same_process (ParityNode a) (ParityNode i) ≡ true = grind (arith, common_steps) in
      ap (λ (b : Bool). front_if b m (sent_to (ParityNode i) (to_parities (filter test (range_with_len (a + 1) n)) m))) here
      ∙ ap (λ (ms : List Message). m ∷ ms) (none-sent m test i n (a + 1) (omega (arith, same)))
  by (inr other) true is rest =
      let not_here : same_process (ParityNode a) (ParityNode i) ≡ false = grind (arith, common_steps) in
      ap (λ (b : Bool). front_if b m (sent_to (ParityNode i) (to_parities (filter test (range_with_len (a + 1) n)) m)))
      not_here ∙ rest (omega (arith, low, other))
  by (inr other) false is rest = rest (omega (arith, low, other))

pub sent-one : (s : Dimensions) (p : Process) (m : Message) (i : ℕ) → i < s.m → ParityNode i ≢ p.name
    → knows_dead p.known (ParityNode i) ≡ false → sent_to (ParityNode i) (to_others s p m) ≡ m ∷ []
sent-one s p m i within other unknown =
    one-sent m (λ j. not (same_process p.name (ParityNode j)) && not (knows_dead p.known (ParityNode j))) i s.m 0 (omega arith) (omega (arith, within))
    (ap (λ (b : Bool). not b && not (knows_dead p.known (ParityNode i))) (same-ne p.name (ParityNode i) (λ same. other (sym same))) ∙ ap not unknown)

pub sent-each : (P : Message → Type 0) (s : Dimensions) (p : Process) (m : Message) (q : ProcessId) → P m → Each P (sent_to q (to_others s p m))
sent-each P s p m q holds =
    each-sent_to (λ to. P) q (to_others s p m)
    (each-map (λ z. P z.message) (λ i. record { to = ParityNode i; message = m }) (other_parities s.m p.name p.known)
    (each-all (λ i. P m) (λ i. holds) (other_parities s.m p.name p.known)))

module _ (s : Dimensions) (d : ℕ) where
  still-ticketed : (b : Bool) (e : ℕ) (u : Update) (p : Process) (t : ProcessStep) → Still d p t → Still d p (ticketed b e u t).step
  still-ticketed true e u p t still = still
  still-ticketed false e u p t still =
      let same : SameIn d t.process (holding e u t.process) = record { name = refl; known = refl; head = refl; rank = refl; replica = refl } in
      record {
        same = same-in-trans still.same same;
        sent =
            each-weaker (λ z. Tells d t.process z.to z.message) (λ z. Tells d (holding e u t.process) z.to z.message)
            (λ z may. tells-same d t.process (holding e u t.process) same z.to z.message may) t.sent still.sent;
        quiet = still.quiet;
      }

  still-issued : (e : ℕ) (h : Head) (u : Update) (p : Process) → e ≢ d → Still d p (issued s e h u p)
  still-issued e h u p other =
      let told : Process = with_replica e (with_update u (replica_of p e)) p in
      let m : Message = tells.Update (rank h.rank) (partition e) u (replica_of p e).applied in
      still-then d p (sending (to_others s p m) told) (judge s e)
      (record {
        same = record {
          name = refl;
          known = refl;
          head = refl;
          rank = refl;
          replica = at-put-other empty_replica p.replicas e d (with_update u (replica_of p e))
              (λ same. other (sym same));
        };
        sent = told-others s d p told m (λ i. other);
        quiet = refl;
      })
      (still-judge s d e told other)

  -- a decision that issues nothing in the partition
  still-act : (name : CallName) (op : Asked) (e : ℕ) (h : Head) (p : Process) (decision : Decision) → e ≢ d → (Lost : Type 0) → (Lost → LeadsLost s p)
      → RestsWell (replica_of p e) Lost decision → Still d p (act_on s name op e h p decision).step
  still-act name op e h p (decides.Answer r) other Lost leads well = still-quiet d p p (same-in-refl d p)
  still-act name op e h p (decides.Retry n) other Lost leads well = still-quiet d p p (same-in-refl d p)
  still-act name op e h p decides.NoSpace other Lost leads well = still-quiet d p p (same-in-refl d p)
  still-act name op e h p (decides.NeedBlock b) other Lost leads well = still-retry s d p b (oldest_inherited p (range_with_len 0 s.k)) refl (leads well)
  still-act name op e h p (decides.Issue body outcome) other Lost leads well =
      let u : Update = update_of name op e body outcome p in
      still-ticketed (nat_le u.number (replica_of (issued s e h u p).process e).applied) e u p (issued s e h u p) (still-issued e h u p other)

  still-handed : (b : Bool) (e : ℕ) (h : Held) (p : Process) → Still d p (handed_out b e h p).step
  still-handed true e h p = still-quiet d p _ (record { name = refl; known = refl; head = refl; rank = refl; replica = refl })
  still-handed false e h p = still-quiet d p p (same-in-refl d p)

  still-held : (e : ℕ) (h : Option Held) (p : Process) (elsewhere : CallStep) → Still d p elsewhere.step → Still d p (collect_held e h p elsewhere).step
  still-held e None p elsewhere still = still
  still-held e (Some h) p elsewhere still = still-handed (nat_le h.number (replica_of p e).applied) e h p

  pub still-collect : (caller call : ℕ) (p : Process) (es : List ℕ) → Still d p (collect_from caller call p es).step
  still-collect caller call p [] = still-quiet d p p (same-in-refl d p)
  still-collect caller call p (e ∷ es) = still-held e (find (is_call caller call) (held_at p e)) p
      (collect_from caller call p es) (still-collect caller call p es)

  stable-told : (p : Process) (e : ℕ) (h : Option Head) → head_at p e ≡ h → Each (λ z. Tells d p z.to z.message) (tell_stable s p e h)
  stable-told p e None heads = tt
  stable-told p e (Some h) heads = told-others s d p p (tells.Stable (rank h.rank) (partition e) (replica_of p e).applied)
      (λ i here. (
        h,
        ap (head_at p) (sym here) ∙ heads,
        refl,
        (let same : (replica_of p e).applied ≡ (replica_of p d).applied = ap (λ (x : ℕ). (replica_of p x).applied) here
            in omega (arith, same)),
      ))

  pub still-flush : (p : Process) → Still d p (flush_process s p).step
  still-flush p = record {
    same = same-in-refl d p;
    sent =
        each-flat_map (λ z. Tells d p z.to z.message) (λ e. tell_stable s p e (head_at p e)) (range_with_len 0 s.k)
        (each-all (λ e. Each (λ z. Tells d p z.to z.message) (tell_stable s p e (head_at p e)))
        (λ e. stable-told p e (head_at p e) refl) (range_with_len 0 s.k));
    quiet = refl;
  }

  -- a call on another partition
  pub still-ask : (name : CallName) (op : Asked) (e : ℕ) (p : Process) (h : Option Head) → e ≢ d
      → ((g : Head) → h ≡ Some g → (run : Run) (b : ℕ) → found_at s e p p.name run ≡ Missing b → LeadsLost s p) → Still d p (ask_head s name op e p h).step
  still-ask name op e p None other leads = still-quiet d p p (same-in-refl d p)
  still-ask name op e p (Some h) other leads =
      let decision : Decision = decide (space_of s) h.inherited (replica_of p e) op (found_at s e p p.name) in
      still-act name op e h p decision other (LeadsLost s p) (λ lost. lost)
      (decides-well (space_of s) (replica_of p e) op (found_at s e p p.name) (LeadsLost s p) (leads h refl)
      h.inherited)

module _ (F : ℕ → ℕ → List Update → Type 0) (laws : HistoryLaws F) (s : Dimensions) (v : State) (members : Members s v) (d : ℕ) (below : d < s.k)
    (p : ProcessId) (pin : IsProcess s p) (lives : v.dead p ≡ false) (inn : ProcessId → List Message) where
  -- the head issues an update, and settles
  issued-leads : (settled : List Update) (proc : Process) (h : Head) (u : Update) → head_at proc d ≡ Some h
      → proc.name ≡ p → Spares F laws s v members d below p pin lives inn proc.known
      → length (replica_of proc d).log < window → u.number ≡ suc (last_of (replica_of proc d))
      → F d (replica_of proc d).applied (history settled (replica_of proc d) ++ u ∷ [])
      → LeadsFrom F laws s v members d below p pin lives inn settled proc (issued s d h u proc)
  issued-leads settled proc h u heads name spares few number keeps =
      then-from F laws s v members d below p pin lives inn settled proc (sending (to_others s proc m) told) (judge s d) first
      (judge-leads F laws s v members d below p pin lives inn d told name spares) (inl refl)
    where
      m : Message
      m = tells.Update (rank h.rank) (partition d) u (replica_of proc d).applied

      told : Process
      told = with_replica d (with_update u (replica_of proc d)) proc

      first : LeadsFrom F laws s v members d below p pin lives inn settled proc (sending (to_others s proc m) told)
      first out around =
          let own = around.own (keeper-rank d h.rank p (around.sits h heads).name) in
          let long = length-history settled (replica_of proc d) own.applied in
          subst (Around F s v d p told (λ q. out q ++ sent_to q (to_others s proc m)) inn) (sym (settled-none d [] settled refl))
          (act-issue F laws s v members d below p pin lives proc told out inn (λ q. sent_to q (to_others s proc m))
          settled h u heads refl refl
          (at-put empty_replica empty_replica proc.replicas d (with_update u (replica_of proc d)))
          (λ i iin other living. sent-one s proc m i iin (λ same. other (same ∙ name)) (spares i iin other living))
          (λ q seen. sent-each (AckFits d q seen) s proc m q tt) (λ q n. sent-each (AckBelow d n) s proc m q tt) few
          (numbered-append 1 (history settled (replica_of proc d)) (u ∷ []) own.fine.0 ((omega (arith, number, long)), tt), keeps) around)

  ticketed-leads : (settled : List Update) (proc : Process) (b : Bool) (u : Update) (t : ProcessStep)
      → LeadsFrom F laws s v members d below p pin lives inn settled proc t
      → LeadsFrom F laws s v members d below p pin lives inn settled proc (ticketed b d u t).step
  ticketed-leads settled proc true u t leads out around = leads out around
  ticketed-leads settled proc false u t leads out around =
      turn-same F laws s v members d below p pin lives inn t.process (holding d u t.process)
      (record { name = refl; known = refl; head = refl; rank = refl; replica = refl }) (λ q. out q ++ sent_to q t.sent) (settled_with t.settled d settled)
      (leads out around)

  act-leads : (settled : List Update) (proc : Process) (name : CallName) (op : Asked) (h : Head) (decision : Decision) → head_at proc d ≡ Some h → proc.name ≡ p
      → Spares F laws s v members d below p pin lives inn proc.known → (Lost : Type 0) → (Lost → LeadsLost s proc)
      → RestsWell (replica_of proc d) Lost decision
      → ((body : Body) (outcome : Outcome) → decision ≡ decides.Issue body outcome → F d (replica_of proc d).applied
      (history settled (replica_of proc d) ++ update_of name op d body outcome proc ∷ []))
      → LeadsFrom F laws s v members d below p pin lives inn settled proc (act_on s name op d h proc decision).step
  act-leads settled proc name op h (decides.Answer r) heads named spares Lost leads well keeps out around =
      still-leads F laws s v members d below p pin lives inn proc (quiet proc) (still-quiet d proc proc (same-in-refl d proc)) out settled around
  act-leads settled proc name op h (decides.Retry n) heads named spares Lost leads well keeps out around =
      still-leads F laws s v members d below p pin lives inn proc (quiet proc) (still-quiet d proc proc (same-in-refl d proc)) out settled around
  act-leads settled proc name op h decides.NoSpace heads named spares Lost leads well keeps out around =
      still-leads F laws s v members d below p pin lives inn proc (quiet proc) (still-quiet d proc proc (same-in-refl d proc)) out settled around
  act-leads settled proc name op h (decides.NeedBlock b) heads named spares Lost leads well keeps out around =
      still-leads F laws s v members d below p pin lives inn proc _
      (still-retry s d proc b (oldest_inherited proc (range_with_len 0 s.k)) refl (leads well)) out settled around
  act-leads settled proc name op h (decides.Issue body outcome) heads named spares Lost leads well keeps out around =
      let u : Update = update_of name op d body outcome proc in
      ticketed-leads settled proc (nat_le u.number (replica_of (issued s d h u proc).process d).applied) u (issued s d h u proc)
      (issued-leads settled proc h u heads named spares well refl (keeps body outcome refl)) out around

  pub ask-leads : (settled : List Update) (proc : Process) (name : CallName) (op : Asked) (h : Option Head) → head_at proc d ≡ h → proc.name ≡ p
      → Spares F laws s v members d below p pin lives inn proc.known
      → ((g : Head) → h ≡ Some g → (run : Run) (b : ℕ) → found_at s d proc proc.name run ≡ Missing b → LeadsLost s proc)
      → ((g : Head) (body : Body) (outcome : Outcome) → head_at proc d ≡ Some g → decide (space_of s) g.inherited
      (replica_of proc d) op (found_at s d proc proc.name) ≡ decides.Issue body outcome
      → F d (replica_of proc d).applied (history settled (replica_of proc d) ++ update_of name op d body outcome proc ∷ []))
      → LeadsFrom F laws s v members d below p pin lives inn settled proc (ask_head s name op d proc h).step
  ask-leads settled proc name op None heads named spares leads keeps out around =
      still-leads F laws s v members d below p pin lives inn proc (quiet proc) (still-quiet d proc proc (same-in-refl d proc)) out settled around
  ask-leads settled proc name op (Some h) heads named spares leads keeps out around =
      act-leads settled proc name op h
      (decide (space_of s) h.inherited (replica_of proc d) op (found_at s d proc proc.name)) heads named spares
      (LeadsLost s proc) (λ lost. lost)
      (decides-well (space_of s) (replica_of proc d) op (found_at s d proc proc.name) (LeadsLost s proc) (leads h refl)
      h.inherited) (λ body outcome is. keeps h body outcome heads is) out around
