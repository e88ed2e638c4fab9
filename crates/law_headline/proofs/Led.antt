-- A leader heads every partition that an open session of it is for.
use Rattle.std.proofs.Common.{ℕ, ◌≡◌, ◌≢◌, ◌<◌, ◌==◌, nat_le, Bool, true, false, List, [], ◌∷◌, find, Option, Some}
use Rattle.std.proofs.Common.{None, ◌⊎◌, inl, inr, refl, sym, ap, subst, ◌∙◌}
use Rattle.std.specs.Prelude.{Contains}
use Rattle.std.specs.List.{range_with_len}
use Rattle.group_types.specs.Dimensions.{Dimensions, space_of}
use Rattle.group_types.specs.Hash.{home_of}
use Rattle.group_types.specs.Names.{IsProcess}
use Rattle.group_types.specs.declared.process.ProcessId.{ProcessId}
use Rattle.group_types.specs.declared.process.ProcessId.TheVariants.{DataNode}
use Rattle.group_types.specs.declared.run.Run.{Run}
use Rattle.group_types.proofs.Names.{same-cases}
use Rattle.group_types.specs.Each.{Each}
use Rattle.membership.specs.Members.{Membership, knows_dead}
use Rattle.memc_table.specs.Act.{key_of}
use Rattle.memc_table.specs.Asked.{Asked}
use Rattle.group_message.specs.declared.message.Message.{Message}
use Rattle.group_message.specs.declared.update.Update.{Update}
use Rattle.group_calls.specs.Turns.{CallName}
use Rattle.group_calls.specs.declared.decision.Decision.{Decision}
use Rattle.group_calls.specs.declared.decision.Decision.TheVariants as decides
use Rattle.group_run.specs.Applying.{ProcessStep, head_at, held_at, replica_of, with_replica}
use Rattle.group_run.specs.Asking.{act_on, ask_head, ask_process, collect_from, collect_held, found_at, handed_out, is_call, issued, ticketed, update_of}
use Rattle.group_run.specs.Deciding.{Missing, decide}
use Rattle.group_run.specs.Heading.{judge_head}
use Rattle.group_run.specs.Leaders.{open_session}
use Rattle.group_run.specs.Process.{Gathering, Head, Held, Process}
use Rattle.group_run.specs.Receiving.{receive}
use Rattle.group_run.specs.Replica.{with_update}
use Rattle.law_moves.proofs.Moves.{Acted, Died, Popped}
use Rattle.law_moves.specs.State.{State}
use Rattle.law_moves.proofs.State.{Opens}
use Rattle.law_moves.proofs.Members.{Members}
use Rattle.law_histories.proofs.Around.{Since}
use Rattle.law_histories.proofs.Deciding.{RestsWell, decides-well}
use Rattle.law_histories.proofs.Keeping.{leads-lost}
use Rattle.law_histories.proofs.Rows.{LeadsLost}
use Rattle.law_bytes.proofs.Finds.{found-each}
use Rattle.law_bytes.proofs.Rising.{among-filter, contains-among}
use Rattle.law_bytes.proofs.LeadingWords.{IsFor, SessionsFit, lost_by}
use Rattle.law_bytes.proofs.Bearing.{Bears, bears-receive}

-- the process heads the partition
abbrev pub HeadsIt : Process → ℕ → Type 0
HeadsIt p e = (h : Head) × (head_at p e ≡ Some h)

-- it heads the lost partitions of its open sessions
abbrev pub ProcessLed : Dimensions → Process → Type 0
ProcessLed s p = (n : ℕ) (g : Gathering) → open_session p.as_leader n ≡ Some g → (e : ℕ) → Contains g.lost e → e < s.k → HeadsIt p e

abbrev pub LostLed : Dimensions → State → Type 0
LostLed s v = (p : ProcessId) → IsProcess s p → v.dead p ≡ false → ProcessLed s (v.process p)

module _ (s : Dimensions) where
  stays-led : (p q : Process) → ((d : ℕ) → d < s.k → Since d p q) → (e : ℕ) → e < s.k → HeadsIt p e → HeadsIt q e
  stays-led p q since e below heads = let grown = (since e below).heads heads.0 heads.1 in (grown.head, grown.heads)

  -- sessions that were open before
  borne-led : (p q : Process) → ((n : ℕ) → Bears s n p q) → ((d : ℕ) → d < s.k → Since d p q) → ProcessLed s p → ProcessLed s q
  borne-led p q bears since led n g opens e lost below =
      let before = bears n g opens in
      stays-led p q since e below (led n before.session before.opens e (subst (λ (ls : List ℕ). Contains ls e) before.lost lost) below)

  same-led : (p q : Process) → q.as_leader.sessions ≡ p.as_leader.sessions → ((d : ℕ) → d < s.k → Since d p q) → ProcessLed s p → ProcessLed s q
  same-led p q same since led n g opens e lost below =
      stays-led p q since e below
      (led n g (sym (ap (λ (gs : List Gathering). find (λ x. x.number == n) gs) same) ∙ opens) e lost below)

  -- whoever leads all lost partitions
  leads-led : (p q : Process) → LeadsLost s p → q.known ≡ p.known → Each (IsFor s q.known) q.as_leader.sessions
      → ((d : ℕ) → d < s.k → Since d p q) → ProcessLed s q
  leads-led p q leads known fits since n g opens e lost below =
      let is : IsFor s q.known g = (found-each (λ x. x.number == n) (IsFor s q.known) q.as_leader.sessions g opens fits).1 in
      let among = among-filter (λ d. knows_dead q.known (DataNode d)) e (range_with_len 0 s.k)
      (contains-among (lost_by s q.known) e (subst (λ (ls : List ℕ). Contains ls e) is.lost lost)) in
      let head = leads e below (ap (λ (k : Membership). knows_dead k (DataNode e)) (sym known) ∙ among.1) in
      stays-led p q since e below (head.0, head.1)

  -- calls
  judged-sessions : (d : ℕ) (p : Process) (o : Option Head) → (judge_head s d p o).process.as_leader.sessions ≡ p.as_leader.sessions
  judged-sessions d p None = refl
  judged-sessions d p (Some h) = refl

  ticketed-sessions : (b : Bool) (d : ℕ) (u : Update) (t : ProcessStep) → (ticketed b d u t).step.process.as_leader.sessions ≡ t.process.as_leader.sessions
  ticketed-sessions true d u t = refl
  ticketed-sessions false d u t = refl

  pub collected-sessions : (caller call : ℕ) (p : Process) (ds : List ℕ)
      → (collect_from caller call p ds).step.process.as_leader.sessions ≡ p.as_leader.sessions
  collected-sessions caller call p [] = refl
  collected-sessions caller call p (d ∷ ds) = by (find (is_call caller call) (held_at p d)) (collected-sessions caller call p ds) where
    handed : (b : Bool) (h : Held) → (handed_out b d h p).step.process.as_leader.sessions ≡ p.as_leader.sessions
    handed true h = refl
    handed false h = refl

    by : (o : Option Held) → (collect_from caller call p ds).step.process.as_leader.sessions ≡ p.as_leader.sessions
        → (collect_held d o p (collect_from caller call p ds)).step.process.as_leader.sessions ≡ p.as_leader.sessions
    by None rest = rest
    by (Some h) rest = handed (nat_le h.number (replica_of p d).applied) h

  -- a call that is asked leaves the sessions, or its head leads all lost partitions
  act-sessions : (name : CallName) (op : Asked) (d : ℕ) (h : Head) (p : Process) (decision : Decision) → RestsWell (replica_of p d) (LeadsLost s p) decision
      → ((act_on s name op d h p decision).step.process.as_leader.sessions ≡ p.as_leader.sessions) ⊎ LeadsLost s p
  act-sessions name op d h p (decides.Answer r) well = inl refl
  act-sessions name op d h p (decides.Retry n) well = inl refl
  act-sessions name op d h p decides.NoSpace well = inl refl
  act-sessions name op d h p (decides.NeedBlock b) well = inr well
  act-sessions name op d h p (decides.Issue body outcome) well =
      let u : Update = update_of name op d body outcome p in
      let told : Process = with_replica d (with_update u (replica_of p d)) p in
      inl (ticketed-sessions (nat_le u.number (replica_of (issued s d h u p).process d).applied) d u (issued s d h u p)
      ∙ judged-sessions d told (head_at told d))

  ask-sessions : (name : CallName) (op : Asked) (d : ℕ) (p : Process) (o : Option Head)
      → ((h : Head) → o ≡ Some h → (run : Run) (b : ℕ) → found_at s d p p.name run ≡ Missing b → LeadsLost s p)
      → ((ask_head s name op d p o).step.process.as_leader.sessions ≡ p.as_leader.sessions) ⊎ LeadsLost s p
  ask-sessions name op d p None leads = inl refl
  ask-sessions name op d p (Some h) leads =
      act-sessions name op d h p (decide (space_of s) h.inherited (replica_of p d) op (found_at s d p p.name))
      (decides-well (space_of s) (replica_of p d) op (found_at s d p p.name) (LeadsLost s p) (leads h refl) h.inherited)

  acted-led : (v w : State) (p : ProcessId) (q : Process) → w.process p ≡ q → ((x : ProcessId) → IsProcess s x → x ≢ p → w.process x ≡ v.process x)
      → ((x : ProcessId) → IsProcess s x → w.dead x ≡ v.dead x) → ProcessLed s q → LostLed s v → LostLed s w
  acted-led v w p q is others dead own led x xin lives = by (same-cases x p) where
    by : (x ≡ p) ⊎ (x ≢ p) → ProcessLed s (w.process x)
    by (inl same) = subst (ProcessLed s) (sym (ap w.process same ∙ is)) own
    by (inr other) = subst (ProcessLed s) (sym (others x xin other)) (led x xin (sym (dead x xin) ∙ lives))

  module _ (v w : State) (members : Members s v) (p : ProcessId) (pin : IsProcess s p) (lives : v.dead p ≡ false) (led : LostLed s v) where
    pub asked-led : (name : CallName) (op : Asked) → home_of (key_of op.act) s.k < s.k → Acted s v w p (ask_process s name op (v.process p)).step
        → (ask_process s name op (v.process p)).step.process.known ≡ (v.process p).known
        → SessionsFit s w → ((d : ℕ) → d < s.k → Since d (v.process p) (w.process p)) → LostLed s w
    asked-led name op below acts known fits since =
        acted-led v w p (ask_process s name op (v.process p)).step.process acts.process acts.others acts.dead
        (by (ask-sessions name op (home_of (key_of op.act) s.k) (v.process p) (head_at (v.process p) (home_of (key_of op.act) s.k)) leads)) led
      where
        own-since : (d : ℕ) → d < s.k → Since d (v.process p) (ask_process s name op (v.process p)).step.process
        own-since d low = subst (Since d (v.process p)) acts.process (since d low)

        leads : (h : Head) → head_at (v.process p) (home_of (key_of op.act) s.k) ≡ Some h → (run : Run) (b : ℕ)
            → found_at s (home_of (key_of op.act) s.k) (v.process p) (v.process p).name run ≡ Missing b → LeadsLost s (v.process p)
        leads h heads run b missing = leads-lost s v members p pin lives (home_of (key_of op.act) s.k) h run b below heads p refl
            (ap (λ (y : ProcessId). found_at s (home_of (key_of op.act) s.k) (v.process p) y run) (sym (members.named p pin)) ∙ missing)

        by : ((ask_process s name op (v.process p)).step.process.as_leader.sessions ≡ (v.process p).as_leader.sessions) ⊎ LeadsLost s (v.process p)
            → ProcessLed s (ask_process s name op (v.process p)).step.process
        by (inl same) = same-led (v.process p) (ask_process s name op (v.process p)).step.process same own-since (led p pin lives)
        by (inr all) = leads-led (v.process p) (ask_process s name op (v.process p)).step.process all known
            (subst (λ (y : Process). Each (IsFor s y.known) y.as_leader.sessions) acts.process (fits p pin (acts.dead p pin ∙ lives))) own-since

    pub same-sessions-led : (t : ProcessStep) → Acted s v w p t → t.process.as_leader.sessions ≡ (v.process p).as_leader.sessions
        → ((d : ℕ) → d < s.k → Since d (v.process p) (w.process p)) → LostLed s w
    same-sessions-led t acts same since = acted-led v w p t.process acts.process acts.others acts.dead
        (same-led (v.process p) t.process same (λ d low. subst (Since d (v.process p)) acts.process (since d low)) (led p pin lives)) led

    pub received-led : (u : State) (x : ProcessId) (m : Message) → Popped s v u x p m → Acted s u w p (receive s x m (v.process p))
        → ((d : ℕ) → d < s.k → Since d (v.process p) (w.process p)) → LostLed s w
    received-led u x m pops acts since =
        acted-led v w p (receive s x m (v.process p)).process acts.process (λ q qin other. acts.others q qin other
        ∙ pops.processes q qin) (λ q qin. acts.dead q qin ∙ pops.dead q qin)
        (borne-led (v.process p) (receive s x m (v.process p)).process (λ n. bears-receive s n x m (v.process p))
        (λ d low. subst (Since d (v.process p)) acts.process (since d low)) (led p pin lives)) led

  pub died-led : (v w : State) (p : ProcessId) (keep : ℕ) → Died s v w p keep → LostLed s v → LostLed s w
  died-led v w p keep dies led x xin living = subst (ProcessLed s) (sym (dies.processes x xin)) (led x xin lived) where
    lived : v.dead x ≡ false
    lived = sym (dies.others x xin (λ same. cc (living, ap w.dead same, dies.dead))) ∙ living

  pub began-led : (v : State) → Opens s v → LostLed s v
  began-led v starts p pin lives n g opens = absurd (cc (sym (ap (λ (y : Process). open_session y.as_leader n) (starts.process p pin)) ∙ opens))
