-- What a process makes of a message other than a notice, told of one partition.
use Rattle.std.proofs.Common.{ℕ, suc, ◌≡◌, ◌≢◌, ◌<◌, ◌≤◌, ◌+◌, ◌-◌, ◌==◌, max, nat_le, Bool, true, false, List, [], ◌∷◌}
use Rattle.std.proofs.Common.{◌++◌, length, take, Option, Some, None, ◌⊎◌, inl, inr, refl, sym, ap, subst, ◌∙◌}
use Rattle.std.proofs.Common.{if◌then◌else◌, arith}
use Rattle.std.proofs.lemmas.Bool.{cases_eq}
use Rattle.std.proofs.lemmas.Grind.{common_steps}
use Rattle.std.proofs.lemmas.List.{length-append, length-drop, length-take-le, take-append-le}
use Rattle.std.specs.Prelude.{option_map}
use Rattle.group_types.specs.Dimensions.{Dimensions}
use Rattle.group_types.specs.Lists.{at}
use Rattle.group_types.specs.Names.{IsProcess, of_rank}
use Rattle.group_types.specs.declared.process.ProcessId.{ProcessId}
use Rattle.group_types.specs.declared.process.ProcessId.TheVariants.{DataNode, ParityNode}
use Rattle.group_types.proofs.Lists.{at-put, at-put-other}
use Rattle.group_types.specs.Each.{Each}
use Rattle.group_types.proofs.Eaches.{each-all, each-map}
use Rattle.membership.specs.Members.{knows_dead}
use Rattle.group_message.specs.declared.message.Message.{Message}
use Rattle.group_message.specs.declared.message.Message.TheVariants as tells
use Rattle.group_message.specs.declared.message.Session.{Session}
use Rattle.group_message.specs.declared.update.Update.{Update}
use Rattle.group_run.specs.Applying.{ProcessStep, apply_to, head_at, quiet, replica_of, when, with_head}
use Rattle.group_run.specs.Heading.{acknowledge, acknowledged, judge, partition, rank}
use Rattle.group_run.specs.History.{settled_with, history}
use Rattle.group_run.specs.Leaders.{mark_comes, mark_taken}
use Rattle.group_run.specs.Process.{Head, Process}
use Rattle.group_run.specs.Receiving.{ack_to, adopt_comes, adopting, log_adopted, read_comes, receive, stable_comes, update_comes, update_taken, with_rank}
use Rattle.group_run.specs.Replica.{Replica, applied_to, empty_replica, last_of, with_update}
use Rattle.group_run.specs.Rows.{accepts_mark, begin_copy, copy_in, parity_number}
use Rattle.group_run.specs.World.{sent_to}
use Rattle.law_moves.specs.State.{State}
use Rattle.law_moves.proofs.Members.{IsFrom, IsParity, MayStand, Members, Sits}
use Rattle.law_moves.specs.Known.{is_notice}
use Rattle.law_moves.proofs.Standing.{each-sent_to}
use Rattle.law_histories.proofs.LaneWords.{AckFits, AckGoes, AdoptGoes, Fine, Goes, MarkGoes, NumberGoes, Prolongs}
use Rattle.law_histories.proofs.LaneWords.{Seen, UpdateGoes, appended, is_live, next, raised, replaced}
use Rattle.law_histories.proofs.Reach.{IsKeeper, ReplicaFits, seen_at}
use Rattle.law_histories.proofs.HistoryWords.{HistoryLaws}
use Rattle.law_histories.proofs.Acts.{Tells, act-pop, act-send}
use Rattle.law_histories.proofs.Around.{Around, HeadSits}
use Rattle.law_histories.proofs.Heads.{act-acked, fits-applied, replica-apply_to}
use Rattle.law_histories.proofs.Hears.{act-hear}
use Rattle.law_histories.proofs.Histories.{applied-is, history-adopted, history-applied, history-with_update, last-number, length-history, log-left}
use Rattle.law_histories.proofs.Lanes.{Lower, live-is, stale-next}
use Rattle.law_histories.proofs.Ranks.{Used, used}
use Rattle.law_histories.proofs.Rows.{same-begin, still-copy_marked, still-mark}
use Rattle.law_histories.proofs.Steps.{LeadsFrom, SameIn, Still, judge-leads, same-apply, same-in-refl, same-in-trans}
use Rattle.law_histories.proofs.Steps.{settled-none, still-from, still-judge, still-leads, still-quiet, still-when}
use Rattle.law_histories.proofs.Folds.{Along}

pub parity-is : (p : ProcessId) → IsParity p → (i : ℕ) × (p ≡ ParityNode i)
parity-is (ParityNode i) parity = (i, refl)
parity-is (DataNode e) parity = absurd parity

-- a seat is a head
pub seat-some : (h : Option Head) (r : ℕ) → option_map (λ (x : Head). x.rank) h ≡ Some r → (g : Head) × (h ≡ Some g) × (g.rank ≡ r)
seat-some None r seat = absurd (cc seat)
seat-some (Some g) r seat = (g, refl, cc seat)

-- a new head's list in the place of a log
fits-update : (F : ℕ → ℕ → List Update → Type 0) (laws : HistoryLaws F) (d : ℕ) (settled : List Update) (r : Replica)
    (seen : Seen) (rank stable : ℕ) (u : Update)
    → seen.history ≡ history settled r → UpdateGoes F d settled seen rank u stable
    → ReplicaFits F d settled r None → ReplicaFits F d settled (with_update u (applied_to stable r)) None
fits-update F laws d settled r seen rank stable u is goes fits = record {
  applied = moved.applied;
  prolongs = subst (Prolongs settled) (sym whole) (record {
    reaches = let long = length-append (history settled r) (u ∷ []) in let reach = fits.prolongs.reaches in omega (arith, long, reach);
    front = take-append-le (length settled) (history settled r) (u ∷ []) fits.prolongs.reaches ∙ fits.prolongs.front;
  });
  short =
      let left = log-left settled r fits.applied stable within in
      let long = length-append (applied_to stable r).log (u ∷ []) in
      let few = goes.few in
      let low = fits.short in
      let all = length-history settled r fits.applied in
      omega (arith, left, long, few, low, all, number, stable_low);
  fine = subst (λ (a : ℕ). Fine F d a (history settled (with_update u (applied_to stable r)))) (sym moved_is)
      (subst (Fine F d (max r.applied stable)) (sym whole) (
        fine.0,
        laws.rises d stable (max r.applied stable) (history settled r ++ u ∷ []) fine.1 (omega arith)
            (let long = length-append (history settled r) (u ∷ []) in let all = length-history settled r fits.applied in
            let low = fits.applied in let reach = fits.prolongs.reaches in
            omega (arith, long, all, low, reach, stable_low)),
      ));
  holds = record { items = moved.holds.items; kept = moved.holds.kept };
  heads = λ h none. absurd (cc none);
} where
  moved : ReplicaFits F d settled (applied_to stable r) None
  moved = fits-applied F laws d settled r None stable goes.stable_settled fits

  stable_low : stable ≤ length settled
  stable_low = goes.stable_settled

  within : stable ≤ last_of r
  within = let all = length-history settled r fits.applied in let reach = fits.prolongs.reaches in omega (arith, all, reach, stable_low)

  moved_is : (applied_to stable r).applied ≡ max r.applied stable
  moved_is = applied-is settled r fits.applied stable within

  whole : history settled (with_update u (applied_to stable r)) ≡ history settled r ++ u ∷ []
  whole = history-with_update settled (applied_to stable r) moved.applied u ∙ ap (λ (us : List Update). us ++ u ∷ [])
      (history-applied settled r fits.applied fits.prolongs stable stable_low)

  fine : Fine F d stable (history settled r ++ u ∷ [])
  fine = subst (λ (us : List Update). Fine F d stable (us ++ u ∷ [])) is goes.fine

  number : u.number ≡ suc (length (history settled r))
  number = last-number (history settled r) u fine.0

-- an adopted log
fits-adopted : (F : ℕ → ℕ → List Update → Type 0) (laws : HistoryLaws F) (d : ℕ) (settled : List Update) (r : Replica)
    (seen : Seen) (rank base : ℕ) (list : List Update)
    → seen.history ≡ history settled r → AdoptGoes F d settled seen rank base list
    → ReplicaFits F d settled r None
    → ReplicaFits F d settled (adopting base list (applied_to base r)) None
    × (history settled (adopting base list (applied_to base r)) ≡ take base (history settled r) ++ list)
fits-adopted F laws d settled r seen rank base list is goes fits = (
  record {
    applied = moved.applied;
    prolongs = subst (Prolongs settled) (sym whole) prolongs;
    short = let left = length-drop ((applied_to base r).applied - base) list in let few = goes.few in omega (arith, left, few);
    fine = subst (λ (a : ℕ). Fine F d a (history settled (adopting base list (applied_to base r)))) (sym moved_is)
        (subst (Fine F d (max r.applied base)) (sym whole) (
          fine.0,
          laws.rises d base (max r.applied base) (take base (history settled r) ++ list) fine.1 (omega arith)
              (let reach = prolongs.reaches in let low = fits.applied in omega (arith, reach, low, base_low)),
        ));
    holds = record { items = moved.holds.items; kept = moved.holds.kept };
    heads = λ h none. absurd (cc none);
  },
  whole,
) where
  base_low : base ≤ length settled
  base_low = goes.base_settled

  moved : ReplicaFits F d settled (applied_to base r) None
  moved = fits-applied F laws d settled r None base base_low fits

  moved_is : (applied_to base r).applied ≡ max r.applied base
  moved_is = applied-is settled r fits.applied base (let all = length-history settled r fits.applied in
      let reach = fits.prolongs.reaches in omega (arith, all, reach, base_low))

  prolongs : Prolongs settled (take base (history settled r) ++ list)
  prolongs = subst (λ (us : List Update). Prolongs settled (take base us ++ list)) is goes.prolongs

  fine : Fine F d base (take base (history settled r) ++ list)
  fine = subst (λ (us : List Update). Fine F d base (take base us ++ list)) is goes.fine

  whole : history settled (adopting base list (applied_to base r)) ≡ take base (history settled r) ++ list
  whole =
      history-adopted settled list base (applied_to base r) moved.applied (omega (arith, moved_is)) (history settled r)
      (let reach = fits.prolongs.reaches in omega (arith, reach, base_low)) prolongs

module _ (F : ℕ → ℕ → List Update → Type 0) (laws : HistoryLaws F) (s : Dimensions) (v : State) (members : Members s v)
    (d : ℕ) (below : d < s.k) (p : ProcessId) (pin : IsProcess s p) (lives : v.dead p ≡ false)
    (spares : (i : ℕ) → i < s.m → ParityNode i ≢ p → v.dead (ParityNode i) ≡ false → knows_dead (v.process p).known (ParityNode i) ≡ false)
    (x : ProcessId) (xin : IsProcess s x) (xother : x ≢ p) (left : ProcessId → List Message)
    (rest : (y : ProcessId) → IsProcess s y → y ≢ x → left y ≡ v.link y p)
    (around : Around F s v d p (v.process p) (v.link p) (λ y. v.link y p) (v.settled d)) where
  abbrev proc : Process
  proc = v.process p

  abbrev settled : List Update
  settled = v.settled d

  abbrev seen : Seen
  seen = seen_at d settled proc

  -- what a step leads to, with the message off its link
  abbrev pub Comes : ProcessStep → Type 0
  Comes t = Around F s v d p t.process (λ q. v.link p q ++ sent_to q t.sent) left (settled_with t.settled d settled)

  abbrev First : Message → Type 0
  First m = v.link x p ≡ m ∷ left x

  -- the message is taken off, and the step keeps what is reached
  pops : (m : Message) → First m → ((i : ℕ) → p ≡ ParityNode i → next d seen m ≡ seen) → (t : ProcessStep)
      → LeadsFrom F laws s v members d below p pin lives left settled proc t → Comes t
  pops m first stays t leads =
      leads (v.link p) (act-pop F s v members d below p pin lives proc (v.link p) (λ y. v.link y p) left settled x m
      first rest xin xother stays around)

  pops-still : (m : Message) → First m → ((i : ℕ) → p ≡ ParityNode i → next d seen m ≡ seen) → (t : ProcessStep) → Still d proc t → Comes t
  pops-still m first stays t still = pops m first stays t (λ out. still-leads F laws s v members d below p pin lives left proc t still out settled)

  quiet-still : Still d proc (quiet proc)
  quiet-still = still-quiet d proc proc (same-in-refl d proc)

  may-first : (m : Message) → First m → MayStand s v x p m
  may-first m first = (subst (Each (MayStand s v x p)) first (around.may x xin xother)).0

  goes-first : (m : Message) → First m → IsParity p → Goes F d settled seen m
  goes-first m first parity = let at_i = parity-is p parity in
      (subst (Along (next d) (Goes F d settled) seen) first (around.inward x at_i.0 at_i.1 xin xother).goes).0

  parity-keeps : IsParity p → IsKeeper d p
  parity-keeps parity = subst (IsKeeper d) (sym (parity-is p parity).1) tt

  -- whoever hears a rank that is in use, and not below its own, isn't the head
  hears-none : (r : ℕ) → Used s v d x r → at 0 proc.ranks d ≤ r → head_at proc d ≡ None
  hears-none r from low = by (head_at proc d) refl where
    by : (h : Option Head) → head_at proc d ≡ h → head_at proc d ≡ None
    by None is = is
    by (Some h) is = absurd (which (cases_eq h.rank r)) where
      sits : HeadSits v d p proc h
      sits = around.sits h is

      which : (h.rank ≡ r) ⊎ (h.rank ≢ r) → ⊥
      which (inl same) = xother (from.0 ∙ ap (of_rank d) (sym same) ∙ sym sits.name)
      which (inr other) = let own = sits.rank in cc (from.1.below h.rank (omega (arith, other, own, low)), ap v.dead sits.name, lives)

  -- what is heard is acknowledged
  acked : (new : Process) (r n : ℕ) → x ≡ of_rank d r → at 0 new.ranks d ≡ r → n ≤ last_of (replica_of new d)
      → Around F s v d p new (v.link p) left settled → Comes (ack_to x r d n new)
  acked new r n name now has heard =
      subst (Around F s v d p new (λ q. v.link p q ++ sent_to q (ack_to x r d n new).sent) left) (sym (settled-none d [] settled refl))
      (act-send F s v members d below p pin lives new (v.link p) left (λ q. sent_to q (ack_to x r d n new).sent) settled
      (λ q. each-sent_to (λ to m. Tells d new to m) q (ack_to x r d n new).sent ((λ here. (name, now, has)), tt))
      heard)

  none-fits : (head : Option Head) → head ≡ None → ReplicaFits F d settled (replica_of proc d) head → ReplicaFits F d settled (replica_of proc d) None
  none-fits head none fits = subst (ReplicaFits F d settled (replica_of proc d)) none fits

  -- an update
  abbrev taken : Update → ℕ → Process
  taken u stable = update_taken s d u stable proc

  update-here : (b : Bool) (r : ℕ) (u : Update) (stable : ℕ) → nat_le (at 0 proc.ranks d) r ≡ b → First (tells.Update (rank r) (partition d) u stable)
      → Comes (when b proc (ack_to x r d u.number (update_taken s d u stable proc)))
  update-here false r u stable is first =
      pops-still (tells.Update (rank r) (partition d) u stable) first
      (λ i pis. stale-next d seen (tells.Update (rank r) (partition d) u stable) (λ here. grind (arith, common_steps))) (quiet proc) quiet-still
  update-here true r u stable is first =
      acked (taken u stable) r u.number from.0 (sym goes.rank)
      (let long = length-history settled (replica_of (taken u stable) d) new_fits.applied in
      let whole : length (history settled (replica_of (taken u stable) d)) ≡ length (history settled r0 ++ u ∷ []) =
      ap length hist_new in let more = length-append (history settled r0) (u ∷ []) in let number =
      last-number (history settled r0) u goes.fine.0 in omega (arith, long, whole, more, number))
      (act-hear F laws s v members d below p pin lives proc (taken u stable) left settled x m r first rest xin xother
      from none none hears low (sym goes.rank) new_fits more (parity-keeps parity) around)
    where
      m : Message
      m = tells.Update (rank r) (partition d) u stable

      low : at 0 proc.ranks d ≤ r
      low = grind (arith, common_steps)

      live : is_live d seen d r ≡ true
      live = live-is d seen d r refl low

      may : IsFrom s v x d r × IsParity p
      may = may-first (tells.Update (rank r) (partition d) u stable) first

      parity : IsParity p
      parity = may.1

      from : Used s v d x r
      from = used s v d x d r refl may.0

      goes : UpdateGoes F d settled seen r u stable
      goes = goes-first (tells.Update (rank r) (partition d) u stable) first parity live

      none : head_at proc d ≡ None
      none = hears-none r from low

      r0 : Replica
      r0 = replica_of proc d

      is_new : replica_of (taken u stable) d ≡ with_update u (applied_to stable r0)
      is_new = at-put empty_replica empty_replica _ d _ ∙ ap (with_update u) (replica-apply_to s d stable proc)

      own : ReplicaFits F d settled r0 None
      own = none-fits (head_at proc d) none (around.own (parity-keeps parity))

      new_fits : ReplicaFits F d settled (replica_of (taken u stable) d) (head_at (taken u stable) d)
      new_fits =
          subst (λ (y : Replica). ReplicaFits F d settled y (head_at proc d)) (sym is_new)
          (subst (ReplicaFits F d settled (with_update u (applied_to stable r0))) (sym none) (fits-update F laws d settled r0 seen r stable u refl goes own))

      more : r0.applied ≤ (replica_of (taken u stable) d).applied
      more = subst (λ (y : Replica). r0.applied ≤ y.applied) (sym is_new) (omega arith)

      moved : ReplicaFits F d settled (applied_to stable r0) None
      moved = fits-applied F laws d settled r0 None stable goes.stable_settled own

      hist_new : history settled (replica_of (taken u stable) d) ≡ history settled r0 ++ u ∷ []
      hist_new =
          ap (history settled) is_new ∙ history-with_update settled (applied_to stable r0) moved.applied u
          ∙ ap (λ (us : List Update). us ++ u ∷ []) (history-applied settled r0 own.applied own.prolongs stable goes.stable_settled)

      hears : Lower F d settled (seen_at d settled (taken u stable)) (next d seen m)
      hears = subst (λ (b : Bool). Lower F d settled (seen_at d settled (taken u stable)) (appended b u stable seen)) (sym live) (record {
        rank = refl;
        history = hist_new;
        number =
            let now : (replica_of (taken u stable) d).applied ≡ (applied_to stable r0).applied = ap (λ (y : Replica). y.applied) is_new in
            let moves = applied-is settled r0 own.applied stable
            (let all = length-history settled r0 own.applied in let reach = own.prolongs.reaches in
            let most = goes.stable_settled in omega (arith, all, reach, most)) in
            omega (arith, now, moves);
      })

  update-comes : (e : ℕ) (r : ℕ) (u : Update) (stable : ℕ) → First (tells.Update (rank r) (partition e) u stable)
      → (e ≡ d) ⊎ (e ≢ d) → Comes (update_comes s x r e u stable proc)
  update-comes e r u stable first (inl same) =
      subst (λ (k : ℕ). Comes (update_comes s x r k u stable proc)) (sym same)
      (update-here (nat_le (at 0 proc.ranks d) r) r u stable refl (subst (λ (k : ℕ). First (tells.Update (rank r) (partition k) u stable)) same first))
  update-comes e r u stable first (inr other) =
      pops-still (tells.Update (rank r) (partition e) u stable) first
      (λ i pis. stale-next d seen (tells.Update (rank r) (partition e) u stable) (λ here. absurd (other here))) (update_comes s x r e u stable proc)
      (still-when d (nat_le (at 0 proc.ranks e) r) proc (ack_to x r e u.number (update_taken s e u stable proc)) (record {
        same =
            same-in-trans (same-apply s d e stable proc other)
            (record {
              name = refl;
              known = refl;
              head = refl;
              rank = refl;
              replica = at-put-other empty_replica (apply_to s e stable proc).replicas e d _
                  (λ same. other (sym same));
            });
        sent = ((λ here. absurd (other here)), tt);
        quiet = refl;
      }))

  -- a new head's list
  abbrev adopted : ℕ → ℕ → List Update → Process
  adopted r base list = log_adopted s r d base list proc

  adopt-here : (b : Bool) (r base : ℕ) (list : List Update) → nat_le (at 0 proc.ranks d) r ≡ b → First (tells.Adopt (rank r) (partition d) base list)
      → Comes (when b proc (ack_to x r d (base + length list) (adopted r base list)))
  adopt-here false r base list is first =
      pops-still (tells.Adopt (rank r) (partition d) base list) first
      (λ i pis. stale-next d seen (tells.Adopt (rank r) (partition d) base list) (λ here. grind (arith, common_steps))) (quiet proc) quiet-still
  adopt-here true r base list is first =
      acked (adopted r base list) r (base + length list) from.0 own_rank
      (let long = length-history settled (replica_of (adopted r base list) d) new_fits.applied in
      let whole : length (history settled (replica_of (adopted r base list) d))
      ≡ length (take base (history settled r0) ++ list) = ap length (ap (history settled) is_new ∙ both.1) in
      let more = length-append (take base (history settled r0)) list in
      let base_long = length-take-le base (history settled r0) (let reach = own.prolongs.reaches in
      let base_low = goes.base_settled in omega (arith, reach, base_low)) in
      omega (arith, long, whole, more, base_long))
      (act-hear F laws s v members d below p pin lives proc (adopted r base list) left settled x
      (tells.Adopt (rank r) (partition d) base list) r first rest xin xother from none none
      hears low own_rank new_fits more (parity-keeps parity) around)
    where
      low : at 0 proc.ranks d ≤ r
      low = grind (arith, common_steps)

      live : is_live d seen d r ≡ true
      live = live-is d seen d r refl low

      may : IsFrom s v x d r × (0 < r) × IsParity p
      may = may-first (tells.Adopt (rank r) (partition d) base list) first

      parity : IsParity p
      parity = may.2

      from : Used s v d x r
      from = used s v d x d r refl may.0

      goes : AdoptGoes F d settled seen r base list
      goes = goes-first (tells.Adopt (rank r) (partition d) base list) first parity live

      none : head_at proc d ≡ None
      none = hears-none r from low

      r0 : Replica
      r0 = replica_of proc d

      own_rank : at 0 (adopted r base list).ranks d ≡ r
      own_rank = at-put 0 0 proc.ranks d r

      is_new : replica_of (adopted r base list) d ≡ adopting base list (applied_to base r0)
      is_new = at-put empty_replica empty_replica _ d _ ∙ ap (adopting base list) (replica-apply_to s d base (with_rank d r proc))

      own : ReplicaFits F d settled r0 None
      own = none-fits (head_at proc d) none (around.own (parity-keeps parity))

      more : r0.applied ≤ (replica_of (adopted r base list) d).applied
      more = subst (λ (y : Replica). r0.applied ≤ y.applied) (sym is_new) (omega arith)

      both : ReplicaFits F d settled (adopting base list (applied_to base r0)) None
          × (history settled (adopting base list (applied_to base r0)) ≡ take base (history settled r0) ++ list)
      both = fits-adopted F laws d settled r0 seen r base list refl goes own

      new_fits : ReplicaFits F d settled (replica_of (adopted r base list) d) (head_at (adopted r base list) d)
      new_fits = subst (λ (y : Replica). ReplicaFits F d settled y (head_at proc d)) (sym is_new)
          (subst (ReplicaFits F d settled (adopting base list (applied_to base r0))) (sym none) both.0)

      hears : Lower F d settled (seen_at d settled (adopted r base list)) (next d seen (tells.Adopt (rank r) (partition d) base list))
      hears = subst (λ (b : Bool). Lower F d settled (seen_at d settled (adopted r base list)) (replaced b r base list seen)) (sym live) (record {
        rank = own_rank;
        history = ap (history settled) is_new ∙ both.1;
        number =
            let low_new = new_fits.applied in
            let reach = goes.prolongs.reaches in
            let more = length-append (take base (history settled r0)) list in
            let base_long = length-take-le base (history settled r0) (let all = own.prolongs.reaches in
            let base_low = goes.base_settled in omega (arith, all, base_low)) in
            omega (arith, low_new, reach, more, base_long);
      })

  adopt-comes : (e : ℕ) (r base : ℕ) (list : List Update) → First (tells.Adopt (rank r) (partition e) base list)
      → (e ≡ d) ⊎ (e ≢ d) → Comes (adopt_comes s x r e base list proc)
  adopt-comes e r base list first (inl same) =
      subst (λ (k : ℕ). Comes (adopt_comes s x r k base list proc)) (sym same)
      (adopt-here (nat_le (at 0 proc.ranks d) r) r base list refl (subst (λ (k : ℕ). First (tells.Adopt (rank r) (partition k) base list)) same first))
  adopt-comes e r base list first (inr other) =
      let apart : d ≢ e = λ same. other (sym same) in
      let ranked : SameIn d proc (with_rank e r proc) =
      record {
        name = refl;
        known = refl;
        head = refl;
        rank = at-put-other 0 proc.ranks e d r apart;
        replica = refl;
      } in
      pops-still (tells.Adopt (rank r) (partition e) base list) first
      (λ i pis. stale-next d seen (tells.Adopt (rank r) (partition e) base list) (λ here. absurd (other here))) (adopt_comes s x r e base list proc)
      (still-when d (nat_le (at 0 proc.ranks e) r) proc (ack_to x r e (base + length list) (log_adopted s r e base list proc)) (record {
        same = same-in-trans ranked (same-in-trans (same-apply s d e base (with_rank e r proc) other)
            (record {
              name = refl;
              known = refl;
              head = refl;
              rank = refl;
              replica = at-put-other empty_replica (apply_to s e base (with_rank e r proc)).replicas e d _ apart;
            }));
        sent = ((λ here. absurd (other here)), tt);
        quiet = refl;
      }))

  -- a settled number, or a mark, that is taken: everything up to it is applied
  heard-applied : (m : Message) (r n : ℕ) (q : Process) → First m → IsFrom s v x d r → IsParity p → r ≡ at 0 proc.ranks d → n ≤ length settled
      → next d seen m ≡ raised true n seen → SameIn d proc q → Around F s v d p (apply_to s d n q) (v.link p) left settled
  heard-applied m r n q first sent parity same_rank low is same =
      act-hear F laws s v members d below p pin lives proc (apply_to s d n q) left settled x m r first rest xin xother from none (same.head ∙ none) hears
      (omega (arith, same_rank)) (same.rank ∙ sym same_rank) fits
      (subst (λ (y : Replica). (replica_of proc d).applied ≤ y.applied) (sym is_new) (omega arith)) (parity-keeps parity) around
    where
      from : Used s v d x r
      from = used s v d x d r refl sent

      none : head_at proc d ≡ None
      none = hears-none r from (omega (arith, same_rank))

      own : ReplicaFits F d settled (replica_of proc d) None
      own = none-fits (head_at proc d) none (around.own (parity-keeps parity))

      is_new : replica_of (apply_to s d n q) d ≡ applied_to n (replica_of proc d)
      is_new = replica-apply_to s d n q ∙ ap (applied_to n) same.replica

      fits : ReplicaFits F d settled (replica_of (apply_to s d n q) d) (head_at q d)
      fits =
          subst (λ (y : Replica). ReplicaFits F d settled y (head_at q d)) (sym is_new)
          (subst (ReplicaFits F d settled (applied_to n (replica_of proc d))) (sym (same.head ∙ none))
          (fits-applied F laws d settled (replica_of proc d) None n low own))

      hears : Lower F d settled (seen_at d settled (apply_to s d n q)) (next d seen m)
      hears = subst (Lower F d settled (seen_at d settled (apply_to s d n q))) (sym is) (record {
        rank = same.rank;
        history = ap (history settled) is_new ∙ history-applied settled (replica_of proc d) own.applied own.prolongs n low;
        number =
            let now : (replica_of (apply_to s d n q) d).applied ≡ (applied_to n (replica_of proc d)).applied = ap (λ (y : Replica). y.applied) is_new in
            let moves = applied-is settled (replica_of proc d) own.applied n
            (let all = length-history settled (replica_of proc d) own.applied in let reach = own.prolongs.reaches in omega (arith, all, reach, low)) in
            omega (arith, now, moves);
      })

  -- a mark of the rank that isn't taken
  heard-dropped : (m : Message) (r n : ℕ) → First m → IsFrom s v x d r → IsParity p → r ≡ at 0 proc.ranks d
      → next d seen m ≡ raised true n seen → Around F s v d p proc (v.link p) left settled
  heard-dropped m r n first sent parity same_rank is =
      act-hear F laws s v members d below p pin lives proc proc left settled x m r first rest xin xother from none none
      (subst (Lower F d settled seen) (sym is) (record { rank = refl; history = refl; number = omega arith })) (omega (arith, same_rank)) (sym same_rank)
      (around.own (parity-keeps parity)) (omega arith) (parity-keeps parity) around
    where
      from : Used s v d x r
      from = used s v d x d r refl sent

      none : head_at proc d ≡ None
      none = hears-none r from (omega (arith, same_rank))

  -- behind it
  heard-still : (q : Process) (t : ProcessStep) → Still d q t → Around F s v d p q (v.link p) left settled → Comes t
  heard-still q t still heard = still-leads F laws s v members d below p pin lives left q t still (v.link p) settled heard

  stable-here : (b : Bool) (r n : ℕ) → nat_le (at 0 proc.ranks d) r ≡ b → First (tells.Stable (rank r) (partition d) n)
      → Comes (when b proc (quiet (apply_to s d n proc)))
  stable-here false r n is first =
      pops-still (tells.Stable (rank r) (partition d) n) first
      (λ i pis. stale-next d seen (tells.Stable (rank r) (partition d) n) (λ here. grind (arith, common_steps)))
      (quiet proc) quiet-still
  stable-here true r n is first =
      let may : IsFrom s v x d r × IsParity p = may-first (tells.Stable (rank r) (partition d) n) first in
      let live : is_live d seen d r ≡ true = live-is d seen d r refl (grind (arith, common_steps)) in
      let goes : NumberGoes settled seen r n = goes-first (tells.Stable (rank r) (partition d) n) first may.1 live in
      heard-still (apply_to s d n proc) (quiet (apply_to s d n proc))
      (still-quiet d (apply_to s d n proc) (apply_to s d n proc) (same-in-refl d (apply_to s d n proc)))
      (heard-applied (tells.Stable (rank r) (partition d) n) r n proc first may.0 may.1 goes.rank goes.number_settled
      (ap (λ (b : Bool). raised b n seen) live) (same-in-refl d proc))

  stable-comes : (e r n : ℕ) → First (tells.Stable (rank r) (partition e) n) → (e ≡ d) ⊎ (e ≢ d) → Comes (stable_comes s r e n proc)
  stable-comes e r n first (inl same) =
      subst (λ (k : ℕ). Comes (stable_comes s r k n proc)) (sym same)
      (stable-here (nat_le (at 0 proc.ranks d) r) r n refl (subst (λ (k : ℕ). First (tells.Stable (rank r) (partition k) n)) same first))
  stable-comes e r n first (inr other) =
      pops-still (tells.Stable (rank r) (partition e) n) first
      (λ i pis. stale-next d seen (tells.Stable (rank r) (partition e) n) (λ here. absurd (other here)))
      (stable_comes s r e n proc)
      (still-when d (nat_le (at 0 proc.ranks e) r) proc (quiet (apply_to s e n proc))
      (still-quiet d proc (apply_to s e n proc) (same-apply s d e n proc other)))

  mark-goes : (session : Session) (r block n : ℕ) → First (tells.Mark session (rank r) block (partition d) n) → is_live d seen d r ≡ true
      → (IsFrom s v x d r × (0 < r → session.leader ≡ x) × IsParity p) × MarkGoes settled seen r n
  mark-goes session r block n first live =
      let may : IsFrom s v x d r × (0 < r → session.leader ≡ x) × IsParity p = may-first (tells.Mark session (rank r) block (partition d) n) first in
      (may, goes-first (tells.Mark session (rank r) block (partition d) n) first may.2 live)

  mark-here : (b : Bool) (session : Session) (r block n : ℕ) → accepts_mark proc (parity_number session.leader)
      session.number r d ≡ b → First (tells.Mark session (rank r) block (partition d) n)
      → Comes (when b proc (mark_taken s (parity_number session.leader) session.number block d n proc))
  mark-here false session r block n is first = by (is_live d seen d r) refl where
    m : Message
    m = tells.Mark session (rank r) block (partition d) n

    by : (b : Bool) → is_live d seen d r ≡ b → Comes (quiet proc)
    by false live = pops-still (tells.Mark session (rank r) block (partition d) n) first
        (λ i pis. ap (λ (b : Bool). raised b n seen) live) (quiet proc) quiet-still
    by true live =
        let both = mark-goes session r block n first live in
        heard-still proc (quiet proc) quiet-still (heard-dropped (tells.Mark session (rank r) block (partition d) n) r n
        first both.0.0 both.0.2 both.1.rank (ap (λ (b : Bool). raised b n seen) live))
  mark-here true session r block n is first =
      let live : is_live d seen d r ≡ true = live-is d seen d r refl low in
      let both = mark-goes session r block n first live in
      let leader : ℕ = parity_number session.leader in
      let begun : Process = begin_copy s leader session.number block proc in
      let q : Process = apply_to s d n begun in
      heard-still q (mark_taken s leader session.number block d n proc)
      (still-copy_marked s d d n (copy_in q.as_row.copies leader session.number) q)
      (heard-applied (tells.Mark session (rank r) block (partition d) n) r n begun first both.0.0 both.0.2 both.1.rank
      both.1.number_settled (ap (λ (b : Bool). raised b n seen) live)
      (same-begin s d leader session.number block proc))
    where
      low : at 0 proc.ranks d ≤ r
      low = grind (arith, common_steps)

  mark-comes : (e : ℕ) (session : Session) (r block n : ℕ) → First (tells.Mark session (rank r) block (partition e) n) → (e ≡ d) ⊎ (e ≢ d)
      → Comes (mark_comes s (parity_number session.leader) session.number r block e n proc)
  mark-comes e session r block n first (inl same) =
      subst (λ (k : ℕ). Comes (mark_comes s (parity_number session.leader) session.number r block k n proc)) (sym same)
      (mark-here (accepts_mark proc (parity_number session.leader) session.number r d) session r block n refl
      (subst (λ (k : ℕ). First (tells.Mark session (rank r) block (partition k) n)) same first))
  mark-comes e session r block n first (inr other) =
      pops-still (tells.Mark session (rank r) block (partition e) n) first
      (λ i pis. stale-next d seen (tells.Mark session (rank r) block (partition e) n) (λ here. absurd (other here)))
      (mark_comes s (parity_number session.leader) session.number r block e n proc)
      (still-mark s d (parity_number session.leader) session.number r block e n proc other)

  -- an acknowledgement
  ack-fits : (i r n : ℕ) → x ≡ ParityNode i → i < s.m → ParityNode i ≢ p → v.dead (ParityNode i) ≡ false → First (tells.Ack (rank r) (partition d) n)
      → AckGoes d p (seen_at d settled (v.process (ParityNode i))) r n
  ack-fits i r n is iin other living first =
      (subst (Each (AckFits d p (seen_at d settled (v.process (ParityNode i)))))
      (ap (λ (y : ProcessId). v.link y p) (sym is) ∙ first) ((around.outward i iin other living).acks refl)).0 refl

  ack-here : (i r n : ℕ) → x ≡ ParityNode i → (h : Option Head) → head_at proc d ≡ h
      → First (tells.Ack (rank r) (partition d) n) → Comes (acknowledge s i r d n h proc)
  ack-here i r n is None heads first = pops-still (tells.Ack (rank r) (partition d) n) first (λ j pis. refl) (quiet proc) quiet-still
  ack-here i r n is (Some h) heads first = by (r == h.rank) refl where
    new : Process
    new = with_head d (Some (acknowledged i n h)) proc

    by : (b : Bool) → (r == h.rank) ≡ b → Comes (when b proc (judge s d (with_head d (Some (acknowledged i n h)) proc)))
    by false other = pops-still (tells.Ack (rank r) (partition d) n) first (λ j pis. refl) (quiet proc) quiet-still
    by true same = pops (tells.Ack (rank r) (partition d) n) first (λ j pis. refl) (judge s d (with_head d (Some (acknowledged i n h)) proc))
        (λ out began. judge-leads F laws s v members d below p pin lives left d
        (with_head d (Some (acknowledged i n h)) proc) (members.named p pin) spares out settled
        (act-acked F laws s v members d below p pin lives proc (with_head d (Some (acknowledged i n h)) proc) out left
        settled h i n heads (at-put None None proc.heads d (Some (acknowledged i n h))) refl refl
        (λ iin other living. let fits = ack-fits i r n is iin other living first in
        let is_rank : r ≡ h.rank = grind (arith, common_steps) in
        record { rank = fits.rank ∙ is_rank; has = fits.has }) began))

  ack-other : (i r e n : ℕ) (h : Option Head) → e ≢ d → Still d proc (acknowledge s i r e n h proc)
  ack-other i r e n None other = quiet-still
  ack-other i r e n (Some h) other =
      let q : Process = with_head e (Some (acknowledged i n h)) proc in
      still-when d (r == h.rank) proc (judge s e q)
      (still-from d proc q (judge s e q)
      (record {
        name = refl;
        known = refl;
        head = at-put-other None proc.heads e d (Some (acknowledged i n h))
            (λ same. other (sym same));
        rank = refl;
        replica = refl;
      }) (still-judge s d e q other))

  ack-comes : (y : ProcessId) → x ≡ y → (e r n : ℕ) → First (tells.Ack (rank r) (partition e) n) → (e ≡ d) ⊎ (e ≢ d)
      → Comes (receive s y (tells.Ack (rank r) (partition e) n) proc)
  ack-comes (DataNode z) is e r n first which = pops-still (tells.Ack (rank r) (partition e) n) first (λ j pis. refl) (quiet proc) quiet-still
  ack-comes (ParityNode i) is e r n first (inl same) =
      subst (λ (k : ℕ). Comes (acknowledge s i r k n (head_at proc k) proc)) (sym same)
      (ack-here i r n is (head_at proc d) refl (subst (λ (k : ℕ). First (tells.Ack (rank r) (partition k) n)) same first))
  ack-comes (ParityNode i) is e r n first (inr other) =
      pops-still (tells.Ack (rank r) (partition e) n) first (λ j pis. refl)
      (acknowledge s i r e n (head_at proc e) proc) (ack-other i r e n (head_at proc e) other)

  -- a leader asks for a block
  read-still : (y : ProcessId) (session : Session) (block : ℕ) (rows : List ℕ) → p ≡ y → Still d proc (read_comes s session block rows proc y)
  read-still (ParityNode i) session block rows is = quiet-still
  read-still (DataNode e) session block rows is = record {
    same = same-in-refl d proc;
    sent = (
      tt,
      each-map (λ z. Tells d proc z.to z.message)
          (λ i. record {
            to = ParityNode i;
            message = tells.Mark session (rank 0) block (partition e)
                (replica_of proc e).applied;
          }) rows
          (each-all (λ i. Tells d proc (ParityNode i) (tells.Mark session (rank 0) block (partition e) (replica_of proc e).applied))
          (λ i here. let head = own_head here in (
            head.0,
            head.1,
            sym head.2,
            (let same : (replica_of proc e).applied ≡ (replica_of proc d).applied = ap
                (λ (k : ℕ). (replica_of proc k).applied) here in omega (arith, same)),
            (let same : (replica_of proc e).applied ≡ (replica_of proc d).applied = ap
                (λ (k : ℕ). (replica_of proc k).applied) here in let none =
                ((around.own (subst (IsKeeper d) (sym is) here)).heads head.0 head.1).first head.2 in
                omega (arith, same, none)),
          )) rows),
    );
    quiet = refl;
  } where
    own_head : e ≡ d → (h : Head) × (head_at proc d ≡ Some h) × (h.rank ≡ 0)
    own_head here = seat-some (head_at proc d) 0 (sits.0 ∙ ap (λ (b : Bool). if b then Some 0 else None) own) where
      sits : Sits proc d (DataNode e)
      sits = subst (Sits proc d) is (members.sits p d pin lives below)

      own : (d == e) ≡ true
      own = let same : d ≡ e = sym here in grind (arith, common_steps)

  pub received : (m : Message) → is_notice m ≡ false → First m → Comes (receive s x m proc)
  received (tells.Update r e u stable) plain first = update-comes e.0 r.0 u stable first (cases_eq e.0 d)
  received (tells.Stable r e n) plain first = stable-comes e.0 r.0 n first (cases_eq e.0 d)
  received (tells.Adopt r e base list) plain first = adopt-comes e.0 r.0 base list first (cases_eq e.0 d)
  received (tells.Ack r e n) plain first = ack-comes x refl e.0 r.0 n first (cases_eq e.0 d)
  received (tells.Mark session r block e n) plain first = mark-comes e.0 session r.0 block n first (cases_eq e.0 d)
  received (tells.ReadBlock session block rows) plain first = pops-still (tells.ReadBlock session block rows) first
      (λ i pis. refl) (receive s x (tells.ReadBlock session block rows) proc)
      (subst (λ (y : ProcessId). Still d proc (read_comes s session block rows proc y)) (sym (members.named p pin)) (read-still p session block rows refl))
  received (tells.Block session bytes n) plain first = pops-still (tells.Block session bytes n) first (λ i pis. refl)
      (receive s x (tells.Block session bytes n) proc) (by x) where
        by : (y : ProcessId) → Still d proc (receive s y (tells.Block session bytes n) proc)
        by (DataNode e) = still-quiet d proc _ (record { name = refl; known = refl; head = refl; rank = refl; replica = refl })
        by (ParityNode i) = quiet-still
  received (tells.Row session bytes stamp) plain first = pops-still (tells.Row session bytes stamp) first
      (λ i pis. refl) (receive s x (tells.Row session bytes stamp) proc) (by x) where
        by : (y : ProcessId) → Still d proc (receive s y (tells.Row session bytes stamp) proc)
        by (DataNode e) = quiet-still
        by (ParityNode i) = still-quiet d proc _ (record { name = refl; known = refl; head = refl; rank = refl; replica = refl })
  received (tells.Cease upto) plain first = pops-still (tells.Cease upto) first (λ i pis. refl) (receive s x (tells.Cease upto) proc) (by x) where
    by : (y : ProcessId) → Still d proc (receive s y (tells.Cease upto) proc)
    by (DataNode e) = quiet-still
    by (ParityNode i) = still-quiet d proc _ (record { name = refl; known = refl; head = refl; rank = refl; replica = refl })
  received (tells.Notice dead) plain first = absurd (cc plain)
