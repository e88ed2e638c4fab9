-- A process treats a call: what it has and sends goes on following the plan, or it opens the session, with a plan
-- of its own.
use Rattle.std.proofs.Common.{◌≡◌, ℕ, suc, ◌<◌, ◌≤◌, ◌==◌, nat_le, Bool, true, false, not, List, [], ◌∷◌, ◌++◌, map}
use Rattle.std.proofs.Common.{filter, find, flat_map, option_map, replicate, Option, Some, None, IfSome, ◌⊎◌, inl, inr}
use Rattle.std.proofs.Common.{sym, ap, subst, ◌∙◌, refl, arith}
use Rattle.std.specs.Prelude.{Contains}
use Rattle.std.specs.List.{list_all, list_any, range_with_len}
use Rattle.group_types.specs.Dimensions.{Dimensions, space_of}
use Rattle.group_types.specs.Hash.{home_of}
use Rattle.group_types.specs.Lists.{at}
use Rattle.group_types.specs.Names.{IsProcess}
use Rattle.group_types.specs.declared.process.ProcessId.{ProcessId}
use Rattle.group_types.specs.declared.process.ProcessId.TheVariants.{DataNode, ParityNode}
use Rattle.group_types.proofs.Lists.{at-replicate}
use Rattle.group_types.specs.Each.{Each}
use Rattle.group_types.proofs.Eaches.{each-append, each-weaker, each-all, each-map, each-filter}
use Rattle.membership.specs.Members.{knows_dead}
use Rattle.memc_table.specs.Act.{key_of}
use Rattle.memc_table.specs.Asked.{Asked}
use Rattle.group_message.specs.declared.message.Message.TheVariants as tells
use Rattle.group_message.specs.declared.update.Update.{Update}
use Rattle.group_calls.specs.Turns.{CallName}
use Rattle.group_calls.specs.declared.decision.Decision.{Decision}
use Rattle.group_calls.specs.declared.decision.Decision.TheVariants as decides
use Rattle.group_run.specs.Applying.{ProcessStep, Sent, and_then, for_each, head_at, held_at, quiet, replica_of, sending, when, with_held, with_replica}
use Rattle.group_run.specs.Asking.{Oldest, act_on, ask_head, collect_from, collect_held, found_at, handed_out, holding}
use Rattle.group_run.specs.Asking.{is_call, issued, oldest_inherited, retry_block, ticketed, update_of}
use Rattle.group_run.specs.Deciding.{decide}
use Rattle.group_run.specs.Heading.{judge, partition, rank, tell_stable, tell_stables, to_others}
use Rattle.group_run.specs.Leaders.{leader_marks, left_of, lost_of, new_session, open_session, own_mark, rows_of}
use Rattle.group_run.specs.Leaders.{session_of, session_opened, session_starts, start_session}
use Rattle.group_run.specs.Process.{Head, Held, Process}
use Rattle.group_run.specs.Replica.{with_update}
use Rattle.group_run.specs.Rows.{copy_in, parity_number}
use Rattle.law_moves.proofs.Moves.{Treats, Asks, Collects, Flushes}
use Rattle.law_moves.proofs.Members.{Sits, knows_lower}
use Rattle.law_moves.proofs.Calls.{Seated, each-below, seat-lower, Wants, wants_at_parity}
use Rattle.erasure_code.proofs.Nodes.{Among}
use Rattle.law_bytes.proofs.Premises.{GoesOn, NextIsNew}
use Rattle.law_bytes.proofs.Applying.{Holding}
use Rattle.law_bytes.proofs.Copies.{holding-leader}
use Rattle.law_bytes.proofs.Finding.{and-split, found-behind, found-passes}
use Rattle.law_bytes.proofs.Finds.{if-weaker}
use Rattle.law_bytes.proofs.Marking.{IsOpen, OpenIn}
use Rattle.law_bytes.proofs.Rising.{all-among, among-contains, among-each, among-filter, among-range, differ-rising, rising-filtered}
use Rattle.law_bytes.proofs.Local.{Silent, number-is, silent-others}
use Rattle.law_bytes.proofs.Marks.{same_session, session-cases, session-is}
use Rattle.law_bytes.proofs.Kept.{NeedsInside}
use Rattle.law_bytes.proofs.Stamps.{Follows, GatheringFollows, OfSession, Plan}
use Rattle.law_bytes.proofs.Following.{Passes, any, passes-judge, passes-self, passes-then, still-passes, still-same}
use Rattle.law_bytes.proofs.PlanMarking.{t}
use Rattle.law_bytes.proofs.Opening.{leads-rows, opening_plan, owns-pass}
use Rattle.law_bytes.specs.Areas.{SettledWrite}

-- a data process never needs a block to be rebuilt
pub data-never : (s : Dimensions) (inherited : ℕ) (op : Asked) (d e b : ℕ) (p : Process)
    → decide (space_of s) inherited (replica_of p d) op (found_at s d p (DataNode e)) ≡ decides.NeedBlock b → ⊥
data-never s inherited op d e b p is = wants_at_parity s d inherited op p (DataNode e) (subst Wants (sym is) tt)

module _ (s : Dimensions) (settled : ℕ → List Update) (l n : ℕ) (write : SettledWrite s settled) (old : ℕ → ℕ → Bool) where
  module _ (p : Process) (i : ℕ) (name : p.name ≡ ParityNode i) (goes : (d : ℕ) → d < s.k → GoesOn (settled d) (replica_of p d)) (next : NextIsNew s p)
      (holds : Holding s settled old p) (block : ℕ) where
    -- a session is started, and what is said of the plan, if it is the plan's
    module _ (plan : Plan) (fits : i ≡ l → suc p.as_leader.last_session ≡ n → (plan ≡ opening_plan s block p)
        × (block < s.blocks) × ((e : ℕ) → Among e (lost_of s p) → Contains (rows_of s p) i)) where
      none : (d : ℕ) → ◌≡◌ {A = Option (List ℕ)} (at None (replicate s.k None) d) None
      none d = at-replicate None s.k d

      none_rows : (d : ℕ) → ◌≡◌ {A = Option (List ℕ)} (at None (replicate s.m None) d) None
      none_rows d = at-replicate None s.m d

      new-follows : i ≡ l → suc p.as_leader.last_session ≡ n → GatheringFollows s settled plan (new_session s (suc p.as_leader.last_session) block p)
      new-follows leads numbers =
          let fit = fits leads numbers in
          record {
            block = ap (λ (x : Plan). x.block) (sym fit.0);
            inside = fit.1;
            rows = ap (λ (x : Plan). x.rows) (sym fit.0);
            rows_in = λ j bytes there. absurd (cc (there, none_rows j));
            blocks_in = λ d bytes there. absurd (cc (there, none d));
          }

      opened-session : p.name ≡ ParityNode l → IfSome (open_session p.as_leader n) (λ g. (n ≤ p.as_leader.last_session) × GatheringFollows s settled plan g)
          → IfSome (find (λ g. g.number == n) (p.as_leader.sessions ++ new_session s (suc p.as_leader.last_session) block p ∷ []))
          (λ g. (n ≤ suc p.as_leader.last_session) × GatheringFollows s settled plan g)
      opened-session leads before = by (found-behind (λ g. g.number == n) p.as_leader.sessions (new_session s (suc p.as_leader.last_session) block p)) where
        later : IfSome (open_session p.as_leader n) (λ g. (n ≤ suc p.as_leader.last_session) × GatheringFollows s settled plan g)
        later = if-weaker (λ g. (n ≤ p.as_leader.last_session) × GatheringFollows s settled plan g)
            (λ g. (n ≤ suc p.as_leader.last_session) × GatheringFollows s settled plan g)
            (λ g is. (let low = is.0 in omega (arith, low), is.1)) (open_session p.as_leader n) before

        by : (find (λ g. g.number == n) (p.as_leader.sessions ++ new_session s (suc p.as_leader.last_session) block p ∷ []) ≡ open_session p.as_leader n)
            ⊎ ((open_session p.as_leader n ≡ None)
            × (find (λ g. g.number == n) (p.as_leader.sessions ++ new_session s (suc p.as_leader.last_session) block p
            ∷ []) ≡ Some (new_session s (suc p.as_leader.last_session) block p)))
            → IfSome (find (λ g. g.number == n) (p.as_leader.sessions ++ new_session s (suc p.as_leader.last_session) block p ∷ []))
            (λ g. (n ≤ suc p.as_leader.last_session) × GatheringFollows s settled plan g)
        by (inl same) = subst (λ o. IfSome o (λ g. (n ≤ suc p.as_leader.last_session) × GatheringFollows s settled plan g)) (sym same) later
        by (inr both) =
            let numbers : suc p.as_leader.last_session ≡ n = number-is (new_session s (suc p.as_leader.last_session) block p) n
            (found-passes (λ g. g.number == n) (p.as_leader.sessions ++ new_session s (suc p.as_leader.last_session)
            block p ∷ []) (new_session s (suc p.as_leader.last_session) block p) both.1) in
            let names : ParityNode i ≡ ParityNode l = sym name ∙ leads in
            let leaders : i ≡ l = cc names in
            subst (λ o. IfSome o (λ g. (n ≤ suc p.as_leader.last_session) × GatheringFollows s settled plan g))
            (sym both.1) (omega (arith, numbers), new-follows leaders numbers)

      -- the session of what is sent
      leader-of : OfSession l n (session_of i (suc p.as_leader.last_session)) → i ≡ l
      leader-of of_it = let names = of_it.0 in cc names

      questions-follow : (ds : List ℕ)
          → Each (λ (z : Sent). Follows s settled l n plan p.name z.to z.message)
          (map (λ d. record { to = DataNode d; message = tells.ReadBlock (session_of i (suc p.as_leader.last_session)) block (rows_of s p) }) ds)
      questions-follow ds =
          each-map (λ (z : Sent). Follows s settled l n plan p.name z.to z.message)
          (λ d. record { to = DataNode d; message = tells.ReadBlock (session_of i (suc p.as_leader.last_session)) block (rows_of s p) }) ds
          (each-all (λ d. OfSession l n (session_of i (suc p.as_leader.last_session)) → (block ≡ plan.block) × (rows_of s p ≡ plan.rows))
          (λ d of_it. let fit = fits (leader-of of_it) of_it.1 in (ap (λ (x : Plan). x.block) (sym fit.0), ap (λ (x : Plan). x.rows) (sym fit.0))) ds)

      marks-follow : (ls : List ℕ) → Each (λ z. Follows s settled l n plan p.name z.to z.message)
          (flat_map (leader_marks s i (suc p.as_leader.last_session) block p) ls)
      marks-follow [] = tt
      marks-follow (e ∷ ls) =
          each-append (λ z. Follows s settled l n plan p.name z.to z.message) (leader_marks s i (suc p.as_leader.last_session) block p e)
          (flat_map (leader_marks s i (suc p.as_leader.last_session) block p) ls)
          (each-map (λ z. Follows s settled l n plan p.name z.to z.message)
          (λ j. record {
            to = ParityNode j;
            message = tells.Mark (session_of i (suc p.as_leader.last_session))
                (rank (at 0 p.ranks e)) block (partition e) (replica_of p e).applied;
          })
          (filter (λ j. not (j == i)) (rows_of s p))
          (among-each (λ j. OfSession l n (session_of i (suc p.as_leader.last_session)) → (block ≡ plan.block)
          × ((replica_of p e).applied ≡ plan.numbers e) × Contains plan.rows j)
          (filter (λ j. not (j == i)) (rows_of s p))
          (λ j among of_it.
          let fit = fits (leader-of of_it) of_it.1 in (
            ap (λ (x : Plan). x.block) (sym fit.0),
            ap (λ (x : Plan). x.numbers e) (sym fit.0),
            subst (λ (x : Plan). Contains x.rows j) (sym fit.0) (among-contains (rows_of s p) j (among-filter (λ j. not (j == i)) j (rows_of s p) among).0),
          ))))
          (marks-follow ls)

      pub lost-below : Each (λ d. d < s.k) (lost_of s p)
      lost-below = each-filter (λ d. d < s.k) (λ d. knows_dead p.known (DataNode d)) (range_with_len 0 s.k) (each-below s.k)

      pub unmarked : OpenIn i (suc p.as_leader.last_session) (lost_of s p) p.as_row.copies
      unmarked = if-weaker (λ c. (d : ℕ) → d < s.k → at None c.marks d ≡ None) (IsOpen (lost_of s p))
          (λ c free. each-weaker (λ d. d < s.k) (λ d. at None c.marks d ≡ None) (λ d low. free d low) (lost_of s p)
          lost-below) (copy_in p.as_row.copies i (suc p.as_leader.last_session)) (next i name)

      pub opened-passes : Passes s settled l n plan p
          (sending (session_starts s i (suc p.as_leader.last_session) block p)
          (session_opened s (suc p.as_leader.last_session) block p))
      opened-passes = record {
        name = refl;
        follows = λ is. (
          record { copy = is.copy; session = λ leads. opened-session leads (is.session leads) },
          each-append (λ z. Follows s settled l n plan p.name z.to z.message)
              (map (λ d. record { to = DataNode d; message = tells.ReadBlock (session_of i (suc p.as_leader.last_session)) block (rows_of s p) }) (left_of s p))
              (flat_map (leader_marks s i (suc p.as_leader.last_session) block p) (lost_of s p)) (questions-follow (left_of s p)) (marks-follow (lost_of s p)),
        );
      }

      pub started-passes : Passes s settled l n plan p
          (and_then (sending (session_starts s i (suc p.as_leader.last_session) block p)
          (session_opened s (suc p.as_leader.last_session) block p))
          (for_each (lost_of s p) (own_mark s i (suc p.as_leader.last_session) block)))
      started-passes =
          passes-then s settled l n plan p
          (sending (session_starts s i (suc p.as_leader.last_session) block p) (session_opened s (suc p.as_leader.last_session) block p))
          (for_each (lost_of s p) (own_mark s i (suc p.as_leader.last_session) block))
          opened-passes
          (owns-pass s settled l n plan write old p i (suc p.as_leader.last_session) block goes (lost_of s p)
          (session_opened s (suc p.as_leader.last_session) block p) name lost-below
          (differ-rising (lost_of s p) (rising-filtered (λ d. knows_dead p.known (DataNode d)) s.k)) unmarked
          (each-all (λ d. replica_of p d ≡ replica_of p d) (λ d. refl) (lost_of s p))
          (λ leads numbers.
          let fit = fits leads numbers in
          among-each (λ d. (block ≡ plan.block) × ((replica_of p d).applied ≡ plan.numbers d) × Contains plan.rows i) (lost_of s p)
          (λ d among. (
            ap (λ (x : Plan). x.block) (sym fit.0),
            ap (λ (x : Plan). x.numbers d) (sym fit.0),
            subst (λ (x : Plan). Contains x.rows i) (sym fit.0) (fit.2 d among),
          )))
          (holding-leader s settled old p
          (record p.as_leader {
            last_session = suc p.as_leader.last_session;
            sessions = p.as_leader.sessions
                ++ new_session s (suc p.as_leader.last_session) block p ∷ [];
          }) (λ d b there. refl) holds))

  -- the step opens the session
  pub record OpensIt (p : Process) (step : ProcessStep) : Type 0 where
    pub block : ℕ
    pub leads : p.name ≡ ParityNode l
    pub number : suc p.as_leader.last_session ≡ n
    pub passes : Passes s settled l n (opening_plan s block p) p step

  module _ (plan : Plan) where
    -- what calls may do
    abbrev pub Claims : Process → ProcessStep → Type 0
    Claims p step = Passes s settled l n plan p step ⊎ OpensIt p step

    module _ (p : Process) (x : ProcessId) (seated : Seated s p x) (inside : IsProcess s x)
        (living : knows_dead p.known x ≡ false) (goes : (d : ℕ) → d < s.k → GoesOn (settled d) (replica_of p d))
        (next : NextIsNew s p) (holds : Holding s settled old p) (needs : NeedsInside s p) where
      start-claims : (block d i : ℕ) (h : Head) → p.name ≡ ParityNode i → d < s.k → head_at p d ≡ Some h → block < s.blocks → Claims p (start_session s block p)
      start-claims block d i h name below heads within =
          subst
          (λ (z : ℕ). Claims p
          (and_then (sending (session_starts s z (suc p.as_leader.last_session) block p)
          (session_opened s (suc p.as_leader.last_session) block p))
          (for_each (lost_of s p) (own_mark s z (suc p.as_leader.last_session) block))))
          (sym (ap parity_number name)) (by (session-cases (t s settled l n plan) i (suc p.as_leader.last_session))) where
            here : x ≡ ParityNode i
            here = sym seated.name ∙ name

            lower : knows_lower p.known d i ≡ true
            lower = seat-lower p d i h.rank (subst (Sits p d) here (seated.sits d below)) (ap (option_map (λ (y : Head). y.rank)) heads)

            first : (e : ℕ) → Among e (lost_of s p) → Contains (rows_of s p) i
            first = leads-rows s p i (subst (IsProcess s) here inside)
                (λ j low. all-among (λ k. knows_dead p.known (ParityNode k)) (range_with_len 0 i) j
                (and-split (knows_dead p.known (DataNode d))
                (list_all (λ k. knows_dead p.known (ParityNode k)) (range_with_len 0 i)) lower).1
                (among-range j 0 i (omega arith) (omega (arith, low))))
                (subst (λ (y : ProcessId). knows_dead p.known y ≡ false) here living)

            by : ((i ≡ l) × (suc p.as_leader.last_session ≡ n)) ⊎ (same_session (t s settled l n plan) i (suc p.as_leader.last_session) ≡ false)
                → Claims p (and_then (sending (session_starts s i (suc p.as_leader.last_session) block p)
                (session_opened s (suc p.as_leader.last_session) block p))
                (for_each (lost_of s p) (own_mark s i (suc p.as_leader.last_session) block)))
            by (inl same) = inr (record {
              block = block;
              leads = name ∙ ap ParityNode same.0;
              number = same.1;
              passes = started-passes p i name goes next holds block (opening_plan s block p) (λ leads numbers. (refl, within, first));
            })
            by (inr other) =
                inl (started-passes p i name goes next holds block plan
                (λ leads numbers.
                absurd (cc (other, session-is (t s settled l n plan) i (suc p.as_leader.last_session) leads numbers))))

      session-claims : (d : ℕ) (h : Head) (op : Asked) (block : ℕ) → d < s.k → head_at p d ≡ Some h
          → decide (space_of s) h.inherited (replica_of p d) op (found_at s d p p.name) ≡ decides.NeedBlock block → Claims p (start_session s block p)
      session-claims d h op block below heads decided = by p.name refl where
        by : (y : ProcessId) → p.name ≡ y → Claims p (start_session s block p)
        by (ParityNode i) is = start-claims block d i h is below heads (needs d h op block below heads decided)
        by (DataNode e) is =
            absurd (data-never s h.inherited op d e block p
            (subst (λ (y : ProcessId). decide (space_of s) h.inherited (replica_of p d) op (found_at s d p y)
            ≡ decides.NeedBlock block) is decided))

      retry-claims : (block : ℕ) (o : Option Oldest) → Claims p (start_session s block p) → Claims p (retry_block s block o p).step
      retry-claims block (Some o) started = inl (passes-self s settled l n plan p)
      retry-claims block None started = by (not (list_any (λ g. g.block == block) p.as_leader.sessions)) where
        by : (b : Bool) → Claims p (when b p (start_session s block p))
        by true = started
        by false = inl (passes-self s settled l n plan p)

      issued-passes : (d : ℕ) (h : Head) (u : Update) → Passes s settled l n plan p (issued s d h u p)
      issued-passes d h u =
          let told : Process = with_replica d (with_update u (replica_of p d)) p in
          passes-then s settled l n plan p (sending (to_others s p _) told) (judge s d)
          (still-passes s settled l n plan p (sending (to_others s p _) told)
          (still-same s settled l n plan p told refl refl refl) (silent-others any s p _ tt))
          (passes-judge s settled l n plan d told)

      ticketed-passes : (b : Bool) (d : ℕ) (u : Update) (step : ProcessStep) → Passes s settled l n plan p step
          → Passes s settled l n plan p (ticketed b d u step).step
      ticketed-passes true d u step passes = passes
      ticketed-passes false d u step passes = record {
        name = passes.name;
        follows = λ is. let after = passes.follows is in (
          (still-same s settled l n plan step.process (holding d u step.process) refl refl refl).follows after.0,
          after.1,
        );
      }

      act-claims : (call : CallName) (op : Asked) (d : ℕ) (h : Head) (decision : Decision) → d < s.k → head_at p d ≡ Some h
          → decide (space_of s) h.inherited (replica_of p d) op (found_at s d p p.name) ≡ decision → Claims p (act_on s call op d h p decision).step
      act-claims call op d h (decides.Answer r) below heads is = inl (passes-self s settled l n plan p)
      act-claims call op d h (decides.Retry k) below heads is = inl (passes-self s settled l n plan p)
      act-claims call op d h decides.NoSpace below heads is = inl (passes-self s settled l n plan p)
      act-claims call op d h (decides.NeedBlock b) below heads is =
          retry-claims b (oldest_inherited p (range_with_len 0 s.k)) (session-claims d h op b below heads is)
      act-claims call op d h (decides.Issue body outcome) below heads is =
          let u : Update = update_of call op d body outcome p in
          inl (ticketed-passes (nat_le u.number (replica_of (issued s d h u p).process d).applied) d u (issued s d h u p) (issued-passes d h u))

      ask-claims : (call : CallName) (op : Asked) (d : ℕ) (o : Option Head) → d < s.k → head_at p d ≡ o → Claims p (ask_head s call op d p o).step
      ask-claims call op d None below heads = inl (passes-self s settled l n plan p)
      ask-claims call op d (Some h) below heads =
          act-claims call op d h (decide (space_of s) h.inherited (replica_of p d) op (found_at s d p p.name)) below
          heads refl

      handed-passes : (b : Bool) (d : ℕ) (h : Held) → Passes s settled l n plan p (handed_out b d h p).step
      handed-passes true d h =
          still-passes s settled l n plan p (quiet _)
          (still-same s settled l n plan p (with_held d (filter (λ y. not (is_call h.caller h.call y)) (held_at p d))
          p) refl refl refl) tt
      handed-passes false d h = passes-self s settled l n plan p

      collect-passes : (caller call : ℕ) (ds : List ℕ) → Passes s settled l n plan p (collect_from caller call p ds).step
      collect-passes caller call [] = passes-self s settled l n plan p
      collect-passes caller call (d ∷ ds) = by (find (is_call caller call) (held_at p d)) (collect-passes caller call ds) where
        by : (o : Option Held) → Passes s settled l n plan p (collect_from caller call p ds).step
            → Passes s settled l n plan p (collect_held d o p (collect_from caller call p ds)).step
        by None rest = rest
        by (Some h) rest = handed-passes (nat_le h.number (replica_of p d).applied) d h

      stables-silent : (ds : List ℕ) → Each (λ z. Silent z.message) (tell_stables s p ds)
      stables-silent [] = tt
      stables-silent (d ∷ ds) = each-append (λ z. Silent z.message) (tell_stable s p d (head_at p d))
          (tell_stables s p ds) (by (head_at p d)) (stables-silent ds) where
            by : (o : Option Head) → Each (λ z. Silent z.message) (tell_stable s p d o)
            by None = tt
            by (Some h) = silent-others any s p _ tt

      home-below : (key : List ℕ) → home_of key s.k < s.k
      home-below key = let some = seated.some in omega arith

      pub treats-claims : (step : ProcessStep) → Treats s p step → Claims p step
      treats-claims _ (Asks call op bytes) = ask-claims call op (home_of (key_of op.act) s.k)
          (head_at p (home_of (key_of op.act) s.k)) (home-below (key_of op.act)) refl
      treats-claims _ (Collects caller call) = inl (collect-passes caller call (range_with_len 0 s.k))
      treats-claims _ Flushes =
          inl (still-passes s settled l n plan p (sending (tell_stables s p (range_with_len 0 s.k)) p)
          (still-same s settled l n plan p p refl refl refl) (stables-silent (range_with_len 0 s.k)))
