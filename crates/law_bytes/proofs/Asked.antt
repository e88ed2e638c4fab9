-- What a call makes a leader rebuild: only the session that it opens can give blocks at once.
use Rattle.std.proofs.Common.{◌≡◌, ℕ, suc, ◌<◌, ◌≤◌, ◌==◌, nat_le, Bool, true, false, not, List, [], ◌∷◌, ◌++◌, length}
use Rattle.std.proofs.Common.{find, option_map, replicate, Option, Some, None, IfSome, sym, ap, subst, ◌∙◌, refl, arith}
use Rattle.std.specs.Prelude.{Contains}
use Rattle.std.specs.List.{list_all, list_any, range_with_len}
use Rattle.group_types.specs.Dimensions.{Dimensions, space_of}
use Rattle.group_types.specs.Hash.{home_of}
use Rattle.group_types.specs.Lists.{at}
use Rattle.group_types.specs.Names.{IsProcess}
use Rattle.group_types.specs.Shape.{IsShape}
use Rattle.group_types.specs.declared.process.ProcessId.{ProcessId}
use Rattle.group_types.specs.declared.process.ProcessId.TheVariants.{DataNode, ParityNode}
use Rattle.group_types.proofs.Lists.{at-replicate}
use Rattle.group_types.proofs.Eaches.{each-all}
use Rattle.membership.specs.Members.{knows_dead}
use Rattle.memc_table.specs.Act.{key_of}
use Rattle.memc_table.specs.Asked.{Asked}
use Rattle.group_message.specs.declared.update.Update.{Update}
use Rattle.group_calls.specs.Turns.{CallName}
use Rattle.group_calls.specs.declared.decision.Decision.{Decision}
use Rattle.group_calls.specs.declared.decision.Decision.TheVariants as decides
use Rattle.group_run.specs.Applying.{ProcessStep, for_each, head_at, held_at, replica_of, when, with_replica}
use Rattle.group_run.specs.Asking.{Oldest, act_on, ask_head, collect_from, collect_held, found_at, handed_out, is_call}
use Rattle.group_run.specs.Asking.{issued, oldest_inherited, retry_block, ticketed, update_of}
use Rattle.group_run.specs.Deciding.{decide}
use Rattle.group_run.specs.Leaders.{lost_of, new_session, open_session, own_mark, rows_of, session_opened, start_session}
use Rattle.group_run.specs.Process.{Gathering, Head, Held, Process}
use Rattle.group_run.specs.Replica.{with_update}
use Rattle.group_run.specs.Rows.{parity_number}
use Rattle.law_moves.proofs.Moves.{Acted, Treats, Asks, Collects, Flushes}
use Rattle.law_moves.specs.State.{IsGroupUp, State}
use Rattle.law_moves.proofs.Members.{Members, Sits, knows_lower}
use Rattle.law_moves.proofs.Calls.{Seated, seat-lower}
use Rattle.erasure_code.proofs.Nodes.{Among}
use Rattle.law_bytes.proofs.Premises.{GoesOn, NextIsNew}
use Rattle.law_bytes.proofs.Applying.{Holding, holding-from, rebuilt_at}
use Rattle.law_bytes.proofs.Copies.{holding-leader}
use Rattle.law_bytes.proofs.Finding.{and-split}
use Rattle.law_bytes.proofs.Finds.{found-behind}
use Rattle.law_bytes.proofs.BytesKeeping.{before-holds}
use Rattle.law_bytes.proofs.Rising.{all-among, among-each, among-filter, among-range, contains-among, differ-rising, rising-filtered}
use Rattle.law_bytes.proofs.LeadingWords.{left_by, lost_by}
use Rattle.law_bytes.proofs.Sound.{enough}
use Rattle.law_bytes.proofs.Kept.{Backed, NeedsInside, StepSettles}
use Rattle.law_bytes.proofs.Rebuilt.{RebuildsGiven, StepsAlwaysRebuild}
use Rattle.law_bytes.proofs.Stamps.{GatheringFollows, LostFollows, ProcessFollows, SessionsStand}
use Rattle.law_bytes.proofs.Bearing.{oldest-none}
use Rattle.law_bytes.proofs.Calls.{data-never, lost-below, opened-passes, unmarked}
use Rattle.law_bytes.proofs.Giving.{NoneStays, SoundFor, none-given, none-judge, none-self}
use Rattle.law_bytes.proofs.PlansKeeping.{fresh}
use Rattle.law_bytes.proofs.Opening.{leads-rows, opening_plan}
use Rattle.law_bytes.proofs.Owning.{owns-given}
use Rattle.law_bytes.proofs.Rebuilds.{received, sound-for}
use Rattle.law_bytes.specs.Areas.{SettledWrite}

module _ (s : Dimensions) (shaped : IsShape s) (settled : ℕ → List Update) (write : SettledWrite s settled)
    (old : ℕ → ℕ → Bool) (p : Process) (x : ProcessId) (seated : Seated s p x) (inside : IsProcess s x)
    (living : knows_dead p.known x ≡ false)
    (goes : (d : ℕ) → d < s.k → GoesOn (settled d) (replica_of p d)) (next : NextIsNew s p)
    (holds : Holding s settled old p) (needs : NeedsInside s p)
    (many : length (lost_by s p.known) ≤ length (left_by s p.known))
    (begins : (i block : ℕ) → p.name ≡ ParityNode i → ProcessFollows s settled i (suc p.as_leader.last_session) (opening_plan s block p) p) where
  module _ (block i : ℕ) (name : p.name ≡ ParityNode i) (within : block < s.blocks) (first : (e : ℕ) → Among e (lost_of s p) → Contains (rows_of s p) i)
      (none : oldest_inherited p (range_with_len 0 s.k) ≡ None) where
    unopened : open_session p.as_leader (suc p.as_leader.last_session) ≡ None
    unopened = by (open_session p.as_leader (suc p.as_leader.last_session)) ((begins i block name).session name) where
      by : (o : Option Gathering) → IfSome o (λ g. (suc p.as_leader.last_session ≤ p.as_leader.last_session)
          × GatheringFollows s settled (opening_plan s block p) g) → o ≡ None
      by None follows = refl
      by (Some g) follows = let low = follows.0 in absurd (omega (arith, low))

    -- what is said of the new session is said of the open one
    opened-is : (P : Gathering → Type 0) → P (new_session s (suc p.as_leader.last_session) block p)
        → IfSome (open_session (session_opened s (suc p.as_leader.last_session) block p).as_leader (suc p.as_leader.last_session)) P
    opened-is P holds_new =
        found-behind (λ g. g.number == suc p.as_leader.last_session) P p.as_leader.sessions
        (new_session s (suc p.as_leader.last_session) block p) (subst (λ o. IfSome o P) (sym unopened) tt) holds_new

    lost-opened : LostFollows i (suc p.as_leader.last_session) (opening_plan s block p) (session_opened s (suc p.as_leader.last_session) block p)
    lost-opened leads =
        opened-is (λ g. (e : ℕ) → Contains g.lost e → ((replica_of p e).applied ≤ (replica_of p e).applied)
        × IfSome (head_at p e) (λ h. h.inherited ≤ (replica_of p e).applied))
        (λ e lost.
        let among = (among-filter (λ d. knows_dead p.known (DataNode d)) e (range_with_len 0 s.k) (contains-among (lost_of s p) e lost)).0 in
        (omega arith, by e among (head_at p e) refl))
      where
        by : (e : ℕ) → Among e (range_with_len 0 s.k) → (o : Option Head) → head_at p e ≡ o → IfSome o (λ h. h.inherited ≤ (replica_of p e).applied)
        by e among None is = tt
        by e among (Some h) is = oldest-none s 0 p (range_with_len 0 s.k) none e among h is

    sound-opened : IfSome (open_session (session_opened s (suc p.as_leader.last_session) block p).as_leader (suc p.as_leader.last_session)) (SoundFor s p.known)
    sound-opened =
        opened-is (SoundFor s p.known)
        (sound-for s p.known many (new_session s (suc p.as_leader.last_session) block p)
        (record { lost = refl; rows = refl; blocks = λ d bytes there. absurd (cc (there, nothing d)) })) where
          nothing : (d : ℕ) → ◌≡◌ {A = Option (List ℕ)} (at None (replicate s.k None) d) None
          nothing d = at-replicate None s.k d

    start-given : RebuildsGiven s settled p (start_session s block p).process
    start-given =
        subst
        (λ (z : ℕ). RebuildsGiven s settled p
        (for_each (lost_of s p) (own_mark s z (suc p.as_leader.last_session) block)
        (session_opened s (suc p.as_leader.last_session) block p)).process)
        (sym (ap parity_number name))
        (λ d b bytes below before after.
        owns-given s shaped settled write (opening_plan s block p) i (suc p.as_leader.last_session) block p.known old p goes (lost_of s p)
        (session_opened s (suc p.as_leader.last_session) block p) name
        (lost-below s settled i (suc p.as_leader.last_session) write old p i name goes next holds block (opening_plan s block p) fits)
        (differ-rising (lost_of s p) (rising-filtered (λ e. knows_dead p.known (DataNode e)) s.k))
        (unmarked s settled i (suc p.as_leader.last_session) write old p i name goes next holds block (opening_plan s block p) fits)
        (each-all (λ e. replica_of p e ≡ replica_of p e) (λ e. refl) (lost_of s p))
        (among-each (λ e. (block ≡ block) × ((replica_of p e).applied ≡ (replica_of p e).applied)
        × Contains (rows_of s p) i) (lost_of s p) (λ e among. (refl, refl, first e among)))
        (holding-leader s settled old p
        (record p.as_leader {
          last_session = suc p.as_leader.last_session;
          sessions = p.as_leader.sessions
              ++ new_session s (suc p.as_leader.last_session) block p ∷ [];
        }) (λ e c there. refl) holds)
        ((opened-passes s settled i (suc p.as_leader.last_session) write old p i name goes next holds block
        (opening_plan s block p) fits).follows (begins i block name)).0
        lost-opened sound-opened d b bytes before after)
      where
        fits : i ≡ i → suc p.as_leader.last_session ≡ suc p.as_leader.last_session
            → (opening_plan s block p ≡ opening_plan s block p) × (block < s.blocks) × ((e : ℕ) → Among e (lost_of s p) → Contains (rows_of s p) i)
        fits leads numbers = (refl, within, first)

  first-row : (d i : ℕ) (h : Head) → p.name ≡ ParityNode i → d < s.k → head_at p d ≡ Some h → (e : ℕ) → Among e (lost_of s p) → Contains (rows_of s p) i
  first-row d i h name below heads = leads-rows s p i (subst (IsProcess s) here inside)
      (λ j low. all-among (λ k. knows_dead p.known (ParityNode k)) (range_with_len 0 i) j
      (and-split (knows_dead p.known (DataNode d))
      (list_all (λ k. knows_dead p.known (ParityNode k)) (range_with_len 0 i)) lower).1
      (among-range j 0 i (omega arith) (omega (arith, low))))
      (subst (λ (y : ProcessId). knows_dead p.known y ≡ false) here living)
    where
      here : x ≡ ParityNode i
      here = sym seated.name ∙ name

      lower : knows_lower p.known d i ≡ true
      lower = seat-lower p d i h.rank (subst (Sits p d) here (seated.sits d below)) (ap (option_map (λ (y : Head). y.rank)) heads)

  stays-given : (q : Process) → NoneStays s p q → RebuildsGiven s settled p q
  stays-given q stays = none-given s settled p q stays

  retry-given : (d : ℕ) (h : Head) (op : Asked) (block : ℕ) (o : Option Oldest) → oldest_inherited p (range_with_len 0 s.k) ≡ o → d < s.k → head_at p d ≡ Some h
      → decide (space_of s) h.inherited (replica_of p d) op (found_at s d p p.name) ≡ decides.NeedBlock block
      → RebuildsGiven s settled p (retry_block s block o p).step.process
  retry-given d h op block (Some o) is below heads decided = stays-given p (none-self s p)
  retry-given d h op block None is below heads decided = by (not (list_any (λ g. g.block == block) p.as_leader.sessions)) where
    started : (y : ProcessId) → p.name ≡ y → RebuildsGiven s settled p (start_session s block p).process
    started (ParityNode i) name = start-given block i name (needs d h op block below heads decided) (first-row d i h name below heads) is
    started (DataNode e) name =
        absurd (data-never s h.inherited op d e block p
        (subst (λ (y : ProcessId). decide (space_of s) h.inherited (replica_of p d) op (found_at s d p y)
        ≡ decides.NeedBlock block) name decided))

    by : (b : Bool) → RebuildsGiven s settled p (when b p (start_session s block p)).process
    by true = started p.name refl
    by false = stays-given p (none-self s p)

  ticketed-stays : (b : Bool) (d : ℕ) (u : Update) (step : ProcessStep) → NoneStays s p step.process → NoneStays s p (ticketed b d u step).step.process
  ticketed-stays true d u step stays = stays
  ticketed-stays false d u step stays = stays

  act-given : (call : CallName) (op : Asked) (d : ℕ) (h : Head) (decision : Decision) → d < s.k → head_at p d ≡ Some h
      → decide (space_of s) h.inherited (replica_of p d) op (found_at s d p p.name) ≡ decision
      → RebuildsGiven s settled p (act_on s call op d h p decision).step.process
  act-given call op d h (decides.Answer r) below heads is = stays-given p (none-self s p)
  act-given call op d h (decides.Retry k) below heads is = stays-given p (none-self s p)
  act-given call op d h decides.NoSpace below heads is = stays-given p (none-self s p)
  act-given call op d h (decides.NeedBlock b) below heads is = retry-given d h op b (oldest_inherited p (range_with_len 0 s.k)) refl below heads is
  act-given call op d h (decides.Issue body outcome) below heads is =
      let u : Update = update_of call op d body outcome p in
      stays-given (act_on s call op d h p (decides.Issue body outcome)).step.process
      (ticketed-stays (nat_le u.number (replica_of (issued s d h u p).process d).applied) d u (issued s d h u p)
      (λ e b before. none-judge s d (with_replica d (with_update u (replica_of p d)) p) e b before))

  ask-given : (call : CallName) (op : Asked) (d : ℕ) (o : Option Head) → d < s.k → head_at p d ≡ o
      → RebuildsGiven s settled p (ask_head s call op d p o).step.process
  ask-given call op d None below heads = stays-given p (none-self s p)
  ask-given call op d (Some h) below heads =
      act-given call op d h (decide (space_of s) h.inherited (replica_of p d) op (found_at s d p p.name)) below heads
      refl

  collect-stays : (caller call : ℕ) (ds : List ℕ) → NoneStays s p (collect_from caller call p ds).step.process
  collect-stays caller call [] = none-self s p
  collect-stays caller call (d ∷ ds) = by (find (is_call caller call) (held_at p d)) (collect-stays caller call ds) where
    handed : (b : Bool) (h : Held) → NoneStays s p (handed_out b d h p).step.process
    handed true h = none-self s p
    handed false h = none-self s p

    by : (o : Option Held) → NoneStays s p (collect_from caller call p ds).step.process
        → NoneStays s p (collect_held d o p (collect_from caller call p ds)).step.process
    by None rest = rest
    by (Some h) rest = handed (nat_le h.number (replica_of p d).applied) h

  home-below : (key : List ℕ) → home_of key s.k < s.k
  home-below key = let some = seated.some in omega arith

  treats-given : (step : ProcessStep) → Treats s p step → RebuildsGiven s settled p step.process
  treats-given _ (Asks call op bytes) = ask-given call op (home_of (key_of op.act) s.k)
      (head_at p (home_of (key_of op.act) s.k)) (home-below (key_of op.act)) refl
  treats-given _ (Collects caller call) = stays-given (collect_from caller call p (range_with_len 0 s.k)).step.process
      (collect-stays caller call (range_with_len 0 s.k))
  treats-given _ Flushes = stays-given p (none-self s p)

module _ (s : Dimensions) (shaped : IsShape s) where
  treated : (v w : State) (p : ProcessId) (t : ProcessStep) → IsProcess s p → IsGroupUp s v → v.dead p ≡ false → Treats s (v.process p) t → Backed s v
      → Members s w
      → NextIsNew s (v.process p) → NeedsInside s (v.process p)
      → StepSettles s w.settled (v.process p) t → Acted s v w p t → SessionsStand s v → RebuildsGiven s w.settled (v.process p) t.process
  treated v w p t pin up lives treats backed after next needs right acts stands =
      treats-given s shaped w.settled right.write (rebuilt_at (v.process p)) (v.process p) p
      (record { name = name; some = some; sits = λ d below. backed.members.sits p d pin lives below }) pin (backed.members.not_self p pin lives)
      right.applies.log next
      (holding-from s w.settled (v.process p)
      (before-holds s v v w p t pin backed.members (λ q qin. refl) (λ q qin. refl) (λ d. refl) acts lives
      backed.bytes)) needs
      (enough s v backed.members up p pin lives) begins t treats
    where
      name : (v.process p).name ≡ p
      name = backed.members.named p pin

      some : 0 < s.k
      some = let first = shaped.k in omega (arith, first)

      begins : (i block : ℕ) → (v.process p).name ≡ ParityNode i
          → ProcessFollows s w.settled i (suc (v.process p).as_leader.last_session) (opening_plan s block (v.process p))
          (v.process p)
      begins i block leads =
          let lin : i < s.m = subst (IsProcess s) (sym name ∙ leads) pin in
          let one = stands i (suc (v.process p).as_leader.last_session) lin in
          (fresh s shaped v w p t pin lives treats backed after next needs right acts i
          (suc (v.process p).as_leader.last_session) lin one.0 one.1 leads refl block).processes p pin lives

pub steps_rebuild : StepsAlwaysRebuild
steps_rebuild s shaped = record { treats = treated s shaped; receives = received s shaped }
