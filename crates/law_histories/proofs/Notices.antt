-- What a process makes of the notice of a death, told of one partition: acknowledgements are judged anew, and
-- where all of lower rank are dead the partition is taken over.
use Rattle.std.proofs.Common.{ℕ, zero, suc, ◌≡◌, ◌≢◌, ◌<◌, ◌≤◌, Bool, true, false, not, ◌&&◌, List, [], ◌∷◌, ◌++◌}
use Rattle.std.proofs.Common.{Option, Some, None, ◌⊎◌, inl, inr, refl, sym, ap, subst, ◌∙◌, arith}
use Rattle.std.proofs.lemmas.Bool.{cases_eq}
use Rattle.std.specs.Prelude.{is_some, option_map}
use Rattle.std.specs.List.{list_all, range_with_len}
use Rattle.group_types.specs.Dimensions.{Dimensions}
use Rattle.group_types.specs.Lists.{at}
use Rattle.group_types.specs.Names.{IsProcess, of_rank}
use Rattle.group_types.specs.declared.process.ProcessId.{ProcessId}
use Rattle.group_types.specs.declared.process.ProcessId.TheVariants.{DataNode, ParityNode}
use Rattle.group_types.proofs.Lists.{at-put, at-put-other}
use Rattle.group_types.proofs.Eaches.{each-all}
use Rattle.membership.specs.Members.{Membership, knows_dead, with_dead}
use Rattle.group_message.specs.declared.message.Message.{Message}
use Rattle.group_message.specs.declared.message.Message.TheVariants as tells
use Rattle.group_message.specs.declared.update.Update.{Update}
use Rattle.group_run.specs.Applying.{ProcessStep, and_then, for_each, head_at, quiet, replica_of, sending, when}
use Rattle.group_run.specs.Heading.{judge, judge_head, partition, rank, to_others}
use Rattle.group_run.specs.Leaders.{close_sessions}
use Rattle.group_run.specs.Process.{Head, Process}
use Rattle.group_run.specs.Receiving.{death_known, enthroned, take_over_if, taken_over, takes_over}
use Rattle.group_run.specs.Rows.{parity_number}
use Rattle.group_run.specs.World.{sent_to}
use Rattle.law_moves.specs.State.{State}
use Rattle.law_moves.proofs.Members.{Members, Sits, SitsWhen, knows_lower, seat_of}
use Rattle.law_moves.proofs.Keeping.{lower-each}
use Rattle.law_moves.proofs.Notices.{both}
use Rattle.law_histories.proofs.LaneWords.{AckBelow, AckFits}
use Rattle.law_histories.proofs.HistoryWords.{HistoryLaws}
use Rattle.law_histories.proofs.Around.{Around}
use Rattle.law_histories.proofs.Calls.{sent-each, sent-one}
use Rattle.law_histories.proofs.Hears.{act-take}
use Rattle.law_histories.proofs.Rows.{still-close}
use Rattle.law_histories.proofs.Steps.{Leads, SameIn, Spares, Still, judge-leads, range-leads, same-in-refl}
use Rattle.law_histories.proofs.Steps.{settled-none, still-each, still-judge, still-leads, still-quiet, still-then}
use Rattle.law_histories.proofs.Steps.{still-when, then-leads, told-others}

not-some : {X : Type 0} (h : Option X) → not (is_some h) ≡ true → h ≡ None
not-some None e = refl
not-some (Some x) e = cc e

module _ (s : Dimensions) (d : ℕ) where
  -- a takeover elsewhere
  still-taken_over : (e : ℕ) (p : Process) → e ≢ d → Still d p (taken_over s e p)
  still-taken_over e p other =
      let r : ℕ = suc (parity_number p.name) in
      let q : Process = enthroned s r e p in
      let apart : d ≢ e = λ same. other (sym same) in
      let m : Message = tells.Adopt (rank r) (partition e) (replica_of p e).applied (replica_of p e).log in
      still-then d p (sending (to_others s p m) q) (judge s e)
      (record {
        same = record { name = refl; known = refl; head = at-put-other None p.heads e d _ apart; rank = at-put-other 0 p.ranks e d r apart; replica = refl };
        sent = told-others s d p q m (λ i. other);
        quiet = refl;
      }) (still-judge s d e q other)

  pub still-take : (e : ℕ) (p : Process) → e ≢ d → Still d p (take_over_if s e p)
  still-take e p other = still-when d (takes_over p e p.name) p (taken_over s e p) (still-taken_over e p other)

  pub same-known : (dead : ProcessId) (p : Process)
      → (head_at (death_known dead p) d ≡ head_at p d) × (at 0 (death_known dead p).ranks d ≡ at 0 p.ranks d) ×
      (replica_of (death_known dead p) d ≡ replica_of p d) × ((death_known dead p).name ≡ p.name) × ((death_known dead p).known ≡ with_dead p.known dead)
  same-known (DataNode e) p = (refl, refl, refl, refl, refl)
  same-known (ParityNode e) p = (refl, refl, refl, refl, refl)

module _ (F : ℕ → ℕ → List Update → Type 0) (laws : HistoryLaws F) (s : Dimensions) (v : State) (members : Members s v)
    (d : ℕ) (below : d < s.k) (p : ProcessId) (pin : IsProcess s p) (lives : v.dead p ≡ false)
    (inn : ProcessId → List Message)
    (known : Membership) (spares : Spares F laws s v members d below p pin lives inn known)
    (dies : (q : ProcessId) → IsProcess s q → q ≢ p → knows_dead known q ≡ true → v.dead q ≡ true) where
  -- the process as it was, but for what it knows
  pub record Stood (q : Process) : Type 0 where
    pub name : q.name ≡ p
    pub knows : q.known ≡ known
    pub head : head_at q d ≡ head_at (v.process p) d
    pub rank : at 0 q.ranks d ≡ at 0 (v.process p).ranks d
    pub replica : replica_of q d ≡ replica_of (v.process p) d

  stood-same : (q r : Process) → SameIn d q r → Stood q → Stood r
  stood-same q r same stood =
      record {
        name = same.name ∙ stood.name;
        knows = same.known ∙ stood.knows;
        head = same.head ∙ stood.head;
        rank = same.rank ∙ stood.rank;
        replica = same.replica ∙ stood.replica;
      }

  spares-of : (q : Process) → Stood q → Spares F laws s v members d below p pin lives inn q.known
  spares-of q stood i iin other living = ap (λ (k : Membership). knows_dead k (ParityNode i)) stood.knows ∙ spares i iin other living

  judges-lead : (proc : Process) → Stood proc → Leads F laws s v members d below p pin lives inn proc (for_each (range_with_len 0 s.k) (judge s) proc)
  judges-lead proc stood =
      range-leads F laws s v members d below p pin lives inn (judge s) Stood stood-same (λ e q other. still-judge s d e q other)
      (λ q stood. judge-leads F laws s v members d below p pin lives inn d q stood.name (spares-of q stood)) s.k 0 proc stood

  -- the partition is taken over
  module _ (i : ℕ) (is : p ≡ ParityNode i) where
    lower-dead : knows_dead known (DataNode d) ≡ true → list_all (λ j. knows_dead known (ParityNode j))
        (range_with_len 0 i) ≡ true → (j : ℕ) → j < suc i → v.dead (of_rank d j) ≡ true
    lower-dead first rest zero low = dies (DataNode d) below (λ same. cc (same, is)) first
    lower-dead first rest (suc j) low =
        dies (ParityNode j) (let within : i < s.m = subst (IsProcess s) is pin in omega (arith, low, within))
        (λ same. let equal : j ≡ i = cc (same, is) in absurd (omega (arith, low, equal))) (lower-each known j 0 i rest (omega arith) (omega (arith, low)))

    taken-leads : (proc : Process) → Stood proc → takes_over proc d (ParityNode i) ≡ true
        → Leads F laws s v members d below p pin lives inn proc (taken_over s d proc)
    taken-leads proc stood test =
        subst (λ (r : ℕ). Leads F laws s v members d below p pin lives inn proc
        (and_then (sending
        (to_others s proc (tells.Adopt (rank r) (partition d) (replica_of proc d).applied (replica_of proc d).log))
        (enthroned s r d proc)) (judge s d))) (sym own)
        (then-leads F laws s v members d below p pin lives inn proc (sending (to_others s proc m) new) (judge s d) first
        (judge-leads F laws s v members d below p pin lives inn d new stood.name (spares-of proc stood)) (inl refl))
      where
        own : suc (parity_number proc.name) ≡ suc i
        own = ap (λ (y : ProcessId). suc (parity_number y)) (stood.name ∙ is)

        m : Message
        m = tells.Adopt (rank (suc i)) (partition d) (replica_of proc d).applied (replica_of proc d).log

        new : Process
        new = enthroned s (suc i) d proc

        parts : ((not (is_some (head_at proc d)) && knows_dead proc.known (DataNode d)) ≡ true)
            × (list_all (λ j. knows_dead proc.known (ParityNode j)) (range_with_len 0 i) ≡ true)
        parts = both (not (is_some (head_at proc d)) && knows_dead proc.known (DataNode d))
            (list_all (λ j. knows_dead proc.known (ParityNode j)) (range_with_len 0 i)) test

        front : (not (is_some (head_at proc d)) ≡ true) × (knows_dead proc.known (DataNode d) ≡ true)
        front = both (not (is_some (head_at proc d))) (knows_dead proc.known (DataNode d)) parts.0

        none : head_at proc d ≡ None
        none = not-some (head_at proc d) front.0

        noseat : seat_of (v.process p) d ≡ None
        noseat = ap (option_map (λ (x : Head). x.rank)) (sym stood.head ∙ none)

        lower : (j : ℕ) → j < suc i → v.dead (of_rank d j) ≡ true
        lower =
            lower-dead (ap (λ (k : Membership). knows_dead k (DataNode d)) (sym stood.knows) ∙ front.1)
            (ap (λ (k : Membership). list_all (λ j. knows_dead k (ParityNode j)) (range_with_len 0 i)) (sym stood.knows) ∙ parts.1)

        low : at 0 proc.ranks d ≤ i
        low = let same = stood.rank in let was = by (knows_lower (v.process p).known d i)
            (subst (Sits (v.process p) d) is (members.sits p d pin lives below)) in omega (arith, same, was) where
              by : (b : Bool) → SitsWhen b i (seat_of (v.process p) d) (at 0 (v.process p).ranks d) → at 0 (v.process p).ranks d ≤ i
              by true sits = absurd (cc (sits.0, noseat))
              by false sits = sits.1

        first : Leads F laws s v members d below p pin lives inn proc (sending (to_others s proc m) new)
        first out settled around =
            subst (Around F s v d p new (λ q. out q ++ sent_to q (to_others s proc m)) inn) (sym (settled-none d [] settled refl))
            (act-take F laws s v members d below p pin lives proc new out inn (λ q. sent_to q (to_others s proc m))
            settled i is none noseat stood.replica lower low (at-put None None proc.heads d _)
            (at-put 0 0 proc.ranks d (suc i)) refl
            (λ j jin other living. sent-one s proc m j jin (λ same. other (same ∙ stood.name)) (spares-of proc stood j jin other living))
            (λ q seen. sent-each (AckFits d q seen) s proc m q tt) (λ q n. sent-each (AckBelow d n) s proc m q tt) around)

  takes-lead : (y : ProcessId) → p ≡ y → (proc : Process) → Stood proc
      → Leads F laws s v members d below p pin lives inn proc (when (takes_over proc d y) proc (taken_over s d proc))
  takes-lead (DataNode e) is proc stood = still-leads F laws s v members d below p pin lives inn proc (quiet proc)
      (still-quiet d proc proc (same-in-refl d proc))
  takes-lead (ParityNode i) is proc stood = by (takes_over proc d (ParityNode i)) refl where
    by : (b : Bool) → takes_over proc d (ParityNode i) ≡ b → Leads F laws s v members d below p pin lives inn proc (when b proc (taken_over s d proc))
    by false test = still-leads F laws s v members d below p pin lives inn proc (quiet proc) (still-quiet d proc proc (same-in-refl d proc))
    by true test = taken-leads i is proc stood test

  takeovers-lead : (proc : Process) → Stood proc → Leads F laws s v members d below p pin lives inn proc (for_each (range_with_len 0 s.k) (take_over_if s) proc)
  takeovers-lead proc stood = range-leads F laws s v members d below p pin lives inn (take_over_if s) Stood stood-same (λ e q other. still-take s d e q other)
      (λ q stood. subst (λ (y : ProcessId). Leads F laws s v members d below p pin lives inn q
      (when (takes_over q d y) q (taken_over s d q))) (sym stood.name) (takes-lead p refl q stood)) s.k 0 proc stood

  -- judging leaves heads as they are
  head-kept : (e : ℕ) (q : Process) (h : Option Head) → head_at (judge_head s e q h).process d ≡ head_at q d
  head-kept e q None = refl
  head-kept e q (Some h) = refl

  heads-kept : (es : List ℕ) (q : Process) → head_at (for_each es (judge s) q).process d ≡ head_at q d
  heads-kept [] q = refl
  heads-kept (e ∷ es) q = heads-kept es (judge s e q).process ∙ head-kept e q (head_at q e)

  -- the steps of a notice, of which one at most settles updates of the partition
  judge-none : (e : ℕ) (q : Process) → head_at q d ≡ None → Still d q (judge s e q)
  judge-none e q none = by (cases_eq e d) where
    by : (e ≡ d) ⊎ (e ≢ d) → Still d q (judge s e q)
    by (inr other) = still-judge s d e q other
    by (inl same) = subst (λ (x : ℕ). Still d q (judge s x q)) (sym same)
        (subst (λ (h : Option Head). Still d q (judge_head s d q h)) (sym none) (still-quiet d q q (same-in-refl d q)))

  take-some : (e : ℕ) (q : Process) (h : Head) → head_at q d ≡ Some h → Still d q (take_over_if s e q)
  take-some e q h some = by (cases_eq e d) where
    no_test : (y : ProcessId) → takes_over q d y ≡ false
    no_test (DataNode z) = refl
    no_test (ParityNode i) =
        ap (λ (o : Option Head). not (is_some o) && knows_dead q.known (DataNode d) && list_all
        (λ j. knows_dead q.known (ParityNode j)) (range_with_len 0 i)) some

    by : (e ≡ d) ⊎ (e ≢ d) → Still d q (take_over_if s e q)
    by (inr other) = still-take s d e q other
    by (inl same) =
        subst (λ (x : ℕ). Still d q (take_over_if s x q)) (sym same)
        (subst (λ (b : Bool). Still d q (when b q (taken_over s d q))) (sym (no_test q.name)) (still-quiet d q q (same-in-refl d q)))

  abbrev closed : Process → ProcessStep
  closed proc = close_sessions s proc.as_leader.sessions proc

  abbrev judged : Process → ProcessStep
  judged proc = and_then (closed proc) (for_each (range_with_len 0 s.k) (judge s))

  pub notice-leads : (proc : Process) → Stood proc → Leads F laws s v members d below p pin lives inn proc
      (and_then (judged proc) (for_each (range_with_len 0 s.k) (take_over_if s)))
  notice-leads proc stood = by (head_at proc d) refl where
    close_still : Still d proc (closed proc)
    close_still = still-close s d proc.as_leader.sessions proc

    by : (h : Option Head) → head_at proc d ≡ h → Leads F laws s v members d below p pin lives inn proc
        (and_then (judged proc) (for_each (range_with_len 0 s.k) (take_over_if s)))
    by None none = then-leads F laws s v members d below p pin lives inn proc (judged proc) (for_each (range_with_len 0 s.k) (take_over_if s))
        (still-leads F laws s v members d below p pin lives inn proc (judged proc) before)
        (takeovers-lead (judged proc).process (stood-same proc (judged proc).process before.same stood))
        (inl before.quiet)
      where
        before : Still d proc (judged proc)
        before = still-then d proc (closed proc) (for_each (range_with_len 0 s.k) (judge s)) close_still
            (still-each d (range_with_len 0 s.k) (judge s) (closed proc).process
            (each-all (λ e. (q : Process) → SameIn d (closed proc).process q → Still d q (judge s e q))
            (λ e q same. judge-none e q (same.head ∙ close_still.same.head ∙ none)) (range_with_len 0 s.k)))
    by (Some h) some = then-leads F laws s v members d below p pin lives inn proc (judged proc) (for_each (range_with_len 0 s.k) (take_over_if s))
        judges
        (still-leads F laws s v members d below p pin lives inn (judged proc).process
        (for_each (range_with_len 0 s.k) (take_over_if s) (judged proc).process) behind)
        (inr behind.quiet)
      where
        close_stood : Stood (closed proc).process
        close_stood = stood-same proc (closed proc).process close_still.same stood

        judges : Leads F laws s v members d below p pin lives inn proc (judged proc)
        judges = then-leads F laws s v members d below p pin lives inn proc (closed proc) (for_each (range_with_len 0 s.k) (judge s))
            (still-leads F laws s v members d below p pin lives inn proc (closed proc) close_still)
            (judges-lead (closed proc).process close_stood) (inl close_still.quiet)

        still_head : (g : Head) × (head_at (judged proc).process d ≡ Some g)
        still_head = (h, heads-kept (range_with_len 0 s.k) (closed proc).process ∙ close_still.same.head ∙ some)

        behind : Still d (judged proc).process (for_each (range_with_len 0 s.k) (take_over_if s) (judged proc).process)
        behind = still-each d (range_with_len 0 s.k) (take_over_if s) (judged proc).process
            (each-all (λ e. (q : Process) → SameIn d (judged proc).process q → Still d q (take_over_if s e q))
            (λ e q same. take-some e q still_head.0 (same.head ∙ still_head.1)) (range_with_len 0 s.k))
