-- A leader opens a session: all that it waits for is asked for or marked.
use Rattle.std.proofs.Common.{◌≡◌, ◌≢◌, ℕ, suc, ◌<◌, ◌≤◌, ◌==◌, Bool, true, false, not, List, [], ◌∷◌, length, take}
use Rattle.std.proofs.Common.{map, filter, flat_map, is_some, Option, Some, None, replicate, ◌⊎◌, inl, inr, refl, sym}
use Rattle.std.proofs.Common.{ap, ap₂, subst, ◌∙◌, arith}
use Rattle.std.proofs.lemmas.Bool.{cases_eq, eq-eqb, ne_eqb}
use Rattle.std.specs.Prelude.{◌||◌}
use Rattle.std.specs.List.{list_all, list_any, range_with_len}
use Rattle.group_types.specs.Dimensions.{Dimensions}
use Rattle.group_types.specs.Lists.{at}
use Rattle.group_types.specs.declared.process.ProcessId.{ProcessId}
use Rattle.group_types.specs.declared.process.ProcessId.TheVariants.{DataNode, ParityNode}
use Rattle.group_types.proofs.Lists.{at-replicate}
use Rattle.group_types.specs.Each.{Each}
use Rattle.group_types.proofs.Eaches.{each-append, each-all, each-map, each-filter}
use Rattle.membership.specs.Members.{knows_dead}
use Rattle.group_message.specs.declared.message.Message.{Message}
use Rattle.group_message.specs.declared.message.Message.TheVariants as tells
use Rattle.group_run.specs.Applying.{ProcessStep, Sent, and_then, for_each, replica_of, sending}
use Rattle.group_run.specs.Heading.{partition, rank}
use Rattle.group_run.specs.Leaders.{is_complete, leader_marks, left_of, lost_of, new_session, own_mark, rows_of}
use Rattle.group_run.specs.Leaders.{session_of, session_opened, session_starts, start_session}
use Rattle.group_run.specs.Process.{Gathering, Process}
use Rattle.group_run.specs.Rows.{parity_number}
use Rattle.law_moves.proofs.Calls.{each-below}
use Rattle.law_bytes.proofs.Finding.{and-split, true-false}
use Rattle.law_bytes.proofs.Stamps.{OfSession}
use Rattle.law_progress.proofs.Waiting.{Has, AsksForBlock, IsMark, IsRead, Marked, WantsBlock, WantsRow, marks_in}
use Rattle.law_progress.proofs.Gathering.{one-of-all}
use Rattle.law_progress.proofs.Sides as sides
use Rattle.law_progress.proofs.Sides.{CopyFine, Fair, Fresh, LeaderFine, LeaderSide, Leaves, NewBlock, NewRow, RowFine}
use Rattle.law_progress.proofs.Sides.{RowSide, SentSide, calm-ask, calm-mark, calm-none, leaves-each, opened}
use Rattle.law_progress.proofs.Starting.{Runs, first-passing, loop, once}
use Rattle.law_progress.proofs.Taking.{data-one, has-both, parity-one, same-or-not}
use Rattle.law_progress.proofs.Views.{Sends, filter-has, find-new, find-old, flat-has, has-either, has-filter, has-flat}
use Rattle.law_progress.proofs.Views.{has-left, has-map, has-range, has-right, map-has}

module _ (s : Dimensions) (x : ProcessId) (p : Process) (block l : ℕ) (inside : l < s.m) (name : p.name ≡ ParityNode l)
    (living : knows_dead p.known (ParityNode l) ≡ false) (above : at 0 p.as_row.ceased l < suc p.as_leader.last_session)
    (free : marks_in p l (suc p.as_leader.last_session) ≡ None) (numbered : LeaderFine s p) (a : ℕ) (a_in : a < s.k)
    (a_lost : knows_dead p.known (DataNode a) ≡ true) (lower : (j : ℕ) → j < l → knows_dead p.known (ParityNode j)
    ≡ true) where
  abbrev number : ℕ
  number = suc p.as_leader.last_session

  abbrev opening : Process
  opening = session_opened s number block p

  abbrev ran : ProcessStep
  ran = for_each (lost_of s p) (own_mark s l number block) opening

  abbrev step : ProcessStep
  step = and_then (sending (session_starts s l number block p) opening) (for_each (lost_of s p) (own_mark s l number block))

  runs : Runs s l number block (lost_of s p) opening ran
  runs = loop s l number block (lost_of s p) opening (each-filter (λ e. e < s.k) (λ d. knows_dead p.known (DataNode d))
      (range_with_len 0 s.k) (each-below s.k)) name living above

  -- who is lost, who is left, and that the leader is among the rows
  lost-has : (d : ℕ) → d < s.k → knows_dead p.known (DataNode d) ≡ true → Has (λ i. i ≡ d) (lost_of s p)
  lost-has d low is = has-filter (λ d. knows_dead p.known (DataNode d)) d (range_with_len 0 s.k) (has-range d 0 s.k (omega arith) (omega (arith, low))) is

  left-has : (d : ℕ) → d < s.k → knows_dead p.known (DataNode d) ≡ false → Has (λ i. i ≡ d) (left_of s p)
  left-has d low is = has-filter (λ d. not (knows_dead p.known (DataNode d))) d (range_with_len 0 s.k)
      (has-range d 0 s.k (omega arith) (omega (arith, low))) (ap not is)

  own-row : Has (λ i. i ≡ l) (rows_of s p)
  own-row = by (lost_of s p) (lost-has a a_in a_lost) where
    test : ℕ → Bool
    test i = not (knows_dead p.known (ParityNode i))

    by : (ls : List ℕ) → Has (λ i. i ≡ a) ls
        → Has (λ i. i ≡ l)
        (take (length ls) (filter (λ i. not (knows_dead p.known (ParityNode i))) (range_with_len 0 s.m)))
    by [] has = absurd has
    by (e ∷ es) has = first-passing (λ i. not (knows_dead p.known (ParityNode i))) l 0 s.m (length es) (omega arith)
        (omega (arith, inside)) (λ j over under. ap not (lower j under)) (ap not living)

  -- sessions as they are opened
  number-new : opened p number ≡ None
  number-new = by (opened p number) refl where
    by : (o : Option Gathering) → opened p number ≡ o → opened p number ≡ None
    by None is = is
    by (Some g) is = absurd (let low = (numbered number g is).1 in omega (arith, low))

  opened-new : opened opening number ≡ Some (new_session s number block p)
  opened-new = find-new (λ g. g.number == number) p.as_leader.sessions (new_session s number block p) number-new (eq-eqb number number refl)

  opened-old : (n : ℕ) → n ≢ number → opened opening n ≡ opened p n
  opened-old n other = find-old (λ g. g.number == n) p.as_leader.sessions (new_session s number block p) (ne_eqb number n (λ same. other (sym same)))

  wants-new : (r : ℕ) → Has (λ i. i ≡ r) (rows_of s p) → WantsRow r (opened opening number)
  wants-new r has = subst (WantsRow r) (sym opened-new) (has, at-replicate None s.m r)

  new-lacks : is_complete s (new_session s number block p) ≡ false
  new-lacks = true-false (is_complete s (new_session s number block p)) (λ complete. absurd
      (let rows = (and-split
      (list_all (λ d. list_any (λ i. i == d) (lost_of s p) || is_some (at None (replicate s.k None) d))
      (range_with_len 0 s.k)) (list_all (λ i. is_some (at None (replicate s.m None) i)) (rows_of s p)) complete).1 in
      let some = one-of-all (λ i. is_some (at None (replicate s.m None) i)) (rows_of s p) l rows own-row in
      cc (sym some ∙ ap is_some (at-replicate {X = Option (List ℕ)} None s.m l))))

  opening-fine : LeaderFine s opening
  opening-fine n g is = by (cases_eq n number) where
    by : (n ≡ number) ⊎ (n ≢ number) → (is_complete s g ≡ false) × (n ≤ number)
    by (inl same) = let it : new_session s number block p ≡ g =
        cc (sym opened-new ∙ ap (opened opening) (sym same) ∙ is) in
        (ap (is_complete s) (sym it) ∙ new-lacks, omega (arith, same))
    by (inr other) = let old = numbered n g (sym (opened-old n other) ∙ is) in (old.0, let low = old.1 in omega (arith, low))

  -- what is sent
  abbrev question : ℕ → Sent
  question d = record { to = DataNode d; message = tells.ReadBlock (session_of l number) block (rows_of s p) }

  abbrev mark_of : ℕ → ℕ → Sent
  mark_of e i = record { to = ParityNode i; message = tells.Mark (session_of l number) (rank (at 0 p.ranks e)) block (partition e) (replica_of p e).applied }

  asks-d : (d r : ℕ) → d < s.k → knows_dead p.known (DataNode d) ≡ false → Has (λ i. i ≡ r) (rows_of s p)
      → Sends (AsksForBlock l number r) (DataNode d) step.sent
  asks-d d r low is row =
      has-left P (session_starts s l number block p) ran.sent
      (has-left P (map question (left_of s p)) (flat_map (leader_marks s l number block p) (lost_of s p))
      (has-map P question (left_of s p) (each_of (left_of s p) (left-has d low is)))) where
        P : Sent → Type 0
        P z = (z.to ≡ DataNode d) × AsksForBlock l number r z.message

        each_of : (ds : List ℕ) → Has (λ i. i ≡ d) ds
            → Has (λ i. (DataNode i ≡ DataNode d)
            × (OfSession l number (session_of l number) × Has (λ i. i ≡ r) (rows_of s p))) ds
        each_of [] has = absurd has
        each_of (e ∷ es) (inl same) = inl (ap DataNode same, ((refl, refl), row))
        each_of (e ∷ es) (inr there) = inr (each_of es there)

  reads-d : (d : ℕ) → d < s.k → knows_dead p.known (DataNode d) ≡ false → Sends (IsRead l number) (DataNode d) step.sent
  reads-d d low is =
      has-left P (session_starts s l number block p) ran.sent
      (has-left P (map question (left_of s p)) (flat_map (leader_marks s l number block p) (lost_of s p))
      (has-map P question (left_of s p) (each_of (left_of s p) (left-has d low is)))) where
        P : Sent → Type 0
        P z = (z.to ≡ DataNode d) × IsRead l number z.message

        each_of : (ds : List ℕ) → Has (λ i. i ≡ d) ds → Has (λ i. (DataNode i ≡ DataNode d) × OfSession l number (session_of l number)) ds
        each_of [] has = absurd has
        each_of (e ∷ es) (inl same) = inl (ap DataNode same, (refl, refl))
        each_of (e ∷ es) (inr there) = inr (each_of es there)

  marks-d : (d r : ℕ) → d < s.k → knows_dead p.known (DataNode d) ≡ true → r ≢ l → Has (λ i. i ≡ r) (rows_of s p)
      → Sends (IsMark l number d) (ParityNode r) step.sent
  marks-d d r low is other row =
      has-left P (session_starts s l number block p) ran.sent
      (has-right P (map question (left_of s p)) (flat_map (leader_marks s l number block p) (lost_of s p))
      (has-flat P (leader_marks s l number block p) (lost_of s p)
      (each_lost (lost_of s p) (lost-has d low is)))) where
        P : Sent → Type 0
        P z = (z.to ≡ ParityNode r) × IsMark l number d z.message

        rows : Has (λ i. i ≡ r) (filter (λ i. not (i == l)) (rows_of s p))
        rows = has-filter (λ i. not (i == l)) r (rows_of s p) row (ap not (ne_eqb r l other))

        each_of : (e : ℕ) → e ≡ d → (is : List ℕ) → Has (λ i. i ≡ r) is
            → Has (λ i. (ParityNode i ≡ ParityNode r) × (OfSession l number (session_of l number) × (e ≡ d))) is
        each_of e same [] has = absurd has
        each_of e same (i ∷ is) (inl here) = inl (ap ParityNode here, ((refl, refl), same))
        each_of e same (i ∷ is) (inr there) = inr (each_of e same is there)

        each_lost : (es : List ℕ) → Has (λ i. i ≡ d) es
            → Has (λ e. Has (λ z. (z.to ≡ ParityNode r) × IsMark l number d z.message)
            (leader_marks s l number block p e)) es
        each_lost [] has = absurd has
        each_lost (e ∷ es) (inl same) =
            inl (has-map (λ z. (z.to ≡ ParityNode r) × IsMark l number d z.message) (mark_of e)
            (filter (λ i. not (i == l)) (rows_of s p))
            (each_of e same (filter (λ i. not (i == l)) (rows_of s p)) rows))
        each_lost (e ∷ es) (inr there) = inr (each_lost es there)

  -- what is sent comes of this session alone
  split-sent : (P : Message → Type 0) → ((m : Message) → sides.Calm m → P m → ⊥) → (y : ProcessId) → Sends P y step.sent
      → Has (λ d. (DataNode d ≡ y) × P (tells.ReadBlock (session_of l number) block (rows_of s p))) (left_of s p) ⊎ Has
      (λ e. Has (λ i. (ParityNode i ≡ y) × P (mark_of e i).message) (filter (λ i. not (i == l)) (rows_of s p))) (lost_of s p)
  split-sent P never y sends = outer (has-either Q (session_starts s l number block p) ran.sent sends) where
    Q : Sent → Type 0
    Q z = (z.to ≡ y) × P z.message

    each_lost : (es : List ℕ) → Has (λ e. Has (λ z. (z.to ≡ y) × P z.message) (leader_marks s l number block p e)) es
        → Has (λ e. Has (λ i. (ParityNode i ≡ y) × P (mark_of e i).message) (filter (λ i. not (i == l)) (rows_of s p))) es
    each_lost [] has = absurd has
    each_lost (e ∷ es) (inl here) = inl (map-has (λ z. (z.to ≡ y) × P z.message) (mark_of e) (filter (λ i. not (i == l)) (rows_of s p)) here)
    each_lost (e ∷ es) (inr there) = inr (each_lost es there)

    inner : Has (λ z. (z.to ≡ y) × P z.message) (map question (left_of s p)) ⊎ Has (λ z. (z.to ≡ y) × P z.message)
        (flat_map (leader_marks s l number block p) (lost_of s p))
        → Has (λ d. (DataNode d ≡ y) × P (tells.ReadBlock (session_of l number) block (rows_of s p))) (left_of s p) ⊎ Has
        (λ e. Has (λ i. (ParityNode i ≡ y) × P (mark_of e i).message) (filter (λ i. not (i == l)) (rows_of s p))) (lost_of s p)
    inner (inl one) = inl (map-has (λ z. (z.to ≡ y) × P z.message) question (left_of s p) one)
    inner (inr two) = inr (each_lost (lost_of s p) (flat-has (λ z. (z.to ≡ y) × P z.message) (leader_marks s l number block p) (lost_of s p) two))

    outer : Has (λ z. (z.to ≡ y) × P z.message) (session_starts s l number block p) ⊎ Has (λ z. (z.to ≡ y) × P z.message) ran.sent
        → Has (λ d. (DataNode d ≡ y) × P (tells.ReadBlock (session_of l number) block (rows_of s p))) (left_of s p) ⊎ Has
        (λ e. Has (λ i. (ParityNode i ≡ y) × P (mark_of e i).message) (filter (λ i. not (i == l)) (rows_of s p))) (lost_of s p)
    outer (inl starts) =
        inner (has-either (λ z. (z.to ≡ y) × P z.message) (map question (left_of s p))
        (flat_map (leader_marks s l number block p) (lost_of s p)) starts)
    outer (inr more) = absurd (calm-none P never y ran.sent runs.calm more)

  -- a row other than the leader's own is waited for
  waits-other : (r : ℕ) → r ≢ l → Has (λ i. i ≡ r) (rows_of s p) → WantsRow r (opened ran.process number)
  waits-other r other row = by (runs.left number r (wants-new r row)) where
    by : WantsRow r (opened ran.process number) ⊎ ((number ≡ number) × (r ≡ l)) → WantsRow r (opened ran.process number)
    by (inl wants) = wants
    by (inr own) = absurd (other own.1)

  -- so is its own, while some data process is left
  waits-own : (d : ℕ) → d < s.k → knows_dead p.known (DataNode d) ≡ false → WantsRow l (opened ran.process number)
  waits-own d low is =
      (runs.apart d low
      (λ lost. cc (sym is ∙ (filter-has (λ e. knows_dead p.known (DataNode e)) d (range_with_len 0 s.k) lost).1))
      (λ held. absurd (subst (Marked d) free held))).1
      (wants-new l own-row)

  waits-any : (r d : ℕ) → d < s.k → knows_dead p.known (DataNode d) ≡ false → Has (λ i. i ≡ r) (rows_of s p) → WantsRow r (opened ran.process number)
  waits-any r d low is row = by (cases_eq r l) where
    by : (r ≡ l) ⊎ (r ≢ l) → WantsRow r (opened ran.process number)
    by (inl same) = subst (λ (i : ℕ). WantsRow i (opened ran.process number)) (sym same) (waits-own d low is)
    by (inr other) = waits-other r other row

  -- the leader's own row
  own-side : RowSide s x [] p step
  own-side = record {
    kept = λ k n r e is held. kept k n r e held (same-or-not k n l number);
    took = λ k n r d is low has accepted. absurd has;
    copies = λ k n r is some. copies k n r is some (same-or-not k n l number);
    below = λ k n r is low fresh leaves. let c = ceased k in omega (arith, c, low);
    rises = λ k. let c = ceased k in omega (arith, c);
    heard = λ k n r is from has. absurd has;
    fine = λ within fine. runs.copy (λ k n marks is. let old = fine k n marks is in record { lacks = old.lacks; above = old.above; some = old.some });
  } where
    ceased : (k : ℕ) → at 0 ran.process.as_row.ceased k ≡ at 0 p.as_row.ceased k
    ceased k = ap (λ (ns : List ℕ). at 0 ns k) runs.ceased

    kept : (k n r e : ℕ) → Marked e (marks_in p k n) → ((k ≡ l) × (n ≡ number)) ⊎ (((k ≡ l) × (n ≡ number)) → ⊥) → sides.After s x [] p step k n r e
    kept k n r e held (inr other) = sides.Stays (subst (Marked e) (sym (runs.others k n other)) held)
    kept k n r e held (inl same) = absurd (subst (Marked e) (ap₂ (λ (i j : ℕ). marks_in p i j) same.0 same.1 ∙ free) held)

    copies : (k n r : ℕ) → p.name ≡ ParityNode r → is_some (marks_in ran.process k n) ≡ true → ((k ≡ l) × (n ≡ number)) ⊎ (((k ≡ l) × (n ≡ number)) → ⊥)
        → (is_some (marks_in p k n) ≡ true) ⊎ ((d : ℕ) × ⊥) ⊎ ((r ≡ k) × WantsRow r (opened ran.process n))
    copies k n r is some (inr other) = inl (ap is_some (sym (runs.others k n other)) ∙ some)
    copies k n r is some (inl same) =
        let own : r ≡ l = parity-one r l (sym is ∙ name) in
        inr (inr (
          own ∙ sym same.0,
          subst (λ (i : ℕ). WantsRow r (opened ran.process i)) (sym same.1) (subst (λ (i : ℕ). WantsRow i (opened ran.process number)) (sym own)
              (runs.holds (once (λ d. knows_dead p.known (DataNode d)) 0 s.k)
              (λ e has held. absurd (subst (Marked e) free held)) (wants-new l own-row)
              (ap₂ (λ (i j : ℕ). is_some (marks_in ran.process i j)) (sym same.0) (sym same.1) ∙ some))),
        ))

  -- what it leads
  new-row : (r d : ℕ) → d < s.k → Has (λ i. i ≡ r) (rows_of s p) → WantsRow r (opened ran.process number) → NewRow s x [] p step l number r d
  new-row r d low row wants = by (knows_dead p.known (DataNode d)) refl (cases_eq r l) where
    known : knows_dead ran.process.known (DataNode d) ≡ knows_dead p.known (DataNode d)
    known = ap (λ k. knows_dead k (DataNode d)) runs.known

    own : Marked d (marks_in ran.process l number) ⊎ (WantsRow l (opened ran.process number) → ⊥) → r ≡ l → NewRow s x [] p step l number r d
    own (inl held) same = sides.Own same held
    own (inr never) same = absurd (never (subst (λ (i : ℕ). WantsRow i (opened ran.process number)) same wants))

    by : (b : Bool) → knows_dead p.known (DataNode d) ≡ b → (r ≡ l) ⊎ (r ≢ l) → NewRow s x [] p step l number r d
    by false is either = sides.Left (known ∙ is) (asks-d d r low is row)
    by true is (inr other) = sides.Lost (known ∙ is) other (marks-d d r low is other row)
    by true is (inl same) = own (runs.done d (lost-has d low is)) same

  leads-side : LeaderSide s x [] p step
  leads-side = record {
    rows = λ k n r is wants. rows k n r is wants (cases_eq n number);
    blocks = λ k n d is low wants. blocks k n d is low wants (cases_eq n number);
    left = λ fine k n r is wants. left k n r wants (cases_eq n number);
    known = λ k n r is wants. runs.known;
    fresh = λ n fresh. fresh_by n fresh (cases_eq n number);
    fine = λ fine. runs.fine opening-fine;
  } where
    rows : (k n r : ℕ) → p.name ≡ ParityNode k → WantsRow r (opened ran.process n) → (n ≡ number) ⊎ (n ≢ number)
        → (WantsRow r (opened p n) × (x ≡ ParityNode r → ⊥ → ⊥)) ⊎ ((d : ℕ) → d < s.k → NewRow s x [] p step k n r d)
    rows k n r is wants (inr other) = inl (subst (WantsRow r) (opened-old n other) (runs.rows n r wants), λ from has. has)
    rows k n r is wants (inl same) =
        let here : WantsRow r (opened ran.process number) = subst (λ (i : ℕ). WantsRow r (opened ran.process i)) same wants in
        let before = subst (WantsRow r) opened-new (runs.rows number r here) in
        inr (λ d low. subst (λ (i : ℕ). NewRow s x [] p step i n r d) (parity-one l k (sym name ∙ is))
        (subst (λ (i : ℕ). NewRow s x [] p step l i r d) (sym same) (new-row r d low before.0 here)))

    blocks : (k n d : ℕ) → p.name ≡ ParityNode k → d < s.k → WantsBlock d (opened ran.process n) → (n ≡ number) ⊎ (n ≢ number)
        → (WantsBlock d (opened p n) × (x ≡ DataNode d → ⊥ → ⊥)) ⊎ NewBlock s x [] p step k n d
    blocks k n d is low wants (inr other) = inl (subst (WantsBlock d) (opened-old n other) (runs.blocks n d wants), λ from has. has)
    blocks k n d is low wants (inl same) =
        inr
        (subst (λ (i : ℕ). NewBlock s x [] p step i n d) (parity-one l k (sym name ∙ is))
        (subst (λ (i : ℕ). NewBlock s x [] p step l i d) (sym same)
        (by (knows_dead p.known (DataNode d)) refl))) where
          by : (b : Bool) → knows_dead p.known (DataNode d) ≡ b → NewBlock s x [] p step l number d
          by true known = inl (ap (λ k. knows_dead k (DataNode d)) runs.known ∙ known)
          by false known = inr (reads-d d low known)

    left : (k n r : ℕ) → WantsRow r (opened p n) → (n ≡ number) ⊎ (n ≢ number) → WantsRow r (opened ran.process n) ⊎ sides.NoMore s x [] p step k n r
    left k n r wants (inl same) = absurd (subst (WantsRow r) (ap (opened p) same ∙ number-new) wants)
    left k n r wants (inr other) = by (runs.left n r (subst (WantsRow r) (sym (opened-old n other)) wants)) where
      by : WantsRow r (opened ran.process n) ⊎ ((n ≡ number) × (r ≡ l)) → WantsRow r (opened ran.process n) ⊎ sides.NoMore s x [] p step k n r
      by (inl still) = inl still
      by (inr own) = absurd (other own.0)

    fresh_by : (n : ℕ) → Fresh ran.process n → (n ≡ number) ⊎ (n ≢ number) → Fresh p n
    fresh_by n fresh (inl same) = inr (omega (arith, same))
    fresh_by n (inl some) (inr other) = inl (ap is_some (sym (opened-old n other)) ∙ runs.opens n some)
    fresh_by n (inr over) (inr other) = inr (let last = runs.last in omega (arith, over, last))

  sent-side : SentSide s x [] p step
  sent-side = record {
    asked = λ k n r e is has. absurd has;
    given = λ k n e is has. absurd has;
    marks = λ k n r d sends. inr (marks k n r d (split-sent (IsMark k n d) (calm-mark k n d) (ParityNode r) sends));
    asks = λ k n r e low sends. asks k n r e low (split-sent (AsksForBlock k n r) (calm-ask k n r) (DataNode e) sends);
    ceases = λ k n is fresh. each-append (λ z. Leaves n z.message) (session_starts s l number block p) ran.sent
        (each-append (λ z. Leaves n z.message) (map question (left_of s p)) (flat_map (leader_marks s l number block p) (lost_of s p))
        (each-map (λ z. Leaves n z.message) question (left_of s p) (each-all (λ d. Unit {0}) (λ d. tt) (left_of s p))) (all_marks n (lost_of s p)))
        (leaves-each n ran.sent runs.calm);
  } where
    all_marks : (n : ℕ) (es : List ℕ) → Each (λ z. Leaves n z.message) (flat_map (leader_marks s l number block p) es)
    all_marks n [] = tt
    all_marks n (e ∷ es) = each-append (λ z. Leaves n z.message) (leader_marks s l number block p e) (flat_map (leader_marks s l number block p) es)
        (each-map (λ z. Leaves n z.message) (mark_of e) (filter (λ i. not (i == l)) (rows_of s p))
        (each-all (λ i. Unit {0}) (λ i. tt) (filter (λ i. not (i == l)) (rows_of s p)))) (all_marks n es)

    named : (k n : ℕ) → OfSession k n (session_of l number) → (l ≡ k) × (number ≡ n)
    named k n of_it = (parity-one l k of_it.0, of_it.1)

    ones : (r : ℕ) (is : List ℕ) → Has (λ i. ParityNode i ≡ ParityNode r) is → Has (λ i. i ≡ r) is
    ones r [] has = absurd has
    ones r (i ∷ is) (inl here) = inl (parity-one i r here)
    ones r (i ∷ is) (inr there) = inr (ones r is there)

    no_data : (r : ℕ) (ds : List ℕ) → (C : Type 0) → Has (λ d. (DataNode d ≡ ParityNode r) × C) ds → ⊥
    no_data r [] C has = has
    no_data r (d ∷ ds) C (inl here) = cc here.0
    no_data r (d ∷ ds) C (inr there) = no_data r ds C there

    mark_here : (k n r d e : ℕ)
        → Has (λ i. (ParityNode i ≡ ParityNode r) × (OfSession k n (session_of l number) × (e ≡ d))) (filter (λ i. not (i == l)) (rows_of s p))
        → (p.name ≡ ParityNode k) × WantsRow r (opened ran.process n)
    mark_here k n r d e has =
        let it = has-both (λ i. ParityNode i ≡ ParityNode r) (OfSession k n (session_of l number) × (e ≡ d)) (filter (λ i. not (i == l)) (rows_of s p)) has in
        let is = named k n it.0.0 in
        let row = filter-has (λ i. not (i == l)) r (rows_of s p) (ones r (filter (λ i. not (i == l)) (rows_of s p)) it.1) in (
          name ∙ ap ParityNode is.0,
          subst (λ (j : ℕ). WantsRow r (opened ran.process j)) is.1
              (waits-other r (λ same. cc (sym row.1 ∙ ap not (eq-eqb r l same))) row.0),
        )

    mark_among : (k n r d : ℕ) (es : List ℕ)
        → Has (λ e. Has (λ i. (ParityNode i ≡ ParityNode r) × (OfSession k n (session_of l number) × (e ≡ d))) (filter (λ i. not (i == l)) (rows_of s p))) es
        → (p.name ≡ ParityNode k) × WantsRow r (opened ran.process n)
    mark_among k n r d [] has = absurd has
    mark_among k n r d (e ∷ es) (inl here) = mark_here k n r d e here
    mark_among k n r d (e ∷ es) (inr there) = mark_among k n r d es there

    marks : (k n r d : ℕ)
        → Has (λ e. (DataNode e ≡ ParityNode r) × ⊥) (left_of s p) ⊎ Has
        (λ e. Has (λ i. (ParityNode i ≡ ParityNode r) × (OfSession k n (session_of l number) × (e ≡ d))) (filter (λ i. not (i == l)) (rows_of s p)))
        (lost_of s p)
        → (p.name ≡ ParityNode k) × WantsRow r (opened ran.process n)
    marks k n r d (inl wrong) = absurd (no_data r (left_of s p) ⊥ wrong)
    marks k n r d (inr has) = mark_among k n r d (lost_of s p) has

    no_parity : (e : ℕ) (is : List ℕ) → Has (λ i. (ParityNode i ≡ DataNode e) × ⊥) is → ⊥
    no_parity e [] has = has
    no_parity e (i ∷ is) (inl here) = here.1
    no_parity e (i ∷ is) (inr there) = no_parity e is there

    no_marks : (e : ℕ) (es : List ℕ) → Has (λ d. Has (λ i. (ParityNode i ≡ DataNode e) × ⊥) (filter (λ i. not (i == l)) (rows_of s p))) es → ⊥
    no_marks e [] has = has
    no_marks e (d ∷ ds) (inl here) = no_parity e (filter (λ i. not (i == l)) (rows_of s p)) here
    no_marks e (d ∷ ds) (inr there) = no_marks e ds there

    datas : (e : ℕ) (ds : List ℕ) → Has (λ d. DataNode d ≡ DataNode e) ds → Has (λ d. d ≡ e) ds
    datas e [] has = absurd has
    datas e (d ∷ ds) (inl here) = inl (data-one d e here)
    datas e (d ∷ ds) (inr there) = inr (datas e ds there)

    asks : (k n r e : ℕ) → e < s.k
        → Has (λ d. (DataNode d ≡ DataNode e) × (OfSession k n (session_of l number) × Has (λ i. i ≡ r) (rows_of s p))) (left_of s p) ⊎ Has
        (λ d. Has (λ i. (ParityNode i ≡ DataNode e) × ⊥) (filter (λ i. not (i == l)) (rows_of s p))) (lost_of s p)
        → (p.name ≡ ParityNode k) × WantsRow r (opened ran.process n)
    asks k n r e low (inr wrong) = absurd (no_marks e (lost_of s p) wrong)
    asks k n r e low (inl has) =
        let it = has-both (λ d. DataNode d ≡ DataNode e) (OfSession k n (session_of l number) × Has (λ i. i ≡ r) (rows_of s p)) (left_of s p) has in
        let is = named k n it.0.0 in
        let left = filter-has (λ d. not (knows_dead p.known (DataNode d))) e (range_with_len 0 s.k) (datas e (left_of s p) it.1) in (
          name ∙ ap ParityNode is.0,
          subst (λ (j : ℕ). WantsRow r (opened ran.process j)) is.1
              (waits-any r e low (not-true (knows_dead p.known (DataNode e)) left.1) it.0.1),
        )
      where
        not-true : (b : Bool) → not b ≡ true → b ≡ false
        not-true true is = cc is
        not-true false is = refl

  pub open-fair : Fair s x [] p (start_session s block p)
  open-fair = subst
      (λ (i : ℕ). Fair s x [] p (and_then (sending (session_starts s i number block p) opening)
      (for_each (lost_of s p) (own_mark s i number block)))) (sym (ap parity_number name))
      (record { row = own-side; leader = leads-side; sent = sent-side })
