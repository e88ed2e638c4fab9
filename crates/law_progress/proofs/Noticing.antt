-- What a process makes of the notice of a death: it forgets the copies of a dead leader, and closes its own sessions.
use Rattle.std.proofs.Common.{◌≡◌, ◌≢◌, ℕ, ◌<◌, ◌≤◌, ◌==◌, ◌&&◌, Bool, true, false, not, List, [], ◌∷◌, ◌++◌, find}
use Rattle.std.proofs.Common.{is_some, Option, Some, None, option_map, ◌⊎◌, inl, inr, refl, sym, ap, ap₂, subst, ◌∙◌}
use Rattle.std.proofs.Common.{arith}
use Rattle.std.proofs.lemmas.Bool.{cases_eq, eq-eqb, ne_eqb}
use Rattle.std.specs.List.{range_with_len}
use Rattle.group_types.specs.Dimensions.{Dimensions}
use Rattle.group_types.specs.Lists.{at}
use Rattle.group_types.specs.Names.{same_process}
use Rattle.group_types.specs.declared.process.ProcessId.{ProcessId}
use Rattle.group_types.specs.declared.process.ProcessId.TheVariants.{DataNode, ParityNode}
use Rattle.group_types.proofs.Names.{same-ne}
use Rattle.group_types.specs.Each.{Each}
use Rattle.group_types.proofs.Eaches.{each-append, each-all, each-map}
use Rattle.membership.specs.Members.{knows_dead, with_dead}
use Rattle.group_message.specs.declared.message.Message.{Message}
use Rattle.group_message.specs.declared.message.Message.TheVariants as tells
use Rattle.group_run.specs.Applying.{ProcessStep, and_then, for_each}
use Rattle.group_run.specs.Heading.{judge, other_parities}
use Rattle.group_run.specs.Leaders.{close_sessions}
use Rattle.group_run.specs.Process.{Copy, Gathering, Process}
use Rattle.group_run.specs.Receiving.{death_known, notice_comes, take_over_if}
use Rattle.group_run.specs.Rows.{copies_ceased, is_copy, leader_forgotten, parity_number}
use Rattle.law_moves.proofs.Known.{knows-with_dead}
use Rattle.law_bytes.proofs.Finding.{found-filter}
use Rattle.law_bytes.proofs.Local.{copy-parts}
use Rattle.law_progress.proofs.Waiting.{Has, AsksForBlock, IsMark, Marked, WantsBlock, WantsRow, marks_in}
use Rattle.law_progress.proofs.Mild.{Alike, Mild, alike-then, mild-each, mild-judge, mild-take}
use Rattle.law_progress.proofs.Sides as sides
use Rattle.law_progress.proofs.Sides.{After, Calm, CalmSent, CopyFine, Fair, Fresh, IsCease, LeaderFine, LeaderSide}
use Rattle.law_progress.proofs.Sides.{Leaves, NoMore, RowFine, RowSide, SentSide, calm-ask, calm-leaves, calm-mark}
use Rattle.law_progress.proofs.Sides.{calm-none, calm-sent, leaves-each, opened, same-leader}
use Rattle.law_progress.proofs.Taking.{nothing, parity-one}
use Rattle.law_progress.proofs.Views.{Sends, has-either, has-filter, has-left, has-map, has-range, map-has}
use Rattle.law_progress.proofs.Ceasing.{ceased-below, ceased-own, ceased-rises, marks-left}

module _ (s : Dimensions) (x dead : ProcessId) (p : Process) where
  -- the process that knows of it
  abbrev told : Process
  told = death_known dead p

  -- what it is but for its copies
  record Knows (q : Process) : Type 0 where
    pub name : q.name ≡ p.name
    pub leader : q.as_leader ≡ p.as_leader
    pub ceased : q.as_row.ceased ≡ p.as_row.ceased
    pub marks : (l n : ℕ) → (marks_in q l n ≡ marks_in p l n) ⊎ ((marks_in q l n ≡ None) × (knows_dead q.known (ParityNode l) ≡ true))

  knows : (y : ProcessId) → y ≡ dead → Knows (leader_forgotten y (record p { known = with_dead p.known dead }))
  knows (DataNode e) same = record { name = refl; leader = refl; ceased = refl; marks = λ l n. inl refl }
  knows (ParityNode l) same = record { name = refl; leader = refl; ceased = refl; marks = λ k n. by k n (cases_eq k l) } where
    q : Process
    q = leader_forgotten (ParityNode l) (record p { known = with_dead p.known dead })

    keep : (k n : ℕ) (c : Copy) → is_copy k n c ≡ true → not (c.leader == l) ≡ not (k == l)
    keep k n c is = ap (λ (a : ℕ). not (a == l)) (copy-parts k n c is).0

    by : (k n : ℕ) → (k ≡ l) ⊎ (k ≢ l) → (marks_in (leader_forgotten (ParityNode l) (record p { known = with_dead p.known dead })) k n ≡ marks_in p k n)
        ⊎ ((marks_in (leader_forgotten (ParityNode l) (record p { known = with_dead p.known dead })) k n ≡ None)
        × (knows_dead (with_dead p.known dead) (ParityNode k) ≡ true))
    by k n (inr other) =
        inl (ap (option_map (λ c. c.marks)) (found-filter (is_copy k n) (λ c. not (c.leader == l)) true p.as_row.copies
        (λ c is. keep k n c is ∙ ap not (ne_eqb k l other))))
    by k n (inl here) = inr (
      ap (option_map (λ c. c.marks)) (found-filter (is_copy k n) (λ c. not (c.leader == l)) false p.as_row.copies
          (λ c is. keep k n c is ∙ ap not (eq-eqb k l here))),
      ap (knows_dead (with_dead p.known dead)) (ap ParityNode here ∙ same) ∙ knows-with_dead p.known dead,
    )

  -- closing: all that stands before the heads judge and take over
  abbrev closing : ProcessStep
  closing = close_sessions s told.as_leader.sessions told

  record Closed (t : ProcessStep) : Type 1 where
    pub known : t.process.known ≡ told.known
    pub none : t.process.as_leader.sessions ≡ []
    pub last : t.process.as_leader.last_session ≡ p.as_leader.last_session
    pub marks : (l n : ℕ) → (marks_in t.process l n ≡ marks_in told l n) ⊎ ((marks_in t.process l n ≡ None) × (n ≤ at 0 t.process.as_row.ceased l))
    pub rises : (l : ℕ) → at 0 p.as_row.ceased l ≤ at 0 t.process.as_row.ceased l
    pub below : (l n : ℕ) → at 0 p.as_row.ceased l < n → (l ≡ parity_number p.name → p.as_leader.last_session < n) → at 0 t.process.as_row.ceased l < n
    pub above : (l n : ℕ) (marks : List (Option ℕ)) → marks_in t.process l n ≡ Some marks → at 0 p.as_row.ceased l < n → at 0 t.process.as_row.ceased l < n
    pub ends : (n : ℕ) → is_some (opened p n) ≡ true → n ≤ p.as_leader.last_session
        → (n ≤ at 0 t.process.as_row.ceased (parity_number p.name))
        × ((i : ℕ) → Has (λ j. j ≡ i) (other_parities s.m told.name told.known) → Sends (IsCease n) (ParityNode i)
        t.sent)
    pub sent : (P : Message → Type 0) → ((upto : ℕ) → P (tells.Cease upto) → ⊥) → (y : ProcessId) → Sends P y t.sent → ⊥
    pub leaves : (n : ℕ) → p.as_leader.last_session < n → Each (λ z. Leaves n z.message) t.sent

  closes : (gs : List Gathering) → told.as_leader.sessions ≡ gs → Knows told → Closed (close_sessions s gs told)
  closes [] is knows = record {
    known = refl;
    none = is;
    last = ap (λ l. l.last_session) knows.leader;
    marks = λ l n. inl refl;
    rises = λ l. let c = ap (λ (ns : List ℕ). at 0 ns l) knows.ceased in omega (arith, c);
    below = λ l n low above. let c = ap (λ (ns : List ℕ). at 0 ns l) knows.ceased in omega (arith, c, low);
    above = λ l n marks found low. let c = ap (λ (ns : List ℕ). at 0 ns l) knows.ceased in omega (arith, c, low);
    ends = λ n some low.
        absurd (cc (sym (ap (λ (gs : List Gathering). is_some (find (λ g. g.number == n) gs))
        (sym (ap (λ l. l.sessions) knows.leader) ∙ is)) ∙ some));
    sent = λ P never y sends. sends;
    leaves = λ n low. tt;
  }
  closes (g ∷ gs) is knows = record {
    known = refl;
    none = refl;
    last = ap (λ l. l.last_session) knows.leader;
    marks = λ l n. marks_by l n (marks-left i last ended l n);
    rises = λ l. let c = ap (λ (ns : List ℕ). at 0 ns l) knows.ceased in let r = ceased-rises i last ended l in omega (arith, c, r);
    below =
        λ l n low above. ceased-below i last ended l n (let c = ap (λ (ns : List ℕ). at 0 ns l) knows.ceased in omega (arith, c, low))
        (λ same. let high = above (same ∙ number) in omega (arith, high, last_is));
    above = λ l n marks found low. above_by l n marks found (let c = ap (λ (ns : List ℕ). at 0 ns l) knows.ceased in
        omega (arith, c, low)) (marks-left i last ended l n);
    ends = λ n some low. (
      (let own = ceased-own i last ended in let here : at 0 (copies_ceased i last ended).as_row.ceased
          (parity_number p.name) ≡ at 0 (copies_ceased i last ended).as_row.ceased i =
          ap (at 0 (copies_ceased i last ended).as_row.ceased) (sym number) in omega (arith, own, here, low, last_is)),
      (λ j has. has-map (λ z. (z.to ≡ ParityNode j) × IsCease n z.message)
          (λ k. record { to = ParityNode k; message = tells.Cease last }) (other_parities s.m told.name told.known)
          (each_to n j (omega (arith, low, last_is)) (other_parities s.m told.name told.known) has)),
    );
    sent =
        λ P never y sends. never_to P never y (other_parities s.m told.name told.known)
        (map-has (λ z. (z.to ≡ y) × P z.message) (λ k. record { to = ParityNode k; message = tells.Cease last })
        (other_parities s.m told.name told.known) sends);
    leaves =
        λ n low. each-map (λ z. Leaves n z.message) (λ k. record { to = ParityNode k; message = tells.Cease last }) (other_parities s.m told.name told.known)
        (each-all (λ k. last < n) (λ k. omega (arith, low, last_is)) (other_parities s.m told.name told.known));
  } where
    i : ℕ
    i = parity_number told.name

    last : ℕ
    last = told.as_leader.last_session

    ended : Process
    ended = record told { as_leader = record told.as_leader { sessions = [] } }

    number : i ≡ parity_number p.name
    number = ap parity_number knows.name

    last_is : last ≡ p.as_leader.last_session
    last_is = ap (λ l. l.last_session) knows.leader

    marks_by : (l n : ℕ) → ((l ≡ i) × (n ≤ last) × (marks_in (copies_ceased i last ended) l n ≡ None))
        ⊎ ((marks_in (copies_ceased i last ended) l n ≡ marks_in ended l n) × (l ≡ i → last < n))
        → (marks_in (copies_ceased i last ended) l n ≡ marks_in told l n)
        ⊎ ((marks_in (copies_ceased i last ended) l n ≡ None)
        × (n ≤ at 0 (copies_ceased i last ended).as_row.ceased l))
    marks_by l n (inr same) = inl same.0
    marks_by l n (inl gone) =
        inr (
          gone.2,
          let own = ceased-own i last ended in let low = gone.1 in
              let here : at 0 (copies_ceased i last ended).as_row.ceased l ≡ at 0 (copies_ceased i last ended).as_row.ceased
              i = ap (at 0 (copies_ceased i last ended).as_row.ceased) gone.0 in omega (arith, own, low, here),
        )

    above_by : (l n : ℕ) (marks : List (Option ℕ)) → marks_in (copies_ceased i last ended) l n ≡ Some marks → at 0 ended.as_row.ceased l < n
        → ((l ≡ i) × (n ≤ last) × (marks_in (copies_ceased i last ended) l n ≡ None))
        ⊎ ((marks_in (copies_ceased i last ended) l n ≡ marks_in ended l n) × (l ≡ i → last < n))
        → at 0 (copies_ceased i last ended).as_row.ceased l < n
    above_by l n marks found low (inr same) = ceased-below i last ended l n low same.1
    above_by l n marks found low (inl gone) = absurd (cc (sym gone.2 ∙ found))

    each_to : (n j : ℕ) → n ≤ last → (ks : List ℕ) → Has (λ k. k ≡ j) ks → Has (λ k. (ParityNode k ≡ ParityNode j) × (n ≤ last)) ks
    each_to n j low [] has = absurd has
    each_to n j low (k ∷ ks) (inl here) = inl (ap ParityNode here, low)
    each_to n j low (k ∷ ks) (inr there) = inr (each_to n j low ks there)

    never_to : (P : Message → Type 0) → ((upto : ℕ) → P (tells.Cease upto) → ⊥) → (y : ProcessId) (ks : List ℕ)
        → Has (λ k. (ParityNode k ≡ y) × P (tells.Cease last)) ks → ⊥
    never_to P never y [] has = has
    never_to P never y (k ∷ ks) (inl here) = never last here.1
    never_to P never y (k ∷ ks) (inr there) = never_to P never y ks there

  -- the heads judge, and partitions are taken over
  abbrev judged : Process → ProcessStep
  judged = for_each (range_with_len 0 s.k) (judge s)

  abbrev taking : Process → ProcessStep
  taking = for_each (range_with_len 0 s.k) (take_over_if s)

  abbrev came_notice : List Message
  came_notice = tells.Notice dead ∷ []

  abbrev noticed : ProcessStep
  noticed = and_then (and_then closing judged) taking

  mild-judged : Mild closing.process (judged closing.process)
  mild-judged = mild-each (range_with_len 0 s.k) (judge s) closing.process (λ d q. mild-judge s d q)

  mild-taking : Mild (judged closing.process).process (taking (judged closing.process).process)
  mild-taking = mild-each (range_with_len 0 s.k) (take_over_if s) (judged closing.process).process (λ d q. mild-take s d q)

  rest : Alike closing.process noticed.process
  rest = alike-then closing.process (judged closing.process).process noticed.process mild-judged.alike mild-taking.alike

  knows-dead : Knows told
  knows-dead = knows dead refl

  closed : Closed closing
  closed = closes told.as_leader.sessions refl knows-dead

  none-open : (n : ℕ) → opened noticed.process n ≡ None
  none-open n = ap (λ (gs : List Gathering). find (λ g. g.number == n) gs) (rest.sessions ∙ closed.none)

  ceased-now : (l : ℕ) → at 0 noticed.process.as_row.ceased l ≡ at 0 closing.process.as_row.ceased l
  ceased-now l = ap (λ (ns : List ℕ). at 0 ns l) rest.ceased

  -- a copy is there, or forgotten with a dead leader, or ceased
  what-left : (l n : ℕ) → (marks_in noticed.process l n ≡ marks_in p l n)
      ⊎ ((marks_in noticed.process l n ≡ None) × ((knows_dead noticed.process.known (ParityNode l) ≡ true) ⊎ (n ≤ at 0 noticed.process.as_row.ceased l)))
  what-left l n = by (closed.marks l n) (knows-dead.marks l n) where
    by : (marks_in closing.process l n ≡ marks_in told l n) ⊎ ((marks_in closing.process l n ≡ None) × (n ≤ at 0 closing.process.as_row.ceased l))
        → (marks_in told l n ≡ marks_in p l n) ⊎ ((marks_in told l n ≡ None) × (knows_dead told.known (ParityNode l) ≡ true))
        → (marks_in noticed.process l n ≡ marks_in p l n) ⊎
        ((marks_in noticed.process l n ≡ None) × ((knows_dead noticed.process.known (ParityNode l) ≡ true) ⊎ (n ≤ at 0 noticed.process.as_row.ceased l)))
    by (inr gone) _ = inr (rest.marks l n ∙ gone.0, inr (let c = ceased-now l in let low = gone.1 in omega (arith, c, low)))
    by (inl same) (inl old) = inl (rest.marks l n ∙ same ∙ old)
    by (inl same) (inr gone) = inr (rest.marks l n ∙ same ∙ gone.0, inl (ap (λ known. knows_dead known (ParityNode l)) (rest.known ∙ closed.known) ∙ gone.1))

  kept-notice : (l n r e : ℕ) → Marked e (marks_in p l n) → After s x came_notice p noticed l n r e
  kept-notice l n r e held = by (what-left l n) where
    by : (marks_in noticed.process l n ≡ marks_in p l n)
        ⊎ ((marks_in noticed.process l n ≡ None)
        × ((knows_dead noticed.process.known (ParityNode l) ≡ true) ⊎ (n ≤ at 0 noticed.process.as_row.ceased l)))
        → After s x came_notice p noticed l n r e
    by (inl same) = sides.Stays (subst (Marked e) (sym same) held)
    by (inr (none, inl unknown)) = sides.Unknown unknown
    by (inr (none, inr low)) = sides.Ceased low

  copies-notice : (l n : ℕ) → is_some (marks_in noticed.process l n) ≡ true → is_some (marks_in p l n) ≡ true
  copies-notice l n some = by (what-left l n) where
    by : (marks_in noticed.process l n ≡ marks_in p l n)
        ⊎ ((marks_in noticed.process l n ≡ None)
        × ((knows_dead noticed.process.known (ParityNode l) ≡ true) ⊎ (n ≤ at 0 noticed.process.as_row.ceased l)))
        → is_some (marks_in p l n) ≡ true
    by (inl same) = ap is_some (sym same) ∙ some
    by (inr gone) = cc (sym (ap is_some gone.0) ∙ some)

  below-notice : (l n r : ℕ) → p.name ≡ ParityNode r → at 0 p.as_row.ceased l < n → (l ≡ r → Fresh noticed.process n) → at 0 noticed.process.as_row.ceased l < n
  below-notice l n r name low fresh =
      let under = closed.below l n low (λ same. last_below (fresh (same ∙ ap parity_number name))) in
      let c = ceased-now l in omega (arith, under, c)
    where
      last_below : Fresh noticed.process n → p.as_leader.last_session < n
      last_below (inl some) = cc (sym (ap is_some (none-open n)) ∙ some)
      last_below (inr above) = let a = rest.last in let b = closed.last in omega (arith, above, a, b)

  -- no message of the step is such, unless a close notice is
  sends-none : (P : Message → Type 0) → ((upto : ℕ) → P (tells.Cease upto) → ⊥) → ((m : Message) → Calm m → P m → ⊥)
      → (y : ProcessId) → Sends P y noticed.sent → ⊥
  sends-none P never calm y sends =
      outer (has-either (λ z. (z.to ≡ y) × P z.message) (closing.sent ++ (judged closing.process).sent)
      (taking (judged closing.process).process).sent sends) where
        inner : Has (λ z. (z.to ≡ y) × P z.message) closing.sent ⊎ Has (λ z. (z.to ≡ y) × P z.message) (judged closing.process).sent → ⊥
        inner (inl one) = closed.sent P never y one
        inner (inr two) = calm-none P calm y (judged closing.process).sent mild-judged.calm two

        outer : Has (λ z. (z.to ≡ y) × P z.message) (closing.sent ++ (judged closing.process).sent)
            ⊎ Has (λ z. (z.to ≡ y) × P z.message) (taking (judged closing.process).process).sent → ⊥
        outer (inl first) = inner (has-either (λ z. (z.to ≡ y) × P z.message) closing.sent (judged closing.process).sent first)
        outer (inr three) = calm-none P calm y (taking (judged closing.process).process).sent mild-taking.calm three

  -- an open session is ceased at all others
  left-notice : LeaderFine s p → (l n r : ℕ) → p.name ≡ ParityNode l → WantsRow r (opened p n) → NoMore s x came_notice p noticed l n r
  left-notice fine l n r name wants =
      sides.Closed
      (let low = ends.0 in let c = ceased-now (parity_number p.name) in let here : at 0 noticed.process.as_row.ceased l
      ≡ at 0 noticed.process.as_row.ceased (parity_number p.name) =
      ap (at 0 noticed.process.as_row.ceased) (sym (ap parity_number name)) in omega (arith, low, c, here))
      (λ i low other unknown. has-left (λ z. (z.to ≡ ParityNode i) × IsCease n z.message)
      (closing.sent ++ (judged closing.process).sent) (taking (judged closing.process).process).sent
      (has-left (λ z. (z.to ≡ ParityNode i) × IsCease n z.message) closing.sent (judged closing.process).sent (ends.1 i (among i low other unknown))))
    where
      some_low : (o : Option Gathering) → opened p n ≡ o → WantsRow r o → (is_some (opened p n) ≡ true) × (n ≤ p.as_leader.last_session)
      some_low None is wanted = absurd wanted
      some_low (Some g) is wanted = (ap is_some is, (fine n g is).1)

      ends : (n ≤ at 0 closing.process.as_row.ceased (parity_number p.name))
          × ((i : ℕ) → Has (λ j. j ≡ i) (other_parities s.m told.name told.known) → Sends (IsCease n) (ParityNode i)
          closing.sent)
      ends = let it = some_low (opened p n) refl wants in closed.ends n it.0 it.1

      among : (i : ℕ) → i < s.m → i ≢ l → knows_dead noticed.process.known (ParityNode i) ≡ false → Has (λ j. j ≡ i) (other_parities s.m told.name told.known)
      among i low other unknown =
          has-filter (λ j. not (same_process told.name (ParityNode j)) && not (knows_dead told.known (ParityNode j))) i
          (range_with_len 0 s.m) (has-range i 0 s.m (omega arith) (omega (arith, low)))
          (ap₂ (λ (a b : Bool). not a && not b)
          (same-ne told.name (ParityNode i) (λ same. other (parity-one i l (sym same ∙ knows-dead.name ∙ name))))
          (ap (λ known. knows_dead known (ParityNode i)) (sym (rest.known ∙ closed.known)) ∙ unknown))

  pub notice-fair : Fair s x came_notice p (notice_comes s dead p)
  notice-fair = record {
    row = record {
      kept = λ l n r e name held. kept-notice l n r e held;
      took = λ l n r d name low has accepted. absurd (nothing has);
      copies = λ l n r name some. inl (copies-notice l n some);
      below = λ l n r name low fresh leaves. below-notice l n r name low fresh;
      rises = λ l. let c = ceased-now l in let r = closed.rises l in omega (arith, c, r);
      heard = λ l n r name from has. absurd (nothing has);
      fine = λ within fine l n marks is. fine_by fine l n marks is (what-left l n);
    };
    leader = record {
      rows = λ l n r name wants. absurd (subst (WantsRow r) (none-open n) wants);
      blocks = λ l n d name low wants. absurd (subst (WantsBlock d) (none-open n) wants);
      known = λ l n r name wants. absurd (subst (WantsRow r) (none-open n) wants);
      left = λ fine l n r name wants. inr (left-notice fine l n r name wants);
      fresh = λ n fresh. inr (last_below n fresh);
      fine = λ fine n g is. absurd (cc (sym (none-open n) ∙ is));
    };
    sent = record {
      asked = λ l n r e name has. absurd (nothing has);
      given = λ l n e name has. absurd (nothing has);
      marks = λ l n r d sends. absurd (sends-none (IsMark l n d) (λ upto is. is) (calm-mark l n d) (ParityNode r) sends);
      asks = λ l n r e low sends. absurd (sends-none (AsksForBlock l n r) (λ upto is. is) (calm-ask l n r) (DataNode e) sends);
      ceases = λ l n name fresh. each-append (λ z. Leaves n z.message) (closing.sent ++ (judged closing.process).sent)
          (taking (judged closing.process).process).sent
          (each-append (λ z. Leaves n z.message) closing.sent (judged closing.process).sent
          (closed.leaves n (last_below n fresh)) (leaves-each n (judged closing.process).sent mild-judged.calm))
          (leaves-each n (taking (judged closing.process).process).sent mild-taking.calm);
    };
  } where
    last_below : (n : ℕ) → Fresh noticed.process n → p.as_leader.last_session < n
    last_below n (inl some) = cc (sym (ap is_some (none-open n)) ∙ some)
    last_below n (inr above) = let a = rest.last in let b = closed.last in omega (arith, above, a, b)

    fine_by : RowFine s p → (l n : ℕ) (marks : List (Option ℕ)) → marks_in noticed.process l n ≡ Some marks
        → (marks_in noticed.process l n ≡ marks_in p l n) ⊎
        ((marks_in noticed.process l n ≡ None) × ((knows_dead noticed.process.known (ParityNode l) ≡ true) ⊎ (n ≤ at 0 noticed.process.as_row.ceased l)))
        → CopyFine s noticed.process l n marks
    fine_by fine l n marks is (inr gone) = absurd (cc (sym gone.0 ∙ is))
    fine_by fine l n marks is (inl same) =
        let old = fine l n marks (sym same ∙ is) in
        record {
          lacks = old.lacks;
          above = (let under = closed.above l n marks (sym (rest.marks l n) ∙ is) old.above in
              let c = ceased-now l in omega (arith, c, under));
          some = old.some;
        }
