-- What comes in for a session, marks that a row takes, and sessions that it forgets leave a process able to lead.
use Rattle.std.proofs.Common.{ℕ, ◌≡◌, ◌≤◌, ◌==◌, nat_le, Bool, true, false, not, ◌&&◌, List, [], ◌∷◌, filter, Option}
use Rattle.std.proofs.Common.{Some, None, is_some, if◌then◌else◌, Contains, refl, sym, subst, ◌∙◌}
use Rattle.std.proofs.lemmas.List.Elements.{All-filter, All-map, All-push, All-weaker}
use Rattle.group_types.specs.Dimensions.{Dimensions}
use Rattle.group_types.specs.Lists.{put}
use Rattle.group_types.specs.Names.{same_process}
use Rattle.group_types.specs.declared.process.ProcessId.TheVariants.{ParityNode}
use Rattle.group_run.specs.Applying.{apply_to}
use Rattle.group_run.specs.Leaders.{block_comes, block_gathered, copy_kept, copy_marked, gathered, gathered_when}
use Rattle.group_run.specs.Leaders.{is_complete, mark_comes, mark_taken, open_session, rebuilt_block, rebuilt_unless}
use Rattle.group_run.specs.Leaders.{row_comes, row_finished, row_gathered, with_decoded, with_leader, without_session}
use Rattle.group_run.specs.Process.{Copy, Gathering, LeaderState, Process}
use Rattle.group_run.specs.Rows.{accepts_mark, begin_copy, copies_ceased, copy_begun, copy_in, is_copy, is_marked}
use Rattle.group_run.specs.Rows.{marked, new_copy, parity_number, with_copies, without_copy}
use Rattle.leader_role.specs.Sound.{AreStarted}
use Rattle.leader_role.proofs.Finding.{found-all}
use Rattle.leader_role.proofs.Steps.{AreRowed, OwnStarted, Stays, applied-stays, stays-alike, stays-self, stays-then, stays-when}

-- a session, if it is the process's own, is one that it started
abbrev pub MayStart : ℕ → ℕ → Process → Type 0
MayStart l number p = l ≡ parity_number p.name → number ≤ p.as_leader.last_session

abbrev IsStarted : Process → Copy → Type 0
IsStarted p c = MayStart c.leader c.number p

module _ (s : Dimensions) where
  -- what is decoded leaves all but the rebuilt blocks
  decoded-leaves : {X : Type 0} (part : LeaderState → X)
      → ((rebuilt : List (List (Option (List ℕ)))) (state : LeaderState) → part (record state { rebuilt = rebuilt })
      ≡ part state)
      → (g : Gathering) (ls : List ℕ) (state : LeaderState) → part (with_decoded s g ls state) ≡ part state
  decoded-leaves part leaves g [] state = refl
  decoded-leaves part leaves g (l ∷ ls) state =
      decoded-leaves part leaves g ls (rebuilt_unless (is_some (rebuilt_block state l g.block)) s g l state) ∙ unless (is_some (rebuilt_block state l g.block))
    where
      unless : (b : Bool) → part (rebuilt_unless b s g l state) ≡ part state
      unless true = refl
      unless false = leaves (rebuilt_unless false s g l state).rebuilt state

  gathered-last : (complete : Bool) (g : Gathering) (state : LeaderState) → (gathered_when complete s g state).last_session ≡ state.last_session
  gathered-last true g state = decoded-leaves (λ l. l.last_session) (λ blocks l. refl) g g.lost
      (record state { sessions = without_session g.number state.sessions })
  gathered-last false g state = refl

  -- what comes in leaves the others
  gathered-rowed : (i : ℕ) (complete : Bool) (g : Gathering) (state : LeaderState) → Contains g.rows i → AreRowed i state.sessions
      → AreRowed i (gathered_when complete s g state).sessions
  gathered-rowed i true g state mine all =
      subst (AreRowed i)
      (sym (decoded-leaves (λ l. l.sessions) (λ blocks l. refl) g g.lost
      (record state { sessions = without_session g.number state.sessions })))
      (All-filter (λ x. not (x.number == g.number)) (λ x. Contains x.rows i) state.sessions all)
  gathered-rowed i false g state mine all =
      All-map (λ x. Contains x.rows i) (λ x. if x.number == g.number then g else x) state.sessions
      (All-weaker (λ x. Contains x.rows i) (λ x. Contains (if x.number == g.number then g else x).rows i)
      (λ x has. by (x.number == g.number) x has) state.sessions all)
    where
      by : (b : Bool) (x : Gathering) → Contains x.rows i → Contains (if b then g else x).rows i
      by true x has = mine
      by false x has = has

  -- a process with another leader's part, of the same last session
  led-stays : (p : Process) (state : LeaderState) → state.last_session ≡ p.as_leader.last_session
      → ((i : ℕ) → AreRowed i p.as_leader.sessions → AreRowed i state.sessions)
      → Stays p (with_leader state p)
  led-stays p state last rows = record {
    name = refl;
    known = refl;
    seats = λ d. refl;
    rows = rows;
    last = last;
    copies = λ own. subst (λ (n : ℕ). AreStarted (parity_number p.name) n p.as_row.copies) (sym last) own;
  }

  -- the open session of a number has more in
  gathered-stays : (number : ℕ) (g more : Gathering) (p : Process) → open_session p.as_leader number ≡ Some g
      → more.rows ≡ g.rows → Stays p (with_leader (gathered s more p.as_leader) p)
  gathered-stays number g more p found same = led-stays p (gathered s more p.as_leader) (gathered-last (is_complete s more) more p.as_leader) (λ i all.
      let mine : Contains g.rows i = found-all (λ x. Contains x.rows i) (λ x. x.number == number) p.as_leader.sessions g found all in
      gathered-rowed i (is_complete s more) more p.as_leader (subst (λ (rows : List ℕ). Contains rows i) (sym same) mine) all)

  pub row-stays : (j number : ℕ) (bytes : List ℕ) (p : Process) → Stays p (row_comes s number j bytes p)
  row-stays j number bytes p = by (open_session p.as_leader number) refl
    where
      by : (o : Option Gathering) → open_session p.as_leader number ≡ o → Stays p (with_leader (row_gathered s j bytes o p.as_leader) p)
      by None found = stays-self p
      by (Some g) found = gathered-stays number g (record g { rows_in = put None g.rows_in j (Some bytes) }) p found refl

  pub block-stays : (e number : ℕ) (bytes : List ℕ) (p : Process) → Stays p (block_comes s number e bytes p)
  block-stays e number bytes p = by (open_session p.as_leader number) refl
    where
      by : (o : Option Gathering) → open_session p.as_leader number ≡ o → Stays p (with_leader (block_gathered s e bytes o p.as_leader) p)
      by None found = stays-self p
      by (Some g) found = gathered-stays number g (record g { blocks_in = put None g.blocks_in e (Some bytes) }) p found refl

  -- a row takes a mark
  finished-stays : (own : Bool) (c : Copy) (p : Process) → Stays p (row_finished own s c p).process
  finished-stays true c p = row-stays c.leader c.number c.bytes p
  finished-stays false c p = stays-self p

  -- copies are forgotten
  pub filtered-stays : (test : Copy → Bool) (p : Process) → Stays p (with_copies (filter test p.as_row.copies) p)
  filtered-stays test p = stays-alike p _ refl refl refl refl (λ own. All-filter test (IsStarted p) p.as_row.copies own)

  pub cease-stays : (l upto : ℕ) (p : Process) → Stays p (copies_ceased l upto p)
  cease-stays l upto p =
      stays-alike p _ refl refl refl refl (λ own. All-filter (λ c. not (c.leader == l && nat_le c.number upto))
      (IsStarted p) p.as_row.copies own)

  kept-stays : (complete : Bool) (c : Copy) (p : Process) → (OwnStarted p → IsStarted p c) → Stays p (copy_kept complete s c p).process
  kept-stays true c p own =
      let q : Process = with_copies (without_copy c.leader c.number p.as_row.copies) p in
      let mine : Bool = same_process p.name (ParityNode c.leader) in
      stays-then p q (row_finished mine s c q).process (filtered-stays (λ x. not (is_copy c.leader c.number x)) p) (finished-stays mine c q)
  kept-stays false c p own = stays-alike p _ refl refl refl refl (λ all.
      All-map (IsStarted p) (λ x. if is_copy c.leader c.number x then c else x) p.as_row.copies
      (All-weaker (IsStarted p) (λ x. IsStarted p (if is_copy c.leader c.number x then c else x)) (λ x is. by (is_copy c.leader c.number x) x (own all) is)
      p.as_row.copies all))
    where
      by : (b : Bool) (x : Copy) → IsStarted p c → IsStarted p x → IsStarted p (if b then c else x)
      by true x new is = new
      by false x new is = is

  marked-stays : (l number d n : ℕ) (o : Option Copy) (p : Process) → copy_in p.as_row.copies l number ≡ o → Stays p (copy_marked s d n o p).process
  marked-stays l number d n None p there = stays-self p
  marked-stays l number d n (Some c) p there =
      kept-stays (is_marked s (marked d n c)) (marked d n c) p (λ all. found-all (IsStarted p) (is_copy l number) p.as_row.copies c there all)

  begun-stays : (begun : Bool) (l number block : ℕ) (p : Process) → MayStart l number p → Stays p (copy_begun begun s l number block p)
  begun-stays true l number block p may = stays-self p
  begun-stays false l number block p may =
      stays-alike p _ refl refl refl refl (λ own. All-push (IsStarted p) p.as_row.copies (new_copy s l number block p.space) own may)

  pub mark-stays : (l number r block d n : ℕ) (p : Process) → MayStart l number p → Stays p (mark_comes s l number r block d n p).process
  mark-stays l number r block d n p may =
      let begun : Process = begin_copy s l number block p in
      let q : Process = apply_to s d n begun in
      let to_q : Stays p q =
      stays-then p begun q (begun-stays (is_some (copy_in p.as_row.copies l number)) l number block p may) (applied-stays s d n begun) in
      stays-when (accepts_mark p l number r d) p (mark_taken s l number block d n p)
      (stays-then p q (copy_marked s d n (copy_in q.as_row.copies l number) q).process to_q
      (marked-stays l number d n (copy_in q.as_row.copies l number) q refl))
