-- What a process makes of marks, rows, blocks and questions that come to it.
use Rattle.std.proofs.Common.{◌≡◌, ◌≢◌, ℕ, ◌<◌, ◌==◌, ◌&&◌, nat_lt, Bool, true, false, not, List, [], ◌∷◌, is_some}
use Rattle.std.proofs.Common.{Some, None, ◌⊎◌, inl, inr, refl, sym, ap, subst, ◌∙◌, arith}
use Rattle.std.proofs.lemmas.Bool.{cases_eq}
use Rattle.std.proofs.lemmas.Grind.{common_steps}
use Rattle.group_types.specs.Dimensions.{Dimensions}
use Rattle.group_types.specs.Lists.{at}
use Rattle.group_types.specs.declared.process.ProcessId.{ProcessId}
use Rattle.group_types.specs.declared.process.ProcessId.TheVariants.{DataNode, ParityNode}
use Rattle.group_types.specs.Each.{Each}
use Rattle.group_types.proofs.Eaches.{each-all, each-map}
use Rattle.membership.specs.Members.{knows_dead}
use Rattle.group_message.specs.declared.message.Message.{Message}
use Rattle.group_message.specs.declared.message.Message.TheVariants as tells
use Rattle.group_message.specs.declared.message.Session.{Session}
use Rattle.group_run.specs.Applying.{ProcessStep, Sent, quiet, replica_of, when}
use Rattle.group_run.specs.Heading.{partition, rank}
use Rattle.group_run.specs.Leaders.{mark_comes, mark_taken}
use Rattle.group_run.specs.Process.{Process}
use Rattle.group_run.specs.Receiving.{data_marks, read_comes, receive}
use Rattle.group_run.specs.Rows.{accepts_mark, parity_number}
use Rattle.law_bytes.proofs.Finding.{and-split}
use Rattle.law_bytes.proofs.Stamps.{OfSession}
use Rattle.law_progress.proofs.Waiting.{Has, AsksForBlock, IsBlock, IsMark, IsRead, IsRow, Marked, WantsRow, marks_in}
use Rattle.law_progress.proofs.Gathering.{Gathers, block-gathers, row-gathers}
use Rattle.law_progress.proofs.Marking.{Goes, Outcome, Own, Takes, Waits, mark-takes}
use Rattle.law_progress.proofs.Mild.{fair-mild, mild-self}
use Rattle.law_progress.proofs.Sides as sides
use Rattle.law_progress.proofs.Sides.{Accepts, After, CopyFine, Fair, IsCease, LeaderFine, LeaderSide, Leaves, NoMore}
use Rattle.law_progress.proofs.Sides.{RowFine, RowSide, SentSide, calm-sent, opened, same-leader, same-row}
use Rattle.law_progress.proofs.Views.{Sends, has-map, map-has}

pub nothing : ⊥ ⊎ ⊥ → ⊥
nothing (inl none) = none
nothing (inr none) = none

pub parity-one : (i j : ℕ) → ParityNode i ≡ ParityNode j → i ≡ j
parity-one i j same = ap parity_number same

pub has-both : {X : Type 0} (A : X → Type 0) (C : Type 0) (xs : List X) → Has (λ x. A x × C) xs → C × Has A xs
has-both A C [] has = absurd has
has-both A C (x ∷ xs) (inl here) = (here.1, inl here.0)
has-both A C (x ∷ xs) (inr there) = let rest = has-both A C xs there in (rest.0, inr rest.1)

module _ (s : Dimensions) (x : ProcessId) (came : List Message) (p : Process) (t : ProcessStep) where
  -- a leader's side of what came in for a session
  pub leader-gathers : t.process.known ≡ p.known → (number : ℕ) (row block : ℕ → Type 0) → Gathers s p t.process number row block
      → ((l n r : ℕ) → p.name ≡ ParityNode l → x ≡ ParityNode r → Has (IsRow l n) came → (n ≡ number) × row r)
      → ((l n d : ℕ) → p.name ≡ ParityNode l → x ≡ DataNode d → Has (IsBlock l n) came → (n ≡ number) × block d)
      → ((l n r : ℕ) → p.name ≡ ParityNode l → n ≡ number → row r → NoMore s x came p t l n r) → LeaderSide s x came p t
  leader-gathers known number row block gathers row_came block_came no_more = record {
    known = λ l n r name wants. known;
    rows = λ l n r name wants. let old = gathers.rows n r wants in inl (old.0, λ from has. let it = row_came l n r name from has in old.1 it.0 it.1);
    blocks = λ l n d name low wants. let old = gathers.blocks n d wants in inl (old.0, λ from has. let it = block_came l n d name from has in old.1 it.0 it.1);
    left = λ fine l n r name wants. by l n r name (gathers.left n r wants);
    fresh = fresh;
    fine = gathers.fine;
  } where
    by : (l n r : ℕ) → p.name ≡ ParityNode l → WantsRow r (opened t.process n) ⊎ ((n ≡ number) × row r)
        → WantsRow r (opened t.process n) ⊎ NoMore s x came p t l n r
    by l n r name (inl wants) = inl wants
    by l n r name (inr it) = inr (no_more l n r name it.0 it.1)

    fresh : (n : ℕ) → sides.Fresh t.process n → sides.Fresh p n
    fresh n (inl is) = inl (gathers.opens n is)
    fresh n (inr above) = inr (let last = gathers.last in omega (arith, last, above))

data_number : ProcessId → ℕ
data_number (DataNode d) = d
data_number (ParityNode i) = i

pub data-one : (i j : ℕ) → DataNode i ≡ DataNode j → i ≡ j
unfolding data_number
data-one i j same = ap data_number same

module _ (s : Dimensions) (x : ProcessId) (p : Process) (i : ℕ) (session : Session) (bytes stamp : List ℕ) where
  abbrev came : List Message
  came = tells.Row session bytes stamp ∷ []

  abbrev t : ProcessStep
  t = receive s (ParityNode i) (tells.Row session bytes stamp) p

  row-number : (l n : ℕ) → Has (IsRow l n) came → n ≡ session.number
  row-number l n (inl of_it) = sym of_it.1
  row-number l n (inr none) = absurd none

  -- a row comes to a leader
  pub row-fair : x ≡ ParityNode i → session.leader ≡ p.name → Fair s x came p t
  row-fair from comes = record {
    row = same-row s x came p t refl (λ l n. refl) (λ l n r d name has accepted. nothing has) (λ l n is has. nothing has);
    leader = leader-gathers s x came p t refl session.number (λ r. r ≡ i) (λ d. ⊥) (row-gathers s session.number i bytes p)
        (λ l n r name is has. (row-number l n has, parity-one r i (sym is ∙ from))) (λ l n d name is has. absurd (nothing has))
        (λ l n r name here it. sides.Came (from ∙ ap ParityNode (sym it)) (inl (comes ∙ name, sym here)));
    sent = calm-sent s x came p t (λ l n r e name has. nothing has) (λ l n e name has. nothing has) tt;
  }

module _ (s : Dimensions) (x : ProcessId) (p : Process) (e : ℕ) (session : Session) (bytes : List ℕ) (k : ℕ) where
  abbrev came_block : List Message
  came_block = tells.Block session bytes k ∷ []

  abbrev block_step : ProcessStep
  block_step = receive s (DataNode e) (tells.Block session bytes k) p

  block-number : (l n : ℕ) → Has (IsBlock l n) came_block → n ≡ session.number
  block-number l n (inl of_it) = sym of_it.1
  block-number l n (inr none) = absurd none

  -- a block comes to a leader
  pub block-fair : x ≡ DataNode e → Fair s x came_block p block_step
  block-fair from = record {
    row = same-row s x came_block p block_step refl (λ l n. refl) (λ l n r d name has accepted. nothing has) (λ l n is has. nothing has);
    leader = leader-gathers s x came_block p block_step refl session.number (λ r. ⊥) (λ d. d ≡ e) (block-gathers s session.number e bytes p)
        (λ l n r name is has. absurd (nothing has)) (λ l n d name is has. (block-number l n has, data-one d e (sym is ∙ from)))
        (λ l n r name here it. absurd it);
    sent = calm-sent s x came_block p block_step (λ l n r d name has. nothing has) (λ l n d name has. nothing has) tt;
  }

module _ (s : Dimensions) (x : ProcessId) (p : Process) (e : ℕ) (session : Session) (block : ℕ) (rows : List ℕ) where
  abbrev came_read : List Message
  came_read = tells.ReadBlock session block rows ∷ []

  abbrev read_step : ProcessStep
  read_step = read_comes s session block rows p (DataNode e)

  abbrev mark : ℕ → Sent
  mark i = record { to = ParityNode i; message = tells.Mark session (rank 0) block (partition e) (replica_of p e).applied }

  -- a question comes to a data process
  pub read-fair : p.name ≡ DataNode e → Fair s x came_read p read_step
  read-fair name = record {
    row = same-row s x came_read p read_step refl (λ l n. refl) (λ l n r d is has accepted. nothing has) (λ l n is has. nothing has);
    leader = same-leader s x came_read p read_step refl refl refl (λ l n r is from has. nothing has) (λ l n d is from has. nothing has);
    sent = record {
      asked = λ l n r d is has. inr (has-map (λ z. (z.to ≡ ParityNode r) × IsMark l n d z.message) mark rows
          (marks_for l n r d (data-one e d (sym name ∙ is)) has));
      given = λ l n d is has. inl (read_of l n has);
      marks = λ l n r d sends. inl (inl (asked_of l n r d sends));
      asks = λ l n r d low sends. absurd (no_asks l n r d sends);
      ceases = λ l n is fresh. (tt, each-map (λ z. Leaves n z.message) mark rows (each-all (λ i. Unit {0}) (λ i. tt) rows));
    };
  } where
    both : (A : Type 0) (r : ℕ) (is : List ℕ) → A → Has (λ i. i ≡ r) is → Has (λ i. (ParityNode i ≡ ParityNode r) × A) is
    both A r [] of_it has = absurd has
    both A r (i ∷ is) of_it (inl here) = inl (ap ParityNode here, of_it)
    both A r (i ∷ is) of_it (inr there) = inr (both A r is of_it there)

    marks_for : (l n r d : ℕ) → e ≡ d → Has (AsksForBlock l n r) (tells.ReadBlock session block rows ∷ [])
        → Has (λ i. (ParityNode i ≡ ParityNode r) × (OfSession l n session × (e ≡ d))) rows
    marks_for l n r d same (inl ask) = both (OfSession l n session × (e ≡ d)) r rows (ask.0, same) ask.1
    marks_for l n r d same (inr none) = absurd none

    read_of : (l n : ℕ) → Has (IsRead l n) (tells.ReadBlock session block rows ∷ []) → (session.leader ≡ ParityNode l) × OfSession l n session
    read_of l n (inl of_it) = (of_it.0, of_it)
    read_of l n (inr none) = absurd none

    ones : (r : ℕ) (is : List ℕ) → Has (λ i. ParityNode i ≡ ParityNode r) is → Has (λ i. i ≡ r) is
    ones r [] has = absurd has
    ones r (i ∷ is) (inl here) = inl (parity-one i r here)
    ones r (i ∷ is) (inr there) = inr (ones r is there)

    asked_of : (l n r d : ℕ) → Sends (IsMark l n d) (ParityNode r) (read_comes s session block rows p (DataNode e)).sent
        → OfSession l n session × Has (λ i. i ≡ r) rows
    asked_of l n r d (inl here) = absurd here.1
    asked_of l n r d (inr there) =
        let it = has-both (λ i. ParityNode i ≡ ParityNode r) (OfSession l n session × (e ≡ d)) rows
        (map-has (λ z. (z.to ≡ ParityNode r) × IsMark l n d z.message)
        (λ i. record {
          to = ParityNode i;
          message = tells.Mark session (rank 0) block (partition e)
              (replica_of p e).applied;
        }) rows there) in
        (it.0.0, ones r rows it.1)

    none_of : (l n r d : ℕ) (is : List ℕ) → Sends (AsksForBlock l n r) (DataNode d) (data_marks session block e (replica_of p e).applied is) → ⊥
    none_of l n r d [] sends = sends
    none_of l n r d (i ∷ is) (inl here) = here.1
    none_of l n r d (i ∷ is) (inr there) = none_of l n r d is there

    no_asks : (l n r d : ℕ) → Sends (AsksForBlock l n r) (DataNode d) (read_comes s session block rows p (DataNode e)).sent → ⊥
    no_asks l n r d (inl here) = here.1
    no_asks l n r d (inr there) = none_of l n r d rows there

-- a session's name
pub same-or-not : (l n k j : ℕ) → ((l ≡ k) × (n ≡ j)) ⊎ (((l ≡ k) × (n ≡ j)) → ⊥)
same-or-not l n k j = by (cases_eq l k) (cases_eq n j) where
  by : (l ≡ k) ⊎ (l ≢ k) → (n ≡ j) ⊎ (n ≢ j) → ((l ≡ k) × (n ≡ j)) ⊎ (((l ≡ k) × (n ≡ j)) → ⊥)
  by (inl a) (inl b) = inl (a, b)
  by (inr a) _ = inr (λ both. a both.0)
  by (inl a) (inr b) = inr (λ both. b both.1)

-- what follows from a mark that was taken
module _ (s : Dimensions) (x : ProcessId) (came : List Message) (p : Process) (t : ProcessStep) (k j d : ℕ) (takes : Takes s p t k j d) where
  pub after-mark : (r e : ℕ) → p.name ≡ ParityNode r → Marked e (marks_in p k j) ⊎ (e ≡ d) → After s x came p t k j r e
  after-mark r e name held = by takes.outcome where
    by : Outcome s p t k j d → After s x came p t k j r e
    by (Waits marks is lacks made kept was gathers) = sides.Stays (subst (Marked e) (sym is) (still held)) where
      still : Marked e (marks_in p k j) ⊎ (e ≡ d) → is_some (at None marks e) ≡ true
      still (inl old) = kept e old
      still (inr same) = ap (λ (i : ℕ). is_some (at None marks i)) same ∙ made
    by (Goes none rest other gathers sends) = sides.Goes (λ same. other (name ∙ ap ParityNode (sym same))) sends
    by (Own none rest own gathers) = let same = parity-one k r (sym own ∙ name) in sides.Unwanted same (λ wants. (gathers.rows j r wants).1 refl (sym same))

  pub after-kept : (l n r e : ℕ) → p.name ≡ ParityNode r → Marked e (marks_in p l n) → After s x came p t l n r e
  after-kept l n r e name held = by (same-or-not l n k j) where
    by : ((l ≡ k) × (n ≡ j)) ⊎ (((l ≡ k) × (n ≡ j)) → ⊥) → After s x came p t l n r e
    by (inr other) = sides.Stays (subst (Marked e) (sym (takes.others l n other)) held)
    by (inl same) =
        subst (λ (i : ℕ). After s x came p t i n r e) (sym same.0) (subst (λ (i : ℕ). After s x came p t k i r e) (sym same.1)
        (after-mark r e name (inl (subst (λ (i : ℕ). Marked e (marks_in p k i)) same.1 (subst (λ (i : ℕ). Marked e (marks_in p i n)) same.0 held)))))

  -- copies stay fine
  pub fine-mark : d < s.k → at 0 p.as_row.ceased k < j → RowFine s p → RowFine s t.process
  fine-mark low above fine l n marks is = by (same-or-not l n k j) where
    ceased_same : (i : ℕ) → at 0 t.process.as_row.ceased i ≡ at 0 p.as_row.ceased i
    ceased_same i = ap (λ (ns : List ℕ). at 0 ns i) takes.ceased

    here : Outcome s p t k j d → marks_in t.process k j ≡ Some marks → CopyFine s t.process k j marks
    here (Waits more there lacks made kept was gathers) found =
        let same : more ≡ marks = cc (sym there ∙ found) in
        subst (CopyFine s t.process k j) same (record { lacks = lacks; above = let c = ceased_same k in omega (arith, c, above); some = (d, low, made) })
    here (Goes none rest other gathers sends) found = absurd (cc (sym none ∙ found))
    here (Own none rest own gathers) found = absurd (cc (sym none ∙ found))

    by : ((l ≡ k) × (n ≡ j)) ⊎ (((l ≡ k) × (n ≡ j)) → ⊥) → CopyFine s t.process l n marks
    by (inr other) =
        let old = fine l n marks (sym (takes.others l n other) ∙ is) in
        record { lacks = old.lacks; above = let c = ceased_same l in let a = old.above in omega (arith, c, a); some = old.some }
    by (inl same) =
        subst (λ (i : ℕ). CopyFine s t.process i n marks) (sym same.0) (subst (λ (i : ℕ). CopyFine s t.process k i marks) (sym same.1)
        (here takes.outcome (subst (λ (i : ℕ). marks_in t.process k i ≡ Some marks) same.1 (subst (λ (i : ℕ). marks_in t.process i n ≡ Some marks) same.0 is))))

pub accepts-above : (p : Process) (l n r d : ℕ) → accepts_mark p l n r d ≡ true → at 0 p.as_row.ceased l < n
accepts-above p l n r d is =
    let last = (and-split (r == at 0 p.ranks d && not (knows_dead p.known (ParityNode l))) (nat_lt (at 0 p.as_row.ceased l) n) is).1 in
    below (at 0 p.as_row.ceased l) last
  where
    below : (c : ℕ) → nat_lt c n ≡ true → c < n
    below c e = grind (arith, common_steps)

module _ (s : Dimensions) (x : ProcessId) (p : Process) (i : ℕ) (name : p.name ≡ ParityNode i) (l : ℕ)
    (session : Session) (leads : session.leader ≡ ParityNode l) (r block d n : ℕ) where
  abbrev came_mark : List Message
  came_mark = tells.Mark session (rank r) block (partition d) n ∷ []

  abbrev taken : ProcessStep
  taken = mark_taken s l session.number block d n p

  refused : accepts_mark p l session.number r d ≡ false → Each (Accepts p) came_mark → ⊥
  refused denies accepted = cc (sym denies ∙ sym (ap (λ (y : ProcessId). accepts_mark p (parity_number y) session.number r d) leads) ∙ accepted.0)

  it-is : (k j e : ℕ) → Has (IsMark k j e) came_mark → (k ≡ l) × (j ≡ session.number) × (e ≡ d)
  it-is k j e (inl is) = (parity-one k l (sym is.0.0 ∙ leads), sym is.0.1, sym is.1)
  it-is k j e (inr none) = absurd none

  has-it : Has (IsMark l session.number d) came_mark
  has-it = inl ((leads, refl), refl)

  takes : Takes s p taken l session.number d
  takes = mark-takes s l session.number block d n p

  same_ceased : (k : ℕ) → at 0 taken.process.as_row.ceased k ≡ at 0 p.as_row.ceased k
  same_ceased k = ap (λ (ns : List ℕ). at 0 ns k) takes.ceased

  copies : (k j : ℕ) → is_some (marks_in taken.process k j) ≡ true → ((k ≡ l) × (j ≡ session.number)) ⊎ (((k ≡ l) × (j ≡ session.number)) → ⊥)
      → (is_some (marks_in p k j) ≡ true) ⊎ ((e : ℕ) × Has (IsMark k j e) came_mark) ⊎ ((i ≡ k) × WantsRow i (opened taken.process j))
  copies k j some (inr other) = inl (ap is_some (sym (takes.others k j other)) ∙ some)
  copies k j some (inl same) =
      inr (inl (
        d,
        subst (λ (y : ℕ). Has (IsMark y j d) came_mark) (sym same.0)
            (subst (λ (y : ℕ). Has (IsMark l y d) came_mark) (sym same.1) has-it),
      ))

  leads-on : Outcome s p taken l session.number d → LeaderSide s x came_mark p taken
  leads-on (Waits marks is lacks made kept was gathers) = leader-gathers s x came_mark p taken takes.known session.number (λ q. ⊥) (λ e. ⊥) gathers
      (λ k j q is_name from has. absurd (nothing has)) (λ k j e is_name from has. absurd (nothing has)) (λ k j q is_name here wrong. absurd wrong)
  leads-on (Goes none rest other gathers sends) = leader-gathers s x came_mark p taken takes.known session.number (λ q. ⊥) (λ e. ⊥) gathers
      (λ k j q is_name from has. absurd (nothing has)) (λ k j e is_name from has. absurd (nothing has)) (λ k j q is_name here wrong. absurd wrong)
  leads-on (Own none rest own gathers) = leader-gathers s x came_mark p taken takes.known session.number (λ q. q ≡ l) (λ e. ⊥) gathers
      (λ k j q is_name from has. absurd (nothing has)) (λ k j e is_name from has. absurd (nothing has))
      (λ k j q is_name here mine. let same = parity-one k l (sym is_name ∙ own) in
      subst (λ (y : ℕ). NoMore s x came_mark p taken k y q) (sym here)
      (subst (λ (y : ℕ). NoMore s x came_mark p taken y session.number q) (sym same)
      (sides.Finished mine none d has-it rest)))

  fair-taken : accepts_mark p l session.number r d ≡ true → Fair s x came_mark p taken
  fair-taken accepted_it = record {
    row = record {
      kept = λ k j q e is held. after-kept s x came_mark p taken l session.number d takes k j q e is held;
      took = λ k j q e is low has accepted. let where_it = it-is k j e has in
          subst (λ (y : ℕ). After s x came_mark p taken y j q e) (sym where_it.0) (subst (λ (y : ℕ). After s x came_mark p taken l y q e) (sym where_it.1)
          (after-mark s x came_mark p taken l session.number d takes q e is (inr where_it.2)));
      copies = λ k j q is some. to_row q (parity-one i q (sym name ∙ is)) (copies k j some (same-or-not k j l session.number));
      below = λ k j q is low fresh leaves. let c = same_ceased k in omega (arith, c, low);
      rises = λ k. let c = same_ceased k in omega (arith, c);
      heard = λ k j q is from has. absurd (nothing has);
      fine = λ within fine. fine-mark s x came_mark p taken l session.number d takes (within l session.number d has-it)
          (accepts-above p l session.number r d accepted_it) fine;
    };
    leader = leads-on takes.outcome;
    sent = calm-sent s x came_mark p taken (λ k j q e is has. nothing has) (λ k j e is has. nothing has) takes.calm;
  } where
    to_row : {k j : ℕ} (q : ℕ) → i ≡ q → (is_some (marks_in p k j) ≡ true) ⊎ ((e : ℕ) × Has (IsMark k j e) came_mark)
        ⊎ ((i ≡ k) × WantsRow i (opened taken.process j))
        → (is_some (marks_in p k j) ≡ true) ⊎ ((e : ℕ) × Has (IsMark k j e) came_mark) ⊎ ((q ≡ k) × WantsRow q (opened taken.process j))
    to_row {k} {j} q same is =
        subst (λ (y : ℕ). (is_some (marks_in p k j) ≡ true) ⊎ ((e : ℕ) × Has (IsMark k j e) came_mark)
        ⊎ ((y ≡ k) × WantsRow y (opened taken.process j))) same is

  -- a mark comes to a row
  pub mark-fair : Fair s x came_mark p (mark_comes s (parity_number session.leader) session.number r block d n p)
  mark-fair = subst (λ (y : ℕ). Fair s x came_mark p (mark_comes s y session.number r block d n p))
      (sym (ap parity_number leads)) (by (accepts_mark p l session.number r d) refl) where
        by : (b : Bool) → accepts_mark p l session.number r d ≡ b → Fair s x came_mark p (when b p taken)
        by false denies =
            fair-mild s x came_mark p (quiet p) (mild-self p) (λ k j q e is has accepted. refused denies accepted) (λ k j from has. nothing has)
            (λ k j q is from has. nothing has) (λ k j e is from has. nothing has) (λ k j q e is has. nothing has) (λ k j e is has. nothing has)
        by true accepted_it = fair-taken accepted_it
