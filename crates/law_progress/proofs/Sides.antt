-- What one step of a process makes of sessions: of its copies as a row, of its sessions as a leader, and by what it sends.
use Rattle.std.proofs.Common.{◌≡◌, ◌≢◌, ℕ, ◌<◌, ◌≤◌, Bool, true, false, List, [], ◌∷◌, is_some, Option, Some, None}
use Rattle.std.proofs.Common.{option_map, ◌⊎◌, inl, inr, refl, sym, ap, subst, ◌∙◌, arith}
use Rattle.std.specs.List.{list_all, range_with_len}
use Rattle.group_types.specs.Dimensions.{Dimensions}
use Rattle.group_types.specs.Lists.{at}
use Rattle.group_types.specs.declared.process.ProcessId.{ProcessId}
use Rattle.group_types.specs.declared.process.ProcessId.TheVariants.{DataNode, ParityNode}
use Rattle.group_types.specs.Each.{Each}
use Rattle.membership.specs.Members.{knows_dead}
use Rattle.group_message.specs.declared.message.Message.{Message}
use Rattle.group_message.specs.declared.message.Message.TheVariants as tells
use Rattle.group_message.specs.declared.update.Update.{Update}
use Rattle.group_run.specs.Applying.{ProcessStep, Sent, apply_to, copy_after, replica_of}
use Rattle.group_run.specs.Leaders.{is_complete, open_session}
use Rattle.group_run.specs.Process.{Copy, Gathering, Process}
use Rattle.group_run.specs.Replica.{up_to}
use Rattle.group_run.specs.Rows.{accepts_mark, copy_in, is_copy, parity_number}
use Rattle.law_bytes.proofs.Finding.{found-map}
use Rattle.law_bytes.proofs.Marking.{copy-mark, copy-test}
use Rattle.law_progress.proofs.Waiting.{Has, AsksForBlock, IsBlock, IsMark, IsRead, IsRow, Marked, WantsBlock, WantsRow, marks_in}
use Rattle.law_progress.proofs.Views.{Sends}

-- a close notice up to session n or more, and one that leaves session n
abbrev pub IsCease : ℕ → Message → Type 0
IsCease n (tells.Cease upto) = n ≤ upto
IsCease n _ = ⊥

abbrev pub Leaves : ℕ → Message → Type 0
Leaves n (tells.Cease upto) = upto < n
Leaves n _ = Unit {0}

-- a message that has no part in a session, or is a row or a block of one
abbrev pub Calm : Message → Type 0
Calm (tells.ReadBlock session block rows) = ⊥
Calm (tells.Mark session r block d n) = ⊥
Calm (tells.Cease upto) = ⊥
Calm _ = Unit {0}

-- a mark is taken where the process accepts it
abbrev pub Accepts : Process → Message → Type 0
Accepts p (tells.Mark session r block d n) = accepts_mark p (parity_number session.leader) session.number r.0 d.0 ≡ true
Accepts p _ = Unit {0}

-- the open session of a number
abbrev pub opened : Process → ℕ → Option Gathering
opened p n = open_session p.as_leader n

-- a session of that number is open, or not opened yet
abbrev pub Fresh : Process → ℕ → Type 0
Fresh p n = (is_some (opened p n) ≡ true) ⊎ (p.as_leader.last_session < n)

-- every partition is among the marks
abbrev pub is_full : Dimensions → List (Option ℕ) → Bool
is_full s marks = list_all (λ d. is_some (at None marks d)) (range_with_len 0 s.k)

-- a copy has a mark and lacks one, and its session isn't ceased
pub record CopyFine (s : Dimensions) (p : Process) (l n : ℕ) (marks : List (Option ℕ)) : Type 0 where
  pub lacks : is_full s marks ≡ false
  pub above : at 0 p.as_row.ceased l < n
  pub some : (d : ℕ) × (d < s.k) × (is_some (at None marks d) ≡ true)

abbrev pub RowFine : Dimensions → Process → Type 0
RowFine s p = (l n : ℕ) (marks : List (Option ℕ)) → marks_in p l n ≡ Some marks → CopyFine s p l n marks

-- an open session isn't complete, and is none above the last
abbrev pub LeaderFine : Dimensions → Process → Type 0
LeaderFine s p = (n : ℕ) (g : Gathering) → opened p n ≡ Some g → (is_complete s g ≡ false) × (n ≤ p.as_leader.last_session)

-- messages that are no marks, no questions and no close notices
abbrev pub CalmSent : List Sent → Type 0
CalmSent sent = Each (λ z. Calm z.message) sent

pub calm-none : (P : Message → Type 0) → ((m : Message) → Calm m → P m → ⊥) → (y : ProcessId) (sent : List Sent) → CalmSent sent → Sends P y sent → ⊥
calm-none P never y [] calm sends = sends
calm-none P never y (z ∷ zs) calm (inl (same, is)) = never z.message calm.0 is
calm-none P never y (z ∷ zs) calm (inr there) = calm-none P never y zs calm.1 there

pub calm-mark : (l n d : ℕ) (m : Message) → Calm m → IsMark l n d m → ⊥
calm-mark l n d (tells.Update _ _ _ _) calm is = absurd is
calm-mark l n d (tells.Ack _ _ _) calm is = absurd is
calm-mark l n d (tells.Stable _ _ _) calm is = absurd is
calm-mark l n d (tells.Adopt _ _ _ _) calm is = absurd is
calm-mark l n d (tells.ReadBlock _ _ _) calm is = absurd calm
calm-mark l n d (tells.Block _ _ _) calm is = absurd is
calm-mark l n d (tells.Mark _ _ _ _ _) calm is = absurd calm
calm-mark l n d (tells.Row _ _ _) calm is = absurd is
calm-mark l n d (tells.Cease _) calm is = absurd calm
calm-mark l n d (tells.Notice _) calm is = absurd is

pub calm-ask : (l n r : ℕ) (m : Message) → Calm m → AsksForBlock l n r m → ⊥
calm-ask l n r (tells.Update _ _ _ _) calm is = absurd is
calm-ask l n r (tells.Ack _ _ _) calm is = absurd is
calm-ask l n r (tells.Stable _ _ _) calm is = absurd is
calm-ask l n r (tells.Adopt _ _ _ _) calm is = absurd is
calm-ask l n r (tells.ReadBlock _ _ _) calm is = absurd calm
calm-ask l n r (tells.Block _ _ _) calm is = absurd is
calm-ask l n r (tells.Mark _ _ _ _ _) calm is = absurd calm
calm-ask l n r (tells.Row _ _ _) calm is = absurd is
calm-ask l n r (tells.Cease _) calm is = absurd calm
calm-ask l n r (tells.Notice _) calm is = absurd is

pub calm-leaves : (n : ℕ) (m : Message) → Calm m → Leaves n m
calm-leaves n (tells.Cease upto) calm = absurd calm
calm-leaves n (tells.Update r d u stable) calm = tt
calm-leaves n (tells.Ack r d number) calm = tt
calm-leaves n (tells.Stable r d number) calm = tt
calm-leaves n (tells.Adopt r d base list) calm = tt
calm-leaves n (tells.ReadBlock session block rows) calm = tt
calm-leaves n (tells.Block session bytes number) calm = tt
calm-leaves n (tells.Mark session r block d number) calm = tt
calm-leaves n (tells.Row session bytes stamp) calm = tt
calm-leaves n (tells.Notice dead) calm = tt

pub leaves-each : (n : ℕ) (sent : List Sent) → CalmSent sent → Each (λ z. Leaves n z.message) sent
leaves-each n [] calm = tt
leaves-each n (z ∷ zs) calm = (calm-leaves n z.message calm.0, leaves-each n zs calm.1)

-- a step of p by which the messages `came` from x are taken
module _ (s : Dimensions) (x : ProcessId) (came : List Message) (p : Process) (t : ProcessStep) where
  -- what becomes of a mark in a copy: it stays, or the row goes out, or is no longer wanted, or the session is dropped
  pub data After (l n r d : ℕ) : Type 0 where
    Stays : Marked d (marks_in t.process l n) → After l n r d
    Goes : l ≢ r → Sends (IsRow l n) (ParityNode l) t.sent → After l n r d
    Unwanted : l ≡ r → (WantsRow r (opened t.process n) → ⊥) → After l n r d
    Unknown : knows_dead t.process.known (ParityNode l) ≡ true → After l n r d
    Ceased : n ≤ at 0 t.process.as_row.ceased l → After l n r d

  pub record RowSide : Type 0 where
    pub kept : (l n r d : ℕ) → p.name ≡ ParityNode r → Marked d (marks_in p l n) → After l n r d
    pub took : (l n r d : ℕ) → p.name ≡ ParityNode r → d < s.k → Has (IsMark l n d) came → Each (Accepts p) came → After l n r d
    pub copies : (l n r : ℕ) → p.name ≡ ParityNode r → is_some (marks_in t.process l n) ≡ true
        → (is_some (marks_in p l n) ≡ true) ⊎ ((d : ℕ) × Has (IsMark l n d) came) ⊎ ((r ≡ l) × WantsRow r (opened t.process n))
    pub below : (l n r : ℕ) → p.name ≡ ParityNode r → at 0 p.as_row.ceased l < n → (l ≡ r → Fresh t.process n)
        → (x ≡ ParityNode l → Each (Leaves n) came) → at 0 t.process.as_row.ceased l < n
    pub rises : (l : ℕ) → at 0 p.as_row.ceased l ≤ at 0 t.process.as_row.ceased l
    pub heard : (l n r : ℕ) → p.name ≡ ParityNode r → x ≡ ParityNode l → Has (IsCease n) came → n ≤ at 0 t.process.as_row.ceased l
    pub fine : ((l n d : ℕ) → Has (IsMark l n d) came → d < s.k) → RowFine s p → RowFine s t.process

  -- what stands under way for a session that is opened
  pub data NewRow (l n r d : ℕ) : Type 0 where
    Lost : knows_dead t.process.known (DataNode d) ≡ true → r ≢ l → Sends (IsMark l n d) (ParityNode r) t.sent → NewRow l n r d
    Own : r ≡ l → Marked d (marks_in t.process l n) → NewRow l n r d
    Left : knows_dead t.process.known (DataNode d) ≡ false → Sends (AsksForBlock l n r) (DataNode d) t.sent → NewRow l n r d

  abbrev pub NewBlock : ℕ → ℕ → ℕ → Type 0
  NewBlock l n d = (knows_dead t.process.known (DataNode d) ≡ true) ⊎ Sends (IsRead l n) (DataNode d) t.sent

  -- why a row isn't waited for any more: it came, or the leader's own was finished, or the session is ceased
  pub data NoMore (l n r : ℕ) : Type 0 where
    Came : x ≡ ParityNode r → Has (IsRow l n) came → NoMore l n r
    Finished : r ≡ l → marks_in t.process l n ≡ None → (d : ℕ) → Has (IsMark l n d) came
        → ((e : ℕ) → e < s.k → e ≢ d → Marked e (marks_in p l n)) → NoMore l n r
    Closed : n ≤ at 0 t.process.as_row.ceased l
        → ((i : ℕ) → i < s.m → i ≢ l → knows_dead t.process.known (ParityNode i) ≡ false
        → Sends (IsCease n) (ParityNode i) t.sent) → NoMore l n r

  pub record LeaderSide : Type 0 where
    pub rows : (l n r : ℕ) → p.name ≡ ParityNode l → WantsRow r (opened t.process n)
        → (WantsRow r (opened p n) × (x ≡ ParityNode r → Has (IsRow l n) came → ⊥)) ⊎ ((d : ℕ) → d < s.k → NewRow l n r d)
    pub blocks : (l n d : ℕ) → p.name ≡ ParityNode l → d < s.k → WantsBlock d (opened t.process n)
        → (WantsBlock d (opened p n) × (x ≡ DataNode d → Has (IsBlock l n) came → ⊥)) ⊎ NewBlock l n d
    pub left : LeaderFine s p → (l n r : ℕ) → p.name ≡ ParityNode l → WantsRow r (opened p n) → WantsRow r (opened t.process n) ⊎ NoMore l n r
    pub known : (l n r : ℕ) → p.name ≡ ParityNode l → WantsRow r (opened t.process n) → t.process.known ≡ p.known
    pub fresh : (n : ℕ) → Fresh t.process n → Fresh p n
    pub fine : LeaderFine s p → LeaderFine s t.process

  pub record SentSide : Type 0 where
    pub asked : (l n r e : ℕ) → p.name ≡ DataNode e → Has (AsksForBlock l n r) came → Sends (IsMark l n e) (ParityNode r) t.sent
    pub given : (l n e : ℕ) → p.name ≡ DataNode e → Has (IsRead l n) came → Sends (IsBlock l n) (ParityNode l) t.sent
    pub marks : (l n r d : ℕ) → Sends (IsMark l n d) (ParityNode r) t.sent → Has (AsksForBlock l n r) came
        ⊎ ((p.name ≡ ParityNode l) × WantsRow r (opened t.process n))
    pub asks : (l n r e : ℕ) → e < s.k → Sends (AsksForBlock l n r) (DataNode e) t.sent → (p.name ≡ ParityNode l) × WantsRow r (opened t.process n)
    pub ceases : (l n : ℕ) → p.name ≡ ParityNode l → Fresh t.process n → Each (λ z. Leaves n z.message) t.sent

  pub record Fair : Type 0 where
    pub row : RowSide
    pub leader : LeaderSide
    pub sent : SentSide

  -- what came is of no session for this process
  pub calm-sent : ((l n r e : ℕ) → p.name ≡ DataNode e → Has (AsksForBlock l n r) came → ⊥)
      → ((l n e : ℕ) → p.name ≡ DataNode e → Has (IsRead l n) came → ⊥) → CalmSent t.sent → SentSide
  calm-sent no_ask no_read calm = record {
    asked = λ l n r e name has. absurd (no_ask l n r e name has);
    given = λ l n e name has. absurd (no_read l n e name has);
    marks = λ l n r d sends. absurd (calm-none (IsMark l n d) (calm-mark l n d) (ParityNode r) t.sent calm sends);
    asks = λ l n r e low sends. absurd (calm-none (AsksForBlock l n r) (calm-ask l n r) (DataNode e) t.sent calm sends);
    ceases = λ l n name fresh. leaves-each n t.sent calm;
  }

  -- a step that leaves copies
  pub same-row : t.process.as_row.ceased ≡ p.as_row.ceased → ((l n : ℕ) → marks_in t.process l n ≡ marks_in p l n)
      → ((l n r d : ℕ) → p.name ≡ ParityNode r → Has (IsMark l n d) came → Each (Accepts p) came → ⊥)
      → ((l n : ℕ) → x ≡ ParityNode l → Has (IsCease n) came → ⊥) → RowSide
  same-row ceased marks no_mark no_cease = record {
    kept = λ l n r d name is. Stays (subst (Marked d) (sym (marks l n)) is);
    took = λ l n r d name low has accepted. absurd (no_mark l n r d name has accepted);
    copies = λ l n r name is. inl (ap is_some (sym (marks l n)) ∙ is);
    below = λ l n r name low fresh leaves. subst (λ (ns : List ℕ). at 0 ns l < n) (sym ceased) low;
    rises = λ l. let same = ap (λ (ns : List ℕ). at 0 ns l) ceased in omega (arith, same);
    heard = λ l n r name from has. absurd (no_cease l n from has);
    fine = λ within fine l n ms is.
        let old = fine l n ms (sym (marks l n) ∙ is) in
        record { lacks = old.lacks; above = subst (λ (ns : List ℕ). at 0 ns l < n) (sym ceased) old.above; some = old.some };
  }

  -- a step that leaves sessions
  pub same-leader : t.process.known ≡ p.known → t.process.as_leader.sessions ≡ p.as_leader.sessions
      → t.process.as_leader.last_session ≡ p.as_leader.last_session
      → ((l n r : ℕ) → p.name ≡ ParityNode l → x ≡ ParityNode r → Has (IsRow l n) came → ⊥)
      → ((l n d : ℕ) → p.name ≡ ParityNode l → x ≡ DataNode d → Has (IsBlock l n) came → ⊥) → LeaderSide
  same-leader known sessions last no_row no_block = record {
    known = λ l n r name wants. known;
    rows = λ l n r name wants. inl (subst (WantsRow r) (same n) wants, λ from has. no_row l n r name from has);
    blocks = λ l n d name low wants. inl (subst (WantsBlock d) (same n) wants, λ from has. no_block l n d name from has);
    left = λ fine l n r name wants. inl (subst (WantsRow r) (sym (same n)) wants);
    fresh = λ n fresh. by n fresh;
    fine = λ fine n g is. let old = fine n g (sym (same n) ∙ is) in (old.0, let low = old.1 in omega (arith, last, low));
  } where
    same : (n : ℕ) → opened t.process n ≡ opened p n
    same n = ap (λ (gs : List Gathering). open_session (record t.process.as_leader { sessions = gs }) n) sessions

    by : (n : ℕ) → Fresh t.process n → Fresh p n
    by n (inl is) = inl (ap is_some (sym (same n)) ∙ is)
    by n (inr above) = inr (omega (arith, last, above))

-- what is applied leaves the marks
module _ (s : Dimensions) where
  after-marks : (name : ProcessId) (d : ℕ) (us : List Update) (o : Option Copy)
      → option_map (λ c. c.marks) (option_map (copy_after s name d us) o) ≡ option_map (λ c. c.marks) o
  after-marks name d us None = refl
  after-marks name d us (Some c) = ap Some (copy-mark s name d us c (λ (marks : List (Option ℕ)). marks ≡ c.marks) refl)

  pub marks-apply : (d k : ℕ) (p : Process) (l n : ℕ) → marks_in (apply_to s d k p) l n ≡ marks_in p l n
  marks-apply d k p l n =
      ap (option_map (λ c. c.marks)) (found-map (is_copy l n) (copy_after s p.name d (up_to k (replica_of p d)))
      p.as_row.copies (λ c. copy-test s p.name d (up_to k (replica_of p d)) l n c))
      ∙ after-marks p.name d (up_to k (replica_of p d)) (copy_in p.as_row.copies l n)
