-- What a leader rebuilds by its marks in its own row where it opens a session, and what a call makes it rebuild.
use Rattle.std.proofs.Common.{◌≡◌, ◌≢◌, ℕ, ◌+◌, ◌<◌, ◌≤◌, ◌==◌, Bool, true, false, List, [], ◌∷◌, length, is_some}
use Rattle.std.proofs.Common.{Option, Some, None, IfSome, option_map, ◌⊎◌, inl, inr, sym, ap, subst, ◌∙◌, refl, arith}
use Rattle.std.specs.Prelude.{Contains}
use Rattle.std.proofs.lemmas.Bool.{cases_eq}
use Rattle.group_types.specs.Dimensions.{Dimensions}
use Rattle.group_types.specs.Lists.{at, put}
use Rattle.group_types.specs.Names.{same_process}
use Rattle.group_types.specs.Shape.{IsShape}
use Rattle.group_types.specs.declared.process.ProcessId.{ProcessId}
use Rattle.group_types.specs.declared.process.ProcessId.TheVariants.{DataNode, ParityNode}
use Rattle.group_types.proofs.Lists.{at-put, at-put-other}
use Rattle.group_types.specs.Each.{Each}
use Rattle.group_types.proofs.Eaches.{each-weaker, each-both}
use Rattle.membership.specs.Members.{Membership}
use Rattle.group_message.specs.declared.update.Update.{Update}
use Rattle.group_run.specs.Applying.{apply_to, block_after, for_each, rebuilt_after, replica_of, when}
use Rattle.group_run.specs.Leaders.{copy_kept, copy_marked, is_complete, mark_comes, mark_taken, open_session, own_mark}
use Rattle.group_run.specs.Leaders.{rebuilt_block, row_comes, row_finished, row_gathered}
use Rattle.group_run.specs.Process.{Copy, Gathering, Head, Process}
use Rattle.group_run.specs.Replica.{Replica, applied_to, empty_replica, up_to}
use Rattle.group_run.specs.Rows.{accepts_mark, begin_copy, copy_begun, copy_in, is_marked, marked, with_copies, without_copy}
use Rattle.law_bytes.proofs.Premises.{GoesOn, MarkIsNew}
use Rattle.law_bytes.proofs.Applying.{Holding, at-rebuilt}
use Rattle.law_bytes.proofs.Copies.{stays-row}
use Rattle.law_bytes.proofs.Finding.{found-passes}
use Rattle.law_bytes.proofs.Finds.{if-some, if-weaker}
use Rattle.law_bytes.proofs.Marking.{IsOpen, OpenIn, owns-hold, up_to-applied}
use Rattle.law_bytes.proofs.Rebuilding.{with_row}
use Rattle.law_bytes.proofs.Rising.{Differ}
use Rattle.law_bytes.proofs.Values.{Concerns, Inside}
use Rattle.law_bytes.proofs.Local.{number-is}
use Rattle.law_bytes.proofs.Rebuilt.{GivenAt}
use Rattle.law_bytes.proofs.Stamps.{AmongRows, LostFollows, Plan, ProcessFollows}
use Rattle.law_bytes.proofs.Bearing.{bears-mark, bears-replica, lost-borne}
use Rattle.law_bytes.proofs.Following.{Passes}
use Rattle.law_bytes.proofs.Gathering.{gathered-if}
use Rattle.law_bytes.proofs.Gathers.{row-sound}
use Rattle.law_bytes.proofs.Giving.{SoundFor, taken-given}
use Rattle.law_bytes.proofs.Opening.{open-own, other-replica, owns-pass}
use Rattle.law_bytes.proofs.Receiving.{mark-holds}
use Rattle.law_bytes.specs.Areas.{SettledWrite}

module _ (s : Dimensions) where
  -- applied numbers don't fall, heads stay, and so do rebuilt blocks
  record Later (p q : Process) : Type 0 where
    applied : (e : ℕ) → (replica_of p e).applied ≤ (replica_of q e).applied
    heads : q.heads ≡ p.heads
    blocks : (d b : ℕ) (bytes : List ℕ) → rebuilt_block p.as_leader d b ≡ Some bytes → rebuilt_block q.as_leader d b ≡ Some bytes

  later-self : (p : Process) → Later p p
  later-self p = record { applied = λ e. omega arith; heads = refl; blocks = λ d b bytes is. is }

  later-then : (p q r : Process) → Later p q → Later q r → Later p r
  later-then p q r a b = record {
    applied = λ e. let one = a.applied e in let two = b.applied e in
        omega (arith, one, two);
    heads = b.heads ∙ a.heads;
    blocks =
        λ d c bytes is. b.blocks d c bytes (a.blocks d c bytes is);
  }

  -- no update is applied
  later-apply : (e k : ℕ) (p : Process) → up_to k (replica_of p e) ≡ [] → Later p (apply_to s e k p)
  later-apply e k p none = record {
    applied = bears-replica s 0 p e (applied_to k (replica_of p e)) (omega arith);
    heads = refl;
    blocks = λ d b bytes is. by d b bytes is (cases_eq d e);
  } where
    by : (d b : ℕ) (bytes : List ℕ) → rebuilt_block p.as_leader d b ≡ Some bytes → (d ≡ e) ⊎ (d ≢ e)
        → at None (at [] (put [] p.as_leader.rebuilt e (rebuilt_after s e (up_to k (replica_of p e)) 0 (at [] p.as_leader.rebuilt e))) d) b ≡ Some bytes
    by d b bytes is (inl same) =
        ap (λ (j : ℕ). at None (at [] (put [] p.as_leader.rebuilt e (rebuilt_after s e (up_to k (replica_of p e)) 0 (at [] p.as_leader.rebuilt e))) j) b) same
        ∙ ap (λ (bs : List (Option (List ℕ))). at None bs b)
        (at-put [] [] p.as_leader.rebuilt e
        (rebuilt_after s e (up_to k (replica_of p e)) 0 (at [] p.as_leader.rebuilt e)))
        ∙ at-rebuilt s e (up_to k (replica_of p e)) 0 (at [] p.as_leader.rebuilt e) b
        ∙ ap (option_map (block_after s (DataNode e) e (0 + b) (up_to k (replica_of p e)))) (ap (λ (j : ℕ). rebuilt_block p.as_leader j b) (sym same) ∙ is)
        ∙ ap (λ (us : List Update). Some (block_after s (DataNode e) e (0 + b) us bytes)) none
    by d b bytes is (inr other) =
        ap (λ (bs : List (Option (List ℕ))). at None bs b)
        (at-put-other [] p.as_leader.rebuilt e d
        (rebuilt_after s e (up_to k (replica_of p e)) 0 (at [] p.as_leader.rebuilt e)) other)
        ∙ is

  later-row : (number i : ℕ) (bytes : List ℕ) (p : Process) → Later p (row_comes s number i bytes p)
  later-row number i bytes p = record {
    applied = λ e. omega arith;
    heads = refl;
    blocks = λ d b more is. stays-row s i bytes (open_session p.as_leader number) p.as_leader d b (ap is_some is) ∙ is;
  }

  begun-replicas : (b : Bool) (leader number block : ℕ) (p : Process) → (copy_begun b s leader number block p).replicas ≡ p.replicas
  begun-replicas true leader number block p = refl
  begun-replicas false leader number block p = refl

  none-applied : (leader number block e : ℕ) (p : Process) → up_to (replica_of p e).applied (replica_of (begin_copy s leader number block p) e) ≡ []
  none-applied leader number block e p =
      ap (λ (rs : List Replica). up_to (replica_of p e).applied (at empty_replica rs e))
      (begun-replicas (is_some (copy_in p.as_row.copies leader number)) leader number block p)
      ∙ up_to-applied (replica_of p e)

  later-own : (leader number block e : ℕ) (p : Process) → Later p (own_mark s leader number block e p).process
  later-own leader number block e p = by (accepts_mark p leader number (at 0 p.ranks e) e) where
    begun : (b : Bool) → Later p (copy_begun b s leader number block p)
    begun true = later-self p
    begun false = record { applied = λ d. omega arith; heads = refl; blocks = λ d b bytes is. is }

    to-marking : Later p (apply_to s e (replica_of p e).applied (begin_copy s leader number block p))
    to-marking =
        later-then p (begin_copy s leader number block p) (apply_to s e (replica_of p e).applied (begin_copy s leader number block p))
        (begun (is_some (copy_in p.as_row.copies leader number)))
        (later-apply e (replica_of p e).applied (begin_copy s leader number block p) (none-applied leader number block e p))

    finished : (b : Bool) (c : Copy) (z : Process) → Later z (row_finished b s c z).process
    finished true c z = later-row c.number c.leader c.bytes z
    finished false c z = later-self z

    kept : (b : Bool) (c : Copy) (z : Process) → Later z (copy_kept b s c z).process
    kept true c z =
        let ended : Process = with_copies (without_copy c.leader c.number z.as_row.copies) z in
        later-then z ended (row_finished (same_process z.name (ParityNode c.leader)) s c ended).process
        (record { applied = λ d. omega arith; heads = refl; blocks = λ d b bytes is. is }) (finished (same_process z.name (ParityNode c.leader)) c ended)
    kept false c z = record { applied = λ d. omega arith; heads = refl; blocks = λ d b bytes is. is }

    found : (o : Option Copy) (z : Process) → Later z (copy_marked s e (replica_of p e).applied o z).process
    found None z = later-self z
    found (Some c) z = kept (is_marked s (marked e (replica_of p e).applied c)) (marked e (replica_of p e).applied c) z

    by : (b : Bool) → Later p (when b p (mark_taken s leader number block e (replica_of p e).applied p)).process
    by true =
        let q : Process = apply_to s e (replica_of p e).applied (begin_copy s leader number block p) in
        later-then p q (copy_marked s e (replica_of p e).applied (copy_in q.as_row.copies leader number) q).process
        to-marking (found (copy_in q.as_row.copies leader number) q)
    by false = later-self p

  later-given : (settled : ℕ → List Update) (known : Membership) (p q : Process) → Later p q
      → (d b : ℕ) (bytes : List ℕ) → GivenAt s settled known p d b bytes → GivenAt s settled known q d b bytes
  later-given settled known p q later d b bytes given = record {
    number = given.number;
    values = given.values;
    lost = given.lost;
    applied = let one = given.applied in let two = later.applied d in omega (arith, one, two);
    inherited = subst (λ (hs : List (Option Head)). IfSome (at None hs d) (λ h. h.inherited ≤ given.number)) (sym later.heads) given.inherited;
  }

  -- a session stays sound
  module _ (settled : ℕ → List Update) (write : SettledWrite s settled) (plan : Plan) (n : ℕ) (known : Membership) where
    abbrev SoundAt : Process → Type 0
    SoundAt p = IfSome (open_session p.as_leader n) (SoundFor s known)

    sound-row : (number i : ℕ) (bytes : List ℕ) (p : Process) → SoundAt p → SoundAt (row_comes s number i bytes p)
    sound-row number i bytes p sound = by (open_session p.as_leader number) refl where
      by : (o : Option Gathering) → open_session p.as_leader number ≡ o → IfSome (open_session (row_gathered s i bytes o p.as_leader) n) (SoundFor s known)
      by None is = sound
      by (Some g) is =
          gathered-if s (SoundFor s known) (is_complete s (with_row i bytes g)) (with_row i bytes g) g p.as_leader n number is
          (number-is g number (found-passes (λ x. x.number == number) p.as_leader.sessions g is))
          (λ here.
          let before = if-some (SoundFor s known) (open_session p.as_leader n) g (ap (open_session p.as_leader) here ∙ is) sound in
          record { sound = row-sound s settled write plan i bytes g before.sound; lost = before.lost }) sound

    sound-mark : (leader number r block e k : ℕ) (p : Process) → SoundAt p → SoundAt (mark_comes s leader number r block e k p).process
    sound-mark leader number r block e k p sound = by (accepts_mark p leader number r e) where
      begun : (b : Bool) → SoundAt (copy_begun b s leader number block p)
      begun true = sound
      begun false = sound

      finished : (b : Bool) (c : Copy) (z : Process) → SoundAt z → SoundAt (row_finished b s c z).process
      finished true c z is = sound-row c.number c.leader c.bytes z is
      finished false c z is = is

      kept : (b : Bool) (c : Copy) (z : Process) → SoundAt z → SoundAt (copy_kept b s c z).process
      kept true c z is = finished (same_process z.name (ParityNode c.leader)) c (with_copies (without_copy c.leader c.number z.as_row.copies) z) is
      kept false c z is = is

      found : (o : Option Copy) (z : Process) → SoundAt z → SoundAt (copy_marked s e k o z).process
      found None z is = is
      found (Some c) z is = kept (is_marked s (marked e k c)) (marked e k c) z is

      by : (b : Bool) → SoundAt (when b p (mark_taken s leader number block e k p)).process
      by true =
          let q : Process = apply_to s e k (begin_copy s leader number block p) in
          found (copy_in q.as_row.copies leader number) q (begun (is_some (copy_in p.as_row.copies leader number)))
      by false = sound

  later-owns : (leader number block : ℕ) (xs : List ℕ) (p : Process) → Later p (for_each xs (own_mark s leader number block) p).process
  later-owns leader number block [] p = later-self p
  later-owns leader number block (x ∷ xs) p =
      later-then p (own_mark s leader number block x p).process
      (for_each xs (own_mark s leader number block) (own_mark s leader number block x p).process).process
      (later-own leader number block x p)
      (later-owns leader number block xs (own_mark s leader number block x p).process)

  -- a leader's marks in its own row
  module _ (shaped : IsShape s) (settled : ℕ → List Update) (write : SettledWrite s settled) (plan : Plan) (i n block : ℕ) (known : Membership)
      (old : ℕ → ℕ → Bool) (p : Process) (goes : (d : ℕ) → d < s.k → GoesOn (settled d) (replica_of p d)) where
    module _ (d : ℕ) (xs : List ℕ) (z : Process) (name : z.name ≡ ParityNode i) (below : d < s.k)
        (unmarked : OpenIn i n (d ∷ xs) z.as_row.copies) (same : replica_of z d ≡ replica_of p d)
        (fits : (block ≡ plan.block) × ((replica_of p d).applied ≡ plan.numbers d) × Contains plan.rows i) (holding : Holding s settled old z) where
      concerns-own : Concerns s z.name d
      concerns-own = subst (λ (x : ProcessId). Concerns s x d) (sym name) below

      new-own : MarkIsNew z i n d (replica_of z d).applied
      new-own = record {
        above = omega arith;
        issued = omega arith;
        unmarked = if-weaker (IsOpen (d ∷ xs)) (λ c. at None c.marks d ≡ None) (λ c free. free.0)
            (copy_in z.as_row.copies i n) unmarked;
      }

      last-own : (replica_of (apply_to s d (replica_of z d).applied (begin_copy s i n block z)) d).applied ≤ length (settled d)
      last-own =
          let begun : Process = begin_copy s i n block z in
          let here = ap (λ (r : Replica). r.applied)
          (at-put empty_replica empty_replica begun.replicas d
          (applied_to (replica_of z d).applied (replica_of begun d))) in
          let none = ap (λ (us : List Update). length us) (none-applied i n block d z) in
          let was = ap (λ (rs : List Replica). (at empty_replica rs d).applied) (begun-replicas (is_some (copy_in z.as_row.copies i n)) i n block z) in
          let within = holding.within d below in
          omega (arith, here, none, was, within)

      fit-own : i ≡ i → n ≡ n → (block ≡ plan.block) × ((replica_of z d).applied ≡ plan.numbers d) × AmongRows plan.rows z.name
      fit-own leads numbers = (fits.0, ap (λ (r : Replica). r.applied) same ∙ fits.1, subst (AmongRows plan.rows) (sym name) fits.2)

      own-given : ProcessFollows s settled i n plan z → LostFollows i n plan z → IfSome (open_session z.as_leader n) (SoundFor s known)
          → (e b : ℕ) (bytes : List ℕ) → rebuilt_block z.as_leader e b ≡ None
          → rebuilt_block (own_mark s i n block d z).process.as_leader e b ≡ Some bytes → GivenAt s settled known (own_mark s i n block d z).process e b bytes
      own-given is lost sound = by (accepts_mark z i n (at 0 z.ranks d) d) where
        by : (a : Bool) → (e b : ℕ) (bytes : List ℕ) → rebuilt_block z.as_leader e b ≡ None
            → rebuilt_block (when a z (mark_taken s i n block d (replica_of z d).applied z)).process.as_leader e b ≡ Some bytes
            → GivenAt s settled known (when a z (mark_taken s i n block d (replica_of z d).applied z)).process e b bytes
        by false = λ e b bytes before after. absurd (cc (before, after))
        by true = taken-given s shaped settled write i n plan known z name is lost sound i block d (replica_of z d).applied below fit-own
            (λ leads numbers c first. mark-holds s settled write old z i n block d (replica_of z d).applied concerns-own
            below (subst (GoesOn (settled d)) (sym same) (goes d below)) new-own last-own holding c first)

    pub owns-given : (xs : List ℕ) (z : Process) → z.name ≡ ParityNode i → Each (λ d. d < s.k) xs → Differ xs
        → OpenIn i n xs z.as_row.copies → Each (λ d. replica_of z d ≡ replica_of p d) xs
        → Each (λ d. (block ≡ plan.block) × ((replica_of p d).applied ≡ plan.numbers d) × Contains plan.rows i) xs → Holding s settled old z
        → ProcessFollows s settled i n plan z → LostFollows i n plan z
        → IfSome (open_session z.as_leader n) (SoundFor s known) → (e b : ℕ) (bytes : List ℕ) → rebuilt_block z.as_leader e b ≡ None
        → rebuilt_block (for_each xs (own_mark s i n block) z).process.as_leader e b ≡ Some bytes
        → GivenAt s settled known (for_each xs (own_mark s i n block) z).process e b bytes
    owns-given [] z name below differ unmarked same fits holding is lost sound e b bytes before after = absurd (cc (before, after))
    owns-given (d ∷ xs) z name below differ unmarked same fits holding is lost sound e b bytes before after =
        let passes : Passes s settled i n plan z (for_each (d ∷ []) (own_mark s i n block) z) =
        owns-pass s settled i n plan write old p i n block goes (d ∷ []) z name (below.0, tt) (tt, tt) one_open
        (same.0, tt) (λ leads numbers. (fits.0, tt)) holding in
        by (rebuilt_block (own_mark s i n block d z).process.as_leader e b) refl
        (λ none. owns-given xs (own_mark s i n block d z).process (passes.name ∙ name) below.1 differ.1
        (open-own s i n d (replica_of z d).applied xs differ.0 block (at 0 z.ranks d) z unmarked)
        (each-weaker (λ c. (c ≢ d) × (replica_of z c ≡ replica_of p c))
        (λ c. replica_of (own_mark s i n block d z).process c ≡ replica_of p c)
        (λ c both. other-replica s settled i n plan write old z i n block d c both.0 ∙ both.1) xs
        (each-both (λ c. c ≢ d) (λ c. replica_of z c ≡ replica_of p c) xs differ.0 same.1)) fits.1
        (owns-hold s settled old i n block (d ∷ []) z (subst (Inside s) (sym name) tt) (below.0, tt) (tt, tt) one_open holding) (passes.follows is).0
        (lost-borne s i n plan z (own_mark s i n block d z).process passes.name (bears-mark s n i n (at 0 z.ranks d) block d (replica_of z d).applied z) lost)
        (sound-mark settled write plan n known i n (at 0 z.ranks d) block d (replica_of z d).applied z sound) e b bytes none after)
      where
        one_open : OpenIn i n (d ∷ []) z.as_row.copies
        one_open = if-weaker (IsOpen (d ∷ xs)) (IsOpen (d ∷ [])) (λ c free. (free.0, tt)) (copy_in z.as_row.copies i n) unmarked

        by : (o : Option (List ℕ)) → rebuilt_block (own_mark s i n block d z).process.as_leader e b ≡ o
            → (rebuilt_block (own_mark s i n block d z).process.as_leader e b ≡ None → GivenAt s settled known
            (for_each xs (own_mark s i n block) (own_mark s i n block d z).process).process e b bytes)
            → GivenAt s settled known (for_each xs (own_mark s i n block) (own_mark s i n block d z).process).process e b bytes
        by None there later = later there
        by (Some y) there later =
            let lasting = later-owns i n block xs (own_mark s i n block d z).process in
            let both : Some bytes ≡ Some y = sym after ∙ lasting.blocks e b y there in
            let same_bytes : bytes ≡ y = cc both in
            later-given settled known (own_mark s i n block d z).process
            (for_each xs (own_mark s i n block) (own_mark s i n block d z).process).process lasting e b bytes
            (subst (λ (bs : List ℕ). GivenAt s settled known (own_mark s i n block d z).process e b bs) (sym same_bytes)
            (own-given d xs z name below.0 unmarked same.0 fits.0 holding is lost sound e b y before there))
