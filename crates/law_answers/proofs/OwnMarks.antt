-- A mark on its way is of a session that was started, since of one that wasn't there is no token.
use Rattle.std.proofs.Common.{ℕ, suc, ◌≡◌, ◌≢◌, ◌<◌, ◌≤◌, nat_lt, true, false, List, ◌∷◌, ◌⊎◌, inl, inr, refl, ap, subst, ◌∙◌, arith}
use Rattle.std.proofs.lemmas.Bool.{cases_lt, eq-eqb}
use Rattle.std.proofs.lemmas.Grind.{common_steps}
use Rattle.group_types.specs.Dimensions.{Dimensions}
use Rattle.group_types.specs.Names.{IsProcess}
use Rattle.group_types.specs.declared.process.Partition.{Partition}
use Rattle.group_types.specs.declared.process.ProcessId.{ProcessId}
use Rattle.group_types.specs.declared.process.ProcessId.TheVariants.{DataNode, ParityNode}
use Rattle.group_types.specs.declared.process.Rank.{Rank}
use Rattle.group_types.proofs.Names.{same-refl}
use Rattle.group_types.specs.Each.{Each}
use Rattle.group_message.specs.declared.message.Message.{Message}
use Rattle.group_message.specs.declared.message.Message.TheVariants as tells
use Rattle.group_message.specs.declared.message.Session.{Session}
use Rattle.group_run.specs.History.{history_of, no_history}
use Rattle.group_run.specs.Rows.{parity_number}
use Rattle.group_run.specs.World.{World}
use Rattle.law_moves.specs.State.{State, state_of}
use Rattle.law_moves.proofs.Runs.{holds_always, world-from}
use Rattle.law_moves.proofs.Members.{IsParity, MayStand}
use Rattle.law_bytes.proofs.Finding.{and-join}
use Rattle.law_bytes.proofs.Tokens.{Row, Token, is_token, one_if, tokens}
use Rattle.law_bytes.proofs.TokensKeeping.{Carried, keeps}
use Rattle.law_bytes.proofs.Local.{Fact}
use Rattle.law_bytes.proofs.Nothing.{link-none, named-so, token}
use Rattle.law_answers.specs.Deliveries.{OwnMarksAlways, OwnMarksStarted}

not-below : (a b : ℕ) → b ≤ a → nat_lt a b ≡ false
not-below a b less = grind (arith, common_steps)

module _ (s : Dimensions) (v : State) (carried : Carried s v) where
  abbrev last : ℕ → ℕ
  last i = (v.process (ParityNode i)).as_leader.last_session

  -- of a session that its leader hasn't started there is no token
  no-token : (t : Token) → t.partition < s.k → t.leader < s.m → last t.leader < t.number → tokens s v t ≤ 0
  no-token t below inside high =
      let few = carried.tokens t below inside in
      let none : one_if (nat_lt t.number (suc (last t.leader))) ≡ 0 = ap one_if (not-below t.number (suc (last t.leader)) (omega (arith, high))) in
      omega (arith, few, none)

  -- a mark for a row is one
  mark-token : (x : ProcessId) (i : ℕ) (session : Session) (r : Rank) (block : ℕ) (d : Partition) (n : ℕ) → session.leader ≡ ParityNode i
      → is_token (token i session.number d.0 (Row i)) x (ParityNode i) (tells.Mark session r block d n) ≡ true
  mark-token x i session r block d n leads =
      and-join _ _ (named-so s i session.number d.0 (Row i) session (leads, refl)) (and-join _ _ (eq-eqb d.0 d.0 refl) (same-refl (ParityNode i)))

  own-started : (x : ProcessId) (i : ℕ) (session : Session) (r : Rank) (block : ℕ) (d : Partition) (n : ℕ) (rest : List Message)
      → IsProcess s x → i < s.m → x ≢ ParityNode i → v.dead (ParityNode i) ≡ false
      → v.link x (ParityNode i) ≡ tells.Mark session r block d n ∷ rest → session.leader ≡ ParityNode i → d.0 < s.k
      → session.number ≤ last i
  own-started x i session r block d n rest xin iin apart lives first leads below = by (cases_lt (last i) session.number) where
    t : Token
    t = token i session.number d.0 (Row i)

    by : (last i < session.number) ⊎ (session.number ≤ last i) → session.number ≤ last i
    by (inr low) = low
    by (inl high) =
        let none = link-none s v t (no-token t below iin high) x (ParityNode i) xin iin apart lives in
        absurd ((subst (Each (λ m. is_token t x (ParityNode i) m ≡ true → ⊥)) first none).0 (mark-token x i session r block d n leads))

  started : (x q : ProcessId) (session : Session) (r : Rank) (block : ℕ) (d : Partition) (n : ℕ) (rest : List Message)
      → IsProcess s x → IsProcess s q → x ≢ q → v.dead q ≡ false
      → v.link x q ≡ tells.Mark session r block d n ∷ rest → parity_number session.leader ≡ parity_number q
      → MayStand s v x q (tells.Mark session r block d n) → IsParity session.leader
      → session.number ≤ (v.process q).as_leader.last_session
  started x (DataNode e) session r block d n rest xin qin apart lives first own may led = elim may.2 [ ]
  started x (ParityNode i) session r block d n rest xin qin apart lives first own may led = by session.leader refl own led where
    by : (l : ProcessId) → session.leader ≡ l → parity_number l ≡ i → IsParity l → session.number ≤ (v.process (ParityNode i)).as_leader.last_session
    by (ParityNode l) is same led = own-started x i session r block d n rest xin qin apart lives first (is ∙ ap ParityNode same) may.0.1.partition
    by (DataNode e) is same led = elim led [ ]

pub own_marks_always : OwnMarksAlways
own_marks_always s es run = subst (λ (w : World). OwnMarksStarted s w) (world-from (no_history s) es) all where
  v : State
  v = state_of (history_of s es)

  carried : Carried s v
  carried = holds_always s (Carried s) (keeps s run.0) es run

  all : OwnMarksStarted s (history_of s es).world
  all from to session r block d n rest fin tin apart lives first own =
      started s v carried from to session r block d n rest fin tin apart lives.1 first own
      ((subst (Each (MayStand s v from to)) first (carried.members.may from to fin tin apart lives.1)).0)
      ((subst (Each Fact) first (carried.facts from to fin tin apart lives.1)).0)
