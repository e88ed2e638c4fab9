-- Every move keeps what is held of sessions.
use Rattle.std.proofs.Common.{◌≡◌, ◌≢◌, ℕ, suc, ◌+◌, ◌<◌, ◌≤◌, ◌&&◌, nat_le, nat_lt, Bool, true, false, not, List, []}
use Rattle.std.proofs.Common.{◌∷◌, Option, Some, None, ◌⊎◌, inl, inr, refl, sym, ap, ap₂, subst, ◌∙◌, arith}
use Rattle.std.proofs.lemmas.Bool.{cases_lt, eq-eqb}
use Rattle.std.proofs.lemmas.Grind.{common_steps}
use Rattle.group_types.specs.Dimensions.{Dimensions}
use Rattle.group_types.specs.Lists.{at}
use Rattle.group_types.specs.Names.{IsProcess}
use Rattle.group_types.specs.Shape.{IsShape}
use Rattle.group_types.specs.declared.process.ProcessId.{ProcessId}
use Rattle.group_types.specs.declared.process.ProcessId.TheVariants.{DataNode, ParityNode}
use Rattle.group_types.proofs.Names.{same-cases}
use Rattle.group_types.specs.Each.{Each}
use Rattle.membership.specs.Members.{knows_dead}
use Rattle.group_message.specs.declared.message.Message.{Message}
use Rattle.group_message.specs.declared.message.Message.TheVariants as tells
use Rattle.group_message.specs.declared.message.Session.{Session}
use Rattle.group_run.specs.Applying.{ProcessStep}
use Rattle.group_run.specs.Receiving.{receive}
use Rattle.group_run.specs.Rows.{accepts_mark, parity_number}
use Rattle.law_moves.proofs.Moves.{Acted, Keeps, Popped, Treats}
use Rattle.law_moves.specs.State.{State}
use Rattle.law_histories.proofs.LaneWords.{Goes as LaneGoes, is_live, next}
use Rattle.law_moves.proofs.Members.{IsData, IsFrom, MayStand, Members}
use Rattle.law_moves.proofs.Keeping.{known-is-dead, living-unknown}
use Rattle.law_histories.proofs.Reach.{Any, Reach, seen_at}
use Rattle.law_histories.proofs.Keeping.{keeps_reach}
use Rattle.law_histories.proofs.Folds.{Along}
use Rattle.law_bytes.proofs.Tokens.{Row, Token, is_token, one_if, tokens}
use Rattle.law_bytes.proofs.Groups.{popped-tokens}
use Rattle.law_bytes.proofs.TokensKeeping.{Carried, comes-to}
use Rattle.law_bytes.proofs.TokensKeeping as sessions
use Rattle.law_bytes.proofs.Local.{Fact}
use Rattle.law_bytes.proofs.Tallying.{ComesTo}
use Rattle.law_bytes.proofs.Nothing.{token}
use Rattle.law_progress.proofs.Waiting.{AsksForBlock, IsMark, Marked, marks_in}
use Rattle.law_progress.proofs.Holding.{Ending}
use Rattle.law_progress.proofs.Moving.{moved}
use Rattle.law_progress.proofs.Receiving.{Goes, receive-fair, treat-fair}
use Rattle.law_progress.proofs.Sides.{Accepts}
use Rattle.law_progress.proofs.Spent.{no-copy}
use Rattle.law_progress.proofs.Beginning.{began}
use Rattle.law_progress.proofs.Dying.{died}

-- what is carried along a run
pub record Held (s : Dimensions) (v : State) : Type 0 where
  pub members : Members s v
  pub reach : Reach Any s v
  pub carried : Carried s v
  pub ending : Ending s v

-- tokens are few, and none is of a session that isn't opened
module _ (s : Dimensions) (v : State) (carried : Carried s v) where
  pub few : (k : Token) → k.partition < s.k → tokens s v k ≤ 1
  few k low = by (cases_lt k.leader s.m) where
    high : (b : Bool) → one_if b ≤ 1
    high true = omega arith
    high false = omega arith

    by : (k.leader < s.m) ⊎ (s.m ≤ k.leader) → tokens s v k ≤ 1
    by (inl inside) = let less = carried.tokens k low inside in let one =
        high (nat_lt k.number (suc (v.process (ParityNode k.leader)).as_leader.last_session)) in
        omega (arith, less, one)
    by (inr outside) = let none = carried.strangers k low outside in omega (arith, none)

  pub none-new : (l d : ℕ) → l < s.m → d < s.k → tokens s v (token l (suc (v.process (ParityNode l)).as_leader.last_session) d (Row l)) ≤ 0
  none-new l d lin low =
      let less = carried.tokens (token l (suc (v.process (ParityNode l)).as_leader.last_session) d (Row l)) low lin in
      let none : one_if (nat_lt (suc (v.process (ParityNode l)).as_leader.last_session) (suc (v.process (ParityNode l)).as_leader.last_session)) ≡ 0 = ap one_if
      (not-below (suc (v.process (ParityNode l)).as_leader.last_session)) in
      omega (arith, less, none)
    where
      not-below : (a : ℕ) → nat_lt a a ≡ false
      not-below a = grind (arith, common_steps)

-- a process treats something
module _ (s : Dimensions) (shaped : IsShape s) (v w : State) (p : ProcessId) (t : ProcessStep) (pin : IsProcess s p) (lives : v.dead p ≡ false)
    (held : Held s v) (after : Members s w) (treats : Treats s (v.process p) t) (acts : Acted s v w p t) where
  treated-free : (l : ℕ) → p ≡ ParityNode l
      → (at 0 (v.process p).as_row.ceased l < suc (v.process p).as_leader.last_session)
      × (marks_in (v.process p) l (suc (v.process p).as_leader.last_session) ≡ None)
  treated-free l is =
      subst
      (λ (y : ProcessId). (at 0 (v.process y).as_row.ceased l < suc (v.process y).as_leader.last_session)
      × (marks_in (v.process y) l (suc (v.process y).as_leader.last_session) ≡ None))
      (sym is) (
        (held.ending.ceased l l (suc (v.process (ParityNode l)).as_leader.last_session) lin lin l_lives l_lives
            (inr (omega arith))).0,
        by (marks_in (v.process (ParityNode l)) l (suc (v.process (ParityNode l)).as_leader.last_session)) refl,
      )
    where
      lin : l < s.m
      lin = subst (IsProcess s) is pin

      l_lives : v.dead (ParityNode l) ≡ false
      l_lives = ap v.dead (sym is) ∙ lives

      by : (o : Option (List (Option ℕ))) → marks_in (v.process (ParityNode l)) l (suc (v.process (ParityNode l)).as_leader.last_session) ≡ o
          → marks_in (v.process (ParityNode l)) l (suc (v.process (ParityNode l)).as_leader.last_session) ≡ None
      by None there = there
      by (Some marks) there =
          let mark = (held.ending.rows (ParityNode l) lin l_lives l (suc (v.process (ParityNode l)).as_leader.last_session) marks there).some in
          absurd (no-copy s l (suc (v.process (ParityNode l)).as_leader.last_session) l v mark.0
          (none-new s v held.carried l mark.0 lin mark.1) lin l_lives (held.members.named (ParityNode l) lin)
          (subst (Marked mark.0) (sym there) mark.2))

  treated-ending : Ending s w
  treated-ending = moved s v v w p p [] t (record {
    inside = pin;
    lives = lives;
    from = pin;
    apart = λ some. absurd (some refl);
    before = held.members;
    after = after;
    same = λ q qin. refl;
    dead = λ q qin. refl;
    links = λ a b ain bin other. refl;
    first = refl;
    acts = acts;
    fair = treat-fair s p (v.process p) t treats pin
        (record { name = held.members.named p pin; some = (let first = shaped.k in omega (arith, first)); sits = λ d low. held.members.sits p d pin lives low })
        (held.members.not_self p pin lives) (held.ending.leaders p pin lives) treated-free;
    accepted = λ l n d r is lin l_lives x_lives above has. absurd has;
    within = λ l n d has. absurd has;
    reader = λ l n r has. absurd has;
    spent = λ k low has. absurd has;
    few = λ k low. few s v held.carried k low;
  }) held.ending

-- a message is received
module _ (s : Dimensions) (v u w : State) (x p : ProcessId) (m : Message) (xin : IsProcess s x) (pin : IsProcess s p)
    (apart : x ≢ p) (lives : v.dead p ≡ false) (held : Held s v) (after : Members s w) (pops : Popped s v u x p m)
    (acts : Acted s u w p (receive s x m (v.process p))) where
  may : MayStand s v x p m
  may = (subst (Each (MayStand s v x p)) pops.first (held.members.may x p xin pin apart lives)).0

  fact : Fact m
  fact = (subst (Each Fact) pops.first (held.carried.facts x p xin pin apart lives)).0

  name : (v.process p).name ≡ p
  name = held.members.named p pin

  goes : (k : Message) → MayStand s v x p k → Goes x k p
  goes (tells.Row session bytes stamp) stands = stands.1
  goes (tells.Block session bytes n) stands = stands.1
  goes (tells.Mark session r block d n) stands = stands.2
  goes (tells.Update r d c stable) stands = tt
  goes (tells.Ack r d n) stands = tt
  goes (tells.Stable r d n) stands = tt
  goes (tells.Adopt r d base list) stands = tt
  goes (tells.ReadBlock session block rows) stands = tt
  goes (tells.Cease upto) stands = tt
  goes (tells.Notice dead) stands = tt

  -- nobody that lives is known dead
  leader-unknown : (l : ℕ) → l < s.m → v.dead (ParityNode l) ≡ false → knows_dead (v.process p).known (ParityNode l) ≡ false
  leader-unknown l lin l_lives = by (same-cases (ParityNode l) p) where
    by : (ParityNode l ≡ p) ⊎ (ParityNode l ≢ p) → knows_dead (v.process p).known (ParityNode l) ≡ false
    by (inl is) = subst (λ (y : ProcessId). knows_dead (v.process p).known y ≡ false) (sym is) (held.members.not_self p pin lives)
    by (inr other) =
        living-unknown (ParityNode l) (v.dead (ParityNode l)) (knows_dead (v.process p).known (ParityNode l)) (v.link (ParityNode l) p)
        (held.members.stands (ParityNode l) p lin pin other lives) l_lives

  -- a mark of a living process has the rank that the row stands under
  rank-is : (session : Session) (r block d n i : ℕ) → p ≡ ParityNode i
      → v.link x p ≡ tells.Mark session (record { 0 = r }) block (record { 0 = d }) n ∷ u.link x p → v.dead x ≡ false → IsFrom s v x d r
      → r ≡ at 0 (v.process p).ranks d
  rank-is session r block d n i is first x_lives from = subst (λ (y : ProcessId). r ≡ at 0 (v.process y).ranks d) (sym is) ((goes_along.0 live).rank) where
    low : d < s.k
    low = from.1.partition

    iin : i < s.m
    iin = subst (IsProcess s) is pin

    i_lives : v.dead (ParityNode i) ≡ false
    i_lives = ap v.dead (sym is) ∙ lives

    goes_along : Along (next d) (LaneGoes Any d (v.settled d)) (seen_at d (v.settled d) (v.process (ParityNode i)))
        (tells.Mark session (record { 0 = r }) block (record { 0 = d }) n ∷ u.link x p)
    goes_along =
        subst (Along (next d) (LaneGoes Any d (v.settled d)) (seen_at d (v.settled d) (v.process (ParityNode i)))) (ap (v.link x) (sym is) ∙ first)
        ((held.reach d low).lanes x i xin iin (λ same. apart (same ∙ sym is)) i_lives).goes

    under : at 0 (v.process (ParityNode i)).ranks d ≤ r
    under = by (cases_lt r (at 0 (v.process (ParityNode i)).ranks d)) where
      by : (r < at 0 (v.process (ParityNode i)).ranks d) ⊎ (at 0 (v.process (ParityNode i)).ranks d ≤ r) → at 0 (v.process (ParityNode i)).ranks d ≤ r
      by (inr less) = less
      by (inl above) = absurd (cc (sym x_lives ∙ ap v.dead from.0 ∙ (held.members.ranks (ParityNode i) d iin i_lives low).below r above))

    live : is_live d (seen_at d (v.settled d) (v.process (ParityNode i))) d r ≡ true
    live = ap₂ (λ (a b : Bool). a && b) (eq-eqb d d refl) (let less = under in reaches (at 0 (v.process (ParityNode i)).ranks d) less) where
      reaches : (a : ℕ) → a ≤ r → nat_le a r ≡ true
      reaches a less = grind (arith, common_steps)

  accepted-it : (k : Message) → v.link x p ≡ k ∷ u.link x p → MayStand s v x p k → (l n d r : ℕ) → p ≡ ParityNode r → l < s.m → v.dead (ParityNode l) ≡ false
      → v.dead x ≡ false → at 0 (v.process p).as_row.ceased l < n → IsMark l n d k → Accepts (v.process p) k
  accepted-it (tells.Mark session r block d number) first stands l n e i is lin l_lives x_lives above mark =
      subst (λ (y : ProcessId). accepts_mark (v.process p) (parity_number y) session.number r.0 d.0 ≡ true) (sym mark.0.0)
      (subst (λ (j : ℕ). accepts_mark (v.process p) l j r.0 d.0 ≡ true) (sym mark.0.1)
      (ap₂ (λ (a b : Bool). a && b)
      (ap₂ (λ (a b : Bool). a && not b)
      (eq-eqb r.0 (at 0 (v.process p).ranks d.0) (rank-is session r.0 block d.0 number i is first x_lives stands.0))
      (leader-unknown l lin l_lives)) (reaches (at 0 (v.process p).as_row.ceased l) above)))
    where
      reaches : (a : ℕ) → a < n → nat_lt a n ≡ true
      reaches a less = grind (arith, common_steps)
  accepted-it (tells.Update _ _ _ _) first stands l n e i is lin l_lives x_lives above mark = absurd mark
  accepted-it (tells.Ack _ _ _) first stands l n e i is lin l_lives x_lives above mark = absurd mark
  accepted-it (tells.Stable _ _ _) first stands l n e i is lin l_lives x_lives above mark = absurd mark
  accepted-it (tells.Adopt _ _ _ _) first stands l n e i is lin l_lives x_lives above mark = absurd mark
  accepted-it (tells.ReadBlock _ _ _) first stands l n e i is lin l_lives x_lives above mark = absurd mark
  accepted-it (tells.Block _ _ _) first stands l n e i is lin l_lives x_lives above mark = absurd mark
  accepted-it (tells.Row _ _ _) first stands l n e i is lin l_lives x_lives above mark = absurd mark
  accepted-it (tells.Cease _) first stands l n e i is lin l_lives x_lives above mark = absurd mark
  accepted-it (tells.Notice _) first stands l n e i is lin l_lives x_lives above mark = absurd mark

  within-it : (k : Message) → MayStand s v x p k → (l n d : ℕ) → IsMark l n d k → d < s.k
  within-it (tells.Mark session r block e number) stands l n d mark = let low = stands.0.1.partition in let same = mark.1 in omega (arith, low, same)
  within-it (tells.Update _ _ _ _) stands l n d mark = absurd mark
  within-it (tells.Ack _ _ _) stands l n d mark = absurd mark
  within-it (tells.Stable _ _ _) stands l n d mark = absurd mark
  within-it (tells.Adopt _ _ _ _) stands l n d mark = absurd mark
  within-it (tells.ReadBlock _ _ _) stands l n d mark = absurd mark
  within-it (tells.Block _ _ _) stands l n d mark = absurd mark
  within-it (tells.Row _ _ _) stands l n d mark = absurd mark
  within-it (tells.Cease _) stands l n d mark = absurd mark
  within-it (tells.Notice _) stands l n d mark = absurd mark

  data-is : (y : ProcessId) → IsData y → (e : ℕ) × (y ≡ DataNode e)
  data-is (DataNode e) is = (e, refl)
  data-is (ParityNode i) is = elim is [ ]

  reads-it : (k : Message) → MayStand s v x p k → (l n r : ℕ) → AsksForBlock l n r k → (x ≡ ParityNode l) × ((e : ℕ) × (p ≡ DataNode e))
  reads-it (tells.ReadBlock session block rows) stands l n r ask = (sym stands.0 ∙ ask.0.0, data-is p stands.2)
  reads-it (tells.Update _ _ _ _) stands l n r ask = absurd ask
  reads-it (tells.Ack _ _ _) stands l n r ask = absurd ask
  reads-it (tells.Stable _ _ _) stands l n r ask = absurd ask
  reads-it (tells.Adopt _ _ _ _) stands l n r ask = absurd ask
  reads-it (tells.Block _ _ _) stands l n r ask = absurd ask
  reads-it (tells.Mark _ _ _ _ _) stands l n r ask = absurd ask
  reads-it (tells.Row _ _ _) stands l n r ask = absurd ask
  reads-it (tells.Cease _) stands l n r ask = absurd ask
  reads-it (tells.Notice _) stands l n r ask = absurd ask

  only : (P : Message → Type 0) → P m ⊎ ⊥ → P m
  only P (inl is) = is
  only P (inr none) = absurd none

  fewer : (k : Token) → k.partition < s.k → tokens s u k + one_if (is_token k x p m) ≤ 1
  fewer k low = let less = popped-tokens s k v u x p m xin pin apart lives pops in let most = few s v held.carried k low in omega (arith, less, most)

  received-ending : Ending s w
  received-ending = moved s v u w x p (m ∷ []) (receive s x m (v.process p)) (record {
    inside = pin;
    lives = lives;
    from = xin;
    apart = λ some. apart;
    before = held.members;
    after = after;
    same = pops.processes;
    dead = pops.dead;
    links = pops.links;
    first = pops.first;
    acts = acts;
    fair = receive-fair s x (v.process p) m fact (subst (ComesTo x m) (sym name) (comes-to s v x p m may)) (subst (Goes x m) (sym name) (goes m may));
    accepted = λ l n d r is lin l_lives x_lives above has. (accepted-it m pops.first may l n d r is lin l_lives x_lives above (only (IsMark l n d) has), tt);
    within = λ l n d has. within-it m may l n d (only (IsMark l n d) has);
    reader = λ l n r has. reads-it m may l n r (only (AsksForBlock l n r) has);
    spent = λ k low has. (let less = fewer k low in let one : one_if (is_token k x p m)
        ≡ 1 = ap one_if (only (λ z. is_token k x p z ≡ true) has) in omega (arith, less, one));
    few = λ k low. (let less = fewer k low in omega (arith, less));
  }) held.ending

-- who is known dead is
known-dead : (s : Dimensions) (v : State) → Members s v → (l d : ℕ) → l < s.m → d < s.k → v.dead (ParityNode l) ≡ false
    → knows_dead (v.process (ParityNode l)).known (DataNode d) ≡ true → v.dead (DataNode d) ≡ true
known-dead s v members l d lin low lives known =
    known-is-dead (DataNode d) (v.dead (DataNode d)) (knows_dead (v.process (ParityNode l)).known (DataNode d)) (v.link (DataNode d) (ParityNode l))
    (members.stands (DataNode d) (ParityNode l) low lin (λ same. cc same) lives) known

pub keeps-held : (s : Dimensions) → IsShape s → Keeps s (Held s)
keeps-held s shaped = record {
  opens = λ v starts. (let both = reaching.opens v starts in
      record { members = both.0; reach = both.1; carried = carrying.opens v starts; ending = began s v starts });
  treats = λ v w p t pin up lives treats held acts.
      (let both = reaching.treats v w p t pin up lives treats (held.members, held.reach) acts in
      record {
        members = both.0;
        reach = both.1;
        carried = carrying.treats v w p t pin up lives treats held.carried
            acts;
        ending = treated-ending s shaped v w p t pin lives held both.0 treats acts;
      });
  receives = λ v u w x p m xin pin apart up lives held pops acts.
      (let both = reaching.receives v u w x p m xin pin apart up lives (held.members, held.reach) pops acts in
      record {
        members = both.0;
        reach = both.1;
        carried = carrying.receives v u w x p m xin pin apart up lives
            held.carried pops acts;
        ending = received-ending s v u w x p m xin pin apart lives held both.0 pops acts;
      });
  dies = λ v w p keep pin held dies.
      (let both = reaching.dies v w p keep pin (held.members, held.reach) dies in
      record {
        members = both.0;
        reach = both.1;
        carried = carrying.dies v w p keep pin held.carried dies;
        ending = died s v w p keep pin dies held.ending (known-dead s v held.members);
      });
} where
  reaching : Keeps s (λ v. Members s v × Reach Any s v)
  reaching = keeps_reach s shaped

  carrying : Keeps s (Carried s)
  carrying = sessions.keeps s shaped
