-- Every message of a block session into a living process has a frame.
use Rattle.std.proofs.Common.{◌≡◌, ◌≢◌, ◌<◌, ◌≤◌, ℕ, suc, ◌+◌, ◌*◌, ◌^◌, nat_lt, true, false, List, [], ◌∷◌, ◌++◌}
use Rattle.std.proofs.Common.{length, ◌⊎◌, inl, inr, refl, sym, ap, subst, ◌∙◌, arith}
use Rattle.std.proofs.lemmas.Bool.{cases_lt, eq-eqb}
use Rattle.std.proofs.lemmas.Grind.{common_steps}
use Rattle.std.proofs.lemmas.List.{length-append}
use Rattle.std.proofs.lemmas.Nat.{mul-le}
use Rattle.group_types.specs.Dimensions.{Dimensions}
use Rattle.group_types.specs.Each.{Each}
use Rattle.group_types.specs.Names.{IsProcess, same_process}
use Rattle.group_types.specs.Shape.{IsShape}
use Rattle.group_types.specs.declared.process.Partition.{Partition}
use Rattle.group_types.specs.declared.process.ProcessId.{ProcessId}
use Rattle.group_types.specs.declared.process.ProcessId.TheVariants.{DataNode, ParityNode}
use Rattle.group_types.specs.declared.process.Rank.{Rank}
use Rattle.group_types.proofs.Names.{same-refl}
use Rattle.group_message.specs.declared.message.Message.{Message}
use Rattle.group_message.specs.declared.message.Message.TheVariants as tells
use Rattle.group_message.specs.declared.message.Session.{Session}
use Rattle.group_run.specs.Applying.{replica_of}
use Rattle.group_run.specs.Replica.{last_of}
use Rattle.group_run.specs.World.{AskedCall}
use Rattle.law_moves.specs.State.{State}
use Rattle.law_moves.proofs.Members.{IsData, IsParity, MayStand}
use Rattle.law_histories.proofs.Histories.{length-history}
use Rattle.law_bytes.proofs.Exact.{BlockIs, Exact, RowIs}
use Rattle.law_bytes.proofs.Finding.{and-join}
use Rattle.law_bytes.proofs.Local.{Fact}
use Rattle.law_bytes.proofs.Nothing.{link-none, named-so, token}
use Rattle.law_bytes.proofs.Rising.{Differ}
use Rattle.law_bytes.proofs.Tokens.{Own, Row, Token, Way, is_token, one_if, tokens}
use Rattle.law_headline.proofs.Joint.{Whole}
use Rattle.law_headline.proofs.Rows.{RowSound, RowsSound}
use Rattle.law_headline.proofs.Sound.{LinksSound, Sound}
use Rattle.wire_codec.specs.Fits.{FitsProcess, FitsSession, HasFrame}
use Rattle.wire_codec.specs.Frame.{eight, four, one, session, short}
use Rattle.wire_codec.proofs.Puts.{length-session, length_row}
use Rattle.law_frames.specs.Laws.{HasFrameIfOfSession}
use Rattle.law_frames.proofs.ClosingSteps.{ClosesLow}
use Rattle.law_frames.proofs.Distinct.{all-each, each-eight, each-one, few-distinct}

not-below : (a b : ℕ) → b ≤ a → nat_lt a b ≡ false
not-below a b less = grind (arith, common_steps)

module _ (s : Dimensions) (shaped : IsShape s) (calls : List AskedCall) (v : State) (whole : Whole s calls v)
    (sound : LinksSound s v) (rows : RowsSound s v) (n : ℕ) (few : n < 2 ^ 63)
    (low : (p : ProcessId) (d : ℕ) → IsProcess s p → v.dead p ≡ false → last_of (replica_of (v.process p) d) ≤ n)
    (started : (p : ProcessId) → IsProcess s p → (v.process p).as_leader.last_session ≤ n) where
  abbrev last : ℕ → ℕ
  last i = (v.process (ParityNode i)).as_leader.last_session

  -- of a session that its leader hasn't started there is no token
  no-token : (t : Token) → t.partition < s.k → t.leader < s.m → last t.leader < t.number → tokens s v t ≤ 0
  no-token t below inside high =
      let held = whole.carried.tokens t below inside in
      let none : one_if (nat_lt t.number (suc (last t.leader))) ≡ 0 = ap one_if (not-below t.number (suc (last t.leader)) (omega (arith, high))) in
      omega (arith, held, none)

  blocks-few : s.blocks < 2 ^ 32
  blocks-few =
      let least = shaped.block.0 in
      let space = shaped.blocks.1 in
      let product : s.blocks * 16 ≤ s.blocks * s.block = mul-le s.blocks 16 s.blocks s.block (omega arith) least in
      omega (arith, product, space)

  session-fits : (l : ℕ) (w : Session) → w.leader ≡ ParityNode l → l < s.m → w.number ≤ n → FitsSession w
  session-fits l w leads inside number =
      let most = shaped.m in
      let fits : FitsProcess (ParityNode l) = omega (arith, inside, most) in
      (subst FitsProcess (sym leads) fits, omega (arith, number, few))

  -- a living parity process has as many updates as are settled
  settled-low : (i d : ℕ) → i < s.m → v.dead (ParityNode i) ≡ false → d < s.k → length (v.settled d) ≤ n
  settled-low i d inside lives below =
      let mine = (whole.reach d below).replicas (ParityNode i) inside lives tt in
      let reaches = mine.prolongs.reaches in
      let long = length-history (v.settled d) (replica_of (v.process (ParityNode i)) d) mine.applied in
      let most = low (ParityNode i) d inside lives in
      omega (arith, reaches, long, most)

  module _ (x q : ProcessId) (xin : IsProcess s x) (qin : IsProcess s q) (receives : v.dead q ≡ false) where
    -- no message is a token of a session that isn't started
    abbrev Unstarted : List Message → Type 0
    Unstarted ms = (t : Token) → t.partition < s.k → t.leader < s.m → last t.leader < t.number → Each (λ m. is_token t x q m ≡ true → ⊥) ms

    number-low : (l d : ℕ) (way : Way) (w : Session) (m : Message) (rest : List Message) → Unstarted (m ∷ rest)
        → d < s.k → l < s.m → is_token (token l w.number d way) x q m ≡ true → w.number ≤ n
    number-low l d way w m rest none below inside is = by (cases_lt (last l) w.number) where
      by : (last l < w.number) ⊎ (w.number ≤ last l) → w.number ≤ n
      by (inr at_most) = let most = started (ParityNode l) inside in omega (arith, at_most, most)
      by (inl high) = absurd ((none (token l w.number d way) below inside high).0 is)

    alive : (y : ProcessId) → q ≡ y → v.dead y ≡ false
    alive y is = ap v.dead (sym is) ∙ receives

    read : (w : Session) (block : ℕ) (asked : List ℕ) (rest : List Message)
        → MayStand s v x q (tells.ReadBlock w block asked) → Sound s x (tells.ReadBlock w block asked) → Differ asked
        → Unstarted (tells.ReadBlock w block asked ∷ rest)
        → (y : ProcessId) → q ≡ y → HasFrame (tells.ReadBlock w block asked)
    read w block asked rest may carries differ none (ParityNode i) is = absurd (subst IsData is may.2)
    read w block asked rest may carries differ none (DataNode e) is =
        let led = carries.leader in
        let below : e < s.k = subst (IsProcess s) is qin in
        let named = and-join _ _ (named-so s led.0 w.number e Own w (led.1, refl))
        (ap (λ (y : ProcessId). same_process y (DataNode e)) is ∙ same-refl (DataNode e)) in
        let number = number-low led.0 e Own w (tells.ReadBlock w block asked) rest none below led.2 named in
        let inside = carries.inside in
        let all = all-each s.m asked carries.in_group in
        let most = shaped.m in
        let long = few-distinct s.m asked all differ in
        let blocks = blocks-few in
        record {
          fit = (
            session-fits led.0 w led.1 led.2 number,
            omega (arith, inside, blocks),
            omega (arith, long, most),
            each-one s.m asked (omega (arith, most)) all,
          );
          short = omega (arith, long, most, length-append (session w ++ four block) (short asked), length-append (session w) (four block), length-session w);
        }

    block-sent : (w : Session) (bytes : List ℕ) (number : ℕ) (rest : List Message)
        → MayStand s v x q (tells.Block w bytes number) → Sound s x (tells.Block w bytes number)
        → Exact s v.settled x (tells.Block w bytes number)
        → Unstarted (tells.Block w bytes number ∷ rest) → (y z : ProcessId) → x ≡ y → q ≡ z → HasFrame (tells.Block w bytes number)
    block-sent w bytes number rest may carries exact none (ParityNode i) z from to = absurd (subst IsData from may.1)
    block-sent w bytes number rest may carries exact none (DataNode e) (DataNode f) from to = absurd (subst IsParity to may.2)
    block-sent w bytes number rest may carries exact none (DataNode e) (ParityNode l) from to =
        let below : e < s.k = subst (IsProcess s) from xin in
        let inside : l < s.m = subst (IsProcess s) to qin in
        let leads = may.0 ∙ to in
        let named = and-join _ _ (named-so s l w.number e Own w (leads, refl))
        (ap (λ (y : ProcessId). same_process y (DataNode e)) from ∙ same-refl (DataNode e)) in
        let late = number-low l e Own w (tells.Block w bytes number) rest none below inside named in
        let told : number ≤ length (v.settled e) = (subst (λ (y : ProcessId). BlockIs s v.settled y bytes number) from exact).0 in
        let most = settled-low l e inside (alive (ParityNode l) to) below in
        let block = shaped.block.1 in
        record {
          fit = (session-fits l w leads inside late, omega (arith, carries, block), omega (arith, told, most, few));
          short = omega (
            arith,
            carries,
            block,
            length-append (session w ++ (four (length bytes) ++ bytes))
                (eight number),
            length-append (session w) (four (length bytes) ++ bytes),
            length-append (four (length bytes)) bytes,
            length-session w,
          );
        }

    mark-sent : (w : Session) (r : Rank) (block : ℕ) (d : Partition) (number : ℕ) (rest : List Message)
        → MayStand s v x q (tells.Mark w r block d number) → Sound s x (tells.Mark w r block d number)
        → Exact s v.settled x (tells.Mark w r block d number) → Unstarted (tells.Mark w r block d number ∷ rest)
        → (z : ProcessId) → q ≡ z → HasFrame (tells.Mark w r block d number)
    mark-sent w r block d number rest may carries exact none (DataNode e) to = absurd (subst IsParity to may.2)
    mark-sent w r block d number rest may carries exact none (ParityNode i) to =
        let led = carries.0 in
        let from = may.0.1 in
        let is_r = from.rank in
        let is_d = from.partition in
        let row : i < s.m = subst (IsProcess s) to qin in
        let here = and-join _ _ (eq-eqb d.0 d.0 refl) (ap (λ (y : ProcessId). same_process y (ParityNode i)) to ∙ same-refl (ParityNode i)) in
        let named = and-join _ _ (named-so s led.0 w.number d.0 (Row i) w (led.1, refl)) here in
        let late = number-low led.0 d.0 (Row i) w (tells.Mark w r block d number) rest none is_d led.2 named in
        let most = settled-low i d.0 row (alive (ParityNode i) to) is_d in
        let inside = carries.1 in
        let blocks = blocks-few in
        let most_r = shaped.m in
        let most_d = shaped.k.1 in
        record {
          fit = (
            session-fits led.0 w led.1 led.2 late,
            omega (arith, is_r, most_r),
            omega (arith, inside, blocks),
            omega (arith, is_d, most_d),
            omega (arith, exact, most, few),
          );
          short = omega (
            arith,
            length-append (session w ++ one r.0 ++ four block ++ one d.0) (eight number),
            length-append (session w ++ one r.0 ++ four block) (one d.0),
            length-append (session w ++ one r.0) (four block),
            length-append (session w) (one r.0),
            length-session w,
          );
        }

    row-sent : (w : Session) (bytes stamp : List ℕ) (rest : List Message) → MayStand s v x q (tells.Row w bytes stamp)
        → Sound s x (tells.Row w bytes stamp) → RowSound s x q (tells.Row w bytes stamp)
        → Exact s v.settled x (tells.Row w bytes stamp) → Unstarted (tells.Row w bytes stamp ∷ rest) → (y z : ProcessId)
        → x ≡ y → q ≡ z → HasFrame (tells.Row w bytes stamp)
    row-sent w bytes stamp rest may carries whole_stamp exact none (DataNode e) z from to = absurd (subst IsParity from may.1)
    row-sent w bytes stamp rest may carries whole_stamp exact none (ParityNode i) (DataNode e) from to = absurd (subst IsParity to may.2)
    row-sent w bytes stamp rest may carries whole_stamp exact none (ParityNode i) (ParityNode l) from to =
        let inside : l < s.m = subst (IsProcess s) to qin in
        let leads = may.0 ∙ to in
        let some = shaped.k.0 in
        let named = and-join _ _ (named-so s l w.number 0 (Row i) w (leads, refl))
        (ap (λ (y : ProcessId). same_process y (ParityNode i)) from ∙ same-refl (ParityNode i)) in
        let late = number-low l 0 (Row i) w (tells.Row w bytes stamp) rest none (omega (arith, some)) inside named in
        let told = (subst (λ (y : ProcessId). RowIs s v.settled y bytes stamp) from exact).0 in
        let long = whole_stamp.0 in
        let most_d = shaped.k.1 in
        let block = shaped.block.1 in
        record {
          fit = (
            session-fits l w leads inside late,
            omega (arith, carries, block),
            omega (arith, long, most_d),
            each-eight stamp (λ d below.
                let there : d < s.k = omega (arith, below, long) in
                let number = told d there in
                let most = settled-low l d inside (alive (ParityNode l) to) there in
                omega (arith, number, most, few)),
          );
          short = omega (arith, carries, block, long, most_d, length_row w bytes stamp);
        }

    sent : (m : Message) (rest : List Message) → MayStand s v x q m → Sound s x m → Fact m → RowSound s x q m
        → Exact s v.settled x m → ClosesLow s n m → Unstarted (m ∷ rest) → HasFrameIfOfSession m
    sent (tells.ReadBlock w block asked) rest may carries fact row exact closes none = read w block asked rest may carries fact none q refl
    sent (tells.Block w bytes number) rest may carries fact row exact closes none = block-sent w bytes number rest may carries exact none x q refl refl
    sent (tells.Mark w r block d number) rest may carries fact row exact closes none = mark-sent w r block d number rest may carries exact none q refl
    sent (tells.Row w bytes stamp) rest may carries fact row exact closes none = row-sent w bytes stamp rest may carries row exact none x q refl refl
    sent (tells.Update r d u stable) rest may carries fact row exact closes none = tt
    sent (tells.Ack r d number) rest may carries fact row exact closes none = tt
    sent (tells.Stable r d number) rest may carries fact row exact closes none = tt
    sent (tells.Adopt r d base list) rest may carries fact row exact closes none = tt
    sent (tells.Cease upto) rest may carries fact row exact closes none = record { fit = omega (arith, closes, few); short = omega arith }
    sent (tells.Notice dead) rest may carries fact row exact closes none = tt

    all-sent : (ms : List Message) → Each (MayStand s v x q) ms → Each (Sound s x) ms → Each Fact ms
        → Each (RowSound s x q) ms → Each (Exact s v.settled x) ms → Each (ClosesLow s n) ms → Unstarted ms
        → Each HasFrameIfOfSession ms
    all-sent [] may carries facts rows exact closes none = tt
    all-sent (m ∷ ms) may carries facts rows exact closes none = (
      sent m ms may.0 carries.0 facts.0 rows.0 exact.0 closes.0 none,
      all-sent ms may.1 carries.1 facts.1 rows.1
          exact.1 closes.1 (λ t below inside high. (none t below inside high).1),
    )

  pub session-words : (x q : ProcessId) → IsProcess s x → IsProcess s q → x ≢ q → v.dead q ≡ false
      → Each (ClosesLow s n) (v.link x q) → Each HasFrameIfOfSession (v.link x q)
  session-words x q xin qin apart receives closes =
      all-sent x q xin qin receives (v.link x q) (whole.carried.members.may x q xin qin apart receives)
      (sound.links x q xin qin apart receives) (whole.carried.facts x q xin qin apart receives)
      (rows.links x q xin qin receives)
      (whole.exact x q xin qin apart receives) closes (λ t below inside high. link-none s v t (no-token t below inside high) x q xin qin apart receives)
