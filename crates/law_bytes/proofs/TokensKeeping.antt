-- Every move keeps the tokens of every session few.
use Rattle.std.proofs.Common.{◌≡◌, ◌≢◌, ℕ, suc, ◌+◌, ◌<◌, ◌≤◌, nat_lt, Bool, true, false, None, [], ◌∷◌, take, ◌⊎◌, inl}
use Rattle.std.proofs.Common.{inr, sym, ap, subst, ◌∙◌, refl, arith, if◌then◌else◌}
use Rattle.std.proofs.lemmas.Grind.{common_steps}
use Rattle.group_types.specs.Dimensions.{Dimensions}
use Rattle.group_types.specs.Names.{IsProcess, same_process}
use Rattle.group_types.specs.Shape.{IsShape}
use Rattle.group_types.specs.declared.process.ProcessId.{ProcessId}
use Rattle.group_types.specs.declared.process.ProcessId.TheVariants.{ParityNode}
use Rattle.group_types.proofs.Names.{same-cases}
use Rattle.group_types.specs.Each.{Each}
use Rattle.group_types.proofs.Eaches.{each-append, each-take}
use Rattle.membership.specs.Members.{knows_dead}
use Rattle.group_message.specs.declared.message.Message.{Message}
use Rattle.group_message.specs.declared.message.Message.TheVariants as tells
use Rattle.group_run.specs.Applying.{ProcessStep}
use Rattle.group_run.specs.Process.{Process, opening_process}
use Rattle.group_run.specs.Receiving.{receive}
use Rattle.group_run.specs.World.{sent_to}
use Rattle.law_moves.proofs.Moves.{Acted, Died, Keeps, Popped, Treats}
use Rattle.law_moves.specs.State.{State}
use Rattle.law_moves.proofs.State.{Opens}
use Rattle.law_moves.proofs.Runs.{holds_always}
use Rattle.law_moves.proofs.Members.{IsParity, MayStand, Members}
use Rattle.law_moves.proofs.Keeping.{living-unknown}
use Rattle.law_moves.proofs.Standing.{each-sent_to}
use Rattle.law_moves.proofs.Keeping as members
use Rattle.law_bytes.proofs.Tokens.{Own, Row, Token, TokensAlways, TokensHold, Way, around, at_process, between}
use Rattle.law_bytes.proofs.Tokens.{everyone, in_copy, in_link, in_session, is_kept_in, is_token, one_if, sum_of}
use Rattle.law_bytes.proofs.Tokens.{tokens}
use Rattle.law_bytes.proofs.Finding.{and-split, true-false}
use Rattle.law_bytes.proofs.Groups.{acted-tokens, died-tokens, in_sent, popped-tokens}
use Rattle.law_bytes.proofs.Local.{Fact, Gains, bit-le}
use Rattle.law_bytes.proofs.Sums.{everyone-inside, sum-zero}
use Rattle.law_bytes.proofs.Tallying.{Claims, ComesTo, receive-gains, treats-claims}

-- what is said of each message in a link into a living process
abbrev pub LinkFacts : Dimensions → State → Type 0
LinkFacts s v = (x q : ProcessId) → IsProcess s x → IsProcess s q → x ≢ q → v.dead q ≡ false → Each Fact (v.link x q)

-- what is carried along a run
pub record Carried (s : Dimensions) (v : State) : Type 0 where
  pub members : Members s v
  pub facts : LinkFacts s v
  pub strangers : (t : Token) → t.partition < s.k → s.m ≤ t.leader → tokens s v t ≤ 0
  pub tokens : TokensHold s v

below-more : (a b c : ℕ) → b ≤ c → one_if (nat_lt a b) ≤ one_if (nat_lt a c)
below-more a b c less = bit-le (nat_lt a b) (nat_lt a c) (λ is. more is) where
  more : nat_lt a b ≡ true → nat_lt a c ≡ true
  more is = grind (arith, common_steps)

nothing-below : (a : ℕ) → one_if (nat_lt a a) ≡ 0
nothing-below a = ap one_if none where
  none : nat_lt a a ≡ false
  none = grind (arith, common_steps)

one-below : (a c : ℕ) → suc a ≤ c → one_if (nat_lt a c) ≡ 1
one-below a c less = ap one_if some where
  some : nat_lt a c ≡ true
  some = grind (arith, common_steps)

module _ (s : Dimensions) where
  -- the last number of a token's leader
  abbrev last_of : State → Token → ℕ
  last_of v t = (v.process (ParityNode t.leader)).as_leader.last_session

  pub comes-to : (v : State) (x q : ProcessId) (m : Message) → MayStand s v x q m → ComesTo x m q
  comes-to v x q (tells.ReadBlock session block rows) may = (subst IsParity (sym may.0) may.1, may.2)
  comes-to v x q (tells.Block session bytes n) may = may.0
  comes-to v x q (tells.Row session bytes stamp) may = may.0
  comes-to v x q (tells.Update r d u stable) may = tt
  comes-to v x q (tells.Ack r d n) may = tt
  comes-to v x q (tells.Stable r d n) may = tt
  comes-to v x q (tells.Adopt r d base list) may = tt
  comes-to v x q (tells.Mark session r block d n) may = tt
  comes-to v x q (tells.Cease upto) may = tt
  comes-to v x q (tells.Notice dead) may = tt

  -- the step of one process, in a group whose members are as they should be after it
  module _ (u w : State) (p : ProcessId) (step : ProcessStep) (pin : IsProcess s p) (lives : u.dead p ≡ false)
      (after : Members s w) (acts : Acted s u w p step) where
    pub unknown : (q : ProcessId) → IsProcess s q → q ≢ p → u.dead q ≡ false → knows_dead step.process.known q ≡ false
    unknown q qin other living =
        subst (λ (y : Process). knows_dead y.known q ≡ false) acts.process
        (living-unknown q (w.dead q) (knows_dead (w.process p).known q) (w.link q p)
        (after.stands q p qin pin other (acts.dead p pin ∙ lives)) (acts.dead q qin ∙ living))

    facts-acted : LinkFacts s u → Each (λ z. Fact z.message) step.sent → LinkFacts s w
    facts-acted facts sent x q xin qin apart living = by (same-cases x p) where
      lived : u.dead q ≡ false
      lived = sym (acts.dead q qin) ∙ living

      by : (x ≡ p) ⊎ (x ≢ p) → Each Fact (w.link x q)
      by (inr other) = subst (Each Fact) (sym (acts.links x q xin qin other)) (facts x q xin qin apart lived)
      by (inl is) =
          let other : q ≢ p = λ (same : q ≡ p). apart (is ∙ sym same) in
          subst (λ (y : ProcessId). Each Fact (w.link y q)) (sym is)
          (subst (Each Fact) (sym (acts.sends q qin (unknown q qin other lived)))
          (each-append Fact (u.link p q) (sent_to q step.sent) (facts p q pin qin (λ same. other (sym same)) lived)
          (each-sent_to (λ to m. Fact m) q step.sent sent)))

    last-same : (t : Token) → t.leader < s.m → ((u.process p).as_leader.last_session ≤ step.process.as_leader.last_session) → last_of u t ≤ last_of w t
    last-same t inside rises = by (same-cases (ParityNode t.leader) p) where
      by : (ParityNode t.leader ≡ p) ⊎ (ParityNode t.leader ≢ p)
          → (u.process (ParityNode t.leader)).as_leader.last_session
          ≤ (w.process (ParityNode t.leader)).as_leader.last_session
      by (inl is) =
          subst (λ (y : ProcessId). (u.process y).as_leader.last_session ≤ (w.process y).as_leader.last_session) (sym is)
          (let now = ap (λ (y : Process). y.as_leader.last_session) acts.process in omega (arith, now, rises))
      by (inr other) = let same = ap (λ (y : Process). y.as_leader.last_session) (acts.others (ParityNode t.leader) inside other) in omega (arith, same)

    pub acted-gains : (t : Token) (c : ℕ) → (u.process p).name ≡ p → Gains t (u.process p) step c → tokens s w t ≤ tokens s u t + c
    acted-gains t c name gains =
        let moved = acted-tokens s t u w p step pin lives unknown acts in
        let weighs = subst (λ (y : ProcessId). at_process t step.process + in_sent t y step.sent ≤ at_process t (u.process p) + c) name gains.weighs in
        omega (arith, moved, weighs)

  -- a call
  treated : (v w : State) (p : ProcessId) (step : ProcessStep) → IsShape s → IsProcess s p → v.dead p ≡ false → Treats s (v.process p) step → Carried s v
      → Members s w → Acted s v w p step → Carried s w
  treated v w p step shaped pin lives treats carried after acts =
      record {
        members = after;
        facts = facts_after;
        tokens = λ t below inside. by t below inside (claims t below);
        strangers = λ t below outside. out t below outside (claims t below);
      } where
        some : 0 < s.k
        some = let first = shaped.k in omega (arith, first)

        claims : (t : Token) (below : t.partition < s.k) → Claims s t below (v.process p) step
        claims t below =
            treats-claims s t below (v.process p) p (carried.members.named p pin) pin (carried.members.not_self p pin lives) step treats
            (record { name = carried.members.named p pin; some = some; sits = λ d low. carried.members.sits p d pin lives low })

        any : Token
        any = record { leader = 0; number = 0; partition = 0; way = Own }

        facts_after : LinkFacts s w
        facts_after = facts-acted v w p step pin lives after acts carried.facts (sent_facts (claims any some)) where
          sent_facts : Claims s any some (v.process p) step → Each (λ z. Fact z.message) step.sent
          sent_facts (inl gains) = gains.facts
          sent_facts (inr opens) = opens.gains.facts

        by : (t : Token) (below : t.partition < s.k) → t.leader < s.m → Claims s t below (v.process p) step
            → tokens s w t ≤ one_if (nat_lt t.number (suc (w.process (ParityNode t.leader)).as_leader.last_session))
        by t below inside (inl gains) =
            let less = acted-gains v w p step pin lives after acts t 0 (carried.members.named p pin) gains in
            let before = carried.tokens t below inside in
            let rises = last-same v w p step pin lives after acts t inside gains.last in
            let more = below-more t.number (suc (last_of v t)) (suc (last_of w t)) (omega (arith, rises)) in
            omega (arith, less, before, more)
        by t below inside (inr opens) =
            let less = acted-gains v w p step pin lives after acts t 1 (carried.members.named p pin) opens.gains in
            let leads : ParityNode t.leader ≡ p = sym opens.leader ∙ carried.members.named p pin in
            let before = carried.tokens t below inside in
            let last_before : (v.process (ParityNode t.leader)).as_leader.last_session
            ≡ (v.process p).as_leader.last_session = ap (λ (y : ProcessId). (v.process y).as_leader.last_session)
            leads in
            let last_after : (w.process (ParityNode t.leader)).as_leader.last_session
            ≡ step.process.as_leader.last_session = ap (λ (y : ProcessId). (w.process y).as_leader.last_session) leads
            ∙ ap (λ (y : Process). y.as_leader.last_session) acts.process in
            let none : one_if (nat_lt t.number (suc (v.process (ParityNode t.leader)).as_leader.last_session)) ≡ 0 =
            ap (λ (k : ℕ). one_if (nat_lt t.number (suc k))) last_before
            ∙ ap (λ (k : ℕ). one_if (nat_lt t.number k)) (sym opens.number) ∙ nothing-below t.number in
            let number = opens.number in
            let last = opens.last in
            let one = one-below t.number (suc (w.process (ParityNode t.leader)).as_leader.last_session) (omega (arith, number, last, last_after)) in
            omega (arith, less, before, none, one)

        out : (t : Token) (below : t.partition < s.k) → s.m ≤ t.leader → Claims s t below (v.process p) step → tokens s w t ≤ 0
        out t below outside (inl gains) =
            let less = acted-gains v w p step pin lives after acts t 0 (carried.members.named p pin) gains in
            let before = carried.strangers t below outside in
            omega (arith, less, before)
        out t below outside (inr opens) =
            let inside : t.leader < s.m = subst (IsProcess s) (sym (carried.members.named p pin) ∙ opens.leader) pin in
            absurd (omega (arith, inside, outside))

  -- a message
  received : (v u w : State) (x p : ProcessId) (m : Message) → IsShape s → IsProcess s x → IsProcess s p → x ≢ p → v.dead p ≡ false → Carried s v → Members s w
      → Popped s v u x p m → Acted s u w p (receive s x m (v.process p)) → Carried s w
  received v u w x p m shaped xin pin apart lives carried after pops acts =
      record {
        members = after;
        facts = facts_after;
        tokens = λ t below inside. by t below inside;
        strangers = out;
      } where
        step : ProcessStep
        step = receive s x m (v.process p)

        lived : u.dead p ≡ false
        lived = pops.dead p pin ∙ lives

        may : MayStand s v x p m
        may = (subst (Each (MayStand s v x p)) pops.first (carried.members.may x p xin pin apart lives)).0

        fact : Fact m
        fact = (subst (Each Fact) pops.first (carried.facts x p xin pin apart lives)).0

        name : (v.process p).name ≡ p
        name = carried.members.named p pin

        gains : (t : Token) → t.partition < s.k → Gains t (u.process p) step (one_if (is_token t x p m))
        gains t below =
            subst (λ (y : ProcessId). Gains t (u.process p) step (one_if (is_token t x y m))) name
            (subst (λ (y : Process). Gains t y step (one_if (is_token t x (v.process p).name m)))
            (sym (pops.processes p pin))
            (receive-gains s t below x m (v.process p) fact (subst (ComesTo x m) (sym name) (comes-to v x p m may))))

        popped_facts : LinkFacts s u
        popped_facts y q yin qin between_two living = cases (same-cases y x) (same-cases q p) where
          before : Each Fact (v.link y q)
          before = carried.facts y q yin qin between_two (sym (pops.dead q qin) ∙ living)

          cases : (y ≡ x) ⊎ (y ≢ x) → (q ≡ p) ⊎ (q ≢ p) → Each Fact (u.link y q)
          cases (inr other) _ = subst (Each Fact) (sym (pops.links y q yin qin (inl other))) before
          cases (inl is) (inr other) = subst (Each Fact) (sym (pops.links y q yin qin (inr other))) before
          cases (inl is) (inl here) =
              subst (λ (z : ProcessId). Each Fact (u.link z q)) (sym is) (subst (λ (z : ProcessId). Each Fact (u.link x z)) (sym here)
              ((subst (Each Fact) pops.first (carried.facts x p xin pin apart lives)).1))

        facts_after : LinkFacts s w
        facts_after = facts-acted u w p step pin lived after acts popped_facts
            (gains (record { leader = 0; number = 0; partition = 0; way = Own }) (let first = shaped.k in
            omega (arith, first))).facts

        by : (t : Token) (below : t.partition < s.k) → t.leader < s.m
            → tokens s w t ≤ one_if (nat_lt t.number (suc (w.process (ParityNode t.leader)).as_leader.last_session))
        by t below inside =
            let less = acted-gains u w p step pin lived after acts t (one_if (is_token t x p m))
            (ap (λ (y : Process). y.name) (pops.processes p pin) ∙ name) (gains t below) in
            let popped = popped-tokens s t v u x p m xin pin apart lives pops in
            let before = carried.tokens t below inside in
            let rises = last-same u w p step pin lived after acts t inside (gains t below).last in
            let same = ap (λ (y : Process). y.as_leader.last_session) (pops.processes (ParityNode t.leader) inside) in
            let more = below-more t.number (suc (v.process (ParityNode t.leader)).as_leader.last_session)
            (suc (w.process (ParityNode t.leader)).as_leader.last_session) (omega (arith, rises, same)) in
            omega (arith, less, popped, before, more)

        out : (t : Token) → t.partition < s.k → s.m ≤ t.leader → tokens s w t ≤ 0
        out t below outside =
            let less = acted-gains u w p step pin lived after acts t (one_if (is_token t x p m))
            (ap (λ (y : Process). y.name) (pops.processes p pin) ∙ name) (gains t below) in
            let popped = popped-tokens s t v u x p m xin pin apart lives pops in
            let before = carried.strangers t below outside in
            omega (arith, less, popped, before)

  died : (v w : State) (p : ProcessId) (keep : ℕ) → IsProcess s p → Carried s v → Members s w → Died s v w p keep → Carried s w
  died v w p keep pin carried after dies = record {
    members = after;
    facts = facts_after;
    tokens = few;
    strangers = λ t below outside. (let less = died-tokens s t v w p keep pin dies in
        let before = carried.strangers t below outside in omega (arith, less, before));
  } where
    facts_after : LinkFacts s w
    facts_after x q xin qin apart living = by (same-cases x p) where
      other : q ≢ p
      other same = cc (living, ap w.dead same, dies.dead)

      lived : v.dead q ≡ false
      lived = sym (dies.others q qin other) ∙ living

      by : (x ≡ p) ⊎ (x ≢ p) → Each Fact (w.link x q)
      by (inr from) = subst (Each Fact) (sym (dies.links x q xin qin from)) (carried.facts x q xin qin apart lived)
      by (inl is) = subst (λ (y : ProcessId). Each Fact (w.link y q)) (sym is) (subst (Each Fact) (sym (dies.cut q qin))
          (each-append Fact (take keep (v.link p q)) (tells.Notice p ∷ [])
          (each-take Fact keep (v.link p q) (carried.facts p q pin qin (λ same. other (sym same)) lived)) (tt, tt)))

    few : TokensHold s w
    few t below inside =
        let less = died-tokens s t v w p keep pin dies in
        let before = carried.tokens t below inside in
        let same = ap (λ (y : Process). one_if (nat_lt t.number (suc y.as_leader.last_session))) (dies.processes (ParityNode t.leader) inside) in
        omega (arith, less, before, same)

  -- the start
  opening-none : (t : Token) (p : ProcessId) → at_process t (opening_process s p) ≡ 0
  opening-none t p =
      let a : one_if (in_copy t t.way (opening_process s p)) ≡ 0 = ap one_if (copy t.way) in
      let b : one_if (in_session t (opening_process s p)) ≡ 0 = ap one_if
      (true-false (in_session t (opening_process s p))
      (λ is. cc (sym (and-split (same_process p (ParityNode t.leader)) (is_kept_in t.way t.partition None) is).1
      ∙ kept t.way))) in
      omega (arith, a, b)
    where
      copy : (w : Way) → in_copy t w (opening_process s p) ≡ false
      copy Own = refl
      copy (Row r) = true-false (in_copy t (Row r) (opening_process s p)) (λ is. cc (and-split (same_process p (ParityNode r)) false is).1)

      kept : (w : Way) → is_kept_in w t.partition None ≡ false
      kept Own = refl
      kept (Row r) = refl

  opens : (v : State) → Members s v → Opens s v → Carried s v
  opens v after starts = record {
    members = after;
    facts = λ x q xin qin apart living. subst (Each Fact) (sym (starts.links x q xin qin)) tt;
    tokens = λ t below inside. let none = nothing t in omega (arith, none);
    strangers = λ t below outside. let none = nothing t in omega (arith, none);
  } where
    link-none : (t : Token) (x q : ProcessId) → IsProcess s x → IsProcess s q → between v t q x ≡ 0
    link-none t x q xin qin = by (same_process x q) where
      by : (b : Bool) → ◌≡◌ {A = ℕ} (if b then 0 else in_link t x q (v.link x q)) 0
      by true = refl
      by false = ap (in_link t x q) (starts.links x q xin qin)

    around-none : (t : Token) (q : ProcessId) → IsProcess s q → around s v t q ≡ 0
    around-none t q qin =
        let links = sum-zero (everyone s) (between v t q) (λ x there. link-none t x q (everyone-inside s x there) qin) in
        let here = ap (at_process t) (starts.process q qin) ∙ opening-none t q in
        ap (λ (b : Bool). if b then 0 else at_process t (v.process q) + sum_of (everyone s) (between v t q)) (starts.living q qin) ∙ omega (arith, links, here)

    nothing : (t : Token) → tokens s v t ≡ 0
    nothing t = sum-zero (everyone s) (around s v t) (λ q there. around-none t q (everyone-inside s q there))

  pub keeps : IsShape s → Keeps s (Carried s)
  keeps shaped = record {
    opens = λ v starts. opens v (kept.opens v starts) starts;
    treats = λ v w p t pin up lives treats carried acts. treated v w p t shaped pin lives treats carried
        (kept.treats v w p t pin up lives treats carried.members acts) acts;
    receives = λ v u w x p m xin pin apart up lives carried pops acts.
        received v u w x p m shaped xin pin apart lives carried (kept.receives v u w x p m xin pin apart up lives carried.members pops acts) pops acts;
    dies = λ v w p keep pin carried dies. died v w p keep pin carried (kept.dies v w p keep pin carried.members dies) dies;
  } where
    kept : Keeps s (Members s)
    kept = members.keeps s shaped

pub tokens_always : TokensAlways
tokens_always s es run = (holds_always s (Carried s) (keeps s run.0) es run).tokens
