-- Every move keeps each session at one block and one stamp.
use Rattle.std.proofs.Common.{◌≡◌, ◌≢◌, ℕ, suc, ◌<◌, ◌≤◌, ◌==◌, nat_lt, Bool, true, false, List, [], ◌∷◌, length, take}
use Rattle.std.proofs.Common.{Option, Some, None, IfSome, ◌⊎◌, inl, inr, sym, ap, subst, ◌∙◌, refl, arith}
use Rattle.std.proofs.Common.{if◌then◌else◌}
use Rattle.std.specs.Prelude.{Contains}
use Rattle.std.specs.List.{range_with_len}
use Rattle.std.proofs.lemmas.Bool.{cases_eq, eq-eqb, ne_eqb}
use Rattle.std.proofs.lemmas.Grind.{common_steps}
use Rattle.group_types.specs.Dimensions.{Dimensions}
use Rattle.group_types.specs.Names.{IsProcess, same_process}
use Rattle.group_types.specs.Shape.{IsShape}
use Rattle.group_types.specs.declared.process.ProcessId.{ProcessId}
use Rattle.group_types.specs.declared.process.ProcessId.TheVariants.{DataNode, ParityNode}
use Rattle.group_types.proofs.Names.{same-cases, same-refl}
use Rattle.group_types.specs.Each.{Each}
use Rattle.group_types.proofs.Eaches.{each-append, each-take, each-weaker}
use Rattle.group_message.specs.declared.message.Message.{Message}
use Rattle.group_message.specs.declared.message.Message.TheVariants as tells
use Rattle.group_message.specs.declared.message.Session.{Session}
use Rattle.group_message.specs.declared.update.Update.{Update}
use Rattle.group_run.specs.Applying.{ProcessStep, replica_of}
use Rattle.group_run.specs.Leaders.{open_session}
use Rattle.group_run.specs.Process.{Gathering, Process}
use Rattle.group_run.specs.Receiving.{receive}
use Rattle.group_run.specs.World.{sent_to}
use Rattle.law_moves.proofs.Moves.{Acted, Died, Popped, Treats}
use Rattle.law_moves.specs.State.{State}
use Rattle.law_moves.proofs.State.{Opens}
use Rattle.law_moves.proofs.Members.{IsData, MayStand, Members}
use Rattle.law_moves.proofs.Keeping.{known-is-dead}
use Rattle.law_moves.proofs.Standing.{each-sent_to}
use Rattle.law_bytes.specs.Held.{Holds}
use Rattle.law_bytes.proofs.Premises.{MarksNew, NextIsNew}
use Rattle.law_bytes.proofs.Applying.{holding-from, rebuilt_at}
use Rattle.law_bytes.proofs.Copies.{same-functions}
use Rattle.law_bytes.proofs.Finding.{and-join}
use Rattle.law_bytes.proofs.Rising.{among-filter, contains-among}
use Rattle.erasure_code.proofs.Nodes.{Among}
use Rattle.membership.specs.Members.{knows_dead}
use Rattle.law_bytes.proofs.LeadingWords.{IsFor, lost_by}
use Rattle.law_bytes.proofs.BytesKeeping.{Prolongs, before-holds, prolongs}
use Rattle.law_bytes.proofs.Tokens.{Way, is_token, one_if, tokens}
use Rattle.law_bytes.proofs.Groups.{popped-tokens}
use Rattle.law_bytes.proofs.TokensKeeping.{unknown}
use Rattle.law_bytes.proofs.Local.{bit-high}
use Rattle.law_bytes.proofs.Kept.{Backed, IsLed, NeedsInside, StampsAlwaysKept, StepSettles}
use Rattle.law_bytes.proofs.Stamps.{Follows, GatheringFollows, LostFollows, OfSession, Plan, ProcessFollows, SessionFollows}
use Rattle.law_bytes.proofs.Following.{Passes, Sends}
use Rattle.law_bytes.proofs.Receiving.{ReadsAt, receive-passes}
use Rattle.law_bytes.proofs.Opening.{opening_plan}
use Rattle.law_bytes.proofs.Calls.{Claims, treats-claims}
use Rattle.law_bytes.proofs.Bearing.{Bears, BearsNew, bears-receive, bears-treats, lost-borne, lost-new}
use Rattle.law_bytes.proofs.Growing.{grown}
use Rattle.law_bytes.proofs.Nothing.{LinksMay, named-so, renumbered, token, unopened-any}

module _ (s : Dimensions) where
  -- the state with other settled updates
  abbrev settling : (ℕ → List Update) → State → State
  settling settled v = record v { settled = settled }

  -- one process made a step
  module _ (l n : ℕ) (plan : Plan) where
    acted-follows : (u w : State) (p : ProcessId) (step : ProcessStep) → IsProcess s p → u.dead p ≡ false → Members s w
        → Acted s u w p step → SessionFollows s (settling w.settled u) l n plan
        → ProcessFollows s w.settled l n plan step.process → Sends s w.settled l n plan p step.sent
        → LostFollows l n plan step.process → SessionFollows s w l n plan
    acted-follows u w p step pin lives after acts is here sends lost_here =
        record { within = is.within; links = links; processes = processes; lost = lost } where
          links : (x q : ProcessId) → IsProcess s x → IsProcess s q → x ≢ q → w.dead q ≡ false → Each (Follows s w.settled l n plan x q) (w.link x q)
          links x q xin qin apart living = by (same-cases x p) where
            lived : u.dead q ≡ false
            lived = sym (acts.dead q qin) ∙ living

            by : (x ≡ p) ⊎ (x ≢ p) → Each (Follows s w.settled l n plan x q) (w.link x q)
            by (inr other) = subst (Each (Follows s w.settled l n plan x q)) (sym (acts.links x q xin qin other)) (is.links x q xin qin apart lived)
            by (inl same) =
                let other : q ≢ p = λ (here : q ≡ p). apart (same ∙ sym here) in
                subst (λ (y : ProcessId). Each (Follows s w.settled l n plan y q) (w.link y q)) (sym same)
                (subst (Each (Follows s w.settled l n plan p q)) (sym (acts.sends q qin (unknown s u w p step pin lives after acts q qin other lived)))
                (each-append (Follows s w.settled l n plan p q) (u.link p q) (sent_to q step.sent)
                (is.links p q pin qin (λ here. other (sym here)) lived)
                (each-sent_to (λ to m. Follows s w.settled l n plan p to m) q step.sent sends)))

          processes : (q : ProcessId) → IsProcess s q → w.dead q ≡ false → ProcessFollows s w.settled l n plan (w.process q)
          processes q qin living = by (same-cases q p) where
            by : (q ≡ p) ⊎ (q ≢ p) → ProcessFollows s w.settled l n plan (w.process q)
            by (inl same) = subst (λ (y : ProcessId). ProcessFollows s w.settled l n plan (w.process y)) (sym same)
                (subst (ProcessFollows s w.settled l n plan) (sym acts.process) here)
            by (inr other) = subst (ProcessFollows s w.settled l n plan) (sym (acts.others q qin other)) (is.processes q qin (sym (acts.dead q qin) ∙ living))

          lost : (q : ProcessId) → IsProcess s q → w.dead q ≡ false → LostFollows l n plan (w.process q)
          lost q qin living = by (same-cases q p) where
            by : (q ≡ p) ⊎ (q ≢ p) → LostFollows l n plan (w.process q)
            by (inl same) = subst (λ (y : ProcessId). LostFollows l n plan (w.process y)) (sym same) (subst (LostFollows l n plan) (sym acts.process) lost_here)
            by (inr other) = subst (LostFollows l n plan) (sym (acts.others q qin other)) (is.lost q qin (sym (acts.dead q qin) ∙ living))

    -- a message is taken out of its link
    popped-follows : (v u : State) (x p : ProcessId) (m : Message) (settled : ℕ → List Update) → IsProcess s x
        → IsProcess s p → x ≢ p → v.dead p ≡ false → Popped s v u x p m
        → SessionFollows s (settling settled v) l n plan → SessionFollows s (settling settled u) l n plan
    popped-follows v u x p m settled xin pin apart lives pops is = record {
      within = is.within;
      links = links;
      processes = λ q qin living. subst (ProcessFollows s settled l n plan) (sym (pops.processes q qin)) (is.processes q qin (sym (pops.dead q qin) ∙ living));
      lost = λ q qin living. subst (LostFollows l n plan) (sym (pops.processes q qin)) (is.lost q qin (sym (pops.dead q qin) ∙ living));
    } where
      links : (y q : ProcessId) → IsProcess s y → IsProcess s q → y ≢ q → u.dead q ≡ false → Each (Follows s settled l n plan y q) (u.link y q)
      links y q yin qin between living = cases (same-cases y x) (same-cases q p) where
        old : Each (Follows s settled l n plan y q) (v.link y q)
        old = is.links y q yin qin between (sym (pops.dead q qin) ∙ living)

        cases : (y ≡ x) ⊎ (y ≢ x) → (q ≡ p) ⊎ (q ≢ p) → Each (Follows s settled l n plan y q) (u.link y q)
        cases (inr other) _ = subst (Each (Follows s settled l n plan y q)) (sym (pops.links y q yin qin (inl other))) old
        cases (inl same) (inr other) = subst (Each (Follows s settled l n plan y q)) (sym (pops.links y q yin qin (inr other))) old
        cases (inl same) (inl here) =
            subst (λ (z : ProcessId). Each (Follows s settled l n plan z q) (u.link z q)) (sym same)
            (subst (λ (z : ProcessId). Each (Follows s settled l n plan x z) (u.link x z)) (sym here)
            ((subst (Each (Follows s settled l n plan x p)) pops.first (is.links x p xin pin apart lives)).1))

  -- what may stand in a link still may once a message is taken out
  popped-may : (v u : State) (x p : ProcessId) (m : Message) → IsProcess s x → IsProcess s p → x ≢ p → v.dead p ≡ false
      → Popped s v u x p m → Members s v → LinksMay s v u
  popped-may v u x p m xin pin apart lives pops members y q yin qin between living = cases (same-cases y x) (same-cases q p) where
    old : Each (MayStand s v y q) (v.link y q)
    old = members.may y q yin qin between (sym (pops.dead q qin) ∙ living)

    cases : (y ≡ x) ⊎ (y ≢ x) → (q ≡ p) ⊎ (q ≢ p) → Each (MayStand s v y q) (u.link y q)
    cases (inr other) _ = subst (Each (MayStand s v y q)) (sym (pops.links y q yin qin (inl other))) old
    cases (inl same) (inr other) = subst (Each (MayStand s v y q)) (sym (pops.links y q yin qin (inr other))) old
    cases (inl same) (inl here) =
        subst (λ (z : ProcessId). Each (MayStand s v z q) (u.link z q)) (sym same) (subst (λ (z : ProcessId). Each (MayStand s v x z) (u.link x z)) (sym here)
        ((subst (Each (MayStand s v x p)) pops.first (members.may x p xin pin apart lives)).1))

  -- a call
  module _ (shaped : IsShape s) (v w : State) (p : ProcessId) (step : ProcessStep) (pin : IsProcess s p)
      (lives : v.dead p ≡ false) (treats : Treats s (v.process p) step) (backed : Backed s v) (after : Members s w)
      (next : NextIsNew s (v.process p)) (needs : NeedsInside s (v.process p))
      (right : StepSettles s w.settled (v.process p) step) (acts : Acted s v w p step) where
    some : 0 < s.k
    some = let first = shaped.k in omega (arith, first)

    grows : Prolongs s v.settled w.settled
    grows = prolongs s v v w p step pin backed.members (λ q qin. refl) (λ q qin. refl) (λ d. refl) acts

    here : Holds s w.settled (v.process p)
    here = before-holds s v v w p step pin backed.members (λ q qin. refl) (λ q qin. refl) (λ d. refl) acts lives backed.bytes

    name : (v.process p).name ≡ p
    name = backed.members.named p pin

    passed : (l n : ℕ) (plan : Plan) → SessionFollows s (settling w.settled v) l n plan → Passes s w.settled l n plan (v.process p) step
        → LostFollows l n plan step.process → SessionFollows s w l n plan
    passed l n plan is passes lost =
        let all = passes.follows (is.processes p pin lives) in
        acted-follows l n plan v w p step pin lives after acts is all.0 (subst (λ (x : ProcessId). Sends s w.settled l n plan x step.sent) name all.1) lost

    module _ (l n : ℕ) (lin : l < s.m) (plan : Plan) (is : SessionFollows s v l n plan) where
      now : SessionFollows s (settling w.settled v) l n plan
      now = grown s v w.settled l n plan grows is

      claims : (other : Plan) → Claims s w.settled l n right.write (rebuilt_at (v.process p)) other (v.process p) step
      claims other = treats-claims s w.settled l n right.write (rebuilt_at (v.process p)) other (v.process p) p
          (record { name = name; some = some; sits = λ d below. backed.members.sits p d pin lives below }) pin
          (backed.members.not_self p pin lives) right.applies.log next (holding-from s w.settled (v.process p) here) needs step treats

      unopened-here : (v.process p).name ≡ ParityNode l → suc (v.process p).as_leader.last_session ≡ n → open_session (v.process p).as_leader n ≡ None
      unopened-here leads number = by (open_session (v.process p).as_leader n) ((now.processes p pin lives).session leads) where
        by : (o : Option Gathering) → IfSome o (λ g. (n ≤ (v.process p).as_leader.last_session) × GatheringFollows s w.settled plan g) → o ≡ None
        by None follows = refl
        by (Some g) follows = let low = follows.0 in absurd (omega (arith, low, number))

      -- the session isn't opened by this call
      module _ (never : (v.process p).name ≡ ParityNode l → suc (v.process p).as_leader.last_session ≡ n → ⊥) where
        lost-stays : step.process.name ≡ (v.process p).name → LostFollows l n plan step.process
        lost-stays same leads = turn (bears-treats s n (v.process p) (unopened-here (sym same ∙ leads)) step treats) leads where
          turn : Bears s n (v.process p) step.process
              ⊎ ((suc (v.process p).as_leader.last_session ≡ n) × BearsNew s n (v.process p) step.process)
              → LostFollows l n plan step.process
          turn (inl bears) = lost-borne s l n plan (v.process p) step.process same bears (now.lost p pin lives)
          turn (inr new) = absurd (never (sym same ∙ leads) new.0)

        goes-on : Claims s w.settled l n right.write (rebuilt_at (v.process p)) plan (v.process p) step → (plan : Plan) × SessionFollows s w l n plan
        goes-on (inl passes) = (plan, passed l n plan now passes (lost-stays passes.name))
        goes-on (inr opens) = absurd (never opens.leads opens.number)

      -- the session may be opened by it
      module _ (leads : (v.process p).name ≡ ParityNode l) (number : suc (v.process p).as_leader.last_session ≡ n) where
        last : (v.process p).as_leader.last_session ≡ (v.process (ParityNode l)).as_leader.last_session
        last = ap (λ (x : ProcessId). (v.process x).as_leader.last_session) (sym name ∙ leads)

        unopened : (v.process (ParityNode l)).as_leader.last_session < n
        unopened = omega (arith, number, last)

        not-below : (a b : ℕ) → b ≤ a → nat_lt a b ≡ false
        not-below a b less = grind (arith, common_steps)

        nothing : (d : ℕ) → d < s.k → (way : Way) → tokens s v (token l n d way) ≤ 0
        nothing d below way =
            let few = backed.tokens (token l n d way) below lin in
            let none : one_if (nat_lt n (suc (v.process (ParityNode l)).as_leader.last_session)) ≡ 0 = ap one_if
            (not-below n (suc (v.process (ParityNode l)).as_leader.last_session) (omega (arith, unopened))) in
            omega (arith, few, none)

        pub fresh : (block : ℕ) → SessionFollows s (settling w.settled v) l n (opening_plan s block (v.process p))
        fresh block =
            unopened-any s v (settling w.settled v) l n lin some plan
            (opening_plan s block (v.process p)) backed.members.named backed.members.may nothing unopened now (λ d below. here.within d below)

        lost-begins : (block : ℕ) → step.process.name ≡ (v.process p).name → LostFollows l n (opening_plan s block (v.process p)) step.process
        lost-begins block same = turn (bears-treats s n (v.process p) (unopened-here leads) step treats) where
          turn : Bears s n (v.process p) step.process ⊎ ((suc (v.process p).as_leader.last_session ≡ n) × BearsNew s n (v.process p) step.process)
              → LostFollows l n (opening_plan s block (v.process p)) step.process
          turn (inl bears) = lost-borne s l n (opening_plan s block (v.process p)) (v.process p) step.process same bears ((fresh block).lost p pin lives)
          turn (inr new) = lost-new s l n (opening_plan s block (v.process p)) (v.process p) step.process (λ e. refl) new.1

        begins : Claims s w.settled l n right.write (rebuilt_at (v.process p)) (opening_plan s 0 (v.process p))
            (v.process p) step → (plan : Plan) × SessionFollows s w l n plan
        begins (inl passes) = (opening_plan s 0 (v.process p), passed l n (opening_plan s 0 (v.process p)) (fresh 0) passes (lost-begins 0 passes.name))
        begins (inr opens) = (
          opening_plan s opens.block (v.process p),
          passed l n (opening_plan s opens.block (v.process p))
              (fresh opens.block) opens.passes (lost-begins opens.block opens.passes.name),
        )

      treated : (plan : Plan) × SessionFollows s w l n plan
      treated = by (same-cases (v.process p).name (ParityNode l)) (cases_eq (suc (v.process p).as_leader.last_session) n) where
        by : ((v.process p).name ≡ ParityNode l) ⊎ ((v.process p).name ≢ ParityNode l)
            → (suc (v.process p).as_leader.last_session ≡ n) ⊎ (suc (v.process p).as_leader.last_session ≢ n) → (plan : Plan) × SessionFollows s w l n plan
        by (inl leads) (inl number) = begins leads number (claims (opening_plan s 0 (v.process p)))
        by (inl leads) (inr other) = goes-on (λ leads number. other number) (claims plan)
        by (inr other) _ = goes-on (λ leads number. other leads) (claims plan)

  -- a message
  module _ (v u w : State) (x p : ProcessId) (m : Message) (xin : IsProcess s x) (pin : IsProcess s p) (apart : x ≢ p)
      (lives : v.dead p ≡ false) (backed : Backed s v) (after : Members s w) (new : MarksNew m (v.process p))
      (right : StepSettles s w.settled (v.process p) (receive s x m (v.process p))) (pops : Popped s v u x p m)
      (acts : Acted s u w p (receive s x m (v.process p))) where
    grows-coming : Prolongs s v.settled w.settled
    grows-coming = prolongs s v u w p (receive s x m (v.process p)) pin backed.members pops.processes pops.dead pops.settled acts

    here-coming : Holds s w.settled (v.process p)
    here-coming = before-holds s v u w p (receive s x m (v.process p)) pin backed.members pops.processes pops.dead pops.settled acts lives backed.bytes

    name-coming : (v.process p).name ≡ p
    name-coming = backed.members.named p pin

    may : MayStand s v x p m
    may = (subst (Each (MayStand s v x p)) pops.first (backed.members.may x p xin pin apart lives)).0

    led : IsLed m
    led = (subst (Each IsLed) pops.first (backed.led x p xin pin apart lives)).0

    passed-coming : (l n : ℕ) (plan : Plan) → SessionFollows s (settling w.settled u) l n plan → Follows s w.settled l n plan x p m
        → ReadsAt s w.settled l n plan m (v.process p) → SessionFollows s w l n plan
    passed-coming l n plan is follows reads =
        let passes : Passes s w.settled l n plan (v.process p) (receive s x m (v.process p)) = receive-passes s w.settled l n plan right.write
        (rebuilt_at (v.process p)) v x p m (v.process p) name-coming xin may led reads follows
        (holding-from s w.settled (v.process p) here-coming) new right.applies in
        let all = passes.follows (subst (ProcessFollows s w.settled l n plan) (pops.processes p pin) (is.processes p pin (pops.dead p pin ∙ lives))) in
        acted-follows l n plan u w p (receive s x m (v.process p)) pin (pops.dead p pin ∙ lives) after acts is all.0
        (subst (λ (y : ProcessId). Sends s w.settled l n plan y (receive s x m (v.process p)).sent) name-coming all.1)
        (lost-borne s l n plan (v.process p) (receive s x m (v.process p)).process passes.name
        (bears-receive s n x m (v.process p))
        (subst (LostFollows l n plan) (pops.processes p pin) (is.lost p pin (pops.dead p pin ∙ lives))))

    module _ (l n : ℕ) (lin : l < s.m) (plan : Plan) (is : SessionFollows s v l n plan) where
      coming : SessionFollows s (settling w.settled v) l n plan
      coming = grown s v w.settled l n plan grows-coming is

      popped : SessionFollows s (settling w.settled u) l n plan
      popped = popped-follows l n plan v u x p m w.settled xin pin apart lives pops coming

      follows : Follows s w.settled l n plan x p m
      follows = (subst (Each (Follows s w.settled l n plan x p)) pops.first (coming.links x p xin pin apart lives)).0

      -- where no question of the session is answered, the plan stays
      stays : ReadsAt s w.settled l n plan m (v.process p) → (plan : Plan) × SessionFollows s w l n plan
      stays reads = (plan, passed-coming l n plan popped follows reads)

      -- nobody who lives knows the process to be dead
      known-living : (q : ProcessId) → IsProcess s q → v.dead q ≡ false → knows_dead (v.process q).known p ≡ true → ⊥
      known-living q qin lived knows = by (same-cases q p) where
        by : (q ≡ p) ⊎ (q ≢ p) → ⊥
        by (inl same) = cc (sym knows ∙ ap (knows_dead (v.process q).known) (sym same) ∙ backed.members.not_self q qin lived)
        by (inr other) =
            cc (
              lives,
              known-is-dead p (v.dead p) (knows_dead (v.process q).known p) (v.link p q)
                  (backed.members.stands p q pin qin (λ same. other (sym same)) lived) knows,
            )

      -- where one is, the partition takes the number at which it is
      module _ (session : Session) (block : ℕ) (rows : List ℕ) (asks : m ≡ tells.ReadBlock session block rows)
          (of_it : OfSession l n session) (d : ℕ) (data_here : p ≡ DataNode d) where
        turned : Bool → ℕ → ℕ
        turned b e = if b then (replica_of (v.process p) e).applied else plan.numbers e

        other : Plan
        other = record { block = plan.block; rows = plan.rows; numbers = λ e. turned (e == d) e }

        off : (e : ℕ) → e ≢ d → turned (e == d) e ≡ plan.numbers e
        unfolding turned
        off e away = ap (λ (b : Bool). turned b e) (ne_eqb e d away)

        on : (e : ℕ) → e ≡ d → turned (e == d) e ≡ (replica_of (v.process p) e).applied
        unfolding turned
        on e same = ap (λ (b : Bool). turned b e) (eq-eqb e d same)

        within : (e : ℕ) → e < s.k → turned (e == d) e ≤ length (w.settled e)
        within e below = by (cases_eq e d) where
          by : (e ≡ d) ⊎ (e ≢ d) → turned (e == d) e ≤ length (w.settled e)
          by (inl same) = subst (λ (k : ℕ). k ≤ length (w.settled e)) (sym (on e same)) (here-coming.within e below)
          by (inr away) = subst (λ (k : ℕ). k ≤ length (w.settled e)) (sym (off e away)) (popped.within e below)

        below_d : d < s.k
        below_d = subst (IsProcess s) data_here pin

        nothing-more : (way : Way) → tokens s u (token l n d way) ≤ 0
        nothing-more way =
            let less = popped-tokens s (token l n d way) v u x p m xin pin apart lives pops in
            let few = backed.tokens (token l n d way) below_d lin in
            let high = bit-high (nat_lt n (suc (v.process (ParityNode l)).as_leader.last_session)) in
            let is_it : is_token (token l n d way) x p m ≡ true = ap (is_token (token l n d way) x p) asks
            ∙ and-join _ _ (named-so s l n d way session of_it) (ap (λ (y : ProcessId). same_process y (DataNode d)) data_here ∙ same-refl (DataNode d)) in
            let one : one_if (is_token (token l n d way) x p m) ≡ 1 = ap one_if is_it in
            omega (arith, less, few, high, one)

        -- no open session is for a partition whose data process lives
        not-lost : (q : ProcessId) → IsProcess s q → u.dead q ≡ false → Each (λ g. ¬ (Contains g.lost d)) (u.process q).as_leader.sessions
        not-lost q qin living = subst (λ (y : Process). Each (λ g. ¬ (Contains g.lost d)) y.as_leader.sessions) (sym (pops.processes q qin))
            (each-weaker (IsFor s (v.process q).known) (λ g. ¬ (Contains g.lost d)) (λ g for_it lost.
            let among : Among d (lost_by s (v.process q).known) = subst (Among d) for_it.lost (contains-among g.lost d lost) in
            known-living q qin lived (subst (λ (y : ProcessId). knows_dead (v.process q).known y ≡ true) (sym data_here)
            (among-filter (λ e. knows_dead (v.process q).known (DataNode e)) d (range_with_len 0 s.k) among).1))
            (v.process q).as_leader.sessions (backed.fits q qin lived))
          where
            lived : v.dead q ≡ false
            lived = sym (pops.dead q qin) ∙ living

        moved : SessionFollows s (settling w.settled u) l n other
        unfolding other
        moved = renumbered s v (settling w.settled u) l n d plan other refl refl off within
            (popped-may v u x p m xin pin apart lives pops backed.members) nothing-more not-lost popped

        follows_other : Follows s w.settled l n other x p m
        unfolding other
        follows_other = subst (Follows s w.settled l n other x p) (sym asks) (subst (Follows s w.settled l n plan x p) asks follows)

        reads : ReadsAt s w.settled l n other m (v.process p)
        unfolding other
        reads = subst (λ (z : Message). ReadsAt s w.settled l n other z (v.process p)) (sym asks) (λ again e named. on e (same e named)) where
          same : (e : ℕ) → (v.process p).name ≡ DataNode e → e ≡ d
          same e named = let names : DataNode e ≡ DataNode d = sym named ∙ name-coming ∙ data_here in cc names

        answers : (plan : Plan) × SessionFollows s w l n plan
        answers = (other, passed-coming l n other moved follows_other reads)

      data-of : (q : ProcessId) → IsData q → (d : ℕ) × (q ≡ DataNode d)
      data-of (DataNode d) is_data = (d, refl)
      data-of (ParityNode i) is_data = elim is_data [ ]

      asked : (session : Session) (block : ℕ) (rows : List ℕ) → m ≡ tells.ReadBlock session block rows → (plan : Plan) × SessionFollows s w l n plan
      asked session block rows asks = by (same-cases session.leader (ParityNode l)) (cases_eq session.number n) where
        data_p : (d : ℕ) × (p ≡ DataNode d)
        data_p = data-of p (subst (MayStand s v x p) asks may).2

        none : (OfSession l n session → ⊥) → (plan : Plan) × SessionFollows s w l n plan
        none never = stays (subst (λ (z : Message). ReadsAt s w.settled l n plan z (v.process p)) (sym asks) (λ of_it. absurd (never of_it)))

        by : (session.leader ≡ ParityNode l) ⊎ (session.leader ≢ ParityNode l) → (session.number ≡ n)
            ⊎ (session.number ≢ n) → (plan : Plan) × SessionFollows s w l n plan
        by (inl leads) (inl number) = answers session block rows asks (leads, number) data_p.0 data_p.1
        by (inl leads) (inr away) = none (λ of_it. away of_it.1)
        by (inr away) _ = none (λ of_it. away of_it.0)

      received : (plan : Plan) × SessionFollows s w l n plan
      received = by m refl where
        quiet : (z : Message) → m ≡ z → ReadsAt s w.settled l n plan z (v.process p) → (plan : Plan) × SessionFollows s w l n plan
        quiet z is_it reads_so = stays (subst (λ (y : Message). ReadsAt s w.settled l n plan y (v.process p)) (sym is_it) reads_so)

        by : (z : Message) → m ≡ z → (plan : Plan) × SessionFollows s w l n plan
        by (tells.ReadBlock session block rows) is_it = asked session block rows is_it
        by (tells.Update r d y stable) is_it = quiet (tells.Update r d y stable) is_it tt
        by (tells.Ack r d k) is_it = quiet (tells.Ack r d k) is_it tt
        by (tells.Stable r d k) is_it = quiet (tells.Stable r d k) is_it tt
        by (tells.Adopt r d base list) is_it = quiet (tells.Adopt r d base list) is_it tt
        by (tells.Block session bytes k) is_it = quiet (tells.Block session bytes k) is_it tt
        by (tells.Mark session r block d k) is_it = quiet (tells.Mark session r block d k) is_it tt
        by (tells.Row session bytes stamp) is_it = quiet (tells.Row session bytes stamp) is_it tt
        by (tells.Cease upto) is_it = quiet (tells.Cease upto) is_it tt
        by (tells.Notice dead) is_it = quiet (tells.Notice dead) is_it tt

  -- a death
  died : (v w : State) (p : ProcessId) (keep l n : ℕ) (plan : Plan) → IsProcess s p → Died s v w p keep
      → SessionFollows s v l n plan → SessionFollows s w l n plan
  died v w p keep l n plan pin dies is = record {
    within = λ d below. subst (λ (us : List Update). plan.numbers d ≤ length us) (sym (dies.settled d)) (is.within d below);
    links = links;
    processes = λ q qin living.
        subst (λ (settled : ℕ → List Update). ProcessFollows s settled l n plan (w.process q)) (sym same)
        (subst (ProcessFollows s v.settled l n plan) (sym (dies.processes q qin)) (is.processes q qin (lived q qin living)));
    lost = λ q qin living. subst (LostFollows l n plan) (sym (dies.processes q qin)) (is.lost q qin (lived q qin living));
  } where
    same : w.settled ≡ v.settled
    same = same-functions w.settled v.settled dies.settled

    other : (q : ProcessId) → w.dead q ≡ false → q ≢ p
    other q living here = cc (living, ap w.dead here, dies.dead)

    lived : (q : ProcessId) → IsProcess s q → w.dead q ≡ false → v.dead q ≡ false
    lived q qin living = sym (dies.others q qin (other q living)) ∙ living

    links : (x q : ProcessId) → IsProcess s x → IsProcess s q → x ≢ q → w.dead q ≡ false → Each (Follows s w.settled l n plan x q) (w.link x q)
    links x q xin qin apart living =
        subst (λ (settled : ℕ → List Update). Each (Follows s settled l n plan x q) (w.link x q)) (sym same)
        (by (same-cases x p)) where
          by : (x ≡ p) ⊎ (x ≢ p) → Each (Follows s v.settled l n plan x q) (w.link x q)
          by (inr from) = subst (Each (Follows s v.settled l n plan x q)) (sym (dies.links x q xin qin from)) (is.links x q xin qin apart (lived q qin living))
          by (inl same_one) = subst (λ (y : ProcessId). Each (Follows s v.settled l n plan y q) (w.link y q)) (sym same_one)
              (subst (Each (Follows s v.settled l n plan p q)) (sym (dies.cut q qin))
              (each-append (Follows s v.settled l n plan p q) (take keep (v.link p q)) (tells.Notice p ∷ [])
              (each-take (Follows s v.settled l n plan p q) keep (v.link p q)
              (is.links p q pin qin (λ same_one. other q living (sym same_one)) (lived q qin living))) (tt, tt)))

  -- the start
  empty_plan : Plan
  empty_plan = record { block = 0; rows = []; numbers = λ d. 0 }

  opens : (v : State) (l n : ℕ) → Opens s v → SessionFollows s v l n empty_plan
  unfolding empty_plan
  opens v l n starts = record {
    within = λ d below. omega arith;
    links = λ x q xin qin apart living. subst (Each (Follows s v.settled l n empty_plan x q)) (sym (starts.links x q xin qin)) tt;
    processes = λ p pin living. subst (ProcessFollows s v.settled l n empty_plan) (sym (starts.process p pin))
        (record { copy = λ r named. tt; session = λ named. tt });
    lost = λ p pin living. subst (LostFollows l n empty_plan) (sym (starts.process p pin)) (λ named. tt);
  }

pub stamps_kept : StampsAlwaysKept
stamps_kept s shaped = record {
  opens = λ v starts l n lin. (empty_plan s, opens s v l n starts);
  treats = λ v w p t pin lives treats backed after next needs right acts stands l n lin. let one = stands l n lin in
      treated s shaped v w p t pin lives treats backed after next needs right acts l n lin one.0 one.1;
  receives = λ v u w x p m xin pin apart lives backed after new right pops acts stands l n lin. let one = stands l n lin
      in received s v u w x p m xin pin apart lives backed after new right pops acts l n lin one.0 one.1;
  dies = λ v w p keep pin dies stands l n lin. let one = stands l n lin in (one.0, died s v w p keep l n one.0 pin dies one.1);
}
