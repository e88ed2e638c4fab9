-- The first message of each link into a living process is for it.
use Rattle.std.proofs.Common.{◌≡◌, ◌≢◌, false, List, ◌∷◌, subst}
use Rattle.group_types.specs.Dimensions.{Dimensions}
use Rattle.group_types.specs.Names.{IsProcess}
use Rattle.group_types.specs.declared.process.ProcessId.{ProcessId}
use Rattle.group_types.specs.declared.process.ProcessId.TheVariants.{DataNode, ParityNode}
use Rattle.group_types.specs.Each.{Each}
use Rattle.group_message.specs.declared.message.Message.{Message}
use Rattle.group_message.specs.declared.message.Message.TheVariants as tells
use Rattle.group_run.specs.History.{history_of, no_history}
use Rattle.law_moves.specs.State.{State, state_of}
use Rattle.law_moves.proofs.Runs.{world-from}
use Rattle.law_moves.proofs.Members.{MayStand, Members}
use Rattle.law_moves.proofs.Keeping.{members_always}
use Rattle.law_answers.specs.Deliveries.{FirstsAreFor, IsFor, KindsAlways}

module _ (s : Dimensions) (v : State) where
  kind : (x q : ProcessId) (m : Message) → MayStand s v x q m → IsFor q m
  kind x (DataNode e) (tells.Ack r d n) may = tt
  kind x (DataNode e) (tells.ReadBlock session block rows) may = tt
  kind x (DataNode e) (tells.Notice dead) may = tt
  kind x (DataNode e) (tells.Update r d u stable) may = absurd may.1
  kind x (DataNode e) (tells.Stable r d n) may = absurd may.1
  kind x (DataNode e) (tells.Adopt r d base list) may = absurd may.2
  kind x (DataNode e) (tells.Mark session r block d n) may = absurd may.2
  kind x (DataNode e) (tells.Block session bytes n) may = absurd may.2
  kind x (DataNode e) (tells.Row session bytes stamp) may = absurd may.2
  kind x (DataNode e) (tells.Cease upto) may = absurd may
  kind x (ParityNode i) (tells.ReadBlock session block rows) may = absurd may.2
  kind x (ParityNode i) (tells.Block session bytes n) may = may.0
  kind x (ParityNode i) (tells.Row session bytes stamp) may = may.0
  kind x (ParityNode i) (tells.Ack r d n) may = tt
  kind x (ParityNode i) (tells.Notice dead) may = tt
  kind x (ParityNode i) (tells.Update r d u stable) may = tt
  kind x (ParityNode i) (tells.Stable r d n) may = tt
  kind x (ParityNode i) (tells.Adopt r d base list) may = tt
  kind x (ParityNode i) (tells.Mark session r block d n) may = tt
  kind x (ParityNode i) (tells.Cease upto) may = tt

  firsts : Members s v → (x p : ProcessId) (m : Message) (rest : List Message) → IsProcess s x → IsProcess s p → x ≢ p
      → v.dead p ≡ false → v.link x p ≡ m ∷ rest
      → IsFor p m
  firsts members x p m rest xin pin apart lives first = kind x p m (subst (Each (MayStand s v x p)) first (members.may x p xin pin apart lives)).0

pub kinds_always : KindsAlways
kinds_always s es run = subst (FirstsAreFor s) (world-from (no_history s) es)
    (λ from to m rest fin tin apart lives first. there from to m rest fin tin apart lives.1 first) where
      there : (x p : ProcessId) (m : Message) (rest : List Message) → IsProcess s x → IsProcess s p → x ≢ p → (state_of (history_of s es)).dead p ≡ false
          → (state_of (history_of s es)).link x p ≡ m ∷ rest → IsFor p m
      there = firsts s (state_of (history_of s es)) (members_always s es run)
