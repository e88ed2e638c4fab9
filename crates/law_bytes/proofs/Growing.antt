-- What is settled behind changes nothing of what follows a plan.
use Rattle.std.proofs.Common.{◌≡◌, ℕ, ◌*◌, ◌<◌, ◌≤◌, List, length, take, sym, ap, subst, ◌∙◌, arith}
use Rattle.std.proofs.lemmas.List.{length-append, take-append-le}
use Rattle.group_types.specs.Dimensions.{Dimensions}
use Rattle.group_types.specs.Names.{IsProcess}
use Rattle.group_types.specs.declared.process.ProcessId.{ProcessId}
use Rattle.group_types.specs.declared.process.ProcessId.TheVariants.{DataNode, ParityNode}
use Rattle.group_types.proofs.Eaches.{each-weaker}
use Rattle.group_message.specs.declared.message.Message.{Message}
use Rattle.group_message.specs.declared.message.Message.TheVariants as tells
use Rattle.group_message.specs.declared.update.Update.{Update}
use Rattle.group_run.specs.Leaders.{open_session}
use Rattle.group_run.specs.Process.{Process}
use Rattle.law_moves.specs.State.{State}
use Rattle.law_bytes.specs.Areas.{IsBlock, block_size, code, value}
use Rattle.law_bytes.proofs.Finds.{if-weaker}
use Rattle.law_bytes.proofs.BytesKeeping.{Prolongs}
use Rattle.law_bytes.proofs.Values.{area-same, held-same}
use Rattle.law_bytes.proofs.Stamps.{Follows, GatheringFollows, Plan, ProcessFollows, SessionFollows, planned}

module _ (s : Dimensions) (before after : ℕ → List Update) (grows : Prolongs s before after) (l n : ℕ) (plan : Plan)
    (within : (d : ℕ) → d < s.k → plan.numbers d ≤ length (before d)) where
  still : (d : ℕ) → d < s.k → planned after plan d ≡ planned before plan d
  still d below = ap (take (plan.numbers d)) (grows d below).1 ∙ take-append-le (plan.numbers d) (before d) (grows d below).0 (within d below)

  longer : (d : ℕ) → d < s.k → plan.numbers d ≤ length (after d)
  longer d below = let is = ap length (grows d below).1 in omega (arith, within d below, is, length-append (before d) (grows d below).0)

  code-grown : (i : ℕ) (bytes : List ℕ) → IsBlock s plan.block (code s i (planned before plan)) bytes
      → IsBlock s plan.block (code s i (planned after plan)) bytes
  code-grown i bytes is = area-same (plan.block * s.block) (block_size s plan.block) (code s i (planned before plan)) (code s i (planned after plan)) bytes is
      (λ y. held-same s (ParityNode i) (planned before plan) (planned after plan) y tt (λ d below. still d below))

  value-grown : (d : ℕ) (bytes : List ℕ) → d < s.k → IsBlock s plan.block (value (planned before plan d)) bytes
      → IsBlock s plan.block (value (planned after plan d)) bytes
  value-grown d bytes below is = subst (λ (us : List Update). IsBlock s plan.block (value us) bytes) (sym (still d below)) is

  follows-grown : (x q : ProcessId) (m : Message) → IsProcess s x → Follows s before l n plan x q m → Follows s after l n plan x q m
  follows-grown (DataNode e) q (tells.Block session bytes number) inside follows = λ of_it. let is = follows of_it in (is.0, value-grown e bytes inside is.1)
  follows-grown (ParityNode i) q (tells.Block session bytes number) inside follows = λ of_it. tt
  follows-grown (DataNode e) q (tells.Row session bytes stamp) inside follows = λ of_it. tt
  follows-grown (ParityNode i) q (tells.Row session bytes stamp) inside follows = λ of_it. let is = follows of_it in (is.0, code-grown i bytes is.1, is.2)
  follows-grown x q (tells.Mark session r block d number) inside follows = follows
  follows-grown x q (tells.ReadBlock session block rows) inside follows = follows
  follows-grown x q (tells.Update r d u stable) inside follows = tt
  follows-grown x q (tells.Ack r d number) inside follows = tt
  follows-grown x q (tells.Stable r d number) inside follows = tt
  follows-grown x q (tells.Adopt r d base list) inside follows = tt
  follows-grown x q (tells.Cease upto) inside follows = tt
  follows-grown x q (tells.Notice dead) inside follows = tt

  process-grown : (p : Process) → ProcessFollows s before l n plan p → ProcessFollows s after l n plan p
  process-grown p is = record {
    copy = is.copy;
    session = λ named. if-weaker (λ g. (n ≤ p.as_leader.last_session) × GatheringFollows s before plan g)
        (λ g. (n ≤ p.as_leader.last_session) × GatheringFollows s after plan g)
        (λ g follows. (
          follows.0,
          record {
            block = follows.1.block;
            inside = follows.1.inside;
            rows = follows.1.rows;
            rows_in = λ i bytes there. let row = follows.1.rows_in i bytes there in (row.0, code-grown i bytes row.1);
            blocks_in = λ d bytes there. let block = follows.1.blocks_in d bytes there in (block.0, value-grown d bytes block.0 block.1);
          },
        )) (open_session p.as_leader n) (is.session named);
  }

pub grown : (s : Dimensions) (v : State) (after : ℕ → List Update) (l n : ℕ) (plan : Plan) → Prolongs s v.settled after → SessionFollows s v l n plan
    → SessionFollows s (record v { settled = after }) l n plan
grown s v after l n plan grows is = record {
  within = longer s v.settled after grows l n plan is.within;
  links =
      λ x q xin qin apart living. each-weaker (Follows s v.settled l n plan x q) (Follows s after l n plan x q)
      (λ m. follows-grown s v.settled after grows l n plan is.within x q m xin) (v.link x q) (is.links x q xin qin apart living);
  processes = λ p pin living. process-grown s v.settled after grows l n plan is.within (v.process p) (is.processes p pin living);
  lost = is.lost;
}
