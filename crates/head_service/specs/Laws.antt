-- The steps of heads, part by part, are those of the machine's process.
use Rattle.std.specs.Prelude.{◌≡◌, ◌≢◌, ◌<◌, ℕ, suc, [], length, Some, None}
use Rattle.group_types.specs.Dimensions.{Dimensions, space_of}
use Rattle.group_types.specs.Hash.{home_of}
use Rattle.group_types.specs.Lists.{at, put}
use Rattle.memc_table.specs.Act.{key_of}
use Rattle.memc_table.specs.Asked.{Asked}
use Rattle.group_calls.specs.Turns.{CallName}
use Rattle.group_calls.specs.declared.decision.Decision.{Decision}
use Rattle.group_calls.specs.declared.decision.Decision.TheVariants.{NeedBlock}
use Rattle.group_message.specs.declared.message.Message.TheVariants as tells
use Rattle.group_run.specs.Applying.{bytes_after, sending}
use Rattle.group_run.specs.Asking.{CallStep, ask_process, fate_of}
use Rattle.group_run.specs.Deciding.{decide}
use Rattle.group_run.specs.Heading.{judge, partition, rank, settlements}
use Rattle.group_run.specs.Process.{Head, Process, new_head}
use Rattle.group_run.specs.Replica.{Replica, applied_to, empty_replica, last_of, up_to}
use Rattle.group_run.specs.Receiving.{taken_over}
use Rattle.group_run.specs.Rows.{parity_number}
use Rattle.group_run.specs.World.{flush_process}
use Rattle.head_service.specs.Acting.{HeadStep, acts}
use Rattle.head_service.specs.Beneath.{found_in}
use Rattle.head_service.specs.Fates.{fate}
use Rattle.head_service.specs.Flushing.{stables}
use Rattle.head_service.specs.Peers.{settles, to_all}
use Rattle.head_service.specs.Serving.{Serving, serving}
use Rattle.head_service.specs.declared.peers.Peers.{Peers}

-- these are the peers of a process
pub record ArePeers (s : Dimensions) (v : Serving) (b : Process) (peers : Peers) : Type 0 where
  pub m : peers.m ≡ s.m
  pub name : peers.name ≡ b.name
  pub known : peers.known ≡ v.known

-- it heads a partition
pub record HeadsPartition (v : Serving) (d : ℕ) (h : Head) (r : Replica) : Type 0 where
  pub head : at None v.heads d ≡ Some h
  pub replica : at empty_replica v.replicas d ≡ r
  pub has_replica : d < length v.replicas
  pub has_held : d < length v.held

-- the process's step that a head's step makes
abbrev pub serving_step : ℕ → HeadStep → Serving → CallStep
serving_step d made v = record {
  step = record {
    process = serving (record v { replicas = put empty_replica v.replicas d made.replica; held = put [] v.held d made.held }) made.bytes;
    sent = made.sent;
    settled = made.settled;
  };
  answer = made.answer;
}

-- what a head decides of a call
abbrev pub decided : Dimensions → ℕ → Head → Asked → Replica → Process → Decision
decided s d h op r b = decide (space_of s) h.inherited r op (found_in s d b)

-- a call is asked
abbrev pub AsksAreTheMachines : Type 0
AsksAreTheMachines = (s : Dimensions) (v : Serving) (b : Process) (peers : Peers) (h : Head) (r : Replica) (name : CallName) (op : Asked)
    → ArePeers s v b peers → HeadsPartition v (home_of (key_of op.act) s.k) h r
    → ((block : ℕ) → decided s (home_of (key_of op.act) s.k) h op r b ≢ NeedBlock block)
    → ask_process s name op (serving v b)
    ≡ serving_step (home_of (key_of op.act) s.k)
    (acts s (home_of (key_of op.act) s.k) peers h name op r (at [] v.held (home_of (key_of op.act) s.k)) b
    (decided s (home_of (key_of op.act) s.k) h op r b)) v

-- a head judges its acknowledgements
abbrev pub JudgesAreTheMachines : Type 0
JudgesAreTheMachines = (s : Dimensions) (v : Serving) (b : Process) (peers : Peers) (d : ℕ) (h : Head) (r : Replica)
    → ArePeers s v b peers → HeadsPartition v d h r
    → judge s d (serving v b) ≡ record {
      process = serving
          (record v { replicas = put empty_replica v.replicas d (applied_to (settles peers h (last_of r)) r) })
          (bytes_after s d (up_to (settles peers h (last_of r)) r) b);
      sent = [];
      settled = settlements d (up_to (settles peers h (last_of r)) r);
    }

-- a head tells what became of a call
abbrev pub FatesAreTheMachines : Type 0
FatesAreTheMachines = (s : Dimensions) (v : Serving) (b : Process) (peers : Peers) (d : ℕ) (h : Head) (r : Replica)
    (caller call : ℕ) → ArePeers s v b peers → HeadsPartition v d h r
    → fate_of s caller call d (serving v b) (at None v.heads d) ≡ fate peers h r caller call

-- what taking a partition over settles, where its replica is this one
abbrev pub successor : Dimensions → Process → Replica → Head
successor s b r = new_head s (suc (parity_number b.name)) (last_of r)

-- a process takes a partition over
abbrev pub TakeoversAreTheMachines : Type 0
TakeoversAreTheMachines = (s : Dimensions) (v : Serving) (b : Process) (peers : Peers) (d : ℕ) (r : Replica) → ArePeers s v b peers
    → at empty_replica v.replicas d ≡ r → d < length v.replicas
    → taken_over s d (serving v b) ≡ record {
      process = serving (record v {
        replicas = put empty_replica v.replicas d (applied_to (settles peers (successor s b r) (last_of r)) r);
        ranks = put 0 v.ranks d (successor s b r).rank;
        heads = put None v.heads d (Some (successor s b r));
      }) (bytes_after s d (up_to (settles peers (successor s b r) (last_of r)) r) b);
      sent = to_all peers (tells.Adopt (rank (successor s b r).rank) (partition d) r.applied r.log);
      settled = settlements d (up_to (settles peers (successor s b r) (last_of r)) r);
    }

-- a process tells how far it has settled
abbrev pub FlushesAreTheMachines : Type 0
FlushesAreTheMachines = (s : Dimensions) (v : Serving) (b : Process) (peers : Peers) → ArePeers s v b peers → length v.heads ≡ s.k → length v.replicas ≡ s.k
    → (flush_process s (serving v b)).step ≡ sending (stables peers 0 v.heads v.replicas) (serving v b)
