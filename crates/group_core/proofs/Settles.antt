-- How many updates an event settles.
use Rattle.std.proofs.Common.{ℕ, suc, ◌≡◌, ◌≤◌, ◌<◌, ◌+◌, ◌-◌, ◌^◌, Bool, true, false, List, [], ◌∷◌, length, refl, ap, arith, min}
use Rattle.std.specs.List.{range_with_len}
use Rattle.group_types.specs.Dimensions.{Dimensions}
use Rattle.group_types.specs.Lists.{at}
use Rattle.group_types.specs.Names.{index_of}
use Rattle.group_types.specs.declared.process.Partition.{Partition}
use Rattle.group_types.specs.declared.process.ProcessId.{ProcessId}
use Rattle.memc_table.specs.Asked.{Asked}
use Rattle.group_message.specs.declared.message.Message.{Message}
use Rattle.group_calls.specs.Turns.{CallName}
use Rattle.group_calls.specs.declared.event.Event.TheVariants.{Ask, Collect, Deliver, Fail, Flush, Trace}
use Rattle.group_calls.specs.declared.event.Answer.{Answer}
use Rattle.group_run.specs.Applying.{Settlement, head_at}
use Rattle.group_run.specs.Asking.{ask_process, collect_from, fate_of}
use Rattle.group_run.specs.Process.{Node}
use Rattle.group_run.specs.World.{World, all_change, ask_node, collect_node, deliver_nodes, delivered, flush_node}
use Rattle.group_run.specs.World.{flush_process, group_step, if_up, process_node, treated}
use Rattle.law_answers.specs.Steps.{waiting}
use Rattle.law_answers.proofs.Settling.{settles_few}

module _ (s : Dimensions) (node : Node) where
  asked : (name : CallName) (op : Asked) → length (ask_node s name op node).settled ≤ suc (waiting node.process.replicas)
  asked name op = by node.down node.dead where
    by : (down dead : Bool) → length (if_up down dead node (treated s node (ask_process s name op node.process))).settled ≤ suc (waiting node.process.replicas)
    by true dead = omega arith
    by false true = omega arith
    by false false = (settles_few s node.process).asked name op

  collected : (caller call : ℕ) → (collect_node s caller call node).settled ≡ []
  collected caller call = by node.down node.dead where
    by : (down dead : Bool) → (if_up down dead node (treated s node (collect_from caller call node.process (range_with_len 0 s.k)))).settled ≡ []
    by true dead = refl
    by false true = refl
    by false false = (settles_few s node.process).collected caller call

  flushed : (flush_node s node).settled ≡ []
  flushed = by node.down node.dead where
    by : (down dead : Bool) → (if_up down dead node (treated s node (flush_process s node.process))).settled ≡ []
    by true dead = refl
    by false true = refl
    by false false = (settles_few s node.process).flushed

  traced : (answer : Answer) → (down dead : Bool) → (if_up down dead node (record { node = node; answer = answer; settled = [] })).settled ≡ []
  traced answer true dead = refl
  traced answer false true = refl
  traced answer false false = refl

  received : (from to : ProcessId) (sender : Node) → length (deliver_nodes s from to sender node).receiver.settled ≤ waiting node.process.replicas
  received from to sender = by node.down node.dead (at [] sender.links (index_of s to)) where
    by : (down dead : Bool) (link : List Message) → length (delivered down dead s from to sender node link).receiver.settled ≤ waiting node.process.replicas
    by true dead link = omega arith
    by false true link = omega arith
    by false false [] = omega arith
    by false false (m ∷ rest) = (settles_few s node.process).received from m

module _ (w : World) where
  pub ask-settles : (caller n : ℕ) (op : Asked) (p : ProcessId) → n ≡ waiting (process_node w p).process.replicas
      → length (group_step w (Ask caller op p)).settled ≤ n + 1
  ask-settles caller n op p is = let few =
      asked w.shape (process_node w p) (record { caller = caller; call = at 0 w.asked caller }) op in omega (arith, few, is)

  pub delivery-settles : (n : ℕ) (from to : ProcessId) → n ≡ waiting (process_node w to).process.replicas → length (group_step w (Deliver from to)).settled ≤ n
  delivery-settles n from to is = let few = received w.shape (process_node w to) from to (process_node w from) in omega (arith, few, is)

  pub collect-settles : (caller call : ℕ) (p : ProcessId) → length (group_step w (Collect caller call p)).settled ≤ 0
  collect-settles caller call p = let none = ap (λ (xs : List Settlement). length xs) (collected w.shape (process_node w p) caller call) in omega (arith, none)

  pub flush-settles : (p : ProcessId) → length (group_step w (Flush p)).settled ≤ 0
  flush-settles p = let none = ap (λ (xs : List Settlement). length xs) (flushed w.shape (process_node w p)) in omega (arith, none)

  pub trace-settles : (caller call : ℕ) (d : Partition) (p : ProcessId) → length (group_step w (Trace caller call d p)).settled ≤ 0
  trace-settles caller call d p =
      let none = ap (λ (xs : List Settlement). length xs)
      (traced w.shape (process_node w p)
      (fate_of w.shape caller call d.0 (process_node w p).process (head_at (process_node w p).process d.0)) (process_node w p).down
      (process_node w p).dead) in
      omega (arith, none)

  pub fail-settles : (p : ProcessId) (keep : ℕ) → length (group_step w (Fail p keep)).settled ≤ 0
  fail-settles p keep = by (process_node w p).dead where
    by : (dead : Bool) → length (all_change dead w.shape w.nodes p keep).settled ≤ 0
    by true = omega arith
    by false = omega arith

-- no more than a number and one more, where the number is capped and the cap isn't reached
pub capped : (n r long : ℕ) → r ≡ min n (2 ^ 64 - 1) → long ≤ n + 1 → r < 2 ^ 64 - 1 → long ≤ suc r
capped n r long is low less = omega (arith, is, low, less)
