-- The steps of heads are the machine's: proofs of the laws.
use Rattle.std.proofs.Common.{ℕ, suc, ◌≡◌, ◌≢◌, List, [], ◌∷◌, nat_le, length, Option, Some, None, ◌+◌, ◌++◌, refl, sym, ap, ◌∙◌, arith}
use Rattle.std.proofs.lemmas.List.{append-nil, length-append}
use Rattle.std.specs.List.{range_with_len}
use Rattle.group_types.specs.Dimensions.{Dimensions}
use Rattle.group_types.specs.Hash.{home_of}
use Rattle.group_types.specs.Lists.{at, put}
use Rattle.group_types.proofs.Lists.{at-put, put-at}
use Rattle.memc_table.specs.Act.{key_of}
use Rattle.memc_table.specs.Asked.{Asked}
use Rattle.group_calls.specs.Turns.{CallName}
use Rattle.group_calls.specs.declared.decision.Decision.{Decision}
use Rattle.group_calls.specs.declared.decision.Decision.TheVariants as decides
use Rattle.group_message.specs.declared.update.Update.{Update}
use Rattle.group_message.specs.declared.message.Message.TheVariants as tells
use Rattle.group_run.specs.Applying.{ProcessStep, Sent, and_then, bytes_after, sending}
use Rattle.group_run.specs.Asking.{CallStep, act_on, ask_head, fate_of, issue, only}
use Rattle.group_run.specs.Heading.{judge, partition, rank, settlements, tell_stable, tell_stables}
use Rattle.group_run.specs.Process.{Head, Held, Process}
use Rattle.group_run.specs.Replica.{Replica, applied_to, empty_replica, last_of, up_to, with_update}
use Rattle.head_service.specs.Acting.{acts, issues, next_update, stays}
use Rattle.head_service.specs.Answering.{answer_to, held_then}
use Rattle.head_service.specs.Fates.{fate}
use Rattle.head_service.specs.Peers.{settles, to_all}
use Rattle.head_service.specs.Flushing.{stable_of, stables}
use Rattle.head_service.specs.Laws.{ArePeers, AsksAreTheMachines, FatesAreTheMachines, FlushesAreTheMachines, HeadsPartition}
use Rattle.head_service.specs.Laws.{JudgesAreTheMachines, TakeoversAreTheMachines, decided, successor, serving_step}
use Rattle.head_service.specs.Serving.{Serving, serving}
use Rattle.head_service.specs.declared.peers.Peers.{Peers}
use Rattle.head_service.proofs.Steps.{issue-is, judge-is}

-- the peers of a process, as code has them
abbrev own : Dimensions → Serving → Process → Peers
own s v b = record { m = s.m; name = b.name; known = v.known }

own-is : (s : Dimensions) (v : Serving) (b : Process) (peers : Peers) → ArePeers s v b peers → own s v b ≡ peers
own-is s v b peers are = sym (ap (λ (m : ℕ). record { m = m; name = peers.name; known = peers.known }) are.m
    ∙ ap (λ (name : _). record { m = s.m; name = name; known = peers.known }) are.name
    ∙ ap (λ (known : _). record { m = s.m; name = b.name; known = known }) are.known)

module _ (s : Dimensions) (v : Serving) (b : Process) (d : ℕ) (h : Head) (r : Replica) (heads : HeadsPartition v d h r) where
  -- nothing changes
  unchanged : serving (record v { replicas = put empty_replica v.replicas d r; held = put [] v.held d (at [] v.held d) }) b ≡ serving v b
  unchanged =
      ap (λ (x : Replica). serving (record v { replicas = put empty_replica v.replicas d x; held = put [] v.held d (at [] v.held d) }) b) (sym heads.replica)
      ∙ ap (λ (xs : List Replica). serving (record v { replicas = xs; held = put [] v.held d (at [] v.held d) }) b)
      (put-at empty_replica empty_replica v.replicas d heads.has_replica)
      ∙ ap (λ (xs : List (List Held)). serving (record v { held = xs }) b) (put-at [] [] v.held d heads.has_held)

  stays-is : (answer : _) → only answer (serving v b) ≡ serving_step d (stays answer r (at [] v.held d) b) v
  stays-is answer = ap (λ (p : Process). only answer p) (sym unchanged)

  module _ (name : CallName) (op : Asked) where
    next-long : (u : Update) → u.number ≡ suc (last_of r) → last_of (with_update u r) ≡ u.number
    next-long u is = omega (arith, length-append r.log (u ∷ []), is)

    -- the step, where it settles up to a number
    abbrev issued_to : Update → ℕ → CallStep
    issued_to u n = serving_step d (record {
      replica = applied_to n (with_update u r);
      held = held_then (nat_le u.number (applied_to n (with_update u r)).applied) u (at [] v.held d);
      bytes = bytes_after s d (up_to n (with_update u r)) b;
      sent = to_all (own s v b) (tells.Update (rank h.rank) (partition d) u r.applied);
      settled = settlements d (up_to n (with_update u r));
      answer = answer_to (nat_le u.number (applied_to n (with_update u r)).applied) u;
    }) v

    issue-joined : (u : Update) → u.number ≡ suc (last_of r) → issue s d h u (serving v b)
        ≡ serving_step d (issues s d (own s v b) h u r (at [] v.held d) b) v
    issue-joined u is = issue-is s d b h u v r heads.head heads.replica heads.has_held
        ∙ ap (λ (last : ℕ). issued_to u (settles (own s v b) h last)) (next-long u is)

    act-is : (decision : Decision) → ((block : ℕ) → decision ≢ decides.NeedBlock block)
        → act_on s name op d h (serving v b) decision ≡ serving_step d (acts s d (own s v b) h name op r (at [] v.held d) b decision) v
    act-is (decides.Answer reply) none = stays-is _
    act-is (decides.Retry n) none = stays-is _
    act-is decides.NoSpace none = stays-is _
    act-is (decides.NeedBlock block) none = absurd (none block refl)
    act-is (decides.Issue body outcome) none =
        ap (λ (x : Replica). issue s d h (next_update name op body outcome x) (serving v b)) heads.replica
        ∙ issue-joined (next_update name op body outcome r) refl

pub asks_are_the_machines : AsksAreTheMachines
asks_are_the_machines s v b peers h r name op are heads none =
    let d : ℕ = home_of (key_of op.act) s.k in
    ap (ask_head s name op d (serving v b)) heads.head
    ∙ ap (λ (x : Replica). act_on s name op d h (serving v b) (decided s d h op x b)) heads.replica
    ∙ act-is s v b d h r heads name op (decided s d h op r b) none
    ∙ ap (λ (x : Peers). serving_step d (acts s d x h name op r (at [] v.held d) b (decided s d h op r b)) v) (own-is s v b peers are)

pub judges_are_the_machines : JudgesAreTheMachines
judges_are_the_machines s v b peers d h r are heads =
    let same : put empty_replica v.replicas d r ≡ v.replicas
    = ap (put empty_replica v.replicas d) (sym heads.replica) ∙ put-at empty_replica empty_replica v.replicas d heads.has_replica in
    ap (λ (xs : List Replica). judge s d (serving (record v { replicas = xs }) b)) (sym same)
    ∙ judge-is s d b h r v heads.head
    ∙ ap (λ (x : Peers). record {
      process = serving
          (record v { replicas = put empty_replica v.replicas d (applied_to (settles x h (last_of r)) r) })
          (bytes_after s d (up_to (settles x h (last_of r)) r) b);
      sent = [];
      settled = settlements d (up_to (settles x h (last_of r)) r);
    }) (own-is s v b peers are)

pub fates_are_the_machines : FatesAreTheMachines
fates_are_the_machines s v b peers d h r caller call are heads =
    ap (fate_of s caller call d (serving v b)) heads.head
    ∙ ap (λ (x : Replica). fate (own s v b) h x caller call) heads.replica
    ∙ ap (λ (x : Peers). fate x h r caller call) (own-is s v b peers are)

pub takeovers_are_the_machines : TakeoversAreTheMachines
takeovers_are_the_machines s v b peers d r are here within =
    let h : Head = successor s b r in
    let raised : Serving = record v { ranks = put 0 v.ranks d h.rank; heads = put None v.heads d (Some h) } in
    let same : put empty_replica v.replicas d r ≡ v.replicas = ap (put empty_replica v.replicas d) (sym here)
    ∙ put-at empty_replica empty_replica v.replicas d within in
    let own_sent : Replica → List Sent = λ x. to_all (own s v b) (tells.Adopt (rank h.rank) (partition d) x.applied x.log) in
    ap (λ (x : Replica).
    and_then (sending (own_sent x)
    (serving (record v { ranks = put 0 v.ranks d h.rank; heads = put None v.heads d (Some (successor s b x)) }) b))
    (judge s d)) here
    ∙ ap (λ (xs : List Replica). and_then (sending (own_sent r) (serving (record raised { replicas = xs }) b)) (judge s d)) (sym same)
    ∙ ap (λ (step : ProcessStep). record { process = step.process; sent = own_sent r ++ step.sent; settled = step.settled })
    (judge-is s d b h r raised (at-put None None v.heads d (Some h)))
    ∙ ap (λ (sent : List Sent). record {
      process = serving
          (record raised {
            replicas = put empty_replica v.replicas d
                (applied_to (settles (own s v b) h (last_of r)) r);
          })
          (bytes_after s d (up_to (settles (own s v b) h (last_of r)) r) b);
      sent = sent;
      settled = settlements d (up_to (settles (own s v b) h (last_of r)) r);
    }) (append-nil (own_sent r))
    ∙ ap (λ (x : Peers). record {
      process = serving
          (record raised { replicas = put empty_replica v.replicas d (applied_to (settles x h (last_of r)) r) })
          (bytes_after s d (up_to (settles x h (last_of r)) r) b);
      sent = to_all x (tells.Adopt (rank h.rank) (partition d) r.applied r.log);
      settled = settlements d (up_to (settles x h (last_of r)) r);
    }) (own-is s v b peers are)

-- what is told of the partitions from a number on
module _ (s : Dimensions) (v : Serving) (b : Process) where
  stable-is : (a : ℕ) (h : Option Head) → tell_stable s (serving v b) a h ≡ stable_of (own s v b) a h (at empty_replica v.replicas a)
  stable-is a None = refl
  stable-is a (Some h) = refl

  stables-are : (a : ℕ) (hs : List (Option Head)) (rs : List Replica) → length rs ≡ length hs → ((i : ℕ) → at None v.heads (a + i) ≡ at None hs i)
      → ((i : ℕ) → at empty_replica v.replicas (a + i) ≡ at empty_replica rs i)
      → tell_stables s (serving v b) (range_with_len a (length hs)) ≡ stables (own s v b) a hs rs
  stables-are a [] rs long heads replicas = refl
  stables-are a (h ∷ hs) [] long heads replicas = absurd (omega (arith, long))
  stables-are a (h ∷ hs) (r ∷ rs) long heads replicas =
      let e : a + 0 ≡ a = omega arith in
      ap (λ (x : Option Head). tell_stable s (serving v b) a x
      ++ tell_stables s (serving v b) (range_with_len (a + 1) (length hs))) (ap (at None v.heads) (sym e) ∙ heads 0)
      ∙ ap (λ (sent : List Sent). sent ++ tell_stables s (serving v b) (range_with_len (a + 1) (length hs))) (stable-is a h)
      ∙ ap (λ (x : Replica). told h x ++ tell_stables s (serving v b) (range_with_len (a + 1) (length hs)))
      (ap (at empty_replica v.replicas) (sym e) ∙ replicas 0)
      ∙ ap (λ (sent : List Sent). told h r ++ sent) (stables-are (a + 1) hs rs (omega (arith, long))
      (λ i. let f : (a + 1) + i ≡ a + suc i = omega arith in ap (at None v.heads) f ∙ heads (suc i))
      (λ i. let f : (a + 1) + i ≡ a + suc i = omega arith in ap (at empty_replica v.replicas) f ∙ replicas (suc i))) where
        told : Option Head → Replica → List Sent
        told = stable_of (own s v b) a

pub flushes_are_the_machines : FlushesAreTheMachines
flushes_are_the_machines s v b peers are heads replicas =
    ap (λ (k : ℕ). sending (tell_stables s (serving v b) (range_with_len 0 k)) (serving v b)) (sym heads)
    ∙ ap (λ (sent : List Sent). sending sent (serving v b)) (stables-are s v b 0 v.heads v.replicas (replicas ∙ sym heads)
    (λ i. let e : 0 + i ≡ i = omega arith in ap (at None v.heads) e) (λ i. let e : 0 + i ≡ i = omega arith in ap (at empty_replica v.replicas) e))
    ∙ ap (λ (x : Peers). sending (stables x 0 v.heads v.replicas) (serving v b)) (own-is s v b peers are)
