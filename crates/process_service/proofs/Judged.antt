-- What a head settles where it judges, and the room that this needs.
use Rattle.std.proofs.Common.{ℕ, ◌≡◌, ◌<◌, ◌≤◌, ◌+◌, ◌-◌, List, [], ◌++◌, None, length, take, drop, sym, ap, ◌∙◌, arith}
use Rattle.std.proofs.lemmas.List.{append-nil, length-append, length-map, take-append-drop}
use Rattle.std.proofs.lemmas.List.Sums.{sum_by-set}
use Rattle.std.specs.Prelude.{set}
use Rattle.group_types.specs.Dimensions.{Dimensions}
use Rattle.group_types.specs.Lists.{at, put}
use Rattle.group_types.proofs.Lists.{at_index, set_put}
use Rattle.group_message.specs.declared.update.Update.{Update}
use Rattle.group_run.specs.Applying.{ProcessStep, Settlement, bytes_after}
use Rattle.group_run.specs.Heading.{judge, judge_head, settlements}
use Rattle.group_run.specs.Process.{Head, Process}
use Rattle.group_run.specs.Replica.{Replica, applied_to, empty_replica, last_of, up_to}
use Rattle.head_service.specs.Laws.{ArePeers, HeadsPartition}
use Rattle.head_service.specs.Peers.{settles}
use Rattle.head_service.specs.Serving.{Serving, serving}
use Rattle.head_service.specs.declared.peers.Peers.{Peers}
use Rattle.head_service.proofs.Machine.{judges_are_the_machines}
use Rattle.process_service.specs.Noticing.{waiting}
use Rattle.process_service.specs.Steps.{HasMade}

pub judged-made : (s : Dimensions) (v : Serving) (b : Process) (peers : Peers) (d : ℕ) (h : Head) (r : Replica) → ArePeers s v b peers → HeadsPartition v d h r
    → (r2 : Replica) (b2 : Process) (before after : List Settlement) → r2 ≡ applied_to (settles peers h (last_of r)) r
    → b2 ≡ bytes_after s d (up_to (settles peers h (last_of r)) r) b → after ≡ before ++ settlements d (up_to (settles peers h (last_of r)) r)
    → HasMade (judge s d (serving v b)) before (serving (record v { replicas = put empty_replica v.replicas d r2 }) b2) after
judged-made s v b peers d h r are heads r2 b2 before after r-is b-is settled =
    let law = judges_are_the_machines s v b peers d h r are heads in
    record {
      process = rw (r-is, b-is) (sym (ap (λ (x : ProcessStep). x.process) law));
      settled = settled
          ∙ sym (ap (λ (x : ProcessStep). before ++ x.settled) law);
    }

-- what waits in one log waits in all of them, and what is settled of it waits no more
module _ (rs : List Replica) (d : ℕ) (r : Replica) (here : at empty_replica rs d ≡ r) (within : d < length rs) where
  put-waiting : (r2 : Replica) → waiting (put empty_replica rs d r2) + length r.log ≡ waiting rs + length r2.log
  put-waiting r2 =
      ap (λ (xs : List Replica). waiting xs + length r.log) (sym (set_put empty_replica rs d r2 within))
      ∙ ap (λ (x : Replica). waiting (set rs d r2) + length x.log) (sym here ∙ at_index empty_replica empty_replica rs d within)
      ∙ sum_by-set (λ (x : Replica). length x.log) rs d r2 empty_replica within

  pub one-waits : length r.log ≤ waiting rs
  one-waits = omega (arith, put-waiting empty_replica)

  pub room-kept : (n : ℕ) (r2 : Replica) (long long2 room room2 : ℕ) → r2 ≡ applied_to n r → long2 ≡ long + length (up_to n r) → room ≤ room2
      → long + waiting rs ≤ room → long2 + waiting (put empty_replica rs d r2) ≤ room2
  room-kept n r2 long long2 room room2 is grown wider fits =
      let parts : length (up_to n r) + length r2.log ≡ length r.log
      = ap (λ (x : Replica). length (up_to n r) + length x.log) is
      ∙ sym (length-append (take (n - r.applied) r.log) (drop (n - r.applied) r.log))
      ∙ ap length (take-append-drop (n - r.applied) r.log) in
      omega (arith, put-waiting r2, parts, grown, wider, fits)

  pub settled-long : (n long long2 : ℕ) (before after : List Settlement) → after ≡ before ++ settlements d (up_to n r)
      → long ≡ length before → long2 ≡ length after
      → long2 ≡ long + length (up_to n r)
  settled-long n long long2 before after is was now =
      let one : Update → Settlement = λ u. record { partition = d; update = u } in
      now ∙ ap length is ∙ length-append before (settlements d (up_to n r)) ∙ omega (arith, was, length-map (up_to n r) one)

-- a step that does nothing
pub made-nothing : (step : ProcessStep) (p : Process) (before : List Settlement)
    → step ≡ record { process = p; sent = []; settled = [] } → HasMade step before p before
made-nothing step p before is = record {
  process = sym (ap (λ (x : ProcessStep). x.process) is);
  settled = sym (append-nil before) ∙ sym (ap (λ (x : ProcessStep). before ++ x.settled) is);
}

-- where nobody heads the partition here, nothing is judged
pub unjudged : (s : Dimensions) (d : ℕ) (p : Process) (before : List Settlement) → at None p.heads d ≡ None → HasMade (judge s d p) before p before
unjudged s d p before none = made-nothing (judge s d p) p before (ap (judge_head s d p) none)
