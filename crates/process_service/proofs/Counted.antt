-- An acknowledgement that counts, and one that doesn't.
use Rattle.std.proofs.Common.{ℕ, ◌≡◌, ◌==◌, Bool, true, false, List, [], Option, Some, None, refl, ap, ◌∙◌}
use Rattle.group_types.specs.Dimensions.{Dimensions}
use Rattle.group_types.specs.Lists.{at, put}
use Rattle.group_types.proofs.Lists.{at-put}
use Rattle.group_run.specs.Applying.{ProcessStep, Settlement, bytes_after, head_at, when}
use Rattle.group_run.specs.Heading.{acknowledge, acknowledged, judge, settlements}
use Rattle.group_run.specs.Process.{Head, Process}
use Rattle.group_run.specs.Replica.{Replica, applied_to, empty_replica, last_of, up_to}
use Rattle.head_service.specs.Laws.{ArePeers, HeadsPartition}
use Rattle.head_service.specs.Peers.{settles}
use Rattle.head_service.specs.Serving.{Serving, serving}
use Rattle.head_service.specs.declared.peers.Peers.{Peers}
use Rattle.head_service.proofs.Machine.{judges_are_the_machines}
use Rattle.process_service.specs.Standing.{is_under}

-- the process's step of these parts
abbrev pub quietly : Process → List Settlement → ProcessStep
quietly p settled = record { process = p; sent = []; settled = settled }

module _ (s : Dimensions) (v : Serving) (b : Process) (i rank d n : ℕ) where
  pub passed-over : is_under rank (at None v.heads d) ≡ false → acknowledge s i rank d n (head_at (serving v b) d) (serving v b) ≡ quietly (serving v b) []
  passed-over = by (at None v.heads d) where
    by : (head : Option Head) → is_under rank head ≡ false → acknowledge s i rank d n head (serving v b) ≡ quietly (serving v b) []
    by None other = refl
    by (Some h) other =
        ap (λ (same : Bool). when same (serving v b)
        (judge s d (serving (record v { heads = put None v.heads d (Some (acknowledged i n h)) }) b))) other

  pub counted : (peers : Peers) (h : Head) (r : Replica) → ArePeers s v b peers → HeadsPartition v d h r → (rank == h.rank) ≡ true
      → (h2 : Head) (r2 : Replica) (b2 : Process) (settled : List Settlement) → h2 ≡ acknowledged i n h
      → r2 ≡ applied_to (settles peers (acknowledged i n h) (last_of r)) r → b2 ≡ bytes_after s d (up_to (settles peers (acknowledged i n h) (last_of r)) r) b
      → settled ≡ settlements d (up_to (settles peers (acknowledged i n h) (last_of r)) r)
      → acknowledge s i rank d n (head_at (serving v b) d) (serving v b)
      ≡ quietly (serving (record v { heads = put None v.heads d (Some h2); replicas = put empty_replica v.replicas d r2 }) b2) settled
  counted peers h r are heads same h2 r2 b2 settled h-is r-is b-is settled-are =
      let w : Serving = record v { heads = put None v.heads d (Some (acknowledged i n h)) } in
      rw (h-is, r-is, b-is, settled-are) (
      ap (λ (x : Option Head). acknowledge s i rank d n x (serving v b)) heads.head
      ∙ ap (λ (x : Bool). when x (serving v b) (judge s d (serving w b))) same
      ∙ judges_are_the_machines s w b peers d (acknowledged i n h) r (record { m = are.m; name = are.name; known = are.known })
      (record {
        head = at-put None None v.heads d (Some (acknowledged i n h));
        replica = heads.replica;
        has_replica = heads.has_replica;
        has_held = heads.has_held;
      }))
