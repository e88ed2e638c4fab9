-- A head's step, joined to the rest of its process, is the machine's.
use Rattle.std.proofs.Common.{ℕ, ◌≡◌, List, [], None, refl, sym, ap, subst, ◌∙◌}
use Rattle.group_types.specs.Dimensions.{Dimensions, space_of}
use Rattle.group_types.specs.Hash.{home_of}
use Rattle.group_types.specs.Lists.{at, put}
use Rattle.group_types.proofs.Lists.{put-at}
use Rattle.group_types.specs.declared.process.ProcessId.{ProcessId}
use Rattle.group_types.specs.declared.process.ProcessId.TheVariants.{DataNode, ParityNode}
use Rattle.memc_table.specs.Act.{key_of}
use Rattle.memc_table.specs.Asked.{Asked}
use Rattle.erasure_code.specs.Spaces.{bytes_at}
use Rattle.group_calls.specs.Turns.{CallName}
use Rattle.group_calls.specs.declared.decision.Decision.{Decision}
use Rattle.group_calls.specs.declared.decision.Decision.TheVariants.{NeedBlock}
use Rattle.group_calls.specs.declared.event.Answer.TheVariants as says
use Rattle.group_run.specs.Asking.{act_on, ask_head, found_at}
use Rattle.group_run.specs.Deciding.{decide}
use Rattle.group_run.specs.Process.{Head, Held, Process}
use Rattle.group_run.specs.Replica.{Replica, empty_replica}
use Rattle.head_service.specs.Acting.{HeadStep, IsMade, acts}
use Rattle.head_service.specs.Laws.{ArePeers, HeadsPartition, decided}
use Rattle.head_service.specs.Serving.{Serving, serving}
use Rattle.head_service.specs.declared.ask.Asking.{Asking}
use Rattle.head_service.specs.declared.ask.Asking.TheVariants.{Done, Need}
use Rattle.head_service.specs.declared.peers.Peers.{Peers}
use Rattle.head_service.specs.declared.step.CallStep.{CallStep}
use Rattle.head_service.proofs.Machine.{asks_are_the_machines}
use Rattle.process_service.specs.Steps.{IsCallAsked}
use Rattle.process_service.proofs.Whole.{needs_none}

-- nobody heads the partition here
pub moved : (s : Dimensions) (name : CallName) (op : Asked) (p : Process) (step : CallStep) → at None p.heads (home_of (key_of op.act) s.k) ≡ None
    → step.answer ≡ says.Moved → step.sent.items ≡ [] → step.settled.items ≡ [] → IsCallAsked s name op p (Done step) p
moved s name op p step none answer sent settled =
    rw (answer, sent, settled) (ap (ask_head s name op (home_of (key_of op.act) s.k) p) none)

module _ (s : Dimensions) (v : Serving) (b : Process) (peers : Peers) (h : Head) (r : Replica) (name : CallName) (op : Asked) where
  abbrev d : ℕ
  d = home_of (key_of op.act) s.k

  abbrev calls : List Held
  calls = at [] v.held d

  abbrev thus : Replica → List Held → Process → Process
  thus r2 held b2 = serving (record v { replicas = put empty_replica v.replicas d r2; held = put [] v.held d held }) b2

  -- only a parity process needs a block
  needs_parity : (x : ProcessId) (block : ℕ) → decide (space_of s) h.inherited r op (found_at s d b x) ≡ NeedBlock block → (i : ℕ) × (x ≡ ParityNode i)
  needs_parity (DataNode e) block is = absurd (needs_none (space_of s) r op (λ run. bytes_at run.at run.len b.space) h.inherited block is)
  needs_parity (ParityNode i) block is = (i, refl)

  pub asked-is : ArePeers s v b peers → HeadsPartition v d h r → (asked : Asking) (r2 : Replica) (held : List Held) (b2 : Process)
      → IsMade s (decided s d h op r b) (acts s d peers h name op r calls b (decided s d h op r b)) asked r2 held b2
      → IsCallAsked s name op (serving v b) asked (thus r2 held b2)
  asked-is are heads (Done step) r2 held b2 made =
      rw (made.0.replica, made.0.held, made.0.bytes, made.0.sent, made.0.settled, made.0.answer)
      (asks_are_the_machines s v b peers h r name op are heads made.1)
  asked-is are heads (Need block) r2 held b2 made =
      let act : Decision → HeadStep = acts s d peers h name op r calls b in
      let same_r : r2 ≡ r = made.1 ∙ ap (λ (x : Decision). (act x).replica) made.0 in
      let same_held : held ≡ calls = made.2 ∙ ap (λ (x : Decision). (act x).held) made.0 in
      let same_b : b2 ≡ b = made.3 ∙ ap (λ (x : Decision). (act x).bytes) made.0 in (
        (ap (ask_head s name op d (serving v b)) heads.head
            ∙ ap (λ (x : Replica). act_on s name op d h (serving v b) (decided s d h op x b)) heads.replica
            ∙ ap (act_on s name op d h (serving v b)) made.0),
        (ap (λ (x : Replica). thus x held b2) same_r
            ∙ ap (λ (x : List Held). thus r x b2) same_held
            ∙ ap (λ (x : Process). thus r calls x) same_b
            ∙ ap (λ (xs : List Replica). serving (record v { replicas = xs; held = put [] v.held d calls }) b)
            (ap (put empty_replica v.replicas d) (sym heads.replica) ∙ put-at empty_replica empty_replica v.replicas d heads.has_replica)
            ∙ ap (λ (xs : List (List Held)). serving (record v { held = xs }) b) (put-at [] [] v.held d heads.has_held)),
        needs_parity b.name block made.0,
      )

  -- the same, where the partition is known by another name
  pub asked-at : (e : ℕ) → e ≡ d → ArePeers s v b peers → HeadsPartition v e h r → (asked : Asking) (r2 : Replica) (held : List Held) (b2 : Process)
      → IsMade s (decided s e h op r b) (acts s e peers h name op r (at [] v.held e) b (decided s e h op r b)) asked r2 held b2
      → IsCallAsked s name op (serving v b) asked (serving (record v { replicas = put empty_replica v.replicas e r2; held = put [] v.held e held }) b2)
  asked-at e same = subst (λ (e : ℕ). ArePeers s v b peers → HeadsPartition v e h r → (asked : Asking) (r2 : Replica) (held : List Held) (b2 : Process)
      → IsMade s (decided s e h op r b) (acts s e peers h name op r (at [] v.held e) b (decided s e h op r b)) asked r2 held b2
      → IsCallAsked s name op (serving v b) asked
      (serving (record v { replicas = put empty_replica v.replicas e r2; held = put [] v.held e held }) b2))
      (sym same) asked-is
