-- What a member's node makes of a request, and of a call that is collected.
use Rattle.std.proofs.Common.{ℕ, ◌≡◌, [], refl, sym, subst}
use Rattle.std.proofs.lemmas.List.{append-nil}
use Rattle.std.specs.List.{range_with_len}
use Rattle.group_types.specs.Lists.{at}
use Rattle.group_types.specs.Names.{index_of}
use Rattle.membership.specs.Members.{Membership}
use Rattle.group_calls.specs.Turns.{CallName}
use Rattle.group_run.specs.Applying.{head_at}
use Rattle.group_run.specs.Asking.{CallStep, ask_process, collect_from, fate_of}
use Rattle.group_run.specs.World.{NodeStep, collect_node, if_up, treated, unchanged}
use Rattle.law_moves.proofs.Known.{known_stays}
use Rattle.group_wire.specs.Sending.{treating}
use Rattle.group_wire.specs.State.{Request, AskFor, TraceOf}
use Rattle.group_member.specs.Standing.{Member}
use Rattle.group_member.specs.Treating.{treat_node}
use Rattle.group_member.specs.Whole.{IsWholeMember}
use Rattle.group_member.specs.Words.{AreAmong}
use Rattle.group_member.proofs.Delivered.{if-up, unknown-uncut}
use Rattle.group_member.proofs.Stepping.{link-grows}
use Rattle.group_member.proofs.Treated.{HasStep}

-- the node of a member after a step of its process
pub record HasMade (v : Member) (u : CallStep) (t : NodeStep) : Type 0 where
  pub step : HasStep v u t.node
  pub answer : t.answer ≡ u.answer
  pub settled : t.settled ≡ u.step.settled
  pub whole : IsWholeMember v.words.shape v.words v.signs t.node

module _ (v : Member) (whole : IsWholeMember v.words.shape v.words v.signs v.node) where
  -- a step of its process that leaves whom it knows dead
  stepped-node : (u : CallStep) → u.step.process.known ≡ v.node.process.known → HasMade v u (treated v.words.shape v.node u)
  stepped-node u known =
      let among : AreAmong u.step.process.known v.words.taken = subst (λ (k : Membership). AreAmong k v.words.taken) (sym known) whole.known in
      record {
        step = record {
          process = refl;
          sends = λ q member uncut. link-grows v.words.shape u.step v.node q member (unknown-uncut v.words u.step.process.known whole.words among q uncut);
        };
        answer = refl;
        settled = refl;
        whole = record { words = whole.words; shape_is = refl; lives = whole.lives; up = whole.up; known = among; counts = whole.counts };
      }

  -- a step that changes nothing
  traced-node : (caller call d : ℕ)
      → HasMade v (treating v.words.shape (TraceOf caller call d) v.node.process)
      (unchanged (fate_of v.words.shape caller call d v.node.process (head_at v.node.process d)) v.node)
  traced-node caller call d = record {
    step = record { process = refl; sends = λ q member uncut. sym (append-nil (at [] v.node.links (index_of v.words.shape q))) };
    answer = refl;
    settled = refl;
    whole = whole;
  }

  up : (t : NodeStep) → if_up v.node.down v.node.dead v.node t ≡ t
  up t = if-up v.node.down v.node.dead v.node t whole.up whole.lives

  pub treated-node : (r : Request) → HasMade v (treating v.words.shape r v.node.process) (treat_node v.words.shape r v.node)
  treated-node (AskFor caller call op) =
      let name : CallName = record { caller = caller; call = call } in
      let u = ask_process v.words.shape name op v.node.process in
      subst (HasMade v u) (sym (up (treated v.words.shape v.node u))) (stepped-node u ((known_stays v.words.shape v.node.process).asked name op))
  treated-node (TraceOf caller call d) =
      let t = unchanged (fate_of v.words.shape caller call d v.node.process (head_at v.node.process d)) v.node in
      subst (HasMade v (treating v.words.shape (TraceOf caller call d) v.node.process)) (sym (up t)) (traced-node caller call d)

  pub collected-node : (caller call : ℕ)
      → HasMade v (collect_from caller call v.node.process (range_with_len 0 v.words.shape.k)) (collect_node v.words.shape caller call v.node)
  collected-node caller call =
      let u = collect_from caller call v.node.process (range_with_len 0 v.words.shape.k) in
      subst (HasMade v u) (sym (up (treated v.words.shape v.node u))) (stepped-node u ((known_stays v.words.shape v.node.process).collected caller call))
