-- What a step of a member's process appends to its wires is what it appends to its node's links.
use Rattle.std.proofs.Common.{◌≡◌, Bool, true, false, List, [], ◌++◌, refl, sym, ap, subst, ◌∙◌}
use Rattle.std.proofs.lemmas.List.{append_assoc}
use Rattle.group_types.specs.Dimensions.{Dimensions}
use Rattle.group_types.specs.Lists.{at}
use Rattle.group_types.specs.Names.{IsProcess, index_of}
use Rattle.group_types.specs.declared.process.ProcessId.{ProcessId}
use Rattle.group_types.proofs.Names.{index-below, process_at-index}
use Rattle.membership.specs.Members.{knows_dead}
use Rattle.group_message.specs.declared.message.Message.{Message}
use Rattle.group_run.specs.Applying.{ProcessStep}
use Rattle.group_run.specs.Process.{Node}
use Rattle.group_run.specs.World.{node_after, sent_to}
use Rattle.group_wire.specs.Sending.{stepped}
use Rattle.group_wire.specs.Sets.{Processes, one_or}
use Rattle.group_wire.specs.State.{Works}
use Rattle.group_wire.proofs.Appending.{link-behind, more_if}
use Rattle.group_member.specs.Standing.{HandedFrames, HasWorks, IsAhead, IsSetOf, OwnWords}
use Rattle.group_member.proofs.Reading.{changed-here}

-- what is sent stands behind, but on a wire that is cut
ahead-step : (b : Bool) (wire out held now sent : List Message) → IsAhead b wire out held → (b ≡ false → now ≡ held ++ sent)
    → IsAhead b (one_or b wire (wire ++ sent)) out now
ahead-step true wire out held now sent ahead is = record { behind = ahead.behind; is = ahead.is; kept = λ off. absurd (cc off) }
ahead-step false wire out held now sent ahead is = record {
  behind = ahead.behind ++ sent;
  is = ap (λ (l : List Message). l ++ sent) ahead.is ∙ append_assoc out ahead.behind sent;
  kept = λ off. ap (λ (l : List Message). l ++ sent) (ahead.kept refl) ∙ sym (is refl);
}

-- a node's links to those that aren't cut have what a step sends behind
abbrev pub SendsTo : OwnWords → Node → Node → ProcessStep → Type 0
SendsTo w node now t = (q : ProcessId) → IsProcess w.shape q → knows_dead w.cut q ≡ false
    → at [] now.links (index_of w.shape q) ≡ at [] node.links (index_of w.shape q) ++ sent_to q t.sent

pub stepped-works : (cut : ProcessId → Processes) (g : Works) (out : HandedFrames) (w : OwnWords) (node now : Node)
    (t : ProcessStep) → IsSetOf (cut w.name) w.cut
    → HasWorks g out w node → t.process ≡ now.process → SendsTo w node now t → HasWorks (stepped cut w.name t g) out w now
stepped-works cut g out w node now t same has process sends = record {
  process = changed-here g.process w.name t.process ∙ process;
  links = λ q member.
      let row : ProcessId → List Message = λ r. one_or (cut w.name r) (g.messages w.name r) (g.messages w.name r ++ sent_to r t.sent) in
      subst (λ (wire : List Message). IsAhead (knows_dead w.cut q) wire (out.messages q) (at [] now.links (index_of w.shape q)))
      (sym (ap (λ (f : ProcessId → List Message). f q) (changed-here g.messages w.name row)
      ∙ ap (λ (b : Bool). one_or b (g.messages w.name q) (g.messages w.name q ++ sent_to q t.sent)) (same q)))
      (ahead-step (knows_dead w.cut q) (g.messages w.name q) (out.messages q) (at [] node.links (index_of w.shape q))
      (at [] now.links (index_of w.shape q)) (sent_to q t.sent)
      (has.links q member) (sends q member));
}

more-none : (b : Bool) (sent : List Message) → b ≡ false → more_if b sent ≡ sent
more-none false sent is = refl
more-none true sent is = absurd (cc is)

-- a step of a node's process appends what it sends to a link of one that it doesn't know dead
pub link-grows : (s : Dimensions) (t : ProcessStep) (node : Node) (q : ProcessId) → IsProcess s q → knows_dead t.process.known q ≡ false
    → at [] (node_after s t node).links (index_of s q) ≡ at [] node.links (index_of s q) ++ sent_to q t.sent
link-grows s t node q member unknown =
    let named = process_at-index s q member in
    link-behind s t node (index_of s q) (index-below s q member)
    ∙ ap (λ (r : ProcessId). at [] node.links (index_of s q) ++ more_if (knows_dead t.process.known r) (sent_to r t.sent)) named
    ∙ ap (λ (more : List Message). at [] node.links (index_of s q) ++ more) (more-none (knows_dead t.process.known q) (sent_to q t.sent) unknown)
