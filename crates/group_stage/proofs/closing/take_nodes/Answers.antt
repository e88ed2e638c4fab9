use Rattle.std.proofs.Common.{◌≡◌, ◌+◌, ◌<◌, ℕ, List, [], ◌∷◌, length, Bool, false, set, sym, ap, subst, ◌∙◌, arith, length-append, length-set}
use Rattle.std.specs.Prelude.{slice_get, Option}
use Rattle.group_node.specs.Standing.{NodeStanding}
use Rattle.std.specs.Slots.{slots_filled, slots_items}
use lib.ListN.{get_elem?}
use Rattle.group_types.specs.Dimensions.{processes_of}
use Rattle.group_core.specs.NodeList.{NodeList}
use Rattle.group_stage.specs.Emptied.{AreTaken}
use Rattle.group_stage.specs.Places.{slot_of}
use Rattle.group_stage.proofs.Gathering.{nodes-more, not-none, taken-more}
use Rattle.group_stage.proofs.closing.take_nodes.Goals as goal

pub unreachable-requires : goal.unreachable-requires
unreachable-requires c =
    let low : c.processes.p < processes_of c.args.shape =
    (let t = c.processes-test.true in let n = c.processes_of-count.ensures.value in omega (arith, t, n)) in
    let have = c.requires.have c.processes.p low in
    not-none (slots_items c.processes.closed.slots) (slots_items c.args.slots.slots) c.slot_of-slot.result c.processes.p
    c.processes.invariant.items c.slot_of-slot.ensures c.in_default.ensures.value have.0 have.1

pub processes-preserved : goal.processes-preserved
processes-preserved c =
    let i = c.processes.invariant in
    let p : ℕ = c.processes.p in
    let slot : ℕ = c.slot_of-slot.result in
    let here = c.slot_of-slot.ensures in
    let low : p < processes_of c.args.shape = (let t = c.processes-test.true in let n = c.processes_of-count.ensures.value in omega (arith, t, n)) in
    let fs : List Bool = slots_filled c.processes.closed.slots in
    let a = c.take.ensures.others in
    let b = c.take-in-processes.ensures.others in
    let flags : slots_filled c.take-in-processes.new.self.slots ≡ set (set fs slot false) (slot + 1) false = b.1
    ∙ ap (λ (l : List Bool). set l (slot + 1) false) a.1 in
    let items : slots_items c.take.new.self.slots ≡ slots_items c.processes.closed.slots = a.0 in
    let long : length (slots_filled c.processes.closed.slots) ≡ slot_of (processes_of c.args.shape) = i.flags in
    record {
      taken = subst (AreTaken (slot_of (p + 1))) (sym flags) (taken-more p slot fs here (omega (arith, long, here, low)) i.taken);
      flags = ap length flags ∙ length-set (set fs slot false) (slot + 1) false ∙ length-set fs slot false ∙ i.flags;
      many = b.2 ∙ a.2 ∙ i.many;
      items = b.0 ∙ a.0 ∙ i.items;
      room = ap (λ (l : NodeList). l.room) c.push.ensures ∙ i.room;
      done = let same = ap (λ (l : NodeList). length l.nodes) c.push.ensures in let more =
          length-append c.processes.taken.nodes (c.in-Some.node ∷ []) in let d = i.done in omega (arith, same, more, d);
      nodes = λ q y below is. ap (λ (l : NodeList). slice_get l.nodes q) c.push.ensures
          ∙ nodes-more (slots_items c.args.slots.slots) slot p c.processes.taken.nodes c.in-Some.node here i.done
          (ap (λ (l : List (Option NodeStanding)). get_elem? l slot) (sym i.items) ∙ c.in-Some.ensures.value) i.nodes
          q y below is;
    }
