use Rattle.std.proofs.Common.{◌≡◌, false, ap, refl, sym, subst, ◌∙◌}
use Rattle.group_run.specs.Fitting.{Fits}
use Rattle.group_run.specs.World.{receive_node}
use Rattle.law_answers.specs.Deliveries.{IsFor}
use Rattle.group_calls.specs.declared.event.Answer.TheVariants as says
use Rattle.group_node.specs.declared.node.NodeOut.{NodeOut}
use Rattle.group_node.specs.Standing.{NodeStanding, node_standing}
use Rattle.group_node.specs.Steps.{made}
use Rattle.group_node.proofs.Delivered.{hears, takes}
use Rattle.group_node.proofs.Dropped.{nothing-received}
use Rattle.group_node.proofs.Treated.{few-received}
use Rattle.group_node.proofs.node.Node.receive.Goals as goal
use Rattle.group_node.proofs.node.Node.receive.Goals.{in-Notice, in_default}

pub acts_on-requires : goal.acts_on-requires
acts_on-requires c = subst (λ (v : NodeStanding). IsFor v.node.process.name c.args.message.now) (sym c.self.view_is) c.requires.comes.kind

pub returns-then-not-acts_on-clause-step : goal.returns-then-not-acts_on-clause-step
returns-then-not-acts_on-clause-step c =
    let n = c.self.inside in
    let node = (node_standing n.shape n.process n.links n.dead n.down).node in
    subst (λ (v : NodeStanding). receive_node v.shape c.args.from c.args.message.now v.node ≡ made v.node c.only.result) c.self.view_is
    (nothing-received n.shape c.args.from c.args.message.now node n.links refl c.self.invariant.many (sym c.acts_on.ensures ∙ c.if-not-acts_on.true)
    ∙ (λ i. record { node = node; answer = (sym c.only.ensures.answer) i; settled = (sym c.only.ensures.settled) i }))

pub send_all-requires-clause-few : goal.send_all-requires-clause-few
send_all-requires-clause-few c =
    let fits = subst (λ (v : NodeStanding). Fits v.shape c.args.from c.args.message.now v.node.process) (sym c.self.view_is) c.requires.comes.fits in
    few-received c.self.inside.shape c.self.inside.process.shape c.self.inside.process.process
    c.receive.new.self.process c.args.from c.args.message.now c.in_ok-step.step
    c.sends_few.ensures c.make_room.ensures.shape c.self.invariant.shape fits c.in_ok-step.ensures.step

pub returns-clause-step : goal.returns-clause-step
returns-clause-step c = elim c.match-message.branch [
  | in-Notice w ↦
      let n = c.self.inside in
      let out : NodeOut = record { answer = says.Done; settled = c.in_ok-step.step.settled; opened = false } in
      let fits = subst (λ (v : NodeStanding). Fits v.shape c.args.from c.args.message.now v.node.process) (sym c.self.view_is) c.requires.comes.fits in
      subst (λ (v : NodeStanding). receive_node v.shape c.args.from c.args.message.now v.node ≡ made c.match-message.self.node out) c.self.view_is
      (hears n.shape n.process.shape c.args.from c.args.message.now
      (node_standing n.shape n.process n.links n.dead n.down).node c.in_ok-step.step c.receive.new.self.process c.known.result
      n.links c.make_room.new.links c.send_all.new.links c.self.invariant.shape c.in_ok-step.ensures.step refl c.make_room.ensures.messages c.known.ensures
      c.send_all.ensures.messages
      w.in-Notice.dead w.cut.new.self w.index_of.result _ w.in-Notice.is fits
      (c.send_all.ensures.many ∙ c.make_room.ensures.many ∙ c.self.invariant.many) w.index_of.ensures w.cut.ensures
      ∙ ap (λ (v : NodeStanding). made v.node out) (sym w.self-is))
  | in_default w ↦
      let n = c.self.inside in
      let out : NodeOut = record { answer = says.Done; settled = c.in_ok-step.step.settled; opened = false } in
      subst (λ (v : NodeStanding). receive_node v.shape c.args.from c.args.message.now v.node ≡ made c.match-message.self.node out) c.self.view_is
      (takes n.shape n.process.shape c.args.from c.args.message.now
      (node_standing n.shape n.process n.links n.dead n.down).node c.in_ok-step.step c.receive.new.self.process c.known.result
      n.links c.make_room.new.links c.send_all.new.links c.self.invariant.shape c.in_ok-step.ensures.step refl c.make_room.ensures.messages c.known.ensures
      c.send_all.ensures.messages
      w.in_default.not-Notice
      ∙ ap (λ (v : NodeStanding). made v.node out) (sym w.self-is))
]
