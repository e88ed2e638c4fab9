use Rattle.std.proofs.Common.{◌≡◌, ◌≢◌, false, refl, sym, subst, ◌∙◌}
use Rattle.group_types.specs.Names.{IsProcess}
use Rattle.law_moves.specs.Known.{is_notice}
use Rattle.group_run.specs.World.{NodeStep}
use Rattle.group_node.specs.Steps.{made}
use Rattle.group_member.specs.Receiving.{HasReceived}
use Rattle.group_member.specs.Standing.{Member}
use Rattle.group_member.specs.Words.{CanReadFrom}
use Rattle.group_member.specs.declared.receiving.Received.TheVariants.{Made}
use Rattle.group_member.proofs.Making.{made-receives, made-settled, made-whole}
use Rattle.group_member.proofs.Wholes.{rest-whole}
use Rattle.group_member.proofs.member.Member.receive.Goals as goal

pub invariant_of-self-2 : goal.invariant_of-self-2
invariant_of-self-2 c =
    let n = c.self.inside in
    let v : Member = record { words = n.words; signs = n.signs; callers = n.callers; parked = n.parked.items; node = n.node.node } in
    let t : NodeStep = made c.receive.new.self.node c.in_ok-out.out in
    let plain : is_notice c.args.message.now ≡ false = sym c.is_notice.ensures ∙ c.if-is_notice.false in
    rest-whole c.self.invariant refl refl (made-whole v n.node.shape c.self.invariant.member c.args.from
    c.args.message.now t c.in_ok-out.ensures.step plain c.receive.new.self.shape c.in_ok-out.ensures.shape)

pub returns-clause-received : goal.returns-clause-received
returns-clause-received c =
    let n = c.self.inside in
    let v : Member = record { words = n.words; signs = n.signs; callers = n.callers; parked = n.parked.items; node = n.node.node } in
    let from = c.args.from in
    let m = c.args.message.now in
    let t : NodeStep = made c.receive.new.self.node c.in_ok-out.out in
    let plain : is_notice m ≡ false = sym c.is_notice.ensures ∙ c.if-is_notice.false in
    let can : CanReadFrom v.words from = record {
      member = subst (λ (old : Member). IsProcess old.words.shape from) (sym c.self.view_is) c.requires.sender;
      other = subst (λ (old : Member). from ≢ old.words.name) (sym c.self.view_is) c.requires.other;
      uncut = sym c.has_cut.ensures ∙ c.if-has_cut.false;
    } in
    let step = c.in_ok-out.ensures.step in
    subst (λ (old : Member). HasReceived from m old (record v { node = c.receive.new.self.node }) (Made c.in_ok-out.out.settled)) c.self.view_is (
      made-receives v n.node.shape c.self.invariant.member from m t step can plain,
      made-settled v n.node.shape c.self.invariant.member from m t step,
    )
