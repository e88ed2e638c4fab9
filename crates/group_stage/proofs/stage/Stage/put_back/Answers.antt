use Rattle.std.proofs.Common.{sym, subst, ◌∙◌, arith, Some, None}
use Rattle.group_stage.specs.Conditions.{HasLast}
use Rattle.group_stage.specs.declared.view.Plan.{Plan}
use Rattle.group_stage.proofs.Releasing.{releases}
use Rattle.group_stage.proofs.Hands.{given-back}
use Rattle.group_stage.proofs.stage.Stage.put_back.Goals as goal

pub swap-found-requires : goal.swap-found-requires
swap-found-requires c =
    let last = given-back c.args.self.now.plan c.args.seat.now.me c.exchange.new.seat.me c.args.place c.args.node None
    c.slot_of-slot.result c.requires.last c.slot_of-slot.ensures c.exchange.ensures.3 in (
      c.exchange.ensures.0 ∙ c.requires.table,
      (let w = c.args.self.now.words in let i = c.word_of-word.ensures in let p = c.requires.last.within in omega (arith, w, i, p)),
      releases c.args.self.now.table.shared.key c.args.self.now.table.shared.table_id.slots c.exchange.new.seat.id
          c.exchange.new.seat.me c.args.place c.word_of-word.result c.args.node c.word_of-word.ensures
          (subst (λ (k : Plan). HasLast k c.exchange.new.seat.me c.args.place c.args.node (Some c.args.node)) (sym c.args.self.now.key_is) last),
    )
