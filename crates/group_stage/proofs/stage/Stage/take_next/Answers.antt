use Rattle.std.proofs.Common.{◌∙◌, sym, subst, arith}
use Rattle.group_stage.specs.Conditions.{CanTake}
use Rattle.group_stage.specs.declared.view.Plan.{Plan}
use Rattle.group_stage.proofs.Taking.{takes-next}
use Rattle.group_stage.proofs.Hands.{at-place, free-taken, slot-there}
use Rattle.group_stage.proofs.stage.Stage.take_next.Goals as goal

pub fetch_add-requires : goal.fetch_add-requires
fetch_add-requires c = (
  c.requires.table,
  (let w = c.args.self.now.words in let i = c.word_of-word.ensures in let p = c.requires.take.within in omega (arith, w, i, p)),
  takes-next c.args.self.now.table.shared.key c.args.self.now.table.shared.table_id.slots c.args.seat.now.id
      c.args.seat.now.me c.args.place c.word_of-word.result c.word_of-word.ensures
      (subst (λ (k : Plan). CanTake k c.args.seat.now.me.0 c.args.place) (sym c.args.self.now.key_is) c.requires.take),
)

pub exchange-requires : goal.exchange-requires
exchange-requires c =
    let v = c.args.seat.now.me.0 in
    let takes = at-place v c.args.place c.word_of-word.result c.args.seat.now.me.1 c.fetch_add.result
    c.fetch_add.new.seat.me c.word_of-word.ensures c.fetch_add.ensures.2 in (
      c.fetch_add.ensures.0 ∙ c.requires.table,
      slot-there v c.args.place c.args.seat.now.me.1 c.fetch_add.new.seat.me
          (free-taken v c.args.place c.args.seat.now.me.1 c.fetch_add.result c.fetch_add.new.seat.me takes
          c.if-fetch_add-gt0.false) c.slot_of-slot.result c.slot_of-slot.ensures,
    )
