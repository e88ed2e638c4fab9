use Rattle.std.proofs.Common.{◌≡◌, ℕ, ap, ◌∙◌}
use Rattle.group_types.specs.Dimensions.{Dimensions}
use Rattle.group_types.specs.Hash.{home_of}
use Rattle.memc_table.specs.Act.{key_of}
use Rattle.memc_table.specs.Asked.{Asked}
use Rattle.group_calls.specs.declared.event.Event.TheVariants.{Ask}
use Rattle.group_run.specs.World.{World, step}
use Rattle.group_eras.specs.Told.{op_for_era}
use Rattle.group_regroup.proofs.Numbers.{ask-fits}
use Rattle.group_regroup.proofs.stepping.ask.Goals as goal

pub told_answer-requires : goal.told_answer-requires
told_answer-requires c =
    let w : World = c.args.world.now in
    let home : c.home-partition.result.0 ≡ home_of (key_of c.args.op.now.act) w.shape.k
    = cc (c.home-partition.ensures.value, c.key.ensures, ap key_of c.act.ensures, c.k-k.ensures.value, ap (λ (s : Dimensions). s.k) c.shape.ensures) in
    let width : c.k-k.result ≡ w.shape.k = c.k-k.ensures.value ∙ ap (λ (s : Dimensions). s.k) c.shape.ensures in
    ask-fits c.numbers_fit.ensures w c.run.ensures c.args.bases.now c.args.caller c.args.op.now c.args.at c.requires.low c.requires.events c.requires.may
    c.home-partition.result.0 c.in_ok-out.out.answer home
    (c.in_ok-out.ensures.answer ∙ ap (λ (o : Asked). (step w (Ask c.args.caller o c.args.at)).turn.answer)
    (c.in_ok-op.ensures ∙ ap (λ (k : ℕ). op_for_era c.args.bases.now k c.args.op.now) width))
