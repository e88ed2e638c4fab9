use Rattle.std.proofs.Common.{Bool, ◌&&◌, map, sym, ap, ◌∙◌}
use Rattle.group_config.proofs.Knowing.{each_among, each_among-members, each_among-next}
use Rattle.group_config.proofs.known.all_known_in.Goals as goal

pub keys-init : goal.keys-init
keys-init c =
    let keys = map (λ k. k.now) c.args.keys.now in (
      tt,
      tt,
      ap (each_among keys) (c.into_iter-key-iterator.ensures.into_iter_gives ∙ c.keys-key-items.ensures.rest)
          ∙ each_among-members keys c.args.table.now.entries,
    )

pub returns-then-not-is_among : goal.returns-then-not-is_among
returns-then-not-is_among c =
    let keys = map (λ k. k.now) c.args.keys.now in
    let next = each_among-next keys c.keys.key-iterator c.next.new.self c.in-Some.key.now c.as_str.result.now
    c.is_among.result c.in-Some.ensures.steps c.as_str.ensures.value c.is_among.ensures in
    sym (ap (λ (b : Bool). b && each_among keys c.next.new.self) c.if-not-is_among.true) ∙ sym next ∙ c.keys.invariant.2

pub keys-preserved : goal.keys-preserved
keys-preserved c =
    let keys = map (λ k. k.now) c.args.keys.now in
    let next = each_among-next keys c.keys.key-iterator c.next.new.self c.in-Some.key.now c.as_str.result.now
    c.is_among.result c.in-Some.ensures.steps c.as_str.ensures.value c.is_among.ensures in
    (tt, tt, sym (ap (λ (b : Bool). b && each_among keys c.next.new.self) c.if-not-is_among.false) ∙ sym next ∙ c.keys.invariant.2)

pub returns : goal.returns
returns c = sym (ap (each_among (map (λ k. k.now) c.args.keys.now)) c.in-None.ensures.steps.0) ∙ c.keys.invariant.2
