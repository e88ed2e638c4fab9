use Rattle.std.proofs.Common.{◌≡◌, suc, [], ◌∷◌, length, refl, ap, ◌∙◌, arith}
use Rattle.std.proofs.lemmas.List.{length-append}
use Rattle.group_stage.proofs.Deaths.{all-back, has-last, none-back, one-back}
use Rattle.group_stage.proofs.stage.Stage.put_all.Goals as goal

pub nodes-init : goal.nodes-init
nodes-init c = record {
  table = refl;
  fewer = omega arith;
  back = none-back c.args.self.now.plan c.args.seat.now.me c.args.nodes.nodes c.requires.all;
}

pub put_back-requires-clause-table : goal.put_back-requires-clause-table
put_back-requires-clause-table c = c.nodes.invariant.table ∙ c.requires.table

pub put_back-requires-clause-last : goal.put_back-requires-clause-last
put_back-requires-clause-last c =
    has-last c.args.self.now.plan c.args.seat.now.me c.nodes.seat.me c.nodes.nodes.nodes c.pop.new.self.nodes
    c.in-Some.node (length c.args.nodes.nodes) c.requires.all.part c.requires.all.within
    c.nodes.invariant.fewer c.in-Some.ensures.last c.nodes.invariant.back c.count.result c.count.ensures

pub nodes-smaller : goal.nodes-smaller
nodes-smaller c =
    let size : length c.nodes.nodes.nodes ≡ suc (length c.pop.new.self.nodes) = ap length c.in-Some.ensures.last
    ∙ length-append c.pop.new.self.nodes (c.in-Some.node ∷ []) ∙ omega arith in
    omega (arith, size)

pub nodes-preserved : goal.nodes-preserved
nodes-preserved c =
    let size : length c.nodes.nodes.nodes ≡ suc (length c.pop.new.self.nodes) = ap length c.in-Some.ensures.last
    ∙ length-append c.pop.new.self.nodes (c.in-Some.node ∷ []) ∙ omega arith in
    record {
      table = c.put_back.ensures.table ∙ c.nodes.invariant.table;
      fewer = let few = c.nodes.invariant.fewer in omega (arith, size, few);
      back = one-back c.args.self.now.plan c.args.seat.now.me c.nodes.seat.me c.nodes.nodes.nodes c.pop.new.self.nodes
          c.in-Some.node (length c.args.nodes.nodes) c.requires.all.part c.requires.all.within
          c.nodes.invariant.fewer c.in-Some.ensures.last c.nodes.invariant.back c.count.result c.count.ensures
          c.put_back.new.seat.me c.put_back.ensures.released;
    }

pub returns-clause-table : goal.returns-clause-table
returns-clause-table c = c.nodes.invariant.table

pub returns-clause-back : goal.returns-clause-back
returns-clause-back c =
    all-back c.args.seat.now.me c.nodes.seat.me c.nodes.nodes.nodes (length c.args.nodes.nodes) c.in_default.ensures.last.0 c.nodes.invariant.back
