use Rattle.std.proofs.Common.{◌≡◌, ◌+◌, ◌-◌, ◌∷◌, Option, drop, IfOk, ap, sym, subst, ◌∙◌, arith}
use Rattle.std.proofs.lemmas.List.{drop_more}
use Rattle.std.specs.List.{slice_get}
use Rattle.memc_table.specs.declared.act.Act.{Act}
use Rattle.memc_proto.specs.declared.request.Request.{Request}
use Rattle.front_end.specs.Ahead.{acts_ahead}
use Rattle.front_end.proofs.Walking.{front-as, act-none, act-here, act-behind}
use Rattle.front_end.proofs.acts.act_ahead.Goals as goal

pub returns-then-is_order : goal.returns-then-is_order
returns-then-is_order c =
    let e : drop c.requests.request-index c.args.requests.now ≡ c.request-item.result ∷ drop (c.requests.request-index + 1) c.args.requests.now =
    drop_more c.args.requests.now c.requests.request-index c.request-item.result c.requests-test.true
    ∙ ap (λ (r : Request). r ∷ drop (c.requests.request-index + 1) c.args.requests.now) (sym c.request-item.is) in
    act-none c.request-item.result (drop (c.requests.request-index + 1) c.args.requests.now) c.requests.keys
    c.requests.left
    (c.is_order.ensures.order c.if-is_order.true c.requests.keys
    (drop (c.requests.request-index + 1) c.args.requests.now))
    ∙ (front-as (λ ws. slice_get (acts_ahead ws) c.requests.left) c.args.requests.now c.requests.request-index
    c.requests.keys c.request-item.result e ∙ c.requests.invariant)

pub returns-then-left-count : goal.returns-then-left-count
returns-then-left-count c =
    let e : drop c.requests.request-index c.args.requests.now ≡ c.request-item.result ∷ drop (c.requests.request-index + 1) c.args.requests.now =
    drop_more c.args.requests.now c.requests.request-index c.request-item.result c.requests-test.true
    ∙ ap (λ (r : Request). r ∷ drop (c.requests.request-index + 1) c.args.requests.now) (sym c.request-item.is) in
    subst (λ (o : Option Act). IfOk c.act_of.result (λ found. found ≡ o))
    (act-here c.request-item.result (drop (c.requests.request-index + 1) c.args.requests.now) c.requests.keys
    c.requests.left (c.is_order.ensures.other c.if-is_order.false c.requests.keys
    (drop (c.requests.request-index + 1) c.args.requests.now))
    (omega (arith, c.if-left-count.true, c.count_acts-count.ensures))
    ∙ (front-as (λ ws. slice_get (acts_ahead ws) c.requests.left) c.args.requests.now c.requests.request-index
    c.requests.keys c.request-item.result e ∙ c.requests.invariant))
    c.act_of.ensures

pub requests-preserved : goal.requests-preserved
requests-preserved c =
    let e : drop c.requests.request-index c.args.requests.now ≡ c.request-item.result ∷ drop (c.requests.request-index + 1) c.args.requests.now =
    drop_more c.args.requests.now c.requests.request-index c.request-item.result c.requests-test.true
    ∙ ap (λ (r : Request). r ∷ drop (c.requests.request-index + 1) c.args.requests.now) (sym c.request-item.is) in
    act-behind c.request-item.result (drop (c.requests.request-index + 1) c.args.requests.now) c.requests.keys
    c.requests.left c.count_acts-count.result (c.is_order.ensures.other c.if-is_order.false c.requests.keys
    (drop (c.requests.request-index + 1) c.args.requests.now))
    c.count_acts-count.ensures (omega (arith, c.if-left-count.false))
    ∙ (front-as (λ ws. slice_get (acts_ahead ws) c.requests.left) c.args.requests.now c.requests.request-index
    c.requests.keys c.request-item.result e ∙ c.requests.invariant)
