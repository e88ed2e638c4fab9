use Rattle.std.proofs.Common.{◌≡◌, ◌+◌, ◌-◌, ◌∷◌, ℕ, drop, take, ap, sym, ◌∙◌}
use Rattle.std.proofs.lemmas.List.{drop_more}
use Rattle.std.specs.List.{list_any}
use Rattle.memc_proto.specs.declared.request.Request.{Request}
use Rattle.front_end.specs.Ahead.{acts_ahead}
use Rattle.front_end.specs.Progress.{waiting_behind}
use Rattle.front_end.proofs.Walking.{asks_key, front-as, asks-none, asks-here, asks-behind}
use Rattle.front_end.proofs.acts.asks_ahead.Goals as goal

pub returns-then-is_order : goal.returns-then-is_order
returns-then-is_order c =
    let e : drop c.requests.request-index c.args.requests.now ≡ c.request-item.result ∷ drop (c.requests.request-index + 1) c.args.requests.now =
    drop_more c.args.requests.now c.requests.request-index c.request-item.result c.requests-test.true
    ∙ ap (λ (r : Request). r ∷ drop (c.requests.request-index + 1) c.args.requests.now) (sym c.request-item.is) in
    asks-none (asks_key c.args.key.now) c.request-item.result (drop (c.requests.request-index + 1) c.args.requests.now)
    c.requests.keys c.requests.left
    (c.is_order.ensures.order c.if-is_order.true c.requests.keys
    (drop (c.requests.request-index + 1) c.args.requests.now))
    ∙ (front-as (λ ws. list_any (asks_key c.args.key.now) (take c.requests.left (acts_ahead ws))) c.args.requests.now
    c.requests.request-index c.requests.keys c.request-item.result e ∙ c.requests.invariant)

pub returns-then-asks : goal.returns-then-asks
returns-then-asks c =
    let e : drop c.requests.request-index c.args.requests.now ≡ c.request-item.result ∷ drop (c.requests.request-index + 1) c.args.requests.now =
    drop_more c.args.requests.now c.requests.request-index c.request-item.result c.requests-test.true
    ∙ ap (λ (r : Request). r ∷ drop (c.requests.request-index + 1) c.args.requests.now) (sym c.request-item.is) in
    asks-here (asks_key c.args.key.now) c.request-item.result (drop (c.requests.request-index + 1) c.args.requests.now)
    c.requests.keys c.requests.left (c.is_order.ensures.other c.if-is_order.false c.requests.keys
    (drop (c.requests.request-index + 1) c.args.requests.now))
    (sym c.asks.ensures ∙ c.if-asks.true)
    ∙ (front-as (λ ws. list_any (asks_key c.args.key.now) (take c.requests.left (acts_ahead ws))) c.args.requests.now
    c.requests.request-index c.requests.keys c.request-item.result e ∙ c.requests.invariant)

pub requests-preserved : goal.requests-preserved
requests-preserved c =
    let e : drop c.requests.request-index c.args.requests.now ≡ c.request-item.result ∷ drop (c.requests.request-index + 1) c.args.requests.now =
    drop_more c.args.requests.now c.requests.request-index c.request-item.result c.requests-test.true
    ∙ ap (λ (r : Request). r ∷ drop (c.requests.request-index + 1) c.args.requests.now) (sym c.request-item.is) in
    ap (λ (n : ℕ). list_any (asks_key c.args.key.now)
    (take (c.requests.left - n)
    (acts_ahead (waiting_behind 0 (drop (c.requests.request-index + 1) c.args.requests.now))))) c.min-left.ensures
    ∙ (asks-behind (asks_key c.args.key.now) c.request-item.result
    (drop (c.requests.request-index + 1) c.args.requests.now) c.requests.keys c.requests.left c.count_acts.result
    (c.is_order.ensures.other c.if-is_order.false c.requests.keys
    (drop (c.requests.request-index + 1) c.args.requests.now))
    c.count_acts.ensures (sym c.asks.ensures ∙ c.if-asks.false)
    ∙ (front-as (λ ws. list_any (asks_key c.args.key.now) (take c.requests.left (acts_ahead ws))) c.args.requests.now
    c.requests.request-index c.requests.keys c.request-item.result e ∙ c.requests.invariant))
