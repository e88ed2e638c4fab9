use Rattle.std.proofs.Common.{◌≡◌, ◌-◌, Some, List, length, drop, take, ap, sym, subst, ◌∙◌}
use Rattle.std.specs.List.{slice_get, list_any}
use Rattle.std.specs.Option.{option_copied, option_map}
use Rattle.memc_table.specs.Act.{key_of}
use Rattle.memc_proto.specs.declared.request.Request.{Request}
use Rattle.front_end.specs.Ahead.{acts_ahead}
use Rattle.front_end.specs.Progress.{waiting_behind}
use Rattle.front_end.specs.Turns.{IsMoment}
use Rattle.front_end.proofs.Walking.{asks_key, is-due-ahead, none-apart, sliced}
use Rattle.front_end.proofs.waiting.Waiting.ahead.Goals as goal

pub returns-then-asks_ahead-clause-none : goal.returns-then-asks_ahead-clause-none
returns-then-asks_ahead-clause-none g c _ =
    let e : waiting_behind c.self.inside.keys (take (length c.requests.result.now - c.self.inside.answered)
    (drop c.self.inside.answered c.requests.result.now)) ≡ c.args.self.now =
    ap (waiting_behind c.self.inside.keys) (sliced c.self.inside.answered c.requests.result.now
    ∙ ap (λ (rs : List Request). drop c.self.inside.answered rs) c.requests.ensures) ∙ c.self.view_is in
    none-apart c.args.self.now c.args.begun c.in-Some.key.now
    (ap option_copied (sym c.in-Some.is) ∙ c.key_ahead.ensures ∙ ap (λ (ws : List Request). option_map key_of (slice_get (acts_ahead ws) c.args.begun)) e)
    (sym c.if-asks_ahead.true ∙ c.asks_ahead.ensures ∙ ap (λ (ws : List Request). list_any (asks_key c.in-Some.key.now) (take c.args.begun (acts_ahead ws))) e)

pub returns-clause-due : goal.returns-clause-due
returns-clause-due g c =
    let e : waiting_behind c.self.inside.keys (take (length c.requests.result.now - c.self.inside.answered)
    (drop c.self.inside.answered c.requests.result.now)) ≡ c.args.self.now =
    ap (waiting_behind c.self.inside.keys) (sliced c.self.inside.answered c.requests.result.now
    ∙ ap (λ (rs : List Request). drop c.self.inside.answered rs) c.requests.ensures) ∙ c.self.view_is in
    is-due-ahead (g.T.Clock.moment c.args.clock.now) c.args.self.now c.args.begun c.in-Some.key.now c.new.result
    (ap option_copied (sym c.in-Some.is) ∙ c.key_ahead.ensures ∙ ap (λ (ws : List Request). option_map key_of (slice_get (acts_ahead ws) c.args.begun)) e)
    (ap Some c.new.ensures.act ∙ sym c.in-Some-2.is ∙ c.in_ok-act.ensures ∙ ap (λ (ws : List Request). slice_get (acts_ahead ws) c.args.begun) e)
    (sym c.if-asks_ahead.false ∙ c.asks_ahead.ensures ∙ ap (λ (ws : List Request). list_any (asks_key c.in-Some.key.now) (take c.args.begun (acts_ahead ws))) e)
    (subst (IsMoment (g.T.Clock.moment c.args.clock.now)) (sym c.new.ensures.moment) (c.now.ensures.limit, c.now.ensures.told))
