use Rattle.std.proofs.Common.{◌≡◌, position, slice_get, option_and_then, rules, tests, ap, sym, ◌∙◌}
use Rattle.std.proofs.lemmas.Iterator.{YieldsList-from_slice}
use Rattle.std.proofs.lemmas.Iterator.Search.{position_from_yields_List}
use Rattle.group_run.specs.Leaders.{open_session}
use Rattle.block_sessions.specs.Leading.{Leading}
use Rattle.block_sessions.proofs.Coming.{found_at, has_number}
use Rattle.block_sessions.proofs.sessions.Sessions.place_of.Goals as goal

pub returns-clause-found : goal.returns-clause-found
returns-clause-found c =
    let first : c.position.result ≡ position (has_number c.args.number) c.deref.result.now =
    position_from_yields_List (has_number c.args.number) _ _ c.position.result c.position.ensures.ran
    (YieldsList-from_slice c.deref.result.now cc) (λ x b q k. search (rules, tests)) in
    ap (λ (l : Leading). open_session l.state c.args.number) (sym c.self.view_is)
    ∙ (found_at c.args.number c.self.inside.sessions.items
    ∙ (ap (λ (l : Leading). option_and_then (slice_get l.state.sessions) (position (has_number c.args.number) c.self.inside.sessions.items)) c.self.view_is
    ∙ ap (option_and_then (slice_get c.args.self.now.state.sessions)) (sym (first ∙ ap (position (has_number c.args.number)) c.deref.ensures.value))))
