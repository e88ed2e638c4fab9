use Rattle.std.proofs.Common.{◌≡◌, ◌-◌, ℕ, List, get_or, ap, sym, subst, ◌∙◌}
use Rattle.std.proofs.lemmas.List.{get_or_default, with_items_is}
use Rattle.page_map.specs.Pages.{PageContents}
use Rattle.group_run.specs.Leaders.{gathered, with_decoded}
use Rattle.group_run.specs.Process.{LeaderState}
use Rattle.block_sessions.specs.declared.session.OpenSession.{OpenSession}
use Rattle.block_sessions.specs.Leading.{Leading, holding}
use Rattle.block_sessions.specs.Opened.{gathering_of}
use Rattle.block_sessions.specs.Rebuilt.{AreRebuilt}
use Rattle.block_sessions.proofs.Closing.{closes, inside, parts_without, waits_on}
use Rattle.block_sessions.proofs.sessions.Sessions.gather.Goals as goal

pub invariant_of-self : goal.invariant_of-self
invariant_of-self c =
    let s = c.self.inside.shape in
    let sessions = c.self.inside.sessions.items in
    let new = c.keep_all.new.rebuilt in
    let below = inside c.self.view_is c.self.invariant c.requires in
    let rebuilt = subst (λ (ps : List PageContents). (most : ℕ) → AreRebuilt s most ps → AreRebuilt s (most - 1) new)
    c.deref_mut.ensures.value c.keep_all.ensures.rebuilt in
    rw (c.remove-session.ensures.items, with_items_is c.self.inside.rebuilt new (c.keep_all.auto.rebuilt ∙ c.deref_mut.ensures.len))
    (parts_without s c.self.inside.last sessions c.self.inside.rebuilt.items new c.args.place below c.self.invariant rebuilt)

pub returns-then-is_complete-clause-state : goal.returns-then-is_complete-clause-state
returns-then-is_complete-clause-state c = λ g.
    let s = c.self.inside.shape in
    let sessions = c.self.inside.sessions.items in
    let pages = c.self.inside.rebuilt.items in
    let new = c.keep_all.new.rebuilt in
    let x = c.index.result.now in
    let below = inside c.self.view_is c.self.invariant c.requires in
    let taken : c.remove-session.result ≡ x = c.remove-session.ensures.value
    ∙ (get_or_default sessions c.args.place c.remove-session.result x below ∙ sym c.index.ensures) in
    let kept = subst (λ (ps : List PageContents). (state : LeaderState) → holding new state
    ≡ with_decoded s (gathering_of x) x.lost.items (holding ps state)) c.deref_mut.ensures.value
    (subst (λ (y : OpenSession). (state : LeaderState) → holding new state ≡ with_decoded s (gathering_of y)
    y.lost.items (holding c.deref_mut.result.now state)) taken c.keep_all.ensures.kept) in
    rw (c.remove-session.ensures.items, with_items_is c.self.inside.rebuilt new (c.keep_all.auto.rebuilt ∙ c.deref_mut.ensures.len))
    (closes sessions c.args.place x below c.index.ensures c.self.invariant.opened.rising s c.self.inside.last pages g
    new (sym c.is_complete.ensures ∙ c.if-is_complete.true) kept
    ∙ ap (λ (l : Leading). gathered l.shape (get_or l.state.sessions c.args.place g) l.state) c.self.view_is)

pub returns-else-is_complete-clause-state : goal.returns-else-is_complete-clause-state
returns-else-is_complete-clause-state c = λ g.
    let sessions = c.self.inside.sessions.items in
    let below = inside c.self.view_is c.self.invariant c.requires in
    subst (λ (l : Leading). l.state ≡ gathered l.shape (get_or l.state.sessions c.args.place g) l.state) c.self.view_is
    (waits_on sessions c.args.place c.index.result.now below c.index.ensures c.self.invariant.opened.rising
    c.self.inside.shape c.self.inside.last c.self.inside.rebuilt.items g (sym c.is_complete.ensures ∙ c.if-is_complete.false))
