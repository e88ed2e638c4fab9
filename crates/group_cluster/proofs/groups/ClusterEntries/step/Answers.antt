use Rattle.std.proofs.Common.{ℕ, ◌≡◌, ◌<◌, ◌^◌, List, length, refl, sym, ap, subst, ◌∙◌}
use Rattle.std.specs.Prelude.{set}
use Rattle.group_types.specs.Dimensions.{Dimensions}
use Rattle.group_types.specs.Lists.{at}
use Rattle.group_calls.specs.declared.event.Event.{Event}
use Rattle.group_run.specs.Headline.{MayCome}
use Rattle.group_run.specs.World.{World, opening, step}
use Rattle.group_layout.specs.Cluster.{Groups, moved, world_in}
use Rattle.group_cluster.specs.History.{HasFewEvents}
use Rattle.group_cluster.specs.Parts.{AreWithinLogs, groups_of, noted}
use Rattle.group_cluster.specs.declared.groups.Part.{Part}
use Rattle.group_cluster.proofs.Parted.{read-at, stepped, stepped-within}
use Rattle.group_cluster.proofs.groups.ClusterEntries.step.Goals as goal

pub step-requires-clause-events : goal.step-requires-clause-events
step-requires-clause-events c =
    let low : c.args.group < length c.self.inside.worlds.items = subst (λ (g : Groups). c.args.group < length g.worlds) (sym c.self.view_is) c.requires.group in
    subst (λ (w : World). w.events < 2 ^ 62)
    (sym (read-at c.self.inside.shape c.self.inside.worlds.items c.args.group c.index_mut.result.now low
    c.index_mut.ensures.value))
    (subst (λ (g : Groups). HasFewEvents g c.args.group) (sym c.self.view_is) c.requires.few)

pub step-requires-clause-may : goal.step-requires-clause-may
step-requires-clause-may c =
    let low : c.args.group < length c.self.inside.worlds.items = subst (λ (g : Groups). c.args.group < length g.worlds) (sym c.self.view_is) c.requires.group in
    subst (λ (w : World). MayCome w c.args.event.now)
    (sym (read-at c.self.inside.shape c.self.inside.worlds.items c.args.group c.index_mut.result.now low
    c.index_mut.ensures.value))
    (subst (λ (g : Groups). MayCome (world_in g c.args.group) c.args.event.now) (sym c.self.view_is) c.requires.may)

pub invariant_of-self-2 : goal.invariant_of-self-2
invariant_of-self-2 c =
    let s : Dimensions = c.self.inside.shape in
    let ws : List World = c.self.inside.worlds.items in
    let ps : List Part = c.self.inside.parts.items in
    let j : ℕ = c.args.group in
    let e : Event = c.args.event.now in
    let low : j < length ws = subst (λ (g : Groups). j < length g.worlds) (sym c.self.view_is) c.requires.group in
    let first : c.index.result.now ≡ at (opening s) ws j = read-at s ws j c.index.result.now low c.index.ensures in
    let second : c.index_mut.result.now ≡ at (opening s) ws j = read-at s ws j c.index_mut.result.now low c.index_mut.ensures.value in
    let part : Part = record { group = j; from = length c.log-from.result.now; many = c.in_ok-out.out.logged } in
    let made : c.step.new.self ≡ (step (at (opening s) ws j) e).world = c.in_ok-out.ensures.world ∙ ap (λ (w : World). (step w e).world) second in
    let from : length c.log-from.result.now ≡ length (at (opening s) ws j).log = ap length c.log-from.ensures.log ∙ ap (λ (w : World). length w.log) first in
    let many : c.in_ok-out.out.logged ≡ length (step (at (opening s) ws j) e).turn.logged = c.in_ok-out.ensures.logged
    ∙ ap (λ (w : World). length (step w e).turn.logged) second in
    let items : c.note.new.parts.items ≡ noted ps part = c.note.ensures ∙ ap (λ (xs : List Part). noted xs part) c.in_ok-reserve.ensures.items in
    subst (λ (xs : List Part). AreWithinLogs s (set ws j c.step.new.self) xs) (sym items)
    (stepped-within s ws ps j e c.step.new.self part low c.self.invariant made refl from many)

pub returns-clause-moved : goal.returns-clause-moved
returns-clause-moved c =
    let s : Dimensions = c.self.inside.shape in
    let ws : List World = c.self.inside.worlds.items in
    let ps : List Part = c.self.inside.parts.items in
    let j : ℕ = c.args.group in
    let e : Event = c.args.event.now in
    let low : j < length ws = subst (λ (g : Groups). j < length g.worlds) (sym c.self.view_is) c.requires.group in
    let first : c.index.result.now ≡ at (opening s) ws j = read-at s ws j c.index.result.now low c.index.ensures in
    let second : c.index_mut.result.now ≡ at (opening s) ws j = read-at s ws j c.index_mut.result.now low c.index_mut.ensures.value in
    let part : Part = record { group = j; from = length c.log-from.result.now; many = c.in_ok-out.out.logged } in
    let made : c.step.new.self ≡ (step (at (opening s) ws j) e).world = c.in_ok-out.ensures.world ∙ ap (λ (w : World). (step w e).world) second in
    let from : length c.log-from.result.now ≡ length (at (opening s) ws j).log = ap length c.log-from.ensures.log ∙ ap (λ (w : World). length w.log) first in
    let many : c.in_ok-out.out.logged ≡ length (step (at (opening s) ws j) e).turn.logged = c.in_ok-out.ensures.logged
    ∙ ap (λ (w : World). length (step w e).turn.logged) second in
    let items : c.note.new.parts.items ≡ noted ps part = c.note.ensures ∙ ap (λ (xs : List Part). noted xs part) c.in_ok-reserve.ensures.items in
    ap (λ (xs : List Part). groups_of s (set ws j c.step.new.self) xs) items
    ∙ stepped s ws ps j e c.step.new.self part low c.self.invariant made refl from many
    ∙ ap (λ (g : Groups). moved g (record { group = j; event = e })) c.self.view_is

pub returns-clause-answer : goal.returns-clause-answer
returns-clause-answer c =
    let s : Dimensions = c.self.inside.shape in
    let ws : List World = c.self.inside.worlds.items in
    let low : c.args.group < length ws = subst (λ (g : Groups). c.args.group < length g.worlds) (sym c.self.view_is) c.requires.group in
    c.in_ok-out.ensures.answer
    ∙ ap (λ (w : World). (step w c.args.event.now).turn.answer) (read-at s ws c.args.group c.index_mut.result.now low c.index_mut.ensures.value)
    ∙ ap (λ (g : Groups). (step (world_in g c.args.group) c.args.event.now).turn.answer) c.self.view_is

pub returns-clause-logged : goal.returns-clause-logged
returns-clause-logged c =
    let s : Dimensions = c.self.inside.shape in
    let ws : List World = c.self.inside.worlds.items in
    let low : c.args.group < length ws = subst (λ (g : Groups). c.args.group < length g.worlds) (sym c.self.view_is) c.requires.group in
    c.in_ok-out.ensures.logged
    ∙ ap (λ (w : World). length (step w c.args.event.now).turn.logged) (read-at s ws c.args.group c.index_mut.result.now low c.index_mut.ensures.value)
    ∙ ap (λ (g : Groups). length (step (world_in g c.args.group) c.args.event.now).turn.logged) c.self.view_is
