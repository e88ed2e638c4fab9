use Rattle.std.proofs.Common.{◌≡◌, List, ℕ, length, Contains, set, true, None, Some, subst, sym, ap, ◌∙◌}
use Rattle.group_types.specs.Pieces.{numbers_of, with_bytes}
use Rattle.group_types.specs.Lists.{put}
use Rattle.block_sessions.specs.Awaited.{Awaited, awaited_in}
use Rattle.block_sessions.proofs.Arrived.{awaited_after, long_there, view_after}
use Rattle.block_sessions.proofs.arrivals.Arrivals.put.Goals as goal

pub copy_from_slice-requires : goal.copy_from_slice-requires
copy_from_slice-requires c =
    let there : Contains (numbers_of c.self.inside.pieces) c.args.number =
    subst (λ (a : Awaited). Contains a.numbers c.args.number) (sym c.self.view_is) c.requires.awaited in
    let whole : length c.args.bytes.now ≡ c.self.inside.block = c.requires.whole ∙ ap (λ (a : Awaited). a.block) (sym c.self.view_is) in
    ap length c.piece_mut.ensures.value
    ∙ (long_there c.self.inside.pieces c.self.inside.came.items c.self.inside.block c.args.number c.args.bytes.now
    c.self.invariant there whole ∙ sym whole)

pub invariant_of-self : goal.invariant_of-self
invariant_of-self c =
    let there : Contains (numbers_of c.self.inside.pieces) c.args.number =
    subst (λ (a : Awaited). Contains a.numbers c.args.number) (sym c.self.view_is) c.requires.awaited in
    let whole : length c.args.bytes.now ≡ c.self.inside.block = c.requires.whole ∙ ap (λ (a : Awaited). a.block) (sym c.self.view_is) in
    rw c.copy_from_slice.ensures.after (awaited_after c.self.inside.pieces c.self.inside.came.items c.self.inside.block
    c.args.number c.args.bytes.now c.self.invariant there whole)

pub returns-clause-came : goal.returns-clause-came
returns-clause-came c =
    let there : Contains (numbers_of c.self.inside.pieces) c.args.number =
    subst (λ (a : Awaited). Contains a.numbers c.args.number) (sym c.self.view_is) c.requires.awaited in
    let whole : length c.args.bytes.now ≡ c.self.inside.block = c.requires.whole ∙ ap (λ (a : Awaited). a.block) (sym c.self.view_is) in
    ap (λ (bs : List ℕ). awaited_in (with_bytes c.self.inside.pieces c.args.number bs)
    (set c.self.inside.came.items c.args.number true) c.self.inside.block) c.copy_from_slice.ensures.after
    ∙ (view_after c.self.inside.pieces c.self.inside.came.items c.self.inside.block c.args.number c.args.bytes.now c.self.invariant there whole
    ∙ ap (λ (a : Awaited). record a { parts = put None a.parts c.args.number (Some c.args.bytes.now) }) c.self.view_is)
