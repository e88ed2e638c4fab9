-- What can be added, where pages only come.
use Rattle.std.proofs.Common.{ℕ, ◌≡◌, ◌<◌, ◌/◌, List, Option, Contains, sym, subst}
use Rattle.group_types.specs.Dimensions.{Dimensions, space_of}
use Rattle.group_types.specs.declared.run.Run.{Run}
use Rattle.group_message.specs.declared.update.Body.{Body}
use Rattle.group_message.specs.declared.update.Body.TheVariants.{Put, Remove, Touch}
use Rattle.group_message.specs.declared.update.Update.{Update}
use Rattle.group_run.specs.Fitting.{Writes}
use Rattle.page_map.specs.Spaces.{AllMade}
use Rattle.parity_space.specs.Space.{CanBeAdded, CodedSpace}

-- a value can be added once the pages of its run are made
pub put_ready : (s : Dimensions) (space : CodedSpace) (body : Body) (flags : ℕ) (until : Option ℕ) (run : Run) (delta : List ℕ)
    → body ≡ Put flags until run delta
    → space.shape ≡ s → Writes (space_of s) body → AllMade space.shape.block run space.made → CanBeAdded s space.made body
put_ready s space body flags until run delta is shape writes made =
    let fits = subst (Writes (space_of s)) is writes in
    subst (CanBeAdded s space.made) (sym is) (fits.inside, sym fits.long, subst (λ (t : Dimensions). AllMade t.block run space.made) shape made)

-- what could be added still can
pub still_ready : (s : Dimensions) (old new : List ℕ) → ((b : ℕ) → Contains old b → Contains new b)
    → (d : ℕ) (u : Update) → (d < s.k) × CanBeAdded s old u.body → (d < s.k) × CanBeAdded s new u.body
still_ready s old new kept d u ready = (ready.0, by u.body ready.1) where
  by : (body : Body) → CanBeAdded s old body → CanBeAdded s new body
  by (Put _ _ run delta) can = (can.0, can.1, λ a from below. kept (a / s.block) (can.2 a from below))
  by Remove can = can
  by (Touch _) can = can
