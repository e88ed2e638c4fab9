-- How far on links are, from one call to the next.
use Rattle.std.specs.Prelude.{ℕ, ◌≤◌, List, map, slice_index}
use Rattle.member_links.specs.Stages.{age}
use Rattle.member_links.specs.declared.link.Link.{Link}

-- how far on links are, in order
unfoldable pub ages : List Link → List ℕ
ages links = map (λ link. age link.stage) links

-- no link goes back
pub record NoneGoesBack (before after : List Link) : Type 0 where
  pub each : (x : ℕ) → slice_index (ages before) x ≤ slice_index (ages after) x
