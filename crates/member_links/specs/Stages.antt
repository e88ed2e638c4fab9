-- How far links are.
use Rattle.std.specs.Prelude.{ℕ, ◌≡◌, ◌≤◌}
use Rattle.member_links.specs.declared.stage.Stage.{Stage}
use Rattle.member_links.specs.declared.stage.Stage.TheVariants.{Absent, Greeting, Up, Broken, Cut, Own}

-- how far on a link is: it never goes back
abbrev pub age : Stage → ℕ
age Absent = 0
age Greeting = 0
age Up = 1
age Broken = 2
age Own = 2
age Cut = 3

-- the other member is waited for
abbrev pub IsMemberAwaited : Stage → Type 0
IsMemberAwaited stage = age stage ≡ 0

-- what is to go to the other member is kept for it
abbrev pub TakesText : Stage → Type 0
TakesText stage = age stage ≤ 1
