-- Whom a judgement adds to the dead.
use Rattle.std.specs.Prelude.{ℕ, nat_le, nat_lt, Bool, ◌&&◌, not, List, length, filter, if◌then◌else◌, Option, None}
use Rattle.std.specs.List.{position}
use Rattle.watch_rules.specs.declared.standing.Standing.{Standing}

abbrev pub is_living : Standing → Bool
is_living s = s.alive && not s.dead

abbrev pub is_missing : Standing → Bool
is_missing s = s.seen && not s.alive && not s.dead

abbrev pub count_living : List Standing → ℕ
count_living ss = length (filter is_living ss)

abbrev pub count_dead : List Standing → ℕ
count_dead ss = length (filter (λ s. s.dead) ss)

-- the next that is dead: the first that was there once, isn't any more and isn't dead yet, where at least k others live, and no more
-- than m are dead with it
abbrev pub judged : ℕ → ℕ → List Standing → Option ℕ
judged k m ss = if nat_le k (count_living ss) && nat_lt (count_dead ss) m then position is_missing ss else None
