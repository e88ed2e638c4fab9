-- Links that are further on, or as far.
use Rattle.std.proofs.Common.{◌≡◌, ◌≤◌, ◌<◌, ℕ, zero, suc, List, [], ◌∷◌, ◌++◌, map, length, get_or, set, ap, sym, ◌∙◌, subst, arith, rules}
use Rattle.std.proofs.lemmas.Grind.{common_steps}
use Rattle.member_links.specs.declared.link.Link.{Link}
use Rattle.member_links.specs.Stages.{age}
use Rattle.member_links.specs.Ages.{ages, NoneGoesBack}

-- the same links
pub stays : (before after : List Link) → after ≡ before → NoneGoesBack before after
stays before after same = record { each = λ x. grind (arith, common_steps, same) }

-- one behind the other
pub goes_on : (before between after : List Link) → NoneGoesBack before between → NoneGoesBack between after → NoneGoesBack before after
goes_on before between after first then = record { each = λ x. omega (arith, first.each x, then.each x) }

set_at : (before : List Link) (i : ℕ) (w d : Link) → d ≡ get_or before i d → age d.stage ≤ age w.stage → (x : ℕ)
    → get_or (ages before) x 0 ≤ get_or (ages (set before i w)) x 0
unfolding ages
set_at [] i w d is older x = omega arith
set_at (l ∷ ls) zero w d is older zero = omega (arith, ap (λ (link : Link). age link.stage) is)
set_at (l ∷ ls) zero w d is older (suc x) = omega arith
set_at (l ∷ ls) (suc i) w d is older zero = omega arith
set_at (l ∷ ls) (suc i) w d is older (suc x) = set_at ls i w d is older x

-- one link is further on
pub is_set : (before : List Link) (i : ℕ) (w d : Link) → d ≡ get_or before i d → age d.stage ≤ age w.stage → NoneGoesBack before (set before i w)
is_set before i w d is older = record { each = set_at before i w d is older }

behind_at : (before more : List Link) → (x : ℕ) → get_or (ages before) x 0 ≤ get_or (ages (before ++ more)) x 0
unfolding ages
behind_at [] more x = omega arith
behind_at (l ∷ ls) more zero = omega arith
behind_at (l ∷ ls) more (suc x) = behind_at ls more x

-- more links behind them
pub is_behind : (before more after : List Link) → after ≡ before ++ more → NoneGoesBack before after
is_behind before more after is = record { each = λ x. rw is (behind_at before more x) }

-- how the links of one call follow from those of others
pub ruleset aging = (stays, goes_on, is_set, is_behind)
