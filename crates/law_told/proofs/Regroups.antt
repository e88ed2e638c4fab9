-- What a line `regroup` tells that names a shape.
use Rattle.std.proofs.Common.{ℕ, zero, suc, ◌≡◌, ◌≤◌, ◌<◌, ◌+◌, Bool, true, false, ◌&&◌, nat_le, List, [], ◌∷◌, ◌++◌}
use Rattle.std.proofs.Common.{codes, Option, Some, None, if◌then◌else◌, refl, sym, ap, ◌∙◌, arith}
use Rattle.std.proofs.lemmas.Bool.Decides.{nat_tests}
use Rattle.std.specs.List.{list_all, range_with_len}
use Rattle.std.specs.Option.{is_some}
use Rattle.group_types.specs.Dimensions.{Dimensions, space_of}
use Rattle.group_calls.specs.declared.event.Event.{Event}
use Rattle.group_run.specs.Draining.{next_delivery}
use Rattle.group_run.specs.Meaning.{IsDown}
use Rattle.group_run.specs.Shown.{is_down}
use Rattle.group_run.specs.World.{World}
use Rattle.scenario_text.specs.Meaning.{line_meaning}
use Rattle.scenario_text.specs.Words.{split_words}
use Rattle.scenario_run.specs.Course.{Goes}
use Rattle.scenario_run.proofs.Running.{parts}
use Rattle.scenario_run.proofs.Truth.{up}
use Rattle.group_eras.specs.Carry.{carried}
use Rattle.group_eras.specs.Items.{bytes_in_partition}
use Rattle.group_eras.specs.Promise.{Carries, EraMove, IsLed}
use Rattle.group_eras.specs.Refusal.{CanCarry}
use Rattle.regroup_run.specs.Meaning.{regroup_line}
use Rattle.regroup_run.specs.Playing.{EraPlay, by_carry, by_regroup, has_space, next_by, refuses, regroup_by, shape_in}
use Rattle.regroup_run.proofs.Running.{all-fit, next-tells}
use Rattle.law_told.specs.Regroups.{IsNothingCarried, RegroupTells, RegroupsTell}

is-down : (w : World) → is_down w ≡ true → IsDown w
is-down w down = grind (arith, nat_tests)

no-next : (o : Option Event) → is_some o ≡ false → o ≡ None
no-next None is = refl
no-next (Some e) is = absurd (cc is)

some-next : (o : Option Event) → is_some o ≡ true → o ≡ None → ⊥
some-next None is none = cc is
some-next (Some e) is none = cc none

-- a test that each number of a range passes
all-pass : (f : ℕ → Bool) (a n : ℕ) → ((d : ℕ) → a ≤ d → d < a + n → f d ≡ true) → list_all f (range_with_len a n) ≡ true
all-pass f a zero each = refl
all-pass f a (suc n) each =
    ap (λ (b : Bool). b && list_all f (range_with_len (a + 1) n)) (each a (omega arith) (omega arith))
    ∙ all-pass f (a + 1) n (λ d low high. each d (omega (arith, low)) (omega (arith, high)))

at-most : (a b : ℕ) → a ≤ b → nat_le a b ≡ true
at-most a b fits = grind (arith, nat_tests)

has-space : (w : World) (s : Dimensions) → CanCarry w s → has_space w s ≡ true
has-space w s can = all-pass (λ d. nat_le (bytes_in_partition w d) (space_of s)) 0 w.shape.k
    (λ d low high. at-most (bytes_in_partition w d) (space_of s) (can.space d (omega (arith, high))))

module _ (p : EraPlay) (s : Dimensions) (led : IsLed p.eras) (next : Option EraPlay) (moves : List EraMove) (text : List ℕ) where
  -- nothing is carried
  refusal : (reason : List ℕ) → refuses p reason ≡ Goes next moves text → IsNothingCarried moves text (reason ++ 10 ∷ [])
  refusal reason is = let all = parts (Some p) next [] moves (reason ++ 10 ∷ []) text is in record { nothing = all.1; written = all.2 }

  tells : (down waits space : Bool) → is_down p.eras.world ≡ down → is_some (next_delivery p.eras.world) ≡ waits → has_space p.eras.world s ≡ space
      → (if down then refuses p (codes "down") else
      (if waits then refuses p (codes "not_drained") else
      (if space then by_carry p s else refuses p (codes "no_space")))) ≡ Goes next moves text
      → RegroupTells p s moves text
  tells true waits space isdown iswaits isspace is = record {
    down = λ why. refusal (codes "down") is;
    waits = λ why. absurd (why.0 (is-down p.eras.world isdown));
    long = λ d why. absurd (why.0.up (is-down p.eras.world isdown));
    carries = λ can. absurd (can.rest.up (is-down p.eras.world isdown));
  }
  tells false true space isdown iswaits isspace is = record {
    down = λ why. absurd (up p.eras.world isdown why);
    waits = λ why. refusal (codes "not_drained") is;
    long = λ d why. absurd (some-next (next_delivery p.eras.world) iswaits ((next-tells p.eras led).1 why.0.drained));
    carries = λ can. absurd (some-next (next_delivery p.eras.world) iswaits ((next-tells p.eras led).1 can.rest.drained));
  }
  tells false false true isdown iswaits isspace is = record {
    down = λ why. absurd (up p.eras.world isdown why);
    waits = λ why. absurd (why.1 ((next-tells p.eras led).0 (no-next (next_delivery p.eras.world) iswaits)));
    long = λ d why. (let fits = all-fit p.eras.world s d.0 isspace why.1.partition in let long = why.1.long in absurd (omega (arith, fits, long)));
    carries = λ can. (parts (Some (record { eras = carried p.eras s; moment = p.moment })) next (Carries s ∷ []) moves _ text is).1;
  }
  tells false false false isdown iswaits isspace is = record {
    down = λ why. absurd (up p.eras.world isdown why);
    waits = λ why. absurd (why.1 ((next-tells p.eras led).0 (no-next (next_delivery p.eras.world) iswaits)));
    long = λ d why. refusal (codes "no_space") is;
    carries = λ can. absurd (cc (sym isspace ∙ has-space p.eras.world s can));
  }

pub regroups_tell : RegroupsTell
regroups_tell p line s next moves text led names is = tells p s led next moves text (is_down p.eras.world)
    (is_some (next_delivery p.eras.world)) (has_space p.eras.world s) refl refl refl goes where
      goes : by_regroup p s ≡ Goes next moves text
      goes = ap (regroup_by p) (sym names.shape)
          ∙ sym (ap (λ (b : Bool). if b then regroup_by p (regroup_line p.eras.world.shape.k (split_words line)) else next_by
          (Some p) (line_meaning (shape_in (Some p)) line)) names.word)
          ∙ is
