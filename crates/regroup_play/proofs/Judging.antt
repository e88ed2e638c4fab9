-- What a line `regroup` does, by what came of the carry.
use Rattle.std.proofs.Common.{ℕ, zero, suc, ◌≡◌, ◌+◌, ◌≤◌, ◌<◌, ◌⊎◌, inl, inr, ◌&&◌, Bool, true, false, nat_lt, nat_le}
use Rattle.std.proofs.Common.{if◌then◌else◌, codes, List, [], ◌∷◌, ◌++◌, length, Option, Some, None, Result, Ok, Err}
use Rattle.std.proofs.Common.{refl, sym, ap, subst, ◌∙◌, arith}
use Rattle.std.proofs.lemmas.Bool.Decides.{nat_tests}
use Rattle.std.specs.Prelude.{IfErr, IfOk, OnOk}
use Rattle.std.specs.Fmt.{decimal}
use Rattle.group_regroup.specs.Carrying.{IsLeftByFault}
use Rattle.std.specs.List.{list_all, range_with_len}
use Rattle.std.specs.Option.{is_some}
use Rattle.group_types.specs.Dimensions.{Dimensions, space_of}
use Rattle.group_calls.specs.declared.event.Event.{Event}
use Rattle.group_run.specs.Draining.{next_delivery}
use Rattle.group_run.specs.Meaning.{IsDown, IsDrained}
use Rattle.group_run.specs.Shown.{is_down}
use Rattle.group_run.specs.World.{World}
use Rattle.law_causes.specs.Drained.{NextTellsDrained}
use Rattle.law_causes.proofs.Drained.{next_always}
use Rattle.scenario_run.proofs.Truth.{up}
use Rattle.scenario_text.specs.declared.line.LineFault.{LineFault}
use Rattle.scenario_text.specs.declared.line.LineFault.TheVariants as line
use Rattle.group_eras.specs.Carry.{carried, many_carried}
use Rattle.group_eras.specs.Eras.{Eras}
use Rattle.group_eras.specs.Items.{bytes_in_partition}
use Rattle.group_eras.specs.Promise.{Carries, EraMove, IsEra, IsLed}
use Rattle.group_eras.specs.Refusal.{CanCarry, IsFirstTooLong, IsRefused}
use Rattle.group_eras.specs.declared.fault.CarryFault.{CarryFault}
use Rattle.group_eras.specs.declared.fault.CarryFault.TheVariants.{Down, NoSpace, NotDrained, Want}
use Rattle.group_eras.proofs.Promises.{eras_are_runs}
use Rattle.scenario_run.specs.Course.{Goes}
use Rattle.regroup_run.specs.Playing.{EraNext, EraPlay, by_carry, by_regroup, has_space, logged_since, refuses}
use Rattle.regroup_run.specs.Texts.{era_entries_text}
use Rattle.scenario_play.specs.Script.{HasDone}
use Rattle.regroup_play.specs.Carrying.{HasCarriedOn, HasToldRefusal, IsWrittenAs, carried_text}
use Rattle.regroup_play.proofs.Logged.{carried-era, carry-written}

is-down : (w : World) → IsDown w → is_down w ≡ true
is-down w down = by (is_down w) refl where
  by : (b : Bool) → is_down w ≡ b → b ≡ true
  by true is = refl
  by false is = absurd (up w is down)

not-down : (w : World) → ¬ (IsDown w) → is_down w ≡ false
not-down w not_down = by (is_down w) refl where
  by : (b : Bool) → is_down w ≡ b → b ≡ false
  by true is = absurd (not_down (grind (arith, nat_tests)))
  by false is = refl

tells : (e : Eras) → IsLed e → NextTellsDrained e.world
tells e led = let era : IsEra e = (eras_are_runs e led).era in subst NextTellsDrained (sym era.stands) (next_always e.world.shape era.events era.run)

at-rest : (e : Eras) → IsLed e → IsDrained e.world → is_some (next_delivery e.world) ≡ false
at-rest e led drained = ap is_some ((tells e led).1 drained)

waiting : (e : Eras) → IsLed e → ¬ (IsDrained e.world) → is_some (next_delivery e.world) ≡ true
waiting e led moving = by (next_delivery e.world) refl where
  by : (o : Option Event) → next_delivery e.world ≡ o → is_some o ≡ true
  by None is = absurd (moving ((tells e led).0 is))
  by (Some x) is = refl

all-true : (f : ℕ → Bool) (a n : ℕ) → ((d : ℕ) → a ≤ d → d < a + n → f d ≡ true) → list_all f (range_with_len a n) ≡ true
all-true f a zero each = refl
all-true f a (suc n) each =
    ap (λ (b : Bool). b && list_all f (range_with_len (a + 1) n)) (each a (omega arith) (omega arith))
    ∙ all-true f (a + 1) n (λ d low high. each d (omega (arith, low)) (omega (arith, high)))

this-or-later : (a d : ℕ) → a ≤ d → (d ≡ a) ⊎ (a + 1 ≤ d)
this-or-later a d low = by (nat_lt a d) refl where
  by : (b : Bool) → nat_lt a d ≡ b → (d ≡ a) ⊎ (a + 1 ≤ d)
  by true less = inr (grind (arith, nat_tests))
  by false less = inl (grind (arith, nat_tests))

and-false : (b : Bool) → (b && false) ≡ false
and-false true = refl
and-false false = refl

one-false : (f : ℕ → Bool) (a n d : ℕ) → a ≤ d → d < a + n → f d ≡ false → list_all f (range_with_len a n) ≡ false
one-false f a zero d low high is = absurd (omega (arith, low, high))
one-false f a (suc n) d low high is = by (this-or-later a d low) (λ later. one-false f (a + 1) n d later (omega (arith, high)) is) where
  by : (d ≡ a) ⊎ (a + 1 ≤ d) → (a + 1 ≤ d → list_all f (range_with_len (a + 1) n) ≡ false) → (f a && list_all f (range_with_len (a + 1) n)) ≡ false
  by (inl same) later = ap (λ (b : Bool). b && list_all f (range_with_len (a + 1) n)) (ap f (sym same) ∙ is)
  by (inr above) later = ap (λ (b : Bool). f a && b) (later above) ∙ and-false (f a)

at-most : (a b : ℕ) → a ≤ b → nat_le a b ≡ true
at-most a b low = grind (arith, nat_tests)

above : (a b : ℕ) → b < a → nat_le a b ≡ false
above a b high = grind (arith, nat_tests)

fits : (w : World) (s : Dimensions) → ((d : ℕ) → d < w.shape.k → bytes_in_partition w d ≤ space_of s) → has_space w s ≡ true
fits w s low = all-true (λ d. nat_le (bytes_in_partition w d) (space_of s)) 0 w.shape.k
    (λ d low' high. at-most (bytes_in_partition w d) (space_of s) (low d (omega (arith, high))))

too-long : (w : World) (s : Dimensions) (d : ℕ) → IsFirstTooLong w s d → has_space w s ≡ false
too-long w s d long =
    let there = long.partition in
    one-false (λ x. nat_le (bytes_in_partition w x) (space_of s)) 0 w.shape.k d (omega arith) (omega (arith, there))
    (above (bytes_in_partition w d) (space_of s) long.long)

-- what came of a carry, by the clauses of it
pub from-carry : (e f : Eras) (s : Dimensions) (r : Result ℕ CarryFault) → OnOk r (f ≡ carried e s)
    → IfOk r (λ n. n ≡ many_carried e) → OnOk r (CanCarry e.world s) → IfErr r (IsRefused e.world s)
    → IfErr r (IsLeftByFault e f)
    → HasCarriedOn e f s r
from-carry e f s (Ok n) eras many can fault left = (can, eras, many)
from-carry e f s (Err Down) eras many can fault left = (fault, left)
from-carry e f s (Err NotDrained) eras many can fault left = (fault, left)
from-carry e f s (Err (NoSpace d)) eras many can fault left = (fault, left)
from-carry e f s (Err Want) eras many can fault left = tt

-- the era goes on
pub era-low : (e f : Eras) (s : Dimensions) (n era : ℕ) → HasCarriedOn e f s (Ok n) → era ≡ e.era → era ≤ f.era
era-low e f s n era (can, is, many) same = let later = ap (λ (g : Eras). g.era) is ∙ carried-era e s in omega (arith, same, later)

module _ (p : EraPlay) (s : Dimensions) where
  -- what the line does, by its three questions
  abbrev asks : Bool → Bool → Bool → EraNext
  asks down waits space = if down then refuses p (codes "down") else
      (if waits then refuses p (codes "not_drained") else
      (if space then by_carry p s else refuses p (codes "no_space")))

  asked : (down waits space : Bool) → is_down p.eras.world ≡ down → is_some (next_delivery p.eras.world) ≡ waits
      → has_space p.eras.world s ≡ space → by_regroup p s ≡ asks down waits space
  asked down waits space isdown iswaits isspace =
      ap (λ (b : Bool). asks b (is_some (next_delivery p.eras.world)) (has_space p.eras.world s)) isdown
      ∙ ap (λ (b : Bool). asks down b (has_space p.eras.world s)) iswaits
      ∙ ap (asks down waits) isspace

  written-done : (next : EraNext) (now : EraPlay) (turns : List EraMove) (text wanted : List ℕ)
      (r : Result (Option (List ℕ)) LineFault) → next ≡ Goes (Some now) turns text → wanted ≡ text
      → IsWrittenAs wanted r
      → HasDone line.Want (Some p) next (Some now) r
  written-done next now turns text wanted r is same written = subst (λ (x : EraNext). HasDone line.Want (Some p) x (Some now) r) (sym is) (by r written) where
    by : (r : Result (Option (List ℕ)) LineFault) → IsWrittenAs wanted r → HasDone line.Want (Some p) (Goes (Some now) turns text) (Some now) r
    by (Ok (Some t)) written = (refl, written ∙ same)
    by (Ok None) written = absurd written
    by (Err line.Want) written = inl refl
    by (Err line.BadLine) written = absurd written
    by (Err (line.BadShape field)) written = absurd written

  pub carry-done : (f : Eras) (n era from : ℕ) (r : Result (Option (List ℕ)) LineFault) → IsLed p.eras
      → HasCarriedOn p.eras f s (Ok n) → era ≡ p.eras.era → from ≡ length p.eras.world.log
      → IsWrittenAs (carried_text f era from n) r → HasDone line.Want (Some p) (by_regroup p s) (Some (record { eras = f; moment = p.moment })) r
  carry-done f n era from r led (can, is, many) era_is from_is written =
      written-done (by_regroup p s) (record { eras = f; moment = p.moment }) (Carries s ∷ []) wanted (carried_text f era from n) r
      (asked false false true (not-down p.eras.world can.rest.up) (at-rest p.eras led can.rest.drained) (fits p.eras.world s can.space)
      ∙ ap (λ (g : Eras). Goes (Some (record { eras = g; moment = p.moment })) (Carries s ∷ []) wanted) (sym is)) text-is written where
        wanted : List ℕ
        wanted = codes "regrouped " ++ (decimal (many_carried p.eras) ++ 10 ∷ era_entries_text (logged_since p.eras.log (carried p.eras s).log))

        text-is : carried_text f era from n ≡ codes "regrouped "
            ++ (decimal (many_carried p.eras) ++ 10 ∷ era_entries_text (logged_since p.eras.log (carried p.eras s).log))
        text-is = ap (λ (g : Eras). carried_text g era from n) is ∙ ap (λ (k : ℕ). carried_text (carried p.eras s) era from k) many
            ∙ ap (λ (xs : List ℕ). codes "regrouped " ++ (decimal (many_carried p.eras) ++ 10 ∷ xs))
            (carry-written p.eras s era from (carried p.eras s).era led era_is from_is refl)

  refusal-at : (text : List ℕ) (f : Eras) (wanted : List ℕ) (r : Result (Option (List ℕ)) LineFault)
      → by_regroup p s ≡ refuses p text → f ≡ p.eras → wanted ≡ text ++ 10 ∷ [] → IsWrittenAs wanted r
      → HasDone line.Want (Some p) (by_regroup p s) (Some (record { eras = f; moment = p.moment })) r
  refusal-at text f wanted r next same is written =
      subst (λ (g : Eras). HasDone line.Want (Some p) (by_regroup p s) (Some (record { eras = g; moment = p.moment }))
      r) (sym same) (written-done (by_regroup p s) p [] (text ++ 10 ∷ []) wanted r next is written)

  pub refusal-done : (f : Eras) (fault : CarryFault) (r : Result (Option (List ℕ)) LineFault) → IsLed p.eras
      → HasCarriedOn p.eras f s (Err fault) → HasToldRefusal fault r
      → HasDone line.Want (Some p) (by_regroup p s) (Some (record { eras = f; moment = p.moment })) r
  refusal-done f Down r led (down, same) told = refusal-at (codes "down") f (codes "down\n") r
      (asked true _ _ (is-down p.eras.world down) refl refl) same refl told
  refusal-done f NotDrained r led (moving, same) told =
      refusal-at (codes "not_drained") f (codes "not_drained\n") r
      (asked false true _ (not-down p.eras.world moving.0) (waiting p.eras led moving.1) refl) same refl told
  refusal-done f (NoSpace d) r led (long, same) told =
      refusal-at (codes "no_space") f (codes "no_space\n") r
      (asked false false false (not-down p.eras.world long.0.up) (at-rest p.eras led long.0.drained) (too-long p.eras.world s d.0 long.1)) same refl told
  refusal-done f Want (Err line.Want) led carried told = inl refl
  refusal-done f fault r led carried told = absurd told
