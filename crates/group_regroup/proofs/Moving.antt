-- What is kept of the eras, after an event of the current one.
use Rattle.std.proofs.Common.{◌≡◌, ℕ, ◌≤◌, List, length, Option, Some, None, sym, ap, subst, ◌∙◌, length-append, arith}
use Rattle.std.specs.Prelude.{All}
use Rattle.std.proofs.lemmas.List.Elements.{All-push, All-weaker}
use Rattle.group_calls.specs.declared.entry.Entry.{Entry}
use Rattle.group_calls.specs.declared.event.Event.{Event}
use Rattle.group_run.specs.World.{World, step}
use Rattle.law_moves.proofs.Reading.{grown-is}
use Rattle.group_core.specs.Runs.{HasRun}
use Rattle.group_core.proofs.Runs.{tickets-stand}
use Rattle.group_eras.specs.Eras.{era_step}
use Rattle.group_eras.specs.Told.{Bases, event_in}
use Rattle.group_regroup.specs.declared.changing.Lowered.{Lowered}
use Rattle.group_regroup.specs.Kept.{KeptFitsWorld, eras_of, lowered_by, lowered_until}
use Rattle.group_regroup.proofs.Stepped.{told-step}

module _ (w v : World) (bases : Bases) (past : List (List Entry)) (l now : List Lowered) (e : Event) (place : ℕ) (x : Option Lowered)
    (kept : KeptFitsWorld w bases l) (stepped : v ≡ (step w (event_in bases w.shape.k e)).world)
    (lowered : x ≡ lowered_by w bases e) (behind : place ≡ length v.log) (is : now ≡ lowered_until l x place) where
  now-is : now ≡ lowered_until l (lowered_by w bases e) (length (step w (event_in bases w.shape.k e)).world.log)
  now-is = is ∙ ap (λ (o : Option Lowered). lowered_until l o place) lowered ∙ ap (lowered_until l (lowered_by w bases e))
      (behind ∙ ap (λ (u : World). length u.log) stepped)

  later : length w.log ≤ length v.log
  later =
      let grows = ap (λ (u : World). length u.log) stepped
      ∙ ap length (grown-is w.log (step w (event_in bases w.shape.k e)).turn.logged)
      ∙ length-append w.log (step w (event_in bases w.shape.k e)).turn.logged in
      omega (arith, grows)

  still : All (λ y. y.until ≤ length v.log) l
  still = All-weaker (λ (y : Lowered). y.until ≤ length w.log) (λ (y : Lowered). y.until ≤ length v.log) (λ y low. omega (arith, low, later)) l kept.within

  within : (o : Option Lowered) → All (λ y. y.until ≤ length v.log) (lowered_until l o place)
  within None = still
  within (Some y) = All-push (λ y. y.until ≤ length v.log) l (record y { until = place }) still (omega (arith, behind))

  pub kept-step : KeptFitsWorld v bases now
  kept-step = record {
    many = kept.many ∙ ap (λ (u : World). u.shape.k) (sym stepped);
    low = kept.low;
    within = subst (All (λ y. y.until ≤ length v.log)) (sym is) (within x);
  }

  pub eras-step : HasRun w → eras_of v bases past now ≡ (era_step (eras_of w bases past l) e).eras
  eras-step has = ap (λ (u : World). eras_of u bases past now) stepped ∙ ap (eras_of (step w (event_in bases w.shape.k e)).world bases past) now-is
      ∙ told-step w bases past l e (tickets-stand w has).asked kept.within
