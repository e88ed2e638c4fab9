-- Events whose ops go in as they are: the eras that a group stands for after them are those that the events make.
use Rattle.std.proofs.Common.{◌≡◌, ℕ, zero, suc, ℤ, ◌+◌, ◌≤◌, Bool, true, false, if◌then◌else◌, List, [], ◌∷◌, ◌++◌}
use Rattle.std.proofs.Common.{length, Option, Some, None, refl, sym, ap, ◌∙◌, length-append, arith}
use Rattle.std.specs.Prelude.{All}
use Rattle.std.proofs.lemmas.List.Elements.{All-weaker}
use Rattle.std.specs.List.{range_with_len}
use Rattle.group_types.specs.Each.{Each}
use Rattle.group_types.specs.declared.process.ProcessId.{ProcessId}
use Rattle.group_types.specs.declared.process.ProcessId.TheVariants.{DataNode}
use Rattle.memc_table.specs.declared.act.Act.TheVariants.{Get, Set}
use Rattle.group_calls.specs.declared.entry.Entry.{Entry}
use Rattle.group_calls.specs.declared.event.Event.{Event}
use Rattle.group_calls.specs.declared.event.Event.TheVariants.{Ask}
use Rattle.group_run.specs.Draining.{drain_events, event_or, next_among, next_delivery, next_from, next_target}
use Rattle.group_run.specs.Headline.{IsRunFrom}
use Rattle.group_run.specs.Progress.{load_of}
use Rattle.group_run.specs.World.{World, WorldStep, step, world_after}
use Rattle.law_moves.proofs.Reading.{grown-is}
use Rattle.group_core.specs.Runs.{HasRun}
use Rattle.group_core.proofs.Runs.{goes-on, tickets-stand}
use Rattle.group_eras.specs.Carry.{Parcel, drained, draining, expiry_of, get_of, get_with, got, got_behind, is_retry, only_got, read_all, set_of, setting}
use Rattle.group_eras.specs.Eras.{Eras, carrier, era_step, eras_after}
use Rattle.group_eras.specs.Items.{Load, head_of}
use Rattle.group_eras.specs.Told.{Bases, event_in}
use Rattle.group_regroup.specs.declared.changing.Lowered.{Lowered}
use Rattle.group_regroup.specs.Kept.{eras_of, lowered_by, lowered_until}
use Rattle.group_regroup.proofs.Stepped.{told-step}

-- whatever the world, the event goes in as it is
pub record IsPlain (bases : Bases) (k : ℕ) (e : Event) : Type 0 where
  pub same : event_in bases k e ≡ e
  pub none : (w : World) → w.shape.k ≡ k → lowered_by w bases e ≡ None

module _ (bases : Bases) (past : List (List Entry)) (l : List Lowered) where
  plain-step : (w : World) (e : Event) → HasRun w → IsPlain bases w.shape.k e → All (λ x. x.until ≤ length w.log) l
      → eras_of (step w e).world bases past l ≡ (era_step (eras_of w bases past l) e).eras
  plain-step w e has plain within =
      ap (λ (f : Event). eras_of (step w f).world bases past l) (sym plain.same)
      ∙ sym (ap (λ (x : Option Lowered). eras_of (step w (event_in bases w.shape.k e)).world bases past
      (lowered_until l x (length (step w (event_in bases w.shape.k e)).world.log))) (plain.none w refl))
      ∙ told-step w bases past l e (tickets-stand w has).asked within

  later : (w : World) (e : Event) → All (λ (x : Lowered). x.until ≤ length w.log) l → All (λ (x : Lowered). x.until ≤ length (step w e).world.log) l
  later w e within = All-weaker (λ (x : Lowered). x.until ≤ length w.log) (λ (x : Lowered). x.until ≤ length (step w e).world.log)
      (λ x low. let grows = ap length (grown-is w.log (step w e).turn.logged)
      ∙ length-append w.log (step w e).turn.logged in omega (arith, low, grows)) l within

  pub plain-after : (w : World) (es : List Event) → HasRun w → IsRunFrom w es → Each (IsPlain bases w.shape.k) es → All (λ x. x.until ≤ length w.log) l
      → eras_of (world_after w es) bases past l ≡ eras_after (eras_of w bases past l) es
  plain-after w [] has run plain within = refl
  plain-after w (e ∷ es) has run plain within =
      plain-after (step w e).world es (goes-on w e has run.0) run.1 plain.1 (later w e within)
      ∙ ap (λ (x : Eras). eras_after x es) (plain-step w e has plain.0 within)

pub each-append : (P : Event → Type 0) (xs ys : List Event) → Each P xs → Each P ys → Each P (xs ++ ys)
each-append P [] ys all more = more
each-append P (x ∷ xs) ys (here, rest) more = (here, each-append P xs ys rest more)

-- deliveries, gets and sets are plain
module _ (bases : Bases) (k : ℕ) where
  pub plain-get : (caller : ℕ) (key : List ℕ) (p : ProcessId) → IsPlain bases k (Ask caller (record { moment = 0; act = Get key }) p)
  plain-get caller key p = record { same = refl; none = λ w is. refl }

  pub plain-set : (caller : ℕ) (key : List ℕ) (flags : ℕ) (expiry : ℤ) (value : List ℕ) (p : ProcessId)
      → IsPlain bases k (Ask caller (record { moment = 0; act = Set key flags expiry value }) p)
  plain-set caller key flags expiry value p = record { same = refl; none = λ w is. refl }

  abbrev pub MayBePlain : Option Event → Type 0
  MayBePlain None = Unit {0}
  MayBePlain (Some e) = IsPlain bases k e

  plain-from : (w : World) (x : ℕ) (o : Option ℕ) → MayBePlain (next_from w x o)
  plain-from w x None = tt
  plain-from w x (Some y) = record { same = refl; none = λ v is. refl }

  plain-or : (a b : Option Event) → MayBePlain a → MayBePlain b → MayBePlain (event_or a b)
  plain-or None b one two = two
  plain-or (Some e) b one two = one

  plain-among : (w : World) (xs : List ℕ) → MayBePlain (next_among w xs)
  plain-among w [] = tt
  plain-among w (x ∷ xs) = plain-or (next_from w x (next_target w x (range_with_len 0 (w.shape.k + w.shape.m))))
      (next_among w xs) (plain-from w x (next_target w x (range_with_len 0 (w.shape.k + w.shape.m)))) (plain-among w xs)

  pub plain-drain : (n : ℕ) (w : World) → Each (IsPlain bases k) (drain_events n w)
  plain-drain zero w = tt
  plain-drain (suc n) w = by (next_delivery w) (plain-among w (range_with_len 0 (w.shape.k + w.shape.m))) (λ v. plain-drain n v) where
    by : (o : Option Event) → MayBePlain o → ((v : World) → Each (IsPlain bases k) (drain_events n v))
        → Each (IsPlain bases k) (elim o [ None ↦ [] | Some e ↦ e ∷ drain_events n (step w e).world ])
    by None plain rest = tt
    by (Some e) plain rest = (plain, rest (step w e).world)

  plain-tries : (n : ℕ) (get : Event) (t : WorldStep) → IsPlain bases k get → Each (IsPlain bases k) (get_with n get t).events
  plain-tries zero get t plain = (plain, tt)
  plain-tries (suc n) get t plain = by (is_retry t.turn.answer) (plain-tries n get (step (drained t.world) get) plain) where
    by : (b : Bool) → Each (IsPlain bases k) (get_with n get (step (drained t.world) get)).events
        → Each (IsPlain bases k) (if b then got_behind (get ∷ draining t.world) (get_with n get (step (drained t.world) get)) else only_got get t).events
    by true rest = each-append (IsPlain bases k) (get ∷ draining t.world)
        (get_with n get (step (drained t.world) get)).events (plain, plain-drain (load_of t.world) t.world) rest
    by false rest = (plain, tt)

  pub plain-reads : (w : World) (xs : List Load) → Each (IsPlain bases k) (read_all w xs).events
  plain-reads w [] = tt
  plain-reads w (x ∷ xs) =
      each-append (IsPlain bases k) (got w x).events (read_all (got w x).world xs).events
      (plain-tries w.shape.blocks (get_of w x) (step w (get_of w x))
      (plain-get carrier x.key (head_of w x.partition))) (plain-reads (got w x).world xs)

  pub plain-sets : (w : World) (xs : List Parcel) → Each (IsPlain bases k) (setting w xs)
  plain-sets w [] = tt
  plain-sets w (x ∷ xs) =
      each-append (IsPlain bases k) (set_of x ∷ draining (step w (set_of x)).world) (setting (drained (step w (set_of x)).world) xs) (
        plain-set carrier x.key x.flags (expiry_of x.until) x.value (DataNode x.partition),
        plain-drain (load_of (step w (set_of x)).world) (step w (set_of x)).world,
      )
      (plain-sets (drained (step w (set_of x)).world) xs)
