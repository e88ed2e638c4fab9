-- What a line makes and writes is what it should.
use Rattle.std.proofs.Common.{ℕ, ◌≡◌, ◌++◌, List, [], ◌∷◌, codes, length, drop, Some, Ok, ap, ◌∙◌, append_assoc}
use Rattle.std.specs.Fmt.{decimal}
use Rattle.group_calls.specs.declared.event.Answer.{Answer}
use Rattle.group_calls.specs.declared.event.Event.{Event}
use Rattle.scenario_run.specs.Marks.{marked_entries}
use Rattle.scenario_run.specs.Playing.{draining_unless_down}
use Rattle.scenario_text.specs.Texts.{answer_text}
use Rattle.group_eras.specs.Eras.{Eras, era_step, eras_after}
use Rattle.group_eras.specs.Promise.{IsLed}
use Rattle.group_regroup.specs.Last.{entries_of_era}
use Rattle.regroup_run.specs.Playing.{EraPlay, by_drain, by_event, logged_since}
use Rattle.regroup_run.specs.Texts.{era_entries_text, era_mark}
use Rattle.scenario_play.specs.Script.{HasDone}
use Rattle.scenario_text.specs.declared.line.LineFault.TheVariants.{Want}
use Rattle.regroup_play.proofs.Logged.{Grown, grown, since-event, since-written}

-- an era's entries from a place on
abbrev pub since : Eras → ℕ → ℕ → List ℕ
since f era from = marked_entries (era_mark era) (drop from (entries_of_era era f.log))

module _ (p : EraPlay) (f : Eras) (era from : ℕ) (led : IsLed p.eras) where
  pub event-done : (x : Event) (answer : Answer) (line text : List ℕ) → f ≡ (era_step p.eras x).eras
      → answer ≡ (era_step p.eras x).answer → line ≡ answer_text answer ++ 10 ∷ [] → era ≡ f.era
      → from ≡ length p.eras.world.log → text ≡ line ++ since f era from
      → HasDone Want (Some p) (by_event p x) (Some (record { eras = f; moment = p.moment })) (Ok (Some text))
  event-done x answer line text is told line_is era_is from_is text_is = (
    ap (λ (g : Eras). Some (record { eras = g; moment = p.moment })) is,
    text_is ∙ ap (λ (xs : List ℕ). xs ++ since f era from) line_is ∙ append_assoc (answer_text answer) (10 ∷ []) (since f era from)
        ∙ ap (λ (a : Answer). answer_text a ++ 10 ∷ since f era from) told ∙ ap (λ (xs : List ℕ). answer_text (era_step p.eras x).answer ++ 10 ∷ xs) logged,
  ) where
    behind : Grown p.eras f
    behind = rw is (grown p.eras (x ∷ []))

    logged : since f era from ≡ era_entries_text (era_step p.eras x).logged
    logged = since-written p.eras f era from led behind era_is from_is
        ∙ ap (λ (g : Eras). era_entries_text (logged_since p.eras.log g.log)) is
        ∙ ap era_entries_text (since-event p.eras x)

  pub drain-done : (count : ℕ) (start middle text : List ℕ) → f ≡ eras_after p.eras (draining_unless_down p.eras.world)
      → count ≡ length (draining_unless_down p.eras.world) → era ≡ f.era → from ≡ length p.eras.world.log → start ≡ []
      → middle ≡ start ++ since f era from → text ≡ middle ++ (codes "drained " ++ (decimal count ++ codes "\n"))
      → HasDone Want (Some p) (by_drain p (draining_unless_down p.eras.world)) (Some (record { eras = f; moment = p.moment })) (Ok (Some text))
  drain-done count start middle text is many era_is from_is none middle_is text_is = (
    ap (λ (g : Eras). Some (record { eras = g; moment = p.moment })) is,
    text_is ∙ ap (λ (xs : List ℕ). xs ++ end count) (middle_is ∙ ap (λ (xs : List ℕ). xs ++ since f era from) none
        ∙ logged) ∙ ap (λ (n : ℕ). era_entries_text (logged_since p.eras.log (eras_after p.eras events).log) ++ end n)
        many,
  ) where
    events : List Event
    events = draining_unless_down p.eras.world

    end : ℕ → List ℕ
    end n = codes "drained " ++ (decimal n ++ codes "\n")

    behind : Grown p.eras f
    behind = rw is (grown p.eras events)

    logged : since f era from ≡ era_entries_text (logged_since p.eras.log (eras_after p.eras events).log)
    logged = since-written p.eras f era from led behind era_is from_is ∙ ap (λ (g : Eras). era_entries_text (logged_since p.eras.log g.log)) is
