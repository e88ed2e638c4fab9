-- The entries that one event logs are of different calls, since all entries of a log are.
use Rattle.std.proofs.Common.{ℕ, ◌≡◌, ◌≢◌, ◌<◌, ◌+◌, List, [], ◌∷◌, ◌++◌, length, AllPairs, Some, refl, ap, ◌∙◌, arith}
use Rattle.std.proofs.lemmas.List.{get_or-append-add, length-append}
use Rattle.std.proofs.lemmas.Option.{slice_get-get_or}
use Rattle.std.specs.Prelude.{slice_get, slice_index_or}
use Rattle.group_calls.specs.Turns.{Turn, log_of, name_of}
use Rattle.group_calls.specs.declared.entry.Entry.{Entry}
use Rattle.group_calls.specs.declared.event.Event.{Event}
use Rattle.group_run.specs.Headline.{IsRunFrom, MayCome}
use Rattle.group_run.specs.World.{World, after, opening, step, turns_from, turns_of, world_after}
use Rattle.law_log.proofs.Logging.{log-append}
use Rattle.law_headline.proofs.Headlines.{headline_always}
use Rattle.law_answers.specs.Tickets.{EntriesAlways}

-- one event more
pub run-more : (w : World) (es : List Event) (e : Event) → IsRunFrom w es → MayCome (world_after w es) e → IsRunFrom w (es ++ e ∷ [])
run-more w [] e run may = (may, tt)
run-more w (x ∷ es) e run may = (run.0, run-more (step w x).world es e run.1 may)

pub turns-more : (w : World) (es : List Event) (e : Event) → turns_from w (es ++ e ∷ []) ≡ turns_from w es ++ (step (world_after w es) e).turn ∷ []
turns-more w [] e = refl
turns-more w (x ∷ es) e = ap (λ (turns : List Turn). (step w x).turn ∷ turns) (turns-more (step w x).world es e)

pub after-more : (w : World) (es : List Event) (e : Event) → world_after w (es ++ e ∷ []) ≡ (step (world_after w es) e).world
after-more w [] e = refl
after-more w (x ∷ es) e = after-more (step w x).world es e

-- what all entries have, the last ones have
behind-differ : (front back whole : List Entry) → whole ≡ front ++ back
    → ((i j : ℕ) (a b : Entry) → i < j → slice_get whole i ≡ Some a → slice_get whole j ≡ Some b → name_of a ≢ name_of b)
    → AllPairs (λ a b. name_of a ≢ name_of b) back
behind-differ front back whole is once i j d before below =
    once (length front + i) (length front + j) (slice_index_or back i d) (slice_index_or back j d)
    (omega (arith, before)) (entry i (omega (arith, before, below)))
    (entry j below)
  where
    entry : (n : ℕ) → n < length back → slice_get whole (length front + n) ≡ Some (slice_index_or back n d)
    entry n low =
        let long = length-append front back in
        ap (λ (xs : List Entry). slice_get xs (length front + n)) is
        ∙ slice_get-get_or (front ++ back) (length front + n) d (omega (arith, long, low))
        ∙ ap Some (get_or-append-add front back n d)

pub entries_always : EntriesAlways
entries_always s es e run may =
    behind-differ (log_of (turns_of s es)) (step (after s es) e).turn.logged (log_of (turns_of s (es ++ e ∷ [])))
    (ap log_of (turns-more (opening s) es e) ∙ log-append (turns_of s es) (step (after s es) e).turn)
    (headline_always s (es ++ e ∷ []) (run.0, run-more (opening s) es e run.1 may)).one_log.within.once
