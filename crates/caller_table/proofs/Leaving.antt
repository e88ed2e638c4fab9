-- Where the log of a group stays, so do the places; and the table that a log leaves.
use Rattle.std.proofs.Common.{ℕ, ◌≡◌, ◌<◌, List, [], ◌∷◌, ◌++◌, length, refl, sym, ap, subst, ◌∙◌}
use Rattle.std.specs.Prelude.{slice_index}
use Rattle.std.proofs.lemmas.List.{length-map, length-replicate}
use Rattle.group_types.specs.Dimensions.{Dimensions}
use Rattle.group_types.specs.Lists.{at}
use Rattle.memc_table.specs.Contents.{Contents, empty_table}
use Rattle.group_calls.specs.Log.{table_of}
use Rattle.group_calls.specs.declared.entry.Entry.{Entry}
use Rattle.group_calls.specs.declared.event.Event.{Event}
use Rattle.law_log.specs.Book.{book_of}
use Rattle.law_log.proofs.Laws.{LogTies}
use Rattle.group_run.specs.Replica.{run_of}
use Rattle.group_run.specs.World.{World, after, opening, step, world_after}
use Rattle.caller_table.proofs.Naming.{IsLed, ties}
use Rattle.caller_table.proofs.Placing.{Grows, events-grow, grows-same}

keeps-shape : (w : World) (es : List Event) → (world_after w es).shape ≡ w.shape
keeps-shape w [] = refl
keeps-shape w (e ∷ es) = keeps-shape (step w e).world es

pub led-shape : (s : Dimensions) (w : World) → IsLed s w → w.shape ≡ s
led-shape s w led = ap (λ (x : World). x.shape) led.is ∙ keeps-shape (opening s) led.events

led-long : (s : Dimensions) (w : World) → IsLed s w → length w.places ≡ s.k
led-long s w led = ap (λ (x : World). length x.places) led.is ∙ (events-grow (opening s) led.events (length-replicate s.k [])).long

-- of each partition as many places as the table counts
led-count : (s : Dimensions) (w : World) → IsLed s w → (d : ℕ) → d < s.k → length (at [] w.places d) ≡ slice_index (table_of (empty_table s.k) w.log).counts d
led-count s w led d low = subst (λ (x : World). length (at [] x.places d) ≡ slice_index (table_of (empty_table s.k) x.log).counts d) (sym led.is)
    (ap length (tied.placed d) ∙ length-map (at [] (book_of s led.events).history.settled d) (λ u. run_of u.body) ∙ sym (tied.stands.ties.counts d low))
  where
    tied : LogTies s led.events
    tied = ties s led.events led.run

pub places-same : (s : Dimensions) (w : World) (es : List Event) → IsLed s w → IsLed s (world_after w es)
    → (world_after w es).log ≡ w.log → (world_after w es).places ≡ w.places
places-same s w es led behind same = grows-same s.k w.places (world_after w es).places (led-long s w led)
    (subst (λ (t : Dimensions). Grows t.k w.places (world_after w es).places) (led-shape s w led)
    (events-grow w es (led-long s w led ∙ sym (ap (λ (t : Dimensions). t.k) (led-shape s w led)))))
    (λ d low. led-count s (world_after w es) behind d low
    ∙ ap (λ (log : List Entry). slice_index (table_of (empty_table s.k) log).counts d) same
    ∙ sym (led-count s w led d low))
