-- The laws of the log.
use Rattle.std.proofs.Common.{◌≡◌, sym, ap, subst, ◌∙◌}
use Rattle.group_types.specs.Dimensions.{Dimensions}
use Rattle.group_calls.specs.Turns.{log_of}
use Rattle.group_run.specs.World.{World, after}
use Rattle.law_log.specs.Book.{book_of, no_book}
use Rattle.law_log.specs.Laws.{LogIsOne}
use Rattle.law_log.proofs.Laws.{LogIsTied}
use Rattle.law_log.proofs.Ties.{ArePlaced, LogStands}
use Rattle.law_log.proofs.Books.{book-shape, book-turns, book-world}
use Rattle.law_log.proofs.Logging.{LogsOf, log_kept, logs_always}
use Rattle.law_log.proofs.Withins.{answers_within}

pub log_is_tied : LogIsTied
log_is_tied s always es run =
    let logs : LogsOf (book_of s es) = logs_always s always es run in
    let world : (book_of s es).history.world ≡ after s es = book-world s es in
    record {
      stands = subst (λ (w : World). LogStands s (book_of s es).issued w.log (book_of s es).history.settled) world
          (subst (λ (t : Dimensions). LogStands t (book_of s es).issued (book_of s es).history.world.log
          (book_of s es).history.settled) (book-shape s es) logs.stands);
      placed = subst (λ (w : World). ArePlaced w.places (book_of s es).history.settled) world logs.placed;
    }

pub log_is_one : LogIsOne
log_is_one s always stays es run = record {
  kept = ap (λ (w : World). w.log) (sym (book-world s es)) ∙ log_kept s es run ∙ ap log_of (book-turns (no_book s) es);
  legal = (log_is_tied s always es run).stands.legal;
  within = answers_within s always es run stays;
}
