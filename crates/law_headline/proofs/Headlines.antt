-- The public laws, from all that stands along every run.
use Rattle.std.proofs.Common.{subst}
use Rattle.group_run.specs.History.{History}
use Rattle.group_run.specs.Recovery.{CopiesHoldCode, RebuiltIsSettled}
use Rattle.law_moves.specs.State.{state_of}
use Rattle.law_log.specs.Book.{book_of, no_book}
use Rattle.law_log.proofs.Books.{book-history, book-world}
use Rattle.law_bytes.proofs.Stamps.{SessionsStand}
use Rattle.law_log.proofs.Headline.{calls_are_known}
use Rattle.law_headline.specs.Laws.{CallsAlways, CopiesAlways, FitsAlways, HeadlineAlways, RebuiltAlways}
use Rattle.law_headline.proofs.Laws.{PlansAlways}
use Rattle.law_headline.proofs.All.{all-always, whole-always}
use Rattle.law_headline.proofs.Deliveries.{deliveries-fit-always}
use Rattle.law_headline.proofs.Promises.{headline, keeps, shaped, shown, stands-always, whole}
use Rattle.law_headline.proofs.Recovery.{copies-hold-code, rebuilt-is-settled}

pub headline_always : HeadlineAlways
headline_always s es run = headline s (whole-always s) es run

pub rebuilt_always : RebuiltAlways
rebuilt_always s es run = subst RebuiltIsSettled (book-world s es)
    (rebuilt-is-settled (book_of s es).history (book_of s es).issued (shaped s (whole-always s) es run)
    (whole s (whole-always s) es run) (shown s (whole-always s) es run) (keeps s (whole-always s) es run))

pub copies_always : CopiesAlways
copies_always s es run = subst CopiesHoldCode (book-world s es)
    (copies-hold-code (book_of s es).history (book_of s es).issued (shaped s (whole-always s) es run)
    (whole s (whole-always s) es run) (shown s (whole-always s) es run) (keeps s (whole-always s) es run))

pub plans_always : PlansAlways
plans_always s es run = subst (λ (h : History). SessionsStand s (state_of h)) (book-history (no_book s) es) (all-always s es run).stamps

pub fits_always : FitsAlways
fits_always s es run = deliveries-fit-always s (whole-always s) (λ fs ran. (all-always s fs ran).stamps) es run

pub calls_always : CallsAlways
calls_always s es run = calls_are_known s (stands-always s (whole-always s)) es run
