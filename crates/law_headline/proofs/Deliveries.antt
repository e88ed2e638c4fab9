-- Along every run in which all stands that the headline carries, and each session follows a plan, every delivery
-- fits.
use Rattle.std.proofs.Common.{◌≡◌, ◌≢◌, List, ◌∷◌, subst}
use Rattle.group_types.specs.Dimensions.{Dimensions}
use Rattle.group_types.specs.Names.{IsProcess}
use Rattle.group_types.specs.declared.process.ProcessId.{ProcessId}
use Rattle.group_message.specs.declared.message.Message.{Message}
use Rattle.group_calls.specs.declared.event.Event.{Event}
use Rattle.group_run.specs.Fitting.{Fits}
use Rattle.group_run.specs.Headline.{IsRun}
use Rattle.group_run.specs.Meaning.{Lives, link, process_of}
use Rattle.group_run.specs.World.{World, after}
use Rattle.law_moves.specs.State.{state_of}
use Rattle.law_log.specs.Book.{book_of}
use Rattle.law_log.proofs.Books.{book-world}
use Rattle.law_headline.proofs.Promises.{WholeAlways}
use Rattle.law_bytes.proofs.Stamps.{SessionsStand}
use Rattle.law_headline.proofs.Always.{stands-always}
use Rattle.law_headline.proofs.Planned.{planned_fit}

module _ (s : Dimensions) (always : WholeAlways s) (plans : (es : List Event) → IsRun s es → SessionsStand s (state_of (book_of s es).history)) where
  pub deliveries-fit-always : (es : List Event) → IsRun s es → (from to : ProcessId) (m : Message) (rest : List Message)
      → IsProcess s from → IsProcess s to → from ≢ to → Lives (after s es) to
      → link (after s es) from to ≡ m ∷ rest → Fits s from m (process_of (after s es) to)
  deliveries-fit-always es run =
      subst (λ (w : World). (from to : ProcessId) (m : Message) (rest : List Message) → IsProcess s from
      → IsProcess s to → from ≢ to → Lives w to → link w from to ≡ m ∷ rest → Fits s from m (process_of w to))
      (book-world s es)
      (λ from to m rest fin tin apart lives first. planned_fit s (book_of s es).issued (state_of (book_of s es).history)
      (stands-always s always es run) (plans es run) from to m rest fin tin apart lives.1 first)
