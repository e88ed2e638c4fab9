-- Along every run in which all stands that the headline carries, the first message of each link fits.
use Rattle.std.proofs.Common.{◌≡◌, ◌≢◌, List, [], ◌∷◌, ◌++◌, sym, subst}
use Rattle.group_types.specs.Dimensions.{Dimensions}
use Rattle.group_types.specs.Names.{IsProcess}
use Rattle.group_types.specs.Shape.{IsShape}
use Rattle.group_types.specs.declared.process.ProcessId.{ProcessId}
use Rattle.group_message.specs.declared.message.Message.{Message}
use Rattle.group_calls.specs.declared.event.Event.{Event}
use Rattle.group_run.specs.Fitting.{Fits}
use Rattle.group_run.specs.Headline.{IsRun, MayCome}
use Rattle.group_run.specs.History.{History, no_history, prolonged}
use Rattle.group_run.specs.Meaning.{Lives, link, process_of}
use Rattle.group_run.specs.World.{AskedCall, World, after}
use Rattle.law_moves.proofs.Moves.{Failed, Moves, Received, Stays, Treated}
use Rattle.law_moves.specs.State.{State, state_of}
use Rattle.law_moves.proofs.Runs.{runs_move}
use Rattle.law_log.specs.Book.{book_of, booked, no_book}
use Rattle.law_log.proofs.Books.{book-history, book-shape, book-world, book_always}
use Rattle.law_bytes.proofs.LeadingWords.{SessionsFit}
use Rattle.law_bytes.proofs.Leading.{sessions_always_fit}
use Rattle.law_headline.proofs.Joint.{Whole}
use Rattle.law_headline.proofs.Promises.{WholeAlways}
use Rattle.law_headline.proofs.MeetingWords.{GroupStands, RowAsked, SameBlock}
use Rattle.law_headline.proofs.Sound.{LinksSound}
use Rattle.law_headline.proofs.Beside.{deliveries-fit, group-stands, sound-began, sound-died, sound-received, sound-treated}

-- a move keeps what messages carry, where all stands before it
sound-moved : (s : Dimensions) → IsShape s → (calls : List AskedCall) (v w : State) → Whole s calls v → Moves s v w → LinksSound s v → LinksSound s w
sound-moved s shaped calls v w whole (Stays same) sound = subst (LinksSound s) (sym same) sound
sound-moved s shaped calls v w whole (Treated p t pin up lives treats acts) sound = sound-treated s shaped calls v whole w p t pin up lives treats sound acts
sound-moved s shaped calls v w whole (Received u x p m xin pin apart up lives pops acts) sound =
    sound-received s shaped calls v whole u w x p m xin pin apart up lives sound pops acts
sound-moved s shaped calls v w whole (Failed p keep pin dies) sound = sound-died s shaped v w p keep pin sound dies

module _ (s : Dimensions) (always : WholeAlways s) where
  pub sound-always : (es : List Event) → IsRun s es → LinksSound s (state_of (book_of s es).history)
  sound-always es run = book_always s (λ b. LinksSound s (state_of b.history))
      (sound-began s run.0 (state_of (no_history s)) (runs_move s).opens) next es run where
        next : (done : List Event) (e : Event) → IsRun s done → IsRun s (done ++ e ∷ []) → MayCome (after s done) e
            → LinksSound s (state_of (book_of s done).history) → LinksSound s (state_of (booked (book_of s done) e).history)
        next done e ran more may sound =
            sound-moved s ran.0 (book_of s done).issued (state_of (book_of s done).history) (state_of (prolonged (book_of s done).history e)) (always done ran)
            (subst (λ (h : History). Moves s (state_of h) (state_of (prolonged h e))) (sym (book-history (no_book s) done))
            ((runs_move s).moves done e ran may)) sound

  pub stands-always : (es : List Event) → IsRun s es → GroupStands s (book_of s es).issued (state_of (book_of s es).history)
  stands-always es run = group-stands s run.0 (book_of s es).issued (state_of (book_of s es).history) (always es run)
      (subst (λ (h : History). SessionsFit s (state_of h)) (sym (book-history (no_book s) es)) (sessions_always_fit s es run)) (sound-always es run)

  -- of a group, in its own words
  pub first-fits-always : (es : List Event) → IsRun s es → (from to : ProcessId) (m : Message) (rest : List Message)
      → IsProcess s from → IsProcess s to → from ≢ to → Lives (after s es) to
      → link (after s es) from to ≡ m ∷ rest → SameBlock m (process_of (after s es) to)
      → RowAsked from m (process_of (after s es) to) → Fits s from m (process_of (after s es) to)
  first-fits-always es run =
      subst (λ (w : World). (from to : ProcessId) (m : Message) (rest : List Message) → IsProcess s from
      → IsProcess s to → from ≢ to → Lives w to → link w from to ≡ m ∷ rest
      → SameBlock m (process_of w to) → RowAsked from m (process_of w to) → Fits s from m (process_of w to)) (book-world s es)
      (deliveries-fit (book_of s es).history s (book_of s es).issued (stands-always es run) (book-shape s es))
