-- Along every run the messages of block sessions into living processes have frames.
use Rattle.std.proofs.Common.{◌≡◌, ◌≢◌, ◌<◌, ◌≤◌, ◌^◌, List, sym, subst}
use Rattle.group_types.specs.Dimensions.{Dimensions}
use Rattle.group_types.specs.Each.{Each}
use Rattle.group_types.specs.Names.{IsProcess}
use Rattle.group_types.specs.Shape.{IsShape}
use Rattle.group_types.specs.declared.process.ProcessId.{ProcessId}
use Rattle.group_run.specs.History.{History}
use Rattle.group_run.specs.Meaning.{Lives, link, process_of}
use Rattle.group_run.specs.World.{AskedCall, World, after}
use Rattle.law_moves.specs.State.{state_of}
use Rattle.law_log.specs.Book.{book_of, no_book}
use Rattle.law_log.proofs.Books.{book-history, book-shape, book-world}
use Rattle.law_headline.proofs.All.{whole-always}
use Rattle.law_headline.proofs.Always.{sound-always}
use Rattle.law_headline.proofs.Joint.{Whole}
use Rattle.law_headline.proofs.Rows.{RowsSound}
use Rattle.law_headline.proofs.RowsKept.{rows-sound-always}
use Rattle.law_headline.proofs.Sound.{LinksSound}
use Rattle.law_answers.specs.Numbers.{NumbersAreLow}
use Rattle.law_answers.proofs.Numbers.{numbers_low_always}
use Rattle.law_frames.specs.Laws.{HasFrameIfOfSession, SessionsHaveFrames}
use Rattle.law_frames.proofs.Closing.{LinksClose, links-close}
use Rattle.law_frames.proofs.Logs.{low-at}
use Rattle.law_frames.proofs.Sessions.{session-words}
use Rattle.law_frames.proofs.Started.{sessions-low}

-- of a group, in its own words
world-words : (s : Dimensions) → IsShape s → (h : History) (calls : List AskedCall) → h.world.shape ≡ s
    → Whole s calls (state_of h) → LinksSound s (state_of h) → RowsSound s (state_of h) → NumbersAreLow h.world
    → ((p : ProcessId) → IsProcess s p → ((state_of h).process p).as_leader.last_session ≤ h.world.events)
    → LinksClose s h.world.events (state_of h) → h.world.events < 2 ^ 63
    → (from to : ProcessId) → IsProcess s from → Lives h.world to → from ≢ to → Each HasFrameIfOfSession (link h.world from to)
world-words s shaped h calls shape whole sound rows low started closes few from to fin tin apart =
    session-words s shaped calls (state_of h) whole sound rows h.world.events few
    (λ p d pin lives. low-at h.world.events (process_of h.world p).replicas d
    (low.updates p (subst (λ (t : Dimensions). IsProcess t p) (sym shape) pin, lives))) started
    from to fin (subst (λ (t : Dimensions). IsProcess t to) shape tin.0) apart tin.1
    (closes from to fin (subst (λ (t : Dimensions). IsProcess t to) shape tin.0) apart tin.1)

pub sessions_have_frames : SessionsHaveFrames
sessions_have_frames s es run few from to fin tin apart =
    let same : (book_of s es).history.world ≡ after s es = book-world s es in
    subst (λ (w : World). Each HasFrameIfOfSession (link w from to)) same
    (world-words s run.0 (book_of s es).history (book_of s es).issued (book-shape s es) (whole-always s es run) (sound-always s (whole-always s) es run)
    (subst (λ (h : History). RowsSound s (state_of h)) (sym (book-history (no_book s) es)) (rows-sound-always s es run))
    (subst NumbersAreLow (sym same) (numbers_low_always s es run)) (sessions-low s es run) (links-close s es run)
    (subst (λ (w : World). w.events < 2 ^ 63) (sym same) few) from to fin (subst (λ (w : World). Lives w to) (sym same) tin) apart)
