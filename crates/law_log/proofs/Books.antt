-- The book of a run has its history, its group and its turns; what each event keeps holds along it.
use Rattle.std.proofs.Common.{◌≡◌, List, [], ◌∷◌, ◌++◌, refl, sym, ap, subst, ◌∙◌}
use Rattle.std.proofs.lemmas.List.{append_assoc, append-nil}
use Rattle.group_types.specs.Dimensions.{Dimensions}
use Rattle.group_calls.specs.declared.event.Event.{Event}
use Rattle.group_run.specs.Headline.{IsRun, IsRunFrom, MayCome}
use Rattle.group_run.specs.History.{History, history_from, no_history}
use Rattle.group_run.specs.World.{World, after, step, turns_from, world_after}
use Rattle.law_moves.proofs.Events.{FramedHistory}
use Rattle.law_moves.proofs.Runs.{framed-from, framed-opening, shape-from, world-from}
use Rattle.law_log.specs.Book.{Book, book_from, book_of, booked, no_book}

pub book-history : (b : Book) (es : List Event) → (book_from b es).history ≡ history_from b.history es
book-history b [] = refl
book-history b (e ∷ es) = book-history (booked b e) es

pub book-append : (b : Book) (es others : List Event) → book_from b (es ++ others) ≡ book_from (book_from b es) others
book-append b [] others = refl
book-append b (e ∷ es) others = book-append (booked b e) es others

pub book-turns : (b : Book) (es : List Event) → (book_from b es).turns ≡ b.turns ++ turns_from b.history.world es
book-turns b [] = sym (append-nil b.turns)
book-turns b (e ∷ es) = book-turns (booked b e) es ∙ append_assoc b.turns ((step b.history.world e).turn ∷ []) (turns_from (step b.history.world e).world es)

-- the group of the book is that of the run
pub book-world : (s : Dimensions) (es : List Event) → (book_of s es).history.world ≡ after s es
book-world s es = ap (λ (h : History). h.world) (book-history (no_book s) es) ∙ world-from (no_history s) es

pub book-shape : (s : Dimensions) (es : List Event) → (book_of s es).history.world.shape ≡ s
book-shape s es = ap (λ (h : History). h.world.shape) (book-history (no_book s) es) ∙ shape-from (no_history s) es

pub book-framed : (s : Dimensions) (es : List Event) → IsRun s es → FramedHistory (book_of s es).history
book-framed s es run = subst FramedHistory (sym (book-history (no_book s) es)) (framed-from (no_history s) es (framed-opening s) run.1)

-- events that come one after the other
pub run-push : (w : World) (es : List Event) (e : Event) (rest : List Event) → IsRunFrom w (es ++ e ∷ rest)
    → IsRunFrom w es × MayCome (world_after w es) e × IsRunFrom w (es ++ e ∷ [])
run-push w [] e rest run = (tt, run.0, (run.0, tt))
run-push w (x ∷ es) e rest run = let later = run-push (step w x).world es e rest run.1 in ((run.0, later.0), later.1, (run.0, later.2))

-- what the start has and every event keeps holds along every run
module _ (s : Dimensions) (P : Book → Type 0) (start : P (no_book s))
    (next : (es : List Event) (e : Event) → IsRun s es → IsRun s (es ++ e ∷ []) → MayCome (after s es) e → P (book_of s es) → P (booked (book_of s es) e)) where
  along : (done es : List Event) → IsRun s (done ++ es) → P (book_of s done) → P (book_of s (done ++ es))
  along done [] run holds = subst (λ (xs : List Event). P (book_of s xs)) (sym (append-nil done)) holds
  along done (e ∷ es) run holds =
      let parts = run-push _ done e es run.1 in
      let now : P (book_of s (done ++ e ∷ [])) = subst P (sym (book-append (no_book s) done (e ∷ [])))
      (next done e (run.0, parts.0) (run.0, parts.2) parts.1 holds) in
      let there : (done ++ e ∷ []) ++ es ≡ done ++ e ∷ es = append_assoc done (e ∷ []) es in
      subst (λ (xs : List Event). P (book_of s xs)) there (along (done ++ e ∷ []) es (subst (IsRun s) (sym there) run) now)

  pub book_always : (es : List Event) → IsRun s es → P (book_of s es)
  book_always es run = along [] es run start
