-- Along every run the word that sessions are closed, on its way to a living process, is of sessions that were started.
use Rattle.std.proofs.Common.{◌≡◌, ◌≢◌, ◌≤◌, ℕ, suc, false, List, [], ◌∷◌, ◌++◌, take, ◌⊎◌, inl, inr, sym, ap, subst, ◌∙◌, arith}
use Rattle.group_types.specs.Dimensions.{Dimensions}
use Rattle.group_types.specs.Each.{Each}
use Rattle.group_types.specs.Names.{IsProcess}
use Rattle.group_types.specs.Shape.{IsShape}
use Rattle.group_types.specs.declared.process.ProcessId.{ProcessId}
use Rattle.group_types.proofs.Eaches.{each-append, each-take, each-weaker}
use Rattle.group_types.proofs.Names.{same-cases}
use Rattle.group_message.specs.declared.message.Message.{Message}
use Rattle.group_message.specs.declared.message.Message.TheVariants as tells
use Rattle.group_calls.specs.declared.event.Event.{Event}
use Rattle.group_run.specs.Applying.{ProcessStep}
use Rattle.group_run.specs.Headline.{IsRun, MayCome}
use Rattle.group_run.specs.History.{History, no_history, prolonged}
use Rattle.group_run.specs.Receiving.{receive}
use Rattle.group_run.specs.World.{after, sent_to}
use Rattle.law_moves.specs.State.{State, state_of}
use Rattle.law_moves.proofs.Keeping as members
use Rattle.law_moves.proofs.Members.{Members}
use Rattle.law_moves.proofs.Moves.{Acted, Died, Failed, Moves, Popped, Received, Stays, Treated}
use Rattle.law_moves.proofs.Runs.{runs_move}
use Rattle.law_moves.proofs.Standing.{each-sent_to}
use Rattle.law_log.specs.Book.{book_of, booked, no_book}
use Rattle.law_log.proofs.Books.{book-history, book_always}
use Rattle.law_bytes.proofs.TokensKeeping.{unknown}
use Rattle.law_headline.proofs.All.{whole-always}
use Rattle.law_frames.proofs.ClosingSteps.{ClosesLow, Sends, receive-sends, treats-sends}
use Rattle.law_frames.proofs.Started.{sessions-low}

-- with more events the bound only rises
more : (s : Dimensions) (n : ℕ) (m : Message) → ClosesLow s n m → ClosesLow s (suc n) m
more s n (tells.Cease upto) low = omega (arith, low)
more s n (tells.Update r d u stable) low = tt
more s n (tells.Ack r d number) low = tt
more s n (tells.Stable r d number) low = tt
more s n (tells.Adopt r d base list) low = tt
more s n (tells.ReadBlock session block rows) low = tt
more s n (tells.Block session bytes number) low = tt
more s n (tells.Mark session r block d number) low = tt
more s n (tells.Row session bytes stamp) low = tt
more s n (tells.Notice dead) low = tt

-- every message in a link into a living process
abbrev pub LinksClose : Dimensions → ℕ → State → Type 0
LinksClose s n v = (x q : ProcessId) → IsProcess s x → IsProcess s q → x ≢ q → v.dead q ≡ false → Each (ClosesLow s n) (v.link x q)

module _ (s : Dimensions) (n : ℕ) where
  risen : (v : State) → LinksClose s n v → LinksClose s (suc n) v
  risen v old x q xin qin apart lives = each-weaker (ClosesLow s n) (ClosesLow s (suc n)) (λ m low. more s n m low) (v.link x q) (old x q xin qin apart lives)

  acted-close : (u w : State) (p : ProcessId) (step : ProcessStep) → IsProcess s p → u.dead p ≡ false → Members s w
      → Acted s u w p step → LinksClose s n u → Sends s n step → LinksClose s n w
  acted-close u w p step pin lives now acts old sends x q xin qin apart living = by (same-cases x p) where
    lived : u.dead q ≡ false
    lived = sym (acts.dead q qin) ∙ living

    by : (x ≡ p) ⊎ (x ≢ p) → Each (ClosesLow s n) (w.link x q)
    by (inr other) = subst (Each (ClosesLow s n)) (sym (acts.links x q xin qin other)) (old x q xin qin apart lived)
    by (inl is) =
        let other : q ≢ p = λ (same : q ≡ p). apart (is ∙ sym same) in
        subst (λ (y : ProcessId). Each (ClosesLow s n) (w.link y q)) (sym is)
        (subst (Each (ClosesLow s n)) (sym (acts.sends q qin (unknown s u w p step pin lives now acts q qin other lived)))
        (each-append (ClosesLow s n) (u.link p q) (sent_to q step.sent)
        (old p q pin qin (λ same. other (sym same)) lived)
        (each-sent_to (λ to m. ClosesLow s n m) q step.sent sends)))

  popped-close : (v u : State) (x p : ProcessId) (m : Message) → IsProcess s x → IsProcess s p → x ≢ p
      → v.dead p ≡ false → Popped s v u x p m → LinksClose s n v → LinksClose s n u
  popped-close v u x p m xin pin apart lives pops old y q yin qin between living = cases (same-cases y x) (same-cases q p) where
    was : Each (ClosesLow s n) (v.link y q)
    was = old y q yin qin between (sym (pops.dead q qin) ∙ living)

    taken : Each (ClosesLow s n) (u.link x p)
    taken = (subst (Each (ClosesLow s n)) pops.first (old x p xin pin apart lives)).1

    cases : (y ≡ x) ⊎ (y ≢ x) → (q ≡ p) ⊎ (q ≢ p) → Each (ClosesLow s n) (u.link y q)
    cases (inr other) _ = subst (Each (ClosesLow s n)) (sym (pops.links y q yin qin (inl other))) was
    cases (inl is) (inr other) = subst (Each (ClosesLow s n)) (sym (pops.links y q yin qin (inr other))) was
    cases (inl is) (inl same) = subst (λ (z : ProcessId). Each (ClosesLow s n) (u.link z q)) (sym is)
        (subst (λ (z : ProcessId). Each (ClosesLow s n) (u.link x z)) (sym same) taken)

  died-close : (v w : State) (p : ProcessId) (keep : ℕ) → IsProcess s p → Died s v w p keep → LinksClose s n v → LinksClose s n w
  died-close v w p keep pin dies old x q xin qin apart living = by (same-cases x p) where
    other : q ≢ p
    other same = cc (living, ap w.dead same, dies.dead)

    lived : v.dead q ≡ false
    lived = sym (dies.others q qin other) ∙ living

    by : (x ≡ p) ⊎ (x ≢ p) → Each (ClosesLow s n) (w.link x q)
    by (inr from) = subst (Each (ClosesLow s n)) (sym (dies.links x q xin qin from)) (old x q xin qin apart lived)
    by (inl is) = subst (λ (y : ProcessId). Each (ClosesLow s n) (w.link y q)) (sym is) (subst (Each (ClosesLow s n)) (sym (dies.cut q qin))
        (each-append (ClosesLow s n) (take keep (v.link p q)) (tells.Notice p ∷ [])
        (each-take (ClosesLow s n) keep (v.link p q) (old p q pin qin (λ same. other (sym same)) lived)) (tt, tt)))

  moved-close : IsShape s → (v w : State) → Members s v
      → ((p : ProcessId) → IsProcess s p → (v.process p).as_leader.last_session ≤ n) → Moves s v w → LinksClose s n v
      → LinksClose s n w
  moved-close shaped v w now low (Stays same) old = subst (LinksClose s n) (sym same) old
  moved-close shaped v w now low (Treated p t pin up lives treats acts) old =
      acted-close v w p t pin lives ((members.keeps s shaped).treats v w p t pin up lives treats now acts) acts old (treats-sends s n (v.process p) t treats)
  moved-close shaped v w now low (Received u x p m xin pin apart up lives pops acts) old =
      acted-close u w p (receive s x m (v.process p)) pin (pops.dead p pin ∙ lives)
      ((members.keeps s shaped).receives v u w x p m xin pin apart up lives now pops acts) acts
      (popped-close v u x p m xin pin apart lives pops old) (receive-sends s n x m (v.process p) (low p pin))
  moved-close shaped v w now low (Failed p keep pin dies) old = died-close v w p keep pin dies old

pub links-close : (s : Dimensions) (es : List Event) → IsRun s es → LinksClose s (book_of s es).history.world.events (state_of (book_of s es).history)
links-close s es run = book_always s (λ b. LinksClose s b.history.world.events (state_of b.history)) start next es run where
  start : LinksClose s 0 (state_of (no_history s))
  start x q xin qin apart lives = subst (Each (ClosesLow s 0)) (sym ((runs_move s).opens.links x q xin qin)) tt

  next : (done : List Event) (e : Event) → IsRun s done → IsRun s (done ++ e ∷ []) → MayCome (after s done) e
      → LinksClose s (book_of s done).history.world.events (state_of (book_of s done).history)
      → LinksClose s (booked (book_of s done) e).history.world.events (state_of (booked (book_of s done) e).history)
  next done e ran longer may old = risen s (book_of s done).history.world.events (state_of (prolonged (book_of s done).history e))
      (moved-close s (book_of s done).history.world.events ran.0 (state_of (book_of s done).history)
      (state_of (prolonged (book_of s done).history e)) (whole-always s done ran).carried.members
      (sessions-low s done ran)
      (subst (λ (h : History). Moves s (state_of h) (state_of (prolonged h e))) (sym (book-history (no_book s) done)) ((runs_move s).moves done e ran may)) old)
