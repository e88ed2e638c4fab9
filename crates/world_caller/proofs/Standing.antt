-- What an event that is no failure leaves: who is dead, who heads what, and which calls are held.
use Rattle.std.proofs.Common.{ℕ, zero, suc, ◌≡◌, ◌≢◌, ◌<◌, ◌+◌, Bool, List, [], ◌∷◌, map, ◌⊎◌, inl, inr, refl, sym, ap, subst, ◌∙◌, arith}
use Rattle.std.specs.Prelude.{Contains}
use Rattle.std.specs.List.{range_with_len}
use Rattle.group_types.specs.Lists.{at}
use Rattle.group_types.specs.Names.{IsProcess, index_of, of_rank, process_at}
use Rattle.group_types.specs.declared.process.ProcessId.{ProcessId}
use Rattle.group_types.proofs.Names.{process_at-in, same-cases}
use Rattle.membership.specs.Members.{count_dead_words}
use Rattle.memc_table.specs.Asked.{Asked}
use Rattle.group_calls.specs.declared.event.Answer.{Answer}
use Rattle.group_calls.specs.declared.event.Answer.TheVariants as says
use Rattle.group_calls.specs.declared.event.Event.{Event}
use Rattle.group_calls.specs.declared.event.Event.TheVariants.{Ask, Deliver}
use Rattle.group_run.specs.Applying.{head_at, held_at}
use Rattle.group_run.specs.Asking.{ask_process}
use Rattle.group_run.specs.Causes.{home_in}
use Rattle.group_run.specs.Headline.{MayCome}
use Rattle.group_run.specs.History.{History, prolonged}
use Rattle.group_run.specs.Meaning.{Heads, IsDown, is_dead, process_of}
use Rattle.group_run.specs.Process.{Held}
use Rattle.group_run.specs.Progress.{IsNoFailure}
use Rattle.group_run.specs.World.{dead_nodes, next_name, process_node, step}
use Rattle.law_moves.specs.State.{State, lost_in, state_of}
use Rattle.law_moves.proofs.Events.{FramedHistory, event_comes, lost-nodes}
use Rattle.law_log.proofs.Calls.{Acts, Answers, Delivers, Idle, Nothing, Takes, call-comes, message-comes}
use Rattle.law_log.proofs.Holds.{holds-receive}
use Rattle.law_histories.proofs.Headed.{rank-in}
use Rattle.law_progress.proofs.Deaths.{dead-same}
use Rattle.world_caller.specs.Calling.{Serves}
use Rattle.world_caller.specs.Laws.{IsTicketed}
use Rattle.world_caller.proofs.Holding.{HoldsNamed, ask-holds}

same-words : (f g : ℕ → Bool) (a n : ℕ) → ((x : ℕ) → x < a + n → f x ≡ g x) → map f (range_with_len a n) ≡ map g (range_with_len a n)
same-words f g a zero same = refl
same-words f g a (suc n) same =
    ap (λ (b : Bool). b ∷ map f (range_with_len (a + 1) n)) (same a (omega arith))
    ∙ ap (λ (bs : List Bool). g a ∷ bs) (same-words f g (a + 1) n (λ x low. same x (omega (arith, low))))

module _ (h : History) (framed : FramedHistory h) where
  module _ (e : Event) (may : MayCome h.world e) (goes : IsNoFailure e) where
    dead-stays : (q : ProcessId) → IsProcess h.world.shape q → is_dead (step h.world e).world q ≡ is_dead h.world q
    dead-stays q qin = dead-same h e framed may goes q qin

    pub up-stays : ¬ (IsDown h.world) → ¬ (IsDown (step h.world e).world)
    up-stays up down =
        let before : lost_in h.world.shape (state_of h) ≡ dead_nodes h.world.nodes = lost-nodes h.world.shape h.world.nodes h.settled framed.nodes_many in
        let after : lost_in h.world.shape (state_of (prolonged h e)) ≡ dead_nodes (step h.world e).world.nodes
        = lost-nodes h.world.shape (prolonged h e).world.nodes (prolonged h e).settled (event_comes h e framed may).frame.nodes_many in
        let same : lost_in h.world.shape (state_of (prolonged h e)) ≡ lost_in h.world.shape (state_of h)
        = ap count_dead_words (same-words (λ x. (state_of (prolonged h e)).dead (process_at h.world.shape x))
        (λ x. (state_of h).dead (process_at h.world.shape x)) 0 (h.world.shape.k + h.world.shape.m)
        (λ x low. dead-stays (process_at h.world.shape x) (process_at-in h.world.shape x (omega (arith, low))))) in
        let many : h.world.shape.m < dead_nodes (step h.world e).world.nodes = down in
        up (omega (arith, before, after, same, many))

    pub heads-stay : (d r : ℕ) → d < h.world.shape.k → Heads h.world d r → Heads (step h.world e).world d r
    heads-stay d r below heads = record {
      within = heads.within;
      lives = dead-stays (of_rank d r) (rank-in h.world.shape d r below heads.within) ∙ heads.lives;
      lowest = λ q less. dead-stays (of_rank d q)
          (rank-in h.world.shape d q below (let high = heads.within in omega (arith, less, high)))
          ∙ heads.lowest q less;
    }

    headed-before : (d r : ℕ) → d < h.world.shape.k → Heads (step h.world e).world d r → Heads h.world d r
    headed-before d r below heads = record {
      within = heads.within;
      lives = sym (dead-stays (of_rank d r) (rank-in h.world.shape d r below heads.within)) ∙ heads.lives;
      lowest = λ q less.
          sym (dead-stays (of_rank d q)
          (rank-in h.world.shape d q below (let high = heads.within in omega (arith, less, high))))
          ∙ heads.lowest q less;
    }

    -- who is asked was to be asked before
    pub served-before : (d : ℕ) (p : ProcessId) → d < h.world.shape.k → Serves (step h.world e).world d p → Serves h.world d p
    served-before d p below (inl (r, heads, is)) = inl (r, headed-before d r below heads, is)
    served-before d p below (inr (none, is)) = inr (λ r heads. none r (heads-stay d r below heads), is)

  -- a ticket's call is held
  pub ask-ticket : (caller : ℕ) (op : Asked) (p : ProcessId) (n : ℕ) → MayCome h.world (Ask caller op p)
      → (step h.world (Ask caller op p)).turn.answer ≡ says.Ticket n
      → HoldsNamed caller (at 0 h.world.asked caller) (home_in h.world op) (process_of (step h.world (Ask caller op p)).world p)
  ask-ticket caller op p n may =
      by (call-comes h.world.shape h.world.nodes h.settled framed p
      (ask_process h.world.shape (next_name h.world caller) op (process_node h.world p).process) may.1
      (process_node h.world p).down (process_node h.world p).dead refl refl) where
        by : {w : State} {answer : Answer}
            → Answers h.world.shape (state_of h) w p
            (ask_process h.world.shape (next_name h.world caller) op (process_node h.world p).process) answer
            → answer ≡ says.Ticket n → HoldsNamed caller (at 0 h.world.asked caller) (home_in h.world op) (w.process p)
        by {w} {answer} (Idle same (inl down)) is = cc (sym down ∙ is)
        by {w} {answer} (Idle same (inr lost)) is = cc (sym lost ∙ is)
        by {w} {answer} (Acts up lives acts same) is =
            subst (HoldsNamed caller (at 0 h.world.asked caller) (home_in h.world op)) (sym acts.process)
            (ask-holds h.world.shape (next_name h.world caller) op (home_in h.world op) n (process_node h.world p).process
            (head_at (process_node h.world p).process (home_in h.world op)) (sym same ∙ is))

  -- a delivery leaves what is held
  deliver-held : (from to q : ProcessId) (d : ℕ) → MayCome h.world (Deliver from to) → IsProcess h.world.shape q
      → held_at (process_of (step h.world (Deliver from to)).world q) d ≡ held_at (process_of h.world q) d
  deliver-held from to q d may qin =
      by (message-comes h.world.shape h.world.nodes h.settled framed from to may.0 may.1 may.2 (process_node h.world to).down
      (process_node h.world to).dead refl refl
      (at [] (process_node h.world from).links (index_of h.world.shape to)) refl) where
        by : {w : State} → Delivers h.world.shape (state_of h) w from to → held_at (w.process q) d ≡ held_at ((state_of h).process q) d
        by {w} (Nothing same) = ap (λ (v : State). held_at (v.process q) d) same
        by {w} (Takes u m up lives pops acts) = here (same-cases q to) where
          here : (q ≡ to) ⊎ (q ≢ to) → held_at (w.process q) d ≡ held_at ((state_of h).process q) d
          here (inl is) =
              ap (λ (y : ProcessId). held_at (w.process y) d) is ∙ ap (λ p. held_at p d) acts.process
              ∙ ap (λ (held : List (List Held)). at [] held d)
              (holds-receive h.world.shape from m ((state_of h).process to))
              ∙ sym (ap (λ (y : ProcessId). held_at ((state_of h).process y) d) is)
          here (inr other) = ap (λ p. held_at p d) (acts.others q qin other ∙ pops.processes q qin)

  pub ticket-stays : (from to : ProcessId) → MayCome h.world (Deliver from to) → (caller call : ℕ) (p : ProcessId) → IsTicketed h.world caller call p
      → IsTicketed (step h.world (Deliver from to)).world caller call p
  ticket-stays from to may caller call p t = record {
    up = up-stays (Deliver from to) may tt t.up;
    partition = t.partition;
    rank = t.rank;
    inside = t.inside;
    named = t.named;
    heads = heads-stay (Deliver from to) may tt t.partition t.rank t.inside t.heads;
    held = t.held;
    holds = record {
      partition = t.inside;
      held = subst (λ (xs : List Held). Contains xs t.held) (sym (deliver-held from to p t.partition may pin)) t.holds.held;
      named = t.holds.named;
    };
  } where
    pin : IsProcess h.world.shape p
    pin = subst (IsProcess h.world.shape) (sym t.named) (rank-in h.world.shape t.partition t.rank t.inside t.heads.within)
