-- A get that is asked again after each wait is answered in the end: there are no more waits than blocks.
use Rattle.std.proofs.Common.{ℕ, zero, suc, ◌≡◌, ◌<◌, ◌≤◌, ◌+◌, ◌*◌, Bool, true, List, [], ◌∷◌, ◌++◌, length, Some}
use Rattle.std.proofs.Common.{if◌then◌else◌, refl, sym, ap, subst, ◌∙◌, arith}
use Rattle.group_types.proofs.Eaches.{each-append, each-weaker}
use Rattle.std.proofs.lemmas.List.{append_assoc, append-nil, length-append}
use Rattle.std.proofs.lemmas.List.Sums.{sum_by-cons}
use Rattle.group_types.specs.Dimensions.{Dimensions}
use Rattle.group_types.specs.Each.{Each}
use Rattle.group_types.specs.Hash.{home_of}
use Rattle.group_types.specs.Names.{IsProcess, of_rank}
use Rattle.group_types.specs.declared.process.ProcessId.{ProcessId}
use Rattle.group_types.proofs.Names.{same-refl}
use Rattle.memc_table.specs.Expiry.{is_live}
use Rattle.memc_table.specs.declared.holding.Holding.{Holding}
use Rattle.memc_table.specs.declared.reply.Reply.TheVariants as reply
use Rattle.group_calls.specs.Turns.{Turn}
use Rattle.group_calls.specs.declared.event.Answer.{Answer}
use Rattle.group_calls.specs.declared.event.Answer.TheVariants as says
use Rattle.group_calls.specs.declared.event.Cause.TheVariants as cause
use Rattle.group_calls.specs.declared.event.Event.{Event}
use Rattle.group_calls.specs.declared.event.Event.TheVariants.{Ask, Collect, Deliver, Fail, Flush, Trace}
use Rattle.group_run.specs.Headline.{IsRun, IsRunFrom, MayCome}
use Rattle.group_run.specs.Meaning.{Heads, IsDown, IsDrained, is_dead}
use Rattle.group_run.specs.Progress.{AskedDrained, AsksDrained, IsNoFailure, block_waits, waits_here}
use Rattle.group_run.specs.World.{World, after, opening, step, turns_from, world_after}
use Rattle.law_answers.proofs.Entries.{after-more, run-more}
use Rattle.group_run.specs.Causes.{IsDelivery}
use Rattle.law_progress.proofs.Waits.{few_waits_always}
use Rattle.group_eras.specs.Carry.{Getting, drained, draining, get_with, got_behind, is_retry, only_got}
use Rattle.group_eras.specs.Eras.{carrier}
use Rattle.group_eras.proofs.Draining.{NoFailure, after-is, dead-after, delivers, delivery-still, drained-rests, more-run, more-up, shape-after, still-none}
use Rattle.group_eras.proofs.Getting as getting
use Rattle.group_eras.proofs.Getting.{get_op}
use Rattle.group_eras.proofs.Weighing.{event-drain}
use Rattle.group_eras.proofs.Resting.{IsStill, Rests, same-items, still-settled, table_after_run}
use Rattle.group_eras.proofs.Asking.{run-behind}

-- waits of more events
pub waits-both : (p : ProcessId) (w : World) (es fs : List Event) → block_waits p (turns_from w (es ++ fs))
    ≡ block_waits p (turns_from w es) + block_waits p (turns_from (world_after w es) fs)
waits-both p w [] fs = omega arith
waits-both p w (e ∷ es) fs =
    let one = sum_by-cons (λ (turn : Turn). waits_here p turn.event turn.answer) (step w e).turn (turns_from (step w e).world (es ++ fs)) in
    let two = sum_by-cons (λ (turn : Turn). waits_here p turn.event turn.answer) (step w e).turn (turns_from (step w e).world es) in
    let rest = waits-both p (step w e).world es fs in
    omega (arith, one, two, rest)

deliveries-wait : (p : ProcessId) (w : World) (es : List Event) → Each IsDelivery es → block_waits p (turns_from w es) ≡ 0
deliveries-wait p w [] all = refl
deliveries-wait p w (e ∷ es) all =
    let one = sum_by-cons (λ (turn : Turn). waits_here p turn.event turn.answer) (step w e).turn (turns_from (step w e).world es) in
    let here : waits_here p e (step w e).turn.answer ≡ 0 = none e (step w e).turn.answer all.0 in
    let rest = deliveries-wait p (step w e).world es all.1 in
    omega (arith, one, here, rest)
  where
    none : (e : Event) (a : Answer) → IsDelivery e → waits_here p e a ≡ 0
    none (Deliver from to) a is = refl
    none (Ask caller op q) a is = absurd is
    none (Collect caller call q) a is = absurd is
    none (Fail q keep) a is = absurd is
    none (Flush q) a is = absurd is
    none (Trace caller call d q) a is = absurd is

-- asks of a drained group, and more
pub asked-both : (w : World) (es fs : List Event) → AskedDrained w es → AskedDrained (world_after w es) fs → AskedDrained w (es ++ fs)
asked-both w [] fs asked more = more
asked-both w (e ∷ es) fs asked more = (asked.0, asked.1, asked-both (step w e).world es fs asked.2 more)

asked-deliveries : (w : World) (es : List Event) → Each IsDelivery es → AskedDrained w es
asked-deliveries w [] all = tt
asked-deliveries w (e ∷ es) all = (none e all.0, drained e all.0, asked-deliveries (step w e).world es all.1) where
  none : (e : Event) → IsDelivery e → IsNoFailure e
  none (Deliver from to) is = tt
  none (Ask caller op q) is = absurd is
  none (Collect caller call q) is = absurd is
  none (Fail q keep) is = absurd is
  none (Flush q) is = absurd is
  none (Trace caller call d q) is = absurd is

  drained : (e : Event) → IsDelivery e → AsksDrained w e
  drained (Deliver from to) is = tt
  drained (Ask caller op q) is = absurd is
  drained (Collect caller call q) is = absurd is
  drained (Fail q keep) is = absurd is
  drained (Flush q) is = absurd is
  drained (Trace caller call d q) is = absurd is

pub heads-still : (s : Dimensions) (es gs : List Event) (d r : ℕ) → Each IsStill gs → Heads (after s es) d r → Heads (after s (es ++ gs)) d r
heads-still s es gs d r still heads = record {
  within = subst (λ (t : Dimensions). r ≤ t.m) (shape-after (opening s) es ∙ sym (shape-after (opening s) (es ++ gs))) heads.within;
  lives = dead (of_rank d r) ∙ heads.lives;
  lowest = λ q low. dead (of_rank d q) ∙ heads.lowest q low;
} where
  dead : (p : ProcessId) → is_dead (after s (es ++ gs)) p ≡ is_dead (after s es) p
  dead p = ap (λ (w : World). is_dead w p) (after-is s es gs) ∙ dead-after (after s es) gs (each-weaker IsStill NoFailure still-none gs still) p

module _ (s : Dimensions) (es : List Event) (rests : Rests s es) (d : ℕ) (below : d < s.k) (r : ℕ)
    (heads : Heads (after s es) d r) (pin : IsProcess (after s es).shape (of_rank d r))
    (key : List ℕ) (home : home_of key s.k ≡ d) (h : Holding) (there : (table_after_run s es).items key ≡ Some h) (live : is_live 0 h.until ≡ true) where
  abbrev p : ProcessId
  p = of_rank d r

  abbrev pub get : Event
  get = Ask carrier (get_op key) (of_rank d r)

  -- what came of a get and of all that followed it
  pub record Came (fs : List Event) (g : Getting) : Type 0 where
    pub rests_then : Rests s (fs ++ g.events)
    pub still : Each IsStill g.events
    pub world : g.world ≡ after s (fs ++ g.events)
    pub answer : g.answer ≡ says.Reply (reply.Value h.item)
    pub asked : AskedDrained (after s fs) g.events
    pub few : length g.events ≤ 1 + block_waits (of_rank d r) (turns_from (after s fs) g.events) * 131073

  module _ (gs : List Event) (still : Each IsStill gs) (now : Rests s (es ++ gs)) where
    abbrev fs : List Event
    fs = es ++ gs

    abbrev v : World
    v = after s fs

    pub heads-now : Heads (after s (es ++ gs)) d r
    heads-now = heads-still s es gs d r still heads

    pub pin-now : IsProcess (after s (es ++ gs)).shape (of_rank d r)
    pin-now = subst (λ (t : Dimensions). IsProcess t (of_rank d r)) (shape-after (opening s) es ∙ sym (shape-after (opening s) (es ++ gs))) pin

    pub there-now : (table_after_run s (es ++ gs)).items key ≡ Some h
    there-now = same-items s es (es ++ gs) rests.run now.run (still-settled s es gs rests now.run still) key ∙ there

    pub may-now : MayCome (after s (es ++ gs)) get
    may-now = getting.may-get s (es ++ gs) now d below r heads-now pin-now key home h there-now live

    pub answer-now : getting.Got s (es ++ gs) now d below r heads-now pin-now key home h there-now live (step (after s (es ++ gs)) get).turn.answer
    answer-now = getting.got-answer s (es ++ gs) now d below r heads-now pin-now key home h there-now live

    item-came : (step v get).turn.answer ≡ says.Reply (reply.Value h.item) → Came fs (only_got get (step v get))
    item-came is = record {
      rests_then = getting.got-rests s (es ++ gs) now d below r heads-now pin-now key home h there-now live is;
      still = (tt, tt);
      world = sym (after-more (opening s) fs get);
      answer = is;
      asked = (tt, now.drained, tt);
      few = omega arith;
    }

    -- the wait itself
    pub own-wait : (b : ℕ) → (step (after s (es ++ gs)) get).turn.answer ≡ says.Retry (cause.Block b) → (rest : List Event) → Each IsDelivery rest
        → block_waits (of_rank d r) (turns_from (after s (es ++ gs)) (get ∷ rest)) ≡ 1
    own-wait b is rest all =
        let cons = sum_by-cons (λ (turn : Turn). waits_here p turn.event turn.answer) (step v get).turn (turns_from (step v get).world rest) in
        let one : waits_here p get (step v get).turn.answer ≡ 1 = ap (waits_here p get) is ∙ ap (λ (t : Bool). if t then 1 else 0) (same-refl p) in
        let none = deliveries-wait p (step v get).world rest all in
        omega (arith, cons, one, none)

    pub own-drain : length (draining (step (after s (es ++ gs)) get).world) ≤ 131072
    own-drain = event-drain s (es ++ gs) get now may-now

    -- one wait more
    one-wait : (b : ℕ) → (step v get).turn.answer ≡ says.Retry (cause.Block b) → (rest : List Event) → Each IsDelivery rest
        → block_waits p (turns_from (after s es) (gs ++ get ∷ rest)) ≡ suc (block_waits p (turns_from (after s es) gs))
    one-wait b is rest all =
        let both = waits-both p (after s es) gs (get ∷ rest) in
        let same : world_after (after s es) gs ≡ v = sym (after-is s es gs) in
        let cons = sum_by-cons (λ (turn : Turn). waits_here p turn.event turn.answer)
        (step (world_after (after s es) gs) get).turn
        (turns_from (step (world_after (after s es) gs) get).world rest) in
        let one : waits_here p get (step (world_after (after s es) gs) get).turn.answer ≡ 1
        = ap (λ (w : World). waits_here p get (step w get).turn.answer) same ∙ ap (waits_here p get) is ∙ ap (λ (t : Bool). if t then 1 else 0) (same-refl p) in
        let none = deliveries-wait p (step (world_after (after s es) gs) get).world rest all in
        omega (arith, both, cons, one, none)

    asked-now : AskedDrained (after s es) gs → (rest : List Event) → Each IsDelivery rest → AskedDrained (after s es) (gs ++ get ∷ rest)
    asked-now asked rest all = asked-both (after s es) gs (get ∷ rest) asked
        (tt, subst IsDrained (after-is s es gs) now.drained, asked-deliveries (step (world_after (after s es) gs) get).world rest all)

    run-now : IsRunFrom (after s es) gs → IsRunFrom (after s es) (gs ++ get ∷ [])
    run-now run = run-more (after s es) gs get run (subst (λ (w : World). MayCome w get) (after-is s es gs) may-now)

  pub came-with : (tries : ℕ) (gs : List Event) (still : Each IsStill gs) (now : Rests s (es ++ gs)) → AskedDrained (after s es) gs
      → (after s es).shape.blocks ≤ block_waits (of_rank d r) (turns_from (after s es) gs) + tries
      → Came (es ++ gs) (get_with tries get (step (after s (es ++ gs)) get))
  came-with zero gs still now asked few = by (answer-now gs still now) where
    by : getting.Got s (es ++ gs) now d below r (heads-now gs still now) (pin-now gs still now) key home h
        (there-now gs still now) live (step (after s (es ++ gs)) get).turn.answer
        → Came (es ++ gs) (only_got get (step (after s (es ++ gs)) get))
    by (getting.Item_comes is) = item-came gs still now is
    by (getting.Block_waits b is) =
        let run : IsRunFrom (after s es) gs = run-behind (opening s) es gs now.run.1 in
        let most = few_waits_always s es rests.run (gs ++ get ∷ []) p (run-now gs still now run) (asked-now gs still now asked [] tt) in
        let one = one-wait gs still now b is [] tt in
        absurd (omega (arith, most, one, few))
  came-with (suc tries) gs still now asked few = by (answer-now gs still now) (λ zs. came-with tries zs) where
    by : getting.Got s (es ++ gs) now d below r (heads-now gs still now) (pin-now gs still now) key home h
        (there-now gs still now) live (step (after s (es ++ gs)) get).turn.answer
        → ((zs : List Event) (still : Each IsStill zs) (now : Rests s (es ++ zs)) → AskedDrained (after s es) zs
        → (after s es).shape.blocks ≤ block_waits (of_rank d r) (turns_from (after s es) zs) + tries
        → Came (es ++ zs) (get_with tries get (step (after s (es ++ zs)) get)))
        → Came (es ++ gs) (if is_retry (step (after s (es ++ gs)) get).turn.answer
        then got_behind (get ∷ draining (step (after s (es ++ gs)) get).world) (get_with tries get (step (drained (step (after s (es ++ gs)) get).world) get))
        else only_got get (step (after s (es ++ gs)) get))
    by (getting.Item_comes is) later =
        subst (λ (b : Bool). Came (es ++ gs)
        (if b then got_behind (get ∷ draining (step (after s (es ++ gs)) get).world)
        (get_with tries get (step (drained (step (after s (es ++ gs)) get).world) get)) else only_got get
        (step (after s (es ++ gs)) get)))
        (sym (ap is_retry is)) (item-came gs still now is)
    by (getting.Block_waits b is) later =
        subst (λ (c : Bool). Came (es ++ gs)
        (if c then got_behind (get ∷ draining (step (after s (es ++ gs)) get).world)
        (get_with tries get (step (drained (step (after s (es ++ gs)) get).world) get)) else only_got get
        (step (after s (es ++ gs)) get)))
        (sym (ap is_retry is)) all
      where
        next : after s ((es ++ gs) ++ get ∷ []) ≡ (step (after s (es ++ gs)) get).world
        next = after-more (opening s) (es ++ gs) get

        run : IsRun s ((es ++ gs) ++ get ∷ [])
        run = more-run s (es ++ gs) get now.run (may-now gs still now)

        up : ¬ (IsDown (after s ((es ++ gs) ++ get ∷ [])))
        up = more-up s (es ++ gs) get (still-none get tt) now.up

        deliveries : Each IsDelivery (draining (step (after s (es ++ gs)) get).world)
        deliveries = subst (λ (w : World). Each IsDelivery (draining w)) next (delivers s ((es ++ gs) ++ get ∷ []) run up).deliveries

        there-is : ((es ++ gs) ++ get ∷ []) ++ draining (step (after s (es ++ gs)) get).world ≡ es
            ++ (gs ++ get ∷ draining (step (after s (es ++ gs)) get).world)
        there-is = append_assoc (es ++ gs) (get ∷ []) (draining (step (after s (es ++ gs)) get).world)
            ∙ append_assoc es gs (get ∷ draining (step (after s (es ++ gs)) get).world)

        rests-next : Rests s (es ++ (gs ++ get ∷ draining (step (after s (es ++ gs)) get).world))
        rests-next = subst (Rests s) there-is (subst (λ (w : World). Rests s (((es ++ gs) ++ get ∷ []) ++ draining w))
            next (drained-rests s ((es ++ gs) ++ get ∷ []) run up))

        still-next : Each IsStill (gs ++ get ∷ draining (step (after s (es ++ gs)) get).world)
        still-next = each-append IsStill gs (get ∷ draining (step (after s (es ++ gs)) get).world) still (
          tt,
          each-weaker IsDelivery IsStill delivery-still (draining (step (after s (es ++ gs)) get).world)
              deliveries,
        )

        world-next : after s (es ++ (gs ++ get ∷ draining (step (after s (es ++ gs)) get).world)) ≡ drained (step (after s (es ++ gs)) get).world
        world-next = ap (after s) (sym there-is) ∙ after-is s ((es ++ gs) ++ get ∷ [])
            (draining (step (after s (es ++ gs)) get).world)
            ∙ ap (λ (w : World). world_after w (draining (step (after s (es ++ gs)) get).world)) next

        waits : (after s es).shape.blocks ≤ block_waits (of_rank d r)
            (turns_from (after s es) (gs ++ get ∷ draining (step (after s (es ++ gs)) get).world)) + tries
        waits = let one = one-wait gs still now b is (draining (step (after s (es ++ gs)) get).world) deliveries in omega (arith, one, few)

        rest : Came (es ++ (gs ++ get ∷ draining (step (after s (es ++ gs)) get).world))
            (get_with tries get (step (drained (step (after s (es ++ gs)) get).world) get))
        rest = subst (λ (w : World). Came (es ++ (gs ++ get ∷ draining (step (after s (es ++ gs)) get).world))
            (get_with tries get (step w get))) world-next
            (later (gs ++ get ∷ draining (step (after s (es ++ gs)) get).world) still-next rests-next
            (asked-now gs still now asked (draining (step (after s (es ++ gs)) get).world) deliveries) waits)

        events : (es ++ (gs ++ get ∷ draining (step (after s (es ++ gs)) get).world))
            ++ (get_with tries get (step (drained (step (after s (es ++ gs)) get).world) get)).events ≡ (es ++ gs)
            ++ ((get ∷ draining (step (after s (es ++ gs)) get).world)
            ++ (get_with tries get (step (drained (step (after s (es ++ gs)) get).world) get)).events)
        events = ap (λ (ys : List Event). ys
            ++ (get_with tries get (step (drained (step (after s (es ++ gs)) get).world) get)).events)
            (sym (append_assoc es gs (get ∷ draining (step (after s (es ++ gs)) get).world)))
            ∙ append_assoc (es ++ gs) (get ∷ draining (step (after s (es ++ gs)) get).world)
            (get_with tries get (step (drained (step (after s (es ++ gs)) get).world) get)).events

        all : Came (es ++ gs) (got_behind (get ∷ draining (step (after s (es ++ gs)) get).world)
            (get_with tries get (step (drained (step (after s (es ++ gs)) get).world) get)))
        all = record {
          rests_then = subst (Rests s) events rest.rests_then;
          still = each-append IsStill (get ∷ draining (step (after s (es ++ gs)) get).world)
              (get_with tries get (step (drained (step (after s (es ++ gs)) get).world) get)).events (
                tt,
                each-weaker IsDelivery IsStill delivery-still (draining (step (after s (es ++ gs)) get).world)
                    deliveries,
              ) rest.still;
          world = rest.world ∙ ap (after s) events;
          answer = rest.answer;
          asked = asked-both (after s (es ++ gs)) (get ∷ draining (step (after s (es ++ gs)) get).world)
              (get_with tries get (step (drained (step (after s (es ++ gs)) get).world) get)).events
              (tt, now.drained, asked-deliveries (step (after s (es ++ gs)) get).world (draining (step (after s (es ++ gs)) get).world) deliveries)
              (subst (λ (w : World). AskedDrained w
              (get_with tries get (step (drained (step (after s (es ++ gs)) get).world) get)).events) world-next
              rest.asked);
          few =
              let long = length-append (get ∷ draining (step (after s (es ++ gs)) get).world)
              (get_with tries get (step (drained (step (after s (es ++ gs)) get).world) get)).events in
              let both = waits-both (of_rank d r) (after s (es ++ gs))
              (get ∷ draining (step (after s (es ++ gs)) get).world)
              (get_with tries get (step (drained (step (after s (es ++ gs)) get).world) get)).events in
              let one = own-wait gs still now b is (draining (step (after s (es ++ gs)) get).world) deliveries in
              let short = own-drain gs still now in
              let few-rest = rest.few in
              let same : block_waits (of_rank d r)
              (turns_from (after s (es ++ (gs ++ get ∷ draining (step (after s (es ++ gs)) get).world)))
              (get_with tries get (step (drained (step (after s (es ++ gs)) get).world) get)).events)
              ≡ block_waits (of_rank d r)
              (turns_from (drained (step (after s (es ++ gs)) get).world)
              (get_with tries get (step (drained (step (after s (es ++ gs)) get).world) get)).events)
              = ap (λ (w : World). block_waits (of_rank d r)
              (turns_from w (get_with tries get (step (drained (step (after s (es ++ gs)) get).world) get)).events))
              world-next in
              omega (arith, long, both, one, short, few-rest, same);
        }

  -- so a get comes to its item
  pub came : Came es (get_with (after s es).shape.blocks get (step (after s es) get))
  came =
      let none : es ++ [] ≡ es = append-nil es in
      let all : Came (es ++ []) (get_with (after s es).shape.blocks get (step (after s (es ++ [])) get))
      = came-with (after s es).shape.blocks [] tt (subst (Rests s) (sym none) rests) tt (omega arith) in
      subst (λ (xs : List Event). Came xs (get_with (after s es).shape.blocks get (step (after s xs) get))) none all
