-- Gets of items in a group at rest: each is answered with the item, or has to wait for a block.
use Rattle.std.proofs.Common.{ℕ, ◌≡◌, ◌<◌, ◌+◌, Bool, true, false, List, [], ◌∷◌, ◌++◌, length, Option, Some, None}
use Rattle.std.proofs.Common.{if◌then◌else◌, refl, sym, ap, subst, ◌∙◌, arith}
use Rattle.group_types.specs.Dimensions.{Dimensions}
use Rattle.group_types.specs.Hash.{home_of}
use Rattle.group_types.specs.Names.{IsProcess, of_rank}
use Rattle.group_types.specs.declared.process.ProcessId.{ProcessId}
use Rattle.memc_table.specs.Asked.{Asked}
use Rattle.memc_table.specs.Contents.{Contents, count_of, empty_table, reply_in, reply_of}
use Rattle.memc_table.specs.Expiry.{is_live, live_at}
use Rattle.memc_table.specs.Ruling.{ruling_of}
use Rattle.memc_table.specs.declared.act.Act.TheVariants.{Get}
use Rattle.memc_table.specs.declared.holding.Holding.{Holding}
use Rattle.memc_table.specs.declared.reply.Reply.TheVariants as reply
use Rattle.group_calls.specs.Log.{table_of}
use Rattle.group_calls.specs.Turns.{accepts}
use Rattle.group_calls.specs.declared.event.Answer.{Answer}
use Rattle.group_calls.specs.declared.event.Answer.TheVariants as says
use Rattle.group_calls.specs.declared.event.Cause.TheVariants as cause
use Rattle.group_calls.specs.declared.event.Event.{Event}
use Rattle.group_calls.specs.declared.event.Event.TheVariants.{Ask}
use Rattle.group_run.specs.Causes.{AskCause, AskLeaves, IsReady, table_now}
use Rattle.group_run.specs.Headline.{MayCome}
use Rattle.group_run.specs.Meaning.{Heads, IsDrained, is_dead, link}
use Rattle.group_run.specs.Process.{Node}
use Rattle.group_run.specs.World.{World, after, opening, step}
use Rattle.law_histories.proofs.Quiet.{asked_always}
use Rattle.law_answers.proofs.Asks.{asks_always}
use Rattle.law_answers.proofs.Entries.{after-more}
use Rattle.law_answers.proofs.Leaves.{asks_leave_always}
use Rattle.group_eras.specs.Eras.{carrier}
use Rattle.group_eras.proofs.Draining.{more-run, more-up, shape-after, still-none}
use Rattle.group_eras.proofs.Resting.{Rests, table_after_run}

-- the get of a key, by the caller that carries
abbrev pub get_op : List ℕ → Asked
get_op key = record { moment = 0; act = Get key }

-- an item that lives at the moment 0
pub live-reply : (t : Contents) (key : List ℕ) (h : Holding) → t.items key ≡ Some h → is_live 0 h.until ≡ true → reply_of t (get_op key) ≡ reply.Value h.item
live-reply t key h there live =
    ap (λ (o : Option Holding). reply_in (ruling_of 0 (count_of t key + 1) (Get key) (live_at 0 o))) there
    ∙ ap (λ (b : Bool). reply_in (ruling_of 0 (count_of t key + 1) (Get key) (if b then Some h else None))) live

-- no message is on its way where nodes are those of a group at rest
pub rest-nodes : (v w : World) → v.shape ≡ w.shape → v.nodes ≡ w.nodes → IsDrained w → IsDrained v
rest-nodes v w shape nodes drained from to fin tin apart =
    ap (λ (xs : List Node). link (record v { nodes = xs }) from to) nodes
    ∙ ap (λ (t : Dimensions). link (record v { shape = t; nodes = w.nodes }) from to) shape
    ∙ drained from to (subst (λ (t : Dimensions). IsProcess t from) shape fin) (
      subst (λ (t : Dimensions). IsProcess t to) shape tin.0,
      sym (ap (λ (xs : List Node). is_dead (record v { nodes = xs }) to) nodes
          ∙ ap (λ (t : Dimensions). is_dead (record v { shape = t; nodes = w.nodes }) to) shape) ∙ tin.1,
    ) apart

module _ (s : Dimensions) (es : List Event) (rests : Rests s es) (d : ℕ) (below : d < s.k) (r : ℕ)
    (heads : Heads (after s es) d r) (pin : IsProcess (after s es).shape (of_rank d r))
    (key : List ℕ) (home : home_of key s.k ≡ d) (h : Holding) (there : (table_after_run s es).items key ≡ Some h) (live : is_live 0 h.until ≡ true) where
  abbrev w : World
  w = after s es

  abbrev p : ProcessId
  p = of_rank d r

  abbrev get : Event
  get = Ask carrier (get_op key) p

  shape : w.shape ≡ s
  shape = shape-after (opening s) es

  pub may-get : MayCome w get
  may-get = (omega arith, pin, λ i b low. absurd (omega (arith, low)))

  ready : IsReady w p (home_of key w.shape.k)
  ready = record {
    rank = r;
    name = ap (λ (e : ℕ). of_rank e r) (sym here);
    heads = subst (λ (e : ℕ). Heads w e r) (sym here) heads;
    taken_over = λ q from low fin apart has.
        let empty : link w from (of_rank (home_of key w.shape.k) r) ≡ [] = rests.drained from (of_rank (home_of key w.shape.k) r) fin
        (subst (λ (e : ℕ). IsProcess w.shape (of_rank e r)) (sym here) pin, subst (λ (e : ℕ). is_dead w (of_rank e r) ≡ false) (sym here) heads.lives) apart in
        let some = has.1 in let none : length (link w from (of_rank (home_of key w.shape.k) r)) ≡ 0 = ap length empty in absurd (omega (arith, some, none));
  } where
    here : home_of key w.shape.k ≡ d
    here = ap (λ (t : Dimensions). home_of key t.k) shape ∙ home

  replies : reply_of (table_now w) (get_op key) ≡ reply.Value h.item
  replies = ap (λ (t : Dimensions). reply_of (table_of (empty_table t.k) w.log) (get_op key)) shape ∙ live-reply (table_after_run s es) key h there live

  refused : accepts (reply_of (table_now w) (get_op key)) ≡ false
  refused = ap accepts replies

  -- what the get is answered
  pub data Got (answer : Answer) : Type 0 where
    Item_comes : answer ≡ says.Reply (reply.Value h.item) → Got answer
    Block_waits : (b : ℕ) → answer ≡ says.Retry (cause.Block b) → Got answer

  pub got-answer : Got (step w get).turn.answer
  got-answer = by (step w get).turn.answer refl (asks_always s es rests.run carrier (get_op key) p may-get) where
    by : (a : Answer) → (step w get).turn.answer ≡ a → AskCause w (step w get).world p (get_op key) a → Got a
    by (says.Reply x) is causes = Item_comes (ap says.Reply (causes.2 ∙ replies))
    by (says.Ticket n) is causes = absurd (cc (causes.2.accepted, refused))
    by says.NotYet is causes = absurd causes.2
    by says.NoSpace is causes = absurd (cc (causes.2.leaves.0, refused))
    by (says.Retry (cause.Pending e n)) is causes = absurd (asked_always s es rests.run rests.drained carrier (get_op key) p may-get (e, n, is))
    by (says.Retry (cause.Block b)) is causes = Block_waits b refl
    by says.Moved is causes = absurd (causes.1 ready)
    by says.Lost is causes = absurd (cc (causes.1, heads.lives))
    by says.Down is causes = absurd (rests.up causes)
    by says.Idle is causes = absurd causes.2
    by says.Stranger is causes = absurd causes.2
    by says.Done is causes = absurd causes.2
    by says.AlreadyDead is causes = absurd causes.2
    by says.Gone is causes = absurd causes.2
    by (says.Stale n) is causes = absurd causes.2

  -- after a reply the group is at rest still
  pub got-rests : (step w get).turn.answer ≡ says.Reply (reply.Value h.item) → Rests s (es ++ get ∷ [])
  got-rests is =
      let leaves : AskLeaves w (step w get).world (says.Reply (reply.Value h.item))
      = subst (AskLeaves w (step w get).world) is (asks_leave_always s es rests.run carrier (get_op key) p may-get) in
      let next : after s (es ++ get ∷ []) ≡ (step w get).world = after-more (opening s) es get in
      record {
        run = more-run s es get rests.run may-get;
        drained = subst IsDrained (sym next) (rest-nodes (step w get).world w refl (leaves refl).0 rests.drained);
        up = more-up s es get (still-none get tt) rests.up;
      }
