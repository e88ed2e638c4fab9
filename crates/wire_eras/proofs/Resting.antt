-- Behind a group at rest in which no change is asked nothing more is settled, whatever else happens.
use Rattle.std.proofs.Common.{ℕ, ◌≡◌, ◌<◌, true, false, List, [], ◌∷◌, ◌++◌, inl, inr, refl, sym, subst, ◌∙◌, arith}
use Rattle.std.proofs.lemmas.List.{append_assoc, append-nil}
use Rattle.std.specs.List.{range_with_len}
use Rattle.group_types.specs.Dimensions.{Dimensions}
use Rattle.group_types.specs.Each.{Each}
use Rattle.group_types.specs.Names.{IsProcess}
use Rattle.group_types.specs.Shape.{IsShape}
use Rattle.group_types.specs.declared.process.ProcessId.{ProcessId}
use Rattle.memc_table.specs.declared.act.Act.{Act}
use Rattle.memc_table.specs.declared.act.Act.TheVariants.{Add, Append, Cas, Decr, Delete, Get, Incr, Prepend, Replace, Set, Touch}
use Rattle.group_message.specs.declared.update.Update.{Update}
use Rattle.group_calls.specs.declared.event.Answer.{Answer}
use Rattle.group_calls.specs.declared.event.Event.{Event}
use Rattle.group_calls.specs.declared.event.Event.TheVariants.{Ask, Collect, Deliver, Fail, Flush, Trace}
use Rattle.group_run.specs.Applying.{replica_of}
use Rattle.group_run.specs.Asking.{collect_from}
use Rattle.group_run.specs.Deciding.{is_get}
use Rattle.group_run.specs.Headline.{IsRun, MayCome}
use Rattle.group_run.specs.History.{History, history, prolonged}
use Rattle.group_run.specs.World.{flush_process, next_name, process_node}
use Rattle.law_moves.specs.State.{State, state_of}
use Rattle.law_moves.proofs.Events.{FramedHistory}
use Rattle.law_moves.proofs.Keeping.{keeps}
use Rattle.law_moves.proofs.Members.{Members}
use Rattle.law_moves.proofs.Moves.{Collects, Flushes}
use Rattle.law_histories.proofs.Around.{GrewBy, keeper-rank}
use Rattle.law_histories.proofs.HistoryWords.{HistoryLaws}
use Rattle.law_histories.proofs.Keeping as reaching
use Rattle.law_histories.proofs.LaneWords.{Prolongs}
use Rattle.law_histories.proofs.Lanes.{begins-trans}
use Rattle.law_histories.proofs.Ranks.{head-from}
use Rattle.law_log.proofs.Books.{run-push}
use Rattle.law_log.proofs.Calls.{Acts, Answers, Dies, Fails, Idle, Was, call-comes, failure-comes, trace-stays}
use Rattle.group_eras.proofs.Fronts.{AllUpto, Upto, upto-ask, upto-deliver}
use Rattle.group_eras.proofs.Resting.{IsGet, Rests, both-fronts, get-keeps, rests-upto, settled-grows, settled_of, state_at, upto-book}
use Rattle.wire_eras.specs.Closed.{Gets}
use Rattle.wire_eras.proofs.Begun.{EventAsks}

is-get : (act : Act) → is_get act ≡ true → IsGet act
is-get (Get key) is = tt
is-get (Set key flags expiry value) is = absurd (cc is)
is-get (Add key flags expiry value) is = absurd (cc is)
is-get (Replace key flags expiry value) is = absurd (cc is)
is-get (Cas key flags expiry cas value) is = absurd (cc is)
is-get (Delete key) is = absurd (cc is)
is-get (Touch key expiry) is = absurd (cc is)
is-get (Append key value) is = absurd (cc is)
is-get (Prepend key value) is = absurd (cc is)
is-get (Incr key by) is = absurd (cc is)
is-get (Decr key by) is = absurd (cc is)

module _ (limit : ℕ → List Update) where
  laws : HistoryLaws (Upto limit)
  laws = record { start = λ d. record { reaches = omega arith; front = refl }; rises = λ d a b history front low high. front }

  module _ (s : Dimensions) (shaped : IsShape s) where
    left : (v w : State) (p : ProcessId) → reaching.Leaves_both (Upto limit) laws s shaped v w p → Members s w
        → IsProcess s p → w.dead p ≡ false → AllUpto limit s v → AllUpto limit s w
    left v w p leaves members pin living all = (members, (λ d below. (leaves d below).0), λ d below. by d below (leaves d below).2) where
      by : (d : ℕ) → d < s.k → GrewBy d (v.settled d) (w.settled d) (w.process p) → Prolongs (w.settled d) (limit d)
      by d below (inl same) = subst (λ (us : List Update). Prolongs us (limit d)) (sym same) (all.2 d below)
      by d below (inr has) =
          let kept = ((leaves d below).0).replicas p pin living
          (keeper-rank d has.head.rank p (head-from s w d members below p has.head pin living has.heads).0) in
          begins-trans (w.settled d) (history (w.settled d) (replica_of (w.process p) d)) (limit d) kept.prolongs kept.fine.1

  -- whatever comes, but for a change that is asked
  one : (h : History) (e : Event) → FramedHistory h → IsShape h.world.shape → MayCome h.world e → EventAsks Gets e → AllUpto limit h.world.shape (state_of h)
      → AllUpto limit h.world.shape (state_of (prolonged h e))
  one h (Ask caller op p) framed shaped may gets all = upto-ask limit h caller op p framed shaped may
      (get-keeps (Upto limit) h.world.shape (state_of h) p (next_name h.world caller) op (is-get op.act gets)) all
  one h (Deliver from to) framed shaped may gets all = upto-deliver limit h from to framed shaped may all
  one h (Trace caller call d p) framed shaped may gets all =
      subst (AllUpto limit h.world.shape) (sym (trace-stays h framed caller call d.0 p may.3 (process_node h.world p).down (process_node h.world p).dead).1) all
  one h (Collect caller call p) framed shaped may gets all =
      by (call-comes h.world.shape h.world.nodes h.settled framed p
      (collect_from caller call (process_node h.world p).process (range_with_len 0 h.world.shape.k)) may.1
      (process_node h.world p).down (process_node h.world p).dead refl refl) where
        by : {w : State} {answer : Answer}
            → Answers h.world.shape (state_of h) w p (collect_from caller call (process_node h.world p).process (range_with_len 0 h.world.shape.k)) answer
            → AllUpto limit h.world.shape w
        by (Idle same idle) = subst (AllUpto limit h.world.shape) (sym same) all
        by {w} (Acts up lives acts is) = left h.world.shape shaped (state_of h) w p
            (reaching.collects-both (Upto limit) laws h.world.shape shaped (state_of h) w p caller call may.1 up lives
            all.0 all.1 acts)
            ((keeps h.world.shape shaped).treats (state_of h) w p
            (collect_from caller call (process_node h.world p).process (range_with_len 0 h.world.shape.k)).step may.1 up
            lives (Collects caller call) all.0 acts)
            may.1 (acts.dead p may.1 ∙ lives) all
  one h (Flush p) framed shaped may gets all =
      by (call-comes h.world.shape h.world.nodes h.settled framed p
      (flush_process h.world.shape (process_node h.world p).process) may (process_node h.world p).down (process_node h.world p).dead
      refl refl) where
        by : {w : State} {answer : Answer}
            → Answers h.world.shape (state_of h) w p (flush_process h.world.shape (process_node h.world p).process) answer
            → AllUpto limit h.world.shape w
        by (Idle same idle) = subst (AllUpto limit h.world.shape) (sym same) all
        by {w} (Acts up lives acts is) = left h.world.shape shaped (state_of h) w p
            (reaching.flushes-both (Upto limit) laws h.world.shape shaped (state_of h) w p may up lives all.0 all.1
            acts)
            ((keeps h.world.shape shaped).treats (state_of h) w p
            (flush_process h.world.shape (process_node h.world p).process).step may up lives Flushes all.0 acts) may
            (acts.dead p may ∙ lives) all
  one h (Fail p keep) framed shaped may gets all =
      by (failure-comes h.world.shape h.world.nodes h.settled framed p keep may (process_node h.world p).dead refl) where
        by : {w : State} → Fails h.world.shape (state_of h) w p keep → AllUpto limit h.world.shape w
        by (Was same) = subst (AllUpto limit h.world.shape) (sym same) all
        by {w} (Dies died) = (
          (keeps h.world.shape shaped).dies (state_of h) w p keep may all.0 died,
          reaching.dies (Upto limit) laws h.world.shape shaped (state_of h) w p keep may all.1 died,
          λ d below. subst (λ (us : List Update). Prolongs us (limit d)) (sym (died.settled d)) (all.2 d below),
        )

  along : (s : Dimensions) (es fs : List Event) → IsRun s (es ++ fs) → Each (EventAsks Gets) fs
      → AllUpto limit s (state_at s es) → AllUpto limit s (state_at s (es ++ fs))
  along s es [] run gets all = subst (λ (xs : List Event). AllUpto limit s (state_at s xs)) (sym (append-nil es)) all
  along s es (f ∷ fs) run gets all =
      let parts = run-push _ es f fs run.1 in
      let there : (es ++ f ∷ []) ++ fs ≡ es ++ f ∷ fs = append_assoc es (f ∷ []) fs in
      let now = upto-book s limit es f (run.0, parts.0) parts.1 (λ h framed shaped may old. one h f framed shaped may gets.0 old) all in
      subst (λ (xs : List Event). AllUpto limit s (state_at s xs)) there (along s (es ++ f ∷ []) fs (subst (IsRun s) (sym there) run) gets.1 now)

-- nothing more is settled
pub settled-stays : (s : Dimensions) (es fs : List Event) → Rests s es → IsRun s (es ++ fs) → Each (EventAsks Gets) fs
    → (d : ℕ) → d < s.k → settled_of s (es ++ fs) d ≡ settled_of s es d
settled-stays s es fs rests run gets d below =
    both-fronts s (settled_of s es d) (settled_of s (es ++ fs) d) (settled-grows s es fs d below)
    ((along (settled_of s es) s es fs run gets (rests-upto s es rests)).2 d below)
