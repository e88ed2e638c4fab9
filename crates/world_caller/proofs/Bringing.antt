-- Events of a call, one behind the other, and the run that they are.
use Rattle.std.proofs.Common.{ℕ, suc, ◌≡◌, ◌<◌, Bool, true, false, List, [], ◌∷◌, ◌++◌, Option, Some, Result, Ok, Err, OnErr, refl, sym, ap, subst, ◌∙◌, arith}
use Rattle.group_types.specs.declared.process.ProcessId.{ProcessId}
use Rattle.memc_table.specs.Asked.{Asked}
use Rattle.memc_proto.specs.declared.end.FailEnd.{FailEnd}
use Rattle.memc_proto.specs.declared.end.FailEnd.TheVariants as ends
use Rattle.group_calls.specs.declared.event.Event.{Event}
use Rattle.group_calls.specs.declared.event.Event.TheVariants.{Fail}
use Rattle.group_run.specs.Headline.{IsRunFrom}
use Rattle.group_run.specs.World.{World, all_change, process_node, step, world_after}
use Rattle.world_caller.specs.Callers.{end_of_failure}
use Rattle.world_caller.specs.Calling.{EventsBring, HasMovedGroup, IsCallCutShort, IsFirstOrOwn, most_events}
use Rattle.world_caller.specs.Laws.{CanGoOnFrom, Delivers}
use Rattle.world_caller.specs.Making.{AreDelivered, IsFirstDelivered, IsStepMade}
use Rattle.world_caller.specs.declared.stage.Next.{Next}
use Rattle.world_caller.specs.declared.stage.Next.TheVariants.{Ends, Goes}
use Rattle.world_caller.specs.declared.stage.Stage.{Stage}
use Rattle.world_caller.specs.declared.stage.Stage.TheVariants.{Asks}

-- groups after events, one behind the other
after-append : (w : World) (es fs : List Event) → world_after w (es ++ fs) ≡ world_after (world_after w es) fs
after-append w [] fs = refl
after-append w (e ∷ es) fs = after-append (step w e).world es fs

brings-append : (caller : ℕ) (op : Asked) (w : World) (next middle last : Next) (es fs : List Event)
    → EventsBring caller op w next es middle → EventsBring caller op (world_after w es) middle fs last → EventsBring caller op w next (es ++ fs) last
brings-append caller op w next middle last [] fs first more = subst (λ (n : Next). EventsBring caller op w n fs last) first more
brings-append caller op w (Goes stage) middle last (e ∷ es) fs first more =
    (first.0, first.1, brings-append caller op (step w e).world first.0 middle last es fs first.2 more)
brings-append caller op w (Ends end) middle last (e ∷ es) fs first more = absurd first

pub brings-run : (caller : ℕ) (op : Asked) (w : World) (next last : Next) (es : List Event) → EventsBring caller op w next es last → IsRunFrom w es
brings-run caller op w next last [] brings = tt
brings-run caller op w (Goes stage) last (e ∷ es) brings = (brings.1.may, brings-run caller op (step w e).world brings.0 last es brings.2)
brings-run caller op w (Ends end) last (e ∷ es) brings = absurd brings

pub come-none : (caller : ℕ) (op : Asked) (w : World) → HasMovedGroup caller op w w (Goes Asks)
come-none caller op w = record { events = []; after = refl; brings = refl }

come-more : (caller : ℕ) (op : Asked) (w v u : World) (next last : Next) (es : List Event) → HasMovedGroup caller op w v next
    → EventsBring caller op v next es last → u ≡ world_after v es → HasMovedGroup caller op w u last
come-more caller op w v u next last es come more is = record {
  events = come.events ++ es;
  after = is ∙ ap (λ (x : World). world_after x es) come.after ∙ sym (after-append w come.events es);
  brings = brings-append caller op w (Goes Asks) next last come.events es come.brings
      (subst (λ (x : World). EventsBring caller op x next es last) come.after more);
}

pub come-delivered : (caller : ℕ) (op : Asked) (w v u : World) (stage : Stage) → HasMovedGroup caller op w v (Goes stage)
    → AreDelivered v u → HasMovedGroup caller op w u (Goes stage)
come-delivered caller op w v u stage come are = come-more caller op w v u (Goes stage) (Goes stage) are.events come (are.brings caller op stage) are.after

pub come-made : (caller : ℕ) (op : Asked) (w v u : World) (stage : Stage) (next : Next)
    → HasMovedGroup caller op w v (Goes stage) → IsStepMade caller op v stage u next → HasMovedGroup caller op w u next
come-made caller op w v u stage next come made = come-more caller op w v u (Goes stage) next (made.event ∷ []) come (next, made.is, refl) made.after

pub stopped-err : {A E : Type 0} (result : Result A E) (caller : ℕ) (op : Asked) (w v : World) (next : Next)
    → HasMovedGroup caller op w v next → OnErr result (IsCallCutShort caller op w v)
stopped-err (Ok _) caller op w v next come = tt
stopped-err (Err _) caller op w v next come = record { last = next; come = come }

-- deliveries, one behind the other
pub delivered-none : (w : World) → AreDelivered w w
delivered-none w = record { events = []; after = refl; later = omega arith; brings = λ caller op stage. refl; stands = λ caller stage stands. stands }

pub delivered-more : (w v u : World) → AreDelivered w v → v.events < most_events → (is : IsFirstDelivered v u) → Delivers v is.event → AreDelivered w u
delivered-more w v u are counted is delivers = record {
  events = are.events ++ is.event ∷ [];
  after = is.after ∙ ap (λ (x : World). (step x is.event).world) are.after ∙ sym (after-append w are.events (is.event ∷ []));
  later = let before = are.later in let now : u.events ≡ suc v.events = ap (λ (x : World). x.events) is.after in omega (arith, before, now);
  brings = λ caller op stage. brings-append caller op w (Goes stage) (Goes stage) (Goes stage) are.events (is.event ∷ []) (are.brings caller op stage)
      (subst (λ (x : World). EventsBring caller op x (Goes stage) (is.event ∷ []) (Goes stage)) are.after (
        Goes stage,
        record {
          counted = counted;
          may = delivers.may;
          done = subst (λ (o : Option Event). IsFirstOrOwn o caller op v stage is.event (Goes stage)) (sym is.first)
              (refl, refl);
        },
        refl,
      ));
  stands = λ caller stage stands. subst (λ (x : World). CanGoOnFrom caller x stage) (sym is.after)
      (delivers.keeps caller stage (are.stands caller stage stands));
}

-- a failure is answered done, or that the process is dead
pub fails : (w : World) (p : ProcessId) (keep : ℕ) → (end : FailEnd) × (end_of_failure (step w (Fail p keep)).turn.answer ≡ Some end)
fails w p keep = by (process_node w p).dead where
  by : (dead : Bool) → (end : FailEnd) × (end_of_failure (all_change dead w.shape w.nodes p keep).answer ≡ Some end)
  by true = (ends.AlreadyDead, refl)
  by false = (ends.Made, refl)
