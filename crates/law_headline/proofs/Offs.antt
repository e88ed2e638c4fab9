-- All that stands, with what heads issued: every move keeps it, where what a process newly rebuilds has the settled
-- values at a number from what it inherited on.
use Rattle.std.proofs.Common.{ℕ, ◌≡◌, ◌≢◌, false, List, [], ◌++◌}
use Rattle.std.specs.List.{range_with_len}
use Rattle.group_types.specs.Dimensions.{Dimensions}
use Rattle.group_types.specs.Names.{IsProcess}
use Rattle.group_types.specs.Shape.{IsShape}
use Rattle.group_types.specs.declared.process.ProcessId.{ProcessId}
use Rattle.group_message.specs.declared.message.Message.{Message}
use Rattle.group_run.specs.Asking.{ask_process, collect_from}
use Rattle.group_run.specs.Receiving.{receive}
use Rattle.group_run.specs.World.{AskedCall, flush_process, is_issued}
use Rattle.law_moves.proofs.Moves.{Acted, Died, Popped}
use Rattle.law_moves.specs.State.{IsGroupUp, State}
use Rattle.law_moves.proofs.State.{Opens}
use Rattle.law_log.specs.Book.{call_if}
use Rattle.law_log.proofs.CallWords.{IsNextCall}
use Rattle.law_headline.proofs.Joint as whole
use Rattle.law_headline.proofs.Apart.{HeadsOff, RebuildsAt}
use Rattle.law_headline.proofs.Asks as asks
use Rattle.law_headline.proofs.Events as events
use Rattle.law_headline.proofs.Receives as receives
use Rattle.law_headline.proofs.Rights.{asked-right, collected-right, flushed-right, received-right}

pub record WholeOff (s : Dimensions) (calls : List AskedCall) (v : State) : Type 0 where
  pub stands : whole.Whole s calls v
  pub off : HeadsOff s v

module _ (s : Dimensions) (shaped : IsShape s) where
  pub asked : (calls : List AskedCall) (v w : State) (p : ProcessId) (c : AskedCall) → IsProcess s p → IsGroupUp s v → v.dead p ≡ false → IsNextCall calls c
      → WholeOff s calls v → Acted s v w p (ask_process s c.name c.op (v.process p)).step
      → RebuildsAt s w.settled (v.process p) (ask_process s c.name c.op (v.process p)).step.process
      → WholeOff s (calls ++ call_if (is_issued (ask_process s c.name c.op (v.process p)).answer) c) w
  asked calls v w p c pin up lives next all acts rebuilds = record {
    stands = whole.asked s shaped calls v w p c pin up lives next all.stands acts
        (asked-right s shaped calls v w p pin lives all.stands all.off c.name c.op acts rebuilds);
    off = asks.asked s shaped calls v w p c pin up lives next all.stands acts all.off;
  }

  pub collected : (calls : List AskedCall) (v w : State) (p : ProcessId) (caller call : ℕ) → IsProcess s p → IsGroupUp s v → v.dead p ≡ false
      → WholeOff s calls v
      → Acted s v w p (collect_from caller call (v.process p) (range_with_len 0 s.k)).step → WholeOff s calls w
  collected calls v w p caller call pin up lives all acts = record {
    stands = whole.collected s shaped calls v w p caller call pin up lives all.stands acts (collected-right s w.settled (v.process p) caller call);
    off = events.collected s shaped calls v w p caller call pin up lives all.stands acts all.off;
  }

  pub flushed : (calls : List AskedCall) (v w : State) (p : ProcessId) → IsProcess s p → IsGroupUp s v → v.dead p ≡ false → WholeOff s calls v
      → Acted s v w p (flush_process s (v.process p)).step → WholeOff s calls w
  flushed calls v w p pin up lives all acts = record {
    stands = whole.flushed s shaped calls v w p pin up lives all.stands acts (flushed-right s w.settled (v.process p));
    off = events.flushed s shaped calls v w p pin up lives all.stands acts all.off;
  }

  pub received : (calls : List AskedCall) (v u w : State) (x p : ProcessId) (m : Message) → IsProcess s x → IsProcess s p → x ≢ p → IsGroupUp s v
      → v.dead p ≡ false
      → WholeOff s calls v → Popped s v u x p m → Acted s u w p (receive s x m (v.process p))
      → RebuildsAt s w.settled (v.process p) (receive s x m (v.process p)).process → WholeOff s calls w
  received calls v u w x p m xin pin apart up lives all pops acts rebuilds = record {
    stands =
        whole.received s shaped calls v u w x p m xin pin apart up lives all.stands pops acts
        (received-right s shaped calls v u w x p m xin pin apart up lives all.stands pops acts all.off rebuilds);
    off = receives.received s shaped calls v u w x p m xin pin apart up lives all.stands pops acts all.off;
  }

  pub died : (calls : List AskedCall) (v w : State) (p : ProcessId) (keep : ℕ) → IsProcess s p → WholeOff s calls v → Died s v w p keep → WholeOff s calls w
  died calls v w p keep pin all dies = record { stands = whole.died s shaped calls v w p keep pin all.stands dies; off = events.died s v w p keep dies all.off }

  pub began : (v : State) → Opens s v → WholeOff s [] v
  began v starts = record { stands = whole.began s shaped v starts; off = events.began s v starts }
