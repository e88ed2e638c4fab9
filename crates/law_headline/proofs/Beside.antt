-- What messages carry is kept beside all that stands of the group and its calls, with no premise more.
use Rattle.std.proofs.Common.{◌≡◌, ◌≢◌, ℕ, ◌+◌, ◌<◌, ◌≤◌, ◌%◌, false, List, ◌∷◌, length, take, Some, sym, subst, ◌∙◌, arith}
use Rattle.group_types.specs.Dimensions.{Dimensions, space_of}
use Rattle.group_types.specs.Hash.{fnv1a, home_of}
use Rattle.group_types.specs.Names.{IsProcess}
use Rattle.group_types.specs.Shape.{IsShape}
use Rattle.group_types.specs.declared.process.ProcessId.{ProcessId}
use Rattle.group_types.specs.declared.process.ProcessId.TheVariants.{DataNode, ParityNode}
use Rattle.group_types.specs.declared.run.Run.{Run}
use Rattle.group_types.specs.Each.{Each}
use Rattle.memc_table.specs.Act.{key_of}
use Rattle.memc_table.specs.Asked.{Asked}
use Rattle.group_message.specs.declared.message.Message.{Message}
use Rattle.group_run.specs.Applying.{ProcessStep, head_at, replica_of}
use Rattle.group_run.specs.Asking.{found_at}
use Rattle.group_calls.specs.declared.decision.Decision.TheVariants as decides
use Rattle.group_run.specs.Deciding.{Bytes, Missing, decide}
use Rattle.group_run.specs.Fitting.{Fits}
use Rattle.group_run.specs.History.{History, history}
use Rattle.group_run.specs.Meaning.{Lives, link, process_of}
use Rattle.group_run.specs.Process.{Head, Process}
use Rattle.group_run.specs.Receiving.{receive}
use Rattle.group_run.specs.Replica.{Items, Replica}
use Rattle.group_run.specs.World.{AskedCall}
use Rattle.law_moves.proofs.Moves.{Acted, Died, Popped, Treats}
use Rattle.law_moves.specs.State.{IsGroupUp, State, state_of}
use Rattle.law_moves.proofs.State.{Opens}
use Rattle.law_moves.proofs.Members.{IsParity}
use Rattle.law_moves.proofs.Keeping as members
use Rattle.law_histories.proofs.Reach.{ReplicaReaches}
use Rattle.law_updates.proofs.Fine.{IsReplicaOf}
use Rattle.law_updates.proofs.Laws.{FineFits}
use Rattle.law_updates.specs.Store.{no_store}
use Rattle.law_updates.proofs.Fines.{fine_histories_fit}
use Rattle.law_updates.proofs.Histories.{store-items}
use Rattle.law_bytes.proofs.LeadingWords.{SessionsFit}
use Rattle.law_bytes.proofs.Fresh.{marks-new}
use Rattle.law_bytes.specs.Areas.{SettledWrite}
use Rattle.law_headline.proofs.Issues.{FineIn, fine-writes, fits, replica-of-history}
use Rattle.law_headline.proofs.Joint.{Whole}
use Rattle.law_headline.proofs.Needs.{WantsWhere, needs-inside, wants-where}
use Rattle.law_headline.proofs.MeetingWords.{GroupStands, RowAsked, SameBlock}
use Rattle.law_headline.proofs.Sound.{LinksSound, NeedsSound}
use Rattle.law_headline.proofs.SoundKept.{sound_kept}
use Rattle.law_headline.proofs.Meets.{messages_fit}

pub below-own : (a k : ℕ) → 0 < k → a % k < k
below-own a k some = omega (arith, some)

-- only a parity process misses blocks
misses : (s : Dimensions) (d : ℕ) (p : Process) (name : ProcessId) (run : Run) (b : ℕ) → found_at s d p name run ≡ Missing b → IsParity name
misses s d p (ParityNode i) run b is = tt
misses s d p (DataNode e) run b is = absurd (bytes_not is) where
  bytes_not : {bytes : List ℕ} → Bytes bytes ≡ Missing b → ⊥
  bytes_not m = cc m

module _ (s : Dimensions) (shaped : IsShape s) where
  module _ (calls : List AskedCall) (v : State) (whole : Whole s calls v) where
    write : SettledWrite s v.settled
    write d low = fine-writes s calls d (length (v.settled d)) (v.settled d) (whole.settled d low)

    -- a block that a head needs rebuilt first is one of the space, and the head is a parity process
    pub needs-at : (p : ProcessId) → IsProcess s p → v.dead p ≡ false → (d : ℕ) → d < s.k → (op : Asked) (h : Head) (b : ℕ) → head_at (v.process p) d ≡ Some h
        → decide (space_of s) h.inherited (replica_of (v.process p) d) op
        (found_at s d (v.process p) (v.process p).name) ≡ decides.NeedBlock b → IsParity (v.process p).name
        × (b < s.blocks)
    needs-at p pin lives d below op h b heads decided = (
      subst (WantsWhere (λ c. IsParity (v.process p).name)) decided
          (wants-where (space_of s) r op (found_at s d (v.process p) (v.process p).name)
          (λ c. IsParity (v.process p).name) (λ run c inside is. misses s d (v.process p) (v.process p).name run c is)
          h.inherited items),
      needs-inside s d h.inherited (v.process p) op b (let least = shaped.block.0 in omega (arith, least)) items decided,
    ) where
      r : Replica
      r = replica_of (v.process p) d

      reached : ReplicaReaches (FineIn s calls) d (v.settled d) (v.process p)
      reached = fits s shaped calls v whole.carried.members whole.reach write whole.bytes p pin lives d below h heads

      fine : FineFits s calls d r.applied (history (v.settled d) r)
      fine = fine_histories_fit s calls d r.applied (history (v.settled d) r) reached.fine.1

      replica : IsReplicaOf r.applied (history (v.settled d) r) r
      replica = replica-of-history (FineIn s calls) d (v.settled d) r (head_at (v.process p) d) reached

      items : Each (λ x. x.1.at + x.1.len ≤ space_of s) r.items
      items =
          subst (λ (xs : Items). Each (λ x. x.1.at + x.1.len ≤ space_of s) xs)
          (store-items s d (no_store s) (take r.applied (history (v.settled d) r)) ∙ sym replica.items) (fine.store r.applied).inside

    pub needs-sound : (p : ProcessId) → IsProcess s p → v.dead p ≡ false → (op : Asked) → NeedsSound s (v.process p) op
    needs-sound p pin lives op h b heads decided = needs-at p pin lives (home_of (key_of op.act) s.k)
        (below-own (fnv1a (key_of op.act)) s.k shaped.k.0) op h b heads decided

    -- every move keeps what messages carry
    pub sound-treated : (w : State) (p : ProcessId) (t : ProcessStep) → IsProcess s p → IsGroupUp s v → v.dead p ≡ false
        → Treats s (v.process p) t → LinksSound s v → Acted s v w p t → LinksSound s w
    sound-treated w p t pin up lives treats sound acts =
        (sound_kept s shaped).treats v w p t pin lives treats whole.carried.members
        ((members.keeps s shaped).treats v w p t pin up lives treats whole.carried.members acts) whole.bytes (needs-sound p pin lives) sound acts

    pub sound-received : (u w : State) (x p : ProcessId) (m : Message) → IsProcess s x → IsProcess s p → x ≢ p → IsGroupUp s v → v.dead p ≡ false
        → LinksSound s v
        → Popped s v u x p m → Acted s u w p (receive s x m (v.process p)) → LinksSound s w
    sound-received u w x p m xin pin apart up lives sound pops acts =
        (sound_kept s shaped).receives v u w x p m xin pin apart lives whole.carried.members
        ((members.keeps s shaped).receives v u w x p m xin pin apart up lives whole.carried.members pops acts) whole.bytes sound pops acts

    -- all that the law of messages asks for
    pub group-stands : SessionsFit s v → LinksSound s v → GroupStands s calls v
    group-stands sessions sound = record {
      members = whole.carried.members;
      reach = whole.reach;
      marks = marks-new s v whole.carried;
      sessions = sessions;
      sound = sound;
    }

  pub sound-began : (v : State) → Opens s v → LinksSound s v
  sound-began v starts = (sound_kept s shaped).opens v starts

  pub sound-died : (v w : State) (p : ProcessId) (keep : ℕ) → IsProcess s p → LinksSound s v → Died s v w p keep → LinksSound s w
  sound-died v w p keep pin sound dies = (sound_kept s shaped).dies v w p keep pin sound dies

-- of a group, in its own words
pub deliveries-fit : (h : History) (s : Dimensions) (calls : List AskedCall) → GroupStands s calls (state_of h) → h.world.shape ≡ s
    → (from to : ProcessId) (m : Message) (rest : List Message) → IsProcess s from → IsProcess s to → from ≢ to → Lives h.world to
    → link h.world from to ≡ m ∷ rest → SameBlock m (process_of h.world to) → RowAsked from m (process_of h.world to) → Fits s from m (process_of h.world to)
deliveries-fit h s calls stands shape from to m rest fin tin apart lives first same asked =
    messages_fit s calls (state_of h) stands from to m rest fin tin apart lives.1 first same asked
