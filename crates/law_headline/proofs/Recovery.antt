-- Rebuilt blocks and rows' copies, in the words of the log.
use Rattle.std.proofs.Common.{ℕ, ◌≡◌, ◌<◌, ◌*◌, List, [], length, take, Some, None, sym, ap, subst, ◌∙◌, arith}
use Rattle.std.specs.Prelude.{slice_get, unwrap_or}
use Rattle.std.proofs.lemmas.List.FromFn.{get_or-map-range_with_len, length-map-range_with_len}
use Rattle.std.proofs.lemmas.Option.{get_or_from_slice_get}
use Rattle.erasure_code.specs.Code.{coded}
use Rattle.group_types.specs.Dimensions.{space_of}
use Rattle.group_types.specs.Lists.{at}
use Rattle.group_types.specs.Shape.{IsShape}
use Rattle.group_types.specs.declared.process.ProcessId.{ProcessId}
use Rattle.group_types.specs.declared.process.ProcessId.TheVariants.{ParityNode}
use Rattle.group_types.proofs.Eaches.{each-take}
use Rattle.group_message.specs.declared.update.Update.{Update}
use Rattle.group_run.specs.Applying.{replica_of}
use Rattle.group_run.specs.History.{History}
use Rattle.group_run.specs.Meaning.{process_of}
use Rattle.group_run.specs.Process.{Process}
use Rattle.group_run.specs.Recovery.{CopiesHoldCode, RebuiltIsSettled, code_block, copy_stamp, value_block}
use Rattle.group_run.specs.Rows.{block_in}
use Rattle.group_run.specs.World.{AskedCall}
use Rattle.law_moves.specs.State.{state_of}
use Rattle.law_log.proofs.Calls.{each-contained}
use Rattle.law_log.proofs.ReplicaWords.{ReplicaStands}
use Rattle.law_log.proofs.Shown.{LogShows}
use Rattle.group_run.specs.Headline.{KeepsAll}
use Rattle.group_run.specs.Replica.{Replica}
use Rattle.law_bytes.specs.Areas.{IsBlock, WritesBytes, block_size, code, held, value, SettledWrite}
use Rattle.law_bytes.specs.Decoding.{columns, values}
use Rattle.law_bytes.specs.Held.{CopyHolds, marked_at, marked_stand}
use Rattle.law_bytes.proofs.Copies.{block-of-space}
use Rattle.law_bytes.proofs.Decode.{area-one, coded-area, columns-areas, values-area}
use Rattle.law_headline.proofs.Joint.{Whole}
use Rattle.law_headline.proofs.Promises.{stamp-columns, values-are, write}

module _ (h : History) (calls : List AskedCall) (shaped : IsShape h.world.shape) (whole : Whole h.world.shape calls (state_of h))
    (shows : (d : ℕ) → d < h.world.shape.k → LogShows h.world.shape h.world d (at [] h.settled d))
    (keeps : (d : ℕ) → d < h.world.shape.k → (r : Replica) → ReplicaStands h.world.shape calls (at [] h.settled d) d r → KeepsAll h.world d r) where
  -- a block of the values of the first settled updates
  pub value-block : (b d n : ℕ) (bytes : List ℕ) → d < h.world.shape.k
      → IsBlock h.world.shape b (value (take n (at [] h.settled d))) bytes → bytes ≡ value_block h.world b d n
  value-block b d n bytes below block =
      area-one (b * h.world.shape.block) (block_size h.world.shape b) (value (take n (at [] h.settled d))) bytes (value_block h.world b d n) block
      (subst (λ (space : List ℕ). IsBlock h.world.shape b (value (take n (at [] h.settled d)))
      (block_in h.world.shape b space)) (values-are h calls shaped whole shows keeps d n below)
      (block-of-space h.world.shape (λ d. at [] h.settled d) b (value (take n (at [] h.settled d))) (values h.world.shape d (take n (at [] h.settled d)))
      (values-area h.world.shape d (take n (at [] h.settled d))
      (each-take (WritesBytes h.world.shape) n (at [] h.settled d)
      (write h calls shaped whole shows keeps d below)))))

  pub rebuilt-is-settled : RebuiltIsSettled h.world
  rebuilt-is-settled i d block bytes lives below is =
      value-block block d (replica_of (process_of h.world (ParityNode i)) d).applied bytes below
      ((whole.bytes (ParityNode i) lives.0 lives.1).rebuilt d block bytes below is)

  -- a block of the code at a stamp
  pub code-block : (b i : ℕ) (us : ℕ → List Update) (stamp bytes : List ℕ) → length stamp ≡ h.world.shape.k
      → ((d n : ℕ) → d < h.world.shape.k → slice_get stamp d ≡ Some n → us d ≡ take n (at [] h.settled d))
      → SettledWrite h.world.shape us → IsBlock h.world.shape b (code h.world.shape i us) bytes → bytes ≡ code_block h.world b i stamp
  code-block b i us stamp bytes many each writes block =
      area-one (b * h.world.shape.block) (block_size h.world.shape b) (code h.world.shape i us) bytes (code_block h.world b i stamp) block
      (subst (λ (cs : List (List ℕ)). IsBlock h.world.shape b (code h.world.shape i us)
      (block_in h.world.shape b (coded h.world.shape.m i (space_of h.world.shape) cs)))
      (stamp-columns h calls shaped whole shows keeps us stamp many each)
      (block-of-space h.world.shape (λ d. at [] h.settled d) b (code h.world.shape i us)
      (coded h.world.shape.m i (space_of h.world.shape) (columns h.world.shape us))
      (coded-area h.world.shape.k 0 (space_of h.world.shape) (λ d. value (us d)) (columns h.world.shape us)
      (columns-areas h.world.shape us writes) h.world.shape.m i)))

  pub copies-hold-code : CopiesHoldCode h.world
  copies-hold-code i copy lives there =
      let p : Process = process_of h.world (ParityNode i) in
      let holds : CopyHolds h.world.shape (λ d. at [] h.settled d) (process_of h.world (ParityNode i)) copy =
      each-contained (CopyHolds h.world.shape (λ d. at [] h.settled d) (process_of h.world (ParityNode i)))
      p.as_row.copies copy (whole.bytes (ParityNode i) lives.0 lives.1).copies there in
      code-block copy.block i (marked_stand (λ d. at [] h.settled d) copy.marks p) (copy_stamp h.world.shape p copy) copy.bytes
      (length-map-range_with_len (λ d. unwrap_or (at None copy.marks d) (replica_of p d).applied) 0 h.world.shape.k)
      (λ d n below is. ap (λ (x : ℕ). take x (at [] h.settled d)) (stamp-at d n below is))
      (λ d below. each-take (WritesBytes h.world.shape) (marked_at copy.marks p d) (at [] h.settled d) (write h calls shaped whole shows keeps d below))
      (subst (λ (x : ProcessId). IsBlock h.world.shape copy.block
      (held h.world.shape x (marked_stand (λ d. at [] h.settled d) copy.marks p)) copy.bytes)
      (whole.carried.members.named (ParityNode i) lives.0) holds.bytes)
    where
      stamp-at : (d n : ℕ) → d < h.world.shape.k → slice_get (copy_stamp h.world.shape (process_of h.world (ParityNode i)) copy) d ≡ Some n
          → marked_at copy.marks (process_of h.world (ParityNode i)) d ≡ n
      stamp-at d n below is =
          sym (get_or-map-range_with_len
          (λ e. unwrap_or (at None copy.marks e) (replica_of (process_of h.world (ParityNode i)) e).applied) 0
          h.world.shape.k d d 0 below (omega arith))
          ∙ get_or_from_slice_get (copy_stamp h.world.shape (process_of h.world (ParityNode i)) copy) d n 0 is
