-- Why a head decides so, walked through once.
use Rattle.std.proofs.Common.{ℕ, suc, ◌≡◌, ◌+◌, ◌<◌, ◌≤◌, nat_le, nat_lt, Bool, true, false, ◌&&◌, List, length, Option}
use Rattle.std.proofs.Common.{Some, None, ◌⊎◌, inl, inr, if◌then◌else◌, refl, sym, ap, ◌∙◌, arith}
use Rattle.std.proofs.lemmas.Grind.{common_steps}
use Rattle.std.proofs.lemmas.List.{length-replicate}
use Rattle.erasure_code.specs.Spaces.{bytes_at}
use Rattle.group_types.specs.declared.run.Run.{Run}
use Rattle.item_index.specs.declared.slot.Slot.{Slot}
use Rattle.memc_table.specs.Act.{key_of}
use Rattle.memc_table.specs.Asked.{Asked}
use Rattle.memc_table.specs.Expiry.{is_live, live_at}
use Rattle.memc_table.specs.Ruling.{ruling_of}
use Rattle.memc_table.specs.declared.holding.Holding.{Holding}
use Rattle.memc_table.specs.declared.reply.Reply.{Reply}
use Rattle.memc_table.specs.declared.ruling.Ruling.{Ruling}
use Rattle.memc_table.specs.declared.ruling.Ruling.TheVariants.{Refused, Accepted}
use Rattle.group_message.specs.declared.update.Outcome.{Outcome}
use Rattle.group_calls.specs.declared.decision.Decision.{Decision}
use Rattle.group_calls.specs.declared.decision.Decision.TheVariants.{Answer, Retry, NoSpace, NeedBlock, Issue}
use Rattle.group_run.specs.Deciding.{Bytes, Found, Missing, blind_reply, decide_accepted, decide_blind, decide_found}
use Rattle.group_run.specs.Deciding.{decide_left, decide_placed, decide_ruled, decide_written, held_as, is_blind}
use Rattle.group_run.specs.Deciding.{is_touch, item_found, outcome_of, reads_bytes, ruling_with, run_needed, slot_length}
use Rattle.group_run.specs.Deciding.{unseen, window}
use Rattle.group_run.specs.Free.{place_for}
use Rattle.group_run.specs.Replica.{Replica, last_of, run_in, slot_in}
use Rattle.law_updates.specs.Decisions.{ReadsFrom}
use Rattle.law_updates.specs.Right.{ruling_in}
use Rattle.law_updates.specs.Store.{Store, held_in}
use Rattle.law_updates.proofs.Blind.{Alike, LeavesAlike, alike-same, blind-held, blind-refused, same-empty, unread-alike}
use Rattle.law_updates.proofs.Unread as unread
use Rattle.law_updates.proofs.Keys.{OfSlot}
use Rattle.law_updates.proofs.Spaces.{length-bytes_at}

-- the table accepts the op, and leaves this
abbrev pub Accepts : Ruling → Option Holding → Type 0
Accepts real leaves = (reply : Reply) × (real ≡ Accepted reply leaves)

-- the bytes that the op needs of the item are there
abbrev pub Readable : Replica → Asked → (Run → Found) → Type 0
Readable r op read = (run : Run) (b : ℕ) → run_needed op (slot_in r.items (key_of op.act)) ≡ Some run → ¬ (read run ≡ Missing b)

-- how many bytes the item has
abbrev pub item_length : Replica → Asked → ℕ
item_length r op = slot_length (slot_in r.items (key_of op.act))

-- where the op leaves a value that it writes, there is a run for it, over bytes that are there
abbrev pub HasPlace : ℕ → Replica → Asked → (Run → Found) → Option Holding → Type 0
HasPlace space r op read leaves = (h : Holding) → leaves ≡ Some h → is_touch op.act ≡ false
    → (run : Run) × (place_for space r (length h.item.value) ≡ Some run) × ((b : ℕ) → ¬ (read run ≡ Missing b))

-- a block of the item is missing, and the op isn't refused without it
pub record MissesItem (r : Replica) (op : Asked) (read : Run → Found) (real : Ruling) (b : ℕ) : Type 0 where
  pub run : Run
  pub missing : read run ≡ Missing b
  pub needed : run_needed op (slot_in r.items (key_of op.act)) ≡ Some run
  pub seeing : (reply : Reply) → real ≡ Refused reply → ¬ (is_blind (item_length r op) reply ≡ true)

-- a block under the new value is missing
pub record MissesPlace (space : ℕ) (r : Replica) (op : Asked) (read : Run → Found) (real : Ruling) (b : ℕ) : Type 0 where
  pub run : Run
  pub missing : read run ≡ Missing b
  pub written : is_touch op.act ≡ false
  pub value : Holding
  pub takes : Accepts real (Some value)
  pub place : place_for space r (length value.item.value) ≡ Some run
  pub reads : Readable r op read
  pub few : length r.log < window

-- the op is issued
pub record Issues (space : ℕ) (r : Replica) (op : Asked) (read : Run → Found) (real : Ruling) (outcome : Outcome) : Type 0 where
  pub reply : Reply
  pub leaves : Option Holding
  pub ruled : real ≡ Accepted reply leaves
  pub ends : outcome ≡ outcome_of reply
  pub reads : Readable r op read
  pub few : length r.log < window
  pub place : HasPlace space r op read leaves

-- no run is free for the new value
pub record FindsNone (space : ℕ) (r : Replica) (op : Asked) (read : Run → Found) (real : Ruling) : Type 0 where
  pub written : is_touch op.act ≡ false
  pub value : Holding
  pub takes : Accepts real (Some value)
  pub none : place_for space r (length value.item.value) ≡ None
  pub reads : Readable r op read
  pub few : length r.log < window

-- the window is full
pub record FindsFull (r : Replica) (op : Asked) (read : Run → Found) (real : Ruling) (n : ℕ) : Type 0 where
  pub oldest : n ≡ suc r.applied
  pub full : window ≤ length r.log
  pub leaves : Option Holding
  pub takes : Accepts real leaves
  pub reads : Readable r op read

-- why a head decides so, where nothing stands in the way on the key: no earlier rule decides
abbrev pub Caused : ℕ → Replica → Asked → (Run → Found) → Ruling → Decision → Type 0
Caused space r op read real (Answer reply) = (real ≡ Refused reply) × ((is_blind (item_length r op) reply ≡ true) ⊎ Readable r op read)
Caused space r op read real (Issue body outcome) = Issues space r op read real outcome
Caused space r op read real (Retry n) = FindsFull r op read real n
Caused space r op read real NoSpace = FindsNone space r op read real
Caused space r op read real (NeedBlock b) = MissesItem r op read real b ⊎ MissesPlace space r op read real b

module _ (space : ℕ) (r : Replica) (store : Store) (op : Asked) (read : Run → Found) (long : length store.space ≡ space)
    (reads : ReadsFrom store.space read) where
  -- what the table makes of the op
  abbrev pub real : Ruling
  real = ruling_in store (suc (last_of r)) op

  module _ (reply : Reply) (leaves : Option Holding) (ruled : real ≡ Accepted reply leaves) (can : Readable r op read) where
    module _ (few : length r.log < window) where
      issues : HasPlace space r op read leaves → Issues space r op read real (outcome_of reply)
      issues place = record { reply = reply; leaves = leaves; ruled = ruled; ends = refl; reads = can; few = few; place = place }

      module _ (h k : Holding) (left : leaves ≡ Some k) (same : h ≡ k) (valued : is_touch op.act ≡ false) where
        takes : Accepts real (Some k)
        takes = (reply, ruled ∙ ap (Accepted reply) left)

        place-same : place_for space r (length k.item.value) ≡ place_for space r (length h.item.value)
        place-same = ap (λ (x : Holding). place_for space r (length x.item.value)) (sym same)

        written : (run : Run) → place_for space r (length h.item.value) ≡ Some run → (found : Found) → read run ≡ found
            → Caused space r op read real (decide_written (outcome_of reply) h run found)
        written run place (Missing b) found =
            inr (record {
              run = run;
              missing = found;
              written = valued;
              value = k;
              takes = takes;
              place = place-same
                  ∙ place;
              reads = can;
              few = few;
            })
        written run place (Bytes under) found = issues (λ x is touch. (run, of x is, λ b missing. cc (found, missing))) where
          of : (x : Holding) → leaves ≡ Some x → place_for space r (length x.item.value) ≡ Some run
          of x is = let one : x ≡ k = cc (is, left) in ap (λ (y : Holding). place_for space r (length y.item.value)) one ∙ place-same ∙ place

        placed : (place : Option Run) → place_for space r (length h.item.value) ≡ place
            → Caused space r op read real (decide_placed read (outcome_of reply) h place)
        placed None is = record { written = valued; value = k; takes = takes; none = place-same ∙ is; reads = can; few = few }
        placed (Some run) is = written run is (read run) refl

      left : (touch : Bool) → is_touch op.act ≡ touch → (mine theirs : Option Holding) → leaves ≡ theirs → LeavesAlike touch mine theirs
          → Caused space r op read real (decide_left space r read (outcome_of reply) touch mine)
      left touch touches None None is alike = issues (λ h some valued. absurd (cc (is, some)))
      left touch touches None (Some k) is alike = absurd alike
      left touch touches (Some h) None is alike = absurd alike
      left true touches (Some h) (Some k) is alike = issues (λ h some valued. absurd (cc (touches, valued)))
      left false touches (Some h) (Some k) is alike = placed h k is alike touches (place_for space r (length h.item.value)) refl

    accepted : (mine : Option Holding) → LeavesAlike (is_touch op.act) mine leaves → (full : Bool) → nat_le window (length r.log) ≡ full
        → Caused space r op read real (decide_accepted full r (decide_left space r read (outcome_of reply) (is_touch op.act) mine))
    accepted mine alike true full = record { oldest = refl; full = grind (arith, common_steps); leaves = leaves; takes = (reply, ruled); reads = can }
    accepted mine alike false full = left (let few : length r.log < window = grind (arith, common_steps) in few) (is_touch op.act) refl mine leaves refl alike

  -- a ruling that is alike to the table's
  caused-ruled : (mine theirs : Ruling) → Alike (is_touch op.act) mine theirs → real ≡ theirs → Readable r op read
      → Caused space r op read real (decide_ruled space r op read mine)
  caused-ruled (Refused a) (Refused b) alike ruled can = (ruled ∙ ap Refused (sym alike), inr can)
  caused-ruled (Refused a) (Accepted b m) alike ruled can = absurd alike
  caused-ruled (Accepted a l) (Refused b) alike ruled can = absurd alike
  caused-ruled (Accepted a l) (Accepted b m) alike ruled can =
      accepted a m (ruled ∙ ap (λ (x : Reply). Accepted x m) (sym alike.0)) can l alike.1 (nat_le window (length r.log))
      refl

  -- the ruling on an item with these bytes
  abbrev ruling_on : Slot → List ℕ → Ruling
  ruling_on = unread.ruling_on r store op

  module _ (slot : Slot) (is : slot_in store.items (key_of op.act) ≡ Some slot)
      (own_is : slot_in r.items (key_of op.act) ≡ Some slot) (within : slot.at + slot.len ≤ length store.space) where
    abbrev own : List ℕ
    own = unread.own r store op slot is within

    -- how many bytes it has
    item-long : item_length r op ≡ slot.len
    item-long = ap slot_length own_is

    -- nothing is needed but this
    needed-is : (o : Option Run) → run_needed op (Some slot) ≡ o → (run : Run) → run_needed op (slot_in r.items (key_of op.act)) ≡ Some run → o ≡ Some run
    needed-is o need run is = sym need ∙ ap (run_needed op) (sym own_is) ∙ is

    needed-found : ((reply : Reply) → real ≡ Refused reply → ¬ (is_blind (item_length r op) reply ≡ true))
        → run_needed op (Some slot) ≡ Some (run_in slot) → (found : Found) → read (run_in slot) ≡ found
        → Caused space r op read real (decide_found space r op read (Some slot) found)
    needed-found seeing need (Missing b) found = inl (record { run = run_in slot; missing = found; needed = ap (run_needed op) own_is ∙ need; seeing = seeing })
    needed-found seeing need (Bytes bytes) found =
        let same : bytes ≡ own = reads (run_in slot) bytes within found in
        caused-ruled (ruling_on slot bytes) (ruling_on slot own)
        (alike-same (is_touch op.act) (ruling_on slot bytes) (ruling_on slot own) (ap (ruling_on slot) same)) (unread.real-on r store op slot is)
        (λ run b needs missing. there run b (needed-is (Some (run_in slot)) need run needs) missing)
      where
        there : (run : Run) (b : ℕ) → Some (run_in slot) ≡ Some run → ¬ (read run ≡ Missing b)
        there run b one missing = let same : run_in slot ≡ run = cc one in absurd (cc (found, ap read same, missing))

    needed : ((reply : Reply) → real ≡ Refused reply → ¬ (is_blind (item_length r op) reply ≡ true)) → (b : Bool)
        → (reads_bytes op.act && is_live op.moment slot.until && nat_lt 0 slot.len) ≡ b
        → Caused space r op read real (decide_found space r op read (Some slot) (item_found read (Some slot) (if b then Some (run_in slot) else None)))
    needed seeing true need = needed-found seeing (ap (λ (b : Bool). if b then Some (run_in slot) else None) need) (read (run_in slot)) refl
    needed seeing false none =
        caused-ruled (ruling_on slot (unseen (Some slot))) (ruling_on slot own)
        (unread.unneeded r store op slot is within (reads_bytes op.act) (is_live op.moment slot.until) refl none) (unread.real-on r store op slot is)
        (λ run b needs missing. absurd (cc (needed-is None (ap (λ (b : Bool). if b then Some (run_in slot) else None) none) run needs)))

    item : (blind : Option Reply) → blind_reply slot.len (ruling_on slot (unseen (Some slot))) ≡ blind
        → Caused space r op read real (decide_blind space r op read (Some slot) blind)
    item (Some reply) blind = (
      unread.blind-item r store op slot is within reply blind,
      inl (ap (λ (n : ℕ). is_blind n reply) item-long ∙ (blind-refused slot.len (ruling_on slot (unseen (Some slot))) reply blind).1),
    )
    item None blind = needed seeing (reads_bytes op.act && is_live op.moment slot.until && nat_lt 0 slot.len) refl where
      seeing : (reply : Reply) → real ≡ Refused reply → ¬ (is_blind (item_length r op) reply ≡ true)
      seeing reply refused blinds =
          let blind_there : is_blind slot.len reply ≡ true = sym (ap (λ (n : ℕ). is_blind n reply) item-long) ∙ blinds in
          let zeros : ruling_on slot (unseen (Some slot)) ≡ Refused reply = unread.item-blind r store op slot is within reply refused blind_there in
          let some : blind_reply slot.len (ruling_on slot (unseen (Some slot))) ≡ Some reply
          = ap (blind_reply slot.len) zeros ∙ ap (λ (b : Bool). if b then Some reply else None) blind_there in
          absurd (cc (blind, some))

  no-item : slot_in store.items (key_of op.act) ≡ None → slot_in r.items (key_of op.act) ≡ None → (blind : Option Reply)
      → blind_reply 0 (ruling_of op.moment (suc (last_of r)) op.act None) ≡ blind
      → Caused space r op read real (decide_blind space r op read None blind)
  no-item is own_is (Some reply) blind =
      let refused = blind-refused 0 (ruling_of op.moment (suc (last_of r)) op.act None) reply blind in (
        ap (λ (x : Option Slot). ruling_of op.moment (suc (last_of r)) op.act (live_at op.moment (held_in store.space x))) is ∙ refused.0,
        inl (ap (λ (x : Option Slot). is_blind (slot_length x) reply) own_is ∙ refused.1),
      )
  no-item is own_is None blind =
      caused-ruled (ruling_of op.moment (suc (last_of r)) op.act None)
      (ruling_of op.moment (suc (last_of r)) op.act None) (alike-same (is_touch op.act) _ _ refl)
      (ap (λ (x : Option Slot). ruling_of op.moment (suc (last_of r)) op.act (live_at op.moment (held_in store.space x))) is)
      (λ run b needs missing. absurd (cc (ap (run_needed op) (sym own_is) ∙ needs)))

  pub caused : (slot : Option Slot) → slot_in store.items (key_of op.act) ≡ slot → slot_in r.items (key_of op.act)
      ≡ slot → OfSlot (λ x. x.at + x.len ≤ space) slot
      → Caused space r op read real (decide_blind space r op read slot (blind_reply (slot_length slot) (ruling_with r op slot (unseen slot))))
  caused None is own_is within = no-item is own_is (blind_reply 0 (ruling_of op.moment (suc (last_of r)) op.act None)) refl
  caused (Some slot) is own_is within = item slot is own_is (omega (arith, long, within)) (blind_reply slot.len (ruling_on slot (unseen (Some slot)))) refl
