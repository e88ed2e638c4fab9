-- What a head decides of a call, walked through once.
use Rattle.std.proofs.Common.{ℕ, zero, suc, ◌≡◌, ◌+◌, ◌<◌, ◌≤◌, nat_le, nat_lt, Bool, true, false, ◌&&◌, List, length}
use Rattle.std.proofs.Common.{Option, Some, None, if◌then◌else◌, refl, sym, ap, subst, ◌∙◌, arith}
use Rattle.std.proofs.lemmas.Grind.{common_steps}
use Rattle.field_byte.specs.Vectors.{add_bytes}
use Rattle.erasure_code.specs.Spaces.{bytes_at}
use Rattle.group_types.specs.declared.run.Run.{Run}
use Rattle.item_index.specs.declared.slot.Slot.{Slot}
use Rattle.memc_table.specs.Act.{key_of}
use Rattle.memc_table.specs.Asked.{Asked}
use Rattle.memc_table.specs.Expiry.{is_live, live_at}
use Rattle.memc_table.specs.Ruling.{ruling_of}
use Rattle.memc_table.specs.declared.act.Act.{Act}
use Rattle.memc_table.specs.declared.holding.Holding.{Holding}
use Rattle.memc_table.specs.declared.reply.Reply.{Reply}
use Rattle.memc_table.specs.declared.ruling.Ruling.{Ruling}
use Rattle.memc_table.specs.declared.ruling.Ruling.TheVariants.{Refused, Accepted}
use Rattle.group_message.specs.declared.update.Body.{Body}
use Rattle.group_message.specs.declared.update.Body.TheVariants.{Put, Remove, Touch}
use Rattle.group_calls.specs.declared.decision.Decision.TheVariants.{Issue}
use Rattle.run_alloc.specs.Free.{AllFree}
use Rattle.law_updates.proofs.Placing.{places_are_best}
use Rattle.law_updates.specs.Placing.{IsPlaced}
use Rattle.group_run.specs.Deciding.{Bytes, Found, Missing, blind_reply, decide_accepted, decide_blind, decide_found}
use Rattle.group_run.specs.Deciding.{decide_left, decide_placed, decide_ruled, decide_waiting, decide_written, is_get}
use Rattle.group_run.specs.Deciding.{is_touch, item_found, outcome_of, reads_bytes, ruling_with, slot_length, unseen}
use Rattle.group_run.specs.Deciding.{waits_for, window}
use Rattle.group_run.specs.Fitting.{IsRunOf}
use Rattle.group_run.specs.Free.{is_free, place_for}
use Rattle.group_run.specs.Replica.{Items, Replica, last_of, number_on, run_in, slot_in}
use Rattle.law_updates.specs.Decisions.{DecisionsAreSound, IsPlacedBody, IsPlacedPut, IsRefusal, IsSound, ReadsFrom}
use Rattle.law_updates.specs.Right.{ruling_in}
use Rattle.law_updates.specs.Store.{Store, held, held_in}
use Rattle.law_updates.proofs.Blind.{Alike, LeavesAlike, alike-same, blind-refused}
use Rattle.law_updates.proofs.Unread as unread
use Rattle.law_updates.proofs.Keys.{OfSlot, each-slot}
use Rattle.law_updates.proofs.Rules.{RulesWell, refusal, refusal-is, refused-any, rules-well}

-- a run that was found free
pub record Place (space : ℕ) (r : Replica) (len : ℕ) (run : Run) : Type 0 where
  pub fits : IsRunOf space len run
  pub free : AllFree (is_free space r) run.at run.len

run-of : Run → Option Run → Run
run-of d None = d
run-of d (Some run) = run

pub place-free : (space : ℕ) (r : Replica) (len : ℕ) (run : Run) → place_for space r len ≡ Some run → Place space r len run
unfolding run-of
place-free space r zero run is =
    let same : record { at = 0; len = 0 } ≡ run = ap (run-of run) is in
    subst (Place space r 0) same (record { fits = record { long = refl; inside = omega arith }; free = λ a from to. absurd (omega arith) })
place-free space r (suc len) run is =
    let best : IsPlaced space r (suc len) (Some run) = subst (IsPlaced space r (suc len)) is (places_are_best space r (suc len) (omega arith)) in
    let wide = best.1.1 in
    record {
      fits = record { long = best.0; inside = omega (arith, best.0, wide.run.inside, wide.fits) };
      free = λ a from to. wide.run.all_free a from (omega (arith, best.0, wide.fits));
    }

-- an op that isn't a get waits for any update on its key
waits-none : (inherited : ℕ) (act : Act) (m : Option ℕ) → is_get act ≡ false → waits_for inherited act m ≡ None → m ≡ None
waits-none inherited act None other free = refl
waits-none inherited act (Some n) other free =
    let waits : (if is_get act then (if nat_le n inherited then Some n else None) else Some n) ≡ Some n =
    ap (λ (b : Bool). if b then (if nat_le n inherited then Some n else None) else Some n) other in
    sym waits ∙ free

module _ (space inherited : ℕ) (r : Replica) (store : Store) (op : Asked) (read : Run → Found)
    (long : length store.space ≡ space) (reads : ReadsFrom store.space read)
    (waits : waits_for inherited op.act (number_on r.log (key_of op.act)) ≡ None) where
  -- what the table makes of the op
  abbrev real : Ruling
  real = ruling_in store (suc (last_of r)) op

  -- what a refusal says
  refuses : (reply : Reply) → real ≡ Refused reply → IsRefusal inherited r store op reply
  refuses reply is = record {
    ruled = λ n. refusal-is reply (ruling_in store n op)
        (refused-any op.moment n (suc (last_of r)) op.act (live_at op.moment (held store (key_of op.act))) ∙ ap refusal is);
    waits = waits;
  }

  module _ (reply : Reply) (leaves : Option Holding) (ruled : real ≡ Accepted reply leaves) (few : length r.log < window) where
    well : RulesWell (suc (last_of r)) op.act (live_at op.moment (held store (key_of op.act))) (Accepted reply leaves)
    well = subst (RulesWell (suc (last_of r)) op.act (live_at op.moment (held store (key_of op.act)))) ruled
        (rules-well op.moment (suc (last_of r)) op.act (live_at op.moment (held store (key_of op.act))))

    issues : (body : Body) → IsPlacedBody space r store (is_touch op.act) leaves body → IsSound space inherited r store op (Issue body (outcome_of reply))
    issues body writes = record {
      reply = reply;
      leaves = leaves;
      ruled = ruled;
      told = refl;
      writes = writes;
      few = few;
      alone = waits-none inherited op.act (number_on r.log (key_of op.act)) well.2 waits;
    }

    -- a value is written in its place
    written : (h : Holding) (run : Run) (found : Found) → read run ≡ found → Place space r (length h.item.value) run
        → ((body : Body) → IsPlacedPut space r store h body → IsSound space inherited r store op (Issue body (outcome_of reply)))
        → IsSound space inherited r store op (decide_written (outcome_of reply) h run found)
    written h run (Missing b) found place sound = tt
    written h run (Bytes under) found place sound =
        let is : under ≡ bytes_at run.at run.len store.space = reads run under (omega (arith, long, place.fits.inside)) found in
        sound _ (record {
          run = run;
          fits = place.fits;
          free = place.free;
          is = ap (λ (bytes : List ℕ). Put h.item.flags h.until run (add_bytes h.item.value bytes)) is;
        })

    placed : (h : Holding) (place : Option Run) → place_for space r (length h.item.value) ≡ place
        → ((body : Body) → IsPlacedPut space r store h body → IsSound space inherited r store op (Issue body (outcome_of reply)))
        → IsSound space inherited r store op (decide_placed read (outcome_of reply) h place)
    placed h None is sound = tt
    placed h (Some run) is sound = written h run (read run) refl (place-free space r (length h.item.value) run is) sound

    left : (touch : Bool) (mine theirs : Option Holding) → LeavesAlike touch mine theirs
        → ((body : Body) → IsPlacedBody space r store touch theirs body → IsSound space inherited r store op (Issue body (outcome_of reply)))
        → IsSound space inherited r store op (decide_left space r read (outcome_of reply) touch mine)
    left touch None None alike sound = sound Remove refl
    left touch None (Some k) alike sound = absurd alike
    left touch (Some h) None alike sound = absurd alike
    left true (Some h) (Some k) alike sound = sound (Touch h.until) (ap Touch alike)
    left false (Some h) (Some k) alike sound =
        placed h (place_for space r (length h.item.value)) refl
        (λ body put. sound body (subst (λ (x : Holding). IsPlacedPut space r store x body) alike put))

  accepted : (reply : Reply) (mine theirs : Option Holding) → real ≡ Accepted reply theirs → LeavesAlike (is_touch op.act) mine theirs
      → (full : Bool) → nat_le window (length r.log) ≡ full
      → IsSound space inherited r store op (decide_accepted full r (decide_left space r read (outcome_of reply) (is_touch op.act) mine))
  accepted reply mine theirs ruled alike true full = tt
  accepted reply mine theirs ruled alike false full =
      let few : length r.log < window = grind (arith, common_steps) in
      left reply theirs ruled few (is_touch op.act) mine theirs alike (issues reply theirs ruled few)

  -- a ruling that is alike to the table's
  sound-ruled : (mine theirs : Ruling) → Alike (is_touch op.act) mine theirs → real ≡ theirs
      → IsSound space inherited r store op (decide_ruled space r op read mine)
  sound-ruled (Refused a) (Refused b) alike ruled = refuses a (ruled ∙ ap Refused (sym alike))
  sound-ruled (Refused a) (Accepted b m) alike ruled = absurd alike
  sound-ruled (Accepted a l) (Refused b) alike ruled = absurd alike
  sound-ruled (Accepted a l) (Accepted b m) alike ruled =
      accepted a l m (ruled ∙ ap (λ (x : Reply). Accepted x m) (sym alike.0)) alike.1 (nat_le window (length r.log)) refl

  -- the ruling on an item with these bytes
  abbrev ruling_on : Slot → List ℕ → Ruling
  ruling_on = unread.ruling_on r store op

  module _ (slot : Slot) (is : slot_in store.items (key_of op.act) ≡ Some slot) (within : slot.at + slot.len ≤ length store.space) where
    abbrev own : List ℕ
    own = unread.own r store op slot is within

    needed-found : (found : Found) → read (run_in slot) ≡ found → IsSound space inherited r store op (decide_found space r op read (Some slot) found)
    needed-found (Missing b) found = tt
    needed-found (Bytes bytes) found =
        let same : bytes ≡ own = reads (run_in slot) bytes within found in
        sound-ruled (ruling_on slot bytes) (ruling_on slot own)
        (alike-same (is_touch op.act) (ruling_on slot bytes) (ruling_on slot own) (ap (ruling_on slot) same)) (unread.real-on r store op slot is)

    needed : (b : Bool) → (reads_bytes op.act && is_live op.moment slot.until && nat_lt 0 slot.len) ≡ b
        → IsSound space inherited r store op (decide_found space r op read (Some slot) (item_found read (Some slot) (if b then Some (run_in slot) else None)))
    needed true need = needed-found (read (run_in slot)) refl
    needed false none =
        sound-ruled (ruling_on slot (unseen (Some slot))) (ruling_on slot own)
        (unread.unneeded r store op slot is within (reads_bytes op.act) (is_live op.moment slot.until) refl none) (unread.real-on r store op slot is)

    item : (blind : Option Reply) → blind_reply slot.len (ruling_on slot (unseen (Some slot))) ≡ blind
        → IsSound space inherited r store op (decide_blind space r op read (Some slot) blind)
    item (Some reply) blind = refuses reply (unread.blind-item r store op slot is within reply blind)
    item None blind = needed (reads_bytes op.act && is_live op.moment slot.until && nat_lt 0 slot.len) refl

  no-item : slot_in store.items (key_of op.act) ≡ None → (blind : Option Reply) → blind_reply 0 (ruling_of op.moment (suc (last_of r)) op.act None) ≡ blind
      → IsSound space inherited r store op (decide_blind space r op read None blind)
  no-item is (Some reply) blind =
      refuses reply (ap (λ (x : Option Slot). ruling_of op.moment (suc (last_of r)) op.act (live_at op.moment (held_in store.space x))) is
      ∙ (blind-refused 0 (ruling_of op.moment (suc (last_of r)) op.act None) reply blind).0)
  no-item is None blind =
      sound-ruled (ruling_of op.moment (suc (last_of r)) op.act None)
      (ruling_of op.moment (suc (last_of r)) op.act None) (alike-same (is_touch op.act) _ _ refl)
      (ap (λ (x : Option Slot). ruling_of op.moment (suc (last_of r)) op.act (live_at op.moment (held_in store.space x))) is)

  waited : (slot : Option Slot) → slot_in store.items (key_of op.act) ≡ slot → OfSlot (λ x. x.at + x.len ≤ space) slot
      → IsSound space inherited r store op (decide_blind space r op read slot (blind_reply (slot_length slot) (ruling_with r op slot (unseen slot))))
  waited None is within = no-item is (blind_reply 0 (ruling_of op.moment (suc (last_of r)) op.act None)) refl
  waited (Some slot) is within = item slot is (omega (arith, long, within)) (blind_reply slot.len (ruling_on slot (unseen (Some slot)))) refl

pub decisions_are_sound : DecisionsAreSound
decisions_are_sound space inherited r store op read long inside items reads =
    by (waits_for inherited op.act (number_on r.log (key_of op.act))) refl (slot_in r.items (key_of op.act))
    (ap (λ (xs : Items). slot_in xs (key_of op.act)) items) where
      by : (w : Option ℕ) → waits_for inherited op.act (number_on r.log (key_of op.act)) ≡ w
          → (slot : Option Slot) → slot ≡ slot_in store.items (key_of op.act) → IsSound space inherited r store op (decide_waiting space r op read slot w)
      by (Some n) waits slot is = tt
      by None waits slot is = waited space inherited r store op read long reads waits slot (sym is)
          (subst (OfSlot (λ x. x.at + x.len ≤ space)) (sym is) (each-slot (λ x. x.at + x.len ≤ space) (key_of op.act) store.items inside))
