-- The update that a head at rest issues for the set of a fresh key: its value lies on top of the others.
use Rattle.std.proofs.Common.{ℕ, ℤ, ◌≡◌, ◌≢◌, ◌≤◌, ◌+◌, Bool, List, [], ◌∷◌, ◌++◌, length, Some, None, if◌then◌else◌, refl, sym, ap, ap₂, subst, ◌∙◌, arith}
use Rattle.std.proofs.lemmas.List.{take_all}
use Rattle.group_types.specs.Dimensions.{space_of}
use Rattle.group_types.specs.Each.{Each}
use Rattle.group_types.specs.declared.process.ProcessId.{ProcessId}
use Rattle.group_types.specs.declared.process.ProcessId.TheVariants.{DataNode}
use Rattle.group_types.specs.declared.run.Run.{Run}
use Rattle.item_index.specs.declared.slot.Slot.{Slot}
use Rattle.memc_table.specs.Expiry.{until_of}
use Rattle.group_message.specs.declared.update.Body.{Body}
use Rattle.group_message.specs.declared.update.Outcome.{Outcome}
use Rattle.group_message.specs.declared.update.Outcome.TheVariants as ends
use Rattle.group_message.specs.declared.update.Update.{Update}
use Rattle.group_calls.specs.declared.decision.Decision.{Decision}
use Rattle.group_calls.specs.declared.decision.Decision.TheVariants as decides
use Rattle.erasure_code.specs.Spaces.{bytes_at}
use Rattle.group_run.specs.Applying.{replica_of}
use Rattle.group_run.specs.Asking.{found_at, update_of}
use Rattle.group_run.specs.Deciding.{decide}
use Rattle.group_run.specs.Free.{place_for}
use Rattle.group_run.specs.History.{history}
use Rattle.group_run.specs.Meaning.{process_of}
use Rattle.group_run.specs.Process.{Process}
use Rattle.group_run.specs.Replica.{Items, Replica, item_settled, items_after, slot_after, slot_in}
use Rattle.group_run.specs.World.{World, next_name}
use Rattle.law_histories.proofs.Issuing.{IssuesIn}
use Rattle.law_histories.proofs.LaneWords.{Prolongs}
use Rattle.law_updates.proofs.Histories.{items-append}
use Rattle.law_updates.proofs.Keys.{key-ne, slot_in-with}
use Rattle.group_eras.specs.Eras.{carrier}
use Rattle.group_eras.proofs.Fronts.{Upto}
use Rattle.group_eras.proofs.Piling.{IsOnTop, Piled, placed-on-top, put-piled}
use Rattle.group_eras.proofs.Sets.{body_with, decide-put, put_op}

-- a partition's data process that heads it, where all of its updates are settled
pub record IsReadyAt (w : World) (d : ℕ) (us : List Update) : Type 0 where
  pub quiet : (replica_of (process_of w (DataNode d)) d).log ≡ []
  pub items : (replica_of (process_of w (DataNode d)) d).items ≡ items_after [] us
  pub whole : history us (replica_of (process_of w (DataNode d)) d) ≡ us
  pub name : (process_of w (DataNode d)).name ≡ DataNode d

issue-same : (a b : Body) (m n : Outcome) → decides.Issue a m ≡ decides.Issue b n → (a ≡ b) × (m ≡ n)
issue-same a b m n is = (ap body is, ap outcome is) where
  body : Decision → Body
  body (decides.Issue x y) = x
  body (decides.Answer reply) = a
  body (decides.Retry k) = a
  body decides.NoSpace = a
  body (decides.NeedBlock k) = a

  outcome : Decision → Outcome
  outcome (decides.Issue x y) = y
  outcome (decides.Answer reply) = m
  outcome (decides.Retry k) = m
  outcome decides.NoSpace = m
  outcome (decides.NeedBlock k) = m

keep-slot : (key : List ℕ) (items : Items) (us : List Update) → Each (λ u. u.key ≢ key) us → slot_in (items_after items us) key ≡ slot_in items key
keep-slot key items [] others = refl
keep-slot key items (u ∷ us) others =
    keep-slot key (item_settled u items) us others.1
    ∙ slot_in-with u.key key (slot_after u.number u.body (slot_in items u.key)) items
    ∙ ap (λ (b : Bool). if b then slot_after u.number u.body (slot_in items u.key) else slot_in items key) (key-ne u.key key others.0)

pub fresh-slot : (key : List ℕ) (us : List Update) → Each (λ u. u.key ≢ key) us → slot_in (items_after [] us) key ≡ None
fresh-slot key us new = keep-slot key [] us new

module _ (w : World) (d : ℕ) (us : List Update) (ready : IsReadyAt w d us) (total : ℕ) (piled : Piled total (items_after [] us))
    (key : List ℕ) (flags : ℕ) (expiry : ℤ) (value : List ℕ) (new : Each (λ u. u.key ≢ key) us) (fits : total + length value ≤ space_of w.shape) where
  abbrev pub p : Process
  p = process_of w (DataNode d)

  abbrev pub r : Replica
  r = replica_of (process_of w (DataNode d)) d

  pub piled-here : Piled total (replica_of (process_of w (DataNode d)) d).items
  piled-here = subst (Piled total) (sym ready.items) piled

  pub new-here : slot_in (replica_of (process_of w (DataNode d)) d).items key ≡ None
  new-here = ap (λ (items : Items). slot_in items key) ready.items ∙ fresh-slot key us new

  pub placed : (run : Run) × (place_for (space_of w.shape) (replica_of (process_of w (DataNode d)) d) (length value)
      ≡ Some run) × IsOnTop total (length value) run
  placed = placed-on-top (space_of w.shape) total r piled-here ready.quiet (length value) fits

  abbrev run : Run
  run = placed.0

  -- the update
  pub issued-put : Update
  issued-put = update_of (next_name w carrier) (put_op key flags expiry value) d
      (body_with key flags expiry value placed.0 (bytes_at placed.0.at placed.0.len p.space)) ends.Stored p

  pub put-key : issued-put.key ≡ key
  unfolding issued-put
  put-key = refl

  pub decided : (inherited : ℕ) → decide (space_of w.shape) inherited r (put_op key flags expiry value) (found_at w.shape d p p.name)
      ≡ decides.Issue (body_with key flags expiry value placed.0 (bytes_at placed.0.at placed.0.len p.space)) ends.Stored
  decided inherited = decide-put key flags expiry value (space_of w.shape) inherited r (found_at w.shape d p p.name)
      placed.0 (bytes_at placed.0.at placed.0.len p.space) ready.quiet new-here placed.1
      (ap (λ (y : ProcessId). found_at w.shape d p y placed.0) ready.name)

  -- it prolongs what is settled
  pub issues : (limit : ℕ → List Update) → limit d ≡ us ++ issued-put ∷ []
      → IssuesIn (Upto limit) w.shape d us p (next_name w carrier) (put_op key flags expiry value)
  unfolding issued-put
  issues limit is h body outcome heads decides_so =
      let same = issue-same (body_with key flags expiry value placed.0 (bytes_at placed.0.at placed.0.len p.space)) body
      ends.Stored outcome (sym (decided h.inherited) ∙ decides_so) in
      let front : us ++ issued-put ∷ [] ≡ history us r ++ update_of (next_name w carrier) (put_op key flags expiry value) d body outcome p ∷ []
      = ap₂ (λ (b : Body) (o : Outcome). us ++ update_of (next_name w carrier) (put_op key flags expiry value) d b o p ∷ []) same.0 same.1
      ∙ ap (λ (xs : List Update). xs ++ update_of (next_name w carrier) (put_op key flags expiry value) d body outcome p ∷ []) (sym ready.whole) in
      subst (λ (xs : List Update).
      Prolongs (history us r ++ update_of (next_name w carrier) (put_op key flags expiry value) d body outcome p
      ∷ []) xs) (sym (is ∙ front))
      (record {
        reaches = omega arith;
        front = take_all (length (history us r ++ update_of (next_name w carrier) (put_op key flags expiry value) d body outcome p ∷ []))
            (history us r ++ update_of (next_name w carrier) (put_op key flags expiry value) d body outcome p ∷ []) (omega arith);
      })

  -- and its value lies on top
  pub piled-next : Piled (total + length value) (items_after [] (us ++ issued-put ∷ []))
  unfolding issued-put
  piled-next =
      let slot : Slot = record { at = placed.0.at; len = placed.0.len; flags = flags; cas = issued-put.number; until = until_of expiry 0 } in
      subst (Piled (total + length value)) (sym (items-append [] us (issued-put ∷ [])))
      (put-piled total (length value) (items_after [] us) key slot piled (fresh-slot key us new) placed.2)
