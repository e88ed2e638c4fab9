-- The clients of a worker, as one comes, is served or goes.
use Rattle.std.proofs.Common.{◌≡◌, ◌≢◌, ℕ, nat_eq, List, [], ◌∷◌, ◌++◌, drop, Option, Some, None, IsSome, IfSome, Bool}
use Rattle.std.proofs.Common.{true, false, slice_index_or, refl, ap, sym, ◌∙◌, subst, ⊎_elim, ◌⊎◌, inl, inr, arith}
use Rattle.std.proofs.lemmas.Bool.{cases_Bool, eq-eqb, eqb-true}
use Rattle.std.proofs.lemmas.List.{get_or-set_same, get_or-set_other}
use Rattle.edge_io.specs.Faults.{Rose}
use Rattle.front_end.specs.Gateway.{Rules}
use Rattle.front_end.specs.Order.{IsOrder}
use Rattle.outbox.specs.declared.try_edge.TryEdge.{TryEdge}
use Rattle.slab.specs.Slab.{Slab, Updates}
use Rattle.front_end.specs.declared.overlap.Overlap.{Overlap}
use Rattle.ready_client.specs.Calling.{HasOpen, KeepsApart}
use Rattle.ready_client.specs.declared.client.Client.{Client}
use Rattle.ready_client.specs.declared.client.Turn.{Turn}
use Rattle.ready_client.specs.declared.open_call.OpenCall.{OpenCall}
use Rattle.ready_client.specs.declared.client.Turn.TheVariants.{More, Waits, AwaitsCall, AwaitsCaller, Over}
use Rattle.ready_places.specs.Placed.{Placed, EachPlaced, HasPlace, placed_at, with_value_at}
use Rattle.ready_places.proofs.Each.{each-came, each-same, within-slots}
use Rattle.ready_worker.specs.Come.{ShareNoCall, ClientComes, ClientsCome, ClientIsOver}
use Rattle.ready_worker.proofs.Coming.{stays-apart, stays-come}

module _ {T : Type 0} (old new : Placed T) (key : ℕ) where
  differing : (other : ℕ) → nat_eq other key ≡ false → other ≢ key
  differing other differs same = let bad : true ≡ false = sym (eq-eqb other key same) ∙ differs in cc

  -- the value of a key is the one that came, or is as it was
  pub placed-by : (value : T) → Updates old.values new.values key (Some value) → (other : ℕ) (there : T) → placed_at new other ≡ Some there
      → (other ≡ key × value ≡ there) ⊎ (other ≢ key × placed_at old other ≡ Some there)
  placed-by value updates other there at = ⊎_elim
      (λ equal. let same : Some value ≡ Some there = sym updates.changed
      ∙ subst (λ (k : ℕ). placed_at new k ≡ Some there) (eqb-true other key equal) at in
      inl (eqb-true other key equal, cc))
      (λ differs. inr (differing other differs, sym (updates.others other (differing other differs)) ∙ at))
      (cases_Bool (nat_eq other key))

  -- where a value went, each that is there was there
  pub left-by : Updates old.values new.values key None → (other : ℕ) (there : T) → placed_at new other ≡ Some there → placed_at old other ≡ Some there
  left-by updates other there at = ⊎_elim
      (λ equal. let bad : None ≡ Some there = sym updates.changed ∙ subst (λ (k : ℕ). placed_at new k ≡ Some there) (eqb-true other key equal) at in cc)
      (λ differs. sym (updates.others other (differing other differs)) ∙ at)
      (cases_Bool (nat_eq other key))

-- a value was changed at its place
pub updates-at : {T : Type 0} (old : Placed T) (key : ℕ) (value : T) → HasPlace old key
    → Updates old.values (with_value_at old key value).values key (Some value)
updates-at old key value placed = record {
  changed = get_or-set_same old.values.slots key (Some value) None (within-slots old key placed);
  others = λ other differs. get_or-set_other old.values.slots key other (Some value) None differs;
}

-- a value was put where there was memory, or nothing changed
pub each-put : {T : Type 0} (P : T → Type 0) (old new : Placed T) (value : T) (put : Bool)
    → (put ≡ true → Updates old.values new.values old.values.vacant_key (Some value))
    → (put ≡ false → new.values ≡ record old.values { capacity = new.values.capacity }) → P value
    → (each : (key : ℕ) (there : T) → placed_at old key ≡ Some there → P there)
    → (key : ℕ) (there : T) → placed_at new key ≡ Some there → P there
each-put P old new value put came same holds each = ⊎_elim
    (λ put_there. each-came P old new old.values.vacant_key value (came put_there) holds each)
    (λ not_put. each-same P old new (λ key. ap (λ (s : Slab _). slice_index_or s.slots key None) (same not_put)) each)
    (cases_Bool put)

module _ {S K : Type 0} (old new : Placed (Client S K)) where
  -- each client that has a place had it
  pub apart-from : ((key : ℕ) (there : Client S K) → placed_at new key ≡ Some there → placed_at old key ≡ Some there) → ShareNoCall old → ShareNoCall new
  apart-from from apart key other one two call differ at_one at_two = apart key other one two call differ (from key one at_one) (from other two at_two)

  -- a client came whose call is that of no other
  pub apart-came : (key : ℕ) (client : Client S K) → Updates old.values new.values key (Some client)
      → ((other : ℕ) (two : Client S K) (call : K) → other ≢ key → placed_at old other ≡ Some two
      → HasOpen two.calls.list call → ¬ HasOpen client.calls.list call) → ShareNoCall old → ShareNoCall new
  apart-came key client updates alone apart one_key two_key one two call differ at_one at_two holds =
      by (placed-by old new key client updates one_key one at_one) (placed-by old new key client updates two_key two at_two)
    where
      by : (one_key ≡ key × client ≡ one) ⊎ (one_key ≢ key × placed_at old one_key ≡ Some one)
          → (two_key ≡ key × client ≡ two) ⊎ (two_key ≢ key × placed_at old two_key ≡ Some two)
          → ¬ HasOpen two.calls.list call
      by (inl first) (inl second) same = differ (first.0 ∙ sym second.0)
      by (inl first) (inr second) same = alone two_key two call second.0 second.1 same
          (subst (λ (c : Client S K). HasOpen c.calls.list call) (sym first.1) holds)
      by (inr first) (inl second) same = alone one_key one call first.0 first.1 holds
          (subst (λ (c : Client S K). HasOpen c.calls.list call) (sym second.1) same)
      by (inr first) (inr second) same = apart one_key two_key one two call differ first.1 second.1 holds same

-- a client with no call was put where there was memory, or nothing changed
pub apart-put : {S K : Type 0} (old new : Placed (Client S K)) (client : Client S K) (put : Bool)
    → (put ≡ true → Updates old.values new.values old.values.vacant_key (Some client))
    → (put ≡ false → new.values ≡ record old.values { capacity = new.values.capacity }) → client.calls.list ≡ [] → ShareNoCall old → ShareNoCall new
apart-put old new client put came same idle apart = ⊎_elim
    (λ put_there. apart-came old new old.values.vacant_key client (came put_there)
    (λ other two call differ at holds has. absurd (subst (λ (cs : List (OpenCall _)). HasOpen cs call) idle has))
    apart)
    (λ not_put. apart-from old new (λ key there at. sym (ap (λ (s : Slab _). slice_index_or s.slots key None) (same not_put)) ∙ at) apart)
    (cases_Bool put)

module _ {G K X : Type 0} (rules : Rules G K) (overlap : Overlap) (told : Option ℕ) (before after : G)
    (old : Placed (Client (TryEdge X) K)) (key : ℕ) (was now : Client (TryEdge X) K) where
  -- a client was served: the others stay as far as they have come
  pub come-served : IsOrder rules.later → placed_at old key ≡ Some was → HasPlace old key → rules.later before after
      → KeepsApart rules was.calls.list now.calls.list before after → ShareNoCall old
      → ClientComes rules overlap told after now → ClientsCome rules overlap told before old → ClientsCome rules overlap told after (with_value_at old key now)
  come-served order there placed later apart are_apart come have other client at = ⊎_elim
      (λ one. subst (λ (c : Client (TryEdge X) K). ClientComes rules overlap told after c) one.1 come)
      (λ another. stays-come rules overlap told order was.calls.list now.calls.list before after client
      (λ call holds had. are_apart other key client was call another.0 another.1 there holds had) later apart (have other client another.1))
      (placed-by old (with_value_at old key now) key now (updates-at old key now placed) other client at)

  -- and their calls apart from its own
  pub apart-served : placed_at old key ≡ Some was → HasPlace old key → KeepsApart rules was.calls.list now.calls.list
      before after → ClientsCome rules overlap told before old → ShareNoCall old → ShareNoCall (with_value_at old key now)
  apart-served there placed apart have are_apart = apart-came old (with_value_at old key now) key now (updates-at old key now placed)
      (λ other two call differ at holds. stays-apart rules overlap told was.calls.list now.calls.list before after two call holds
      (λ had. are_apart other key two was call differ at there holds had) apart (have other two at)) are_apart

module _ {T : Type 0} (old new : Placed T) (key : ℕ) where
  -- behind a turn each value that has a place had it
  pub settled-from : (turn : Turn) → (turn ≡ More → new ≡ record old { queue = drop 1 old.queue ++ key ∷ [] })
      → (turn ≢ More → turn ≢ Over → new ≡ record old { queue = drop 1 old.queue })
      → (turn ≡ Over → Updates old.values new.values key None)
      → (other : ℕ) (there : T) → placed_at new other ≡ Some there → placed_at old other ≡ Some there
  settled-from More more waits over other there at = sym (ap (λ (p : Placed T). placed_at p other) (more refl)) ∙ at
  settled-from Waits more waits over other there at = sym (ap (λ (p : Placed T). placed_at p other) (waits (λ same. cc) (λ same. cc))) ∙ at
  settled-from AwaitsCall more waits over other there at = sym (ap (λ (p : Placed T). placed_at p other) (waits (λ same. cc) (λ same. cc))) ∙ at
  settled-from AwaitsCaller more waits over other there at = sym (ap (λ (p : Placed T). placed_at p other) (waits (λ same. cc) (λ same. cc))) ∙ at
  settled-from Over more waits over other there at = left-by old new key (over refl) other there at

-- what holds of each value that had a place holds of the one that was let go
pub settled-gone : {T : Type 0} (P : T → Type 0) (old : Placed T) (key : ℕ) (turn : Turn) (gone : Option T)
    → (turn ≢ Over → gone ≡ None) → (turn ≡ Over → IsSome gone × (gone ≡ placed_at old key)) → EachPlaced P old
    → IfSome gone P
settled-gone P old key turn None stays over each = tt
settled-gone P old key More (Some value) stays over each = let bad : Some value ≡ None = stays (λ same. cc) in cc
settled-gone P old key Waits (Some value) stays over each = let bad : Some value ≡ None = stays (λ same. cc) in cc
settled-gone P old key AwaitsCall (Some value) stays over each = let bad : Some value ≡ None = stays (λ same. cc) in cc
settled-gone P old key AwaitsCaller (Some value) stays over each = let bad : Some value ≡ None = stays (λ same. cc) in cc
settled-gone P old key Over (Some value) stays over each = each key value (sym (over refl).1)

-- a client of which no call is under way has none in its list
idle : {A : Type 0} (calls : List A) (has : Bool) → has ≡ false → ((calls ≢ []) → has ≡ true) → calls ≡ []
idle [] has none some = refl
idle (call ∷ calls) has none some = let bad : has ≡ true = some (λ same. cc) in cc

-- a client that was served is over where its turn was the last and none of its calls is under way
pub served-over : {X K : Type 0} (old : Placed (Client (TryEdge X) K)) (key before : ℕ) (now : Client (TryEdge X) K)
    (has : Bool) → HasPlace old key → has ≡ false → ((now.calls.list ≢ []) → has ≡ true)
    → ((now.end ≢ None) × (now.outbox ≡ []) × (now.calls.list ≡ [])) ⊎ Rose before now.stream.faults
    → IfSome (placed_at (with_value_at old key now) key) ClientIsOver
served-over old key before now has placed none some over =
    subst (λ o. IfSome o ClientIsOver) (sym (updates-at old key now placed).changed) (
      idle now.calls.list has none some,
      ⊎_elim (λ all. inl (all.0, all.1)) (λ rose. inr (omega (arith, rose))) over,
    )
