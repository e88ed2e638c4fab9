-- Clients that have more to do stand in the queue, as one comes, is served or goes.
use Rattle.std.proofs.Common.{◌≡◌, ◌≢◌, ℕ, nat_eq, List, [], ◌∷◌, ◌++◌, drop, Option, Some, None, IfSome, IfNone, Bool}
use Rattle.std.proofs.Common.{true, false, ◌||◌, if◌then◌else◌, refl, ap, sym, ◌∙◌, subst, ⊎_elim}
use Rattle.std.proofs.lemmas.Bool.{cases_Bool, eq-eqb, eqb-true}
use Rattle.std.proofs.lemmas.List.Folds.{list_any-append}
use Rattle.ready_client.specs.declared.client.Client.{Client}
use Rattle.ready_client.specs.declared.client.Turn.{Turn}
use Rattle.ready_client.specs.declared.client.Turn.TheVariants.{More, Waits, AwaitsCall, AwaitsCaller, Over}
use Rattle.slab.specs.Slab.{Slab, Updates}
use Rattle.ready_places.specs.Placed.{Placed, HasPlace, placed_at, with_value_at}
use Rattle.ready_places.specs.Queue.{first_of, is_queued, with_key_first}
use Rattle.ready_worker.specs.Queued.{MoreAreQueued, StayQueued}
use Rattle.ready_worker.proofs.Placing.{left-by, placed-by, updates-at}

-- the key at the head was taken
pub popped : (old now : List ℕ) (key : ℕ) (taken : Option ℕ) → first_of old ≡ Some key → IfNone taken (old ≡ [])
    → IfSome taken (λ k. old ≡ k ∷ now) → now ≡ drop 1 old
popped old now key None first none some = let bad : None ≡ Some key = sym (ap first_of none) ∙ first in cc
popped old now key (Some k) first none some = sym (ap (drop 1) some)

-- and stands there no more
pub popped-out : (old now : List ℕ) (key : ℕ) (taken : Option ℕ) → first_of old ≡ Some key → IfNone taken (old ≡ [])
    → IfSome taken (λ k. old ≡ k ∷ now) → IfSome taken (λ k. is_queued now k ≡ false)
    → is_queued now key ≡ false
popped-out old now key None first none some once = let bad : None ≡ Some key = sym (ap first_of none) ∙ first in cc
popped-out old now key (Some k) first none some once = subst (λ (n : ℕ). is_queued now n ≡ false) same once
  where
    same : k ≡ key
    same = let both : Some k ≡ Some key = sym (ap first_of some) ∙ first in cc

-- the key at the head stands in the queue
pub head-stands : (queue : List ℕ) (key : ℕ) → first_of queue ≡ Some key → is_queued queue key ≡ true
head-stands [] key first = let bad : None ≡ Some key = first in cc
head-stands (k ∷ rest) key first = let same : key ≡ k = cc in let equal = eq-eqb key k same in rw equal refl

-- others than the key at the head stay where it is taken
popped-other : (queue : List ℕ) (key other : ℕ) → first_of queue ≡ Some key → other ≢ key → is_queued queue other ≡ true → is_queued (drop 1 queue) other ≡ true
popped-other [] key other first differs stands = stands
popped-other (k ∷ rest) key other first differs stands = ⊎_elim
    (λ equal. let same : other ≡ k = eqb-true other k equal in absurd (differs cc))
    (λ apart. rw apart at stands)
    (cases_Bool (nat_eq other k))

-- what stands there stays where a key is put at the end, which then stands there
pub pushed : (queue : List ℕ) (key other : ℕ) → is_queued queue other ≡ true → is_queued (queue ++ key ∷ []) other ≡ true
pushed queue key other stands = list_any-append (nat_eq other) queue (key ∷ []) ∙ rw stands refl

pub pushed-itself : (queue : List ℕ) (key : ℕ) → is_queued (queue ++ key ∷ []) key ≡ true
pushed-itself queue key = list_any-append (nat_eq key) queue (key ∷ []) ∙ either (is_queued queue key) (nat_eq key key) (eq-eqb key key refl)
  where
    either : (a b : Bool) → b ≡ true → (a || (b || false)) ≡ true
    either true b is = refl
    either false b is = rw is refl

-- a key was put at the head, or there is none to put
pub put-first : {T : Type 0} (old now : Placed T) (key : ℕ)
    → (HasPlace old key → now.queue ≡ with_key_first old.queue key) → (placed_at old key ≡ None → now.queue ≡ old.queue)
    → StayQueued old.queue now.queue
put-first {T} old now key put none other stands = by (placed_at old key) refl
  where
    front : (b : Bool) → is_queued old.queue key ≡ b → is_queued (if b then old.queue else key ∷ old.queue) other ≡ true
    front true is = stands
    front false is = ⊎_elim (λ equal. rw equal refl) (λ differs. rw differs stands) (cases_Bool (nat_eq other key))

    by : (o : Option T) → placed_at old key ≡ o → is_queued now.queue other ≡ true
    by None is = subst (λ (q : List ℕ). is_queued q other ≡ true) (sym (none is)) stands
    by (Some value) is = subst (λ (q : List ℕ). is_queued q other ≡ true) (sym (put (rw is refl))) (front (is_queued old.queue key) refl)

module _ {S K : Type 0} (old new : Placed (Client S K)) where
  -- the values are as they were, and those that were queued are so
  pub more-same : new.values ≡ old.values → StayQueued old.queue new.queue → MoreAreQueued old → MoreAreQueued new
  more-same same stay more key client at has_more =
      stay key (more key client (sym (ap (λ (s : Slab (Client S K)). placed_at (record old { values = s }) key) same)
      ∙ at) has_more)

  -- a client came that had no turn yet, where there was memory, or nothing changed
  pub more-put : (client : Client S K) (put : Bool) → (put ≡ true → Updates old.values new.values old.values.vacant_key (Some client))
      → (put ≡ false → new.values ≡ record old.values { capacity = new.values.capacity }) → new.queue ≡ old.queue
      → client.last ≡ Waits → MoreAreQueued old → MoreAreQueued new
  more-put client put came same queue idle more key there at has_more = subst (λ (q : List ℕ). is_queued q key ≡ true) (sym queue) (⊎_elim
      (λ put_there. ⊎_elim
      (λ one. let bad : Waits ≡ More = sym idle ∙ ap (λ (c : Client S K). c.last) one.1 ∙ has_more in cc)
      (λ another. more key there another.1 has_more)
      (placed-by old new old.values.vacant_key client (came put_there) key there at))
      (λ not_put. more key there (sym (ap (λ (s : Slab (Client S K)). placed_at (record old { values = s }) key) (same not_put)) ∙ at) has_more)
      (cases_Bool put))

-- a client that stands in the queue was served
pub more-served : {S K : Type 0} (old : Placed (Client S K)) (key : ℕ) (now : Client S K) → HasPlace old key
    → is_queued old.queue key ≡ true → MoreAreQueued old → MoreAreQueued (with_value_at old key now)
more-served old key now placed stands more other there at has_more = ⊎_elim
    (λ one. subst (λ (k : ℕ). is_queued old.queue k ≡ true) (sym one.0) stands)
    (λ another. more other there another.1 has_more)
    (placed-by old (with_value_at old key now) key now (updates-at old key now placed) other there at)

module _ {S K : Type 0} (old new : Placed (Client S K)) (key : ℕ) where
  -- what became of the client at the head of the queue behind its turn
  pub more-settled : (turn : Turn) → first_of old.queue ≡ Some key → IfSome (placed_at old key) (λ client. client.last ≡ More → turn ≡ More)
      → (turn ≡ More → new ≡ record old { queue = drop 1 old.queue ++ key ∷ [] }) → (turn ≢ More → turn ≢ Over → new ≡ record old { queue = drop 1 old.queue })
      → (turn ≡ Over → Updates old.values new.values key None) → (turn ≡ Over → new.queue ≡ drop 1 old.queue) → MoreAreQueued old → MoreAreQueued new
  more-settled turn first said more waits over gone each other there at has_more = by turn refl
    where
      at_key : {C : Type 0} (P : C → Type 0) (o : Option C) (c : C) → o ≡ Some c → IfSome o P → P c
      at_key P None c is holds = let bad : None ≡ Some c = is in cc
      at_key P (Some d) c is holds = let same : d ≡ c = cc in subst P same holds

      kept : turn ≢ More → new.values ≡ old.values → new.queue ≡ drop 1 old.queue → is_queued new.queue other ≡ true
      kept differs same queue = subst (λ (q : List ℕ). is_queued q other ≡ true) (sym queue) (⊎_elim
          (λ equal. absurd
          (differs (at_key (λ (c : Client S K). c.last ≡ More → turn ≡ More) (placed_at old key) there
          (subst (λ (k : ℕ). placed_at old k ≡ Some there) (eqb-true other key equal) before) said has_more)))
          (λ apart. popped-other old.queue key other first (λ is. let bad : true ≡ false = sym (eq-eqb other key is)
          ∙ apart in cc) (each other there before has_more))
          (cases_Bool (nat_eq other key)))
        where
          before : placed_at old other ≡ Some there
          before = sym (ap (λ (s : Slab (Client S K)). placed_at (record old { values = s }) other) same) ∙ at

      by : (t : Turn) → turn ≡ t → is_queued new.queue other ≡ true
      by More is = subst (λ (p : Placed (Client S K)). is_queued p.queue other ≡ true) (sym (more is)) (⊎_elim
          (λ equal. subst (λ (k : ℕ). is_queued (drop 1 old.queue ++ key ∷ []) k ≡ true)
          (sym (eqb-true other key equal)) (pushed-itself (drop 1 old.queue) key))
          (λ apart. pushed (drop 1 old.queue) key other
          (popped-other old.queue key other first (λ same. let bad : true ≡ false = sym (eq-eqb other key same)
          ∙ apart in cc)
          (each other there (sym (ap (λ (p : Placed (Client S K)). placed_at p other) (more is)) ∙ at) has_more)))
          (cases_Bool (nat_eq other key)))
      by Waits is = kept (λ same. let bad : Waits ≡ More = sym is ∙ same in cc)
          (ap (λ (p : Placed (Client S K)). p.values) now) (ap (λ (p : Placed (Client S K)). p.queue) now)
        where
          now : new ≡ record old { queue = drop 1 old.queue }
          now = waits (λ same. let bad : Waits ≡ More = sym is ∙ same in cc) (λ same. let bad : Waits ≡ Over = sym is ∙ same in cc)
      by AwaitsCall is = kept (λ same. let bad : AwaitsCall ≡ More = sym is ∙ same in cc)
          (ap (λ (p : Placed (Client S K)). p.values) now) (ap (λ (p : Placed (Client S K)). p.queue) now)
        where
          now : new ≡ record old { queue = drop 1 old.queue }
          now = waits (λ same. let bad : AwaitsCall ≡ More = sym is ∙ same in cc) (λ same. let bad : AwaitsCall ≡ Over = sym is ∙ same in cc)
      by AwaitsCaller is = kept (λ same. let bad : AwaitsCaller ≡ More = sym is ∙ same in cc)
          (ap (λ (p : Placed (Client S K)). p.values) now) (ap (λ (p : Placed (Client S K)). p.queue) now)
        where
          now : new ≡ record old { queue = drop 1 old.queue }
          now = waits (λ same. let bad : AwaitsCaller ≡ More = sym is ∙ same in cc) (λ same. let bad : AwaitsCaller ≡ Over = sym is ∙ same in cc)
      by Over is = subst (λ (q : List ℕ). is_queued q other ≡ true) (sym (gone is)) (⊎_elim
          (λ equal. let bad : None ≡ Some there = sym (over is).changed ∙ subst (λ (k : ℕ). placed_at new k ≡ Some there) (eqb-true other key equal) at in cc)
          (λ apart. popped-other old.queue key other first (λ same. let bad : true ≡ false = sym (eq-eqb other key same)
          ∙ apart in cc) (each other there (left-by old new key (over is) other there at) has_more))
          (cases_Bool (nat_eq other key)))
