-- What writes clear of all that may still be read.
use Rattle.std.proofs.Common.{ℕ, zero, suc, ◌≡◌, ◌≢◌, ◌+◌, ◌<◌, ◌≤◌, nat_le, nat_lt, Bool, true, false, not, ◌&&◌, ◌||◌}
use Rattle.std.proofs.Common.{List, [], ◌∷◌, ◌++◌, take, drop, Option, Some, None, if◌then◌else◌, refl, ap, subst, ◌∙◌}
use Rattle.std.proofs.Common.{arith}
use Rattle.std.specs.Prelude.{IfSome}
use Rattle.std.specs.List.{list_any}
use Rattle.std.proofs.lemmas.Grind.{common_steps}
use Rattle.group_types.specs.Lists.{same_key}
use Rattle.group_types.specs.declared.run.Run.{Run}
use Rattle.group_types.specs.Each.{Each}
use Rattle.group_types.proofs.Eaches.{each-append, each-take, each-weaker, each-middle, each-every}
use Rattle.item_index.specs.declared.slot.Slot.{Slot}
use Rattle.group_message.specs.declared.update.Body.{Body}
use Rattle.group_message.specs.declared.update.Body.TheVariants.{Put, Remove, Touch}
use Rattle.group_message.specs.declared.update.Update.{Update}
use Rattle.run_alloc.specs.Free.{AllFree}
use Rattle.group_run.specs.Free.{in_run, in_some_run, is_free}
use Rattle.group_run.specs.Headline.{AreApart}
use Rattle.group_run.specs.Replica.{Items, Replica, freed_by, item_settled, items_after, number_on, run_in, run_of, slot_after, slot_in}
use Rattle.law_updates.specs.Fine.{AreClear}
use Rattle.law_updates.specs.Right.{IsClearOfItems, WritesClear}
use Rattle.law_updates.proofs.Keys.{OfSlot, each-slot, each-with, key-differs, key-refl, slot_in-with}
use Rattle.law_updates.proofs.Spaces.{in_run-is}

-- the first of them
pub clear-take : (k : ℕ) (items : Items) (us : List Update) → AreClear items us → AreClear items (take k us)
clear-take zero items us clear = tt
clear-take (suc k) items [] clear = tt
clear-take (suc k) items (u ∷ us) clear = (
  each-take (WritesClear items) (suc k) (u ∷ us) clear.0,
  each-take (λ v. u.key ≢ v.key) k us clear.1,
  clear-take k (item_settled u items) us clear.2,
)

-- once the first of them are applied
pub clear-drop : (k : ℕ) (items : Items) (us : List Update) → AreClear items us → AreClear (items_after items (take k us)) (drop k us)
clear-drop zero items us clear = clear
clear-drop (suc k) items [] clear = tt
clear-drop (suc k) items (u ∷ us) clear = clear-drop k (item_settled u items) us clear.2

-- an update settled: a run clear of the items before, and of its own, is clear of those after
slot-clear : (run : Run) (n : ℕ) (body : Body) (slot : Option Slot) → IfSome (run_of body) (AreApart run) → OfSlot (λ x. AreApart run (run_in x)) slot
    → OfSlot (λ x. AreApart run (run_in x)) (slot_after n body slot)
slot-clear run n (Put flags until other delta) slot apart old = apart
slot-clear run n Remove slot apart old = tt
slot-clear run n (Touch until) None apart old = tt
slot-clear run n (Touch until) (Some slot) apart old = old

pub settled-clear : (run : Run) (v : Update) (items : Items) → IfSome (run_of v.body) (AreApart run) → IsClearOfItems items run
    → IsClearOfItems (item_settled v items) run
settled-clear run v items apart clear =
    each-with (λ x. AreApart run (run_in x)) v.key (slot_after v.number v.body (slot_in items v.key)) items
    (slot-clear run v.number v.body (slot_in items v.key) apart (each-slot (λ x. AreApart run (run_in x)) v.key items clear)) clear

-- and once all of them are
pub after-clear : (run : Run) (items : Items) (us : List Update) → Each (λ v. IfSome (run_of v.body) (AreApart run)) us
    → IsClearOfItems items run → IsClearOfItems (items_after items us) run
after-clear run items [] apart clear = clear
after-clear run items (u ∷ us) apart clear = after-clear run (item_settled u items) us apart.1 (settled-clear run u items apart.0 clear)

-- what an update writes is apart from what others write
abbrev pub WritesApart : Update → Update → Type 0
WritesApart u v = IfSome (run_of u.body) (λ run. IfSome (run_of v.body) (AreApart run))

writes-settled : (u v : Update) (items : Items) (run : Option Run)
    → IfSome run (λ x. IfSome (run_of v.body) (AreApart x)) → IfSome run (IsClearOfItems items)
    → IfSome run (IsClearOfItems (item_settled v items))
writes-settled u v items None apart clear = tt
writes-settled u v items (Some run) apart clear = settled-clear run v items apart clear

-- one more at the end
pub clear-push : (items : Items) (us : List Update) (u : Update) → AreClear items us → WritesClear items u
    → Each (WritesApart u) us → Each (λ v. v.key ≢ u.key) us
    → AreClear items (us ++ u ∷ [])
clear-push items [] u all clear apart others = ((clear, tt), tt, tt)
clear-push items (v ∷ vs) u all clear apart others = (
  each-append (WritesClear items) (v ∷ vs) (u ∷ []) all.0 (clear, tt),
  each-append (λ w. v.key ≢ w.key) vs (u ∷ []) all.1 (others.0, tt),
  clear-push (item_settled v items) vs u all.2 (writes-settled u v items (run_of u.body) apart.0 clear) apart.1 others.1,
)

-- an address that is free: in the space, in the run of no item, in no run that an update in the log writes,
-- and in none that it gives back
pub record IsFree (space : ℕ) (r : Replica) (a : ℕ) : Type 0 where
  pub inside : a < space
  pub items : list_any (λ x. in_run a (run_in x.1)) r.items ≡ false
  pub writes : list_any (λ u. in_some_run a (run_of u.body)) r.log ≡ false
  pub frees : list_any (λ u. in_some_run a u.frees) r.log ≡ false

pub free-is : (space : ℕ) (r : Replica) (a : ℕ) → is_free space r a ≡ true → IsFree space r a
free-is space r a free =
    by (nat_lt a space) refl (list_any (λ x. in_run a (run_in x.1)) r.items) refl (list_any (λ u. in_some_run a (run_of u.body)) r.log) refl
    (list_any (λ u. in_some_run a u.frees) r.log) refl free where
      by : (b : Bool) → nat_lt a space ≡ b → (c : Bool) → list_any (λ x. in_run a (run_in x.1)) r.items ≡ c → (d : Bool)
          → list_any (λ u. in_some_run a (run_of u.body)) r.log ≡ d
          → (e : Bool) → list_any (λ u. in_some_run a u.frees) r.log ≡ e → (b && not c && not d && not e) ≡ true → IsFree space r a
      by true p false q false t false z free = record { inside = grind (arith, common_steps); items = q; writes = t; frees = z }
      by false p c q d t e z free = absurd (cc free)
      by true p true q d t e z free = absurd (cc free)
      by true p false q true t e z free = absurd (cc free)
      by true p false q false t true z free = absurd (cc free)

pub is-free : (space : ℕ) (r : Replica) (a : ℕ) → IsFree space r a → is_free space r a ≡ true
is-free space r a free =
    let low : nat_lt a space ≡ true = let below = free.inside in grind (arith, common_steps) in
    by (nat_lt a space) low (list_any (λ x. in_run a (run_in x.1)) r.items) free.items (list_any (λ u. in_some_run a (run_of u.body)) r.log) free.writes
    (list_any (λ u. in_some_run a u.frees) r.log) free.frees where
      by : (b : Bool) → b ≡ true → (c : Bool) → c ≡ false → (d : Bool) → d ≡ false → (e : Bool) → e ≡ false → (b && not c && not d && not e) ≡ true
      by b p c q d t e z =
          ap (λ (x : Bool). x && not c && not d && not e) p ∙ ap (λ (x : Bool). true && not x && not d && not e) q
          ∙ ap (λ (x : Bool). true && not false && not x && not e) t
          ∙ ap (λ (x : Bool). true && not false && not false && not x) z

-- a test that nothing passes
pub none-passes : {X : Type 0} (test : X → Bool) (xs : List X) → list_any test xs ≡ false → Each (λ x. test x ≡ false) xs
none-passes test [] none = tt
none-passes test (x ∷ xs) none = by (test x) refl (list_any test xs) refl (none-passes test xs) none where
  by : (b : Bool) → test x ≡ b → (c : Bool) → list_any test xs ≡ c → (list_any test xs ≡ false → Each (λ x. test x ≡ false) xs) → (b || c) ≡ false
      → (test x ≡ false) × Each (λ x. test x ≡ false) xs
  by true is c rest more none = absurd (cc none)
  by false is true rest more none = absurd (cc none)
  by false is false rest more none = (is, more rest)

pub passes-none : {X : Type 0} (test : X → Bool) (xs : List X) → Each (λ x. test x ≡ false) xs → list_any test xs ≡ false
passes-none test [] all = refl
passes-none test (x ∷ xs) all = ap (λ (b : Bool). b || list_any test xs) all.0 ∙ passes-none test xs all.1

-- an address of a run lies between its ends
in_run-bounds : (a : ℕ) (run : Run) → in_run a run ≡ true → (run.at ≤ a) × (a < run.at + run.len)
in_run-bounds a run is = by (nat_le run.at a) refl (nat_lt a (run.at + run.len)) refl is where
  by : (b : Bool) → nat_le run.at a ≡ b → (c : Bool) → nat_lt a (run.at + run.len) ≡ c → (b && c) ≡ true → (run.at ≤ a) × (a < run.at + run.len)
  by true p true q is = (grind (arith, common_steps), grind (arith, common_steps))
  by true p false q is = absurd (cc is)
  by false p c q is = absurd (cc is)

-- a run that is in no run, where there is one
some-apart : (run : Run) (other : Option Run) → ((a : ℕ) → in_run a run ≡ true → in_some_run a other ≡ false) → IfSome other (AreApart run)
some-apart run None apart = tt
some-apart run (Some other) apart = apart

apart-some : (run : Run) (other : Option Run) (a : ℕ) → in_run a run ≡ true → IfSome other (AreApart run) → in_some_run a other ≡ false
apart-some run None a here apart = refl
apart-some run (Some other) a here apart = apart a here

module _ (space : ℕ) (r : Replica) (run : Run) where
  -- a free run is clear of the settled items
  pub free-clear : AllFree (is_free space r) run.at run.len → IsClearOfItems r.items run
  free-clear free = each-every (λ a. in_run a run ≡ true) (λ x a. in_run a (run_in x.1) ≡ false) r.items (λ a here.
      let ends = in_run-bounds a run here in
      none-passes (λ x. in_run a (run_in x.1)) r.items (free-is space r a (free a ends.0 ends.1)).items)

  -- and apart from what the updates in the log write
  pub free-apart : AllFree (is_free space r) run.at run.len → Each (λ v. IfSome (run_of v.body) (AreApart run)) r.log
  free-apart free =
      each-weaker (λ v. (a : ℕ) → in_run a run ≡ true → in_some_run a (run_of v.body) ≡ false)
      (λ v. IfSome (run_of v.body) (AreApart run)) (λ v apart. some-apart run (run_of v.body) apart) r.log
      (each-every (λ a. in_run a run ≡ true) (λ v a. in_some_run a (run_of v.body) ≡ false) r.log (λ a here.
      let ends = in_run-bounds a run here in
      none-passes (λ v. in_some_run a (run_of v.body)) r.log (free-is space r a (free a ends.0 ends.1)).writes))

  -- a run of the space that is clear of the settled items, and apart from what the updates in the log write and
  -- give back, is free
  pub clear-free : run.at + run.len ≤ space → IsClearOfItems r.items run → Each (λ v. IfSome (run_of v.body) (AreApart run))
      r.log → Each (λ v. IfSome v.frees (AreApart run)) r.log
      → AllFree (is_free space r) run.at run.len
  clear-free inside clear writes frees a from to =
      let here : in_run a run ≡ true = in_run-is a run.at run.len from to in
      is-free space r a (record {
        inside = omega arith;
        items = passes-none (λ x. in_run a (run_in x.1)) r.items
            (each-weaker (λ x. AreApart run (run_in x.1)) (λ x. in_run a (run_in x.1) ≡ false) (λ x apart. apart a here)
            r.items clear);
        writes = passes-none (λ v. in_some_run a (run_of v.body)) r.log
            (each-weaker (λ v. IfSome (run_of v.body) (AreApart run)) (λ v. in_some_run a (run_of v.body) ≡ false)
            (λ v apart. apart-some run (run_of v.body) a here apart) r.log writes);
        frees = passes-none (λ v. in_some_run a v.frees) r.log
            (each-weaker (λ v. IfSome v.frees (AreApart run)) (λ v. in_some_run a v.frees ≡ false)
            (λ v apart. apart-some run v.frees a here apart) r.log frees);
      })

-- a key that no update of the log is on
pub number_on-none : (us : List Update) (key : List ℕ) → number_on us key ≡ None → Each (λ v. v.key ≢ key) us
number_on-none [] key none = tt
number_on-none (u ∷ us) key none = by (number_on us key) refl (same_key u.key key) refl none (number_on-none us key) where
  by : (m : Option ℕ) → number_on us key ≡ m → (b : Bool) → same_key u.key key ≡ b
      → elim m as (λ _. Option ℕ) [ Some n ↦ Some n | None ↦ if b then Some u.number else None ] ≡ None → (number_on us key ≡ None → Each (λ v. v.key ≢ key) us)
      → (u.key ≢ key) × Each (λ v. v.key ≢ key) us
  by (Some n) is b test none more = absurd (cc none)
  by None is true test none more = absurd (cc none)
  by None is false test none more = (key-differs u.key key test, more is)

-- what an update writes is clear of the items before those that come before it
clear-middle : (items : Items) (vs : List Update) (u : Update) (us : List Update) → AreClear items (vs ++ u ∷ us) → WritesClear items u
clear-middle items [] u us clear = clear.0.0
clear-middle items (v ∷ vs) u us clear = each-middle (WritesClear items) (v ∷ vs) u us clear.0

-- and apart from what those write
slot-apart : (run : Run) (n : ℕ) (body : Body) (slot : Option Slot)
    → OfSlot (λ x. AreApart run (run_in x)) (slot_after n body slot) → IfSome (run_of body) (AreApart run)
slot-apart run n (Put flags until other delta) slot apart = apart
slot-apart run n Remove slot apart = tt
slot-apart run n (Touch until) slot apart = tt

writes-is : (u : Update) (items : Items) (run : Run) → run_of u.body ≡ Some run → WritesClear items u → IsClearOfItems items run
writes-is u items run is clear = subst (λ (x : Option Run). IfSome x (IsClearOfItems items)) is clear

pub clear-at : (items : Items) (vs : List Update) (u : Update) (us : List Update) (run : Run) → run_of u.body ≡ Some run
    → AreClear items (vs ++ u ∷ us) → IsClearOfItems items run
clear-at items vs u us run is clear = writes-is u items run is (clear-middle items vs u us clear)

pub apart-before : (items : Items) (vs : List Update) (u : Update) (us : List Update) (run : Run) → run_of u.body ≡ Some run → AreClear items (vs ++ u ∷ us)
    → Each (λ v. IfSome (run_of v.body) (AreApart run)) vs
apart-before items [] u us run is clear = tt
apart-before items (v ∷ vs) u us run is clear =
    let w : Option Slot = slot_after v.number v.body (slot_in items v.key) in
    let slot : slot_in (item_settled v items) v.key ≡ w = slot_in-with v.key v.key w items
    ∙ ap (λ (b : Bool). if b then w else slot_in items v.key) (key-refl v.key) in
    let own = each-slot (λ x. AreApart run (run_in x)) v.key (item_settled v items) (clear-at (item_settled v items) vs u us run is clear.2) in (
      slot-apart run v.number v.body (slot_in items v.key) (subst (OfSlot (λ x. AreApart run (run_in x))) slot own),
      apart-before (item_settled v items) vs u us run is clear.2,
    )

-- what an update gives back is the run of an item
pub freed-apart : (run : Run) (body : Body) (slot : Option Slot) → OfSlot (λ x. AreApart run (run_in x)) slot → IfSome (freed_by body slot) (AreApart run)
freed-apart run (Touch until) slot apart = tt
freed-apart run Remove None apart = tt
freed-apart run Remove (Some slot) apart = apart
freed-apart run (Put flags until other delta) None apart = tt
freed-apart run (Put flags until other delta) (Some slot) apart = apart
