-- The items of partitions, as their heads tell them, stand for the loads of a group.
use Rattle.std.proofs.Common.{◌≡◌, ℕ, zero, suc, ◌+◌, ◌<◌, ◌≤◌, ◌⊎◌, inl, inr, Bool, true, false, cond, if◌then◌else◌}
use Rattle.std.proofs.Common.{List, [], ◌∷◌, ◌++◌, length, map, Result, Ok, Err, refl, sym, ap, subst, ◌∙◌, append-nil}
use Rattle.std.proofs.Common.{append_assoc, arith}
use Rattle.std.specs.Prelude.{IfErr, OnOk, filter, fold, sum_by}
use Rattle.std.specs.List.{range_with_len}
use Rattle.std.proofs.lemmas.Bool.{cases_lt}
use Rattle.std.proofs.lemmas.List.{length-map}
use Rattle.std.proofs.lemmas.List.Elements.{All-append, All-cons, All-nil}
use Rattle.group_types.specs.Dimensions.{Dimensions, space_of}
use Rattle.group_types.specs.declared.process.Partition.{Partition}
use Rattle.group_types.specs.declared.process.ProcessId.{ProcessId}
use Rattle.memc_table.specs.Expiry.{is_live}
use Rattle.group_run.specs.Applying.{replica_of}
use Rattle.group_run.specs.Meaning.{process_of}
use Rattle.group_run.specs.Replica.{Items}
use Rattle.group_run.specs.World.{World}
use Rattle.group_core.specs.Items.{ListsItems, heads_of, item_head_of}
use Rattle.group_core.specs.declared.items.ItemHead.{ItemHead}
use Rattle.group_eras.specs.Items.{Load, bytes_in_partition, load_of_slot, loads, loads_in, settled_items}
use Rattle.group_eras.specs.Items as eras
use Rattle.group_eras.specs.Refusal.{IsAtRest, IsRefused}
use Rattle.group_eras.specs.declared.fault.CarryFault.{CarryFault}
use Rattle.group_eras.specs.declared.fault.CarryFault.TheVariants.{Down, NoSpace, NotDrained, Want}
use Rattle.group_eras.proofs.Finding.{head-is}
use Rattle.group_eras.proofs.Lists.{map-both}
use Rattle.group_regroup.specs.Carrying.{AllFit, StandFor, load_known}
use Rattle.group_regroup.specs.Items.{AreWithin, IsLongFault, item_load, item_loads, item_of, live_items, value_bytes}
use Rattle.group_regroup.specs.declared.items.Item.{Item}

-- what holds where a call succeeded, and where it failed
pub on-ok : {T E P Q : Type 0} (r : Result T E) → (P → Q) → OnOk r P → OnOk r Q
on-ok (Ok x) f p = f p
on-ok (Err e) f p = tt

pub always-ok : {T E P : Type 0} (r : Result T E) → P → OnOk r P
always-ok (Ok x) p = p
always-ok (Err e) p = tt

pub stand-both : (xs ys : List Item) (us vs : List Load) → StandFor xs us → StandFor ys vs → StandFor (xs ++ ys) (us ++ vs)
stand-both xs ys us vs one two = map-both item_load xs ys ∙ ap (λ (zs : List Load). zs ++ item_loads ys) one
    ∙ ap (λ (zs : List Load). map load_known us ++ zs) two ∙ sym (map-both load_known us vs)

live-stand : (p : Partition) (xs : Items) → StandFor (live_items p (heads_of xs)) (map (load_of_slot p.0) (filter (λ x. is_live 0 x.1.until) xs))
live-stand p [] = refl
live-stand p (x ∷ xs) = by (is_live 0 x.1.until) (live-stand p xs) where
  by : (b : Bool) → StandFor (live_items p (heads_of xs)) (map (load_of_slot p.0) (filter (λ y. is_live 0 y.1.until) xs))
      → StandFor (if b then item_of p (item_head_of x) ∷ live_items p (heads_of xs) else live_items p (heads_of xs))
      (map (load_of_slot p.0) (cond b (x ∷ filter (λ y. is_live 0 y.1.until) xs) (filter (λ y. is_live 0 y.1.until) xs)))
  by true rest = ap (λ (ys : List Load). load_known (load_of_slot p.0 x) ∷ ys) rest
  by false rest = rest

sum-map : {X Y : Type 0} (f : Y → ℕ) (g : X → Y) (xs : List X) (a : ℕ) → fold (λ b y. b + f y) a (map g xs) ≡ fold (λ b x. b + f (g x)) a xs
sum-map f g [] a = refl
sum-map f g (x ∷ xs) a = sum-map f g xs (a + f (g x))

bytes-stand : (items : List Item) (xs : List Load) → StandFor items xs → value_bytes items ≡ sum_by (λ x. x.slot.len) xs
bytes-stand items xs stand =
    sym (sum-map (λ (x : Load). x.slot.len) item_load items 0)
    ∙ ap (λ (ys : List Load). sum_by (λ (x : Load). x.slot.len) ys) stand ∙ sum-map (λ (x : Load). x.slot.len)
    load_known xs 0

-- the list of a partition's head
module _ (w : World) (p : Partition) (list : List ItemHead) (listed : ListsItems w p.0 list) where
  listed-is : list ≡ heads_of (settled_items w p.0)
  listed-is = listed.items ∙ ap (λ (q : ProcessId). heads_of (replica_of (process_of w q) p.0).items) (sym (head-is w p.0 listed.rank listed.heads))

  pub listed-stand : StandFor (live_items p list) (loads_in w p.0)
  listed-stand = subst (λ (hs : List ItemHead). StandFor (live_items p hs) (loads_in w p.0)) (sym listed-is) (live-stand p (settled_items w p.0))

  pub listed-bytes : value_bytes (live_items p list) ≡ bytes_in_partition w p.0
  listed-bytes = bytes-stand (live_items p list) (loads_in w p.0) listed-stand

pub live-within : (k : ℕ) (p : Partition) (hs : List ItemHead) → p.0 < k → AreWithin k (live_items p hs)
live-within k p [] low = All-nil (λ (x : Item). x.partition.0 < k)
live-within k p (h ∷ hs) low = by (is_live 0 h.until) (live-within k p hs low) where
  by : (b : Bool) → AreWithin k (live_items p hs) → AreWithin k (if b then item_of p h ∷ live_items p hs else live_items p hs)
  by true rest = All-cons (λ (x : Item). x.partition.0 < k) (item_of p h) (live_items p hs) low rest
  by false rest = rest

pub within-both : (k : ℕ) (xs ys : List Item) → AreWithin k xs → AreWithin k ys → AreWithin k (xs ++ ys)
within-both k xs ys one two = All-append (λ (x : Item). x.partition.0 < k) xs ys one two

-- the loads of one partition more
loads-more : (w : World) (n a : ℕ) → eras.loads_of w (range_with_len a (suc n)) ≡ eras.loads_of w (range_with_len a n) ++ loads_in w (a + n)
loads-more w zero a = let here : a ≡ a + 0 = omega arith in append-nil (loads_in w a) ∙ ap (loads_in w) here
loads-more w (suc n) a =
    let next : a + 1 + n ≡ a + suc n = omega arith in
    ap (λ (xs : List Load). loads_in w a ++ xs) (loads-more w n (a + 1) ∙ ap (λ (d : ℕ). eras.loads_of w (range_with_len (a + 1) n) ++ loads_in w d) next)
    ∙ sym (append_assoc (loads_in w a) (eras.loads_of w (range_with_len (a + 1) n)) (loads_in w (a + suc n)))

loads-first : (w : World) (n : ℕ) → eras.loads_of w (range_with_len 0 (suc n)) ≡ eras.loads_of w (range_with_len 0 n) ++ loads_in w n
loads-first w n = let none : 0 + n ≡ n = omega arith in loads-more w n 0 ∙ ap (λ (d : ℕ). eras.loads_of w (range_with_len 0 n) ++ loads_in w d) none

-- the items of the first partitions
pub record Loaded (w : World) (space : ℕ) (items : List Item) (many : ℕ) : Type 0 where
  pub low : many ≤ w.shape.k
  pub stand : StandFor items (eras.loads_of w (range_with_len 0 many))
  pub within : AreWithin w.shape.k items
  pub fit : AllFit w space many

pub Loaded-none : (w : World) (space : ℕ) → Loaded w space [] 0
Loaded-none w space =
    record {
      low = omega arith;
      stand = refl;
      within = All-nil (λ (x : Item). x.partition.0 < w.shape.k);
      fit = λ d low. absurd (omega (arith, low));
    }

module _ (w : World) (space : ℕ) (items : List Item) (many : ℕ) (loaded : Loaded w space items many) where
  pub Loaded-next : (now : List Item) → many < w.shape.k
      → ((xs : List Load) → StandFor items xs → StandFor now (xs ++ loads_in w many))
      → (AreWithin w.shape.k items → AreWithin w.shape.k now)
      → bytes_in_partition w many ≤ space → Loaded w space now (many + 1)
  Loaded-next now below stand within fits = record {
    low = omega (arith, below);
    stand = subst (λ (n : ℕ). StandFor now (eras.loads_of w (range_with_len 0 n))) one
        (subst (StandFor now) (sym (loads-first w many)) (stand (eras.loads_of w (range_with_len 0 many)) loaded.stand));
    within = within loaded.within;
    fit = λ d low. by d low (cases_lt d many);
  } where
    one : suc many ≡ many + 1
    one = omega arith

    by : (d : ℕ) → d < many + 1 → (d < many) ⊎ (many ≤ d) → bytes_in_partition w d ≤ space
    by d low (inl less) = loaded.fit d less
    by d low (inr most) = let same : many ≡ d = omega (arith, low, most) in subst (λ (n : ℕ). bytes_in_partition w n ≤ space) same fits

  whole : w.shape.k ≤ many → many ≡ w.shape.k
  whole high = let low = loaded.low in omega (arith, low, high)

  pub Loaded-all : w.shape.k ≤ many → StandFor items (loads w)
  Loaded-all high = subst (λ (n : ℕ). StandFor items (eras.loads_of w (range_with_len 0 n))) (whole high) loaded.stand

  pub Loaded-fit : w.shape.k ≤ many → AllFit w space w.shape.k
  Loaded-fit high = subst (AllFit w space) (whole high) loaded.fit

-- the first partition that has too much
pub long-is : (w : World) (s : Dimensions) (p : Partition) → IsAtRest w → p.0 < w.shape.k → AllFit w (space_of s) p.0
    → (f : CarryFault) → IsLongFault p (bytes_in_partition w p.0) (space_of s) f → IsRefused w s f
long-is w s p rest low fit (NoSpace q) (same, long) =
    let is : p.0 ≡ q.0 = ap (λ (x : Partition). x.0) (sym same) in (
      rest,
      record {
        partition = subst (λ (d : ℕ). d < w.shape.k) is low;
        long = subst (λ (d : ℕ). space_of s < bytes_in_partition w d) is long;
        lowest = λ e below more. let fits = fit e (omega (arith, below, is)) in omega (arith, fits, more);
      },
    )
long-is w s p rest low fit Want fault = rest
long-is w s p rest low fit Down fault = absurd fault
long-is w s p rest low fit NotDrained fault = absurd fault

pub if-err : {T E : Type 0} {P Q : E → Type 0} (r : Result T E) → ((e : E) → P e → Q e) → IfErr r P → IfErr r Q
if-err (Ok x) f p = tt
if-err (Err e) f p = f e p

pub stand-long : (items : List Item) (xs : List Load) → StandFor items xs → length items ≡ length xs
stand-long items xs stand = sym (length-map items item_load) ∙ ap length stand ∙ length-map xs load_known
