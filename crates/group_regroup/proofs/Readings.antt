-- How items are read, one after the other.
use Rattle.std.proofs.Common.{◌≡◌, ℕ, zero, suc, ◌<◌, Bool, true, false, if◌then◌else◌, List, [], ◌∷◌, ◌++◌, refl, sym}
use Rattle.std.proofs.Common.{ap, subst, ◌∙◌, append_assoc, append-nil}
use Rattle.std.proofs.lemmas.List.Elements.{All-head, All-tail}
use Rattle.group_types.specs.Dimensions.{Dimensions}
use Rattle.group_calls.specs.declared.event.Event.{Event}
use Rattle.group_run.specs.Meaning.{IsDown}
use Rattle.group_run.specs.World.{World, step, world_after}
use Rattle.group_eras.specs.Carry.{Getting, bytes_got, drained, draining, get_with, got, got_behind, is_retry, only_got, parcel_of, read_all}
use Rattle.group_eras.specs.Carry as carry
use Rattle.scenario_run.proofs.Leading.{keeps-shape}
use Rattle.group_regroup.specs.declared.items.Item.{Item}
use Rattle.group_regroup.specs.declared.items.Parcel.{Parcel}
use Rattle.group_regroup.specs.Items.{AreWithin, item_load, item_loads, parcel_as, parcels_as, read_behind}
use Rattle.group_regroup.specs.Parts.{IsPart}
use Rattle.group_regroup.specs.Reading.{got_on}
use Rattle.group_regroup.proofs.Tries.{after-append, part-back, part-front, part-whole}

tried-after : (n : ℕ) (u : World) (get : Event) → (get_with n get (step u get)).world ≡ world_after u (get_with n get (step u get)).events
tried-after zero u get = refl
tried-after (suc n) u get = by (is_retry (step u get).turn.answer) (tried-after n (drained (step u get).world) get) where
  rest : Getting
  rest = get_with n get (step (drained (step u get).world) get)

  by : (b : Bool) → (get_with n get (step (drained (step u get).world) get)).world
      ≡ world_after (drained (step u get).world) (get_with n get (step (drained (step u get).world) get)).events
      → (if b then got_behind (get ∷ draining (step u get).world) (get_with n get (step (drained (step u get).world) get)) else only_got get (step u get)).world
      ≡ world_after u
      (if b then got_behind (get ∷ draining (step u get).world)
      (get_with n get (step (drained (step u get).world) get)) else only_got get (step u get)).events
  by true later = later ∙ sym (after-append (step u get).world (draining (step u get).world) (get_with n get (step (drained (step u get).world) get)).events)
  by false later = refl

pub got-after : (u : World) (d : ℕ) (key : List ℕ) → (got_on u d key).world ≡ world_after u (got_on u d key).events
got-after u d key = tried-after u.shape.blocks u _

-- some items were read
pub record Reads (w : World) (all : List Item) (v : World) (rest : List Item) (parcels : List Parcel) : Type 0 where
  pub up : ¬ (IsDown v)
  pub within : AreWithin v.shape.k rest
  pub events : List Event
  pub after : v ≡ world_after w events
  pub whole : read_all w (item_loads all) ≡ read_behind events (parcels_as parcels) (read_all v (item_loads rest))

pub Reads-none : (w : World) (all : List Item) → ¬ (IsDown w) → AreWithin w.shape.k all → Reads w all w all []
Reads-none w all up within = record { up = up; within = within; events = []; after = refl; whole = refl }

parcels-push : (xs : List Parcel) (x : Parcel) → parcels_as (xs ++ x ∷ []) ≡ parcels_as xs ++ parcel_as x ∷ []
parcels-push [] x = refl
parcels-push (y ∷ xs) x = ap (λ (zs : List carry.Parcel). parcel_as y ∷ zs) (parcels-push xs x)

module _ (w : World) (all : List Item) (v : World) (x : Item) (rest : List Item) (parcels : List Parcel) (r : Reads w all v (x ∷ rest) parcels) where
  abbrev pub here : Getting
  here = got_on v x.partition.0 x.key

  pub next-within : x.partition.0 < v.shape.k
  next-within = All-head (λ (y : Item). y.partition.0 < v.shape.k) x rest r.within

  events-are : (read_all w (item_loads all)).events ≡ (r.events ++ here.events) ++ (read_all here.world (item_loads rest)).events
  events-are = ap (λ (y : carry.Reading). y.events) r.whole ∙ sym (append_assoc r.events here.events (read_all here.world (item_loads rest)).events)

  -- want of memory as it is read
  pub Reads-part : (u : World) → IsPart v here.events u → IsPart w (read_all w (item_loads all)).events u
  Reads-part u part = subst (λ (es : List Event). IsPart w es u) (sym events-are)
      (part-front w u (r.events ++ here.events) (read_all here.world (item_loads rest)).events (part-back w v u r.events here.events r.after part))

  module _ (u : World) (is : u ≡ here.world) where
    led : u ≡ world_after w (r.events ++ here.events)
    led = is ∙ got-after v x.partition.0 x.key ∙ ap (λ (y : World). world_after y here.events) r.after ∙ sym (after-append w r.events here.events)

    -- and behind it
    pub Reads-behind : IsPart w (read_all w (item_loads all)).events u
    Reads-behind = subst (λ (es : List Event). IsPart w es u) (sym events-are)
        (part-front w u (r.events ++ here.events) (read_all here.world (item_loads rest)).events (part-whole w u (r.events ++ here.events) led))

    pub Reads-next : (p : Parcel) → ¬ (IsDown u) → p.item ≡ x → p.value ≡ bytes_got here.answer → Reads w all u rest (parcels ++ p ∷ [])
    Reads-next p up item value = record {
      up = up;
      within = subst (λ (s : Dimensions). AreWithin s.k rest) (sym shape) (All-tail (λ (y : Item). y.partition.0 < v.shape.k) x rest r.within);
      events = r.events ++ here.events;
      after = led;
      whole = r.whole ∙ joined
          ∙ ap (λ (y : World). read_behind (r.events ++ here.events) (parcels_as (parcels ++ p ∷ []))
          (read_all y (item_loads rest))) (sym is);
    } where
      shape : u.shape ≡ v.shape
      shape = ap (λ (y : World). y.shape) (is ∙ got-after v x.partition.0 x.key) ∙ keeps-shape v here.events

      parcel : parcel_of (item_load x) here.answer ≡ parcel_as p
      parcel = λ i. record {
        partition = (sym item i).partition.0;
        key = (sym item i).key;
        flags = (sym item i).flags;
        until = (sym item i).until;
        value = sym value i;
      }

      joined : read_behind r.events (parcels_as parcels) (read_all v (item_loads (x ∷ rest)))
          ≡ read_behind (r.events ++ here.events) (parcels_as (parcels ++ p ∷ [])) (read_all here.world (item_loads rest))
      joined = λ i. record {
        events = sym (append_assoc r.events here.events (read_all here.world (item_loads rest)).events) i;
        world = (read_all here.world (item_loads rest)).world;
        parcels = (ap (λ (y : carry.Parcel). parcels_as parcels ++ y ∷ (read_all here.world (item_loads rest)).parcels) parcel
            ∙ sym (append_assoc (parcels_as parcels) (parcel_as p ∷ []) (read_all here.world (item_loads rest)).parcels)
            ∙ ap (λ (ys : List carry.Parcel). ys ++ (read_all here.world (item_loads rest)).parcels) (sym (parcels-push parcels p))) i;
      }

-- all were read
module _ (w : World) (all : List Item) (v : World) (parcels : List Parcel) (r : Reads w all v [] parcels) where
  pub Reads-world : v ≡ (read_all w (item_loads all)).world
  Reads-world = sym (ap (λ (y : carry.Reading). y.world) r.whole)

  pub Reads-parcels : parcels_as parcels ≡ (read_all w (item_loads all)).parcels
  Reads-parcels = sym (append-nil (parcels_as parcels)) ∙ sym (ap (λ (y : carry.Reading). y.parcels) r.whole)
