-- All parcels are set in a fresh group, one after the other.
use Rattle.std.proofs.Common.{ℕ, ◌≡◌, ◌≢◌, ◌<◌, ◌≤◌, ◌+◌, ◌*◌, ◌==◌, Bool, List, [], ◌∷◌, ◌++◌, length, refl, sym, ap, subst, ◌∙◌, arith}
use Rattle.group_types.proofs.Eaches.{each-append, each-weaker}
use Rattle.std.specs.Prelude.{All, Contains}
use Rattle.std.proofs.lemmas.Bool.{eq-eqb}
use Rattle.std.proofs.lemmas.List.{append_assoc, append-nil, length-append}
use Rattle.group_types.specs.Dimensions.{Dimensions, space_of}
use Rattle.group_types.specs.Each.{Each, EachTwo}
use Rattle.group_types.specs.Hash.{home_of}
use Rattle.group_types.specs.Lists.{at}
use Rattle.group_types.specs.Names.{index_of, process_at}
use Rattle.group_types.specs.Shape.{IsShape}
use Rattle.group_types.proofs.Lists.{at-replicate}
use Rattle.group_types.proofs.Names.{process_at-index}
use Rattle.group_message.specs.declared.update.Update.{Update}
use Rattle.group_calls.specs.declared.event.Event.{Event}
use Rattle.group_calls.specs.declared.event.Event.TheVariants.{Ask, Collect, Deliver, Fail, Flush, Trace}
use Rattle.group_run.specs.Meaning.{IsDrained}
use Rattle.group_run.specs.Process.{Node}
use Rattle.group_run.specs.Replica.{items_after}
use Rattle.group_run.specs.World.{World, after, opening, opening_node, step}
use Rattle.law_moves.proofs.Reading.{at-indices}
use Rattle.group_run.specs.Causes.{IsDelivery}
use Rattle.group_layout.proofs.Deaths.{none-dead, none-dead-at}
use Rattle.group_eras.specs.Carry.{Parcel, drained, draining, set_of, setting}
use Rattle.group_eras.proofs.Draining.{after-is}
use Rattle.group_eras.proofs.Piling.{Piled, none-piled}
use Rattle.group_eras.proofs.Resting.{Rests, settled_of}
use Rattle.group_eras.proofs.Served.{AllLive}
use Rattle.group_eras.proofs.Setup.{ComesNext, SetUp, deliveries, op_of, set-next, weight, weight-both, weight_if}
use Rattle.group_eras.proofs.Weighing.{set-drain}

-- no message is on its way at the start
opens-drained : (s : Dimensions) → IsDrained (opening s)
opens-drained s from to fin tin apart =
    ap (λ (n : Node). at [] n.links (index_of s to))
    (at-indices s (opening_node s from) (λ x. opening_node s (process_at s x)) from fin ∙ ap (opening_node s) (process_at-index s from fin))
    ∙ at-replicate [] (s.k + s.m) (index_of s to)

pub opens-rests : (s : Dimensions) → IsShape s → Rests s []
opens-rests s shaped = record {
  run = (shaped, tt);
  drained = opens-drained s;
  up = λ down. let none = none-dead s in let above : s.m < _ = down in omega (arith, none, above);
}

opens-live : (s : Dimensions) → AllLive s []
opens-live s p = none-dead-at s (opening_node s p) refl _ (index_of s p)

pub opens-setup : (s : Dimensions) → IsShape s → SetUp s [] []
opens-setup s shaped = record {
  rests = opens-rests s shaped;
  live = opens-live s;
  piled = λ d below. subst (λ (us : List Update). Piled 0 (items_after [] us)) (sym (nothing d)) none-piled;
  keys = λ d below key others. subst (Each (λ u. u.key ≢ key)) (sym (nothing d)) tt;
  logged = tt;
} where
  nothing : (d : ℕ) → settled_of s [] d ≡ []
  nothing d = at-replicate [] s.k d

-- parcels that come one after the other
abbrev pub AllCome : Dimensions → List Parcel → List Parcel → Type 0
AllCome s ps [] = Unit {0}
AllCome s ps (x ∷ xs) = ComesNext s ps x × AllCome s (ps ++ x ∷ []) xs

-- what is asked in a fresh group: sets of these parcels, and deliveries
abbrev pub IsPlain : List Parcel → Event → Type 0
IsPlain all (Ask caller op p) = (x : Parcel) × Contains all x × (op ≡ op_of x)
IsPlain all (Deliver from to) = Unit {0}
IsPlain all _ = ⊥

delivery-plain : (all : List Parcel) (e : Event) → IsDelivery e → IsPlain all e
delivery-plain all (Deliver from to) is = tt
delivery-plain all (Ask caller op p) is = absurd is
delivery-plain all (Collect caller call p) is = absurd is
delivery-plain all (Fail p keep) is = absurd is
delivery-plain all (Flush p) is = absurd is
delivery-plain all (Trace caller call d p) is = absurd is

pub record AllSet (s : Dimensions) (all : List Parcel) (es : List Event) (ps qs : List Parcel) : Type 0 where
  pub setup : SetUp s (es ++ setting (after s es) qs) (ps ++ qs)
  pub plain : Each (IsPlain all) (setting (after s es) qs)
  pub short : length (setting (after s es) qs) ≤ length qs * 9

pub set-all : (s : Dimensions) (all : List Parcel) (es : List Event) (ps qs : List Parcel) → Each (Contains all) qs
    → SetUp s es ps → AllCome s ps qs → AllSet s all es ps qs
set-all s all es ps [] inside up come = record {
  setup = subst (λ (xs : List Event). SetUp s xs (ps ++ [])) (sym (append-nil es)) (subst (SetUp s es) (sym (append-nil ps)) up);
  plain = tt;
  short = omega arith;
}
set-all s all es ps (x ∷ xs) inside up come =
    let drain : List Event = draining (step (after s es) (set_of x)).world in
    let done : List Event = es ++ set_of x ∷ drain in
    let world : after s (es ++ set_of x ∷ draining (step (after s es) (set_of x)).world)
    ≡ drained (step (after s es) (set_of x)).world = after-is s es (set_of x ∷ drain) in
    let events : (es ++ set_of x ∷ draining (step (after s es) (set_of x)).world)
    ++ setting (drained (step (after s es) (set_of x)).world) xs ≡ es ++ setting (after s es) (x ∷ xs)
    = append_assoc es (set_of x ∷ drain) (setting (drained (step (after s es) (set_of x)).world) xs) in
    let rest : AllSet s all (es ++ set_of x ∷ draining (step (after s es) (set_of x)).world) (ps ++ x ∷ []) xs =
    set-all s all done (ps ++ x ∷ []) xs inside.1 (set-next s es ps up x come.0) come.1 in
    record {
      setup = subst (SetUp s (es ++ setting (after s es) (x ∷ xs))) (append_assoc ps (x ∷ []) xs)
          (subst (λ (ys : List Event). SetUp s ys ((ps ++ x ∷ []) ++ xs)) events
          (subst (λ (w : World). SetUp s (done ++ setting w xs) ((ps ++ x ∷ []) ++ xs)) world rest.setup));
      plain = each-append (IsPlain all) (set_of x ∷ drain) (setting (drained (step (after s es) (set_of x)).world) xs)
          ((x, inside.0, refl), each-weaker IsDelivery (IsPlain all) (delivery-plain all) drain (deliveries s es ps up x come.0))
          (subst (λ (w : World). Each (IsPlain all) (setting w xs)) world rest.plain);
      short =
          let both = length-append (set_of x ∷ drain) (setting (drained (step (after s es) (set_of x)).world) xs) in
          let one = set-drain s es ps up x come.0 in
          let few = up.rests.run.0.m in
          let later = rest.short in
          let same : length (setting (after s (es ++ set_of x ∷ draining (step (after s es) (set_of x)).world)) xs)
          ≡ length (setting (drained (step (after s es) (set_of x)).world) xs) =
          ap (λ (w : World). length (setting w xs)) world in
          omega (arith, both, one, few, later, same);
    }

-- a parcel that is of the group
pub record IsOfGroup (s : Dimensions) (x : Parcel) : Type 0 where
  pub below : x.partition < s.k
  pub home : home_of x.key s.k ≡ x.partition
  pub bytes : All (λ b. b < 256) x.value

abbrev pub Apart : Parcel → Parcel → Type 0
Apart x y = x.key ≢ y.key

-- parcels with different keys that the space has room for come
pub all-come : (s : Dimensions) (ps qs : List Parcel) → Each (IsOfGroup s) qs → EachTwo Apart qs
    → Each (λ x. Each (Apart x) qs) ps → ((d : ℕ) → d < s.k → weight d (ps ++ qs) ≤ space_of s) → AllCome s ps qs
all-come s ps [] of two cross room = tt
all-come s ps (x ∷ xs) of two cross room = (
  record {
    below = of.0.below;
    home = of.0.home;
    new = each-weaker (λ y. Each (Apart y) (x ∷ xs)) (λ y. y.key ≢ x.key) (λ y all. all.0) ps cross;
    room =
        let most = room x.partition of.0.below in
        let both = weight-both x.partition ps (x ∷ xs) in
        let one : weight_if (x.partition == x.partition) (length x.value) ≡ length x.value =
        ap (λ (b : Bool). weight_if b (length x.value)) (eq-eqb x.partition x.partition refl) in
        omega (arith, most, both, one);
    bytes = of.0.bytes;
  },
  all-come s (ps ++ x ∷ []) xs of.1 two.1
      (each-append (λ y. Each (Apart y) xs) ps (x ∷ [])
      (each-weaker (λ y. Each (Apart y) (x ∷ xs)) (λ y. Each (Apart y) xs) (λ y all. all.1) ps cross) (two.0, tt))
      (λ d low. subst (λ (ys : List Parcel). weight d ys ≤ space_of s) (sym (append_assoc ps (x ∷ []) xs)) (room d low)),
)
