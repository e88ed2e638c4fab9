-- A replica that has every settled update keeps all that is logged.
use Rattle.std.proofs.Common.{ℕ, zero, suc, ◌≡◌, ◌≢◌, ◌+◌, ◌<◌, List, [], ◌∷◌, ◌++◌, length, take, Option, Some, None, refl, sym, ap, subst, ◌∙◌, arith}
use Rattle.std.specs.Prelude.{All, AllPairs, slice_get}
use Rattle.std.proofs.lemmas.List.{length-take-le, take_at}
use Rattle.std.proofs.lemmas.Option.{slice_get_within}
use Rattle.group_types.specs.Dimensions.{Dimensions}
use Rattle.group_types.specs.Hash.{home_of}
use Rattle.group_types.specs.Lists.{at}
use Rattle.group_message.specs.declared.update.Update.{Update}
use Rattle.group_calls.specs.declared.event.Event.{Event}
use Rattle.group_run.specs.Headline.{IsItem, IsLogged, IsRun, KeepsAll}
use Rattle.group_run.specs.Meaning.{Logged, count_logged, run_on, table_at, updates_of}
use Rattle.group_run.specs.Replica.{Items, Replica, items_after, slot_in}
use Rattle.group_run.specs.World.{AskedCall, World, after}
use Rattle.group_run.specs.History.{history}
use Rattle.law_updates.specs.Fine.{AreSteps}
use Rattle.law_updates.proofs.Laws.{FineItems}
use Rattle.law_updates.specs.Store.{Store, no_store, store_with_update}
use Rattle.law_updates.proofs.Homes.{fine_histories_leave_items}
use Rattle.law_log.specs.Book.{book_of}
use Rattle.law_log.specs.Stands.{StandsAlways}
use Rattle.law_log.proofs.Books.{book-shape, book-world}
use Rattle.law_log.proofs.ReplicaWords.{ReplicaStands, ReplicasKeepAll}
use Rattle.law_log.proofs.Shown.{AreShown, LogShows}
use Rattle.law_log.proofs.Values.{shown-long}
use Rattle.law_log.proofs.Written.{shows}

-- the numbers of right updates, by their places
number-at : (s : Dimensions) (calls : List AskedCall) (d n m : ℕ) (store : Store) (us : List Update) (u : Update)
    → AreSteps s calls d n store us → slice_get us m ≡ Some u → u.number ≡ suc (n + m)
number-at s calls d n m store [] u steps is = absurd (cc is)
number-at s calls d n zero store (v ∷ vs) u steps is =
    let same : v.number ≡ u.number = ap (λ (o : Option Update). elim o as (λ _. ℕ) [ None ↦ v.number | Some x ↦ x.number ]) is in
    let own : v.number ≡ suc n = steps.0.right.number in omega arith
number-at s calls d n (suc m) store (v ∷ vs) u steps is = let rest =
    number-at s calls d (suc n) m (store_with_update s d v store) vs u steps.1 is in omega arith

-- the update that is shown at a place
logged-at : (s : Dimensions) (d m : ℕ) (store : Store) (us : List Update) (ls : List Logged) (u : Update) (l : Logged) → AreShown s d store us ls
    → slice_get us m ≡ Some u → slice_get ls m ≡ Some l → IsLogged l u
logged-at s d m store [] ls u l shown is it = absurd (cc is)
logged-at s d m store (v ∷ vs) [] u l shown is it = absurd shown
logged-at s d zero store (v ∷ vs) (x ∷ xs) u l shown is it =
    let one : v ≡ u = ap (λ (o : Option Update). elim o [ None ↦ v | Some y ↦ y ]) is in
    let two : x ≡ l = ap (λ (o : Option Logged). elim o [ None ↦ x | Some y ↦ y ]) it in
    subst (λ (y : Logged). IsLogged y u) two (subst (IsLogged x) one shown.0.logged)
logged-at s d (suc m) store (v ∷ vs) (x ∷ xs) u l shown is it = logged-at s d m (store_with_update s d v store) vs xs u l shown.1 is it

-- a place behind others, and one among the first
get-behind : (xs ys : List Update) (j : ℕ) → slice_get (xs ++ ys) (length xs + j) ≡ slice_get ys j
get-behind [] ys j = ap (slice_get ys) (omega arith)
get-behind (x ∷ xs) ys j = let e : length (x ∷ xs) + j ≡ suc (length xs + j) = omega arith in ap (slice_get (x ∷ (xs ++ ys))) e ∙ get-behind xs ys j

get-first : (n : ℕ) (xs : List Update) (i : ℕ) → i < n → slice_get (take n xs) i ≡ slice_get xs i
get-first zero xs i low = absurd (omega arith)
get-first (suc n) [] i low = refl
get-first (suc n) (x ∷ xs) zero low = refl
get-first (suc n) (x ∷ xs) (suc i) low = get-first n xs i (omega arith)

module _ (s : Dimensions) (always : StandsAlways s) (es : List Event) (run : IsRun s es) (d : ℕ) (low : d < s.k) (r : Replica)
    (stands : ReplicaStands s (book_of s es).issued (at [] (book_of s es).history.settled d) d r) where
  abbrev settled : List Update
  settled = at [] (book_of s es).history.settled d

  log-shows : LogShows s (after s es) d settled
  log-shows = shows s always es run d low

  many : count_logged (after s es) d ≡ length settled
  many = shown-long s d (no_store s) settled (updates_of (after s es) d) log-shows.updates

  shape-is : (after s es).shape ≡ s
  shape-is = ap (λ (x : World). x.shape) (sym (book-world s es)) ∙ book-shape s es

  front-long : length (take r.applied settled) ≡ r.applied
  front-long = length-take-le r.applied settled stands.within

  -- an update of the log stands in the history
  in-history : (j : ℕ) → slice_get (history settled r) (r.applied + j) ≡ slice_get r.log j
  in-history j = ap (λ (n : ℕ). slice_get (history settled r) (n + j)) (sym front-long) ∙ get-behind (take r.applied settled) r.log j

  fine-items : FineItems s d (items_after [] (take r.applied settled))
  fine-items = subst (λ (us : List Update). FineItems s d (items_after [] us)) (take_at (take r.applied settled) r.log r.applied front-long)
      (fine_histories_leave_items s (book_of s es).issued d r.applied r.applied (history settled r) stands.fine)

  pub keeps : KeepsAll (after s es) d r
  keeps = record {
    applied = let within = stands.within in let long = many in omega arith;
    reached = let reached = stands.reached in let long = many in omega arith;
    settled = record {
      items =
          λ key home. subst
          (λ (items : Items). IsItem (slot_in items key) ((table_at (after s es) d r.applied).items key)
          (run_on key None (take r.applied (updates_of (after s es) d))))
          (sym stands.items)
          (log-shows.items r.applied stands.within key (ap (λ (t : Dimensions). home_of key t.k) (sym shape-is) ∙ home));
      homes = subst (λ (items : Items). All (λ x. home_of x.0 (after s es).shape.k ≡ d) items) (sym stands.items)
          (subst (λ (t : Dimensions). All (λ x. home_of x.0 t.k ≡ d) (items_after [] (take r.applied settled))) (sym shape-is) fine-items.homes);
      once = subst (λ (items : Items). AllPairs (λ x y. x.0 ≢ y.0) items) (sym stands.items) fine-items.once;
    };
    numbers = λ j v is. number-at s (book_of s es).issued d 0 (r.applied + j) (no_store s) (history settled r) v
        stands.fine.steps (in-history j ∙ is) ∙ ap suc (omega arith);
    log = λ j u v is it.
        let below : r.applied + j < length (updates_of (after s es) d) = slice_get_within (updates_of (after s es) d) (r.applied + j) u it in
        let early : r.applied + j < length settled = let long = many in omega arith in
        let there : slice_get settled (r.applied + j) ≡ Some v
        = ap (λ (us : List Update). slice_get us (r.applied + j)) (sym stands.prolongs)
        ∙ get-first (length settled) (history settled r) (r.applied + j) early ∙ in-history j ∙ is in
        logged-at s d (r.applied + j) (no_store s) settled (updates_of (after s es) d) v u log-shows.updates there it;
  }

pub replicas_keep_all : ReplicasKeepAll
replicas_keep_all s always es run d low r stands = keeps s always es run d low r stands
