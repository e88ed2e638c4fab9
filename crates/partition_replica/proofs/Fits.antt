-- What a list's updates and the numbers have to meet, in the words of the tests.
use Rattle.std.proofs.Common.{◌≡◌, ℕ, suc, ◌+◌, ◌-◌, ◌≤◌, ◌<◌, max, Bool, true, false, ◌&&◌, not, IsTrue, ◌↔◌, List, []}
use Rattle.std.proofs.Common.{◌∷◌, ◌++◌, length, take, drop, get_or, Option, Some, None, refl, sym, ap, ◌∙◌, subst}
use Rattle.std.proofs.Common.{append_assoc, append-nil, arith}
use Rattle.std.specs.Prelude.{IfSome}
use Rattle.std.specs.List.{list_any}
use Rattle.std.proofs.lemmas.List.{length-drop, length-take-le, take-append-drop}
use Rattle.std.proofs.lemmas.Bool.{true≢false}
use Rattle.std.proofs.Math.Seq.{drop-cons, take-suc}
use Rattle.group_types.specs.declared.run.Run.{Run}
use Rattle.group_message.specs.declared.update.Body.{Body}
use Rattle.group_message.specs.declared.update.Body.TheVariants.{Put, Remove, Touch}
use Rattle.group_message.specs.declared.update.Update.{Update}
use Rattle.run_alloc.specs.Free.{AllFree}
use Rattle.run_alloc.proofs.Spread.{in_run-true, in_run-inside}
use Rattle.group_run.specs.Fitting.{AllCanCome, CanCome, Writes}
use Rattle.group_run.specs.Free.{in_run, in_some_run, is_free}
use Rattle.group_run.specs.Replica.{Items, Replica, applied_to, freed_by, items_after, last_of, run_of, slot_in, with_log}
use Rattle.partition_replica.specs.Coming.{IsWritten, freed_from, item_run_on, runs_behind}
use Rattle.partition_replica.specs.Sound.{IsSoundReplica, log_runs}
use Rattle.partition_replica.proofs.Behind.{freed_is, items_last, items_whole, runs_settled}
use Rattle.partition_replica.proofs.Sound.{free_refilled, sound_emptied, sound_with_all}

-- how many updates wait once everything up to a number is applied
pub left_is : (n : ℕ) (r : Replica) → n ≤ last_of r → length (applied_to n r).log ≡ last_of r - max n r.applied
left_is n r le = omega (arith, length-drop (n - r.applied) r.log)

pub applied_is : (n : ℕ) (r : Replica) → n ≤ last_of r → (applied_to n r).applied ≡ max n r.applied
applied_is n r le = omega (arith, length-take-le (n - r.applied) r.log (omega arith))

module _ (space : ℕ) (q : Replica) where
  pub come_split : (xs ys log : List Update) → AllCanCome space (with_log log q) (xs ++ ys)
      → AllCanCome space (with_log log q) xs × AllCanCome space (with_log (log ++ xs) q) ys
  come_split [] ys log come = (tt, subst (λ (l : List Update). AllCanCome space (with_log l q) ys) (sym (append-nil log)) come)
  come_split (x ∷ xs) ys log come =
      let rest = come_split xs ys (log ++ x ∷ []) come.1 in
      ((come.0, rest.0), subst (λ (l : List Update). AllCanCome space (with_log l q) ys) (append_assoc log (x ∷ []) xs) rest.1)

  pub come_push : (xs : List Update) (u : Update) (log : List Update) → AllCanCome space (with_log log q) xs → CanCome space (with_log (log ++ xs) q) u
      → AllCanCome space (with_log log q) (xs ++ u ∷ [])
  come_push [] u log come last = (subst (λ (l : List Update). CanCome space (with_log l q) u) (append-nil log) last, tt)
  come_push (x ∷ xs) u log come last =
      (come.0, come_push xs u (log ++ x ∷ []) come.1 (subst (λ (l : List Update). CanCome space (with_log l q) u) (sym (append_assoc log (x ∷ []) xs)) last))

  -- the first update that can't come
  pub come_at : (us : List Update) (i : ℕ) (u : Update) → i < length us → u ≡ get_or us i u → AllCanCome space (with_log [] q) us
      → CanCome space (with_log (take i us) q) u
  come_at us i u lt is come =
      let split : us ≡ take i us ++ u ∷ drop (suc i) us = sym (take-append-drop i us)
      ∙ ap (λ (l : List Update). take i us ++ l) (drop-cons us i u lt ∙ ap (λ (x : Update). x ∷ drop (suc i) us) (sym is)) in
      (come_split (take i us) (u ∷ drop (suc i) us) [] (subst (AllCanCome space (with_log [] q)) split come)).1.0

  pub come_next : (us : List Update) (i : ℕ) (u : Update) → i < length us → u ≡ get_or us i u → AllCanCome space (with_log [] q) (take i us)
      → CanCome space (with_log (take i us) q) u → AllCanCome space (with_log [] q) (take (i + 1) us)
  come_next us i u lt is come here =
      let one : suc i ≡ i + 1 = omega arith in
      subst (λ (n : ℕ). AllCanCome space (with_log [] q) (take n us)) one
      (subst (AllCanCome space (with_log [] q)) (sym (take-suc us i u lt ∙ ap (λ (x : Update). take i us ++ x ∷ []) (sym is)))
      (come_push (take i us) u [] come here))

  -- one that can't come ends the walk over a list
  pub list_stops : (us : List Update) (i : ℕ) (u : Update) (can : Bool) → i < length us → u ≡ get_or us i u
      → IsTrue can ↔ CanCome space (with_log (take i us) q) u
      → can ≡ false → IsTrue false ↔ AllCanCome space (with_log [] q) us
  list_stops us i u can lt is tells out = ((λ test. absurd (true≢false (sym test))), (λ come. sym out ∙ tells.1 (come_at us i u lt is come)))

  pub list_goes : (us : List Update) (i : ℕ) (u : Update) (can : Bool) → i < length us → u ≡ get_or us i u
      → IsTrue can ↔ CanCome space (with_log (take i us) q) u
      → can ≡ true → AllCanCome space (with_log [] q) (take i us) → AllCanCome space (with_log [] q) (take (i + 1) us)
  list_goes us i u can lt is tells goes come = come_next us i u lt is come (tells.0 goes)

-- an update that is written, in place of the parts of `CanCome`
module _ (space : ℕ) (q : Replica) (u : Update) (left : Option Run) (is : left ≡ item_run_on (items_after q.items q.log) u.key) where
  frees_is : freed_from u.body left ≡ freed_by u.body (slot_in (items_after q.items q.log) u.key)
  frees_is = ap (freed_from u.body) is ∙ sym (freed_is u.body (slot_in (items_after q.items q.log) u.key))

  pub comes : IsWritten space u left → IfSome (run_of u.body) (λ run. AllFree (is_free space q) run.at run.len) → CanCome space q u
  comes written free = record { caller = written.caller; writes = written.writes; free = free; frees = written.frees ∙ frees_is }

  pub is_written : CanCome space q u → IsWritten space u left
  is_written come = record { caller = come.caller; writes = come.writes; frees = come.frees ∙ sym frees_is }

  -- both tests at once
  pub comes_then : (written free : Bool) → IsTrue written ↔ IsWritten space u left
      → IsTrue free ↔ IfSome (run_of u.body) (λ run. AllFree (is_free space q) run.at run.len)
      → written ≡ true → IsTrue free ↔ CanCome space q u
  comes_then written free first second here = ((λ test. comes (first.0 here) (second.0 test)), (λ come. second.1 come.free))

  pub comes_else : (written : Bool) → IsTrue written ↔ IsWritten space u left → written ≡ false → IsTrue written ↔ CanCome space q u
  comes_else written first out = ((λ test. absurd (true≢false (sym test ∙ out))), (λ come. absurd (true≢false (sym (first.1 (is_written come)) ∙ out))))

pub writes_inside : (space : ℕ) (body : Body) → Writes space body → IfSome (run_of body) (λ run. run.at + run.len ≤ space)
writes_inside space (Put flags until run delta) writes = writes.inside
writes_inside space Remove writes = tt
writes_inside space (Touch until) writes = tt

-- where updates wait that can come in place of the log, the free addresses are those that none of them takes
module _ (space : ℕ) (q : Replica) (earlier : List Update) (sound : IsSoundReplica space q) (come : AllCanCome space (with_log [] q) earlier) where
  behind_free : (a : ℕ) → is_free space (with_log earlier q) a ≡ (is_free space (with_log [] q) a && not (list_any (in_run a) (log_runs earlier)))
  behind_free a =
      free_refilled space q earlier (sound_with_all space (with_log [] q) earlier (sound_emptied space q sound) come) a

  pub behind_all : (run : Option Run) → IfSome run (λ run. AllFree (is_free space (with_log [] q)) run.at run.len)
      → ((a : ℕ) → in_some_run a run ≡ true → list_any (in_run a) (log_runs earlier) ≡ false)
      → IfSome run (λ run. AllFree (is_free space (with_log earlier q)) run.at run.len)
  behind_all None free clear = tt
  behind_all (Some run) free clear = λ a low high. both _ _ _ (behind_free a) (free a low high) (clear a (in_run-inside run.at run.len a low high)) where
    both : (c f w : Bool) → c ≡ (f && not w) → f ≡ true → w ≡ false → c ≡ true
    both c true false is x y = is
    both c false w is x y = cc
    both c true true is x y = cc

  pub behind_free_all : (run : Option Run) → IfSome run (λ run. AllFree (is_free space (with_log earlier q)) run.at run.len)
      → IfSome run (λ run. AllFree (is_free space (with_log [] q)) run.at run.len)
  behind_free_all None free = tt
  behind_free_all (Some run) free = λ a low high. first _ _ _ (behind_free a) (free a low high) where
    first : (c f w : Bool) → c ≡ (f && not w) → c ≡ true → f ≡ true
    first c true w is x = refl
    first c false w is x = cc

  pub behind_clear : (run : Option Run) → IfSome run (λ run. AllFree (is_free space (with_log earlier q)) run.at run.len)
      → (a : ℕ) → in_some_run a run ≡ true → list_any (in_run a) (log_runs earlier) ≡ false
  behind_clear None free a inside = cc
  behind_clear (Some run) free a inside =
      let bounds = in_run-true run.at run.len a inside in
      clear _ _ _ (behind_free a) (free a bounds.0 bounds.1) where
        clear : (c f w : Bool) → c ≡ (f && not w) → c ≡ true → w ≡ false
        clear c f false is x = refl
        clear c true true is x = cc
        clear c false true is x = cc

  pub behind_then : (run : Option Run) (clear free : Bool)
      → IsTrue clear ↔ ((a : ℕ) → in_some_run a run ≡ true → list_any (in_run a) (log_runs earlier) ≡ false)
      → IsTrue free ↔ IfSome run (λ run. AllFree (is_free space (with_log [] q)) run.at run.len) → clear ≡ true
      → IsTrue free ↔ IfSome run (λ run. AllFree (is_free space (with_log earlier q)) run.at run.len)
  behind_then run clear free first second here = ((λ test. behind_all run (second.0 test) (first.0 here)), (λ all. second.1 (behind_free_all run all)))

  pub behind_else : (run : Option Run) (clear : Bool)
      → IsTrue clear ↔ ((a : ℕ) → in_some_run a run ≡ true → list_any (in_run a) (log_runs earlier) ≡ false) → clear ≡ false
      → IsTrue clear ↔ IfSome run (λ run. AllFree (is_free space (with_log earlier q)) run.at run.len)
  behind_else run clear first out =
      ((λ test. absurd (true≢false (sym test ∙ out))), (λ all. absurd (true≢false (sym (first.1 (behind_clear run all)) ∙ out))))

-- the run that earlier updates leave, once everything up to a number is applied
pub left_behind : (key : List ℕ) (q : Replica) (earlier : List Update) (left old : Option Run) → left ≡ runs_behind key earlier old
    → old ≡ item_run_on q.items key → left ≡ item_run_on (items_after q.items earlier) key
left_behind key q earlier left old is was = is ∙ ap (runs_behind key earlier) was ∙ sym (runs_settled earlier q.items key)

-- what the whole log leaves, as the run is read once everything is applied
pub left_last : (n last : ℕ) (r : Replica) (key : List ℕ) → last ≡ last_of r
    → item_run_on (applied_to last r).items key ≡ item_run_on (items_after (applied_to n r).items (applied_to n r).log) key
left_last n last r key is = ap (λ (items : Items). item_run_on items key) (items_last last r is ∙ sym (items_whole n r))
