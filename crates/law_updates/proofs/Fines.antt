-- Fine histories: how they come about, and what they give to those that receive their updates.
use Rattle.std.proofs.Common.{ℕ, zero, suc, ◌≡◌, ◌≢◌, ◌+◌, ◌-◌, ◌<◌, ◌≤◌, Bool, true, false, List, [], ◌∷◌, ◌++◌, take}
use Rattle.std.proofs.Common.{drop, length, Option, Some, None, refl, sym, ap, ap₂, subst, ◌∙◌, arith}
use Rattle.std.specs.Prelude.{Contains, IfSome}
use Rattle.std.proofs.Math.Seq.{take-add}
use Rattle.std.proofs.lemmas.List.{append_assoc, drop-append-le, drop-drop, drop-take, length-append, length-drop}
use Rattle.std.proofs.lemmas.List.{length-take-le, take-append-drop, take-append-le, take-take, take_at}
use Rattle.std.proofs.lemmas.List.Elements.{Contains-append_right}
use Rattle.field_byte.specs.Vectors.{add_bytes}
use Rattle.erasure_code.specs.Spaces.{bytes_at}
use Rattle.group_types.specs.Dimensions.{Dimensions, space_of}
use Rattle.group_types.specs.declared.run.Run.{Run}
use Rattle.group_types.specs.Each.{Each}
use Rattle.group_types.proofs.Eaches.{each_two-push, each_two-take}
use Rattle.memc_table.specs.Act.{key_of}
use Rattle.memc_table.specs.Asked.{Asked}
use Rattle.memc_table.specs.Expiry.{live_at}
use Rattle.memc_table.specs.Ruling.{ruling_of}
use Rattle.memc_table.specs.declared.holding.Holding.{Holding}
use Rattle.group_message.specs.declared.update.Body.{Body}
use Rattle.group_message.specs.declared.update.Body.TheVariants.{Put, Remove, Touch}
use Rattle.group_message.specs.declared.update.Outcome.{Outcome}
use Rattle.group_message.specs.declared.update.Update.{Update}
use Rattle.group_calls.specs.Turns.{CallName}
use Rattle.group_calls.specs.declared.decision.Decision.TheVariants.{Issue}
use Rattle.group_run.specs.Applying.{replica_of}
use Rattle.group_run.specs.Asking.{found_at, update_of}
use Rattle.group_run.specs.Deciding.{is_touch}
use Rattle.group_run.specs.Fitting.{AllCanCome, CanCome, Writes}
use Rattle.run_alloc.specs.Free.{AllFree}
use Rattle.group_run.specs.Free.{is_free}
use Rattle.group_run.specs.Headline.{AreApart}
use Rattle.group_run.specs.Replica.{Items, Replica, callers, freed_by, items_after, last_of, run_in, run_of, slot_in, with_update}
use Rattle.group_run.specs.World.{AskedCall, update_name}
use Rattle.law_updates.specs.Decisions.{IsIssue, IsPlacedBody, IsSound}
use Rattle.law_updates.specs.Fine.{AreClear, AreSteps, ComesBefore, Fine, IsCallOf, IsStep}
use Rattle.law_updates.proofs.Fine.{ComesBehind, IsReplicaOf}
use Rattle.law_updates.proofs.Laws.{FineHistoriesFit, HistoriesAreFine, IssuesAreFine, WritesBytes}
use Rattle.law_updates.specs.Right.{IsBodyOf, IsClearOfItems, IsRight}
use Rattle.law_updates.specs.Store.{Store, StoreFits, held, no_store, store_after, store_from, store_with_update}
use Rattle.law_updates.proofs.Clears.{WritesApart, after-clear, apart-before, clear-at, clear-drop, clear-free}
use Rattle.law_updates.proofs.Clears.{clear-push, clear-take, free-apart, free-clear, freed-apart, number_on-none}
use Rattle.law_updates.proofs.Decides.{decisions_are_sound}
use Rattle.law_updates.proofs.Histories.{history-fits, items-append, step-writes, steps-behind, steps-each}
use Rattle.law_updates.proofs.Histories.{steps-keep-bytes, steps-keep-held, steps-keep-slot, steps-more, steps-push}
use Rattle.law_updates.proofs.Histories.{steps-take, store-append, store-items}
use Rattle.law_updates.proofs.Keys.{each-slot}
use Rattle.law_updates.proofs.Steps.{no_store-fits, right-bytes}

drop-of-take : (a n : ℕ) (h : List Update) → a ≤ n → drop a (take n h) ≡ take (n - a) (drop a h)
drop-of-take a n h within = let e : a + (n - a) ≡ n = omega arith in ap (λ (k : ℕ). drop a (take k h)) (sym e) ∙ drop-take a (n - a) h

module _ (s : Dimensions) (d : ℕ) where
  rises : (calls : List AskedCall) (a b : ℕ) (h : List Update) → Fine s calls d a h → a ≤ b → b ≤ length h → Fine s calls d b h
  rises calls a b h fine up within =
      let more : a + (b - a) ≡ b = omega arith in
      let now : items_after (items_after [] (take a h)) (take (b - a) (drop a h)) ≡ items_after [] (take b h)
      = sym (items-append [] (take a h) (take (b - a) (drop a h))) ∙ ap (items_after []) (sym (take-add a (b - a) h) ∙ ap (λ (k : ℕ). take k h) more) in
      let rest : drop (b - a) (drop a h) ≡ drop b h = drop-drop (b - a) a h ∙ ap (λ (k : ℕ). drop k h) more in
      record {
        steps = fine.steps;
        rising = fine.rising;
        clear = subst (λ (us : List Update). AreClear (items_after [] (take b h)) us) rest
            (subst (λ (items : Items). AreClear items (drop (b - a) (drop a h))) now (clear-drop (b - a) (items_after [] (take a h)) (drop a h) fine.clear));
      }

  front : (calls : List AskedCall) (a n : ℕ) (h : List Update) → Fine s calls d a h → a ≤ n → Fine s calls d a (take n h)
  front calls a n h fine within = record {
    steps = steps-take s calls d n 0 (no_store s) h fine.steps;
    rising = each_two-take ComesBefore n h fine.rising;
    clear = subst (λ (us : List Update). AreClear (items_after [] us) (drop a (take n h))) (sym (take-take a n h within))
        (subst (AreClear (items_after [] (take a h))) (sym (drop-of-take a n h within)) (clear-take (n - a) (items_after [] (take a h)) (drop a h) fine.clear));
  }

  more : (calls later : List AskedCall) (a : ℕ) (h : List Update) → Fine s calls d a h → Fine s (calls ++ later) d a h
  more calls later a h fine = record { steps = steps-more s calls d later 0 (no_store s) h fine.steps; rising = fine.rising; clear = fine.clear }

  clear-none : (a : ℕ) → AreClear (items_after [] (take a [])) (drop a [])
  clear-none zero = tt
  clear-none (suc a) = tt

pub histories_are_fine : HistoriesAreFine
histories_are_fine s d = record {
  start = λ calls. record { steps = tt; rising = tt; clear = clear-none s d 0 };
  rises = rises s d;
  front = front s d;
  more = more s d;
}

-- a call that comes behind all others comes behind those that have updates here
newest : (s : Dimensions) (calls : List AskedCall) (d : ℕ) (h : List Update) (c : AskedCall) (u : Update) → update_name u ≡ c.name
    → ComesBehind calls c → AreSteps s calls d 0 (no_store s) h
    → Each (λ v. ComesBefore v u) h
newest s calls d h c u named behind steps = steps-each s calls d (λ v. ComesBefore v u) (λ n store v fits step same.
    let own : v.caller ≡ step.call.name.caller = ap (λ (x : CallName). x.caller) step.name in
    let its : u.caller ≡ c.name.caller = ap (λ (x : CallName). x.caller) named in
    let below = behind step.call step.asked (sym own ∙ same ∙ its) in
    let mine : v.call ≡ step.call.name.call = ap (λ (x : CallName). x.call) step.name in
    let theirs : u.call ≡ c.name.call = ap (λ (x : CallName). x.call) named in
    omega arith) 0 (no_store s) h (no_store-fits s) steps

-- the body that a head issues is the one of the history, where its run is read in what the history leaves
body-of : (s : Dimensions) (now later : Store) (r : Replica) (touch : Bool) (leaves : Option Holding) (body : Body)
    → IsPlacedBody (space_of s) r now touch leaves body
    → ((run : Run) → run_of body ≡ Some run → run.at + run.len ≤ space_of s → IsClearOfItems later.items run)
    → ((run : Run) → run_of body ≡ Some run → run.at + run.len ≤ space_of s → bytes_at run.at run.len now.space ≡ bytes_at run.at run.len later.space)
    → IsBodyOf s later touch leaves body
body-of s now later r touch None body is clear same = is
body-of s now later r true (Some h) body is clear same = is
body-of s now later r false (Some h) body is clear same =
    let writes : run_of body ≡ Some is.run = ap run_of is.is in
    record {
      run = is.run;
      fits = is.fits;
      clear = clear is.run writes is.fits.inside;
      is = is.is ∙ ap (λ (under : List ℕ). Put h.item.flags h.until is.run (add_bytes h.item.value under)) (same is.run writes is.fits.inside);
    }

-- the run that a placed body writes is free
free-of : (space : ℕ) (store : Store) (r : Replica) (touch : Bool) (leaves : Option Holding) (body : Body) → IsPlacedBody space r store touch leaves body
    → (run : Run) → run_of body ≡ Some run → IsClearOfItems r.items run × Each (λ v. IfSome (run_of v.body) (AreApart run)) r.log
free-of space store r touch None body is run writes = absurd (cc (writes, ap run_of is))
free-of space store r true (Some h) body is run writes = absurd (cc (writes, ap run_of is))
free-of space store r false (Some h) body is run writes =
    let same : is.run ≡ run = run-same (sym (ap run_of is.is) ∙ writes) in
    subst (λ (x : Run). IsClearOfItems r.items x × Each (λ v. IfSome (run_of v.body) (AreApart x)) r.log) same
    (free-clear space r is.run is.free, free-apart space r is.run is.free) where
      run-same : {a b : Run} → Some a ≡ Some b → a ≡ b
      run-same {a} e = ap (λ (x : Option Run). elim x [ None ↦ a | Some y ↦ y ]) e

some-run : (P : Run → Type 0) (x : Option Run) → ((run : Run) → x ≡ Some run → P run) → IfSome x P
some-run P None turn = tt
some-run P (Some run) turn = turn run refl

module _ (s : Dimensions) (calls : List AskedCall) (d a : ℕ) (h : List Update) (fine : Fine s calls d a h) (r : Replica) (replica : IsReplicaOf a h r) where
  whole : take a h ++ drop a h ≡ h
  whole = take-append-drop a h

  -- the store of what is applied
  abbrev now : Store
  now = store_after s d (take a h)

  pub now-items : now.items ≡ r.items
  now-items = store-items s d (no_store s) (take a h) ∙ sym replica.items

  pub now-fits : StoreFits s now
  now-fits = history-fits s calls d (take a h) (steps-take s calls d a 0 (no_store s) h fine.steps)

  later-is : store_from s d now r.log ≡ store_after s d h
  later-is = ap (store_from s d now) replica.log ∙ sym (store-append s d (no_store s) (take a h) (drop a h)) ∙ ap (store_after s d) whole

  log-steps : AreSteps s calls d a now r.log
  log-steps = subst (AreSteps s calls d a now) (sym replica.log)
      (steps-behind s calls d 0 a (no_store s) (take a h) (drop a h) (omega (arith, length-take-le a h replica.within))
      (subst (AreSteps s calls d 0 (no_store s)) (sym whole) fine.steps))

  last-is : last_of r ≡ length h
  last-is = ap₂ (λ x y. x + y) replica.applied (ap length replica.log ∙ length-drop a h) ∙ (let within = replica.within in omega arith)

  module _ (op : Asked) (body : Body) (outcome : Outcome) (issue : IsIssue (space_of s) r now op body outcome) (u : Update)
      (number : u.number ≡ suc (last_of r)) (key : u.key ≡ key_of op.act) (is : u.body ≡ body)
      (frees : u.frees ≡ freed_by body (slot_in r.items (key_of op.act))) (told : u.outcome ≡ outcome) where
    others : Each (λ v. v.key ≢ key_of op.act) r.log
    others = number_on-none r.log (key_of op.act) issue.alone

    same-held : held (store_after s d h) (key_of op.act) ≡ held now (key_of op.act)
    same-held = ap (λ (x : Store). held x (key_of op.act)) (sym later-is) ∙ steps-keep-held s calls d (key_of op.act) a now r.log now-fits log-steps others

    same-slot : slot_in (store_after s d h).items (key_of op.act) ≡ slot_in r.items (key_of op.act)
    same-slot =
        ap (λ (x : Store). slot_in x.items (key_of op.act)) (sym later-is) ∙ ap (λ (x : Items). slot_in x (key_of op.act)) (store-items s d now r.log)
        ∙ steps-keep-slot s calls d (key_of op.act) now.items r.log others ∙ ap (λ (x : Items). slot_in x (key_of op.act)) now-items

    free : (run : Run) → run_of body ≡ Some run → IsClearOfItems r.items run × Each (λ v. IfSome (run_of v.body) (AreApart run)) r.log
    free = free-of (space_of s) now r (is_touch op.act) issue.leaves body issue.writes

    later-clear : (run : Run) → run_of body ≡ Some run → run.at + run.len ≤ space_of s → IsClearOfItems (store_after s d h).items run
    later-clear run writes inside =
        let it = free run writes in
        subst (λ (x : Store). IsClearOfItems x.items run) later-is (subst (λ (x : Items). IsClearOfItems x run) (sym (store-items s d now r.log))
        (after-clear run now.items r.log it.1 (subst (λ (x : Items). IsClearOfItems x run) (sym now-items) it.0)))

    later-bytes : (run : Run) → run_of body ≡ Some run → run.at + run.len ≤ space_of s
        → bytes_at run.at run.len now.space ≡ bytes_at run.at run.len (store_after s d h).space
    later-bytes run writes inside =
        sym (steps-keep-bytes s calls d run a now r.log inside now-fits log-steps (free run writes).1)
        ∙ ap (λ (x : Store). bytes_at run.at run.len x.space) later-is

    pub issued-right : IsRight s (store_after s d h) (suc (length h)) op u
    issued-right = record {
      reply = issue.reply;
      leaves = issue.leaves;
      ruled = ap₂ (λ (n : ℕ) (x : Option Holding). ruling_of op.moment n op.act (live_at op.moment x)) (sym (ap suc last-is)) same-held ∙ issue.ruled;
      number = number ∙ ap suc last-is;
      key = key;
      outcome = told ∙ issue.told;
      body = subst (IsBodyOf s (store_after s d h) (is_touch op.act) issue.leaves) (sym is)
          (body-of s now (store_after s d h) r (is_touch op.act) issue.leaves body issue.writes later-clear later-bytes);
      frees = frees ∙ ap₂ freed_by (sym is) (sym same-slot ∙ ap (slot_in (store_after s d h).items) (sym key));
    }

    pub issued-clear : AreClear (items_after [] (take a h)) (drop a h ++ u ∷ [])
    issued-clear =
        clear-push (items_after [] (take a h)) (drop a h) u fine.clear
        (some-run (IsClearOfItems (items_after [] (take a h))) (run_of u.body)
        (λ run writes. subst (λ (x : Items). IsClearOfItems x run) replica.items (free run (sym (ap run_of is) ∙ writes)).0))
        (subst (Each (WritesApart u)) replica.log (apart-all r.log (λ run writes. (free run (sym (ap run_of is) ∙ writes)).1)))
        (subst (Each (λ v. v.key ≢ u.key)) replica.log (subst (λ (k : List ℕ). Each (λ v. v.key ≢ k) r.log) (sym key) others)) where
          apart-all : (log : List Update)
              → ((run : Run) → run_of u.body ≡ Some run → Each (λ v. IfSome (run_of v.body) (AreApart run)) log)
              → Each (WritesApart u) log
          apart-all log apart = by (run_of u.body) apart where
            by : (x : Option Run) → ((run : Run) → x ≡ Some run → Each (λ v. IfSome (run_of v.body) (AreApart run)) log)
                → Each (λ v. IfSome x (λ run. IfSome (run_of v.body) (AreApart run))) log
            by None apart = all-tt log where
              all-tt : (log : List Update) → Each (λ v. IfSome None (λ run. IfSome (run_of v.body) (AreApart run))) log
              all-tt [] = tt
              all-tt (v ∷ vs) = (tt, all-tt vs)
            by (Some run) apart = apart run refl

-- an issued update prolongs a fine history
pub issued-fine : (s : Dimensions) (calls : List AskedCall) (d a : ℕ) (h : List Update) (fine : Fine s calls d a h) (r : Replica) (replica : IsReplicaOf a h r)
    → (c : AskedCall) (body : Body) (outcome : Outcome) (issue : IsIssue (space_of s) r (store_after s d (take a h)) c.op body outcome) (u : Update)
    → u.number ≡ suc (last_of r) → u.key ≡ key_of c.op.act → u.body ≡ body → u.frees ≡ freed_by body (slot_in r.items (key_of c.op.act)) → u.outcome ≡ outcome
    → update_name u ≡ c.name → IsCallOf s d c → ComesBehind calls c → Fine s (calls ++ c ∷ []) d a (h ++ u ∷ [])
issued-fine s calls d a h fine r replica c body outcome issue u number key is frees told named fits behind = record {
  steps = steps-push s (calls ++ c ∷ []) d 0 (length h) (no_store s) h u (omega arith) (steps-more s calls d (c ∷ []) 0 (no_store s) h fine.steps) (record {
    call = c;
    asked = last-contained calls c;
    fits = fits;
    name = named;
    right = issued-right s calls d a h fine r replica c.op body outcome issue u number key is frees told;
  });
  rising = each_two-push ComesBefore h u fine.rising (newest s calls d h c u named behind fine.steps);
  clear = subst (λ (us : List Update). AreClear (items_after [] us) (drop a (h ++ u ∷ []))) (sym (take-append-le a h (u ∷ []) replica.within))
      (subst (AreClear (items_after [] (take a h))) (sym (drop-append-le a h (u ∷ []) replica.within))
      (issued-clear s calls d a h fine r replica c.op body outcome issue u number key is frees told));
} where
  last-contained : (xs : List AskedCall) (x : AskedCall) → Contains (xs ++ x ∷ []) x
  last-contained xs x = Contains-append_right xs (x ∷ []) x (0, omega arith, refl)

pub issues_are_fine : IssuesAreFine
issues_are_fine s calls d inherited h c p body outcome fine replica fits behind reads decided =
    let r : Replica = replica_of p d in
    let store : Store = store_after s d (take r.applied h) in
    let good : StoreFits s store = now-fits s calls d r.applied h fine r replica in
    let sound : IsSound (space_of s) inherited r store c.op (Issue body outcome) = subst (IsSound (space_of s) inherited r store c.op) decided
    (decisions_are_sound (space_of s) inherited r store c.op (found_at s d p p.name) good.long good.inside
    (sym (now-items s calls d r.applied h fine r replica)) reads) in
    issued-fine s calls d r.applied h fine r replica c body outcome sound (update_of c.name c.op d body outcome p) refl refl refl refl refl refl fits behind

-- the next update of a fine history can come
frees-apart : (s : Dimensions) (calls : List AskedCall) (d n : ℕ) (store : Store) (vs : List Update) (u : Update)
    (us : List Update) (run : Run) → run_of u.body ≡ Some run
    → AreSteps s calls d n store (vs ++ u ∷ us) → AreClear store.items (vs ++ u ∷ us) → Each (λ v. IfSome v.frees (AreApart run)) vs
frees-apart s calls d n store [] u us run writes steps clear = tt
frees-apart s calls d n store (v ∷ vs) u us run writes steps clear = (
  subst (λ (x : Option Run). IfSome x (AreApart run)) (sym steps.0.right.frees)
      (freed-apart run v.body (slot_in store.items v.key)
      (each-slot (λ x. AreApart run (run_in x)) v.key store.items
      (clear-at store.items (v ∷ vs) u us run writes clear))),
  frees-apart s calls d (suc n) (store_with_update s d v store) vs u us run writes steps.1 clear.2,
)

run-inside : (space : ℕ) (body : Body) (run : Run) → run_of body ≡ Some run → Writes space body → run.at + run.len ≤ space
run-inside space (Put flags until other delta) run is writes =
    let same : other ≡ run = ap (λ (x : Option Run). elim x [ None ↦ other | Some y ↦ y ]) is in
    subst (λ (x : Run). x.at + x.len ≤ space) same writes.inside
run-inside space Remove run is writes = absurd (cc is)
run-inside space (Touch until) run is writes = absurd (cc is)

module _ (s : Dimensions) (calls : List AskedCall) (d a : ℕ) where
  pub next-comes : (xs : List Update) (u : Update) (us : List Update) (r : Replica) → Fine s calls d a (xs ++ u ∷ us)
      → IsReplicaOf a xs r → CanCome (space_of s) r u
  next-comes xs u us r fine replica =
      let steps : AreSteps s calls d (length xs) (store_after s d xs) (u ∷ us) =
      steps-behind s calls d 0 (length xs) (no_store s) xs (u ∷ us) (omega arith) fine.steps in
      let step : IsStep s calls d (suc (length xs)) (store_after s d xs) u = steps.0 in
      let within = replica.within in
      let fine-xs : AreSteps s calls d 0 (no_store s) xs = subst (AreSteps s calls d 0 (no_store s)) (take_at xs (u ∷ us) (length xs) refl)
      (steps-take s calls d (length xs) 0 (no_store s) (xs ++ u ∷ us) fine.steps) in
      let writes : Writes (space_of s) u.body = step-writes s calls d (suc (length xs)) (store_after s d xs) u (history-fits s calls d xs fine-xs) step in
      let clear : AreClear r.items (r.log ++ u ∷ us) = subst (λ (ys : List Update). AreClear r.items ys)
      (drop-append-le a xs (u ∷ us) within ∙ ap (λ (ys : List Update). ys ++ u ∷ us) (sym replica.log))
      (subst (λ (x : Items). AreClear x (drop a (xs ++ u ∷ us))) (ap (items_after []) (take-append-le a xs (u ∷ us) within) ∙ sym replica.items) fine.clear) in
      let items : (store_after s d (take a xs)).items ≡ r.items = store-items s d (no_store s) (take a xs) ∙ sym replica.items in
      let whole : take a xs ++ (r.log ++ u ∷ us) ≡ xs ++ u ∷ us
      = ap (λ (ys : List Update). take a xs ++ (ys ++ u ∷ us)) replica.log
      ∙ sym (append_assoc (take a xs) (drop a xs) (u ∷ us)) ∙ ap (λ (ys : List Update). ys ++ u ∷ us)
      (take-append-drop a xs) in
      let log : AreSteps s calls d a (store_after s d (take a xs)) (r.log ++ u ∷ us) =
      steps-behind s calls d 0 a (no_store s) (take a xs) (r.log ++ u ∷ us)
      (omega (arith, length-take-le a xs within))
      (subst (AreSteps s calls d 0 (no_store s)) (sym whole) fine.steps) in
      record {
        caller = let own : u.caller ≡ step.call.name.caller = ap (λ (x : CallName). x.caller) step.name in let few =
            step.fits.caller in subst (λ (k : ℕ). k < callers) (sym own) few;
        writes = writes;
        free = some-run (λ run. AllFree (is_free (space_of s) r) run.at run.len) (run_of u.body) (λ run is.
            clear-free (space_of s) r run (run-inside (space_of s) u.body run is writes)
            (clear-at r.items r.log u us run is clear) (apart-before r.items r.log u us run is clear)
            (frees-apart s calls d a (store_after s d (take a xs)) r.log u us run is log
            (subst (λ (x : Items). AreClear x (r.log ++ u ∷ us)) (sym items) clear)));
        frees = step.right.frees ∙ ap (λ (x : Items). freed_by u.body (slot_in x u.key))
            (store-items s d (no_store s) xs ∙ ap (items_after []) (sym (take-append-drop a xs)) ∙ items-append [] (take a xs) (drop a xs)
            ∙ ap₂ items_after (sym replica.items) (sym replica.log));
      }

  pub all-come : (xs us : List Update) (r : Replica) → Fine s calls d a (xs ++ us) → IsReplicaOf a xs r → AllCanCome (space_of s) r us
  all-come xs [] r fine replica = tt
  all-come xs (u ∷ us) r fine replica =
      let within = replica.within in (
        next-comes xs u us r fine replica,
        all-come (xs ++ u ∷ []) us (with_update u r) (subst (Fine s calls d a) (sym (append_assoc xs (u ∷ []) us)) fine) (record {
          applied = replica.applied;
          within = omega (arith, length-append xs (u ∷ []));
          items = replica.items ∙ ap (items_after []) (sym (take-append-le a xs (u ∷ []) within));
          log = ap (λ (ys : List Update). ys ++ u ∷ []) replica.log ∙ sym (drop-append-le a xs (u ∷ []) within);
        }),
      )

pub fine_histories_fit : FineHistoriesFit
fine_histories_fit s calls d a h fine = record {
  store = λ n. history-fits s calls d (take n h) (steps-take s calls d n 0 (no_store s) h fine.steps);
  writes = steps-each s calls d (λ u. Writes (space_of s) u.body) (step-writes s calls d) 0 (no_store s) h (no_store-fits s) fine.steps;
  bytes = steps-each s calls d (λ u. WritesBytes u.body) (λ n store u fits step. right-bytes s d n store step.call.op u
      fits step.right step.fits.bytes) 0 (no_store s) h (no_store-fits s) fine.steps;
  comes = λ r n reached replica. all-come s calls d a (take n h) (drop n h) r (subst (Fine s calls d a) (sym (take-append-drop n h)) fine) replica;
}
