-- Adding updates changes of a data process its space alone.
use Rattle.std.proofs.Common.{ℕ, zero, suc, ◌≡◌, ◌<◌, ◌/◌, List, [], ◌∷◌, length, replicate, Option, Some, None, Contains, refl, sym, ap, subst, ◌∙◌, arith}
use Rattle.std.specs.Prelude.{IfSome}
use Rattle.std.proofs.lemmas.List.{length-replicate}
use Rattle.group_types.specs.Dimensions.{Dimensions}
use Rattle.group_types.specs.Lists.{at, put}
use Rattle.group_types.specs.declared.process.ProcessId.TheVariants.{DataNode}
use Rattle.group_types.specs.declared.run.Run.{Run}
use Rattle.group_types.proofs.Lists.{at-any, at-replicate, put-at}
use Rattle.group_message.specs.declared.update.Body.{Body}
use Rattle.group_message.specs.declared.update.Body.TheVariants.{Put, Remove, Touch}
use Rattle.group_message.specs.declared.update.Update.{Update}
use Rattle.group_run.specs.Applying.{bytes_after, rebuilt_after, space_added, space_after}
use Rattle.group_run.specs.Process.{Process, opening_process}
use Rattle.group_run.specs.Replica.{run_of}
use Rattle.page_map.specs.Spaces.{AllMade}
use Rattle.value_space.specs.Space.{Space}
use Rattle.data_process.specs.Values.{DataHolding, ValuesAreReady, data_process_of}

-- blocks that were not rebuilt
abbrev unbuilt : ℕ → List (Option (List ℕ))
unbuilt blocks = replicate blocks None

none-rebuilt : (s : Dimensions) (d : ℕ) (us : List Update) (b n : ℕ) → rebuilt_after s d us b (unbuilt n) ≡ unbuilt n
none-rebuilt s d us b zero = refl
none-rebuilt s d us b (suc n) = ap (λ (blocks : List (Option (List ℕ))). None ∷ blocks) (none-rebuilt s d us (suc b) n)

module _ (s : Dimensions) (d : ℕ) (us : List Update) (within : d < s.k) where
  abbrev all : List (List (Option (List ℕ)))
  all = replicate s.k (unbuilt s.blocks)

  inside : d < length all
  inside = omega (arith, length-replicate s.k (unbuilt s.blocks))

  here : at [] all d ≡ unbuilt s.blocks
  here = at-any [] (unbuilt s.blocks) all d inside ∙ at-replicate (unbuilt s.blocks) s.k d

  stays : put [] all d (rebuilt_after s d us 0 (at [] all d)) ≡ all
  stays =
      ap (λ (blocks : List (Option (List ℕ))). put [] all d (rebuilt_after s d us 0 blocks)) here
      ∙ ap (put [] all d) (none-rebuilt s d us 0 s.blocks ∙ sym here)
      ∙ put-at [] [] all d inside

bytes-added : (v : DataHolding) (d : ℕ) (us : List Update) → d < v.space.shape.k
    → bytes_after v.space.shape d us (data_process_of v)
    ≡ record (data_process_of v) { space = space_after v.space.shape (DataNode v.number) d us v.space.bytes }
bytes-added v d us within =
    let p : Process = record (data_process_of v) { space = space_after v.space.shape (DataNode v.number) d us v.space.bytes } in
    ap (λ (rebuilt : List (List (Option (List ℕ)))). record p { as_leader = record p.as_leader { rebuilt = rebuilt } }) (stays v.space.shape d us within)

-- one update adds what it has to the space
pub update-added : (number : ℕ) (old new : Space) (d : ℕ) (u : Update) → d < old.shape.k → new.shape ≡ old.shape
    → new.bytes ≡ space_added old.shape (DataNode number) d u.body old.bytes
    → data_process_of (record { number = number; space = new }) ≡ bytes_after old.shape d (u ∷ []) (data_process_of (record { number = number; space = old }))
update-added number old new d u within shape bytes =
    ap (λ (s : Dimensions). record (opening_process s (DataNode number)) { space = new.bytes }) shape
    ∙ ap (λ (b : List ℕ). record (opening_process old.shape (DataNode number)) { space = b }) bytes
    ∙ sym (bytes-added (record { number = number; space = old }) d (u ∷ []) within)

-- an update that is no put adds nothing
pub nothing-added : (s : Dimensions) (number d : ℕ) (body : Body) (bytes : List ℕ)
    → ((flags : ℕ) (until : Option ℕ) (run : Run) (delta : List ℕ) → body ≡ Put flags until run delta → ⊥)
    → bytes ≡ space_added s (DataNode number) d body bytes
nothing-added s number d (Put flags until run delta) bytes other = absurd (other flags until run delta refl)
nothing-added s number d Remove bytes other = refl
nothing-added s number d (Touch until) bytes other = refl

-- what was ready stays so where pages only come
pub still-ready : (number : ℕ) (old new : Space) → new.shape ≡ old.shape → ((b : ℕ) → Contains old.made b → Contains new.made b)
    → (d : ℕ) (u : Update) → ValuesAreReady (record { number = number; space = old }) d u → ValuesAreReady (record { number = number; space = new }) d u
still-ready number old new shape kept d u ready = (subst (λ (s : Dimensions). d < s.k) (sym shape) ready.0, by (run_of u.body) ready.1) where
  by : (run : Option Run) → IfSome run (λ run. AllMade old.shape.block run old.made) → IfSome run (λ run. AllMade new.shape.block run new.made)
  by None made = made
  by (Some run) made = λ a from below. kept (a / new.shape.block) (subst (λ (s : Dimensions). Contains old.made (a / s.block)) (sym shape) (made a from below))
