-- A block that a head needs rebuilt first is one of its space.
use Rattle.std.proofs.Common.{ℕ, ◌≡◌, ◌<◌, ◌≤◌, ◌+◌, ◌-◌, ◌/◌, ◌==◌, ◌&&◌, nat_lt, not, is_some, Bool, true, false}
use Rattle.std.proofs.Common.{List, [], ◌∷◌, find, cond, Option, Some, None, inl, inr, refl, sym, ap, subst, ◌∙◌, arith}
use Rattle.std.proofs.Common.{if◌then◌else◌}
use Rattle.std.proofs.lemmas.Grind.{common_steps}
use Rattle.std.proofs.Math.Nat.{div-lt_iff_lt-mul}
use Rattle.std.specs.List.{range_with_len}
use Rattle.erasure_code.proofs.Nodes.{Among}
use Rattle.group_types.specs.Dimensions.{Dimensions, space_of}
use Rattle.group_types.specs.declared.process.ProcessId.{ProcessId}
use Rattle.group_types.specs.declared.process.ProcessId.TheVariants.{DataNode, ParityNode}
use Rattle.group_types.specs.declared.run.Run.{Run}
use Rattle.group_types.specs.Each.{Each}
use Rattle.item_index.specs.declared.slot.Slot.{Slot}
use Rattle.memc_table.specs.Act.{key_of}
use Rattle.memc_table.specs.Asked.{Asked}
use Rattle.memc_table.specs.Expiry.{is_live}
use Rattle.group_calls.specs.declared.decision.Decision.{Decision}
use Rattle.group_calls.specs.declared.decision.Decision.TheVariants as decides
use Rattle.group_run.specs.Applying.{replica_of}
use Rattle.group_run.specs.Asking.{found_at, found_unless}
use Rattle.group_run.specs.Deciding.{Found, Bytes, Missing, decide, reads_bytes, run_needed}
use Rattle.group_run.specs.Leaders.{blocks_met, missing_block, rebuilt_block, rebuilt_bytes}
use Rattle.group_run.specs.Process.{Process}
use Rattle.group_run.specs.Replica.{Replica, run_in, slot_in}
use Rattle.group_run.proofs.Deciding.{decides-by}
use Rattle.law_bytes.proofs.Rising.{range-among}
use Rattle.law_updates.proofs.Decides.{place-free}
use Rattle.law_updates.proofs.Keys.{OfSlot, each-slot}

-- what is found is a member
find-among : (test : ℕ → Bool) (xs : List ℕ) (b : ℕ) → find test xs ≡ Some b → Among b xs
find-among test [] b is = absurd (cc is)
find-among test (x ∷ xs) b is = by (test x) is (λ there. find-among test xs b there) where
  by : (c : Bool) → cond c (Some x) (find test xs) ≡ Some b → (find test xs ≡ Some b → Among b xs) → Among b (x ∷ xs)
  by true here later = let same : x ≡ b = cc here in inl (sym same)
  by false there later = inr (later there)

-- the blocks that a run of the space meets
met-inside : (s : Dimensions) (run : Run) (b : ℕ) → 0 < s.block → run.at + run.len ≤ space_of s → Among b (blocks_met s run) → b < s.blocks
met-inside s run b some inside among = by (run.len == 0) refl among where
  below : (a : ℕ) → a < space_of s → a / s.block < s.blocks
  below a low = (div-lt_iff_lt-mul {k = s.block} {x = a} {y = s.blocks} some).1 low

  by : (c : Bool) → (run.len == 0) ≡ c
      → Among b (if c then [] else range_with_len (run.at / s.block)
      ((run.at + run.len - 1) / s.block - run.at / s.block + 1)) → b < s.blocks
  by true none there = absurd there
  by false few there =
      let within = range-among b (run.at / s.block) ((run.at + run.len - 1) / s.block - run.at / s.block + 1) there in
      let high = within.1 in
      let low = within.0 in
      let some_bytes : 0 < run.len = grind (arith, common_steps) in
      let last : (run.at + run.len - 1) / s.block < s.blocks = below (run.at + run.len - 1) (omega (arith, inside, some_bytes)) in
      let first : run.at / s.block < s.blocks = below run.at (omega (arith, inside, some_bytes)) in
      omega (arith, high, low, last, first)

-- a block that is wanted
abbrev pub WantsWhere : (ℕ → Type 0) → Decision → Type 0
WantsWhere Wanted (decides.NeedBlock b) = Wanted b
WantsWhere Wanted (decides.Issue body outcome) = Unit {0}
WantsWhere Wanted (decides.Answer reply) = Unit {0}
WantsWhere Wanted (decides.Retry n) = Unit {0}
WantsWhere Wanted decides.NoSpace = Unit {0}

abbrev Inside : ℕ → Slot → Type 0
Inside space slot = slot.at + slot.len ≤ space

module _ (space : ℕ) (r : Replica) (op : Asked) (read : Run → Found) (Wanted : ℕ → Type 0)
    (wants : (run : Run) (b : ℕ) → run.at + run.len ≤ space → read run ≡ Missing b → Wanted b) where
  needed-inside : (slot : Option Slot) → OfSlot (Inside space) slot → (x : Run) → run_needed op slot ≡ Some x → x.at + x.len ≤ space
  needed-inside None fits x is = absurd (cc is)
  needed-inside (Some slot) fits x is = by (reads_bytes op.act && is_live op.moment slot.until && nat_lt 0 slot.len) is where
    by : (c : Bool) → ◌≡◌ {A = Option Run} (if c then Some (run_in slot) else None) (Some x) → x.at + x.len ≤ space
    by true here = let same : run_in slot ≡ x = cc here in subst (λ (y : Run). y.at + y.len ≤ space) same fits
    by false none = absurd (cc none)

  pub wants-where : (inherited : ℕ) → Each (λ x. x.1.at + x.1.len ≤ space) r.items → WantsWhere Wanted (decide space inherited r op read)
  wants-where inherited fits = decides-by space r op read inherited (WantsWhere Wanted) (record {
    answers = λ reply. tt;
    waits = λ n is. tt;
    full = λ long. tt;
    no_space = tt;
    item = λ run b needed missing.
        wants run b (needed-inside (slot_in r.items (key_of op.act))
        (each-slot (Inside space) (key_of op.act) r.items fits) run needed) missing;
    place = λ len run b is missing. wants run b (place-free space r len run is).fits.inside missing;
    removes = λ few outcome. tt;
    touches = λ few h outcome. tt;
    puts = λ few h run under outcome is. tt;
  })

-- a block that isn't rebuilt, of a run in the space
missing-inside : (s : Dimensions) (d : ℕ) (p : Process) (name : ProcessId) (run : Run) (b : ℕ) → 0 < s.block
    → run.at + run.len ≤ space_of s → found_at s d p name run ≡ Missing b → b < s.blocks
missing-inside s d p (DataNode e) run b some inside is = absurd (bytes_not is) where
  bytes_not : {bytes : List ℕ} → Bytes bytes ≡ Missing b → ⊥
  bytes_not m = cc m
missing-inside s d p (ParityNode i) run b some inside is = by (missing_block s d run p.as_leader) refl is where
  by : (o : Option ℕ) → missing_block s d run p.as_leader ≡ o → found_unless o (rebuilt_bytes s d run p.as_leader) ≡ Missing b → b < s.blocks
  by None none found = absurd (cc found)
  by (Some c) there found = let same : c ≡ b = cc found in
      met-inside s run b some inside (find-among (λ x. not (is_some (rebuilt_block p.as_leader d x))) (blocks_met s run)
      b (there ∙ ap Some same))

-- where the items lie in the space
pub needs-inside : (s : Dimensions) (d inherited : ℕ) (p : Process) (op : Asked) (b : ℕ) → 0 < s.block
    → Each (λ x. x.1.at + x.1.len ≤ space_of s) (replica_of p d).items
    → decide (space_of s) inherited (replica_of p d) op (found_at s d p p.name) ≡ decides.NeedBlock b → b < s.blocks
needs-inside s d inherited p op b some items decided =
    subst (WantsWhere (λ c. c < s.blocks)) decided
    (wants-where (space_of s) (replica_of p d) op (found_at s d p p.name) (λ c. c < s.blocks)
    (λ run c inside is. missing-inside s d p p.name run c some inside is) inherited items)
