-- Copies, marks and rebuilt blocks of a process that holds its bytes.
use Rattle.std.proofs.Common.{◌≡◌, ◌≢◌, ℕ, ◌+◌, ◌<◌, ◌≤◌, ◌*◌, Bool, true, false, not, List, [], ◌∷◌, ◌++◌, length}
use Rattle.std.proofs.Common.{take, drop, replicate, is_some, Option, Some, None, IfSome, ◌⊎◌, inl, inr, sym, ap, ap₂}
use Rattle.std.proofs.Common.{subst, ◌∙◌, refl, arith, if◌then◌else◌}
use Rattle.std.specs.Prelude.{unwrap_or}
use Rattle.std.proofs.lemmas.Bool.{cases_eq}
use Rattle.std.proofs.lemmas.List.{length-take, length-drop, get_or-take, get_or-drop}
use Rattle.group_types.specs.Dimensions.{Dimensions, space_of}
use Rattle.group_types.specs.Lists.{at, put}
use Rattle.group_types.specs.Names.{same_process}
use Rattle.group_types.specs.declared.process.ProcessId.{ProcessId}
use Rattle.group_types.specs.declared.process.ProcessId.TheVariants.{ParityNode}
use Rattle.group_types.proofs.Lists.{at-put, at-put-other, at-replicate}
use Rattle.group_types.specs.Each.{Each}
use Rattle.group_types.proofs.Eaches.{each-append, each-weaker, each-map, each-filter}
use Rattle.group_message.specs.declared.update.Update.{Update}
use Rattle.group_run.specs.Applying.{replica_of}
use Rattle.group_run.specs.Leaders.{block_gathered, copy_kept, copy_marked, decoded_of, gathered_when, is_complete}
use Rattle.group_run.specs.Leaders.{open_session, rebuilt_block, rebuilt_unless, row_finished, row_gathered}
use Rattle.group_run.specs.Leaders.{with_decoded, with_leader}
use Rattle.group_run.specs.Process.{Copy, Gathering, LeaderState, Process}
use Rattle.group_run.specs.Rows.{block_in, copy_begun, copy_in, is_copy, is_marked, marked, new_copy, with_copies, with_copy, without_copy}
use Rattle.law_bytes.specs.Areas.{IsArea, IsBlock, block_size, held, value}
use Rattle.law_bytes.specs.Held.{CopyHolds, marked_stand, stand}
use Rattle.law_bytes.proofs.Applying.{Holding}
use Rattle.law_bytes.proofs.Finds.{found-each, if-some}
use Rattle.law_bytes.proofs.Values.{Inside, area-same, held-same}

-- functions with the same values are the same
pub same-functions : {X Y : Type 0} (f g : X → Y) → ((x : X) → f x ≡ g x) → f ≡ g
same-functions f g same = λ i. λ x. same x i

-- two processes that have applied the same, under one name
pub record SameStand (p q : Process) : Type 0 where
  pub name : q.name ≡ p.name
  pub applied : (d : ℕ) → (replica_of q d).applied ≡ (replica_of p d).applied

-- and whose bytes are the same but for copies
pub record SameBytes (p q : Process) : Type 0 where
  pub stand : SameStand p q
  pub space : q.space ≡ p.space
  pub rebuilt : (d b : ℕ) → rebuilt_block q.as_leader d b ≡ rebuilt_block p.as_leader d b

module _ (s : Dimensions) (settled : ℕ → List Update) where
  stand-same : (p q : Process) → SameStand p q → stand settled q ≡ stand settled p
  stand-same p q same = same-functions (stand settled q) (stand settled p) (λ d. ap (λ (k : ℕ). take k (settled d)) (same.applied d))

  marked-stand-same : (p q : Process) (marks : List (Option ℕ)) → SameStand p q → marked_stand settled marks q ≡ marked_stand settled marks p
  marked-stand-same p q marks same =
      same-functions (marked_stand settled marks q) (marked_stand settled marks p)
      (λ d. ap (λ (k : ℕ). take (unwrap_or (at None marks d) k) (settled d)) (same.applied d))

  pub copy-same : (p q : Process) → SameStand p q → (c : Copy) → CopyHolds s settled p c → CopyHolds s settled q c
  copy-same p q same c holds = record {
    bytes = subst (λ (name : ProcessId). IsBlock s c.block (held s name (marked_stand settled c.marks q)) c.bytes) (sym same.name)
        (subst (λ (us : ℕ → List Update). IsBlock s c.block (held s p.name us) c.bytes) (sym (marked-stand-same p q c.marks same)) holds.bytes);
    marks = holds.marks;
  }

  pub copies-same : (p q : Process) → SameStand p q → (cs : List Copy) → Each (CopyHolds s settled p) cs → Each (CopyHolds s settled q) cs
  copies-same p q same cs all = each-weaker (CopyHolds s settled p) (CopyHolds s settled q) (copy-same p q same) cs all

  -- a process with the same bytes, and copies that hold
  pub holding-same : (old : ℕ → ℕ → Bool) (p q : Process) → SameBytes p q → Each (CopyHolds s settled p) q.as_row.copies
      → Holding s settled old p → Holding s settled old q
  holding-same old p q same copies holding = record {
    within = λ d below. subst (λ (k : ℕ). k ≤ length (settled d)) (sym (same.stand.applied d)) (holding.within d below);
    space = subst (λ (name : ProcessId). IsArea 0 (space_of s) (held s name (stand settled q)) q.space) (sym same.stand.name)
        (subst (λ (us : ℕ → List Update). IsArea 0 (space_of s) (held s p.name us) q.space) (sym (stand-same p q same.stand))
        (subst (IsArea 0 (space_of s) (held s p.name (stand settled p))) (sym same.space) holding.space));
    copies = copies-same p q same.stand q.as_row.copies copies;
    rebuilt =
        λ d b bytes below is_old is. subst (λ (k : ℕ). IsBlock s b (value (take k (settled d))) bytes) (sym (same.stand.applied d))
        (holding.rebuilt d b bytes below is_old (sym (same.rebuilt d b) ∙ is));
    there = λ d b below is_old. ap is_some (same.rebuilt d b) ∙ holding.there d b below is_old;
  }

  pub holding-copies : (old : ℕ → ℕ → Bool) (p : Process) (cs : List Copy) → Each (CopyHolds s settled p) cs
      → Holding s settled old p → Holding s settled old (with_copies cs p)
  holding-copies old p cs all holding =
      holding-same old p (with_copies cs p)
      (record { stand = record { name = refl; applied = λ d. refl }; space = refl; rebuilt = λ d b. refl }) all holding

  -- a block of the space
  pub block-of-space : (b : ℕ) (f : ℕ → ℕ) (space : List ℕ) → IsArea 0 (space_of s) f space → IsBlock s b f (block_in s b space)
  block-of-space b f space area = record {
    long = omega (arith, length-take s.block (drop (b * s.block) space), length-drop (b * s.block) space, area.long);
    same = λ x below.
        let inside : b * s.block + x < space_of s = omega (arith, below) in
        let place : 0 + (b * s.block + x) ≡ b * s.block + x = omega arith in
        get_or-take s.block (drop (b * s.block) space) x 0 (omega (arith, below)) ∙ get_or-drop (b * s.block) space x 0
        ∙ area.same (b * s.block + x) inside ∙ ap f place;
  }

  -- a copy that is begun
  pub begun-holds : (old : ℕ → ℕ → Bool) (there : Bool) (leader number block : ℕ) (p : Process)
      → Holding s settled old p → Holding s settled old (copy_begun there s leader number block p)
  begun-holds old true leader number block p holding = holding
  begun-holds old false leader number block p holding =
      holding-copies old p (p.as_row.copies ++ new_copy s leader number block p.space ∷ [])
      (each-append (CopyHolds s settled p) p.as_row.copies (new_copy s leader number block p.space ∷ []) holding.copies (fresh, tt)) holding
    where
      none : (d : ℕ) → ◌≡◌ {A = Option ℕ} (at None (replicate s.k None) d) None
      none d = at-replicate None s.k d

      stands : marked_stand settled (replicate s.k None) p ≡ stand settled p
      stands = same-functions (marked_stand settled (replicate s.k None) p) (stand settled p)
          (λ d. ap (λ (o : Option ℕ). take (unwrap_or o (replica_of p d).applied) (settled d)) (none d))

      fresh : CopyHolds s settled p (new_copy s leader number block p.space)
      fresh = record {
        bytes =
            subst (λ (us : ℕ → List Update). IsBlock s block (held s p.name us) (block_in s block p.space)) (sym stands)
            (block-of-space block (held s p.name (stand settled p)) p.space holding.space);
        marks = λ d n below is. absurd (cc (is, none d));
      }

  -- a copy that is marked at the number that the process has applied
  pub marked-holds : (p : Process) (c : Copy) (d n : ℕ) → Inside s p.name → d < s.k → (replica_of p d).applied ≡ n
      → (replica_of p d).applied ≤ length (settled d) → at None c.marks d ≡ None → CopyHolds s settled p c → CopyHolds s settled p (marked d n c)
  marked-holds p c d n inside below stands within free holds = record {
    bytes =
        area-same (c.block * s.block) (block_size s c.block) (held s p.name (marked_stand settled c.marks p))
        (held s p.name (marked_stand settled (put None c.marks d (Some n)) p)) c.bytes holds.bytes
        (λ x. held-same s p.name (marked_stand settled c.marks p) (marked_stand settled (put None c.marks d (Some n)) p)
        x inside (λ e low. same e (cases_eq e d)));
    marks = λ e k low is. bound e k low is (cases_eq e d);
  } where
    same : (e : ℕ) → (e ≡ d) ⊎ (e ≢ d) → marked_stand settled (put None c.marks d (Some n)) p e ≡ marked_stand settled c.marks p e
    same e (inr other) = ap (λ (o : Option ℕ). take (unwrap_or o (replica_of p e).applied) (settled e)) (at-put-other None c.marks d e (Some n) other)
    same e (inl here) =
        ap (λ (j : ℕ). marked_stand settled (put None c.marks d (Some n)) p j) here
        ∙ ap (λ (o : Option ℕ). take (unwrap_or o (replica_of p d).applied) (settled d)) (at-put None None c.marks d (Some n))
        ∙ ap (λ (k : ℕ). take k (settled d)) (sym stands)
        ∙ ap (λ (o : Option ℕ). take (unwrap_or o (replica_of p d).applied) (settled d)) (sym free)
        ∙ ap (λ (j : ℕ). marked_stand settled c.marks p j) (sym here)

    bound : (e k : ℕ) → e < s.k → at None (put None c.marks d (Some n)) e ≡ Some k → (e ≡ d) ⊎ (e ≢ d) → k ≤ length (settled e)
    bound e k low is (inr other) = holds.marks e k low (sym (at-put-other None c.marks d e (Some n) other) ∙ is)
    bound e k low is (inl here) =
        let now : Some n ≡ Some k = sym (at-put None None c.marks d (Some n)) ∙ ap (at None (put None c.marks d (Some n))) (sym here) ∙ is in
        let n_is : n ≡ k = cc now in
        subst (λ (j : ℕ). k ≤ length (settled j)) (sym here) (omega (arith, n_is, stands, within))

-- what a leader has rebuilt stays when a session is decoded
abbrev pub StaysRebuilt : LeaderState → LeaderState → Type 0
StaysRebuilt l after = (d b : ℕ) → is_some (rebuilt_block l d b) ≡ true → rebuilt_block after d b ≡ rebuilt_block l d b

module _ (s : Dimensions) where
  stays-unless : (l : ℕ) (g : Gathering) (state : LeaderState) → StaysRebuilt state (rebuilt_unless (is_some (rebuilt_block state l g.block)) s g l state)
  stays-unless l g state d b there = by (is_some (rebuilt_block state l g.block)) refl where
    by : (c : Bool) → is_some (rebuilt_block state l g.block) ≡ c → rebuilt_block (rebuilt_unless c s g l state) d b ≡ rebuilt_block state d b
    by true was = refl
    by false was = at_two (cases_eq d l) (cases_eq b g.block) where
      blocks : List (Option (List ℕ))
      blocks = put None (at [] state.rebuilt l) g.block (Some (decoded_of s g l))

      at_two : (d ≡ l) ⊎ (d ≢ l) → (b ≡ g.block) ⊎ (b ≢ g.block) → at None (at [] (put [] state.rebuilt l blocks) d) b ≡ at None (at [] state.rebuilt d) b
      at_two (inr other) _ = ap (λ (bs : List (Option (List ℕ))). at None bs b) (at-put-other [] state.rebuilt l d blocks other)
      at_two (inl here) (inr other) =
          ap (λ (j : ℕ). at None (at [] (put [] state.rebuilt l blocks) j) b) here
          ∙ ap (λ (bs : List (Option (List ℕ))). at None bs b) (at-put [] [] state.rebuilt l blocks)
          ∙ at-put-other None (at [] state.rebuilt l) g.block b (Some (decoded_of s g l)) other
          ∙ ap (λ (j : ℕ). at None (at [] state.rebuilt j) b) (sym here)
      at_two (inl here) (inl same) = absurd (cc (there, was, ap₂ (λ (x y : ℕ). is_some (rebuilt_block state x y)) here same))

  pub stays-decoded : (g : Gathering) (ls : List ℕ) (state : LeaderState) → StaysRebuilt state (with_decoded s g ls state)
  stays-decoded g [] state d b there = refl
  stays-decoded g (l ∷ ls) state d b there =
      let one = stays-unless l g state d b there in
      stays-decoded g ls (rebuilt_unless (is_some (rebuilt_block state l g.block)) s g l state) d b (ap is_some one ∙ there) ∙ one

  stays-gathered : (complete : Bool) (g : Gathering) (state : LeaderState) → StaysRebuilt state (gathered_when complete s g state)
  stays-gathered true g state d b there = stays-decoded g g.lost _ d b there
  stays-gathered false g state d b there = refl

  pub stays-row : (i : ℕ) (bytes : List ℕ) (o : Option Gathering) (state : LeaderState) → StaysRebuilt state (row_gathered s i bytes o state)
  stays-row i bytes None state d b there = refl
  stays-row i bytes (Some g) state d b there =
      stays-gathered (is_complete s (record g { rows_in = put None g.rows_in i (Some bytes) }))
      (record g { rows_in = put None g.rows_in i (Some bytes) }) state d b there

  pub stays-block : (e : ℕ) (bytes : List ℕ) (o : Option Gathering) (state : LeaderState) → StaysRebuilt state (block_gathered s e bytes o state)
  stays-block e bytes None state d b there = refl
  stays-block e bytes (Some g) state d b there =
      stays-gathered (is_complete s (record g { blocks_in = put None g.blocks_in e (Some bytes) }))
      (record g { blocks_in = put None g.blocks_in e (Some bytes) }) state d b there

  pub holding-leader : (settled : ℕ → List Update) (old : ℕ → ℕ → Bool) (p : Process) (l : LeaderState)
      → StaysRebuilt p.as_leader l → Holding s settled old p → Holding s settled old (with_leader l p)
  holding-leader settled old p l stays holding = record {
    within = holding.within;
    space = holding.space;
    copies = copies-same s settled p (with_leader l p) (record { name = refl; applied = λ d. refl }) p.as_row.copies holding.copies;
    rebuilt = λ d b bytes below is_old is. holding.rebuilt d b bytes below is_old (sym (stays d b (holding.there d b below is_old)) ∙ is);
    there = λ d b below is_old. ap is_some (stays d b (holding.there d b below is_old)) ∙ holding.there d b below is_old;
  }

  -- a copy that was marked is kept, or goes to the leader
  module _ (settled : ℕ → List Update) (old : ℕ → ℕ → Bool) where
    finished-holds : (own : Bool) (c : Copy) (p : Process) → Holding s settled old p → Holding s settled old (row_finished own s c p).process
    finished-holds true c p holding =
        holding-leader settled old p (row_gathered s c.leader c.bytes (open_session p.as_leader c.number) p.as_leader)
        (stays-row c.leader c.bytes (open_session p.as_leader c.number) p.as_leader) holding
    finished-holds false c p holding = holding

    pub kept-holds : (whole : Bool) (c : Copy) (p : Process) → CopyHolds s settled p c → Holding s settled old p
        → Holding s settled old (copy_kept whole s c p).process
    kept-holds true c p holds holding =
        finished-holds (same_process p.name (ParityNode c.leader)) c (with_copies (without_copy c.leader c.number p.as_row.copies) p)
        (holding-copies s settled old p (without_copy c.leader c.number p.as_row.copies)
        (each-filter (CopyHolds s settled p) (λ x. not (is_copy c.leader c.number x)) p.as_row.copies holding.copies)
        holding)
    kept-holds false c p holds holding = holding-copies s settled old p (with_copy c p.as_row.copies)
        (each-map (CopyHolds s settled p) (λ x. if is_copy c.leader c.number x then c else x) p.as_row.copies
        (each-weaker (CopyHolds s settled p) (λ x. CopyHolds s settled p (if is_copy c.leader c.number x then c else x))
        (λ x other. by x other (is_copy c.leader c.number x)) p.as_row.copies holding.copies)) holding
      where
        by : (x : Copy) → CopyHolds s settled p x → (b : Bool) → CopyHolds s settled p (if b then c else x)
        by x other true = holds
        by x other false = other

    -- a partition is marked in a session's copy
    pub mark-holds : (p : Process) (leader number d n : ℕ) → Inside s p.name → d < s.k → (replica_of p d).applied ≡ n
        → IfSome (copy_in p.as_row.copies leader number) (λ c. at None c.marks d ≡ None)
        → Holding s settled old p → Holding s settled old (copy_marked s d n (copy_in p.as_row.copies leader number) p).process
    mark-holds p leader number d n inside below stands free holding = by (copy_in p.as_row.copies leader number) refl where
      by : (o : Option Copy) → copy_in p.as_row.copies leader number ≡ o → Holding s settled old (copy_marked s d n o p).process
      by None is = holding
      by (Some c) is =
          let found = found-each (is_copy leader number) (CopyHolds s settled p) p.as_row.copies c is holding.copies in
          kept-holds (is_marked s (marked d n c)) (marked d n c) p
          (marked-holds s settled p c d n inside below stands (holding.within d below)
          (if-some (λ (x : Copy). at None x.marks d ≡ None) (copy_in p.as_row.copies leader number) c is free)
          found.1) holding
