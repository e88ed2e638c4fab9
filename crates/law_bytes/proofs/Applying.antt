-- A process that applies settled updates holds their bytes.
use Rattle.std.proofs.Common.{◌≡◌, ◌≢◌, ℕ, zero, suc, ◌+◌, ◌-◌, ◌<◌, ◌≤◌, ◌*◌, Bool, true, false, List, [], ◌∷◌, ◌++◌}
use Rattle.std.proofs.Common.{length, take, drop, get_or, bit_xor, is_some, Option, Some, None, ◌⊎◌, inl, inr, sym, ap}
use Rattle.std.proofs.Common.{subst, ◌∙◌, refl, arith, if◌then◌else◌, take-add, option_map}
use Rattle.std.specs.Prelude.{unwrap_or}
use Rattle.std.proofs.lemmas.Bool.{cases_eq, cases_lt}
use Rattle.std.proofs.lemmas.List.{length-take, length-take-le, length-drop, drop-drop, drop-take, take_all}
use Rattle.group_types.specs.Dimensions.{Dimensions, space_of}
use Rattle.group_types.specs.Lists.{at}
use Rattle.group_types.specs.declared.process.ProcessId.TheVariants.{DataNode}
use Rattle.group_types.proofs.Lists.{at-put, at-put-other}
use Rattle.group_types.specs.Each.{Each}
use Rattle.group_types.proofs.Eaches.{each-take, each-weaker, each-map}
use Rattle.group_message.specs.declared.update.Update.{Update}
use Rattle.group_run.specs.Applying.{apply_to, block_after, copy_after, rebuilt_after, replica_of, space_after}
use Rattle.group_run.specs.Leaders.{rebuilt_block}
use Rattle.group_run.specs.Process.{Copy, Process}
use Rattle.group_run.specs.Replica.{Replica, applied_to, empty_replica, up_to}
use Rattle.law_moves.proofs.Notices.{some-mapped}
use Rattle.law_bytes.specs.Areas.{IsArea, IsBlock, WritesBytes, block_size, held, value, SettledWrite}
use Rattle.law_bytes.specs.Held.{CopyHolds, Holds, marked_at, marked_stand, stand}
use Rattle.law_bytes.proofs.Premises.{GoesOn, RebuildsRight}
use Rattle.law_bytes.proofs.Values.{Concerns, Grows, IsAdded, area-grown, area-same, block-added, held-grows, held-same, inside-concerned, share, space-added}

-- a process holds its bytes, but for blocks that were rebuilt since
pub record Holding (s : Dimensions) (settled : ℕ → List Update) (old : ℕ → ℕ → Bool) (p : Process) : Type 0 where
  pub within : (d : ℕ) → d < s.k → (replica_of p d).applied ≤ length (settled d)
  pub space : IsArea 0 (space_of s) (held s p.name (stand settled p)) p.space
  pub copies : Each (CopyHolds s settled p) p.as_row.copies
  pub rebuilt : (d b : ℕ) (bytes : List ℕ) → d < s.k → old d b ≡ true → rebuilt_block p.as_leader d b ≡ Some bytes
      → IsBlock s b (value (stand settled p d)) bytes
  pub there : (d b : ℕ) → d < s.k → old d b ≡ true → is_some (rebuilt_block p.as_leader d b) ≡ true

-- the blocks that a process has rebuilt
abbrev pub rebuilt_at : Process → ℕ → ℕ → Bool
rebuilt_at p d b = is_some (rebuilt_block p.as_leader d b)

pub holding-from : (s : Dimensions) (settled : ℕ → List Update) (p : Process) → Holds s settled p → Holding s settled (rebuilt_at p) p
holding-from s settled p holds =
    record {
      within = holds.within;
      space = holds.space;
      copies = holds.copies;
      rebuilt = λ d b bytes below old is.
          holds.rebuilt d b bytes below is;
      there = λ d b below old. old;
    }

pub holds-from : (s : Dimensions) (settled : ℕ → List Update) (p q : Process) → Holding s settled (rebuilt_at p) q
    → RebuildsRight s settled p q → Holds s settled q
holds-from s settled p q holding right = record {
  within = holding.within;
  space = holding.space;
  copies = holding.copies;
  rebuilt = λ d b bytes below is. by d b bytes below is (rebuilt_block p.as_leader d b) refl;
} where
  by : (d b : ℕ) (bytes : List ℕ) → d < s.k → rebuilt_block q.as_leader d b ≡ Some bytes → (o : Option (List ℕ))
      → rebuilt_block p.as_leader d b ≡ o → IsBlock s b (value (stand settled q d)) bytes
  by d b bytes below is None was = right d b bytes below was is
  by d b bytes below is (Some before) was = holding.rebuilt d b bytes below (ap is_some was) is

pub each-behind : {X : Type 0} (P : X → Type 0) (xs ys : List X) → Each P (xs ++ ys) → Each P ys
each-behind P [] ys all = all
each-behind P (x ∷ xs) ys all = each-behind P xs ys all.1

pub added-same : (f g : ℕ → ℕ) (before after : List ℕ) → ((x : ℕ) → f x ≡ g x) → IsAdded f before after → IsAdded g before after
added-same f g before after same added = record { long = added.long; bytes = λ x below. added.bytes x below ∙ ap (bit_xor (get_or before x 0)) (same x) }

take-length : {X : Type 0} (n : ℕ) (xs : List X) → take (length (take n xs)) xs ≡ take n xs
take-length n xs = by (cases_lt (length xs) n) where
  by : (length xs < n) ⊎ (n ≤ length xs) → take (length (take n xs)) xs ≡ take n xs
  by (inl over) = ap (λ (k : ℕ). take k xs) (omega (arith, length-take n xs, over))
      ∙ take_all (length xs) xs (omega arith) ∙ sym (take_all n xs (omega (arith, over)))
  by (inr within) = ap (λ (k : ℕ). take k xs) (length-take-le n xs within)

-- what is applied on the way to a number is what is settled
pub applied-settled : (settled : List Update) (r : Replica) (n : ℕ) → GoesOn settled r → r.applied + length (up_to n r) ≤ length settled
    → take (r.applied + length (up_to n r)) settled ≡ take r.applied settled ++ up_to n r
applied-settled settled r n goes within =
    take-add r.applied (length (up_to n r)) settled
    ∙ ap (λ (us : List Update). take r.applied settled ++ us)
    (sym (goes (length (up_to n r)) (omega (arith, length-take (n - r.applied) r.log)) within)
    ∙ take-length (n - r.applied) r.log)

-- and the log goes on so
pub goes-applied : (settled : List Update) (r : Replica) (n : ℕ) → GoesOn settled r → GoesOn settled (applied_to n r)
goes-applied settled r n goes m short within = by (cases_lt (length r.log) (n - r.applied)) where
  count : ℕ
  count = length (up_to n r)

  both : count + m ≤ length r.log → take m (drop count r.log) ≡ take m (drop (r.applied + count) settled)
  both fits =
      sym (drop-take count m r.log) ∙ ap (drop count) (goes (count + m) fits (omega (arith, within)))
      ∙ drop-take count m (drop r.applied settled) ∙ ap (take m) (drop-drop count r.applied settled)

  by : (length r.log < n - r.applied) ⊎ (n - r.applied ≤ length r.log) → take m (drop (n - r.applied) r.log)
      ≡ take m (drop (r.applied + length (up_to n r)) settled)
  by (inl over) =
      let none : m ≡ 0 = omega (arith, short, length-drop (n - r.applied) r.log, over) in
      ap (λ (k : ℕ). take k (drop (n - r.applied) r.log)) none ∙ sym (ap (λ (k : ℕ). take k (drop (r.applied + length (up_to n r)) settled)) none)
  by (inr fits) =
      let is : count ≡ n - r.applied = length-take-le (n - r.applied) r.log fits in
      ap (λ (k : ℕ). take m (drop k r.log)) (sym is) ∙ both (omega (arith, is, short, length-drop (n - r.applied) r.log))

-- a rebuilt block after updates
pub at-rebuilt : (s : Dimensions) (d : ℕ) (us : List Update) (a : ℕ) (blocks : List (Option (List ℕ))) (b : ℕ)
    → at None (rebuilt_after s d us a blocks) b ≡ option_map (block_after s (DataNode d) d (a + b) us) (at None blocks b)
at-rebuilt s d us a [] b = refl
at-rebuilt s d us a (block ∷ blocks) zero = let same : a ≡ a + 0 = omega arith in ap (λ (c : ℕ). option_map (block_after s (DataNode d) d c us) block) same
at-rebuilt s d us a (block ∷ blocks) (suc b) =
    at-rebuilt s d us (suc a) blocks b
    ∙ (let same : suc a + b ≡ a + suc b = omega arith in ap (λ (c : ℕ). option_map (block_after s (DataNode d) d c us) (at None blocks b)) same)

module _ (s : Dimensions) (settled : ℕ → List Update) (write : SettledWrite s settled) (old : ℕ → ℕ → Bool)
    (p : Process) (d n : ℕ) (concerns : Concerns s p.name d) (below : d < s.k) where
  news : List Update
  news = up_to n (replica_of p d)

  q : Process
  q = apply_to s d n p

  pub replica-here : replica_of (apply_to s d n p) d ≡ applied_to n (replica_of p d)
  unfolding q
  replica-here = at-put empty_replica empty_replica p.replicas d (applied_to n (replica_of p d))

  pub replica-other : (e : ℕ) → e ≢ d → replica_of (apply_to s d n p) e ≡ replica_of p e
  unfolding q
  replica-other e other = at-put-other empty_replica p.replicas d e (applied_to n (replica_of p d)) other

  pub applied-here : (replica_of (apply_to s d n p) d).applied ≡ (replica_of p d).applied + length (up_to n (replica_of p d))
  unfolding q
  applied-here = ap (λ (r : Replica). r.applied) replica-here

  pub applied-other : (e : ℕ) → e ≢ d → (replica_of (apply_to s d n p) e).applied ≡ (replica_of p e).applied
  unfolding q
  applied-other e other = ap (λ (r : Replica). r.applied) (replica-other e other)

  pub applied-rises : (e : ℕ) → (replica_of p e).applied ≤ (replica_of (apply_to s d n p) e).applied
  applied-rises e = by (cases_eq e d) where
    by : (e ≡ d) ⊎ (e ≢ d) → (replica_of p e).applied ≤ (replica_of (apply_to s d n p) e).applied
    by (inr other) = let same = applied-other e other in omega (arith, same)
    by (inl same) = subst (λ (j : ℕ). (replica_of p j).applied ≤ (replica_of (apply_to s d n p) j).applied) (sym same)
        (let here = applied-here in omega (arith, here))

  -- the updates that are applied are the next settled ones
  abbrev pub Next : Type 0
  Next = take ((replica_of p d).applied + length (up_to n (replica_of p d))) (settled d) ≡ take (replica_of p d).applied (settled d) ++ up_to n (replica_of p d)

  module _ (next : take ((replica_of p d).applied + length (up_to n (replica_of p d))) (settled d)
      ≡ take (replica_of p d).applied (settled d) ++ up_to n (replica_of p d)) where
    new_write : Each (WritesBytes s) news
    unfolding news
    new_write = each-behind (WritesBytes s) (take (replica_of p d).applied (settled d)) (up_to n (replica_of p d))
        (subst (λ (us : List Update). Each (WritesBytes s) us) next
        (each-take (WritesBytes s) ((replica_of p d).applied + length (up_to n (replica_of p d))) (settled d)
        (write d below)))

    grows : Grows s d news (stand settled p) (stand settled q)
    unfolding news q
    grows = record {
      here = ap (λ (k : ℕ). take k (settled d)) applied-here ∙ next;
      others = λ e low other. ap (λ (k : ℕ). take k (settled e)) (applied-other e other);
      before = λ e low. each-take (WritesBytes s) (replica_of p e).applied (settled e) (write e low);
      new = new_write;
    }

    space_holds : IsArea 0 (space_of s) (held s p.name (stand settled p)) p.space
        → IsArea 0 (space_of s) (held s p.name (stand settled q))
        (space_after s p.name d (up_to n (replica_of p d)) p.space)
    unfolding news q
    space_holds area =
        area-grown 0 (space_of s) (held s p.name (stand settled p)) (λ x. share s p.name d (value news x)) (held s p.name (stand settled q)) p.space
        (space_after s p.name d news p.space) area
        (added-same (λ x. share s p.name d (value news x)) (λ x. share s p.name d (value news (0 + x))) p.space (space_after s p.name d news p.space)
        (λ x. let same : x ≡ 0 + x = omega arith in ap (λ (y : ℕ). share s p.name d (value news y)) same)
        (space-added s p.name d news p.space area.long new_write))
        (λ x. held-grows s p.name d news (stand settled p) (stand settled q) x concerns grows)

    marked-same : (o : Option ℕ) (a b : ℕ) → is_some o ≡ true → unwrap_or o b ≡ unwrap_or o a
    marked-same (Some k) a b some = refl
    marked-same None a b some = absurd (cc some)

    unmarked : (o : Option ℕ) (a : ℕ) → is_some o ≡ false → unwrap_or o a ≡ a
    unmarked None a none = refl
    unmarked (Some k) a none = absurd (cc none)

    copy_holds : (c : Copy) → CopyHolds s settled p c → CopyHolds s settled q (copy_after s p.name d (up_to n (replica_of p d)) c)
    unfolding news q
    copy_holds c holds = by (is_some (at None c.marks d)) refl where
      other_mark : (e : ℕ) → e ≢ d → marked_stand settled c.marks q e ≡ marked_stand settled c.marks p e
      other_mark e other = ap (λ (k : ℕ). take (unwrap_or (at None c.marks e) k) (settled e)) (applied-other e other)

      by : (b : Bool) → is_some (at None c.marks d) ≡ b
          → CopyHolds s settled q (if b then c else record c { bytes = block_after s p.name d c.block news c.bytes })
      by true is = record {
        bytes = area-same (c.block * s.block) (block_size s c.block) (held s p.name (marked_stand settled c.marks p))
            (held s p.name (marked_stand settled c.marks q)) c.bytes holds.bytes
            (λ x. held-same s p.name (marked_stand settled c.marks p) (marked_stand settled c.marks q) x
            (inside-concerned s p.name d concerns) (λ e low. same e (cases_eq e d)));
        marks = holds.marks;
      } where
        same : (e : ℕ) → (e ≡ d) ⊎ (e ≢ d) → marked_stand settled c.marks q e ≡ marked_stand settled c.marks p e
        same e (inr other) = other_mark e other
        same e (inl here) =
            ap (λ (k : ℕ). take k (settled e))
            (marked-same (at None c.marks e) (replica_of p e).applied (replica_of q e).applied (ap (λ (j : ℕ). is_some (at None c.marks j)) here ∙ is))
      by false is = record {
        bytes =
            area-grown (c.block * s.block) (block_size s c.block) (held s p.name (marked_stand settled c.marks p)) (λ x. share s p.name d (value news x))
            (held s p.name (marked_stand settled c.marks q))
            c.bytes (block_after s p.name d c.block news c.bytes) holds.bytes (block-added s p.name d c.block news c.bytes new_write)
            (λ x. held-grows s p.name d news (marked_stand settled c.marks p) (marked_stand settled c.marks q) x concerns copy_grows);
        marks = holds.marks;
      } where
        copy_grows : Grows s d news (marked_stand settled c.marks p) (marked_stand settled c.marks q)
        copy_grows = record {
          here =
              ap (λ (k : ℕ). take k (settled d)) (unmarked (at None c.marks d) (replica_of q d).applied is) ∙ grows.here
              ∙ ap (λ (k : ℕ). take k (settled d) ++ news) (sym (unmarked (at None c.marks d) (replica_of p d).applied is));
          others = λ e low other. other_mark e other;
          before = λ e low. each-take (WritesBytes s) (marked_at c.marks p e) (settled e) (write e low);
          new = new_write;
        }

    rebuilt-here : (b : ℕ) → rebuilt_block q.as_leader d b ≡ option_map (block_after s (DataNode d) d b news) (rebuilt_block p.as_leader d b)
    unfolding news q
    rebuilt-here b =
        ap (λ (blocks : List (Option (List ℕ))). at None blocks b) (at-put [] [] p.as_leader.rebuilt d (rebuilt_after s d news 0 (at [] p.as_leader.rebuilt d)))
        ∙ at-rebuilt s d news 0 (at [] p.as_leader.rebuilt d) b
        ∙ (let same : 0 + b ≡ b = omega arith in ap (λ (c : ℕ). option_map (block_after s (DataNode d) d c news) (rebuilt_block p.as_leader d b)) same)

    rebuilt-other : (e b : ℕ) → e ≢ d → rebuilt_block q.as_leader e b ≡ rebuilt_block p.as_leader e b
    unfolding news q
    rebuilt-other e b other = ap (λ (blocks : List (Option (List ℕ))). at None blocks b)
        (at-put-other [] p.as_leader.rebuilt d e (rebuilt_after s d news 0 (at [] p.as_leader.rebuilt d)) other)

    block_holds : (b : ℕ) (bytes : List ℕ) (o : Option (List ℕ)) → option_map (block_after s (DataNode d) d b news) o ≡ Some bytes
        → ((before : List ℕ) → o ≡ Some before → IsBlock s b (value (stand settled p d)) before) → IsBlock s b (value (stand settled q d)) bytes
    block_holds b bytes None is holds = absurd (cc is)
    block_holds b bytes (Some before) is holds =
        subst (IsBlock s b (value (stand settled q d))) (same_bytes is)
        (area-grown (b * s.block) (block_size s b) (value (stand settled p d)) (λ x. value news x)
        (value (stand settled q d)) before (block_after s (DataNode d) d b news before) (holds before refl)
        (block-added s (DataNode d) d b news before new_write)
        (λ x. held-grows s (DataNode d) d news (stand settled p) (stand settled q) x (refl, below) grows))
      where
        same_bytes : {x y : List ℕ} → Some x ≡ Some y → x ≡ y
        same_bytes e = cc e

    pub applied-holds : (replica_of (apply_to s d n p) d).applied ≤ length (settled d) → Holding s settled old p → Holding s settled old (apply_to s d n p)
    unfolding news q
    applied-holds within holding = record {
      within = λ e low. within_by e low (cases_eq e d);
      space = space_holds holding.space;
      copies =
          each-map (CopyHolds s settled q) (copy_after s p.name d news) p.as_row.copies
          (each-weaker (CopyHolds s settled p) (λ c. CopyHolds s settled q (copy_after s p.name d news c)) copy_holds p.as_row.copies holding.copies);
      rebuilt = λ e b bytes low is_old is. rebuilt_by e b bytes low is_old is (cases_eq e d);
      there = λ e b low is_old. there_by e b low is_old (cases_eq e d);
    } where
      within_by : (e : ℕ) → e < s.k → (e ≡ d) ⊎ (e ≢ d) → (replica_of q e).applied ≤ length (settled e)
      within_by e low (inl here) = subst (λ (j : ℕ). (replica_of q j).applied ≤ length (settled j)) (sym here) within
      within_by e low (inr other) = subst (λ (k : ℕ). k ≤ length (settled e)) (sym (applied-other e other)) (holding.within e low)

      rebuilt_by : (e b : ℕ) (bytes : List ℕ) → e < s.k → old e b ≡ true → rebuilt_block q.as_leader e b ≡ Some bytes
          → (e ≡ d) ⊎ (e ≢ d) → IsBlock s b (value (stand settled q e)) bytes
      rebuilt_by e b bytes low is_old is (inr other) =
          subst (λ (k : ℕ). IsBlock s b (value (take k (settled e))) bytes) (sym (applied-other e other))
          (holding.rebuilt e b bytes low is_old (sym (rebuilt-other e b other) ∙ is))
      rebuilt_by e b bytes low is_old is (inl here) =
          subst (λ (j : ℕ). IsBlock s b (value (stand settled q j)) bytes) (sym here)
          (block_holds b bytes (rebuilt_block p.as_leader d b) (sym (rebuilt-here b) ∙ ap (λ (j : ℕ). rebuilt_block q.as_leader j b) (sym here) ∙ is)
          (λ before was. holding.rebuilt d b before below (ap (λ (j : ℕ). old j b) (sym here) ∙ is_old) was))

      there_by : (e b : ℕ) → e < s.k → old e b ≡ true → (e ≡ d) ⊎ (e ≢ d) → is_some (rebuilt_block q.as_leader e b) ≡ true
      there_by e b low is_old (inr other) = ap is_some (rebuilt-other e b other) ∙ holding.there e b low is_old
      there_by e b low is_old (inl here) =
          ap (λ (j : ℕ). is_some (rebuilt_block q.as_leader j b)) here ∙ ap is_some (rebuilt-here b)
          ∙ some-mapped (block_after s (DataNode d) d b news) (rebuilt_block p.as_leader d b)
          ∙ holding.there d b below (ap (λ (j : ℕ). old j b) (sym here) ∙ is_old)
