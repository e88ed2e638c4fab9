use Rattle.std.proofs.Common.{ℕ, true, ◌≡◌, ◌+◌, ◌<◌, ◌||◌, ◌∷◌, ◌++◌, [], List, None, Some, length, ap, sym, subst, ◌∙◌, arith}
use Rattle.std.proofs.lemmas.Grind.{common_steps}
use Rattle.std.proofs.lemmas.List.{append_assoc}
use Rattle.std.specs.List.{slice_get}
use Rattle.group_types.specs.Dimensions.{Dimensions}
use Rattle.group_types.specs.Lists.{same_key}
use Rattle.group_message.specs.declared.update.Update.{Update}
use Rattle.group_run.specs.Applying.{Settlement, bytes_after}
use Rattle.group_run.specs.Heading.{settlements}
use Rattle.group_run.specs.Process.{Process}
use Rattle.group_run.specs.Replica.{Replica, applied_to, up_to}
use Rattle.partition_replica.specs.State.{is_needed, is_touched}
use Rattle.head_service.specs.Settling.{HasSettled}
use Rattle.head_service.proofs.Seat.{stands-as}
use Rattle.head_service.proofs.Settling.{all-behind, applied-none, blocks-kept, bytes-next, next-applied, next-log}
use Rattle.head_service.proofs.Settling.{next-up, nothing-left, one, owed-next, touched-behind, touched-front, up-empty}
use Rattle.head_service.proofs.Settling.{up-reached}
use Rattle.head_service.proofs.settle.settle_to.Given as given
use Rattle.head_service.proofs.settle.settle_to.Goals as goal

module _ (g : given.Over) (c : goal.In-Ok g) where
  abbrev s : Dimensions
  s = (g.B.Beneath.storage c.args.below.now).shape

  abbrev d : ℕ
  d = c.args.partition.0

  abbrev n : ℕ
  n = c.args.number

  abbrev r : Replica
  r = c.updates.replica.replica

  abbrev u : Update
  u = c.in-Some.update

  first : slice_get r.log 0 ≡ Some u
  first = sym c.settle_next.ensures.handed ∙ c.in-Some.is

  low : r.applied < n
  low = grind (arith, common_steps)

  abbrev next : Replica
  next = one n r u first low

  replica-is : c.settle_next.new.self.replica ≡ next
  replica-is = c.settle_next.ensures.replica

  up-is : up_to n r ≡ u ∷ up_to n c.settle_next.new.self.replica
  up-is = next-up n r u first low ∙ ap (λ (x : Replica). u ∷ up_to n x) (sym replica-is)

  process-is : (g.B.Beneath.storage c.add.new.self).process ≡ bytes_after s d (u ∷ []) (g.B.Beneath.storage c.updates.below).process
  process-is = c.add.ensures.process
      ∙ ap (λ (x : Dimensions). bytes_after x d (u ∷ []) (g.B.Beneath.storage c.updates.below).process)
      c.updates.invariant.stays.shape

  pub bytes-are : bytes_after s d (up_to n c.settle_next.new.self.replica) (g.B.Beneath.storage c.add.new.self).process
      ≡ bytes_after s d (up_to n r) (g.B.Beneath.storage c.updates.below).process
  bytes-are = ap (bytes_after s d (up_to n c.settle_next.new.self.replica)) process-is
      ∙ bytes-next s d u (up_to n c.settle_next.new.self.replica) (g.B.Beneath.storage c.updates.below).process
      ∙ ap (λ (us : List Update). bytes_after s d us (g.B.Beneath.storage c.updates.below).process) (sym up-is)

  blocks-are : d < length (g.B.Beneath.storage c.add.new.self).process.as_leader.rebuilt
  blocks-are = subst (λ (p : Process). d < length p.as_leader.rebuilt) (sym process-is)
      (omega (
        arith,
        blocks-kept s d (u ∷ []) (g.B.Beneath.storage c.updates.below).process
            c.updates.invariant.stands.blocks,
        c.updates.invariant.stands.blocks,
      ))

  settled-are : c.push.new.self.items ++ settlements d (up_to n c.settle_next.new.self.replica) ≡ c.updates.settled.items ++ settlements d (up_to n r)
  settled-are = ap (λ (xs : List Settlement). xs ++ settlements d (up_to n c.settle_next.new.self.replica)) c.in-Ok.ensures.items
      ∙ append_assoc c.updates.settled.items (record { partition = d; update = u } ∷ []) (settlements d (up_to n c.settle_next.new.self.replica))
      ∙ ap (λ (us : List Update). c.updates.settled.items ++ settlements d us) (sym up-is)

  within-is : (q : List ℕ) → is_touched (up_to n r) q ≡ true → is_touched (up_to n c.args.replica.now.replica) q ≡ true
  within-is = c.updates.invariant.within

pub updates-preserved : goal.updates-preserved
updates-preserved g c = record {
  stands = record {
    partition = subst (λ (x : Dimensions). c.args.partition.0 < x.k) (sym c.add.ensures.stays.shape) c.updates.invariant.stands.partition;
    shape = c.add.ensures.stays.shape ∙ c.updates.invariant.stands.shape ∙ sym c.settle_next.ensures.shape;
    blocks = blocks-are g c;
    ready = λ k v lt. c.add.ensures.stays.kept c.args.partition.0 _
        (all-behind ((g.B.Beneath.storage c.updates.below).is_ready c.args.partition.0) (u g c) c.settle_next.new.self.replica.log (r g c).log
        (next-log (n g c) (r g c) (u g c) (first g c) (low g c) ∙ ap (λ (x : Replica). u g c ∷ x.log)
        (sym (replica-is g c))) c.updates.invariant.stands.ready k v lt);
  };
  stays = record {
    shape = c.add.ensures.stays.shape ∙ c.updates.invariant.stays.shape;
    pages = c.add.ensures.stays.pages ∙ c.updates.invariant.stays.pages;
    kept = λ e v is. c.add.ensures.stays.kept e v (c.updates.invariant.stays.kept e v is);
  };
  replica = ap (applied_to c.args.number) (replica-is g c) ∙ next-applied (n g c) (r g c) (u g c) (first g c) (low g c) ∙ c.updates.invariant.replica;
  bytes = bytes-are g c ∙ c.updates.invariant.bytes;
  settled = settled-are g c ∙ c.updates.invariant.settled;
  room = c.settle_next.ensures.room ∙ c.updates.invariant.room;
  capacity = omega (arith, c.updates.invariant.capacity, c.in-Ok.ensures.capacity);
  fits = omega (arith, c.updates.invariant.fits, ap length (up-is g c), c.in-Ok.ensures.len, c.in-Ok.ensures.capacity);
  within = λ q is. within-is g c q (ap (λ (us : List Update). is_touched us q) (up-is g c)
      ∙ touched-behind (u g c) (up_to c.args.number c.settle_next.new.self.replica) q is);
  owed = λ owed tidy q is. owed-next (is_needed c.settle_next.new.self.replica.items c.settle_next.new.self.replica.log q) (owed q)
      (is_touched (up_to c.args.number c.args.replica.now.replica) q) (same_key (u g c).key q)
      (λ same. within-is g c q (ap (λ (us : List Update). is_touched us q) (up-is g c)
      ∙ touched-front (u g c) (up_to c.args.number c.settle_next.new.self.replica) q same))
      (c.in-Some.ensures.owed (λ p. owed p || is_touched (up_to c.args.number c.args.replica.now.replica) p) (c.updates.invariant.owed owed tidy) q is);
}

pub returns-after-updates-clause-settled : goal.returns-after-updates-clause-settled
returns-after-updates-clause-settled g c = nothing-left c.args.partition.0 c.args.number c.updates.replica.replica c.args.replica.now.replica
    (g.B.Beneath.storage c.args.below.now) (g.B.Beneath.storage c.updates.below) c.args.settled.now.items c.updates.settled.items
    (up-reached c.args.number c.updates.replica.replica (grind (arith, common_steps))) c.updates.invariant.stands.blocks
    c.updates.invariant.replica c.updates.invariant.bytes c.updates.invariant.settled

-- no update is left
module _ (g : given.Over) (c : goal.In_default g) where
  none : slice_get c.updates.replica.replica.log 0 ≡ None
  none = sym c.settle_next.ensures.handed ∙ c.in_default.is

  pub same : c.settle_next.new.self.replica ≡ c.updates.replica.replica
  same = c.settle_next.ensures.replica ∙ applied-none (c.updates.replica.replica.applied + 1) c.updates.replica.replica
      (up-empty (c.updates.replica.replica.applied + 1) c.updates.replica.replica none)

pub returns-in_default-clause-settled : goal.returns-in_default-clause-settled
returns-in_default-clause-settled g c =
    subst (λ (x : Replica). HasSettled c.args.partition.0 c.args.number c.args.replica.now.replica x
    (g.B.Beneath.storage c.args.below.now) (g.B.Beneath.storage c.updates.below) c.args.settled.now.items c.updates.settled.items) (sym (same g c))
    (nothing-left c.args.partition.0 c.args.number c.updates.replica.replica c.args.replica.now.replica
    (g.B.Beneath.storage c.args.below.now) (g.B.Beneath.storage c.updates.below) c.args.settled.now.items c.updates.settled.items
    (up-empty c.args.number c.updates.replica.replica (none g c)) c.updates.invariant.stands.blocks
    c.updates.invariant.replica c.updates.invariant.bytes c.updates.invariant.settled)

pub returns-in_default-clause-stands : goal.returns-in_default-clause-stands
returns-in_default-clause-stands g c = stands-as c.updates.invariant.stands c.settle_next.ensures.shape (same g c)
