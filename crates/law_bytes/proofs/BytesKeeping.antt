-- Every move keeps the bytes right.
use Rattle.std.proofs.Common.{◌≡◌, ◌≢◌, ℕ, zero, suc, ◌+◌, ◌<◌, ◌≤◌, ◌*◌, ◌==◌, Bool, false, List, [], ◌++◌, length}
use Rattle.std.proofs.Common.{take, replicate, Option, Some, None, ◌⊎◌, inl, inr, sym, ap, subst, ◌∙◌, refl, arith}
use Rattle.std.proofs.Common.{if◌then◌else◌}
use Rattle.std.proofs.lemmas.Bool.{cases_eq}
use Rattle.std.proofs.lemmas.Grind.{common_steps}
use Rattle.std.proofs.lemmas.List.{length-append, length-replicate, take-append-le}
use Rattle.std.specs.Prelude.{unwrap_or}
use Rattle.field_byte.specs.Field.{product}
use Rattle.field_byte.proofs.FieldSums.{sum_of_zeros}
use Rattle.field_byte.proofs.Products.{product_zero_r}
use Rattle.erasure_code.specs.Code.{coefficient}
use Rattle.erasure_code.proofs.Lists.{get_or-zeros}
use Rattle.group_types.specs.Dimensions.{Dimensions, space_of}
use Rattle.group_types.specs.Lists.{at}
use Rattle.group_types.specs.Names.{IsProcess}
use Rattle.group_types.specs.declared.process.ProcessId.{ProcessId}
use Rattle.group_types.specs.declared.process.ProcessId.TheVariants.{DataNode, ParityNode}
use Rattle.group_types.proofs.Lists.{at-replicate}
use Rattle.group_types.proofs.Names.{same-cases}
use Rattle.group_types.specs.Each.{Each}
use Rattle.group_types.proofs.Eaches.{each-weaker}
use Rattle.group_message.specs.declared.message.Message.{Message}
use Rattle.group_message.specs.declared.message.Message.TheVariants as tells
use Rattle.group_message.specs.declared.update.Update.{Update}
use Rattle.group_run.specs.Applying.{ProcessStep, head_at, replica_of}
use Rattle.group_run.specs.Leaders.{rebuilt_block}
use Rattle.group_run.specs.Process.{Copy, Head, Process, opening_process}
use Rattle.group_run.specs.Receiving.{receive}
use Rattle.group_run.specs.Replica.{Replica, empty_replica}
use Rattle.group_run.specs.World.{new_ones, settled_in}
use Rattle.law_moves.proofs.Moves.{Acted}
use Rattle.law_moves.specs.State.{State}
use Rattle.law_moves.proofs.Members.{IsParity, MayStand, Members, Sits}
use Rattle.law_moves.proofs.Calls.{seat-head}
use Rattle.law_bytes.specs.Areas.{IsBlock, held, value}
use Rattle.law_bytes.specs.Held.{CopyHolds, Holds, marked_at, marked_stand, stand}
use Rattle.law_bytes.proofs.Held.{HoldsBytes}
use Rattle.law_bytes.proofs.Law.{BytesAlwaysKept}
use Rattle.law_bytes.proofs.Premises.{AppliesSettled}
use Rattle.law_bytes.proofs.Applying.{holding-from, holds-from, rebuilt_at}
use Rattle.law_bytes.proofs.Copies.{same-functions}
use Rattle.law_bytes.proofs.Receipts.{Addresses, received-holds}
use Rattle.law_bytes.proofs.Stepping.{Ready}
use Rattle.law_bytes.proofs.Treating.{treats-hold}
use Rattle.law_bytes.proofs.Values.{Concerns, Inside, area-same, held-same}

-- settled updates are only ever put behind
abbrev pub Prolongs : Dimensions → (ℕ → List Update) → (ℕ → List Update) → Type 0
Prolongs s before after = (d : ℕ) → d < s.k → (rest : List Update) × (after d ≡ before d ++ rest)

module _ (s : Dimensions) where
  -- what a process holds isn't changed by what is settled behind
  module _ (before after : ℕ → List Update) (p : Process) (inside : Inside s p.name) (grows : Prolongs s before after) where
    pub prefix-same : (d n : ℕ) → d < s.k → n ≤ length (before d) → take n (after d) ≡ take n (before d)
    prefix-same d n below within = ap (take n) (grows d below).1 ∙ take-append-le n (before d) (grows d below).0 within

    pub longer : (d n : ℕ) → d < s.k → n ≤ length (before d) → n ≤ length (after d)
    longer d n below within = let is = ap length (grows d below).1 in omega (arith, within, is, length-append (before d) (grows d below).0)

    pub holds-grown : Holds s before p → Holds s after p
    holds-grown holds = record {
      within = λ d below. longer d (replica_of p d).applied below (holds.within d below);
      space =
          area-same 0 (space_of s) (held s p.name (stand before p)) (held s p.name (stand after p)) p.space holds.space
          (λ x. held-same s p.name (stand before p) (stand after p) x inside (λ d below. prefix-same d (replica_of p d).applied below (holds.within d below)));
      copies = each-weaker (CopyHolds s before p) (CopyHolds s after p) copy p.as_row.copies holds.copies;
      rebuilt =
          λ d b bytes below is. subst (λ (us : List Update). IsBlock s b (value us) bytes)
          (sym (prefix-same d (replica_of p d).applied below (holds.within d below))) (holds.rebuilt d b bytes below is);
    } where
      copy : (c : Copy) → CopyHolds s before p c → CopyHolds s after p c
      copy c holds_copy = record {
        bytes = area-same (c.block * s.block) _ (held s p.name (marked_stand before c.marks p))
            (held s p.name (marked_stand after c.marks p)) c.bytes holds_copy.bytes
            (λ x. held-same s p.name (marked_stand before c.marks p) (marked_stand after c.marks p) x inside
            (λ d below. prefix-same d (marked_at c.marks p d) below (bound d below (at None c.marks d) refl)));
        marks = λ d n below is. longer d n below (holds_copy.marks d n below is);
      } where
        bound : (d : ℕ) → d < s.k → (o : Option ℕ) → at None c.marks d ≡ o → unwrap_or o (replica_of p d).applied ≤ length (before d)
        bound d below None is = holds.within d below
        bound d below (Some n) is = holds_copy.marks d n below is

  -- which partitions concern a process
  inside-of : (p : Process) (x : ProcessId) → p.name ≡ x → IsProcess s x → Inside s p.name
  inside-of p x name within = subst (Inside s) (sym name) (by x within) where
    by : (y : ProcessId) → IsProcess s y → Inside s y
    by (DataNode d) in_group = in_group
    by (ParityNode i) in_group = tt

  own-head : (p : Process) (d : ℕ) (h : Head) (x : ProcessId) → d < s.k → Sits p d x → head_at p d ≡ Some h → Concerns s x d
  own-head p d h (ParityNode i) below sits heads = below
  own-head p d h (DataNode e) below sits heads = by (cases_eq d e) where
    by : (d ≡ e) ⊎ (d ≢ e) → (d ≡ e) × (d < s.k)
    by (inl same) = (same, below)
    by (inr other) =
        let not_own : (d == e) ≡ false = grind (arith, common_steps) in
        absurd (cc (seat-head p d h heads, sits.0, ap seat not_own)) where
          seat : Bool → Option ℕ
          seat b = if b then Some 0 else None

  parity-concerned : (x : ProcessId) (d : ℕ) → IsParity x → d < s.k → Concerns s x d
  parity-concerned (ParityNode i) d parity below = below
  parity-concerned (DataNode e) d parity below = elim parity [ ]

  pub addressed : (v : State) (x q : ProcessId) (m : Message) → MayStand s v x q m → Addresses s m q
  addressed v x q (tells.Update r d u stable) may = (parity-concerned q d.0 may.1 may.0.1.partition, may.0.1.partition)
  addressed v x q (tells.Stable r d n) may = (parity-concerned q d.0 may.1 may.0.1.partition, may.0.1.partition)
  addressed v x q (tells.Adopt r d base list) may = (parity-concerned q d.0 may.2 may.0.1.partition, may.0.1.partition)
  addressed v x q (tells.Ack r d n) may = may.1.partition
  addressed v x q (tells.Mark session r block d n) may = (parity-concerned q d.0 may.2 may.0.1.partition, may.0.1.partition)
  addressed v x q (tells.ReadBlock session block rows) may = tt
  addressed v x q (tells.Block session bytes n) may = tt
  addressed v x q (tells.Row session bytes stamp) may = tt
  addressed v x q (tells.Cease upto) may = tt
  addressed v x q (tells.Notice dead) may = tt

  -- one process made a step
  module _ (v u w : State) (p : ProcessId) (t : ProcessStep) (pin : IsProcess s p) (members : Members s v)
      (same : (q : ProcessId) → IsProcess s q → u.process q ≡ v.process q)
      (same_dead : (q : ProcessId) → IsProcess s q → u.dead q ≡ v.dead q) (same_settled : (d : ℕ) → u.settled d ≡ v.settled d) (acts : Acted s u w p t) where
    pub prolongs : Prolongs s v.settled w.settled
    prolongs d below = (
      new_ones (length (u.settled d)) (settled_in d t.settled),
      acts.settled d below
          ∙ ap (λ (us : List Update). us ++ new_ones (length (u.settled d)) (settled_in d t.settled)) (same_settled d),
    )

    pub others-hold : HoldsBytes s v → Holds s w.settled t.process → HoldsBytes s w
    others-hold holds here q qin lives = by (same-cases q p) where
      by : (q ≡ p) ⊎ (q ≢ p) → Holds s w.settled (w.process q)
      by (inl is) = subst (λ (y : ProcessId). Holds s w.settled (w.process y)) (sym is) (subst (Holds s w.settled) (sym acts.process) here)
      by (inr other) = subst (Holds s w.settled) (sym (acts.others q qin other ∙ same q qin))
          (holds-grown v.settled w.settled (v.process q) (inside-of (v.process q) q (members.named q qin) qin) prolongs
          (holds q qin (sym (acts.dead q qin ∙ same_dead q qin) ∙ lives)))

    pub before-holds : v.dead p ≡ false → HoldsBytes s v → Holds s w.settled (v.process p)
    before-holds lives holds = holds-grown v.settled w.settled (v.process p) (inside-of (v.process p) p (members.named p pin) pin) prolongs (holds p pin lives)

  ready-before : (v : State) (settled : ℕ → List Update) (p : ProcessId) (t : ProcessStep) → IsProcess s p → v.dead p ≡ false → Members s v
      → AppliesSettled s settled (v.process p) t → Ready s settled (v.process p)
  ready-before v settled p t pin lives members applies = record {
    goes = applies.log;
    own = λ d h below heads. subst (λ (x : ProcessId). Concerns s x d) (sym (members.named p pin))
        (own-head (v.process p) d h p below (members.sits p d pin lives below) heads);
  }

  -- the start
  opening-held : (x : ProcessId) (us : ℕ → List Update) (y : ℕ) → ((d : ℕ) → us d ≡ []) → held s x us y ≡ 0
  opening-held (DataNode d) us y none = ap (λ (l : List Update). value l y) (none d)
  opening-held (ParityNode i) us y none =
      sum_of_zeros s.k _ (λ d below. ap (λ (l : List Update). product (coefficient s.m i d) (value l y)) (none d)
      ∙ product_zero_r (coefficient s.m i d))

  opening-holds : (settled : ℕ → List Update) (x : ProcessId) → Holds s settled (opening_process s x)
  opening-holds settled x = record {
    within = λ d below. subst (λ (n : ℕ). n ≤ length (settled d)) (sym (applied d)) (omega arith);
    space = record {
      long = length-replicate (space_of s) 0;
      same = λ y below. get_or-zeros (space_of s) y
          ∙ sym (opening-held x (stand settled (opening_process s x)) (0 + y)
          (λ d. ap (λ (n : ℕ). take n (settled d)) (applied d)));
    };
    copies = tt;
    rebuilt = λ d b bytes below is. absurd (cc (is, none d b below));
  } where
    applied : (d : ℕ) → (replica_of (opening_process s x) d).applied ≡ 0
    applied d = ap (λ (r : Replica). r.applied) (at-replicate empty_replica s.k d)

    row : (d n : ℕ) → d < n → ◌≡◌ {A = List (Option (List ℕ))} (at [] (replicate n (replicate s.blocks None)) d) (replicate s.blocks None)
    row d zero below = absurd (omega (arith, below))
    row zero (suc n) below = refl
    row (suc d) (suc n) below = row d n (omega (arith, below))

    none : (d b : ℕ) → d < s.k → ◌≡◌ {A = Option (List ℕ)} (rebuilt_block (opening_process s x).as_leader d b) None
    none d b below = ap (λ (blocks : List (Option (List ℕ))). at None blocks b) (row d s.k below) ∙ at-replicate None s.blocks b

pub bytes_kept : BytesAlwaysKept
bytes_kept s shaped = record {
  opens = λ v starts p pin lives. subst (Holds s v.settled) (sym (starts.process p pin)) (opening-holds s v.settled p);
  treats = λ v w p t pin lives treated members holds new right next acts.
      others-hold s v v w p t pin members (λ q qin. refl) (λ q qin. refl) (λ d. refl) acts holds
      (holds-from s w.settled (v.process p) t.process
      (treats-hold s w.settled right.write (rebuilt_at (v.process p)) (v.process p) p t
      (record { name = members.named p pin; some = some; sits = λ d low. members.sits p d pin lives low }) pin
      (members.not_self p pin lives) treated (ready-before s v w.settled p t pin lives members right.applies)
      (inside-of s (v.process p) p (members.named p pin) pin) new right.applies next
      (holding-from s w.settled (v.process p) (before-holds s v v w p t pin members (λ q qin. refl) (λ q qin. refl)
      (λ d. refl) acts lives holds))) right.rebuilds);
  receives = λ v u w x p m xin pin apart lives members holds marks right pops acts.
      let t : ProcessStep = receive s x m (v.process p) in
      let may : MayStand s v x p m = (subst (Each (MayStand s v x p)) pops.first (members.may x p xin pin apart lives)).0 in
      others-hold s v u w p t pin members pops.processes pops.dead pops.settled acts holds
      (holds-from s w.settled (v.process p) t.process
      (received-holds s w.settled right.write (rebuilt_at (v.process p)) x m (v.process p)
      (subst (Addresses s m) (sym (members.named p pin)) (addressed s v x p m may))
      (ready-before s v w.settled p t pin lives members right.applies) marks right.applies
      (holding-from s w.settled (v.process p) (before-holds s v u w p t pin members pops.processes pops.dead pops.settled acts lives holds))) right.rebuilds);
  dies = λ v w p keep pin holds died q qin lives.
      let other : q ≢ p = λ (same : q ≡ p). cc (lives, ap w.dead same, died.dead) in
      subst (λ (settled : ℕ → List Update). Holds s settled (w.process q)) (sym (same-functions w.settled v.settled died.settled))
      (subst (Holds s v.settled) (sym (died.processes q qin)) (holds q qin (sym (died.others q qin other) ∙ lives)));
} where
  some : 0 < s.k
  some = let first = shaped.k in omega (arith, first)
