-- A living process knows no more dead than there are, and learns of no more than m while the group isn't down.
use Rattle.std.proofs.Common.{ℕ, zero, suc, ◌≡◌, ◌≢◌, ◌<◌, ◌≤◌, ◌+◌, Bool, true, false, List, [], ◌∷◌, map, ◌⊎◌, inl}
use Rattle.std.proofs.Common.{inr, refl, sym, ap, subst, ◌∙◌, if◌then◌else◌, arith}
use Rattle.std.proofs.lemmas.Bool.{cases_lt}
use Rattle.std.specs.List.{range_with_len}
use Rattle.group_types.specs.Dimensions.{Dimensions}
use Rattle.group_types.specs.Lists.{at}
use Rattle.group_types.specs.Names.{IsProcess, process_at}
use Rattle.group_types.specs.Shape.{IsShape}
use Rattle.group_types.specs.declared.process.ProcessId.{ProcessId}
use Rattle.group_types.specs.declared.process.ProcessId.TheVariants.{DataNode, ParityNode}
use Rattle.group_types.proofs.Lists.{at-replicate}
use Rattle.group_types.proofs.Names.{process_at-index, same-cases}
use Rattle.membership.specs.Members.{Membership, all_living, count_dead_words, count_known_dead, knows_dead, with_dead}
use Rattle.group_message.specs.declared.message.Message.{Message}
use Rattle.group_message.specs.declared.message.Message.TheVariants as tells
use Rattle.group_run.specs.Applying.{ProcessStep}
use Rattle.group_run.specs.History.{History, history_of, no_history}
use Rattle.group_run.specs.Meaning.{IsDown}
use Rattle.group_run.specs.Process.{Process}
use Rattle.group_run.specs.Receiving.{receive}
use Rattle.group_run.specs.World.{World, dead_nodes}
use Rattle.law_moves.proofs.Moves.{Acted, Keeps, Popped}
use Rattle.law_moves.specs.State.{State, lost_in, state_of}
use Rattle.law_moves.proofs.Events.{FramedHistory, lost-nodes}
use Rattle.law_moves.proofs.Known.{known-notice}
use Rattle.law_moves.proofs.Runs.{framed-from, framed-opening, holds_always, shape-from, world-from}
use Rattle.law_moves.proofs.Members.{Members, Stands}
use Rattle.law_moves.specs.Known.{is_notice}
use Rattle.law_moves.proofs.Standing.{stands-notice}
use Rattle.law_moves.proofs.Keeping as members
use Rattle.law_moves.proofs.Notices.{knows-other}
use Rattle.law_answers.specs.Deliveries.{FewDeadAlways, KnowsFewDead}
use Rattle.law_answers.proofs.Leaving.{rests-received, starts-treated}

abbrev one-if : Bool → ℕ
one-if b = if b then 1 else 0

-- the words that say dead, counted by who is dead in a range
count-below : (xs : List Bool) (f : ℕ → Bool) (a n : ℕ) → ((d : ℕ) → at false xs d ≡ true → (d < n) × (f (a + d) ≡ true))
    → count_dead_words xs ≤ count_dead_words (map f (range_with_len a n))
count-below [] f a n all = omega arith
count-below (true ∷ xs) f a zero all = let none = (all zero refl).0 in absurd (omega (arith, none))
count-below (false ∷ xs) f a zero all =
    let rest = count-below xs f a zero (λ d is. let none = (all (suc d) is).0 in absurd (omega (arith, none))) in
    omega (arith, rest)
count-below (x ∷ xs) f a (suc n) all = by x refl (count-below xs f (a + 1) n later) where
  later : (d : ℕ) → at false xs d ≡ true → (d < n) × (f (a + 1 + d) ≡ true)
  later d is =
      let fact = all (suc d) is in
      let low = fact.0 in
      let place : a + 1 + d ≡ a + suc d = omega arith in
      (omega (arith, low), ap f place ∙ fact.1)

  by : (b : Bool) → x ≡ b → count_dead_words xs ≤ count_dead_words (map f (range_with_len (a + 1) n))
      → (if x then 1 else 0) + count_dead_words xs ≤ (if f a then 1 else 0) + count_dead_words (map f (range_with_len (a + 1) n))
  by true is rest =
      let place : a ≡ a + zero = omega arith in
      let here : f a ≡ true = ap f place ∙ (all zero is).1 in
      let one = ap one-if here in
      let word = ap one-if is in
      omega (arith, rest, one, word)
  by false is rest = let word = ap one-if is in omega (arith, rest, word)

count-two : (f : ℕ → Bool) (a n m : ℕ)
    → count_dead_words (map f (range_with_len a (n + m))) ≡ count_dead_words (map f (range_with_len a n)) + count_dead_words (map f (range_with_len (a + n) m))
count-two f a zero m =
    let start : zero + m ≡ m = omega arith in
    let place : a ≡ a + zero = omega arith in
    let one = ap (λ (k : ℕ). count_dead_words (map f (range_with_len a k))) start in
    let two = ap (λ (k : ℕ). count_dead_words (map f (range_with_len k m))) place in
    omega (arith, one, two)
count-two f a (suc n) m =
    let longer : suc n + m ≡ suc (n + m) = omega arith in
    let place : a + 1 + n ≡ a + suc n = omega arith in
    let whole = ap (λ (k : ℕ). count_dead_words (map f (range_with_len a k))) longer in
    let moved = ap (λ (k : ℕ). count_dead_words (map f (range_with_len k m))) place in
    let rest = count-two f (a + 1) n m in
    omega (arith, whole, moved, rest)

-- whoever is known dead is of the group
abbrev KnownInside : Dimensions → State → Type 0
KnownInside s v = (p : ProcessId) → IsProcess s p → (q : ProcessId) → knows_dead (v.process p).known q ≡ true → IsProcess s q

module _ (s : Dimensions) where
  -- where all known are of the group and dead, they are no more than there are
  few-known : (v : State) (known : Membership) → ((q : ProcessId) → knows_dead known q ≡ true → IsProcess s q × (v.dead q ≡ true))
      → count_known_dead known ≤ lost_in s v
  few-known v known all =
      let datas = count-below known.data_dead (λ x. v.dead (process_at s x)) 0 s.k of-data in
      let parities = count-below known.parity_dead (λ x. v.dead (process_at s x)) (0 + s.k) s.m of-parity in
      let both = count-two (λ x. v.dead (process_at s x)) 0 s.k s.m in
      omega (arith, datas, parities, both)
    where
      of-data : (d : ℕ) → at false known.data_dead d ≡ true → (d < s.k) × (v.dead (process_at s (0 + d)) ≡ true)
      of-data d is =
          let fact = all (DataNode d) is in
          let place : 0 + d ≡ d = omega arith in
          (fact.0, ap (λ (x : ℕ). v.dead (process_at s x)) place ∙ ap v.dead (process_at-index s (DataNode d) fact.0) ∙ fact.1)

      of-parity : (i : ℕ) → at false known.parity_dead i ≡ true → (i < s.m) × (v.dead (process_at s (0 + s.k + i)) ≡ true)
      of-parity i is =
          let fact = all (ParityNode i) is in
          let place : 0 + s.k + i ≡ s.k + i = omega arith in
          (fact.0, ap (λ (x : ℕ). v.dead (process_at s x)) place ∙ ap v.dead (process_at-index s (ParityNode i) fact.0) ∙ fact.1)

  -- a process acts
  acted-inside : (v w : State) (p : ProcessId) (t : ProcessStep) → Acted s v w p t → KnownInside s v
      → ((q : ProcessId) → knows_dead t.process.known q ≡ true → IsProcess s q) → KnownInside s w
  acted-inside v w p t acts inside here y yin q knows = by (same-cases y p) where
    by : (y ≡ p) ⊎ (y ≢ p) → IsProcess s q
    by (inl same) = here q (ap (λ (k : Process). knows_dead k.known q) (sym (ap w.process same ∙ acts.process)) ∙ knows)
    by (inr other) = inside y yin q (ap (λ (k : Process). knows_dead k.known q) (sym (acts.others y yin other)) ∙ knows)

  still-inside : (v : State) (p : ProcessId) (q : Process) → IsProcess s p → KnownInside s v → q.known ≡ (v.process p).known → (x : ProcessId)
      → knows_dead q.known x ≡ true → IsProcess s x
  still-inside v p q pin inside same x knows = inside p pin x (ap (λ (k : Membership). knows_dead k x) (sym same) ∙ knows)

  -- the notice that comes first is its sender's, which is dead
  notice-first : (v : State) → Members s v → (x p dead : ProcessId) (rest : List Message) → IsProcess s x → IsProcess s p → x ≢ p → v.dead p ≡ false
      → v.link x p ≡ tells.Notice dead ∷ rest
      → (v.dead x ≡ true) × (dead ≡ x)
  notice-first v held x p dead rest xin pin apart lives first =
      let facts = stands-notice x (v.dead x) (knows_dead (v.process p).known x) dead rest
      (subst (Stands x (v.dead x) (knows_dead (v.process p).known x)) first (held.stands x p xin pin apart lives)) in
      (facts.0, facts.2)

  -- after it all known are of the group and dead
  all-known : (v : State) → Members s v → KnownInside s v → (x p dead : ProcessId) (rest : List Message) → IsProcess s x
      → IsProcess s p → x ≢ p → v.dead p ≡ false
      → v.link x p ≡ tells.Notice dead ∷ rest
      → (q : ProcessId) → knows_dead (with_dead (v.process p).known dead) q ≡ true → IsProcess s q × (v.dead q ≡ true)
  all-known v held inside x p dead rest xin pin apart lives first q knows =
      by (same-cases q dead) (notice-first v held x p dead rest xin pin apart lives first) where
        of : IsProcess s q → knows_dead (v.process p).known q ≡ true → (q ≡ p) ⊎ (q ≢ p) → v.dead q ≡ true
        of qin knew (inl own) = absurd (cc (sym knew ∙ ap (knows_dead (v.process p).known) own ∙ held.not_self p pin lives))
        of qin knew (inr other) = members.known-is-dead q (v.dead q) (knows_dead (v.process p).known q) (v.link q p) (held.stands q p qin pin other lives) knew

        by : (q ≡ dead) ⊎ (q ≢ dead) → (v.dead x ≡ true) × (dead ≡ x) → IsProcess s q × (v.dead q ≡ true)
        by (inl same) facts = (subst (IsProcess s) (sym (same ∙ facts.1)) xin, ap v.dead (same ∙ facts.1) ∙ facts.0)
        by (inr other) facts =
            let knew : knows_dead (v.process p).known q ≡ true = sym (knows-other (v.process p).known dead q other) ∙ knows in
            let qin : IsProcess s q = inside p pin q knew in
            (qin, of qin knew (same-cases q p))

  received-inside : (v u w : State) (x p : ProcessId) (m : Message) → IsProcess s x → IsProcess s p → x ≢ p → v.dead p ≡ false → Members s v → KnownInside s v
      → Popped s v u x p m
      → (b : Bool) → is_notice m ≡ b → (q : ProcessId) → knows_dead (receive s x m (v.process p)).process.known q ≡ true → IsProcess s q
  received-inside v u w x p m xin pin apart lives held inside pops false plain q knows = still-inside v p (receive s x m (v.process p)).process pin inside
      (rests-received s x m (v.process p) plain).known q knows
  received-inside v u w x p m xin pin apart lives held inside pops true tells_death q knows = noticed m pops.first tells_death knows where
    noticed : (n : Message) → v.link x p ≡ n ∷ u.link x p → is_notice n ≡ true → knows_dead (receive s x n (v.process p)).process.known q ≡ true → IsProcess s q
    noticed (tells.Notice dead) first is knew =
        (all-known v held inside x p dead (u.link x p) xin pin apart lives first q
        (ap (λ (k : Membership). knows_dead k q) (sym (known-notice s dead (v.process p))) ∙ knew)).0
    noticed (tells.Update r d un stable) first is knew = cc is
    noticed (tells.Ack r d n) first is knew = cc is
    noticed (tells.Stable r d n) first is knew = cc is
    noticed (tells.Adopt r d base list) first is knew = cc is
    noticed (tells.ReadBlock session block rows) first is knew = cc is
    noticed (tells.Block session bytes n) first is knew = cc is
    noticed (tells.Mark session r block d n) first is knew = cc is
    noticed (tells.Row session bytes stamp) first is knew = cc is
    noticed (tells.Cease upto) first is knew = cc is

  keeps-inside : IsShape s → Keeps s (λ v. Members s v × KnownInside s v)
  keeps-inside shaped = record {
    opens = λ v starts. (
      (members.keeps s shaped).opens v starts,
      λ p pin q knows. absurd
          (began (v.process p).known q (ap (λ (k : Process). k.known) (starts.process p pin)) knows),
    );
    treats = λ v w p t pin up lives treats both acts. (
      (members.keeps s shaped).treats v w p t pin up lives treats both.0 acts,
      acted-inside v w p t acts both.1 (still-inside v p t.process pin both.1 (starts-treated s (v.process p) t treats).known),
    );
    receives = λ v u w x p m xin pin apart up lives both pops acts. (
      (members.keeps s shaped).receives v u w x p m xin pin apart up lives both.0 pops acts,
      acted-inside u w p (receive s x m (v.process p)) acts
          (λ y yin q knows. both.1 y yin q (ap (λ (k : Process). knows_dead k.known q) (sym (pops.processes y yin)) ∙ knows))
          (received-inside v u w x p m xin pin apart lives both.0 both.1 pops (is_notice m) refl),
    );
    dies = λ v w p keep pin both died. (
      (members.keeps s shaped).dies v w p keep pin both.0 died,
      λ y yin q knows. both.1 y yin q (ap (λ (k : Process). knows_dead k.known q) (sym (died.processes y yin)) ∙ knows),
    );
  } where
    began : (known : Membership) (q : ProcessId) → known ≡ all_living s → knows_dead known q ≡ true → ⊥
    began known (DataNode d) is knows = cc (sym (at-replicate false 16 d) ∙ ap (λ (k : Membership). at false k.data_dead d) (sym is) ∙ knows)
    began known (ParityNode i) is knows = cc (sym (at-replicate false 4 i) ∙ ap (λ (k : Membership). at false k.parity_dead i) (sym is) ∙ knows)

-- a group that isn't down has lost no more than m
few-lost : (s : Dimensions) (h : History) → h.world.shape ≡ s → FramedHistory h → ¬ (IsDown h.world) → lost_in s (state_of h) ≤ s.m
few-lost s h shape framed up = subst (λ (t : Dimensions). lost_in t (state_of h) ≤ t.m) shape
    (by (cases_lt h.world.shape.m (dead_nodes h.world.nodes)) (lost-nodes h.world.shape h.world.nodes h.settled framed.nodes_many)) where
      by : (h.world.shape.m < dead_nodes h.world.nodes) ⊎ (dead_nodes h.world.nodes ≤ h.world.shape.m)
          → lost_in h.world.shape (state_of h) ≡ dead_nodes h.world.nodes
          → lost_in h.world.shape (state_of h) ≤ h.world.shape.m
      by (inl more) same = absurd (up more)
      by (inr low) same = omega (arith, low, same)

pub few_dead_always : FewDeadAlways
few_dead_always s es run = subst (λ (w : World). ¬ (IsDown w) → KnowsFewDead s w) (world-from (no_history s) es) few where
  few : ¬ (IsDown (history_of s es).world) → KnowsFewDead s (history_of s es).world
  few up from to dead rest fin tin apart lives first =
      let both = holds_always s (λ v. Members s v × KnownInside s v) (keeps-inside s run.0) es run in
      let framed = framed-from (no_history s) es (framed-opening s) run.1 in
      let most = few-lost s (history_of s es) (shape-from (no_history s) es) framed up in
      let known = few-known s (state_of (history_of s es)) (with_dead ((state_of (history_of s es)).process to).known dead)
      (all-known s (state_of (history_of s es)) both.0 both.1 from to dead rest fin tin apart lives.1 first) in
      omega (arith, most, known)
