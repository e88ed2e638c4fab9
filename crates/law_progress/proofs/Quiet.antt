-- In a drained group no session is open and no copy is left.
use Rattle.std.proofs.Common.{◌≡◌, ◌≢◌, ℕ, ◌<◌, ◌≤◌, ◌==◌, Bool, true, false, not, List, [], ◌∷◌, length, find, cond}
use Rattle.std.proofs.Common.{is_some, option_map, Option, Some, None, ◌⊎◌, inl, inr, refl, sym, ap, subst, ◌∙◌, arith}
use Rattle.std.proofs.lemmas.Bool.{cases_eq, cases_lt, eq-eqb}
use Rattle.std.specs.Prelude.{◌||◌}
use Rattle.std.specs.List.{list_all, list_any, range_with_len}
use Rattle.group_types.specs.Dimensions.{Dimensions}
use Rattle.group_types.specs.Lists.{at}
use Rattle.group_types.specs.Names.{IsProcess}
use Rattle.group_types.specs.declared.process.ProcessId.{ProcessId}
use Rattle.group_types.specs.declared.process.ProcessId.TheVariants.{DataNode, ParityNode}
use Rattle.group_types.specs.Each.{Each}
use Rattle.membership.specs.Members.{knows_dead}
use Rattle.group_message.specs.declared.message.Message.{Message}
use Rattle.group_calls.specs.declared.event.Event.{Event}
use Rattle.group_run.specs.Headline.{IsRun}
use Rattle.group_run.specs.History.{History, history_of, no_history}
use Rattle.group_run.specs.Meaning.{IsDrained, Lives, process_of}
use Rattle.group_run.specs.Process.{Copy, Gathering}
use Rattle.group_run.specs.Rows.{copy_in}
use Rattle.group_run.specs.World.{World, after}
use Rattle.law_moves.specs.State.{State, state_of}
use Rattle.law_moves.proofs.Runs.{holds_always, shape-from, world-from}
use Rattle.law_bytes.proofs.Finding.{and-join}
use Rattle.law_bytes.proofs.Finds.{found-each}
use Rattle.law_bytes.proofs.LeadingWords.{IsFor, SessionsFit, left_by, lost_by}
use Rattle.law_bytes.proofs.Tokens.{Row}
use Rattle.law_bytes.proofs.Leading.{sessions_always_fit}
use Rattle.law_bytes.proofs.Nothing.{token}
use Rattle.law_histories.specs.Copies.{DeadForgotten}
use Rattle.law_histories.proofs.Copies.{forgotten_always}
use Rattle.law_histories.proofs.Finished.{IsEmpty, living-by}
use Rattle.law_histories.proofs.Whole.{quiet-where}
use Rattle.law_progress.specs.Quiets.{QuietAlways}
use Rattle.law_progress.proofs.Waiting.{Asked, BlockComes, Copied, Given, Has, AsksForBlock, IsBlock, IsMark, IsRead}
use Rattle.law_progress.proofs.Waiting.{IsRow, Marked, Marking, RowComes, WantsBlock, WantsRow, WaitedAlways, marks_in}
use Rattle.law_progress.proofs.Holding.{CopyThere, Ended}
use Rattle.law_progress.proofs.Keeping.{Held, keeps-held}
use Rattle.law_progress.proofs.Sides.{CopyFine, IsCease, opened}
use Rattle.law_progress.proofs.Spent.{no-copy}
use Rattle.law_progress.proofs.Taking.{parity-one}
use Rattle.law_progress.proofs.Views.{filter-has, has-filter, has-range, has-take, range-has}

-- a test that all pass, and one that one passes
all-pass : (test : ℕ → Bool) (xs : List ℕ) → ((x : ℕ) → Has (λ i. i ≡ x) xs → test x ≡ true) → list_all test xs ≡ true
all-pass test [] all = refl
all-pass test (x ∷ xs) all = and-join (test x) (list_all test xs) (all x (inl refl)) (all-pass test xs (λ y there. all y (inr there)))

pub some-passes : (xs : List ℕ) (d : ℕ) → Has (λ i. i ≡ d) xs → list_any (λ l. l == d) xs ≡ true
some-passes [] d has = absurd has
some-passes (x ∷ xs) d (inl same) = ap (λ (b : Bool). b || list_any (λ l. l == d) xs) (eq-eqb x d same)
some-passes (x ∷ xs) d (inr there) = or-true (x == d) (some-passes xs d there) where
  or-true : (b : Bool) → list_any (λ l. l == d) xs ≡ true → (b || list_any (λ l. l == d) xs) ≡ true
  or-true true is = refl
  or-true false is = is

or-either : (a b : Bool) → (a ≡ true) ⊎ (b ≡ true) → (a || b) ≡ true
or-either true b either = refl
or-either false b (inl is) = cc is
or-either false b (inr is) = is

not-true : (b : Bool) → not b ≡ true → b ≡ false
not-true true is = cc is
not-true false is = refl

module _ (s : Dimensions) (v : State) (some : 0 < s.k) (held : Held s v) (fits : SessionsFit s v) (empty : IsEmpty s v) where
  none-there : (P : Message → Type 0) (a b : ProcessId) → IsProcess s a → IsProcess s b → v.dead b ≡ false → a ≢ b → Has P (v.link a b) → ⊥
  none-there P a b ain bin lives apart has = subst (Has P) (empty a b ain bin lives apart) has

  -- whoever isn't known dead lives
  lives-if : (l : ℕ) (q : ProcessId) → l < s.m → IsProcess s q → q ≢ ParityNode l → v.dead (ParityNode l) ≡ false
      → knows_dead (v.process (ParityNode l)).known q ≡ false → v.dead q ≡ false
  lives-if l q lin qin other lives unknown =
      living-by q (v.dead q) (knows_dead (v.process (ParityNode l)).known q) (v.link q (ParityNode l))
      (held.members.stands q (ParityNode l) qin lin other lives) unknown (empty q (ParityNode l) qin lin lives other)

  module _ (l n : ℕ) (g : Gathering) (lin : l < s.m) (lives : v.dead (ParityNode l) ≡ false) (opens : opened (v.process (ParityNode l)) n ≡ Some g) where
    is-for : IsFor s (v.process (ParityNode l)).known g
    is-for = (found-each (λ x. x.number == n) (IsFor s (v.process (ParityNode l)).known)
        (v.process (ParityNode l)).as_leader.sessions g opens (fits (ParityNode l) lin lives)).1

    block-in : (d : ℕ) → d < s.k → (list_any (λ i. i == d) g.lost ≡ true) ⊎ (is_some (at None g.blocks_in d) ≡ true)
    block-in d low = by (at None g.blocks_in d) refl (knows_dead (v.process (ParityNode l)).known (DataNode d)) refl where
      by : (o : Option (List ℕ)) → at None g.blocks_in d ≡ o → (b : Bool)
          → knows_dead (v.process (ParityNode l)).known (DataNode d) ≡ b → (list_any (λ i. i == d) g.lost ≡ true)
          ⊎ (is_some o ≡ true)
      by (Some bytes) is b known = inr refl
      by None is true known =
          inl (some-passes g.lost d
          (subst (Has (λ i. i ≡ d)) (sym is-for.lost)
          (has-filter (λ e. knows_dead (v.process (ParityNode l)).known (DataNode e)) d (range_with_len 0 s.k)
          (has-range d 0 s.k (omega arith) (omega (arith, low))) known)))
      by None is false known =
          absurd (comes
          (held.ending.waited.blocks l n d lin low lives d_lives
          (subst (λ (o : Option Gathering). WantsBlock d o) (sym opens) is))) where
            d_lives : v.dead (DataNode d) ≡ false
            d_lives = lives-if l (DataNode d) lin low (λ same. cc same) lives known

            comes : BlockComes v l n d → ⊥
            comes (inl has) = none-there (IsRead l n) (ParityNode l) (DataNode d) lin low d_lives (λ same. cc same) has
            comes (inr has) = none-there (IsBlock l n) (DataNode d) (ParityNode l) low lin lives (λ same. cc same) has

    row-in : (r : ℕ) → Has (λ i. i ≡ r) g.rows → is_some (at None g.rows_in r) ≡ true
    row-in r among = by (at None g.rows_in r) refl where
      left : Has (λ i. i ≡ r) (range_with_len 0 s.m) × (not (knows_dead (v.process (ParityNode l)).known (ParityNode r)) ≡ true)
      left = filter-has (λ i. not (knows_dead (v.process (ParityNode l)).known (ParityNode i))) r (range_with_len 0 s.m)
          (has-take (λ i. i ≡ r) (length (lost_by s (v.process (ParityNode l)).known))
          (left_by s (v.process (ParityNode l)).known) (subst (Has (λ i. i ≡ r)) is-for.rows among))

      rin : r < s.m
      rin = let high = (range-has r 0 s.m left.0).1 in omega (arith, high)

      r_lives : v.dead (ParityNode r) ≡ false
      r_lives = which (cases_eq r l) where
        which : (r ≡ l) ⊎ (r ≢ l) → v.dead (ParityNode r) ≡ false
        which (inl same) = ap v.dead (ap ParityNode same) ∙ lives
        which (inr other) = lives-if l (ParityNode r) lin rin (λ same. other (parity-one r l same)) lives
            (not-true (knows_dead (v.process (ParityNode l)).known (ParityNode r)) left.1)

      marked : WantsRow r (Some g) → (d : ℕ) → d < s.k → Marked d (marks_in (v.process (ParityNode r)) l n)
      marked wants d low =
          comes (held.ending.waited.rows l n r d lin rin low lives r_lives (subst (WantsRow r) (sym opens) wants)
          (may (knows_dead (v.process (ParityNode l)).known (DataNode d)) refl)) where
            may : (b : Bool) → knows_dead (v.process (ParityNode l)).known (DataNode d) ≡ b
                → (knows_dead (v.process (ParityNode l)).known (DataNode d) ≡ true) ⊎ (v.dead (DataNode d) ≡ false)
            may true known = inl known
            may false known = inr (lives-if l (DataNode d) lin low (λ same. cc same) lives known)

            comes : RowComes s v l n r d → Marked d (marks_in (v.process (ParityNode r)) l n)
            comes (Copied is) = is
            comes (Asked d_lives has) = absurd (none-there (AsksForBlock l n r) (ParityNode l) (DataNode d) lin low d_lives (λ same. cc same) has)
            comes (Marking x xin apart x_lives which has) = absurd (none-there (IsMark l n d) x (ParityNode r) xin rin r_lives apart has)
            comes (Given apart has) = absurd (none-there (IsRow l n) (ParityNode r) (ParityNode l) rin lin lives (λ same. apart (parity-one r l same)) has)

      full : (o : Option (List (Option ℕ))) → marks_in (v.process (ParityNode r)) l n ≡ o → ((d : ℕ) → d < s.k → Marked d o) → ⊥
      full None is all = all 0 some
      full (Some marks) is all = cc (sym (held.ending.rows (ParityNode r) rin r_lives l n marks is).lacks
          ∙ all-pass (λ d. is_some (at None marks d)) (range_with_len 0 s.k) (λ d there. all d (let high = (range-has d 0 s.k there).1 in omega (arith, high))))

      by : (o : Option (List ℕ)) → at None g.rows_in r ≡ o → is_some o ≡ true
      by (Some bytes) is = refl
      by None is = absurd (full (marks_in (v.process (ParityNode r)) l n) refl (marked (among, is)))

    no-session : ⊥
    no-session = cc (sym (held.ending.leaders (ParityNode l) lin lives n g opens).0
        ∙ and-join (list_all (λ d. list_any (λ i. i == d) g.lost || is_some (at None g.blocks_in d))
        (range_with_len 0 s.k)) (list_all (λ i. is_some (at None g.rows_in i)) g.rows)
        (all-pass (λ d. list_any (λ i. i == d) g.lost || is_some (at None g.blocks_in d)) (range_with_len 0 s.k)
        (λ d there. or-either (list_any (λ i. i == d) g.lost) (is_some (at None g.blocks_in d))
        (block-in d (let high = (range-has d 0 s.k there).1 in omega (arith, high)))))
        (all-pass (λ i. is_some (at None g.rows_in i)) g.rows row-in))

  no-sessions : (l : ℕ) → l < s.m → v.dead (ParityNode l) ≡ false → (v.process (ParityNode l)).as_leader.sessions ≡ []
  no-sessions l lin lives = by (v.process (ParityNode l)).as_leader.sessions refl where
    by : (gs : List Gathering) → (v.process (ParityNode l)).as_leader.sessions ≡ gs → (v.process (ParityNode l)).as_leader.sessions ≡ []
    by [] is = is
    by (g ∷ gs) is =
        absurd (no-session l g.number g lin lives (ap (find (λ x. x.number == g.number)) is
        ∙ ap (λ (b : Bool). cond b (Some g) (find (λ x. x.number == g.number) gs)) (eq-eqb g.number g.number refl)))

  -- copies
  module _ (r : ℕ) (rin : r < s.m) (lives : v.dead (ParityNode r) ≡ false)
      (forgets : (l : ℕ) → l < s.m → v.dead (ParityNode l) ≡ true → Each (λ c. c.leader ≢ l) (v.process (ParityNode r)).as_row.copies) where
    no-first : (c : Copy) (cs : List Copy) → (v.process (ParityNode r)).as_row.copies ≡ c ∷ cs → ⊥
    no-first c cs is = by (cases_lt c.leader s.m) where
      there : marks_in (v.process (ParityNode r)) c.leader c.number ≡ Some c.marks
      there = ap (λ (all : List Copy). option_map (λ x. x.marks) (copy_in all c.leader c.number)) is
          ∙ ap (λ (b : Bool). option_map (λ x. x.marks) (cond b (Some c) (copy_in cs c.leader c.number)))
          (and-join (c.leader == c.leader) (c.number == c.number) (eq-eqb c.leader c.leader refl) (eq-eqb c.number c.number refl))

      fine : CopyFine s (v.process (ParityNode r)) c.leader c.number c.marks
      fine = held.ending.rows (ParityNode r) rin lives c.leader c.number c.marks there

      of-none : (o : Option Gathering) → opened (v.process (ParityNode c.leader)) c.number ≡ o → c.leader < s.m
          → v.dead (ParityNode c.leader) ≡ false → WantsRow r o → ⊥
      of-none None opens lin l_lives wants = wants
      of-none (Some g) opens lin l_lives wants = no-session c.leader c.number g lin l_lives opens

      ended : c.leader < s.m → v.dead (ParityNode c.leader) ≡ false
          → WantsRow r (opened (v.process (ParityNode c.leader)) c.number) ⊎ Ended v c.leader c.number r → ⊥
      ended lin l_lives (inl wants) = of-none (opened (v.process (ParityNode c.leader)) c.number) refl lin l_lives wants
      ended lin l_lives (inr (inl low)) = absurd (let above = fine.above in omega (arith, low, above))
      ended lin l_lives (inr (inr (apart, has))) = none-there (IsCease c.number) (ParityNode c.leader) (ParityNode r)
          lin rin lives (λ same. apart (parity-one c.leader r same)) has

      of-leader : c.leader < s.m → (b : Bool) → v.dead (ParityNode c.leader) ≡ b → ⊥
      of-leader lin true dead = (subst (Each (λ x. x.leader ≢ c.leader)) is (forgets c.leader lin dead)).0 refl
      of-leader lin false l_lives = ended lin l_lives (held.ending.pends c.leader c.number r lin rin l_lives lives (CopyThere (ap is_some there)))

      by : (c.leader < s.m) ⊎ (s.m ≤ c.leader) → ⊥
      by (inl lin) = of-leader lin (v.dead (ParityNode c.leader)) refl
      by (inr outside) =
          no-copy s c.leader c.number r v fine.some.0 (held.carried.strangers (token c.leader c.number fine.some.0 (Row r)) fine.some.1 outside) rin lives
          (held.members.named (ParityNode r) rin) (subst (Marked fine.some.0) (sym there) fine.some.2)

    no-copies : (v.process (ParityNode r)).as_row.copies ≡ []
    no-copies = by (v.process (ParityNode r)).as_row.copies refl where
      by : (cs : List Copy) → (v.process (ParityNode r)).as_row.copies ≡ cs → (v.process (ParityNode r)).as_row.copies ≡ []
      by [] is = is
      by (c ∷ cs) is = absurd (no-first c cs is)

pub held-always : (s : Dimensions) (es : List Event) → IsRun s es → Held s (state_of (history_of s es))
held-always s es run = holds_always s (Held s) (keeps-held s run.0) es run

pub waited_always : WaitedAlways
waited_always s es run = (held-always s es run).ending.waited

-- in the words of the group
module _ (s : Dimensions) (es : List Event) (run : IsRun s es) (drained : IsDrained (after s es)) where
  abbrev h : History
  h = history_of s es

  same : h.world ≡ after s es
  same = world-from (no_history s) es

  shape : h.world.shape ≡ s
  shape = shape-from (no_history s) es

  some-here : 0 < s.k
  some-here = run.0.k.0

  empty-here : IsEmpty s (state_of h)
  empty-here = subst (λ (t : Dimensions). IsEmpty t (state_of h)) shape
      (λ from to fin tin living apart. subst IsDrained (sym same) drained from to fin (tin, living) apart)

  sessions-here : (i : ℕ) → Lives h.world (ParityNode i) → (process_of h.world (ParityNode i)).as_leader.sessions ≡ []
  sessions-here i lives =
      no-sessions s (state_of h) some-here (held-always s es run) (sessions_always_fit s es run) empty-here i
      (subst (λ (t : Dimensions). IsProcess t (ParityNode i)) shape lives.0) lives.1

  forgets-here : DeadForgotten h.world
  forgets-here = subst DeadForgotten (sym same) (forgotten_always s es run drained)

  copies-here : (i : ℕ) → Lives h.world (ParityNode i) → (process_of h.world (ParityNode i)).as_row.copies ≡ []
  copies-here i lives =
      no-copies s (state_of h) some-here (held-always s es run) (sessions_always_fit s es run) empty-here i
      (subst (λ (t : Dimensions). IsProcess t (ParityNode i)) shape lives.0) lives.1
      (λ l lin dead. forgets-here i l lives (subst (λ (t : Dimensions). IsProcess t (ParityNode l)) (sym shape) lin) dead)

pub quiet_always : QuietAlways
quiet_always s es run drained up = quiet-where s es run drained up
    (subst (λ (w : World). (i : ℕ) → Lives w (ParityNode i) → (process_of w (ParityNode i)).as_leader.sessions ≡ [])
    (same s es run drained) (sessions-here s es run drained))
    (subst (λ (w : World). (i : ℕ) → Lives w (ParityNode i) → (process_of w (ParityNode i)).as_row.copies ≡ [])
    (same s es run drained) (copies-here s es run drained))
