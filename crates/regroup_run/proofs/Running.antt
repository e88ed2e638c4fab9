-- The moves of a script may be done.
use Rattle.std.proofs.Common.{ℕ, ◌≡◌, ◌≤◌, ◌<◌, ◌+◌, ◌^◌, ◌⊎◌, inl, inr, Bool, true, false, ◌&&◌, zero, suc, nat_lt}
use Rattle.std.proofs.Common.{nat_le, List, [], ◌∷◌, map, codes, Option, Some, None, Result, Ok, Err, if◌then◌else◌}
use Rattle.std.proofs.Common.{refl, sym, ap, subst, ◌∙◌, arith}
use Rattle.std.proofs.lemmas.Bool.Decides.{nat_tests}
use Rattle.std.specs.List.{list_all, range_with_len}
use Rattle.std.specs.Option.{is_some}
use Rattle.group_types.specs.Dimensions.{Dimensions, space_of}
use Rattle.group_types.specs.Lists.{at}
use Rattle.group_types.specs.Shape.{IsShape}
use Rattle.group_types.specs.declared.shape.Field.{Field}
use Rattle.group_calls.specs.declared.event.Event.{Event}
use Rattle.group_calls.specs.declared.event.Event.TheVariants as happens
use Rattle.group_run.specs.Draining.{next_delivery}
use Rattle.group_run.specs.Meaning.{IsDrained}
use Rattle.group_run.specs.Shown.{is_down}
use Rattle.group_run.specs.World.{World}
use Rattle.law_causes.specs.Drained.{NextTellsDrained}
use Rattle.law_causes.proofs.Drained.{next_always}
use Rattle.memc_table.specs.Asked.{Asked}
use Rattle.scenario_text.specs.Meaning.{IsLineOf, first_out_of_range, line_meaning}
use Rattle.scenario_text.specs.Words.{split_words}
use Rattle.scenario_text.specs.declared.line.Line.{Line}
use Rattle.scenario_text.specs.declared.line.Line.TheVariants.{Skipped, Group, Ask, Collect, Deliver, Fail, Flush, Trace, Drain, Show, Places, Time, Stop}
use Rattle.scenario_text.specs.declared.line.LineFault.{LineFault}
use Rattle.scenario_text.specs.declared.line.LineFault.TheVariants.{BadLine}
use Rattle.scenario_text.proofs.Limits.{shape-of}
use Rattle.scenario_text.proofs.Lines.{line_of-within}
use Rattle.scenario_run.specs.Course.{Ends, Goes, Refused}
use Rattle.scenario_run.specs.Playing.{draining_unless_down}
use Rattle.scenario_run.proofs.Beginning.{Opens}
use Rattle.scenario_run.proofs.Running.{parts, read-never-ends, read-opens}
use Rattle.scenario_run.proofs.Truth.{up}
use Rattle.group_eras.specs.Carry.{carried}
use Rattle.group_eras.specs.Eras.{Eras, MayMake, carrier, era_step, eras_after}
use Rattle.group_eras.specs.Items.{bytes_in_partition}
use Rattle.group_eras.specs.Promise.{EraMove, Carries, IsLed, Makes}
use Rattle.group_eras.specs.Refusal.{CanCarry}
use Rattle.group_eras.proofs.Promises.{eras_are_runs}
use Rattle.regroup_run.specs.Meaning.{IsLowLine, regroup_line, shape_of_numbers, shape_unless, shape_within}
use Rattle.regroup_run.specs.Playing.{EraNext, EraPlay, by_call, by_carry, by_event, by_regroup, by_trace, has_space}
use Rattle.regroup_run.specs.Playing.{next_by, next_of, refuses, regroup_by, regroups, eras_from, then_by}
use Rattle.regroup_run.proofs.Draining.{drains}
use Rattle.regroup_run.proofs.Leading.{IsLedTo, Leads, is-led, makes-lead, world-led}
use Rattle.regroup_run.proofs.Ranges.{line_of-low}

-- a script may go on from here
pub record IsReady (s : Dimensions) (p : EraPlay) : Type 0 where
  pub led : IsLedTo s p.eras
  pub moment : p.moment ≤ 2 ^ 62

-- what a line did goes on from there
pub record GoesOn (p : EraPlay) (next : Option EraPlay) (moves : List EraMove) : Type 0 where
  pub play : EraPlay
  pub is : next ≡ Some play
  pub leads : Leads p.eras play.eras moves
  pub moment : play.moment ≤ 2 ^ 62

none-leads : (e : Eras) → Leads e e []
none-leads e = record { may = tt; to = refl }

-- a line that goes on, and does nothing
abbrev idly : EraPlay → List ℕ → EraNext
idly q wrote = Goes (Some q) [] wrote

-- nothing is done
stays : (p q : EraPlay) (next : Option EraPlay) (moves : List EraMove) (wrote text : List ℕ) → p.eras ≡ q.eras
    → q.moment ≤ 2 ^ 62 → idly q wrote ≡ Goes next moves text → GoesOn p next moves
stays p q next moves wrote text same low is =
    let both = parts (Some q) next [] moves wrote text is in
    record {
      play = q;
      is = both.0;
      leads = subst (Leads p.eras q.eras) (sym both.1)
          (subst (λ (f : Eras). Leads p.eras f []) same (none-leads p.eras));
      moment = low;
    }

-- an event that may be made leads on
comes : (s : Dimensions) (p : EraPlay) (e : Event) (next : Option EraPlay) (moves : List EraMove) (text : List ℕ)
    → IsReady s p → MayMake p.eras e → by_event p e ≡ Goes next moves text → GoesOn p next moves
comes s p e next moves text ready may is =
    let q : EraPlay = record { eras = (era_step p.eras e).eras; moment = p.moment } in
    let both = parts (Some q) next (Makes e ∷ []) moves _ text is in
    record { play = q; is = both.0; leads = subst (Leads p.eras q.eras) (sym both.1) (record { may = (may, tt); to = refl }); moment = ready.moment }

-- a call of a caller that doesn't carry
calls : (s : Dimensions) (p : EraPlay) (caller : ℕ) (e : Event) (next : Option EraPlay) (moves : List EraMove)
    (text : List ℕ) → IsReady s p → (caller < carrier → MayMake p.eras e)
    → by_call p caller e ≡ Goes next moves text → GoesOn p next moves
calls s p caller e next moves text ready may is = by (nat_lt caller carrier) refl is where
  by : (b : Bool) → nat_lt caller carrier ≡ b → (if b then by_event p e else Refused BadLine) ≡ Goes next moves text → GoesOn p next moves
  by true less goes = comes s p e next moves text ready (may (grind (arith, nat_tests))) goes
  by false less goes = absurd (cc goes)

-- a call is traced that was asked in the current era
traces : (s : Dimensions) (p : EraPlay) (caller call : ℕ) (e : Event) (next : Option EraPlay) (moves : List EraMove) (text : List ℕ) → IsReady s p
    → (call < at 0 p.eras.world.asked caller → caller < carrier → MayMake p.eras e) → by_trace p caller call e ≡ Goes next moves text → GoesOn p next moves
traces s p caller call e next moves text ready may is = by (nat_lt call (at 0 p.eras.world.asked caller)) refl is where
  by : (b : Bool) → nat_lt call (at 0 p.eras.world.asked caller) ≡ b
      → (if b then by_call p caller e else Refused BadLine) ≡ Goes next moves text → GoesOn p next moves
  by true less goes = calls s p caller e next moves text ready (may (grind (arith, nat_tests))) goes
  by false less goes = absurd (cc goes)

-- what a line behind the group line does
then-leads : (s : Dimensions) (p : EraPlay) (l : Line) (next : Option EraPlay) (moves : List EraMove) (text : List ℕ)
    → IsReady s p → IsLineOf (Some p.eras.world.shape) l → IsLowLine l
    → then_by p l ≡ Goes next moves text → GoesOn p next moves
then-leads s p Skipped next moves text ready within low is = stays p p next moves [] text refl ready.moment is
then-leads s p (Group shape) next moves text ready within low is = absurd within
then-leads s p (Ask caller from act) next moves text ready within low is =
    let op : Asked = record { moment = p.moment; act = act } in
    calls s p caller (happens.Ask caller op from) next moves text ready
    (λ less. record { may = within; others = less; range = record { moment = ready.moment; expiry = low } }) is
then-leads s p (Collect caller call from) next moves text ready within low is =
    calls s p caller (happens.Collect caller call from) next moves text ready (λ less. record { may = within; others = less; range = tt }) is
then-leads s p (Deliver from to) next moves text ready within low is = comes s p (happens.Deliver from to) next moves
    text ready (record { may = within; others = tt; range = tt }) is
then-leads s p (Fail from keep) next moves text ready within low is = comes s p (happens.Fail from keep) next moves text
    ready (record { may = within; others = tt; range = tt }) is
then-leads s p (Flush from) next moves text ready within low is = comes s p (happens.Flush from) next moves text ready
    (record { may = within; others = tt; range = tt }) is
then-leads s p (Trace caller call d from) next moves text ready within low is =
    traces s p caller call (happens.Trace caller call d from) next moves text ready
    (λ asked less. record { may = (within.0, asked, within.1, within.2); others = less; range = tt }) is
then-leads s p Drain next moves text ready within low is =
    let es : List Event = draining_unless_down p.eras.world in
    let q : EraPlay = record { eras = eras_after p.eras es; moment = p.moment } in
    let both = parts (Some q) next (map Makes es) moves _ text is in
    record {
      play = q;
      is = both.0;
      leads = subst (Leads p.eras q.eras) (sym both.1)
          (makes-lead p.eras es (drains p.eras.world.shape p.eras (world-led s p.eras ready.led)));
      moment =
          ready.moment;
    }
then-leads s p (Show from run) next moves text ready within low is = stays p p next moves _ text refl ready.moment is
then-leads s p Places next moves text ready within low is = stays p p next moves _ text refl ready.moment is
then-leads s p (Time moment) next moves text ready within low is = stays p (record { eras = p.eras; moment = moment }) next moves [] text refl within is
then-leads s p Stop next moves text ready within low is = absurd (cc is)

next-leads : (s : Dimensions) (p : EraPlay) (l : Result Line LineFault) (next : Option EraPlay) (moves : List EraMove) (text : List ℕ) → IsReady s p
    → ((l' : Line) → l ≡ Ok l' → IsLineOf (Some p.eras.world.shape) l' × IsLowLine l') → next_by (Some p) l ≡ Goes next moves text → GoesOn p next moves
next-leads s p (Err fault) next moves text ready within is = absurd (cc is)
next-leads s p (Ok l) next moves text ready within is = then-leads s p l next moves text ready (within l refl).0 (within l refl).1 is

both-true : (x y : Bool) → (x && y) ≡ true → (x ≡ true) × (y ≡ true)
both-true true true is = (refl, refl)
both-true true false is = absurd (cc is)
both-true false y is = absurd (cc is)

this-or-later : (a d : ℕ) → a ≤ d → (d ≡ a) ⊎ (a + 1 ≤ d)
this-or-later a d low = by (nat_lt a d) refl where
  by : (b : Bool) → nat_lt a d ≡ b → (d ≡ a) ⊎ (a + 1 ≤ d)
  by true less = inr (grind (arith, nat_tests))
  by false less = inl (grind (arith, nat_tests))

all-hold : (f : ℕ → Bool) (a n d : ℕ) → list_all f (range_with_len a n) ≡ true → a ≤ d → d < a + n → f d ≡ true
all-hold f a zero d all low high = absurd (omega (arith, low, high))
all-hold f a (suc n) d all low high = by (this-or-later a d low) (λ later. all-hold f (a + 1) n d both.1 later (omega (arith, high))) where
  both : (f a ≡ true) × (list_all f (range_with_len (a + 1) n) ≡ true)
  both = both-true (f a) (list_all f (range_with_len (a + 1) n)) all

  by : (d ≡ a) ⊎ (a + 1 ≤ d) → (a + 1 ≤ d → f d ≡ true) → f d ≡ true
  by (inl same) later = ap f same ∙ both.0
  by (inr above) later = later above

-- the group is at rest and there is space
pub all-fit : (w : World) (s : Dimensions) (d : ℕ) → has_space w s ≡ true → d < w.shape.k → bytes_in_partition w d ≤ space_of s
all-fit w s d all below =
    let fits : nat_le (bytes_in_partition w d) (space_of s) ≡ true = all-hold (λ x. nat_le (bytes_in_partition w x) (space_of s)) 0
    w.shape.k d all (omega arith) (omega (arith, below)) in
    at_most (bytes_in_partition w d) (space_of s) fits
  where
    at_most : (a b : ℕ) → nat_le a b ≡ true → a ≤ b
    at_most a b fits = grind (arith, nat_tests)

-- no delivery is next exactly where the era's world is drained
pub next-tells : (e : Eras) → IsLed e → NextTellsDrained e.world
next-tells e led = let era = (eras_are_runs e led).era in subst NextTellsDrained (sym era.stands) (next_always e.world.shape era.events era.run)

can-carry : (s : Dimensions) (p : EraPlay) (t : Dimensions) → IsReady s p → is_down p.eras.world ≡ false
    → is_some (next_delivery p.eras.world) ≡ false → has_space p.eras.world t ≡ true → CanCarry p.eras.world t
can-carry s p t ready down waits space = record {
  rest = record { up = up p.eras.world down; drained = drained };
  space = λ d below. all-fit p.eras.world t d space below;
} where
  none : (o : Option Event) → is_some o ≡ false → o ≡ None
  none None is = refl
  none (Some e) is = absurd (cc is)

  drained : IsDrained p.eras.world
  drained = (next-tells p.eras (is-led s p.eras ready.led)).0 (none (next_delivery p.eras.world) waits)

carries : (s : Dimensions) (p : EraPlay) (t : Dimensions) (next : Option EraPlay) (moves : List EraMove) (text : List ℕ)
    → IsReady s p → IsShape t → t.k ≡ p.eras.world.shape.k
    → by_regroup p t ≡ Goes next moves text → GoesOn p next moves
carries s p t next moves text ready shaped same is =
    by (is_down p.eras.world) (is_some (next_delivery p.eras.world)) (has_space p.eras.world t) refl refl refl is where
      by : (down waits space : Bool) → is_down p.eras.world ≡ down → is_some (next_delivery p.eras.world) ≡ waits → has_space p.eras.world t ≡ space
          → (if down then refuses p (codes "down") else
          (if waits then refuses p (codes "not_drained") else
          (if space then by_carry p t else refuses p (codes "no_space")))) ≡ Goes next moves text
          → GoesOn p next moves
      by true waits space isdown iswaits isspace goes = stays p p next moves _ text refl ready.moment goes
      by false true space isdown iswaits isspace goes = stays p p next moves _ text refl ready.moment goes
      by false false false isdown iswaits isspace goes = stays p p next moves _ text refl ready.moment goes
      by false false true isdown iswaits isspace goes =
          let q : EraPlay = record { eras = carried p.eras t; moment = p.moment } in
          let both = parts (Some q) next (Carries t ∷ []) moves _ text goes in
          record {
            play = q;
            is = both.0;
            leads = subst (Leads p.eras q.eras) (sym both.1)
                (record {
                  may = (
                    (
                      record { shape = shaped; partitions = same },
                      can-carry s p t ready isdown iswaits
                          isspace,
                    ),
                    tt,
                  );
                  to = refl;
                });
            moment = ready.moment;
          }

-- the shape that a line `regroup` names
record Named (k : ℕ) (t : Dimensions) : Type 0 where
  shaped : IsShape t
  same : t.k ≡ k

within-named : (k m blocks block : ℕ) (t : Dimensions) → shape_within (record { k = k; m = m; blocks = blocks; block = block }) ≡ Ok t → Named k t
unfolding shape_within
within-named k m blocks block t is = by (first_out_of_range s) refl is where
  s : Dimensions
  s = record { k = k; m = m; blocks = blocks; block = block }

  by : (o : Option Field) → first_out_of_range s ≡ o → shape_unless s o ≡ Ok t → Named k t
  by None none reads = let same : s ≡ t = cc reads in record { shaped = subst IsShape same (shape-of s none); same = ap (λ (x : Dimensions). x.k) (sym same) }
  by (Some field) some reads = absurd (cc reads)

numbers-named : (k : ℕ) (m blocks block : Option ℕ) (t : Dimensions) → shape_of_numbers k m blocks block ≡ Ok t → Named k t
numbers-named k (Some m) (Some blocks) (Some block) t is = within-named k m blocks block t is
numbers-named k o blocks block t is = absurd (cc is)

line-named : (k : ℕ) (words : List (List ℕ)) (t : Dimensions) → regroup_line k words ≡ Ok t → Named k t
line-named k (name ∷ m ∷ blocks ∷ block ∷ []) t is = numbers-named k _ _ _ t is
line-named k xs t is = absurd (cc is)

regroup-leads : (s : Dimensions) (p : EraPlay) (r : Result Dimensions LineFault) (next : Option EraPlay) (moves : List EraMove) (text : List ℕ) → IsReady s p
    → ((t : Dimensions) → r ≡ Ok t → Named p.eras.world.shape.k t) → regroup_by p r ≡ Goes next moves text → GoesOn p next moves
regroup-leads s p (Err fault) next moves text ready named is = absurd (cc is)
regroup-leads s p (Ok t) next moves text ready named is = let n = named t refl in carries s p t next moves text ready n.shaped n.same is

pub line-leads : (s : Dimensions) (p : EraPlay) (line : List ℕ) (next : Option EraPlay) (moves : List EraMove) (text : List ℕ) → IsReady s p
    → next_of (Some p) line ≡ Goes next moves text → GoesOn p next moves
line-leads s p line next moves text ready is = by (regroups line) is where
  by : (b : Bool)
      → (if b then regroup_by p (regroup_line p.eras.world.shape.k (split_words line)) else next_by (Some p)
      (line_meaning (Some p.eras.world.shape) line)) ≡ Goes next moves text → GoesOn p next moves
  by true goes = regroup-leads s p (regroup_line p.eras.world.shape.k (split_words line)) next moves text ready
      (line-named p.eras.world.shape.k (split_words line)) goes
  by false goes = next-leads s p (line_meaning (Some p.eras.world.shape) line) next moves text ready
      (λ l reads. (line_of-within (Some p.eras.world.shape) line l reads, line_of-low p.eras.world.shape line l reads)) goes

-- the group line, or a line before it
pub line-opens : (line : List ℕ) (next : Option EraPlay) (moves : List EraMove) (text : List ℕ)
    → next_of None line ≡ Goes next moves text → Opens IsShape eras_from next moves text
line-opens line next moves text is = read-opens eras_from line (next_by None) (λ fault. refl) (λ l. refl) next moves text is

-- before it no line is the last
pub never-ends : (line : List ℕ) → next_of None line ≡ Ends → ⊥
never-ends line is = read-never-ends eras_from line (next_by None) (λ fault. refl) (λ l. refl) is
