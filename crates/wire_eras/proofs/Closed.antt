-- A group over machines that is closed and at rest logs no change.
use Rattle.std.proofs.Common.{ℕ, ◌≡◌, ◌≢◌, ◌<◌, ◌≤◌, ◌+◌, Bool, true, false, List, [], ◌∷◌, ◌++◌, length, map, ◌⊎◌, inl, inr, refl, sym, ap, subst, ◌∙◌, arith}
use Rattle.std.specs.Prelude.{slice_index, slice_set}
use Rattle.std.proofs.lemmas.Bool.{cases_eq}
use Rattle.std.proofs.lemmas.List.{get_or-set_other, get_or-set_same}
use Rattle.group_types.specs.Dimensions.{Dimensions}
use Rattle.group_types.specs.Each.{Each}
use Rattle.group_types.specs.Hash.{home_of}
use Rattle.group_types.specs.Names.{IsProcess}
use Rattle.group_types.specs.declared.process.ProcessId.{ProcessId}
use Rattle.group_types.proofs.Eaches.{each-map}
use Rattle.memc_table.specs.Act.{key_of}
use Rattle.memc_table.specs.Asked.{Asked}
use Rattle.memc_table.specs.Contents.{Contents, after_ruling, count_of, empty_table, partition_of, reply_in, ruling_on, table_after}
use Rattle.memc_table.specs.Expiry.{live_at}
use Rattle.memc_table.specs.declared.ruling.Ruling.{Ruling}
use Rattle.memc_table.specs.declared.ruling.Ruling.TheVariants.{Accepted, Refused}
use Rattle.group_message.specs.declared.message.Message.TheVariants as tells
use Rattle.group_calls.specs.Log.{IsLegalFrom, table_of}
use Rattle.group_calls.specs.Turns.{accepts}
use Rattle.group_calls.specs.declared.entry.Entry.{Entry}
use Rattle.group_calls.specs.declared.event.Event.{Event}
use Rattle.group_run.specs.Headline.{IsRun}
use Rattle.group_run.specs.Meaning.{IsDown, IsDrained, link}
use Rattle.group_run.specs.World.{after}
use Rattle.law_log.proofs.Tables.{home-below, table-append}
use Rattle.law_updates.proofs.Rules.{RulesWell, rules-well}
use Rattle.group_eras.proofs.Resting.{Rests, same-counts}
use Rattle.group_eras.proofs.Standing.{legal-behind}
use Rattle.group_wire.specs.Actions.{Action}
use Rattle.group_wire.specs.Composed.{AreActions, composed, events_of, opening_composed}
use Rattle.group_wire.specs.Composition.{machine}
use Rattle.group_wire.specs.Sets.{one_or}
use Rattle.group_wire.proofs.Compositions.{runs_compose}
use Rattle.group_wire.proofs.Honest as honest
use Rattle.wire_progress.proofs.Draining as draining
use Rattle.wire_eras.specs.Closed.{AreMembersAtRest, ClosedLogsNoChange, Gets, IsClosed, LogsNoChange}
use Rattle.wire_eras.specs.Laws.{log_made}
use Rattle.wire_eras.specs.Told.{table_left}
use Rattle.wire_eras.proofs.Begun.{EventAsks, MadeOnly, only-from}
use Rattle.wire_eras.proofs.Joining.{many-after, many-left}
use Rattle.wire_eras.proofs.Legal.{first_log_is_legal}
use Rattle.wire_eras.proofs.Logged.{events-more, front, joined, log-is, log-split, run-is}
use Rattle.wire_eras.proofs.Resting.{settled-stays}

module _ (k : ℕ) (some : 1 ≤ k) where
  -- an accepted op raises a count by 1, and none falls
  raised : (t : Contents) (op : Asked) (d : ℕ) (r : Ruling) → length t.counts ≡ k → d < k
      → slice_index t.counts d ≤ slice_index (after_ruling t (key_of op.act) r).counts d
  raised t op d (Refused reply) many below = omega arith
  raised t op d (Accepted reply leaves) many below = by (cases_eq (partition_of t (key_of op.act)) d) where
    by : (partition_of t (key_of op.act) ≡ d) ⊎ (partition_of t (key_of op.act) ≢ d)
        → slice_index t.counts d
        ≤ slice_index (slice_set t.counts (partition_of t (key_of op.act)) (count_of t (key_of op.act) + 1)) d
    by (inl here) =
        let now : slice_index (slice_set t.counts (partition_of t (key_of op.act)) (count_of t (key_of op.act) + 1)) d ≡ slice_index t.counts d + 1
        = ap (λ (i : ℕ). slice_index (slice_set t.counts i (slice_index t.counts i + 1)) d) here
        ∙ get_or-set_same t.counts d (slice_index t.counts d + 1) 0 (omega (arith, many, below)) in
        omega (arith, now)
    by (inr apart) =
        let now : slice_index (slice_set t.counts (partition_of t (key_of op.act)) (count_of t (key_of op.act) + 1)) d ≡ slice_index t.counts d
        = get_or-set_other t.counts (partition_of t (key_of op.act)) d (count_of t (key_of op.act) + 1) 0 (λ same. apart (sym same)) in
        omega (arith, now)

  raised-all : (t : Contents) (log : List Entry) (d : ℕ) → length t.counts ≡ k → d < k → slice_index t.counts d ≤ slice_index (table_of t log).counts d
  raised-all t [] d many below = omega arith
  raised-all t (e ∷ es) d many below =
      let one = raised t e.op d (ruling_on t e.op) many below in
      let rest = raised-all (table_after t e.op) es d (many-after k t e.op many) below in
      omega (arith, one, rest)

  -- where no count rises all are refused
  pub record AllRefused (t : Contents) (log : List Entry) : Type 0 where
    pub refused : Each (λ e. accepts e.reply ≡ false) log
    pub table : table_of t log ≡ t

  all-refused : (t : Contents) (log : List Entry) → length t.counts ≡ k → IsLegalFrom t log
      → ((d : ℕ) → d < k → slice_index (table_of t log).counts d ≡ slice_index t.counts d) → AllRefused t log
  all-refused t [] many legal same = record { refused = tt; table = refl }
  all-refused t (e ∷ es) many legal same =
      by (ruling_on t e.op) refl (rules-well e.op.moment (count_of t (key_of e.op.act) + 1) e.op.act (live_at e.op.moment (t.items (key_of e.op.act))))
      (all-refused (table_after t e.op) es (many-after k t e.op many) legal.1)
    where
      by : (r : Ruling) → ruling_on t e.op ≡ r → RulesWell (count_of t (key_of e.op.act) + 1) e.op.act (live_at e.op.moment (t.items (key_of e.op.act))) r
          → (((d : ℕ) → d < k → slice_index (table_of (table_after t e.op) es).counts d
          ≡ slice_index (table_after t e.op).counts d) → AllRefused (table_after t e.op) es)
          → AllRefused t (e ∷ es)
      by (Refused reply) is well later =
          let stays : table_after t e.op ≡ t = ap (after_ruling t (key_of e.op.act)) is in
          let rest = later (λ d below. same d below ∙ sym (ap (λ (u : Contents). slice_index u.counts d) stays)) in
          record { refused = (ap accepts (legal.0 ∙ ap reply_in is) ∙ well, rest.refused); table = rest.table ∙ stays }
      by (Accepted reply leaves) is well later = absurd (omega (arith, here, most, now)) where
        below : home_of (key_of e.op.act) k < k
        below = home-below (key_of e.op.act) k some

        place : partition_of t (key_of e.op.act) ≡ home_of (key_of e.op.act) k
        place = ap (home_of (key_of e.op.act)) many

        now : slice_index (table_after t e.op).counts (home_of (key_of e.op.act) k) ≡ slice_index t.counts (home_of (key_of e.op.act) k) + 1
        now = ap (λ (r : Ruling). slice_index (after_ruling t (key_of e.op.act) r).counts (home_of (key_of e.op.act) k)) is
            ∙ ap (λ (i : ℕ). slice_index (slice_set t.counts i (slice_index t.counts i + 1)) (home_of (key_of e.op.act) k)) place
            ∙ get_or-set_same t.counts (home_of (key_of e.op.act) k) (slice_index t.counts (home_of (key_of e.op.act) k) + 1) 0 (omega (arith, many, below))

        most : slice_index (table_after t e.op).counts (home_of (key_of e.op.act) k)
            ≤ slice_index (table_of (table_after t e.op) es).counts (home_of (key_of e.op.act) k)
        most = raised-all (table_after t e.op) es (home_of (key_of e.op.act) k) (many-after k t e.op many) below

        here : slice_index (table_of (table_after t e.op) es).counts (home_of (key_of e.op.act) k) ≡ slice_index t.counts (home_of (key_of e.op.act) k)
        here = same (home_of (key_of e.op.act) k) below

-- nothing is on its way in the machine of a group at rest
module _ (s : Dimensions) (actions : List Action) (run : AreActions s actions) (rest : AreMembersAtRest (composed s actions).group) where
  shape : (composed s actions).group.shape ≡ s
  shape = honest.shape-from (opening_composed s) actions

  one-in : IsProcess s rest.one
  one-in = subst (λ (t : Dimensions). IsProcess t rest.one) shape rest.member

  same-shape : (machine (composed s actions)).shape ≡ (composed s actions).group.shape
  same-shape = draining.shape-machine s rest.named rest.one one-in rest.out actions run rest.others rest.taken

  unnamed : (x : ProcessId) → IsProcess (composed s actions).group.shape x → (composed s actions).failed x ≡ false → rest.named x ≡ false
  unnamed = draining.unnamed s rest.named rest.one one-in rest.out actions run rest.others rest.taken

  named : (x : ProcessId) → (composed s actions).failed x ≡ true → rest.named x ≡ true
  named x lost = draining.failed-named s rest.named rest.one one-in rest.out actions run rest.others rest.taken x lost

  pub drained : IsDrained (machine (composed s actions))
  drained x p xin pin other = by ((composed s actions).failed x) refl where
    member : IsProcess (composed s actions).group.shape x
    member = subst (λ (t : Dimensions). IsProcess t x) same-shape xin

    to : IsProcess (composed s actions).group.shape p
    to = subst (λ (t : Dimensions). IsProcess t p) same-shape pin.0

    lives : (composed s actions).failed p ≡ false
    lives = sym ((runs_compose s actions run).dead p to) ∙ pin.1

    by : (b : Bool) → (composed s actions).failed x ≡ b → link (machine (composed s actions)) x p ≡ []
    by false alive = draining.same-wire s rest.named rest.one one-in rest.out actions run rest.others rest.taken x p
        member to other (unnamed x member alive) (unnamed p to lives)
        ∙ rest.wires x p member to other (unnamed x member alive) (unnamed p to lives)
    by true lost = (runs_compose s actions run).notices x p member lost (record { member = to; lives = lives })
        ∙ ap (λ (b : Bool). one_or b [] (tells.Notice x ∷ [])) (rest.taken p x to (unnamed p to lives) member (named x lost))

  pub rests : Rests s (events_of (composed s actions))
  rests = record {
    run = run-is s actions run;
    drained = subst (λ (t : Dimensions). IsDrained (after t (events_of (composed s actions)))) shape drained;
    up = subst (λ (t : Dimensions). ¬ (IsDown (after t (events_of (composed s actions))))) shape (runs_compose s actions run).up;
  }

module _ (s : Dimensions) (actions more : List Action) (closed : IsClosed s actions more) where
  abbrev before : List Event
  before = events_of (composed s actions)

  made : MadeOnly Gets (composed s actions) (composed s (actions ++ more))
  made = subst (MadeOnly Gets (composed s actions)) (sym (joined (opening_composed s) actions more))
      (only-from Gets (composed s actions) more closed.behind closed.still)

  abbrev later : List Event
  later = map (λ x. x.event) made.more

  events-are : events_of (composed s (actions ++ more)) ≡ events_of (composed s actions) ++ map (λ x. x.event) made.more
  events-are = events-more s (composed s actions) made.more (composed s (actions ++ more)) made.is

  gets : Each (EventAsks Gets) (map (λ x. x.event) made.more)
  gets = each-map (EventAsks Gets) (λ x. x.event) made.more made.asks

  whole : IsRun s (events_of (composed s actions) ++ map (λ x. x.event) made.more)
  whole = subst (IsRun s) events-are (run-is s (actions ++ more) closed.run)

  first-run : AreActions s actions
  first-run = front s actions more closed.run

  at-rest : Rests s (events_of (composed s actions))
  at-rest = rests s actions first-run closed.rest

  split : (later : List Entry) × (log_made s (actions ++ more) ≡ log_made s actions ++ later)
  split = log-split s actions more

  table-is : table_left s.k (log_made s (actions ++ more)) ≡ table_of (table_left s.k (log_made s actions)) split.0
  table-is = ap (table_left s.k) split.1 ∙ table-append (empty_table s.k) (log_made s actions) split.0

  counts : (d : ℕ) → d < s.k → slice_index (table_of (table_left s.k (log_made s actions)) split.0).counts d
      ≡ slice_index (table_left s.k (log_made s actions)).counts d
  counts d below =
      ap (λ (t : Contents). slice_index t.counts d) (sym table-is ∙ ap (table_left s.k) (log-is s (actions ++ more))
      ∙ ap (λ (es : List Event). table_left s.k (after s es).log) events-are)
      ∙ same-counts s before (before ++ later) at-rest.run whole (settled-stays s before later at-rest whole gets) d below
      ∙ ap (λ (log : List Entry). slice_index (table_left s.k log).counts d) (sym (log-is s actions))

  all-are : AllRefused s.k first-run.0.k.0 (table_left s.k (log_made s actions)) split.0
  all-are = all-refused s.k first-run.0.k.0 (table_left s.k (log_made s actions)) split.0 (many-left s.k (log_made s actions))
      (legal-behind (empty_table s.k) (log_made s actions) split.0
      (subst (IsLegalFrom (empty_table s.k)) split.1 (first_log_is_legal s (actions ++ more) closed.run)))
      counts

  pub no-change : LogsNoChange s actions more
  no-change = record { later = split.0; log = split.1; refused = all-are.refused; table = table-is ∙ all-are.table }

pub closed_logs_no_change : ClosedLogsNoChange
closed_logs_no_change s actions more closed = no-change s actions more closed
