-- All that a member tests of a message holds of whatever comes to one that hasn't failed.
use Rattle.std.proofs.Common.{◌≡◌, ◌≢◌, ◌≤◌, Bool, true, false, List, [], ◌∷◌, ◌++◌, refl, sym, ap, subst, ◌∙◌}
use Rattle.group_types.specs.Dimensions.{Dimensions}
use Rattle.group_types.specs.Each.{Each}
use Rattle.group_types.specs.Names.{IsProcess}
use Rattle.group_types.specs.declared.process.ProcessId.{ProcessId}
use Rattle.group_types.proofs.Eaches.{each-left, each-weaker}
use Rattle.membership.specs.Members.{count_known_dead, knows_dead, with_dead}
use Rattle.group_message.specs.declared.message.Message.{Message}
use Rattle.group_message.specs.declared.message.Message.TheVariants as tells
use Rattle.group_run.specs.Meaning.{Lives, link, process_of}
use Rattle.group_run.specs.Process.{Process}
use Rattle.group_run.specs.Rows.{parity_number}
use Rattle.group_run.specs.World.{node_in}
use Rattle.law_moves.specs.Known.{is_notice}
use Rattle.law_moves.proofs.Members.{IsPlain, Stands}
use Rattle.law_answers.specs.Deliveries.{IsFor}
use Rattle.law_answers.proofs.Addressing.{kinds_always}
use Rattle.law_answers.proofs.Deaths.{few_dead_always}
use Rattle.law_answers.proofs.OwnMarks.{own_marks_always}
use Rattle.group_wire.specs.Actions.{Receive, Take}
use Rattle.group_wire.specs.Composed.{Composed, composed, events_of, opening_composed}
use Rattle.group_wire.specs.Composition.{Carried, HasNotFailed, machine}
use Rattle.group_wire.specs.May.{MayAct}
use Rattle.group_wire.specs.NoMisfits.{IsNoMisfit, IsOfGroupUp, MeetsNoMisfit, NoMisfitsAtAll}
use Rattle.group_wire.specs.Sets.{one_or}
use Rattle.group_wire.proofs.Compositions.{dead-same, is-composed, link-same, notice-fits, process-same, received-fits}
use Rattle.group_wire.proofs.Extending.{named-after, shape-after, stands-after, unknown-after}
use Rattle.group_wire.proofs.Honest.{shape-from}
use Rattle.group_wire.proofs.Mirrors.{link_in}
use Rattle.group_wire.proofs.Whole.{Whole, whole}

module _ (c : Composed) (h : Whole c) (p : ProcessId) (pl : HasNotFailed c p) where
  lives : Lives (machine c) p
  lives = (
    subst (λ (t : Dimensions). IsProcess t p)
        (sym (shape-after c.group.shape (events_of c) h.composes.makes.run)) pl.member,
    (is-composed c h).dead p pl.member
        ∙ pl.lives,
  )

  process : process_of (machine c) p ≡ c.group.works.process p
  process = (is-composed c h).processes p pl

  name : (c.group.works.process p).name ≡ p
  name = ap (λ (q : Process). q.name) (sym process ∙ process-same c h p) ∙ named-after c.group.shape (events_of c) h.composes.makes.run p pl.member

  -- whoever it hasn't cut hasn't failed
  living : (x : ProcessId) → c.group.words.cut p x ≡ false → c.failed x ≡ false
  living x uncut = by (c.failed x) refl where
    by : (lost : Bool) → c.failed x ≡ lost → c.failed x ≡ false
    by false is = is
    by true is = cc (h.barred.cut p x pl.member pl.lives is, uncut)

  -- what stands first on a link of the machine comes as in a group that is up
  comes : (x : ProcessId) (m : Message) (rest : List Message) → IsProcess c.group.shape x → x ≢ p
      → link (machine c) x p ≡ m ∷ rest → IsFor (c.group.works.process p).name m
      × IsOfGroupUp c.group.shape m (c.group.works.process p)
  comes x m rest xin other first = (
    subst (λ (q : ProcessId). IsFor q m) (sym name) (kinds_always c.group.shape (events_of c) h.composes.makes.run x
        p m rest xin pl.member other lives first),
    by m first,
  ) where
    by : (m : Message) → link (machine c) x p ≡ m ∷ rest → IsOfGroupUp c.group.shape m (c.group.works.process p)
    by (tells.Notice dead) first = subst (λ (q : Process). count_known_dead (with_dead q.known dead) ≤ c.group.shape.m) process
        (few_dead_always c.group.shape (events_of c) h.composes.makes.run (is-composed c h).up x p dead rest xin pl.member other lives first)
    by (tells.Mark session r block d n) first = λ own. subst (λ (q : Process). session.number ≤ q.as_leader.last_session) process
        (own_marks_always c.group.shape (events_of c) h.composes.makes.run x p session r block d n rest xin pl.member
        other lives first (own ∙ ap parity_number name))
    by (tells.Update r d u stable) first = tt
    by (tells.Stable r d n) first = tt
    by (tells.Ack r d n) first = tt
    by (tells.Adopt r d base list) first = tt
    by (tells.ReadBlock session block rows) first = tt
    by (tells.Block session bytes n) first = tt
    by (tells.Row session bytes stamp) first = tt
    by (tells.Cease upto) first = tt

  carried : (x : ProcessId) → IsProcess c.group.shape x → x ≢ p → c.group.words.cut p x ≡ false
      → Carried (c.group.words.cut x p) (link (machine c) x p) (c.group.works.messages x p)
  carried x xin other uncut = (is-composed c h).links x p (record { member = xin; lives = living x uncut }) pl other

  received : (x : ProcessId) (m : Message) (rest : List Message) → MayAct c.group (Receive x p)
      → c.group.works.messages x p ≡ m ∷ rest → IsNoMisfit c.group.shape x m (c.group.works.process p)
  received x m rest may is =
      let on : Carried (c.group.words.cut x p) (link (machine c) x p) (c.group.works.messages x p) = carried x may.reads.sender may.other may.reads.uncut in
      let both = comes x m (rest ++ on.lost) may.reads.sender may.other (on.is ∙ ap (λ (l : List Message). l ++ on.lost) is) in
      record { fits = received-fits c h x p m rest pl may is; kind = both.0; group = both.1 }

  taken : (x : ProcessId) → MayAct c.group (Take x p) → IsNoMisfit c.group.shape x (tells.Notice x) (c.group.works.process p)
  taken x may =
      let lost : c.failed x ≡ true = h.barred.permits p pl.member pl.lives x may.2 in
      let both = comes x (tells.Notice x) [] may.1 (λ same. cc (lost, pl.lives, ap c.failed same))
      ((is-composed c h).notices x p may.1 lost pl ∙ ap (λ (b : Bool). one_or b [] (tells.Notice x ∷ [])) may.3) in
      record { fits = notice-fits c h x p pl may; kind = both.0; group = both.1 }

  plain : (x : ProcessId) → IsProcess c.group.shape x → x ≢ p → c.group.words.cut p x ≡ false
      → Each (λ m. (dead : ProcessId) → m ≢ tells.Notice dead) (c.group.works.messages x p)
  plain x xin other uncut =
      let on : Carried (c.group.words.cut x p) (link (machine c) x p) (c.group.works.messages x p) = carried x xin other uncut in
      let all : IsPlain (link_in c.group.shape (machine c).nodes x p) =
      subst (λ (b : Bool). Stands x b false (link_in c.group.shape (machine c).nodes x p))
      (sym (dead-same c h x) ∙ (is-composed c h).dead x xin ∙ living x uncut)
      (subst (λ (b : Bool). Stands x (node_in c.group.shape (machine c).nodes x).dead b (link_in c.group.shape (machine c).nodes x p)) unknown
      (stands-after c.group.shape (events_of c) h.composes.makes.run x p xin pl.member other dead-p)) in
      each-weaker (λ (m : Message). is_notice m ≡ false) (λ (m : Message). (dead : ProcessId) → m ≢ tells.Notice dead)
      (λ m no dead same. cc (no, ap is_notice same)) (c.group.works.messages x p)
      (each-left (λ (m : Message). is_notice m ≡ false) (c.group.works.messages x p) on.lost (subst IsPlain (sym (link-same c h x p) ∙ on.is) all))
    where
      dead-p : (node_in c.group.shape (machine c).nodes p).dead ≡ false
      dead-p = sym (dead-same c h p) ∙ (is-composed c h).dead p pl.member ∙ pl.lives

      unknown : knows_dead (node_in c.group.shape (machine c).nodes p).process.known x ≡ false
      unknown = unknown-after c.group.shape (events_of c) h.composes.makes.run p x pl.member xin other dead-p
          (sym (dead-same c h x) ∙ (is-composed c h).dead x xin ∙ living x uncut)

  meets-none : MeetsNoMisfit c.group.shape c p
  meets-none = record { received = received; taken = taken; plain = plain }

pub no_misfits_at_all : NoMisfitsAtAll
no_misfits_at_all s actions p run pl =
    subst (λ (t : Dimensions). MeetsNoMisfit t (composed s actions) p) (shape-from (opening_composed s) actions)
    (meets-none (composed s actions) (whole s actions run) p pl)
