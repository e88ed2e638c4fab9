-- Runs of a group on its machines compose to runs of the machine.
use Rattle.std.proofs.Common.{ℕ, ◌≡◌, ◌≢◌, ◌<◌, ◌⊎◌, inl, inr, Bool, true, false, List, [], ◌∷◌, ◌++◌, Option, Some, None, refl, sym, ap, subst, ◌∙◌, arith}
use Rattle.group_types.specs.Dimensions.{Dimensions}
use Rattle.group_types.specs.Lists.{at}
use Rattle.group_types.specs.Names.{IsProcess, index_of}
use Rattle.group_types.specs.declared.process.ProcessId.{ProcessId}
use Rattle.membership.specs.Members.{knows_dead}
use Rattle.group_message.specs.declared.message.Message.{Message}
use Rattle.group_message.specs.declared.message.Message.TheVariants as tells
use Rattle.group_run.specs.Fitting.{Fits}
use Rattle.group_run.specs.Meaning.{is_dead, link, process_of}
use Rattle.group_run.specs.Process.{Process}
use Rattle.group_run.specs.World.{dead_nodes, node_in}
use Rattle.law_headline.proofs.Headlines.{fits_always, headline_always}
use Rattle.group_wire.specs.Actions.{Receive, Take}
use Rattle.group_wire.specs.Composed.{Composed, composed, events_of, opening_composed}
use Rattle.group_wire.specs.Composition.{Carried, HasNotFailed, IsComposed, IsPositioned, MisfitsNeverCome, NoticesFit, PositionsAlways, RunsCompose, machine}
use Rattle.group_wire.specs.May.{MayAct}
use Rattle.group_wire.specs.Sets.{one_or}
use Rattle.group_wire.specs.State.{AskedOf, Answered, OpenCall, Stage, TracedAt, Unasked, Unknown, gateway_of}
use Rattle.group_wire.proofs.Emptied.{emptied-after, nothing-known}
use Rattle.group_wire.proofs.Extending.{few-dead, shape-after, stands-after}
use Rattle.group_wire.proofs.Honest.{shape-from}
use Rattle.group_wire.proofs.Mirrors.{link_in}
use Rattle.group_wire.proofs.Positions.{CallFits, StageFits, asked_in}
use Rattle.group_wire.proofs.Requests.{Living, waits}
use Rattle.group_wire.proofs.Whole.{Whole, whole}

module _ (c : Composed) (h : Whole c) where
  shape : (machine c).shape ≡ c.group.shape
  shape = shape-after c.group.shape (events_of c) h.composes.makes.run

  -- the machine's process and link, in the group's shape
  pub process-same : (p : ProcessId) → process_of (machine c) p ≡ (node_in c.group.shape (machine c).nodes p).process
  process-same p = λ i. (node_in (shape i) (machine c).nodes p).process

  pub link-same : (p q : ProcessId) → link (machine c) p q ≡ link_in c.group.shape (machine c).nodes p q
  link-same p q = λ i. at [] (node_in (shape i) (machine c).nodes p).links (index_of (shape i) q)

  pub dead-same : (p : ProcessId) → is_dead (machine c) p ≡ (node_in c.group.shape (machine c).nodes p).dead
  dead-same p = λ i. (node_in (shape i) (machine c).nodes p).dead

  pub is-composed : IsComposed c
  is-composed = record {
    run = h.composes.makes.run;
    answers = h.composes.makes.answers;
    dead = λ p pin. dead-same p ∙ h.composes.mirrors.dead p pin;
    few = h.barred.lost;
    up = λ down.
        let most = few-dead c.group.shape (events_of c) h.composes.makes.run c.failed h.composes.mirrors.dead h.barred.lost in
        let past : c.group.shape.m < dead_nodes (machine c).nodes = subst (λ (t : Dimensions). t.m < dead_nodes (machine c).nodes) shape down in
        absurd (omega (arith, most, past));
    processes = λ p pl. process-same p ∙ h.composes.mirrors.process p (pl.member, pl.lives);
    links = λ p q pl ql other.
        subst (λ (l : List Message). Carried (c.group.words.cut p q) l (c.group.works.messages p q))
        (sym (link-same p q)) (h.composes.mirrors.links p q (pl.member, pl.lives) (ql.member, ql.lives) other);
    notices = λ x p xin fails pl. link-same x p ∙ h.composes.mirrors.notices x p xin fails (pl.member, pl.lives);
    gone = λ p x pl xin takes.
        let fails : c.failed x ≡ true = h.barred.permits p pl.member pl.lives x (h.barred.taken p x takes) in
        let other : x ≢ p = λ same. cc (fails, pl.lives, ap c.failed same) in
        let lives : (node_in c.group.shape (machine c).nodes p).dead ≡ false = h.composes.mirrors.dead p pl.member ∙ pl.lives in
        let none : link_in c.group.shape (machine c).nodes x p ≡ [] = h.composes.mirrors.notices x p xin fails
        (pl.member, pl.lives) ∙ ap (λ (b : Bool). one_or b [] (tells.Notice x ∷ [])) takes in
        let knows : knows_dead (node_in c.group.shape (machine c).nodes p).process.known x ≡ true =
        nothing-known x (node_in c.group.shape (machine c).nodes x).dead
        (knows_dead (node_in c.group.shape (machine c).nodes p).process.known x)
        (link_in c.group.shape (machine c).nodes x p) (stands-after c.group.shape (events_of c) h.composes.makes.run x p
        xin pl.member other lives) (h.composes.mirrors.dead x xin ∙ fails) none in
        link-same p x ∙ emptied-after c.group.shape (events_of c) h.composes.makes.run p x pl.member xin other lives knows;
    headline = headline_always c.group.shape (events_of c) h.composes.makes.run;
  }

  -- a caller's position
  pub is-positioned : (caller : ℕ) → c.failed (gateway_of c.group.shape caller) ≡ false → IsPositioned c caller
  is-positioned caller lives = by (c.group.gateways.call caller) refl (h.positioned.calls caller lives) where
    staged : (o : OpenCall) (stage : Stage) → c.group.gateways.call caller ≡ Some o → o.stage ≡ stage
        → StageFits c.group.shape c.failed (waits c.group.shape c.group.words.cut c.group.gateways.requests
        c.group.gateways.parked caller) (asked_in c caller) (c.group.gateways.next caller) o.position stage
        → IsPositioned c caller
    staged o Unasked call is f = inl f.0
    staged o Unknown call is f = inl f.0
    staged o (TracedAt x) call is f = inl f.0
    staged o (Answered t n) call is f = inl f.0
    staged o (AskedOf x) call is f = which f.2 where
      which : (asked_in c caller ≡ o.position)
          ⊎ ((asked_in c caller ≡ c.group.gateways.next caller)
          × ((z : ProcessId) → Living c.group.shape c.failed z → waits c.group.shape c.group.words.cut
          c.group.gateways.requests c.group.gateways.parked caller z ≡ 0)) → IsPositioned c caller
      which (inl same) = inr (o, x, call, is, same)
      which (inr same) = inl same.0

    by : (call : Option OpenCall) → c.group.gateways.call caller ≡ call
        → CallFits c.group.shape c.failed (waits c.group.shape c.group.words.cut c.group.gateways.requests
        c.group.gateways.parked caller) (asked_in c caller) (c.group.gateways.next caller) call
        → IsPositioned c caller
    by None is f = inl f.0
    by (Some o) is f = staged o o.stage is refl f.1

  -- a message that comes fits
  fits-at : (x p : ProcessId) (m : Message) (rest : List Message) → IsProcess c.group.shape x → HasNotFailed c p → x ≢ p
      → link_in c.group.shape (machine c).nodes x p ≡ m ∷ rest → Fits c.group.shape x m (c.group.works.process p)
  fits-at x p m rest xin pl other first =
      subst (λ (q : Process). Fits c.group.shape x m q) (process-same p ∙ h.composes.mirrors.process p (pl.member, pl.lives))
      (fits_always c.group.shape (events_of c) h.composes.makes.run x p m rest xin pl.member other
      (subst (λ (t : Dimensions). IsProcess t p) (sym shape) pl.member, dead-same p ∙ h.composes.mirrors.dead p pl.member ∙ pl.lives) (link-same x p ∙ first))

  pub received-fits : (x p : ProcessId) (m : Message) (rest : List Message) → HasNotFailed c p
      → MayAct c.group (Receive x p) → c.group.works.messages x p ≡ m ∷ rest
      → Fits c.group.shape x m (c.group.works.process p)
  received-fits x p m rest pl may is =
      let carried : Carried (c.group.words.cut x p) (link_in c.group.shape (machine c).nodes x p)
      (c.group.works.messages x p) = h.composes.mirrors.links x p (may.reads.sender, lives (c.failed x) refl)
      (pl.member, pl.lives) may.other in
      fits-at x p m (rest ++ carried.lost) may.reads.sender pl may.other (carried.is ∙ ap (λ (l : List Message). l ++ carried.lost) is)
    where
      lives : (lost : Bool) → c.failed x ≡ lost → c.failed x ≡ false
      lives false is = is
      lives true is = cc (h.barred.cut p x pl.member pl.lives is, may.reads.uncut)

  pub notice-fits : (x p : ProcessId) → HasNotFailed c p → MayAct c.group (Take x p) → Fits c.group.shape x (tells.Notice x) (c.group.works.process p)
  notice-fits x p pl may =
      let lost : c.failed x ≡ true = h.barred.permits p pl.member pl.lives x may.2 in
      fits-at x p (tells.Notice x) [] may.1 pl (λ same. cc (lost, pl.lives, ap c.failed same))
      (h.composes.mirrors.notices x p may.1 lost (pl.member, pl.lives) ∙ ap (λ (b : Bool). one_or b [] (tells.Notice x ∷ [])) may.3)

pub runs_compose : RunsCompose
runs_compose s actions run = is-composed (composed s actions) (whole s actions run)

pub positions_always : PositionsAlways
positions_always s actions caller run lives =
    is-positioned (composed s actions) (whole s actions run) caller
    (subst (λ (t : Dimensions). (composed s actions).failed (gateway_of t caller) ≡ false) (sym (shape-from (opening_composed s) actions)) lives)

pub misfits_never_come : MisfitsNeverCome
misfits_never_come s actions x p m rest run pl may is =
    subst (λ (t : Dimensions). Fits t x m ((composed s actions).group.works.process p)) (shape-from (opening_composed s) actions)
    (received-fits (composed s actions) (whole s actions run) x p m rest pl may is)

pub notices_fit : NoticesFit
notices_fit s actions x p run pl may =
    subst (λ (t : Dimensions). Fits t x (tells.Notice x) ((composed s actions).group.works.process p)) (shape-from (opening_composed s) actions)
    (notice-fits (composed s actions) (whole s actions run) x p pl may)
