-- What is delivered in a group that a run led to.
use Rattle.std.proofs.Common.{ℕ, ◌≡◌, ◌≢◌, ◌<◌, ◌≤◌, Bool, false, IsTrue, nat_lt, List, ◌∷◌, refl, sym, ap, subst, ◌∙◌, arith}
use Rattle.std.proofs.lemmas.List.Elements.{All-weaker}
use Rattle.std.proofs.lemmas.Grind.{common_steps}
use Rattle.group_types.specs.Dimensions.{Dimensions}
use Rattle.group_types.specs.Names.{IsProcess}
use Rattle.group_types.specs.declared.process.ProcessId.{ProcessId}
use Rattle.group_types.specs.declared.process.ProcessId.TheVariants.{DataNode}
use Rattle.group_message.specs.declared.message.Message.{Message}
use Rattle.group_message.specs.declared.message.Message.TheVariants as tells
use Rattle.group_calls.specs.Log.{IsLegal}
use Rattle.group_run.specs.Fitting.{Fits}
use Rattle.group_run.specs.Headline.{AgreeOnStamp, Headline}
use Rattle.group_run.specs.Keeping.{NodesKnowDown}
use Rattle.group_run.specs.Meaning.{IsDown, Lives, link, process_of}
use Rattle.group_run.specs.Process.{Node}
use Rattle.group_run.specs.World.{World, dead_nodes, process_node}
use Rattle.group_run.specs.Replica.{last_of}
use Rattle.group_run.specs.Rows.{parity_number}
use Rattle.law_moves.proofs.Downs.{words_always}
use Rattle.law_headline.proofs.Headlines.{fits_always, headline_always}
use Rattle.law_answers.specs.Deliveries.{FirstsAreFor, IsFor, KnowsFewDead, OwnMarksStarted}
use Rattle.law_answers.proofs.Addressing.{kinds_always}
use Rattle.law_answers.proofs.Deaths.{few_dead_always}
use Rattle.law_answers.proofs.OwnMarks.{own_marks_always}
use Rattle.group_node.specs.Delivering.{Comes}
use Rattle.group_node.specs.Standing.{NodeStanding}
use Rattle.leader_role.specs.Sound.{IsOfGroup}
use Rattle.group_run.specs.Shown.{process_stamp, stamp_of}
use Rattle.group_core.specs.Runs.{HasHeadline, HasRun}
use Rattle.group_core.specs.Seats.{IsKnownLow}
use Rattle.group_core.proofs.Runs.{named, numbers-low}

less-word : (m n : ℕ) → (IsTrue (nat_lt m n) → m < n) × (m < n → IsTrue (nat_lt m n))
less-word m n = ((λ yes. grind (arith, common_steps)), (λ less. grind (arith, common_steps)))

module _ (w : World) (has : HasRun w) where
  pub word-is : (p : ProcessId) → IsProcess w.shape p → (process_node w p).down ≡ nat_lt w.shape.m (dead_nodes w.nodes)
  word-is = subst NodesKnowDown (sym has.is) (words_always w.shape has.events has.run)

  pub told-down : (b : Bool) → b ≡ (process_node w (DataNode 0)).down → (IsTrue b → IsDown w) × (IsDown w → IsTrue b)
  told-down b is = subst (λ (x : Bool). (IsTrue x → IsDown w) × (IsDown w → IsTrue x))
      (sym (is ∙ word-is (DataNode 0) has.run.0.k.0)) (less-word w.shape.m (dead_nodes w.nodes))

  headline : Headline w.shape has.events
  headline = headline_always w.shape has.events has.run

  pub has-headline : HasHeadline w
  has-headline = record { led = has; headline = headline }

  pub log-legal : IsLegal w.shape.k w.log
  log-legal = subst (λ (v : World). IsLegal w.shape.k v.log) (sym has.is) headline.one_log.legal

  pub agree-on-stamp : ¬ (IsDown w) → AgreeOnStamp w
  agree-on-stamp = subst (λ (v : World). ¬ (IsDown v) → AgreeOnStamp v) (sym has.is) headline.agree

  -- what a node shows is what its process shows in the group
  pub stamp-read : (p : ProcessId) → IsProcess w.shape p → (n : NodeStanding) → n.shape ≡ w.shape → n.node ≡ process_node w p
      → process_stamp n.shape n.node.process.name n.node.process ≡ stamp_of w p
  stamp-read p pin n shape same =
      let name : n.node.process.name ≡ p = ap (λ (x : Node). x.process.name) same ∙ named w has p pin in
      (λ i. process_stamp (shape i) (name i) (same i).process)

  up : (p : ProcessId) → IsProcess w.shape p → (process_node w p).down ≡ false → ¬ (IsDown w)
  up p pin is down =
      let word : (process_node w p).down ≡ nat_lt w.shape.m (dead_nodes w.nodes) = word-is p pin in
      let above : w.shape.m < dead_nodes w.nodes = down in
      let is_up : nat_lt w.shape.m (dead_nodes w.nodes) ≡ false = sym word ∙ is in
      grind (arith, common_steps)

  -- the first message of each link into a living process fits it
  abbrev FirstsFit : Dimensions → World → Type 0
  FirstsFit s v = (from to : ProcessId) (m : Message) (rest : List Message) → IsProcess s from → IsProcess s to → from ≢ to → Lives v to
      → link v from to ≡ m ∷ rest → Fits s from m (process_of v to)

  fit : FirstsFit w.shape w
  fit = subst (FirstsFit w.shape) (sym has.is) (fits_always w.shape has.events has.run)

  module _ (from to : ProcessId) (m : Message) (rest : List Message) (fin : IsProcess w.shape from) (tin : IsProcess w.shape to) (apart : from ≢ to)
      (named : (process_of w to).name ≡ to) (is_up : (process_node w to).down ≡ false) (lives : (process_node w to).dead ≡ false)
      (first : link w from to ≡ m ∷ rest) where
    of-group : (x : Message) → m ≡ x → IsOfGroup w.shape x (process_of w to)
    of-group (tells.Notice dead) is =
        (subst (λ (v : World). ¬ (IsDown v) → KnowsFewDead w.shape v) (sym has.is) (few_dead_always w.shape has.events has.run))
        (up to tin is_up) from to dead rest fin tin apart (tin, lives) (subst (λ (x : Message). link w from to ≡ x ∷ rest) is first)
    of-group (tells.Mark session r block d n) is = λ own.
        (subst (OwnMarksStarted w.shape) (sym has.is) (own_marks_always w.shape has.events has.run))
        from to session r block d n rest fin tin apart (tin, lives) (subst (λ (x : Message). link w from to ≡ x ∷ rest) is first) (own ∙ ap parity_number named)
    of-group (tells.Update r d u stable) is = tt
    of-group (tells.Ack r d n) is = tt
    of-group (tells.Stable r d n) is = tt
    of-group (tells.Adopt r d base list) is = tt
    of-group (tells.ReadBlock session block rows) is = tt
    of-group (tells.Block session bytes n) is = tt
    of-group (tells.Row session bytes stamp) is = tt
    of-group (tells.Cease upto) is = tt

    pub first-comes : Comes w.shape from m (process_of w to)
    first-comes = record {
      fits = fit from to m rest fin tin apart (tin, lives) first;
      kind = subst (λ (p : ProcessId). IsFor p m) (sym named)
          ((subst (FirstsAreFor w.shape) (sym has.is) (kinds_always w.shape has.events has.run)) from to m rest fin tin apart (tin, lives) first);
      group = of-group m refl;
    }

  pub known-low : w.events < 4611686018427387904 → (p : ProcessId) → IsProcess w.shape p → (process_node w p).dead ≡ false
      → IsKnownLow (process_node w p).process
  known-low few p pin lives = record {
    updates = All-weaker (λ r. last_of r ≤ w.events) (λ r. last_of r < 4611686018427387904)
        (λ r low. omega (arith, low, few)) (process_of w p).replicas ((numbers-low w has).updates p (pin, lives));
    sessions = let low = (numbers-low w has).sessions p (pin, lives) in omega (arith, low, few);
  }
