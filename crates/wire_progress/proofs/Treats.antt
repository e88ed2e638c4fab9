-- A request that is treated gets its answer, or its call is held; and a held call that is handed out gets it then.
use Rattle.std.proofs.Common.{ℕ, ◌≡◌, ◌≢◌, ◌⊎◌, inl, inr, List, [], ◌∷◌, Option, Some, None, Contains, refl, sym, ap, subst, ◌∙◌}
use Rattle.std.specs.List.{range_with_len}
use Rattle.group_types.specs.Hash.{home_of}
use Rattle.group_types.specs.declared.process.ProcessId.{ProcessId}
use Rattle.group_types.proofs.Names.{same-cases}
use Rattle.memc_table.specs.Act.{key_of}
use Rattle.group_calls.specs.declared.event.Answer.{Answer}
use Rattle.group_calls.specs.declared.event.Answer.TheVariants as says
use Rattle.group_calls.specs.declared.event.Event.TheVariants as event
use Rattle.group_run.specs.Applying.{head_at, held_at}
use Rattle.group_run.specs.Asking.{CallStep, collect_from}
use Rattle.group_run.specs.Process.{Held, Process}
use Rattle.law_causes.specs.Calls.{IsCollected}
use Rattle.law_causes.proofs.Lasting.{KeptOr, has-ask, has-collect}
use Rattle.group_wire.specs.Sets.{changed, entry_at, without_nth}
use Rattle.group_wire.specs.State.{Request, AskFor, TraceOf, Told, Gateways, Group, gateway_of}
use Rattle.group_wire.specs.Sending.{parked_at, treating, works_treated}
use Rattle.group_wire.specs.Serving.{handed_to, request_treated, tell, told_of}
use Rattle.group_wire.proofs.Changes.{changed-each, changed-here, changed-other}
use Rattle.wire_progress.proofs.Tells.{tell-answers, tell-call, tell-parked, tell-requests, ticket-held, told-or, told-waits}
use Rattle.wire_progress.proofs.Waits.{Answering, Coming, Holding, Holds, IsHeld, Keeps, Kept, Parted, Unlost, View}
use Rattle.wire_progress.proofs.Waits.{Waits, answer_to, caller_of, held-changed, holds-without, unlost-kept, view}

-- a request is treated: it gets its answer, or its call is held
module _ (g : Group) (p : ProcessId) (place : ℕ) (r : Request) (is : parked_at g p place ≡ Some r) where
  abbrev made : CallStep
  made = treating g.shape r (g.works.process p)

  abbrev left : Gateways
  left = record g.gateways { parked = changed g.gateways.parked p (without_nth (g.gateways.parked p) place) }

  abbrev pub Treated : View
  Treated = record { cut = g.words.cut; process = changed g.works.process p made.step.process; gateways = tell g p (told_of r made.answer) left }

  more : (e : ℕ) (y : Held) → Contains (held_at (g.works.process p) e) y → Contains (held_at made.step.process e) y
  more e y there = by r where
    by : (r : Request) → Contains (held_at (treating g.shape r (g.works.process p)).step.process e) y
    by (AskFor caller call op) = has-ask g.shape e y (record { caller = caller; call = call }) op
        (home_of (key_of op.act) g.shape.k) (g.works.process p)
        (head_at (g.works.process p) (home_of (key_of op.act) g.shape.k)) there
    by (TraceOf caller call d) = there

  treated-waits : Waits g.shape Treated p r
  treated-waits = by (told-or r made.answer) where
    by : ((n : ℕ) × (made.answer ≡ says.Ticket n)) ⊎ (told_of r made.answer ≡ answer_to r made.answer ∷ []) → Waits g.shape Treated p r
    by (inl (n, ticket)) =
        Holding (subst (λ (q : Process). IsHeld g.shape q r) (sym (changed-here g.works.process p made.step.process))
        (ticket-held g.shape n r (g.works.process p) ticket))
    by (inr one) =
        subst (λ (ts : List Told).
        Waits g.shape (record {
          cut = g.words.cut;
          process = changed g.works.process p made.step.process;
          gateways = tell g p ts left;
        }) p r) (sym one)
        (told-waits g p (changed g.works.process p made.step.process) left r made.answer)

  left-or : (q : Request) (x : ProcessId) → Holds q (g.gateways.parked x)
      → Holds q (changed g.gateways.parked p (without_nth (g.gateways.parked p) place) x) ⊎ ((x ≡ p) × (r ≡ q))
  left-or q x there = changed-each (λ z rs. Holds q (g.gateways.parked z) → Holds q rs ⊎ ((z ≡ p) × (r ≡ q)))
      g.gateways.parked p (without_nth (g.gateways.parked p) place)
      (λ there. by (holds-without q (g.gateways.parked p) place there)) (λ z _ there. inl there) x there
    where
      some-same : {a b : Request} → Some a ≡ Some b → a ≡ b
      some-same {a} same = ap (λ (o : Option Request). elim o [ None ↦ a | Some y ↦ y ]) same

      by : (entry_at (g.gateways.parked p) place ≡ Some q) ⊎ Holds q (without_nth (g.gateways.parked p) place)
          → Holds q (without_nth (g.gateways.parked p) place) ⊎ ((p ≡ p) × (r ≡ q))
      by (inl same) = inr (refl, some-same (sym is ∙ same))
      by (inr there) = inl there

  treated-kept : Keeps g.shape (view g) Treated
  treated-kept x q (Parted apart) = Parted apart
  treated-kept x q (Coming there) =
      Coming (subst (λ (w : ProcessId → ProcessId → List Request). Holds q (w (gateway_of g.shape (caller_of q)) x))
      (sym (tell-requests g p (told_of r made.answer) left)) there)
  treated-kept x q (Kept there) = by (left-or q x there) where
    by : Holds q (changed g.gateways.parked p (without_nth (g.gateways.parked p) place) x) ⊎ ((x ≡ p) × (r ≡ q)) → Waits g.shape Treated x q
    by (inl still) = Kept (subst (λ (w : ProcessId → List Request). Holds q (w x)) (sym (tell-parked g p (told_of r made.answer) left)) still)
    by (inr (here, same)) = subst (λ (y : ProcessId). Waits g.shape Treated y q) (sym here) (subst (Waits g.shape Treated p) same treated-waits)
  treated-kept x q (Holding held) = Holding (held-changed g.shape g.works.process p made.step.process more x q held)
  treated-kept x q (Answering a there) = Answering a (tell-answers g p (told_of r made.answer) left (answer_to q a) x (gateway_of g.shape (caller_of q)) there)

pub unlost-treated : (g : Group) (p : ProcessId) (place : ℕ) (r : Option Request) → parked_at g p place ≡ r → Unlost g.shape (view g)
    → Unlost g.shape (record { cut = g.words.cut; process = (works_treated g.shape g.words.cut p r g.works).process; gateways = request_treated g p place r })
unlost-treated g p place None is h = h
unlost-treated g p place (Some r) is h = unlost-kept g.shape (view g) (Treated g p place r is) (treated-kept g p place r is)
    (tell-call g p (told_of r (treating g.shape r (g.works.process p)).answer) (left g p place r is)) h

-- a held call is handed out: its answer is told
module _ (g : Group) (caller call : ℕ) (p : ProcessId) where
  abbrev handed : CallStep
  handed = collect_from caller call (g.works.process p) (range_with_len 0 g.shape.k)

  abbrev pub Collected : View
  Collected = record {
    cut = g.words.cut;
    process = changed g.works.process p handed.step.process;
    gateways = tell g p (handed_to caller call handed.answer) g.gateways;
  }

  -- what was held is held, or was handed out
  held-or : (q : Request) → IsHeld g.shape (g.works.process p) q → Waits g.shape Collected p q
  held-or (TraceOf who n d) none = absurd none
  held-or (AskFor who n op) (y, there, whose, which) =
      by (has-collect g.shape (home_of (key_of op.act) g.shape.k) y caller call p p refl g.shape.k 0 (g.works.process p)
      there) where
        told : (a : Answer) → IsCollected (event.Collect caller call p) p y a
            → Waits g.shape (record {
              cut = g.words.cut;
              process = changed g.works.process p handed.step.process;
              gateways = tell g p (handed_to caller call a) g.gateways;
            }) p (AskFor who n op)
        told (says.Reply reply) (same, one, two) =
            subst (λ (m : ℕ).
            Waits g.shape (record {
              cut = g.words.cut;
              process = changed g.works.process p handed.step.process;
              gateways = tell g p (answer_to (AskFor m call op) (says.Reply reply) ∷ []) g.gateways;
            }) p
            (AskFor who n op)) (sym whose ∙ one)
            (subst (λ (m : ℕ).
            Waits g.shape (record {
              cut = g.words.cut;
              process = changed g.works.process p handed.step.process;
              gateways = tell g p (answer_to (AskFor who m op) (says.Reply reply) ∷ []) g.gateways;
            }) p (AskFor who n op))
            (sym which ∙ two)
            (told-waits g p (changed g.works.process p handed.step.process) g.gateways (AskFor who n op) (says.Reply reply)))
        told (says.Ticket i) none = absurd none
        told says.NotYet none = absurd none
        told says.NoSpace none = absurd none
        told (says.Retry cause) none = absurd none
        told says.Moved none = absurd none
        told says.Lost none = absurd none
        told says.Down none = absurd none
        told says.Idle none = absurd none
        told says.Stranger none = absurd none
        told says.Done none = absurd none
        told says.AlreadyDead none = absurd none
        told says.Gone none = absurd none
        told (says.Stale i) none = absurd none

        by : KeptOr g.shape (home_of (key_of op.act) g.shape.k) y caller call p p refl handed.step.process handed.answer
            → Waits g.shape Collected p (AskFor who n op)
        by (inl still) =
            Holding (subst (λ (q : Process). IsHeld g.shape q (AskFor who n op))
            (sym (changed-here g.works.process p handed.step.process)) (y, still, whose, which))
        by (inr collected) = told handed.answer collected

  collected-kept : Keeps g.shape (view g) Collected
  collected-kept x q (Parted apart) = Parted apart
  collected-kept x q (Coming there) =
      Coming (subst (λ (w : ProcessId → ProcessId → List Request). Holds q (w (gateway_of g.shape (caller_of q)) x))
      (sym (tell-requests g p (handed_to caller call handed.answer) g.gateways)) there)
  collected-kept x q (Kept there) =
      Kept (subst (λ (w : ProcessId → List Request). Holds q (w x))
      (sym (tell-parked g p (handed_to caller call handed.answer) g.gateways)) there)
  collected-kept x q (Answering a there) =
      Answering a (tell-answers g p (handed_to caller call handed.answer) g.gateways (answer_to q a) x
      (gateway_of g.shape (caller_of q)) there)
  collected-kept x q (Holding held) = by (same-cases x p) where
    by : (x ≡ p) ⊎ (x ≢ p) → Waits g.shape Collected x q
    by (inl same) = subst (λ (y : ProcessId). Waits g.shape Collected y q) (sym same)
        (held-or q (subst (λ (y : ProcessId). IsHeld g.shape (g.works.process y) q) same held))
    by (inr other) = Holding (subst (λ (z : Process). IsHeld g.shape z q) (sym (changed-other g.works.process p x handed.step.process other)) held)

pub unlost-collected : (g : Group) (caller call : ℕ) (p : ProcessId) → Unlost g.shape (view g) → Unlost g.shape (Collected g caller call p)
unlost-collected g caller call p h = unlost-kept g.shape (view g) (Collected g caller call p) (collected-kept g caller call p)
    (tell-call g p (handed_to caller call (collect_from caller call (g.works.process p) (range_with_len 0 g.shape.k)).answer) g.gateways) h
