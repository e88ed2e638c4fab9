-- A call that is to be asked, and is answered at once by a member that goes on, is told to its gateway.
use Rattle.std.proofs.Common.{ℕ, ◌≡◌, ◌≢◌, ◌≤◌, ◌⊎◌, inl, inr, Bool, false, List, [], ◌∷◌, ◌++◌, Option, Some, length, refl, sym, ap, subst, ◌∙◌}
use Rattle.std.proofs.lemmas.Bool.{cases_eq, eq-eqb, ne_eqb}
use Rattle.group_types.specs.Dimensions.{Dimensions}
use Rattle.group_types.specs.Each.{Each}
use Rattle.group_types.specs.Names.{IsProcess}
use Rattle.group_types.specs.declared.process.ProcessId.{ProcessId}
use Rattle.group_calls.specs.declared.event.Answer.{Answer}
use Rattle.group_calls.specs.declared.event.Answer.TheVariants as says
use Rattle.group_wire.specs.Actions.{Send, Read, Treat, Learn}
use Rattle.group_wire.specs.Composed.{Composed, composed_with}
use Rattle.group_wire.specs.GoingOn.{AnswersAtOnce, IsEnd}
use Rattle.group_wire.specs.May.{IsCaller, MayRead}
use Rattle.group_wire.specs.Sets.{Processes, changed, changed_at, changed_from, entry_at, one_or, size_of, without_nth}
use Rattle.group_wire.specs.State.{Request, AskFor, Told, Stage, Unasked, AskedOf, Answered, OpenCall, Gateways, Signs, Works, gateway_of}
use Rattle.group_wire.specs.Sending.{parked_at, sent_on, treating}
use Rattle.group_wire.specs.Serving.{call_learned, if_open, learned_first, read_first, request_treated, sends_by, stage_learned, stage_told, tell, told_of}
use Rattle.group_wire.proofs.Changes.{changed-here, changed_at-here}
use Rattle.group_wire.proofs.GoingOn.{Going, IsOther, here-other, uncut}
use Rattle.group_wire.proofs.Reaching.{Reaches, reaches-by, reaches-kept, reaches-then, reaches-weaker}

-- calls are served, and members' words and signs stay
pub record Serves (s : Dimensions) (named : Processes) (c d : Composed) : Type 0 where
  pub going : Going s named d.group
  pub words : d.group.words ≡ c.group.words
  pub signs : d.group.signs ≡ c.group.signs

pub serves-trans : (s : Dimensions) (named : Processes) (c d e : Composed) → Serves s named c d → Serves s named d e → Serves s named c e
serves-trans s named c d e one two = record { going = two.going; words = two.words ∙ one.words; signs = two.signs ∙ one.signs }

-- requests are read, and nothing else is done
pub record Keeps (s : Dimensions) (named : Processes) (c d : Composed) : Type 0 where
  pub going : Going s named d.group
  pub words : d.group.words ≡ c.group.words
  pub signs : d.group.signs ≡ c.group.signs
  pub works : d.group.works ≡ c.group.works
  pub call : d.group.gateways.call ≡ c.group.gateways.call
  pub answers : d.group.gateways.answers ≡ c.group.gateways.answers

keeps-trans : (s : Dimensions) (named : Processes) (c d e : Composed) → Keeps s named c d → Keeps s named d e → Keeps s named c e
keeps-trans s named c d e one two = record {
  going = two.going;
  words = two.words ∙ one.words;
  signs = two.signs ∙ one.signs;
  works = two.works ∙ one.works;
  call = two.call ∙ one.call;
  answers = two.answers ∙ one.answers;
}

pub sent-here : {X : Type 0} (cut : ProcessId → Processes) (wires : ProcessId → ProcessId → List X) (p q : ProcessId)
    (frame : X) → cut p q ≡ false → sent_on cut wires p q frame p q ≡ wires p q ++ frame ∷ []
sent-here cut wires p q frame uncut =
    ap (λ (row : ProcessId → List _). row q) (changed-here wires p (changed (wires p) q (one_or (cut p q) (wires p q) (wires p q ++ frame ∷ []))))
    ∙ changed-here (wires p) q (one_or (cut p q) (wires p q) (wires p q ++ frame ∷ []))
    ∙ ap (λ (b : Bool). one_or b (wires p q) (wires p q ++ frame ∷ [])) uncut

pub pair-here : {X : Type 0} (wires : ProcessId → ProcessId → List X) (p q : ProcessId) (xs : List X) → changed_from wires p q xs p q ≡ xs
pair-here wires p q xs = ap (λ (row : ProcessId → List _). row q) (changed-here wires p (changed (wires p) q xs)) ∙ changed-here (wires p) q xs

pub entry-last : {X : Type 0} (xs : List X) (x : X) → entry_at (xs ++ x ∷ []) (length xs) ≡ Some x
entry-last [] x = refl
entry-last (y ∷ xs) x = entry-last xs x

module _ (s : Dimensions) (named : Processes) (few : size_of s named ≤ s.m) where
  pub may-read : (c : Composed) → Going s named c.group → (x p : ProcessId) → IsOther s named x → IsOther s named p → MayRead c.group x p
  may-read c going x p xin pin = record {
    here = here-other s named few c.group going p pin;
    sender = subst (λ (t : Dimensions). IsProcess t x) (sym going.shape) xin.0;
    uncut = uncut s named few c.group going p x xin.1;
  }

  -- the requests of a wire are read, up to the last
  abbrev pub Parked : ProcessId → Request → Composed → Type 0
  Parked x r d = (front : List Request) × (d.group.gateways.parked x ≡ front ++ r ∷ [])

  reads : (g x : ProcessId) → IsOther s named g → IsOther s named x
      → (r : Request) (front : List Request) (c : Composed) → Going s named c.group → c.group.gateways.requests g x
      ≡ front ++ r ∷ [] → Reaches (Keeps s named) c (Parked x r)
  reads g x gin xin r [] c going is = reaches-by (Keeps s named) c (Parked x r) (Read g x) tt (may-read c going g x gin xin)
      (subst (λ (rs : List Request). Keeps s named c
      (record (composed_with c (Read g x)) {
        group = record (composed_with c (Read g x)).group {
          gateways = read_first
              g x rs c.group.gateways;
        };
      })) (sym is) kept)
      (subst (λ (rs : List Request). (front : List Request)
      × ((read_first g x rs c.group.gateways).parked x ≡ front ++ r ∷ [])) (sym is)
      (c.group.gateways.parked x, changed-here c.group.gateways.parked x (c.group.gateways.parked x ++ r ∷ [])))
    where
      kept : Keeps s named c
          (record (composed_with c (Read g x)) {
            group = record (composed_with c (Read g x)).group { gateways = read_first g x (r ∷ []) c.group.gateways };
          })
      kept = record {
        going = record { shape = going.shape; cut = going.cut; inside = going.inside; here = going.here };
        words = refl;
        signs = refl;
        works = refl;
        call = refl;
        answers = refl;
      }
  reads g x gin xin r (q ∷ front) c going is =
      reaches-then (Keeps s named) (keeps-trans s named) c (λ d. d.group.gateways.requests g x ≡ front ++ r ∷ []) (Parked x r)
      (reaches-by (Keeps s named) c (λ d. d.group.gateways.requests g x ≡ front ++ r ∷ []) (Read g x) tt (may-read c going g x gin xin)
      (subst (λ (rs : List Request). Keeps s named c
      (record (composed_with c (Read g x)) {
        group = record (composed_with c (Read g x)).group {
          gateways = read_first
              g x rs c.group.gateways;
        };
      })) (sym is) kept)
      (subst (λ (rs : List Request). (read_first g x rs c.group.gateways).requests g x ≡ front ++ r ∷ []) (sym is)
      (pair-here c.group.gateways.requests g x (front ++ r ∷ []))))
      (λ d more left. reads g x gin xin r front d more.going left)
    where
      kept : Keeps s named c
          (record (composed_with c (Read g x)) {
            group = record (composed_with c (Read g x)).group {
              gateways = read_first g x (q ∷ (front ++ r ∷ []))
                  c.group.gateways;
            };
          })
      kept = record {
        going = record { shape = going.shape; cut = going.cut; inside = going.inside; here = going.here };
        words = refl;
        signs = refl;
        works = refl;
        call = refl;
        answers = refl;
      }

  -- an answer to another call, or to another position, leaves a call as it is
  same-call : (call : ℕ → Option OpenCall) (caller : ℕ) (o : OpenCall) (u : Told) (n : ℕ) → call caller ≡ Some o
      → (u.caller ≡ caller → u.call ≢ o.position) → changed_at call u.caller (call_learned u n (call u.caller)) caller
      ≡ Some o
  same-call call caller o u n is old = by (cases_eq caller u.caller) where
    by : (caller ≡ u.caller) ⊎ (caller ≢ u.caller) → changed_at call u.caller (call_learned u n (call u.caller)) caller ≡ Some o
    by (inl same) =
        ap (λ (b : Bool). one_or b (call_learned u n (call u.caller)) (call caller)) (eq-eqb caller u.caller same)
        ∙ ap (λ (c : Option OpenCall). call_learned u n c) (ap call (sym same) ∙ is)
        ∙ ap (λ (b : Bool). Some (record o { stage = one_or b (stage_learned u n o.stage) o.stage }))
        (ne_eqb o.position u.call (λ same_call. old (sym same) (sym same_call)))
    by (inr other) = ap (λ (b : Bool). one_or b (call_learned u n (call u.caller)) (call caller)) (ne_eqb caller u.caller other) ∙ is

  -- the answers of a wire are learned, up to the last
  abbrev pub IsOld : ℕ → ℕ → Told → Type 0
  IsOld caller position u = u.caller ≡ caller → u.call ≢ position

  learns : (x g : ProcessId) → IsOther s named x → IsOther s named g → (t : Told) (o : OpenCall) (n : ℕ)
      → (o.position ≡ t.call) → stage_learned t n o.stage ≡ Answered t n
      → (front : List Told) → Each (IsOld t.caller o.position) front → (c : Composed) → Going s named c.group
      → c.group.signs.pinged g ≡ n → c.group.gateways.answers x g ≡ front ++ t ∷ [] → c.group.gateways.call t.caller
      ≡ Some o
      → Reaches (Serves s named) c (λ d. d.group.gateways.call t.caller ≡ Some (record o { stage = Answered t n }))
  learns x g xin gin t o n at ends [] old c going pings is call =
      reaches-by (Serves s named) c (λ d. d.group.gateways.call t.caller ≡ Some (record o { stage = Answered t n }))
      (Learn x g) tt (may-read c going x g xin gin)
      (record { going = record { shape = going.shape; cut = going.cut; inside = going.inside; here = going.here }; words = refl; signs = refl })
      (subst (λ (ts : List Told). (learned_first x g (c.group.signs.pinged g) ts c.group.gateways).call t.caller
      ≡ Some (record o { stage = Answered t n })) (sym is) now)
    where
      now : (learned_first x g (c.group.signs.pinged g) (t ∷ []) c.group.gateways).call t.caller ≡ Some (record o { stage = Answered t n })
      now =
          changed_at-here c.group.gateways.call t.caller (call_learned t (c.group.signs.pinged g) (c.group.gateways.call t.caller))
          ∙ ap (λ (open_call : Option OpenCall). call_learned t (c.group.signs.pinged g) open_call) call
          ∙ ap (λ (b : Bool). Some (record o { stage = one_or b (stage_learned t (c.group.signs.pinged g) o.stage) o.stage })) (eq-eqb o.position t.call at)
          ∙ ap (λ (i : ℕ). Some (record o { stage = stage_learned t i o.stage })) pings
          ∙ ap (λ (stage : Stage). Some (record o { stage = stage })) ends
  learns x g xin gin t o n at ends (u ∷ front) old c going pings is call =
      reaches-then (Serves s named) (serves-trans s named) c Next (λ d. d.group.gateways.call t.caller ≡ Some (record o { stage = Answered t n }))
      (reaches-by (Serves s named) c Next (Learn x g) tt (may-read c going x g xin gin)
      (record { going = record { shape = going.shape; cut = going.cut; inside = going.inside; here = going.here }; words = refl; signs = refl })
      (subst (λ (ts : List Told). ((learned_first x g (c.group.signs.pinged g) ts c.group.gateways).answers x g ≡ front
      ++ t ∷ []) × ((learned_first x g (c.group.signs.pinged g) ts c.group.gateways).call t.caller ≡ Some o)) (sym is)
      (pair-here c.group.gateways.answers x g (front ++ t ∷ []), same-call c.group.gateways.call t.caller o u (c.group.signs.pinged g) call old.0)))
      (λ d kept next. learns x g xin gin t o n at ends front old.1 d kept.going (ap (λ (signs : Signs). signs.pinged g) kept.signs ∙ pings) next.0 next.1)
    where
      Next : Composed → Type 0
      Next d = (d.group.gateways.answers x g ≡ front ++ t ∷ []) × (d.group.gateways.call t.caller ≡ Some o)

  -- a call is asked, treated, and learned
  module _ (caller : ℕ) (gin : IsOther s named (gateway_of s caller)) (x : ProcessId) (xin : IsOther s named x)
      (o : OpenCall) (answer : Answer) (ends : IsEnd answer) where
    abbrev pub told : ℕ → Told
    told position = record { caller = caller; call = position; traced = false; answer = answer }

    abbrev pub asked : ℕ → OpenCall
    asked position = record { op = o.op; position = position; stage = AskedOf x }

    -- it is asked
    abbrev pub Sent : ℕ → Composed → Composed → Type 0
    Sent position c d = (d.group.gateways.call caller ≡ Some (asked position))
        × (d.group.gateways.requests (gateway_of s caller) x ≡ c.group.gateways.requests (gateway_of s caller) x
        ++ AskFor caller position o.op ∷ [])
        × (d.group.gateways.answers ≡ c.group.gateways.answers) × (d.group.works ≡ c.group.works)

    sends : (c : Composed) → Going s named c.group → IsCaller c.group caller → c.group.gateways.call caller ≡ Some o
        → o.stage ≡ Unasked → Reaches (Serves s named) c (Sent (c.group.gateways.next caller) c)
    sends c going mine call stage = reaches-by (Serves s named) c (Sent (c.group.gateways.next caller) c) (Send caller x) tt
        (mine, subst (λ (t : Dimensions). IsProcess t x) (sym going.shape) xin.0)
        (record { going = record { shape = going.shape; cut = going.cut; inside = going.inside; here = going.here }; words = refl; signs = refl })
        (let now = subst IsSent (sym call) (subst (λ (stage : Stage). Is (sends_by c.group caller x o stage))
        (sym stage) (
          changed_at-here c.group.gateways.call caller (Some (asked (c.group.gateways.next caller))),
          there,
          refl,
        )) in (now.0, now.1, now.2, refl))
      where
        Is : Gateways → Type 0
        Is gw = (gw.call caller ≡ Some (asked (c.group.gateways.next caller)))
            × (gw.requests (gateway_of s caller) x ≡ c.group.gateways.requests (gateway_of s caller) x
            ++ AskFor caller (c.group.gateways.next caller) o.op ∷ []) × (gw.answers ≡ c.group.gateways.answers)

        IsSent : Option OpenCall → Type 0
        IsSent call = Is (if_open call c.group.gateways (λ o. sends_by c.group caller x o o.stage))

        there : sent_on c.group.words.cut c.group.gateways.requests (gateway_of c.group.shape caller) x
            (AskFor caller (c.group.gateways.next caller) o.op) (gateway_of s caller) x
            ≡ c.group.gateways.requests (gateway_of s caller) x ++ AskFor caller (c.group.gateways.next caller) o.op ∷ []
        there = subst (λ (t : Dimensions). sent_on c.group.words.cut c.group.gateways.requests (gateway_of t caller) x
            (AskFor caller (c.group.gateways.next caller) o.op) (gateway_of s caller) x
            ≡ c.group.gateways.requests (gateway_of s caller) x ++ AskFor caller (c.group.gateways.next caller) o.op ∷ []) (sym going.shape)
            (sent-here c.group.words.cut c.group.gateways.requests (gateway_of s caller) x
            (AskFor caller (c.group.gateways.next caller) o.op)
            (uncut s named few c.group going (gateway_of s caller) x xin.1))

    -- it is treated
    abbrev pub Treated : ℕ → Composed → Composed → Type 0
    Treated position c d = (d.group.gateways.call ≡ c.group.gateways.call)
        × (d.group.gateways.answers x (gateway_of s caller) ≡ c.group.gateways.answers x (gateway_of s caller)
        ++ told position ∷ [])

    treats : (c : Composed) → Going s named c.group → (position : ℕ) → Parked x (AskFor caller position o.op) c
        → (treating c.group.shape (AskFor caller position o.op) (c.group.works.process x)).answer ≡ answer
        → Reaches (Serves s named) c (Treated position c)
    treats c going position kept says_so = reaches-by (Serves s named) c (Treated position c) (Treat x (length kept.0))
        tt (here-other s named few c.group going x xin)
        (record { going = record { shape = going.shape; cut = going.cut; inside = going.inside; here = going.here }; words = refl; signs = refl })
        (subst (λ (r : Option Request). Is answer (request_treated c.group x (length kept.0) r)) (sym found)
        (subst (λ (a : Answer). Is answer (tell c.group x (told_of (AskFor caller position o.op) a) left)) (sym says_so) (by answer ends)))
      where
        Is : Answer → Gateways → Type 0
        Is a gw = (gw.call ≡ c.group.gateways.call)
            × (gw.answers x (gateway_of s caller) ≡ c.group.gateways.answers x (gateway_of s caller)
            ++ (record { caller = caller; call = position; traced = false; answer = a }) ∷ [])

        left : Gateways
        left = record c.group.gateways { parked = changed c.group.gateways.parked x (without_nth (c.group.gateways.parked x) (length kept.0)) }

        found : parked_at c.group x (length kept.0) ≡ Some (AskFor caller position o.op)
        found = ap (λ (rs : List Request). entry_at rs (length kept.0)) kept.1 ∙ entry-last kept.0 (AskFor caller position o.op)

        there : (t : Told) → t.caller ≡ caller → sent_on c.group.words.cut c.group.gateways.answers x
            (gateway_of c.group.shape t.caller) t x (gateway_of s caller) ≡ c.group.gateways.answers x
            (gateway_of s caller) ++ t ∷ []
        there t same =
            subst (λ (p : ProcessId). sent_on c.group.words.cut c.group.gateways.answers x p t x (gateway_of s caller)
            ≡ c.group.gateways.answers x (gateway_of s caller) ++ t ∷ [])
            (sym (ap (gateway_of c.group.shape) same ∙ ap (λ (t : Dimensions). gateway_of t caller) going.shape))
            (sent-here c.group.words.cut c.group.gateways.answers x (gateway_of s caller) t (uncut s named few c.group going x (gateway_of s caller) gin.1))

        by : (a : Answer) → IsEnd a → Is a (tell c.group x (told_of (AskFor caller position o.op) a) left)
        by (says.Reply reply) end = (refl, there (record { caller = caller; call = position; traced = false; answer = says.Reply reply }) refl)
        by says.NoSpace end = (refl, there (record { caller = caller; call = position; traced = false; answer = says.NoSpace }) refl)
        by (says.Ticket n) end = absurd end
        by says.NotYet end = absurd end
        by (says.Retry cause) end = absurd end
        by says.Moved end = absurd end
        by says.Lost end = absurd end
        by says.Down end = absurd end
        by says.Idle end = absurd end
        by says.Stranger end = absurd end
        by says.Done end = absurd end
        by says.AlreadyDead end = absurd end
        by says.Gone end = absurd end
        by (says.Stale n) end = absurd end

    answered-stage : (a : Answer) → IsEnd a → (position n : ℕ)
        → stage_told (record { caller = caller; call = position; traced = false; answer = a }) n a false
        ≡ Answered (record { caller = caller; call = position; traced = false; answer = a }) n
    answered-stage (says.Reply reply) end position n = refl
    answered-stage says.NoSpace end position n = refl
    answered-stage (says.Ticket n) end position i = absurd end
    answered-stage says.NotYet end position i = absurd end
    answered-stage (says.Retry cause) end position i = absurd end
    answered-stage says.Moved end position i = absurd end
    answered-stage says.Lost end position i = absurd end
    answered-stage says.Down end position i = absurd end
    answered-stage says.Idle end position i = absurd end
    answered-stage says.Stranger end position i = absurd end
    answered-stage says.Done end position i = absurd end
    answered-stage says.AlreadyDead end position i = absurd end
    answered-stage says.Gone end position i = absurd end
    answered-stage (says.Stale n) end position i = absurd end

    -- the call as it is answered then
    abbrev pub answered : Composed → OpenCall
    answered c = record {
      op = o.op;
      position = c.group.gateways.next caller;
      stage = Answered (told (c.group.gateways.next caller)) (c.group.signs.pinged (gateway_of s caller));
    }

    pub at-once : (c : Composed) → Going s named c.group → IsCaller c.group caller → c.group.gateways.call caller
        ≡ Some o → o.stage ≡ Unasked → AnswersAtOnce c.group caller o x answer
        → Each (IsOld caller (c.group.gateways.next caller)) (c.group.gateways.answers x (gateway_of s caller))
        → Reaches (Serves s named) c (λ d. d.group.gateways.call caller ≡ Some (answered c))
    at-once c going mine call stage now old =
        reaches-then (Serves s named) (serves-trans s named) c (Sent position c) Done (sends c going mine call stage)
        (λ d kept sent. reaches-then (Serves s named) (serves-trans s named) d (Ready d) Done
        (reaches-kept (Keeps s named) (Serves s named) d (Ready d) (λ e more. record { going = more.going; words = more.words; signs = more.signs })
        (reaches-weaker (Keeps s named) d (Parked x (AskFor caller position o.op)) (Ready d) (λ e more parked. (parked, more.call, more.answers, more.works))
        (reads (gateway_of s caller) x gin xin (AskFor caller position o.op) (c.group.gateways.requests (gateway_of s caller) x) d kept.going sent.1)))
        (λ e later ready. reaches-then (Serves s named) (serves-trans s named) e (Treated position e) Done
        (treats e later.going position ready.0
        (same-answer e.group.shape c.group.shape (later.going.shape ∙ sym going.shape) e.group.works c.group.works
        (ready.3 ∙ sent.3) ∙ now.asked))
        (λ f last treated. learns x (gateway_of s caller) xin gin (told position) (asked position) n refl
        (answered-stage answer ends position n) (c.group.gateways.answers x (gateway_of s caller)) old f last.going
        (ap (λ (signs : Signs). signs.pinged (gateway_of s caller)) (last.signs ∙ later.signs ∙ kept.signs))
        (treated.1 ∙ ap (λ (ts : List Told). ts ++ told position ∷ [])
        (ap (λ (wires : ProcessId → ProcessId → List Told). wires x (gateway_of s caller)) (ready.2 ∙ sent.2)))
        (ap (λ (calls : ℕ → Option OpenCall). calls caller) (treated.0 ∙ ready.1) ∙ sent.0))))
      where
        position : ℕ
        position = c.group.gateways.next caller

        n : ℕ
        n = c.group.signs.pinged (gateway_of s caller)

        Done : Composed → Type 0
        Done d = d.group.gateways.call caller ≡ Some (answered c)

        Ready : Composed → Composed → Type 0
        Ready d e = Parked x (AskFor caller position o.op) e × (e.group.gateways.call ≡ d.group.gateways.call)
            × (e.group.gateways.answers ≡ d.group.gateways.answers) × (e.group.works ≡ d.group.works)

        same-answer : (t u : Dimensions) → t ≡ u → (v w : Works) → v ≡ w
            → (treating t (AskFor caller position o.op) (v.process x)).answer
            ≡ (treating u (AskFor caller position o.op) (w.process x)).answer
        same-answer t u same v w is = λ i. (treating (same i) (AskFor caller position o.op) ((is i).process x)).answer
