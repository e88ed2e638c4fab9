-- An answer that is learned and isn't a call's leaves that call as it is.
use Rattle.std.proofs.Common.{ℕ, ◌≡◌, ◌≢◌, ◌==◌, ◌⊎◌, inl, inr, Bool, true, false, List, [], ◌∷◌, Option, Some, None, refl, sym, ap, subst}
use Rattle.std.proofs.lemmas.Bool.{cases_eq, eq-eqb, ne_eqb}
use Rattle.group_types.specs.Hash.{home_of}
use Rattle.group_types.specs.declared.process.ProcessId.{ProcessId}
use Rattle.memc_table.specs.Act.{key_of}
use Rattle.memc_table.specs.Asked.{Asked}
use Rattle.group_calls.specs.declared.event.Answer.{Answer}
use Rattle.group_wire.specs.Sets.{changed_from, one_or}
use Rattle.group_wire.specs.State.{Request, AskFor, TraceOf, Told, Stage, Unasked, AskedOf, Unknown, TracedAt, Answered, OpenCall, Group, gateway_of}
use Rattle.group_wire.specs.Serving.{call_learned, learned_first, stage_learned, stage_told}
use Rattle.group_wire.proofs.Changes.{changed-pairs, changed_at-each}
use Rattle.wire_progress.proofs.Waits.{Answering, CallAwaited, Coming, Holding, Holds, IsAwaited, Kept, Parted, Unlost}
use Rattle.wire_progress.proofs.Waits.{View, Waits, answer_to, caller_of, told-awaited, view}

-- an answer is learned: one that isn't a call's leaves it as it is
module _ (g : Group) (y p : ProcessId) (n : ℕ) (t : Told) (rest : List Told) (is : g.gateways.answers y p ≡ t ∷ rest) where
  abbrev pub Learned : View
  Learned = record (view g) { gateways = learned_first y p n (t ∷ rest) g.gateways }

  -- where it isn't the answer, that is still there
  still : (u : Told) → u ≢ t → (a b : ProcessId) → Holds u (g.gateways.answers a b) → Holds u (changed_from g.gateways.answers y p rest a b)
  still u apart = changed-pairs (λ a b ts. Holds u (g.gateways.answers a b) → Holds u ts) g.gateways.answers y p rest
      (λ there. by (subst (Holds u) is there)) (λ a b there. there) where
        by : (u ≡ t) ⊎ Holds u rest → Holds u rest
        by (inl same) = absurd (apart same)
        by (inr there) = there

  waits-still : (x : ProcessId) (r : Request) → ((a : Answer) → answer_to r a ≢ t) → Waits g.shape (view g) x r → Waits g.shape Learned x r
  waits-still x r apart (Parted cut) = Parted cut
  waits-still x r apart (Coming there) = Coming there
  waits-still x r apart (Kept there) = Kept there
  waits-still x r apart (Holding held) = Holding held
  waits-still x r apart (Answering a there) = Answering a (still (answer_to r a) (apart a) x (gateway_of g.shape (caller_of r)) there)

  -- the stage of a call that is of another caller, or of another position
  stays : (caller position : ℕ) (op : Asked) (stage : Stage)
      → ((traced : Bool) (a : Answer)
      → ◌≢◌ {A = Told} (record { caller = caller; call = position; traced = traced; answer = a }) t)
      → IsAwaited g.shape (view g) caller position op stage → IsAwaited g.shape Learned caller position op stage
  stays caller position op (AskedOf x) apart h = (h.0, waits-still x (AskFor caller position op) (apart false) h.1)
  stays caller position op (TracedAt x) apart h = (h.0, waits-still x (TraceOf caller position (home_of (key_of op.act) g.shape.k)) (apart true) h.1)
  stays caller position op Unasked apart h = tt
  stays caller position op Unknown apart h = tt
  stays caller position op (Answered u i) apart h = h

  learned-stage : (caller position : ℕ) (op : Asked) (stage : Stage) → IsAwaited g.shape (view g) caller position op
      stage → IsAwaited g.shape Learned caller position op (stage_learned t n stage)
  learned-stage caller position op (AskedOf x) h = by t.traced refl where
    by : (b : Bool) → t.traced ≡ b → IsAwaited g.shape Learned caller position op (one_or b (AskedOf x) (stage_told t n t.answer b))
    by true traced = (h.0, waits-still x (AskFor caller position op) (λ a same. cc (ap (λ (u : Told). u.traced) same, traced)) h.1)
    by false traced = told-awaited g.shape Learned caller position op t n false
  learned-stage caller position op (TracedAt x) h = by t.traced refl where
    by : (b : Bool) → t.traced ≡ b → IsAwaited g.shape Learned caller position op (one_or b (stage_told t n t.answer b) (TracedAt x))
    by true traced = told-awaited g.shape Learned caller position op t n true
    by false traced = (
      h.0,
      waits-still x (TraceOf caller position (home_of (key_of op.act) g.shape.k))
          (λ a same. cc (ap (λ (u : Told). u.traced) same, traced)) h.1,
    )
  learned-stage caller position op Unasked h = tt
  learned-stage caller position op Unknown h = tt
  learned-stage caller position op (Answered u i) h = h

  others : (c : ℕ) → c ≢ t.caller → (call : Option OpenCall) → CallAwaited g.shape (view g) c call → CallAwaited g.shape Learned c call
  others c other None h = tt
  others c other (Some o) h = stays c o.position o.op o.stage (λ traced a same. other (ap (λ (u : Told). u.caller) same)) h

  own : (call : Option OpenCall) → CallAwaited g.shape (view g) t.caller call → CallAwaited g.shape Learned t.caller (call_learned t n call)
  own None h = tt
  own (Some o) h = by (cases_eq o.position t.call) where
    by : (o.position ≡ t.call) ⊎ (o.position ≢ t.call) → IsAwaited g.shape Learned t.caller o.position o.op
        (one_or (o.position == t.call) (stage_learned t n o.stage) o.stage)
    by (inl same) =
        subst (λ (b : Bool). IsAwaited g.shape Learned t.caller o.position o.op
        (one_or b (stage_learned t n o.stage) o.stage)) (sym (eq-eqb o.position t.call same))
        (learned-stage t.caller o.position o.op o.stage h)
    by (inr other) =
        subst (λ (b : Bool). IsAwaited g.shape Learned t.caller o.position o.op
        (one_or b (stage_learned t n o.stage) o.stage)) (sym (ne_eqb o.position t.call other))
        (stays t.caller o.position o.op o.stage (λ traced a same. other (ap (λ (u : Told). u.call) same)) h)

pub unlost-learns : (g : Group) (y p : ProcessId) (n : ℕ) (ts : List Told) → g.gateways.answers y p ≡ ts
    → Unlost g.shape (view g) → Unlost g.shape (record (view g) { gateways = learned_first y p n ts g.gateways })
unlost-learns g y p n [] is h = h
unlost-learns g y p n (t ∷ rest) is h =
    changed_at-each (λ c call. CallAwaited g.shape (Learned g y p n t rest is) c call) g.gateways.call t.caller
    (call_learned t n (g.gateways.call t.caller))
    (own g y p n t rest is (g.gateways.call t.caller) (h t.caller)) (λ c other. others g y p n t rest is c other (g.gateways.call c) (h c))
