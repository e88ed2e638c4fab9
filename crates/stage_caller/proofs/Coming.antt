-- Steps of a call, one behind the other.
use Rattle.std.proofs.Common.{rules, ℕ, ◌≡◌, ◌+◌, ◌==◌, ◌<◌, List, [], ◌∷◌, ◌++◌, refl, sym, ap, subst, ◌∙◌, arith, if◌then◌else◌, Bool, true}
use Rattle.std.proofs.lemmas.List.{append_assoc, append-nil}
use Rattle.group_types.specs.Hash.{home_of}
use Rattle.memc_table.specs.Act.{key_of}
use Rattle.memc_table.specs.Asked.{Asked}
use Rattle.memc_proto.specs.declared.end.CallEnd.{CallEnd}
use Rattle.group_calls.specs.declared.event.Answer.{Answer}
use Rattle.group_calls.specs.declared.event.Answer.TheVariants as says
use Rattle.group_calls.specs.declared.event.Event.{Event}
use Rattle.group_calls.specs.declared.event.Event.TheVariants.{Ask, Collect, Deliver, Fail, Flush, Trace}
use Rattle.group_stage.specs.Schedules.{ask_by}
use Rattle.group_stage.specs.Seated.{view_of}
use Rattle.group_stage.specs.Views.{asks_by}
use Rattle.group_stage.specs.declared.seat.Seat.{Seat}
use Rattle.group_stage.specs.declared.view.Numbered.{Numbered}
use Rattle.stage_caller.specs.Calling.{Brings, HasMovedSeat, IsCalled, IsOwnEvent, IsSameSeat, MadeNoEvent, Wish, asked_to, collected_to, traced_to, wish_of}
use Rattle.stage_caller.specs.Moving.{HasStepped, StepLeads, WasAskedBefore}
use Rattle.stage_caller.specs.declared.phase.Next.{Next}
use Rattle.stage_caller.specs.declared.phase.Next.TheVariants.{Ends, Goes}
use Rattle.stage_caller.specs.declared.phase.Phase.{Phase}
use Rattle.stage_caller.specs.declared.step.Step.{Step}
use Rattle.stage_caller.specs.declared.step.Step.TheVariants as steps

pub asks-append : (c : ℕ) (xs ys : List Numbered) → asks_by c (xs ++ ys) ≡ asks_by c xs + asks_by c ys
asks-append c [] ys = omega arith
asks-append c (x ∷ xs) ys = let more = asks-append c xs ys in omega (arith, more)

brings-append : (wish : Wish) (n : ℕ) (next middle last : Next) (xs ys : List Numbered) → Brings wish n next xs middle
    → Brings wish (n + asks_by wish.caller xs) middle ys last → Brings wish n next (xs ++ ys) last
brings-append wish n next middle last [] ys first more =
    subst (λ (a : Next). Brings wish n a ys last) first (subst (λ (k : ℕ). Brings wish k middle ys last) (omega arith) more)
brings-append wish n (Goes phase) middle last (x ∷ xs) ys first more = (
  first.0,
  first.1,
  brings-append wish (n + ask_by wish.caller x.event) first.0 middle last xs ys first.2
      (subst (λ (k : ℕ). Brings wish k middle ys last) (omega arith) more),
)
brings-append wish n (Ends end) middle last (x ∷ xs) ys first more = absurd first

-- where a call that waits waits for an ask before
abbrev pub InTime : ℕ → Next → Type 0
InTime n (Goes phase) = WasAskedBefore n phase
InTime n (Ends end) = Unit {0}

own-ask : (c : ℕ) (op : Asked) (p : _) → ask_by c (Ask c op p) ≡ 1
own-ask c op p = ap (λ (b : Bool). if b then 1 else 0) same where
  same : (c == c) ≡ true
  same = search rules

asked-in : (n : ℕ) (a : Answer) → InTime (n + 1) (asked_to n a)
asked-in n (says.Reply reply) = tt
asked-in n (says.Ticket number) = omega arith
asked-in n says.NotYet = tt
asked-in n says.NoSpace = tt
asked-in n (says.Retry cause) = tt
asked-in n says.Moved = tt
asked-in n says.Lost = tt
asked-in n says.Down = tt
asked-in n says.Idle = tt
asked-in n says.Stranger = tt
asked-in n says.Done = tt
asked-in n says.AlreadyDead = tt
asked-in n says.Gone = tt
asked-in n (says.Stale number) = tt

collected-in : (n k : ℕ) (a : Answer) → k < n → InTime n (collected_to k a)
collected-in n k (says.Reply reply) low = tt
collected-in n k (says.Ticket number) low = low
collected-in n k says.NotYet low = low
collected-in n k says.NoSpace low = low
collected-in n k (says.Retry cause) low = low
collected-in n k says.Moved low = low
collected-in n k says.Lost low = low
collected-in n k says.Down low = tt
collected-in n k says.Idle low = low
collected-in n k says.Stranger low = low
collected-in n k says.Done low = low
collected-in n k says.AlreadyDead low = low
collected-in n k says.Gone low = low
collected-in n k (says.Stale number) low = low

traced-in : (n k : ℕ) (a : Answer) → k < n → InTime n (traced_to k a)
traced-in n k (says.Reply reply) low = tt
traced-in n k (says.Ticket number) low = low
traced-in n k says.NotYet low = low
traced-in n k says.NoSpace low = low
traced-in n k (says.Retry cause) low = low
traced-in n k says.Moved low = low
traced-in n k says.Lost low = low
traced-in n k says.Down low = tt
traced-in n k says.Idle low = low
traced-in n k says.Stranger low = low
traced-in n k says.Done low = low
traced-in n k says.AlreadyDead low = low
traced-in n k says.Gone low = tt
traced-in n k (says.Stale number) low = low

own-in : (wish : Wish) (n : ℕ) (phase : Phase) (e : Event) (a : Answer) (next : Next) → IsOwnEvent wish n phase e a next
    → WasAskedBefore n phase → InTime (n + ask_by wish.caller e) next
own-in wish n phase (Ask caller op p) a next own time =
    subst (InTime (n + ask_by wish.caller (Ask caller op p))) (sym own.3)
    (subst (λ (k : ℕ). InTime (n + k) (asked_to n a)) (sym (ap (λ (c : ℕ). ask_by wish.caller (Ask c op p)) own.1 ∙ own-ask wish.caller op p)) (asked-in n a))
own-in wish n phase (Collect caller call p) a next own time =
    subst (InTime (n + 0)) (sym own.2) (collected-in (n + 0) call a (low (subst (WasAskedBefore n) own.0 time))) where
      low : call < n → call < n + 0
      low is = omega (arith, is)
own-in wish n phase (Trace caller call d p) a next own time =
    subst (InTime (n + 0)) (sym own.3) (traced-in (n + 0) call a (low (subst (WasAskedBefore n) own.0 time))) where
      low : call < n → call < n + 0
      low is = omega (arith, is)
own-in wish n phase (Deliver from to) a next own time = subst (InTime (n + 0)) (sym own) (subst (λ (k : ℕ). WasAskedBefore k phase) (omega arith) time)
own-in wish n phase (Fail p keep) a next own time = absurd own
own-in wish n phase (Flush p) a next own time = absurd own

brings-in : (wish : Wish) (n : ℕ) (next last : Next) (xs : List Numbered) → Brings wish n next xs last → InTime n next
    → InTime (n + asks_by wish.caller xs) last
brings-in wish n next last [] brings time = subst (InTime (n + 0)) (sym brings) (subst (λ (k : ℕ). InTime k next) (omega arith) time)
brings-in wish n (Goes phase) last (x ∷ xs) brings time =
    subst (λ (k : ℕ). InTime k last) (omega arith)
    (brings-in wish (n + ask_by wish.caller x.event) brings.0 last xs brings.2 (own-in wish n phase x.event x.answer brings.0 brings.1 time))
brings-in wish n (Ends end) last (x ∷ xs) brings time = absurd brings

-- how often a seat asked, behind these events
asks-more : (before after : Seat) (xs : List Numbered) → IsSameSeat before after
    → (view_of after).made ≡ (view_of before).made ++ xs → after.asks ≡ before.asks + asks_by before.caller xs
asks-more before after xs same made =
    after.is_seat.asked ∙ ap (λ (c : ℕ). asks_by c (view_of after).made) same.caller ∙ ap (asks_by before.caller) made
    ∙ asks-append before.caller (view_of before).made xs ∙ ap (λ (n : ℕ). n + asks_by before.caller xs) (sym before.is_seat.asked)

pub same-wish : (before after : Seat) (op : Asked) → IsSameSeat before after → wish_of after op ≡ wish_of before op
same-wish before after op same =
    ap (λ (c : ℕ). record { caller = c; op = op; home = home_of (key_of op.act) (view_of after).shape.k }) same.caller
    ∙ ap (λ (k : ℕ). record { caller = before.caller; op = op; home = home_of (key_of op.act) k }) (ap (λ (s : _). s.k) same.shape)

pub come-none : (before : Seat) (op : Asked) (start : Phase) → HasMovedSeat before op start before (Goes start)
come-none before op start = record {
  same = record { table = refl; shape = refl; caller = refl };
  events = [];
  made = sym (append-nil (view_of before).made);
  brings = refl;
}

pub come-more : (before middle after : Seat) (op : Asked) (start phase : Phase) (step : Step) → HasMovedSeat before op start middle (Goes phase)
    → (s : HasStepped (wish_of middle op) phase middle step after) → HasMovedSeat before op start after s.last
come-more before middle after op start phase step come s = record {
  same = record { table = s.same.table ∙ come.same.table; shape = s.same.shape ∙ come.same.shape; caller = s.same.caller ∙ come.same.caller };
  events = come.events ++ s.events;
  made = s.made ∙ ap (λ (xs : List Numbered). xs ++ s.events) come.made ∙ append_assoc (view_of before).made come.events s.events;
  brings = brings-append (wish_of before op) before.asks (Goes start) (Goes phase) s.last come.events s.events come.brings
      (subst (λ (w : Wish). Brings w (before.asks + asks_by before.caller come.events) (Goes phase) s.events s.last) (same-wish before middle op come.same)
      (subst (λ (n : ℕ). Brings (wish_of middle op) n (Goes phase) s.events s.last) (asks-more before middle come.events come.same come.made) s.brings));
}

pub come-paused : (before middle after : Seat) (op : Asked) (start : Phase) (last : Next)
    → HasMovedSeat before op start middle last → MadeNoEvent middle after → HasMovedSeat before op start after last
come-paused before middle after op start last come paused = record {
  same = record { table = paused.same.table ∙ come.same.table; shape = paused.same.shape ∙ come.same.shape; caller = paused.same.caller ∙ come.same.caller };
  events = come.events;
  made = paused.made ∙ come.made;
  brings = come.brings;
}

pub come-asked : (before after : Seat) (op : Asked) (start phase : Phase) → WasAskedBefore before.asks start
    → HasMovedSeat before op start after (Goes phase) → WasAskedBefore after.asks phase
come-asked before after op start phase asked come = subst (λ (n : ℕ). WasAskedBefore n phase) (sym (asks-more before after come.events come.same come.made))
    (brings-in (wish_of before op) before.asks (Goes start) (Goes phase) come.events come.brings asked)

pub come-goes : (before middle after : Seat) (op : Asked) (start phase next : Phase) (step : Step) (heard : _)
    → step ≡ steps.Goes next heard → HasMovedSeat before op start middle (Goes phase)
    → HasStepped (wish_of middle op) phase middle step after → HasMovedSeat before op start after (Goes next)
come-goes before middle after op start phase next step heard is come s =
    subst (HasMovedSeat before op start after) (subst (StepLeads middle after s.last) is s.leads).0 (come-more before middle after op start phase step come s)

pub called : (before middle after : Seat) (op : Asked) (start phase : Phase) (step : Step) (end : CallEnd)
    → step ≡ steps.Ends end → HasMovedSeat before op start middle (Goes phase)
    → HasStepped (wish_of middle op) phase middle step after → IsCalled before op start end after
called before middle after op start phase step end is come s = record {
  last = s.last;
  come = come-more before middle after op start phase step come s;
  over = subst (StepLeads middle after s.last) is s.leads;
}
