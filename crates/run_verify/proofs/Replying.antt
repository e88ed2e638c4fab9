-- What the answer of an event is judged by.
use Rattle.std.specs.Borrow.{Bor}
use Rattle.std.specs.Prelude.{Result, Ok, Err, IfOk, OnOk}
use Rattle.std.proofs.Common.{◌≡◌, ◌≢◌, ℕ, Bool, true, false, List, ◌∷◌, ◌++◌, codes, Option, Some, None, inl, inr, refl, sym, ap, ◌∙◌, subst, arith}
use Rattle.std.proofs.lemmas.List.{append_cancel_left}
use Rattle.memc_table.specs.declared.reply.Reply.{Reply}
use Rattle.group_calls.specs.Turns.{CallName}
use Rattle.group_calls.specs.Within.{IsTaken}
use Rattle.group_calls.specs.declared.event.Answer.{Answer}
use Rattle.group_calls.specs.declared.event.Answer.TheVariants as answered
use Rattle.group_calls.specs.declared.event.Cause.TheVariants.{Pending, Block}
use Rattle.group_calls.specs.declared.event.Event.{Event}
use Rattle.group_calls.specs.declared.event.Event.TheVariants as happens
use Rattle.scenario_text.specs.Texts.{answer_text, reply_words}
use Rattle.transcript_text.specs.Forms.{FitsAnswer, FitsReply, MayAnswer, kind_of_event}
use Rattle.transcript_text.specs.Texts.{IsSaid}
use Rattle.transcript_text.specs.declared.answer.Said.TheVariants as said
use Rattle.run_verify.specs.Judging.{IsAnswerJudged, IsTextThere, Judges, TellsReplyTo}
use Rattle.run_verify.specs.Passing.{Account, IsAnswerRight, IsEntryThere, IsReplyTo, LogsAhead, TellsAnswer, after_event, entry_front, logged_reply}
use Rattle.run_verify.specs.Passing.{next_call_name, takes_effect}

-- the third byte of a line
abbrev third : List ℕ → ℕ
third (a ∷ b ∷ c ∷ rest) = c
third _ = 0

-- only a reply's line begins with `reply `
no_reply : (line text other : List ℕ) → line ≡ other → line ≡ codes "reply " ++ text → third other ≢ 112 → ⊥
no_reply line text other is l differs = differs (ap third (sym is ∙ l))

-- the same reply, told by its text
there-of : (o : Option Reply) (name : CallName) (r : Reply) (text : List ℕ) (ahead : List (List ℕ)) → FitsReply r
    → reply_words r ≡ text → IsEntryThere o name r ahead → IsTextThere o (entry_front name) text ahead
there-of (Some logged) name r text ahead fits same is = (subst FitsReply (sym is) fits, ap reply_words is ∙ same)
there-of None name r text ahead fits same is = subst (λ (t : List ℕ). LogsAhead (entry_front name) t ahead) same is

tells-of : (a : Account) (e : Event) (r : Reply) (text : List ℕ) (ahead : List (List ℕ)) → FitsReply r
    → reply_words r ≡ text → IsReplyTo a e r ahead → TellsReplyTo a e text ahead
tells-of a (happens.Ask caller op at) r text ahead fits same is = subst (λ (t : List ℕ). LogsAhead (entry_front (next_call_name a caller)) t ahead) same is
tells-of a (happens.Collect caller call at) r text ahead fits same is =
    there-of (logged_reply a (record { caller = caller; call = call })) (record { caller = caller; call = call }) r text
    ahead fits same is
tells-of a (happens.Trace caller call partition at) r text ahead fits same is =
    there-of (logged_reply a (record { caller = caller; call = call })) (record { caller = caller; call = call }) r text
    ahead fits same is
tells-of a e r text ahead fits same is = absurd is

-- a reply with this text that is right
abbrev HasRight : Account → Event → List ℕ → List (List ℕ) → Type 0
HasRight a e text ahead = (r : Reply) × FitsReply r × (reply_words r ≡ text) × IsReplyTo a e r ahead

right-there : (o : Option Reply) (name : CallName) (r : Reply) (text : List ℕ) (ahead : List (List ℕ)) → FitsReply r
    → reply_words r ≡ text → IsTextThere o (entry_front name) text ahead
    → (x : Reply) × FitsReply x × (reply_words x ≡ text) × IsEntryThere o name x ahead
right-there (Some logged) name r text ahead fits same is = (logged, is.0, is.1, refl)
right-there None name r text ahead fits same is = (r, fits, same, subst (λ (t : List ℕ). LogsAhead (entry_front name) t ahead) (sym same) is)

has-right : (a : Account) (e : Event) (r : Reply) (text : List ℕ) (ahead : List (List ℕ)) → FitsReply r
    → reply_words r ≡ text → TellsReplyTo a e text ahead → HasRight a e text ahead
has-right a (happens.Ask caller op at) r text ahead fits same is =
    (r, fits, same, subst (λ (t : List ℕ). LogsAhead (entry_front (next_call_name a caller)) t ahead) (sym same) is)
has-right a (happens.Collect caller call at) r text ahead fits same is =
    right-there (logged_reply a (record { caller = caller; call = call })) (record { caller = caller; call = call }) r
    text ahead fits same is
has-right a (happens.Trace caller call partition at) r text ahead fits same is =
    right-there (logged_reply a (record { caller = caller; call = call })) (record { caller = caller; call = call }) r
    text ahead fits same is
has-right a e r text ahead fits same is = absurd is

-- no answer that the event can have has the line
pub none_said : (a : Account) (e : Event) (line : List ℕ) (ahead : List (List ℕ)) → IsSaid (kind_of_event e) line None
    → (next : Account) → ¬ (IsAnswerJudged a e line ahead next)
none_said a e line ahead none next (answer, is, same) = none answer is.can is.fits (sym is.text)

-- an answer whose line begins with `reply ` is that reply
only_reply : (a : Account) (e : Event) (line text : List ℕ) (ahead : List (List ℕ)) (answer : Answer)
    → line ≡ codes "reply " ++ text → TellsAnswer a e line ahead answer → TellsReplyTo a e text ahead
only_reply a e line text ahead (answered.Reply r) l is =
    tells-of a e r text ahead is.fits (append_cancel_left (codes "reply ") (reply_words r) text (sym is.text ∙ l))
    is.right
only_reply a e line text ahead (answered.Retry (Pending d n)) l is = absurd (no_reply line text _ is.text l (λ same. omega (arith, same)))
only_reply a e line text ahead (answered.Retry (Block b)) l is = absurd (no_reply line text _ is.text l (λ same. omega (arith, same)))
only_reply a e line text ahead answer l is = absurd (no_reply line text _ is.text l (λ same. omega (arith, same)))

-- a reply was said, with this text
module _ (a : Account) (e : Event) (line : List ℕ) (ahead : List (List ℕ)) (text : Bor (List ℕ))
    (says : IsSaid (kind_of_event e) line (Some (said.Reply text))) where
  the-line : line ≡ codes "reply " ++ text.now
  the-line = let (answer, may, fits, same, (r, is, word)) = says in sym same ∙ ap answer_text is ∙ ap (λ (t : List ℕ). codes "reply " ++ t) word

  pub not_replied : ¬ (TellsReplyTo a e text.now ahead) → (next : Account) → ¬ (IsAnswerJudged a e line ahead next)
  not_replied wrong next (answer, is, same) = wrong (only_reply a e line text.now ahead answer the-line is)

  pub replied : TellsReplyTo a e text.now ahead → IsAnswerJudged a e line ahead (after_event a e true)
  replied tells =
      let (answer, may, fits, same, (r, is, word)) = says in
      let (x, x_fits, x_text, right) = has-right a e r text.now ahead (subst FitsAnswer is fits) word tells in (
        answered.Reply x,
        record {
          can = subst (MayAnswer (kind_of_event e)) is may;
          fits = x_fits;
          text = the-line
              ∙ ap (λ (t : List ℕ). codes "reply " ++ t) (sym x_text);
          right = right;
        },
        refl,
      )

-- a ticket, or another answer, was said
right-else : (a : Account) (e : Event) (answer : Answer) (ahead : List (List ℕ)) → ((r : Reply) → answer ≢ answered.Reply r) → IsAnswerRight a e answer ahead
right-else a e (answered.Reply r) ahead other = absurd (other r refl)
right-else a e answer ahead other = tt

taken-else : (answer : Answer) → ¬ (IsTaken answer) → takes_effect answer ≡ false
taken-else (answered.Reply r) other = absurd (other (inl (r, refl)))
taken-else (answered.Ticket n) other = absurd (other (inr (n, refl)))
taken-else answer other = refl

pub ticket_said : (a : Account) (e : Event) (line : List ℕ) (ahead : List (List ℕ))
    → IsSaid (kind_of_event e) line (Some said.Ticket) → IsAnswerJudged a e line ahead (after_event a e true)
ticket_said a e line ahead (answer, may, fits, same, (n, is)) = (
  answered.Ticket n,
  record {
    can = subst (MayAnswer (kind_of_event e)) is may;
    fits = subst FitsAnswer is fits;
    text = sym same ∙ ap answer_text is;
    right = tt;
  },
  refl,
)

pub other_said : (a : Account) (e : Event) (line : List ℕ) (ahead : List (List ℕ))
    → IsSaid (kind_of_event e) line (Some said.Other) → IsAnswerJudged a e line ahead (after_event a e false)
other_said a e line ahead (answer, may, fits, same, other) = (
  answer,
  record {
    can = may;
    fits = fits;
    text = sym same;
    right = right-else a e answer ahead (λ r is. other (inl (r, is)));
  },
  ap (after_event a e) (sym (taken-else answer other)),
)

-- what was done is good
pub judged : {X E : Type 0} (Good : X → Type 0) (now x : X) (result : Result Bool E) → IfOk result (λ goes. goes ≡ true)
    → OnOk result (now ≡ x) → Good x → Judges Good now result
judged Good now x (Ok true) goes is good = subst Good (sym is) good
judged Good now x (Ok false) goes is good = absurd (cc goes)
judged Good now x (Err e) goes is good = tt
