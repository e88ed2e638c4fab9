use Rattle.std.proofs.Common.{◌≡◌, ℕ, Bool, true, false, List, [], ◌∷◌, take, Option, Result, Ok, Err, OnOk, MatchResult, MatchBool, refl, subst, inl, inr}
use Rattle.edge_io.proofs.Moving.{Appends-nil}
use Rattle.edge_io.specs.Moving.{Appends}
use Rattle.edge_io.specs.Writing.{HasWritten}
use Rattle.memc_proto.specs.declared.request.Request.{Request}
use Rattle.front_end.specs.Answers.{IsCutByFault, IsRequestAnswered, stand}
use Rattle.front_end.specs.Calls.{Call, Ways, Leads}
use Rattle.front_end.specs.Faults.{CallerStandsAt, CutsNext}
use Rattle.front_end.specs.Turns.{Due, AreCallsOf, is_replied, dues_behind, dues_of, response_text}
use Rattle.front_end.specs.declared.end.ConnectionFault.{ConnectionFault}
use Rattle.front_end.specs.declared.end.ConnectionFault.TheVariants.{ReadFault, WriteFault, Want}

abbrev pub no_calls : List Call
no_calls = []

pub first-none : (told : Option ℕ) (dues : List Due) → AreCallsOf told false dues []
first-none told [] = tt
first-none told (due ∷ dues) = refl

-- nothing of a request was done
pub broken-none : {C : Type 0} (ways : Ways C) (told : Option ℕ) (before after : C) (held : List ℕ) (fault : ConnectionFault) (request : Request)
    → CallerStandsAt ways told before (dues_of request) after fault → IsCutByFault ways told (stand before held) (stand after held) fault request
broken-none ways told before after held fault request stands = record {
  calls = [];
  first = first-none told (dues_of request);
  led = before;
  leads = refl;
  stands = stands;
  count = 0;
  bytes = Appends-nil held;
}

pub stands-here : {C : Type 0} (ways : Ways C) (told : Option ℕ) (at : C) (dues : List Due) (fault : ConnectionFault)
    → CallerStandsAt ways told at dues at fault
stands-here ways told at dues ReadFault = refl
stands-here ways told at dues WriteFault = refl
stands-here ways told at dues Want = inl refl

-- the first call of a request found no memory
pub broken-wanted : {C : Type 0} (ways : Ways C) (told : Option ℕ) (before after : C) (held : List ℕ)
    (request : Request) → CutsNext ways told before (dues_of request) after
    → IsCutByFault ways told (stand before held) (stand after held) Want request
broken-wanted ways told before after held request cut = broken-none ways told before after held Want request (inr cut)

-- all calls are the first calls
first-whole : (told : Option ℕ) (dues : List Due) (calls : List Call) → AreCallsOf told true dues calls → AreCallsOf told false dues calls
first-whole told [] [] whole = tt
first-whole told [] (call ∷ calls) whole = absurd whole
first-whole told (due ∷ dues) [] whole = cc
first-whole told (due ∷ dues) (call ∷ calls) whole = (whole.0, on_reply (is_replied call) (λ rest. first-whole told dues calls rest) whole.1)
  where
    on_reply : (b : Bool) → (AreCallsOf told true dues calls → AreCallsOf told false dues calls)
        → MatchBool b (AreCallsOf told true dues calls) (calls ≡ []) → MatchBool b (AreCallsOf told false dues calls)
        (calls ≡ [])
    on_reply true more rest = more rest
    on_reply false more rest = rest

-- behind all calls of a request its text was written, or the front of it
pub written : {C : Type 0} (ways : Ways C) (told : Option ℕ) (before at : C) (held now : List ℕ) (request : Request)
    (calls : List Call) (text : List ℕ) (result : Result (Unit {0}) ConnectionFault)
    → AreCallsOf told true (dues_of request) calls → Leads ways before calls at → text ≡ response_text request calls
    → OnOk result (Appends held now text) → HasWritten held now text
    → MatchResult result (λ _. IsRequestAnswered ways told (stand before held) (stand at now) request)
    (λ fault. IsCutByFault ways told (stand before held) (stand at now) fault request)
written ways told before at held now request calls text (Ok _) are leads is whole part = record {
  calls = calls;
  whole = are;
  leads = leads;
  bytes = subst (Appends held now) is whole;
}
written ways told before at held now request calls text (Err fault) are leads is whole part = record {
  calls = calls;
  first = first-whole told (dues_of request) calls are;
  led = at;
  leads = leads;
  stands = stands-here ways told at (dues_behind (dues_of request) calls) fault;
  count = part.count;
  bytes = subst (λ (bs : List ℕ). Appends held now (take part.count bs)) is part.bytes;
}

pub ends-calls : (b : Bool) → MatchBool b (Unit {0}) (no_calls ≡ [])
ends-calls true = tt
ends-calls false = refl

-- nothing of a request was done, and there was no memory for its call
pub broken-early : {C : Type 0} (ways : Ways C) (told : Option ℕ) (at : C) (held : List ℕ) (fault : ConnectionFault)
    (request : Request) → IsCutByFault ways told (stand at held) (stand at held) fault request
broken-early ways told at held fault request = broken-none ways told at at held fault request (stands-here ways told at (dues_of request) fault)
