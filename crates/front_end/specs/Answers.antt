-- Requests that are answered: their calls lead the caller on, and their text is written.
use Rattle.std.specs.Prelude.{ℕ, ◌≡◌, ◌⊎◌, Bool, true, false, List, [], ◌∷◌, ◌++◌, take, Option, Result, MatchResult}
use Rattle.edge_io.specs.Moving.{Appends}
use Rattle.memc_table.specs.Asked.{Asked}
use Rattle.memc_table.specs.declared.act.Act.{Act}
use Rattle.memc_table.specs.declared.act.Act.TheVariants.{Get}
use Rattle.memc_proto.specs.Reader.{IsTooLong}
use Rattle.memc_proto.specs.Text.{too_long_text}
use Rattle.memc_proto.specs.declared.end.CallEnd.{CallEnd}
use Rattle.memc_proto.specs.declared.request.Request.{Request}
use Rattle.front_end.specs.Calls.{Call, Ways, LeadsBy, Leads}
use Rattle.front_end.specs.Faults.{CallerStandsAt}
use Rattle.front_end.specs.Turns.{Exchange, Acts, IsMoment, IsDueCall, AreCallsOf, AreWhole, dues_behind, dues_of}
use Rattle.front_end.specs.Turns.{is_replied, key_text, response_text, calls_in, exchanges_text, requests_in}
use Rattle.front_end.specs.declared.end.ConnectionFault.{ConnectionFault}

-- where a connection stands: its caller, and the bytes that its sink took
pub record Stand (C : Type 0) : Type 0 where
  pub caller : C
  pub held : List ℕ

abbrev pub stand : {C : Type 0} → C → List ℕ → Stand C
stand caller held = record { caller = caller; held = held }

-- what is written behind the answers: nothing, or at a line that is too long the front of its text
abbrev pub IsClosing : List ℕ → List ℕ → Type 0
IsClosing rest more = (more ≡ []) ⊎ (IsTooLong rest × ((count : ℕ) × (more ≡ take count too_long_text)))

module _ {C : Type 0} (ways : Ways C) (told : Option ℕ) where
  -- a call of this act was made, and ended so
  pub record IsActMade (before after : C) (asked : Act) (end : CallEnd) : Type 0 where
    pub op : Asked
    pub act_is : op.act ≡ asked
    pub moment : IsMoment told op.moment
    pub made : ways.made before op end after

  -- a key of a get was asked, and the text of its call is written
  pub record IsKeyAnswered (before after : Stand C) (with_cas : Bool) (key : List ℕ)
      (replied : Bool) : Type 0 where
    pub call : Call
    pub is_call : IsDueCall told (Acts (Get key)) call
    pub leads : LeadsBy ways before.caller call after.caller
    pub bytes : Appends before.held after.held (key_text with_cas key call)
    pub replied_is : replied ≡ is_replied call

  -- a request was answered
  pub record IsRequestAnswered (before after : Stand C) (request : Request) : Type 0 where
    pub calls : List Call
    pub whole : AreCallsOf told true (dues_of request) calls
    pub leads : Leads ways before.caller calls after.caller
    pub bytes : Appends before.held after.held (response_text request calls)

  -- a fault came while a request was answered: it made the first of its calls, and the front of their text is written
  pub record IsCutByFault (before after : Stand C) (fault : ConnectionFault) (request : Request) : Type 0 where
    pub calls : List Call
    pub first : AreCallsOf told false (dues_of request) calls
    pub led : C
    pub leads : Leads ways before.caller calls led
    pub stands : CallerStandsAt ways told led (dues_behind (dues_of request) calls) after.caller fault
    pub count : ℕ
    pub bytes : Appends before.held after.held (take count (response_text request calls))

  -- requests were answered in order, and behind their text this was written
  pub record AreAnswered (before after : Stand C) (requests : List Request) (more : List ℕ) : Type 0 where
    pub turns : List Exchange
    pub asked : requests_in turns ≡ requests
    pub whole : AreWhole told turns
    pub leads : Leads ways before.caller (calls_in turns) after.caller
    pub bytes : Appends before.held after.held (exchanges_text turns ++ more)

  -- a fault came while one of the requests was answered, all before it being answered, the first at least
  pub record AreBroken (before after : Stand C) (fault : ConnectionFault)
      (first requests : List Request) : Type 0 where
    pub next : List Request
    pub request : Request
    pub others : List Request
    pub given : requests ≡ first ++ next ++ request ∷ others
    pub middle : Stand C
    pub answered : AreAnswered before middle (first ++ next) []
    pub broken : IsCutByFault middle after fault request

  -- what came of requests that are answered in order
  abbrev pub ComesOfAll : Stand C → Stand C → List Request → Result (Unit {0}) ConnectionFault → Type 0
  ComesOfAll before after requests result =
      MatchResult result (λ _. AreAnswered before after requests []) (λ fault. AreBroken before after fault [] requests)

  -- a fault came while requests were answered, or behind their answers
  abbrev pub AreHalted : Stand C → Stand C → ConnectionFault → List Request → List Request → List ℕ → Type 0
  AreHalted before after fault first requests rest =
      AreBroken before after fault first requests ⊎ ((more : List ℕ) × IsClosing rest more × AreAnswered before after requests more)
