-- What the steps of a connection ask of its gateway, one behind the other, and what is made of each end.
use Rattle.std.specs.Prelude.{ℕ, ◌≡◌, ◌≢◌, ◌<◌, ◌≤◌, ◌+◌, ◌-◌, ◌⊎◌, Bool, List, [], ◌∷◌, ◌++◌, length, Option, Some, None, Result, Err}
use Rattle.std.specs.List.{list_any}
use Rattle.edge_io.specs.Moving.{Input}
use Rattle.edge_io.specs.Writing.{HasWritten}
use Rattle.group_types.specs.declared.process.ProcessId.{ProcessId}
use Rattle.memc_table.specs.Asked.{Asked}
use Rattle.memc_proto.specs.Reader.{HasRead, ReaderState}
use Rattle.memc_proto.specs.Reads.{is_quit}
use Rattle.memc_proto.specs.Text.{fail_text, too_long_text}
use Rattle.memc_proto.specs.declared.end.CallEnd.{CallEnd}
use Rattle.memc_proto.specs.declared.end.FailEnd.{FailEnd}
use Rattle.memc_proto.specs.declared.request.Request.{Request}
use Rattle.front_end.specs.Ahead.{IsDueAhead, unneeded_of}
use Rattle.front_end.specs.Gateway.{Rules}
use Rattle.front_end.specs.Progress.{Progress}
use Rattle.front_end.specs.Settling.{IsDue, HasSettledDue, HasTold, first_text, own_text}
use Rattle.front_end.specs.declared.due.Due.TheVariants as due
use Rattle.front_end.specs.declared.end.ConnectionFault.{ConnectionFault}
use Rattle.front_end.specs.declared.end.ConnectionFault.TheVariants.{Want}
use Rattle.front_end.specs.declared.end.End.{End}
use Rattle.front_end.specs.declared.overlap.Overlap.{Overlap}
use Rattle.ready_client.specs.Calling.{IsBegunAs, HasEndOf}
use Rattle.ready_client.specs.Coming.{ComesAtGateway}
use Rattle.ready_client.specs.declared.open_call.OpenCall.{OpenCall}

-- where a connection stands at its gateway: its calls that are under way, of which the ends of the first ones may be
-- wanted no more, how it ended, and the text that was written of it
pub record ConnectionAt (G K : Type 0) : Type 0 where
  pub gateway : G
  pub connection : Progress
  pub calls : List (OpenCall K)
  pub unwanted : ℕ
  pub end : Option (Result End ConnectionFault)
  pub text : List ℕ

abbrev pub connection_at : {G K : Type 0} → G → Progress → List (OpenCall K) → ℕ
    → Option (Result End ConnectionFault) → List ℕ → ConnectionAt G K
connection_at gateway connection calls unwanted end text =
    record { gateway = gateway; connection = connection; calls = calls; unwanted = unwanted; end = end; text = text }

-- what a step does: it begins a call, takes the end of the first one, lets the first one go with its end, gives an order
-- that a process fail, tells a text that needs no call, reads, or finds no memory
pub data Asking (K : Type 0) : Type 0 where
  Begins : Asked → OpenCall K → Asking K
  Takes : OpenCall K → CallEnd → Asking K
  LetsGo : OpenCall K → CallEnd → Asking K
  Orders : ProcessId → ℕ → FailEnd → Asking K
  Tells : Asking K
  Reads : Asking K
  Wants : Asking K

-- a reader that keeps this gave requests of which one quits, or none does
pub record HasReadSo (kept : ReaderState) (quits : Bool) : Type 0 where
  pub fed : List ℕ
  pub requests : List Request
  pub has_read : HasRead kept fed requests
  pub quit : list_any is_quit requests ≡ quits

-- behind all answers stands at most what tells that a line is too long
abbrev pub Closes : List Request → List ℕ → List ℕ → Type 0
Closes waiting before after = (after ≡ before) ⊎ ((waiting ≡ []) × HasWritten before after too_long_text)

-- the most bytes that may wait to be sent where a call is begun, an order given, a text told or a piece read
abbrev pub most_unsent : ℕ
most_unsent = 262144

module _ {G K : Type 0} (rules : Rules G K) (told : Option ℕ) where
  -- it hasn't ended, and the end of its first call is wanted
  abbrev pub IsGoing : ConnectionAt G K → Type 0
  IsGoing at = (at.end ≡ None) × (at.unwanted ≡ 0)

  -- the first request is answered so, or a fault came as this text of it was written
  abbrev pub AnswersFirst : (List ℕ → List ℕ → List Request → List Request → Type 0) → List ℕ
      → ConnectionAt G K → ConnectionAt G K → Type 0
  AnswersFirst settles text before after =
      ((middle : List ℕ) × settles before.text middle before.connection.waiting after.connection.waiting
      × Closes after.connection.waiting middle after.text)
      ⊎ ((fault : ConnectionFault) × (after.end ≡ Some (Err fault)) × (after.connection ≡ before.connection)
      × HasWritten before.text after.text text)

  -- there was no memory for what is due: it wasn't asked, or what was asked left this
  abbrev pub LeftUnasked : ConnectionAt G K → G → Type 0
  LeftUnasked before after = (after ≡ before.gateway)
      ⊎ ((op : Asked) × IsDueAhead told before.connection.waiting (length before.calls) op
      × rules.ways.kept before.gateway op after)
      ⊎ ((at : ProcessId) × (keep : ℕ) × IsDue told before.connection.waiting (due.Fail at keep) × (before.calls ≡ [])
      × rules.ways.unmade before.gateway after)

module _ {G K : Type 0} (rules : Rules G K) (told : Option ℕ) (sent : List ℕ) where
  -- it is going, and of its text, of which this was sent, at most so much waits
  abbrev pub GoesFurther : ConnectionAt G K → Type 0
  GoesFurther at = (at.end ≡ None) × (at.unwanted ≡ 0) × (length at.text ≤ length sent + most_unsent)

  -- what a step makes of where the connection stood
  abbrev pub Does : Asking K → ConnectionAt G K → ConnectionAt G K → Type 0
  Does (Begins op call) before after = GoesFurther before
      × IsDueAhead told before.connection.waiting (length before.calls) op
      × IsBegunAs rules before.gateway op call after.gateway
      × (after ≡ connection_at after.gateway before.connection (before.calls ++ call ∷ []) 0 None before.text)
  Does (Takes call end) before after = IsGoing rules told before
      × (before.calls ≡ call ∷ after.calls)
      × HasEndOf rules before.gateway call end after.gateway
      × (after.unwanted ≤ unneeded_of end before.connection.waiting)
      × AnswersFirst rules told (HasSettledDue end) (first_text end before.connection.waiting) before after
  Does (LetsGo call end) before after = ((0 < before.unwanted) ⊎ (before.end ≢ None))
      × (before.calls ≡ call ∷ after.calls)
      × HasEndOf rules before.gateway call end after.gateway
      × (after ≡ connection_at after.gateway before.connection after.calls (before.unwanted - 1) before.end before.text)
  Does (Orders at keep end) before after = GoesFurther before
      × IsDue told before.connection.waiting (due.Fail at keep)
      × (before.calls ≡ [])
      × rules.ways.failed before.gateway at keep end after.gateway
      × (after ≡ connection_at after.gateway after.connection [] 0 after.end after.text)
      × AnswersFirst rules told (HasTold (fail_text end)) (fail_text end) before after
  Does Tells before after = GoesFurther before
      × IsDue told before.connection.waiting due.Text
      × (after ≡ connection_at before.gateway after.connection before.calls 0 after.end after.text)
      × AnswersFirst rules told (HasTold (own_text before.connection.waiting)) (own_text before.connection.waiting) before after
  Does Reads before after = GoesFurther before
      × (before.connection.waiting ≡ [])
      × (after ≡ connection_at before.gateway after.connection before.calls 0 after.end after.text)
      × Closes after.connection.waiting before.text after.text
  Does Wants before after = GoesFurther before
      × LeftUnasked rules told before after.gateway
      × (after ≡ connection_at after.gateway before.connection before.calls 0 (Some (Err Want)) before.text)

  -- such steps were made, one behind the other and nothing between them
  abbrev pub Did : List (Asking K) → ConnectionAt G K → ConnectionAt G K → Type 0
  Did [] before after = after ≡ before
  Did (step ∷ steps) before after = (then : ConnectionAt G K) × Does step before then × Did steps then after

  abbrev pub Asks : ConnectionAt G K → ConnectionAt G K → Type 0
  Asks before after = (steps : List (Asking K)) × Did steps before after

  -- the same where the connection had come to where it stood
  abbrev pub AsksFrom : Overlap → Input → ConnectionAt G K → ConnectionAt G K → Type 0
  AsksFrom overlap input_now before after = (input : Input) (first : G) (held : List ℕ)
      → ComesAtGateway rules overlap told input input_now first held before.gateway before.text before.connection before.calls
      before.unwanted before.end → Asks before after
