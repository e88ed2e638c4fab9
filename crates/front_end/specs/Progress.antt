-- What a connection keeps between two pieces, and what one step of answering makes of the requests that wait.
use Rattle.std.specs.Prelude.{ℕ, ◌≡◌, ◌⊎◌, Bool, true, false, List, [], ◌∷◌, drop, Option, Some, None, Result, Ok, Err}
use Rattle.edge_io.specs.Moving.{Appends}
use Rattle.edge_io.specs.Writing.{HasWritten}
use Rattle.memc_proto.specs.Reader.{IsTooLong, ReaderState}
use Rattle.memc_proto.specs.Text.{too_long_text}
use Rattle.memc_proto.specs.declared.request.Request.{Request}
use Rattle.memc_proto.specs.declared.request.Request.TheVariants.{Get}
use Rattle.front_end.specs.Answers.{Stand, IsRequestAnswered, IsCutByFault, IsKeyAnswered}
use Rattle.front_end.specs.Calls.{Ways}
use Rattle.front_end.specs.declared.end.ConnectionFault.{ConnectionFault}
use Rattle.front_end.specs.declared.end.ConnectionFault.TheVariants.{ReadFault}
use Rattle.front_end.specs.declared.end.End.{End}
use Rattle.front_end.specs.declared.end.End.TheVariants as ends

-- what the reader keeps, the requests that were read and aren't answered, whether a quit was read with them, and how many
-- bytes were taken. A get of which the first keys are answered waits as the get of the others
pub record Progress : Type 0 where
  pub kept : ReaderState
  pub waiting : List Request
  pub quits : Bool
  pub count : ℕ

-- a request of which the first n keys are answered
abbrev pub behind : ℕ → Request → Request
behind n (Get keys with_cas) = Get (drop n keys) with_cas
behind n request = request

-- requests of which the first n keys of the first are answered
abbrev pub waiting_behind : ℕ → List Request → List Request
waiting_behind n [] = []
waiting_behind n (request ∷ others) = behind n request ∷ others

module _ {C : Type 0} (ways : Ways C) (told : Option ℕ) where
  -- the first key of a get was answered by a reply, and the get of the others waits
  pub record IsKeyTaken (before after : Stand C) (request next : Request) : Type 0 where
    pub key : List ℕ
    pub keys : List (List ℕ)
    pub with_cas : Bool
    pub request_is : request ≡ Get (key ∷ keys) with_cas
    pub answered : IsKeyAnswered ways told before after with_cas key true
    pub next_is : next ≡ Get keys with_cas

  -- the first of the requests that waited was answered, or its first key was
  abbrev pub HasAnsweredNext : Stand C → Stand C → List Request → List Request → Type 0
  HasAnsweredNext before after [] now = ⊥
  HasAnsweredNext before after (request ∷ others) now =
      (IsRequestAnswered ways told before after request × (now ≡ others)) ⊎ ((next : Request) × IsKeyTaken before after request next × (now ≡ next ∷ others))

  -- a fault came at the first of the requests that waited
  abbrev pub BreaksAt : Stand C → Stand C → ConnectionFault → List Request → Type 0
  BreaksAt before after fault [] = ⊥
  BreaksAt before after fault (request ∷ others) = IsCutByFault ways told before after fault request

-- whether a connection of which all requests are answered ends, by its quits and the rest that was read, and what was written
abbrev pub EndsConnection : Bool → List ℕ → List ℕ → List ℕ → Result (Option End) ConnectionFault → Type 0
EndsConnection quits rest before now (Ok (Some ends.Quit)) = (quits ≡ true) × (now ≡ before)
EndsConnection quits rest before now (Ok (Some ends.LineTooLong)) = (quits ≡ false) × IsTooLong rest × Appends before now too_long_text
EndsConnection quits rest before now (Ok (Some ends.Ended)) = ⊥
EndsConnection quits rest before now (Ok (Some ends.Cut)) = ⊥
EndsConnection quits rest before now (Ok (Some ends.Worn)) = ⊥
EndsConnection quits rest before now (Ok None) = (quits ≡ false) × (¬ (IsTooLong rest)) × (now ≡ before)
EndsConnection quits rest before now (Err ReadFault) = ⊥
EndsConnection quits rest before now (Err fault) = (quits ≡ false) × IsTooLong rest × HasWritten before now too_long_text
