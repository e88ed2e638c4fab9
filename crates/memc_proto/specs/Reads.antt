use Rattle.std.specs.Prelude.{ℕ, ◌≡◌, Bool, true, false, List, [], ◌∷◌, ◌++◌, MatchBool}
use Rattle.memc_proto.specs.Request.{IsRequest}
use Rattle.memc_proto.specs.declared.request.Request.{Request}
use Rattle.memc_proto.specs.declared.request.Request.TheVariants.{Quit}

-- an input begins with the text of this request, and goes on so
pub record Begins (input : List ℕ) (request : Request) (after : List ℕ) : Type 0 where
  pub text : List ℕ
  pub whole : input ≡ text ++ after
  pub is : IsRequest text request

-- an input has no whole request at its front
abbrev pub HasNoRequest : List ℕ → Type 0
HasNoRequest rest = (request : Request) (after : List ℕ) → ¬ (Begins rest request after)

-- whether a request ends the connection
abbrev pub is_quit : Request → Bool
is_quit Quit = true
is_quit _ = false

-- an input is read as these requests with this rest: it is their texts, one behind the other, and
-- then the rest, which has no whole request at its front. After a quit nothing is read
abbrev pub Reads : List ℕ → List Request → List ℕ → Type 0
Reads input [] rest = (input ≡ rest) × HasNoRequest rest
Reads input (request ∷ requests) rest = (after : List ℕ) × Begins input request after
    × MatchBool (is_quit request) ((requests ≡ []) × (after ≡ rest)) (Reads after requests rest)
