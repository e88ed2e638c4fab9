use Rattle.std.specs.Prelude.{ℕ, ◌≡◌, ◌≢◌, ◌+◌, ◌<◌, List, [], ◌∷◌, ◌++◌, All, length, take, drop, if◌then◌else◌}
use Rattle.std.specs.Str.{bytes_eq}
use Rattle.memc_proto.specs.Line.{parsed_line}
use Rattle.memc_proto.specs.Store.{act_of}
use Rattle.memc_proto.specs.declared.line.Line.{Line}
use Rattle.memc_proto.specs.declared.line.Line.TheVariants.{Whole, Stores, Skips}
use Rattle.memc_proto.specs.declared.request.Refusal.TheVariants.{BadChunk}
use Rattle.memc_proto.specs.declared.request.Request.{Request}
use Rattle.memc_proto.specs.declared.request.Request.TheVariants.{Change, Refused}
use Rattle.memc_proto.specs.declared.store.Store.{Store}

-- no line end stands in the bytes
abbrev pub IsPlain : List ℕ → Type 0
IsPlain bytes = All (λ b. b ≢ 10) bytes

-- a line without its end, with which it has at most 32,768 bytes
pub record IsLine (line : List ℕ) : Type 0 where
  pub plain : IsPlain line
  pub short : length line < 32768

-- how many bytes behind its line end belong to what a line says
abbrev pub block_length : Line → ℕ
block_length (Whole _) = 0
block_length (Stores store) = store.len + 2
block_length (Skips _ len) = len

-- what a store's data block makes of it: the call with the value, if a line end is behind the value
abbrev pub store_request : Store → List ℕ → Request
store_request store block = if bytes_eq (drop store.len block) (13 ∷ 10 ∷ []) then Change
    (act_of store (take store.len block)) store.noreply else Refused BadChunk

-- the request of what a line says and the bytes behind it
abbrev pub request_of : Line → List ℕ → Request
request_of (Whole request) _ = request
request_of (Stores store) block = store_request store block
request_of (Skips refusal _) _ = Refused refusal

-- a text is one whole request: a line with its end, and the bytes that the line says belong to it
pub record IsRequest (text : List ℕ) (request : Request) : Type 0 where
  pub line : List ℕ
  pub block : List ℕ
  pub whole : text ≡ line ++ 10 ∷ block
  pub is_line : IsLine line
  pub belongs : length block ≡ block_length (parsed_line line)
  pub asks : request ≡ request_of (parsed_line line) block
