use Rattle.std.proofs.Common.{◌≡◌, ◌≢◌, ℕ, ◌<◌, false, List, [], ◌∷◌, ◌++◌, length, get_or, append_assoc, add-zero, refl, sym, ap, ◌∙◌, subst, arith}
use Rattle.std.proofs.lemmas.List.{length-append, get_or-append-add, get_or-take, length-take}
use Rattle.std.proofs.lemmas.List.Elements.{All-tail}
use Rattle.memc_proto.specs.Line.{parsed_line}
use Rattle.memc_proto.specs.Reader.{Waits, IsTooLong, StandsFor, is_ended}
use Rattle.memc_proto.specs.Reads.{Begins, HasNoRequest}
use Rattle.memc_proto.specs.Request.{IsPlain, block_length, request_of}
use Rattle.memc_proto.specs.declared.line.Line.{Line}
use Rattle.memc_proto.specs.declared.line.Line.TheVariants.{Stores, Skips}
use Rattle.memc_proto.specs.declared.mode.Mode.{Mode}
use Rattle.memc_proto.specs.declared.mode.Mode.TheVariants.{InLine, InBlock, Skipping, TooLong, Ended}
use Rattle.memc_proto.specs.declared.request.Request.{Request}

not_plain : (x : List ℕ) (bs : List ℕ) → IsPlain (10 ∷ bs) → ⊥
not_plain x bs plain = plain 0 0 (omega arith) refl

-- two texts with one line end each are one where their lines are plain
pub line_ends : (a b x y : List ℕ) → IsPlain a → IsPlain b → a ++ 10 ∷ x ≡ b ++ 10 ∷ y → (a ≡ b) × (x ≡ y)
line_ends [] [] x y plain other same = (refl, cc)
line_ends [] (n ∷ b) x y plain other same = absurd (let e : n ≡ 10 = cc in other 0 0 (omega arith) e)
line_ends (m ∷ a) [] x y plain other same = absurd (let e : m ≡ 10 = cc in plain 0 0 (omega arith) e)
line_ends (m ∷ a) (n ∷ b) x y plain other same =
    let first : m ≡ n = cc in
    let rest : a ++ 10 ∷ x ≡ b ++ 10 ∷ y = cc in
    let tail = line_ends a b x y (All-tail (λ (k : ℕ). k ≢ 10) m a plain) (All-tail (λ (k : ℕ). k ≢ 10) n b other) rest in
    (rw (first, tail.0) refl, tail.1)

-- what an input that begins with a request looks like
begins_line : (input : List ℕ) (request : Request) (after : List ℕ) (b : Begins input request after) → input ≡ b.is.line ++ 10 ∷ (b.is.block ++ after)
begins_line input request after b = b.whole ∙ ap (λ (t : List ℕ). t ++ after) b.is.whole ∙ append_assoc b.is.line (10 ∷ b.is.block) after

-- an input begins with one request at most
pub begins-once : (input : List ℕ) (r s : Request) (x y : List ℕ) → Begins input r x → Begins input s y → (r ≡ s) × (x ≡ y)
begins-once input r s x y one other =
    let same : one.is.line ++ 10 ∷ (one.is.block ++ x) ≡ other.is.line ++ 10 ∷ (other.is.block ++ y) =
    sym (begins_line input r x one) ∙ begins_line input s y other in
    let parts = line_ends one.is.line other.is.line (one.is.block ++ x) (other.is.block ++ y) one.is.is_line.plain other.is.is_line.plain same in
    let long : length one.is.block ≡ length other.is.block = one.is.belongs
    ∙ ap (λ (line : List ℕ). block_length (parsed_line line)) parts.0 ∙ sym other.is.belongs in
    let blocks = cut_same one.is.block other.is.block x y long parts.1 in (
      one.is.asks ∙ ap (λ (line : List ℕ). request_of (parsed_line line) one.is.block) parts.0
          ∙ ap (λ (block : List ℕ). request_of (parsed_line other.is.line) block) blocks.0 ∙ sym other.is.asks,
      blocks.1,
    )
  where
    cut_same : (a b x y : List ℕ) → length a ≡ length b → a ++ x ≡ b ++ y → (a ≡ b) × (x ≡ y)
    cut_same [] [] x y long same = (refl, same)
    cut_same [] (n ∷ b) x y long same = absurd (omega arith)
    cut_same (m ∷ a) [] x y long same = absurd (omega arith)
    cut_same (m ∷ a) (n ∷ b) x y long same =
        let first : m ≡ n = cc in
        let rest : a ++ x ≡ b ++ y = cc in
        let tail = cut_same a b x y (omega arith) rest in
        (rw (first, tail.0) refl, tail.1)

-- at the end of a line that is in the bytes there is a line end
pub ends_here : (bytes line more : List ℕ) → bytes ≡ line ++ 10 ∷ more → (length line < length bytes) × (get_or bytes (length line) 0 ≡ 10)
ends_here bytes line more is = (
  omega (arith, ap length is, length-append line (10 ∷ more)),
  ap (λ (bs : List ℕ). get_or bs (length line) 0) is
      ∙ ap (λ (n : ℕ). get_or (line ++ 10 ∷ more) n 0) (sym (add-zero (length line)))
      ∙ get_or-append-add line (10 ∷ more) 0 0,
)

-- no whole request without a line end
pub partial-plain : (rest : List ℕ) → IsPlain rest → HasNoRequest rest
partial-plain rest plain request after b =
    let here = ends_here rest b.is.line (b.is.block ++ after) (begins_line rest request after b) in
    plain (length b.is.line) 0 here.0 here.1

pub partial-too_long : (rest : List ℕ) → IsTooLong rest → HasNoRequest rest
partial-too_long rest long request after b =
    let here = ends_here rest b.is.line (b.is.block ++ after) (begins_line rest request after b) in
    let short : length b.is.line < 32768 = b.is.is_line.short in
    let over : 32768 < length rest = long.long in
    long.plain (length b.is.line) 0 (omega (arith, length-take 32768 rest, here.0, short, over)) (get_or-take 32768 rest (length b.is.line) 0 short ∙ here.1)

pub partial-waits : (says : Line) (block rest : List ℕ) → Waits says block rest → HasNoRequest rest
partial-waits says block rest waits request after b =
    let same : waits.line ++ 10 ∷ block ≡ b.is.line ++ 10 ∷ (b.is.block ++ after) = sym waits.whole ∙ begins_line rest request after b in
    let parts = line_ends waits.line b.is.line block (b.is.block ++ after) waits.is_line.plain b.is.is_line.plain same in
    let long : length b.is.block ≡ block_length says = b.is.belongs
    ∙ ap (λ (line : List ℕ). block_length (parsed_line line)) (sym parts.0) ∙ ap block_length waits.said in
    let short : length block < block_length says = waits.short in
    omega (arith, ap length parts.1, length-append b.is.block after)

-- what is kept stands for a rest without a whole request at its front
pub stands-partial : (mode : Mode) (front rest : List ℕ) → is_ended mode ≡ false → StandsFor mode front rest → HasNoRequest rest
stands-partial InLine front rest goes stands = partial-plain rest (subst IsPlain (sym stands.0) stands.1)
stands-partial (InBlock store) front rest goes stands = partial-waits (Stores store) front rest stands
stands-partial (Skipping refusal left) front rest goes stands = partial-waits (Skips refusal stands.len) stands.block rest stands.waits
stands-partial TooLong front rest goes stands = partial-too_long rest stands
stands-partial Ended front rest goes stands = cc
