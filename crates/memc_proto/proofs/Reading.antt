use Rattle.std.proofs.Common.{◌≡◌, ℕ, ◌||◌, Bool, true, false, List, [], ◌∷◌, ◌++◌, append_assoc, MatchBool, refl, sym, ap, ◌∙◌, subst}
use Rattle.std.specs.List.{list_any}
use Rattle.memc_proto.specs.Reader.{HasRead, ReaderState, StandsFor, is_ended}
use Rattle.memc_proto.specs.Reads.{Begins, Reads, is_quit}
use Rattle.memc_proto.specs.declared.mode.Mode.{Mode}
use Rattle.memc_proto.specs.declared.mode.Mode.TheVariants.{Ended}
use Rattle.memc_proto.specs.declared.request.Request.{Request}
use Rattle.memc_proto.proofs.Texts.{begins-once, stands-partial}

-- the list after a request that is a quit, or is none
after_quit : (P Q : Type 0) (b : Bool) → b ≡ true → MatchBool b P Q → P
after_quit P Q true is given = given
after_quit P Q false is given = cc

after_open : (P Q : Type 0) (b : Bool) → b ≡ false → MatchBool b P Q → Q
after_open P Q true is given = cc
after_open P Q false is given = given

with_quit : (P Q : Type 0) (b : Bool) → b ≡ true → P → MatchBool b P Q
with_quit P Q true is given = given
with_quit P Q false is given = cc

with_open : (P Q : Type 0) (b : Bool) → b ≡ false → Q → MatchBool b P Q
with_open P Q true is given = cc
with_open P Q false is given = given

same_lists : {r s : Request} {requests others : List Request} → r ≡ s → requests ≡ others → (r ∷ requests) ≡ (s ∷ others)
same_lists first rest = cc

-- two readings that begin with one request
both_read : (r s : Request) (requests others : List Request) (after beyond rest left : List ℕ) → (r ≡ s) × (after ≡ beyond)
    → MatchBool (is_quit r) ((requests ≡ []) × (after ≡ rest)) (Reads after requests rest)
    → MatchBool (is_quit s) ((others ≡ []) × (beyond ≡ left)) (Reads beyond others left)
    → (Reads after requests rest → Reads after others left → (requests ≡ others) × (rest ≡ left)) → (b : Bool)
    → is_quit r ≡ b → ((r ∷ requests) ≡ (s ∷ others)) × (rest ≡ left)
both_read r s requests others after beyond rest left first one other once true is =
    let mine = after_quit _ _ (is_quit r) is one in
    let theirs = after_quit _ _ (is_quit s) (ap is_quit (sym first.0) ∙ is) other in
    (same_lists first.0 (mine.0 ∙ sym theirs.0), sym mine.1 ∙ first.1 ∙ theirs.1)
both_read r s requests others after beyond rest left first one other once false is =
    let mine = after_open _ _ (is_quit r) is one in
    let theirs = after_open _ _ (is_quit s) (ap is_quit (sym first.0) ∙ is) other in
    let tail = once mine (subst (λ (i : List ℕ). Reads i others left) (sym first.1) theirs) in
    (same_lists first.0 tail.0, tail.1)

-- an input is read in one way
pub reads-once : (requests others : List Request) (input rest left : List ℕ) → Reads input requests rest
    → Reads input others left → (requests ≡ others) × (rest ≡ left)
reads-once [] [] input rest left one other = (refl, sym one.0 ∙ other.0)
reads-once [] (s ∷ others) input rest left one other = absurd (one.1 s other.0 (subst (λ (i : List ℕ). Begins i s other.0) one.0 other.1))
reads-once (r ∷ requests) [] input rest left one other = absurd (other.1 r one.0 (subst (λ (i : List ℕ). Begins i r one.0) other.0 one.1))
reads-once (r ∷ requests) (s ∷ others) input rest left one other =
    both_read r s requests others one.0 other.0 rest left (begins-once input r s one.0 other.0 one.1 other.1) one.2
    other.2 (λ mine theirs. reads-once requests others one.0 rest left mine theirs) (is_quit r) refl

-- what is kept of a rest without a whole request
pub has_read-none : (mode : Mode) (front rest : List ℕ) → is_ended mode ≡ false → StandsFor mode front rest
    → HasRead (record { mode = mode; front = front }) rest []
has_read-none mode front rest goes stands = record {
  rest = rest;
  reads = (refl, stands-partial mode front rest goes stands);
  stands = stands;
  ended = sym goes;
}

-- one more request before those that were read
pub has_read-cons : (kept : ReaderState) (request : Request) (input after : List ℕ) (given : List Request)
    → Begins input request after → is_quit request ≡ false → HasRead kept after given
    → HasRead kept input (request ∷ given)
has_read-cons kept request input after given begins goes read = record {
  rest = read.rest;
  reads = (after, begins, with_open _ _ (is_quit request) goes read.reads);
  stands = read.stands;
  ended = rw goes read.ended;
}

-- a quit
pub has_read-quit : (front : List ℕ) (request : Request) (input after : List ℕ) → Begins input request after
    → is_quit request ≡ true → HasRead (record { mode = Ended; front = front }) input (request ∷ [])
has_read-quit front request input after begins quit = record {
  rest = after;
  reads = (after, begins, with_quit _ _ (is_quit request) quit (refl, refl));
  stands = tt;
  ended = rw quit refl;
}

longer : (input : List ℕ) (request : Request) (after piece : List ℕ) → Begins input request after → Begins (input ++ piece) request (after ++ piece)
longer input request after piece b = record {
  text = b.text;
  whole = ap (λ (i : List ℕ). i ++ piece) b.whole ∙ append_assoc b.text after piece;
  is = b.is;
}

any_tail : (r : Request) (requests : List Request) (b : Bool) → is_quit r ≡ b → list_any is_quit (r ∷ requests) ≡ false
    → (is_quit r ≡ false) × (list_any is_quit requests ≡ false)
any_tail r requests true is none = let e : (true || list_any is_quit requests) ≡ false = rw is at none in cc
any_tail r requests false is none = (is, let e : (false || list_any is_quit requests) ≡ false = rw is at none in e)

-- requests that were read before a piece came, and those that were read of the rest and the piece
pub has_read-append : (kept : ReaderState) (before : List Request) (input rest piece : List ℕ) (given : List Request)
    → Reads input before rest → list_any is_quit before ≡ false → HasRead kept (rest ++ piece) given
    → HasRead kept (input ++ piece) (before ++ given)
has_read-append kept [] input rest piece given reads goes read = subst (λ (i : List ℕ). HasRead kept (i ++ piece) given) (sym reads.0) read
has_read-append kept (r ∷ before) input rest piece given reads goes read =
    let tail = any_tail r before (is_quit r) refl goes in
    has_read-cons kept r (input ++ piece) (reads.0 ++ piece) (before ++ given) (longer input r reads.0 piece reads.1) tail.0
    (has_read-append kept before reads.0 rest piece given (after_open _ _ (is_quit r) tail.0 reads.2) tail.1 read)

on_quit : (r : Request) (before : List Request) (after rest piece : List ℕ)
    → MatchBool (is_quit r) ((before ≡ []) × (after ≡ rest)) (Reads after before rest) → list_any is_quit (r ∷ before)
    ≡ true
    → (Reads after before rest → list_any is_quit before ≡ true → Reads (after ++ piece) before (rest ++ piece))
    → (b : Bool) → is_quit r ≡ b → MatchBool (is_quit r) ((before ≡ []) × (after ++ piece ≡ rest ++ piece))
    (Reads (after ++ piece) before (rest ++ piece))
on_quit r before after rest piece reads quit more true is =
    let last = after_quit _ _ (is_quit r) is reads in with_quit _ _ (is_quit r) is (last.0, ap (λ (bs : List ℕ). bs ++ piece) last.1)
on_quit r before after rest piece reads quit more false is =
    let e : (false || list_any is_quit before) ≡ true = rw is at quit in
    with_open _ _ (is_quit r) is (more (after_open _ _ (is_quit r) is reads) e)

-- after a quit nothing more is read
pub reads-quit : (before : List Request) (input rest piece : List ℕ) → Reads input before rest → list_any is_quit before
    ≡ true → Reads (input ++ piece) before (rest ++ piece)
reads-quit [] input rest piece reads quit = cc
reads-quit (r ∷ before) input rest piece reads quit = (
  reads.0 ++ piece,
  longer input r reads.0 piece reads.1,
  on_quit r before reads.0 rest piece reads.2 quit
      (λ more is. reads-quit before reads.0 rest piece more is) (is_quit r) refl,
)
