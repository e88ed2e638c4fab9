use Rattle.std.proofs.Common.{◌≡◌, ℕ, ◌<◌, true, false, List, [], ◌∷◌, ◌++◌, length, take, drop, append_assoc, refl, sym, ap, ◌∙◌, subst, arith}
use Rattle.std.proofs.lemmas.List.{append-nil, length-append, length-take, take-append-drop}
use Rattle.std.proofs.lemmas.List.Elements.{All-nil}
use Rattle.memc_proto.specs.Reader.{HasRead, ReaderState, StandsFor, is_ended}
use Rattle.memc_proto.specs.Reads.{Begins, is_quit}
use Rattle.memc_proto.specs.Request.{IsRequest}
use Rattle.memc_proto.specs.Step.{ReadsOn}
use Rattle.memc_proto.specs.declared.mode.Mode.{Mode}
use Rattle.memc_proto.specs.declared.mode.Mode.TheVariants.{InLine, InBlock, Skipping, TooLong, Ended}
use Rattle.memc_proto.specs.declared.request.Request.{Request}
use Rattle.memc_proto.proofs.Reading.{has_read-cons, has_read-quit, has_read-none, has_read-append, reads-quit}

-- what completes the rest completes the text
abbrev pub Onward : List ℕ → List ℕ → List Request → List Request → Type 0
Onward text rest found requests = (kept : ReaderState) (given : List Request) → HasRead kept rest given → ReadsOn kept text found (requests ++ given)

-- the start of a line stands for nothing
pub fresh : StandsFor InLine [] []
fresh = (refl, All-nil (λ (b : ℕ). b ≡ 10 → ⊥), omega arith)

pub begins_at : (rest text : List ℕ) (request : Request) (taken : ℕ) → IsRequest (rest ++ take taken text) request
    → Begins (rest ++ text) request (drop taken text)
begins_at rest text request taken is = record {
  text = rest ++ take taken text;
  whole = ap (λ (bs : List ℕ). rest ++ bs) (sym (take-append-drop taken text)) ∙ sym (append_assoc rest (take taken text) (drop taken text));
  is = is;
}

-- a request has a byte
pub some_taken : (rest : List ℕ) (request : Request) (taken : ℕ) → IsRequest (take taken rest) request → 0 < taken
some_taken rest request taken is = omega (arith, ap length is.whole, length-append is.line (10 ∷ is.block), length-take taken rest)

pub onward-quit : (front text rest : List ℕ) (found requests now : List Request) (request : Request) (taken : ℕ)
    → Onward text rest found requests → IsRequest (take taken rest) request → is_quit request ≡ true
    → now ≡ requests ++ request ∷ [] → ReadsOn (record { mode = Ended; front = front }) text found now
onward-quit front text rest found requests now request taken onward is quit same =
    subst (λ (rs : List Request). ReadsOn (record { mode = Ended; front = front }) text found rs) (sym same)
    (onward (record { mode = Ended; front = front }) (request ∷ [])
    (has_read-quit front request rest (drop taken rest) (begins_at [] rest request taken is) quit))

pub onward-more : (text rest left : List ℕ) (found requests now : List Request) (request : Request) (taken : ℕ)
    → Onward text rest found requests → IsRequest (take taken rest) request → is_quit request ≡ false
    → now ≡ requests ++ request ∷ [] → left ≡ drop taken rest → Onward text left found now
onward-more text rest left found requests now request taken onward is goes same cut = λ kept given read.
    let onto : now ++ given ≡ requests ++ (request ∷ given) = ap (λ (rs : List Request). rs ++ given) same ∙ append_assoc requests (request ∷ []) given in
    subst (λ (rs : List Request). ReadsOn kept text found rs) (sym onto)
    (onward kept (request ∷ given)
    (has_read-cons kept request rest (drop taken rest) given (begins_at [] rest request taken is) goes
    (subst (λ (l : List ℕ). HasRead kept l given) cut read)))

pub onward-end : (mode : Mode) (front text rest : List ℕ) (found requests : List Request)
    → Onward text rest found requests → is_ended mode ≡ false → StandsFor mode front rest
    → ReadsOn (record { mode = mode; front = front }) text found requests
onward-end mode front text rest found requests onward goes stands =
    subst (λ (rs : List Request). ReadsOn (record { mode = mode; front = front }) text found rs) (append-nil requests)
    (onward (record { mode = mode; front = front }) [] (has_read-none mode front rest goes stands))

stands-ended : (mode : Mode) (front rest : List ℕ) → is_ended mode ≡ true → StandsFor mode front rest
stands-ended InLine front rest is = cc
stands-ended (InBlock store) front rest is = cc
stands-ended (Skipping refusal left) front rest is = cc
stands-ended TooLong front rest is = cc
stands-ended Ended front rest is = tt

-- a reader that has met a quit takes what comes, and gives nothing
pub feed-ended : (kept : ReaderState) (piece input : List ℕ) (before given : List Request) → is_ended kept.mode ≡ true
    → given ≡ [] → HasRead kept input before → HasRead kept (input ++ piece) (before ++ given)
feed-ended kept piece input before given ended none read =
    subst (λ (rs : List Request). HasRead kept (input ++ piece) rs) (sym (ap (λ (rs : List Request). before ++ rs) none ∙ append-nil before)) (record {
      rest = read.rest ++ piece;
      reads = reads-quit before input read.rest piece read.reads (read.ended ∙ ended);
      stands = stands-ended kept.mode kept.front (read.rest ++ piece) ended;
      ended = read.ended;
    })

-- a piece with which no request is whole
pub feed-none : (kept : ReaderState) (mode : Mode) (front piece input : List ℕ) (before given : List Request)
    → is_ended kept.mode ≡ false → is_ended mode ≡ false → given ≡ []
    → ((rest : List ℕ) → StandsFor kept.mode kept.front rest → StandsFor mode front (rest ++ piece))
    → HasRead kept input before → HasRead (record { mode = mode; front = front }) (input ++ piece) (before ++ given)
feed-none kept mode front piece input before given goes on none stands read =
    subst (λ (rs : List Request). HasRead (record { mode = mode; front = front }) (input ++ piece) (before ++ rs)) (sym none)
    (has_read-append (record { mode = mode; front = front }) before input read.rest piece [] read.reads
    (read.ended ∙ goes) (has_read-none mode front (read.rest ++ piece) on (stands read.rest read.stands)))

-- a piece with which a request is whole
pub feed-whole : (kept now : ReaderState) (piece input : List ℕ) (before given : List Request) (request : Request) (taken : ℕ)
    → is_ended kept.mode ≡ false
    → ((rest : List ℕ) → StandsFor kept.mode kept.front rest → IsRequest (rest ++ take taken piece) request)
    → ((input : List ℕ) → Begins input request (drop taken piece) → HasRead now input given) → HasRead kept input before
    → HasRead now (input ++ piece) (before ++ given)
feed-whole kept now piece input before given request taken goes is behind read =
    has_read-append now before input read.rest piece given read.reads (read.ended ∙ goes)
    (behind (read.rest ++ piece) (begins_at read.rest piece request taken (is read.rest read.stands)))
