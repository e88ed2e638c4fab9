-- Streams of frames, and what is kept of them.
use Rattle.std.proofs.Common.{◌≡◌, ℕ, ◌+◌, ◌<◌, ◌≤◌, nat_le, Bool, true, false, List, [], ◌∷◌, ◌++◌, length, take, drop}
use Rattle.std.proofs.Common.{MatchBool, refl, sym, ap, subst, ◌∙◌, append_assoc, arith}
use Rattle.std.specs.List.{AllByRecursion}
use Rattle.std.proofs.lemmas.Bool.Decides.{nat_tests}
use Rattle.std.proofs.lemmas.Grind.{flat_map-append}
use Rattle.std.proofs.lemmas.List.Concat.{flat_map-cons}
use Rattle.std.proofs.lemmas.List.{length-append, length-take, append-nil, take_at, take-append-le, take-append-drop}
use Rattle.group_message.specs.declared.message.Message.{Message}
use Rattle.wire_codec.specs.Frame.{four, frame_body, frame_of}
use Rattle.wire_codec.specs.Fits.{HasFrame, IsFrame}
use Rattle.wire_codec.specs.Stream.{stream_of, announced, IsLength, HasNone, IsPartial, IsBad, ReadsFrames, DecoderState, DecodesFrom, HasDecoded, Feeds}
use Rattle.wire_codec.specs.Cutting.{DecodesOn}
use Rattle.wire_codec.proofs.Messages.{frame_once}
use Rattle.wire_codec.proofs.Cuts.{fronts, partial-none, announced-more}

both_all : {X : Type 0} (P : X → Type 0) (xs ys : List X) → AllByRecursion P xs → AllByRecursion P ys → AllByRecursion P (xs ++ ys)
both_all P [] ys a b = b
both_all P (x ∷ xs) ys a b = (a.0, both_all P xs ys a.1 b)

open_stands : (P Q : Type 0) (b : Bool) → b ≡ false → MatchBool b P Q → Q
open_stands P Q true is given = cc
open_stands P Q false is given = given

stands_none : (b : Bool) (front rest : List ℕ) → MatchBool b (IsBad rest) ((rest ≡ front) × IsPartial rest) → HasNone rest
stands_none true front rest bad = bad.none
stands_none false front rest partial = partial-none rest partial.1

few-partial : (rest : List ℕ) → IsPartial rest → length rest < 134217732
few-partial rest partial = by (nat_le 4 (length rest)) refl where
  by : (b : Bool) → nat_le 4 (length rest) ≡ b → length rest < 134217732
  by true is = let p = partial (grind (arith, nat_tests)) in let few = p.0.1 in let less = p.1 in omega (arith, few, less)
  by false is = grind (arith, nat_tests)

-- what is kept is the end of what was fed, and less than a frame
pub kept-few : (kept : DecoderState) (input : List ℕ) (messages : List Message) → HasDecoded kept input messages → kept.bad ≡ false
    → (length kept.front ≤ length input) × (length kept.front < 134217732)
kept-few kept input messages h good =
    let stood : (h.rest ≡ kept.front) × IsPartial h.rest = open_stands (IsBad h.rest) ((h.rest ≡ kept.front) × IsPartial h.rest) kept.bad good h.stands in
    let same = ap length stood.0 in (
      omega (arith, same, ap length h.reads.whole, length-append (stream_of messages) h.rest),
      (let few = few-partial h.rest stood.1 in omega (arith, same, few)),
    )

-- nothing was read of what is less than a frame, and of what is no spelling
pub reads-partial : (at : ℕ) (text : List ℕ) → IsPartial text → DecodesFrom at (record { begun = at; bad = false; front = text }) text []
reads-partial at text partial = record { rest = text; reads = record { whole = refl; each = tt }; stands = (refl, partial); place = refl }

pub reads-bad : (at : ℕ) (text : List ℕ) → IsBad text → DecodesFrom at (record { begun = at; bad = true; front = [] }) text []
reads-bad at text bad = record { rest = text; reads = record { whole = refl; each = tt }; stands = bad; place = refl }

-- a message before those that were read of what is behind its frame
pub reads-cons : (at : ℕ) (kept : DecoderState) (text after : List ℕ) (m : Message) (given : List Message) → IsFrame text m
    → DecodesFrom (at + length text) kept after given → DecodesFrom at kept (text ++ after) (m ∷ given)
reads-cons at kept text after m given is read = record {
  rest = read.rest;
  reads = record {
    whole = ap (λ (t : List ℕ). text ++ t) read.reads.whole ∙ sym (append_assoc text (stream_of given) read.rest)
        ∙ ap (λ (t : List ℕ). (t ++ stream_of given) ++ read.rest) is.spelled ∙ ap (λ (t : List ℕ). t ++ read.rest)
        (sym (flat_map-cons frame_of m given));
    each = (is.has_frame, read.reads.each);
  };
  stands = read.stands;
  place = (let place = read.place in omega (arith, place, length-append text after));
}

-- messages that were read before a piece came, and those that were read of what was kept and the piece
pub reads-append : (old kept : DecoderState) (input piece : List ℕ) (before given : List Message) → old.bad ≡ false
    → HasDecoded old input before → DecodesFrom old.begun kept (old.front ++ piece) given
    → HasDecoded kept (input ++ piece) (before ++ given)
reads-append old kept input piece before given goes h read =
    let stood : (h.rest ≡ old.front) × IsPartial h.rest = open_stands (IsBad h.rest) ((h.rest ≡ old.front) × IsPartial h.rest) old.bad goes h.stands in
    let first : input ++ piece ≡ stream_of before ++ (old.front ++ piece) =
    ap (λ (t : List ℕ). t ++ piece) (h.reads.whole ∙ ap (λ (t : List ℕ). stream_of before ++ t) stood.0) ∙ append_assoc (stream_of before) old.front piece in
    let second : stream_of before ++ (old.front ++ piece) ≡ stream_of (before ++ given) ++ read.rest =
    ap (λ (t : List ℕ). stream_of before ++ t) read.reads.whole
    ∙ sym (append_assoc (stream_of before) (stream_of given) read.rest) ∙ ap (λ (t : List ℕ). t ++ read.rest)
    (sym (flat_map-append frame_of before given)) in
    let now = read.place in
    let was = h.place in
    record {
      rest = read.rest;
      reads = record { whole = first ∙ second; each = both_all HasFrame before given h.reads.each read.reads.each };
      stands = read.stands;
      place = omega (arith, now, was, ap length stood.0, length-append old.front piece, length-append input piece);
    }

pub feeds-by : (old kept : DecoderState) (piece : List ℕ) (given : List Message) → old.bad ≡ false
    → (IsPartial old.front → DecodesFrom old.begun kept (old.front ++ piece) given) → Feeds old kept piece given
feeds-by old kept piece given goes read = λ input before h.
    let stood : (h.rest ≡ old.front) × IsPartial h.rest = open_stands (IsBad h.rest) ((h.rest ≡ old.front) × IsPartial h.rest) old.bad goes h.stands in
    reads-append old kept input piece before given goes h (read (subst IsPartial stood.0 stood.1))

-- an input is read in one way
pub reads-once : (messages others : List Message) (input rest left : List ℕ) → ReadsFrames input messages rest → HasNone rest
    → ReadsFrames input others left → HasNone left → (messages ≡ others) × (rest ≡ left)
reads-once [] [] input rest left one none other last = (refl, sym one.whole ∙ other.whole)
reads-once [] (n ∷ others) input rest left one none other last =
    absurd (none n (stream_of others ++ left) other.each.0 (sym one.whole ∙ other.whole
    ∙ ap (λ (t : List ℕ). t ++ left) (flat_map-cons frame_of n others)
    ∙ append_assoc (frame_of n) (stream_of others) left))
reads-once (m ∷ messages) [] input rest left one none other last =
    absurd (last m (stream_of messages ++ rest) one.each.0 (sym other.whole ∙ one.whole
    ∙ ap (λ (t : List ℕ). t ++ rest) (flat_map-cons frame_of m messages)
    ∙ append_assoc (frame_of m) (stream_of messages) rest))
reads-once (m ∷ messages) (n ∷ others) input rest left one none other last =
    let mine : input ≡ frame_of m ++ (stream_of messages ++ rest) = one.whole
    ∙ ap (λ (t : List ℕ). t ++ rest) (flat_map-cons frame_of m messages)
    ∙ append_assoc (frame_of m) (stream_of messages) rest in
    let theirs : input ≡ frame_of n ++ (stream_of others ++ left) = other.whole
    ∙ ap (λ (t : List ℕ). t ++ left) (flat_map-cons frame_of n others) ∙ append_assoc (frame_of n) (stream_of others)
    left in
    let first = frame_once m n (stream_of messages ++ rest) (stream_of others ++ left) one.each.0 other.each.0 (sym mine ∙ theirs) in
    let tail = reads-once messages others (stream_of messages ++ rest) rest left
    (record { whole = refl; each = one.each.1 }) none (record { whole = first.1; each = other.each.1 }) last in
    (same first.0 tail.0, tail.1)
  where
    same : {m n : Message} {messages others : List Message} → m ≡ n → messages ≡ others → (m ∷ messages) ≡ (n ∷ others)
    same first rest = cc

-- what is kept at the end of a text
pub ends-partial : (at : ℕ) (kept : DecoderState) (front text : List ℕ)
    → kept ≡ record { begun = at; bad = false; front = front } → front ≡ text → IsPartial text
    → DecodesFrom at kept text []
ends-partial at kept front text is same partial = subst (λ (k : DecoderState). DecodesFrom at k text [])
    (sym (is ∙ ap (λ (f : List ℕ). waits at f) same)) (reads-partial at text partial)
  where
    waits : ℕ → List ℕ → DecoderState
    waits at front = record { begun = at; bad = false; front = front }

pub ends-bad : (at : ℕ) (kept : DecoderState) (text : List ℕ) → kept ≡ record { begun = at; bad = true; front = [] } → IsBad text → DecodesFrom at kept text []
ends-bad at kept text is bad = subst (λ (k : DecoderState). DecodesFrom at k text []) (sym is) (reads-bad at text bad)

-- a frame became whole, and the text behind it was read
pub feeds-whole : (old kept : DecoderState) (piece behind : List ℕ) (m : Message) (taken at : ℕ) (messages given : List Message)
    → old.bad ≡ false → taken ≤ length piece
    → (IsPartial old.front → IsFrame (old.front ++ take taken piece) m) → at ≡ old.begun + (length old.front + taken)
    → behind ≡ drop taken piece → DecodesOn at kept behind (m ∷ []) messages → given ≡ messages
    → Feeds old kept piece given
feeds-whole old kept piece behind m taken at messages given goes within frame place rest on same = feeds-by old kept piece given goes (λ partial.
    let text = old.front ++ take taken piece in
    let len : length text ≡ length old.front + taken = omega (arith, length-append old.front (take taken piece), length-take taken piece, within) in
    let from : at ≡ old.begun + length text = place ∙ ap (λ (n : ℕ). old.begun + n) (sym len) in
    let read : DecodesFrom (old.begun + length text) kept (drop taken piece) on.given =
    subst (λ (b : List ℕ). DecodesFrom (old.begun + length text) kept b on.given) rest
    (subst (λ (n : ℕ). DecodesFrom n kept behind on.given) from on.has_read) in
    let whole : text ++ drop taken piece ≡ old.front ++ piece = append_assoc old.front (take taken piece)
    (drop taken piece) ∙ ap (λ (t : List ℕ). old.front ++ t) (take-append-drop taken piece) in
    let all : given ≡ m ∷ on.given = same ∙ on.behind in
    subst (λ (t : List ℕ). DecodesFrom old.begun kept t given) whole
    (subst (λ (g : List Message). DecodesFrom old.begun kept (text ++ drop taken piece) g) (sym all)
    (reads-cons old.begun kept text (drop taken piece) m on.given (frame partial) read)))

pub bad-none : (rest piece : List ℕ) (m : Message) (more : List ℕ) → IsBad rest → HasFrame m → rest ++ piece ≡ frame_of m ++ more → ⊥
bad-none rest piece m more bad has e =
    let f = fronts (rest ++ piece) more m has e in
    let same : announced (rest ++ piece) ≡ announced rest = announced-more rest piece bad.header in
    let due = bad.due (subst IsLength same f.in_range) in
    let says = f.says in
    let le : length (frame_of m) ≤ length rest = omega (arith, length-append (four (length (frame_body m))) (frame_body m), due, same, says) in
    let front : take (length (frame_of m)) (rest ++ piece) ≡ frame_of m =
    ap (λ (t : List ℕ). take (length (frame_of m)) t) e ∙ take_at (frame_of m) more (length (frame_of m)) refl in
    let is : rest ≡ frame_of m ++ drop (length (frame_of m)) rest =
    sym (take-append-drop (length (frame_of m)) rest) ∙ ap (λ (t : List ℕ). t ++ drop (length (frame_of m)) rest)
    (sym (take-append-le (length (frame_of m)) rest piece le) ∙ front) in
    bad.none m (drop (length (frame_of m)) rest) has is

-- a frame that is no spelling stays one
bad-more : (rest piece : List ℕ) → IsBad rest → IsBad (rest ++ piece)
bad-more rest piece bad =
    let header = bad.header in
    let same : announced (rest ++ piece) ≡ announced rest = announced-more rest piece header in
    record {
      header = omega (arith, header, length-append rest piece);
      due = λ in_range. (let due = bad.due (subst IsLength same in_range) in omega (arith, due, same, length-append rest piece));
      none = λ m more has e. bad-none rest piece m more bad has e;
    }

bad_stands : (P Q : Type 0) (b : Bool) → b ≡ true → MatchBool b P Q → P
bad_stands P Q true is given = given
bad_stands P Q false is given = cc

stands_bad : (P Q : Type 0) (b : Bool) → b ≡ true → P → MatchBool b P Q
stands_bad P Q true is given = given
stands_bad P Q false is given = cc

-- nothing is read behind it
pub feeds-bad : (old : DecoderState) (piece : List ℕ) → old.bad ≡ true → Feeds old old piece []
feeds-bad old piece is = λ input messages h.
    let bad : IsBad h.rest = bad_stands (IsBad h.rest) ((h.rest ≡ old.front) × IsPartial h.rest) old.bad is h.stands in
    let place = h.place in
    record {
      rest = h.rest ++ piece;
      reads = record {
        whole = ap (λ (t : List ℕ). t ++ piece) h.reads.whole ∙ append_assoc (stream_of messages) h.rest piece
            ∙ ap (λ (ms : List Message). stream_of ms ++ (h.rest ++ piece)) (sym (append-nil messages));
        each = subst (AllByRecursion HasFrame) (sym (append-nil messages)) h.reads.each;
      };
      stands = stands_bad (IsBad (h.rest ++ piece)) ((h.rest ++ piece ≡ old.front) × IsPartial (h.rest ++ piece)) old.bad is (bad-more h.rest piece bad);
      place = omega (arith, place, length-append h.rest piece, length-append input piece);
    }

-- a link that is cut hands out a front of what was sent, and no frame of it is bad
pub cut-front : (sent given : List Message) (input more rest : List ℕ) → AllByRecursion HasFrame sent
    → stream_of sent ≡ input ++ more → ReadsFrames input given rest → (later : List Message) × (sent ≡ given ++ later)
    × (stream_of later ≡ rest ++ more)
cut-front sent [] input more rest each e reads = (sent, refl, e ∙ ap (λ (t : List ℕ). t ++ more) reads.whole)
cut-front [] (g ∷ given) input more rest each e reads =
    let long : length input ≡ length (frame_of g) + length (stream_of given ++ rest) =
    ap length (reads.whole ∙ ap (λ (t : List ℕ). t ++ rest) (flat_map-cons frame_of g given)
    ∙ append_assoc (frame_of g) (stream_of given) rest) ∙ length-append (frame_of g) (stream_of given ++ rest) in
    absurd (none_long input more (length (frame_body g)) (length (stream_of given ++ rest))
    (long ∙ ap (λ (n : ℕ). n + length (stream_of given ++ rest))
    (length-append (four (length (frame_body g))) (frame_body g))) e)
  where
    none_long : (input more : List ℕ) (n k : ℕ) → length input ≡ 4 + n + k → [] ≡ input ++ more → ⊥
    none_long input more n k long e = omega (arith, long, length-append input more, ap length e)
cut-front (s ∷ sent) (g ∷ given) input more rest each e reads =
    let mine : stream_of (s ∷ sent) ≡ frame_of s ++ stream_of sent = flat_map-cons frame_of s sent in
    let theirs : input ++ more ≡ frame_of g ++ ((stream_of given ++ rest) ++ more) =
    ap (λ (t : List ℕ). t ++ more) (reads.whole ∙ ap (λ (t : List ℕ). t ++ rest) (flat_map-cons frame_of g given)
    ∙ append_assoc (frame_of g) (stream_of given) rest) ∙ append_assoc (frame_of g) (stream_of given ++ rest)
    more in
    let first = frame_once s g (stream_of sent) ((stream_of given ++ rest) ++ more) each.0 reads.each.0 (sym mine ∙ e ∙ theirs) in
    let tail = cut-front sent given (stream_of given ++ rest) more rest each.1 first.1 (record { whole = refl; each = reads.each.1 }) in
    (tail.0, same first.0 tail.1, tail.2)
  where
    same : {m n : Message} {messages others : List Message} → m ≡ n → messages ≡ others → (m ∷ messages) ≡ (n ∷ others)
    same first rest = cc

pub cut-never-bad : (later : List Message) (rest more : List ℕ) → AllByRecursion HasFrame later → stream_of later ≡ rest ++ more → ¬ (IsBad rest)
cut-never-bad [] rest more each e bad =
    let header = bad.header in
    omega (arith, header, length-append rest more, ap length e)
cut-never-bad (m ∷ later) rest more each e bad =
    bad-none rest more m (stream_of later) bad each.0 (sym e ∙ flat_map-cons frame_of m later)

pub later-all : (given later : List Message) → AllByRecursion HasFrame (given ++ later) → AllByRecursion HasFrame later
later-all [] later all = all
later-all (g ∷ given) later all = later-all given later all.1
