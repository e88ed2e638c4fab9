-- A stream that goes on, and how it ends from there.
use Rattle.std.proofs.Common.{◌≡◌, ℕ, ◌+◌, ◌<◌, ◌≤◌, ◌⊎◌, inl, inr, Bool, true, false, List, [], ◌++◌, length, take}
use Rattle.std.proofs.Common.{Result, Ok, Err, refl, sym, ◌∙◌, subst, arith}
use Rattle.std.proofs.lemmas.List.{append-nil, length-append}
use Rattle.std.specs.Result.{IsErrAnd}
use Rattle.std.proofs.lemmas.Grind.{flat_map-append}
use Rattle.edge_io.specs.Moving.{Appends, Input, IsEnded, Takes}
use Rattle.edge_io.specs.Writing.{HasWritten}
use Rattle.edge_io.proofs.Moving.{Appends-nil, Appends-trans, Takes-none, Takes-trans}
use Rattle.group_message.specs.declared.message.Message.{Message}
use Rattle.wire_codec.specs.Stream.{DecoderState, HasDecoded, IsBad, IsPartial, ReadsFrames}
use Rattle.wire_frames.specs.Framed.{HasFramed, HasHalted, HasListed, IsBadOnlyNow, PieceHasCome}
use Rattle.wire_frames.specs.Line.{line_of, message_lines}
use Rattle.wire_frames.specs.Pieces.{EndsAs, HasGiven, IsPieceListed, status_in}
use Rattle.wire_frames.specs.declared.status.FramesStatus.{FramesStatus}
use Rattle.wire_frames.specs.declared.status.FramesStatus.TheVariants.{Done, Cut, BadFrame, Worn, ReadFault, WriteFault, Want}
use Rattle.wire_frames.proofs.Stands.{place-is, rest-bad, rest-good}

-- what was read was fed, and the lines of its messages are written
pub record GoesOn (input input_now : Input) (held held_now : List ℕ) (kept : DecoderState) (count : ℕ) : Type 0 where
  pub read : List ℕ
  pub consumed : Takes input input_now read
  pub messages : List Message
  pub has_read : HasDecoded kept read messages
  pub written : Appends held held_now (message_lines messages)
  pub good : kept.bad ≡ false
  pub counted : length read ≡ count

pub goes-none : (input : Input) (held : List ℕ) (kept : DecoderState) → HasDecoded kept [] [] → kept.bad ≡ false → GoesOn input input held held kept 0
goes-none input held kept h good = record {
  read = [];
  consumed = Takes-none input;
  messages = [];
  has_read = h;
  written = Appends-nil held;
  good = good;
  counted = refl;
}

either : (kept : DecoderState) (read : List ℕ) (messages : List Message) (h : HasDecoded kept read messages) → IsPartial h.rest ⊎ IsBad h.rest
either kept read messages h = by kept.bad refl where
  by : (b : Bool) → kept.bad ≡ b → IsPartial h.rest ⊎ IsBad h.rest
  by true is = inr (rest-bad kept read messages h is)
  by false is = inl (rest-good kept read messages h is).1

-- a frame is bad only with a piece more
only-now : (kept : DecoderState) (read piece : List ℕ) (messages : List Message) (h : HasDecoded kept read messages)
    → kept.bad ≡ false → length piece ≤ 65536 → IsBadOnlyNow (read ++ piece)
only-now kept read piece messages h good short = record {
  front = read;
  last = piece;
  split = refl;
  few = short;
  messages = messages;
  rest = h.rest;
  reads = h.reads;
  partial = (rest-good kept read messages h good).1;
}

lines-append : (messages given : List Message) → message_lines (messages ++ given) ≡ message_lines messages ++ message_lines given
lines-append messages given = flat_map-append line_of messages given

module _ (input middle input_now : Input) (held held_now : List ℕ) (old : DecoderState) (count : ℕ) (goes : GoesOn input middle held held_now old count) where
  -- a read failed
  pub framed-read_fault : Takes middle input_now [] → HasFramed input input_now held held_now ReadFault
  framed-read_fault keeps = (
    goes.has_read.rest,
    record {
      read = goes.read;
      consumed = subst (Takes input input_now) (append-nil goes.read) (Takes-trans input middle input_now goes.read [] goes.consumed keeps);
      messages = goes.messages;
      reads = goes.has_read.reads;
      written = goes.written;
    },
    (rest-good old goes.read goes.messages goes.has_read goes.good).1,
  )

  -- the input ended
  module _ (keeps : Takes middle input_now []) (ended : IsEnded input_now) (within : count < 4611686018427387904) where
    all : Takes input input_now (goes.read ++ [])
    all = Takes-trans input middle input_now goes.read [] goes.consumed keeps

    abbrev listed : (rest : List ℕ) → ReadsFrames goes.read goes.messages rest → HasListed input input_now held held_now rest
    listed rest reads = record {
      read = goes.read;
      consumed = subst (Takes input input_now) (append-nil goes.read) all;
      messages = goes.messages;
      reads = reads;
      written = goes.written;
    }

    fewer : length goes.read < 4611686018427387904
    fewer = let counted = goes.counted in omega (arith, counted, within)

    by-end : (result : Result (Unit {0}) FramesStatus) → EndsAs goes.read goes.messages result → HasFramed input input_now held held_now (status_in result)
    by-end (Ok _) reads = (listed [] reads, fewer, ended)
    by-end (Err Cut) (rest, reads, partial, some) = (rest, listed rest reads, fewer, ended, partial, some)
    by-end (Err (BadFrame at)) ends = absurd ends
    by-end (Err Want) ends = absurd ends
    by-end (Err Done) ends = absurd ends
    by-end (Err Worn) ends = absurd ends
    by-end (Err ReadFault) ends = absurd ends
    by-end (Err WriteFault) ends = absurd ends

    pub framed-end : (result : Result (Unit {0}) FramesStatus) → EndsAs goes.read goes.messages result
        → HasFramed input input_now held held_now (status_in result)
    framed-end = by-end

  -- a piece came
  module _ (new : DecoderState) (piece written_now : List ℕ) (short : length piece ≤ 65536) (takes : Takes middle input_now piece) where
    abbrev come : PieceHasCome input input_now
    come = record {
      read = goes.read;
      last = piece;
      consumed = Takes-trans input middle input_now goes.read piece goes.consumed takes;
      short = short;
      messages = goes.messages;
      rest = goes.has_read.rest;
      reads = goes.has_read.reads;
      partial = (rest-good old goes.read goes.messages goes.has_read goes.good).1;
    }

    halted : (has : HasGiven old new goes.read piece goes.messages)
        → HasWritten held_now written_now (message_lines has.given) → HasHalted input input_now held written_now
    halted has written = record {
      come = come;
      middle = held_now;
      first = goes.written;
      given = has.given;
      rest = has.has_read.rest;
      reads = has.has_read.reads;
      behind = either new (goes.read ++ piece) (goes.messages ++ has.given) has.has_read;
      written = written;
    }

    pub framed-piece : (status : FramesStatus) → IsPieceListed old new goes.read goes.messages piece held_now
        written_now (Err status) → HasFramed input input_now held written_now status
    framed-piece (BadFrame at) (h, bad, begun, same) = (
      h.rest,
      record {
        read = goes.read ++ piece;
        consumed = Takes-trans input middle input_now goes.read piece goes.consumed takes;
        messages = goes.messages;
        reads = h.reads;
        written = subst (λ (bytes : List ℕ). Appends held bytes (message_lines goes.messages)) (sym same) goes.written;
      },
      rest-bad new (goes.read ++ piece) goes.messages h bad,
      only-now old goes.read piece goes.messages goes.has_read goes.good short,
      sym begun ∙ place-is new (goes.read ++ piece) goes.messages h,
    )
    framed-piece WriteFault (has, written) = halted has written
    framed-piece Want (inl (good, same)) =
        inr (record {
          come = come;
          written = subst (λ (bytes : List ℕ). Appends held bytes (message_lines goes.messages))
              (sym same) goes.written;
        })
    framed-piece Want (inr (has, written)) = inl (halted has written)
    framed-piece Done ends = absurd ends
    framed-piece Cut ends = absurd ends
    framed-piece Worn ends = absurd ends
    framed-piece ReadFault ends = absurd ends

    -- its messages were listed
    module _ (done : Unit {0}) (has : IsPieceListed old new goes.read goes.messages piece held_now written_now (Ok done)) where
      all-written : Appends held written_now (message_lines (goes.messages ++ has.0.given))
      all-written = subst (Appends held written_now) (sym (lines-append goes.messages has.0.given))
          (Appends-trans held held_now written_now (message_lines goes.messages) (message_lines has.0.given) goes.written has.1)

      -- and behind them stands a bad frame
      bad-now : new.bad ≡ true → HasFramed input input_now held written_now (BadFrame new.begun)
      bad-now bad = (
        has.0.has_read.rest,
        record {
          read = goes.read ++ piece;
          consumed = Takes-trans input middle input_now goes.read piece goes.consumed takes;
          messages = goes.messages ++ has.0.given;
          reads = has.0.has_read.reads;
          written = all-written;
        },
        rest-bad new (goes.read ++ piece) (goes.messages ++ has.0.given) has.0.has_read bad,
        only-now old goes.read piece goes.messages goes.has_read goes.good short,
        place-is new (goes.read ++ piece) (goes.messages ++ has.0.given) has.0.has_read,
      )

      pub framed-bad : (status : FramesStatus) → (new.bad ≡ true) × (status ≡ BadFrame new.begun) → HasFramed input input_now held written_now status
      framed-bad status (bad, is) = subst (HasFramed input input_now held written_now) (sym is) (bad-now bad)

      goes-now : (n : ℕ) → length piece ≡ n → new.bad ≡ false → GoesOn input input_now held written_now new (count + n)
      goes-now n len good = record {
        read = goes.read ++ piece;
        consumed = Takes-trans input middle input_now goes.read piece goes.consumed takes;
        messages = goes.messages ++ has.0.given;
        has_read = has.0.has_read;
        written = all-written;
        good = good;
        counted = let counted = goes.counted in omega (arith, counted, len, length-append goes.read piece);
      }

      pub goes-more : (kept : DecoderState) (n : ℕ) → kept ≡ new → length piece ≡ n → new.bad ≡ false → GoesOn input input_now held written_now kept (count + n)
      goes-more kept n same len good = subst (λ (k : DecoderState). GoesOn input input_now held written_now k (count + n)) (sym same) (goes-now n len good)

-- as many bytes were read as a stream may have
pub framed-worn : (input input_now : Input) (held held_now : List ℕ) (kept : DecoderState) (count : ℕ)
    → GoesOn input input_now held held_now kept count → count ≡ 4611686018427387904
    → HasFramed input input_now held held_now Worn
framed-worn input input_now held held_now kept count goes all = (
  goes.has_read.rest,
  record { read = goes.read; consumed = goes.consumed; messages = goes.messages; reads = goes.has_read.reads; written = goes.written },
  (rest-good kept goes.read goes.messages goes.has_read goes.good).1,
  goes.counted ∙ all,
)

-- nothing was read, for want of memory
pub framed-early : (input : Input) (held : List ℕ) → HasFramed input input held held Want
framed-early input held = inr (record {
  come = record {
    read = [];
    last = [];
    consumed = Takes-none input;
    short = omega arith;
    messages = [];
    rest = [];
    reads = record { whole = refl; each = tt };
    partial = λ header. absurd (omega (arith, header));
  };
  written = Appends-nil held;
})

-- a read gave no byte
pub takes-none : (input now : Input) (bytes : List ℕ) (n : ℕ) → n ≡ 0 → Takes input now (take n bytes) → Takes input now []
takes-none input now bytes n none taken = subst (λ (k : ℕ). Takes input now (take k bytes)) none taken

-- a status that is handed on
pub handed-on : (input input_now : Input) (held held_now : List ℕ) (status : FramesStatus)
    (result : Result (Unit {0}) FramesStatus) → HasFramed input input_now held held_now status
    → IsErrAnd result (λ s. s ≡ status)
    → HasFramed input input_now held held_now (status_in result)
handed-on input input_now held held_now status (Ok _) framed is = absurd is
handed-on input input_now held held_now status (Err s) framed is = subst (HasFramed input input_now held held_now) (sym is) framed

abbrev err : FramesStatus → Result (Unit {0}) FramesStatus
err status = Err status

-- who tells no fault of the source or of the sink
pub end-tells : (input : List ℕ) (messages : List Message) (result : Result (Unit {0}) FramesStatus) → EndsAs input messages result
    → (result ≡ Err ReadFault → ⊥) × (result ≡ Err WriteFault → ⊥)
end-tells input messages result ends = (λ is. subst (EndsAs input messages) is ends, λ is. subst (EndsAs input messages) is ends)

pub piece-tells : (old new : DecoderState) (input : List ℕ) (messages : List Message) (piece held now : List ℕ)
    (status : FramesStatus) (result : Result (Unit {0}) FramesStatus)
    → IsPieceListed old new input messages piece held now (Err status) → IsErrAnd result (λ s. s ≡ status)
    → result ≡ Err ReadFault → ⊥
piece-tells old new input messages piece held now status (Ok _) listed same is = absurd same
piece-tells old new input messages piece held now status (Err s) listed same is =
    subst (λ (x : FramesStatus). IsPieceListed old new input messages piece held now (Err x)) (sym same ∙ inside s is) listed
  where
    inside : (x : FramesStatus) → err x ≡ Err ReadFault → x ≡ ReadFault
    inside x e = cc e
