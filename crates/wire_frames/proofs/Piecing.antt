-- What comes of a piece.
use Rattle.std.proofs.Common.{◌≡◌, ℕ, ◌++◌, List, [], Result, Ok, Err, inl, inr, true, false, refl, sym, subst, append-nil}
use Rattle.std.specs.Result.{IsErrAnd}
use Rattle.edge_io.specs.Writing.{HasWritten}
use Rattle.edge_io.specs.declared.fault.SinkFault.{SinkFault}
use Rattle.edge_io.specs.declared.fault.SinkFault.TheVariants as sink
use Rattle.group_message.specs.declared.message.Message.{Message}
use Rattle.wire_codec.specs.Stream.{DecoderState, Feeds, HasDecoded}
use Rattle.wire_codec.specs.declared.decoder.DecodeFault.{DecodeFault}
use Rattle.wire_codec.specs.declared.decoder.DecodeFault.TheVariants as decoder
use Rattle.wire_frames.specs.Faults.{status_of_decoder, status_of_sink}
use Rattle.wire_frames.specs.Line.{message_lines}
use Rattle.wire_frames.specs.Pieces.{HasGiven, IsPieceListed}
use Rattle.wire_frames.specs.declared.status.FramesStatus.{FramesStatus}
use Rattle.wire_frames.proofs.Stands.{never-true}

abbrev pub Answer : Type 0
Answer = Result (List Message) DecodeFault

abbrev pub failed : DecodeFault → Answer
failed f = Err f

module _ (old new : DecoderState) (input : List ℕ) (messages : List Message) (piece held now : List ℕ) where
  -- a decoder answered a fault
  pub piece-fault : (f : DecodeFault) (result : Result (Unit {0}) FramesStatus) → HasDecoded old input messages
      → ((at : ℕ) → failed f ≡ Err (decoder.BadFrame at) → (new.bad ≡ true) × (new.begun ≡ at) × Feeds old new piece [])
      → (old.bad ≡ true → (failed f ≡ Err (decoder.BadFrame old.begun)) × (new ≡ old))
      → now ≡ held → IsErrAnd result (λ s. s ≡ status_of_decoder f) → IsPieceListed old new input messages piece held now result
  piece-fault f (Ok _) h bad again same is = absurd is
  piece-fault (decoder.BadFrame at) (Err s) h bad again same is =
      let told = bad at refl in
      subst (λ (x : FramesStatus). IsPieceListed old new input messages piece held now (Err x)) (sym is)
      (subst (HasDecoded new (input ++ piece)) (append-nil messages) (told.2 input messages h), told.0, told.1, same)
  piece-fault decoder.Want (Err s) h bad again same is =
      subst (λ (x : FramesStatus). IsPieceListed old new input messages piece held now (Err x)) (sym is)
      (inl (never-true old.bad (λ was. absurd (cc (again was).0)), same))

  abbrev pub has-given : (given : List Message) → HasDecoded old input messages → old.bad ≡ false
      → Feeds old new piece given → HasGiven old new input piece messages
  has-given given h good fed = record { given = given; has_read = fed input messages h; good = good }

  -- a sink answered a fault
  pub piece-halted : (fault : SinkFault) (result : Result (Unit {0}) FramesStatus)
      (has : HasGiven old new input piece messages) → HasWritten held now (message_lines has.given)
      → IsErrAnd result (λ s. s ≡ status_of_sink fault)
      → IsPieceListed old new input messages piece held now result
  piece-halted fault (Ok _) has written is = absurd is
  piece-halted sink.Failed (Err s) has written is =
      subst (λ (x : FramesStatus). IsPieceListed old new input messages piece held now (Err x)) (sym is) (has, written)
  piece-halted sink.Want (Err s) has written is =
      subst (λ (x : FramesStatus). IsPieceListed old new input messages piece held now (Err x)) (sym is)
      (inr (has, written))
