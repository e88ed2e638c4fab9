-- Calls of one connection that were made in their order, among those of others.
use Rattle.std.specs.Prelude.{ℕ, List, [], ◌∷◌, Option}
use Rattle.edge_io.specs.Moving.{Appends, Input, Takes}
use Rattle.memc_table.specs.declared.act.Act.{Act}
use Rattle.memc_proto.specs.Reader.{HasRead, ReaderState}
use Rattle.front_end.specs.Calls.{Call, Made, Failed, Ways, LeadsBy}
use Rattle.front_end.specs.Sequences.{with_end}
use Rattle.front_end.specs.Turns.{Exchange, AreWhole, calls_in, requests_in, exchanges_text}

module _ {C : Type 0} (ways : Ways C) (later : C → C → Type 0) where
  -- each call was made from a caller that comes behind the one that the call before it left
  abbrev pub AreInOrder : C → List Call → C → Type 0
  AreInOrder last [] now = later last now
  AreInOrder last (call ∷ calls) now = (before : C) × (after : C) × later last before × LeadsBy ways before call after × AreInOrder after calls now

  -- all requests that were read are answered, by calls in their order, and by nothing else
  pub record AnsweredInOrder (told : Option ℕ) (input input_now : Input) (kept : ReaderState) (first now : C) (before held : List ℕ) : Type 0 where
    pub read : List ℕ
    pub consumed : Takes input input_now read
    pub turns : List Exchange
    pub has_read : HasRead kept read (requests_in turns)
    pub whole : AreWhole told turns
    pub order : AreInOrder first (calls_in turns) now
    pub bytes : Appends before held (exchanges_text turns)

  -- each call was made from a caller that comes behind the one that the last call of its sequence left, and an order behind all
  abbrev pub AreInSequences : (Act → List ℕ) → (List ℕ → C) → List Call → C → Type 0
  AreInSequences sequence ends [] now = (s : List ℕ) → later (ends s) now
  AreInSequences sequence ends (Made op end ∷ calls) now = (before : C) × (after : C) × later (ends (sequence op.act)) before
      × ways.made before op end after × AreInSequences sequence (with_end ends (sequence op.act) after) calls now
  AreInSequences sequence ends (Failed at keep end ∷ calls) now = (before : C) × (after : C) × ((s : List ℕ) → later (ends s) before)
      × ways.failed before at keep end after × AreInSequences sequence (λ _. after) calls now

  -- all requests that were read are answered, each by its own calls, of which those of one sequence were made in their order
  pub record AnsweredInSequences (sequence : Act → List ℕ) (told : Option ℕ) (input input_now : Input)
      (kept : ReaderState) (first now : C) (before held : List ℕ) : Type 0 where
    pub read : List ℕ
    pub consumed : Takes input input_now read
    pub turns : List Exchange
    pub has_read : HasRead kept read (requests_in turns)
    pub whole : AreWhole told turns
    pub order : AreInSequences sequence (λ _. first) (calls_in turns) now
    pub bytes : Appends before held (exchanges_text turns)
