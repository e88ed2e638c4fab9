-- The calls of one connection whose requests are all answered.
use Rattle.std.proofs.Common.{◌≡◌, ℕ, List, [], ◌∷◌, Option, None, append-nil, sym, subst}
use Rattle.edge_io.specs.Moving.{Appends, Input}
use Rattle.memc_proto.specs.Reader.{HasRead}
use Rattle.memc_proto.specs.declared.request.Request.{Request}
use Rattle.front_end.specs.Answers.{stand}
use Rattle.front_end.specs.AtOnce.{at_once}
use Rattle.front_end.specs.Calls.{Call, Made, Failed, Ways, Leads, LeadsBy}
use Rattle.front_end.specs.Gateway.{Rules}
use Rattle.front_end.specs.Going.{ConnectionGoesOn}
use Rattle.front_end.specs.Order.{IsOrder, among}
use Rattle.front_end.specs.Progress.{Progress}
use Rattle.front_end.specs.Sequences.{sequence_of}
use Rattle.front_end.specs.Turns.{exchanges_text}
use Rattle.front_end.specs.declared.at_once.AtOnce.{AtOnce}
use Rattle.front_end.specs.declared.overlap.Overlap.{Overlap}
use Rattle.front_end.specs.declared.overlap.Overlap.TheVariants.{Never}
use Rattle.front_end.proofs.Sequences.{never-goes_on}
use Rattle.ready_client.specs.Coming.{ComesAtGateway, ways_of}
use Rattle.ready_client.specs.Ordered.{AnsweredInOrder, AnsweredInSequences, AreInOrder, AreInSequences}
use Rattle.ready_client.specs.declared.open_call.OpenCall.{OpenCall}
use Rattle.ready_client.proofs.Coming.{goes-of}

module _ {C : Type 0} (ways : Ways C) (later : C → C → Type 0) (order : IsOrder later) where
  abbrev ways_among : Ways (AtOnce C)
  ways_among = among (at_once ways later).later (at_once ways later).ways

  -- a call of the connection was made by the caller, and what others made came before and behind it
  record IsMadeBehind (last : C) (call : Call) (now : C) : Type 0 where
    before : C
    after : C
    behind : later last before
    leads : LeadsBy ways before call after
    follows : later after now

  made-behind : (last : AtOnce C) (call : Call) (next : AtOnce C) → LeadsBy ways_among last call next → IsMadeBehind last.caller call next.caller
  made-behind last (Made op end) next by = record { before = by.0.caller; after = by.2.after; behind = by.1; leads = by.2.made; follows = by.2.follows }
  made-behind last (Failed at keep end) next by = record {
    before = by.0.caller;
    after = next.caller;
    behind = by.1;
    leads = by.2;
    follows = order.same next.caller;
  }

  in-order : (from : C) (last : AtOnce C) (calls : List Call) (now : AtOnce C) (end : C) → later from last.caller
      → later now.caller end → Leads ways_among last calls now → AreInOrder ways later from calls end
  in-order from last [] now end behind onward leads =
      order.on from last.caller end behind (subst (λ (gateway : AtOnce C). later gateway.caller end) leads onward)
  in-order from last (call ∷ calls) now end behind onward leads =
      let made = made-behind last call leads.0 leads.1 in (
        made.before,
        made.after,
        order.on from last.caller made.before behind made.behind,
        made.leads,
        in-order made.after leads.0 calls now end made.follows onward leads.2,
      )

  -- where all that was read is answered, the calls were made in their order
  pub answered-in-order : (told : Option ℕ) (input input_now : Input) (first now : AtOnce C) (before held : List ℕ)
      (progress : Progress) (calls : List (OpenCall _)) (unwanted : ℕ) → progress.waiting ≡ []
      → ComesAtGateway (at_once ways later) Never told input input_now first before now held progress calls unwanted None
      → AnsweredInOrder ways later told input input_now progress.kept first.caller now.caller before held
  answered-in-order told input input_now first now before held progress calls unwanted none come = record {
    read = goes.read;
    consumed = goes.consumed;
    turns = goes.answered.turns;
    has_read = subst (λ (requests : List Request). HasRead progress.kept goes.read requests) (sym goes.answered.asked) goes.has_read;
    whole = goes.answered.whole;
    order = in-order first.caller first _ (come.ends []) now.caller (order.same first.caller) (come.later []) goes.answered.leads;
    bytes = subst (λ (text : List ℕ). Appends before held text) (append-nil (exchanges_text goes.answered.turns)) goes.answered.bytes;
  }
    where
      goes : ConnectionGoesOn ways_among told input input_now (stand first before) (stand (come.ends []) held) progress.kept progress.count
      goes = never-goes_on (at_once ways later).later (at_once ways later).ways told input input_now (λ _. first)
          come.ends before held progress.kept progress.count
          (goes-of (ways_of (at_once ways later) Never) told input input_now (stand (λ _. first) before) (stand come.ends held) progress none come.come)

module _ {G K : Type 0} (rules : Rules G K) (overlap : Overlap) where
  in-sequences : (ends : List ℕ → G) (calls : List Call) (ends_now : List ℕ → G) (now : G)
      → ((s : List ℕ) → rules.later (ends_now s) now) → Leads (ways_of rules overlap) ends calls ends_now
      → AreInSequences rules.ways rules.later (sequence_of overlap) ends calls now
  in-sequences ends [] ends_now now onward leads = subst (λ (e : List ℕ → G). (s : List ℕ) → rules.later (e s) now) leads onward
  in-sequences ends (Made op end ∷ calls) ends_now now onward (next, made, leads) = (
    made.0,
    made.1,
    made.2,
    made.3,
    subst (λ (e : List ℕ → G). AreInSequences rules.ways rules.later (sequence_of overlap) e calls now) made.4
        (in-sequences next calls ends_now now onward leads),
  )
  in-sequences ends (Failed at keep end ∷ calls) ends_now now onward (next, failed, leads) = (
    failed.0,
    failed.1,
    failed.2,
    failed.3,
    subst (λ (e : List ℕ → G). AreInSequences rules.ways rules.later (sequence_of overlap) e calls now) failed.4
        (in-sequences next calls ends_now now onward leads),
  )

  -- where all that was read is answered, the calls of each sequence were made in their order
  pub answered-in-sequences : (told : Option ℕ) (input input_now : Input) (first now : G) (before held : List ℕ)
      (progress : Progress) (calls : List (OpenCall K)) (unwanted : ℕ) → progress.waiting ≡ []
      → ComesAtGateway rules overlap told input input_now first before now held progress calls unwanted None
      → AnsweredInSequences rules.ways rules.later (sequence_of overlap) told input input_now progress.kept first now before held
  answered-in-sequences told input input_now first now before held progress calls unwanted none come = record {
    read = goes.read;
    consumed = goes.consumed;
    turns = goes.answered.turns;
    has_read = subst (λ (requests : List Request). HasRead progress.kept goes.read requests) (sym goes.answered.asked) goes.has_read;
    whole = goes.answered.whole;
    order = in-sequences (λ _. first) _ come.ends now come.later goes.answered.leads;
    bytes = subst (λ (text : List ℕ). Appends before held text) (append-nil (exchanges_text goes.answered.turns)) goes.answered.bytes;
  }
    where
      goes : ConnectionGoesOn (ways_of rules overlap) told input input_now (stand (λ _. first) before) (stand come.ends held) progress.kept progress.count
      goes = goes-of (ways_of rules overlap) told input input_now (stand (λ _. first) before) (stand come.ends held) progress none come.come
