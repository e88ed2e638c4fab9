use Rattle.std.proofs.Common.{◌≡◌, ◌≢◌, ℕ, true, List, [], Option, Result, refl, ap, ◌∙◌, subst, arith}
use Rattle.std.proofs.lemmas.List.Elements.{All-nil}
use Rattle.std.specs.Result.{IsErrAnd}
use Rattle.edge_io.specs.Moving.{Input}
use Rattle.group_types.specs.Dimensions.{Dimensions}
use Rattle.group_types.specs.Shape.{IsShape}
use Rattle.memc_proto.proofs.Texts.{partial-plain}
use Rattle.memc_proto.specs.Reader.{HasRead, ReaderState}
use Rattle.memc_proto.specs.Request.{IsPlain}
use Rattle.memc_proto.specs.declared.mode.Mode.TheVariants.{InLine}
use Rattle.group_run.specs.World.{World, opening}
use Rattle.front_end.proofs.Serving.{served-early}
use Rattle.front_end.specs.Answers.{stand}
use Rattle.front_end.specs.Connection.{HasServed}
use Rattle.front_end.specs.declared.end.ConnectionFault.{ConnectionFault}
use Rattle.front_end.specs.declared.end.ConnectionFault.TheVariants.{Want}
use Rattle.front_end.specs.declared.end.End.{End}
use Rattle.caller_table.proofs.Chain.{one_table_always}
use Rattle.caller_table.specs.Tables.{Caller, fresh, group_ways}
use Rattle.scenario_session.specs.Session.{IsSessionServed}

-- a reader that was fed nothing
abbrev idle : ReaderState
idle = record { mode = InLine; front = [] }

has_read-nothing : HasRead idle [] []
has_read-nothing = record { rest = []; reads = (refl, partial-plain [] none); stands = (refl, none, omega arith); ended = refl }
  where
    none : IsPlain []
    none = All-nil (λ b. b ≢ 10)

-- there was no memory for the group: nothing was read, and nothing written
pub served-nothing : (s : Dimensions) (told : Option ℕ) (input : Input) (held : List ℕ) (connection : Result End ConnectionFault)
    → IsShape s → IsErrAnd connection (λ e. e ≡ Want) → IsSessionServed s told input input held held connection
served-nothing s told input held connection shape want = record {
  after = fresh s;
  served = served-early group_ways told input (stand (fresh s) held) idle connection has_read-nothing want;
  one_table = one_table_always s shape;
}

-- the first caller of a group, with orders taken
abbrev first_of : World → Caller
first_of w = record { world = w; caller = 0; control = true }

-- the group was made, and its first caller served the connection
pub served-by : (s : Dimensions) (told : Option ℕ) (input input_now : Input) (held held_now : List ℕ) (world : World)
    (before after : Caller) (connection : Result End ConnectionFault)
    → IsShape s → world ≡ opening s → before ≡ record { world = world; caller = 0; control = true }
    → HasServed group_ways told input input_now (stand before held) (stand after held_now) connection
    → IsSessionServed s told input input_now held held_now connection
served-by s told input input_now held held_now world before after connection shape fresh_world made served = record {
  after = after;
  served = subst (λ (c : Caller). HasServed group_ways told input input_now (stand c held) (stand after held_now)
      connection) (made ∙ ap first_of fresh_world) served;
  one_table = one_table_always s shape;
}
