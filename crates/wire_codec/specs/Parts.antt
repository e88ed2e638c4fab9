-- A frame around the value that its message carries.
use Rattle.std.specs.Prelude.{ℕ, List, [], ◌∷◌, ◌++◌, length}
use Rattle.std.specs.List.{flat_map}
use Rattle.group_message.specs.declared.message.Message.{Message}
use Rattle.group_message.specs.declared.message.Message.TheVariants as tells
use Rattle.group_message.specs.declared.update.Body.{Body}
use Rattle.group_message.specs.declared.update.Body.TheVariants.{Put, Remove, Touch}
use Rattle.group_message.specs.declared.update.Update.{Update}
use Rattle.wire_codec.specs.Frame.{one, four, eight, session, short, maybe, run, outcome, frame_body}

-- the value that an update carries
abbrev pub delta_of : Body → List ℕ
delta_of (Put flags until r delta) = delta
delta_of Remove = []
delta_of (Touch until) = []

-- the value that a message carries: the difference of an update, or the bytes of a block or of a row
abbrev pub value_of : Message → List ℕ
value_of (tells.Update r d u stable) = delta_of u.body
value_of (tells.Block s bytes number) = bytes
value_of (tells.Row s bytes stamp) = bytes
value_of _ = []

-- what stands before the value
abbrev pub body_before : Body → List ℕ
body_before (Put flags until r delta) = 0 ∷ four flags ++ maybe eight until ++ run r ++ four (length delta)
body_before Remove = 1 ∷ []
body_before (Touch until) = 2 ∷ maybe eight until

abbrev pub update_before : Update → List ℕ
update_before u = eight u.number ++ one u.caller ++ eight u.call ++ short u.key ++ body_before u.body

abbrev pub text_before : Message → List ℕ
text_before (tells.Update r d u stable) = 1 ∷ one r.0 ++ one d.0 ++ update_before u
text_before (tells.Block s bytes number) = 6 ∷ session s ++ four (length bytes)
text_before (tells.Row s bytes stamp) = 8 ∷ session s ++ four (length bytes)
text_before m = frame_body m

-- what stands behind it
abbrev pub text_behind : Message → List ℕ
text_behind (tells.Update r d u stable) = maybe run u.frees ++ outcome u.outcome ++ eight stable
text_behind (tells.Block s bytes number) = eight number
text_behind (tells.Row s bytes stamp) = one (length stamp) ++ flat_map eight stamp
text_behind _ = []
