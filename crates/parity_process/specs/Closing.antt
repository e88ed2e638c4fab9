-- A leader that closes its sessions.
use Rattle.std.specs.Prelude.{List, [], ◌∷◌}
use Rattle.group_types.specs.Dimensions.{Dimensions}
use Rattle.group_message.specs.declared.message.Message.TheVariants as tells
use Rattle.group_run.specs.Applying.{Sent}
use Rattle.group_run.specs.Heading.{to_others}
use Rattle.group_run.specs.Leaders.{with_leader}
use Rattle.group_run.specs.Process.{Gathering, Process}
use Rattle.group_run.specs.Rows.{copies_ceased, parity_number}

-- what the rows are told, where these sessions are open
abbrev pub ceases_if : Dimensions → List Gathering → Process → List Sent
ceases_if s [] p = []
ceases_if s (g ∷ gs) p = to_others s p (tells.Cease p.as_leader.last_session)

-- the process without these sessions
abbrev pub closed_if : List Gathering → Process → Process
closed_if [] p = p
closed_if (g ∷ gs) p = copies_ceased (parity_number p.name) p.as_leader.last_session (with_leader (record p.as_leader { sessions = [] }) p)
