use Rattle.std.proofs.Common.{◌≡◌, drop, find}
use Rattle.group_run.specs.Asking.{is_call}
use Rattle.head_service.proofs.held.look_up.Given as goal

abbrev pub invariant-held : goal.invariant-held
invariant-held l = find (is_call l.caller l.call) (drop l.one-index l.held) ≡ find (is_call l.caller l.call) l.held
