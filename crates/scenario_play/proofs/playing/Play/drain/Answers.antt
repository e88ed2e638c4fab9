use Rattle.std.proofs.Common.{ℕ, ◌≡◌, ◌++◌, List, codes, ap, refl, subst, ◌∙◌}
use Rattle.std.specs.Fmt.{decimal}
use Rattle.group_calls.specs.Turns.{log_of}
use Rattle.group_run.specs.World.{World, turns_from}
use Rattle.scenario_text.specs.Texts.{entries_text}
use Rattle.scenario_run.specs.Playing.{Play, drained_text, draining_unless_down}
use Rattle.scenario_play.proofs.Delivering.{drained-is}
use Rattle.scenario_play.proofs.playing.Play.drain.Goals as goal

pub returns-clause-text : goal.returns-clause-text
returns-clause-text c =
    let w : World = c.self.inside.world in
    let count : ℕ = c.in_ok-count.count in
    subst (λ (v : World). c.write_count.new.text.items ≡ drained_text (turns_from v (draining_unless_down v))) (ap (λ (p : Play). p.world) c.self.view_is)
    (drained-is w (draining_unless_down w) count c.drain.new.text.items (codes "drained " ++ (decimal count ++ codes "\n"))
    c.write_count.new.text.items c.in_ok-count.ensures.count
    (c.in_ok-count.ensures.text ∙ ap (λ (xs : List ℕ). xs ++ entries_text (log_of (turns_from w (draining_unless_down w))))
    c.new-text.ensures.items) refl c.in_ok-write_count.ensures)
