use Rattle.std.proofs.Common.{ℕ, ◌≡◌, ◌-◌, ◌++◌, List, length, drop, ap, refl, subst, ◌∙◌}
use Rattle.group_run.specs.World.{World, step}
use Rattle.scenario_text.specs.Texts.{answer_text}
use Rattle.scenario_run.specs.Playing.{Play, turn_text}
use Rattle.scenario_play.proofs.Delivering.{last-of, marked-plain, turn-written}
use Rattle.scenario_play.proofs.playing.Play.make.Goals as goal

pub returns-clause-text : goal.returns-clause-text
returns-clause-text c =
    let w : World = c.self.inside.world in
    subst (λ (v : World). c.write_last.new.text.items ≡ turn_text (step v c.args.event).turn) (ap (λ (p : Play). p.world) c.self.view_is)
    (turn-written w c.args.event c.in_ok-out.out.answer (answer_text c.in_ok-out.out.answer) c.in_ok-text.text.items c.write_last.new.text.items
    (drop (length c.log.result.now - c.in_ok-out.out.logged) c.log.result.now) refl c.in_ok-out.ensures.answer
    c.in_ok-text.ensures (c.in_ok-write_last.ensures ∙ ap (λ (xs : List ℕ). c.in_ok-text.text.items ++ xs)
    (marked-plain (drop (length c.log.result.now - c.in_ok-out.out.logged) c.log.result.now)))
    (last-of w c.args.event c.make_event.new.world c.log.result.now c.in_ok-out.out.logged c.log.ensures.log
    c.in_ok-out.ensures.world c.in_ok-out.ensures.logged))
