use Rattle.std.proofs.Common.{◌*◌, ◌+◌, ℕ, ap, ◌∙◌, rules}
use Rattle.group_stage.proofs.Starting.{opens, zeros_of}
use Rattle.group_stage.proofs.stage.Stage.laid.Goals as goal

pub new-requires : goal.new-requires
new-requires c = opens c.args.plan c.as_slice.result.now c.in_ok-slots.slots.items (record {
  limits = c.processes_of-count.ensures.limits;
  seats = c.requires.few;
  words = c.as_slice.ensures.value ∙ c.in_ok-words.ensures.items_if_clones_equal (search rules)
      ∙ ap zeros_of (ap (λ (n : ℕ). (n + 2) * 8) c.processes_of-count.ensures.value);
  long = c.in_ok-slots.ensures.long;
  home = c.in_ok-slots.ensures.home;
})
