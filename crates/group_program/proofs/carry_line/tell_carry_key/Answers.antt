use Rattle.std.proofs.Common.{length, inl, inr, sym, ap, subst, ◌∙◌, arith}
use Rattle.std.proofs.Math.Seq.{take-length}
use Rattle.edge_io.specs.Moving.{Appends}
use Rattle.edge_io.specs.Writing.{HasWritten}
use Rattle.scenario_play.specs.declared.status.Status.TheVariants.{BadConfig}
use Rattle.group_program.specs.Carrying.{carry_line}
use Rattle.group_program.proofs.carry_line.tell_carry_key.Goals as goal

pub returns-in-Ok-clause-told : goal.returns-in-Ok-clause-told
returns-in-Ok-clause-told g c =
    let line = carry_line c.args.key in
    let held = g.K.Sink.held c.args.sink.now in
    let held_now = g.K.Sink.held c.write_all.new.sink in
    let text = c.as_bytes.ensures.value ∙ c.carry_line.ensures in
    record {
      is = inl (ap BadConfig c.status_key.ensures);
      line = inr (record {
        count = length line;
        bytes = subst (Appends held held_now) (text ∙ sym (take-length line))
            c.in-Ok.ensures.whole;
        whole = inl (omega arith);
      });
      front = subst (HasWritten held held_now) text c.write_all.ensures.part;
    }
