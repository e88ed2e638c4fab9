use Rattle.std.proofs.Common.{length, inl, inr, refl, sym, subst, ◌∙◌, arith}
use Rattle.std.proofs.Math.Seq.{take-length}
use Rattle.edge_io.specs.Moving.{Appends}
use Rattle.edge_io.specs.Writing.{HasWritten}
use Rattle.scenario_play.specs.Status.{last_line}
use Rattle.scenario_play.proofs.tell.write_line.Goals as goal

pub returns-in-Ok-clause-line : goal.returns-in-Ok-clause-line
returns-in-Ok-clause-line g c =
    let line = last_line c.args.status in
    let held = Appends (g.K.Sink.held c.args.sink.now) (g.K.Sink.held c.write_all.new.sink) in
    inr (record { count = length line; bytes = subst held (c.requires ∙ sym (take-length line)) c.in-Ok.ensures.whole; whole = inl (omega arith) })

pub returns-in-Ok-clause-front : goal.returns-in-Ok-clause-front
returns-in-Ok-clause-front g c =
    record {
      said = c.args.status;
      whose = inl refl;
      written = subst (HasWritten (g.K.Sink.held c.args.sink.now) (g.K.Sink.held c.write_all.new.sink)) c.requires
          c.write_all.ensures.part;
    }

pub returns-in-Err-Failed-clause-front : goal.returns-in-Err-Failed-clause-front
returns-in-Err-Failed-clause-front g c =
    record {
      said = c.args.status;
      whose = inl refl;
      written = subst (HasWritten (g.K.Sink.held c.args.sink.now) (g.K.Sink.held c.write_all.new.sink)) c.requires
          c.write_all.ensures.part;
    }

pub returns-in-Err-Want-clause-front : goal.returns-in-Err-Want-clause-front
returns-in-Err-Want-clause-front g c =
    record {
      said = c.args.status;
      whose = inr refl;
      written = subst (HasWritten (g.K.Sink.held c.args.sink.now) (g.K.Sink.held c.write_all.new.sink)) c.requires
          c.write_all.ensures.part;
    }
