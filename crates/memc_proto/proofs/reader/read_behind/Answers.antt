use Rattle.std.proofs.Common.{List, [], ◌∷◌, ◌++◌, sym, ap, subst, ◌∙◌}
use Rattle.memc_proto.specs.Reader.{HasRead, ReaderState}
use Rattle.memc_proto.specs.declared.mode.Mode.TheVariants.{Ended}
use Rattle.memc_proto.specs.declared.request.Request.{Request}
use Rattle.memc_proto.proofs.Reading.{has_read-quit}
use Rattle.memc_proto.proofs.reader.read_behind.Goals as goal

pub returns-then-ends : goal.returns-then-ends
returns-then-ends c = λ input begins.
    subst (λ (k : ReaderState). HasRead k input c.push.new.self.items) (sym c.in_ok-keeping.ensures)
    (subst (λ (rs : List Request). HasRead (record { mode = Ended; front = [] }) input rs)
    (sym (c.in_ok-push.ensures.items ∙ ap (λ (rs : List Request). rs ++ c.args.first ∷ [])
    c.in_ok-requests.ensures.items))
    (has_read-quit [] c.args.first input c.args.text.now begins (sym c.if-ends.ensures)))
