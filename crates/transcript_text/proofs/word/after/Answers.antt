use Rattle.std.proofs.lemmas.Bool.Decides.{Decides-eqb}
use Rattle.std.proofs.lemmas.Slice.Eq.{strip_prefix_is}
use Rattle.transcript_text.proofs.Cuts.{behind-strip}
use Rattle.transcript_text.proofs.word.after.Goals as goal

pub returns : goal.returns
returns c = behind-strip c.args.front.now c.args.text.now c.strip_prefix.result
    (strip_prefix_is Decides-eqb c.args.text.now c.args.front.now c.strip_prefix.result c.strip_prefix.ensures.cases)
