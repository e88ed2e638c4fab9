use Rattle.std.proofs.Common.{Some, None, [], ◌∷◌}
use Rattle.std.proofs.lemmas.Bool.Decides.{Decides-eqb}
use Rattle.std.proofs.lemmas.Slice.Eq.{ends_is, strip_suffix_is}
use Rattle.transcript_text.proofs.Tests.{tells-no_reply, tells-reply}
use Rattle.transcript_text.proofs.name.tells.Goals as goal

pub returns-in-Some : goal.returns-in-Some
returns-in-Some c =
    let ends = ends_is Decides-eqb c.in-Some.front.now (32 ∷ []) c.ends_with.result c.ends_with.ensures.value in
    tells-reply c.args.rest.now c.args.reply.now c.in-Some.front.now c.ends_with.result
    (strip_suffix_is Decides-eqb c.args.rest.now c.args.reply.now (Some c.in-Some.front) c.in-Some.ensures.cases) ends.0 ends.1

pub returns-in-None : goal.returns-in-None
returns-in-None c = tells-no_reply c.args.rest.now c.args.reply.now (strip_suffix_is Decides-eqb c.args.rest.now c.args.reply.now None c.in-None.ensures.cases)
