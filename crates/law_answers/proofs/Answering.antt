-- The cause of each answer, event by event.
use Rattle.group_calls.specs.declared.event.Event.TheVariants.{Ask, Collect, Deliver, Fail, Flush, Trace}
use Rattle.law_answers.specs.Laws.{AnswersAlways}
use Rattle.law_answers.proofs.Asks.{asks_always}
use Rattle.law_answers.proofs.Traces.{traces_always}
use Rattle.law_answers.proofs.Walks.{collects_always, deliveries_always, failures_always, flushes_always}

pub answers_always : AnswersAlways
answers_always s es run (Ask caller op p) may = asks_always s es run caller op p may
answers_always s es run (Collect caller call p) may = collects_always s es run caller call p may
answers_always s es run (Deliver from to) may = deliveries_always s es run from to may
answers_always s es run (Fail p keep) may = failures_always s es run p keep may
answers_always s es run (Flush p) may = flushes_always s es run p may
answers_always s es run (Trace caller call d p) may = traces_always s es run caller call d p may
