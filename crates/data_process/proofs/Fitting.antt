-- A message that fits is one that comes to a data process.
use Rattle.std.proofs.Common.{sym, subst}
use Rattle.group_types.specs.Dimensions.{Dimensions}
use Rattle.group_types.specs.Names.{IsProcess}
use Rattle.group_types.specs.declared.process.ProcessId.{ProcessId}
use Rattle.group_message.specs.declared.message.Message.{Message}
use Rattle.group_message.specs.declared.message.Message.TheVariants as tells
use Rattle.group_run.specs.Fitting.{Fits, IsForData}
use Rattle.group_run.specs.Process.{Process}
use Rattle.data_process.specs.Steps.{ComesToData}

pub fitting-comes : (s : Dimensions) (from : ProcessId) (message : Message) (p : Process) → IsForData message
    → Fits s from message p → ComesToData s from message p
fitting-comes s from (tells.Ack r d n) p kind fits = (subst (λ (x : ProcessId). IsProcess s x) (sym fits.sender.1) fits.sender.2, fits.ranked.partition)
fitting-comes s from (tells.ReadBlock session block rows) p kind fits = fits.inside
fitting-comes s from (tells.Notice dead) p kind fits = (fits.1.process, fits.1.news)
fitting-comes s from (tells.Update r d u stable) p kind fits = absurd kind
fitting-comes s from (tells.Stable r d n) p kind fits = absurd kind
fitting-comes s from (tells.Adopt r d base list) p kind fits = absurd kind
fitting-comes s from (tells.Block session bytes n) p kind fits = absurd kind
fitting-comes s from (tells.Mark session r block d n) p kind fits = absurd kind
fitting-comes s from (tells.Row session bytes stamp) p kind fits = absurd kind
fitting-comes s from (tells.Cease upto) p kind fits = absurd kind
